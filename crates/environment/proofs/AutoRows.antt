-- The changes of a call that is a transaction of its own: what they leave of records, and of the own changes of others.
use mathlib.Core.Path.{fun_ext}
use Rattle.engine.proofs.CallEntries.{transaction_no_ends}
use Rattle.log_buffer.specs.Log.{HasLog}
use Rattle.log_file.specs.Log.{Log}
use Rattle.txn_log.proofs.Giving.{transaction_gives, transaction_on, still_gives}
use Rattle.log_buffer.specs.Flip.{pos_lsn}
use Rattle.log_trees.specs.Placed.{placed}
use Rattle.environment.proofs.Firsts.{is_begun, transaction_no_commit}
use Rattle.environment.proofs.Bases.{begun_with, lives_on}
use Rattle.std.proofs.Common.{◌≤◌, ◌≡◌, ◌≢◌, ◌∙◌, ℕ, suc, ◌+◌, ◌==◌, Bool, true, false, true≢false, cond, ◌&&◌, List, [], ◌∷◌, ◌++◌, find, map, reverse, Option, None, Some, is_some, is_eq, refl, ap, ap₂, sym, subst, inl, inr, ⊎_elim, arith}
use Rattle.std.specs.List.{AllByRecursion}
use Rattle.std.specs.Option.{option_or}
use Rattle.std.proofs.lemmas.Bool.{eqb-true, eq-eqb, and_parts}
use Rattle.std.proofs.lemmas.List.{reverse-append}
use Rattle.std.proofs.lemmas.List.Folds.{find-append}
use Rattle.std.proofs.lemmas.Option.{none-some}
use Rattle.je_disk.specs.DiskMeaning.{DiskMeaning}
use Rattle.je_disk.specs.Moments.{now}
use Rattle.je_order.specs.Order.{name_cmp}
use Rattle.je_order.specs.declared.name.Name.{Name}
use Rattle.je_order.specs.declared.txn_id.TxnId.{TxnId}
use Rattle.je_order.proofs.Lists.{all_weaker}
use Rattle.store_model.specs.declared.change.Change.{Change}
use Rattle.store_model.specs.declared.store.Store.{Store}
use Rattle.store_model.specs.Needs.{changed_name}
use Rattle.store_model.specs.Refusals.{made_by, next_txn}
use Rattle.store_model.specs.Store.{all_changed, store_after}
use Rattle.je_answers.specs.Standing.{Standing}
use Rattle.je_answers.specs.After.{committed as commits}
use Rattle.log_buffer.specs.declared.buffer.LogBuffer.{LogBuffer}
use Rattle.log_buffer.specs.Buffer.{disk_of, end_of}
use Rattle.log_buffer.specs.Growth.{longer}
use Rattle.log_replay.specs.Rows.{Rows, data_at, numbers_of, rows_changed, row_changed}
use Rattle.log_replay.specs.Logging.{number_named}
use Rattle.log_replay.proofs.StoreLaws.{row_changed-there}
use Rattle.record_map.specs.declared.write.Write.{Write}
use Rattle.record_map.specs.Cells.{value_at}
use Rattle.record_map.proofs.NameLaws.{same_or_other}
use Rattle.record_tree.specs.Logged.{LogsTransaction, is_change_of, last_change, value_changed}
use Rattle.record_tree.specs.Occupied.{AllCells, IsFreeFor, write_in}
use Rattle.record_tree.specs.declared.tree_change.TreeChange.{TreeChange}
use Rattle.in_tree.specs.Limits.{HasRoomFor, commit_sizes}
use Rattle.sessions.specs.AtStanding.{owing}
use Rattle.standing_laws.specs.Laws.{HasNoneOf, IsOnlyOf}
use Rattle.txn_core.specs.Known.{committed, has_number}
use Rattle.txn_core.specs.Planning.{row_by}
use Rattle.txn_core.specs.Transactions.{LeavesWrites, is_gone}
use Rattle.txn_log.specs.Own.{AreFreeNames, OwnChange, has_own, row_of}
use Rattle.txn_log.specs.AtStanding.{IsLogAt}
use Rattle.txn_log.specs.Buffers.{HasAdded, MayCommit}
use Rattle.txn_log.specs.Committing.{MayBeCommitted}
use Rattle.txn_log.specs.Gives.{GivesRecordsWith}
use Rattle.txn_log.proofs.AtStandingLaws.{same_under, transaction_leaves_log}
use Rattle.txn_log.proofs.BufferLaws.{commit_is_recovered, transaction_is_given}
use Rattle.txn_log.proofs.CountLaws.{had_stay}
use Rattle.txn_log.proofs.OwnLaws.{none_is_last}
use Rattle.txn_log.proofs.StayingLaws.{may_stay}
use Rattle.txn_views.specs.Seen.{HasWrites, IsWriteOf, last_own}
use Rattle.txn_views.proofs.OwnLaws.{none-is_last}
use Rattle.engine.specs.Contents.{rows_after}
use Rattle.engine.proofs.CatalogLogs.{numbers_alike}
use Rattle.engine.proofs.PlannedRows.{ArePlanned, LeavesRows, eqb-turned, planned_rows}
use Rattle.engine.proofs.TxnGives.{leaves_records}
use Rattle.environment.specs.declared.written.OwnNames.{OwnNames}
use Rattle.environment.specs.Valid.{IsValidWith, active_number, Forest, Lives}
use Rattle.environment.specs.Written.{AreNamesOf}
use Rattle.environment.proofs.AutoLaws.{own_gone}

-- ---- names that nobody else has changed

abbrev pub AreOnly : ℕ → (ℕ → List OwnChange) → List TreeChange → Type 0
AreOnly txn own planned = AllByRecursion (λ c. IsOnlyOf c.db c.name txn own) planned

one_change : (d : ℕ) (x : Name) (c : TreeChange) (cs : List TreeChange) → last_change d x (c ∷ cs) ≡ option_or (last_change d x cs) (cond (is_change_of d x c) (Some c) None)
one_change d x c cs = ap (find (is_change_of d x)) (reverse-append (c ∷ []) cs) ∙ find-append (is_change_of d x) (reverse cs) (c ∷ [])

-- a name that they change has no change of another transaction
none_there : (c : TreeChange) (d : ℕ) (x : Name) (own : List OwnChange) → is_change_of d x c ≡ true → HasNoneOf c.db c.name own → last_own d x own ≡ None
none_there c d x own is none =
    let parts = and_parts (c.db == d) (is_eq (name_cmp c.name x)) is in
    let db : c.db ≡ d = eqb-true c.db d parts.0 in
    let name : c.name ≡ x = ⊎_elim (λ (e : c.name ≡ x). e) (λ (e : is_eq (name_cmp c.name x) ≡ false). absurd (true≢false (sym parts.1 ∙ e))) (same_or_other c.name x) in
    subst (λ (n : ℕ). last_own n x own ≡ None) db (subst (λ (y : Name). last_own c.db y own ≡ None) name (none-is_last c.db c.name own none))

pub last_other : (planned : List TreeChange) (txn t d : ℕ) (x : Name) (own : ℕ → List OwnChange) → AreOnly txn own planned → (t ≡ txn → ⊥) → is_some (last_change d x planned) ≡ true → last_own d x (own t) ≡ None
last_other [] txn t d x own only other some = absurd (true≢false (sym some))
last_other (c ∷ cs) txn t d x own only other some = by_rest (last_change d x cs) (is_change_of d x c) refl refl (sym (ap is_some (one_change d x c cs)) ∙ some) (last_other cs txn t d x own only.1 other)
  where
    by_rest : (o : Option TreeChange) (b : Bool) → last_change d x cs ≡ o → is_change_of d x c ≡ b → is_some (option_or o (cond b (Some c) None)) ≡ true → (is_some (last_change d x cs) ≡ true → last_own d x (own t) ≡ None) → last_own d x (own t) ≡ None
    by_rest (Some e) b is its h rest = rest (ap is_some is)
    by_rest None true is its h rest = none_there c d x (own t) its (only.0 t other)
    by_rest None false is its h rest = absurd (true≢false (sym h))

-- and another transaction's change is of no name that they change
no_last : (planned : List TreeChange) (e : OwnChange) → AllByRecursion (λ p. ((e.0 == p.db) && is_eq (name_cmp p.name (changed_name e.1))) ≡ false) planned → last_change e.0 (changed_name e.1) planned ≡ None
no_last [] e none = refl
no_last (p ∷ ps) e none =
    one_change e.0 (changed_name e.1) p ps
    ∙ ap₂ (λ (o : Option TreeChange) (b : Bool). option_or o (cond b (Some p) None)) (no_last ps e none.1)
    (ap (λ (b : Bool). b && is_eq (name_cmp p.name (changed_name e.1))) (eqb-turned e.0 p.db (e.0 == p.db) refl) ∙ none.0)

same_data : (rows later : Rows) (planned : List TreeChange) (own : List OwnChange) →
    ((d : ℕ) (x : Name) → data_at x (later d) ≡ value_changed (last_change d x planned) (data_at x (rows d))) → AllByRecursion (λ p. HasNoneOf p.db p.name own) planned →
    AllByRecursion (λ (c : OwnChange). data_at (row_of c).name (later c.0) ≡ data_at (row_of c).name (rows c.0)) own
same_data rows later planned [] is none = tt
same_data rows later planned (c ∷ own) is none = (
  is c.0 (changed_name c.1)
      ∙ ap (λ (o : Option TreeChange). value_changed o (data_at (changed_name c.1) (rows c.0)))
      (no_last planned c (all_weaker (λ (p : TreeChange). HasNoneOf p.db p.name (c ∷ own)) (λ p. ((c.0 == p.db) && is_eq (name_cmp p.name (changed_name c.1))) ≡ false) (λ p h. h.0) planned none)),
  same_data rows later planned own is (all_weaker (λ (p : TreeChange). HasNoneOf p.db p.name (c ∷ own)) (λ p. HasNoneOf p.db p.name own) (λ p h. h.1) planned none),
)

free_of : (d : ℕ) (x : Name) (txn : TxnId) (own : ℕ → List OwnChange) (o : Option Write) → IsWriteOf d x own o → ((t : ℕ) → (t ≡ txn.0 → ⊥) → last_own d x (own t) ≡ None) → IsFreeFor txn o
free_of d x txn own None is free = tt
free_of d x txn own (Some w) is free = by_test (w.txn.0 == txn.0) refl
  where
    by_test : (b : Bool) → (w.txn.0 == txn.0) ≡ b → w.txn ≡ txn
    by_test true e = ap (λ (n : ℕ). let t : TxnId = record { 0 = n } in t) (eqb-true w.txn.0 txn.0 e)
    by_test false e = absurd (none-some is.change (sym (sym is.last ∙ free w.txn.0 (λ same. true≢false (sym (eq-eqb w.txn.0 txn.0 same) ∙ e)))))

-- so they may be logged
pub all_free : (cells : AllCells) (own : ℕ → List OwnChange) (txn : TxnId) (planned : List TreeChange) → HasWrites cells own → AreOnly txn.0 own planned →
    AllByRecursion (λ c. IsFreeFor txn (write_in (value_at c.name (cells c.db)))) planned
all_free cells own txn planned writes only =
    all_weaker (λ (c : TreeChange). IsOnlyOf c.db c.name txn.0 own) (λ c. IsFreeFor txn (write_in (value_at c.name (cells c.db))))
    (λ c free. free_of c.db c.name txn own (write_in (value_at c.name (cells c.db))) (writes c.db c.name) (λ t other. none-is_last c.db c.name (own t) (free t other))) planned only

free_names : (is_active : ℕ → Bool) (own : ℕ → List OwnChange) (t : ℕ) (planned : List TreeChange) → AreOnly t own planned → AreFreeNames is_active own t planned
free_names is_active own t planned only =
    all_weaker (λ (c : TreeChange). IsOnlyOf c.db c.name t own) (λ c. (u : ℕ) → is_active u ≡ true → u ≢ t → has_own c.db c.name (own u) ≡ false)
    (λ c free u active other. none_is_last c.db c.name (own u) (none-is_last c.db c.name (own u) (free u other))) planned only

-- ---- the catalog stays

pub stays : (planned : List TreeChange) (rows : Rows) → AllByRecursion (λ c. c.db ≢ 0) planned → rows_changed (map (row_by 0) planned) rows 0 ≡ rows 0
stays [] rows above = refl
stays (c ∷ cs) rows above = stays cs (row_changed (row_by 0 c) rows) above.1 ∙ row_changed-there (row_by 0 c) rows 0 (λ e. above.0 (sym e))

store_more : (base : Store) (transactions : List (List Change)) (own : List Change) → store_after base (transactions ++ own ∷ []) ≡ all_changed own (store_after base transactions)
store_more base [] own = refl
store_more base (changes ∷ transactions) own = store_more (all_changed changes base) transactions own

-- ---- a valid environment goes on

module _ (rows : Rows) (st : Standing) (t : TxnId) (change : Change) (more : List Change) (planned : List TreeChange) (are : ArePlanned rows st.last_db change more planned None)
    (above : AllByRecursion (λ (c : TreeChange). c.db ≢ 0) planned) (only : AreOnly t.0 st.own planned) (none : st.own t.0 ≡ []) (next : t.0 ≡ st.last_txn + 1) where
  abbrev Later : Rows
  Later = rows_after planned None rows

  leaves : LeavesRows rows Later st.last_db (change ∷ more) planned None
  leaves = planned_rows rows st.last_db change more planned None are

  pub may_commit : MayCommit st.last_txn (active_number st.actives) st.own rows Later st.last_db (st.last_db + made_by (change ∷ more)) (λ d. is_gone d None) t [] planned
  may_commit = record {
    has = inr (omega (arith, next), refl);
    free = free_names (active_number st.actives) st.own t.0 planned only;
    leaves = leaves_records rows Later st.last_db (change ∷ more) planned None leaves;
  }

  pub store_is : Rattle.log_replay.specs.Rows.store_of Later ≡ all_changed (change ∷ more) (Rattle.log_replay.specs.Rows.store_of rows)
  store_is = leaves.store

  each_other : (P : ℕ → Type 0) → P t.0 → ((u : ℕ) → (u ≡ t.0 → ⊥) → P u) → (u : ℕ) → P u
  each_other P its other u = by_test (u == t.0) refl
    where
      by_test : (b : Bool) → (u == t.0) ≡ b → P u
      by_test true e = subst P (sym (eqb-true u t.0 e)) its
      by_test false e = other u (λ same. true≢false (sym (eq-eqb u t.0 same) ∙ e))

  writes_later : (cells later : AllCells) → HasWrites cells st.own → LeavesWrites planned None cells later → HasWrites later st.own
  writes_later cells later writes left d x = subst (IsWriteOf d x st.own) (sym (left d x)) (by_some (is_some (last_change d x planned)) refl)
    where
      by_some : (b : Bool) → is_some (last_change d x planned) ≡ b → IsWriteOf d x st.own (cond b None (write_in (value_at x (cells d))))
      by_some true e = each_other (λ u. last_own d x (st.own u) ≡ None) (ap (last_own d x) none) (λ u other. last_other planned t.0 u d x st.own only other e)
      by_some false e = writes d x

  names_later : (entries : List (TxnId × OwnNames)) → AreNamesOf entries st.own rows → AreNamesOf entries st.own Later
  names_later entries names = record {
    names = names.names;
    had = λ u. names.had u ∙ sym (had_stay rows Later (st.own u)
        (each_other (λ u. AllByRecursion (λ (c : OwnChange). data_at (row_of c).name (Later c.0) ≡ data_at (row_of c).name (rows c.0)) (st.own u))
        (subst (AllByRecursion (λ (c : OwnChange). data_at (row_of c).name (Later c.0) ≡ data_at (row_of c).name (rows c.0))) (sym none) tt)
        (λ u other. same_data rows Later planned (st.own u) (λ d x. leaves.data_is d x refl)
        (all_weaker (λ (c : TreeChange). IsOnlyOf c.db c.name t.0 st.own) (λ c. HasNoneOf c.db c.name (st.own u)) (λ c free. free u other) planned only)) u));
  }

  module _ {D : Type 0} (meaning : DiskMeaning D) where
    pub lone_valid : (old new : LogBuffer D) (cells later : AllCells) (has_tree later_tree : ℕ → Bool) (forest later_forest : Forest) (since later_since : ℕ) (written : List (TxnId × OwnNames)) → rows ≡ committed cells → next_txn st.last_txn ≡ st.last_txn + 1 →
        IsValidWith meaning.observable (now (meaning.history (disk_of old))) old cells has_tree forest since written st → (a : HasAdded meaning old new (LogsTransaction t planned)) →
        ((log : Log) (base : ℕ) → HasLog meaning.observable (now (meaning.history (disk_of old))) old log → base ≤ pos_lsn (end_of old) → forest (placed log) base → later_forest (placed (longer old a.entries log)) base) → later_since ≡ since →
        committed later ≡ Later → LeavesWrites planned None cells later → ((db : ℕ) → later_tree db ≡ has_number (numbers_of (committed later)) db) → ((n : ℕ) → owing st ≡ suc n → HasRoomFor new (commit_sizes (suc n))) →
        IsValidWith meaning.observable (now (meaning.history (disk_of new))) new later later_tree later_forest later_since written (commits (change ∷ more) (record st { last_txn = next_txn st.last_txn }))
    unfolding transaction_leaves_log transaction_is_given transaction_gives transaction_on still_gives
    lone_valid old new cells later has_tree later_tree forest later_forest since later_since written rows_are step v a carries since_is later_are writes made room =
        let after : Standing = commits (change ∷ more) (record st { last_txn = next_txn st.last_txn }) in
        let at : IsLogAt meaning old v.log rows (active_number st.actives) st = subst (λ (r : Rows). IsLogAt meaning old v.log r (active_number st.actives) st) (sym rows_are)
        (record { given = record { has = v.has; gives = v.gives }; makes = v.makes; may = v.may }) in
        let catalog : Later 0 ≡ rows 0 = stays planned rows above in
        let on : IsLogAt meaning new (longer old a.entries v.log) Later (active_number st.actives) after =
        transaction_leaves_log meaning old new v.log rows Later (active_number st.actives) (active_number st.actives) st after (λ d. is_gone d None) t [] planned (change ∷ more) at may_commit
        leaves.store
        (λ name. ap (λ (f : List ℕ → ℕ). f name) (leaves.numbers ∙ numbers_alike (change ∷ more) st.last_db (number_named rows) st.numbers (fun_ext at.makes.named)))
        (λ u. all_weaker (MayBeCommitted rows) (MayBeCommitted Later) (λ c m. may_stay rows Later c catalog m) (st.own u) (at.may u))
        a (record { store = refl; numbers = refl; last_db = refl }) (omega (arith, step))
        (λ u is. inl (is, ap (λ (f : ℕ → List OwnChange). f u) (sym (own_gone t.0 st.own none)))) in
        let lives = subst (Lives later_forest (longer old a.entries v.log) later_since (pos_lsn (end_of new)) written)
        (sym (same_under (λ (r : Rows). GivesRecordsWith (longer old a.entries v.log) (end_of new) r after.last_txn after.last_db (active_number st.actives) st.own) (λ r g. g.base) (sym later_are) on.given.gives
        ∙ same_under (λ (r : Rows). IsLogAt meaning old v.log r (active_number st.actives) st) (λ r (l : IsLogAt meaning old v.log r (active_number st.actives) st). l.given.gives.base) (sym rows_are)
        (record { given = record { has = v.has; gives = v.gives }; makes = v.makes; may = v.may })))
        (subst (λ (n : ℕ). Lives later_forest (longer old a.entries v.log) n (pos_lsn (end_of new)) written v.gives.base) (sym since_is)
        (lives_on meaning old new v.log a.entries later_forest since v.gives.base written v.has a.grew (transaction_no_ends t planned a.entries a.logs)
        (carries v.log v.gives.base v.has (begun_with v.log (end_of old) (committed cells) st.last_txn st.last_db (active_number st.actives) st.own v.gives) v.fits) v.from
        (λ u named. transaction_no_commit u t planned a.entries (λ same. is_begun v.log (end_of old) (committed cells) st.last_txn st.last_db (active_number st.actives) st.own v.gives written (pos_lsn (end_of old)) u v.firsts named (omega (arith, next, same))) a.logs) v.firsts)) in
        record {
          log = longer old a.entries v.log;
          has = on.given.has;
          works = a.grew.failed ∙ v.works;
          gives = subst (λ (r : Rows). GivesRecordsWith (longer old a.entries v.log) (end_of new) r after.last_txn after.last_db (active_number st.actives) st.own) (sym later_are) on.given.gives;
          recovers = record {
            first = v.recovers.first;
            opening = v.recovers.opening;
            base = v.recovers.base;
            transactions = v.recovers.transactions ++ (change ∷ more) ∷ [];
            recovers = commit_is_recovered meaning old new v.log rows Later st.last_txn st.last_db (st.last_db + made_by (change ∷ more)) (active_number st.actives) st.own (λ d. is_gone d None)
                t [] planned (change ∷ more) v.recovers.first v.recovers.opening v.recovers.base v.recovers.transactions at.given may_commit leaves.store a v.recovers.recovers;
            made = store_more v.recovers.opening v.recovers.transactions (change ∷ more) ∙ ap (all_changed (change ∷ more)) v.recovers.made;
          };
          makes = subst (λ (r : Rows). Rattle.txn_log.specs.Committing.MakesStore r after.last_db after) (sym later_are) on.makes;
          writes = writes_later cells later v.writes writes;
          may = subst (λ (r : Rows). (u : ℕ) → AllByRecursion (MayBeCommitted r) (st.own u)) (sym later_are) on.may;
          made = made;
          room = room;
          names = subst (AreNamesOf written st.own) (sym later_are) (names_later written (subst (AreNamesOf written st.own) (sym rows_are) v.names));
          fits = lives.fits;
          from = lives.from;
          firsts = lives.firsts;
        }
