-- A valid environment goes on by a change of the catalog.
use Rattle.engine.proofs.CallEntries.{transaction_no_ends}
use Rattle.std.proofs.Common.{◌≡◌, ◌≢◌, inl, inr, ℕ, suc, ◌+◌, ◌≤◌, ◌==◌, Bool, true, false, true≢false, cond, ◌&&◌, ◌||◌, List, [], ◌∷◌, find, reverse, Option, None, Some, is_some, is_eq, refl, ap, sym, ◌∙◌, subst, arith}
use Rattle.log_buffer.specs.Log.{HasLog}
use Rattle.log_file.specs.Log.{Log}
use Rattle.txn_log.proofs.Giving.{transaction_gives, transaction_on, still_gives}
use Rattle.txn_log.proofs.BufferLaws.{transaction_is_given}
use Rattle.log_buffer.specs.Flip.{pos_lsn}
use Rattle.log_trees.specs.Placed.{placed}
use Rattle.environment.proofs.Firsts.{is_begun, transaction_no_commit}
use Rattle.environment.proofs.Bases.{begun_with, lives_on}
use Rattle.txn_log.proofs.AtStandingLaws.{same_under, transaction_leaves_log}
use Rattle.std.specs.List.{AllByRecursion, list_any}
use Rattle.std.specs.Option.{option_or}
use Rattle.std.proofs.lemmas.Bool.{cond-false, eqb-true, ne_eqb}
use Rattle.std.proofs.lemmas.List.{reverse-append}
use Rattle.std.proofs.lemmas.List.Folds.{find-append}
use Rattle.je_disk.specs.DiskMeaning.{DiskMeaning}
use Rattle.je_disk.specs.Moments.{now}
use Rattle.je_order.specs.Order.{name_cmp}
use Rattle.je_order.specs.Transactions.{is_same_txn}
use Rattle.je_order.specs.declared.name.Name.{Name}
use Rattle.je_order.specs.declared.txn_id.TxnId.{TxnId}
use Rattle.je_order.proofs.Lists.{all_weaker}
use Rattle.record_map.specs.Cells.{value_at}
use Rattle.record_tree.specs.Logged.{LogsTransaction, is_change_of, last_change, value_changed}
use Rattle.record_tree.specs.Occupied.{AllCells, write_in}
use Rattle.record_tree.specs.declared.tree_change.TreeChange.{TreeChange}
use Rattle.store_model.specs.declared.change.Change.{Change}
use Rattle.store_model.specs.declared.change.Change.TheVariants.{Set, Unset, Make, MakeIndex, Remove, Rename, Empty}
use Rattle.je_answers.specs.declared.active.Active.{Active}
use Rattle.je_answers.specs.Alone.{committed_alone, drawn_alone}
use Rattle.je_answers.specs.Standing.{Standing, with_at}
use Rattle.store_model.specs.Refusals.{next_txn}
use Rattle.je_answers.specs.Views.{of_db}
use Rattle.log_buffer.specs.declared.buffer.LogBuffer.{LogBuffer}
use Rattle.log_buffer.specs.Buffer.{disk_of, end_of}
use Rattle.log_buffer.specs.Growth.{longer}
use Rattle.log_replay.specs.Logging.{row_changes}
use Rattle.log_replay.specs.Rows.{Rows, data_at, numbers_of, rows_changed}
use Rattle.in_tree.specs.Limits.{HasRoomFor, commit_sizes}
use Rattle.sessions.specs.AtStanding.{owing}
use Rattle.standing_laws.specs.Right.{AreNumbered, is_active, txn_id}
use Rattle.txn_core.specs.Known.{committed, has_number}
use Rattle.txn_core.specs.Planning.{gone_by}
use Rattle.txn_core.specs.Transactions.{LeavesWrites, is_gone}
use Rattle.txn_log.specs.Own.{OwnChange, row_of}
use Rattle.txn_log.specs.AtStanding.{IsLogAt}
use Rattle.txn_log.specs.Buffers.{HasAdded}
use Rattle.txn_log.specs.Committing.{IsElsewhere, MakesStore, MayBeCommitted}
use Rattle.txn_log.specs.Gives.{GivesRecordsWith}
use Rattle.txn_log.proofs.CountLaws.{had_stay}
use Rattle.txn_views.specs.Seen.{HasWrites, IsWriteOf, last_own}
use Rattle.txn_views.proofs.OwnLaws.{none_in}
use Rattle.engine.specs.Contents.{rows_after}
use Rattle.engine.specs.Environment.{RecoversStore}
use Rattle.engine.proofs.CatalogLogs.{AreApart, changes_leave_log}
use Rattle.engine.proofs.PlannedRows.{ArePlanned, LeavesRows, planned_rows}
use Rattle.environment.specs.declared.written.OwnNames.{OwnNames}
use Rattle.environment.specs.Valid.{IsValidWith, active_number, Forest, Lives}
use Rattle.environment.specs.Written.{AreNamesOf}
use Rattle.environment.proofs.CatalogStanding.{alone_of, with_alone}

-- ---- a transaction number

pub low : (last n : ℕ) (actives : List Active) → AreNumbered last actives → is_active (txn_id n) actives ≡ true → n ≤ last
low last n [] numbers is = absurd (true≢false (sym is))
low last n (a ∷ actives) numbers is = by (is_same_txn (txn_id n) a.txn) refl is (low last n actives numbers.2)
  where
    by : (b : Bool) → is_same_txn (txn_id n) a.txn ≡ b → (b || list_any (λ (c : Active). is_same_txn (txn_id n) c.txn) actives) ≡ true → (is_active (txn_id n) actives ≡ true → n ≤ last) → n ≤ last
    by true e h rest = let same = eqb-true n a.txn.0 e in let first = numbers.0 in omega (arith, same, first)
    by false e h rest = rest h

-- ---- own changes elsewhere

stays_there : (rows : Rows) (change : Change) (d : ℕ) → IsElsewhere rows change d → is_gone d (gone_by rows change) ≡ false
stays_there rows (Remove db) d other = ne_eqb d _ (λ e. other (sym e))
stays_there rows (Empty db) d other = ne_eqb d _ (λ e. other (sym e))
stays_there rows (Rename db to) d other = refl
stays_there rows (Make db kind) d other = refl
stays_there rows (MakeIndex db index) d other = refl
stays_there rows (Set db at value) d other = refl
stays_there rows (Unset db at) d other = refl

pub none_of : (d : ℕ) (own : List OwnChange) → AllByRecursion (λ (c : OwnChange). c.0 ≢ d) own → of_db d own ≡ []
none_of d [] other = refl
none_of d (c ∷ own) other = cond-false (c.0 == d) (c.1 ∷ of_db d own) (of_db d own) (ne_eqb c.0 d other.0) ∙ none_of d own other.1

-- what is so of each change's database is so of that of a name that is changed
of_changed : (P : ℕ → Type 0) (d : ℕ) (x : Name) (planned : List TreeChange) → AllByRecursion (λ (c : TreeChange). P c.db) planned → is_some (last_change d x planned) ≡ true → P d
of_changed P d x [] all some = absurd (true≢false (sym some))
of_changed P d x (c ∷ cs) all some = by (c.db == d) refl (of_changed P d x cs all.1)
  where
    last_is : last_change d x (c ∷ cs) ≡ option_or (last_change d x cs) (cond ((c.db == d) && is_eq (name_cmp c.name x)) (Some c) None)
    last_is = ap (find (is_change_of d x)) (reverse-append (c ∷ []) cs) ∙ find-append (is_change_of d x) (reverse cs) (c ∷ [])

    by : (b : Bool) → (c.db == d) ≡ b → (is_some (last_change d x cs) ≡ true → P d) → P d
    by true e later = subst P (eqb-true c.db d e) all.0
    by false e later = later (sym (ap is_some (last_is ∙ ap (λ (t : Bool). option_or (last_change d x cs) (cond (t && is_eq (name_cmp c.name x)) (Some c) None)) e) ∙ same (last_change d x cs)) ∙ some)
      where
        same : (o : Option TreeChange) → is_some (option_or o None) ≡ is_some o
        same None = refl
        same (Some y) = refl

module _ (rows : Rows) (change : Change) (planned : List TreeChange) (gone : Option ℕ) (own : ℕ → List OwnChange) (gone_is : gone ≡ gone_by rows change)
    (apart : AreApart own planned) (elsewhere : (u : ℕ) → AllByRecursion (λ (c : OwnChange). IsElsewhere rows change c.0) (own u)) where
  stay_all : (l : List OwnChange) → AllByRecursion (λ (c : OwnChange). IsElsewhere rows change c.0) l → AllByRecursion (λ (c : OwnChange). is_gone c.0 gone ≡ false) l
  stay_all = all_weaker (λ (c : OwnChange). IsElsewhere rows change c.0) (λ c. is_gone c.0 gone ≡ false) (λ c other. ap (is_gone c.0) gone_is ∙ stays_there rows change c.0 other)

  -- nobody changed a name of the database that goes, nor one that the plan changes
  none_gone : (d : ℕ) (x : Name) → is_gone d gone ≡ true → (t : ℕ) → last_own d x (own t) ≡ None
  none_gone d x goes t = none_in d x (own t) (none_of d (own t)
      (all_weaker (λ (c : OwnChange). is_gone c.0 gone ≡ false) (λ c. c.0 ≢ d) (λ c stays e. true≢false (sym goes ∙ ap (λ (n : ℕ). is_gone n gone) (sym e) ∙ stays)) (own t) (stay_all (own t) (elsewhere t))))

  none_changed : (d : ℕ) (x : Name) → is_some (last_change d x planned) ≡ true → (t : ℕ) → last_own d x (own t) ≡ None
  none_changed d x some t = none_in d x (own t) (none_of d (own t) (of_changed (λ n. (u : ℕ) → AllByRecursion (λ (c : OwnChange). c.0 ≢ n) (own u)) d x planned apart some t))

  -- an own change's name is not changed
  unchanged : (l : List OwnChange) → ((d : ℕ) (x : Name) → is_some (last_change d x planned) ≡ true → AllByRecursion (λ (c : OwnChange). c.0 ≢ d) l) → AllByRecursion (λ (c : OwnChange). last_change c.0 (row_of c).name planned ≡ None) l
  unchanged [] others = tt
  unchanged (c ∷ l) others = (by (last_change c.0 (row_of c).name planned) refl, unchanged l (λ d x some. (others d x some).1))
    where
      by : (o : Option TreeChange) → last_change c.0 (row_of c).name planned ≡ o → o ≡ None
      by None e = refl
      by (Some p) e = absurd ((others c.0 (row_of c).name (ap is_some e)).0 refl)

  pub writes_after : (cells later : AllCells) → HasWrites cells own → LeavesWrites planned gone cells later → HasWrites later own
  writes_after cells later writes leaves d x = subst (IsWriteOf d x own) (sym (leaves d x)) (by_gone (is_gone d gone) refl)
    where
      by_some : (b : Bool) → is_some (last_change d x planned) ≡ b → IsWriteOf d x own (cond b None (write_in (value_at x (cells d))))
      by_some true e = none_changed d x e
      by_some false e = writes d x

      by_gone : (b : Bool) → is_gone d gone ≡ b → IsWriteOf d x own (cond b None (cond (is_some (last_change d x planned)) None (write_in (value_at x (cells d)))))
      by_gone true e = none_gone d x e
      by_gone false e = by_some (is_some (last_change d x planned)) refl

  -- and the records under the names of own changes stay
  same_data : (later : Rows) → ((d : ℕ) (x : Name) → is_gone d gone ≡ false → data_at x (later d) ≡ value_changed (last_change d x planned) (data_at x (rows d))) → (l : List OwnChange) →
      AllByRecursion (λ (c : OwnChange). IsElsewhere rows change c.0) l → AllByRecursion (λ (c : OwnChange). last_change c.0 (row_of c).name planned ≡ None) l →
      AllByRecursion (λ (c : OwnChange). data_at (row_of c).name (later c.0) ≡ data_at (row_of c).name (rows c.0)) l
  same_data later is [] other none = tt
  same_data later is (c ∷ l) other none = (
    is c.0 (row_of c).name (ap (is_gone c.0) gone_is ∙ stays_there rows change c.0 other.0) ∙ ap (λ (o : Option TreeChange). value_changed o (data_at (row_of c).name (rows c.0))) none.0,
    same_data later is l other.1 none.1,
  )

  pub names_after : (later : Rows) (entries : List (TxnId × OwnNames)) → ((d : ℕ) (x : Name) → is_gone d gone ≡ false → data_at x (later d) ≡ value_changed (last_change d x planned) (data_at x (rows d))) →
      AreNamesOf entries own rows → AreNamesOf entries own later
  names_after later entries is names = record {
    names = names.names;
    had = λ t. names.had t ∙ sym (had_stay rows later (own t) (same_data later is (own t) (elsewhere t) (unchanged (own t) (λ d x some. of_changed (λ n. (u : ℕ) → AllByRecursion (λ (c : OwnChange). c.0 ≢ n) (own u)) d x planned apart some t))));
  }

-- ---- a valid environment

module _ {D : Type 0} (meaning : DiskMeaning D) where
  -- a change was logged with its Commit
  pub logged_valid : (old new : LogBuffer D) (cells later : AllCells) (has_tree later_tree : ℕ → Bool) (forest later_forest : Forest) (since later_since : ℕ) (written : List (TxnId × OwnNames)) (st after : Standing) (t : TxnId) (change : Change) (more : List Change)
      (planned : List TreeChange) (gone : Option ℕ) (v : IsValidWith meaning.observable (now (meaning.history (disk_of old))) old cells has_tree forest since written st) →
      ArePlanned (committed cells) st.last_db change more planned gone → rows_after planned gone (committed cells) 0 ≡ rows_changed (row_changes 0 st.last_db change (committed cells)) (committed cells) 0 →
      AreApart st.own planned → AreNumbered st.last_txn st.actives → next_txn st.last_txn ≡ st.last_txn + 1 → t.0 ≡ st.last_txn + 1 →
      ((u : ℕ) → AllByRecursion (λ (c : OwnChange). IsElsewhere (committed cells) change c.0) (st.own u)) →
      (a : HasAdded meaning old new (LogsTransaction t planned)) →
      ((log : Log) (base : ℕ) → HasLog meaning.observable (now (meaning.history (disk_of old))) old log → base ≤ pos_lsn (end_of old) → forest (placed log) base → later_forest (placed (longer old a.entries log)) base) → later_since ≡ since →
      committed later ≡ rows_after planned gone (committed cells) → LeavesWrites planned gone cells later → ((db : ℕ) → later_tree db ≡ has_number (numbers_of (committed later)) db) →
      ((n : ℕ) → owing st ≡ suc n → HasRoomFor new (commit_sizes (suc n))) → RecoversStore (longer old a.entries v.log) after.store →
      after ≡ with_alone (committed_alone (change ∷ more) (drawn_alone (alone_of st))) st →
      IsValidWith meaning.observable (now (meaning.history (disk_of new))) new later later_tree later_forest later_since written after
  unfolding changes_leave_log transaction_leaves_log transaction_is_given transaction_gives transaction_on still_gives
  logged_valid old new cells later has_tree later_tree forest later_forest since later_since written st after t change more planned gone v are catalog apart numbers step next elsewhere a carries since_is rows_are writes made room recovers after_is =
      let rows : Rows = committed cells in
      let leaves : LeavesRows rows (rows_after planned gone rows) st.last_db (change ∷ more) planned gone = planned_rows rows st.last_db change more planned gone are in
      let at : IsLogAt meaning old v.log rows (active_number st.actives) st = record { given = record { has = v.has; gives = v.gives }; makes = v.makes; may = v.may } in
      let own_is : after.own ≡ st.own = ap (λ (s : Standing). s.own) after_is in
      let actives_is : after.actives ≡ st.actives = ap (λ (s : Standing). s.actives) after_is in
      let last_is : after.last_txn ≡ st.last_txn + 1 = ap (λ (s : Standing). s.last_txn) after_is ∙ step in
      let on : IsLogAt meaning new (longer old a.entries v.log) (rows_after planned gone rows) (active_number st.actives) after =
      changes_leave_log meaning old new v.log rows (active_number st.actives) (active_number st.actives) st after t change more planned gone at are
      (inr (omega (arith, next), refl)) catalog apart
      (subst (λ (own : ℕ → List OwnChange). (u : ℕ) → AllByRecursion (λ (c : OwnChange). IsElsewhere rows change c.0) (own u)) (sym own_is) elsewhere)
      (subst (λ (own : ℕ → List OwnChange). (u : ℕ) → AllByRecursion (MayBeCommitted rows) (own u)) (sym own_is) v.may)
      a (record { store = ap (λ (s : Standing). s.store) after_is; numbers = ap (λ (s : Standing). s.numbers) after_is; last_db = ap (λ (s : Standing). s.last_db) after_is }) (omega (arith, last_is))
      (λ u is. inl (is, ap (λ (f : ℕ → List OwnChange). f u) own_is ∙ kept u (low st.last_txn u st.actives numbers is))) in
      let lives = subst (Lives later_forest (longer old a.entries v.log) later_since (pos_lsn (end_of new)) written)
      (sym (same_under (λ (as_ : List Active). GivesRecordsWith (longer old a.entries v.log) (end_of new) (committed later) after.last_txn after.last_db (active_number as_) after.own) (λ x g. g.base) (sym actives_is)
      (subst (λ (r : Rows). GivesRecordsWith (longer old a.entries v.log) (end_of new) r after.last_txn after.last_db (active_number st.actives) after.own) (sym rows_are) on.given.gives)
      ∙ same_under (λ (r : Rows). GivesRecordsWith (longer old a.entries v.log) (end_of new) r after.last_txn after.last_db (active_number st.actives) after.own) (λ x g. g.base) (sym rows_are) on.given.gives))
      (subst (λ (n : ℕ). Lives later_forest (longer old a.entries v.log) n (pos_lsn (end_of new)) written v.gives.base) (sym since_is)
      (lives_on meaning old new v.log a.entries later_forest since v.gives.base written v.has a.grew (transaction_no_ends t planned a.entries a.logs)
      (carries v.log v.gives.base v.has (begun_with v.log (end_of old) rows st.last_txn st.last_db (active_number st.actives) st.own v.gives) v.fits) v.from
      (λ u named. transaction_no_commit u t planned a.entries (λ same. is_begun v.log (end_of old) rows st.last_txn st.last_db (active_number st.actives) st.own v.gives written (pos_lsn (end_of old)) u v.firsts named (omega (arith, next, same))) a.logs) v.firsts)) in
      record {
        log = longer old a.entries v.log;
        has = on.given.has;
        works = a.grew.failed ∙ v.works;
        gives = subst (λ (as_ : List Active). GivesRecordsWith (longer old a.entries v.log) (end_of new) (committed later) after.last_txn after.last_db (active_number as_) after.own) (sym actives_is)
            (subst (λ (r : Rows). GivesRecordsWith (longer old a.entries v.log) (end_of new) r after.last_txn after.last_db (active_number st.actives) after.own) (sym rows_are) on.given.gives);
        recovers = recovers;
        makes = subst (λ (r : Rows). MakesStore r after.last_db after) (sym rows_are) on.makes;
        writes = subst (HasWrites later) (sym own_is) (writes_after rows change planned gone st.own are.gone_is apart elsewhere cells later v.writes writes);
        may = subst (λ (r : Rows). (u : ℕ) → AllByRecursion (MayBeCommitted r) (after.own u)) (sym rows_are) on.may;
        made = made;
        room = λ n is. room n (sym (ap owing after_is) ∙ is);
        names = subst (λ (own : ℕ → List OwnChange). AreNamesOf written own (committed later)) (sym own_is) (subst (AreNamesOf written st.own) (sym rows_are)
            (names_after rows change planned gone st.own are.gone_is apart elsewhere (rows_after planned gone rows) written leaves.data_is v.names));
        fits = lives.fits;
        from = lives.from;
        firsts = lives.firsts;
      }
    where
      kept : (u : ℕ) → u ≤ st.last_txn → st.own u ≡ with_at t.0 [] st.own u
      kept u le = sym (cond-false (u == t.0) [] (st.own u) (ne_eqb u t.0 (λ e. omega (arith, e, le, next))))
