-- The log of an environment beside the model goes on as the model does.
use Rattle.std.proofs.Common.{◌≡◌, ℕ, ◌+◌, ◌<◌, ◌≤◌, ◌==◌, inl, Bool, false, List, [], ◌∷◌, ◌++◌, Option, map, refl, sym, ap, ap₂, subst, ◌∙◌, arith}
use Rattle.std.specs.Prelude.{◌≢◌}
use Rattle.std.specs.List.{AllByRecursion}
use Rattle.std.proofs.lemmas.Bool.{cond-false, cond-true, eq-eqb, ne_eqb}
use Rattle.std.proofs.lemmas.List.{append-nil}
use mathlib.Core.Path.{fun_ext, path_j, subst_refl}
use Rattle.je_disk.specs.DiskMeaning.{DiskMeaning}
use Rattle.je_order.specs.declared.txn_id.TxnId.{TxnId}
use Rattle.je_order.proofs.Lists.{all_append, all_weaker}
use Rattle.store_model.specs.declared.change.Change.{Change}
use Rattle.store_model.specs.declared.store.Database.{Database}
use Rattle.store_model.specs.Store.{all_changed}
use Rattle.je_answers.specs.Standing.{Standing, with_at}
use Rattle.je_answers.specs.Views.{changes_in, changes_named}
use Rattle.log_file.specs.Log.{Log}
use Rattle.log_buffer.specs.declared.buffer.LogBuffer.{LogBuffer}
use Rattle.log_buffer.specs.Growth.{longer}
use Rattle.log_buffer.specs.Buffer.{end_of}
use Rattle.log_replay.specs.Rows.{Rows, numbers_of}
use Rattle.record_tree.specs.declared.tree_change.TreeChange.{TreeChange}
use Rattle.record_tree.specs.Logged.{LogsChanges, LogsTransaction}
use Rattle.txn_log.specs.Own.{AreFreeNames, OwnChange, own_of, tree_of}
use Rattle.txn_log.specs.Buffers.{HasAdded, HasGiven, MayAddChanges, MayCommit}
use Rattle.txn_log.specs.Committing.{MakesStore, MayBeCommitted, OwnAreCommitted, rows_own}
use Rattle.txn_log.specs.Growth.{HasOwn, own_with}
use Rattle.txn_log.specs.Gives.{AreStillActive}
use Rattle.txn_log.specs.Leaves.{LeavesRecords}
use Rattle.txn_log.specs.AtStanding.{ChangesLeaveLog, HasCommitted, IsLogAt, LoneCommitLeavesLog, NamedAreOn, OwnCommitLeavesLog, TransactionLeavesLog}
use Rattle.txn_log.proofs.BufferLaws.{changes_are_given, transaction_is_given}
use Rattle.txn_log.proofs.CommittingLaws.{catalog_stays, own_above, own_may_be_committed}
use Rattle.txn_log.proofs.Giving.{by_same, changes_give, still_gives}
use Rattle.txn_log.proofs.OwnLaws.{trees_are_own}
use Rattle.txn_log.proofs.StayingLaws.{may_stay}

abbrev Flags : Type 0
Flags = ℕ → Bool

abbrev Owns : Type 0
Owns = ℕ → List OwnChange

pub named_are_on : NamedAreOn
named_are_on st g [] is = refl
named_are_on st g (c ∷ changes) is = ap₂ (λ (a b : List Change). a ++ b) (ap (λ (o : Option Database). changes_in o c) is) (named_are_on st g changes is)

-- records that make a standing's store make that of another one alike
pub makes_same : (rows : Rows) (st after : Standing) → after.store ≡ st.store → after.numbers ≡ st.numbers → after.last_db ≡ st.last_db → MakesStore rows st.last_db st → MakesStore rows after.last_db after
makes_same rows st after store numbers last_db makes = record {
  environment = makes.environment;
  rising = makes.rising;
  unused = subst (λ (n : ℕ). (d : ℕ) → n < d → rows d ≡ []) (sym last_db) makes.unused;
  numbers = subst (λ (n : ℕ). AllByRecursion (λ m. m ≤ n) (numbers_of rows)) (sym last_db) makes.numbers;
  store = makes.store ∙ sym store;
  named = λ name. makes.named name ∙ ap (λ (f : List ℕ → ℕ). f name) (sym numbers);
}

-- own changes stay where the catalog does
pub all_stay : (rows later : Rows) (own : List OwnChange) → later 0 ≡ rows 0 → AllByRecursion (MayBeCommitted rows) own → AllByRecursion (MayBeCommitted later) own
all_stay rows later own same may = all_weaker (MayBeCommitted rows) (MayBeCommitted later) (λ c m. may_stay rows later c same m) own may

-- the own changes of a transaction, and those of the others
pub at_same : {X : Type 0} (n : ℕ) (x : X) (f : ℕ → X) → with_at n x f n ≡ x
at_same n x f = cond-true (n == n) x (f n) (eq-eqb n n refl)

pub at_other : {X : Type 0} (n : ℕ) (x : X) (f : ℕ → X) (m : ℕ) → m ≢ n → with_at n x f m ≡ f m
at_other n x f m other = cond-false (m == n) x (f m) (ne_eqb m n other)

pub may_without : (rows : Rows) (t : ℕ) (own : Owns) → ((u : ℕ) → AllByRecursion (MayBeCommitted rows) (own u)) → (u : ℕ) → AllByRecursion (MayBeCommitted rows) (with_at t [] own u)
may_without rows t own may u =
    by_same t u (AllByRecursion (MayBeCommitted rows) (with_at t [] own u))
    (λ same. subst (λ (v : ℕ). AllByRecursion (MayBeCommitted rows) (with_at t [] own v)) same (subst (AllByRecursion (MayBeCommitted rows)) (sym (at_same t [] own)) tt))
    (λ other. subst (AllByRecursion (MayBeCommitted rows)) (sym (at_other t [] own u other)) (may u))

-- what is read off a thing is the same where the thing is moved along an equation
pub same_under : {X Y : Type 0} (P : X → Type 0) (f : (x : X) → P x → Y) {x y : X} (p : x ≡ y) (u : P x) → f y (subst P p u) ≡ f x u
same_under P f {x} p u = path_j (λ y q. f y (subst P q u) ≡ f x u) (ap (f x) (subst_refl P u)) p

module _ {D : Type 0} (meaning : DiskMeaning D) where
  unfoldable pub changes_leave_log : ChangesLeaveLog meaning
  changes_leave_log old new log rows is_active st after t changes at may may_own a store numbers last_db last_txn own =
      let given : HasGiven meaning new (longer old a.entries log) rows st.last_txn st.last_db is_active (own_with t.0 changes st.own) =
      changes_are_given meaning old new log rows st.last_txn st.last_db is_active st.own t changes at.given may a in
      record {
        given = subst (λ (n : ℕ). HasGiven meaning new (longer old a.entries log) rows n after.last_db is_active after.own) (sym last_txn)
            (subst (λ (n : ℕ). HasGiven meaning new (longer old a.entries log) rows st.last_txn n is_active after.own) (sym last_db)
            (subst (λ (f : Owns). HasGiven meaning new (longer old a.entries log) rows st.last_txn st.last_db is_active f) (sym (fun_ext own)) given));
        makes = makes_same rows st after store numbers last_db at.makes;
        may = λ u. subst (AllByRecursion (MayBeCommitted rows)) (sym (own u)) (may_at u);
      }
    where
      may_at : (u : ℕ) → AllByRecursion (MayBeCommitted rows) (own_with t.0 changes st.own u)
      may_at u =
          by_same t.0 u (AllByRecursion (MayBeCommitted rows) (own_with t.0 changes st.own u))
          (λ same. subst (λ (v : ℕ). AllByRecursion (MayBeCommitted rows) (own_with t.0 changes st.own v)) same
          (subst (AllByRecursion (MayBeCommitted rows)) (sym (at_same t.0 (st.own t.0 ++ map own_of changes) st.own))
          (all_append (MayBeCommitted rows) (st.own t.0) (map own_of changes) (at.may t.0) may_own)))
          (λ other. subst (AllByRecursion (MayBeCommitted rows)) (sym (at_other t.0 (st.own t.0 ++ map own_of changes) st.own u other)) (at.may u))

  -- this life of the environment began where it did
  pub changes_leave_base : (old new : LogBuffer D) (log : Log) (rows : Rows) (is_active : Flags) (st after : Standing) (t : TxnId) (changes : List TreeChange) (at : IsLogAt meaning old log rows is_active st)
      (may : MayAddChanges st.last_txn is_active st.own t changes) (may_own : AllByRecursion (MayBeCommitted rows) (map own_of changes)) (a : HasAdded meaning old new (LogsChanges t changes))
      (store : after.store ≡ st.store) (numbers : after.numbers ≡ st.numbers) (last_db : after.last_db ≡ st.last_db) (last_txn : after.last_txn ≡ st.last_txn) (own : (u : ℕ) → after.own u ≡ own_with t.0 changes st.own u) →
      (changes_leave_log old new log rows is_active st after t changes at may may_own a store numbers last_db last_txn own).given.gives.base ≡ at.given.gives.base
  unfolding changes_leave_log changes_are_given changes_give
  changes_leave_base old new log rows is_active st after t changes at may may_own a store numbers last_db last_txn own =
      let given : HasGiven meaning new (longer old a.entries log) rows st.last_txn st.last_db is_active (own_with t.0 changes st.own) =
      changes_are_given meaning old new log rows st.last_txn st.last_db is_active st.own t changes at.given may a in
      let with_own : HasGiven meaning new (longer old a.entries log) rows st.last_txn st.last_db is_active after.own =
      subst (λ (f : Owns). HasGiven meaning new (longer old a.entries log) rows st.last_txn st.last_db is_active f) (sym (fun_ext own)) given in
      let with_db : HasGiven meaning new (longer old a.entries log) rows st.last_txn after.last_db is_active after.own =
      subst (λ (n : ℕ). HasGiven meaning new (longer old a.entries log) rows st.last_txn n is_active after.own) (sym last_db) with_own in
      same_under (λ (n : ℕ). HasGiven meaning new (longer old a.entries log) rows n after.last_db is_active after.own) (λ n (h : HasGiven meaning new (longer old a.entries log) rows n after.last_db is_active after.own). h.gives.base) (sym last_txn) with_db
      ∙ same_under (λ (n : ℕ). HasGiven meaning new (longer old a.entries log) rows st.last_txn n is_active after.own) (λ n (h : HasGiven meaning new (longer old a.entries log) rows st.last_txn n is_active after.own). h.gives.base) (sym last_db) with_own
      ∙ same_under (λ (f : Owns). HasGiven meaning new (longer old a.entries log) rows st.last_txn st.last_db is_active f) (λ f (h : HasGiven meaning new (longer old a.entries log) rows st.last_txn st.last_db is_active f). h.gives.base) (sym (fun_ext own)) given

  unfoldable pub transaction_leaves_log : TransactionLeavesLog meaning
  transaction_leaves_log old new log rows later is_active still st after goes t had changes committed at may store named may_own a has le are =
      let given : HasGiven meaning new (longer old a.entries log) later st.last_txn after.last_db is_active (with_at t.0 [] st.own) =
      transaction_is_given meaning old new log rows later st.last_txn st.last_db after.last_db is_active st.own goes t had changes at.given may a in
      record {
        given = record {
          has = given.has;
          gives = still_gives (longer old a.entries log) (end_of new) later st.last_txn after.last_txn after.last_db is_active still (with_at t.0 [] st.own) after.own given.gives le are;
        };
        makes = record {
          environment = may.leaves.environment;
          rising = may.leaves.rising;
          unused = may.leaves.unused;
          numbers = may.leaves.numbers;
          store = store ∙ ap (all_changed committed) at.makes.store ∙ sym has.store;
          named = λ name. named name ∙ ap (λ (f : List ℕ → ℕ). f name) (sym has.numbers);
        };
        may = may_own;
      }

  -- own changes that a transaction commits, those that it had and those that it logs with its Commit
  unfoldable pub commit_own : (old new : LogBuffer D) (log : Log) (rows : Rows) (is_active still : Flags) (st after : Standing) (t : TxnId) (had : List OwnChange) (changes : List TreeChange) (all : List OwnChange) →
      IsLogAt meaning old log rows is_active st → HasOwn st.last_txn is_active st.own t.0 had → AreFreeNames is_active st.own t.0 changes →
      AllByRecursion (MayBeCommitted rows) all → map tree_of all ≡ map tree_of had ++ changes →
      (a : HasAdded meaning old new (LogsTransaction t changes)) →
      HasCommitted st after (changes_named st all) → st.last_txn ≤ after.last_txn → AreStillActive st.last_txn is_active (with_at t.0 [] st.own) still after.own →
      ((u : ℕ) → AllByRecursion (MayBeCommitted rows) (after.own u)) →
      IsLogAt meaning new (longer old a.entries log) (rows_own all rows) still after
  commit_own old new log rows is_active still st after t had changes all at own free may_all trees a has le are may_own =
      let is : OwnAreCommitted rows st.last_db st all = own_may_be_committed rows st.last_db st all at.makes may_all in
      let later : Rows = rows_own all rows in
      let catalog : later 0 ≡ rows 0 = catalog_stays all rows (all_weaker (MayBeCommitted rows) (λ c. c.0 ≢ 0) (λ c m. own_above rows c m) all may_all) in
      let last_db : st.last_db ≡ after.last_db = sym (has.last_db ∙ ap (λ (n : ℕ). st.last_db + n) is.made ∙ omega arith) in
      let leaves : LeavesRecords rows later st.last_db after.last_db (λ d. false) (map tree_of had ++ changes) =
      subst (λ (n : ℕ). LeavesRecords rows later st.last_db n (λ d. false) (map tree_of had ++ changes)) last_db
      (subst (LeavesRecords rows later st.last_db st.last_db (λ d. false)) trees is.leaves) in
      let may : MayCommit st.last_txn is_active st.own rows later st.last_db after.last_db (λ d. false) t had changes = record { has = own; free = free; leaves = leaves } in
      transaction_leaves_log old new log rows later is_active still st after (λ d. false) t had changes (changes_named st all) at may is.store
      (λ name. is.named name ∙ at.makes.named name ∙ ap (λ (f : List ℕ → ℕ). f name) (sym is.numbers))
      (λ u. all_stay rows later (after.own u) catalog (may_own u)) a has le are

  unfoldable pub own_commit_leaves_log : OwnCommitLeavesLog meaning
  own_commit_leaves_log old new log rows is_active still st after t at active a has last_txn fewer own =
      commit_own old new log rows is_active still st after t (st.own t.0) [] (st.own t.0) at (inl (active, refl)) tt (at.may t.0) (sym (append-nil (map tree_of (st.own t.0)))) a has
      (omega (arith, last_txn)) (λ u is. inl (fewer u is, own u))
      (λ u. subst (AllByRecursion (MayBeCommitted rows)) (sym (own u)) (may_without rows t.0 st.own at.may u))

  pub lone_commit_leaves_log : LoneCommitLeavesLog meaning
  lone_commit_leaves_log old new log rows is_active still st after t changes at own free none may_all a has le are may_own =
      commit_own old new log rows is_active still st after t [] changes (map own_of changes) at own free may_all (trees_are_own changes none) a has le are may_own
