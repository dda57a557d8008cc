-- The names of changes, and what they have once these are committed.
use Rattle.std.proofs.Common.{◌≡◌, ◌⊎◌, inl, inr, IsSome, ◌||◌, ◌∙◌, ℕ, zero, suc, List, [], ◌∷◌, ◌++◌, Bool, true, false, cond, Option, None, Some, is_some, find, reverse, refl, ap, sym, subst, Result, Ok, Err, OnOk, OnErr, ◌+◌, ◌≤◌, length, arith}
use Rattle.std.specs.List.{AllByRecursion}
use Rattle.std.specs.Option.{option_or}
use Rattle.std.proofs.lemmas.List.{reverse-append, append_assoc, length-append}
use Rattle.std.proofs.lemmas.List.Folds.{find-append}
use Rattle.je_order.specs.declared.name.Name.{Name}
use Rattle.je_order.specs.declared.txn_id.TxnId.{TxnId}
use Rattle.log_entry.specs.declared.entry.Entry.{Entry}
use Rattle.log_entry.specs.declared.entry.Entry.TheVariants.{Commit}
use Rattle.je_order.proofs.Lists.{all_weaker}
use Rattle.record_map.specs.Cells.{value_at, IsRising}
use Rattle.log_replay.specs.Rows.{data_at}
use Rattle.record_tree.specs.declared.tree_change.TreeChange.{TreeChange}
use Rattle.record_tree.specs.declared.tree_err.TreeErr.{TreeErr}
use Rattle.record_tree.specs.Logged.{IsEndOf, LogsChanges, LogsTransaction, IsFront, is_change_of, last_change, value_changed}
use Rattle.record_tree.specs.Occupied.{Occupied, AllCells, AreFewNew, AreWritten, IsWritten, IsFreeFor, value_in, write_in, value_after, after_commit, if_occupied, is_among}
use Rattle.txn_core.specs.Known.{IsQuiet, committed}
use Rattle.txn_core.specs.Planning.{HaveFewNew}
use Rattle.txn_core.proofs.ReadingLaws.{committed_at}
use Rattle.txn_core.specs.Transactions.{is_gone, changed_names, IsCommittedAmong, HasCommitted, LeavesWrites}

-- ---- the names of changes

last_more : (d : ℕ) (x : Name) (c : TreeChange) (left : List TreeChange) → last_change d x (c ∷ left) ≡ option_or (last_change d x left) (find (is_change_of d x) (c ∷ []))
last_more d x c left = ap (find (is_change_of d x)) (reverse-append (c ∷ []) left) ∙ find-append (is_change_of d x) (reverse left) (c ∷ [])

-- a name is among those of changes where one of these changes it
pub among_changes : (d : ℕ) (x : Name) (changes : List TreeChange) → is_among d x (changed_names changes) ≡ is_some (last_change d x changes)
among_changes d x [] = refl
among_changes d x (c ∷ changes) =
    ap (λ (t : Bool). is_change_of d x c || t) (among_changes d x changes)
    ∙ by_last (last_change d x changes) (is_change_of d x c)
    ∙ sym (ap is_some (last_more d x c changes))
  where
    by_last : (o : Option TreeChange) (t : Bool) → (t || is_some o) ≡ is_some (option_or o (cond t (Some c) None))
    by_last None true = refl
    by_last None false = refl
    by_last (Some last) true = refl
    by_last (Some last) false = refl

-- ---- what a name has

pub all_free : (txn : TxnId) (cells : AllCells) (changes : List TreeChange) → IsQuiet cells → AllByRecursion (λ c. IsFreeFor txn (write_in (value_at c.name (cells c.db)))) changes
all_free txn cells [] quiet = tt
all_free txn cells (c ∷ changes) quiet = (subst (IsFreeFor txn) (sym (quiet c.db c.name)) tt, all_free txn cells changes quiet)

-- behind a transaction's changes no other one has a change of their names
pub written_free : (txn : TxnId) (changes left : List TreeChange) (old new : AllCells) → AreWritten txn changes old new → AllByRecursion (λ c. IsFreeFor txn (write_in (value_at c.name (old c.db)))) left →
    AllByRecursion (λ n. IsFreeFor txn (write_in (value_at n.name (new n.db)))) (changed_names left)
written_free txn changes [] old new written free = tt
written_free txn changes (c ∷ left) old new written free =
    (by_last (last_change c.db c.name changes) (written.writes c.db c.name), written_free txn changes left old new written free.1)
  where
    by_last : (o : Option TreeChange) → IsWritten o txn (write_in (value_at c.name (old c.db))) (write_in (value_at c.name (new c.db))) → IsFreeFor txn (write_in (value_at c.name (new c.db)))
    by_last None same = subst (IsFreeFor txn) (sym same) free.0
    by_last (Some last) is = subst (IsFreeFor txn) (sym is.1) refl

-- names that have records are occupied
some_value : (o : Option Occupied) → IsSome (value_in o) → IsSome o
some_value None some = some
some_value (Some o) some = refl

pub few_new : (cells : AllCells) (changes : List TreeChange) → ((d : ℕ) → IsRising (cells d)) → HaveFewNew (committed cells) changes → AreFewNew cells changes
few_new cells [] up few = tt
few_new cells (c ∷ changes) up few = (all_weaker _ _ (λ e h same. occupied e (h same)) changes few.0, few_new cells changes up few.1)
  where
    is_there : (d : ℕ) (x : Name) → IsSome (data_at x (committed cells d)) → IsSome (value_at x (cells d))
    is_there d x some = some_value (value_at x (cells d)) (subst (λ (o : Option (List ℕ)). IsSome o) (committed_at x (cells d) (up d)) some)

    occupied : (e : TreeChange) → IsSome (data_at c.name (committed cells c.db)) ⊎ IsSome (data_at e.name (committed cells e.db)) → IsSome (value_at c.name (cells c.db)) ⊎ IsSome (value_at e.name (cells e.db))
    occupied e (inl some) = inl (is_there c.db c.name some)
    occupied e (inr some) = inr (is_there e.db e.name some)

value_kept : (v : Option (List ℕ)) → value_in (if_occupied (record { value = v; write = None })) ≡ v
value_kept None = refl
value_kept (Some value) = refl

write_gone : (v : Option (List ℕ)) → write_in (if_occupied (record { value = v; write = None })) ≡ None
write_gone None = refl
write_gone (Some value) = refl

value_committed : (o : Option Occupied) → value_in (after_commit o) ≡ value_after (value_in o) (write_in o)
value_committed None = refl
value_committed (Some o) = value_kept (value_after o.value o.write)

write_committed : (o : Option Occupied) → write_in (after_commit o) ≡ None
write_committed None = refl
write_committed (Some o) = write_gone (value_after o.value o.write)

-- a name with the changes of a transaction, once these are committed
module _ (txn : TxnId) (last : Option TreeChange) (old mid : Option Occupied) (written : IsWritten last txn (write_in old) (write_in mid)) where
  value_then : value_in mid ≡ value_in old → value_in (cond (is_some last) (after_commit mid) mid) ≡ value_changed last (value_in old)
  value_then same = by_last last written
    where
      by_last : (l : Option TreeChange) → IsWritten l txn (write_in old) (write_in mid) → value_in (cond (is_some l) (after_commit mid) mid) ≡ value_changed l (value_in old)
      by_last None is = same
      by_last (Some c) is = value_committed mid ∙ ap (value_after (value_in mid)) is.1

  write_then : write_in (cond (is_some last) (after_commit mid) mid) ≡ cond (is_some last) None (write_in old)
  write_then = by_last last written
    where
      by_last : (l : Option TreeChange) → IsWritten l txn (write_in old) (write_in mid) → write_in (cond (is_some l) (after_commit mid) mid) ≡ cond (is_some l) None (write_in old)
      by_last None is = is
      by_last (Some c) is = write_committed mid

-- cells with the changes of a transaction, once these are committed and a database is gone
module _ (txn : TxnId) (changes : List TreeChange) (gone : Option ℕ) (old mid new : AllCells) (written : AreWritten txn changes old mid)
    (committed : IsCommittedAmong (changed_names changes) gone mid new) where
  here : (d : ℕ) (x : Name) → value_at x (new d) ≡ cond (is_gone d gone) None (cond (is_some (last_change d x changes)) (after_commit (value_at x (mid d))) (value_at x (mid d)))
  here d x = committed d x ∙ ap (λ (t : Bool). cond (is_gone d gone) None (cond t (after_commit (value_at x (mid d))) (value_at x (mid d)))) (among_changes d x changes)

  pub values_then : HasCommitted changes gone old new
  values_then d x = ap value_in (here d x) ∙ by_test (is_gone d gone)
    where
      by_test : (t : Bool) → value_in (cond t None (cond (is_some (last_change d x changes)) (after_commit (value_at x (mid d))) (value_at x (mid d)))) ≡ cond t None (value_changed (last_change d x changes) (value_in (value_at x (old d))))
      by_test true = refl
      by_test false = value_then txn (last_change d x changes) (value_at x (old d)) (value_at x (mid d)) (written.writes d x) (written.values d x)

  pub writes_then : LeavesWrites changes gone old new
  writes_then d x = ap write_in (here d x) ∙ by_test (is_gone d gone)
    where
      by_test : (t : Bool) → write_in (cond t None (cond (is_some (last_change d x changes)) (after_commit (value_at x (mid d))) (value_at x (mid d))))
          ≡ cond t None (cond (is_some (last_change d x changes)) None (write_in (value_at x (old d))))
      by_test true = refl
      by_test false = write_then txn (last_change d x changes) (value_at x (old d)) (value_at x (mid d)) (written.writes d x)

  pub quiet_then : IsQuiet old → IsQuiet new
  quiet_then quiet d x = writes_then d x ∙ none (is_gone d gone) (is_some (last_change d x changes))
    where
      none : (s t : Bool) → cond s None (cond t None (write_in (value_at x (old d)))) ≡ None
      none true t = refl
      none false true = refl
      none false false = quiet d x

-- ---- what is logged

pub logs_commit : (txn : TxnId) (changes : List TreeChange) (entries : List Entry) → LogsChanges txn changes entries → LogsTransaction txn changes (entries ++ Commit txn ∷ [])
logs_commit txn changes entries logs = (entries, logs, refl)

-- so many entries, and a Commit behind them, where fewer nodes wait at the end
pub entries_few : (txn : TxnId) (entries : List Entry) (old mid new most : ℕ) → length entries + mid ≤ old + most → new ≤ mid → length (entries ++ Commit txn ∷ []) + new ≤ old + (most + 1)
entries_few txn entries old mid new most few fewer = let count = length-append entries (Commit txn ∷ []) in omega (arith, few, fewer, count)

-- a front of the changes' entries is one of the transaction's
front_before : (front entries more : List Entry) → IsFront front entries → IsFront front (entries ++ more)
front_before front entries more is = (is.0 ++ more, sym (append_assoc front is.0 more) ∙ ap (λ (l : List Entry). l ++ more) is.1)

-- a log that failed with a front of the changes' entries failed with one of the transaction's
pub tried_with : {X : Type 0} (tried : X → X → List Entry → Type 0) (x y : X) (txn : TxnId) (changes : List TreeChange) →
    (entries : List Entry) × (front : List Entry) × LogsChanges txn changes entries × IsFront front entries × tried x y front →
    (entries : List Entry) × (front : List Entry) × LogsTransaction txn changes entries × IsFront front entries × tried x y front
tried_with tried x y txn changes t = (t.0 ++ Commit txn ∷ [], t.1, logs_commit txn changes t.0 t.2, front_before t.1 t.0 (Commit txn ∷ []) t.3, t.4)

-- and so are the changes' entries with a front of what is behind them
pub front_behind : (entries front more : List Entry) → IsFront front more → IsFront (entries ++ front) (entries ++ more)
front_behind entries front more is = (is.0, append_assoc entries front is.0 ∙ ap (λ (l : List Entry). entries ++ l) is.1)

-- ---- how a call ended

-- room for the Commits that are left
pub room_then : {X Y : Type 0} (has_room : ℕ → Type 0) (r : Result X Y) (owed : ℕ) → ((n : ℕ) → owed ≡ suc n → OnOk r (has_room n)) → OnOk r ((n : ℕ) → owed ≡ suc n → has_room n)
room_then has_room (Ok x) owed each = each
room_then has_room (Err y) owed each = tt

-- as many as one and some more
pub more_than : (owed : ℕ) → 1 ≤ owed → (n : ℕ) × (owed ≡ suc n)
more_than zero some = absurd (omega (arith, some))
more_than (suc n) some = (n, refl)

pub ok_then : {X Y P Q : Type 0} (r : Result X Y) → (P → Q) → OnOk r P → OnOk r Q
ok_then (Ok x) f h = f h
ok_then (Err y) f h = tt

pub ends_by : {X P Q : Type 0} (r : Result X TreeErr) (reason : TreeErr) → (P → Q) → OnErr r P → IsEndOf reason r Q
ends_by (Ok x) reason f h = tt
ends_by (Err e) reason f h = λ is. f h
