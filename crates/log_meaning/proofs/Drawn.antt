-- The numbers of a meaning are past those of the log read again.
use Rattle.std.proofs.Common.{◌≡◌, ℕ, ◌<◌, ◌≤◌, ◌==◌, max, Bool, true, false, cond, List, [], ◌∷◌, ◌++◌, Option, None, Some, option_map, unwrap_or, map, is_eq, nat_lt, refl, sym, ap, subst, ◌∙◌, arith}
use Rattle.std.specs.Prelude.{IfSome}
use Rattle.std.proofs.lemmas.Bool.{true≢false, and_left, and_parts, eqb-true, eq-eqb, ne_eqb, cond-true, cond-false}
use Rattle.std.specs.List.{AllByRecursion}
use Rattle.je_order.specs.Order.{name_cmp}
use Rattle.je_order.specs.declared.name.Name.{Name}
use Rattle.log_entry.specs.declared.entry.Entry.{Entry}
use Rattle.log_entry.specs.declared.entry.Entry.TheVariants.{Put, Delete, Migrated, Commit}
use Rattle.log_entry.specs.declared.root.Root.{Root}
use Rattle.log_replay.specs.Rows.{catalog_number}
use Rattle.log_replay.specs.Replay.{txn_in}
use Rattle.log_replay.proofs.ListLaws.{all_both}
use Rattle.je_order.proofs.Lists.{all_weaker, all_append}
use Rattle.log_trees.specs.Placed.{Placed}
use Rattle.log_trees.specs.Changes.{Written, unwritten, LoggedChange, is_of, last_of}
use Rattle.log_trees.specs.Images.{NamedLsn}
use Rattle.log_trees.specs.Trees.{loaded, slots_of_tree, rows_of_root, rows_of_roots}
use Rattle.log_trees.specs.Walk.{Walk}
use Rattle.log_trees.proofs.Rooted.{last_of-none}
use Rattle.log_meaning.specs.Redo.{Redo, nothing_redone, set_at, unset_at, redo_entry, redo_all, from, redone}
use Rattle.log_meaning.specs.Checkpoint.{Checkpoint, last_checkpoint, restarted}
use Rattle.log_meaning.specs.Meaning.{Meaning, db_number, db_given, most, meaning_of, AreDrawn}

-- ---- the greatest of numbers

most-all : {A : Type 0} (number : A → ℕ) (xs : List A) → AllByRecursion (λ x. number x ≤ most number xs) xs
most-all number [] = tt
most-all number (x ∷ xs) = (omega arith, all_weaker (λ y. number y ≤ most number xs) (λ y. number y ≤ max (number x) (most number xs)) (λ y h. omega (arith, h)) xs (most-all number xs))

-- ---- transactions

none_waits_entry : (t at : ℕ) (entry : Entry) (redo : Redo) → txn_in entry < t → redo.pending t ≡ [] → (redo_entry at entry redo).pending t ≡ []
none_waits_entry t at (Put txn db name value) redo lt none =
    cond-false (txn.0 == t) (redo.pending t ++ set_at at db name value ∷ []) (redo.pending t) (ne_eqb txn.0 t (λ e. omega (arith, e, lt))) ∙ none
none_waits_entry t at (Delete txn db name) redo lt none =
    cond-false (txn.0 == t) (redo.pending t ++ unset_at at db name ∷ []) (redo.pending t) (ne_eqb txn.0 t (λ e. omega (arith, e, lt))) ∙ none
none_waits_entry t at (Commit txn) redo lt none = by_test (txn.0 == t)
  where
    by_test : (b : Bool) → cond b [] (redo.pending t) ≡ []
    by_test true = refl
    by_test false = none
none_waits_entry t at (Migrated db name value) redo lt none = none
none_waits_entry t at entry redo lt none = none

none_waits : (t : ℕ) (es : List Placed) (redo : Redo) → most (λ (p : Placed). txn_in p.1) es < t → redo.pending t ≡ [] → (redo_all es redo).pending t ≡ []
none_waits t [] redo lt none = none
none_waits t (p ∷ es) redo lt none = none_waits t es (redo_entry p.0 p.1 redo) (omega (arith, lt)) (none_waits_entry t p.0 p.1 redo (omega (arith, lt)) none)

-- ---- databases

-- a change's database, and the one that a catalog record names, have numbers at most this
record IsWithin (b : ℕ) (c : LoggedChange) : Type 0 where
  db : c.db ≤ b
  named : c.db ≡ 0 → IfSome c.written.value (λ bytes. catalog_number bytes ≤ b)

record AreWithin (b : ℕ) (redo : Redo) : Type 0 where
  done : AllByRecursion (IsWithin b) redo.done
  pending : (t : ℕ) → AllByRecursion (IsWithin b) (redo.pending t)

within_set : (b at db : ℕ) (name : Name) (value : List ℕ) → cond (db == 0) (catalog_number value) db ≤ b → IsWithin b (set_at at db name value)
within_set b at db name value le = by_test (db == 0) refl le
  where
    by_test : (t : Bool) → (db == 0) ≡ t → cond t (catalog_number value) db ≤ b → IsWithin b (set_at at db name value)
    by_test true is h = let zero_db = eqb-true db 0 is in record { db = omega (arith, zero_db); named = λ e. h }
    by_test false is h = record { db = h; named = λ e. absurd (true≢false (sym (eq-eqb db 0 e) ∙ is)) }

within_unset : (b at db : ℕ) (name : Name) → db ≤ b → IsWithin b (unset_at at db name)
within_unset b at db name le = record { db = le; named = λ e. tt }

within_push : (b t : ℕ) (is : Bool) (c : LoggedChange) (mine : List LoggedChange) → IsWithin b c → AllByRecursion (IsWithin b) mine → AllByRecursion (IsWithin b) (cond is (mine ++ c ∷ []) mine)
within_push b t true c mine one all = all_append (IsWithin b) mine (c ∷ []) all (one, tt)
within_push b t false c mine one all = all

within_entry : (b at : ℕ) (entry : Entry) (redo : Redo) → db_number entry ≤ b → AreWithin b redo → AreWithin b (redo_entry at entry redo)
within_entry b at (Put txn db name value) redo le is = record {
  done = is.done;
  pending = λ t. within_push b t (txn.0 == t) (set_at at db name value) (redo.pending t) (within_set b at db name value le) (is.pending t);
}
within_entry b at (Delete txn db name) redo le is = record {
  done = is.done;
  pending = λ t. within_push b t (txn.0 == t) (unset_at at db name) (redo.pending t) (within_unset b at db name le) (is.pending t);
}
within_entry b at (Migrated db name value) redo le is = record {
  done = all_append (IsWithin b) redo.done (set_at at db name value ∷ []) is.done (within_set b at db name value le, tt);
  pending = is.pending;
}
within_entry b at (Commit txn) redo le is = record {
  done = all_append (IsWithin b) redo.done (redo.pending txn.0) is.done (is.pending txn.0);
  pending = λ t. left t (txn.0 == t);
}
  where
    left : (t : ℕ) (ended : Bool) → AllByRecursion (IsWithin b) (cond ended [] (redo.pending t))
    left t true = tt
    left t false = is.pending t
within_entry b at entry redo le is = is

within_all : (b : ℕ) (es : List Placed) (redo : Redo) → most (λ (p : Placed). db_number p.1) es ≤ b → AreWithin b redo → AreWithin b (redo_all es redo)
within_all b [] redo le is = is
within_all b (p ∷ es) redo le is = within_all b es (redo_entry p.0 p.1 redo) (omega (arith, le)) (within_entry b p.0 p.1 redo (omega (arith, le)) is)

-- ---- roots

loaded_db : (es : List Placed) (d b : ℕ) (slots : List NamedLsn) → d ≤ b → AllByRecursion (λ (c : LoggedChange). c.db ≤ b) (map (loaded es d) slots)
loaded_db es d b [] le = tt
loaded_db es d b (s ∷ slots) le = (le, loaded_db es d b slots le)

root_db : (es : List Placed) (end b : ℕ) (root : Root) → root.db ≤ b → AllByRecursion (λ (c : LoggedChange). c.db ≤ b) (rows_of_root es end root)
root_db es end b root le = by_test (nat_lt root.image end)
  where
    by_test : (t : Bool) → AllByRecursion (λ (c : LoggedChange). c.db ≤ b) (cond t (map (loaded es root.db) (slots_of_tree es root.image)) [])
    by_test true = loaded_db es root.db b (slots_of_tree es root.image) le
    by_test false = tt

roots_db : (es : List Placed) (end b : ℕ) (roots : List Root) → most (λ (r : Root). r.db) roots ≤ b → AllByRecursion (λ (c : LoggedChange). c.db ≤ b) (rows_of_roots es end roots)
roots_db es end b [] le = tt
roots_db es end b (root ∷ roots) le =
    all_append (λ (c : LoggedChange). c.db ≤ b) (rows_of_root es end root) (rows_of_roots es end roots) (root_db es end b root (omega (arith, le))) (roots_db es end b roots (omega (arith, le)))

given_within : (b : ℕ) (c : LoggedChange) → c.db ≤ b → db_given c ≤ b → IsWithin b c
given_within b c db given = record { db = db; named = λ e. by_value c.written.value (subst (λ (n : ℕ). n ≤ b) (at_zero e) given) }
  where
    at_zero : c.db ≡ 0 → db_given c ≡ unwrap_or (option_map catalog_number c.written.value) 0
    at_zero e = cond-true (c.db == 0) (unwrap_or (option_map catalog_number c.written.value) 0) 0 (eq-eqb c.db 0 e)

    by_value : (v : Option (List ℕ)) → unwrap_or (option_map catalog_number v) 0 ≤ b → IfSome v (λ bytes. catalog_number bytes ≤ b)
    by_value None h = tt
    by_value (Some bytes) h = h

-- ---- what stands under a name

-- changes of other databases change nothing
later_db : (b d : ℕ) (x : Name) (cs : List LoggedChange) → b < d → AllByRecursion (IsWithin b) cs → last_of d x cs unwritten ≡ unwritten
later_db b d x cs lt all =
    last_of-none d x cs unwritten
    (all_weaker (IsWithin b) (λ c. is_of d x c ≡ false) (λ c h. let low = h.db in and_left (c.db == d) (is_eq (name_cmp c.name x)) (ne_eqb c.db d (λ e. omega (arith, e, low, lt)))) cs all)

named_within : (b : ℕ) (x : Name) (cs : List LoggedChange) (w : Written) → IfSome w.value (λ bytes. catalog_number bytes ≤ b) → AllByRecursion (IsWithin b) cs →
    IfSome (last_of 0 x cs w).value (λ bytes. catalog_number bytes ≤ b)
named_within b x [] w before all = before
named_within b x (c ∷ cs) w before all = named_within b x cs (cond (is_of 0 x c) c.written w) (by_test (is_of 0 x c) refl) all.1
  where
    by_test : (t : Bool) → is_of 0 x c ≡ t → IfSome (cond t c.written w).value (λ bytes. catalog_number bytes ≤ b)
    by_test true is = all.0.named (eqb-true c.db 0 (and_parts (c.db == 0) (is_eq (name_cmp c.name x)) is).0)
    by_test false is = before

pub are_drawn : (es : List Placed) (walk : Walk) → walk.rows ≡ rows_of_roots es (last_checkpoint es).at (last_checkpoint es).roots → AreDrawn es (meaning_of es (last_checkpoint es) walk)
are_drawn es walk rows =
    let c : Checkpoint = last_checkpoint es in
    let m : Meaning = meaning_of es c walk in
    let redo : Redo = redone c.redo es in
    let top : ℕ = m.last_db in
    let root_rows : List LoggedChange = rows_of_roots es c.at c.roots in
    let given : AllByRecursion (λ (e : LoggedChange). db_given e ≤ most db_given root_rows) root_rows = most-all db_given root_rows in
    let same : most db_given walk.rows ≡ most db_given root_rows = ap (most db_given) rows in
    let from_roots : AllByRecursion (IsWithin top) root_rows =
    all_both (λ (e : LoggedChange). e.db ≤ top) (λ e. db_given e ≤ most db_given root_rows) (IsWithin top) (λ e h k. given_within top e h (omega (arith, k, same))) root_rows
    (roots_db es c.at top c.roots (omega arith)) given in
    let redone_in : AreWithin top redo = within_all top (from c.redo es) nothing_redone (omega arith) (record { done = tt; pending = λ t. tt }) in
    let all : AllByRecursion (IsWithin top) (restarted es).done = all_append (IsWithin top) root_rows redo.done from_roots redone_in.done in
    record {
      txns = λ t lt. none_waits t (from c.redo es) nothing_redone (omega (arith, lt)) refl;
      databases = λ d x lt. later_db top d x (restarted es).done lt all;
      named = λ x. named_within top x (restarted es).done unwritten tt all;
    }
