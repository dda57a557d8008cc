-- Changes of several names, one after the other.
use Rattle.std.proofs.Common.{◌≡◌, ◌==◌, ◌&&◌, ◌||◌, ℕ, List, ◌∷◌, Bool, true, false, cond, Option, None, Some, refl, ap, ◌∙◌, is_eq}
use Rattle.je_order.specs.Order.{name_cmp}
use Rattle.je_order.specs.declared.name.Name.{Name}
use Rattle.record_map.specs.declared.write.Write.{Write}
use Rattle.record_map.specs.Cells.{value_at, IsRising}
use Rattle.record_tree.specs.declared.tree_name.TreeName.{TreeName}
use Rattle.record_tree.specs.Occupied.{Occupied, AllCells, HasChangedAll, is_among, after_commit, after_abort, if_occupied}
use Rattle.in_tree.specs.Forest.{Forest, cells_seen, HasSameTrees, HasChange, MakesSteps}
use Rattle.in_tree.specs.Waits.{waits_in}
use Rattle.in_tree.proofs.Preparation.{same_test}

-- a change that is made twice is made once
abbrev pub IsOnce : (Option Occupied → Option Occupied) → Type 0
IsOnce change = (o : Option Occupied) → change (change o) ≡ change o

pub commit_once : IsOnce after_commit
commit_once None = refl
commit_once (Some o) = by_parts o.value o.write
  where
    by_parts : (v : Option (List ℕ)) (w : Option Write) → after_commit (after_commit (Some (record { value = v; write = w }))) ≡ after_commit (Some (record { value = v; write = w }))
    by_parts v (Some w) = by_value w.value
      where
        by_value : (v : Option (List ℕ)) → after_commit (if_occupied (record { value = v; write = None })) ≡ if_occupied (record { value = v; write = None })
        by_value None = refl
        by_value (Some v) = refl
    by_parts None None = refl
    by_parts (Some v) None = refl

pub abort_once : IsOnce after_abort
abort_once None = refl
abort_once (Some o) = by_value o.value
  where
    by_value : (v : Option (List ℕ)) → after_abort (if_occupied (record { value = v; write = None })) ≡ if_occupied (record { value = v; write = None })
    by_value None = refl
    by_value (Some v) = refl

-- some names changed, and those that are left did not
pub record NamesLeft (Step : TreeName → Forest → Forest → Type 0) (before trees : Forest) (names left : List TreeName) (change : Option Occupied → Option Occupied) : Type 0 where
  pub steps : (last : Forest) → MakesSteps Step left trees last → MakesSteps Step names before last
  pub cells : (last : AllCells) → HasChangedAll (cells_seen trees) last left change → HasChangedAll (cells_seen before) last names change
  pub same : HasSameTrees before trees
  pub rising : (d : ℕ) → IsRising (cells_seen before d) → IsRising (cells_seen trees d)
  pub waits : waits_in trees ≡ waits_in before

by_tests : (change : Option Occupied → Option Occupied) → IsOnce change → (hit among : Bool) (o : Option Occupied) →
    cond among (change (cond hit (change o) o)) (cond hit (change o) o) ≡ cond (hit || among) (change o) o
by_tests change once true true o = once o
by_tests change once true false o = refl
by_tests change once false among o = refl

pub names_step : (Step : TreeName → Forest → Forest → Type 0) (before trees after : Forest) (names left : List TreeName) (e : TreeName) (change : Option Occupied → Option Occupied) → IsOnce change →
    NamesLeft Step before trees names (e ∷ left) change → Step e trees after → HasChange (cells_seen trees) (cells_seen after) e.db e.name change → HasSameTrees trees after →
    ((d : ℕ) → IsRising (cells_seen trees d) → IsRising (cells_seen after d)) → waits_in after ≡ waits_in trees → NamesLeft Step before after names left change
names_step Step before trees after names left e change once so_far made has same rising waits = record {
  steps = λ last steps. so_far.steps last (after, made, steps);
  cells = λ last changed. so_far.cells last (λ d x. step last changed d x);
  same = λ d. same d ∙ so_far.same d;
  rising = λ d up. rising d (so_far.rising d up);
  waits = waits ∙ so_far.waits;
}
  where
    step : (last : AllCells) → HasChangedAll (cells_seen after) last left change → (d : ℕ) (x : Name) →
        value_at x (last d) ≡ cond (is_among d x (e ∷ left)) (change (value_at x (cells_seen trees d))) (value_at x (cells_seen trees d))
    step last changed d x =
        let here : value_at x (cells_seen after d) ≡ cond (e.db == d && is_eq (name_cmp e.name x)) (change (value_at x (cells_seen trees d))) (value_at x (cells_seen trees d)) =
        has d x ∙ ap (λ (t : Bool). cond (t && is_eq (name_cmp e.name x)) (change (value_at x (cells_seen trees d))) (value_at x (cells_seen trees d))) (same_test d e.db) in
        changed d x
        ∙ ap (λ (o : Option Occupied). cond (is_among d x left) (change o) o) here
        ∙ by_tests change once (e.db == d && is_eq (name_cmp e.name x)) (is_among d x left) (value_at x (cells_seen trees d))

pub names_begin : (Step : TreeName → Forest → Forest → Type 0) (trees : Forest) (names : List TreeName) (change : Option Occupied → Option Occupied) → NamesLeft Step trees trees names names change
names_begin Step trees names change = record { steps = λ last steps. steps; cells = λ last changed. changed; same = λ d. refl; rising = λ d up. up; waits = refl }
