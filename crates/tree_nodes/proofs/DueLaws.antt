-- Nodes that are noted and dirty.
use Rattle.std.proofs.Common.{◌≡◌, ◌≤◌, ◌<◌, ◌+◌, ◌⊎◌, inl, inr, ℕ, List, [], ◌∷◌, Bool, true, false, cond, length, ap, sym, subst, ◌∙◌, arith}
use Rattle.std.proofs.lemmas.Bool.{cases_lt}
use Rattle.std.proofs.lemmas.List.{get_or_past}
use Rattle.std.proofs.lemmas.List.Sums.{sum_by-cons}
use Rattle.std.proofs.lemmas.Option.{none-some}
use Rattle.je_order.specs.declared.name.Name.{Name}
use Rattle.tree_nodes.specs.declared.node.Node.{Node}
use Rattle.tree_nodes.specs.Nodes.{NodeRow, is_due, node_at, placed}
use Rattle.tree_nodes.specs.Levels.{row_of}
use Rattle.tree_nodes.specs.Noted.{NoneDue, count_due}

-- ---- the next one of a tree

-- no level up to one has a node that is due
abbrev pub NoneBelow : List NodeRow → ℕ → Type 0
NoneBelow rows level = (k : ℕ) → k + 1 ≤ level → NoneDue (row_of rows k)

pub below_more : (rows : List NodeRow) (level : ℕ) → NoneDue (row_of rows level) → NoneBelow rows level → NoneBelow rows (level + 1)
below_more rows level none below k less = by_level (cases_lt k level)
  where
    by_level : (k < level) ⊎ (level ≤ k) → NoneDue (row_of rows k)
    by_level (inl lower) = below k (omega (arith, lower))
    by_level (inr here) = let same : level ≡ k = omega (arith, here, less) in subst (λ (l : ℕ). NoneDue (row_of rows l)) same none

pub below_every : (rows : List NodeRow) (level : ℕ) → length rows ≤ level → NoneBelow rows level → (k : ℕ) → NoneDue (row_of rows k)
below_every rows level top below k = by_level (cases_lt k level)
  where
    by_level : (k < level) ⊎ (level ≤ k) → NoneDue (row_of rows k)
    by_level (inl lower) = below k (omega (arith, lower))
    by_level (inr high) = subst NoneDue (sym (get_or_past rows k [] (omega (arith, top, high)))) (λ x n there. absurd (none-some n there))
