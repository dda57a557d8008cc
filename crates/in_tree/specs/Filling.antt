-- Changes that make a database and fill it, and the limit that they meet.
use Rattle.std.specs.Prelude.{◌≡◌, ◌+◌, ◌||◌, ◌++◌, ℕ, Bool, true, false, List, [], ◌∷◌, Option, None, Some, if◌then◌else◌}
use Rattle.std.specs.List.{AllByRecursion}
use Rattle.log_buffer.specs.declared.buffer.LogBuffer.{LogBuffer}
use Rattle.log_buffer.specs.Buffer.{has_failed}
use Rattle.record_tree.specs.declared.tree_change.TreeChange.{TreeChange}
use Rattle.record_tree.specs.declared.tree_err.TreeErr.{TreeErr}
use Rattle.record_tree.specs.declared.tree_err.TreeErr.TheVariants.{IdsEnded}
use Rattle.db_tree.specs.Shapes.{new_shape}
use Rattle.db_tree.specs.Splits.{Shape, image_sizes, nodes_made, passes_top, shape_with}
use Rattle.in_tree.specs.Limits.{change_size, commit_sizes, limit_behind, one_made}
use Rattle.in_tree.specs.Shapes.{Shapes}

-- ---- what filling takes

-- how many nodes are made where names get their slots in a tree, one after the other
abbrev pub numbers_filled : ℕ → Shape → List TreeChange → ℕ
numbers_filled fanout shape [] = 0
numbers_filled fanout shape (c ∷ rows) = nodes_made fanout c.name shape + numbers_filled fanout (shape_with fanout c.name shape) rows

-- whether a root would pass the last level
abbrev pub is_filled_too_high : ℕ → Shape → List TreeChange → Bool
is_filled_too_high fanout shape [] = false
is_filled_too_high fanout shape (c ∷ rows) = passes_top fanout c.name shape || is_filled_too_high fanout (shape_with fanout c.name shape) rows

-- the sizes of the entries of their changes, each behind the images that its name's slot needs
abbrev pub sizes_filled : ℕ → Shape → List TreeChange → List ℕ
sizes_filled fanout shape [] = []
sizes_filled fanout shape (c ∷ rows) = image_sizes fanout c.name shape ++ change_size c ∷ sizes_filled fanout (shape_with fanout c.name shape) rows

-- changes make a database and fill it: the first one is of a database that is there, and makes one that is not; the others are of that one
abbrev pub AreFilling : (ℕ → Bool) → List TreeChange → Type 0
AreFilling has [] = ⊥
AreFilling has (c ∷ rows) = (d : ℕ) × (c.makes ≡ Some d) × (has c.db ≡ true) × (has d ≡ false) × AllByRecursion (λ r. (r.db ≡ d) × (r.makes ≡ None)) rows

module _ {D : Type 0} where
  -- the limit that they meet, where `last` is the node number allocated last: that of levels, the log's, and then that of numbers
  abbrev pub limit_filling : LogBuffer D → ℕ → ℕ → Shapes → List TreeChange → ℕ → Option TreeErr
  limit_filling log fanout last shapes [] owed = None
  limit_filling log fanout last shapes (c ∷ rows) owed =
      if has_failed log then None
      else if passes_top fanout c.name (shapes c.db) || is_filled_too_high fanout new_shape rows then Some IdsEnded
      else limit_behind log (image_sizes fanout c.name (shapes c.db) ++ change_size c ∷ (sizes_filled fanout new_shape rows ++ commit_sizes owed))
      (last + (nodes_made fanout c.name (shapes c.db) + one_made c.makes + numbers_filled fanout new_shape rows))
