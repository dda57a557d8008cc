-- A check of trees that is under way.
use Rattle.std.specs.Prelude.{◌≡◌, ℕ, zero, suc, List, Option, Result, map}
use Rattle.std.specs.List.{flat_map}
use Rattle.je_order.specs.declared.name.Name.{Name}
use Rattle.node_core.specs.declared.slot.Marked.{Marked}
use Rattle.record_tree.specs.Stored.{AllStored}
use Rattle.log_replay.specs.declared.corruption.Corruption.{Corruption}
use Rattle.log_trees.specs.Placed.{Placed}
use Rattle.log_trees.specs.Images.{slot_shown}
use Rattle.log_trees.specs.Bounds.{slots_inside, children}
use Rattle.log_trees.specs.Walk.{Walk}
use Rattle.check_laws.specs.declared.finding.Finding.TheVariants.{Wrong}
use Rattle.check_laws.specs.Noting.{as_noted, or_noted, each_on}
use Rattle.check_laws.specs.Trees.{NotedTrees, check_child, check_node, check_record}
use Rattle.recovery_je.specs.declared.tree_check.TreeCheck.{TreeCheck}
use Rattle.recovery_je.specs.Walking.{IsWalking}

-- the trees are those of a walk, and what was found wrong was noted
pub record IsChecking {T : Type 0} (stored : T → AllStored) (check : TreeCheck T) (s : NotedTrees) : Type 0 where
  pub walk : IsWalking (stored check.walking.trees) check.walking.seen.keys check.walking.node check.walking.db s.walk
  pub found : check.findings ≡ map Wrong s.found

-- a check goes on by a step
abbrev pub ChecksBy : {T : Type 0} → (T → AllStored) → (NotedTrees → NotedTrees) → TreeCheck T → TreeCheck T → Type 0
ChecksBy stored step old new = (s : NotedTrees) → IsChecking stored old s → IsChecking stored new (step s)

-- a record that was read goes into the walk, and what is wrong with it is noted
abbrev pub record_noted : Result Walk Corruption → NotedTrees → NotedTrees
record_noted read s = or_noted read s (λ walk s. as_noted walk s.found)

-- what stands below a node: the records of a BIN's slots, or the trees of the children that an IN's slots name
abbrev pub check_below : List ℕ → List Placed → ℕ → ℕ → Name → Option Name → ℕ → List Marked → NotedTrees → NotedTrees
check_below files es d zero low high at slots = each_on (check_record files es d at) (slots_inside low high (flat_map slot_shown slots))
check_below files es d (suc above) low high at slots = each_on (check_child files (check_node files es d above) at) (children low high (flat_map slot_shown slots))
