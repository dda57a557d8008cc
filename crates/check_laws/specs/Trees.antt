-- Checking trees: what is read where what is wrong is left out, and all that was found wrong, in the order of reading.
use Rattle.std.specs.Prelude.{◌≡◌, ℕ, zero, suc, nat_lt, if◌then◌else◌, List, [], Option, None}
use Rattle.je_order.specs.declared.name.Name.{Name}
use Rattle.log_entry.specs.declared.root.Root.{Root}
use Rattle.log_replay.specs.declared.corruption.Corruption.{Corruption}
use Rattle.log_replay.specs.declared.corruption.Corruption.TheVariants.{Tree}
use Rattle.log_trees.specs.Placed.{Placed}
use Rattle.log_trees.specs.Images.{NamedLsn, slots_shown}
use Rattle.log_trees.specs.Bounds.{Child, children, least_name, slots_inside}
use Rattle.log_trees.specs.Walk.{Walk, met, nowhere, read_image, read_here, read_record, read_roots}
use Rattle.check_laws.specs.Noting.{Noted, as_noted, or_noted, each_on, noted, walk_unless_found}

-- what was read of trees, and what was found wrong in them
abbrev pub NotedTrees : Type 0
NotedTrees = Noted Walk Corruption

-- the same, with what was read changed
abbrev pub with_walk : (Walk → Walk) → NotedTrees → NotedTrees
with_walk f s = as_noted (f s.walk) s.found

-- a record that is wrong is left out
abbrev pub check_record : List ℕ → List Placed → ℕ → ℕ → NamedLsn → NotedTrees → NotedTrees
check_record files es d at slot s = or_noted (read_record files es d at slot s.walk) s (λ walk s. as_noted walk s.found)

-- a child is checked that stands below the entry which names it; the LSN of any other is wrong
abbrev pub check_child : List ℕ → (Name → Option Name → ℕ → NotedTrees → NotedTrees) → ℕ → Child → NotedTrees → NotedTrees
check_child files check at child s = if nat_lt child.at at then check child.low child.high child.at s else noted (nowhere files child.at) s

-- a node that is wrong is left out with all below it
abbrev pub check_node : List ℕ → List Placed → ℕ → ℕ → Name → Option Name → ℕ → NotedTrees → NotedTrees
check_node files es d zero low high at s =
    or_noted (read_here files es d 1 at s.walk.seen) s (λ n s. each_on (check_record files es d at) (slots_inside low high (slots_shown n)) (with_walk (met n) s))
check_node files es d (suc above) low high at s =
    or_noted (read_here files es d (suc (suc above)) at s.walk.seen) s
    (λ n s. each_on (check_child files (check_node files es d above) at) (children low high (slots_shown n)) (with_walk (met n) s))

-- the tree below an image of this level
abbrev pub check_level : List ℕ → List Placed → ℕ → ℕ → ℕ → NotedTrees → NotedTrees
check_level files es d zero at s = noted (Tree at) s
check_level files es d (suc above) at s = check_node files es d above least_name None at s

-- the tree of a root
abbrev pub check_root : List ℕ → List Placed → ℕ → Root → NotedTrees → NotedTrees
check_root files es end root s =
    if nat_lt root.image end then or_noted (read_image files es root.db root.image) s (λ n s. check_level files es root.db n.level root.image s) else noted (nowhere files root.image) s

-- the trees of all roots, in order
abbrev pub check_roots : List ℕ → List Placed → ℕ → List Root → NotedTrees
check_roots files es end roots = each_on (check_root files es end) roots (as_noted (record { seen = []; rows = [] }) [])

-- the first finding of a check is what reading finds
abbrev pub RootsAreChecked : Type 0
RootsAreChecked = (files : List ℕ) (es : List Placed) (end : ℕ) (roots : List Root) → walk_unless_found (check_roots files es end roots) ≡ read_roots files es end roots
