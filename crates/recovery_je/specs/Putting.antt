-- Nodes that are put while trees are read, and what the trees fit while a log is read again.
use Rattle.std.specs.Prelude.{◌≡◌, ◌≤◌, ◌<◌, ◌^◌, ℕ, zero, suc, Bool, true, false, List, [], ◌∷◌, Option, None, Some, not, ◌==◌, nat_le, length, if◌then◌else◌}
use Rattle.std.specs.List.{AllByRecursion, flat_map, list_all, count_by}
use Rattle.std.specs.Map.{lookup}
use Rattle.je_order.specs.declared.name.Name.{Name}
use Rattle.log_entry.specs.declared.root.Root.{Root}
use Rattle.node_core.specs.declared.slot.Marked.{Marked}
use Rattle.record_tree.specs.LoadedNodes.{AllNodes, IsLoggedAt}
use Rattle.record_tree.specs.LoadedSlots.{AllRead}
use Rattle.record_tree.specs.Stored.{AllStored}
use Rattle.log_trees.specs.Placed.{Placed}
use Rattle.log_trees.specs.Changes.{LoggedChange}
use Rattle.log_trees.specs.Images.{slot_shown}
use Rattle.log_trees.specs.Sound.{Child, children, least_name}
use Rattle.log_meaning.specs.Checkpoint.{last_checkpoint}
use Rattle.log_meaning.specs.ReadNodes.{is_delta, Loaded, AreRecordsPut, AreLoadedEach, IsLoadedBelow, IsRootLoaded, AreReadFrom}
use Rattle.recovery_je.specs.declared.walking.Walking.{Walking}
use Rattle.recovery_je.specs.Redoing.{waits}

-- ---- nodes

-- whether each entry is whole: none is a delta
abbrev pub are_whole : List Placed → Bool
are_whole es = list_all (λ p. not (is_delta p.1)) es

-- how many entries of a log count for the nodes that are made when it is read, and that wait: those from an LSN on; all of them where one is a
-- delta, since then each node that is read waits
abbrev pub count_from : ℕ → List Placed → ℕ
count_from r es = if are_whole es then count_by (λ p. nat_le r p.0) es else length es

-- those from the last checkpoint's redo LSN on
abbrev pub count_redone : List Placed → ℕ
count_redone es = count_from (last_checkpoint es).redo es

-- the nodes of trees, and what is read of their names
abbrev pub as_loaded : {T : Type 0} → (T → AllNodes) → (T → AllRead) → T → Loaded
as_loaded nodes slots trees = record { nodes = nodes trees; slots = slots trees }

-- nodes were put, with numbers up to the greatest one that was read
pub record HasPut {T : Type 0} (state : T → Loaded) (put : Bool → ℕ → Loaded → Loaded → Type 0) (old new : Walking T) : Type 0 where
  pub same : new.keeps ≡ old.keeps
  pub rises : old.node ≤ new.node
  pub puts : (most : ℕ) → new.node ≤ most → put old.keeps most (state old.trees) (state new.trees)

-- no node was put, but records
abbrev pub none_put : Bool → ℕ → Loaded → Loaded → Type 0
none_put keeps most old new = AreRecordsPut old new

-- the nodes of the tree of an IN's child were put, and those of the trees of children
abbrev pub child_put : List Placed → ℕ → ℕ → Bool → ℕ → Child → Loaded → Loaded → Type 0
child_put es d above keeps most c old new = IsLoadedBelow es keeps most d above c.low c.high c.at old new

abbrev pub children_put : List Placed → ℕ → ℕ → List Child → Bool → ℕ → Loaded → Loaded → Type 0
children_put es d above cs keeps most old new = AreLoadedEach (child_put es d above keeps most) cs old new

-- what stands below a node was put: records alone, or its children's trees
abbrev pub below_put : List Placed → ℕ → ℕ → Name → Option Name → List Marked → Bool → ℕ → Loaded → Loaded → Type 0
below_put es d zero low high slots keeps most old new = AreRecordsPut old new
below_put es d (suc above) low high slots keeps most old new = children_put es d above (children low high (flat_map slot_shown slots)) keeps most old new

-- the tree of a root of a level was put
abbrev pub level_put : List Placed → ℕ → ℕ → ℕ → Bool → ℕ → Loaded → Loaded → Type 0
level_put es d level at keeps most old new = (above : ℕ) × (level ≡ suc above) × IsLoadedBelow es keeps most d above least_name None at old new

-- the trees of roots were put, with numbers up to a greatest one; images are kept only where no entry is a delta
pub record AreRootsPut (es : List Placed) (roots : List Root) (node : ℕ) (begun after : Loaded) : Type 0 where
  pub keeps : Bool
  pub whole : keeps ≡ true → AllByRecursion (λ p. is_delta p.1 ≡ false) es
  pub put : (most : ℕ) → node ≤ most → AreLoadedEach (IsRootLoaded es keeps most) roots begun after

-- ---- a redo

-- a change stands in a log whose LSNs are below a base
abbrev pub IsLogged : List Placed → ℕ → LoggedChange → Type 0
IsLogged es base c = (c.written.at < base) × IsLoggedAt es c.db c.name c.written.at c.written.value

-- where the first of changes was logged, 0 where there is none
abbrev pub first_lsn : List LoggedChange → ℕ
first_lsn [] = 0
first_lsn (c ∷ changes) = c.written.at

-- an entry stands in a log at an LSN below a base
abbrev pub IsIn : List Placed → ℕ → Placed → Type 0
IsIn es base p = (p.0 < base) × (lookup (λ n. n == p.0) es ≡ Some p.1)

-- trees fit a log, in which the changes stand that wait
pub record FitsRedo {T : Type 0} (fits : T → List Placed → ℕ → Type 0) (es : List Placed) (base : ℕ) (trees : T) (kept : List (ℕ × List LoggedChange)) : Type 0 where
  pub fit : fits trees es base
  pub logged : (txn : ℕ) → AllByRecursion (IsLogged es base) (waits kept txn)

-- trees that were read from a checkpoint's roots and went through a redo from its redo LSN on: they fit a log's entries as they did before it
pub record HasReadAgain {T : Type 0} (well_formed : T → Type 0) (nodes : T → AllNodes) (slots : T → AllRead) (stored : T → AllStored) (last_number : T → ℕ) (fits : T → List Placed → ℕ → Type 0) (trees : T) (redo : ℕ) (es : List Placed) : Type 0 where
  pub read : T
  pub formed : well_formed read
  pub roots : AreReadFrom es (last_checkpoint es) (nodes read) (slots read) (stored read) (last_number read)
  pub fit : (base : ℕ) → base < 2 ^ 64 → AllByRecursion (λ p. p.0 < base) es → fits read es base → fits trees es base
  pub redo_is : (last_checkpoint es).redo ≡ redo
