-- The nodes of the trees that a checkpoint's roots give, once they were read.
use Rattle.std.specs.Prelude.{◌≡◌, ◌≤◌, ◌⊎◌, ℕ, zero, suc, min, Bool, true, false, List, [], ◌∷◌, Option, None, Some}
use Rattle.std.specs.List.{AllByRecursion}
use Rattle.std.specs.Map.{lookup}
use Rattle.std.specs.Ordering.{is_eq}
use Rattle.je_order.specs.Order.{name_cmp}
use Rattle.je_order.specs.declared.name.Name.{Name}
use Rattle.log_entry.specs.Body.{IsEntry}
use Rattle.log_entry.specs.Items.{rises, root_before}
use Rattle.log_entry.specs.declared.entry.Entry.{Entry}
use Rattle.log_entry.specs.declared.entry.Entry.TheVariants.{BinDelta}
use Rattle.log_entry.specs.declared.root.Root.{Root}
use Rattle.node_core.specs.declared.node.Node.{Node}
use Rattle.record_tree.specs.LoadedNodes.{AllNodes, node_read, HasPutNode, AreNodesStill}
use Rattle.record_tree.specs.LoadedSlots.{AllRead, shows_deletion_inside, slot_put, HasGone, IsReadStill}
use Rattle.record_tree.specs.Stored.{Stored, AllStored, stored_at}
use Rattle.log_trees.specs.Placed.{Placed}
use Rattle.log_trees.specs.Changes.{Written, unwritten, last_of}
use Rattle.log_trees.specs.Images.{slots_shown, node_at, level_at}
use Rattle.log_trees.specs.Sound.{Child, children, least_name, Home, IsRootAt}
use Rattle.log_trees.specs.Trees.{rows_of_roots}
use Rattle.log_meaning.specs.Checkpoint.{Checkpoint}

-- whether an entry is a delta
abbrev pub is_delta : Entry → Bool
is_delta (BinDelta db node full slots) = true
is_delta entry = false

-- the record that was written, if one is there
abbrev pub stored_of : Written → Option Stored
stored_of written = stored_at written.at written.value

-- nodes were put for each of a list, in order
abbrev pub ArePutEach : {A : Type 0} → (A → AllNodes → AllNodes → Type 0) → List A → AllNodes → AllNodes → Type 0
ArePutEach put [] old new = AreNodesStill old new
ArePutEach put (x ∷ xs) old new = (mid : AllNodes) × put x old mid × ArePutEach put xs mid new

-- the node that the image at an LSN shows was put; its number is at most `most`
pub record IsNodePut (es : List Placed) (keeps : Bool) (most d above : ℕ) (low : Name) (at : ℕ) (node : Node) (old new : AllNodes) : Type 0 where
  pub image : node_at es at ≡ Some node
  pub allocated : node.number ≤ most
  pub put : HasPutNode old new d above low (node_read node.number at keeps)

-- the nodes of the tree below an image were put, that `above` levels above its BINs first
abbrev pub ArePutBelow : List Placed → Bool → ℕ → ℕ → ℕ → Name → Option Name → ℕ → AllNodes → AllNodes → Type 0
ArePutBelow es keeps most d zero low high at old new = (node : Node) × IsNodePut es keeps most d 0 low at node old new
ArePutBelow es keeps most d (suc above) low high at old new =
    (node : Node) × (mid : AllNodes) × IsNodePut es keeps most d (suc above) low at node old mid
    × ArePutEach (λ (c : Child). ArePutBelow es keeps most d above c.low c.high c.at) (children low high (slots_shown node)) mid new

-- those of a root's tree were
abbrev pub IsRootPut : List Placed → Bool → ℕ → Root → AllNodes → AllNodes → Type 0
IsRootPut es keeps most root old new = (above : ℕ) × (level_at es root.image ≡ suc above) × ArePutBelow es keeps most root.db above least_name None root.image old new

-- ---- nodes, and what is read of names

-- the nodes of each database, and what is read of its names
pub record Loaded : Type 0 where
  pub nodes : AllNodes
  pub slots : AllRead

-- nothing changed
pub record IsLoadedStill (old new : Loaded) : Type 0 where
  pub nodes : AreNodesStill old.nodes new.nodes
  pub slots : IsReadStill old.slots new.slots

-- records were put: no node changed, and each name whose slot changed got that of a record
pub record AreRecordsPut (old new : Loaded) : Type 0 where
  pub nodes : AreNodesStill old.nodes new.nodes
  pub slots : (d : ℕ) (x : Name) → (new.slots d x ≡ old.slots d x) ⊎ ((lsn : ℕ) × (new.slots d x ≡ Some (slot_put lsn)))

-- the node that the image at an LSN shows was put, with the slots within its bounds that this has of records that were deleted
pub record IsNodeLoaded (es : List Placed) (keeps : Bool) (most d above : ℕ) (low : Name) (high : Option Name) (at : ℕ) (node : Node) (old new : Loaded) : Type 0 where
  pub put : IsNodePut es keeps most d above low at node old.nodes new.nodes
  pub slots : HasGone old.slots new.slots d (shows_deletion_inside low high node.slots) at

-- nodes and records were put for each of a list, in order
abbrev pub AreLoadedEach : {A : Type 0} → (A → Loaded → Loaded → Type 0) → List A → Loaded → Loaded → Type 0
AreLoadedEach put [] old new = IsLoadedStill old new
AreLoadedEach put (x ∷ xs) old new = (mid : Loaded) × put x old mid × AreLoadedEach put xs mid new

-- the tree below an image was put: a BIN and then its records, or an IN and then the trees of its children
abbrev pub IsLoadedBelow : List Placed → Bool → ℕ → ℕ → ℕ → Name → Option Name → ℕ → Loaded → Loaded → Type 0
IsLoadedBelow es keeps most d zero low high at old new =
    (node : Node) × (mid : Loaded) × IsNodeLoaded es keeps most d 0 low high at node old mid × AreRecordsPut mid new
IsLoadedBelow es keeps most d (suc above) low high at old new =
    (node : Node) × (mid : Loaded) × IsNodeLoaded es keeps most d (suc above) low high at node old mid
    × AreLoadedEach (λ (c : Child). IsLoadedBelow es keeps most d above c.low c.high c.at) (children low high (slots_shown node)) mid new

-- the tree of a root was put
abbrev pub IsRootLoaded : List Placed → Bool → ℕ → Root → Loaded → Loaded → Type 0
IsRootLoaded es keeps most root old new =
    (above : ℕ) × (level_at es root.image ≡ suc above) × IsLoadedBelow es keeps most root.db above least_name None root.image old new

-- the trees of a checkpoint's roots were read: their images are right, the records are those that they give, and the nodes and slots are those that they show, but
-- for their images where the log has deltas. No node's number is above the one that was allocated last, as far as numbers go
pub record AreReadFrom (es : List Placed) (c : Checkpoint) (nodes : AllNodes) (slots : AllRead) (stored : AllStored) (last : ℕ) : Type 0 where
  pub entries : AllByRecursion (λ p. IsEntry p.1) es
  pub rise : rises root_before c.roots ≡ true
  pub home : ℕ → Home
  pub right : AllByRecursion (IsRootAt es home c.at) c.roots
  pub records : (d : ℕ) (x : Name) → lookup (λ y. is_eq (name_cmp x y)) (stored d) ≡ stored_of (last_of d x (rows_of_roots es c.at c.roots) unwritten)
  pub keeps : Bool
  pub whole : keeps ≡ true → AllByRecursion (λ p. is_delta p.1 ≡ false) es
  pub most : ℕ
  pub reach : min most 0x7fffffffffffffff ≤ last
  pub begun : Loaded
  pub none : (d k : ℕ) (low : Name) → begun.nodes d k low ≡ None
  pub bare : (d : ℕ) (x : Name) → begun.slots d x ≡ None
  pub put : AreLoadedEach (IsRootLoaded es keeps most) c.roots begun (record { nodes = nodes; slots = slots })
