-- Names of changes got their slots, before anything is logged.
use Rattle.std.specs.Prelude.{◌≡◌, ◌==◌, ◌⊎◌, ◌<◌, ◌+◌, ◌^◌, ◌++◌, ℕ, List, [], ◌∷◌, Some, length, map, min, if◌then◌else◌}
use Rattle.std.specs.List.{AllByRecursion}
use Rattle.std.specs.Ordering.{nat_cmp}
use Rattle.std.specs.BTreeMap.{get}
use Rattle.je_order.specs.declared.name.Name.{Name}
use Rattle.log_entry.specs.Encoding.{size_of}
use Rattle.record_tree.specs.declared.tree_change.TreeChange.{TreeChange}
use Rattle.db_tree.specs.declared.tree.DbTree.{DbTree}
use Rattle.db_tree.specs.declared.slot_room.SlotRoom.{SlotRoom}
use Rattle.db_tree.specs.declared.node_image.NodeImage.{NodeImage}
use Rattle.db_tree.specs.Shapes.{IsPlaced, made_by}
use Rattle.db_tree.specs.NodeImages.{IsLoggable}
use Rattle.tree_images.specs.TreeSteps.{HasSlot, IsNewTree}
use Rattle.in_tree.specs.Forest.{Forest, Replaces, IsSameForest}
use Rattle.in_tree.specs.Limits.{change_size, one_made}
use Rattle.in_tree.specs.declared.placed.Placed.{Placed}

-- a name of a database has its slot: that database's tree is the one with the slot, and all else is as before
pub record IsPlacedIn (fanout db : ℕ) (x : Name) (room : SlotRoom) (old new : Forest) : Type 0 where
  pub within : db < 2 ^ 32
  pub tree : DbTree
  pub next : DbTree
  pub was : get nat_cmp old db ≡ Some tree
  pub has : Replaces old new db (Some next)
  pub placed : IsPlaced fanout x room tree next

-- the names of changes have their slots, which were made one after the other
abbrev pub ArePlaced : ℕ → List TreeChange → List SlotRoom → Forest → Forest → Type 0
ArePlaced fanout [] [] old new = IsSameForest old new
ArePlaced fanout [] (room ∷ rooms) old new = ⊥
ArePlaced fanout (c ∷ changes) [] old new = ⊥
ArePlaced fanout (c ∷ changes) (room ∷ rooms) old new = (mid : Forest) × IsPlacedIn fanout c.db c.name room old mid × ArePlaced fanout changes rooms mid new

-- the same, with what trees that fit their log need of it: new nodes have numbers from a first one on, and the images are those of the nodes
pub record IsFittedIn (fanout first db : ℕ) (x : Name) (room : SlotRoom) (old new : Forest) : Type 0 where
  pub tree : DbTree
  pub next : DbTree
  pub was : get nat_cmp old db ≡ Some tree
  pub has : Replaces old new db (Some next)
  pub slot : HasSlot fanout first db x room tree next

-- the greatest number of 64 bits, and numbers up to it
abbrev pub first_behind : ℕ → ℕ
first_behind last = min (last + 1) 0xffffffffffffffff

-- the names of changes have their slots, one after the other; node numbers go on behind a last one
abbrev pub AreFitted : ℕ → ℕ → List TreeChange → List SlotRoom → Forest → Forest → Type 0
AreFitted fanout last [] [] old new = IsSameForest old new
AreFitted fanout last [] (room ∷ rooms) old new = ⊥
AreFitted fanout last (c ∷ changes) [] old new = ⊥
AreFitted fanout last (c ∷ changes) (room ∷ rooms) old new =
    (mid : Forest) × IsFittedIn fanout (first_behind last) c.db c.name room old mid × AreFitted fanout (last + (made_by room + one_made c.makes)) changes rooms mid new

-- the images that are due of a database for the slot of a name, and for those of changes
abbrev pub due_one : ℕ → List NodeImage → ℕ → List NodeImage
due_one db images d = if db == d then images else []

abbrev pub due_of : List TreeChange → List SlotRoom → ℕ → List NodeImage
due_of [] rooms d = []
due_of (c ∷ changes) [] d = []
due_of (c ∷ changes) (room ∷ rooms) d = due_one c.db room.images.items d ++ due_of changes rooms d

-- a tree is that of a database that changes make; its root has the number behind those of its change's slot
abbrev pub IsMadeBy : ℕ → List TreeChange → List SlotRoom → ℕ → DbTree → Type 0
IsMadeBy last [] rooms d tree = ⊥
IsMadeBy last (c ∷ changes) [] d tree = ⊥
IsMadeBy last (c ∷ changes) (room ∷ rooms) d tree =
    ((c.makes ≡ Some d) × IsNewTree (min (last + (made_by room + 1)) 0xffffffffffffffff) tree) ⊎ IsMadeBy (last + (made_by room + one_made c.makes)) changes rooms d tree

-- each tree was there before, or is one of these
abbrev pub AreMadeBy : ℕ → List TreeChange → List SlotRoom → Forest → Forest → Type 0
AreMadeBy last changes rooms old new =
    (d : ℕ) (tree : DbTree) → get nat_cmp new d ≡ Some tree → (get nat_cmp old d ≡ Some tree) ⊎ IsMadeBy last changes rooms d tree

-- a change was placed behind others
pub record IsPlacedNext (fanout : ℕ) (c : TreeChange) (before after : Forest) (old new : Placed) : Type 0 where
  pub room : SlotRoom
  pub rooms : new.rooms.items ≡ old.rooms.items ++ room ∷ []
  pub placed : IsPlacedIn fanout c.db c.name room before after
  pub fitted : IsFittedIn fanout (first_behind old.last) c.db c.name room before after
  pub last : new.last ≡ min (old.last + (made_by room + one_made c.makes)) 0xffffffffffffffff

-- the sizes of the images that a slot needs
abbrev pub room_sizes : SlotRoom → List ℕ
room_sizes room = map (λ i. size_of i.entry) room.images.items

-- the sizes of the entries of changes, each behind those images
abbrev pub placed_sizes : List TreeChange → List SlotRoom → List ℕ
placed_sizes [] rooms = []
placed_sizes (c ∷ changes) [] = []
placed_sizes (c ∷ changes) (room ∷ rooms) = room_sizes room ++ change_size c ∷ placed_sizes changes rooms

-- how many numbers were allocated for nodes: those of the splits, and those of the roots of the databases that changes make
abbrev pub numbers_of : List TreeChange → List SlotRoom → ℕ
numbers_of [] rooms = 0
numbers_of (c ∷ changes) [] = 0
numbers_of (c ∷ changes) (room ∷ rooms) = made_by room + one_made c.makes + numbers_of changes rooms

-- how many images there are
abbrev pub count_images : List SlotRoom → ℕ
count_images [] = 0
count_images (room ∷ rooms) = length room.images.items + count_images rooms

-- each of them is one that a log may have
abbrev pub AreLoggable : List SlotRoom → Type 0
AreLoggable rooms = AllByRecursion (λ room. AllByRecursion (λ i. IsLoggable i.entry) room.images.items) rooms
