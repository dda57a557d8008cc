-- Trees whose images are all there and right.
use Rattle.std.specs.Prelude.{◌≡◌, ◌<◌, ℕ, zero, suc, List, [], ◌∷◌, Option, None, Some}
use Rattle.std.specs.List.{AllByRecursion}
use Rattle.std.specs.declared.cmp.Ordering.TheVariants.{Less}
use Rattle.je_order.specs.Order.{name_cmp}
use Rattle.je_order.specs.declared.name.Name.{Name}
use Rattle.log_entry.specs.declared.root.Root.{Root}
use Rattle.node_core.specs.declared.node.Node.{Node}
use Rattle.log_trees.specs.Placed.{Placed}
pub use Rattle.log_trees.specs.Bounds.{least_name, is_below, is_within, slots_inside, Child, children}
use Rattle.log_trees.specs.Images.{NamedLsn, slots_shown, node_at}
use Rattle.log_trees.specs.Trees.{data_of}

-- each name is below all later ones
abbrev pub AreUp : List NamedLsn → Type 0
AreUp [] = Unit {0}
AreUp (s ∷ slots) = AllByRecursion (λ t. name_cmp s.0 t.0 ≡ Less) slots × AreUp slots

-- the image at an LSN shows a node of this database and level, whose number is at home there, and what counts below it is right
pub record IsNodeAt (es : List Placed) (d level at : ℕ) (is_home : ℕ → Type 0) (below : Node → Type 0) : Type 0 where
  pub node : Node
  pub image : node_at es at ≡ Some node
  pub db : node.db ≡ d
  pub level_is : node.level ≡ level
  pub up : AreUp (slots_shown node)
  pub home : is_home node.number
  pub right : below node

-- a slot of a BIN at an LSN names a record of that name, at a lower LSN
abbrev pub IsRecordAt : List Placed → ℕ → ℕ → NamedLsn → Type 0
IsRecordAt es d at s = (s.1 < at) × (value : List ℕ) × (data_of es d s.0 s.1 ≡ Some value)

-- the tree below an image is right, `above` levels above its BINs: each slot of a BIN within the bounds names a record, and each child of an IN within the
-- bounds stands at a lower LSN, one level below
abbrev pub IsTreeAt : List Placed → (ℕ → ℕ → Name → Type 0) → ℕ → ℕ → Name → Option Name → ℕ → Type 0
IsTreeAt es home d zero low high at = IsNodeAt es d 1 at (λ n. home n 0 low) (λ n. AllByRecursion (IsRecordAt es d at) (slots_inside low high (slots_shown n)))
IsTreeAt es home d (suc above) low high at =
    IsNodeAt es d (suc (suc above)) at (λ n. home n (suc above) low)
    (λ n. AllByRecursion (λ c. (c.at < at) × IsTreeAt es home d above c.low c.high c.at) (children low high (slots_shown n)))

-- where a node has its place: the database, how many levels above the BINs, and the lower bound
pub record Home : Type 0 where
  pub db : ℕ
  pub above : ℕ
  pub low : Name

-- a node's number has its place here
abbrev pub at_home : (ℕ → Home) → ℕ → ℕ → ℕ → Name → Type 0
at_home home d number above low = home number ≡ record { db = d; above = above; low = low }

-- a root that a checkpoint's end at this LSN names
pub record IsRootAt (es : List Placed) (home : ℕ → Home) (end : ℕ) (root : Root) : Type 0 where
  pub lower : root.image < end
  pub above : ℕ
  pub tree : IsTreeAt es (at_home home root.db) root.db above least_name None root.image
