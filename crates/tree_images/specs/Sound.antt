-- Images that are all there and right, down to the BINs, as far as they lie within the bounds of their nodes.
use Rattle.std.specs.Prelude.{◌≡◌, ◌<◌, ◌≤◌, ℕ, zero, suc, true, List, Option, Some, map}
use Rattle.std.specs.List.{AllByRecursion}
use Rattle.je_order.specs.declared.name.Name.{Name}
use Rattle.log_entry.specs.Body.{IsEntry}
use Rattle.log_entry.specs.declared.child_slot.ChildSlot.{ChildSlot}
use Rattle.log_entry.specs.declared.record_slot.RecordSlot.{RecordSlot}
use Rattle.log_entry.specs.declared.entry.Entry.TheVariants.{In, Bin}
use Rattle.log_trees.specs.Bounds.{is_within, Child, children}
use Rattle.log_trees.specs.Sound.{Home, at_home}
use Rattle.log_trees.specs.Building.{child_shown, NamesRecord}
use Rattle.db_tree.specs.Images.{Placed, entry_at}

-- a node's number was allocated, up to a last one, and has its place here
abbrev pub IsNumber : (ℕ → Home) → ℕ → ℕ → ℕ → ℕ → Name → Type 0
IsNumber home last d number level low = (number ≤ last) × at_home home d number level low

-- the image of a BIN of a database: each slot within the bounds names a record of that name at a lower LSN
pub record IsSoundBin (es : Placed) (home : ℕ → Home) (last d : ℕ) (low : Name) (high : Option Name) (at : ℕ) : Type 0 where
  pub number : ℕ
  pub slots : List RecordSlot
  pub image : entry_at es at ≡ Some (Bin d number slots)
  pub entry : IsEntry (Bin d number slots)
  pub own : IsNumber home last d number 0 low
  pub records : AllByRecursion (λ s. is_within low high s.name ≡ true → NamesRecord es d at s) slots

-- the image of an IN of a database, `above` levels above its children: each child within the bounds is right
pub record IsSoundIn (es : Placed) (home : ℕ → Home) (last d above : ℕ) (low : Name) (high : Option Name) (at : ℕ) (IsRight : Child → Type 0) : Type 0 where
  pub number : ℕ
  pub slots : List ChildSlot
  pub image : entry_at es at ≡ Some (In d number (suc (suc above)) slots)
  pub entry : IsEntry (In d number (suc (suc above)) slots)
  pub own : IsNumber home last d number (suc above) low
  pub below : AllByRecursion IsRight (children low high (map child_shown slots))

-- the image at an LSN, of a node of a level, is sound, and so is all below it: each child stands at a lower LSN, within its slot's bounds
abbrev pub IsSoundImage : Placed → (ℕ → Home) → ℕ → ℕ → ℕ → Name → Option Name → ℕ → Type 0
IsSoundImage es home last d zero low high at = IsSoundBin es home last d low high at
IsSoundImage es home last d (suc above) low high at = IsSoundIn es home last d above low high at (λ c. (c.at < at) × IsSoundImage es home last d above c.low c.high c.at)
