-- Images that are logged: when they are right, and what they show.
use Rattle.std.specs.Prelude.{◌≡◌, ◌<◌, ℕ, suc, true, List, Option, Some, IfSome, map, find}
use Rattle.std.specs.Option.{option_and_then}
use Rattle.std.specs.List.{AllByRecursion}
use Rattle.std.specs.Ordering.{is_eq}
use Rattle.je_order.specs.Order.{name_cmp}
use Rattle.je_order.specs.declared.name.Name.{Name}
use Rattle.log_entry.specs.declared.entry.Entry.TheVariants.{In, Bin}
use Rattle.log_entry.specs.declared.child_slot.ChildSlot.{ChildSlot}
use Rattle.log_entry.specs.declared.record_slot.RecordSlot.{RecordSlot}
use Rattle.log_entry.specs.Body.{IsEntry}
use Rattle.log_trees.specs.Placed.{Placed, entry_at}
use Rattle.log_trees.specs.Images.{NamedLsn}
use Rattle.log_trees.specs.Trees.{child_over, shows, data_of}
use Rattle.log_trees.specs.Sound.{is_within, Child, children, IsTreeAt, Home, at_home}

-- a slot of an IN as a name with its LSN
abbrev pub child_shown : ChildSlot → NamedLsn
child_shown slot = (slot.name, slot.child)

-- the record that a BIN's slot names, if it names one, stands at a lower LSN
abbrev pub NamesRecord : List Placed → ℕ → ℕ → RecordSlot → Type 0
NamesRecord es d at slot = IfSome slot.lsn (λ lsn. (lsn < at) × (value : List ℕ) × (data_of es d slot.name lsn ≡ Some value))

-- ---- what makes an image right

abbrev pub BinsAreRight : Type 0
BinsAreRight = (es : List Placed) (home : ℕ → Home) (d number : ℕ) (slots : List RecordSlot) (low : Name) (high : Option Name) (at : ℕ)
    → entry_at es at ≡ Some (Bin d number slots) → IsEntry (Bin d number slots) → at_home home d number 0 low
    → AllByRecursion (λ s. is_within low high s.name ≡ true → NamesRecord es d at s) slots → IsTreeAt es (at_home home d) d 0 low high at

abbrev pub InsAreRight : Type 0
InsAreRight = (es : List Placed) (home : ℕ → Home) (d number above : ℕ) (slots : List ChildSlot) (low : Name) (high : Option Name) (at : ℕ)
    → entry_at es at ≡ Some (In d number (suc (suc above)) slots) → IsEntry (In d number (suc (suc above)) slots)
    → at_home home d number (suc above) low
    → AllByRecursion (λ (c : Child). (c.at < at) × IsTreeAt es (at_home home d) d above c.low c.high c.at) (children low high (map child_shown slots))
    → IsTreeAt es (at_home home d) d (suc above) low high at

-- ---- what an image shows

-- a BIN shows for a name within its bounds what its slot has
abbrev pub BinsShow : Type 0
BinsShow = (es : List Placed) (d number : ℕ) (slots : List RecordSlot) (low : Name) (high : Option Name) (at : ℕ) (x : Name) → entry_at es at ≡ Some (Bin d number slots)
    → IsEntry (Bin d number slots) → AllByRecursion (λ s. is_within low high s.name ≡ true → IfSome s.lsn (λ lsn. lsn < at)) slots → is_within low high x ≡ true
    → shows es 0 at x ≡ option_and_then (λ s. s.lsn) (find (λ s. is_eq (name_cmp x s.name)) slots)

-- an IN shows for a name within its bounds what its child over the name shows
abbrev pub InsShow : Type 0
InsShow = (es : List Placed) (d number above : ℕ) (slots : List ChildSlot) (low : Name) (high : Option Name) (at : ℕ) (x : Name) → entry_at es at ≡ Some (In d number (suc (suc above)) slots)
    → IsEntry (In d number (suc (suc above)) slots) → AllByRecursion (λ (c : Child). c.at < at) (children low high (map child_shown slots)) → is_within low high x ≡ true
    → shows es (suc above) at x ≡ option_and_then (λ c. shows es above c x) (child_over x (map child_shown slots))
