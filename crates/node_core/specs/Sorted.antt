-- Slots in the order of their names.
use Rattle.std.specs.Prelude.{◌≡◌, ℕ, ◌<◌, ◌≤◌, List, [], ◌∷◌, ◌++◌, length, take, drop, Option, Some, None, false, not, filter, slice_get, if◌then◌else◌}
use Rattle.std.specs.Ordering.{is_eq, is_lt, match_ordering}
use Rattle.std.specs.declared.cmp.Ordering.TheVariants.{Less}
use Rattle.je_order.specs.declared.name.Name.{Name}
use Rattle.je_order.specs.Order.{name_cmp}
use Rattle.node_core.specs.declared.slot.Marked.{Marked}

-- each slot's name is above this one
abbrev pub AllAbove : Name → List Marked → Type 0
AllAbove x [] = Unit {0}
AllAbove x (m ∷ ms) = (name_cmp x m.slot.name ≡ Less) × AllAbove x ms

-- names rise strictly: each is below all later ones
abbrev pub Rises : List Marked → Type 0
Rises [] = Unit {0}
Rises (m ∷ ms) = AllAbove m.slot.name ms × Rises ms

-- what a node's slots are: at most 128, their names rising strictly
pub record AreSlots (ms : List Marked) : Type 0 where
  pub rises : Rises ms
  pub few : length ms ≤ 128

-- the slot with a name
abbrev pub at : Name → List Marked → Option Marked
at x [] = None
at x (m ∷ ms) = if is_eq (name_cmp x m.slot.name) then Some m else at x ms

-- the slots with one put in: over the one of its name, or at its place between the others
abbrev pub put : Marked → List Marked → List Marked
put m [] = m ∷ []
put m (n ∷ ms) = match_ordering (name_cmp m.slot.name n.slot.name) (m ∷ n ∷ ms) (m ∷ ms) (n ∷ put m ms)

-- the slots with each of these put in, one after the other
abbrev pub put_all : List Marked → List Marked → List Marked
put_all [] ms = ms
put_all (n ∷ ns) ms = put_all ns (put n ms)

-- the slots whose names are below a name, and those whose names are above it
abbrev pub below : Name → List Marked → List Marked
below x ms = filter (λ m. is_lt (name_cmp m.slot.name x)) ms

abbrev pub above : Name → List Marked → List Marked
above x ms = filter (λ m. is_lt (name_cmp x m.slot.name)) ms

-- a slot of this name can be put in: there is one, or there are fewer than 128
abbrev pub HasRoom : Name → List Marked → Type 0
HasRoom x ms = at x ms ≡ None → length ms < 128

-- each slot's name is below this one, and no slot's is
abbrev pub AllBelow : Name → List Marked → Type 0
AllBelow x [] = Unit {0}
AllBelow x (m ∷ ms) = (name_cmp m.slot.name x ≡ Less) × AllBelow x ms

abbrev pub NoneBelow : Name → List Marked → Type 0
NoneBelow x [] = Unit {0}
NoneBelow x (m ∷ ms) = (is_lt (name_cmp m.slot.name x) ≡ false) × NoneBelow x ms

-- the place of a name: the slots before it are those with names below
pub record IsPlace (x : Name) (ms : List Marked) (i : ℕ) : Type 0 where
  pub within : i ≤ length ms
  pub before : AllBelow x (take i ms)
  pub behind : NoneBelow x (drop i ms)

-- the slot at a place is the one with the name
pub record IsAt (x : Name) (ms : List Marked) (i : ℕ) : Type 0 where
  pub within : i < length ms
  pub is : slice_get ms i ≡ at x ms

-- ---- what holds of every such list

-- after a put its slot is found by its name, and by each other name what was found before
abbrev pub FindsWhatIsPut : Type 0
FindsWhatIsPut = (x : Name) (m : Marked) (ms : List Marked) → at x (put m ms) ≡ (if is_eq (name_cmp x m.slot.name) then Some m else at x ms)

-- a put is the slots below, the new one, and the slots above
abbrev pub PutsInPlace : Type 0
PutsInPlace = (m : Marked) (ms : List Marked) → Rises ms → put m ms ≡ below m.slot.name ms ++ m ∷ above m.slot.name ms

-- lists by which the same is found by every name are the same
abbrev pub AreTheirNames : Type 0
AreTheirNames = (ms ns : List Marked) → Rises ms → Rises ns → ((x : Name) → at x ms ≡ at x ns) → ms ≡ ns
