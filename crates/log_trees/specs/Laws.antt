-- What holds of all trees in logs.
use Rattle.std.specs.Prelude.{◌≡◌, ◌≤◌, ◌<◌, ℕ, true, List, ◌++◌, Option, Ok}
use Rattle.std.specs.List.{AllByRecursion}
use Rattle.je_order.specs.declared.name.Name.{Name}
use Rattle.log_entry.specs.declared.root.Root.{Root}
use Rattle.log_entry.specs.Body.{IsEntry}
use Rattle.log_entry.specs.Items.{rises, root_before}
use Rattle.log_trees.specs.Placed.{Placed}
use Rattle.log_trees.specs.Changes.{unwritten, last_of}
use Rattle.log_trees.specs.Trees.{slots_at, found, shows, rows_of_roots, roots_show}
use Rattle.log_trees.specs.Sound.{is_within, IsTreeAt, Home, at_home, IsRootAt}
use Rattle.log_trees.specs.Walk.{Walk, read_roots}

-- ---- longer logs

-- these entries stand behind an LSN
abbrev pub AreBehind : ℕ → List Placed → Type 0
AreBehind at more = AllByRecursion (λ p. at < p.0) more

-- what an image shows is the same in a longer log
abbrev pub SlotsStay : Type 0
SlotsStay = (es more : List Placed) (above : ℕ) (low : Name) (high : Option Name) (at : ℕ) → AreBehind at more → slots_at (es ++ more) above low high at ≡ slots_at es above low high at

abbrev pub ShowsStay : Type 0
ShowsStay = (es more : List Placed) (above at : ℕ) (x : Name) → AreBehind at more → shows (es ++ more) above at x ≡ shows es above at x

-- and so is what the roots of a checkpoint's end give
abbrev pub RootsStay : Type 0
RootsStay = (es more : List Placed) (end : ℕ) (roots : List Root) → AllByRecursion (λ p. end ≤ p.0) more → rows_of_roots (es ++ more) end roots ≡ rows_of_roots es end roots

-- which are read alike, corruptions included
abbrev pub ReadingsStay : Type 0
ReadingsStay = (files : List ℕ) (es more : List Placed) (end : ℕ) (roots : List Root) → AllByRecursion (λ p. end ≤ p.0) more → read_roots files (es ++ more) end roots ≡ read_roots files es end roots

-- a right tree is right in a longer log
abbrev pub TreesStay : Type 0
TreesStay = (es more : List Placed) (home : ℕ → Home) (d above : ℕ) (low : Name) (high : Option Name) (at : ℕ) → AreBehind at more
    → IsTreeAt es (at_home home d) d above low high at → IsTreeAt (es ++ more) (at_home home d) d above low high at

-- and so are the roots of a checkpoint's end
abbrev pub RootsStayRight : Type 0
RootsStayRight = (es more : List Placed) (home : ℕ → Home) (end : ℕ) (roots : List Root) → AllByRecursion (λ p. end ≤ p.0) more → AllByRecursion (IsRootAt es home end) roots
    → AllByRecursion (IsRootAt (es ++ more) home end) roots

-- ---- one name

-- the records below the image of a right tree are what it shows name by name
abbrev pub ShowsAreSlots : Type 0
ShowsAreSlots = (es : List Placed) (home : ℕ → Home) (d above : ℕ) (low : Name) (high : Option Name) (at : ℕ) (x : Name) → IsTreeAt es (at_home home d) d above low high at
    → is_within low high x ≡ true → found x (slots_at es above low high at) ≡ shows es above at x

-- what the roots of right trees give is what they show name by name
abbrev pub RootsShow : Type 0
RootsShow = (es : List Placed) (home : ℕ → Home) (end : ℕ) (roots : List Root) (d : ℕ) (x : Name) → rises root_before roots ≡ true → AllByRecursion (IsRootAt es home end) roots
    → last_of d x (rows_of_roots es end roots) unwritten ≡ roots_show es roots d x

-- ---- reading

-- right trees are read with no corruption
abbrev pub RootsAreRead : Type 0
RootsAreRead = (files : List ℕ) (es : List Placed) (home : ℕ → Home) (end : ℕ) (roots : List Root) → rises root_before roots ≡ true → AllByRecursion (IsRootAt es home end) roots
    → (numbers : List ℕ) × (read_roots files es end roots ≡ Ok (record { seen = numbers; rows = rows_of_roots es end roots }))

-- trees that are read with no corruption are right, with some home of their nodes' numbers, and the records that were read are those that the roots give
pub record AreRight (es : List Placed) (end : ℕ) (roots : List Root) (walk : Walk) : Type 0 where
  pub home : ℕ → Home
  pub right : AllByRecursion (IsRootAt es home end) roots
  pub rows : walk.rows ≡ rows_of_roots es end roots

abbrev pub ReadTreesAreRight : Type 0
ReadTreesAreRight = (files : List ℕ) (es : List Placed) (end : ℕ) (roots : List Root) (walk : Walk) → AllByRecursion (λ p. IsEntry p.1) es → read_roots files es end roots ≡ Ok walk
    → AreRight es end roots walk
