-- What reading does to the bytes that a source has left, if it is observable.
use Rattle.std.specs.Prelude.{◌≡◌, ◌<◌, ◌≤◌, ◌+◌, ℕ, List, [], ◌++◌, length, take, drop, Option, Some, None}

-- a read of `count` bytes into a piece: they are the next of what was left and stand at the piece's front, the rest of the
-- piece stays, and a piece with room gets none only where nothing was left
pub record IsRead (left rest before after : List ℕ) (count : ℕ) : Type 0 where
  pub taken : left ≡ take count after ++ rest
  pub others : drop count after ≡ drop count before
  pub none_left : count ≡ 0 → 0 < length before → left ≡ []

-- an observable source has read so and stays observable; an unobservable one stays unobservable
abbrev pub Takes : Option (List ℕ) → Option (List ℕ) → List ℕ → List ℕ → ℕ → Type 0
Takes (Some left) (Some rest) before after count = IsRead left rest before after count
Takes (Some left) None before after count = ⊥
Takes None (Some rest) before after count = ⊥
Takes None None before after count = Unit {0}

-- the bytes read are what was left, or of a longer rest its first `most + 1` bytes; the source has lost them and no more, and
-- is at its end where they are at most `most`
pub record IsAllRead (left rest : List ℕ) (most : ℕ) (bytes : List ℕ) : Type 0 where
  pub front : bytes ≡ take (most + 1) left
  pub behind : rest ≡ drop (most + 1) left
  pub at_end : length bytes ≤ most → rest ≡ []

-- the same for an observable source
abbrev pub TakesAll : Option (List ℕ) → Option (List ℕ) → ℕ → List ℕ → Type 0
TakesAll (Some left) (Some rest) most bytes = IsAllRead left rest most bytes
TakesAll (Some left) None most bytes = ⊥
TakesAll None (Some rest) most bytes = ⊥
TakesAll None None most bytes = Unit {0}

-- an observable source has lost these bytes, the first that were left
abbrev pub Loses : Option (List ℕ) → Option (List ℕ) → List ℕ → Type 0
Loses (Some left) (Some rest) taken = left ≡ taken ++ rest
Loses (Some left) None taken = ⊥
Loses None (Some rest) taken = ⊥
Loses None None taken = Unit {0}

-- an observable source has lost some bytes, the first that were left
abbrev pub LosesSome : Option (List ℕ) → Option (List ℕ) → Type 0
LosesSome before after = (taken : List ℕ) × Loses before after taken
