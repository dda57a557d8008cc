-- Runs of names, with bounds of how many cells there are in them.
use Rattle.std.specs.Prelude.{◌≡◌, ◌<◌, ◌≤◌, ℕ, Bool, true, List, Option, None, Some, IsSome, filter, length, slice_index_or}
use Rattle.std.specs.BTreeMap.Range.{IsLeBy}
use Rattle.std.specs.declared.cmp.Ordering.TheVariants.{Less}
use Rattle.je_order.specs.Order.{name_cmp}
use Rattle.je_order.specs.declared.name.Name.{Name}
use Rattle.record_map.specs.Cells.{value_at}
use Rattle.record_map.specs.declared.cell.Cell.{Cell}

-- a name lies in the run of a low: it is not below that, and it is below each low that is above it
abbrev pub LiesIn : List (Name × ℕ) → Name → Name → Type 0
LiesIn lows low x = IsLeBy name_cmp low x × ((q : Name) → IsSome (value_at q lows) → name_cmp low q ≡ Less → name_cmp x q ≡ Less)

-- the names of the run of a low are those of so many cells at most
abbrev pub IsBound : List (Name × ℕ) → Name → ℕ → List (Name × Cell) → Type 0
IsBound lows low bound cells = (test : Name → Bool) → ((x : Name) → test x ≡ true → LiesIn lows low x) → length (filter (λ e. test e.0) cells) ≤ bound

-- each low has the place of a bound, and the cells of its run are not more
pub record AreRuns (lows : List (Name × ℕ)) (bounds : List ℕ) (cells : List (Name × Cell)) : Type 0 where
  pub within : (low : Name) (place : ℕ) → value_at low lows ≡ Some place → place < length bounds
  pub few : (low : Name) (place : ℕ) → value_at low lows ≡ Some place → IsBound lows low (slice_index_or bounds place 0) cells

-- the run over a name, by its place: that of the greatest low up to the name
pub record IsRunOver (lows : List (Name × ℕ)) (x : Name) (place : ℕ) : Type 0 where
  pub low : Name
  pub there : value_at low lows ≡ Some place
  pub below : IsLeBy name_cmp low x
  pub most : (q : Name) → IsSome (value_at q lows) → IsLeBy name_cmp q x → IsLeBy name_cmp q low

-- the run over a name, and that there is none
abbrev pub FindsRun : List (Name × ℕ) → Name → Option ℕ → Type 0
FindsRun lows x None = (q : Name) → IsSome (value_at q lows) → IsLeBy name_cmp q x → ⊥
FindsRun lows x (Some place) = IsRunOver lows x place

-- where the run of a low ends: at the first low above it, if there is one
abbrev pub IsEnd : List (Name × ℕ) → Name → Option Name → Type 0
IsEnd lows low None = (q : Name) → IsSome (value_at q lows) → name_cmp low q ≡ Less → ⊥
IsEnd lows low (Some high) = IsSome (value_at high lows) × (name_cmp low high ≡ Less) × ((q : Name) → IsSome (value_at q lows) → name_cmp low q ≡ Less → IsLeBy name_cmp high q)
