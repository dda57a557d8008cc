-- Counts that stand still at the last value of a u64.
use Rattle.std.specs.Prelude.{◌≡◌, ◌<◌, ◌⊎◌, ◌-◌, ◌^◌, ℕ}

-- a count of faults rose: it is greater than before, or it stood at the last value of a u64, where it stays
abbrev pub HasRisen : ℕ → ℕ → Type 0
HasRisen before after = (before < after) ⊎ (before ≡ 2 ^ 64 - 1)
