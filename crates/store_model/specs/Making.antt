-- What an index is made of, and the limits of a slice.
use Rattle.std.specs.Prelude.{ℕ, ◌≤◌, List}
use Rattle.store_model.specs.declared.extract.Extract.{Extract}
use Rattle.store_model.specs.declared.extract.Extract.TheVariants.{ByteSlice, Field}

-- the name of its primary, and the key that it has for a record
pub record IndexParts : Type 0 where
  pub primary : List ℕ
  pub extract : Extract

-- the limits of a slice: its offset is at most 65,535, and it has 1 to 4,096 bytes
abbrev pub IsSlice : ℕ → ℕ → Type 0
IsSlice offset len = (offset ≤ 65535) × (1 ≤ len) × (len ≤ 4096)

abbrev pub IsWithinLimits : Extract → Type 0
IsWithinLimits (ByteSlice offset len) = IsSlice offset len
IsWithinLimits (Field number separator) = Unit {0}
