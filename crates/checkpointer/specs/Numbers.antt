-- The number of a checkpoint, and where a redo may begin.
use Rattle.std.specs.Prelude.{ℕ, ◌+◌, ◌==◌, Option, None, Some, min, if◌then◌else◌}

-- the number of the next checkpoint: 1 again behind the last one
abbrev pub number_after : ℕ → ℕ
number_after last = if last == 0xffffffffffffffff then 1 else last + 1

-- the earlier of an LSN and another one, if there is one
abbrev pub earlier_of : ℕ → Option ℕ → ℕ
earlier_of start None = start
earlier_of start (Some first) = min start first
