-- Bytes that are read as a number.
use Rattle.std.specs.Prelude.{ℕ, List, ◌≡◌, ◌<◌}
use Rattle.std.specs.List.{AllByRecursion}
use Rattle.std.specs.Slice.Scan.{big_endian}

-- they are bytes, and with the greatest first they are the digits of the number
abbrev pub IsSpelled : List ℕ → ℕ → Type 0
IsSpelled bytes number = AllByRecursion (λ b. b < 256) bytes × (number ≡ big_endian 0 bytes)
