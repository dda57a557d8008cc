-- The Adler-32 checksum (RFC 1950, part 8).
use Rattle.std.specs.Prelude.{ℕ, ◌+◌, ◌*◌, ◌%◌, List, [], ◌∷◌}

-- the sum of the bytes
abbrev pub sum_of : List ℕ → ℕ
sum_of [] = 0
sum_of (byte ∷ bytes) = byte + sum_of bytes

-- a sum that begins at `from` and grows by each byte: the total of what it is after each of them
abbrev pub running_sum_of : ℕ → List ℕ → ℕ
running_sum_of from [] = 0
running_sum_of from (byte ∷ bytes) = (from + byte) + running_sum_of (from + byte) bytes

-- the sum of the bytes plus one below, and above it the total of that sum after each byte, each modulo 65521
unfoldable pub adler32_of : List ℕ → ℕ
adler32_of bytes = running_sum_of 1 bytes % 65521 * 65536 + (1 + sum_of bytes) % 65521
