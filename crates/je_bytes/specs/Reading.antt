-- Fields at the front of a list of bytes. Each is a value and the bytes after it, or none where the bytes are too few.
use Rattle.std.specs.Prelude.{◌≡◌, ◌<◌, ◌^◌, ℕ, List, [], ◌∷◌, length, take, drop, slice_index, Option, Some, None, nat_lt, if◌then◌else◌}
use Rattle.std.specs.Int.{Width, byte_len, from_be_bytes, to_be_bytes}

-- each item is a byte
abbrev pub AreBytes : List ℕ → Type 0
AreBytes bytes = (i : ℕ) → slice_index bytes i < 2 ^ 8

-- the first n bytes
abbrev pub bytes_in : ℕ → List ℕ → Option (List ℕ × List ℕ)
bytes_in n bytes = if nat_lt (length bytes) n then None else Some (take n bytes, drop n bytes)

-- the first byte
abbrev pub byte_in : List ℕ → Option (ℕ × List ℕ)
byte_in [] = None
byte_in (byte ∷ bytes) = Some (byte, bytes)

-- the number in the first bytes, the highest of them first
abbrev pub number_in : Width → List ℕ → Option (ℕ × List ℕ)
number_in w bytes = if nat_lt (length bytes) (byte_len w) then None else Some (from_be_bytes w (take (byte_len w) bytes), drop (byte_len w) bytes)

-- numbers below the limit and lists of so many bytes are each other's
pub record IsReadAsWritten (w : Width) (limit : ℕ) : Type 0 where
  pub number : (n : ℕ) → n < limit → from_be_bytes w (to_be_bytes w n) ≡ n
  pub fits : (bytes : List ℕ) → AreBytes bytes → from_be_bytes w bytes < limit
  pub bytes : (bytes : List ℕ) → length bytes ≡ byte_len w → AreBytes bytes → to_be_bytes w (from_be_bytes w bytes) ≡ bytes
