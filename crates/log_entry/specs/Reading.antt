-- What bytes begin with: a whole entry, or why there is none.
use Rattle.std.specs.Prelude.{◌≡◌, ℕ, ◌+◌, ◌<◌, ◌^◌, ◌==◌, nat_lt, if◌then◌else◌, List, ◌++◌, length, take, drop, slice_index, Option, Some, None}
use Rattle.std.specs.Int.{Width, w32, byte_len, from_be_bytes}
use Rattle.je_bytes.specs.Adler.{adler32_of}
use Rattle.log_entry.specs.declared.entry.Entry.{Entry}
use Rattle.log_entry.specs.declared.decoder.Decoded.{Decoded}
use Rattle.log_entry.specs.declared.decoder.Decoded.TheVariants.{Whole, Torn as NotWhole}
use Rattle.log_entry.specs.declared.decoder.Torn.TheVariants.{Short, BadSum, BadKind}
use Rattle.log_entry.specs.Body.{IsEntry, entry_in}
use Rattle.log_entry.specs.Encoding.{encoding, size_of}

-- the number at a place of the bytes
abbrev pub number_at : Width → ℕ → List ℕ → ℕ
number_at w at bytes = from_be_bytes w (take (byte_len w) (drop at bytes))

-- a whole entry, where its kind, its flags and its body are those of one
abbrev pub known : ℕ → ℕ → ℕ → Option Entry → Decoded
known flags prev len None = NotWhole BadKind
known flags prev len (Some entry) = if flags == 0 then Whole entry prev len else NotWhole BadKind

-- the entry at the front of so many bytes whose checksum is right
abbrev pub whole_in : ℕ → List ℕ → Decoded
whole_in len bytes = known (slice_index bytes 5) (number_at w32 6 bytes) (14 + len) (entry_in (slice_index bytes 4) (take len (drop 14 bytes)))

-- what bytes with this body's length begin with
abbrev pub summed_in : ℕ → List ℕ → Decoded
summed_in len bytes =
    if nat_lt (length bytes) (14 + len) then NotWhole Short else
    if number_at w32 0 bytes == adler32_of (take (10 + len) (drop 4 bytes)) then whole_in len bytes else NotWhole BadSum

-- what bytes begin with: too few for a header or its body is `Short`, then another checksum is `BadSum`, then no entry's kind, flags or body is `BadKind`
unfoldable pub decoded : List ℕ → Decoded
decoded bytes = if nat_lt (length bytes) 14 then NotWhole Short else summed_in (number_at w32 10 bytes) bytes

-- a whole entry that was found is one, and its encoding is what the bytes begin with
abbrev pub IsFound : List ℕ → Decoded → Type 0
IsFound bytes (NotWhole torn) = Unit {0}
IsFound bytes (Whole entry prev len) = IsEntry entry × (prev < 2 ^ 32) × (len ≡ size_of entry) × (bytes ≡ encoding entry prev ++ drop len bytes)

-- the encoding is prefix-free: no entry's encoding begins that of another, nor its own with another prev field
abbrev pub IsOneEncoding : Type 0
IsOneEncoding = (e f : Entry) (p q : ℕ) (rest : List ℕ) → IsEntry e → IsEntry f → p < 2 ^ 32 → q < 2 ^ 32 → encoding f q ≡ encoding e p ++ rest → (f ≡ e) × (q ≡ p)
