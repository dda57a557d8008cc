-- The one encoding of each entry.
use Rattle.std.specs.Prelude.{ℕ, ◌+◌, List, ◌∷◌, ◌++◌, length}
use Rattle.std.specs.Int.{w32, to_be_bytes}
use Rattle.je_bytes.specs.Adler.{adler32_of}
use Rattle.log_entry.specs.declared.entry.Entry.{Entry}
use Rattle.log_entry.specs.Body.{kind_of, body_of, body_size_of}

-- what stands between the checksum and the body: kind, flags, the prev field and the body's length
abbrev pub head : ℕ → ℕ → ℕ → List ℕ
head kind prev len = kind ∷ 0 ∷ (to_be_bytes w32 prev ++ to_be_bytes w32 len)

-- what the checksum is over: all that follows it
unfoldable pub summed : Entry → ℕ → List ℕ
summed entry prev = head (kind_of entry) prev (length (body_of entry)) ++ body_of entry

-- an entry with its prev field: the checksum of what follows, and that
unfoldable pub encoding : Entry → ℕ → List ℕ
encoding entry prev = to_be_bytes w32 (adler32_of (summed entry prev)) ++ summed entry prev

-- how many bytes an entry's encoding has
abbrev pub size_of : Entry → ℕ
size_of entry = 14 + body_size_of entry
