-- A file's valid prefix: the entries from its beginning, each with the offset of the one before it as its prev field.
use Rattle.std.specs.Prelude.{◌≡◌, ◌≢◌, ℕ, zero, suc, ◌+◌, ◌<◌, ◌≤◌, ◌^◌, ◌==◌, if◌then◌else◌, List, [], ◌∷◌, ◌++◌, length, drop}
use Rattle.std.specs.List.{AllByRecursion}
use Rattle.je_bytes.specs.Reading.{AreBytes}
use Rattle.log_entry.specs.declared.entry.Entry.{Entry}
use Rattle.log_entry.specs.declared.decoder.Decoded.{Decoded}
use Rattle.log_entry.specs.declared.decoder.Decoded.TheVariants.{Whole, Torn as NotWhole}
use Rattle.log_entry.specs.Body.{IsEntry}
use Rattle.log_entry.specs.Encoding.{encoding, size_of}
use Rattle.log_entry.specs.Reading.{decoded}

-- the entries' encodings one after another from an offset, the first with this prev field, and each later one with the offset of the one before it
abbrev pub encoded : ℕ → ℕ → List Entry → List ℕ
encoded prev at [] = []
encoded prev at (entry ∷ entries) = encoding entry prev ++ encoded at (at + size_of entry) entries

-- what a file's bytes are: the entries of its valid prefix, the offset of the last of them, and the bytes that follow the valid prefix
pub record Prefix : Type 0 where
  pub entries : List Entry
  pub last : ℕ
  pub rest : List ℕ

-- a valid prefix with no entry more
abbrev pub prefix_end : ℕ → List ℕ → Prefix
prefix_end last bytes = record { entries = []; last = last; rest = bytes }

-- a valid prefix with one entry more at its beginning
abbrev pub prefix_after : Entry → Prefix → Prefix
prefix_after entry prefix = record { entries = entry ∷ prefix.entries; last = prefix.last; rest = prefix.rest }

-- what follows, where a whole entry with this prev field comes first; `more` is the valid prefix from behind so many bytes
abbrev pub prefix_by : ℕ → List ℕ → Decoded → (ℕ → Prefix) → Prefix
prefix_by prev bytes (NotWhole torn) more = prefix_end prev bytes
prefix_by prev bytes (Whole entry field len) more = if field == prev then prefix_after entry (more len) else prefix_end prev bytes

-- the longest valid prefix of at most so many entries from an offset, the first with this prev field
unfoldable pub prefix_from : ℕ → ℕ → ℕ → List ℕ → Prefix
prefix_from zero prev at bytes = prefix_end prev bytes
prefix_from (suc most) prev at bytes = prefix_by prev bytes (decoded bytes) (λ len. prefix_from most at (at + len) (drop len bytes))

-- the longest valid prefix from an offset, the first entry with this prev field. An entry has bytes, so there are no more entries than bytes
unfoldable pub prefix_on : ℕ → ℕ → List ℕ → Prefix
prefix_on prev at bytes = prefix_from (length bytes) prev at bytes

-- the entries of a file's valid prefix
abbrev pub prefix_of : List ℕ → List Entry
prefix_of bytes = (prefix_on 0 0 bytes).entries

-- the bytes that follow a file's valid prefix
abbrev pub torn_tail_of : List ℕ → List ℕ
torn_tail_of bytes = (prefix_on 0 0 bytes).rest

-- the offset of the last entry of a file's valid prefix, 0 where there is none: the prev field of the next one
abbrev pub last_offset_of : List ℕ → ℕ
last_offset_of bytes = (prefix_on 0 0 bytes).last

-- the offset of the last of these entries, encoded from an offset on; without one, the prev field that it began with
abbrev pub last_from : ℕ → ℕ → List Entry → ℕ
last_from prev at [] = prev
last_from prev at (entry ∷ entries) = last_from at (at + size_of entry) entries

-- a valid prefix with these entries before it
abbrev pub prefix_before : List Entry → Prefix → Prefix
prefix_before entries prefix = record { entries = entries ++ prefix.entries; last = prefix.last; rest = prefix.rest }

-- ---- what holds of every file

-- its bytes are its valid prefix's encodings and the torn tail, and the valid prefix's entries are entries
abbrev pub AreEncoded : Type 0
AreEncoded = (bytes : List ℕ) → AreBytes bytes → (bytes ≡ encoded 0 0 (prefix_of bytes) ++ torn_tail_of bytes) × AllByRecursion IsEntry (prefix_of bytes)

-- entries that are encoded in at most 2^32 bytes are its valid prefix, with nothing behind them
abbrev pub AreFound : Type 0
AreFound = (entries : List Entry) → AllByRecursion IsEntry entries → length (encoded 0 0 entries) ≤ 2 ^ 32
    → prefix_on 0 0 (encoded 0 0 entries) ≡ record { entries = entries; last = last_from 0 0 entries; rest = [] }

-- a file of less than 2^32 bytes with nothing behind its valid prefix has one entry more after an append with the last entry's offset as prev field; that entry's offset is the length that the file had
abbrev pub GrowsByAppend : Type 0
GrowsByAppend = (bytes : List ℕ) (entry : Entry) → torn_tail_of bytes ≡ [] → length bytes < 2 ^ 32 → IsEntry entry
    → prefix_on 0 0 (bytes ++ encoding entry (last_offset_of bytes)) ≡ record { entries = prefix_of bytes ++ entry ∷ []; last = length bytes; rest = [] }

-- no valid prefix is longer: no whole entry with the last entry's offset as prev field follows it
abbrev pub IsLongest : Type 0
IsLongest = (bytes : List ℕ) (entry : Entry) (len : ℕ) → decoded (torn_tail_of bytes) ≢ Whole entry (last_offset_of bytes) len
