-- A scan that is under way.
use Rattle.std.specs.Prelude.{ℕ, ◌≡◌, ◌≤◌, ◌<◌, ◌+◌, ◌^◌, ◌==◌, ◌&&◌, nat_lt, if◌then◌else◌, ◌++◌, List, [], ◌∷◌, length, drop, Option, None, Some}
use Rattle.log_entry.specs.declared.entry.Entry.{Entry}
use Rattle.log_entry.specs.Encoding.{size_of}
use Rattle.log_entry.specs.Prefix.{prefix_on, last_from}
use Rattle.log_file.specs.declared.scanning.Next.{Next}
use Rattle.log_file.specs.Scan.{may_follow, front, entries_behind, sizes_of}

-- the entries of a valid prefix from an offset on, behind an entry at the offset `last`
abbrev pub prefix_at : List ℕ → ℕ → ℕ → List Entry
prefix_at bytes at last = front at (prefix_on last at (drop at bytes)).entries

-- where an entry at an offset ends, if a valid prefix behind an entry at the offset `last` goes on with it
abbrev pub end_in_prefix : Entry → ℕ → ℕ → ℕ → Option ℕ
end_in_prefix entry prev at last =
    if (prev == last) && (may_follow entry && nat_lt (at + size_of entry) (2 ^ 32)) then Some (at + size_of entry) else None

-- the valid prefix goes on with this entry
pub record IsNext (bytes : List ℕ) (at last : ℕ) (next : Next) : Type 0 where
  pub goes_on : prefix_at bytes at last ≡ next.entry ∷ prefix_at bytes next.end at
  pub end : next.end ≡ at + size_of next.entry
  pub after : at < next.end
  pub within : next.end ≤ length bytes

-- the valid prefix ends
abbrev pub IsPrefixEnd : List ℕ → ℕ → ℕ → Type 0
IsPrefixEnd bytes at last = prefix_at bytes at last ≡ []

-- these entries of the valid prefix were read, up to the offset
pub record IsScanned (bytes : List ℕ) (entries : List Entry) (at last : ℕ) : Type 0 where
  pub prefix : entries ++ prefix_at bytes at last ≡ entries_behind bytes
  pub last_is : last ≡ last_from 0 26 entries
  pub at_is : at ≡ 26 + sizes_of entries
  pub within : at ≤ length bytes
