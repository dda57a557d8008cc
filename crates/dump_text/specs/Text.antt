-- The text of a dump.
use Rattle.std.specs.Prelude.{ℕ, ◌+◌, ◌*◌, ◌≡◌, ◌≤◌, ◌∷◌, ◌++◌, [], length, codes, List, Bool, true, false, Ok, Some}
use Rattle.std.specs.List.{AllByRecursion, flat_map}
use Rattle.hex.specs.Hex.{encode_lower, IsBytes}
use Rattle.je_order.specs.declared.limits.TheConstants.{KEY_LIMIT}
use Rattle.dump_text.specs.declared.dump.Dump.{Dump}
use Rattle.dump_text.specs.declared.dump_pair.DumpPair.{DumpPair}
use Rattle.dump_text.specs.declared.parsing.TheConstants.{MOST_DUMP_LINES}
use Rattle.dump_text.specs.Grammar.{dump_of, most_bytes}
use Rattle.dump_text.specs.Values.{printed_byte}

-- a key and its data
abbrev pub KeyAndData : Type 0
KeyAndData = List ℕ × List ℕ

-- how bytes are shown: printed, or as two lower-case digits each
abbrev pub shown_bytes : Bool → List ℕ → List ℕ
shown_bytes true bytes = flat_map printed_byte bytes
shown_bytes false bytes = encode_lower bytes

-- a line with bytes is a blank, and then the bytes as they are shown
abbrev pub shown_line : Bool → List ℕ → List ℕ
shown_line printed bytes = 32 ∷ shown_bytes printed bytes ++ 10 ∷ []

-- a pair has a line for its key and one for its data
abbrev pub pair_text : Bool → KeyAndData → List ℕ
pair_text printed pair = shown_line printed pair.0 ++ shown_line printed pair.1

-- the form of the bytes
abbrev pub format_line : Bool → List ℕ
format_line true = codes "format=print\n"
format_line false = codes "format=bytevalue\n"

-- whether the database has sorted duplicates
abbrev pub dupsort_line : Bool → List ℕ
dupsort_line true = codes "dupsort=1\n"
dupsort_line false = codes "dupsort=0\n"

-- the lines before the pairs
abbrev pub header_text : Bool → Bool → List ℕ
header_text printed dup = codes "VERSION=3\n" ++ format_line printed ++ codes "type=btree\n" ++ dupsort_line dup ++ codes "HEADER=END\n"

-- the line behind the pairs
abbrev pub end_text : List ℕ
end_text = codes "DATA=END\n"

-- the text of a dump: its header, its pairs in order, and its end
abbrev pub dump_text : Bool → Bool → List KeyAndData → List ℕ
dump_text printed dup pairs = header_text printed dup ++ flat_map (pair_text printed) pairs ++ end_text

-- pairs with the numbers of their keys' lines, of which the first is this one
abbrev pub with_key_lines : ℕ → List KeyAndData → List DumpPair
with_key_lines line [] = []
with_key_lines line (pair ∷ pairs) = record { line = line; key = pair.0; value = pair.1 } ∷ with_key_lines (line + 2) pairs

-- a pair within the limits of a database, with sorted duplicates or without
pub record IsDumpPair (dup : Bool) (pair : KeyAndData) : Type 0 where
  pub key : IsBytes pair.0
  pub value : IsBytes pair.1
  pub short_key : length pair.0 ≤ KEY_LIMIT
  pub short_value : length pair.1 ≤ most_bytes dup (Some (record { line = 0; key = [] }))

-- the text of a dump of at most 1,000,000 lines is read back: its kind, which stands in line 4, and its pairs, which begin in line 6
abbrev pub DumpsAreReadBack : Type 0
DumpsAreReadBack = (printed dup : Bool) (pairs : List KeyAndData) → AllByRecursion (IsDumpPair dup) pairs → 2 * length pairs + 6 ≤ MOST_DUMP_LINES
    → dump_of (dump_text printed dup pairs) ≡ Ok (record { dup = dup; dup_line = 4; pairs = with_key_lines 6 pairs })
