-- The grammar of dumps: what the bytes of a dump say, or the first line that is outside it.
use Rattle.std.specs.Prelude.{ℕ, ◌≡◌, ◌+◌, ◌==◌, ◌∷◌, ◌++◌, [], nat_lt, take, drop, position, codes, List, Bool, true, false, Option, Some, None, Result, Ok, Err, if◌then◌else◌}
use Rattle.std.specs.Str.{bytes_eq}
use Rattle.je_order.specs.declared.limits.TheConstants.{KEY_LIMIT, VALUE_LIMIT}
use Rattle.dump_text.specs.declared.dump.Dump.{Dump}
use Rattle.dump_text.specs.declared.dump_pair.DumpPair.{DumpPair}
use Rattle.dump_text.specs.declared.pending_key.PendingKey.{PendingKey}
use Rattle.dump_text.specs.declared.dump_header.DumpHeader.{DumpHeader}
use Rattle.dump_text.specs.declared.dump_err.DumpErr.{DumpErr}
use Rattle.dump_text.specs.declared.dump_err.DumpErr.TheVariants.{BadDump, Memory}
use Rattle.dump_text.specs.declared.parsing.TheConstants.{MOST_DUMP_LINES}
use Rattle.text_lines.specs.Lines.{text_lines}
use Rattle.dump_text.specs.Values.{line_bytes}

-- ---- the header

-- without a line on them, bytes are in digits and the database has no sorted duplicates; 0 stands for no line on duplicates
abbrev pub first_header : DumpHeader
first_header = record { printed = false; dup = false; dup_line = 0 }

-- where no line spoke of duplicates, the line that ends the header stands for it
abbrev pub ended_header : DumpHeader → ℕ → DumpHeader
ended_header header line =
    if header.dup_line == 0 then record { printed = header.printed; dup = header.dup; dup_line = line }
    else header

-- `format=bytevalue` and `format=print`, of which the last counts
abbrev pub with_format : DumpHeader → List ℕ → Option DumpHeader
with_format header value =
    if bytes_eq value (codes "bytevalue") then Some (record { printed = false; dup = header.dup; dup_line = header.dup_line })
    else if bytes_eq value (codes "print") then Some (record { printed = true; dup = header.dup; dup_line = header.dup_line })
    else None

-- `dupsort=0` and `dupsort=1`, of which the last counts
abbrev pub with_dupsort : DumpHeader → ℕ → List ℕ → Option DumpHeader
with_dupsort header line value =
    if bytes_eq value (codes "0") then Some (record { printed = header.printed; dup = false; dup_line = line })
    else if bytes_eq value (codes "1") then Some (record { printed = header.printed; dup = true; dup_line = line })
    else None

-- a value that has to be this one
abbrev pub header_with_value : DumpHeader → List ℕ → List ℕ → Option DumpHeader
header_with_value header value wanted = if bytes_eq value wanted then Some header else None

-- the type is `btree` and a further version 3; `HEADER` may only end the header; other names are read past
abbrev pub header_with : DumpHeader → ℕ → List ℕ → List ℕ → Option DumpHeader
header_with header line name value =
    if bytes_eq name (codes "format") then with_format header value
    else if bytes_eq name (codes "dupsort") then with_dupsort header line value
    else if bytes_eq name (codes "type") then header_with_value header value (codes "btree")
    else if bytes_eq name (codes "VERSION") then header_with_value header value (codes "3")
    else if bytes_eq name (codes "HEADER") then None
    else Some header

-- a line of the header is a name, `=` and a value
abbrev pub header_cut : DumpHeader → ℕ → List ℕ → Option ℕ → Option DumpHeader
header_cut header line text None = None
header_cut header line text (Some at) = header_with header line (take at text) (drop (at + 1) text)

-- the header after one line more, if that may stand there
abbrev pub header_after : DumpHeader → ℕ → List ℕ → Option DumpHeader
header_after header line text = header_cut header line text (position (λ c. c == 61) text)

-- ---- the pairs

-- a dump, or the number of its first bad line
abbrev pub DumpOrLine : Type 0
DumpOrLine = Result Dump ℕ

-- the dump of a header and its pairs
abbrev pub dump_with : DumpHeader → List DumpPair → Dump
dump_with header pairs = record { dup = header.dup; dup_line = header.dup_line; pairs = pairs }

-- `DATA=END` may not follow a key, and no line follows it
abbrev pub dump_ended : DumpHeader → List DumpPair → Option PendingKey → ℕ → List (List ℕ) → DumpOrLine
dump_ended header pairs None line [] = Ok (dump_with header pairs)
dump_ended header pairs None line (text ∷ texts) = Err (line + 1)
dump_ended header pairs (Some key) line texts = Err line

-- a key has its limit, and data behind a key its own by the database's kind
abbrev pub most_bytes : Bool → Option PendingKey → ℕ
most_bytes true pending = KEY_LIMIT
most_bytes false None = KEY_LIMIT
most_bytes false (Some key) = VALUE_LIMIT

-- the pairs and the key behind one line more
abbrev pub pairs_after : List DumpPair → Option PendingKey → List ℕ → List DumpPair
pairs_after pairs None bytes = pairs
pairs_after pairs (Some key) bytes = pairs ++ record { line = key.line; key = key.key; value = bytes } ∷ []

-- the key whose data is to come, behind one line more
abbrev pub pending_after : ℕ → Option PendingKey → List ℕ → Option PendingKey
pending_after line None bytes = Some (record { line = line; key = bytes })
pending_after line (Some key) bytes = None

-- what follows from a good line; a bad one is the answer
abbrev pub or_bad_line : {A : Type 0} → ℕ → Option A → (A → DumpOrLine) → DumpOrLine
or_bad_line line None rest = Err line
or_bad_line line (Some x) rest = rest x

-- keys and data in turn, up to `DATA=END`; where that is missing, the line behind the last one is bad
abbrev pub pairs_from : DumpHeader → List (List ℕ) → ℕ → List DumpPair → Option PendingKey → DumpOrLine
pairs_from header [] line pairs pending = Err line
pairs_from header (text ∷ texts) line pairs pending =
    if nat_lt MOST_DUMP_LINES line then Err line
    else if bytes_eq text (codes "DATA=END") then dump_ended header pairs pending line texts
    else or_bad_line line (line_bytes header.printed (most_bytes header.dup pending) text)
    (λ bytes. pairs_from header texts (line + 1) (pairs_after pairs pending bytes) (pending_after line pending bytes))

-- ---- the whole

-- lines of the header, up to `HEADER=END`, and then the pairs
abbrev pub header_from : List (List ℕ) → ℕ → DumpHeader → DumpOrLine
header_from [] line header = Err line
header_from (text ∷ texts) line header =
    if nat_lt MOST_DUMP_LINES line then Err line
    else if bytes_eq text (codes "HEADER=END") then pairs_from (ended_header header line) texts (line + 1) [] None
    else or_bad_line line (header_after header line text) (header_from texts (line + 1))

-- the first line is `VERSION=3`
abbrev pub dump_from : List (List ℕ) → DumpOrLine
dump_from [] = Err 1
dump_from (text ∷ texts) = if bytes_eq text (codes "VERSION=3") then header_from texts 2 first_header else Err 1

-- the dump that an input is, or the number of its first bad line
abbrev pub dump_of : List ℕ → DumpOrLine
dump_of input = dump_from (text_lines input)

-- a function has answered what the grammar says, unless memory ran out
abbrev pub GivesDump : Result Dump DumpErr → DumpOrLine → Type 0
GivesDump (Ok dump) says = says ≡ Ok dump
GivesDump (Err (BadDump line)) says = says ≡ Err line
GivesDump (Err Memory) says = Unit {0}
