-- The names of log files (Getting Started Guide, "Log files": eight hexadecimal digits and `.jdb`).
use Rattle.std.specs.Prelude.{ℕ, ◌+◌, ◌-◌, ◌*◌, ◌/◌, ◌%◌, nat_le, if◌then◌else◌, ◌&&◌, List, [], ◌∷◌, slice_index}

-- the greatest number that a log file has
abbrev pub last_file : ℕ
last_file = 0xfffffffe

-- the character of a hexadecimal digit: 0 to 9, then a to f
unfoldable pub digit : ℕ → ℕ
digit d = if nat_le d 9 then 48 + d else 97 + (d - 10)

-- the digit that a character shows; a character that shows none counts as 0
unfoldable pub digit_value : ℕ → ℕ
digit_value c =
    if nat_le 48 c && nat_le c 57 then c - 48 else (if nat_le 97 c && nat_le c 102 then c - 87 else 0)

-- the name of a file: its number in eight hexadecimal digits, and `.jdb`
abbrev pub name_of : ℕ → List ℕ
name_of f =
    digit (f / 0x10000000 % 16) ∷ digit (f / 0x1000000 % 16) ∷ digit (f / 0x100000 % 16) ∷ digit (f / 0x10000 % 16) ∷
    digit (f / 0x1000 % 16) ∷ digit (f / 0x100 % 16) ∷ digit (f / 0x10 % 16) ∷ digit (f % 16) ∷
    46 ∷ 106 ∷ 100 ∷ 98 ∷ []

-- the number that a text's first eight characters show as hexadecimal digits
abbrev pub number_in_name : List ℕ → ℕ
number_in_name name =
    (digit_value (slice_index name 0) * 0x1000 + digit_value (slice_index name 1) * 0x100 + digit_value (slice_index name 2) * 0x10 + digit_value (slice_index name 3)) * 0x10000
    + (digit_value (slice_index name 4) * 0x1000 + digit_value (slice_index name 5) * 0x100 + digit_value (slice_index name 6) * 0x10 + digit_value (slice_index name 7))
