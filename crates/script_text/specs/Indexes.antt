-- The words of a line that makes an index.
use Rattle.std.specs.Prelude.{ℕ, ◌+◌, ◌-◌, ◌*◌, ◌==◌, ◌&&◌, ◌∷◌, [], nat_le, codes, List, Bool, Option, Some, None, if◌then◌else◌}
use Rattle.std.specs.Str.{bytes_eq}
use Rattle.je_order.specs.Words.{is_word}
use Rattle.store_model.specs.declared.extract.Extract.{Extract}
use Rattle.store_model.specs.declared.extract.Extract.TheVariants.{ByteSlice, Field}
use Rattle.store_model.specs.declared.call.Call.{Call}
use Rattle.store_model.specs.declared.call.Call.TheVariants.{CreateIndex}
use Rattle.script_text.specs.Bytes.{bytes_of}

-- whether a character is a decimal digit
abbrev pub is_digit : ℕ → Bool
is_digit c = nat_le 48 c && nat_le c 57

-- a number with one decimal digit more, at most 4,294,967,295
abbrev pub with_digit : ℕ → ℕ → Option ℕ
with_digit front c = if is_digit c && nat_le (10 * front + (c - 48)) 4294967295 then Some (10 * front + (c - 48)) else None

-- a number with more decimal digits behind it, if it does not get too great
abbrev pub with_digits : Option ℕ → List ℕ → Option ℕ
with_digits None word = None
with_digits (Some front) [] = Some front
with_digits (Some front) (c ∷ word) = with_digits (with_digit front c) word

-- a number has at least one digit, and no zero in front of others
abbrev pub number_of : List ℕ → Option ℕ
number_of [] = None
number_of (c ∷ []) = with_digits (Some 0) (c ∷ [])
number_of (c ∷ d ∷ word) = if c == 48 then None else with_digits (Some 0) (c ∷ d ∷ word)

-- a number, if it lies between two others
abbrev pub number_within : ℕ → ℕ → Option ℕ → Option ℕ
number_within least most None = None
number_within least most (Some number) = if nat_le least number && nat_le number most then Some number else None

-- a separator is one byte
abbrev pub one_byte : Option (List ℕ) → Option ℕ
one_byte (Some (byte ∷ [])) = Some byte
one_byte found = None

-- `slice OFFSET LENGTH` and `field NUMBER BYTE`
abbrev pub slice_by : Option ℕ → Option ℕ → Option Extract
slice_by (Some offset) (Some length) = Some (ByteSlice offset length)
slice_by offset length = None

-- an index by a field, if its number and its separator are right
abbrev pub field_by : Option ℕ → Option ℕ → Option Extract
field_by (Some number) (Some separator) = Some (Field number separator)
field_by number separator = None

-- how an index gets its keys, by the last three words of its line
abbrev pub extract_of : List ℕ → List ℕ → List ℕ → Option Extract
extract_of way first second =
    if bytes_eq way (codes "slice") then slice_by (number_within 0 65535 (number_of first)) (number_within 1 4096 (number_of second))
    else if bytes_eq way (codes "field") then field_by (number_of first) (one_byte (bytes_of second))
    else None

-- `create DB index PRIMARY ..`, behind which stands which key a record has in it
abbrev pub index_call : List ℕ → List ℕ → Option Extract → Option Call
index_call db primary (Some extract) = Some (CreateIndex db (record { primary = primary; extract = extract }))
index_call db primary None = None

-- the call of a line that makes an index
abbrev pub index_of : List ℕ → List ℕ → List ℕ → List (List ℕ) → Option Call
index_of db kind primary (way ∷ first ∷ second ∷ []) =
    if bytes_eq kind (codes "index") && is_word db && is_word primary then index_call db primary (extract_of way first second) else None
index_of db kind primary words = None
