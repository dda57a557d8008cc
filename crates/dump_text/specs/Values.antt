-- The bytes that a line of a dump shows.
use Rattle.std.specs.Prelude.{ℕ, ◌+◌, ◌*◌, ◌==◌, ◌&&◌, ◌∷◌, ◌++◌, [], nat_le, is_some, length, List, Bool, true, false, Option, Some, None, Result, Ok, Err, if◌then◌else◌}
use Rattle.hex.specs.Hex.{decode_of, hex_digit_value, encode_lower}
use Rattle.hex.specs.declared.error.FromHexError.{FromHexError}
use Rattle.dump_text.specs.declared.escape.Escape.{Escape}
use Rattle.dump_text.specs.declared.escape.Escape.TheVariants.{Text, Slash, Digit}
use Rattle.dump_text.specs.declared.unescaped.Unescaped.{Unescaped}

-- ---- printed bytes

-- the byte of two hexadecimal digits
abbrev pub byte_of_digits : Option ℕ → Option ℕ → Option ℕ
byte_of_digits (Some high) (Some low) = Some (high * 16 + low)
byte_of_digits high low = None

-- a byte that may be printed as itself
abbrev pub is_printable : ℕ → Bool
is_printable c = nat_le 32 c && nat_le c 126

-- a printed text goes on so, behind a byte that it shows or none
abbrev pub escape_gives : Escape → Option ℕ → Option Unescaped
escape_gives escape byte = Some (record { escape = escape; byte = byte })

-- it goes on behind the byte of two digits, if they were digits
abbrev pub digits_give : Option ℕ → Option Unescaped
digits_give (Some byte) = escape_gives Text (Some byte)
digits_give None = None

-- what one more byte of a printed text comes to: it is shown as itself, or a backslash begins a second backslash or the two digits of a byte
abbrev pub escape_step : Escape → ℕ → Option Unescaped
escape_step Text c =
    if c == 92 then escape_gives Slash None
    else if is_printable c then escape_gives Text (Some c)
    else None
escape_step Slash c =
    if c == 92 then escape_gives Text (Some c)
    else if is_some (hex_digit_value c) then escape_gives (Digit c) None
    else None
escape_step (Digit high) c = digits_give (byte_of_digits (hex_digit_value high) (hex_digit_value c))

-- bytes, and one behind them, if there is one
abbrev pub with_byte : List ℕ → Option ℕ → List ℕ
with_byte bytes None = bytes
with_byte bytes (Some byte) = bytes ++ byte ∷ []

-- a text may not end behind a backslash or a first digit
abbrev pub whole_unprinted : Escape → List ℕ → Option (List ℕ)
whole_unprinted Text bytes = Some bytes
whole_unprinted Slash bytes = None
whole_unprinted (Digit high) bytes = None

-- what the rest shows behind a step, if that was right
abbrev pub unprinted_behind : Option Unescaped → List ℕ → (Escape → List ℕ → Option (List ℕ)) → Option (List ℕ)
unprinted_behind None bytes rest = None
unprinted_behind (Some u) bytes rest = rest u.escape (with_byte bytes u.byte)

-- the bytes shown so far, and those that the rest of a text shows
abbrev pub unprinted_from : List ℕ → Escape → List ℕ → Option (List ℕ)
unprinted_from [] escape bytes = whole_unprinted escape bytes
unprinted_from (c ∷ text) escape bytes = unprinted_behind (escape_step escape c) bytes (unprinted_from text)

-- the bytes that a printed text shows, if it is one
abbrev pub unprinted : List ℕ → Option (List ℕ)
unprinted text = unprinted_from text Text []

-- how a byte is printed: a backslash twice, other printable bytes as themselves, all others as a backslash and two digits
abbrev pub printed_byte : ℕ → List ℕ
printed_byte c =
    if c == 92 then 92 ∷ 92 ∷ []
    else if is_printable c then c ∷ []
    else 92 ∷ encode_lower (c ∷ [])

-- ---- a line

-- the bytes that digits spell, if they are such
abbrev pub if_decoded : Result (List ℕ) FromHexError → Option (List ℕ)
if_decoded (Ok bytes) = Some bytes
if_decoded (Err e) = None

-- the bytes that a text shows, printed or as pairs of digits of either case
abbrev pub bytes_shown : Bool → List ℕ → Option (List ℕ)
bytes_shown true text = unprinted text
bytes_shown false text = if_decoded (decode_of text)

-- bytes, if there are no more than `most`
abbrev pub short_bytes : ℕ → Option (List ℕ) → Option (List ℕ)
short_bytes most None = None
short_bytes most (Some bytes) = if nat_le (length bytes) most then Some bytes else None

-- a line with bytes is a blank, and then the text that shows them
abbrev pub line_bytes : Bool → ℕ → List ℕ → Option (List ℕ)
line_bytes printed most [] = None
line_bytes printed most (c ∷ text) = if c == 32 then short_bytes most (bytes_shown printed text) else None
