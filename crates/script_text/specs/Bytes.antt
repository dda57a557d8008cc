-- Bytes as a script spells them.
use Rattle.std.specs.Prelude.{ℕ, ◌==◌, [], length, codes, List, Option, Some, None, Result, Ok, Err, if◌then◌else◌}
use Rattle.std.specs.Str.{bytes_eq}
use Rattle.hex.specs.Hex.{decode_of}
use Rattle.hex.specs.declared.error.FromHexError.{FromHexError}

-- bytes are pairs of hexadecimal digits of either case, at least one pair, or `-` for none; their number is no part of the grammar
abbrev pub decoded_bytes : Result (List ℕ) FromHexError → Option (List ℕ)
decoded_bytes (Ok bytes) = Some bytes
decoded_bytes (Err e) = None

-- the bytes that a token spells: `-` is none of them, else they are pairs of hexadecimal digits
abbrev pub bytes_of : List ℕ → Option (List ℕ)
bytes_of word =
    if bytes_eq word (codes "-") then Some []
    else if length word == 0 then None
    else decoded_bytes (decode_of word)
