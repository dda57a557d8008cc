-- How a place in the log is printed.
use Rattle.std.specs.Prelude.{ℕ, ◌/◌, ◌%◌, ◌^◌, ◌++◌, List, codes, false}
use Rattle.std.specs.Fmt.{digits}

-- an LSN as it is printed: its file and its offset there, in hexadecimal digits
abbrev pub lsn_text : ℕ → List ℕ
lsn_text lsn = codes "0x" ++ digits 16 false (lsn / 2 ^ 32) ++ codes "/0x" ++ digits 16 false (lsn % 2 ^ 32)
