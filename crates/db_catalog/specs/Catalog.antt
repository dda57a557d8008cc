-- The data of a catalog record (this project's own format).
use Rattle.std.specs.Prelude.{ℕ, ◌<◌, ◌^◌, ◌++◌, ◌∷◌, [], ◌==◌, ◌&&◌, nat_le, nat_lt, Bool, List, length, Option, None, Some, if◌then◌else◌}
use Rattle.std.specs.Int.{w32, to_be_bytes}
use Rattle.je_order.specs.Options.{◌>>=◌}
use Rattle.je_bytes.specs.Reading.{byte_in, number_in}
use Rattle.store_model.specs.Making.{IsSlice}
use Rattle.db_catalog.specs.declared.db_record.DbRecord.{DbRecord}
use Rattle.db_catalog.specs.declared.db_kind.DbKind.{DbKind}
use Rattle.db_catalog.specs.declared.db_kind.DbKind.TheVariants.{Plain, Dup, SliceIndex, FieldIndex}

-- ---- what a record may hold

-- numbers within their widths, and a slice within its limits
abbrev pub IsKind : DbKind → Type 0
IsKind Plain = Unit {0}
IsKind Dup = Unit {0}
IsKind (SliceIndex primary offset len) = (primary < 2 ^ 32) × IsSlice offset len
IsKind (FieldIndex primary number separator) = (primary < 2 ^ 32) × (number < 2 ^ 32) × (separator < 2 ^ 8)

abbrev pub IsRecord : DbRecord → Type 0
IsRecord r = (r.number < 2 ^ 32) × IsKind r.kind

-- ---- as it is written

-- a kind's byte, and the fields of an index behind it, each number in four bytes, the highest first
abbrev pub kind_bytes : DbKind → List ℕ
kind_bytes Plain = 0 ∷ []
kind_bytes Dup = 1 ∷ []
kind_bytes (SliceIndex primary offset len) = 2 ∷ (to_be_bytes w32 primary ++ (to_be_bytes w32 offset ++ to_be_bytes w32 len))
kind_bytes (FieldIndex primary number separator) = 3 ∷ (to_be_bytes w32 primary ++ (to_be_bytes w32 number ++ separator ∷ []))

-- a record's bytes: its number in four bytes, and its kind
abbrev pub record_bytes : DbRecord → List ℕ
record_bytes r = to_be_bytes w32 r.number ++ kind_bytes r.kind

-- ---- as it is read

-- whether a slice is within its limits
abbrev pub is_slice : ℕ → ℕ → Bool
is_slice offset len = nat_le offset 65535 && nat_lt 0 len && nat_le len 4096

-- a kind, where nothing is left behind it
abbrev pub ended : DbKind → List ℕ → Option DbKind
ended kind rest = if length rest == 0 then Some kind else None

-- the fields of a slice index
unfoldable pub slice_in : List ℕ → Option DbKind
slice_in bytes = do
  primary ← number_in w32 bytes
  offset ← number_in w32 primary.1
  len ← number_in w32 offset.1
  if is_slice offset.0 len.0 then ended (SliceIndex primary.0 offset.0 len.0) len.1 else None

-- the fields of a field index
unfoldable pub field_in : List ℕ → Option DbKind
field_in bytes = do
  primary ← number_in w32 bytes
  number ← number_in w32 primary.1
  separator ← byte_in number.1
  ended (FieldIndex primary.0 number.0 separator.0) separator.1

-- the kind of a byte, with the fields that are all of the bytes behind it
unfoldable pub kind_in : ℕ → List ℕ → Option DbKind
kind_in kind bytes =
    if kind == 0 then ended Plain bytes else
    if kind == 1 then ended Dup bytes else
    if kind == 2 then slice_in bytes else
    if kind == 3 then field_in bytes else None

-- the record that bytes are, if they are one
unfoldable pub db_record_in : List ℕ → Option DbRecord
db_record_in bytes = do
  number ← number_in w32 bytes
  first ← byte_in number.1
  kind ← kind_in first.0 first.1
  Some (record { number = number.0; kind = kind })
