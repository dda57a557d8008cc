-- What a log buffer has.
use Rattle.std.specs.Prelude.{◌≡◌, ℕ, ◌+◌, ◌-◌, ◌≤◌, Bool, List, [], ◌∷◌, ◌++◌, length, vec_capacity, Option, Some, unwrap_or}
use Rattle.log_buffer.specs.declared.log_pos.LogPos.{LogPos}
use Rattle.log_buffer.specs.declared.buffer.LogBuffer.{LogBuffer}
use Rattle.log_buffer.specs.Flip.{header_size}
use Rattle.log_buffer.specs.WriteBuffer.{bytes_for, first_for}

-- the bytes that entries of these sizes take, with a header before each
abbrev pub room_for : List ℕ → ℕ
room_for [] = 0
room_for (size ∷ sizes) = header_size + size + room_for sizes

module _ {D : Type 0} where
  -- the disk below
  abbrev pub disk_of : LogBuffer D → D
  disk_of buffer = buffer.disk

  -- the log's last file
  abbrev pub file_of : LogBuffer D → ℕ
  file_of buffer = buffer.file.0

  -- the offset there at which the log ends
  abbrev pub offset_of : LogBuffer D → ℕ
  offset_of buffer = buffer.offset

  -- where the log ends
  abbrev pub end_of : LogBuffer D → LogPos
  end_of buffer = record { file = file_of buffer; offset = offset_of buffer }

  -- the offset of the last file's last entry, 0 where it holds its header alone
  abbrev pub last_of : LogBuffer D → ℕ
  last_of buffer = buffer.last

  -- the greatest size of a file that holds more than one entry behind its header
  abbrev pub file_max_of : LogBuffer D → ℕ
  file_max_of buffer = buffer.file_max

  -- a call met a fault of the disk
  abbrev pub has_failed : LogBuffer D → Bool
  has_failed buffer = buffer.failed

  -- the file at whose end the write buffer's bytes begin
  abbrev pub first_of : LogBuffer D → ℕ
  first_of buffer = file_of buffer - length buffer.unwritten.starts.items

  -- how many bytes that file had when the write buffer was written last
  abbrev pub flushed_len_of : LogBuffer D → ℕ
  flushed_len_of buffer = buffer.flushed_len

  -- what the write buffer has for a file: bytes that are to follow those on the disk
  abbrev pub unwritten_of : LogBuffer D → ℕ → List ℕ
  unwritten_of buffer = bytes_for buffer.unwritten.bytes.items buffer.unwritten.starts.items (file_of buffer)

  -- the file of the write buffer's first byte, with an empty write buffer the last file: the files below it are written whole
  abbrev pub written_of : LogBuffer D → ℕ
  written_of buffer = first_for buffer.unwritten.starts.items (first_of buffer)

  -- the write buffer is empty: all was written
  abbrev pub IsWritten : LogBuffer D → Type 0
  IsWritten buffer = (f : ℕ) → unwritten_of buffer f ≡ []

  -- appends of entries of these sizes take no memory
  pub record HasRoom (buffer : LogBuffer D) (sizes : List ℕ) : Type 0 where
    pub bytes : length buffer.unwritten.bytes.items + room_for sizes ≤ vec_capacity buffer.unwritten.bytes
    pub files : length buffer.unwritten.starts.items + length sizes ≤ vec_capacity buffer.unwritten.starts

  -- where the log ends, the write buffer and the room in it are as they were
  pub record KeepsUnwritten (old new : LogBuffer D) : Type 0 where
    pub end : end_of new ≡ end_of old
    pub last : last_of new ≡ last_of old
    pub first : first_of new ≡ first_of old
    pub written : written_of new ≡ written_of old
    pub flushed_len : flushed_len_of new ≡ flushed_len_of old
    pub max : file_max_of new ≡ file_max_of old
    pub unwritten : (f : ℕ) → unwritten_of new f ≡ unwritten_of old f
    pub room : (sizes : List ℕ) → HasRoom old sizes → HasRoom new sizes

  -- nothing changed
  pub record IsUnchanged (old new : LogBuffer D) : Type 0 where
    pub kept : KeepsUnwritten old new
    pub disk : disk_of new ≡ disk_of old
    pub failed : has_failed new ≡ has_failed old

-- what a file reads as with more bytes behind it; no bytes more leave it as it is
abbrev pub joined : Option (List ℕ) → List ℕ → Option (List ℕ)
joined there [] = there
joined there (byte ∷ bytes) = Some (unwrap_or there [] ++ byte ∷ bytes)
