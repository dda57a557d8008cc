-- Where an entry goes: behind the last one, or into a next file.
use Rattle.std.specs.Prelude.{ℕ, ◌+◌, ◌*◌, ◌^◌, ◌==◌, ◌||◌, nat_le, if◌then◌else◌, Bool, List, [], ◌∷◌}
use Rattle.log_buffer.specs.declared.log_pos.LogPos.{LogPos}

-- how many bytes a file's header has
abbrev pub header_size : ℕ
header_size = 26

-- an entry goes into the present file where it ends at the greatest size or before it, or where the file holds its header alone
abbrev pub goes_in : ℕ → ℕ → ℕ → Bool
goes_in file_max offset size = nat_le (offset + size) file_max || offset == header_size

-- the place behind the header of the next file
abbrev pub next_file : LogPos → LogPos
next_file end = record { file = end.file + 1; offset = header_size }

-- where an entry of so many bytes stands, in a log that ends here
abbrev pub placed_at : ℕ → LogPos → ℕ → LogPos
placed_at file_max end size = if goes_in file_max end.offset size then end else next_file end

-- so many bytes further in the same file
abbrev pub behind : LogPos → ℕ → LogPos
behind at size = record { file = at.file; offset = at.offset + size }

-- where the log ends behind that entry
abbrev pub end_after : ℕ → LogPos → ℕ → LogPos
end_after file_max end size = behind (placed_at file_max end size) size

-- where the log ends behind entries of these sizes
abbrev pub end_after_all : ℕ → LogPos → List ℕ → LogPos
end_after_all file_max end [] = end
end_after_all file_max end (size ∷ sizes) = end_after_all file_max (end_after file_max end size) sizes

-- a place as an LSN is seen
abbrev pub pos_lsn : LogPos → ℕ
pos_lsn at = at.file * 2 ^ 32 + at.offset
