-- The bytes that are not written yet, cut where files begin in them.
use Rattle.std.specs.Prelude.{ℕ, ◌+◌, ◌-◌, ◌==◌, nat_le, if◌then◌else◌, List, [], ◌∷◌, length, slice_index_or, slice_range}

-- where a piece begins: the first one at 0, the later ones where these say, and behind the last one all has ended
abbrev pub start_of : List ℕ → List ℕ → ℕ → ℕ
start_of bytes starts piece = slice_index_or (0 ∷ starts) piece (length bytes)

-- where it ends: where the next one begins
abbrev pub stop_of : List ℕ → List ℕ → ℕ → ℕ
stop_of bytes starts piece = slice_index_or starts piece (length bytes)

-- the bytes of a piece
abbrev pub piece_of : List ℕ → List ℕ → ℕ → List ℕ
piece_of bytes starts piece = slice_range bytes (start_of bytes starts piece) (stop_of bytes starts piece)

-- the bytes for a file, where the last piece is for the file `last`
abbrev pub bytes_for : List ℕ → List ℕ → ℕ → ℕ → List ℕ
bytes_for bytes starts last f =
    if nat_le (last - length starts) f then piece_of bytes starts (f - (last - length starts)) else []

-- the file of the first byte, where the bytes begin at the end of the file `first`: the next one where it begins at the front
abbrev pub first_for : List ℕ → ℕ → ℕ
first_for starts first = if slice_index_or starts 0 1 == 0 then first + 1 else first
