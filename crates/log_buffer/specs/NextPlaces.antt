-- Where entries go that are to be appended, worked out before they are.
use Rattle.std.specs.Prelude.{◌≡◌, ◌≤◌, ℕ, List, [], ◌∷◌, ◌++◌}
use Rattle.je_lsn.specs.Naming.{last_file}
use Rattle.log_buffer.specs.declared.log_pos.LogPos.{LogPos}
use Rattle.log_buffer.specs.declared.next_place.NextPlace.{NextPlace}
use Rattle.log_buffer.specs.Flip.{end_after_all, placed_at, pos_lsn}

-- the next entry goes where a log that ended here ends with entries of these sizes, where they pass no last file
pub record IsBehind (file_max : ℕ) (end : LogPos) (sizes : List ℕ) (next : NextPlace) : Type 0 where
  pub max : next.file_max ≡ file_max
  pub here : (end_after_all file_max end sizes).file ≤ last_file → next.end ≡ end_after_all file_max end sizes

-- an entry of so many bytes more stands at this LSN
abbrev pub IsTakenAt : ℕ → LogPos → List ℕ → ℕ → ℕ → Type 0
IsTakenAt file_max end sizes size at = (end_after_all file_max end (sizes ++ size ∷ [])).file ≤ last_file → at ≡ pos_lsn (placed_at file_max (end_after_all file_max end sizes) size)
