-- A log that was found.
use Rattle.std.specs.Prelude.{◌≡◌, ℕ, ◌-◌, Ok, List, [], ◌∷◌, map, length}
use Rattle.log_file.specs.Log.{Log, log_in}
use Rattle.log_buffer.specs.declared.log_pos.LogPos.{LogPos}
use Rattle.log_buffer.specs.Flip.{pos_lsn}
use Rattle.log_buffer.specs.Log.{EndsAt}
use Rattle.log_trees.specs.Placed.{placed}
use Rattle.log_meaning.specs.Checkpoint.{last_end}
use Rattle.log_meaning.specs.Meaning.{Meaning}
use Rattle.log_meaning.specs.Reading.{reading_of}
use Rattle.log_meaning.specs.Recovery.{IsOpened}
use Rattle.log_meaning.specs.Found.{first_needed, IsBegun}
use Rattle.crash_recovery.specs.Reading.{IsNamedLog}
use Rattle.crash_recovery.specs.Recovery.{RecoversLog}

-- the log that an environment goes on with which finds these files; where it finds none, the next one is begun
abbrev pub found_log : ℕ → List (ℕ × List ℕ) → Log
found_log next [] = (next, []) ∷ []
found_log next (file ∷ files) = log_in (file ∷ files)

-- the first file that it needs
abbrev pub first_of_found : ℕ → List (ℕ × List ℕ) → ℕ
first_of_found next held = first_needed next (last_end (placed (found_log next held))) (map (λ file. file.0) held)

-- files that are read with no corruption leave the store that they mean, also after a crash; and the environment begins with it, at an LSN
-- above the log's and below its end
pub record IsOpenedLog (next : ℕ) (held : List (ℕ × List ℕ)) (end : LogPos) (meaning : Meaning) : Type 0 where
  pub opened : IsOpened (first_of_found next held) (placed (found_log next held)) meaning
  pub recovers : RecoversLog (first_of_found next held) meaning.store (length (placed (found_log next held))) [] (found_log next held)
  pub begun : IsBegun (first_of_found next held) (placed (found_log next held)) (pos_lsn end - 1) meaning

abbrev pub FoundLogsRecover : Type 0
FoundLogsRecover = (next : ℕ) (held : List (ℕ × List ℕ)) (end : LogPos) (last : ℕ) (meaning : Meaning) → IsNamedLog (found_log next held) → EndsAt (found_log next held) end.file end.offset last
    → reading_of held ≡ Ok meaning → IsOpenedLog next held end meaning
