-- What is noted of entries while they are read.
use Rattle.std.specs.Prelude.{◌≡◌, ◌++◌, List}
use Rattle.log_trees.specs.Placed.{Placed}
use Rattle.log_meaning.specs.Checkpoint.{last_end}
use Rattle.recovery_je.specs.declared.read_notes.ReadNotes.{ReadNotes}
use Rattle.recovery_je.specs.Numbers.{none_numbered, numbers_over}
use Rattle.recovery_je.specs.Putting.{are_whole}

-- this was noted of entries
pub record AreNotesOf (es : List Placed) (notes : ReadNotes) : Type 0 where
  pub whole : notes.whole ≡ are_whole es
  pub end : notes.end ≡ last_end es
  pub numbers : notes.numbers ≡ numbers_over 0 es none_numbered

-- entries were noted behind others
abbrev pub NotesMore : List Placed → ReadNotes → ReadNotes → Type 0
NotesMore more old new = (es : List Placed) → AreNotesOf es old → AreNotesOf (es ++ more) new
