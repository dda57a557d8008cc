-- The use of a log before it is written.
use Rattle.std.specs.Prelude.{ℕ, ◌≡◌, [], Bool, true, false, Ok, Err}
use Rattle.je_order.specs.Counts.{HasRisen}
use Rattle.je_disk.specs.DiskMeaning.{DiskMeaning}
use Rattle.je_disk.specs.Moments.{now}
use Rattle.je_disk.specs.States.{Files}
use Rattle.store_model.specs.Store.{no_databases}
use Rattle.log_meaning.specs.Meaning.{Meaning}
use Rattle.log_meaning.specs.Reading.{reading_of}
use Rattle.file_use.specs.declared.log_use.LogUse.{LogUse}
use Rattle.file_use.specs.Use.{use_of}
use Rattle.recovery_je.specs.Answer.{HasFiles, HasWrongIndex}
use Rattle.je_program.specs.declared.cause.Cause.{Cause}
use Rattle.je_program.specs.declared.cause.Cause.TheVariants.{Done, Disk, Unreadable, WrongIndex, Memory}
use Rattle.je_program.specs.declared.run_result.RunResult.{RunResult}
use Rattle.je_program.specs.declared.text.Text.{Text}
use Rattle.je_program.specs.declared.text.Text.TheVariants.{Nothing, Use}

-- whether a cause tells what is wrong with files
abbrev pub is_wrong : Cause → Bool
is_wrong (Unreadable corruption) = true
is_wrong (WrongIndex name) = true
is_wrong cause = false

-- this much of each of the files is live, which have a meaning
abbrev pub IsCountOf : Bool → Files → LogUse → Type 0
IsCountOf observable files used = HasFiles observable files (λ held. (meaning : Meaning) × (reading_of held ≡ Ok meaning) × (used ≡ use_of meaning held))

-- why that was not counted
abbrev pub IsNoCount : Bool → Files → ℕ → ℕ → Cause → Type 0
IsNoCount observable files before after Disk = HasRisen before after
IsNoCount observable files before after Memory = Unit {0}
IsNoCount observable files before after (Unreadable corruption) = HasFiles observable files (λ held. reading_of held ≡ Err corruption)
IsNoCount observable files before after (WrongIndex name) = HasFiles observable files (HasWrongIndex name)
IsNoCount observable files before after cause = ⊥

-- a count is to be written
abbrev pub IsWholeCount : Bool → Files → Text → Type 0
IsWholeCount observable files (Use used) = IsCountOf observable files used
IsWholeCount observable files text = ⊥

-- a run whose disk, cause and records alone may be others
pub record IsRunOn {D : Type 0} (old new : RunResult D) : Type 0 where
  pub opened : new.opened ≡ old.opened
  pub journal : new.journal.items ≡ old.journal.items
  pub opening : new.opening ≡ old.opening
  pub totals : new.totals ≡ old.totals

-- nothing was opened
pub record IsUnopened {D : Type 0} (r : RunResult D) : Type 0 where
  pub opened : r.opened ≡ false
  pub journal : r.journal.items ≡ []
  pub opening : r.opening ≡ no_databases

-- What a run comes to that was closed well, once its files were read again: how much of each is live is to be written; or that was not counted. Where the
-- files are wrong then, the run counts as none that was opened.
abbrev pub IsCounted : {D : Type 0} → DiskMeaning D → RunResult D → RunResult D → Text → Cause → Type 0
IsCounted meaning old new text Done = IsRunOn old new × IsWholeCount meaning.observable (now (meaning.history old.disk)).reads text
IsCounted meaning old new text Disk = IsRunOn old new × HasRisen (meaning.faults old.disk) (meaning.faults new.disk) × (text ≡ Nothing)
IsCounted meaning old new text Memory = IsRunOn old new × (text ≡ Nothing)
IsCounted meaning old new text (Unreadable corruption) =
    IsUnopened new × HasFiles meaning.observable (now (meaning.history old.disk)).reads (λ held. reading_of held ≡ Err corruption) × (text ≡ Nothing)
IsCounted meaning old new text (WrongIndex name) = IsUnopened new × HasFiles meaning.observable (now (meaning.history old.disk)).reads (HasWrongIndex name) × (text ≡ Nothing)
IsCounted meaning old new text cause = ⊥

-- the same of a run that was closed in any way: where it was not well, it stays as it is, and nothing is to be written
abbrev pub IsCountedIf : {D : Type 0} → DiskMeaning D → RunResult D → RunResult D → Text → Cause → Type 0
IsCountedIf meaning old new text Done = IsCounted meaning old new text new.cause
IsCountedIf meaning old new text cause = (new ≡ old) × (text ≡ Nothing)
