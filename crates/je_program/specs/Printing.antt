-- A log that was read to be printed.
use Rattle.std.specs.Prelude.{ℕ, ◌≡◌, Bool, true}
use Rattle.je_order.specs.Counts.{HasRisen}
use Rattle.je_disk.specs.States.{Files}
use Rattle.log_printer.specs.declared.log_err.LogErr.{LogErr}
use Rattle.log_printer.specs.declared.log_err.LogErr.TheVariants.{Disk as NoDisk, Memory as NoMemory, NoFile, Corrupt}
use Rattle.log_printer.specs.Reading.{HasDamagedFile, HasNoFile, IsLogOf}
use Rattle.je_program.specs.declared.cause.Cause.{Cause}
use Rattle.je_program.specs.declared.cause.Cause.TheVariants.{Done, Disk, Unreadable, Memory, NoEnvironment}
use Rattle.je_program.specs.declared.text.Text.{Text}
use Rattle.je_program.specs.declared.text.Text.TheVariants.{Nothing, Log}

-- the cause of a log that was not read
abbrev pub cause_of_log : LogErr → Cause
cause_of_log NoDisk = Disk
cause_of_log NoMemory = Memory
cause_of_log NoFile = NoEnvironment
cause_of_log (Corrupt corruption) = Unreadable corruption

-- where all was done, the lines of the log of a disk are to be written
abbrev pub IsWholeLog : Bool → Files → Text → Type 0
IsWholeLog observable files (Log lines) = IsLogOf observable files lines.items
IsWholeLog observable files text = ⊥

-- what a cause says of the disk whose log was read, and what is to be written
abbrev pub IsPrinted : Bool → Files → ℕ → ℕ → Cause → Text → Type 0
IsPrinted observable files before after Done text = IsWholeLog observable files text
IsPrinted observable files before after Disk text = HasRisen before after × (text ≡ Nothing)
IsPrinted observable files before after Memory text = text ≡ Nothing
IsPrinted observable files before after NoEnvironment text = (observable ≡ true → HasNoFile files) × (text ≡ Nothing)
IsPrinted observable files before after (Unreadable corruption) text = HasDamagedFile observable files corruption × (text ≡ Nothing)
IsPrinted observable files before after cause text = ⊥
