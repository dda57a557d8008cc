-- Printing a log.
use Rattle.std.proofs.Common.{◌≡◌, ℕ, Bool, true, refl}
use Rattle.je_disk.specs.States.{Files}
use Rattle.log_printer.specs.declared.log_err.LogErr.{LogErr}
use Rattle.log_printer.specs.declared.log_err.LogErr.TheVariants.{Disk as NoDisk, Memory as NoMemory, NoFile, Corrupt}
use Rattle.log_printer.specs.Reading.{StopsLog}
use Rattle.je_program.specs.declared.text.Text.TheVariants.{Nothing}
use Rattle.je_program.specs.Commands.{ends_reading}
use Rattle.je_program.specs.Printing.{IsPrinted, cause_of_log}

pub log_may : (error : LogErr) → ends_reading (cause_of_log error) ≡ true
log_may NoDisk = refl
log_may NoMemory = refl
log_may NoFile = refl
log_may (Corrupt corruption) = refl

pub log_stopped : (observable : Bool) (files : Files) (before after : ℕ) (error : LogErr) → StopsLog observable files before after error → IsPrinted observable files before after (cause_of_log error) Nothing
log_stopped observable files before after NoDisk stops = (stops, refl)
log_stopped observable files before after NoMemory stops = refl
log_stopped observable files before after NoFile stops = (stops, refl)
log_stopped observable files before after (Corrupt corruption) stops = (stops, refl)
