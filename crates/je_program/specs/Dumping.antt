-- A dump before it is written.
use Rattle.std.specs.Prelude.{ℕ, ◌≡◌, [], List, Option, None, Some, Bool, true}
use Rattle.je_order.specs.Counts.{HasRisen}
use Rattle.je_disk.specs.States.{Files}
use Rattle.store_model.specs.declared.kind.Kind.{Kind}
use Rattle.log_printer.specs.Reading.{HasNoFile}
use Rattle.log_replay.specs.Rows.{Row, Rows}
use Rattle.in_tree.specs.declared.trees.Trees.{Trees}
use Rattle.environment.specs.declared.found_database.FoundDatabase.{FoundDatabase}
use Rattle.environment.specs.Databases.{rows_kept}
use Rattle.database_dump.specs.Text.{records_text}
use Rattle.je_program.specs.declared.cause.Cause.{Cause}
use Rattle.je_program.specs.declared.cause.Cause.TheVariants.{Done, Disk, Memory, NoEnvironment, NoDatabase}
use Rattle.je_program.specs.declared.run_result.RunResult.{RunResult}

-- why a disk has no environment to open: no file is there, or the disk failed or memory ran out before that was known; None where a file is there
abbrev pub IsLook : Bool → Files → ℕ → ℕ → Option Cause → Type 0
IsLook observable files before after None = observable ≡ true → HasNoFile files → ⊥
IsLook observable files before after (Some NoEnvironment) = observable ≡ true → HasNoFile files
IsLook observable files before after (Some Disk) = HasRisen before after
IsLook observable files before after (Some Memory) = Unit {0}
IsLook observable files before after (Some cause) = ⊥

-- a run whose cause and records alone may be others
pub record IsSameRun {D : Type 0} (old new : RunResult D) : Type 0 where
  pub opened : new.opened ≡ old.opened
  pub disk : new.disk ≡ old.disk
  pub journal : new.journal.items ≡ old.journal.items
  pub opening : new.opening ≡ old.opening
  pub totals : new.totals ≡ old.totals

-- records are there, and these are they by the numbers of their databases
abbrev pub HaveRows : Option Trees → Rows → Type 0
HaveRows None rows = ⊥
HaveRows (Some records) rows = rows_kept records ≡ rows

-- the end of a run in which a database was found, or none
abbrev pub cause_with : Option FoundDatabase → Cause → Cause
cause_with None cause = NoDatabase
cause_with (Some found) cause = cause

-- the text of a database's records, where all was done
abbrev pub text_with : Cause → Bool → Kind → List Row → List ℕ
text_with Done printed kind rows = records_text printed kind rows
text_with cause printed kind rows = []

-- the text of the database that was found, if one was
abbrev pub dump_given : Cause → Bool → Rows → Option FoundDatabase → List ℕ
dump_given cause printed rows None = []
dump_given cause printed rows (Some found) = text_with cause printed found.kind (rows found.number)
