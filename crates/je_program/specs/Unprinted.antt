-- What a program came to before its output is written.
use Rattle.std.specs.Prelude.{ℕ, ◌≡◌, ◌≢◌, ◌≤◌, [], List, Option, Some, Bool, true, false}
use Rattle.je_disk.specs.DiskMeaning.{DiskMeaning}
use Rattle.je_disk.specs.Moments.{now}
use Rattle.je_disk.specs.States.{Files}
use Rattle.store_model.specs.Store.{no_databases}
use Rattle.je_answers.specs.Standing.{Standing}
use Rattle.log_replay.specs.declared.corruption.Corruption.{Corruption}
use Rattle.engine.specs.Crash.{KeepsEntry}
use Rattle.engine.specs.Files.{HasWrongIndex}
use Rattle.engine.specs.Opening.{HasNoNumbers}
use Rattle.engine.specs.Untouched.{IsUntouched}
use Rattle.command_line.specs.declared.command.Command.{Command}
use Rattle.command_line.specs.declared.command.Command.TheVariants.{PrintLog}
use Rattle.log_printer.specs.Reading.{HasNoFile}
use Rattle.je_program.specs.declared.cause.Cause.{Cause}
use Rattle.je_program.specs.declared.cause.Cause.TheVariants.{Done, Unreadable, WrongIndex, Memory, Findings, NoEnvironment, NoDatabase, IdsEnded}
use Rattle.je_program.specs.declared.run_result.RunResult.{RunResult}
use Rattle.je_program.specs.declared.text.Text.{Text}
use Rattle.je_program.specs.Commands.{AreSound, HasDatabase, IsFound, IsGivenTo, EndsAsPlaced, IsStored, IsTextOf, LacksDatabase, ReadsInput, Work, file_max_of, may_end, needs_environment, opens, text_of}
use Rattle.je_program.specs.Program.{ClosesRun, EndsWith, IsRunOf, IsStopped, RunsBy, is_before_disk}
use Rattle.je_program.specs.Untouched.{LeavesUnreadable}

-- whether a command that needs an environment ends so only where a file was there
abbrev pub needs_file : Cause → Bool
needs_file Done = true
needs_file Findings = true
needs_file (Unreadable corruption) = true
needs_file (WrongIndex name) = true
needs_file NoDatabase = true
needs_file IdsEnded = true
needs_file cause = false

-- the work of a program that came to this, over a disk with these files at entry and these at the end
abbrev pub work_of : {D : Type 0} → Bool → Files → Files → RunResult D → Work
work_of observable files left r = record { observable = observable; files = files; left = left; opened = r.opened; opening = r.opening; journal = r.journal.items; totals = r.totals; cause = r.cause }

-- what a command came to, of which so much of the input was left and is, over a disk: each part is a clause of the top call
pub record ComesTo {D : Type 0} (command : Option Command) (meaning : DiskMeaning D) (left rest : Option (List ℕ)) (before after : ℕ) (disk : D) (r : RunResult D) (text : Text) : Type 0 where
  pub may : may_end command r.cause ≡ true
  pub stopped : IsStopped left before after r.cause
  pub read : is_before_disk r.cause ≡ false → r.cause ≢ Memory → ReadsInput command left rest
  pub given : r.opened ≡ true → IsGivenTo command left rest r.opening r.journal.items r.cause
  pub untouched : is_before_disk r.cause ≡ true → r.disk ≡ disk
  pub runs : RunsBy (opens command) r.cause r.opened
  pub run : r.opened ≡ true → (file_max : ℕ) × (st : Standing) × (file_max_of command ≡ Some file_max) × IsRunOf file_max meaning.observable (meaning.history disk) (meaning.history r.disk) (meaning.faults disk) (meaning.faults r.disk) r.opening r.totals r.journal.items r.cause st × IsStored command left rest r.opening st r.journal.items r.cause
  pub unopened : r.opened ≡ false → (r.opening ≡ no_databases) × (r.journal.items ≡ [])
  pub unreadable : (corruption : Corruption) → r.cause ≡ Unreadable corruption → meaning.observable ≡ true → IsFound command (now (meaning.history disk)).reads corruption
  pub sound : command ≡ Some PrintLog → r.cause ≡ Done → meaning.observable ≡ true → AreSound (now (meaning.history disk)).reads
  pub wrong_index : (name : List ℕ) → r.cause ≡ WrongIndex name → meaning.observable ≡ true → HasWrongIndex (now (meaning.history disk)).reads name
  pub ids_ended : r.cause ≡ IdsEnded → r.opened ≡ false → meaning.observable ≡ true → HasNoNumbers (now (meaning.history disk)).reads
  pub no_environment : r.cause ≡ NoEnvironment → meaning.observable ≡ true → HasNoFile (now (meaning.history disk)).reads
  pub some_file : needs_environment command ≡ true → needs_file r.cause ≡ true → meaning.observable ≡ true → HasNoFile (now (meaning.history disk)).reads → ⊥
  pub no_database : r.cause ≡ NoDatabase → LacksDatabase command r.opening
  pub has_database : r.cause ≡ Done → HasDatabase command r.opening
  pub placed : r.opened ≡ true → EndsAsPlaced command left rest r.opening r.cause
  pub ends : r.opened ≡ true → r.cause ≢ Memory → EndsWith r.journal.items r.cause
  pub caused : ClosesRun (meaning.faults disk) (meaning.faults r.disk) r.journal.items r.cause
  pub left_alone : meaning.observable ≡ true → LeavesUnreadable r.cause (meaning.history disk) (meaning.history r.disk)
  pub reads_only : opens command ≡ false → meaning.observable ≡ true → IsUntouched (meaning.history disk) (meaning.history r.disk)
  pub crash_unopened : meaning.observable ≡ true → r.opened ≡ false → KeepsEntry (meaning.history disk) (meaning.history r.disk)
  pub text_is : IsTextOf command (work_of meaning.observable (now (meaning.history disk)).reads (now (meaning.history r.disk)).reads r) (text_of text r.opened r.journal.items r.totals)
  pub source : before ≤ after
