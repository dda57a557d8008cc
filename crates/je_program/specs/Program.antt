-- What the program promises of one run.
use Rattle.std.specs.Prelude.{ℕ, ◌≡◌, ◌≢◌, ◌≤◌, ◌<◌, ◌⊎◌, [], ◌++◌, List, Option, None, Bool, true, false, Err, length, codes, decimal, slice_index_or, IfSome}
use Rattle.je_order.specs.Counts.{HasRisen}
use Rattle.je_io.specs.Sink.{Gains, GainsPart}
use Rattle.je_disk.specs.Moments.{History, now}
use Rattle.store_model.specs.declared.answer.Answer.{Answer}
use Rattle.store_model.specs.declared.store.Store.{Store}
use Rattle.store_model.specs.declared.event.Event.{Event}
use Rattle.command_line.specs.declared.command.Command.{Command}
use Rattle.store_model.specs.declared.totals.Totals.{Totals}
use Rattle.store_model.specs.Journal.{is_disk_fault}
use Rattle.je_answers.specs.Standing.{Standing}
use Rattle.je_answers.specs.After.{AnswersAsModel, after_events}
use Rattle.je_answers.specs.Journal.{AllAcknowledged, AreResumedInOrder, AreSyncedAtOnce, first_ready, has_answer}
use Rattle.script_text.specs.Grammar.{plan_of}
use Rattle.dump_text.specs.Grammar.{dump_of}
use Rattle.je_program.specs.declared.reading.TheConstants.{MOST_INPUT}
use Rattle.je_program.specs.declared.cause.Cause.{Cause}
use Rattle.je_program.specs.declared.cause.Cause.TheVariants.{Done, Usage, BadScript, BadDump, Disk, Unreadable, WrongIndex, Memory, Findings, NoEnvironment, NoDatabase, OtherKind, RefusedPair, Input, InputTooLong, LogFull, IdsEnded}
use Rattle.text_out.specs.Lsn.{lsn_text}
use Rattle.je_lsn.specs.Naming.{name_of}
use Rattle.log_replay.specs.declared.corruption.Corruption.{Corruption}
use Rattle.log_replay.specs.declared.corruption.Corruption.TheVariants.{Damaged, Missing, Tree, VersionUnknown}
use Rattle.engine.specs.declared.open_err.OpenErr.{OpenErr}
use Rattle.engine.specs.declared.open_err.OpenErr.TheVariants.{Disk as NoDisk, Memory as NoMemory, IdsEnded as NoNumbers, Unreadable as CannotRead, WrongIndex as FoundWrong}
use Rattle.recovery_je.specs.declared.recover_err.RecoverErr.{RecoverErr}
use Rattle.recovery_je.specs.declared.recover_err.RecoverErr.TheVariants.{Disk as DiskFailed, Memory as MemoryEnded, Corrupt, WrongIndex as IndexIsWrong}
use Rattle.engine.specs.Files.{MeanStore}
use Rattle.environment.specs.Limits.{AreBounded}
use Rattle.engine.specs.Lengths.{AreLengthsWithin}
use Rattle.engine.specs.Opening.{StartsAt, reach_in}
use Rattle.txn_core.specs.Totals.{totals_of}
use Rattle.je_program.specs.Crash.{IsSafeProgram}
use Rattle.script_run.specs.Ends.{AreEndsInPlace}
use Rattle.serial_replay.specs.Replay.{ReplaysSerially}
use Rattle.serial_replay.specs.Cycles.{NeverWaitInCycle}
use Rattle.serial_replay.specs.Laws.{StaysIndexed}
use Rattle.script_run.specs.Events.{final_store}
use Rattle.script_run.specs.Maintenance.{AreStepsInPlace}
use Rattle.je_program.specs.Commands.{may_end, reads_input}
use Rattle.je_program.specs.Run.{cause_of_journal, is_run_through, status_of, unwritten_status_of}

-- why the input was not a script or not a dump: the source failed, it has too many bytes, its first bad line, or there was no memory
abbrev pub StopsReading : Option (List ℕ) → ℕ → ℕ → Cause → Type 0
StopsReading left before after Input = HasRisen before after
StopsReading left before after InputTooLong = IfSome left (λ bytes. MOST_INPUT < length bytes)
StopsReading left before after (BadScript line) = IfSome left (λ bytes. (length bytes ≤ MOST_INPUT) × (plan_of bytes ≡ Err line))
StopsReading left before after (BadDump line) = IfSome left (λ bytes. (length bytes ≤ MOST_INPUT) × (dump_of bytes ≡ Err line))
StopsReading left before after Memory = Unit {0}
StopsReading left before after cause = ⊥

-- why the arguments and the input give nothing to do: invalid arguments, no memory, or an input that was not what the command reads
abbrev pub IsNoRequest : Option Command → Option (List ℕ) → ℕ → ℕ → Cause → Type 0
IsNoRequest command left before after Usage = command ≡ None
IsNoRequest command left before after Memory = Unit {0}
IsNoRequest command left before after cause = (reads_input command ≡ true) × (may_end command cause ≡ true) × StopsReading left before after cause

-- a cause that is one of reading came by reading; of the others this says nothing
abbrev pub IsStopped : Option (List ℕ) → ℕ → ℕ → Cause → Type 0
IsStopped left before after Input = HasRisen before after
IsStopped left before after InputTooLong = IfSome left (λ bytes. MOST_INPUT < length bytes)
IsStopped left before after (BadScript line) = IfSome left (λ bytes. (length bytes ≤ MOST_INPUT) × (plan_of bytes ≡ Err line))
IsStopped left before after (BadDump line) = IfSome left (λ bytes. (length bytes ≤ MOST_INPUT) × (dump_of bytes ≡ Err line))
IsStopped left before after cause = Unit {0}

-- whether the program ended before it came to its disk
abbrev pub is_before_disk : Cause → Bool
is_before_disk Usage = true
is_before_disk (BadScript line) = true
is_before_disk (BadDump line) = true
is_before_disk Input = true
is_before_disk InputTooLong = true
is_before_disk cause = false

-- whether the environment was opened and its lines were given in any case, and whether they may have been
abbrev pub RunsIf : Cause → Bool → Type 0
RunsIf Done opened = opened ≡ true
RunsIf LogFull opened = opened ≡ true
RunsIf NoDatabase opened = opened ≡ true
RunsIf (OtherKind line) opened = opened ≡ true
RunsIf (RefusedPair line) opened = opened ≡ true
RunsIf IdsEnded opened = Unit {0}
RunsIf Disk opened = Unit {0}
RunsIf Memory opened = Unit {0}
RunsIf cause opened = opened ≡ false

-- the same of a command that opens the environment; any other runs no script
abbrev pub RunsBy : Bool → Cause → Bool → Type 0
RunsBy true cause opened = RunsIf cause opened
RunsBy false cause opened = opened ≡ false

-- a run with memory for all its lines ends as its journal says, or closing met a fault of the disk
abbrev pub EndsBy : List Event → Cause → Type 0
EndsBy journal cause = (cause ≡ cause_of_journal journal) ⊎ (cause ≡ Disk)

-- the same of a run that may have ended before a line was given, since the database that the command names was not there or is of another kind; or
-- behind a pair that was refused, where the journal gives no other cause
abbrev pub EndsWith : List Event → Cause → Type 0
EndsWith journal NoDatabase = journal ≡ []
EndsWith journal (OtherKind line) = journal ≡ []
EndsWith journal (RefusedPair line) = cause_of_journal journal ≡ Done
EndsWith journal cause = EndsBy journal cause

-- A run from one history of the disk to another, and from one count of its faults to another, with log files of at most so many bytes. It begins where the files at entry are opened: each event
-- of the journal answers what the model lets it from there on, within the limits of the log; its transactions are as their levels promise, and after no
-- event do any wait in a cycle; each index has the pairs of its primary's records, and each transaction sees it so; each commit is followed at once by what its durability asks
-- for; the calls that waited go on in the order in which they began to wait, before the next line; each step of maintenance was given by a line, and a
-- sync that a line asks for has made all commits so far durable where it is done. A session ends behind the
-- last line, or where it was stopped since a call of it found no memory. At every moment the disk is safe. Unless memory ran out none was stopped, and at
-- the end no call may go on and no transaction is under way. Where the script was run through, each commit is acknowledged and the files mean the final
-- store. There, and at any end if the disk met no fault, each file has at most so many bytes, or one entry behind its header, or no more than it had at
-- entry. What is counted is how much the final store holds.
pub record IsRunOf (file_max : ℕ) (observable : Bool) (old new : History) (before after : ℕ) (opening : Store) (counted : Totals) (journal : List Event) (cause : Cause) (st : Standing) : Type 0 where
  pub starts : StartsAt observable (now old).reads opening st
  pub limits : List (Option Answer)
  pub answers : AnswersAsModel st limits journal
  pub replays : ReplaysSerially st journal
  pub no_cycle : NeverWaitInCycle st journal
  pub indexes : StaysIndexed st journal
  pub bounded : AreBounded (reach_in starts.held starts.meaning) st journal limits
  pub synced_at_once : AreSyncedAtOnce st journal
  pub in_order : AreResumedInOrder st journal
  pub steps : AreStepsInPlace None st journal
  pub stopped : List Bool
  pub in_place : AreEndsInPlace stopped st journal
  pub none_stopped : cause ≢ Memory → (session : ℕ) → slice_index_or stopped session false ≡ false
  pub ended : cause ≢ Memory → (after_events st journal).actives ≡ []
  pub rests : cause ≢ Memory → first_ready (after_events st journal) ≡ None
  pub acknowledged : is_run_through cause ≡ true → AllAcknowledged st journal
  pub safe : observable ≡ true → IsSafeProgram old new st journal cause
  pub files : is_run_through cause ≡ true → observable ≡ true → MeanStore (now new).reads (final_store st journal)
  pub lengths : (is_run_through cause ≡ true) ⊎ (HasRisen before after → ⊥) → observable ≡ true → AreLengthsWithin file_max (now old).reads (now new).reads
  pub totals : counted ≡ totals_of (final_store st journal)

-- the line that tells why files cannot be opened
abbrev pub corruption_text : Corruption → List ℕ
corruption_text (Damaged lsn) = codes "fault damaged " ++ lsn_text lsn ++ codes "\n"
corruption_text (Missing lsn) = codes "fault missing " ++ lsn_text lsn ++ codes "\n"
corruption_text (Tree lsn) = codes "fault tree " ++ lsn_text lsn ++ codes "\n"
corruption_text (VersionUnknown file version) = codes "fault version " ++ name_of file.0 ++ codes " " ++ decimal version ++ codes "\n"

-- the line that tells which line of a dump was not taken
abbrev pub dump_fault : ℕ → List ℕ
dump_fault line = codes "fault dump line " ++ decimal line ++ codes "\n"

-- the line that tells why a program ended, none where all was done or a check had findings
abbrev pub fault_text : Cause → List ℕ
fault_text Done = []
fault_text Usage = codes "fault usage\n"
fault_text (BadScript line) = codes "fault script line " ++ decimal line ++ codes "\n"
fault_text (BadDump line) = dump_fault line
fault_text Disk = codes "fault disk\n"
fault_text (Unreadable corruption) = corruption_text corruption
fault_text (WrongIndex name) = codes "fault index " ++ name ++ codes "\n"
fault_text Memory = codes "fault memory\n"
fault_text Findings = []
fault_text NoEnvironment = codes "fault no environment\n"
fault_text NoDatabase = codes "fault no database\n"
fault_text (OtherKind line) = dump_fault line
fault_text (RefusedPair line) = dump_fault line
fault_text Input = codes "fault input\n"
fault_text InputTooLong = codes "fault input too long\n"
fault_text LogFull = codes "fault log full\n"
fault_text IdsEnded = codes "fault ids ended\n"

-- the output was written, and the status is the cause's; or the sink failed, which has a part of it
abbrev pub IsOutputWritten : Option (List ℕ) → Option (List ℕ) → ℕ → ℕ → List ℕ → Cause → ℕ → Type 0
IsOutputWritten before after faults_before faults_after text cause status =
    (Gains before after text × (status ≡ status_of cause))
    ⊎ (GainsPart before after text × HasRisen faults_before faults_after × (status ≡ unwritten_status_of cause))

-- the cause of an environment that was not opened
abbrev pub cause_of_opening : OpenErr → Cause
cause_of_opening NoDisk = Disk
cause_of_opening NoMemory = Memory
cause_of_opening NoNumbers = IdsEnded
cause_of_opening (CannotRead corruption) = Unreadable corruption
cause_of_opening (FoundWrong name) = WrongIndex name

-- the cause of files that were not read
abbrev pub cause_of_recovery : RecoverErr → Cause
cause_of_recovery DiskFailed = Disk
cause_of_recovery MemoryEnded = Memory
cause_of_recovery (Corrupt corruption) = Unreadable corruption
cause_of_recovery (IndexIsWrong name) = WrongIndex name

-- the cause of a run's end once it is closed: a fault of the disk, unless there was no memory before
abbrev pub cause_closed : Bool → Cause → Cause
cause_closed false cause = cause
cause_closed true Memory = Memory
cause_closed true cause = Disk

-- closing leaves the cause of a run's end as it is, or the disk failed and that is the cause
abbrev pub ClosesBy : ℕ → ℕ → Cause → Cause → Type 0
ClosesBy before after old new = (new ≡ old) ⊎ ((new ≡ Disk) × HasRisen before after × (old ≢ Memory))

-- the disk's count never fell in a run, and it rose where the journal has a disk fault, or a disk fault is the cause of the end
pub record ClosesRun (before after : ℕ) (journal : List Event) (cause : Cause) : Type 0 where
  pub never_falls : before ≤ after
  pub fault : has_answer is_disk_fault journal ≡ true → HasRisen before after
  pub failed : cause ≡ Disk → HasRisen before after
