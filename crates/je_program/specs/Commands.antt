-- What differs by command: what is read, which lines a run is given, how it may end, and what is written.
use Rattle.std.specs.Prelude.{ℕ, ◌≡◌, ◌≢◌, ◌≤◌, ◌++◌, ◌⊎◌, [], List, Option, Some, None, Bool, true, false, Ok, filter, length, codes, decimal, nat_lt, not, if◌then◌else◌}
use Rattle.std.specs.Option.{is_some}
use Rattle.std.specs.List.{flat_map}
use Rattle.je_disk.specs.States.{Files}
use Rattle.store_model.specs.declared.answer.Answer.TheVariants.{Done as IsDone, KeyExist}
use Rattle.store_model.specs.declared.call.Call.TheVariants.{Put}
use Rattle.store_model.specs.declared.event.Event.{Event}
use Rattle.store_model.specs.declared.event.Event.TheVariants.{Call as Called}
use Rattle.store_model.specs.declared.plan.RunPlan.{RunPlan}
use Rattle.store_model.specs.declared.plan.ScriptLine.{ScriptLine}
use Rattle.store_model.specs.declared.totals.Totals.{Totals}
use Rattle.store_model.specs.declared.store.Store.{Store}
use Rattle.store_model.specs.declared.store.Database.{Database}
use Rattle.store_model.specs.declared.store.TheConstants.{MOST_DATABASES}
use Rattle.store_model.specs.Indexes.{AreIndexed}
use Rattle.store_model.specs.Store.{database_of, store_after}
use Rattle.je_answers.specs.Standing.{Standing}
use Rattle.je_answers.specs.Journal.{attempts_of, lines_of}
use Rattle.command_line.specs.declared.command.Command.{Command}
use Rattle.command_line.specs.declared.command.Command.TheVariants.{Run, Soak, Dump, Load, PrintLog, Verify, Stat}
use Rattle.script_text.specs.Grammar.{plan_of}
use Rattle.script_text.specs.Report.{commits_in, end_line, report_text}
use Rattle.soak_plan.specs.Rounds.{soak_of}
use Rattle.dump_text.specs.declared.dump.Dump.{Dump as DumpRead}
use Rattle.dump_text.specs.Grammar.{dump_of}
use Rattle.load_run.specs.Lines.{kind_of_dump, load_lines}
use Rattle.load_laws.specs.Given.{StopsAtRefusal}
use Rattle.load_laws.specs.Images.{ComesWhole, made_store}
use Rattle.load_laws.specs.Stored.{HasDumpedPairs}
use Rattle.script_run.specs.Events.{final_store}
use Rattle.script_run.specs.Lines.{AreFirstLines, of_maintenance, of_session}
use Rattle.log_file.specs.Log.{AreFiles}
use Rattle.log_replay.specs.declared.corruption.Corruption.{Corruption}
use Rattle.log_replay.specs.Reading.{corruption_in}
use Rattle.log_meaning.specs.Meaning.{Meaning}
use Rattle.log_meaning.specs.Reading.{reading_of}
use Rattle.check_laws.specs.Check.{check_of}
use Rattle.check_printer.specs.CheckText.{check_text}
use Rattle.file_use.specs.Use.{use_of}
use Rattle.use_printer.specs.UseText.{use_text}
use Rattle.log_printer.specs.LogLines.{lines_text, log_text}
use Rattle.log_printer.specs.Reading.{HasNoFile}
use Rattle.database_dump.specs.Text.{database_text, is_dup, records_text}
use Rattle.environment.specs.Databases.{rows_kept}
use Rattle.engine.specs.Files.{HasCorruption, Means}
use Rattle.je_program.specs.declared.reading.TheConstants.{MOST_INPUT}
use Rattle.je_program.specs.declared.cause.Cause.{Cause}
use Rattle.je_program.specs.declared.cause.Cause.TheVariants.{Done, Usage, BadScript, BadDump, Disk, Unreadable, WrongIndex, Memory, Findings, NoEnvironment, NoDatabase, OtherKind, RefusedPair, Input, InputTooLong, IdsEnded}
use Rattle.je_program.specs.declared.text.Text.{Text}
use Rattle.je_program.specs.declared.text.Text.TheVariants.{Nothing, Report, SoakEnd, Dump as DumpText, Loaded, Log, Check as Checking, Use as Using}
use Rattle.je_program.specs.Run.{cause_of_load, cause_of_room, first_refused}

-- ---- what a command does

-- whether it reads the input
abbrev pub reads_input : Option Command → Bool
reads_input None = false
reads_input (Some (Run settings)) = true
reads_input (Some (Soak seed settings)) = false
reads_input (Some (Dump db printed)) = false
reads_input (Some (Load db no_overwrite)) = true
reads_input (Some PrintLog) = false
reads_input (Some Verify) = false
reads_input (Some Stat) = false

-- whether it opens the environment
abbrev pub opens : Option Command → Bool
opens None = false
opens (Some (Run settings)) = true
opens (Some (Soak seed settings)) = true
opens (Some (Dump db printed)) = true
opens (Some (Load db no_overwrite)) = true
opens (Some PrintLog) = false
opens (Some Verify) = false
opens (Some Stat) = true

-- whether it needs an environment that is there, since it makes none
abbrev pub needs_environment : Option Command → Bool
needs_environment None = false
needs_environment (Some (Run settings)) = false
needs_environment (Some (Soak seed settings)) = false
needs_environment (Some (Dump db printed)) = true
needs_environment (Some (Load db no_overwrite)) = false
needs_environment (Some PrintLog) = true
needs_environment (Some Verify) = true
needs_environment (Some Stat) = true

-- whether it gives the environment lines
abbrev pub gives_lines : Option Command → Bool
gives_lines None = false
gives_lines (Some (Run settings)) = true
gives_lines (Some (Soak seed settings)) = true
gives_lines (Some (Dump db printed)) = false
gives_lines (Some (Load db no_overwrite)) = true
gives_lines (Some PrintLog) = false
gives_lines (Some Verify) = false
gives_lines (Some Stat) = false

-- whether it runs a script, and reports on that
abbrev pub is_script : Option Command → Bool
is_script None = false
is_script (Some (Run settings)) = true
is_script (Some (Soak seed settings)) = true
is_script (Some (Dump db printed)) = false
is_script (Some (Load db no_overwrite)) = false
is_script (Some PrintLog) = false
is_script (Some Verify) = false
is_script (Some Stat) = false

-- how many bytes a log file has at most where no option says so
abbrev pub usual_file_max : ℕ
usual_file_max = 10000000

-- how many bytes a log file of the environment that it opens has at most
abbrev pub file_max_of : Option Command → Option ℕ
file_max_of None = None
file_max_of (Some (Run settings)) = Some settings.file_max
file_max_of (Some (Soak seed settings)) = Some settings.file_max
file_max_of (Some (Dump db printed)) = Some usual_file_max
file_max_of (Some (Load db no_overwrite)) = Some usual_file_max
file_max_of (Some PrintLog) = None
file_max_of (Some Verify) = None
file_max_of (Some Stat) = Some usual_file_max

-- ---- how it may end

-- of invalid arguments
abbrev pub ends_unparsed : Cause → Bool
ends_unparsed Usage = true
ends_unparsed Memory = true
ends_unparsed cause = false

-- of a script that is read
abbrev pub ends_script : Cause → Bool
ends_script Usage = false
ends_script (BadDump line) = false
ends_script Findings = false
ends_script NoEnvironment = false
ends_script NoDatabase = false
ends_script (OtherKind line) = false
ends_script (RefusedPair line) = false
ends_script cause = true

-- of a script that is made
abbrev pub ends_soak : Cause → Bool
ends_soak Usage = false
ends_soak (BadScript line) = false
ends_soak (BadDump line) = false
ends_soak Input = false
ends_soak InputTooLong = false
ends_soak Findings = false
ends_soak NoEnvironment = false
ends_soak NoDatabase = false
ends_soak (OtherKind line) = false
ends_soak (RefusedPair line) = false
ends_soak cause = true

-- of a dump
abbrev pub ends_dump : Cause → Bool
ends_dump Done = true
ends_dump Disk = true
ends_dump (Unreadable corruption) = true
ends_dump (WrongIndex name) = true
ends_dump Memory = true
ends_dump NoEnvironment = true
ends_dump NoDatabase = true
ends_dump IdsEnded = true
ends_dump cause = false

-- of a dump that is loaded
abbrev pub ends_load : Cause → Bool
ends_load Usage = false
ends_load (BadScript line) = false
ends_load Findings = false
ends_load NoEnvironment = false
ends_load cause = true

-- of files that are only read
abbrev pub ends_reading : Cause → Bool
ends_reading Done = true
ends_reading Disk = true
ends_reading (Unreadable corruption) = true
ends_reading Memory = true
ends_reading NoEnvironment = true
ends_reading cause = false

-- of files that are checked
abbrev pub ends_check : Cause → Bool
ends_check Findings = true
ends_check cause = ends_reading cause

-- of a log whose use is counted: as a dump, but for the database that this names
abbrev pub ends_stat : Cause → Bool
ends_stat NoDatabase = false
ends_stat cause = ends_dump cause

-- whether a command may end with a cause
abbrev pub may_end : Option Command → Cause → Bool
may_end None cause = ends_unparsed cause
may_end (Some (Run settings)) cause = ends_script cause
may_end (Some (Soak seed settings)) cause = ends_soak cause
may_end (Some (Dump db printed)) cause = ends_dump cause
may_end (Some (Load db no_overwrite)) cause = ends_load cause
may_end (Some PrintLog) cause = ends_reading cause
may_end (Some Verify) cause = ends_check cause
may_end (Some Stat) cause = ends_stat cause

-- ---- what is read

-- the input was a script, and was read to its end
abbrev pub ReadsPlan : Option (List ℕ) → Option (List ℕ) → RunPlan → Type 0
ReadsPlan (Some left) (Some rest) plan = (length left ≤ MOST_INPUT) × (plan_of left ≡ Ok plan) × (rest ≡ [])
ReadsPlan (Some left) None plan = ⊥
ReadsPlan None (Some rest) plan = ⊥
ReadsPlan None None plan = Unit {0}

-- the input was a dump, and was read to its end
abbrev pub ReadsDump : Option (List ℕ) → Option (List ℕ) → DumpRead → Type 0
ReadsDump (Some left) (Some rest) dump = (length left ≤ MOST_INPUT) × (dump_of left ≡ Ok dump) × (rest ≡ [])
ReadsDump (Some left) None dump = ⊥
ReadsDump None (Some rest) dump = ⊥
ReadsDump None None dump = Unit {0}

-- what a command has read of its input, where neither this nor memory ended it
abbrev pub ReadsInput : Option Command → Option (List ℕ) → Option (List ℕ) → Type 0
ReadsInput None left rest = rest ≡ left
ReadsInput (Some (Run settings)) left rest = (plan : RunPlan) × ReadsPlan left rest plan
ReadsInput (Some (Soak seed settings)) left rest = rest ≡ left
ReadsInput (Some (Dump db printed)) left rest = rest ≡ left
ReadsInput (Some (Load db no_overwrite)) left rest = (dump : DumpRead) × ReadsDump left rest dump
ReadsInput (Some PrintLog) left rest = rest ≡ left
ReadsInput (Some Verify) left rest = rest ≡ left
ReadsInput (Some Stat) left rest = rest ≡ left

-- the input is a dump
abbrev pub HasDump : Option (List ℕ) → DumpRead → Type 0
HasDump left dump = (bytes : List ℕ) × (left ≡ Some bytes) × (length bytes ≤ MOST_INPUT) × (dump_of bytes ≡ Ok dump)

-- the input is what a command needs
abbrev pub HasInput : Option Command → Option (List ℕ) → Type 0
HasInput None left = ⊥
HasInput (Some (Run settings)) left = (bytes : List ℕ) × (plan : RunPlan) × (left ≡ Some bytes) × (length bytes ≤ MOST_INPUT) × (plan_of bytes ≡ Ok plan)
HasInput (Some (Soak seed settings)) left = Unit {0}
HasInput (Some (Dump db printed)) left = Unit {0}
HasInput (Some (Load db no_overwrite)) left = (dump : DumpRead) × HasDump left dump
HasInput (Some PrintLog) left = Unit {0}
HasInput (Some Verify) left = Unit {0}
HasInput (Some Stat) left = Unit {0}

-- ---- the database that a command names

-- whether a load makes its database
abbrev pub makes_database : List ℕ → Store → Bool
makes_database db opening = not (is_some (database_of db opening))

-- whether pairs may be loaded into a database: it is there and no index, or one more may be made
abbrev pub takes_pairs : ℕ → Option Database → Bool
takes_pairs count None = nat_lt count MOST_DATABASES
takes_pairs count (Some database) = not (is_some database.index)

-- the same of the store at entry and the database of that name
abbrev pub is_place : List ℕ → Store → Bool
is_place db opening = takes_pairs (length opening.databases) (database_of db opening)

-- whether a database is there that keeps its records otherwise than a dump says
abbrev pub keeps_otherwise : Bool → Option Database → Bool
keeps_otherwise dup None = false
keeps_otherwise dup (Some database) = if dup then not (is_dup database.kind) else is_dup database.kind

-- how a load ends by what the store has under its name: for want of a place, or by the dump's line on duplicates where the database keeps its
-- records otherwise; in any other way only where the pairs were given to it
abbrev pub EndsByPlace : Cause → Bool → Bool → ℕ → Type 0
EndsByPlace NoDatabase place otherwise line = place ≡ false
EndsByPlace (OtherKind at) place otherwise line = (place ≡ true) × (otherwise ≡ true) × (at ≡ line)
EndsByPlace cause place otherwise line = (place ≡ true) × (otherwise ≡ false)

-- the same of any command, over this store
abbrev pub EndsAsPlaced : Option Command → Option (List ℕ) → Option (List ℕ) → Store → Cause → Type 0
EndsAsPlaced (Some (Load db no_overwrite)) left rest opening cause =
    (dump : DumpRead) × ReadsDump left rest dump × EndsByPlace cause (is_place db opening) (keeps_otherwise dump.dup (database_of db opening)) dump.dup_line
EndsAsPlaced command left rest opening cause = Unit {0}

-- the store has not the database that a command needs
abbrev pub LacksDatabase : Option Command → Store → Type 0
LacksDatabase (Some (Dump db printed)) opening = database_of db opening ≡ None
LacksDatabase (Some (Load db no_overwrite)) opening = is_place db opening ≡ false
LacksDatabase command opening = ⊥

-- the store has it, or the command needs none
abbrev pub HasDatabase : Option Command → Store → Type 0
HasDatabase (Some (Dump db printed)) opening = database_of db opening ≢ None
HasDatabase (Some (Load db no_overwrite)) opening = is_place db opening ≡ true
HasDatabase command opening = Unit {0}

-- ---- the lines of a run

-- the lines that a command gives over this store: those of the script that it read, those of its seed, those that load the dump that it read, or none
abbrev pub AreLines : Option Command → Option (List ℕ) → Option (List ℕ) → Store → List ScriptLine → Type 0
AreLines None left rest opening lines = ⊥
AreLines (Some (Run settings)) left rest opening lines = (plan : RunPlan) × ReadsPlan left rest plan × (lines ≡ plan.lines)
AreLines (Some (Soak seed settings)) left rest opening lines = lines ≡ soak_of seed
AreLines (Some (Dump db printed)) left rest opening lines = lines ≡ []
AreLines (Some (Load db no_overwrite)) left rest opening lines = (dump : DumpRead) × ReadsDump left rest dump × (lines ≡ load_lines (makes_database db opening) db no_overwrite dump)
AreLines (Some PrintLog) left rest opening lines = ⊥
AreLines (Some Verify) left rest opening lines = ⊥
AreLines (Some Stat) left rest opening lines = lines ≡ []

-- whether a command that ends so has given all its lines, if it ran: one that loads a dump only where all was done, any other unless memory ran out
abbrev pub GaveAll : Option Command → Cause → Type 0
GaveAll (Some (Load db no_overwrite)) cause = cause ≡ Done
GaveAll command cause = cause ≢ Memory

-- a journal holds of each session the first of its lines, and of the steps of maintenance the first
pub record HasFirstLines (lines : List ScriptLine) (journal : List Event) : Type 0 where
  pub each : (session : ℕ) → AreFirstLines (of_session session (lines_of journal)) (of_session session lines)
  pub steps : AreFirstLines (of_maintenance (lines_of journal)) (of_maintenance lines)

-- a journal holds the first lines of a load, and none behind a call that was refused; where all was done none was, and a refused pair is the cause only where
-- the line of its key was the first that was refused
pub record HasLoadLines (kept : Bool) (lines : List ScriptLine) (journal : List Event) (cause : Cause) : Type 0 where
  pub first : AreFirstLines (lines_of journal) lines
  pub stops : StopsAtRefusal kept journal
  pub done : cause ≡ Done → first_refused kept journal ≡ None
  pub refused : (line : ℕ) → cause ≡ RefusedPair line → first_refused kept journal ≡ Some line

-- which lines a journal holds at least that its command gives
abbrev pub HasFront : Option Command → List ScriptLine → List Event → Cause → Type 0
HasFront (Some (Load db no_overwrite)) lines journal cause = HasLoadLines no_overwrite lines journal cause
HasFront command lines journal cause = HasFirstLines lines journal

-- a journal holds a command's lines: all, in order; or where a line found no memory, of each session the
-- first of its lines, and of the steps of maintenance the first; of a load up to the first that is refused. Of a command that gives none it is empty
pub record IsGivenTo (command : Option Command) (left rest : Option (List ℕ)) (opening : Store) (journal : List Event) (cause : Cause) : Type 0 where
  pub lines : List ScriptLine
  pub are : AreLines command left rest opening lines
  pub all : GaveAll command cause → lines_of journal ≡ lines
  pub front : HasFront command lines journal cause
  pub none : gives_lines command ≡ false → journal ≡ []

-- What a load stores: its database, which it made or found, has the pairs of the dump put among its records, one after another. Whatever first of its
-- attempted commits a crash leaves, there is nothing of it, its database without a pair, or all that was attempted, and this is all pairs, or the database
-- alone where it did not commit. Where all was done the final store has all pairs.
pub record StoresDump (make : Bool) (db : List ℕ) (kept : Bool) (dump : DumpRead) (st : Standing) (journal : List Event) (cause : Cause) : Type 0 where
  pub whole : ComesWhole make db kept dump st journal
  pub attempted : lines_of journal ≡ load_lines make db kept dump → (d : Database) → database_of db (made_store make db (kind_of_dump dump.dup) st.store) ≡ Some d →
      (store_after st.store (attempts_of st journal) ≡ made_store make db (kind_of_dump dump.dup) st.store) ⊎ HasDumpedPairs db kept dump d (store_after st.store (attempts_of st journal))
  pub stored : cause ≡ Done → (d : Database) → database_of db (made_store make db (kind_of_dump dump.dup) st.store) ≡ Some d → HasDumpedPairs db kept dump d (final_store st journal)

-- what a command's run stores, beside what its journal says
abbrev pub IsStored : Option Command → Option (List ℕ) → Option (List ℕ) → Store → Standing → List Event → Cause → Type 0
IsStored (Some (Load db no_overwrite)) left rest opening st journal cause = (dump : DumpRead) × ReadsDump left rest dump × StoresDump (makes_database db opening) db no_overwrite dump st journal cause
IsStored command left rest opening st journal cause = Unit {0}

-- ---- the files

-- the files of numbers that rise, of which there is one, and none of them is damaged or of another version
pub record AreSound (files : Files) : Type 0 where
  pub held : List (ℕ × List ℕ)
  pub are : AreFiles files held
  pub some : held ≢ []
  pub none : corruption_in held ≡ None

-- so they are, and a check of them finds nothing
pub record AreFaultless (files : Files) : Type 0 where
  pub sound : AreSound files
  pub none : (check_of sound.held).findings ≡ []

-- so they are, and a check of them has findings
pub record HaveFindings (files : Files) : Type 0 where
  pub sound : AreSound files
  pub some : (check_of sound.held).findings ≢ []

-- what the end of a check says of the files: that it has findings, or that it finds nothing
abbrev pub EndsAsFound : Cause → Files → Type 0
EndsAsFound Done files = AreFaultless files
EndsAsFound Findings files = HaveFindings files
EndsAsFound cause files = Unit {0}

-- the first corruption in the files, in order
pub record HasDamage (files : Files) (corruption : Corruption) : Type 0 where
  pub held : List (ℕ × List ℕ)
  pub are : AreFiles files held
  pub found : corruption_in held ≡ Some corruption

-- the files can be opened: they mean a store, and each index of it has the pairs of its primary's records
pub record CanBeOpened (files : Files) : Type 0 where
  pub meaning : Meaning
  pub means : Means files meaning
  pub indexed : AreIndexed meaning.store

-- what a command finds wrong with the files at entry: the first problem in reading order; one that only reads files looks no further
abbrev pub IsFound : Option Command → Files → Corruption → Type 0
IsFound None files corruption = HasCorruption files corruption
IsFound (Some (Run settings)) files corruption = HasCorruption files corruption
IsFound (Some (Soak seed settings)) files corruption = HasCorruption files corruption
IsFound (Some (Dump db printed)) files corruption = HasCorruption files corruption
IsFound (Some (Load db no_overwrite)) files corruption = HasCorruption files corruption
IsFound (Some PrintLog) files corruption = HasDamage files corruption
IsFound (Some Verify) files corruption = HasDamage files corruption
IsFound (Some Stat) files corruption = HasCorruption files corruption

-- the files at entry are what a command needs
abbrev pub AreReady : Option Command → Files → Type 0
AreReady None files = ⊥
AreReady (Some (Run settings)) files = CanBeOpened files
AreReady (Some (Soak seed settings)) files = CanBeOpened files
AreReady (Some (Dump db printed)) files = (HasNoFile files → ⊥) × CanBeOpened files
AreReady (Some (Load db no_overwrite)) files = CanBeOpened files
AreReady (Some PrintLog) files = AreSound files
AreReady (Some Verify) files = AreFaultless files
AreReady (Some Stat) files = (HasNoFile files → ⊥) × CanBeOpened files

-- a run ends so that had its input, and files that can be opened: as its journal's room says; or it has not begun, since no number of a
-- node was left
abbrev pub EndsRun : Cause → Bool → List Event → Type 0
EndsRun cause opened journal = ((opened ≡ true) × (cause ≡ cause_of_room journal)) ⊎ ((opened ≡ false) × (cause ≡ IdsEnded))

-- a dump ends so that had files which can be opened: as its database is there or not; or it has not begun, since no number of a node was left
abbrev pub cause_of_found : Option Database → Cause
cause_of_found None = NoDatabase
cause_of_found (Some database) = Done

-- how a dump ends that has all that it needs: as its database is there or not, or at the opening, for want of numbers of transactions
abbrev pub EndsDump : Cause → Bool → Option Database → Type 0
EndsDump cause opened found = ((opened ≡ true) × (cause ≡ cause_of_found found)) ⊎ ((opened ≡ false) × (cause ≡ IdsEnded))

-- how a count of the log's use ends that has all that it needs: well, or at the opening, for want of numbers of nodes
abbrev pub EndsStat : Cause → Bool → Type 0
EndsStat cause opened = ((opened ≡ true) × (cause ≡ Done)) ⊎ ((opened ≡ false) × (cause ≡ IdsEnded))

-- how a load ends in a run: for want of a place, by the kind of the database, or as its journal says
abbrev pub load_end : Bool → ℕ → Bool → Bool → List Event → Cause
load_end kept line false otherwise journal = NoDatabase
load_end kept line true true journal = OtherKind line
load_end kept line true false journal = cause_of_load kept (cause_of_room journal) journal

-- how a load ends that has all that it needs: so, or at the opening, for want of numbers of nodes
abbrev pub EndsLoad : List ℕ → Bool → Option (List ℕ) → Cause → Bool → Store → List Event → Type 0
EndsLoad db kept left cause opened opening journal =
    ((dump : DumpRead) × HasDump left dump × (opened ≡ true) × (cause ≡ load_end kept dump.dup_line (is_place db opening) (keeps_otherwise dump.dup (database_of db opening)) journal))
    ⊎ ((opened ≡ false) × (cause ≡ IdsEnded))

-- how a command ends that has all that it needs, over this store
abbrev pub EndsWell : Option Command → Option (List ℕ) → Cause → Bool → Store → List Event → Type 0
EndsWell None left cause opened opening journal = ⊥
EndsWell (Some (Run settings)) left cause opened opening journal = EndsRun cause opened journal
EndsWell (Some (Soak seed settings)) left cause opened opening journal = EndsRun cause opened journal
EndsWell (Some (Dump db printed)) left cause opened opening journal = EndsDump cause opened (database_of db opening)
EndsWell (Some (Load db no_overwrite)) left cause opened opening journal = EndsLoad db no_overwrite left cause opened opening journal
EndsWell (Some PrintLog) left cause opened opening journal = cause ≡ Done
EndsWell (Some Verify) left cause opened opening journal = cause ≡ Done
EndsWell (Some Stat) left cause opened opening journal = EndsStat cause opened

-- ---- what is written

-- the report of a run, and none where no script was run
abbrev pub report_of : Bool → List Event → Totals → List ℕ
report_of true journal totals = report_text journal totals
report_of false journal totals = []

-- what is written of a soak: its seed, how many lines its script has, and the last line of the report
abbrev pub soak_text : ℕ → List Event → Totals → List ℕ
soak_text seed journal totals =
    codes "soak seed " ++ decimal seed ++ codes " lines " ++ decimal (length (soak_of seed)) ++ codes "\n" ++ end_line (commits_in [] journal) totals

-- that, and nothing where no script was run
abbrev pub soak_end_of : ℕ → Bool → List Event → Totals → List ℕ
soak_end_of seed true journal totals = soak_text seed journal totals
soak_end_of seed false journal totals = []

-- whether an event is a put that was done
unfoldable pub is_loaded : Event → Bool
is_loaded (Called session line (Put db key value mode) IsDone victims) = true
is_loaded event = false

-- whether it is one whose record was there and stays
unfoldable pub is_kept_pair : Event → Bool
is_kept_pair (Called session line (Put db key value mode) KeyExist victims) = true
is_kept_pair event = false

-- what is written of a load: how many pairs were put, and how many were there and stay
abbrev pub loaded_line : List Event → List ℕ
loaded_line journal = codes "loaded " ++ decimal (length (filter is_loaded journal)) ++ codes " kept " ++ decimal (length (filter is_kept_pair journal)) ++ codes "\n"

-- what a program has to write before its fault line
abbrev pub text_of : Text → Bool → List Event → Totals → List ℕ
text_of Nothing opened journal totals = []
text_of Report opened journal totals = report_of opened journal totals
text_of (SoakEnd seed) opened journal totals = soak_end_of seed opened journal totals
text_of (DumpText records number kind printed) opened journal totals = records_text printed kind (rows_kept records number)
text_of Loaded opened journal totals = loaded_line journal
text_of (Log files) opened journal totals = flat_map lines_text files.items
text_of (Checking checked) opened journal totals = check_text checked
text_of (Using used) opened journal totals = use_text used

-- what a program's work was: whether the disk is observable, its files at entry, and those at the end; whether a script was run, the store at
-- entry, the journal and how much the final store holds; and the cause of the end
pub record Work : Type 0 where
  pub observable : Bool
  pub files : Files
  pub left : Files
  pub opened : Bool
  pub opening : Store
  pub journal : List Event
  pub totals : Totals
  pub cause : Cause

-- what is written of a log: where all was done, all its files' lines; these are the disk's files, if that is observable
abbrev pub IsLogText : Cause → Bool → Files → List ℕ → Type 0
IsLogText Done observable files text = (held : List (ℕ × List ℕ)) × (observable ≡ true → AreFiles files held) × (text ≡ log_text held)
IsLogText cause observable files text = text ≡ []

-- all of a check of files that can each be read; these are the disk's files, if that is observable
pub record IsCheckOf (observable : Bool) (files : Files) (text : List ℕ) : Type 0 where
  pub held : List (ℕ × List ℕ)
  pub are : observable ≡ true → AreFiles files held
  pub none : corruption_in held ≡ None
  pub text_is : text ≡ check_text (check_of held)

-- what is written of a check: all of it, where it finds nothing and where it has findings
abbrev pub IsCheckText : Cause → Bool → Files → List ℕ → Type 0
IsCheckText Done observable files text = (c : IsCheckOf observable files text) × ((check_of c.held).findings ≡ [])
IsCheckText Findings observable files text = (c : IsCheckOf observable files text) × ((check_of c.held).findings ≢ [])
IsCheckText cause observable files text = text ≡ []

-- the use of the log in files that have a meaning; these are the disk's files, if that is observable
pub record IsUseIn (observable : Bool) (files : Files) (text : List ℕ) : Type 0 where
  pub held : List (ℕ × List ℕ)
  pub are : observable ≡ true → AreFiles files held
  pub meaning : Meaning
  pub means : reading_of held ≡ Ok meaning
  pub text_is : text ≡ use_text (use_of meaning held)

-- what is written of the log's use, where all was done
abbrev pub IsUseText : Cause → Bool → Files → List ℕ → Type 0
IsUseText Done observable files text = IsUseIn observable files text
IsUseText cause observable files text = text ≡ []

-- what is written of a dump: where all was done, the database
abbrev pub dump_at : Cause → Bool → Option Database → List ℕ
dump_at Done printed database = database_text printed database
dump_at cause printed database = []

-- what is written of a load: where all was done, its line
abbrev pub loaded_at : Cause → List Event → List ℕ
loaded_at Done journal = loaded_line journal
loaded_at cause journal = []

-- what a command writes before its fault line
abbrev pub IsTextOf : Option Command → Work → List ℕ → Type 0
IsTextOf None w text = text ≡ []
IsTextOf (Some (Run settings)) w text = text ≡ report_of w.opened w.journal w.totals
IsTextOf (Some (Soak seed settings)) w text = text ≡ soak_end_of seed w.opened w.journal w.totals
IsTextOf (Some (Dump db printed)) w text = text ≡ dump_at w.cause printed (database_of db w.opening)
IsTextOf (Some (Load db no_overwrite)) w text = text ≡ loaded_at w.cause w.journal
IsTextOf (Some PrintLog) w text = IsLogText w.cause w.observable w.files text
IsTextOf (Some Verify) w text = IsCheckText w.cause w.observable w.files text
IsTextOf (Some Stat) w text = IsUseText w.cause w.observable w.left text
