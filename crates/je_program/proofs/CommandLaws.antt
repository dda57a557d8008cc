-- What a program came to, command by command.
use Rattle.std.specs.Map.{lookup}
use Rattle.std.proofs.Common.{◌≡◌, ◌≢◌, ◌==◌, ◌<◌, ◌≤◌, ◌⊎◌, ◌∙◌, ℕ, Bool, true, false, true≢false, List, [], Option, None, Some, IfSome, Result, Ok, Err, is_some, length, refl, ap, sym, subst, inl, inr, arith}
use Rattle.je_order.specs.Counts.{HasRisen, HasRisen as Failing}
use Rattle.je_disk.specs.DiskMeaning.{DiskMeaning}
use Rattle.je_disk.specs.Moments.{now}
use Rattle.je_disk.specs.States.{Files}
use Rattle.store_model.specs.declared.event.Event.{Event}
use Rattle.store_model.specs.declared.plan.RunPlan.{RunPlan}
use Rattle.store_model.specs.declared.plan.ScriptLine.{ScriptLine}
use Rattle.store_model.specs.declared.store.Database.{Database}
use Rattle.store_model.specs.declared.store.Store.{Store}
use Rattle.store_model.specs.declared.totals.Totals.{Totals}
use Rattle.store_model.specs.Store.{database_of, no_databases}
use Rattle.store_model.specs.Journal.{is_disk_fault}
use Rattle.je_answers.specs.Standing.{Standing}
use Rattle.je_answers.specs.Journal.{has_answer}
use Rattle.log_replay.specs.declared.corruption.Corruption.{Corruption}
use Rattle.log_replay.specs.Indexed.{wrong_index}
use Rattle.log_meaning.specs.Meaning.{Meaning}
use Rattle.engine.specs.Crash.{KeepsEntry}
use Rattle.engine.specs.Files.{HasCorruption, HasWrongIndex, Means}
use Rattle.engine.specs.Untouched.{IsUntouched}
use Rattle.engine.proofs.EntryLaws.{entry_none, entry_still}
use Rattle.engine.proofs.UntouchedLaws.{untouched_itself}
use Rattle.script_text.specs.Grammar.{plan_of}
use Rattle.dump_text.specs.declared.dump.Dump.{Dump as DumpRead}
use Rattle.dump_text.specs.Grammar.{dump_of}
use Rattle.command_line.specs.declared.command.RunSettings.{RunSettings}
use Rattle.command_line.specs.declared.command.Command.{Command}
use Rattle.command_line.specs.declared.command.Command.TheVariants.{Run, Soak, Dump, Load, PrintLog, Verify, Stat}
use Rattle.log_file.specs.Log.{AreFiles}
use Rattle.log_printer.specs.Reading.{HasNoFile}
use Rattle.je_program.specs.declared.cause.Cause.{Cause}
use Rattle.je_program.specs.declared.cause.Cause.TheVariants.{Done, Usage, BadScript, BadDump, Disk, Unreadable, WrongIndex, Memory, Findings, NoEnvironment, NoDatabase, OtherKind, RefusedPair, Input, InputTooLong, IdsEnded}
use Rattle.je_program.specs.declared.reading.TheConstants.{MOST_INPUT}
use Rattle.je_program.specs.declared.run_result.RunResult.{RunResult}
use Rattle.je_program.specs.declared.text.Text.{Text}
use Rattle.je_program.specs.declared.text.Text.TheVariants.{Nothing, Log}
use Rattle.je_program.specs.Commands.{AreReady, AreSound, EndsAsFound, CanBeOpened, EndsRun, EndsWell, GaveAll, HasDatabase, HasDump, HasFirstLines, HasFront, HasInput, HaveFindings, IsCheckText, IsFound, IsLogText, IsUseText, EndsAsPlaced, IsStored, IsTextOf, ReadsDump, ReadsPlan, dump_at, ends_check, ends_dump, ends_load, ends_reading, ends_script, ends_soak, ends_stat, ends_unparsed, gives_lines, is_script, loaded_at, may_end, needs_environment, opens, reads_input, text_of}
use Rattle.je_program.specs.Printing.{IsPrinted}
use Rattle.je_program.specs.Program.{ClosesRun, EndsBy, EndsWith, IsNoRequest, IsStopped, RunsBy, RunsIf, is_before_disk}
use Rattle.je_program.specs.Unprinted.{ComesTo, needs_file}
use Rattle.je_program.proofs.EndLaws.{checks_damage, checks_findings, checks_nothing, checks_well, completes, corrupt_has_files, damage_has_files, dump_completes, dump_nothing, finds, finds_wrong, load_completes, past_input, reads_damage, reads_nothing, reads_well, sound_has_files, stat_completes, stat_dump, wrong_has_files}
use Rattle.je_program.proofs.UntouchedLaws.{left_alone}

-- ---- a command that opens the environment

pub life_opens : (command : Option Command) → is_script command ≡ true → opens command ≡ true
life_opens None script = cc
life_opens (Some (Run settings)) script = refl
life_opens (Some (Soak seed settings)) script = refl
life_opens (Some (Dump db printed)) script = cc
life_opens (Some (Load db no_overwrite)) script = cc
life_opens (Some PrintLog) script = cc
life_opens (Some Verify) script = cc
life_opens (Some Stat) script = cc

pub life_gives : (command : Option Command) → is_script command ≡ true → gives_lines command ≡ true
life_gives None script = cc
life_gives (Some (Run settings)) script = refl
life_gives (Some (Soak seed settings)) script = refl
life_gives (Some (Dump db printed)) script = cc
life_gives (Some (Load db no_overwrite)) script = cc
life_gives (Some PrintLog) script = cc
life_gives (Some Verify) script = cc
life_gives (Some Stat) script = cc

-- what a soak may end with, a script may, and a dump that is loaded
pub soak_script : (cause : Cause) → ends_soak cause ≡ true → ends_script cause ≡ true
soak_script Usage may = may
soak_script (BadDump line) may = may
soak_script NoEnvironment may = may
soak_script Findings may = may
soak_script NoDatabase may = may
soak_script (OtherKind line) may = may
soak_script (RefusedPair line) may = may
soak_script cause may = refl

pub soak_load : (cause : Cause) → ends_soak cause ≡ true → ends_load cause ≡ true
soak_load Usage may = may
soak_load (BadScript line) may = may
soak_load NoEnvironment may = may
soak_load Findings may = may
soak_load cause may = refl

pub life_may : (command : Option Command) (cause : Cause) → is_script command ≡ true → ends_soak cause ≡ true → may_end command cause ≡ true
life_may None cause script may = cc
life_may (Some (Run settings)) cause script may = soak_script cause may
life_may (Some (Soak seed settings)) cause script may = may
life_may (Some (Dump db printed)) cause script may = cc
life_may (Some (Load db no_overwrite)) cause script may = cc
life_may (Some PrintLog) cause script may = cc
life_may (Some Verify) cause script may = cc
life_may (Some Stat) cause script may = cc

-- it makes an environment where there is none, and names no database
pub life_needs_none : {A : Type 0} (command : Option Command) → is_script command ≡ true → needs_environment command ≡ true → A
life_needs_none None script needs = cc
life_needs_none (Some (Run settings)) script needs = cc
life_needs_none (Some (Soak seed settings)) script needs = cc
life_needs_none (Some (Dump db printed)) script needs = cc
life_needs_none (Some (Load db no_overwrite)) script needs = cc
life_needs_none (Some PrintLog) script needs = cc
life_needs_none (Some Verify) script needs = cc
life_needs_none (Some Stat) script needs = cc

pub life_has : (command : Option Command) (opening : Store) → is_script command ≡ true → HasDatabase command opening
life_has None opening script = tt
life_has (Some (Run settings)) opening script = tt
life_has (Some (Soak seed settings)) opening script = tt
life_has (Some (Dump db printed)) opening script = cc
life_has (Some (Load db no_overwrite)) opening script = cc
life_has (Some PrintLog) opening script = tt
life_has (Some Verify) opening script = tt
life_has (Some Stat) opening script = tt

pub life_placed : (command : Option Command) (left rest : Option (List ℕ)) (opening : Store) (cause : Cause) → is_script command ≡ true → EndsAsPlaced command left rest opening cause
life_placed None left rest opening cause script = tt
life_placed (Some (Run settings)) left rest opening cause script = tt
life_placed (Some (Soak seed settings)) left rest opening cause script = tt
life_placed (Some (Dump db printed)) left rest opening cause script = tt
life_placed (Some (Load db no_overwrite)) left rest opening cause script = cc
life_placed (Some PrintLog) left rest opening cause script = tt
life_placed (Some Verify) left rest opening cause script = tt
life_placed (Some Stat) left rest opening cause script = tt

pub life_stored : (command : Option Command) (left rest : Option (List ℕ)) (opening : Store) (st : Standing) (journal : List Event) (cause : Cause) → is_script command ≡ true → IsStored command left rest opening st journal cause
life_stored None left rest opening st journal cause script = tt
life_stored (Some (Run settings)) left rest opening st journal cause script = tt
life_stored (Some (Soak seed settings)) left rest opening st journal cause script = tt
life_stored (Some (Dump db printed)) left rest opening st journal cause script = tt
life_stored (Some (Load db no_overwrite)) left rest opening st journal cause script = cc
life_stored (Some PrintLog) left rest opening st journal cause script = tt
life_stored (Some Verify) left rest opening st journal cause script = tt
life_stored (Some Stat) left rest opening st journal cause script = tt

pub life_front : (command : Option Command) (lines : List ScriptLine) (journal : List Event) (cause : Cause) → is_script command ≡ true → HasFirstLines lines journal → HasFront command lines journal cause
life_front None lines journal cause script first = first
life_front (Some (Run settings)) lines journal cause script first = first
life_front (Some (Soak seed settings)) lines journal cause script first = first
life_front (Some (Dump db printed)) lines journal cause script first = first
life_front (Some (Load db no_overwrite)) lines journal cause script first = cc
life_front (Some PrintLog) lines journal cause script first = first
life_front (Some Verify) lines journal cause script first = first
life_front (Some Stat) lines journal cause script first = first

pub life_all : (command : Option Command) (cause : Cause) → is_script command ≡ true → GaveAll command cause → cause ≢ Memory
life_all None cause script all = all
life_all (Some (Run settings)) cause script all = all
life_all (Some (Soak seed settings)) cause script all = all
life_all (Some (Dump db printed)) cause script all = all
life_all (Some (Load db no_overwrite)) cause script all = cc
life_all (Some PrintLog) cause script all = all
life_all (Some Verify) cause script all = all
life_all (Some Stat) cause script all = all

pub life_ends : (journal : List Event) (cause : Cause) → ends_soak cause ≡ true → EndsBy journal cause → EndsWith journal cause
life_ends journal NoDatabase may ends = cc
life_ends journal (OtherKind line) may ends = cc
life_ends journal (RefusedPair line) may ends = cc
life_ends journal cause may ends = ends

pub past_reading : (left : Option (List ℕ)) (before after : ℕ) (cause : Cause) → ends_soak cause ≡ true → IsStopped left before after cause
past_reading left before after Input may = cc
past_reading left before after InputTooLong may = cc
past_reading left before after (BadScript line) may = cc
past_reading left before after (BadDump line) may = cc
past_reading left before after cause may = tt

pub after_input : (cause : Cause) → ends_soak cause ≡ true → is_before_disk cause ≡ false
after_input Usage may = absurd (true≢false (sym may))
after_input (BadScript line) may = absurd (true≢false (sym may))
after_input (BadDump line) may = absurd (true≢false (sym may))
after_input Input may = absurd (true≢false (sym may))
after_input InputTooLong may = absurd (true≢false (sym may))
after_input cause may = refl

pub life_is_no_reading : {A : Type 0} (command : Option Command) → opens command ≡ true → command ≡ Some PrintLog → A
life_is_no_reading command opened is = absurd (true≢false (sym opened ∙ ap opens is))

pub life_none : {A : Type 0} (cause : Cause) → ends_soak cause ≡ true → cause ≡ NoEnvironment → A
life_none cause may is = absurd (true≢false (sym may ∙ ap ends_soak is))

pub life_names_none : {A : Type 0} (cause : Cause) → ends_soak cause ≡ true → cause ≡ NoDatabase → A
life_names_none cause may is = absurd (true≢false (sym may ∙ ap ends_soak is))

pub life_found : (command : Option Command) (files : Files) (corruption : Corruption) → opens command ≡ true → HasCorruption files corruption → IsFound command files corruption
life_found None files corruption opened has = has
life_found (Some (Run settings)) files corruption opened has = has
life_found (Some (Soak seed settings)) files corruption opened has = has
life_found (Some (Dump db printed)) files corruption opened has = has
life_found (Some (Load db no_overwrite)) files corruption opened has = has
life_found (Some PrintLog) files corruption opened has = cc
life_found (Some Verify) files corruption opened has = cc
life_found (Some Stat) files corruption opened has = has

pub life_runs : (command : Option Command) (cause : Cause) (is_opened : Bool) → opens command ≡ true → RunsIf cause is_opened → RunsBy (opens command) cause is_opened
life_runs command cause is_opened opened runs = subst (λ (b : Bool). RunsBy b cause is_opened) (sym opened) runs

-- ---- nothing was to do

none_may : (command : Option Command) (left : Option (List ℕ)) (before after : ℕ) (cause : Cause) → IsNoRequest command left before after cause → may_end command cause ≡ true
none_may command left before after Usage none = ap (λ (k : Option Command). may_end k Usage) none
none_may None left before after Memory none = refl
none_may (Some (Run settings)) left before after Memory none = refl
none_may (Some (Soak seed settings)) left before after Memory none = refl
none_may (Some (Dump db printed)) left before after Memory none = refl
none_may (Some (Load db no_overwrite)) left before after Memory none = refl
none_may (Some PrintLog) left before after Memory none = refl
none_may (Some Verify) left before after Memory none = refl
none_may (Some Stat) left before after Memory none = refl
none_may command left before after cause none = none.1

none_stopped : (command : Option Command) (left : Option (List ℕ)) (before after : ℕ) (cause : Cause) → IsNoRequest command left before after cause → IsStopped left before after cause
none_stopped command left before after Input none = none.2
none_stopped command left before after InputTooLong none = none.2
none_stopped command left before after (BadScript line) none = none.2
none_stopped command left before after (BadDump line) none = none.2
none_stopped command left before after cause none = tt

-- the causes with which nothing was to do
abbrev IsEarly : Cause → Type 0
IsEarly Usage = Unit {0}
IsEarly Memory = Unit {0}
IsEarly Input = Unit {0}
IsEarly InputTooLong = Unit {0}
IsEarly (BadScript line) = Unit {0}
IsEarly (BadDump line) = Unit {0}
IsEarly cause = ⊥

early : (command : Option Command) (left : Option (List ℕ)) (before after : ℕ) (cause : Cause) → IsNoRequest command left before after cause → IsEarly cause
early command left before after Usage none = tt
early command left before after Memory none = tt
early command left before after Input none = tt
early command left before after InputTooLong none = tt
early command left before after (BadScript line) none = tt
early command left before after (BadDump line) none = tt
early command left before after cause none = none.2

not_early : (cause other : Cause) → IsEarly cause → cause ≡ other → IsEarly other
not_early cause other is same = subst IsEarly same is

early_before : (cause : Cause) → IsEarly cause → is_before_disk cause ≡ false → cause ≡ Memory
early_before Usage is after = absurd (true≢false after)
early_before Memory is after = refl
early_before Input is after = absurd (true≢false after)
early_before InputTooLong is after = absurd (true≢false after)
early_before (BadScript line) is after = absurd (true≢false after)
early_before (BadDump line) is after = absurd (true≢false after)
early_before cause is after = absurd is

early_runs : (opening : Bool) (cause : Cause) → IsEarly cause → RunsBy opening cause false
early_runs false cause is = refl
early_runs true Usage is = refl
early_runs true Memory is = tt
early_runs true Input is = refl
early_runs true InputTooLong is = refl
early_runs true (BadScript line) is = refl
early_runs true (BadDump line) is = refl
early_runs true cause is = absurd is

early_dump : (cause : Cause) (printed : Bool) (database : Option Database) → IsEarly cause → [] ≡ dump_at cause printed database
early_dump Done printed database is = absurd is
early_dump cause printed database is = refl

early_load : (cause : Cause) (journal : List Event) → IsEarly cause → [] ≡ loaded_at cause journal
early_load Done journal is = absurd is
early_load cause journal is = refl

early_needs : (cause : Cause) → IsEarly cause → needs_file cause ≡ true → ⊥
early_needs Usage is needs = cc
early_needs Memory is needs = cc
early_needs Input is needs = cc
early_needs InputTooLong is needs = cc
early_needs (BadScript line) is needs = cc
early_needs (BadDump line) is needs = cc
early_needs cause is needs = is

early_log : (cause : Cause) (observable : Bool) (files : Files) → IsEarly cause → IsLogText cause observable files []
early_log Done observable files is = absurd is
early_log cause observable files is = refl

early_check : (cause : Cause) (observable : Bool) (files : Files) → IsEarly cause → IsCheckText cause observable files []
early_check Done observable files is = absurd is
early_check Findings observable files is = absurd is
early_check cause observable files is = refl

early_use : (cause : Cause) (observable : Bool) (files : Files) → IsEarly cause → IsUseText cause observable files []
early_use Done observable files is = absurd is
early_use cause observable files is = refl

early_text : (command : Option Command) (observable : Bool) (files left : Files) (cause : Cause) (opening : Store) (journal : List Event) (totals : Totals) → IsEarly cause →
    IsTextOf command (record { observable = observable; files = files; left = left; opened = false; opening = opening; journal = journal; totals = totals; cause = cause }) []
early_text None observable files left cause opening journal totals is = refl
early_text (Some (Run settings)) observable files left cause opening journal totals is = refl
early_text (Some (Soak seed settings)) observable files left cause opening journal totals is = refl
early_text (Some (Dump db printed)) observable files left cause opening journal totals is = early_dump cause printed (database_of db opening) is
early_text (Some (Load db no_overwrite)) observable files left cause opening journal totals is = early_load cause journal is
early_text (Some PrintLog) observable files left cause opening journal totals is = early_log cause observable files is
early_text (Some Verify) observable files left cause opening journal totals is = early_check cause observable files is
early_text (Some Stat) observable files left cause opening journal totals is = early_use cause observable left is

-- a program without a journal, whose disk failed only where its count rose
pub unrun : (before after : ℕ) (journal : List Event) (cause : Cause) → before ≤ after → journal ≡ [] → (cause ≡ Disk → HasRisen before after) → ClosesRun before after journal cause
unrun before after journal cause later none failed = record {
  never_falls = later;
  fault = λ h. (let e : has_answer is_disk_fault [] ≡ true = sym (ap (has_answer is_disk_fault) none) ∙ h in cc);
  failed = failed;
}

module _ {D : Type 0} (meaning : DiskMeaning D) where
  -- the arguments or the input gave nothing to do
  pub none_comes : (command : Option Command) (left rest : Option (List ℕ)) (before after : ℕ) (disk : D) (r : RunResult D) → IsNoRequest command left before after r.cause →
      before ≤ after → r.opened ≡ false → r.disk ≡ disk → r.journal.items ≡ [] → r.opening ≡ no_databases →
      ComesTo command meaning left rest before after disk r Nothing
  none_comes command left rest before after disk r none later shut same no_journal nothing =
      let is = early command left before after r.cause none in
      let still : (d : D) → d ≡ disk → IsUntouched (meaning.history disk) (meaning.history d) = λ d e. subst (λ (d : D). IsUntouched (meaning.history disk) (meaning.history d)) (sym e) (untouched_itself (meaning.history disk)) in
      record {
        may = none_may command left before after r.cause none;
        stopped = none_stopped command left before after r.cause none;
        read = λ after_input other. absurd (other (early_before r.cause is after_input));
        given = λ opened. absurd (true≢false (sym opened ∙ shut));
        untouched = λ before_disk. same;
        runs = subst (λ (b : Bool). RunsBy (opens command) r.cause b) (sym shut) (early_runs (opens command) r.cause is);
        run = λ opened. absurd (true≢false (sym opened ∙ shut));
        unopened = λ none_opened. (nothing, no_journal);
        unreadable = λ corruption e. absurd (not_early r.cause (Unreadable corruption) is e);
        sound = λ command_is e. absurd (not_early r.cause Done is e);
        wrong_index = λ name e. absurd (not_early r.cause (WrongIndex name) is e);
        ids_ended = λ e. absurd (not_early r.cause IdsEnded is e);
        no_environment = λ e. absurd (not_early r.cause NoEnvironment is e);
        some_file = λ needs file. absurd (early_needs r.cause is file);
        no_database = λ e. absurd (not_early r.cause NoDatabase is e);
        has_database = λ e. absurd (not_early r.cause Done is e);
        placed = λ opened. absurd (true≢false (sym opened ∙ shut));
        ends = λ opened. absurd (true≢false (sym opened ∙ shut));
        caused = unrun (meaning.faults disk) (meaning.faults r.disk) r.journal.items r.cause (subst (λ (d : D). meaning.faults disk ≤ meaning.faults d) (sym same) (omega arith)) no_journal (λ e. absurd (not_early r.cause Disk is e));
        left_alone = λ observed. left_alone r.cause (meaning.history disk) (meaning.history r.disk) (still r.disk same);
        reads_only = λ closed observed. still r.disk same;
        crash_unopened = λ observed none_opened. subst (λ (d : D). KeepsEntry (meaning.history disk) (meaning.history d)) (sym same) (entry_none (meaning.history disk));
        text_is = subst (λ (b : Bool). IsTextOf command (record { observable = meaning.observable; files = (now (meaning.history disk)).reads; left = (now (meaning.history r.disk)).reads; opened = b; opening = r.opening; journal = r.journal.items; totals = r.totals; cause = r.cause }) [])
            (sym shut) (early_text command meaning.observable (now (meaning.history disk)).reads (now (meaning.history r.disk)).reads r.cause r.opening r.journal.items r.totals is);
        source = later;
      }

  -- ---- a log was to be printed

  printed_log : (files : Files) (before after : ℕ) (cause : Cause) (text : Text) (opened : Bool) (journal : List Event) (totals : Totals) → ends_reading cause ≡ true → IsPrinted meaning.observable files before after cause text →
      IsLogText cause meaning.observable files (text_of text opened journal totals)
  printed_log files before after Done (Log lines) opened journal totals may printed = (printed.held, printed.are, printed.text)
  printed_log files before after Done text opened journal totals may printed = absurd printed
  printed_log files before after Disk text opened journal totals may printed = ap (λ (t : Text). text_of t opened journal totals) printed.1
  printed_log files before after Memory text opened journal totals may printed = ap (λ (t : Text). text_of t opened journal totals) printed
  printed_log files before after NoEnvironment text opened journal totals may printed = ap (λ (t : Text). text_of t opened journal totals) printed.1
  printed_log files before after (Unreadable corruption) text opened journal totals may printed = ap (λ (t : Text). text_of t opened journal totals) printed.1
  printed_log files before after cause text opened journal totals may printed = absurd printed

  printed_sound : (files : Files) (before after : ℕ) (text : Text) → IsPrinted meaning.observable files before after Done text → meaning.observable ≡ true → AreSound files
  printed_sound files before after (Log lines) printed observed = record { held = printed.held; are = printed.are observed; some = printed.some; none = printed.none }
  printed_sound files before after text printed observed = absurd printed

  -- a file was there
  printed_file : (files : Files) (before after : ℕ) (cause : Cause) (text : Text) → ends_reading cause ≡ true → IsPrinted meaning.observable files before after cause text → needs_file cause ≡ true → meaning.observable ≡ true →
      HasNoFile files → ⊥
  printed_file files before after Done text may printed needs observed none = sound_has_files files (printed_sound files before after text printed observed) none
  printed_file files before after (Unreadable corruption) text may printed needs observed none =
      let damage = printed.0 in damage_has_files files corruption (record { held = damage.held; are = damage.are observed; found = damage.found }) none
  printed_file files before after (WrongIndex name) text may printed needs observed none = cc
  printed_file files before after NoDatabase text may printed needs observed none = cc
  printed_file files before after IdsEnded text may printed needs observed none = cc
  printed_file files before after cause text may printed needs observed none = cc

  reading_stopped : (left : Option (List ℕ)) (before after : ℕ) (cause : Cause) → ends_reading cause ≡ true → IsStopped left before after cause
  reading_stopped left before after Input is = cc
  reading_stopped left before after InputTooLong is = cc
  reading_stopped left before after (BadScript line) is = cc
  reading_stopped left before after (BadDump line) is = cc
  reading_stopped left before after cause is = tt

  reading_after : (cause : Cause) → ends_reading cause ≡ true → is_before_disk cause ≡ false
  reading_after Usage is = absurd (true≢false (sym is))
  reading_after Input is = absurd (true≢false (sym is))
  reading_after InputTooLong is = absurd (true≢false (sym is))
  reading_after (BadScript line) is = absurd (true≢false (sym is))
  reading_after (BadDump line) is = absurd (true≢false (sym is))
  reading_after cause is = refl

  pub print_comes : (left : Option (List ℕ)) (before after : ℕ) (disk : D) (r : RunResult D) (text : Text) → before ≤ after → ends_reading r.cause ≡ true →
      IsPrinted meaning.observable (now (meaning.history disk)).reads (meaning.faults disk) (meaning.faults r.disk) r.cause text → r.opened ≡ false → r.journal.items ≡ [] → r.opening ≡ no_databases →
      (meaning.observable ≡ true → IsUntouched (meaning.history disk) (meaning.history r.disk)) → meaning.faults disk ≤ meaning.faults r.disk →
      ComesTo (Some PrintLog) meaning left left before after disk r text
  print_comes left before after disk r text later may printed shut no_journal nothing untouched never_falls =
      let files = (now (meaning.history disk)).reads in
      let at : (cause : Cause) → r.cause ≡ cause → IsPrinted meaning.observable files (meaning.faults disk) (meaning.faults r.disk) cause text = λ cause e. subst (λ (c : Cause). IsPrinted meaning.observable files (meaning.faults disk) (meaning.faults r.disk) c text) e printed in
      let other : (cause : Cause) → r.cause ≡ cause → ends_reading cause ≡ true = λ cause e. subst (λ (c : Cause). ends_reading c ≡ true) e may in
      record {
        may = may;
        stopped = reading_stopped left before after r.cause may;
        read = λ after_input other_. refl;
        given = λ opened. absurd (true≢false (sym opened ∙ shut));
        untouched = λ before_disk. absurd (true≢false (sym before_disk ∙ reading_after r.cause may));
        runs = shut;
        run = λ opened. absurd (true≢false (sym opened ∙ shut));
        unopened = λ none_opened. (nothing, no_journal);
        unreadable = λ corruption e observed. (let damage = (at (Unreadable corruption) e).0 in record { held = damage.held; are = damage.are observed; found = damage.found });
        sound = λ command_is e observed. printed_sound files (meaning.faults disk) (meaning.faults r.disk) text (at Done e) observed;
        wrong_index = λ name e. absurd (true≢false (sym (other (WrongIndex name) e)));
        ids_ended = λ e. absurd (true≢false (sym (other IdsEnded e)));
        no_environment = λ e. (at NoEnvironment e).0;
        some_file = λ needs file observed none. printed_file files (meaning.faults disk) (meaning.faults r.disk) r.cause text may printed file observed none;
        no_database = λ e. absurd (true≢false (sym (other NoDatabase e)));
        has_database = λ e. tt;
        placed = λ opened. absurd (true≢false (sym opened ∙ shut));
        ends = λ opened. absurd (true≢false (sym opened ∙ shut));
        caused = unrun (meaning.faults disk) (meaning.faults r.disk) r.journal.items r.cause never_falls no_journal (λ e. (at Disk e).0);
        left_alone = λ observed. left_alone r.cause (meaning.history disk) (meaning.history r.disk) (untouched observed);
        reads_only = λ closed. untouched;
        crash_unopened = λ observed none_opened. (let u = untouched observed in entry_still (meaning.history disk) (meaning.history r.disk) u.moments u.same);
        text_is = printed_log files (meaning.faults disk) (meaning.faults r.disk) r.cause text r.opened r.journal.items r.totals may printed;
        source = later;
      }

-- ---- files were to be checked

-- there are files, and they are these
some_held : (files : Files) (held : List (ℕ × List ℕ)) → AreFiles files held → (HasNoFile files → ⊥) → held ≢ []
some_held files held are there empty = there (λ f. sym (are.each f) ∙ ap (lookup (λ n. n == f)) empty)

ended_as_found : (observable : Bool) (files : Files) (cause : Cause) (text : List ℕ) → observable ≡ true → (needs_file cause ≡ true → HasNoFile files → ⊥) → IsCheckText cause observable files text → EndsAsFound cause files
ended_as_found observable files Done text observed there is =
    let c = is.0 in record { sound = record { held = c.held; are = c.are observed; some = some_held files c.held (c.are observed) (there refl); none = c.none }; none = is.1 }
ended_as_found observable files Findings text observed there is =
    let c = is.0 in record { sound = record { held = c.held; are = c.are observed; some = some_held files c.held (c.are observed) (there refl); none = c.none }; some = is.1 }
ended_as_found observable files cause text observed there is = tt

-- ---- the clauses of the top call

read_bytes : (left rest : Option (List ℕ)) (plan : RunPlan) (bytes : List ℕ) → ReadsPlan left rest plan → left ≡ Some bytes → (length bytes ≤ MOST_INPUT) × (plan_of bytes ≡ Ok plan)
read_bytes (Some l) (Some r) plan bytes read is = (let same : l ≡ bytes = cc in subst (λ (b : List ℕ). (length b ≤ MOST_INPUT) × (plan_of b ≡ Ok plan)) same (read.0, read.1))
read_bytes (Some l) None plan bytes read is = absurd read
read_bytes None rest plan bytes read is = cc

dump_bytes : (left rest : Option (List ℕ)) (dump : DumpRead) (bytes : List ℕ) → ReadsDump left rest dump → left ≡ Some bytes → (length bytes ≤ MOST_INPUT) × (dump_of bytes ≡ Ok dump)
dump_bytes (Some l) (Some r) dump bytes read is = (let same : l ≡ bytes = cc in subst (λ (b : List ℕ). (length b ≤ MOST_INPUT) × (dump_of b ≡ Ok dump)) same (read.0, read.1))
dump_bytes (Some l) None dump bytes read is = absurd read
dump_bytes None rest dump bytes read is = cc

-- what was read of an input that is known was a dump
has_dump : (left rest : Option (List ℕ)) (dump other : DumpRead) → ReadsDump left rest dump → HasDump left other → HasDump left dump
has_dump left rest dump other read has = (let found = dump_bytes left rest dump has.0 read has.1 in (has.0, has.1, found.0, found.1))

module _ (left rest : Option (List ℕ)) (before after : ℕ) where
  -- an input that is too long
  too_much : (bytes : List ℕ) → left ≡ Some bytes → MOST_INPUT < length bytes → (plan : RunPlan) × ReadsPlan left rest plan → ⊥
  too_much bytes is long has = (let short = (read_bytes left rest has.0 bytes has.1 is).0 in omega (arith, short, long))

  too_much_dump : (bytes : List ℕ) → left ≡ Some bytes → MOST_INPUT < length bytes → (dump : DumpRead) × ReadsDump left rest dump → ⊥
  too_much_dump bytes is long has = (let short = (dump_bytes left rest has.0 bytes has.1 is).0 in omega (arith, short, long))

  too_long_by : (cause : Cause) (bytes : List ℕ) → left ≡ Some bytes → MOST_INPUT < length bytes → cause ≢ Usage → IsStopped left before after cause →
      (is_before_disk cause ≡ false → cause ≢ Memory → ⊥) → (cause ≡ InputTooLong) ⊎ (cause ≡ Memory) ⊎ Failing before after
  too_long_by Usage bytes is long right stopped unread = absurd (right refl)
  too_long_by Input bytes is long right stopped unread = inr (inr stopped)
  too_long_by InputTooLong bytes is long right stopped unread = inl refl
  too_long_by Memory bytes is long right stopped unread = inr (inl refl)
  too_long_by (BadScript line) bytes is long right stopped unread =
      let here = subst (λ (o : Option (List ℕ)). IfSome o (λ b. (length b ≤ MOST_INPUT) × (plan_of b ≡ Err line))) is stopped in
      absurd (omega (arith, here.0, long))
  too_long_by (BadDump line) bytes is long right stopped unread =
      let here = subst (λ (o : Option (List ℕ)). IfSome o (λ b. (length b ≤ MOST_INPUT) × (dump_of b ≡ Err line))) is stopped in
      absurd (omega (arith, here.0, long))
  too_long_by cause bytes is long right stopped unread = absurd (unread refl (λ e. cc))

  -- the line that a reading names
  abbrev line_or : {A : Type 0} → Result A ℕ → ℕ
  line_or (Ok x) = 0
  line_or (Err line) = line

  -- an input with a first bad line
  not_plan : (bytes : List ℕ) (line : ℕ) → left ≡ Some bytes → plan_of bytes ≡ Err line → (plan : RunPlan) × ReadsPlan left rest plan → ⊥
  not_plan bytes line is bad has = (let e : Ok has.0 ≡ Err line = sym (read_bytes left rest has.0 bytes has.1 is).1 ∙ bad in cc)

  bad_line_by : (cause : Cause) (bytes : List ℕ) (line : ℕ) → left ≡ Some bytes → length bytes ≤ MOST_INPUT → plan_of bytes ≡ Err line → ends_script cause ≡ true → IsStopped left before after cause →
      (is_before_disk cause ≡ false → cause ≢ Memory → (plan : RunPlan) × ReadsPlan left rest plan) → (cause ≡ BadScript line) ⊎ (cause ≡ Memory) ⊎ Failing before after
  bad_line_by Usage bytes line is short bad may stopped read = cc
  bad_line_by (BadDump other) bytes line is short bad may stopped read = cc
  bad_line_by Input bytes line is short bad may stopped read = inr (inr stopped)
  bad_line_by InputTooLong bytes line is short bad may stopped read =
      let here = subst (λ (o : Option (List ℕ)). IfSome o (λ b. MOST_INPUT < length b)) is stopped in
      absurd (omega (arith, here, short))
  bad_line_by Memory bytes line is short bad may stopped read = inr (inl refl)
  bad_line_by (BadScript other) bytes line is short bad may stopped read =
      let here = subst (λ (o : Option (List ℕ)). IfSome o (λ b. (length b ≤ MOST_INPUT) × (plan_of b ≡ Err other))) is stopped in
      inl (ap BadScript (ap line_or (sym here.1 ∙ bad)))
  bad_line_by cause bytes line is short bad may stopped read = absurd (not_plan bytes line is bad (read refl (λ e. cc)))

  not_dump : (bytes : List ℕ) (line : ℕ) → left ≡ Some bytes → dump_of bytes ≡ Err line → (dump : DumpRead) × ReadsDump left rest dump → ⊥
  not_dump bytes line is bad has = (let e : Ok has.0 ≡ Err line = sym (dump_bytes left rest has.0 bytes has.1 is).1 ∙ bad in cc)

  bad_dump_by : (cause : Cause) (bytes : List ℕ) (line : ℕ) → left ≡ Some bytes → length bytes ≤ MOST_INPUT → dump_of bytes ≡ Err line → ends_load cause ≡ true → IsStopped left before after cause →
      (is_before_disk cause ≡ false → cause ≢ Memory → (dump : DumpRead) × ReadsDump left rest dump) → (cause ≡ BadDump line) ⊎ (cause ≡ Memory) ⊎ Failing before after
  bad_dump_by Usage bytes line is short bad may stopped read = cc
  bad_dump_by (BadScript other) bytes line is short bad may stopped read = cc
  bad_dump_by Input bytes line is short bad may stopped read = inr (inr stopped)
  bad_dump_by InputTooLong bytes line is short bad may stopped read =
      let here = subst (λ (o : Option (List ℕ)). IfSome o (λ b. MOST_INPUT < length b)) is stopped in
      absurd (omega (arith, here, short))
  bad_dump_by Memory bytes line is short bad may stopped read = inr (inl refl)
  bad_dump_by (BadDump other) bytes line is short bad may stopped read =
      let here = subst (λ (o : Option (List ℕ)). IfSome o (λ b. (length b ≤ MOST_INPUT) × (dump_of b ≡ Err other))) is stopped in
      inl (ap BadDump (ap line_or (sym here.1 ∙ bad)))
  bad_dump_by cause bytes line is short bad may stopped read = absurd (not_dump bytes line is bad (read refl (λ e. cc)))

module _ {D : Type 0} {meaning : DiskMeaning D} {left rest : Option (List ℕ)} {before after : ℕ} {disk : D} {r : RunResult D} {text : Text} where
  -- a cause that is one of reading came by reading
  pub came_stopped : {command : Option Command} {cause : Cause} → ComesTo command meaning left rest before after disk r text → r.cause ≡ cause → IsStopped left before after cause
  came_stopped c is = subst (IsStopped left before after) is c.stopped

  pub came_too_long : (command : Option Command) → ComesTo command meaning left rest before after disk r text → (bytes : List ℕ) → reads_input command ≡ true → left ≡ Some bytes →
      MOST_INPUT < length bytes → (r.cause ≡ InputTooLong) ⊎ (r.cause ≡ Memory) ⊎ Failing before after
  came_too_long None c bytes reads is long = cc
  came_too_long (Some (Run settings)) c bytes reads is long =
      too_long_by left rest before after r.cause bytes is long (λ e. true≢false (sym c.may ∙ ap ends_script e)) c.stopped (λ later other. too_much left rest before after bytes is long (c.read later other))
  came_too_long (Some (Soak seed settings)) c bytes reads is long = cc
  came_too_long (Some (Dump db printed)) c bytes reads is long = cc
  came_too_long (Some (Load db no_overwrite)) c bytes reads is long =
      too_long_by left rest before after r.cause bytes is long (λ e. true≢false (sym c.may ∙ ap ends_load e)) c.stopped (λ later other. too_much_dump left rest before after bytes is long (c.read later other))
  came_too_long (Some PrintLog) c bytes reads is long = cc
  came_too_long (Some Verify) c bytes reads is long = cc
  came_too_long (Some Stat) c bytes reads is long = cc

  pub came_bad : (command : Option Command) → ComesTo command meaning left rest before after disk r text → (settings : RunSettings) (bytes : List ℕ) (line : ℕ) → command ≡ Some (Run settings) →
      left ≡ Some bytes → length bytes ≤ MOST_INPUT → plan_of bytes ≡ Err line → (r.cause ≡ BadScript line) ⊎ (r.cause ≡ Memory) ⊎ Failing before after
  came_bad None c settings bytes line run is short bad = cc
  came_bad (Some (Run settings)) c others bytes line run is short bad = bad_line_by left rest before after r.cause bytes line is short bad c.may c.stopped c.read
  came_bad (Some (Soak seed settings)) c others bytes line run is short bad = cc
  came_bad (Some (Dump db printed)) c settings bytes line run is short bad = cc
  came_bad (Some (Load db no_overwrite)) c settings bytes line run is short bad = cc
  came_bad (Some PrintLog) c settings bytes line run is short bad = cc
  came_bad (Some Verify) c settings bytes line run is short bad = cc
  came_bad (Some Stat) c settings bytes line run is short bad = cc

  pub came_bad_dump : (command : Option Command) → ComesTo command meaning left rest before after disk r text → (db : List ℕ) (no_overwrite : Bool) (bytes : List ℕ) (line : ℕ) → command ≡ Some (Load db no_overwrite) →
      left ≡ Some bytes → length bytes ≤ MOST_INPUT → dump_of bytes ≡ Err line → (r.cause ≡ BadDump line) ⊎ (r.cause ≡ Memory) ⊎ Failing before after
  came_bad_dump None c db no_overwrite bytes line load is short bad = cc
  came_bad_dump (Some (Run settings)) c db no_overwrite bytes line load is short bad = cc
  came_bad_dump (Some (Soak seed settings)) c db no_overwrite bytes line load is short bad = cc
  came_bad_dump (Some (Dump name printed)) c db no_overwrite bytes line load is short bad = cc
  came_bad_dump (Some (Load name kept)) c db no_overwrite bytes line load is short bad = bad_dump_by left rest before after r.cause bytes line is short bad c.may c.stopped c.read
  came_bad_dump (Some PrintLog) c db no_overwrite bytes line load is short bad = cc
  came_bad_dump (Some Verify) c db no_overwrite bytes line load is short bad = cc
  came_bad_dump (Some Stat) c db no_overwrite bytes line load is short bad = cc

  -- where a run began its files meant something
  began : (command : Option Command) → ComesTo command meaning left rest before after disk r text → meaning.observable ≡ true → r.opened ≡ true →
      (read : Meaning) × Means (now (meaning.history disk)).reads read × (wrong_index read.store ≡ None)
  began command c observed opened =
      let starts = (c.run opened).3.starts in (
        starts.meaning,
        record { held = starts.held; are = starts.observed observed; reads = starts.means },
        ap wrong_index starts.means_store ∙ sym starts.indexed.first,
      )

  run_ends : (command : Option Command) → ComesTo command meaning left rest before after disk r text → opens command ≡ true →
      ((corruption : Corruption) → r.cause ≡ Unreadable corruption → meaning.observable ≡ true → HasCorruption (now (meaning.history disk)).reads corruption) → (needs_environment command ≡ true → r.cause ≢ NoEnvironment) →
      ends_script r.cause ≡ true → HasInput command left → meaning.observable ≡ true →
      CanBeOpened (now (meaning.history disk)).reads → EndsRun r.cause r.opened r.journal.items ⊎ (r.cause ≡ Memory) ⊎ Failing before after ⊎ HasRisen (meaning.faults disk) (meaning.faults r.disk)
  run_ends command c opened unreadable there other input observed can =
      completes (now (meaning.history disk)).reads before after (meaning.faults disk) (meaning.faults r.disk) r.cause r.opened r.journal.items can (past_input command left before after r.cause opened input c.may c.stopped there)
      (subst (λ (b : Bool). RunsBy b r.cause r.opened) opened c.runs) (λ corruption is. unreadable corruption is observed) (λ name is. c.wrong_index name is observed) c.ends c.caused.failed other

  -- the end of a check says what it finds in the files
  checked_so : ComesTo (Some Verify) meaning left rest before after disk r text → meaning.observable ≡ true → EndsAsFound r.cause (now (meaning.history disk)).reads
  checked_so c observed = ended_as_found meaning.observable (now (meaning.history disk)).reads r.cause (text_of text r.opened r.journal.items r.totals) observed (λ needs. c.some_file refl needs observed) c.text_is

  pub came_checked : (command : Option Command) → ComesTo command meaning left rest before after disk r text → command ≡ Some Verify → meaning.observable ≡ true → EndsAsFound r.cause (now (meaning.history disk)).reads
  came_checked command c is observed = checked_so (subst (λ (k : Option Command). ComesTo k meaning left rest before after disk r text) is c) observed

  pub came_findings : (command : Option Command) → ComesTo command meaning left rest before after disk r text → command ≡ Some Verify → meaning.observable ≡ true → HaveFindings (now (meaning.history disk)).reads →
      (r.cause ≡ Findings) ⊎ (r.cause ≡ Memory) ⊎ HasRisen (meaning.faults disk) (meaning.faults r.disk)
  came_findings command came is observed has =
      let c = subst (λ (k : Option Command). ComesTo k meaning left rest before after disk r text) is came in
      checks_findings (now (meaning.history disk)).reads before after (meaning.faults disk) (meaning.faults r.disk) r.cause has c.may (checked_so c observed) (λ f at. c.unreadable f at observed)
      (λ at. c.no_environment at observed) c.caused.failed

  pub came_well : (command : Option Command) → ComesTo command meaning left rest before after disk r text → HasInput command left → meaning.observable ≡ true →
      AreReady command (now (meaning.history disk)).reads → EndsWell command left r.cause r.opened r.opening r.journal.items ⊎ (r.cause ≡ Memory) ⊎ Failing before after ⊎ HasRisen (meaning.faults disk) (meaning.faults r.disk)
  came_well None c input observed ready = absurd input
  came_well (Some (Run settings)) c input observed ready =
      run_ends (Some (Run settings)) c refl c.unreadable (λ needs. cc) c.may input observed ready
  came_well (Some (Soak seed settings)) c input observed ready =
      run_ends (Some (Soak seed settings)) c refl c.unreadable (λ needs. cc) (soak_script r.cause c.may) input observed ready
  came_well (Some (Dump db printed)) c input observed ready =
      dump_completes (now (meaning.history disk)).reads before after (meaning.faults disk) (meaning.faults r.disk) r.cause r.opened r.journal.items (database_of db r.opening) ready.0 ready.1 c.may c.runs
      (λ corruption is. c.unreadable corruption is observed) (λ name is. c.wrong_index name is observed) (λ is. c.no_environment is observed) (λ opened. (c.given opened).none refl) c.ends c.caused.failed
      c.has_database c.no_database
  came_well (Some (Load db no_overwrite)) c input observed ready =
      load_completes (now (meaning.history disk)).reads db no_overwrite left before after (meaning.faults disk) (meaning.faults r.disk) r.cause r.opened r.opening r.journal.items ready
      (past_input (Some (Load db no_overwrite)) left before after r.cause refl input c.may c.stopped (λ needs. cc)) c.runs
      (λ corruption is. c.unreadable corruption is observed) (λ name is. c.wrong_index name is observed)
      (λ opened. (let placed = c.placed opened in (placed.0, has_dump left rest placed.0 input.0 placed.1 input.1, placed.2)))
      (λ opened. (let front = (c.given opened).front in (front.done, front.refused))) c.ends c.caused.failed
  came_well (Some PrintLog) c input observed ready =
      reads_well (now (meaning.history disk)).reads before after (meaning.faults disk) (meaning.faults r.disk) r.cause ready c.may (λ corruption is. c.unreadable corruption is observed) (λ is. c.no_environment is observed) c.caused.failed
  came_well (Some Verify) c input observed ready =
      checks_well (now (meaning.history disk)).reads before after (meaning.faults disk) (meaning.faults r.disk) r.cause ready c.may (checked_so c observed) (λ corruption is. c.unreadable corruption is observed)
      (λ is. c.no_environment is observed) c.caused.failed
  came_well (Some Stat) c input observed ready =
      stat_completes (now (meaning.history disk)).reads before after (meaning.faults disk) (meaning.faults r.disk) r.cause r.opened r.journal.items ready.0 ready.1 c.may c.runs
      (λ corruption is. c.unreadable corruption is observed) (λ name is. c.wrong_index name is observed) (λ is. c.no_environment is observed) (λ opened. (c.given opened).none refl) c.ends c.caused.failed

  run_finds : (command : Option Command) → ComesTo command meaning left rest before after disk r text → opens command ≡ true →
      ((corruption : Corruption) → r.cause ≡ Unreadable corruption → meaning.observable ≡ true → HasCorruption (now (meaning.history disk)).reads corruption) → (needs_environment command ≡ true → r.cause ≢ NoEnvironment) →
      (corruption : Corruption) → HasInput command left → meaning.observable ≡ true →
      HasCorruption (now (meaning.history disk)).reads corruption → (r.cause ≡ Unreadable corruption) ⊎ (r.cause ≡ Memory) ⊎ Failing before after ⊎ HasRisen (meaning.faults disk) (meaning.faults r.disk)
  run_finds command c opened unreadable there corruption input observed has =
      finds (now (meaning.history disk)).reads before after (meaning.faults disk) (meaning.faults r.disk) r.cause r.opened corruption has (past_input command left before after r.cause opened input c.may c.stopped there)
      (subst (λ (b : Bool). RunsBy b r.cause r.opened) opened c.runs) (λ f is. unreadable f is observed) (λ name is. c.wrong_index name is observed)
      (λ is_opened. (let m = began command c observed is_opened in (m.0, m.1))) (λ is none. c.ids_ended is none observed) c.caused.failed

  pub came_found : (command : Option Command) → ComesTo command meaning left rest before after disk r text → (corruption : Corruption) → HasInput command left → meaning.observable ≡ true →
      IsFound command (now (meaning.history disk)).reads corruption → (r.cause ≡ Unreadable corruption) ⊎ (r.cause ≡ Memory) ⊎ Failing before after ⊎ HasRisen (meaning.faults disk) (meaning.faults r.disk)
  came_found None c corruption input observed found = absurd input
  came_found (Some (Run settings)) c corruption input observed found = run_finds (Some (Run settings)) c refl c.unreadable (λ needs. cc) corruption input observed found
  came_found (Some (Soak seed settings)) c corruption input observed found = run_finds (Some (Soak seed settings)) c refl c.unreadable (λ needs. cc) corruption input observed found
  came_found (Some (Dump db printed)) c corruption input observed found =
      run_finds (Some (Dump db printed)) c refl c.unreadable (λ needs is. corrupt_has_files (now (meaning.history disk)).reads corruption found (c.no_environment is observed)) corruption input observed found
  came_found (Some (Load db no_overwrite)) c corruption input observed found = run_finds (Some (Load db no_overwrite)) c refl c.unreadable (λ needs. cc) corruption input observed found
  came_found (Some PrintLog) c corruption input observed found =
      reads_damage (now (meaning.history disk)).reads before after (meaning.faults disk) (meaning.faults r.disk) r.cause corruption found c.may (λ is. c.sound refl is observed) (λ f is. c.unreadable f is observed)
      (λ is. c.no_environment is observed) c.caused.failed
  came_found (Some Verify) c corruption input observed found =
      checks_damage (now (meaning.history disk)).reads before after (meaning.faults disk) (meaning.faults r.disk) r.cause corruption found c.may (checked_so c observed) (λ f is. c.unreadable f is observed)
      (λ is. c.no_environment is observed) c.caused.failed
  came_found (Some Stat) c corruption input observed found =
      run_finds (Some Stat) c refl c.unreadable (λ needs is. corrupt_has_files (now (meaning.history disk)).reads corruption found (c.no_environment is observed)) corruption input observed found

  run_finds_wrong : (command : Option Command) → ComesTo command meaning left rest before after disk r text → opens command ≡ true →
      ((corruption : Corruption) → r.cause ≡ Unreadable corruption → meaning.observable ≡ true → HasCorruption (now (meaning.history disk)).reads corruption) → (needs_environment command ≡ true → r.cause ≢ NoEnvironment) →
      (name : List ℕ) → HasInput command left → meaning.observable ≡ true →
      HasWrongIndex (now (meaning.history disk)).reads name → (r.cause ≡ WrongIndex name) ⊎ (r.cause ≡ Memory) ⊎ Failing before after ⊎ HasRisen (meaning.faults disk) (meaning.faults r.disk)
  run_finds_wrong command c opened unreadable there name input observed has =
      finds_wrong (now (meaning.history disk)).reads before after (meaning.faults disk) (meaning.faults r.disk) r.cause r.opened name has (past_input command left before after r.cause opened input c.may c.stopped there)
      (subst (λ (b : Bool). RunsBy b r.cause r.opened) opened c.runs) (λ f is. unreadable f is observed) (λ other is. c.wrong_index other is observed)
      (λ is_opened. began command c observed is_opened) (λ is none. c.ids_ended is none observed) c.caused.failed

  pub came_wrong : (command : Option Command) → ComesTo command meaning left rest before after disk r text → (name : List ℕ) → HasInput command left → opens command ≡ true → meaning.observable ≡ true →
      HasWrongIndex (now (meaning.history disk)).reads name → (r.cause ≡ WrongIndex name) ⊎ (r.cause ≡ Memory) ⊎ Failing before after ⊎ HasRisen (meaning.faults disk) (meaning.faults r.disk)
  came_wrong None c name input opened observed has = absurd input
  came_wrong (Some (Run settings)) c name input opened observed has = run_finds_wrong (Some (Run settings)) c refl c.unreadable (λ needs. cc) name input observed has
  came_wrong (Some (Soak seed settings)) c name input opened observed has = run_finds_wrong (Some (Soak seed settings)) c refl c.unreadable (λ needs. cc) name input observed has
  came_wrong (Some (Dump db printed)) c name input opened observed has =
      run_finds_wrong (Some (Dump db printed)) c refl c.unreadable (λ needs is. wrong_has_files (now (meaning.history disk)).reads name has (c.no_environment is observed)) name input observed has
  came_wrong (Some (Load db no_overwrite)) c name input opened observed has = run_finds_wrong (Some (Load db no_overwrite)) c refl c.unreadable (λ needs. cc) name input observed has
  came_wrong (Some PrintLog) c name input opened observed has = cc
  came_wrong (Some Verify) c name input opened observed has = cc
  came_wrong (Some Stat) c name input opened observed has =
      run_finds_wrong (Some Stat) c refl c.unreadable (λ needs is. wrong_has_files (now (meaning.history disk)).reads name has (c.no_environment is observed)) name input observed has

  pub came_nothing : (command : Option Command) → ComesTo command meaning left rest before after disk r text → needs_environment command ≡ true → meaning.observable ≡ true →
      HasNoFile (now (meaning.history disk)).reads → (r.cause ≡ NoEnvironment) ⊎ (r.cause ≡ Memory) ⊎ HasRisen (meaning.faults disk) (meaning.faults r.disk)
  came_nothing None c needs observed none = cc
  came_nothing (Some (Run settings)) c needs observed none = cc
  came_nothing (Some (Soak seed settings)) c needs observed none = cc
  came_nothing (Some (Dump db printed)) c needs observed none = dump_nothing (now (meaning.history disk)).reads (meaning.faults disk) (meaning.faults r.disk) r.cause none c.may (λ file. c.some_file refl file observed) c.caused.failed
  came_nothing (Some (Load db no_overwrite)) c needs observed none = cc
  came_nothing (Some PrintLog) c needs observed none =
      reads_nothing (now (meaning.history disk)).reads before after (meaning.faults disk) (meaning.faults r.disk) r.cause none c.may (λ is. c.sound refl is observed) (λ f is. c.unreadable f is observed) c.caused.failed
  came_nothing (Some Verify) c needs observed none =
      checks_nothing (now (meaning.history disk)).reads before after (meaning.faults disk) (meaning.faults r.disk) r.cause none c.may (checked_so c observed) (λ f is. c.unreadable f is observed) c.caused.failed
  came_nothing (Some Stat) c needs observed none =
      dump_nothing (now (meaning.history disk)).reads (meaning.faults disk) (meaning.faults r.disk) r.cause none (stat_dump r.cause c.may) (λ file. c.some_file refl file observed) c.caused.failed

  pub came_usage : (command : Option Command) → ComesTo command meaning left rest before after disk r text → r.cause ≡ Usage → is_some command ≡ false
  came_usage None c is = refl
  came_usage (Some (Run settings)) c is = (let e : false ≡ true = sym (ap ends_script is) ∙ c.may in cc)
  came_usage (Some (Soak seed settings)) c is = (let e : false ≡ true = sym (ap ends_soak is) ∙ c.may in cc)
  came_usage (Some (Dump db printed)) c is = (let e : false ≡ true = sym (ap ends_dump is) ∙ c.may in cc)
  came_usage (Some (Load db no_overwrite)) c is = (let e : false ≡ true = sym (ap ends_load is) ∙ c.may in cc)
  came_usage (Some PrintLog) c is = (let e : false ≡ true = sym (ap ends_reading is) ∙ c.may in cc)
  came_usage (Some Verify) c is = (let e : false ≡ true = sym (ap ends_check is) ∙ c.may in cc)
  came_usage (Some Stat) c is = (let e : false ≡ true = sym (ap ends_stat is) ∙ c.may in cc)

  pub came_unparsed : (command : Option Command) → ComesTo command meaning left rest before after disk r text → is_some command ≡ false → (r.cause ≡ Usage) ⊎ (r.cause ≡ Memory)
  came_unparsed None c none = unparsed r.cause c.may
    where
      unparsed : (cause : Cause) → ends_unparsed cause ≡ true → (cause ≡ Usage) ⊎ (cause ≡ Memory)
      unparsed Usage may = inl refl
      unparsed Memory may = inr refl
      unparsed cause may = cc
  came_unparsed (Some command) c none = cc
