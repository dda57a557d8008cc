-- A command that opens the environment and gives it no line.
use Rattle.std.proofs.Common.{◌≡◌, ◌≤◌, ◌∙◌, ℕ, Bool, true, false, true≢false, List, [], Option, Some, refl, ap, sym, subst, arith}
use Rattle.je_disk.specs.DiskMeaning.{DiskMeaning}
use Rattle.je_disk.specs.Moments.{now}
use Rattle.je_disk.specs.States.{Files, State}
use Rattle.store_model.specs.declared.event.Event.{Event}
use Rattle.store_model.specs.declared.store.Database.{Database}
use Rattle.store_model.specs.declared.store.Store.{Store}
use Rattle.store_model.specs.Store.{database_of, no_databases}
use Rattle.log_printer.specs.Reading.{HasNoFile}
use Rattle.engine.specs.declared.open_err.OpenErr.{OpenErr}
use Rattle.engine.specs.declared.open_err.OpenErr.TheVariants.{Disk as NoDisk, Memory as NoMemory, IdsEnded as NoNumbers, Unreadable as CannotRead, WrongIndex as FoundWrong}
use Rattle.engine.specs.Crash.{KeepsEntry}
use Rattle.engine.specs.Files.{HasWrongIndex}
use Rattle.engine.specs.Opening.{HasNoNumbers, StopsBy}
use Rattle.engine.specs.Untouched.{IsLeftAlone, IsUntouched}
use Rattle.engine.proofs.Counts.{rose_earlier}
use Rattle.engine.proofs.EntryLaws.{entry_later, entry_still}
use Rattle.command_line.specs.declared.command.Command.{Command}
use Rattle.command_line.specs.declared.command.Command.TheVariants.{Dump, Stat}
use Rattle.je_program.specs.declared.cause.Cause.{Cause}
use Rattle.je_program.specs.declared.cause.Cause.TheVariants.{Done, Disk, Unreadable, WrongIndex, Memory, NoEnvironment, NoDatabase, IdsEnded}
use Rattle.je_program.specs.declared.run_result.RunResult.{RunResult}
use Rattle.je_program.specs.declared.text.Text.{Text}
use Rattle.je_program.specs.declared.text.Text.TheVariants.{Nothing}
use Rattle.je_program.specs.Commands.{EndsAsPlaced, IsFound, IsGivenTo, IsTextOf, IsUseText, ReadsInput, Work, dump_at, ends_dump, ends_stat, may_end, opens, text_of}
use Rattle.je_program.specs.Dumping.{IsLook}
use Rattle.je_program.specs.Program.{RunsIf, cause_of_opening}
use Rattle.je_program.specs.Unprinted.{ComesTo, needs_file, work_of}
use Rattle.je_program.specs.Untouched.{LeavesUnreadable}
use Rattle.je_program.proofs.CommandLaws.{life_found, life_is_no_reading, life_runs, unrun}
use Rattle.je_program.proofs.DumpLaws.{alone_later, dump_after, dump_given_none, dump_stopped, run_later}
use Rattle.je_program.proofs.EndLaws.{stat_dump}
use Rattle.je_program.proofs.StopLaws.{stopped_failed, stopped_numbers, stopped_runs, stopped_unreadable, stopped_wrong}
use Rattle.je_program.proofs.UntouchedLaws.{left_alone, stopped_alone}

-- ---- looking for an environment

-- why there is none to open
abbrev pub IsLookCause : Cause → Type 0
IsLookCause NoEnvironment = Unit {0}
IsLookCause Disk = Unit {0}
IsLookCause Memory = Unit {0}
IsLookCause cause = ⊥

look_cause : (observable : Bool) (files : Files) (before after : ℕ) (cause : Cause) → IsLook observable files before after (Some cause) → IsLookCause cause
look_cause observable files before after NoEnvironment look = tt
look_cause observable files before after Disk look = tt
look_cause observable files before after Memory look = tt
look_cause observable files before after cause look = look

look_is : (cause other : Cause) → IsLookCause cause → cause ≡ other → IsLookCause other
look_is cause other is same = subst IsLookCause same is

pub look_may : (cause : Cause) → IsLookCause cause → ends_dump cause ≡ true
look_may NoEnvironment is = refl
look_may Disk is = refl
look_may Memory is = refl
look_may cause is = absurd is

look_runs : (cause : Cause) → IsLookCause cause → RunsIf cause false
look_runs NoEnvironment is = refl
look_runs Disk is = tt
look_runs Memory is = tt
look_runs cause is = absurd is

look_needs : (cause : Cause) → IsLookCause cause → needs_file cause ≡ true → ⊥
look_needs NoEnvironment is needs = cc
look_needs Disk is needs = cc
look_needs Memory is needs = cc
look_needs cause is needs = is

-- ---- an environment that was not opened

pub stopped_dump : (error : OpenErr) → ends_dump (cause_of_opening error) ≡ true
stopped_dump NoDisk = refl
stopped_dump NoMemory = refl
stopped_dump NoNumbers = refl
stopped_dump (CannotRead corruption) = refl
stopped_dump (FoundWrong name) = refl

-- it is none of these
abbrev IsOpeningCause : Cause → Type 0
IsOpeningCause Done = ⊥
IsOpeningCause NoDatabase = ⊥
IsOpeningCause NoEnvironment = ⊥
IsOpeningCause cause = Unit {0}

stopped_cause : (error : OpenErr) → IsOpeningCause (cause_of_opening error)
stopped_cause NoDisk = tt
stopped_cause NoMemory = tt
stopped_cause NoNumbers = tt
stopped_cause (CannotRead corruption) = tt
stopped_cause (FoundWrong name) = tt

stopped_other : (error : OpenErr) (cause : Cause) → cause_of_opening error ≡ cause → IsOpeningCause cause
stopped_other error cause is = subst IsOpeningCause is (stopped_cause error)

-- ---- such a command

-- nothing is to be written
abbrev pub IsBlank : Cause → Type 0
IsBlank Done = ⊥
IsBlank cause = Unit {0}

look_blank : (cause : Cause) → IsLookCause cause → IsBlank cause
look_blank Done is = is
look_blank cause is = tt

stopped_blank : (error : OpenErr) → IsBlank (cause_of_opening error)
stopped_blank NoDisk = tt
stopped_blank NoMemory = tt
stopped_blank NoNumbers = tt
stopped_blank (CannotRead corruption) = tt
stopped_blank (FoundWrong name) = tt

-- It ends as a dump may; so it does where no file is there, and where the environment was not opened. Its journal is empty, and it writes at its end alone,
-- whatever the files at entry were.
pub record OpensOnly (command : Option Command) : Type 0 where
  pub opens_it : opens command ≡ true
  pub as_dump : (cause : Cause) → may_end command cause ≡ true → ends_dump cause ≡ true
  pub looks : (cause : Cause) → IsLookCause cause → may_end command cause ≡ true
  pub stops : (error : OpenErr) → may_end command (cause_of_opening error) ≡ true
  pub read : (left : Option (List ℕ)) → ReadsInput command left left
  pub given : (left : Option (List ℕ)) (opening : Store) (journal : List Event) (cause : Cause) → journal ≡ [] → IsGivenTo command left left opening journal cause
  pub placed : (left rest : Option (List ℕ)) (opening : Store) (cause : Cause) → EndsAsPlaced command left rest opening cause
  pub blank : (w : Work) → IsBlank w.cause → IsTextOf command w []
  pub earlier : (w : Work) (files : Files) (text : List ℕ) → IsTextOf command w text → IsTextOf command (record w { files = files }) text

-- ---- a dump, and a count of the log's use

dump_blank : (cause : Cause) (printed : Bool) (database : Option Database) → IsBlank cause → [] ≡ dump_at cause printed database
dump_blank Done printed database is = absurd is
dump_blank cause printed database is = refl

pub dump_opens_only : (db : List ℕ) (printed : Bool) → OpensOnly (Some (Dump db printed))
dump_opens_only db printed = record {
  opens_it = refl;
  as_dump = λ cause may. may;
  looks = look_may;
  stops = stopped_dump;
  read = λ left. refl;
  given = dump_given_none db printed;
  placed = λ left rest opening cause. tt;
  blank = λ w is. dump_blank w.cause printed (database_of db w.opening) is;
  earlier = λ w files text is. is;
}

use_blank : (cause : Cause) (observable : Bool) (files : Files) → IsBlank cause → IsUseText cause observable files []
use_blank Done observable files is = absurd is
use_blank cause observable files is = refl

look_stat : (cause : Cause) → IsLookCause cause → ends_stat cause ≡ true
look_stat NoEnvironment is = refl
look_stat Disk is = refl
look_stat Memory is = refl
look_stat cause is = absurd is

stopped_stat : (error : OpenErr) → ends_stat (cause_of_opening error) ≡ true
stopped_stat NoDisk = refl
stopped_stat NoMemory = refl
stopped_stat NoNumbers = refl
stopped_stat (CannotRead corruption) = refl
stopped_stat (FoundWrong name) = refl

stat_given_none : (left : Option (List ℕ)) (opening : Store) (journal : List Event) (cause : Cause) → journal ≡ [] → IsGivenTo (Some Stat) left left opening journal cause
stat_given_none left opening journal cause none = subst (λ (j : List Event). IsGivenTo (Some Stat) left left opening j cause) (sym none) (record {
  lines = [];
  are = refl;
  all = λ other. refl;
  front = record { each = λ session. ([], refl); steps = ([], refl) };
  none = λ other. refl;
})

pub stat_opens_only : OpensOnly (Some Stat)
stat_opens_only = record {
  opens_it = refl;
  as_dump = stat_dump;
  looks = look_stat;
  stops = stopped_stat;
  read = λ left. refl;
  given = stat_given_none;
  placed = λ left rest opening cause. tt;
  blank = λ w is. use_blank w.cause w.observable w.left is;
  earlier = λ w files text is. is;
}

-- ---- what it comes to

module _ {D : Type 0} (meaning : DiskMeaning D) (command : Option Command) (only : OpensOnly command) (left : Option (List ℕ)) (before after : ℕ) (later : before ≤ after) where
  -- no file was there, or that was not to be known
  pub look_comes : (disk : D) (r : RunResult D) (found : Cause) (mid : D) → IsLook meaning.observable (now (meaning.history disk)).reads (meaning.faults disk) (meaning.faults mid) (Some found) →
      (meaning.observable ≡ true → IsUntouched (meaning.history disk) (meaning.history mid)) → meaning.faults disk ≤ meaning.faults mid → r.cause ≡ found → r.opened ≡ false → r.disk ≡ mid → r.journal.items ≡ [] → r.opening ≡ no_databases →
      ComesTo command meaning left left before after disk r Nothing
  look_comes disk r found mid looked at_mid never_falls cause_is shut disk_is empty nothing =
      let files = (now (meaning.history disk)).reads in
      let look : IsLook meaning.observable files (meaning.faults disk) (meaning.faults r.disk) (Some r.cause) = subst (λ (d : D). IsLook meaning.observable files (meaning.faults disk) (meaning.faults d) (Some r.cause)) (sym disk_is)
      (subst (λ (c : Cause). IsLook meaning.observable files (meaning.faults disk) (meaning.faults mid) (Some c)) (sym cause_is) looked) in
      let still : meaning.observable ≡ true → IsUntouched (meaning.history disk) (meaning.history r.disk) = λ observed. subst (λ (d : D). IsUntouched (meaning.history disk) (meaning.history d)) (sym disk_is) (at_mid observed) in
      let is = look_cause meaning.observable files (meaning.faults disk) (meaning.faults r.disk) r.cause look in
      let at : (cause : Cause) → r.cause ≡ cause → IsLook meaning.observable files (meaning.faults disk) (meaning.faults r.disk) (Some cause) =
      λ cause e. subst (λ (c : Cause). IsLook meaning.observable files (meaning.faults disk) (meaning.faults r.disk) (Some c)) e look in
      let may = only.looks r.cause is in
      record {
        may = may;
        stopped = dump_stopped left before after r.cause (only.as_dump r.cause may);
        read = λ after_input other. only.read left;
        given = λ opened. absurd (true≢false (sym opened ∙ shut));
        untouched = λ before_disk. absurd (true≢false (sym before_disk ∙ dump_after r.cause (only.as_dump r.cause may)));
        runs = life_runs command r.cause r.opened only.opens_it (subst (λ (b : Bool). RunsIf r.cause b) (sym shut) (look_runs r.cause is));
        run = λ opened. absurd (true≢false (sym opened ∙ shut));
        unopened = λ none_opened. (nothing, empty);
        unreadable = λ corruption e. absurd (look_is r.cause (Unreadable corruption) is e);
        sound = λ e. life_is_no_reading command only.opens_it e;
        wrong_index = λ name e. absurd (look_is r.cause (WrongIndex name) is e);
        ids_ended = λ e. absurd (look_is r.cause IdsEnded is e);
        no_environment = λ e. at NoEnvironment e;
        some_file = λ needs file. absurd (look_needs r.cause is file);
        no_database = λ e. absurd (look_is r.cause NoDatabase is e);
        has_database = λ e. absurd (look_is r.cause Done is e);
        placed = λ opened. only.placed left left r.opening r.cause;
        ends = λ opened. absurd (true≢false (sym opened ∙ shut));
        caused = unrun (meaning.faults disk) (meaning.faults r.disk) r.journal.items r.cause (subst (λ (d : D). meaning.faults disk ≤ meaning.faults d) (sym disk_is) never_falls) empty (λ e. at Disk e);
        left_alone = λ observed. left_alone r.cause (meaning.history disk) (meaning.history r.disk) (still observed);
        reads_only = λ closed. absurd (true≢false (sym only.opens_it ∙ closed));
        crash_unopened = λ observed none_opened. (let u = still observed in entry_still (meaning.history disk) (meaning.history r.disk) u.moments u.same);
        text_is = only.blank (work_of meaning.observable files (now (meaning.history r.disk)).reads r) (look_blank r.cause is);
        source = later;
      }

  -- the environment was not opened
  pub stopped_comes : (disk : D) (r : RunResult D) (error : OpenErr) (end : D) → (meaning.observable ≡ true → HasNoFile (now (meaning.history disk)).reads → ⊥) →
      StopsBy meaning.observable (now (meaning.history disk)).reads (meaning.faults disk) (meaning.faults end) error → (meaning.observable ≡ true → IsLeftAlone error (meaning.history disk) (meaning.history end)) →
      (meaning.observable ≡ true → KeepsEntry (meaning.history disk) (meaning.history end)) → meaning.faults disk ≤ meaning.faults end → r.cause ≡ cause_of_opening error → r.opened ≡ false → r.disk ≡ end → r.journal.items ≡ [] →
      r.opening ≡ no_databases → ComesTo command meaning left left before after disk r Nothing
  stopped_comes disk r error end there stops_at alone_at entry_at never_falls cause_is shut disk_is empty nothing =
      let files = (now (meaning.history disk)).reads in
      let stops : StopsBy meaning.observable files (meaning.faults disk) (meaning.faults r.disk) error = subst (λ (d : D). StopsBy meaning.observable files (meaning.faults disk) (meaning.faults d) error) (sym disk_is) stops_at in
      let may : may_end command r.cause ≡ true = ap (may_end command) cause_is ∙ only.stops error in
      record {
        may = may;
        stopped = dump_stopped left before after r.cause (only.as_dump r.cause may);
        read = λ after_input other. only.read left;
        given = λ opened. absurd (true≢false (sym opened ∙ shut));
        untouched = λ before_disk. absurd (true≢false (sym before_disk ∙ dump_after r.cause (only.as_dump r.cause may)));
        runs = life_runs command r.cause r.opened only.opens_it (subst (λ (c : Cause). RunsIf c r.opened) (sym cause_is) (stopped_runs error r.opened shut));
        run = λ opened. absurd (true≢false (sym opened ∙ shut));
        unopened = λ none_opened. (nothing, empty);
        unreadable = λ corruption is observed. life_found command files corruption only.opens_it (stopped_unreadable meaning.observable files (meaning.faults disk) (meaning.faults r.disk) error corruption stops (sym cause_is ∙ is) observed);
        sound = λ is. life_is_no_reading command only.opens_it is;
        wrong_index = λ name is observed. stopped_wrong meaning.observable files (meaning.faults disk) (meaning.faults r.disk) error name stops (sym cause_is ∙ is) observed;
        ids_ended = λ is none_opened observed. stopped_numbers meaning.observable files (meaning.faults disk) (meaning.faults r.disk) error stops (sym cause_is ∙ is) observed;
        no_environment = λ is. absurd (stopped_other error NoEnvironment (sym cause_is ∙ is));
        some_file = λ needs file observed. there observed;
        no_database = λ is. absurd (stopped_other error NoDatabase (sym cause_is ∙ is));
        has_database = λ is. absurd (stopped_other error Done (sym cause_is ∙ is));
        placed = λ opened. only.placed left left r.opening r.cause;
        ends = λ opened. absurd (true≢false (sym opened ∙ shut));
        caused = unrun (meaning.faults disk) (meaning.faults r.disk) r.journal.items r.cause (subst (λ (d : D). meaning.faults disk ≤ meaning.faults d) (sym disk_is) never_falls) empty
            (λ is. stopped_failed meaning.observable files (meaning.faults disk) (meaning.faults r.disk) error stops (sym cause_is ∙ is));
        left_alone = λ observed. subst (λ (c : Cause). LeavesUnreadable c (meaning.history disk) (meaning.history r.disk)) (sym cause_is)
            (subst (λ (d : D). LeavesUnreadable (cause_of_opening error) (meaning.history disk) (meaning.history d)) (sym disk_is) (stopped_alone error (meaning.history disk) (meaning.history end) (alone_at observed)));
        reads_only = λ closed. absurd (true≢false (sym only.opens_it ∙ closed));
        crash_unopened = λ observed none_opened. subst (λ (d : D). KeepsEntry (meaning.history disk) (meaning.history d)) (sym disk_is) (entry_at observed);
        text_is = only.blank (work_of meaning.observable files (now (meaning.history r.disk)).reads r) (subst IsBlank (sym cause_is) (stopped_blank error));
        source = later;
      }

  -- the same of a disk on which nothing was done before
  pub later_comes : (disk mid : D) (r : RunResult D) (text : Text) → (meaning.observable ≡ true → IsUntouched (meaning.history disk) (meaning.history mid)) → meaning.faults disk ≤ meaning.faults mid →
      ComesTo command meaning left left before after mid r text → ComesTo command meaning left left before after disk r text
  later_comes disk mid r text still less c =
      let reads : meaning.observable ≡ true → (now (meaning.history mid)).reads ≡ (now (meaning.history disk)).reads = λ observed. ap (λ (s : State). s.reads) (still observed).same in
      record {
        may = c.may;
        stopped = c.stopped;
        read = c.read;
        given = c.given;
        untouched = λ before_disk. absurd (true≢false (sym before_disk ∙ dump_after r.cause (only.as_dump r.cause c.may)));
        runs = c.runs;
        run = λ opened. (let x = c.run opened in (
          x.0,
          x.1,
          x.2,
          run_later x.0 meaning.observable (meaning.history mid) (meaning.history r.disk) (meaning.faults mid) (meaning.faults r.disk) r.opening r.totals r.journal.items x.1 (meaning.history disk) (meaning.faults disk) r.cause still less c.caused.never_falls x.3,
          x.4,
        ));
        unopened = c.unopened;
        unreadable = λ corruption is observed. subst (λ (f : Files). IsFound command f corruption) (reads observed) (c.unreadable corruption is observed);
        sound = λ is. life_is_no_reading command only.opens_it is;
        wrong_index = λ name is observed. subst (λ (f : Files). HasWrongIndex f name) (reads observed) (c.wrong_index name is observed);
        ids_ended = λ is shut observed. subst HasNoNumbers (reads observed) (c.ids_ended is shut observed);
        no_environment = λ is observed. subst HasNoFile (reads observed) (c.no_environment is observed);
        some_file = λ needs file observed. subst (λ (f : Files). HasNoFile f → ⊥) (reads observed) (c.some_file needs file observed);
        no_database = c.no_database;
        has_database = c.has_database;
        placed = c.placed;
        ends = c.ends;
        caused = record {
          never_falls = (let next = c.caused.never_falls in omega (arith, less, next));
          fault = λ h. rose_earlier (meaning.faults disk) (meaning.faults mid) (meaning.faults r.disk) less (c.caused.fault h) c.caused.never_falls;
          failed = λ is. rose_earlier (meaning.faults disk) (meaning.faults mid) (meaning.faults r.disk) less (c.caused.failed is) c.caused.never_falls;
        };
        left_alone = λ observed. alone_later r.cause (meaning.history disk) (meaning.history mid) (meaning.history r.disk) (still observed) (c.left_alone observed);
        reads_only = λ closed. absurd (true≢false (sym only.opens_it ∙ closed));
        crash_unopened = λ observed shut. entry_later (meaning.history disk) (meaning.history mid) (meaning.history r.disk) (still observed).moments (still observed).same (c.crash_unopened observed shut);
        text_is = only.earlier (work_of meaning.observable (now (meaning.history mid)).reads (now (meaning.history r.disk)).reads r) (now (meaning.history disk)).reads (text_of text r.opened r.journal.items r.totals) c.text_is;
        source = c.source;
      }
