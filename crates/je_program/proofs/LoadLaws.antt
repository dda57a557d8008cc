-- What a load comes to.
use Rattle.std.proofs.Common.{◌≡◌, ◌≢◌, ◌≤◌, ◌∙◌, ◌++◌, ℕ, Bool, true, false, true≢false, List, [], ◌∷◌, map, Option, None, Some, Ok, Err, length, refl, ap, sym, subst, ⊎_elim, arith}
use Rattle.std.specs.Prelude.{slice_index_or, if◌then◌else◌}
use Rattle.std.specs.List.{list_all, list_any}
use Rattle.std.proofs.lemmas.List.{append-nil}
use Rattle.je_disk.specs.DiskMeaning.{DiskMeaning}
use Rattle.je_disk.specs.Moments.{History, now}
use Rattle.je_disk.specs.States.{Files}
use Rattle.dump_text.specs.declared.dump.Dump.{Dump as DumpRead}
use Rattle.dump_text.specs.declared.dump_pair.DumpPair.{DumpPair}
use Rattle.store_model.specs.declared.event.Event.{Event}
use Rattle.store_model.specs.declared.event.Event.TheVariants.{Call as Called}
use Rattle.store_model.specs.declared.kind.Kind.{Kind}
use Rattle.store_model.specs.declared.put_mode.PutMode.{PutMode}
use Rattle.store_model.specs.declared.plan.ScriptLine.{ScriptLine}
use Rattle.store_model.specs.declared.store.Store.{Store}
use Rattle.store_model.specs.Store.{database_of, no_databases}
use Rattle.script_text.specs.Grammar.{is_line}
use Rattle.je_answers.specs.Standing.{Standing}
use Rattle.je_answers.specs.After.{after_events}
use Rattle.je_answers.specs.Alone.{Alone, alone}
use Rattle.je_answers.specs.Journal.{lines_of}
use Rattle.load_run.specs.Lines.{commit_line, kind_of_dump, load_lines, load_mode, pair_lines, put_line}
use Rattle.load_laws.specs.Given.{is_refusal, is_refused}
use Rattle.load_laws.specs.Images.{IsLoadOf}
use Rattle.load_laws.proofs.LoadImages.{loads_whole}
use Rattle.load_laws.proofs.LoadStores.{pairs_stored}
use Rattle.log_replay.specs.declared.corruption.Corruption.{Corruption}
use Rattle.engine.specs.declared.open_err.OpenErr.{OpenErr}
use Rattle.engine.specs.declared.open_err.OpenErr.TheVariants.{Disk as NoDisk, Memory as NoMemory, IdsEnded as NoNumbers, Unreadable as CannotRead, WrongIndex as FoundWrong}
use Rattle.engine.specs.Crash.{KeepsEntry}
use Rattle.engine.specs.Opening.{StartsAt, StopsBy}
use Rattle.engine.specs.Untouched.{IsLeftAlone}
use Rattle.command_line.specs.declared.command.Command.TheVariants.{Load}
use Rattle.environment.specs.declared.environment.Environment.{Environment}
use Rattle.environment.specs.Whole.{CanGoOn, disk_of}
use Rattle.script_run.specs.declared.pause.Pause.TheVariants.{AtRefusal}
use Rattle.script_run.specs.declared.running.Running.{Running}
use Rattle.script_run.specs.Ends.{AreEndsInPlace}
use Rattle.script_run.specs.Events.Awaited.{Nothing}
use Rattle.script_run.specs.Pauses.{HasLinesUntil, pauses}
use Rattle.script_run.specs.Running.{Begins}
use Rattle.script_run.specs.UnderWay.{Beginning, IsCalm, IsCaused, IsUnderWay, standing}
use Rattle.script_run.proofs.LoadRuns.{whole_of}
use Rattle.script_run.proofs.RunLaws.{started, starts_calm}
use Rattle.je_program.specs.declared.cause.Cause.{Cause}
use Rattle.je_program.specs.declared.cause.Cause.TheVariants.{Done, Usage, BadScript, BadDump, Disk, Unreadable, WrongIndex, Memory, Findings, NoEnvironment, NoDatabase, OtherKind, RefusedPair, Input, InputTooLong, LogFull, IdsEnded}
use Rattle.je_program.specs.declared.run_result.RunResult.{RunResult}
use Rattle.je_program.specs.declared.text.Text.{Text}
use Rattle.je_program.specs.declared.text.Text.TheVariants.{Nothing as NoText}
use Rattle.je_program.specs.Commands.{EndsByPlace, ReadsDump, StoresDump, ends_load, ends_soak, makes_database, is_place, keeps_otherwise, loaded_at, text_of, usual_file_max}
use Rattle.je_program.specs.Loading.{HasStart, IsBar, IsPlaceFor}
use Rattle.je_program.specs.Program.{ClosesRun, EndsBy, EndsWith, IsRunOf, IsStopped, RunsIf, cause_of_opening, is_before_disk}
use Rattle.je_program.specs.Ran.{HasRun}
use Rattle.je_program.specs.Run.{cause_of_journal, cause_of_load, cause_of_refusal, first_refused, is_run_through, line_or, refused_line}
use Rattle.je_program.specs.Unprinted.{ComesTo}
use Rattle.je_program.specs.Untouched.{LeavesUnreadable}
use Rattle.je_program.proofs.BeginLaws.{IsOpenedAsOne, beginning, begins}
use Rattle.je_program.proofs.CommandLaws.{after_input, life_is_no_reading, life_names_none, life_none, past_reading, soak_load, unrun}
use Rattle.je_program.proofs.DumpLaws.{run_with_cause}
use Rattle.je_program.proofs.FinishLaws.{IsRanCause}
use Rattle.je_program.proofs.StopLaws.{stopped_ends, stopped_failed, stopped_numbers, stopped_runs, stopped_unreadable, stopped_wrong}
use Rattle.je_program.proofs.UntouchedLaws.{stopped_alone}

-- ---- the lines of a load are lines of a script

puts_are_lines : (db : List ℕ) (mode : PutMode) (pairs : List DumpPair) → list_all is_line (map (put_line db mode) pairs ++ commit_line ∷ []) ≡ true
puts_are_lines db mode [] = refl
puts_are_lines db mode (pair ∷ pairs) = puts_are_lines db mode pairs

pairs_are_lines : (make : Bool) (db : List ℕ) (kind : Kind) (mode : PutMode) (pairs : List DumpPair) → list_all is_line (pair_lines make db kind mode pairs) ≡ true
pairs_are_lines true db kind mode pairs = puts_are_lines db mode pairs
pairs_are_lines false db kind mode pairs = puts_are_lines db mode pairs

pub loads_are_lines : (make : Bool) (db : List ℕ) (kept : Bool) (dump : DumpRead) → list_all is_line (load_lines make db kept dump) ≡ true
loads_are_lines make db kept dump = pairs_are_lines make db (kind_of_dump dump.dup) (load_mode kept dump.dup) dump.pairs

-- ---- the first call that was refused

refused_if : (b : Bool) (line : ℕ) (event : Event) → (if b then Some line else None) ≡ None → b ≡ false
refused_if true line event none = cc
refused_if false line event none = refl

not_refused : (kept : Bool) (event : Event) → refused_line kept event ≡ None → is_refused kept event ≡ false
not_refused kept (Called session line call answer victims) none = refused_if (is_refusal kept answer) line (Called session line call answer victims) none
not_refused kept event none = refl

split_line : (first later : Option ℕ) → line_or first later ≡ None → (first ≡ None) × (later ≡ None)
split_line None later none = (refl, none)
split_line (Some line) later none = cc

-- where there is none, none was
none_refused : (kept : Bool) (journal : List Event) → first_refused kept journal ≡ None → list_any (is_refused kept) journal ≡ false
none_refused kept [] none = refl
none_refused kept (event ∷ events) none =
    let parts = split_line (refused_line kept event) (first_refused kept events) none in
    rw (not_refused kept event parts.0) (none_refused kept events parts.1)

-- and a run paused nowhere
none_paused : (kept : Bool) (journal : List Event) → first_refused kept journal ≡ None → list_any (pauses (AtRefusal kept)) journal ≡ false
none_paused kept [] none = refl
none_paused kept (event ∷ events) none =
    let parts = split_line (refused_line kept event) (first_refused kept events) none in
    rw (not_refused kept event parts.0) (none_paused kept events parts.1)

-- so that it was given all its lines
pub all_given : {D : Type 0} (kept : Bool) (x : Running D) (lines : List ScriptLine) → HasLinesUntil (AtRefusal kept) x lines → x.memory_ended ≡ false → first_refused kept x.recorded.journal.items ≡ None →
    lines_of x.recorded.journal.items ≡ lines
all_given kept x lines has memory none =
    ⊎_elim
    (λ (last : has.rest ≡ []). has.given.all memory ∙ sym (append-nil has.front) ∙ ap (λ (l : List ScriptLine). has.front ++ l) (sym last) ∙ sym has.parts)
    (λ (paused : list_any (pauses (AtRefusal kept)) x.recorded.journal.items ≡ true). absurd (true≢false (sym paused ∙ none_paused kept x.recorded.journal.items none)))
    has.paused

-- ---- where a run of a load begins

-- a run that was given no line met no fault
pub rests_caused : (before mid after : ℕ) (journal : List Event) → mid ≡ after → before ≤ mid → journal ≡ [] → IsCaused before after journal
rests_caused before mid after journal same earlier none = subst (λ (j : List Event). IsCaused before after j) (sym none) (record { never_falls = omega (arith, same, earlier); fault = λ h. cc })

module _ {D : Type 0} (meaning : DiskMeaning D) where
  pub load_start : (most : ℕ) (old : History) (before : ℕ) (opening : Store) (environment : Environment D) (one : IsOpenedAsOne most meaning.observable (now old).reads opening (meaning.history (disk_of environment)) environment) →
      CanGoOn environment → (meaning.observable ≡ true → KeepsEntry old (meaning.history (disk_of environment))) → before ≤ meaning.faults (disk_of environment) →
      HasStart meaning old before opening (beginning meaning most environment one.st) environment
  load_start most old before opening environment one bounds entry faults = record {
    starts = one.starts;
    reach = one.reach;
    stable = λ observed. (one.safe observed).stable;
    entry = entry;
    earlier = faults;
    begins = begins meaning most (now old).reads opening environment one bounds;
  }

  -- a run that was given no line
  pub rests_so : (old : History) (before : ℕ) (opening : Store) (p : Beginning) (environment : Environment D) (running : Running D) → HasStart meaning old before opening p environment →
      running.recorded.environment ≡ environment → running.recorded.journal.items ≡ [] → ((session : ℕ) → slice_index_or running.stopped session false ≡ false) → HasRun meaning old before opening p running
  rests_so old before opening p environment running start same empty stopped =
      let starts = subst (λ (e : Environment D). Begins meaning p e) (sym same) start.begins in
      let none = sym empty in
      record {
        starts = start.starts;
        reach = start.reach;
        stable = start.stable;
        entry = start.entry;
        earlier = start.earlier;
        under = started meaning p running.recorded none starts;
        ends = subst (λ (j : List Event). AreEndsInPlace running.stopped p.st j) none tt;
        none_stopped = λ going. stopped;
        ended = λ going. ap (λ (j : List Event). (after_events p.st j).actives) empty ∙ ap (λ (s : Standing). s.actives) start.starts.st_is;
        calm = λ going. starts_calm meaning p running.recorded none starts;
      }

  -- a run that was given lines
  pub runs_so : (old : History) (before : ℕ) (opening : Store) (p : Beginning) (environment : Environment D) (running : Running D) → HasStart meaning old before opening p environment → IsUnderWay meaning p Nothing running.recorded →
      (running.memory_ended ≡ false → IsCalm p running.recorded) → (running.memory_ended ≡ false → (standing p running.recorded).actives ≡ []) → AreEndsInPlace running.stopped p.st running.recorded.journal.items →
      (running.memory_ended ≡ false → (session : ℕ) → slice_index_or running.stopped session false ≡ false) → HasRun meaning old before opening p running
  runs_so old before opening p environment running start under calm ended ends stopped = record {
    starts = start.starts;
    reach = start.reach;
    stable = start.stable;
    entry = start.entry;
    earlier = start.earlier;
    under = under;
    ends = ends;
    none_stopped = stopped;
    ended = ended;
    calm = calm;
  }

-- where all was done memory had not run out
pub done_left : (memory_ended : Bool) (cause : Cause) → (memory_ended ≡ true → cause ≡ Memory) → cause ≡ Done → memory_ended ≡ false
done_left true cause memory is = (let e : Done ≡ Memory = sym is ∙ memory refl in cc)
done_left false cause memory is = refl

-- a journal without an event is of any load
pub none_loaded : (make : Bool) (db : List ℕ) (kept : Bool) (dump : DumpRead) (st : Standing) (at : Alone) (journal : List Event) → st ≡ alone at → journal ≡ [] → IsLoadOf make db kept dump st journal
none_loaded make db kept dump st at journal is empty = subst (IsLoadOf make db kept dump st) (sym empty) (record {
  alone_at = at;
  is = is;
  limits = [];
  answers = tt;
  rest = load_lines make db kept dump;
  lines = refl;
  stops = tt;
  ends = tt;
})

-- ---- what it stores

-- an opened environment's load stores so
stores_dump : (make : Bool) (db : List ℕ) (kept : Bool) (dump : DumpRead) (observable : Bool) (files : Files) (opening : Store) (st : Standing) (journal : List Event) (cause : Cause) → StartsAt observable files opening st →
    IsLoadOf make db kept dump st journal → (cause ≡ Done → lines_of journal ≡ load_lines make db kept dump) → (cause ≡ Done → first_refused kept journal ≡ None) → StoresDump make db kept dump st journal cause
stores_dump make db kept dump observable files opening st journal cause starts load all done = record {
  whole = loads_whole make db kept dump st journal load;
  attempted = λ lines d found. (pairs_stored make db kept dump st journal d (whole_of observable files opening st starts make db kept dump journal load lines) found).attempted;
  stored = λ is d found. (pairs_stored make db kept dump st journal d (whole_of observable files opening st starts make db kept dump journal load (all is)) found).final (none_refused kept journal (done is));
}

-- ---- the database

-- a bar is how the load ends
pub barred_by_place : (cause : Cause) (place otherwise : Bool) (line : ℕ) → IsBar cause place otherwise line → EndsByPlace cause place otherwise line
barred_by_place NoDatabase place otherwise line bar = bar
barred_by_place (OtherKind at) place otherwise line bar = bar
barred_by_place cause place otherwise line bar = absurd bar

-- ---- how it ends

-- a run ended so, and a load that gave its lines, or none
record LoadEnd (left : Option (List ℕ)) (before after : ℕ) (end cause : Cause) (journal : List Event) (place otherwise : Bool) (line : ℕ) : Type 0 where
  may : ends_load cause ≡ true
  stopped : IsStopped left before after cause
  after_input : is_before_disk cause ≡ false
  runs : RunsIf cause true
  untouched : (old new : History) → LeavesUnreadable cause old new
  not_unreadable : (corruption : Corruption) → cause ≡ Unreadable corruption → ⊥
  not_wrong : (name : List ℕ) → cause ≡ WrongIndex name → ⊥
  not_none : cause ≡ NoEnvironment → ⊥
  lacks : cause ≡ NoDatabase → place ≡ false
  has : cause ≡ Done → place ≡ true
  placed : EndsByPlace cause place otherwise line
  ends : cause ≢ Memory → EndsWith journal cause
  failed : cause ≡ Disk → end ≡ Disk
  through : is_run_through cause ≡ true → is_run_through end ≡ true
  memory : cause ≢ Memory → end ≢ Memory

module _ (left : Option (List ℕ)) (before after : ℕ) (journal : List Event) (place otherwise : Bool) (line : ℕ) where
  -- a run's own cause
  ran_placed : (cause : Cause) → IsRanCause cause → place ≡ true → otherwise ≡ false → EndsByPlace cause place otherwise line
  ran_placed Done ran there same = (there, same)
  ran_placed Disk ran there same = (there, same)
  ran_placed Memory ran there same = (there, same)
  ran_placed LogFull ran there same = (there, same)
  ran_placed IdsEnded ran there same = (there, same)
  ran_placed cause ran there same = absurd ran

  ran_stopped : (cause : Cause) → IsRanCause cause → IsStopped left before after cause
  ran_stopped Input ran = absurd ran
  ran_stopped InputTooLong ran = absurd ran
  ran_stopped (BadScript at) ran = absurd ran
  ran_stopped (BadDump at) ran = absurd ran
  ran_stopped cause ran = tt

  ran_after : (cause : Cause) → IsRanCause cause → is_before_disk cause ≡ false
  ran_after Usage ran = absurd ran
  ran_after Input ran = absurd ran
  ran_after InputTooLong ran = absurd ran
  ran_after (BadScript at) ran = absurd ran
  ran_after (BadDump at) ran = absurd ran
  ran_after cause ran = refl

  ran_may : (cause : Cause) → IsRanCause cause → ends_load cause ≡ true
  ran_may Usage ran = absurd ran
  ran_may (BadScript at) ran = absurd ran
  ran_may NoEnvironment ran = absurd ran
  ran_may Findings ran = absurd ran
  ran_may cause ran = refl

  ran_runs : (cause : Cause) → IsRanCause cause → RunsIf cause true
  ran_runs Done ran = refl
  ran_runs Disk ran = tt
  ran_runs Memory ran = tt
  ran_runs LogFull ran = refl
  ran_runs IdsEnded ran = tt
  ran_runs cause ran = absurd ran

  ran_untouched : (cause : Cause) → IsRanCause cause → (old new : History) → LeavesUnreadable cause old new
  ran_untouched (Unreadable corruption) ran old new = absurd ran
  ran_untouched (WrongIndex name) ran old new = absurd ran
  ran_untouched NoEnvironment ran old new = absurd ran
  ran_untouched cause ran old new = tt

  ran_with : (cause : Cause) → IsRanCause cause → EndsBy journal cause → EndsWith journal cause
  ran_with NoDatabase ran ends = absurd ran
  ran_with (OtherKind at) ran ends = absurd ran
  ran_with (RefusedPair at) ran ends = absurd ran
  ran_with cause ran ends = ends

  ran_is : (cause other : Cause) → IsRanCause cause → cause ≡ other → IsRanCause other
  ran_is cause other ran is = subst IsRanCause is ran

  own_end : (cause : Cause) → IsRanCause cause → (cause ≢ Memory → EndsBy journal cause) → place ≡ true → otherwise ≡ false → LoadEnd left before after cause cause journal place otherwise line
  own_end cause ran ends there same = record {
    may = ran_may cause ran;
    stopped = ran_stopped cause ran;
    after_input = ran_after cause ran;
    runs = ran_runs cause ran;
    untouched = ran_untouched cause ran;
    not_unreadable = λ corruption is. ran_is cause (Unreadable corruption) ran is;
    not_wrong = λ name is. ran_is cause (WrongIndex name) ran is;
    not_none = λ is. ran_is cause NoEnvironment ran is;
    lacks = λ is. absurd (ran_is cause NoDatabase ran is);
    has = λ is. there;
    placed = ran_placed cause ran there same;
    ends = λ other. ran_with cause ran (ends other);
    failed = λ is. is;
    through = λ through. through;
    memory = λ other. other;
  }

  -- behind a pair that was refused
  refused_end : (at : ℕ) → EndsBy journal Done → place ≡ true → otherwise ≡ false → LoadEnd left before after Done (RefusedPair at) journal place otherwise line
  refused_end at ends there same = record {
    may = refl;
    stopped = tt;
    after_input = refl;
    runs = refl;
    untouched = λ old new. tt;
    not_unreadable = λ corruption is. cc;
    not_wrong = λ name is. cc;
    not_none = λ is. cc;
    lacks = λ is. cc;
    has = λ is. cc;
    placed = (there, same);
    ends = λ other. ⊎_elim (λ (is : Done ≡ cause_of_journal journal). sym is) (λ (is : Done ≡ Disk). cc) ends;
    failed = λ is. cc;
    through = λ through. refl;
    memory = λ other is. cc;
  }

  done_end : (found : Option ℕ) → EndsBy journal Done → place ≡ true → otherwise ≡ false → LoadEnd left before after Done (cause_of_refusal found) journal place otherwise line
  done_end None ends there same = own_end Done tt (λ other. ends) there same
  done_end (Some at) ends there same = refused_end at ends there same

  -- a load whose run ended so
  given_end : (kept : Bool) (end : Cause) → IsRanCause end → (end ≢ Memory → EndsBy journal end) → place ≡ true → otherwise ≡ false → LoadEnd left before after end (cause_of_load kept end journal) journal place otherwise line
  given_end kept Done ran ends there same = done_end (first_refused kept journal) (ends (λ is. cc)) there same
  given_end kept Disk ran ends there same = own_end Disk ran ends there same
  given_end kept Memory ran ends there same = own_end Memory ran ends there same
  given_end kept LogFull ran ends there same = own_end LogFull ran ends there same
  given_end kept IdsEnded ran ends there same = own_end IdsEnded ran ends there same
  given_end kept end ran ends there same = absurd ran

  -- a load that gave no line
  barred_end : (end cause : Cause) → end ≢ Memory → journal ≡ [] → IsBar cause place otherwise line → LoadEnd left before after end cause journal place otherwise line
  barred_end end NoDatabase other empty bar = record {
    may = refl;
    stopped = tt;
    after_input = refl;
    runs = refl;
    untouched = λ old new. tt;
    not_unreadable = λ corruption is. cc;
    not_wrong = λ name is. cc;
    not_none = λ is. cc;
    lacks = λ is. bar;
    has = λ is. cc;
    placed = bar;
    ends = λ more. empty;
    failed = λ is. cc;
    through = λ through. cc;
    memory = λ more. other;
  }
  barred_end end (OtherKind at) other empty bar = record {
    may = refl;
    stopped = tt;
    after_input = refl;
    runs = refl;
    untouched = λ old new. tt;
    not_unreadable = λ corruption is. cc;
    not_wrong = λ name is. cc;
    not_none = λ is. cc;
    lacks = λ is. cc;
    has = λ is. cc;
    placed = bar;
    ends = λ more. empty;
    failed = λ is. cc;
    through = λ through. cc;
    memory = λ more. other;
  }
  barred_end end cause other empty bar = absurd bar

-- where all was done no call was refused, and a refused pair is the first
refused_none : (found : Option ℕ) → cause_of_refusal found ≡ Done → found ≡ None
refused_none None is = refl
refused_none (Some at) is = cc

refused_at : (found : Option ℕ) (at : ℕ) → cause_of_refusal found ≡ RefusedPair at → found ≡ Some at
refused_at None at is = cc
refused_at (Some other) at is = (let same : other ≡ at = cc in ap (λ n. Some n) same)

load_done : (kept : Bool) (end : Cause) (journal : List Event) → cause_of_load kept end journal ≡ Done → (end ≡ Done) × (first_refused kept journal ≡ None)
load_done kept Done journal is = (refl, refused_none (first_refused kept journal) is)
load_done kept end journal is = cc

load_refused : (kept : Bool) (end : Cause) (journal : List Event) (at : ℕ) → IsRanCause end → cause_of_load kept end journal ≡ RefusedPair at → first_refused kept journal ≡ Some at
load_refused kept Done journal at ran is = refused_at (first_refused kept journal) at is
load_refused kept (RefusedPair other) journal at ran is = absurd ran
load_refused kept end journal at ran is = cc

bar_not_done : (cause : Cause) (place otherwise : Bool) (line : ℕ) → IsBar cause place otherwise line → cause ≡ Done → ⊥
bar_not_done cause place otherwise line bar is = subst (λ (c : Cause). IsBar c place otherwise line) is bar

bar_not_refused : (cause : Cause) (place otherwise : Bool) (line at : ℕ) → IsBar cause place otherwise line → cause ≡ RefusedPair at → ⊥
bar_not_refused cause place otherwise line at bar is = subst (λ (c : Cause). IsBar c place otherwise line) is bar

-- ---- the whole

module _ {D : Type 0} (meaning : DiskMeaning D) (db : List ℕ) (kept : Bool) (left rest : Option (List ℕ)) (before after : ℕ) (later : before ≤ after) (dump : DumpRead) (read : ReadsDump left rest dump) where
  -- the environment was opened, and closed again
  opened_comes : (disk : D) (r : RunResult D) (text : Text) (st : Standing) (end : Cause) → r.opened ≡ true → st.store ≡ r.opening →
      IsRunOf usual_file_max meaning.observable (meaning.history disk) (meaning.history r.disk) (meaning.faults disk) (meaning.faults r.disk) r.opening r.totals r.journal.items end st →
      ClosesRun (meaning.faults disk) (meaning.faults r.disk) r.journal.items end →
      LoadEnd left before after end r.cause r.journal.items (is_place db r.opening) (keeps_otherwise dump.dup (database_of db r.opening)) dump.dup_line →
      IsLoadOf (makes_database db r.opening) db kept dump st r.journal.items → (r.cause ≡ Done → first_refused kept r.journal.items ≡ None) → ((line : ℕ) → r.cause ≡ RefusedPair line → first_refused kept r.journal.items ≡ Some line) →
      (r.cause ≡ Done → lines_of r.journal.items ≡ load_lines (makes_database db r.opening) db kept dump) → text_of text r.opened r.journal.items r.totals ≡ loaded_at r.cause r.journal.items →
      ComesTo (Some (Load db kept)) meaning left rest before after disk r text
  opened_comes disk r text st end opened store run caused e load done refused all text_is = record {
    may = e.may;
    stopped = e.stopped;
    read = λ after_input other. (dump, read);
    given = λ o. record {
      lines = load_lines (makes_database db r.opening) db kept dump;
      are = (dump, read, refl);
      all = all;
      front = record { first = (load.rest, load.lines); stops = load.stops; done = done; refused = refused };
      none = λ gives. absurd (true≢false gives);
    };
    untouched = λ before_disk. absurd (true≢false (sym before_disk ∙ e.after_input));
    runs = subst (λ (b : Bool). RunsIf r.cause b) (sym opened) e.runs;
    run = λ o. (
      usual_file_max,
      st,
      refl,
      run_with_cause usual_file_max meaning.observable (meaning.history disk) (meaning.history r.disk) (meaning.faults disk) (meaning.faults r.disk) r.opening r.totals r.journal.items st end r.cause run e.memory e.through,
      (dump, read, stores_dump (makes_database db r.opening) db kept dump meaning.observable (now (meaning.history disk)).reads r.opening st r.journal.items r.cause run.starts load all done),
    );
    unopened = λ shut. absurd (true≢false (sym opened ∙ shut));
    unreadable = λ corruption is. absurd (e.not_unreadable corruption is);
    sound = λ is. life_is_no_reading (Some (Load db kept)) refl is;
    wrong_index = λ name is. absurd (e.not_wrong name is);
    ids_ended = λ is shut. absurd (true≢false (sym opened ∙ shut));
    no_environment = λ is. absurd (e.not_none is);
    some_file = λ needs. absurd (true≢false (sym needs));
    no_database = e.lacks;
    has_database = e.has;
    placed = λ o. (dump, read, e.placed);
    ends = λ o other. e.ends other;
    caused = record { never_falls = caused.never_falls; fault = caused.fault; failed = λ is. caused.failed (e.failed is) };
    left_alone = λ observed. e.untouched (meaning.history disk) (meaning.history r.disk);
    reads_only = λ closed. absurd (true≢false closed);
    crash_unopened = λ observed shut. absurd (true≢false (sym opened ∙ shut));
    text_is = text_is;
    source = later;
  }

  -- the lines were given
  pub loaded_comes : (disk : D) (r : RunResult D) (text : Text) (st : Standing) (end : Cause) (make : Bool) → r.opened ≡ true → st.store ≡ r.opening →
      IsRunOf usual_file_max meaning.observable (meaning.history disk) (meaning.history r.disk) (meaning.faults disk) (meaning.faults r.disk) r.opening r.totals r.journal.items end st →
      ClosesRun (meaning.faults disk) (meaning.faults r.disk) r.journal.items end → IsRanCause end → (end ≢ Memory → EndsBy r.journal.items end) →
      r.cause ≡ cause_of_load kept end r.journal.items → IsPlaceFor dump.dup dump.dup_line (length r.opening.databases) (database_of db r.opening) (Ok make) →
      IsLoadOf make db kept dump st r.journal.items → (end ≡ Done → first_refused kept r.journal.items ≡ None → lines_of r.journal.items ≡ load_lines make db kept dump) →
      text_of text r.opened r.journal.items r.totals ≡ loaded_at r.cause r.journal.items → ComesTo (Some (Load db kept)) meaning left rest before after disk r text
  loaded_comes disk r text st end make opened store run caused ran ends cause_is place load all text_is =
      let j = r.journal.items in
      let other = keeps_otherwise dump.dup (database_of db r.opening) in
      let e : LoadEnd left before after end r.cause j (is_place db r.opening) other dump.dup_line =
      subst (λ (c : Cause). LoadEnd left before after end c j (is_place db r.opening) other dump.dup_line) (sym cause_is) (given_end left before after j (is_place db r.opening) other dump.dup_line kept end ran ends place.0 place.1) in
      let load_is : IsLoadOf (makes_database db r.opening) db kept dump st j = subst (λ (b : Bool). IsLoadOf b db kept dump st j) place.2 load in
      let at_done : r.cause ≡ Done → (end ≡ Done) × (first_refused kept j ≡ None) = λ is. load_done kept end j (sym cause_is ∙ is) in
      opened_comes disk r text st end opened store run caused e load_is (λ is. (at_done is).1) (λ at is. load_refused kept end j at ran (sym cause_is ∙ is))
      (λ is. (let d = at_done is in all d.0 d.1 ∙ ap (λ (b : Bool). load_lines b db kept dump) place.2)) text_is

  -- no line was given
  pub barred_comes : (disk : D) (r : RunResult D) (st : Standing) (at : Alone) (end : Cause) → r.opened ≡ true → st.store ≡ r.opening → st ≡ alone at →
      IsRunOf usual_file_max meaning.observable (meaning.history disk) (meaning.history r.disk) (meaning.faults disk) (meaning.faults r.disk) r.opening r.totals r.journal.items end st →
      ClosesRun (meaning.faults disk) (meaning.faults r.disk) r.journal.items end → end ≢ Memory → r.journal.items ≡ [] →
      IsPlaceFor dump.dup dump.dup_line (length r.opening.databases) (database_of db r.opening) (Err r.cause) → ComesTo (Some (Load db kept)) meaning left rest before after disk r NoText
  barred_comes disk r st at end opened store is run caused other empty bar =
      let place = is_place db r.opening in
      let otherwise = keeps_otherwise dump.dup (database_of db r.opening) in
      opened_comes disk r NoText st end opened store run caused (barred_end left before after r.journal.items place otherwise dump.dup_line end r.cause other empty bar)
      (none_loaded (makes_database db r.opening) db kept dump st at r.journal.items is empty) (λ done. absurd (bar_not_done r.cause place otherwise dump.dup_line bar done))
      (λ line refused. absurd (bar_not_refused r.cause place otherwise dump.dup_line line bar refused)) (λ done. absurd (bar_not_done r.cause place otherwise dump.dup_line bar done))
      (no_text r.cause place otherwise dump.dup_line r.journal.items bar)
    where
      no_text : (cause : Cause) (place otherwise : Bool) (line : ℕ) (journal : List Event) → IsBar cause place otherwise line → [] ≡ loaded_at cause journal
      no_text Done place otherwise line journal bar = absurd bar
      no_text cause place otherwise line journal bar = refl

  -- the environment was not opened
  pub unopened_comes : (disk : D) (r : RunResult D) (error : OpenErr) (end : D) →
      StopsBy meaning.observable (now (meaning.history disk)).reads (meaning.faults disk) (meaning.faults end) error → (meaning.observable ≡ true → IsLeftAlone error (meaning.history disk) (meaning.history end)) →
      (meaning.observable ≡ true → KeepsEntry (meaning.history disk) (meaning.history end)) → meaning.faults disk ≤ meaning.faults end → r.cause ≡ cause_of_opening error → r.opened ≡ false → r.disk ≡ end → r.journal.items ≡ [] →
      r.opening ≡ no_databases → ComesTo (Some (Load db kept)) meaning left rest before after disk r NoText
  unopened_comes disk r error end stops_at alone_at entry_at never_falls cause_is shut disk_is empty nothing =
      let files = (now (meaning.history disk)).reads in
      let stops : StopsBy meaning.observable files (meaning.faults disk) (meaning.faults r.disk) error = subst (λ (d : D). StopsBy meaning.observable files (meaning.faults disk) (meaning.faults d) error) (sym disk_is) stops_at in
      let soak : ends_soak r.cause ≡ true = ap ends_soak cause_is ∙ stopped_ends error in
      record {
        may = soak_load r.cause soak;
        stopped = past_reading left before after r.cause soak;
        read = λ after_input other. (dump, read);
        given = λ opened. absurd (true≢false (sym opened ∙ shut));
        untouched = λ before_disk. absurd (true≢false (sym before_disk ∙ after_input r.cause soak));
        runs = subst (λ (c : Cause). RunsIf c r.opened) (sym cause_is) (stopped_runs error r.opened shut);
        run = λ opened. absurd (true≢false (sym opened ∙ shut));
        unopened = λ none_opened. (nothing, empty);
        unreadable = λ corruption is observed. stopped_unreadable meaning.observable files (meaning.faults disk) (meaning.faults r.disk) error corruption stops (sym cause_is ∙ is) observed;
        sound = λ is. life_is_no_reading (Some (Load db kept)) refl is;
        wrong_index = λ name is observed. stopped_wrong meaning.observable files (meaning.faults disk) (meaning.faults r.disk) error name stops (sym cause_is ∙ is) observed;
        ids_ended = λ is none_opened observed. stopped_numbers meaning.observable files (meaning.faults disk) (meaning.faults r.disk) error stops (sym cause_is ∙ is) observed;
        no_environment = λ is. life_none r.cause soak is;
        some_file = λ needs. absurd (true≢false (sym needs));
        no_database = λ is. life_names_none r.cause soak is;
        has_database = λ is. absurd (not_done error (sym cause_is ∙ is));
        placed = λ opened. absurd (true≢false (sym opened ∙ shut));
        ends = λ opened. absurd (true≢false (sym opened ∙ shut));
        caused = unrun (meaning.faults disk) (meaning.faults r.disk) r.journal.items r.cause (subst (λ (d : D). meaning.faults disk ≤ meaning.faults d) (sym disk_is) never_falls) empty
            (λ is. stopped_failed meaning.observable files (meaning.faults disk) (meaning.faults r.disk) error stops (sym cause_is ∙ is));
        left_alone = λ observed. subst (λ (c : Cause). LeavesUnreadable c (meaning.history disk) (meaning.history r.disk)) (sym cause_is)
            (subst (λ (d : D). LeavesUnreadable (cause_of_opening error) (meaning.history disk) (meaning.history d)) (sym disk_is) (stopped_alone error (meaning.history disk) (meaning.history end) (alone_at observed)));
        reads_only = λ closed. absurd (true≢false closed);
        crash_unopened = λ observed none_opened. subst (λ (d : D). KeepsEntry (meaning.history disk) (meaning.history d)) (sym disk_is) (entry_at observed);
        text_is = no_text error ∙ ap (λ (c : Cause). loaded_at c r.journal.items) (sym cause_is);
        source = later;
      }
    where
      not_done : (error : OpenErr) → cause_of_opening error ≡ Done → ⊥
      not_done NoDisk is = cc
      not_done NoMemory is = cc
      not_done NoNumbers is = cc
      not_done (CannotRead corruption) is = cc
      not_done (FoundWrong name) is = cc

      no_text : (error : OpenErr) → [] ≡ loaded_at (cause_of_opening error) r.journal.items
      no_text NoDisk = refl
      no_text NoMemory = refl
      no_text NoNumbers = refl
      no_text (CannotRead corruption) = refl
      no_text (FoundWrong name) = refl
