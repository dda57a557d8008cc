-- What a dump comes to.
use Rattle.std.proofs.Common.{◌≡◌, ◌≢◌, ◌≤◌, ◌⊎◌, ◌∙◌, ℕ, zero, suc, replicate, get_or, Bool, true, false, true≢false, List, [], ◌∷◌, Option, None, Some, length, refl, ap, sym, subst, inl, inr, ⊎_elim, arith}
use Rattle.std.specs.Prelude.{IsSome}
use Rattle.je_order.specs.Counts.{HasRisen}
use Rattle.je_order.specs.declared.octets.Octets.{Octets}
use Rattle.je_disk.specs.DiskMeaning.{DiskMeaning}
use Rattle.je_disk.specs.Moments.{History, now}
use Rattle.je_disk.specs.States.{Files, State, IsListing}
use Rattle.je_lsn.specs.declared.file_no.FileNo.{FileNo}
use Rattle.store_model.specs.declared.event.Event.{Event}
use Rattle.store_model.specs.declared.kind.Kind.{Kind}
use Rattle.store_model.specs.declared.store.Database.{Database}
use Rattle.store_model.specs.declared.store.Store.{Store}
use Rattle.store_model.specs.declared.totals.Totals.{Totals}
use Rattle.store_model.specs.Store.{database_of, with_pairs}
use Rattle.je_answers.specs.Standing.{Standing}
use Rattle.log_file.specs.Log.{AreFiles}
use Rattle.log_printer.specs.Reading.{HasNoFile}
use Rattle.log_replay.specs.declared.corruption.Corruption.{Corruption}
use Rattle.log_replay.specs.Rows.{Rows}
use Rattle.log_replay.proofs.UnchangedMoments.{passes_again}
use Rattle.log_printer.proofs.ReadingLaws.{none_listed}
use Rattle.engine.specs.Lengths.{AreLengthsWithin}
use Rattle.engine.specs.Opening.{StartsAt}
use Rattle.engine.specs.Untouched.{IsUntouched}
use Rattle.engine.proofs.EntryLaws.{entry_later}
use Rattle.environment.specs.declared.found_database.FoundDatabase.{FoundDatabase}
use Rattle.environment.specs.Databases.{IsFoundIn}
use Rattle.command_line.specs.declared.command.Command.TheVariants.{Dump}
use Rattle.database_dump.specs.Text.{database_text, records_text}
use Rattle.je_program.specs.declared.cause.Cause.{Cause}
use Rattle.je_program.specs.declared.cause.Cause.TheVariants.{Done, Usage, BadScript, BadDump, Disk, Unreadable, WrongIndex, Memory, NoEnvironment, NoDatabase, Input, InputTooLong}
use Rattle.je_program.specs.declared.run_result.RunResult.{RunResult}
use Rattle.je_program.specs.declared.text.Text.{Text}
use Rattle.je_program.specs.Commands.{IsGivenTo, dump_at, ends_dump, text_of, usual_file_max}
use Rattle.je_program.specs.Crash.{IsSafeProgram}
use Rattle.je_program.specs.Dumping.{IsSameRun, cause_with, dump_given, text_with}
use Rattle.je_program.specs.Program.{ClosesRun, EndsBy, EndsWith, IsRunOf, IsStopped, RunsIf, is_before_disk}
use Rattle.je_program.specs.Run.{is_run_through}
use Rattle.je_program.specs.Unprinted.{ComesTo}
use Rattle.je_program.specs.Untouched.{LeavesUnreadable}
use Rattle.je_program.proofs.CommandLaws.{life_is_no_reading}
use Rattle.je_program.proofs.FinishLaws.{well_since}

-- ---- how it ends

pub dump_stopped : (left : Option (List ℕ)) (before after : ℕ) (cause : Cause) → ends_dump cause ≡ true → IsStopped left before after cause
dump_stopped left before after Input may = cc
dump_stopped left before after InputTooLong may = cc
dump_stopped left before after (BadScript line) may = cc
dump_stopped left before after (BadDump line) may = cc
dump_stopped left before after cause may = tt

pub dump_after : (cause : Cause) → ends_dump cause ≡ true → is_before_disk cause ≡ false
dump_after Usage may = absurd (true≢false (sym may))
dump_after Input may = absurd (true≢false (sym may))
dump_after InputTooLong may = absurd (true≢false (sym may))
dump_after (BadScript line) may = absurd (true≢false (sym may))
dump_after (BadDump line) may = absurd (true≢false (sym may))
dump_after cause may = refl

-- a run that was closed ended so, and a dump of a database that was found or not
pub record DumpEnd (end cause : Cause) (database : Option Database) : Type 0 where
  pub may : ends_dump cause ≡ true
  pub runs : RunsIf cause true
  pub untouched : (old new : History) → LeavesUnreadable cause old new
  pub not_unreadable : (corruption : Corruption) → cause ≡ Unreadable corruption → ⊥
  pub not_wrong : (name : List ℕ) → cause ≡ WrongIndex name → ⊥
  pub not_none : cause ≡ NoEnvironment → ⊥
  pub lacks : cause ≡ NoDatabase → database ≡ None
  pub has : cause ≡ Done → database ≢ None
  pub ends : EndsWith [] cause
  pub failed : cause ≡ Disk → end ≡ Disk
  pub through : is_run_through cause ≡ true → is_run_through end ≡ true
  pub no_memory : end ≢ Memory

pub no_memory_closing : (end : Cause) → (end ≡ Done) ⊎ (end ≡ Disk) → end ≢ Memory
no_memory_closing end (inl is) = λ e. cc
no_memory_closing end (inr is) = λ e. cc

lacking_end : (end : Cause) → (end ≡ Done) ⊎ (end ≡ Disk) → DumpEnd end NoDatabase None
lacking_end end is = record {
  may = refl;
  runs = refl;
  untouched = λ old new. tt;
  not_unreadable = λ corruption e. cc;
  not_wrong = λ name e. cc;
  not_none = λ e. cc;
  lacks = λ e. refl;
  has = λ e. cc;
  ends = refl;
  failed = λ e. cc;
  through = λ e. cc;
  no_memory = no_memory_closing end is;
}

done_end : (database : Database) → DumpEnd Done Done (Some database)
done_end database = record {
  may = refl;
  runs = refl;
  untouched = λ old new. tt;
  not_unreadable = λ corruption e. cc;
  not_wrong = λ name e. cc;
  not_none = λ e. cc;
  lacks = λ e. cc;
  has = λ e is. cc;
  ends = inl refl;
  failed = λ e. e;
  through = λ e. e;
  no_memory = λ e. cc;
}

failed_end : (database : Database) → DumpEnd Disk Disk (Some database)
failed_end database = record {
  may = refl;
  runs = tt;
  untouched = λ old new. tt;
  not_unreadable = λ corruption e. cc;
  not_wrong = λ name e. cc;
  not_none = λ e. cc;
  lacks = λ e. cc;
  has = λ e is. cc;
  ends = inr refl;
  failed = λ e. e;
  through = λ e. e;
  no_memory = λ e. cc;
}

dump_end : (rows : Rows) (known : Option FoundDatabase) (database : Option Database) (end : Cause) → IsFoundIn rows database known → (end ≡ Done) ⊎ (end ≡ Disk) → DumpEnd end (cause_with known end) database
dump_end rows None None end found is = lacking_end end is
dump_end rows None (Some database) end found is = absurd found
dump_end rows (Some known) None end found is = absurd found
dump_end rows (Some known) (Some database) end found (inl is) = subst (λ (c : Cause). DumpEnd c c (Some database)) (sym is) (done_end database)
dump_end rows (Some known) (Some database) end found (inr is) = subst (λ (c : Cause). DumpEnd c c (Some database)) (sym is) (failed_end database)

-- the text is that of the database, where all was done
text_is_dump : (rows : Rows) (known : Option FoundDatabase) (database : Option Database) (end : Cause) (printed : Bool) → IsFoundIn rows database known → (end ≡ Done) ⊎ (end ≡ Disk) →
    dump_given end printed rows known ≡ dump_at (cause_with known end) printed database
text_is_dump rows None None end printed found is = refl
text_is_dump rows None (Some database) end printed found is = absurd found
text_is_dump rows (Some known) None end printed found is = absurd found
text_is_dump rows (Some known) (Some database) end printed found (inl is) =
    ap (λ (c : Cause). text_with c printed known.kind (rows known.number)) is
    ∙ ap (λ (k : Kind). records_text printed k (rows known.number)) found.kind
    ∙ ap (λ (pairs : List (Octets × Octets)). database_text printed (Some (with_pairs database pairs))) (sym found.pairs)
    ∙ ap (λ (c : Cause). dump_at c printed (Some database)) (sym is)
text_is_dump rows (Some known) (Some database) end printed found (inr is) =
    ap (λ (c : Cause). text_with c printed known.kind (rows known.number)) is ∙ ap (λ (c : Cause). dump_at c printed (Some database)) (sym is)

-- a run without an event ends so where memory was left
pub closed_end : (journal : List Event) (cause : Cause) → journal ≡ [] → EndsBy journal cause → (cause ≡ Done) ⊎ (cause ≡ Disk)
closed_end journal cause none ends = subst (λ (j : List Event). EndsBy j cause) none ends

-- ---- a run under another cause, and since an earlier moment

module _ (most : ℕ) (observable : Bool) (old new : History) (before after : ℕ) (opening : Store) (counted : Totals) (journal : List Event) (st : Standing) where
  pub run_with_cause : (end cause : Cause) → IsRunOf most observable old new before after opening counted journal end st → (cause ≢ Memory → end ≢ Memory) → (is_run_through cause ≡ true → is_run_through end ≡ true) →
      IsRunOf most observable old new before after opening counted journal cause st
  run_with_cause end cause run other through =
      let safe : observable ≡ true → IsSafeProgram old new st journal cause = λ observed. (let s = run.safe observed in record {
        start = s.start;
        stable = s.stable;
        before = s.before;
        run = s.run;
        indexed = s.indexed;
        ends = λ done. s.ends (through done);
      }) in
      record {
        starts = run.starts;
        limits = run.limits;
        answers = run.answers;
        replays = run.replays;
        no_cycle = run.no_cycle;
        indexes = run.indexes;
        bounded = run.bounded;
        synced_at_once = run.synced_at_once;
        in_order = run.in_order;
        steps = run.steps;
        stopped = run.stopped;
        in_place = run.in_place;
        none_stopped = λ e. run.none_stopped (other e);
        ended = λ e. run.ended (other e);
        rests = λ e. run.rests (other e);
        acknowledged = λ done. run.acknowledged (through done);
        safe = safe;
        files = λ done. run.files (through done);
        lengths = λ well. run.lengths (⊎_elim (λ (done : is_run_through cause ≡ true). inl (through done)) (λ (quiet : HasRisen before after → ⊥). inr quiet) well);
        totals = run.totals;
      }

  pub run_later : (first : History) (earlier : ℕ) (cause : Cause) → (observable ≡ true → IsUntouched first old) → earlier ≤ before → before ≤ after →
      IsRunOf most observable old new before after opening counted journal cause st → IsRunOf most observable first new earlier after opening counted journal cause st
  run_later first earlier cause still less later run =
      let reads : observable ≡ true → (now old).reads ≡ (now first).reads = λ observed. ap (λ (s : State). s.reads) (still observed).same in
      let s = run.starts in
      let starts : StartsAt observable (now first).reads opening st = record {
        alone_at = s.alone_at;
        st_is = s.st_is;
        store = s.store;
        commits = s.commits;
        begun = s.begun;
        fault = s.fault;
        checkpoint = s.checkpoint;
        numbers = s.numbers;
        held = s.held;
        observed = λ observed. subst (λ (f : Files). AreFiles f s.held) (reads observed) (s.observed observed);
        named = s.named;
        meaning = s.meaning;
        means = s.means;
        means_store = s.means_store;
        indexed = s.indexed;
        means_txn = s.means_txn;
        means_db = s.means_db;
        nodes = s.nodes;
      } in
      let safe : observable ≡ true → IsSafeProgram first new st journal cause = λ observed. (let x = run.safe observed in record {
        start = x.start;
        stable = x.stable;
        before = entry_later first old x.start (still observed).moments (still observed).same x.before;
        run = x.run;
        indexed = x.indexed;
        ends = x.ends;
      }) in
      record {
        starts = starts;
        limits = run.limits;
        answers = run.answers;
        replays = run.replays;
        no_cycle = run.no_cycle;
        indexes = run.indexes;
        bounded = run.bounded;
        synced_at_once = run.synced_at_once;
        in_order = run.in_order;
        steps = run.steps;
        stopped = run.stopped;
        in_place = run.in_place;
        none_stopped = run.none_stopped;
        ended = run.ended;
        rests = run.rests;
        acknowledged = run.acknowledged;
        safe = safe;
        files = run.files;
        lengths = λ well observed. subst (λ (f : Files). AreLengthsWithin most f (now new).reads) (reads observed) (run.lengths (well_since earlier before after cause less later well) observed);
        totals = run.totals;
      }

-- where nothing was done in between, the disk was left alone since the earlier moment
pub alone_later : (cause : Cause) (first old new : History) → IsUntouched first old → LeavesUnreadable cause old new → LeavesUnreadable cause first new
alone_later (Unreadable corruption) first old new still alone = record { same = alone.same ∙ still.same; moments = passes_again first old new still.same still.moments alone.moments }
alone_later (WrongIndex name) first old new still alone = record { same = alone.same ∙ still.same; moments = passes_again first old new still.same still.moments alone.moments }
alone_later NoEnvironment first old new still alone = record { same = alone.same ∙ still.same; moments = passes_again first old new still.same still.moments alone.moments }
alone_later cause first old new still alone = tt

-- ---- a run at rest

-- no flag of so many is set
pub none_set : (n i : ℕ) → get_or (replicate n false) i false ≡ false
none_set zero i = refl
none_set (suc n) zero = refl
none_set (suc n) (suc i) = none_set n i

-- ---- looking for an environment

none_is_some : (file : Option (List ℕ)) → file ≡ None → IsSome file → ⊥
none_is_some None none some = true≢false (sym some)
none_is_some (Some bytes) none some = cc

-- a disk that was listed has files or none
pub listed_none : (reads : Files) (files : List FileNo) → length files ≡ 0 → IsListing reads files → HasNoFile reads
listed_none reads [] empty listing = none_listed reads [] refl listing
listed_none reads (f ∷ files) empty listing = absurd (omega (arith, empty))

-- a listing that is not empty names a file that is there
pub listed_some : (reads : Files) (files : List FileNo) → length files ≢ 0 → IsListing reads files → HasNoFile reads → ⊥
listed_some reads [] some listing none = some refl
listed_some reads (f ∷ files) some listing none = none_is_some (reads f.0) (none f.0) ((listing f.0).0 (0, omega arith, refl))

-- ---- the whole

pub dump_given_none : (db : List ℕ) (printed : Bool) (left : Option (List ℕ)) (opening : Store) (journal : List Event) (cause : Cause) → journal ≡ [] → IsGivenTo (Some (Dump db printed)) left left opening journal cause
dump_given_none db printed left opening journal cause none = subst (λ (j : List Event). IsGivenTo (Some (Dump db printed)) left left opening j cause) (sym none) (record {
  lines = [];
  are = refl;
  all = λ other. refl;
  front = record { each = λ session. ([], refl); steps = ([], refl) };
  none = λ other. refl;
})

module _ {D : Type 0} (meaning : DiskMeaning D) where
  -- a run that goes on under its fields
  pub run_of_same : (most : ℕ) (old : History) (before : ℕ) (first r : RunResult D) (end : Cause) (st : Standing) → IsSameRun first r →
      IsRunOf most meaning.observable old (meaning.history first.disk) before (meaning.faults first.disk) first.opening first.totals first.journal.items end st →
      IsRunOf most meaning.observable old (meaning.history r.disk) before (meaning.faults r.disk) r.opening r.totals r.journal.items end st
  run_of_same most old before first r end st same run =
      subst (λ (d : D). IsRunOf most meaning.observable old (meaning.history d) before (meaning.faults d) r.opening r.totals r.journal.items end st) (sym same.disk)
      (subst (λ (o : Store). IsRunOf most meaning.observable old (meaning.history first.disk) before (meaning.faults first.disk) o r.totals r.journal.items end st) (sym same.opening)
      (subst (λ (t : Totals). IsRunOf most meaning.observable old (meaning.history first.disk) before (meaning.faults first.disk) first.opening t r.journal.items end st) (sym same.totals)
      (subst (λ (j : List Event). IsRunOf most meaning.observable old (meaning.history first.disk) before (meaning.faults first.disk) first.opening first.totals j end st) (sym same.journal) run)))

  module _ (db : List ℕ) (printed : Bool) (left : Option (List ℕ)) (before after : ℕ) (later : before ≤ after) where
    -- the environment was opened, and closed again
    pub dump_comes : (disk : D) (r : RunResult D) (text : Text) (st : Standing) (end : Cause) (rows : Rows) (known : Option FoundDatabase) → (meaning.observable ≡ true → HasNoFile (now (meaning.history disk)).reads → ⊥) →
        r.cause ≡ cause_with known end → (end ≡ Done) ⊎ (end ≡ Disk) → r.opened ≡ true → r.journal.items ≡ [] →
        IsRunOf usual_file_max meaning.observable (meaning.history disk) (meaning.history r.disk) (meaning.faults disk) (meaning.faults r.disk) r.opening r.totals r.journal.items end st →
        ClosesRun (meaning.faults disk) (meaning.faults r.disk) r.journal.items end → IsFoundIn rows (database_of db r.opening) known →
        text_of text r.opened r.journal.items r.totals ≡ dump_given end printed rows known →
        ComesTo (Some (Dump db printed)) meaning left left before after disk r text
    dump_comes disk r text st end rows known there cause_is end_is opened empty run caused found text_is =
        let database = database_of db r.opening in
        let e : DumpEnd end r.cause database = subst (λ (c : Cause). DumpEnd end c database) (sym cause_is) (dump_end rows known database end found end_is) in
        record {
          may = e.may;
          stopped = dump_stopped left before after r.cause e.may;
          read = λ after_input other. refl;
          given = λ o. dump_given_none db printed left r.opening r.journal.items r.cause empty;
          untouched = λ before_disk. absurd (true≢false (sym before_disk ∙ dump_after r.cause e.may));
          runs = subst (λ (b : Bool). RunsIf r.cause b) (sym opened) e.runs;
          run = λ o. (
            usual_file_max,
            st,
            refl,
            run_with_cause usual_file_max meaning.observable (meaning.history disk) (meaning.history r.disk) (meaning.faults disk) (meaning.faults r.disk) r.opening r.totals r.journal.items st end r.cause run (λ more. e.no_memory) e.through,
            tt,
          );
          unopened = λ shut. absurd (true≢false (sym opened ∙ shut));
          unreadable = λ corruption is. absurd (e.not_unreadable corruption is);
          sound = λ is. life_is_no_reading (Some (Dump db printed)) refl is;
          wrong_index = λ name is. absurd (e.not_wrong name is);
          ids_ended = λ is shut. absurd (true≢false (sym opened ∙ shut));
          no_environment = λ is. absurd (e.not_none is);
          some_file = λ needs file observed. there observed;
          no_database = e.lacks;
          has_database = e.has;
          placed = λ o. tt;
          ends = λ o other. subst (λ (j : List Event). EndsWith j r.cause) (sym empty) e.ends;
          caused = record { never_falls = caused.never_falls; fault = caused.fault; failed = λ is. caused.failed (e.failed is) };
          left_alone = λ observed. e.untouched (meaning.history disk) (meaning.history r.disk);
          reads_only = λ closed. absurd (true≢false closed);
          crash_unopened = λ observed shut. absurd (true≢false (sym opened ∙ shut));
          text_is = text_is ∙ text_is_dump rows known database end printed found end_is ∙ ap (λ (c : Cause). dump_at c printed database) (sym cause_is);
          source = later;
        }
