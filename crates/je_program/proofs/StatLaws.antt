-- What a count of the log's use comes to.
use Rattle.std.proofs.Common.{◌≡◌, ◌≢◌, ◌≤◌, ◌⊎◌, ◌∙◌, ℕ, Bool, true, true≢false, List, [], Option, Some, Err, refl, ap, sym, subst, inl, inr, arith}
use Rattle.je_order.specs.Counts.{HasRisen}
use Rattle.je_disk.specs.DiskMeaning.{DiskMeaning}
use Rattle.je_disk.specs.Moments.{History, now}
use Rattle.je_disk.specs.States.{State}
use Rattle.store_model.specs.declared.event.Event.{Event}
use Rattle.store_model.specs.declared.store.Store.{Store}
use Rattle.store_model.specs.declared.totals.Totals.{Totals}
use Rattle.je_answers.specs.Standing.{Standing}
use Rattle.log_file.specs.Log.{AreFiles}
use Rattle.log_replay.specs.declared.corruption.Corruption.{Corruption}
use Rattle.log_replay.specs.Indexed.{wrong_index}
use Rattle.log_meaning.specs.Reading.{reading_of}
use Rattle.log_printer.specs.Reading.{HasNoFile}
use Rattle.use_printer.specs.UseText.{use_text}
use Rattle.recovery_je.specs.Answer.{HasFiles, HasWrongIndex as IsWrongIn}
use Rattle.engine.specs.Files.{MeanStore}
use Rattle.engine.specs.Untouched.{IsUntouched}
use Rattle.engine.proofs.Counts.{rose_earlier}
use Rattle.command_line.specs.declared.command.Command.TheVariants.{Stat}
use Rattle.script_run.specs.Events.{final_store}
use Rattle.je_program.specs.declared.cause.Cause.{Cause}
use Rattle.je_program.specs.declared.cause.Cause.TheVariants.{Done, Disk, Unreadable, WrongIndex, Memory, NoEnvironment, NoDatabase}
use Rattle.je_program.specs.declared.run_result.RunResult.{RunResult}
use Rattle.je_program.specs.declared.text.Text.{Text}
use Rattle.je_program.specs.declared.text.Text.TheVariants.{Nothing, Use}
use Rattle.je_program.specs.Commands.{IsUseText, ends_stat, text_of, usual_file_max}
use Rattle.je_program.specs.Counting.{IsCounted, IsCountedIf, IsRunOn, IsUnopened, IsWholeCount, is_wrong}
use Rattle.je_program.specs.Program.{ClosesRun, EndsWith, IsRunOf, RunsIf}
use Rattle.je_program.specs.Unprinted.{ComesTo}
use Rattle.je_program.specs.Untouched.{LeavesUnreadable}
use Rattle.je_program.proofs.CommandLaws.{unrun}
use Rattle.je_program.proofs.DumpLaws.{dump_after, dump_stopped, run_with_cause}
use Rattle.je_program.proofs.EndLaws.{no_corruption_beside, no_wrong_beside, stat_dump}
use Rattle.je_program.proofs.RestingLaws.{stat_opens_only}
use Rattle.je_program.proofs.StillLaws.{run_then}

-- ---- a run that was closed

-- the end of a count where the environment was opened
pub record StatEnd (before after : ℕ) (cause : Cause) : Type 0 where
  pub may : ends_stat cause ≡ true
  pub runs : RunsIf cause true
  pub untouched : (old new : History) → LeavesUnreadable cause old new
  pub not_unreadable : (corruption : Corruption) → cause ≡ Unreadable corruption → ⊥
  pub not_wrong : (name : List ℕ) → cause ≡ WrongIndex name → ⊥
  pub not_none : cause ≡ NoEnvironment → ⊥
  pub not_named : cause ≡ NoDatabase → ⊥
  pub ends : cause ≢ Memory → EndsWith [] cause
  pub failed : cause ≡ Disk → HasRisen before after

done_stat : (before after : ℕ) → StatEnd before after Done
done_stat before after = record {
  may = refl;
  runs = refl;
  untouched = λ old new. tt;
  not_unreadable = λ corruption e. cc;
  not_wrong = λ name e. cc;
  not_none = λ e. cc;
  not_named = λ e. cc;
  ends = λ other. inl refl;
  failed = λ e. cc;
}

failed_stat : (before after : ℕ) → HasRisen before after → StatEnd before after Disk
failed_stat before after rose = record {
  may = refl;
  runs = tt;
  untouched = λ old new. tt;
  not_unreadable = λ corruption e. cc;
  not_wrong = λ name e. cc;
  not_none = λ e. cc;
  not_named = λ e. cc;
  ends = λ other. inr refl;
  failed = λ e. rose;
}

memory_stat : (before after : ℕ) → StatEnd before after Memory
memory_stat before after = record {
  may = refl;
  runs = tt;
  untouched = λ old new. tt;
  not_unreadable = λ corruption e. cc;
  not_wrong = λ name e. cc;
  not_none = λ e. cc;
  not_named = λ e. cc;
  ends = λ other. absurd (other refl);
  failed = λ e. cc;
}

module _ {D : Type 0} (meaning : DiskMeaning D) (left : Option (List ℕ)) (before after : ℕ) (later : before ≤ after) (disk : D) (there : meaning.observable ≡ true → HasNoFile (now (meaning.history disk)).reads → ⊥) where
  -- it was opened, and closed again
  stat_comes : (r : RunResult D) (text : Text) (st : Standing) → StatEnd (meaning.faults disk) (meaning.faults r.disk) r.cause → r.opened ≡ true → r.journal.items ≡ [] →
      IsRunOf usual_file_max meaning.observable (meaning.history disk) (meaning.history r.disk) (meaning.faults disk) (meaning.faults r.disk) r.opening r.totals r.journal.items r.cause st →
      meaning.faults disk ≤ meaning.faults r.disk → IsUseText r.cause meaning.observable (now (meaning.history r.disk)).reads (text_of text r.opened r.journal.items r.totals) →
      ComesTo (Some Stat) meaning left left before after disk r text
  stat_comes r text st e opened empty run never_falls text_is = record {
    may = e.may;
    stopped = dump_stopped left before after r.cause (stat_dump r.cause e.may);
    read = λ after_input other. refl;
    given = λ o. stat_opens_only.given left r.opening r.journal.items r.cause empty;
    untouched = λ before_disk. absurd (true≢false (sym before_disk ∙ dump_after r.cause (stat_dump r.cause e.may)));
    runs = subst (λ (b : Bool). RunsIf r.cause b) (sym opened) e.runs;
    run = λ o. (usual_file_max, st, refl, run, tt);
    unopened = λ shut. absurd (true≢false (sym opened ∙ shut));
    unreadable = λ corruption is. absurd (e.not_unreadable corruption is);
    sound = λ is. cc;
    wrong_index = λ name is. absurd (e.not_wrong name is);
    ids_ended = λ is shut. absurd (true≢false (sym opened ∙ shut));
    no_environment = λ is. absurd (e.not_none is);
    some_file = λ needs file observed. there observed;
    no_database = λ is. absurd (e.not_named is);
    has_database = λ is. tt;
    placed = λ o. tt;
    ends = λ o other. subst (λ (j : List Event). EndsWith j r.cause) (sym empty) (e.ends other);
    caused = unrun (meaning.faults disk) (meaning.faults r.disk) r.journal.items r.cause never_falls empty e.failed;
    left_alone = λ observed. e.untouched (meaning.history disk) (meaning.history r.disk);
    reads_only = λ closed. absurd (true≢false closed);
    crash_unopened = λ observed shut. absurd (true≢false (sym opened ∙ shut));
    text_is = text_is;
    source = later;
  }

  -- its files were wrong when they were read again, which a disk that tells what it has rules out
  shut_comes : (r : RunResult D) (cause : Cause) → is_wrong cause ≡ true → (meaning.observable ≡ true → ⊥) → r.cause ≡ cause → IsUnopened r → meaning.faults disk ≤ meaning.faults r.disk →
      ComesTo (Some Stat) meaning left left before after disk r Nothing
  shut_comes r cause wrong blind is shut never_falls =
      let may : ends_stat r.cause ≡ true = ap ends_stat is ∙ wrong_stat cause wrong in
      let other : (why : Cause) → r.cause ≡ why → is_wrong why ≡ true = λ why e. ap is_wrong (sym e ∙ is) ∙ wrong in
      record {
        may = may;
        stopped = dump_stopped left before after r.cause (stat_dump r.cause may);
        read = λ after_input o. refl;
        given = λ opened. absurd (true≢false (sym opened ∙ shut.opened));
        untouched = λ before_disk. absurd (true≢false (sym before_disk ∙ dump_after r.cause (stat_dump r.cause may)));
        runs = subst (λ (c : Cause). RunsIf c r.opened) (sym is) (wrong_runs cause wrong);
        run = λ opened. absurd (true≢false (sym opened ∙ shut.opened));
        unopened = λ none_opened. (shut.opening, shut.journal);
        unreadable = λ corruption e observed. absurd (blind observed);
        sound = λ e. cc;
        wrong_index = λ name e observed. absurd (blind observed);
        ids_ended = λ e none_opened observed. absurd (blind observed);
        no_environment = λ e observed. absurd (blind observed);
        some_file = λ needs file observed. absurd (blind observed);
        no_database = λ e. absurd (true≢false (sym (other NoDatabase e)));
        has_database = λ e. tt;
        placed = λ opened. tt;
        ends = λ opened. absurd (true≢false (sym opened ∙ shut.opened));
        caused = unrun (meaning.faults disk) (meaning.faults r.disk) r.journal.items r.cause never_falls shut.journal (λ e. absurd (true≢false (sym (other Disk e))));
        left_alone = λ observed. absurd (blind observed);
        reads_only = λ closed. absurd (true≢false closed);
        crash_unopened = λ observed. absurd (blind observed);
        text_is = subst (λ (c : Cause). IsUseText c meaning.observable (now (meaning.history r.disk)).reads []) (sym is) (wrong_text cause wrong);
        source = later;
      }
    where
      wrong_stat : (cause : Cause) → is_wrong cause ≡ true → ends_stat cause ≡ true
      wrong_stat (Unreadable corruption) wrong = refl
      wrong_stat (WrongIndex name) wrong = refl
      wrong_stat cause wrong = cc

      wrong_runs : (cause : Cause) → is_wrong cause ≡ true → RunsIf cause r.opened
      wrong_runs (Unreadable corruption) wrong = shut.opened
      wrong_runs (WrongIndex name) wrong = shut.opened
      wrong_runs cause wrong = cc

      wrong_text : (cause : Cause) → is_wrong cause ≡ true → IsUseText cause meaning.observable (now (meaning.history r.disk)).reads []
      wrong_text (Unreadable corruption) wrong = refl
      wrong_text (WrongIndex name) wrong = refl
      wrong_text cause wrong = cc

  module _ (old : RunResult D) (st : Standing) (old_is : old.cause ≡ Done) (opened : old.opened ≡ true) (empty : old.journal.items ≡ [])
      (run : IsRunOf usual_file_max meaning.observable (meaning.history disk) (meaning.history old.disk) (meaning.faults disk) (meaning.faults old.disk) old.opening old.totals old.journal.items Done st)
      (closed : meaning.faults disk ≤ meaning.faults old.disk) where
    -- what the files mean that are left
    left_meaning : meaning.observable ≡ true → MeanStore (now (meaning.history old.disk)).reads old.opening
    left_meaning observed =
        let store : final_store st old.journal.items ≡ old.opening = ap (final_store st) empty ∙ ap (λ (s : Standing). s.store) run.starts.st_is ∙ run.starts.store in
        subst (λ (s : Store). MeanStore (now (meaning.history old.disk)).reads s) store (run.files refl observed)

    never_corrupt : (corruption : Corruption) → HasFiles meaning.observable (now (meaning.history old.disk)).reads (λ held. reading_of held ≡ Err corruption) → meaning.observable ≡ true → ⊥
    never_corrupt corruption has observed =
        let means = left_meaning observed in
        no_corruption_beside (now (meaning.history old.disk)).reads corruption means.0 (record { held = has.held; are = has.are observed; reads = has.is }) means.1

    never_wrong : (name : List ℕ) → HasFiles meaning.observable (now (meaning.history old.disk)).reads (IsWrongIn name) → meaning.observable ≡ true → ⊥
    never_wrong name has observed =
        let means = left_meaning observed in
        no_wrong_beside (now (meaning.history old.disk)).reads name means.0 (record { held = has.held; are = has.are observed; meaning = has.is.meaning; reads = has.is.reads; wrong = has.is.wrong }) means.1
        (ap wrong_index means.2 ∙ sym run.starts.indexed.first)

    -- the run, with the disk and the cause that it has once its files were read again
    run_on : (r : RunResult D) (cause : Cause) → IsRunOn old r → (meaning.observable ≡ true → IsUntouched (meaning.history old.disk) (meaning.history r.disk)) → meaning.faults old.disk ≤ meaning.faults r.disk →
        IsRunOf usual_file_max meaning.observable (meaning.history disk) (meaning.history r.disk) (meaning.faults disk) (meaning.faults r.disk) r.opening r.totals r.journal.items cause st
    run_on r cause on still less =
        let moved = run_then usual_file_max meaning.observable (meaning.history disk) (meaning.history old.disk) (meaning.history r.disk) (meaning.faults disk) (meaning.faults old.disk) (meaning.faults r.disk) old.opening old.totals old.journal.items Done st
        still less empty run in
        let caused = run_with_cause usual_file_max meaning.observable (meaning.history disk) (meaning.history r.disk) (meaning.faults disk) (meaning.faults r.disk) old.opening old.totals old.journal.items st Done cause moved
        (λ other e. cc) (λ through. refl) in
        subst (λ (o : Store). IsRunOf usual_file_max meaning.observable (meaning.history disk) (meaning.history r.disk) (meaning.faults disk) (meaning.faults r.disk) o r.totals r.journal.items cause st) (sym on.opening)
        (subst (λ (t : Totals). IsRunOf usual_file_max meaning.observable (meaning.history disk) (meaning.history r.disk) (meaning.faults disk) (meaning.faults r.disk) old.opening t r.journal.items cause st) (sym on.totals)
        (subst (λ (j : List Event). IsRunOf usual_file_max meaning.observable (meaning.history disk) (meaning.history r.disk) (meaning.faults disk) (meaning.faults r.disk) old.opening old.totals j cause st) (sym on.journal) caused))

    counted_text : (r : RunResult D) (text : Text) → (meaning.observable ≡ true → IsUntouched (meaning.history old.disk) (meaning.history r.disk)) → IsWholeCount meaning.observable (now (meaning.history old.disk)).reads text →
        IsUseText Done meaning.observable (now (meaning.history r.disk)).reads (text_of text r.opened r.journal.items r.totals)
    counted_text r (Use used) still whole = record {
      held = whole.held;
      are = λ observed. subst (λ (s : State). AreFiles s.reads whole.held) (sym (still observed).same) (whole.are observed);
      meaning = whole.is.0;
      means = whole.is.1;
      text_is = ap use_text whole.is.2;
    }
    counted_text r text still whole = absurd whole

    pub counted_comes : (r : RunResult D) (text : Text) (cause : Cause) → r.cause ≡ cause → IsCounted meaning old r text cause → (meaning.observable ≡ true → IsUntouched (meaning.history old.disk) (meaning.history r.disk)) →
        meaning.faults old.disk ≤ meaning.faults r.disk → ComesTo (Some Stat) meaning left left before after disk r text
    counted_comes r text cause is counted still less = by_cause cause is counted
      where
        never_falls : meaning.faults disk ≤ meaning.faults r.disk
        never_falls = omega (arith, closed, less)

        comes : (cause : Cause) → r.cause ≡ cause → StatEnd (meaning.faults disk) (meaning.faults r.disk) cause → IsRunOn old r →
            IsUseText cause meaning.observable (now (meaning.history r.disk)).reads (text_of text r.opened r.journal.items r.totals) → ComesTo (Some Stat) meaning left left before after disk r text
        comes cause is end on text_is =
            stat_comes r text st (subst (StatEnd (meaning.faults disk) (meaning.faults r.disk)) (sym is) end) (on.opened ∙ opened) (on.journal ∙ empty)
            (run_on r r.cause on still less) never_falls
            (subst (λ (c : Cause). IsUseText c meaning.observable (now (meaning.history r.disk)).reads (text_of text r.opened r.journal.items r.totals)) (sym is) text_is)

        blank : text ≡ Nothing → text_of text r.opened r.journal.items r.totals ≡ []
        blank e = ap (λ (t : Text). text_of t r.opened r.journal.items r.totals) e

        shuts : (cause : Cause) → is_wrong cause ≡ true → r.cause ≡ cause → (meaning.observable ≡ true → ⊥) → IsUnopened r → text ≡ Nothing → ComesTo (Some Stat) meaning left left before after disk r text
        shuts cause wrong is blind shut e = subst (λ (t : Text). ComesTo (Some Stat) meaning left left before after disk r t) (sym e) (shut_comes r cause wrong blind is shut never_falls)

        by_cause : (cause : Cause) → r.cause ≡ cause → IsCounted meaning old r text cause → ComesTo (Some Stat) meaning left left before after disk r text
        by_cause Done is counted = comes Done is (done_stat (meaning.faults disk) (meaning.faults r.disk)) counted.0 (counted_text r text still counted.1)
        by_cause Disk is counted = comes Disk is (failed_stat (meaning.faults disk) (meaning.faults r.disk) (rose_earlier (meaning.faults disk) (meaning.faults old.disk) (meaning.faults r.disk) closed counted.1 less)) counted.0 (blank counted.2)
        by_cause Memory is counted = comes Memory is (memory_stat (meaning.faults disk) (meaning.faults r.disk)) counted.0 (blank counted.1)
        by_cause (Unreadable corruption) is counted = shuts (Unreadable corruption) refl is (never_corrupt corruption counted.1) counted.0 counted.2
        by_cause (WrongIndex name) is counted = shuts (WrongIndex name) refl is (never_wrong name counted.1) counted.0 counted.2
        by_cause cause is counted = absurd counted

  -- whatever closing met
  pub closed_comes : (old r : RunResult D) (text : Text) (st : Standing) → (old.cause ≡ Done) ⊎ (old.cause ≡ Disk) → old.opened ≡ true → old.journal.items ≡ [] →
      IsRunOf usual_file_max meaning.observable (meaning.history disk) (meaning.history old.disk) (meaning.faults disk) (meaning.faults old.disk) old.opening old.totals old.journal.items old.cause st →
      ClosesRun (meaning.faults disk) (meaning.faults old.disk) old.journal.items old.cause → IsCountedIf meaning old r text old.cause →
      (meaning.observable ≡ true → IsUntouched (meaning.history old.disk) (meaning.history r.disk)) → meaning.faults old.disk ≤ meaning.faults r.disk → ComesTo (Some Stat) meaning left left before after disk r text
  closed_comes old r text st (inl well) opened empty run closes counted still less =
      counted_comes old st well opened empty
      (subst (λ (c : Cause). IsRunOf usual_file_max meaning.observable (meaning.history disk) (meaning.history old.disk) (meaning.faults disk) (meaning.faults old.disk) old.opening old.totals old.journal.items c st) well run) closes.never_falls
      r text r.cause refl (subst (IsCountedIf meaning old r text) well counted) still less
  closed_comes old r text st (inr failed) opened empty run closes counted still less =
      let both : (r ≡ old) × (text ≡ Nothing) = subst (IsCountedIf meaning old r text) failed counted in
      subst (λ (x : RunResult D). ComesTo (Some Stat) meaning left left before after disk x text) (sym both.0)
      (stat_comes old text st (subst (StatEnd (meaning.faults disk) (meaning.faults old.disk)) (sym failed) (failed_stat (meaning.faults disk) (meaning.faults old.disk) (closes.failed failed))) opened empty run closes.never_falls
      (subst (λ (c : Cause). IsUseText c meaning.observable (now (meaning.history old.disk)).reads (text_of text old.opened old.journal.items old.totals)) (sym failed)
      (ap (λ (t : Text). text_of t old.opened old.journal.items old.totals) both.1)))
