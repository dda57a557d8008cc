-- What a check of the files comes to.
use Rattle.std.proofs.Common.{◌≡◌, ◌≤◌, ◌∙◌, ℕ, Bool, true, false, true≢false, List, [], ◌∷◌, Option, Some, refl, ap, sym, subst}
use Rattle.je_disk.specs.DiskMeaning.{DiskMeaning}
use Rattle.je_disk.specs.Moments.{now}
use Rattle.je_disk.specs.States.{Files}
use Rattle.store_model.specs.declared.event.Event.{Event}
use Rattle.store_model.specs.declared.totals.Totals.{Totals}
use Rattle.store_model.specs.Store.{no_databases}
use Rattle.log_printer.specs.Reading.{HasNoFile}
use Rattle.check_laws.specs.declared.checked.Checked.{Checked}
use Rattle.check_laws.specs.declared.finding.Finding.{Finding}
use Rattle.check_printer.specs.CheckText.{check_text}
use Rattle.engine.specs.Untouched.{IsUntouched}
use Rattle.engine.proofs.EntryLaws.{entry_still}
use Rattle.command_line.specs.declared.command.Command.TheVariants.{Verify}
use Rattle.je_program.specs.declared.cause.Cause.{Cause}
use Rattle.je_program.specs.declared.cause.Cause.TheVariants.{Done, Usage, BadScript, BadDump, Disk, Unreadable, WrongIndex, Memory, Findings, NoEnvironment, NoDatabase, Input, InputTooLong, IdsEnded}
use Rattle.je_program.specs.declared.run_result.RunResult.{RunResult}
use Rattle.je_program.specs.declared.text.Text.{Text}
use Rattle.je_program.specs.declared.text.Text.TheVariants.{Check}
use Rattle.je_program.specs.Commands.{IsCheckText, ends_check, text_of}
use Rattle.je_program.specs.Program.{IsStopped, is_before_disk}
use Rattle.je_program.specs.Unprinted.{ComesTo, needs_file}
use Rattle.je_program.specs.Verifying.{IsVerified, IsWholeCheck, cause_of_check}
use Rattle.je_program.proofs.CommandLaws.{unrun}
use Rattle.je_program.proofs.EndLaws.{damage_has_files}
use Rattle.je_program.proofs.UntouchedLaws.{left_alone}

check_stopped : (left : Option (List ℕ)) (before after : ℕ) (cause : Cause) → ends_check cause ≡ true → IsStopped left before after cause
check_stopped left before after Input may = cc
check_stopped left before after InputTooLong may = cc
check_stopped left before after (BadScript line) may = cc
check_stopped left before after (BadDump line) may = cc
check_stopped left before after cause may = tt

check_after : (cause : Cause) → ends_check cause ≡ true → is_before_disk cause ≡ false
check_after Usage may = absurd (true≢false (sym may))
check_after Input may = absurd (true≢false (sym may))
check_after InputTooLong may = absurd (true≢false (sym may))
check_after (BadScript line) may = absurd (true≢false (sym may))
check_after (BadDump line) may = absurd (true≢false (sym may))
check_after cause may = refl

-- a check that ends well has no findings, and one that ends with findings has some
no_findings : (findings : List Finding) → cause_of_check findings ≡ Done → findings ≡ []
no_findings [] is = refl
no_findings (finding ∷ findings) is = cc

some_findings : (findings : List Finding) → cause_of_check findings ≡ Findings → findings ≡ [] → ⊥
some_findings [] is none = cc
some_findings (finding ∷ findings) is none = cc

check_text_is : (observable : Bool) (files : Files) (before after : ℕ) (cause : Cause) (text : Text) (opened : Bool) (journal : List Event) (totals : Totals) → ends_check cause ≡ true →
    IsVerified observable files before after cause text → IsCheckText cause observable files (text_of text opened journal totals)
check_text_is observable files before after Done (Check checked) opened journal totals may is =
    let made = is.0 in
    (record { held = made.held; are = made.are; none = made.none; text_is = ap check_text made.is }, ap (λ (c : Checked). c.findings) (sym made.is) ∙ no_findings checked.findings is.1)
check_text_is observable files before after Done text opened journal totals may is = absurd is
check_text_is observable files before after Findings (Check checked) opened journal totals may is =
    let made = is.0 in
    (record { held = made.held; are = made.are; none = made.none; text_is = ap check_text made.is }, λ none. some_findings checked.findings is.1 (ap (λ (c : Checked). c.findings) made.is ∙ none))
check_text_is observable files before after Findings text opened journal totals may is = absurd is
check_text_is observable files before after Disk text opened journal totals may is = ap (λ (t : Text). text_of t opened journal totals) is.1
check_text_is observable files before after Memory text opened journal totals may is = ap (λ (t : Text). text_of t opened journal totals) is
check_text_is observable files before after NoEnvironment text opened journal totals may is = ap (λ (t : Text). text_of t opened journal totals) is.1
check_text_is observable files before after (Unreadable corruption) text opened journal totals may is = ap (λ (t : Text). text_of t opened journal totals) is.1
check_text_is observable files before after cause text opened journal totals may is = absurd is

-- a file was there
whole_file : (observable : Bool) (files : Files) (cause : Cause) (text : Text) → IsWholeCheck observable files cause text → observable ≡ true → HasNoFile files → ⊥
whole_file observable files cause (Check checked) whole observed none = whole.0.some observed none
whole_file observable files cause text whole observed none = whole

check_file : (observable : Bool) (files : Files) (before after : ℕ) (cause : Cause) (text : Text) → ends_check cause ≡ true → IsVerified observable files before after cause text → needs_file cause ≡ true → observable ≡ true →
    HasNoFile files → ⊥
check_file observable files before after Done text may is needs observed none = whole_file observable files Done text is observed none
check_file observable files before after Findings text may is needs observed none = whole_file observable files Findings text is observed none
check_file observable files before after (Unreadable corruption) text may is needs observed none =
    damage_has_files files corruption (record { held = is.0.held; are = is.0.are observed; found = is.0.found }) none
check_file observable files before after (WrongIndex name) text may is needs observed none = is
check_file observable files before after NoDatabase text may is needs observed none = is
check_file observable files before after IdsEnded text may is needs observed none = is
check_file observable files before after cause text may is needs observed none = cc

module _ {D : Type 0} (meaning : DiskMeaning D) where
  pub verify_comes : (left : Option (List ℕ)) (before after : ℕ) (disk : D) (r : RunResult D) (text : Text) → before ≤ after → ends_check r.cause ≡ true →
      IsVerified meaning.observable (now (meaning.history disk)).reads (meaning.faults disk) (meaning.faults r.disk) r.cause text → r.opened ≡ false → r.journal.items ≡ [] → r.opening ≡ no_databases →
      (meaning.observable ≡ true → IsUntouched (meaning.history disk) (meaning.history r.disk)) → meaning.faults disk ≤ meaning.faults r.disk →
      ComesTo (Some Verify) meaning left left before after disk r text
  verify_comes left before after disk r text later may verified shut no_journal nothing untouched never_falls =
      let files = (now (meaning.history disk)).reads in
      let at : (cause : Cause) → r.cause ≡ cause → IsVerified meaning.observable files (meaning.faults disk) (meaning.faults r.disk) cause text = λ cause e. subst (λ (c : Cause). IsVerified meaning.observable files (meaning.faults disk) (meaning.faults r.disk) c text) e verified in
      let other : (cause : Cause) → r.cause ≡ cause → ends_check cause ≡ true = λ cause e. subst (λ (c : Cause). ends_check c ≡ true) e may in
      record {
        may = may;
        stopped = check_stopped left before after r.cause may;
        read = λ after_input other_. refl;
        given = λ opened. absurd (true≢false (sym opened ∙ shut));
        untouched = λ before_disk. absurd (true≢false (sym before_disk ∙ check_after r.cause may));
        runs = shut;
        run = λ opened. absurd (true≢false (sym opened ∙ shut));
        unopened = λ none_opened. (nothing, no_journal);
        unreadable = λ corruption e observed. (let damage = (at (Unreadable corruption) e).0 in record { held = damage.held; are = damage.are observed; found = damage.found });
        sound = λ command_is. cc;
        wrong_index = λ name e. absurd (true≢false (sym (other (WrongIndex name) e)));
        ids_ended = λ e. absurd (true≢false (sym (other IdsEnded e)));
        no_environment = λ e. (at NoEnvironment e).0;
        some_file = λ needs file observed none. check_file meaning.observable files (meaning.faults disk) (meaning.faults r.disk) r.cause text may verified file observed none;
        no_database = λ e. absurd (true≢false (sym (other NoDatabase e)));
        has_database = λ e. tt;
        placed = λ opened. tt;
        ends = λ opened. absurd (true≢false (sym opened ∙ shut));
        caused = unrun (meaning.faults disk) (meaning.faults r.disk) r.journal.items r.cause never_falls no_journal (λ e. (at Disk e).0);
        left_alone = λ observed. left_alone r.cause (meaning.history disk) (meaning.history r.disk) (untouched observed);
        reads_only = λ closed. untouched;
        crash_unopened = λ observed none_opened. (let u = untouched observed in entry_still (meaning.history disk) (meaning.history r.disk) u.moments u.same);
        text_is = check_text_is meaning.observable files (meaning.faults disk) (meaning.faults r.disk) r.cause text r.opened r.journal.items r.totals may verified;
        source = later;
      }
