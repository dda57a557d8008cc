-- What a check of a log's files answers.
use Rattle.std.proofs.Common.{◌≡◌, ℕ, Bool, List, [], ◌∷◌, Option, None, Some, map, refl, sym, ap, ap₂, subst, ◌∙◌}
use Rattle.std.proofs.lemmas.List.{append-nil}
use Rattle.je_disk.specs.States.{Files, AreRisingNumbers}
use Rattle.je_lsn.specs.declared.file_no.FileNo.{FileNo}
use Rattle.log_replay.specs.declared.corruption.Corruption.{Corruption}
use Rattle.log_replay.specs.declared.last_file.LastFile.{LastFile}
use Rattle.log_replay.specs.Reading.{corruption_in}
use Rattle.log_replay.specs.UnderWay.{AreOf, HaveCorruption}
use Rattle.log_replay.proofs.ListedLaws.{same_files, listed}
use Rattle.log_trees.specs.Placed.{Placed}
use Rattle.log_meaning.specs.Meaning.{rows_of}
use Rattle.check_laws.specs.declared.checked.Checked.{Checked}
use Rattle.check_laws.specs.declared.database_count.DatabaseCount.{DatabaseCount}
use Rattle.check_laws.specs.declared.file_run.FileRun.{FileRun}
use Rattle.check_laws.specs.declared.finding.Finding.{Finding}
use Rattle.check_laws.specs.Rest.{rows_left}
use Rattle.check_laws.specs.Check.{check_of, counts_left, file_run, findings_in, redo_checked}
use Rattle.recovery_je.specs.declared.file_len.FileLen.{FileLen}
use Rattle.recovery_je.specs.Answer.{IsReadingOf}
use Rattle.recovery_je.specs.Checks.{run_by_len}
use Rattle.recovery_je.specs.Measuring.{IsMeasuring, len_of}
use Rattle.recovery_je.proofs.AnswerLaws.{all_read}

-- the first of the files that cannot be read
pub stopped_at : (observable : Bool) (reads : Files) (files : List FileNo) (corruption : Corruption) → AreRisingNumbers files → HaveCorruption observable reads files corruption →
    IsReadingOf observable reads files (λ held. corruption_in held ≡ Some corruption)
stopped_at observable reads files corruption rising have = record {
  held = have.held;
  numbers = have.are_of.numbers;
  observed = λ t. same_files reads files have.held have.are_of.numbers (have.are_of.observed t);
  listed = λ t listing. listed reads files have.held have.are_of.numbers (have.are_of.observed t) rising listing;
  is = have.found;
}

runs_are : (held : List (ℕ × List ℕ)) → map run_by_len (map len_of held) ≡ map file_run held
runs_are [] = refl
runs_are (file ∷ held) = ap (λ (l : List FileRun). file_run file ∷ l) (runs_are held)

-- a check of files that can each be read
pub checked_all : (observable : Bool) (reads : Files) (files : List FileNo) (es : List Placed) (tail : Option LastFile) (lens : List FileLen) (databases : List DatabaseCount) (findings : List Finding) (checked : Checked) → AreRisingNumbers files →
    IsMeasuring observable reads files [] es tail lens → findings ≡ findings_in (map (λ f. f.0) files) es → databases ≡ counts_left (rows_left (rows_of (redo_checked (map (λ f. f.0) files) es))) →
    checked ≡ record { files = map run_by_len lens; databases = databases; findings = findings } → IsReadingOf observable reads files (λ held. (corruption_in held ≡ None) × (checked ≡ check_of held))
checked_all observable reads files es tail lens databases findings checked rising measured findings_are databases_are is =
    let all = measured.reading in
    let held = all.held in
    let are_of : AreOf observable reads files held = subst (λ (l : List FileNo). AreOf observable reads l held) (sym (all.parts ∙ append-nil all.done)) all.are_of in
    let none : corruption_in held ≡ None = ap corruption_in (sym (append-nil held)) ∙ all.none [] refl in
    let runs : map run_by_len lens ≡ map file_run held = ap (map run_by_len) measured.lens_are ∙ runs_are held in
    let counts : databases ≡ (check_of held).databases =
    databases_are ∙ ap₂ (λ (l : List ℕ) (e : List Placed). counts_left (rows_left (rows_of (redo_checked l e)))) (sym are_of.numbers) all.entries_are in
    let found : findings ≡ (check_of held).findings = findings_are ∙ ap₂ findings_in (sym are_of.numbers) all.entries_are in
    let of : List FileRun → List DatabaseCount → List Finding → Checked = λ r d f. record { files = r; databases = d; findings = f } in
    all_read observable reads files es tail (λ h. (corruption_in h ≡ None) × (checked ≡ check_of h)) rising all
    (none, is ∙ ap₂ (λ r d. of r d findings) runs counts ∙ ap (of (map file_run held) (check_of held).databases) found)
