-- What a check of a log's entries comes to.
use Rattle.std.proofs.Common.{◌≡◌, ℕ, List, ◌++◌, Option, map, unwrap_or, option_map, ap, ap₂, ◌∙◌, append_assoc}
use mathlib.Core.Path.{fun_ext}
use Rattle.record_map.specs.Cells.{IsRising as AreRising}
use Rattle.record_tree.specs.Stored.{Stored, AllStored}
use Rattle.log_replay.specs.Rows.{Rows}
use Rattle.log_trees.specs.Placed.{Placed}
use Rattle.log_meaning.specs.Redo.{Redo, record_at}
use Rattle.log_meaning.specs.Checkpoint.{last_end}
use Rattle.log_meaning.specs.Meaning.{lsn_there, rows_of}
use Rattle.check_laws.specs.declared.database_count.DatabaseCount.{DatabaseCount}
use Rattle.check_laws.specs.declared.finding.Finding.{Finding}
use Rattle.check_laws.specs.declared.finding.Finding.TheVariants.{Wrong}
use Rattle.check_laws.specs.Rest.{rows_left}
use Rattle.check_laws.specs.Check.{counts_left, findings_in, index_findings, record_findings, redo_checked, redo_findings, trees_checked}
use Rattle.recovery_je.specs.Checking.{lsn_of, values_in}
use Rattle.recovery_je.specs.Recovering.{HoldsRedo}
use Rattle.recovery_je.specs.RecordChecks.{wrongs_by, wrongs_stored}
use Rattle.recovery_je.proofs.MeaningLaws.{rows_are, there_lsn}

-- the wrong records of trees that hold a redo are the redo's
wrongs_are : (redo : Redo) (stored : AllStored) → HoldsRedo redo stored → ((d : ℕ) → AreRising (stored d)) → wrongs_stored stored ≡ record_findings redo
wrongs_are redo stored holds up =
    let lsns : lsn_of stored ≡ (λ d x. lsn_there (record_at redo d x)) =
    fun_ext (λ d. fun_ext (λ x. ap (λ (o : Option Stored). unwrap_or (option_map (λ (s : Stored). s.at) o) 0) (holds d x) ∙ there_lsn (record_at redo d x))) in
    ap₂ wrongs_by lsns (rows_are redo stored holds up)

pub counted_all : (files : List ℕ) (es : List Placed) (stored : AllStored) (counts : List DatabaseCount) → HoldsRedo (redo_checked files es) stored → ((d : ℕ) → AreRising (stored d)) → counts ≡ counts_left (rows_left (values_in stored)) →
    counts ≡ counts_left (rows_left (rows_of (redo_checked files es)))
counted_all files es stored counts holds up is = is ∙ ap (λ (rows : Rows). counts_left (rows_left rows)) (rows_are (redo_checked files es) stored holds up)

pub found_all : (files : List ℕ) (es : List Placed) (stored : AllStored) (first mid new : List Finding) → first ≡ map Wrong (trees_checked files es).found ++ redo_findings files (last_end es) → HoldsRedo (redo_checked files es) stored →
    ((d : ℕ) → AreRising (stored d)) → mid ≡ first ++ wrongs_stored stored → new ≡ mid ++ index_findings (rows_left (values_in stored)) → new ≡ findings_in files es
found_all files es stored first mid new first_is holds up mid_is new_is =
    let trees : List Finding = map Wrong (trees_checked files es).found in
    let redo : List Finding = redo_findings files (last_end es) in
    let records : List Finding = record_findings (redo_checked files es) in
    let indexes : List Finding = index_findings (rows_left (rows_of (redo_checked files es))) in
    let rest : new ≡ mid ++ indexes = new_is ∙ ap (λ (rows : Rows). mid ++ index_findings (rows_left rows)) (rows_are (redo_checked files es) stored holds up) in
    let upto : mid ≡ (trees ++ redo) ++ records = mid_is ∙ ap₂ (λ (a b : List Finding). a ++ b) first_is (wrongs_are (redo_checked files es) stored holds up) in
    rest ∙ ap (λ (l : List Finding). l ++ indexes) upto ∙ append_assoc (trees ++ redo) records indexes ∙ append_assoc trees redo (records ++ indexes)
