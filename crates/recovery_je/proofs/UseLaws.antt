-- How much of a log is live, by the trees that were read from it.
use Rattle.std.proofs.Common.{◌≡◌, ℕ, Bool, true, false, List, [], ◌∷◌, Option, None, Some, Result, Ok, Err, map, length, refl, sym, ap, ap₂, subst, ◌∙◌}
use mathlib.Core.Path.{fun_ext}
use Rattle.std.specs.Prelude.{◌&&◌, IsErrAnd, IfErr}
use Rattle.std.specs.List.{AllByRecursion}
use Rattle.je_disk.specs.States.{Files, AreRisingNumbers}
use Rattle.je_lsn.specs.declared.file_no.FileNo.{FileNo}
use Rattle.je_order.specs.declared.name.Name.{Name}
use Rattle.store_model.specs.Store.{record_count}
use Rattle.record_map.specs.Cells.{value_at}
use Rattle.record_tree.specs.Stored.{Stored, AllStored, stored_at}
use Rattle.log_entry.specs.declared.root.Root.{Root}
use Rattle.log_entry.specs.Body.{IsEntry}
use Rattle.log_file.specs.Log.{log_in}
use Rattle.log_replay.specs.declared.last_file.LastFile.{LastFile}
use Rattle.log_replay.specs.Rows.{numbers_of}
use Rattle.log_trees.specs.Placed.{Placed, placed}
use Rattle.log_trees.specs.Changes.{LoggedChange}
use Rattle.log_trees.proofs.Right.{read_trees_are_right}
use Rattle.log_meaning.specs.Redo.{Redo, record_at, redone}
use Rattle.log_meaning.specs.Checkpoint.{last_checkpoint, behind, restarted}
use Rattle.log_meaning.specs.Meaning.{Meaning, rows_of}
use Rattle.log_meaning.specs.Reading.{meaning_in}
use Rattle.file_use.specs.declared.file_use.FileUse.{FileUse}
use Rattle.file_use.specs.declared.log_use.LogUse.{LogUse}
use Rattle.file_use.specs.Live.{is_in_catalog, is_value_at, is_written_at, is_record_from, images_in_use, is_one_of, live_in}
use Rattle.file_use.specs.Use.{use_of_file}
use Rattle.recovery_je.specs.declared.file_len.FileLen.{FileLen}
use Rattle.recovery_je.specs.Finishing.{is_kept}
use Rattle.recovery_je.specs.Recovering.{HasTrees, IsMeant}
use Rattle.recovery_je.specs.declared.recover_err.RecoverErr.{RecoverErr}
use Rattle.recovery_je.specs.Answer.{IsFirstWrong, IsIndexBy, IsReadingOf}
use Rattle.recovery_je.specs.Measuring.{len_of, IsMeasuring}
use Rattle.recovery_je.specs.Using.{AreInUse, is_stored_at, is_stored_from, uses_by, IsUseOf}
use Rattle.recovery_je.proofs.AnswerLaws.{all_read, by_entries}

-- ---- records and images, as the redo has them

stored_as : (lsn at : ℕ) (value : Option (List ℕ)) → is_stored_at lsn (stored_at at value) ≡ is_value_at lsn at value
stored_as lsn at None = refl
stored_as lsn at (Some value) = refl

record_as : (redo : Redo) (has : ℕ → Bool) (stored : AllStored) (d : ℕ) (x : Name) (lsn : ℕ) → HasTrees redo has stored → is_stored_from stored d x lsn ≡ is_record_from redo d x lsn
record_as redo has stored d x lsn trees = by_test (is_kept (numbers_of (rows_of redo)) d) refl
  where
    by_test : (b : Bool) → is_kept (numbers_of (rows_of redo)) d ≡ b → is_stored_from stored d x lsn ≡ (b && is_written_at lsn (record_at redo d x))
    by_test true kept = ap (is_stored_at lsn) (trees.records d x kept) ∙ stored_as lsn (record_at redo d x).at (record_at redo d x).value
    by_test false kept = ap (λ (l : List (Name × Stored)). is_stored_at lsn (value_at x l)) (trees.none d kept)

records_same : (redo : Redo) (has : ℕ → Bool) (stored : AllStored) → HasTrees redo has stored → is_stored_from stored ≡ is_record_from redo
records_same redo has stored trees = fun_ext (λ d. fun_ext (λ x. fun_ext (λ lsn. record_as redo has stored d x lsn trees)))

images_same : (redo : Redo) (has : ℕ → Bool) (stored : AllStored) (es : List Placed) (roots : List Root) (images : List ℕ) → HasTrees redo has stored → AreInUse has es roots images →
    is_one_of images ≡ is_one_of (images_in_use (is_in_catalog redo) es roots)
images_same redo has stored es roots images trees are =
    fun_ext are ∙ ap (λ (kept : ℕ → Bool). is_one_of (images_in_use kept es roots)) (fun_ext trees.trees)

pub uses_same : (redo : Redo) (has : ℕ → Bool) (stored : AllStored) (es : List Placed) (roots : List Root) (images : List ℕ) (lens : List FileLen) (uses : List FileUse) → HasTrees redo has stored →
    AreInUse has es roots images → uses ≡ uses_by (is_stored_from stored) (is_one_of images) es lens →
    uses ≡ uses_by (is_record_from redo) (is_one_of (images_in_use (is_in_catalog redo) es roots)) es lens
uses_same redo has stored es roots images lens uses trees are is =
    is ∙ ap₂ (λ (r : ℕ → Name → ℕ → Bool) (i : ℕ → Bool). uses_by r i es lens) (records_same redo has stored trees) (images_same redo has stored es roots images trees are)

-- ---- files

abbrev use_by : (ℕ → Name → ℕ → Bool) → (ℕ → Bool) → List Placed → ℕ × List ℕ → FileUse
use_by r i es file = record { file = record { 0 = file.0 }; total = length file.1; live = live_in r i es file.0 }

uses_held : (r : ℕ → Name → ℕ → Bool) (i : ℕ → Bool) (es : List Placed) (held : List (ℕ × List ℕ)) → uses_by r i es (map len_of held) ≡ map (use_by r i es) held
uses_held r i es [] = refl
uses_held r i es (h ∷ held) = ap (λ (l : List FileUse). use_by r i es h ∷ l) (uses_held r i es held)

-- ---- the trees of an environment are those of the log read again

pub trees_again : (files : List ℕ) (es : List Placed) (meaning : Meaning) (has : ℕ → Bool) (stored : AllStored) (databases records : ℕ) → AllByRecursion (λ (p : Placed). IsEntry p.1) es →
    IsMeant files es meaning has stored databases records → HasTrees (restarted es) has stored
trees_again files es meaning has stored databases records each meant =
    let c = last_checkpoint es in
    let right = read_trees_are_right files es c.at c.roots meant.walk each meant.walked in
    subst (λ (rows : List LoggedChange). HasTrees (behind rows (redone c.redo es)) has stored) right.rows meant.trees

-- ---- the whole

abbrev as_used : List FileUse → ℕ → ℕ → ℕ → LogUse
as_used uses databases records last_txn = record { files = uses; databases = databases; records = records; last_txn = last_txn }

pub used : (observable : Bool) (reads : Files) (files : List FileNo) (es : List Placed) (tail : Option LastFile) (lens : List FileLen) (meaning : Meaning) (uses : List FileUse) (databases records last_txn : ℕ) →
    AreRisingNumbers files → IsMeasuring observable reads files [] es tail lens → meaning_in (map (λ f. f.0) files) es ≡ Ok meaning → databases ≡ length meaning.store.databases →
    records ≡ record_count meaning.store → last_txn ≡ meaning.last_txn →
    uses ≡ uses_by (is_record_from (restarted es)) (is_one_of (images_in_use (is_in_catalog (restarted es)) es (last_checkpoint es).roots)) es lens →
    IsReadingOf observable reads files (IsUseOf (record { files = uses; databases = databases; records = records; last_txn = last_txn }))
used observable reads files es tail lens meaning uses databases records last_txn rising all means databases_are records_are last_is uses_are =
    let held = all.reading.held in
    let files_are : uses ≡ map (use_of_file (placed (log_in held))) held =
    uses_are
    ∙ ap (uses_by (is_record_from (restarted es)) (is_one_of (images_in_use (is_in_catalog (restarted es)) es (last_checkpoint es).roots)) es) all.lens_are
    ∙ uses_held (is_record_from (restarted es)) (is_one_of (images_in_use (is_in_catalog (restarted es)) es (last_checkpoint es).roots)) es held
    ∙ ap (λ (l : List Placed). map (use_of_file l) held) all.reading.entries_are in
    all_read observable reads files es tail (IsUseOf (as_used uses databases records last_txn)) rising all.reading (
      meaning,
      by_entries observable reads files es tail all.reading ∙ means,
      ap (λ (l : List FileUse). as_used l databases records last_txn) files_are
          ∙ ap₂ (λ (d r : ℕ). as_used (map (use_of_file (placed (log_in held))) held) d r last_txn) databases_are records_are
          ∙ ap (as_used (map (use_of_file (placed (log_in held))) held) (length meaning.store.databases) (record_count meaning.store)) last_is,
    )

-- ---- an index that is wrong

pub index_on : {T : Type 0} (P : List ℕ → Type 0) (r : Result T RecoverErr) (e : RecoverErr) (wrong : Option (List ℕ)) → IsErrAnd r (λ x. x ≡ e) → IsFirstWrong wrong e → ((name : List ℕ) → wrong ≡ Some name → P name) →
    IfErr r (λ x. IsIndexBy x P)
index_on P (Ok v) e wrong is first told = absurd is
index_on P (Err x) e wrong is first told = subst (λ (y : RecoverErr). IsIndexBy y P) (sym (is ∙ first.1)) (told first.0 first.2)
