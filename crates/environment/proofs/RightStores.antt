-- The store that files mean is a right one: its databases stand in order of their names, and their records rise.
use Rattle.std.proofs.Common.{◌≡◌, ℕ, ◌==◌, ◌&&◌, not, true, List, [], ◌∷◌, Ok, Option, None, Some, map, length, refl, ap, sym, ◌∙◌, subst, Less}
use Rattle.std.specs.List.{AllByRecursion}
use Rattle.std.specs.List.Sorted.{IsStrictlySortedBy}
use Rattle.std.specs.Ordering.{on}
use Rattle.std.proofs.lemmas.Bool.{and_parts, eqb-true}
use Rattle.je_order.specs.Order.{bytes_cmp, name_cmp}
use Rattle.je_order.specs.Words.{is_word}
use Rattle.store_model.specs.declared.store.Database.{Database}
use Rattle.store_model.specs.Indexes.{AreIndexed}
use Rattle.store_model.specs.Store.{HasRisingNames, IsStore}
use Rattle.log_file.specs.Log.{log_in}
use Rattle.log_replay.specs.Reading.{corruption_in}
use Rattle.log_replay.specs.Rows.{Row, Rows, IsRising, catalog_number, catalog_kind, is_catalog_row, is_environment, rows_of_row, database_in, store_of}
use Rattle.log_replay.specs.Wrong.{wrong_record}
use Rattle.log_replay.specs.Indexed.{wrong_index}
use Rattle.log_replay.proofs.IndexedLaws.{indexes_are_judged}
use Rattle.log_replay.proofs.PlanViews.{rising_pairs}
use Rattle.log_replay.proofs.RowLaws.{name_cmp-plain, plain_name-key}
use Rattle.log_replay.proofs.StoreLaws.{environment_parts, is_right_under}
use Rattle.log_replay.proofs.WrongLaws.{none_is_environment}
use Rattle.log_trees.specs.Placed.{Placed, placed}
use Rattle.log_trees.specs.Walk.{Walk, read_roots}
use Rattle.log_meaning.specs.Redo.{Redo, redone, record_at}
use Rattle.log_meaning.specs.Checkpoint.{Checkpoint, last_end, last_checkpoint, behind}
use Rattle.log_meaning.specs.Meaning.{Meaning, rows_of, meaning_of, lsn_there, wrong_lsn}
use Rattle.log_meaning.specs.Reading.{redo_corruption, unless, validated_by, validated, meaning_in, reading_of}
use Rattle.log_meaning.proofs.Listing.{listed_in_order}
use Rattle.log_meaning.proofs.Opened.{then_parts, unless_parts, mapped_none}

-- ---- records of an environment

nil_of_length : (l : List ℕ) → length l ≡ 0 → l ≡ []
nil_of_length [] h = refl
nil_of_length (x ∷ l) h = absurd (cc (h))

-- a catalog record has an empty dup
plain_row : (r : Row) → is_catalog_row r ≡ true → r.0.dup ≡ []
plain_row r h =
    let a = and_parts (is_word r.0.key && (length r.0.dup == 0)) (not (catalog_number r.1 == 0)) h in
    nil_of_length r.0.dup (eqb-true (length r.0.dup) 0 (and_parts (is_word r.0.key) (length r.0.dup == 0) a.0).1)

-- so that keys are in order where names are
keys_less : (r s : Row) → r.0.dup ≡ [] → s.0.dup ≡ [] → name_cmp r.0 s.0 ≡ Less → bytes_cmp r.0.key s.0.key ≡ Less
keys_less r s e f h = sym (name_cmp-plain r.0 s.0.key e) ∙ (ap (name_cmp r.0) (sym (plain_name-key s.0 f)) ∙ h)

names_rise : (rows : Rows) (l : List Row) → AllByRecursion (λ r. is_catalog_row r ≡ true) l → IsRising l → IsStrictlySortedBy (on (λ (d : Database). d.name) bytes_cmp) (map (database_in rows) l)
unfolding IsStrictlySortedBy
names_rise rows [] catalog up = tt
names_rise rows (r ∷ l) catalog up = (below l catalog.1 up.0, names_rise rows l catalog.1 up.1)
  where
    below : (m : List Row) → AllByRecursion (λ s. is_catalog_row s ≡ true) m → AllByRecursion (λ s. name_cmp r.0 s.0 ≡ Less) m → AllByRecursion (λ d. bytes_cmp r.0.key d.name ≡ Less) (map (database_in rows) m)
    below [] c h = tt
    below (s ∷ m) c h = (keys_less r s (plain_row r catalog.0) (plain_row s c.0) h.0, below m c.1 h.1)

records_rise : (rows : Rows) → ((d : ℕ) → IsRising (rows d)) → (l : List Row) → AllByRecursion (λ r. is_right_under rows r ≡ true) l → AllByRecursion (λ d. HasRisingNames d.kind d.pairs) (map (database_in rows) l)
records_rise rows up [] right = tt
records_rise rows up (r ∷ l) right = (rising_pairs (catalog_kind r.1) (rows_of_row rows r) right.0 (up (catalog_number r.1)), records_rise rows up l right.1)

store_right : (rows : Rows) → is_environment rows ≡ true → ((d : ℕ) → IsRising (rows d)) → IsStore (store_of rows)
store_right rows is up = let parts = environment_parts rows is in record { names = names_rise rows (rows 0) parts.catalog (up 0); records = records_rise rows up (rows 0) parts.right }

-- ---- files

judged : (es : List Placed) (c : Checkpoint) (walk : Walk) (o : Option ℕ) (meaning : Meaning) → validated_by es c walk o ≡ Ok meaning → (o ≡ None) × (meaning_of es c walk ≡ meaning)
judged es c walk None meaning h = (refl, cc (h))
judged es c walk (Some lsn) meaning h = absurd (cc (h))

-- the records that they mean
record ReadsRows (meaning : Meaning) : Type 0 where
  redo : Redo
  store : store_of (rows_of redo) ≡ meaning.store
  right : is_environment (rows_of redo) ≡ true

reads_rows : (held : List (ℕ × List ℕ)) (meaning : Meaning) → reading_of held ≡ Ok meaning → ReadsRows meaning
reads_rows held meaning h =
    let files : List ℕ = map (λ file. file.0) held in
    let es : List Placed = placed (log_in held) in
    let c : Checkpoint = last_checkpoint es in
    let inner = unless_parts (corruption_in held) (meaning_in files es) meaning h in
    let read = then_parts (read_roots files es c.at c.roots) (λ walk. unless (redo_corruption files (last_end es)) (validated es c walk)) meaning inner.1 in
    let walk : Walk = read.0 in
    let redo : Redo = behind walk.rows (redone c.redo es) in
    let end = unless_parts (redo_corruption files (last_end es)) (validated es c walk) meaning read.2 in
    let judgement = judged es c walk (wrong_lsn (behind walk.rows (redone c.redo es))) meaning end.1 in
    record {
      redo = redo;
      store = ap (λ (m : Meaning). m.store) judgement.1;
      right = none_is_environment (rows_of redo) (mapped_none (λ place. lsn_there (record_at redo place.db place.name)) (wrong_record (rows_of redo)) judgement.0);
    }

pub meaning_right : (held : List (ℕ × List ℕ)) (meaning : Meaning) → reading_of held ≡ Ok meaning → IsStore meaning.store
meaning_right held meaning h = let read = reads_rows held meaning h in subst IsStore read.store (store_right (rows_of read.redo) read.right (λ d. listed_in_order read.redo.done d))

-- and where each index has the pairs of its primary's records, none is wrong
pub none_wrong : (held : List (ℕ × List ℕ)) (meaning : Meaning) → reading_of held ≡ Ok meaning → AreIndexed meaning.store → wrong_index meaning.store ≡ None
none_wrong held meaning h indexed =
    let read = reads_rows held meaning h in
    ap wrong_index (sym read.store) ∙ (indexes_are_judged (rows_of read.redo) read.right (listed_in_order read.redo.done 0)).1 (subst AreIndexed (sym read.store) indexed)
