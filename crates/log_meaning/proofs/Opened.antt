-- Files that are read with no corruption.
use Rattle.std.proofs.Common.{◌≡◌, ℕ, ◌/◌, ◌^◌, ◌<◌, ◌≤◌, ◌==◌, nat_le, nat_lt, Bool, true, false, cond, List, [], ◌∷◌, Option, None, Some, unwrap_or, option_map, Result, Ok, Err, map, filter, refl, sym, ap, subst, ◌∙◌, arith, ◌⊎◌, inl, inr}
use Rattle.std.proofs.lemmas.Bool.{ltb-true, le-leb, ne_eqb, cond-true, cond-false, cases_lt}
use Rattle.std.proofs.lemmas.Option.{none-some, same_Some}
use Rattle.std.specs.List.{AllByRecursion}
use Rattle.log_entry.specs.declared.entry.Entry.{Entry}
use Rattle.log_entry.specs.declared.entry.Entry.TheVariants.{CkptEnd}
use Rattle.log_entry.specs.Body.{IsEntry}
use Rattle.log_entry.specs.Items.{rises, root_before}
use Rattle.log_file.specs.Log.{log_in}
use Rattle.log_replay.specs.declared.corruption.Corruption.{Corruption}
use Rattle.log_replay.specs.declared.corruption.Corruption.TheVariants.{Missing}
use Rattle.log_replay.specs.Rows.{is_environment, store_of}
use Rattle.log_replay.specs.Wrong.{or_else, wrong_record}
use Rattle.log_replay.specs.Reading.{lsn_at, corruption_in, gap_behind}
use Rattle.log_replay.proofs.WrongLaws.{none_is_environment}
use Rattle.log_trees.specs.Placed.{Placed, placed}
use Rattle.log_trees.specs.Changes.{LoggedChange}
use Rattle.log_trees.specs.Walk.{and_then, Walk, nowhere, read_roots}
use Rattle.log_trees.specs.Laws.{AreRight}
use Rattle.log_trees.proofs.Reading.{roots_are_read}
use Rattle.log_trees.proofs.Right.{read_trees_are_right}
use Rattle.log_meaning.specs.Redo.{Redo, redone, record_at}
use Rattle.log_meaning.specs.Checkpoint.{Checkpoint, no_checkpoint, checkpoint_in, last_end, last_checkpoint, behind, restarted}
use Rattle.log_meaning.specs.Meaning.{Meaning, rows_of, meaning_of, lsn_there, wrong_lsn, AreDrawn}
use Rattle.log_meaning.specs.Reading.{gap_at, gap_from, missing, redo_corruption, unless, validated_by, validated, meaning_in}
use Rattle.log_meaning.proofs.Drawn.{are_drawn}
use Rattle.log_meaning.specs.Recovery.{IsRedoLsn, IsOpened, ReadFilesLeave}

-- ---- results

-- a reading that went on to a result
pub then_parts : {A B : Type 0} (r : Result A Corruption) (f : A → Result B Corruption) (y : B) → and_then r f ≡ Ok y → (x : A) × (r ≡ Ok x) × (f x ≡ Ok y)
then_parts (Ok x) f y h = (x, refl, h)
then_parts (Err corruption) f y h = absurd cc

pub unless_parts : {A : Type 0} (o : Option Corruption) (r : Result A Corruption) (y : A) → unless o r ≡ Ok y → (o ≡ None) × (r ≡ Ok y)
unless_parts None r y h = (refl, h)
unless_parts (Some corruption) r y h = absurd cc

judged_parts : (es : List Placed) (c : Checkpoint) (walk : Walk) (o : Option ℕ) (meaning : Meaning) → validated_by es c walk o ≡ Ok meaning → (o ≡ None) × (meaning_of es c walk ≡ meaning)
judged_parts es c walk None meaning h = (refl, cc)
judged_parts es c walk (Some lsn) meaning h = absurd cc

pub mapped_none : {A B : Type 0} (f : A → B) (o : Option A) → option_map f o ≡ None → o ≡ None
mapped_none f None h = refl
mapped_none f (Some x) h = absurd cc

right_records : (redo : Redo) → wrong_lsn redo ≡ None → is_environment (rows_of redo) ≡ true
right_records redo none = none_is_environment (rows_of redo) (mapped_none (λ place. lsn_there (record_at redo place.db place.name)) (wrong_record (rows_of redo)) none)

-- ---- the last checkpoint

roots_of_entry : (at : ℕ) (entry : Entry) (c : Checkpoint) → IsEntry entry → checkpoint_in at entry ≡ Some c → rises root_before c.roots ≡ true
roots_of_entry at (CkptEnd number start redo last_txn last_node last_db summary roots) c is h =
    let made : Checkpoint = record { at = at; number = number; redo = redo; last_txn = last_txn.0; last_node = last_node; last_db = last_db; roots = roots } in
    subst (λ (k : Checkpoint). rises root_before k.roots ≡ true) (same_Some made c h) is.7.rise
roots_of_entry at entry c is h = absurd (none-some c h)

end_rises : (es : List Placed) (c : Checkpoint) → AllByRecursion (λ p. IsEntry p.1) es → last_end es ≡ Some c → rises root_before c.roots ≡ true
end_rises [] c all h = absurd (none-some c h)
end_rises (p ∷ es) c all h = by_end (last_end es) refl h (end_rises es c all.1)
  where
    by_end : (o : Option Checkpoint) → last_end es ≡ o → or_else o (checkpoint_in p.0 p.1) ≡ Some c → (last_end es ≡ Some c → rises root_before c.roots ≡ true) → rises root_before c.roots ≡ true
    by_end None made k rest = roots_of_entry p.0 p.1 c all.0 k
    by_end (Some e) made k rest = rest (made ∙ k)

pub roots_rise : (es : List Placed) → AllByRecursion (λ p. IsEntry p.1) es → rises root_before (last_checkpoint es).roots ≡ true
roots_rise es all = by_end (last_end es) refl
  where
    by_end : (o : Option Checkpoint) → last_end es ≡ o → rises root_before (unwrap_or o no_checkpoint).roots ≡ true
    by_end None made = refl
    by_end (Some c) made = end_rises es c all made

-- a redo LSN with no corruption lies in a file that is there
first_below : (f first : ℕ) (later : List ℕ) → gap_from f (first ∷ later) ≡ None → first ≤ f
first_below f first later none = by_order (cases_lt f first)
  where
    by_order : (f < first) ⊎ (first ≤ f) → first ≤ f
    by_order (inl less) =
        let kept : gap_from f (first ∷ later) ≡ gap_at f (first ∷ filter (λ n. nat_le f n) later) =
        ap (gap_at f) (cond-true (nat_le f first) (first ∷ filter (λ n. nat_le f n) later) (filter (λ n. nat_le f n) later) (le-leb f first (omega (arith, less)))) in
        let other : (first == f) ≡ false = ne_eqb first f (λ e. omega (arith, e, less)) in
        let found : gap_from f (first ∷ later) ≡ Some f = kept ∙ cond-false (first == f) (gap_behind f (filter (λ n. nat_le f n) later)) (Some f) other in
        absurd (none-some f (sym none ∙ found))
    by_order (inr le) = le

redo_is : (first : ℕ) (later : List ℕ) (o : Option Checkpoint) → redo_corruption (first ∷ later) o ≡ None → IsRedoLsn first o
redo_is first later None none = tt
redo_is first later (Some c) none = by_test (nat_lt c.redo c.at) refl none
  where
    by_test : (b : Bool) → nat_lt c.redo c.at ≡ b → cond b (missing (gap_from (c.redo / 2 ^ 32) (first ∷ later))) (Some (nowhere (first ∷ later) c.redo)) ≡ None →
        (c.redo < c.at) × (first ≤ c.redo / 2 ^ 32)
    by_test true is h = (ltb-true c.redo c.at is, first_below (c.redo / 2 ^ 32) first later (mapped_none (λ (n : ℕ). Missing (lsn_at n 0)) (gap_from (c.redo / 2 ^ 32) (first ∷ later)) h))
    by_test false is h = absurd cc

-- ---- the whole

opened : (first : ℕ) (later : List ℕ) (es : List Placed) (meaning : Meaning) → AllByRecursion (λ p. IsEntry p.1) es → meaning_in (first ∷ later) es ≡ Ok meaning → IsOpened first es meaning
opened first later es meaning entries h =
    let files : List ℕ = first ∷ later in
    let c : Checkpoint = last_checkpoint es in
    let read = then_parts (read_roots files es c.at c.roots) (λ walk. unless (redo_corruption files (last_end es)) (validated es c walk)) meaning h in
    let walk : Walk = read.0 in
    let right : AreRight es c.at c.roots walk = read_trees_are_right files es c.at c.roots walk entries read.1 in
    let redo = unless_parts (redo_corruption files (last_end es)) (validated es c walk) meaning read.2 in
    let judgement = judged_parts es c walk (wrong_lsn (behind walk.rows (redone c.redo es))) meaning redo.1 in
    let same : behind walk.rows (redone c.redo es) ≡ restarted es = ap (λ (l : List LoggedChange). behind l (redone c.redo es)) right.rows in
    record {
      leaves = record {
        roots = λ others. roots_are_read others es right.home c.at c.roots (roots_rise es entries) right.right;
        redo = redo_is first later (last_end es) redo.0;
        environment = right_records (restarted es) (sym (ap wrong_lsn same) ∙ judgement.0);
        store_is = sym (ap (λ (r : Redo). store_of (rows_of r)) same) ∙ ap (λ (m : Meaning). m.store) judgement.1;
      };
      last_job = subst (AreDrawn es) judgement.1 (are_drawn es walk right.rows);
      home = right.home;
      right = right.right;
    }

pub read_files_leave : ReadFilesLeave
read_files_leave first later held meaning files entries h =
    let inner = unless_parts (corruption_in held) (meaning_in (map (λ file. file.0) held) (placed (log_in held))) meaning h in
    opened first later (placed (log_in held)) meaning entries (ap (λ (l : List ℕ). meaning_in l (placed (log_in held))) (sym files) ∙ inner.1)
