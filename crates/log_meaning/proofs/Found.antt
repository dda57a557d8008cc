-- A log that was found, and what an environment begins with that opens it.
use Rattle.std.proofs.Common.{◌≡◌, ℕ, ◌/◌, ◌^◌, ◌<◌, ◌≤◌, nat_lt, Bool, true, false, cond, List, [], ◌∷◌, Option, None, Some, Ok, unwrap_or, map, refl, ap, subst, ◌∙◌, arith}
use Rattle.std.proofs.lemmas.Bool.{ltb-true}
use Rattle.std.specs.List.{AllByRecursion}
use Rattle.log_file.specs.Log.{log_in}
use Rattle.log_replay.specs.declared.corruption.Corruption.TheVariants.{Missing}
use Rattle.log_replay.specs.Rows.{numbers_of}
use Rattle.log_replay.specs.Reading.{lsn_at, corruption_in, gap_in}
use Rattle.log_trees.specs.Placed.{Placed, placed}
use Rattle.log_trees.specs.Sound.{least_name}
use Rattle.log_trees.specs.Walk.{nowhere, read_roots}
use Rattle.log_meaning.specs.Redo.{record_at}
use Rattle.log_meaning.specs.Checkpoint.{Checkpoint, no_checkpoint, last_end, last_checkpoint, restarted}
use Rattle.log_meaning.specs.Meaning.{Meaning, rows_of, meaning_of}
use Rattle.log_meaning.specs.Reading.{gap_from, missing, redo_corruption, unless, validated, meaning_in, reading_of}
use Rattle.log_meaning.specs.Recovery.{IsRedoLsn}
use Rattle.log_meaning.specs.Found.{HasFilesFrom, first_needed, IsFound, ReadFilesAreFound, OpenedIsBegun}
use Rattle.log_meaning.proofs.Leaving.{recovers_first}
use Rattle.log_meaning.proofs.Listing.{listed_by_name, listed_in_order}
use Rattle.log_meaning.proofs.Opened.{then_parts, unless_parts, mapped_none, read_files_leave}
use Rattle.log_meaning.proofs.Standing.{stands_open, end_below}

-- ---- files

no_missing : (o : Option ℕ) → missing o ≡ None → o ≡ None
no_missing o none = mapped_none (λ (n : ℕ). Missing (lsn_at n 0)) o none

files_of : (next : ℕ) (o : Option Checkpoint) (numbers : List ℕ) → redo_corruption numbers o ≡ None → HasFilesFrom (first_needed next o numbers) o numbers
files_of next None [] none = (tt, refl)
files_of next None (n ∷ numbers) none = (refl, no_missing (gap_in (n ∷ numbers)) none)
files_of next (Some c) numbers none = by_test (nat_lt c.redo c.at) none
  where
    by_test : (b : Bool) → cond b (missing (gap_from (c.redo / 2 ^ 32) numbers)) (Some (nowhere numbers c.redo)) ≡ None → gap_from (c.redo / 2 ^ 32) numbers ≡ None
    by_test true h = no_missing (gap_from (c.redo / 2 ^ 32) numbers) h
    by_test false h = absurd cc

redo_of : (next n : ℕ) (o : Option Checkpoint) (numbers : List ℕ) → IsRedoLsn n o → IsRedoLsn (first_needed next o numbers) o
redo_of next n None numbers is = tt
redo_of next n (Some c) numbers is = (is.0, omega arith)

-- no files
same_ok : (m n : Meaning) → reading_of [] ≡ Ok n → m ≡ meaning_of [] no_checkpoint (record { seen = []; rows = [] }) → m ≡ n
same_ok m n h is = let read : Ok m ≡ Ok n = ap (λ (x : Meaning). Ok x) is ∙ h in cc

pub read_files_are_found : ReadFilesAreFound
read_files_are_found next [] meaning entries h =
    let empty : Meaning = meaning_of [] no_checkpoint (record { seen = []; rows = [] }) in
    subst (IsFound next [] []) (same_ok empty meaning h refl) (record {
      files = (tt, refl);
      opened = record {
        leaves = record { roots = λ files. ([], refl); redo = tt; environment = refl; store_is = refl };
        last_job = record { txns = λ t lt. refl; databases = λ d x lt. refl; named = λ x. tt };
        home = λ n. record { db = 0; above = 0; low = least_name };
        right = tt;
      };
    })
read_files_are_found next (file ∷ files) meaning entries h =
    let held : List (ℕ × List ℕ) = file ∷ files in
    let numbers : List ℕ = file.0 ∷ map (λ (f : ℕ × List ℕ). f.0) files in
    let es : List Placed = placed (log_in held) in
    let c : Checkpoint = last_checkpoint es in
    let was = read_files_leave file.0 (map (λ (f : ℕ × List ℕ). f.0) files) held meaning refl entries h in
    let inner = unless_parts (corruption_in held) (meaning_in numbers es) meaning h in
    let read = then_parts (read_roots numbers es c.at c.roots) (λ walk. unless (redo_corruption numbers (last_end es)) (validated es c walk)) meaning inner.1 in
    let redo = unless_parts (redo_corruption numbers (last_end es)) (validated es c read.0) meaning read.2 in
    record {
      files = files_of next (last_end es) numbers redo.0;
      opened = record {
        leaves = record {
          roots = was.leaves.roots;
          redo = redo_of next file.0 (last_end es) numbers was.leaves.redo;
          environment = was.leaves.environment;
          store_is = was.leaves.store_is;
        };
        last_job = was.last_job;
        home = was.home;
        right = was.right;
      };
    }

-- ---- an environment that begins

redo_below : (first : ℕ) (es : List Placed) (base : ℕ) → AllByRecursion (λ p. p.0 < base) es → IsRedoLsn first (last_end es) → (last_checkpoint es).redo ≤ base
redo_below first es base below is = by_end (last_end es) refl is
  where
    by_end : (o : Option Checkpoint) → last_end es ≡ o → IsRedoLsn first o → (unwrap_or o no_checkpoint).redo ≤ base
    by_end None made redo = omega arith
    by_end (Some c) made redo = let low : c.at < base = end_below es base c below made in omega (arith, low, redo.0)

all_open : (ns : List ℕ) → AllByRecursion (λ n. true ≡ true) ns
all_open [] = tt
all_open (n ∷ ns) = (refl, all_open ns)

pub opened_is_begun : OpenedIsBegun
opened_is_begun first es base meaning opened some below = record {
  stands = stands_open es base (λ d. true) (λ d x. (record_at (restarted es) d x).value) (λ t. nat_lt meaning.last_txn t) some below (redo_below first es base below opened.leaves.redo) (λ d x open_. refl)
      (λ t live. opened.last_job.txns t (ltb-true meaning.last_txn t live));
  listed = record {
    rising = λ d. listed_in_order (restarted es).done d;
    data_is = λ d x open_. listed_by_name (restarted es).done d x;
    catalog = refl;
    named = all_open (numbers_of (rows_of (restarted es)));
    environment = opened.leaves.environment;
  };
  store = opened.leaves.store_is;
  recovers = recovers_first first meaning.store es opened.leaves;
}
