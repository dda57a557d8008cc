-- What a crash leaves of a log that recovers transactions.
use Rattle.std.proofs.Common.{◌≡◌, ℕ, ◌+◌, ◌/◌, ◌^◌, ◌<◌, ◌≤◌, ◌==◌, nat_le, nat_lt, Bool, true, false, cond, List, [], ◌∷◌, ◌++◌, Option, None, Some, Result, Ok, map, option_map, filter, take, refl, sym, ap, subst, ◌∙◌, arith, ◌⊎◌, inl, inr}
use Rattle.std.proofs.lemmas.Bool.{lt-ltb, le-leb, lt-leb, eqb-true, eq-eqb, cond-true, cond-false, cases_lt}
use Rattle.std.specs.List.{AllByRecursion}
use Rattle.store_model.specs.declared.store.Store.{Store}
use Rattle.store_model.specs.Store.{store_after}
use Rattle.log_file.specs.Log.{log_in}
use Rattle.log_replay.specs.declared.corruption.Corruption.{Corruption}
use Rattle.log_replay.specs.Rows.{is_environment}
use Rattle.log_replay.specs.Reading.{gap_behind, gap_in}
use Rattle.log_replay.proofs.ListLaws.{filter-all}
use Rattle.je_order.proofs.Lists.{all_weaker}
use Rattle.log_replay.proofs.WrongLaws.{environment_is_none}
use Rattle.log_trees.specs.Placed.{Placed, placed}
use Rattle.log_trees.specs.Trees.{rows_of_roots}
use Rattle.log_trees.specs.Walk.{and_then, Walk, nowhere}
use Rattle.log_meaning.specs.Redo.{Redo, record_at}
use Rattle.log_meaning.specs.Checkpoint.{Checkpoint, last_end, last_checkpoint, restarted}
use Rattle.log_meaning.specs.Meaning.{Meaning, rows_of, meaning_of, lsn_there, wrong_lsn}
use Rattle.log_meaning.specs.Reading.{gap_at, gap_from, missing, redo_corruption, unless, validated_by, validated, meaning_in}
use Rattle.log_meaning.specs.Recovery.{Leaves, IsRedoLsn, commits_in, IsFirstFile, ImagesRecover}
use Rattle.log_meaning.proofs.Leaving.{commits_rise, few_commits}

-- ---- no gap

pub gap-front : (n : ℕ) (a b : List ℕ) → gap_behind n (a ++ b) ≡ None → gap_behind n a ≡ None
gap-front n [] b none = refl
gap-front n (m ∷ a) b none = by_case (m == n + 1) none (gap-front m a b)
  where
    by_case : (t : Bool) → cond t (gap_behind m (a ++ b)) (Some (n + 1)) ≡ None → (gap_behind m (a ++ b) ≡ None → gap_behind m a ≡ None) → cond t (gap_behind m a) (Some (n + 1)) ≡ None
    by_case true h rest = rest h
    by_case false h rest = cc

pub no_gap-front : (a b : List ℕ) → gap_in (a ++ b) ≡ None → gap_in a ≡ None
no_gap-front [] b none = refl
no_gap-front (n ∷ a) b none = gap-front n a b none

-- numbers without a gap rise by one
no_gap_parts : (n m : ℕ) (ms : List ℕ) → gap_behind n (m ∷ ms) ≡ None → (m ≡ n + 1) × (gap_behind m ms ≡ None)
no_gap_parts n m ms none = by_case (m == n + 1) refl none
  where
    by_case : (t : Bool) → (m == n + 1) ≡ t → cond t (gap_behind m ms) (Some (n + 1)) ≡ None → (m ≡ n + 1) × (gap_behind m ms ≡ None)
    by_case true is h = (eqb-true m (n + 1) is, h)
    by_case false is h = absurd cc

all_above : (n : ℕ) (ms : List ℕ) → gap_behind n ms ≡ None → AllByRecursion (λ m. n ≤ m) ms
all_above n [] none = tt
all_above n (m ∷ ms) none =
    let parts = no_gap_parts n m ms none in
    let next = parts.0 in
    (omega (arith, next), all_weaker (λ k. m ≤ k) (λ k. n ≤ k) (λ k h. omega (arith, h, next)) ms (all_above m ms parts.1))

-- and have none from a later one on
gap_from-here : (f n : ℕ) (ns : List ℕ) → n ≡ f → gap_behind n ns ≡ None → gap_from f (n ∷ ns) ≡ None
gap_from-here f n ns at none =
    ap (gap_at f) (cond-true (nat_le f n) (n ∷ filter (λ m. nat_le f m) ns) (filter (λ m. nat_le f m) ns) (le-leb f n (omega (arith, at))))
    ∙ cond-true (n == f) (gap_behind f (filter (λ m. nat_le f m) ns)) (Some f) (eq-eqb n f at)
    ∙ ap (gap_behind f) (filter-all (λ m. nat_le f m) ns (all_weaker (λ m. n ≤ m) (λ m. nat_le f m ≡ true) (λ m h. le-leb f m (omega (arith, h, at))) ns (all_above n ns none)))
    ∙ ap (λ (k : ℕ). gap_behind k ns) (sym at) ∙ none

gap_from-less : (f n : ℕ) (ns : List ℕ) → n < f → gap_from f (n ∷ ns) ≡ gap_from f ns
gap_from-less f n ns less = ap (gap_at f) (cond-false (nat_le f n) (n ∷ filter (λ m. nat_le f m) ns) (filter (λ m. nat_le f m) ns) (lt-leb f n less))

pub gap_from-none : (f n : ℕ) (ns : List ℕ) → n ≤ f → gap_behind n ns ≡ None → gap_from f (n ∷ ns) ≡ None
gap_from-none f n [] le none = by_order (cases_lt n f)
  where
    by_order : (n < f) ⊎ (f ≤ n) → gap_from f (n ∷ []) ≡ None
    by_order (inl less) = gap_from-less f n [] less
    by_order (inr ge) = gap_from-here f n [] (omega (arith, le, ge)) refl
gap_from-none f n (m ∷ ms) le none = by_order (cases_lt n f) (gap_from-none f m ms)
  where
    by_order : (n < f) ⊎ (f ≤ n) → (m ≤ f → gap_behind m ms ≡ None → gap_from f (m ∷ ms) ≡ None) → gap_from f (n ∷ m ∷ ms) ≡ None
    by_order (inl less) rest =
        let parts = no_gap_parts n m ms none in
        let next = parts.0 in
        gap_from-less f n (m ∷ ms) less ∙ rest (omega (arith, next, less)) parts.1
    by_order (inr ge) rest = gap_from-here f n (m ∷ ms) (omega (arith, le, ge)) none

-- nothing is wrong with the files from the redo LSN on
pub no_redo_corruption : (first : ℕ) (files : List ℕ) (o : Option Checkpoint) → gap_in files ≡ None → IsFirstFile first files → IsRedoLsn first o → redo_corruption files o ≡ None
no_redo_corruption first files None gap begins is = ap missing gap
no_redo_corruption first [] (Some c) gap begins is = cond-true (nat_lt c.redo c.at) (missing (gap_from (c.redo / 2 ^ 32) [])) (Some (nowhere [] c.redo)) (lt-ltb c.redo c.at is.0)
no_redo_corruption first (n ∷ ns) (Some c) gap begins is =
    let low : n ≤ c.redo / 2 ^ 32 = subst (λ (k : ℕ). k ≤ c.redo / 2 ^ 32) (sym begins) is.1 in
    cond-true (nat_lt c.redo c.at) (missing (gap_from (c.redo / 2 ^ 32) (n ∷ ns))) (Some (nowhere (n ∷ ns) c.redo)) (lt-ltb c.redo c.at is.0)
    ∙ ap missing (gap_from-none (c.redo / 2 ^ 32) n ns low gap)

-- ---- the whole

none_wrong : (redo : Redo) → is_environment (rows_of redo) ≡ true → wrong_lsn redo ≡ None
none_wrong redo environment = ap (option_map (λ place. lsn_there (record_at redo place.db place.name))) (environment_is_none (rows_of redo) environment)

-- files whose entries leave a store mean it
pub reads_leaves : (first : ℕ) (files : List ℕ) (es : List Placed) (store : Store) → redo_corruption files (last_end es) ≡ None → Leaves first es store →
    (meaning : Meaning) × (meaning_in files es ≡ Ok meaning) × (meaning.store ≡ store)
reads_leaves first files es store none leaves =
    let c : Checkpoint = last_checkpoint es in
    let read = leaves.roots files in
    let walk : Walk = record { seen = read.0; rows = rows_of_roots es c.at c.roots } in (
      meaning_of es c walk,
      ap (λ (r : Result Walk Corruption). and_then r (λ w. unless (redo_corruption files (last_end es)) (validated es c w))) read.1
          ∙ ap (λ (o : Option Corruption). unless o (validated es c walk)) none
          ∙ ap (validated_by es c walk) (none_wrong (restarted es) leaves.environment),
      leaves.store_is,
    )

pub first-front : (first : ℕ) (a b : List ℕ) → IsFirstFile first (a ++ b) → IsFirstFile first a
first-front first [] b is = tt
first-front first (n ∷ a) b is = is

pub images_recover : ImagesRecover
images_recover first opening base least transactions log held gap begins is from holds =
    let files : List ℕ = map (λ file. file.0) held in
    let low : least ≤ holds.count = holds.at_least in
    let leaves : Leaves first (placed (log_in held)) (store_after opening (take (commits_in base holds.count (placed log)) transactions)) =
    subst (λ (l : List Placed). Leaves first l (store_after opening (take (commits_in base holds.count (placed log)) transactions))) (sym holds.entries)
    (is.each holds.count (omega (arith, from, low)) holds.within) in
    let read = reads_leaves first files (placed (log_in held)) _
    (no_redo_corruption first files (last_end (placed (log_in held))) (no_gap-front files holds.later (sym (ap gap_in holds.numbers) ∙ gap))
    (first-front first files holds.later (subst (IsFirstFile first) holds.numbers begins)) leaves.redo) leaves in
    record {
      meaning = read.0;
      reads = ap (λ (o : Option Corruption). unless o (meaning_in files (placed (log_in held)))) holds.none ∙ read.1;
      count = commits_in base holds.count (placed log);
      at_least = commits_rise base least holds.count (placed log) from low holds.within;
      within = few_commits first opening base holds.count transactions (placed log) is (omega (arith, from, low)) holds.within;
      store = read.2;
    }
