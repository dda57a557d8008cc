-- What opening reads in what a crash left of a log.
use Rattle.std.proofs.Common.{◌≡◌, ℕ, ◌<◌, ◌≤◌, ◌==◌, nat_lt, Bool, true, false, cond, List, [], ◌∷◌, ◌++◌, Option, Some, None, map, take, length, refl, sym, ap, subst, ◌∙◌, arith, nat_cmp}
use Rattle.std.specs.declared.cmp.Ordering.TheVariants.{Less}
use Rattle.std.proofs.lemmas.Bool.Decides.{nat_tests}
use Rattle.std.proofs.lemmas.Bool.{eqb-true}
use Rattle.std.proofs.lemmas.List.{take_at, length-append, length-map}
use Rattle.std.proofs.lemmas.Map.Keys.{sorted_from_strictly_increasing, IsStrictlyIncreasing-from_sorted}
use Rattle.std.specs.List.{AllByRecursion}
use Rattle.std.specs.List.Sorted.{IsStrictlySortedBy, IsStrictlyIncreasing}
use Rattle.std.specs.Map.{lookup}
use Rattle.je_disk.specs.States.{Files}
use Rattle.je_lsn.specs.Naming.{last_file}
use Rattle.log_entry.specs.declared.entry.Entry.{Entry}
use Rattle.log_file.specs.declared.valid_prefix.ValidPrefix.{ValidPrefix}
use Rattle.log_file.specs.declared.file_scan.FileScan.TheVariants.{Prefix}
use Rattle.log_file.specs.Scan.{scan_of}
use Rattle.log_file.specs.Log.{Log, AreFiles, entries_of, log_in}
use Rattle.log_file.proofs.FilesLaws.{AreAbove, Rises}
use Rattle.log_buffer.specs.Chance.{AreFirst, AreWholeButLast, IsRemoved, LeavesLog, among, if_logged}
use Rattle.log_buffer.specs.Written.{HoldsWritten}
use Rattle.log_buffer.proofs.WrittenLaws.{written_are_first}
use Rattle.log_replay.specs.declared.corruption.Corruption.{Corruption}
use Rattle.log_replay.specs.declared.corruption.Corruption.TheVariants.{Damaged}
use Rattle.log_replay.specs.Wrong.{or_else}
use Rattle.log_replay.specs.Reading.{lsn_at, corruption_at, corruption_behind, corruption_in}
use Rattle.log_replay.proofs.ListLaws.{all_parts, all_of_map, all_to_map}
use Rattle.log_file.proofs.PlacedLaws.{placed_are_entries}
use Rattle.log_trees.specs.Placed.{Placed, placed}
use Rattle.log_meaning.specs.Recovery.{HoldsFirst}
use Rattle.crash_recovery.specs.Reading.{IsNamedLog}
use Rattle.crash_recovery.specs.Laws.{ImagesHoldFirst}

-- ---- the files of an image

-- a file before others, if it is there
abbrev with_file : ℕ → Option (List ℕ) → List (ℕ × List ℕ) → List (ℕ × List ℕ)
with_file f None held = held
with_file f (Some bytes) held = (f, bytes) ∷ held

-- those of a log's files that are there
abbrev held_of : Log → Files → List (ℕ × List ℕ)
held_of [] image = []
held_of (file ∷ log) image = with_file file.0 (image file.0) (held_of log image)

above_from : {X : Type 0} (n : ℕ) (held : List (ℕ × X)) → AllByRecursion (λ m. nat_cmp n m ≡ Less) (map (λ e. e.0) held) → AreAbove n held
above_from n [] all = tt
above_from n (e ∷ held) all = (grind (arith, nat_tests, all.0), above_from n held all.1)

rises_from : {X : Type 0} (held : List (ℕ × X)) → IsStrictlySortedBy nat_cmp (map (λ e. e.0) held) → Rises held
unfolding IsStrictlySortedBy
rises_from [] sorted = tt
rises_from (e ∷ held) sorted = (above_from e.0 held sorted.0, rises_from held sorted.1)

less_than : {X : Type 0} (n : ℕ) (held : List (ℕ × X)) → AreAbove n held → AllByRecursion (λ m. nat_cmp n m ≡ Less) (map (λ e. e.0) held)
less_than n [] all = tt
less_than n (e ∷ held) all = (grind (arith, nat_tests, all.0), less_than n held all.1)

sorted_from : {X : Type 0} (held : List (ℕ × X)) → Rises held → IsStrictlySortedBy nat_cmp (map (λ e. e.0) held)
unfolding IsStrictlySortedBy
sorted_from [] rises = tt
sorted_from (e ∷ held) rises = (less_than e.0 held rises.0, sorted_from held rises.1)

above-held : (n : ℕ) (log : Log) (image : Files) → AreAbove n log → AreAbove n (held_of log image)
above-held n [] image above = tt
above-held n (file ∷ log) image above = by_file (image file.0) (above-held n log image above.1)
  where
    by_file : (there : Option (List ℕ)) → AreAbove n (held_of log image) → AreAbove n (with_file file.0 there (held_of log image))
    by_file None rest = rest
    by_file (Some bytes) rest = (above.0, rest)

rises-held : (log : Log) (image : Files) → Rises log → Rises (held_of log image)
rises-held [] image rises = tt
rises-held (file ∷ log) image rises = by_file (image file.0) (rises-held log image rises.1)
  where
    by_file : (there : Option (List ℕ)) → Rises (held_of log image) → Rises (with_file file.0 there (held_of log image))
    by_file None rest = rest
    by_file (Some bytes) rest = (above-held file.0 log image rises.0, rest)

none_below : {X : Type 0} (n m : ℕ) (held : List (ℕ × X)) → m ≤ n → AreAbove n held → lookup (λ k. k == m) held ≡ None
none_below n m [] le above = refl
none_below n m (e ∷ held) le above =
    let other : (e.0 == m) ≡ false = grind (arith, nat_tests, above.0) in
    rw other (none_below n m held le above.1)

-- such a file is the image's
lookup-held : (log : Log) (image : Files) (f : ℕ) → Rises log → lookup (λ k. k == f) (held_of log image) ≡ among log image f
lookup-held [] image f rises = refl
lookup-held (file ∷ log) image f rises = by_number (file.0 == f) refl (lookup-held log image f rises.1)
  where
    here : (there : Option (List ℕ)) → file.0 ≡ f → lookup (λ k. k == f) (with_file file.0 there (held_of log image)) ≡ there
    here None is = none_below file.0 f (held_of log image) (omega (arith, is)) (above-held file.0 log image rises.0)
    here (Some bytes) is = let same : (file.0 == f) ≡ true = grind (arith, nat_tests) in rw same refl

    other : (there : Option (List ℕ)) → (file.0 == f) ≡ false → lookup (λ k. k == f) (with_file file.0 there (held_of log image)) ≡ lookup (λ k. k == f) (held_of log image)
    other None not = refl
    other (Some bytes) not = rw not refl

    by_number : (b : Bool) → (file.0 == f) ≡ b → lookup (λ k. k == f) (held_of log image) ≡ if_logged (lookup (λ k. k == f) log) (image f) →
        lookup (λ k. k == f) (with_file file.0 (image file.0) (held_of log image)) ≡ if_logged (cond b (Some file.1) (lookup (λ k. k == f) log)) (image f)
    by_number true is rest = here (image file.0) (eqb-true _ _ is) ∙ ap image (eqb-true _ _ is)
    by_number false is rest = other (image file.0) is ∙ rest

are_held : (log : Log) (image : Files) → IsStrictlyIncreasing (map (λ file. file.0) log) → AreFiles (among log image) (held_of log image)
are_held log image rising =
    let rises : Rises log = rises_from log (sorted_from_strictly_increasing _ rising) in
    record {
      rising = IsStrictlyIncreasing-from_sorted _ (sorted_from (held_of log image) (rises-held log image rises));
      each = λ f. lookup-held log image f rises;
    }

-- no file was removed: all are the log's
all_are_among : (log : Log) (image : Files) (f : ℕ) → (lookup (λ n. n == f) log ≡ None → IsRemoved [] f (image f)) → among log image f ≡ image f
all_are_among log image f others = by_entry (lookup (λ n. n == f) log) refl
  where
    none : (there : Option (List ℕ)) → IsRemoved [] f there → None ≡ there
    none None removed = refl
    none (Some bytes) removed = let not = removed.1 in absurd cc

    by_entry : (o : Option (List Entry)) → lookup (λ n. n == f) log ≡ o → if_logged o (image f) ≡ image f
    by_entry None is = none (image f) (others is)
    by_entry (Some entries) is = refl

-- ---- what is found in them

at_end : (f : ℕ) (len : ℕ) (prefix : ValidPrefix) → f ≤ last_file → corruption_at true f len (Prefix prefix) ≡ None
at_end f len prefix small =
    let not : nat_lt last_file f ≡ false = grind (arith, nat_tests) in
    ap (λ (b : Bool). cond b (Some (Damaged (lsn_at f 0))) (corruption_behind true f len prefix.end)) not

between : (f : ℕ) (len : ℕ) (prefix : ValidPrefix) → f ≤ last_file → 0 < prefix.end → prefix.end ≡ len → corruption_at false f len (Prefix prefix) ≡ None
between f len prefix small headed ends =
    let not : nat_lt last_file f ≡ false = grind (arith, nat_tests) in
    let some : nat_lt 0 prefix.end ≡ true = grind (arith, nat_tests) in
    let all : (prefix.end == len) ≡ true = grind (arith, nat_tests) in
    ap (λ (b : Bool). cond b (Some (Damaged (lsn_at f 0))) (corruption_behind false f len prefix.end)) not ∙ rw (some, all) refl

found_none : (held : List (ℕ × List ℕ)) → AreWholeButLast held → AllByRecursion (λ file. file.0 ≤ last_file) held → corruption_in held ≡ None
found_none [] whole small = refl
found_none (file ∷ []) whole small =
    ap (λ (o : Option Corruption). or_else o None) (ap (corruption_at true file.0 (length file.1)) whole.found ∙ at_end file.0 (length file.1) whole.prefix small.0)
found_none (file ∷ next ∷ files) whole small =
    let more : (length (next ∷ files) == 0) ≡ false = grind (arith, nat_tests) in
    ap (λ (b : Bool). or_else (corruption_at b file.0 (length file.1) (scan_of file.0 file.1)) (corruption_in (next ∷ files))) more
    ∙ ap (λ (o : Option Corruption). or_else o (corruption_in (next ∷ files)))
    (ap (corruption_at false file.0 (length file.1)) whole.0.found ∙ between file.0 (length file.1) whole.0.prefix small.0 whole.0.headed whole.0.ends)
    ∙ found_none (next ∷ files) whole.1 small.1

-- ---- the log's first entries

holds_first : (log : Log) (least : ℕ) (held : List (ℕ × List ℕ)) → IsNamedLog log → AreFirst log least held → AreWholeButLast held → HoldsFirst log least held
holds_first log least held ok first whole =
    let numbers = first.numbers in
    let places = first.places.are in
    let count : ℕ = length (placed (log_in held)) in
    let same : length (entries_of (log_in held)) ≡ count =
    ap length (sym (placed_are_entries (log_in held))) ∙ length-map (placed (log_in held)) (λ (p : Placed). p.1) in
    let small : AllByRecursion (λ (n : ℕ). n ≤ last_file) (map (λ file. file.0) held ++ first.later) =
    subst (λ l. AllByRecursion (λ (n : ℕ). n ≤ last_file) l) numbers (all_to_map (λ (file : ℕ × List Entry). file.0) (λ n. n ≤ last_file) log ok.small) in
    record {
      count = count;
      at_least = let enough : least ≤ length (entries_of (log_in held)) = first.at_least in omega (arith, enough, same);
      within = omega (arith, ap length places, length-append (placed (log_in held)) first.places.rest);
      entries = sym (ap (take count) places ∙ take_at (placed (log_in held)) first.places.rest count refl);
      later = first.later;
      numbers = numbers;
      none = found_none held whole (all_of_map (λ (file : ℕ × List ℕ). file.0) (λ n. n ≤ last_file) held (all_parts (λ (n : ℕ). n ≤ last_file) (map (λ file. file.0) held) first.later small).0);
    }

pub images_hold_first : ImagesHoldFirst
images_hold_first log least image ok left =
    let held = held_of log image in
    let among_are : AreFiles (among log image) held = are_held log image ok.is_log.rising in
    let are : AreFiles image held = record { rising = among_are.rising; each = λ f. among_are.each f ∙ all_are_among log image f (left.others f) } in
    record { held = held; are = are; first = holds_first log least held ok (left.first held among_are) (left.whole held are) }

-- what is read of a log leaves all that was written
pub written_left : (log : Log) (least written : ℕ) (reads : Files) → LeavesLog log [] least reads → HoldsWritten log written reads → LeavesLog log [] written reads
written_left log least written reads left h = record {
  first = λ held are.
      written_are_first log least written reads held h (record { rising = are.rising; each = λ f. are.each f ∙ all_are_among log reads f (left.others f) }) (left.first held are);
  whole = left.whole;
  others = left.others;
  within = left.within;
}
