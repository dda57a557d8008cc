-- Numbers between rising numbers of files.
use Rattle.std.proofs.Common.{◌≡◌, ℕ, suc, ◌+◌, ◌<◌, ◌≤◌, length-drop, List, [], ◌∷◌, map, length, drop, take, get_or, refl, sym, ap, subst, ◌∙◌, arith, add-one, drop-cons, ◌-◌, ◌==◌, Bool, true, false, cond, Option, Some, None}
use Rattle.std.specs.Bool.{if◌then◌else◌}
use Rattle.log_replay.specs.Reading.{gap_behind}
use Rattle.std.proofs.Math.Seq.{take-length}
use Rattle.std.proofs.lemmas.Bool.Decides.{nat_tests}
use Rattle.std.proofs.lemmas.Map.Keys.{IsStrictlyIncreasing-from_sorted, sorted_from_strictly_increasing}
use Rattle.std.specs.List.Sorted.{IsStrictlySortedBy, IsStrictlyIncreasing}
use Rattle.je_lsn.specs.declared.file_no.FileNo.{FileNo}

pub rises : (a b : ℕ) (xs : List ℕ) → IsStrictlyIncreasing (a ∷ b ∷ xs) → (a < b) × IsStrictlyIncreasing (b ∷ xs)
unfolding IsStrictlySortedBy
rises a b xs h =
    let sorted = sorted_from_strictly_increasing (a ∷ b ∷ xs) h in
    (grind (arith, nat_tests, sorted.0.0), IsStrictlyIncreasing-from_sorted (b ∷ xs) sorted.1)

-- the files from an item on
pub item_at : (files : List FileNo) (i : ℕ) → i < length files → drop i files ≡ get_or files i (record { 0 = 0 }) ∷ drop (i + 1) files
item_at files i below =
    let none : FileNo = record { 0 = 0 } in
    let at : drop i files ≡ get_or files i none ∷ drop (suc i) files = drop-cons files i none below in
    at ∙ ap (λ (n : ℕ). get_or files i none ∷ drop n files) (sym (add-one i))

-- a file is left where one was not read yet
pub one_left : (files : List FileNo) (i left : ℕ) → i < length files → left ≡ length (drop i files) → 1 ≤ left
one_left files i left below is = omega (arith, length-drop i files)

-- the numbers from an item on
numbers_at : (rest : List FileNo) (i : ℕ) → i < length rest → map (λ f. f.0) (drop i rest) ≡ (get_or rest i (record { 0 = 0 })).0 ∷ map (λ f. f.0) (drop (i + 1) rest)
numbers_at rest i below = ap (map (λ (f : FileNo). f.0)) (item_at rest i below)

pub next_item : (last : ℕ) (rest : List FileNo) (i : ℕ) → i < length rest → IsStrictlyIncreasing (last ∷ map (λ f. f.0) (drop i rest)) →
    (last < (get_or rest i (record { 0 = 0 })).0) × IsStrictlyIncreasing ((get_or rest i (record { 0 = 0 })).0 ∷ map (λ f. f.0) (drop (i + 1) rest))
    × (map (λ f. f.0) (drop i rest) ≡ (get_or rest i (record { 0 = 0 })).0 ∷ map (λ f. f.0) (drop (i + 1) rest))
next_item last rest i below rising =
    let is = numbers_at rest i below in
    let both = rises last _ _ (subst (λ (l : List ℕ). IsStrictlyIncreasing (last ∷ l)) is rising) in
    (both.0, both.1, is)

-- the first and the rest
pub first_and_rest : (files : List FileNo) → 0 < length files → files ≡ get_or files 0 (record { 0 = 0 }) ∷ take (length files - 1) (drop 1 files)
first_and_rest [] some = absurd (omega arith)
first_and_rest (f ∷ files) some =
    let all : suc (length files) - 1 ≡ length files = omega arith in
    ap (λ (l : List FileNo). f ∷ l) (sym (ap (λ (n : ℕ). take n files) all ∙ take-length files))

-- a number that is there, and the gap behind it
pub gap_goes_on : (last next : ℕ) (numbers : List ℕ) (o : Option ℕ) → o ≡ None → o ≡ (if next == last + 1 then None else Some (last + 1)) → gap_behind next numbers ≡ gap_behind last (next ∷ numbers)
gap_goes_on last next numbers o none is = by_case (next == last + 1) (sym none ∙ is)
  where
    by_case : (b : Bool) → None ≡ cond b None (Some (last + 1)) → gap_behind next numbers ≡ cond b (gap_behind next numbers) (Some (last + 1))
    by_case true h = refl
    by_case false h = cc

pub gap_found : (last next number : ℕ) (numbers : List ℕ) (o : Option ℕ) → o ≡ Some number → o ≡ (if next == last + 1 then None else Some (last + 1)) → Some number ≡ gap_behind last (next ∷ numbers)
gap_found last next number numbers o some is = by_case (next == last + 1) (sym some ∙ is)
  where
    by_case : (b : Bool) → Some number ≡ cond b None (Some (last + 1)) → Some number ≡ cond b (gap_behind next numbers) (Some (last + 1))
    by_case true h = cc
    by_case false h = h
