-- Files that are missing from one on.
use Rattle.std.proofs.Common.{◌≡◌, ℕ, ◌<◌, ◌≤◌, nat_le, List, [], ◌∷◌, Option, filter, sym, ap, ◌∙◌, arith}
use Rattle.std.proofs.lemmas.Bool.{cond-true, cond-false, le-leb, lt-leb}
use Rattle.std.proofs.lemmas.Map.Keys.{IsStrictlyIncreasing-from_sorted, sorted_from_strictly_increasing}
use Rattle.std.specs.List.Sorted.{IsStrictlySortedBy, IsStrictlyIncreasing}
use Rattle.log_meaning.specs.Reading.{gap_at, gap_from}
use Rattle.log_replay.proofs.GapLaws.{rises}

pub tail_rises : (n : ℕ) (ns : List ℕ) → IsStrictlyIncreasing (n ∷ ns) → IsStrictlyIncreasing ns
unfolding IsStrictlySortedBy
tail_rises n ns h = IsStrictlyIncreasing-from_sorted ns (sorted_from_strictly_increasing (n ∷ ns) h).1

-- numbers that rise from a number on all stand there or behind it
pub all_from : (first n : ℕ) (ns : List ℕ) → first ≤ n → IsStrictlyIncreasing (n ∷ ns) → filter (λ m. nat_le first m) (n ∷ ns) ≡ n ∷ ns
all_from first n [] le up = cond-true (nat_le first n) (n ∷ []) [] (le-leb first n le)
all_from first n (m ∷ ns) le up =
    let next = rises n m ns up in
    cond-true (nat_le first n) (n ∷ filter (λ k. nat_le first k) (m ∷ ns)) (filter (λ k. nat_le first k) (m ∷ ns)) (le-leb first n le)
    ∙ ap (λ (l : List ℕ). n ∷ l) (all_from first m ns (omega (arith, le, next.0)) next.1)

pub gap_below : (first n : ℕ) (ns all : List ℕ) (gap : Option ℕ) → all ≡ n ∷ ns → n < first → gap ≡ gap_from first ns → gap ≡ gap_from first all
gap_below first n ns all gap is lt found =
    found ∙ ap (gap_at first) (sym (cond-false (nat_le first n) (n ∷ filter (λ k. nat_le first k) ns) (filter (λ k. nat_le first k) ns) (lt-leb first n lt))) ∙ ap (gap_from first) (sym is)

pub gap_here : (first n : ℕ) (ns all : List ℕ) (gap : Option ℕ) → all ≡ n ∷ ns → first ≤ n → IsStrictlyIncreasing (n ∷ ns) → gap ≡ gap_at first all → gap ≡ gap_from first all
gap_here first n ns all gap is le up found =
    found ∙ ap (gap_at first) is ∙ ap (gap_at first) (sym (all_from first n ns le up)) ∙ ap (gap_from first) (sym is)
