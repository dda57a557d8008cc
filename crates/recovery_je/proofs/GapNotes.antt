-- Gaps in files that are noted.
use Rattle.std.proofs.Common.{◌≡◌, ℕ, ◌+◌, ◌<◌, ◌≤◌, ◌==◌, nat_le, Bool, true, false, cond, List, [], ◌∷◌, ◌++◌, map, filter, sym, ap, ◌∙◌, append_assoc}
use Rattle.std.proofs.lemmas.Bool.{cond-false, lt-leb}
use Rattle.std.proofs.lemmas.List.{append-nil}
use Rattle.std.specs.List.Sorted.{IsStrictlyIncreasing}
use Rattle.check_laws.specs.declared.finding.Finding.{Finding}
use Rattle.check_laws.specs.Parts.{gaps_behind}
use Rattle.check_laws.specs.Check.{gaps_at, gap_finding}
use Rattle.recovery_je.proofs.FileGaps.{all_from}

-- the gap before a file was noted, and those behind it are left
pub gap_noted : (last next : ℕ) (numbers : List ℕ) (left : List ℕ) (old new : List Finding) → left ≡ next ∷ numbers → new ≡ old ++ cond (next == last + 1) [] (gap_finding (last + 1, next) ∷ []) →
    new ++ map gap_finding (gaps_behind next numbers) ≡ old ++ map gap_finding (gaps_behind last left)
gap_noted last next numbers left old new is noted =
    ap (λ (l : List Finding). l ++ map gap_finding (gaps_behind next numbers)) noted ∙ by (next == last + 1) ∙ ap (λ (l : List ℕ). old ++ map gap_finding (gaps_behind last l)) (sym is)
  where
    by : (b : Bool) → (old ++ cond b [] (gap_finding (last + 1, next) ∷ [])) ++ map gap_finding (gaps_behind next numbers) ≡ old ++ map gap_finding (cond b (gaps_behind next numbers) ((last + 1, next) ∷ gaps_behind next numbers))
    by true = ap (λ (l : List Finding). l ++ map gap_finding (gaps_behind next numbers)) (append-nil old)
    by false = append_assoc old (gap_finding (last + 1, next) ∷ []) (map gap_finding (gaps_behind next numbers))

pub gap_at_it : (f n : ℕ) (ns : List ℕ) (b : Bool) → (n == f) ≡ b → gaps_at f (n ∷ ns) ≡ cond b (gaps_behind f ns) ((f, n) ∷ gaps_behind n ns)
gap_at_it f n ns b is = ap (λ (t : Bool). cond t (gaps_behind f ns) ((f, n) ∷ gaps_behind n ns)) is

-- files below the first do not count
pub noted_below : (first n : ℕ) (ns all : List ℕ) (old new : List Finding) → all ≡ n ∷ ns → n < first → new ≡ old ++ map gap_finding (gaps_at first (filter (λ m. nat_le first m) ns)) →
    new ≡ old ++ map gap_finding (gaps_at first (filter (λ m. nat_le first m) all))
noted_below first n ns all old new is lt noted =
    noted ∙ ap (λ (l : List ℕ). old ++ map gap_finding (gaps_at first l))
    (sym (cond-false (nat_le first n) (n ∷ filter (λ m. nat_le first m) ns) (filter (λ m. nat_le first m) ns) (lt-leb first n lt)) ∙ ap (filter (λ m. nat_le first m)) (sym is))

pub noted_here : (first n : ℕ) (ns all : List ℕ) (old new : List Finding) → all ≡ n ∷ ns → first ≤ n → IsStrictlyIncreasing (n ∷ ns) → new ≡ old ++ map gap_finding (gaps_at first all) →
    new ≡ old ++ map gap_finding (gaps_at first (filter (λ m. nat_le first m) all))
noted_here first n ns all old new is le up noted =
    noted ∙ ap (λ (l : List ℕ). old ++ map gap_finding (gaps_at first l)) (is ∙ sym (all_from first n ns le up) ∙ ap (filter (λ m. nat_le first m)) (sym is))
