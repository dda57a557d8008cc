-- The files of a disk as one list, and the files of a log.
use Rattle.std.proofs.Common.{◌≡◌, ℕ, ◌<◌, ◌≤◌, ◌^◌, ◌==◌, Bool, true, false, cond, List, [], ◌∷◌, Some, None, map, refl, sym, ap, subst, ◌∙◌, arith, nat_cmp, option_map, ◌⊎◌, inl, inr}
use Rattle.std.specs.declared.cmp.Ordering.TheVariants.{Less}
use Rattle.std.proofs.lemmas.Bool.Decides.{nat_tests}
use Rattle.std.proofs.lemmas.Bool.{eqb-true, cases_order}
use Rattle.std.proofs.lemmas.List.{append-nil}
use Rattle.std.proofs.lemmas.Map.Keys.{sorted_from_strictly_increasing}
use Rattle.std.specs.List.{AllByRecursion}
use Rattle.std.specs.List.Sorted.{IsStrictlySortedBy, IsStrictlyIncreasing}
use Rattle.std.specs.Map.{lookup}
use Rattle.je_disk.specs.States.{Files}
use Rattle.log_entry.specs.declared.entry.Entry.{Entry}
use Rattle.log_entry.specs.declared.decoder.Torn.TheVariants.{Short}
use Rattle.log_entry.specs.declared.decoder.Decoded.TheVariants.{Torn as NotWhole}
use Rattle.log_entry.specs.Reading.{decoded}
use Rattle.log_file.specs.Scan.{scan_of}
use Rattle.log_file.specs.Log.{Log, AreFileEntries, AreFiles, file_bytes, files_of_log, log_in, entries_scanned}
use Rattle.log_file.specs.Laws.{AreOneList, LogsAreFound}
use Rattle.log_file.proofs.FileScanLaws.{are_found_again}

-- ---- lists under rising numbers

-- each number is above this one
abbrev pub AreAbove : {X : Type 0} → ℕ → List (ℕ × X) → Type 0
AreAbove {X} n held = AllByRecursion (λ (e : ℕ × X). n < e.0) held

-- each number is below those behind it
abbrev pub Rises : {X : Type 0} → List (ℕ × X) → Type 0
Rises {X} [] = Unit {0}
Rises {X} (e ∷ held) = AreAbove e.0 held × Rises held

above_from : {X : Type 0} (n : ℕ) (held : List (ℕ × X)) → AllByRecursion (λ m. nat_cmp n m ≡ Less) (map (λ e. e.0) held) → AreAbove n held
above_from n [] all = tt
above_from n (e ∷ held) all = (grind (arith, nat_tests, all.0), above_from n held all.1)

rises_from : {X : Type 0} (held : List (ℕ × X)) → IsStrictlySortedBy nat_cmp (map (λ e. e.0) held) → Rises held
unfolding IsStrictlySortedBy
rises_from [] sorted = tt
rises_from (e ∷ held) sorted = (above_from e.0 held sorted.0, rises_from held sorted.1)

-- what stands under rising numbers has none at or below a number that they all are above
none_below : {X : Type 0} (n m : ℕ) (held : List (ℕ × X)) → m ≤ n → AreAbove n held → lookup (λ k. k == m) held ≡ None
none_below n m [] le above = refl
none_below n m (e ∷ held) le above =
    let other : (e.0 == m) ≡ false = grind (arith, nat_tests, above.0) in
    rw other (none_below n m held le above.1)

found_first_of : {X : Type 0} (e : ℕ × X) (held : List (ℕ × X)) → lookup (λ k. k == e.0) (e ∷ held) ≡ Some e.1
found_first_of e held =
    let same : (e.0 == e.0) ≡ true = grind (arith, nat_tests) in
    rw same refl

-- two such lists with the same under each number are one
pub same_list : {X : Type 0} (a b : List (ℕ × X)) → Rises a → Rises b → ((f : ℕ) → lookup (λ k. k == f) a ≡ lookup (λ k. k == f) b) → a ≡ b
same_list [] [] ra rb same = refl
same_list [] (y ∷ b) ra rb same = let there = found_first_of y b in let not = same y.0 in absurd cc
same_list (x ∷ a) [] ra rb same = let there = found_first_of x a in let not = same x.0 in absurd cc
same_list {X} (x ∷ a) (y ∷ b) ra rb same = by_order (cases_order x.0 y.0) (same_list a b ra.1 rb.1)
  where
    tails : (f : ℕ) (t : Bool) → (x.0 == f) ≡ t → x.0 ≡ y.0 → lookup (λ k. k == f) a ≡ lookup (λ k. k == f) b
    tails f true here is =
        let at : x.0 ≡ f = eqb-true _ _ here in
        none_below x.0 f a (omega (arith, at)) ra.0 ∙ sym (none_below y.0 f b (omega (arith, at, is)) rb.0)
    tails f false here is =
        let here_y : (y.0 == f) ≡ false = ap (λ n. n == f) (sym is) ∙ here in
        let first : lookup (λ k. k == f) (x ∷ a) ≡ lookup (λ k. k == f) a = rw here refl in
        let second : lookup (λ k. k == f) (y ∷ b) ≡ lookup (λ k. k == f) b = rw here_y refl in
        sym first ∙ same f ∙ second

    by_order : (x.0 ≡ y.0) ⊎ ((x.0 < y.0) ⊎ (y.0 < x.0)) → (((f : ℕ) → lookup (λ k. k == f) a ≡ lookup (λ k. k == f) b) → a ≡ b) → x ∷ a ≡ y ∷ b
    by_order (inl is) rest =
        let values : Some x.1 ≡ Some y.1 = sym (found_first_of x a) ∙ same x.0 ∙ ap (λ n. lookup (λ k. k == n) (y ∷ b)) is ∙ found_first_of y b in
        let value : x.1 ≡ y.1 = cc in
        let pair : x ≡ y = ap (λ n. let p : ℕ × X = (n, x.1) in p) is ∙ ap (λ v. let p : ℕ × X = (y.0, v) in p) value in
        ap (λ (p : ℕ × X). p ∷ a) pair ∙ ap (λ (l : List (ℕ × X)). y ∷ l) (rest (λ f. tails f (x.0 == f) refl is))
    by_order (inr (inl less)) rest =
        let there = found_first_of x a in
        let none = none_below y.0 x.0 b (omega (arith, less)) rb.0 in
        let other : (y.0 == x.0) ≡ false = grind (arith, nat_tests, less) in
        let not : lookup (λ k. k == x.0) (y ∷ b) ≡ None = rw other none in
        let all = same x.0 in absurd cc
    by_order (inr (inr more)) rest =
        let there = found_first_of y b in
        let none = none_below x.0 y.0 a (omega (arith, more)) ra.0 in
        let other : (x.0 == y.0) ≡ false = grind (arith, nat_tests, more) in
        let not : lookup (λ k. k == y.0) (x ∷ a) ≡ None = rw other none in
        let all = same y.0 in absurd cc

pub are_one_list : AreOneList
are_one_list reads a b is_a is_b =
    same_list a b (rises_from a (sorted_from_strictly_increasing _ is_a.rising)) (rises_from b (sorted_from_strictly_increasing _ is_b.rising))
    (λ f. is_a.each f ∙ sym (is_b.each f))

-- ---- the files of a log

-- each file's number and bytes
abbrev pub encoded_files : Log → List (ℕ × List ℕ)
encoded_files log = map (λ file. (file.0, file_bytes file.0 file.1)) log

same_numbers : (log : Log) → map (λ file. file.0) (encoded_files log) ≡ map (λ file. file.0) log
same_numbers [] = refl
same_numbers (file ∷ log) = ap (λ (l : List ℕ). file.0 ∷ l) (same_numbers log)

lookup-encoded : (log : Log) (f : ℕ) → lookup (λ n. n == f) (encoded_files log) ≡ files_of_log log f
lookup-encoded [] f = refl
lookup-encoded (file ∷ log) f = by_case (file.0 == f) refl (lookup-encoded log f)
  where
    by_case : (b : Bool) → (file.0 == f) ≡ b → lookup (λ n. n == f) (encoded_files log) ≡ files_of_log log f →
        cond b (Some (file_bytes file.0 file.1)) (lookup (λ n. n == f) (encoded_files log)) ≡ option_map (file_bytes f) (cond b (Some file.1) (lookup (λ n. n == f) log))
    by_case true here rest = ap (λ (n : ℕ). Some (file_bytes n file.1)) (eqb-true _ _ here)
    by_case false here rest = rest

pub are_encoded_files : (reads : Files) (log : Log) → IsStrictlyIncreasing (map (λ file. file.0) log) → ((f : ℕ) → reads f ≡ files_of_log log f) → AreFiles reads (encoded_files log)
are_encoded_files reads log rising same = record {
  rising = subst IsStrictlyIncreasing (sym (same_numbers log)) rising;
  each = λ f. lookup-encoded log f ∙ sym (same f);
}

nothing_torn : decoded [] ≡ NotWhole Short
unfolding decoded
nothing_torn = refl

-- the entries of a file that was encoded
pub entries-encoded : (f : ℕ) (entries : List Entry) → f < 2 ^ 32 → AreFileEntries entries → entries_scanned (scan_of f (file_bytes f entries)) ≡ entries
entries-encoded f entries lt are =
    ap (λ (x : List ℕ). entries_scanned (scan_of f x)) (sym (append-nil (file_bytes f entries)))
    ∙ ap entries_scanned (are_found_again f entries [] Short lt are nothing_torn)

pub log_in-encoded : (log : Log) → AllByRecursion (λ file. (file.0 < 2 ^ 32) × AreFileEntries file.1) log → log_in (encoded_files log) ≡ log
log_in-encoded [] all = refl
log_in-encoded (file ∷ log) all =
    ap (λ (es : List Entry). let p : ℕ × List Entry = (file.0, es) in p ∷ log_in (encoded_files log)) (entries-encoded file.0 file.1 all.0.0 all.0.1)
    ∙ ap (λ (l : Log). file ∷ l) (log_in-encoded log all.1)

pub logs_are_found : LogsAreFound
logs_are_found reads held log is are same =
    ap log_in (are_one_list reads held (encoded_files log) are (are_encoded_files reads log is.rising same)) ∙ log_in-encoded log is.each
