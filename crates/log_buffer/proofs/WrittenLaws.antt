-- Entries that were written stay written.
use Rattle.std.proofs.Common.{◌≡◌, ℕ, ◌<◌, ◌≤◌, ◌^◌, ◌==◌, Bool, true, false, cond, List, [], ◌∷◌, ◌++◌, Option, Some, map, length, option_map, refl, sym, ap, subst, ◌∙◌, arith, append_assoc, nat_cmp}
use Rattle.std.specs.declared.cmp.Ordering.TheVariants.{Less}
use Rattle.std.proofs.lemmas.Bool.{cond-false, cond-true, eq-eqb, eqb-true, ne_eqb}
use Rattle.std.proofs.lemmas.Bool.Decides.{nat_tests}
use Rattle.std.proofs.lemmas.List.{append-nil, length-append}
use Rattle.std.proofs.lemmas.Map.Keys.{sorted_from_strictly_increasing}
use Rattle.std.specs.List.{AllByRecursion}
use Rattle.std.specs.List.Sorted.{IsStrictlySortedBy}
use Rattle.std.specs.Map.{lookup}
use Rattle.je_order.proofs.Lists.{all_weaker}
use Rattle.log_entry.specs.declared.entry.Entry.{Entry}
use Rattle.log_entry.specs.Encoding.{size_of}
use Rattle.log_file.specs.Scan.{entries_behind, scan_of}
use Rattle.log_file.specs.Log.{Log, AreFileEntries, entries_of, entries_scanned, file_bytes, log_in}
use Rattle.log_file.proofs.FileScanLaws.{behind-encoded, found-encoded}
use Rattle.log_file.proofs.FilesLaws.{AreAbove, Rises}
use Rattle.log_buffer.specs.Flip.{end_after, placed_at}
use Rattle.log_buffer.specs.Log.{log_with}
use Rattle.log_buffer.specs.Written.{AllAreWritten, WrittenAreFirst, WrittenGrow, WrittenStay}

pub all_are_written : AllAreWritten
all_are_written log reads is same = record {
  front = log;
  is_log = is;
  enough = omega arith;
  later = [];
  numbers = sym (append-nil (map (λ file. file.0) log));
  begins = λ f bytes there. ([], same f ∙ there ∙ ap (λ (x : List ℕ). Some x) (sym (append-nil bytes)));
}

pub written_stay : WrittenStay
written_stay log written before after h stay = record {
  front = h.front;
  is_log = h.is_log;
  enough = h.enough;
  later = h.later;
  numbers = h.numbers;
  begins = λ f bytes there.
      let one = h.begins f bytes there in
      let two = stay f (bytes ++ one.0) one.1 in
      (one.0 ++ two.0, two.1 ∙ ap (λ (x : List ℕ). Some x) (append_assoc bytes one.0 two.0));
}

-- ---- longer logs

-- a longer log has the files that the log has, in order, and maybe more
more_numbers : (f : ℕ) (entry : Entry) (log : Log) → (more : List ℕ) × (map (λ file. file.0) (log_with f entry log) ≡ map (λ file. file.0) log ++ more)
more_numbers f entry [] = (f ∷ [], refl)
more_numbers f entry (file ∷ log) = by_test (file.0 == f) refl (more_numbers f entry log)
  where
    by_test : (b : Bool) → (file.0 == f) ≡ b → (more : List ℕ) × (map (λ (e : ℕ × List Entry). e.0) (log_with f entry log) ≡ map (λ (e : ℕ × List Entry). e.0) log ++ more) →
        (more : List ℕ) × (map (λ (e : ℕ × List Entry). e.0) (cond b ((f, file.1 ++ entry ∷ []) ∷ log) (file ∷ log_with f entry log)) ≡ file.0 ∷ map (λ (e : ℕ × List Entry). e.0) log ++ more)
    by_test true is rest =
        ([], ap (λ (n : ℕ). n ∷ map (λ (e : ℕ × List Entry). e.0) log) (sym (eqb-true file.0 f is)) ∙ ap (λ (l : List ℕ). file.0 ∷ l) (sym (append-nil (map (λ (e : ℕ × List Entry). e.0) log))))
    by_test false is rest = (rest.0, ap (λ (l : List ℕ). file.0 ∷ l) rest.1)

pub written_grow : WrittenGrow
written_grow log most end [] written reads h = h
written_grow log most end (entry ∷ entries) written reads h =
    let f : ℕ = (placed_at most end (size_of entry)).file in
    let more = more_numbers f entry log in
    written_grow (log_with f entry log) most (end_after most end (size_of entry)) entries written reads (record {
      front = h.front;
      is_log = h.is_log;
      enough = h.enough;
      later = h.later ++ more.0;
      numbers = more.1 ∙ ap (λ (l : List ℕ). l ++ more.0) h.numbers ∙ append_assoc (map (λ file. file.0) h.front) h.later more.0;
      begins = h.begins;
    })

-- ---- what is read

above_from : {X : Type 0} (n : ℕ) (held : List (ℕ × X)) → AllByRecursion (λ m. nat_cmp n m ≡ Less) (map (λ e. e.0) held) → AreAbove n held
above_from n [] all = tt
above_from n (e ∷ held) all = (grind (arith, nat_tests, all.0), above_from n held all.1)

rises_from : {X : Type 0} (held : List (ℕ × X)) → IsStrictlySortedBy nat_cmp (map (λ e. e.0) held) → Rises held
unfolding IsStrictlySortedBy
rises_from [] sorted = tt
rises_from (e ∷ held) sorted = (above_from e.0 held sorted.0, rises_from held sorted.1)

all_both : {X : Type 0} (P Q R : X → Type 0) → ((x : X) → P x → Q x → R x) → (xs : List X) → AllByRecursion P xs → AllByRecursion Q xs → AllByRecursion R xs
all_both P Q R both [] ps qs = tt
all_both P Q R both (x ∷ xs) ps qs = (both x ps.0 qs.0, all_both P Q R both xs ps.1 qs.1)

-- a file is among some, and begins with the bytes of a log's file
abbrev BeginsAmong : List (ℕ × List ℕ) → (ℕ × List Entry) → Type 0
BeginsAmong held file = (more : List ℕ) × (lookup (λ k. k == file.0) held ≡ Some (file_bytes file.0 file.1 ++ more))

-- as many entries are found in it
scanned : (f : ℕ) (entries : List Entry) (more : List ℕ) → f < 2 ^ 32 → AreFileEntries entries → length entries ≤ length (entries_scanned (scan_of f (file_bytes f entries ++ more)))
scanned f entries more small are =
    let is : entries_scanned (scan_of f (file_bytes f entries ++ more)) ≡ entries_behind (file_bytes f entries ++ more) = ap entries_scanned (found-encoded f entries more small) in
    by_parts (entries_behind (file_bytes f entries ++ more)) _ is (behind-encoded f entries more small are)
  where
    by_parts : (all rest : List Entry) → entries_scanned (scan_of f (file_bytes f entries ++ more)) ≡ all → all ≡ entries ++ rest →
        length entries ≤ length (entries_scanned (scan_of f (file_bytes f entries ++ more)))
    by_parts all rest found parts =
        let count = ap (λ (l : List Entry). length l) (found ∙ parts) in
        omega (arith, count, length-append entries rest)

head_is : (x y : ℕ) (a b : List ℕ) → x ∷ a ≡ y ∷ b → x ≡ y
head_is x y a b is = cc

tail_is : (x y : ℕ) (a b : List ℕ) → x ∷ a ≡ y ∷ b → a ≡ b
tail_is x y a b is = cc

some_is : (x y : List ℕ) → (let o : Option (List ℕ) = Some x in o) ≡ Some y → x ≡ y
some_is x y is = cc

counted : (front : Log) (held : List (ℕ × List ℕ)) (later rest : List ℕ) → map (λ file. file.0) front ++ later ≡ map (λ file. file.0) held ++ rest → AllByRecursion (BeginsAmong held) front →
    Rises front → AllByRecursion (λ file. (file.0 < 2 ^ 32) × AreFileEntries file.1) front → length (entries_of front) ≤ length (entries_of (log_in held))
counted [] held later rest numbers among up all = omega arith
counted (file ∷ front) [] later rest numbers among up all = let none = among.0.1 in absurd cc
counted (file ∷ front) (h ∷ held) later rest numbers among up all =
    let same : file.0 ≡ h.0 = head_is file.0 h.0 (map (λ e. e.0) front ++ later) (map (λ e. e.0) held ++ rest) numbers in
    let here : Some h.1 ≡ Some (file_bytes file.0 file.1 ++ among.0.0) = sym (cond-true (h.0 == file.0) (Some h.1) (lookup (λ k. k == file.0) held) (eq-eqb h.0 file.0 (sym same))) ∙ among.0.1 in
    let bytes : h.1 ≡ file_bytes file.0 file.1 ++ among.0.0 = some_is h.1 (file_bytes file.0 file.1 ++ among.0.0) here in
    let tails : AllByRecursion (BeginsAmong held) front =
    all_both (λ (e : ℕ × List Entry). file.0 < e.0) (BeginsAmong (h ∷ held)) (BeginsAmong held)
    (λ e above begins. (begins.0, sym (cond-false (h.0 == e.0) (Some h.1) (lookup (λ k. k == e.0) held) (ne_eqb h.0 e.0 (λ is. absurd (omega (arith, above, same, is))))) ∙ begins.1)) front up.0 among.1 in
    let least = counted front held later rest (tail_is file.0 h.0 (map (λ e. e.0) front ++ later) (map (λ e. e.0) held ++ rest) numbers) tails up.1 all.1 in
    let own : length file.1 ≤ length (entries_scanned (scan_of h.0 h.1)) =
    subst (λ (n : ℕ). length file.1 ≤ length (entries_scanned (scan_of n h.1))) same
    (subst (λ (b : List ℕ). length file.1 ≤ length (entries_scanned (scan_of file.0 b))) (sym bytes) (scanned file.0 file.1 among.0.0 all.0.0 all.0.1)) in
    omega (arith, least, own, length-append file.1 (entries_of front), length-append (entries_scanned (scan_of h.0 h.1)) (entries_of (log_in held)))

-- each file of a log is found there
each_found : (log : Log) → Rises log → AllByRecursion (λ file. lookup (λ k. k == file.0) log ≡ Some file.1) log
each_found [] up = tt
each_found (file ∷ log) up = (
  cond-true (file.0 == file.0) (Some file.1) (lookup (λ k. k == file.0) log) (eq-eqb file.0 file.0 refl),
  all_both (λ (e : ℕ × List Entry). file.0 < e.0) (λ (e : ℕ × List Entry). lookup (λ k. k == e.0) log ≡ Some e.1) (λ e. lookup (λ k. k == e.0) (file ∷ log) ≡ Some e.1)
      (λ e above there. cond-false (file.0 == e.0) (Some file.1) (lookup (λ k. k == e.0) log) (ne_eqb file.0 e.0 (λ is. absurd (omega (arith, above, is)))) ∙ there) log up.0 (each_found log up.1),
)

pub written_are_first : WrittenAreFirst
written_are_first log least written reads held h are first =
    let rises : Rises h.front = rises_from h.front (sorted_from_strictly_increasing _ h.is_log.rising) in
    let among : AllByRecursion (BeginsAmong held) h.front =
    all_weaker (λ (file : ℕ × List Entry). lookup (λ k. k == file.0) h.front ≡ Some file.1) (BeginsAmong held)
    (λ file there.
    let begins = h.begins file.0 (file_bytes file.0 file.1) (ap (option_map (file_bytes file.0)) there) in
    (begins.0, are.each file.0 ∙ begins.1)) h.front (each_found h.front rises) in
    let count = counted h.front held h.later first.later (sym h.numbers ∙ first.numbers) among rises h.is_log.each in
    let enough : written ≤ length (entries_of h.front) = h.enough in
    record {
      places = first.places;
      more = first.more;
      entries = first.entries;
      at_least = omega (arith, enough, count);
      later = first.later;
      numbers = first.numbers;
    }
