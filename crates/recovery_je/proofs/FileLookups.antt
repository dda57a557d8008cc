-- Entries of files by their LSNs.
use Rattle.std.proofs.Common.{◌≡◌, ◌≢◌, ◌<◌, ◌≤◌, ◌+◌, ◌*◌, ◌^◌, ◌==◌, ◌⊎◌, ℕ, zero, suc, cond, Bool, true, false, List, [], ◌∷◌, ◌++◌, map, Option, None, Some, Ok, Err, nat_cmp, length, get_or, refl, sym, ap, ap₂, subst, ◌∙◌, arith, inl, inr}
use Rattle.std.specs.Prelude.{◌/◌, ◌%◌}
use Rattle.std.specs.declared.cmp.Ordering.TheVariants.{Less}
use Rattle.std.proofs.lemmas.Bool.{cond-true, cond-false, ne_eqb, eq-eqb, cases_lt}
use Rattle.std.proofs.lemmas.Bool.Decides.{nat_tests}
use Rattle.std.proofs.lemmas.List.{append-nil, length-map}
use Rattle.std.proofs.lemmas.List.Elements.{filter-append}
use Rattle.std.proofs.lemmas.List.Sorted.{searched}
use Rattle.std.proofs.lemmas.Map.Keys.{sorted_from_strictly_increasing}
use Rattle.std.specs.List.{AllByRecursion}
use Rattle.std.specs.List.Sorted.{IsBinarySearchResult, IsStrictlySortedBy}
use Rattle.log_entry.specs.declared.entry.Entry.{Entry}
use Rattle.log_trees.specs.Placed.{Placed, entry_at}
use Rattle.file_use.specs.Live.{entries_in_file}
use Rattle.recovery_je.specs.LogRead.{entries_of_files, AreInside, AreFilesRead, IsFileWith}

-- an item that is there is the same whatever stands for one that is not
pub any_default : {A : Type 0} (a b : A) (xs : List A) (i : ℕ) → i < length xs → get_or xs i a ≡ get_or xs i b
any_default a b [] i some = absurd (omega (arith, some))
any_default a b (x ∷ xs) zero some = refl
any_default a b (x ∷ xs) (suc i) some = any_default a b xs i (omega (arith, some))

-- ---- entries one behind another

-- an LSN that the first ones do not have
skip : (a b : List Placed) (n : ℕ) → entry_at a n ≡ None → entry_at (a ++ b) n ≡ entry_at b n
skip [] b n h = refl
skip (p ∷ a) b n h = by_test (skip a b n) (p.0 == n) h
  where
    by_test : (entry_at a n ≡ None → entry_at (a ++ b) n ≡ entry_at b n) → (t : Bool) → cond t (Some p.1) (entry_at a n) ≡ None → cond t (Some p.1) (entry_at (a ++ b) n) ≡ entry_at b n
    by_test later true e = absurd cc
    by_test later false e = later e

-- one that the last ones do not have
stay : (a b : List Placed) (n : ℕ) → entry_at b n ≡ None → entry_at (a ++ b) n ≡ entry_at a n
stay [] b n h = h
stay (p ∷ a) b n h = ap (cond (p.0 == n) (Some p.1)) (stay a b n h)

-- ---- other files

outside : (f : ℕ) (es : List Placed) (n : ℕ) → AreInside f es → f ≢ n / 2 ^ 32 → entry_at es n ≡ None
outside f [] n all other = refl
outside f (p ∷ es) n all other =
    let low = all.0.0 in
    let high = all.0.1 in
    cond-false (p.0 == n) (Some p.1) (entry_at es n) (ne_eqb p.0 n (λ e. other (omega (arith, e, low, high)))) ∙ outside f es n all.1 other

all_outside : (files : List (ℕ × List Placed)) (n : ℕ) → AllByRecursion (λ f. AreInside f.0 f.1) files → AllByRecursion (λ (f : ℕ × List Placed). f.0 ≢ n / 2 ^ 32) files → entry_at (entries_of_files files) n ≡ None
all_outside [] n inside others = refl
all_outside (f ∷ files) n inside others = skip f.1 (entries_of_files files) n (outside f.0 f.1 n inside.0 others.0) ∙ all_outside files n inside.1 others.1

-- ---- numbers that rise

above_rest : (n : ℕ) (ns : List ℕ) (i : ℕ) → AllByRecursion (λ m. nat_cmp n m ≡ Less) ns → i < length ns → n < get_or ns i 0
above_rest n [] i all lt = absurd (omega (arith, lt))
above_rest n (m ∷ ns) zero all lt = grind (arith, nat_tests, all.0)
above_rest n (m ∷ ns) (suc i) all lt = above_rest n ns i all.1 (omega (arith, lt))

numbers_rise : (ns : List ℕ) → IsStrictlySortedBy nat_cmp ns → (i j : ℕ) → i ≤ j → j < length ns → get_or ns i 0 ≤ get_or ns j 0
unfolding IsStrictlySortedBy
numbers_rise [] up i j le lt = absurd (omega (arith, lt))
numbers_rise (n ∷ ns) up zero zero le lt = omega arith
numbers_rise (n ∷ ns) up zero (suc j) le lt = let below = above_rest n ns j up.0 (omega (arith, lt)) in omega (arith, below)
numbers_rise (n ∷ ns) up (suc i) zero le lt = absurd (omega (arith, le))
numbers_rise (n ∷ ns) up (suc i) (suc j) le lt = numbers_rise ns up.1 i j (omega (arith, le)) (omega (arith, lt))

others_above : (q n : ℕ) (files : List (ℕ × List Placed)) → AllByRecursion (λ m. nat_cmp n m ≡ Less) (map (λ (f : ℕ × List Placed). f.0) files) → n ≡ q → AllByRecursion (λ (f : ℕ × List Placed). f.0 ≢ q) files
others_above q n [] all is = tt
others_above q n (f ∷ files) all is = let more : n < f.0 = grind (arith, nat_tests, all.0) in (λ e. omega (arith, e, more, is), others_above q n files all.1 is)

-- the file of a number among others
at_number : (none : ℕ × List Placed) (files : List (ℕ × List Placed)) (i n : ℕ) → AllByRecursion (λ f. AreInside f.0 f.1) files → IsStrictlySortedBy nat_cmp (map (λ (f : ℕ × List Placed). f.0) files) → i < length files →
    get_or (map (λ (f : ℕ × List Placed). f.0) files) i 0 ≡ n / 2 ^ 32 → ((get_or files i none).0 ≡ n / 2 ^ 32) × (entry_at (get_or files i none).1 n ≡ entry_at (entries_of_files files) n)
unfolding IsStrictlySortedBy
at_number none [] i n inside up lt is = absurd (omega (arith, lt))
at_number none (f ∷ files) zero n inside up lt is = (is, sym (stay f.1 (entries_of_files files) n (all_outside files n inside.1 (others_above (n / 2 ^ 32) f.0 files up.0 is))))
at_number none (f ∷ files) (suc i) n inside up lt is =
    let len = length-map files (λ (g : ℕ × List Placed). g.0) in
    let below = above_rest f.0 (map (λ (g : ℕ × List Placed). g.0) files) i up.0 (omega (arith, len, lt)) in
    let later = at_number none files i n inside.1 up.1 (omega (arith, lt)) is in
    (later.0, later.1 ∙ sym (skip f.1 (entries_of_files files) n (outside f.0 f.1 n inside.0 (λ e. omega (arith, e, below, is)))))

none_of : (files : List (ℕ × List Placed)) (q : ℕ) → ((k : ℕ) → k < length files → get_or (map (λ (f : ℕ × List Placed). f.0) files) k 0 ≢ q) → AllByRecursion (λ (f : ℕ × List Placed). f.0 ≢ q) files
none_of [] q none = tt
none_of (f ∷ files) q none = (none 0 (omega arith), none_of files q (λ k lt. none (suc k) (omega (arith, lt))))

-- ---- what a search of the numbers tells of the files

pub file_found : (none : ℕ × List Placed) (files : List (ℕ × List Placed)) (numbers : List ℕ) (n q i : ℕ) → AreFilesRead numbers files → q ≡ n / 2 ^ 32 → IsBinarySearchResult (λ y. nat_cmp y q) numbers (Ok i) → i < length files →
    IsFileWith (entries_of_files files) n (get_or files i none)
file_found none files numbers n q i read is found lt =
    let sorted = sorted_from_strictly_increasing numbers read.rising in
    let here = searched numbers q (Ok i) found (numbers_rise numbers sorted) in
    let same = read.files_are.numbers_are in
    let file = at_number none files i n read.files_are.inside (subst (IsStrictlySortedBy nat_cmp) same sorted) lt (ap (λ (l : List ℕ). get_or l i 0) (sym same) ∙ here.1 ∙ is) in
    record { number = file.0; found = file.1 }

pub file_nowhere : (files : List (ℕ × List Placed)) (numbers : List ℕ) (n q i : ℕ) → AreFilesRead numbers files → q ≡ n / 2 ^ 32 → IsBinarySearchResult (λ y. nat_cmp y q) numbers (Err i) → None ≡ entry_at (entries_of_files files) n
file_nowhere files numbers n q i read is found =
    let sorted = sorted_from_strictly_increasing numbers read.rising in
    let here = searched numbers q (Err i) found (numbers_rise numbers sorted) in
    let same = read.files_are.numbers_are in
    let len = length-map files (λ (f : ℕ × List Placed). f.0) in
    sym (all_outside files n read.files_are.inside (none_of files (n / 2 ^ 32) (λ k lt e.
    by_side k here.1 here.2 (omega (arith, ap length same, len, lt)) (cases_lt k i) (ap (λ (l : List ℕ). get_or l k 0) same ∙ e ∙ sym is))))
  where
    by_side : (k : ℕ) → ((j : ℕ) → j < i → get_or numbers j 0 < q) → ((j : ℕ) → i ≤ j → j < length numbers → q < get_or numbers j 0) → k < length numbers → (k < i) ⊎ (i ≤ k) → get_or numbers k 0 ≢ q
    by_side k below above lt (inl before) e = let less = below k before in omega (arith, less, e)
    by_side k below above lt (inr behind) e = let more = above k behind lt in omega (arith, more, e)

-- the entry that an LSN names, by the file that it names
pub in_file : (es : List Placed) (n offset : ℕ) (file : ℕ × List Placed) (found : Option Entry) → IsFileWith es n file → offset ≡ n % 2 ^ 32 → found ≡ entry_at file.1 (file.0 * 2 ^ 32 + offset) → found ≡ entry_at es n
in_file es n offset file found whose is at =
    let number = whose.number in
    let same : file.0 * 2 ^ 32 + offset ≡ n = omega (arith, number, is) in
    at ∙ ap (entry_at file.1) same ∙ whose.found

-- ---- the entries of one file

all_here : (f : ℕ) (es : List Placed) → AreInside f es → entries_in_file f es ≡ es
all_here f [] all = refl
all_here f (p ∷ es) all =
    let low = all.0.0 in
    let high = all.0.1 in
    let at : p.0 / 2 ^ 32 ≡ f = omega (arith, low, high) in
    cond-true (p.0 / 2 ^ 32 == f) (p ∷ entries_in_file f es) (entries_in_file f es) (eq-eqb (p.0 / 2 ^ 32) f at) ∙ ap (λ (l : List Placed). p ∷ l) (all_here f es all.1)

none_here : (f g : ℕ) (es : List Placed) → AreInside g es → g ≢ f → entries_in_file f es ≡ []
none_here f g [] all other = refl
none_here f g (p ∷ es) all other =
    let low = all.0.0 in
    let high = all.0.1 in
    cond-false (p.0 / 2 ^ 32 == f) (p ∷ entries_in_file f es) (entries_in_file f es) (ne_eqb (p.0 / 2 ^ 32) f (λ e. other (omega (arith, e, low, high)))) ∙ none_here f g es all.1 other

in_files : (f : ℕ) (g : ℕ × List Placed) (files : List (ℕ × List Placed)) → entries_in_file f (entries_of_files (g ∷ files)) ≡ entries_in_file f g.1 ++ entries_in_file f (entries_of_files files)
in_files f g files = filter-append (λ (p : Placed). p.0 / 2 ^ 32 == f) g.1 (entries_of_files files)

all_elsewhere : (f : ℕ) (files : List (ℕ × List Placed)) → AllByRecursion (λ g. AreInside g.0 g.1) files → AllByRecursion (λ (g : ℕ × List Placed). g.0 ≢ f) files → entries_in_file f (entries_of_files files) ≡ []
all_elsewhere f [] inside others = refl
all_elsewhere f (g ∷ files) inside others = in_files f g files ∙ ap₂ (λ (a b : List Placed). a ++ b) (none_here f g.0 g.1 inside.0 others.0) (all_elsewhere f files inside.1 others.1)

at_file : (none : ℕ × List Placed) (files : List (ℕ × List Placed)) (i f : ℕ) → AllByRecursion (λ g. AreInside g.0 g.1) files → IsStrictlySortedBy nat_cmp (map (λ (g : ℕ × List Placed). g.0) files) → i < length files →
    get_or (map (λ (g : ℕ × List Placed). g.0) files) i 0 ≡ f → (get_or files i none).1 ≡ entries_in_file f (entries_of_files files)
unfolding IsStrictlySortedBy
at_file none [] i f inside up lt is = absurd (omega (arith, lt))
at_file none (g ∷ files) zero f inside up lt is =
    sym (in_files f g files
    ∙ ap₂ (λ (a b : List Placed). a ++ b) (ap (λ (n : ℕ). entries_in_file n g.1) (sym is) ∙ all_here g.0 g.1 inside.0) (all_elsewhere f files inside.1 (others_above f g.0 files up.0 is))
    ∙ append-nil g.1)
at_file none (g ∷ files) (suc i) f inside up lt is =
    let len = length-map files (λ (h : ℕ × List Placed). h.0) in
    let below = above_rest g.0 (map (λ (h : ℕ × List Placed). h.0) files) i up.0 (omega (arith, len, lt)) in
    at_file none files i f inside.1 up.1 (omega (arith, lt)) is
    ∙ sym (in_files f g files ∙ ap (λ (a : List Placed). a ++ entries_in_file f (entries_of_files files)) (none_here f g.0 g.1 inside.0 (λ e. omega (arith, e, below, is))))

pub numbered_found : (none : ℕ × List Placed) (files : List (ℕ × List Placed)) (numbers : List ℕ) (f i : ℕ) → AreFilesRead numbers files → IsBinarySearchResult (λ y. nat_cmp y f) numbers (Ok i) → i < length files →
    (get_or files i none).1 ≡ entries_in_file f (entries_of_files files)
numbered_found none files numbers f i read found lt =
    let sorted = sorted_from_strictly_increasing numbers read.rising in
    let here = searched numbers f (Ok i) found (numbers_rise numbers sorted) in
    let same = read.files_are.numbers_are in
    at_file none files i f read.files_are.inside (subst (IsStrictlySortedBy nat_cmp) same sorted) lt (ap (λ (l : List ℕ). get_or l i 0) (sym same) ∙ here.1)

pub numbered_nowhere : (files : List (ℕ × List Placed)) (numbers : List ℕ) (f i : ℕ) → AreFilesRead numbers files → IsBinarySearchResult (λ y. nat_cmp y f) numbers (Err i) → [] ≡ entries_in_file f (entries_of_files files)
numbered_nowhere files numbers f i read found =
    let sorted = sorted_from_strictly_increasing numbers read.rising in
    let here = searched numbers f (Err i) found (numbers_rise numbers sorted) in
    let same = read.files_are.numbers_are in
    let len = length-map files (λ (g : ℕ × List Placed). g.0) in
    sym (all_elsewhere f files read.files_are.inside (none_of files f (λ k lt e.
    by_side k here.1 here.2 (omega (arith, ap length same, len, lt)) (cases_lt k i) (ap (λ (l : List ℕ). get_or l k 0) same ∙ e))))
  where
    by_side : (k : ℕ) → ((j : ℕ) → j < i → get_or numbers j 0 < f) → ((j : ℕ) → i ≤ j → j < length numbers → f < get_or numbers j 0) → k < length numbers → (k < i) ⊎ (i ≤ k) → get_or numbers k 0 ≢ f
    by_side k below above lt (inl before) e = let less = below k before in omega (arith, less, e)
    by_side k below above lt (inr behind) e = let more = above k behind lt in omega (arith, more, e)

-- what holds of all entries holds of those
pub all_in_file : (P : Placed → Type 0) (f : ℕ) (es : List Placed) → AllByRecursion P es → AllByRecursion P (entries_in_file f es)
all_in_file P f [] all = tt
all_in_file P f (p ∷ es) all = by_test (p.0 / 2 ^ 32 == f) (all_in_file P f es all.1)
  where
    by_test : (b : Bool) → AllByRecursion P (entries_in_file f es) → AllByRecursion P (cond b (p ∷ entries_in_file f es) (entries_in_file f es))
    by_test true later = (all.0, later)
    by_test false later = later
