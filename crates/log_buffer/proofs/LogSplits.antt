-- A log in parts: the files before one, that one, and those behind it.
use Rattle.std.proofs.Common.{◌≡◌, ◌≢◌, ℕ, ◌+◌, ◌<◌, ◌≤◌, ◌==◌, Bool, true, false, cond, List, [], ◌∷◌, ◌++◌, Option, Some, None, length, map, refl, sym, ap, ap₂, ◌∙◌, arith, nat_cmp, append_assoc, length-append}
use Rattle.std.specs.declared.cmp.Ordering.TheVariants.{Less}
use Rattle.std.proofs.lemmas.Bool.Decides.{nat_tests}
use Rattle.std.proofs.lemmas.Bool.{eqb-true}
use Rattle.std.proofs.lemmas.Map.Keys.{sorted_from_strictly_increasing}
use Rattle.std.specs.List.{AllByRecursion}
use Rattle.std.specs.List.Sorted.{IsStrictlySortedBy}
use Rattle.std.specs.Map.{lookup}
use Rattle.log_entry.specs.declared.entry.Entry.{Entry}
use Rattle.log_file.specs.Log.{Log, IsLog, entries_of}
use Rattle.log_buffer.proofs.LogChanges.{AreBelow, below_more, lookup_none}

-- each file's number is above this one
abbrev pub AreAbove : ℕ → Log → Type 0
AreAbove n log = AllByRecursion (λ file. n < file.0) log

pub all_mid : (P : ℕ → Type 0) (before : Log) (file : ℕ × List Entry) (after : Log) → AllByRecursion P (map (λ x. x.0) (before ++ file ∷ after)) → P file.0
all_mid P [] file after all = all.0
all_mid P (x ∷ before) file after all = all_mid P before file after all.1

pub below_in : (before : Log) (file : ℕ × List Entry) (after : Log) → IsStrictlySortedBy nat_cmp (map (λ x. x.0) (before ++ file ∷ after)) → AreBelow file.0 before
unfolding IsStrictlySortedBy
below_in [] file after sorted = tt
below_in (x ∷ before) file after sorted =
    let less = all_mid (λ m. nat_cmp x.0 m ≡ Less) before file after sorted.0 in
    (grind (arith, nat_tests, less), below_in before file after sorted.1)

above_all : (n : ℕ) (log : Log) → AllByRecursion (λ m. nat_cmp n m ≡ Less) (map (λ x. x.0) log) → AreAbove n log
above_all n [] all = tt
above_all n (x ∷ log) all = let less = all.0 in (grind (arith, nat_tests, less), above_all n log all.1)

above_in : (before : Log) (file : ℕ × List Entry) (after : Log) → IsStrictlySortedBy nat_cmp (map (λ x. x.0) (before ++ file ∷ after)) → AreAbove file.0 after
unfolding IsStrictlySortedBy
above_in [] file after sorted = above_all file.0 after sorted.0
above_in (x ∷ before) file after sorted = above_in before file after sorted.1

pub below_at : (before : Log) (file : ℕ × List Entry) (after : Log) → IsLog (before ++ file ∷ after) → AreBelow file.0 before
below_at before file after is = below_in before file after (sorted_from_strictly_increasing _ is.rising)

pub above_at : (before : Log) (file : ℕ × List Entry) (after : Log) → IsLog (before ++ file ∷ after) → AreAbove file.0 after
above_at before file after is = above_in before file after (sorted_from_strictly_increasing _ is.rising)

pub above_less : (n m : ℕ) (log : Log) → n ≤ m → AreAbove m log → AreAbove n log
above_less n m [] le all = tt
above_less n m (file ∷ log) le all = (let first = all.0 in omega (arith, first), above_less n m log le all.1)

-- ---- looking a file up

other_than : (n m : ℕ) → n ≢ m → (n == m) ≡ false
other_than n m apart = grind (arith, nat_tests)

same_as : (n : ℕ) → (n == n) ≡ true
same_as n = grind (arith, nat_tests)

pub lookup_above : (log : Log) (n : ℕ) → AreAbove n log → lookup (λ k. k == n) log ≡ None
lookup_above [] n all = refl
lookup_above (file ∷ log) n all =
    ap (λ (b : Bool). cond b (Some file.1) (lookup (λ k. k == n) log)) (other_than file.0 n (λ is. let first = all.0 in absurd (omega (arith, is)))) ∙ lookup_above log n all.1

pub lookup_front : {X : Type 0} (before after : List (ℕ × X)) (n : ℕ) → lookup (λ k. k == n) after ≡ None → lookup (λ k. k == n) (before ++ after) ≡ lookup (λ k. k == n) before
lookup_front [] after n none = none
lookup_front {X} (file ∷ before) after n none = ap (λ (o : Option X). cond (file.0 == n) (Some file.1) o) (lookup_front before after n none)

pub lookup_back : {X : Type 0} (before after : List (ℕ × X)) (n : ℕ) → lookup (λ k. k == n) before ≡ None → lookup (λ k. k == n) (before ++ after) ≡ lookup (λ k. k == n) after
lookup_back [] after n none = refl
lookup_back (file ∷ before) after n none = by_case (λ rest. lookup_back before after n rest) (file.0 == n) none where
  by_case : (lookup (λ k. k == n) before ≡ None → lookup (λ k. k == n) (before ++ after) ≡ lookup (λ k. k == n) after) → (b : Bool) → cond b (Some file.1) (lookup (λ k. k == n) before) ≡ None
      → cond b (Some file.1) (lookup (λ k. k == n) (before ++ after)) ≡ lookup (λ k. k == n) after
  by_case goes true some = absurd cc
  by_case goes false rest = goes rest

pub lookup_here : {X : Type 0} (file : ℕ × X) (log : List (ℕ × X)) → lookup (λ k. k == file.0) (file ∷ log) ≡ Some file.1
lookup_here file log = ap (λ (b : Bool). cond b (Some file.1) (lookup (λ k. k == file.0) log)) (same_as file.0)

pub lookup_past : {X : Type 0} (file : ℕ × X) (log : List (ℕ × X)) (n : ℕ) → file.0 ≢ n → lookup (λ k. k == n) (file ∷ log) ≡ lookup (λ k. k == n) log
lookup_past file log n apart = ap (λ (b : Bool). cond b (Some file.1) (lookup (λ k. k == n) log)) (other_than file.0 n apart)

-- the file between is found
pub lookup_at : (before : Log) (file : ℕ × List Entry) (after : Log) → IsLog (before ++ file ∷ after) → lookup (λ k. k == file.0) (before ++ file ∷ after) ≡ Some file.1
lookup_at before file after is = lookup_back before (file ∷ after) file.0 (lookup_none before file.0 (below_at before file after is)) ∙ lookup_here file after

-- a file of a lower number is one of those before
pub lookup_under : (before : Log) (file : ℕ × List Entry) (after : Log) (n : ℕ) → IsLog (before ++ file ∷ after) → n < file.0 → lookup (λ k. k == n) (before ++ file ∷ after) ≡ lookup (λ k. k == n) before
lookup_under before file after n is less =
    lookup_front before (file ∷ after) n (lookup_above (file ∷ after) n (less, above_less n file.0 after (omega arith) (above_at before file after is)))

-- a file of a higher number is one of those behind
pub lookup_over : (before : Log) (file : ℕ × List Entry) (after : Log) (n : ℕ) → IsLog (before ++ file ∷ after) → file.0 < n → lookup (λ k. k == n) (before ++ file ∷ after) ≡ lookup (λ k. k == n) after
lookup_over before file after n is less =
    lookup_back before (file ∷ after) n (lookup_none before n (below_more file.0 n before (omega arith) (below_at before file after is)))
    ∙ lookup_past file after n (λ same. absurd (omega (arith, same)))

-- a log in parts at a file
pub record IsParted (log : Log) (n : ℕ) (entries : List Entry) : Type 0 where
  pub before : Log
  pub after : Log
  pub log_is : log ≡ before ++ (n, entries) ∷ after

some_is : {X : Type 0} (x y : X) → (let o : Option X = Some x in o) ≡ Some y → x ≡ y
some_is x y is = cc

pub parted : (log : Log) (n : ℕ) (entries : List Entry) → lookup (λ k. k == n) log ≡ Some entries → IsParted log n entries
parted [] n entries found = absurd cc
parted (file ∷ log) n entries found = by_case (λ rest. parted log n entries rest) (file.0 == n) refl found where
  here : (x : ℕ × List Entry) → x.0 ≡ n → x.1 ≡ entries → IsParted (x ∷ log) n entries
  here x number is = record { before = []; after = log; log_is = ap₂ (λ (k : ℕ) (es : List Entry). (k, es) ∷ log) number is }

  by_case : (lookup (λ k. k == n) log ≡ Some entries → IsParted log n entries) → (b : Bool) → (file.0 == n) ≡ b → cond b (Some file.1) (lookup (λ k. k == n) log) ≡ Some entries → IsParted (file ∷ log) n entries
  by_case goes true is some = here file (eqb-true _ _ is) (some_is file.1 entries some)
  by_case goes false is rest = let more = goes rest in record { before = file ∷ more.before; after = more.after; log_is = ap (λ (l : Log). file ∷ l) more.log_is }

-- ---- two ways to part a log

unwritten_is : {X : Type 0} (x y : X) (a b : List X) → x ∷ a ≡ y ∷ b → a ≡ b
unwritten_is x y a b is = cc

head_is : {X : Type 0} (x y : X) (a b : List X) → x ∷ a ≡ y ∷ b → x ≡ y
head_is x y a b is = cc

-- the first of two parts is the same, or the earlier file stands in the second
pub parts_ordered : (a b c d : Log) (x y : ℕ × List Entry) → a ++ x ∷ c ≡ b ++ y ∷ d → AreBelow x.0 a → AreBelow y.0 b → x.0 < y.0 → (m : Log) × (b ≡ a ++ x ∷ m)
parts_ordered [] [] c d x y is below_a below_b less = absurd (let same = ap (λ (z : ℕ × List Entry). z.0) (head_is x y c d is) in omega (arith, same))
parts_ordered [] (z ∷ b) c d x y is below_a below_b less = (b, ap (λ (w : ℕ × List Entry). w ∷ b) (sym (head_is x z c (b ++ y ∷ d) is)))
parts_ordered (w ∷ a) [] c d x y is below_a below_b less =
    absurd (let same = ap (λ (z : ℕ × List Entry). z.0) (head_is w y (a ++ x ∷ c) d is) in let first = below_a.0 in omega (arith, same))
parts_ordered (w ∷ a) (z ∷ b) c d x y is below_a below_b less =
    let more = parts_ordered a b c d x y (unwritten_is w z (a ++ x ∷ c) (b ++ y ∷ d) is) below_a.1 below_b.1 less in
    (more.0, ap₂ (λ (v : ℕ × List Entry) (l : Log). v ∷ l) (sym (head_is w z (a ++ x ∷ c) (b ++ y ∷ d) is)) more.1)

pub parts_same : (a b c d : Log) (x y : ℕ × List Entry) → a ++ x ∷ c ≡ b ++ y ∷ d → AreBelow x.0 a → AreBelow y.0 b → x.0 ≡ y.0 → (a ≡ b) × (x ≡ y)
parts_same [] [] c d x y is below_a below_b same = (refl, head_is x y c d is)
parts_same [] (z ∷ b) c d x y is below_a below_b same = absurd (let e = ap (λ (w : ℕ × List Entry). w.0) (head_is x z c (b ++ y ∷ d) is) in let first = below_b.0 in omega (arith, e))
parts_same (w ∷ a) [] c d x y is below_a below_b same = absurd (let e = ap (λ (z : ℕ × List Entry). z.0) (head_is w y (a ++ x ∷ c) d is) in let first = below_a.0 in omega (arith, e))
parts_same (w ∷ a) (z ∷ b) c d x y is below_a below_b same =
    let more = parts_same a b c d x y (unwritten_is w z (a ++ x ∷ c) (b ++ y ∷ d) is) below_a.1 below_b.1 same in
    (ap₂ (λ (v : ℕ × List Entry) (l : Log). v ∷ l) (head_is w z (a ++ x ∷ c) (b ++ y ∷ d) is) more.0, more.1)

-- ---- the entries of the parts

pub entries-append : (a b : Log) → entries_of (a ++ b) ≡ entries_of a ++ entries_of b
entries-append [] b = refl
entries-append (file ∷ a) b = ap (λ (x : List Entry). file.1 ++ x) (entries-append a b) ∙ sym (append_assoc file.1 (entries_of a) (entries_of b))

pub entries_parted : (before : Log) (n : ℕ) (kept more : List Entry) (after : Log) → entries_of (before ++ (n, kept ++ more) ∷ after) ≡ (entries_of before ++ kept) ++ (more ++ entries_of after)
entries_parted before n kept more after =
    entries-append before ((n, kept ++ more) ∷ after)
    ∙ ap (λ (x : List Entry). entries_of before ++ x) (append_assoc kept more (entries_of after))
    ∙ sym (append_assoc (entries_of before) kept (more ++ entries_of after))

-- a part has as many entries at most
pub count_part : (before : Log) (n : ℕ) (kept more : List Entry) (after log : Log) → log ≡ before ++ (n, kept ++ more) ∷ after → length (entries_of before) + length kept ≤ length (entries_of log)
count_part before n kept more after log is =
    let all = ap (λ (l : Log). length (entries_of l)) is in
    let parts = ap length (entries_parted before n kept more after) in
    let two = length-append (entries_of before ++ kept) (more ++ entries_of after) in
    let one = length-append (entries_of before) kept in
    omega (arith, all, parts, two, one)
