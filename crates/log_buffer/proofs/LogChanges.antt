-- A log with an entry more, and without a file.
use Rattle.std.proofs.Common.{◌≡◌, ◌≢◌, ℕ, ◌<◌, ◌≤◌, ◌^◌, ◌==◌, Bool, true, false, cond, List, [], ◌∷◌, ◌++◌, Option, Some, None, map, refl, sym, ap, subst, ◌∙◌, arith, nat_cmp, append_assoc}
use Rattle.std.specs.declared.cmp.Ordering.TheVariants.{Less}
use Rattle.std.proofs.lemmas.Bool.Decides.{nat_tests}
use Rattle.std.proofs.lemmas.List.{append-nil}
use Rattle.std.proofs.lemmas.Map.Keys.{IsStrictlyIncreasing-from_sorted, sorted_from_strictly_increasing}
use Rattle.std.specs.List.{AllByRecursion}
use Rattle.std.specs.List.Sorted.{IsStrictlySortedBy, IsStrictlyIncreasing}
use Rattle.std.specs.Map.{lookup}
use Rattle.log_entry.specs.declared.entry.Entry.{Entry}
use Rattle.log_file.specs.Log.{Log, IsLog, AreFileEntries, entries_of}
use Rattle.log_buffer.specs.Log.{log_with}
use Rattle.je_order.proofs.Lists.{all_push}

-- each file's number is below this one
abbrev pub AreBelow : ℕ → Log → Type 0
AreBelow n log = AllByRecursion (λ file. file.0 < n) log

-- ---- a log with a last file

last_of_all : (P : ℕ → Type 0) (before : Log) (last : ℕ × List Entry) → AllByRecursion P (map (λ file. file.0) (before ++ last ∷ [])) → P last.0
last_of_all P [] last all = all.0
last_of_all P (file ∷ before) last all = last_of_all P before last all.1

pub below_from : (before : Log) (last : ℕ × List Entry) → IsStrictlySortedBy nat_cmp (map (λ file. file.0) (before ++ last ∷ [])) → AreBelow last.0 before
unfolding IsStrictlySortedBy
below_from [] last sorted = tt
below_from (file ∷ before) last sorted =
    let less = last_of_all (λ m. nat_cmp file.0 m ≡ Less) before last sorted.0 in
    (grind (arith, nat_tests, less), below_from before last sorted.1)

-- the files before the last one have numbers below its number
pub below_last : (before : Log) (last : ℕ × List Entry) → IsLog (before ++ last ∷ []) → AreBelow last.0 before
below_last before last is = below_from before last (sorted_from_strictly_increasing _ is.rising)

pub below_more : (n m : ℕ) (log : Log) → n ≤ m → AreBelow n log → AreBelow m log
below_more n m [] le all = tt
below_more n m (file ∷ log) le all = (let first = all.0 in omega (arith, first), below_more n m log le all.1)

all_front : {X : Type 0} (P : X → Type 0) (xs : List X) (x : X) → AllByRecursion P (xs ++ x ∷ []) → AllByRecursion P xs
all_front P [] x all = tt
all_front P (y ∷ xs) x all = (all.0, all_front P xs x all.1)

all_last : {X : Type 0} (P : X → Type 0) (xs : List X) (x : X) → AllByRecursion P (xs ++ x ∷ []) → P x
all_last P [] x all = all.0
all_last P (y ∷ xs) x all = all_last P xs x all.1

pub below_push : (n : ℕ) (log : Log) (last : ℕ × List Entry) → AreBelow n log → last.0 < n → AreBelow n (log ++ last ∷ [])
below_push n log last all less = all_push (λ file. file.0 < n) log last all less

less_all : (n : ℕ) (log : Log) (last : ℕ × List Entry) → AllByRecursion (λ m. nat_cmp n m ≡ Less) (map (λ file. file.0) log) → n < last.0 → AllByRecursion (λ m. nat_cmp n m ≡ Less) (map (λ file. file.0) (log ++ last ∷ []))
less_all n [] last all less = (grind (arith, nat_tests, less), tt)
less_all n (file ∷ log) last all less = (all.0, less_all n log last all.1 less)

pub sorted_push : (log : Log) (last : ℕ × List Entry) → IsStrictlySortedBy nat_cmp (map (λ file. file.0) log) → AreBelow last.0 log → IsStrictlySortedBy nat_cmp (map (λ file. file.0) (log ++ last ∷ []))
unfolding IsStrictlySortedBy
sorted_push [] last sorted all = (tt, tt)
sorted_push (file ∷ log) last sorted all = (less_all file.0 log last sorted.0 all.0, sorted_push log last sorted.1 all.1)

-- a file more behind all others
pub is_log_push : (log : Log) (last : ℕ × List Entry) → IsLog log → AreBelow last.0 log → last.0 < 2 ^ 32 → AreFileEntries last.1 → IsLog (log ++ last ∷ [])
is_log_push log last is all small are = record {
  rising = IsStrictlyIncreasing-from_sorted _ (sorted_push log last (sorted_from_strictly_increasing _ is.rising) all);
  each = all_push (λ file. (file.0 < 2 ^ 32) × AreFileEntries file.1) log last is.each (small, are);
}

pub numbers_push : (log : Log) (n : ℕ) (a b : List Entry) → map (λ file. file.0) (log ++ (n, a) ∷ []) ≡ map (λ file. file.0) (log ++ (n, b) ∷ [])
numbers_push [] n a b = refl
numbers_push (file ∷ log) n a b = ap (λ (l : List ℕ). file.0 ∷ l) (numbers_push log n a b)

pub last_entries : (before : Log) (n : ℕ) (entries : List Entry) → IsLog (before ++ (n, entries) ∷ []) → AreFileEntries entries
last_entries before n entries is = (all_last (λ file. (file.0 < 2 ^ 32) × AreFileEntries file.1) before (n, entries) is.each).1

-- other entries in the last file
pub is_log_last : (before : Log) (n : ℕ) (old new : List Entry) → IsLog (before ++ (n, old) ∷ []) → AreFileEntries new → IsLog (before ++ (n, new) ∷ [])
is_log_last before n old new is are = record {
  rising = subst IsStrictlyIncreasing (numbers_push before n old new) is.rising;
  each = all_push (λ file. (file.0 < 2 ^ 32) × AreFileEntries file.1) before (n, new) (all_front (λ file. (file.0 < 2 ^ 32) × AreFileEntries file.1) before (n, old) is.each)
      ((all_last (λ file. (file.0 < 2 ^ 32) × AreFileEntries file.1) before (n, old) is.each).0, are);
}

-- ---- looking a file up

other_than : (n m : ℕ) → n < m → (n == m) ≡ false
other_than n m less = grind (arith, nat_tests)

apart_than : (n m : ℕ) → m ≢ n → (n == m) ≡ false
apart_than n m apart = grind (arith, nat_tests)

same_as : (n : ℕ) → (n == n) ≡ true
same_as n = grind (arith, nat_tests)

pub lookup_last : (before : Log) (n : ℕ) (entries : List Entry) → AreBelow n before → lookup (λ k. k == n) (before ++ (n, entries) ∷ []) ≡ Some entries
lookup_last [] n entries all = ap (λ (b : Bool). cond b (Some entries) None) (same_as n)
lookup_last (file ∷ before) n entries all =
    ap (λ (b : Bool). cond b (Some file.1) (lookup (λ k. k == n) (before ++ (n, entries) ∷ []))) (other_than file.0 n all.0) ∙ lookup_last before n entries all.1

pub lookup_none : (log : Log) (n : ℕ) → AreBelow n log → lookup (λ k. k == n) log ≡ None
lookup_none [] n all = refl
lookup_none (file ∷ log) n all =
    ap (λ (b : Bool). cond b (Some file.1) (lookup (λ k. k == n) log)) (other_than file.0 n all.0) ∙ lookup_none log n all.1

pub lookup_push : (log : Log) (n f : ℕ) (entries : List Entry) → f ≢ n → lookup (λ k. k == f) (log ++ (n, entries) ∷ []) ≡ lookup (λ k. k == f) log
lookup_push [] n f entries apart = ap (λ (b : Bool). cond b (Some entries) None) (apart_than n f apart)
lookup_push (file ∷ log) n f entries apart = ap (λ (o : Option (List Entry)). cond (file.0 == f) (Some file.1) o) (lookup_push log n f entries apart)

-- ---- an entry more

pub with_last : (before : Log) (n : ℕ) (entries : List Entry) (e : Entry) → AreBelow n before → log_with n e (before ++ (n, entries) ∷ []) ≡ before ++ (n, entries ++ e ∷ []) ∷ []
with_last [] n entries e all = ap (λ (b : Bool). cond b ((n, entries ++ e ∷ []) ∷ []) ((n, entries) ∷ log_with n e [])) (same_as n)
with_last (file ∷ before) n entries e all =
    ap (λ (b : Bool). cond b ((n, file.1 ++ e ∷ []) ∷ (before ++ (n, entries) ∷ [])) (file ∷ log_with n e (before ++ (n, entries) ∷ []))) (other_than file.0 n all.0)
    ∙ ap (λ (l : Log). file ∷ l) (with_last before n entries e all.1)

pub with_next : (log : Log) (n : ℕ) (e : Entry) → AreBelow n log → log_with n e log ≡ log ++ (n, e ∷ []) ∷ []
with_next [] n e all = refl
with_next (file ∷ log) n e all =
    ap (λ (b : Bool). cond b ((n, file.1 ++ e ∷ []) ∷ log) (file ∷ log_with n e log)) (other_than file.0 n all.0)
    ∙ ap (λ (l : Log). file ∷ l) (with_next log n e all.1)

entries_push : (log : Log) (n : ℕ) (entries : List Entry) → entries_of (log ++ (n, entries) ∷ []) ≡ entries_of log ++ entries
entries_push [] n entries = append-nil entries
entries_push (file ∷ log) n entries = ap (λ (x : List Entry). file.1 ++ x) (entries_push log n entries) ∙ sym (append_assoc file.1 (entries_of log) entries)

pub entries_with_last : (before : Log) (n : ℕ) (entries : List Entry) (e : Entry) → AreBelow n before → entries_of (log_with n e (before ++ (n, entries) ∷ [])) ≡ entries_of (before ++ (n, entries) ∷ []) ++ e ∷ []
entries_with_last before n entries e all =
    ap entries_of (with_last before n entries e all) ∙ entries_push before n (entries ++ e ∷ []) ∙ sym (append_assoc (entries_of before) entries (e ∷ []))
    ∙ ap (λ (x : List Entry). x ++ e ∷ []) (sym (entries_push before n entries))

pub entries_with_next : (log : Log) (n : ℕ) (e : Entry) → AreBelow n log → entries_of (log_with n e log) ≡ entries_of log ++ e ∷ []
entries_with_next log n e all = ap entries_of (with_next log n e all) ∙ entries_push log n (e ∷ [])
