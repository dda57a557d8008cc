-- The numbers of files in order.
use Rattle.std.proofs.Common.{◌≡◌, ℕ, List, [], ◌∷◌, map, ap, sym, ◌∙◌, subst, refl, nat_cmp, Vec, Result, Ok, Err, IfOk}
use Rattle.std.specs.declared.alloc.Global.{Global}
use Rattle.std.specs.declared.alloc.AllocError.{AllocError}
use Rattle.std.specs.BTreeSet.{BTreeSet, IsOrdered}
use Rattle.std.specs.List.Sorted.{IsStrictlyIncreasing}
use Rattle.std.proofs.lemmas.Map.Keys.{IsStrictlyIncreasing-from_sorted}
use Rattle.je_lsn.specs.declared.file_no.FileNo.{FileNo}
use Rattle.je_disk.specs.States.{AreRisingNumbers}

-- the numbers of numbered files
numbers-back : (xs : List ℕ) → map {B = ℕ} (λ (n : FileNo). n.0) (map {B = FileNo} (λ (n : ℕ). record { 0 = n }) xs) ≡ xs
numbers-back [] = refl
numbers-back (x ∷ xs) = ap (λ ys. x ∷ ys) (numbers-back xs)

-- files that are numbered by a set's keys rise
pub numbers_rise : (r : Result (Vec FileNo Global) AllocError) (set : BTreeSet ℕ) (ks : List ℕ) →
    IfOk r (λ files. files.items ≡ map (λ n. record { 0 = n }) ks) → ks ≡ set.keys → IsOrdered nat_cmp set →
    IfOk r (λ files. AreRisingNumbers files.items)
numbers_rise (Ok files) set ks is from ordered =
    subst IsStrictlyIncreasing (sym (ap (map {B = ℕ} (λ (n : FileNo). n.0)) is ∙ numbers-back ks ∙ from)) (IsStrictlyIncreasing-from_sorted set.keys ordered)
numbers_rise (Err _) set ks is from ordered = tt
