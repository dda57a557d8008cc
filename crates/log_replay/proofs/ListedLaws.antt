-- The files of a listing, with the bytes that a disk reads.
use Rattle.std.proofs.Common.{◌≡◌, ℕ, suc, ◌==◌, ◌||◌, Bool, true, false, cond, List, [], ◌∷◌, Option, Some, None, map, length, refl, sym, ap, subst, ◌∙◌, arith, nat_eq, inl, inr}
use Rattle.std.specs.Prelude.{IsSome}
use Rattle.std.proofs.lemmas.Bool.Decides.{nat_tests}
use Rattle.std.proofs.lemmas.Bool.{eqb-true, cases_Bool}
use Rattle.std.proofs.lemmas.Cmp.{nat_eq_equiv}
use Rattle.std.proofs.lemmas.Map.Views.{list_any-from_Contains, Contains-from_any}
use Rattle.std.specs.List.{AllByRecursion, list_any, Contains}
use Rattle.std.specs.List.Sorted.{IsStrictlyIncreasing}
use Rattle.std.specs.Map.{lookup}
use Rattle.je_disk.specs.States.{Files, content, AreRisingNumbers, IsListing}
use Rattle.je_lsn.specs.declared.file_no.FileNo.{FileNo}
use Rattle.log_file.specs.Log.{AreFiles}
use Rattle.log_replay.specs.Reading.{files_read}

pub read_numbers : (reads : Files) (files : List FileNo) → map (λ e. e.0) (files_read reads files) ≡ map (λ f. f.0) files
read_numbers reads [] = refl
read_numbers reads (f ∷ files) = ap (λ (l : List ℕ). f.0 ∷ l) (read_numbers reads files)

pub read_length : (reads : Files) (files : List FileNo) → length (files_read reads files) ≡ length files
read_length reads [] = refl
read_length reads (f ∷ files) = ap suc (read_length reads files)

pub read_observed : (reads : Files) (files : List FileNo) → AllByRecursion (λ (e : ℕ × List ℕ). e.1 ≡ content reads e.0) (files_read reads files)
read_observed reads [] = tt
read_observed reads (f ∷ files) = (refl, read_observed reads files)

-- files of these numbers with these bytes are the ones that are read
pub same_files : (reads : Files) (files : List FileNo) (held : List (ℕ × List ℕ)) → map (λ e. e.0) held ≡ map (λ f. f.0) files →
    AllByRecursion (λ (e : ℕ × List ℕ). e.1 ≡ content reads e.0) held → held ≡ files_read reads files
same_files reads [] [] numbers observed = refl
same_files reads [] (x ∷ held) numbers observed = absurd cc
same_files reads (f ∷ files) [] numbers observed = absurd cc
same_files reads (f ∷ files) (x ∷ held) numbers observed =
    let first : x.0 ≡ f.0 = cc in
    let others : map (λ (e : ℕ × List ℕ). e.0) held ≡ map (λ (g : FileNo). g.0) files = cc in
    let is : x ≡ (f.0, content reads f.0) =
    ap (λ (b : List ℕ). let p : ℕ × List ℕ = (x.0, b) in p) observed.0 ∙ ap (λ (n : ℕ). let p : ℕ × List ℕ = (n, content reads n) in p) first in
    ap (λ (p : ℕ × List ℕ). p ∷ held) is ∙ ap (λ (l : List (ℕ × List ℕ)). let p : ℕ × List ℕ = (f.0, content reads f.0) in p ∷ l) (same_files reads files held others observed.1)

-- what is read under a number: the file where it is among the files, else nothing
lookup_read : (reads : Files) (files : List FileNo) (n : ℕ) →
    lookup (λ k. k == n) (files_read reads files) ≡ cond (list_any (nat_eq n) (map (λ f. f.0) files)) (Some (content reads n)) None
lookup_read reads [] n = refl
lookup_read reads (f ∷ files) n = rw (turned f.0 n) (by_case (nat_eq n f.0) refl (lookup_read reads files n))
  where
    turned : (a b : ℕ) → (a == b) ≡ nat_eq b a
    turned a b = grind (arith, nat_tests)

    by_case : (b : Bool) → nat_eq n f.0 ≡ b → lookup (λ k. k == n) (files_read reads files) ≡ cond (list_any (nat_eq n) (map (λ (g : FileNo). g.0) files)) (Some (content reads n)) None →
        cond b (Some (content reads f.0)) (lookup (λ k. k == n) (files_read reads files)) ≡ cond (b || list_any (nat_eq n) (map (λ (g : FileNo). g.0) files)) (Some (content reads n)) None
    by_case true is rest = ap (λ (k : ℕ). Some (content reads k)) (sym (eqb-true n f.0 is))
    by_case false is rest = rest

some_content : (reads : Files) (n : ℕ) (o : Option (List ℕ)) → reads n ≡ o → IsSome o → Some (content reads n) ≡ o
some_content reads n (Some bytes) is h = rw is refl
some_content reads n None is h = absurd cc

none_read : (reads : Files) (n : ℕ) (o : Option (List ℕ)) → reads n ≡ o → (IsSome o → ⊥) → None ≡ o
none_read reads n None is h = refl
none_read reads n (Some bytes) is h = absurd (h refl)

pub listed : (reads : Files) (files : List FileNo) (held : List (ℕ × List ℕ)) → map (λ e. e.0) held ≡ map (λ f. f.0) files →
    AllByRecursion (λ (e : ℕ × List ℕ). e.1 ≡ content reads e.0) held → AreRisingNumbers files → IsListing reads files → AreFiles reads held
listed reads files held numbers observed rising listing =
    let there : (n : ℕ) → Contains (map (λ (f : FileNo). f.0) files) n → IsSome (reads n) = λ n. (listing n).0 in
    let back : (n : ℕ) → IsSome (reads n) → Contains (map (λ (f : FileNo). f.0) files) n = λ n. (listing n).1 in
    record {
      rising = subst IsStrictlyIncreasing (sym numbers) rising;
      each = λ n.
          ap (lookup (λ k. k == n)) (same_files reads files held numbers observed) ∙ lookup_read reads files n
          ∙ elim (cases_Bool (list_any (nat_eq n) (map (λ (f : FileNo). f.0) files))) [
            | inl is ↦ rw is (some_content reads n (reads n) refl (there n (Contains-from_any (λ x y. eqb-true x y) n (map (λ (f : FileNo). f.0) files) is)))
            | inr is ↦ rw is (none_read reads n (reads n) refl
                (λ some. let always = list_any-from_Contains nat_eq_equiv n (map (λ (f : FileNo). f.0) files) (back n some) in let never : true ≡ false = sym always ∙ is in absurd cc))
          ];
    }
