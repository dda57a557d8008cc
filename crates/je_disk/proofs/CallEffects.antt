-- What the calls do to the files as they read.
use Rattle.std.proofs.Common.{◌≡◌, ◌≤◌, ℕ, Bool, true, false, List, Option, Some, None, ◌++◌, length, take, nat_lt, if◌then◌else◌, refl, sym, ap, ◌∙◌, arith}
use Rattle.std.proofs.lemmas.Bool.{ltb-false}
use Rattle.std.proofs.lemmas.Bool.Decides.{nat_tests}
use Rattle.std.proofs.Math.ListN.{drop_of_length-le, take-append-drop}
use Rattle.std.proofs.lemmas.List.{append-nil}
use Rattle.std.specs.Option.{option_map}
use Rattle.je_disk.specs.States.{State, put_at, put_file, shortened, cut, cut_by, removed, removed_by}

-- what is put where it was already changes nothing
pub put_at-same : {T : Type 0} (values : ℕ → T) (f g : ℕ) (x : T) → values f ≡ x → put_at values f x g ≡ values g
put_at-same values f g x is = grind (arith, nat_tests)

-- a list that is no longer than a length is its own front
take_all : (len : ℕ) (xs : List ℕ) → length xs ≤ len → take len xs ≡ xs
take_all len xs short =
    sym (append-nil (take len xs)) ∙ ap (λ (ys : List ℕ). take len xs ++ ys) (sym (drop_of_length-le xs short)) ∙ take-append-drop len xs

-- a file that was cut has its front, and the others are as they were
pub cut-reads : (f g len : ℕ) (s : State) → (cut f len s).reads g ≡ put_at s.reads f (option_map (take len) (s.reads f)) g
cut-reads f g len s = by_file (s.reads f) refl where
  by_length : (there : List ℕ) (longer : Bool) → s.reads f ≡ Some there → nat_lt len (length there) ≡ longer →
      (if longer then put_file f (Some (take len there)) (shortened len) s else s).reads g ≡ put_at s.reads f (Some (take len there)) g
  by_length there true is long = refl
  by_length there false is long =
      sym (put_at-same s.reads f g (Some (take len there)) (is ∙ ap (λ xs. Some xs) (sym (take_all len there (ltb-false len (length there) long)))))

  by_file : (file : Option (List ℕ)) → s.reads f ≡ file → (cut_by file f len s).reads g ≡ put_at s.reads f (option_map (take len) file) g
  by_file None is = sym (put_at-same s.reads f g None is)
  by_file (Some there) is = by_length there (nat_lt len (length there)) is refl

-- a file that was removed is not there, and the others are as they were
pub removed-reads : (f g : ℕ) (s : State) → (removed f s).reads g ≡ put_at s.reads f None g
removed-reads f g s = by_file (s.reads f) refl where
  by_file : (file : Option (List ℕ)) → s.reads f ≡ file → (removed_by file f s).reads g ≡ put_at s.reads f None g
  by_file None is = sym (put_at-same s.reads f g None is)
  by_file (Some there) is = refl
