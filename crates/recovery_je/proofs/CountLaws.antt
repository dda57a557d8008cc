-- How many entries stand at an LSN or behind it.
use Rattle.std.proofs.Common.{◌≡◌, ◌+◌, ℕ, Bool, false, cond, List, [], ◌∷◌, length, Result, Ok, Err, refl, sym, ap, ◌∙◌, arith}
use Rattle.std.specs.Prelude.{nat_le, IfOk}
use Rattle.std.specs.List.{count_by}
use Rattle.std.proofs.lemmas.Bool.{le-leb}
use Rattle.std.proofs.lemmas.List.Sums.{sum_by-cons}
use Rattle.log_trees.specs.Placed.{Placed}
use Rattle.recovery_je.specs.Putting.{are_whole, count_from}

-- how many of entries do
abbrev pub count_of : ℕ → List Placed → ℕ
count_of r es = count_by (λ (p : Placed). nat_le r p.0) es

count_cons : (r : ℕ) (p : Placed) (es : List Placed) → count_of r (p ∷ es) ≡ cond (nat_le r p.0) 1 0 + count_of r es
count_cons r p es = sum_by-cons (λ (q : Placed). cond (nat_le r q.0) 1 0) p es

-- all of them stand at 0 or behind it
pub counts_all : (es : List Placed) → count_of 0 es ≡ length es
counts_all [] = refl
counts_all (p ∷ es) =
    let here = count_cons 0 p es in
    let yes : ◌≡◌ {A = ℕ} (cond (nat_le 0 p.0) 1 0) 1 = ap (λ (b : Bool). let n : ℕ = cond b 1 0 in n) (le-leb 0 p.0 (omega arith)) in
    let more = counts_all es in
    omega (arith, here, yes, more)

pub counts_else : {E : Type 0} (r : Result ℕ E) (first redo : ℕ) (es all : List Placed) (whole : Bool) → first ≡ 0 → es ≡ all → whole ≡ are_whole all → whole ≡ false → IfOk r (λ count. count ≡ count_of first es) → IfOk r (λ count. count ≡ count_from redo all)
counts_else (Err e) first redo es all whole first_is same whole_is partly counted = tt
counts_else (Ok count) first redo es all whole first_is same whole_is partly counted =
    counted
    ∙ ap (λ (n : ℕ). count_of n es) first_is
    ∙ ap (count_of 0) same
    ∙ counts_all all
    ∙ sym (ap (λ (b : Bool). cond b (count_of redo all) (length all)) (sym whole_is ∙ partly))
