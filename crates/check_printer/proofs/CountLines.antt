-- How many lines findings have, one by one.
use Rattle.std.proofs.Common.{◌≡◌, ℕ, zero, suc, ◌+◌, ◌==◌, ◌<◌, ◌++◌, Bool, false, List, [], ◌∷◌, length, take, get_or, codes, decimal, arith, refl, sym, ap, ◌∙◌}
use Rattle.std.proofs.lemmas.Bool.{cond-false}
use Rattle.check_laws.specs.declared.finding.Finding.{Finding}
use Rattle.check_printer.specs.CheckText.{count_all_lines, count_lines, verdict_line}

-- those of one finding more
one_more : (findings : List Finding) (k : ℕ) (x : Finding) → k < length findings → x ≡ get_or findings k x → count_all_lines (take k findings) + count_lines x ≡ count_all_lines (take (suc k) findings)
one_more [] k x lt is = absurd (omega (arith, lt))
one_more (y ∷ findings) zero x lt is =
    let same : count_lines x ≡ count_lines y = ap count_lines is in
    omega (arith, same)
one_more (y ∷ findings) (suc k) x lt is =
    let rest : count_all_lines (take k findings) + count_lines x ≡ count_all_lines (take (suc k) findings) = one_more findings k x (omega (arith, lt)) is in
    omega (arith, rest)

pub counts_next : (findings : List Finding) (k : ℕ) (x : Finding) → k < length findings → x ≡ get_or findings k x → count_all_lines (take k findings) + count_lines x ≡ count_all_lines (take (k + 1) findings)
counts_next findings k x lt is = one_more findings k x lt is ∙ ap (λ n. count_all_lines (take n findings)) (let e : suc k ≡ k + 1 = omega arith in e)

-- the last line where something was found
pub verdict_found : (findings : List Finding) → (length findings == 0) ≡ false → codes "verify findings " ++ decimal (count_all_lines findings) ++ codes "\n" ≡ verdict_line findings
verdict_found findings some = sym (cond-false (length findings == 0) (codes "verify ok\n") (codes "verify findings " ++ decimal (count_all_lines findings) ++ codes "\n") some)
