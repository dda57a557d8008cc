-- The lines of a gap, file by file.
use Rattle.std.proofs.Common.{◌≡◌, ℕ, zero, suc, ◌+◌, ◌-◌, ◌<◌, ◌≤◌, ◌++◌, List, [], codes, append_assoc, arith, refl, sym, ap, ◌∙◌}
use Rattle.std.proofs.lemmas.List.{append-nil}
use Rattle.log_file.specs.Placed.{lsn_at}
use Rattle.check_printer.specs.CheckText.{gap_lines, place_line}

abbrev missing_line : ℕ → List ℕ
missing_line f = place_line (codes "missing ") (lsn_at f 0)

-- one file more
gap_more : (first n : ℕ) → gap_lines first (suc n) ≡ gap_lines first n ++ missing_line (first + n)
gap_more first zero = append-nil (missing_line first) ∙ ap missing_line (let e : first ≡ first + 0 = omega arith in e)
gap_more first (suc n) =
    ap (λ (t : List ℕ). missing_line first ++ t) (gap_more (first + 1) n)
    ∙ sym (append_assoc (missing_line first) (gap_lines (first + 1) n) (missing_line (first + 1 + n)))
    ∙ ap (λ m. gap_lines first (suc n) ++ missing_line m) (let e : first + 1 + n ≡ first + suc n = omega arith in e)

-- the files so far, and the next one
pub gap_next : (first file : ℕ) → first ≤ file → gap_lines first (file - first) ++ missing_line file ≡ gap_lines first (file + 1 - first)
gap_next first file upto =
    let at : first + (file - first) ≡ file = omega (arith, upto) in
    let more : suc (file - first) ≡ file + 1 - first = omega (arith, upto) in
    ap (λ m. gap_lines first (file - first) ++ missing_line m) (sym at) ∙ sym (gap_more first (file - first)) ∙ ap (gap_lines first) more
