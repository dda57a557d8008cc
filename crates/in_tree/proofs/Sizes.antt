-- The sizes of entries that are to come.
use Rattle.std.proofs.Common.{◌≡◌, ◌<◌, ◌+◌, ◌-◌, ◌++◌, ◌∷◌, [], ℕ, List, suc, ap, sym, ◌∙◌, arith}
use Rattle.std.proofs.lemmas.List.{append_assoc}
use Rattle.in_tree.specs.Limits.{commit_size, commit_sizes}

-- a Commit more
pub commits_step : (sizes more : List ℕ) (size owed i : ℕ) (whole : List ℕ) → i < owed → size ≡ commit_size → more ≡ sizes ++ size ∷ [] →
    sizes ++ commit_sizes (owed - i) ≡ whole → more ++ commit_sizes (owed - (i + 1)) ≡ whole
commits_step sizes more size owed i whole within is pushed so_far =
    let next : owed - i ≡ suc (owed - (i + 1)) = omega (arith, within) in
    ap (λ (l : List ℕ). l ++ commit_sizes (owed - (i + 1))) pushed
    ∙ append_assoc sizes (size ∷ []) (commit_sizes (owed - (i + 1)))
    ∙ ap (λ (n : ℕ). sizes ++ n ∷ commit_sizes (owed - (i + 1))) is
    ∙ sym (ap (λ (n : ℕ). sizes ++ commit_sizes n) next)
    ∙ so_far
