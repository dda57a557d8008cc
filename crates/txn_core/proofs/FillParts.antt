-- The parts of a plan that makes an index and fills it.
use Rattle.std.proofs.Common.{◌≡◌, ℕ, List, ◌∷◌, ◌++◌, map, ap, ap₂, sym, ◌∙◌, append_assoc}
use Rattle.store_model.specs.declared.extract.Extract.{Extract}
use Rattle.store_model.specs.declared.kind.Kind.TheVariants.{Plain}
use Rattle.store_model.specs.Store.{Pair}
use Rattle.secondary.specs.Pairs.{keyed, keyed_pairs}
use Rattle.log_replay.specs.Rows.{Row, pair_of}

-- the pair of one more record comes behind those of the records in front of it
pub one_pair_more : (extract : Extract) (old new : List Pair) (e : Row) (key value : List ℕ) (left behind all : List Row) → new ≡ old ++ keyed extract (key, value) → key ≡ e.0.key → value ≡ e.1 →
    left ≡ e ∷ behind → old ++ keyed_pairs extract (map (pair_of Plain) left) ≡ keyed_pairs extract (map (pair_of Plain) all) →
    new ++ keyed_pairs extract (map (pair_of Plain) behind) ≡ keyed_pairs extract (map (pair_of Plain) all)
one_pair_more extract old new e key value left behind all more key_is value_is left_is are =
    let rest : List Pair = keyed_pairs extract (map (pair_of Plain) behind) in
    ap (λ (l : List Pair). l ++ rest) (more ∙ ap₂ (λ (k v : List ℕ). old ++ keyed extract (k, v)) key_is value_is)
    ∙ append_assoc old (keyed extract (e.0.key, e.1)) rest
    ∙ ap (λ (l : List Row). old ++ keyed_pairs extract (map (pair_of Plain) l)) (sym left_is)
    ∙ are
