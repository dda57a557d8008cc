-- Changes that wait for their commits.
use Rattle.std.proofs.Common.{◌≡◌, ℕ, List, [], ◌∷◌, ◌++◌, ◌==◌, Bool, true, false, cond, Some, None, refl, ap, sym, ◌∙◌, arith}
use Rattle.std.proofs.lemmas.Bool.Decides.{nat_tests}
use Rattle.log_trees.specs.Changes.{LoggedChange}
use Rattle.log_meaning.specs.Redo.{pushed, emptied}
use Rattle.log_replay.proofs.MapRows.{list_in, IsUpdated, list_updated}
use Rattle.recovery_je.specs.Redoing.{waits}

turned : (a b : ℕ) → (a == b) ≡ (b == a)
turned a b = grind (arith, nat_tests)

-- one more change of a transaction
pub waits_pushed : (txn : ℕ) (change : LoggedChange) (found list : List LoggedChange) (old new : List (ℕ × List LoggedChange)) →
    IsUpdated txn (Some list) old new → list ≡ found ++ change ∷ [] → list_in old txn ≡ found → (t : ℕ) → waits new t ≡ pushed txn change (waits old) t
waits_pushed txn change found list old new updates more is t =
    list_updated txn (Some list) old new updates t ∙ ap (λ (b : Bool). cond b list (list_in old t)) (turned t txn) ∙ by_case (txn == t) refl
  where
    by_case : (b : Bool) → (txn == t) ≡ b → cond b list (list_in old t) ≡ cond b (waits old t ++ change ∷ []) (waits old t)
    by_case true h =
        let same : txn ≡ t = grind (arith, nat_tests) in
        more ∙ ap (λ (l : List LoggedChange). l ++ change ∷ []) (sym is ∙ ap (λ (n : ℕ). list_in old n) same)
    by_case false h = refl

-- a transaction's changes taken out
pub waits_taken : (txn : ℕ) (old new : List (ℕ × List LoggedChange)) → IsUpdated txn None old new → (t : ℕ) → waits new t ≡ emptied txn (waits old) t
waits_taken txn old new updates t = list_updated txn None old new updates t ∙ ap (λ (b : Bool). cond b [] (list_in old t)) (turned t txn)
