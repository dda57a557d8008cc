-- Transactions with own changes, by their counts.
use Rattle.std.proofs.Common.{◌≡◌, ℕ, suc, ◌==◌, false, not, List, [], ◌∷◌, length, filter, refl, ap, ap₂, ◌∙◌, arith}
use Rattle.std.proofs.lemmas.Bool.Decides.{nat_tests}
use mathlib.Core.Path.{fun_ext}
use Rattle.store_model.specs.declared.record_change.RecordChange.{RecordChange}
use Rattle.je_answers.specs.declared.active.Active.{Active}
use Rattle.active_txns.specs.Own.{AreCounted, OwnEntries, counted, counts_at, has_changes, has_some}

none_less : (n : ℕ) → (suc n == 0) ≡ false
none_less n = grind (arith, nat_tests)

some_changes : (cs : List (ℕ × RecordChange)) → has_some (counted cs) ≡ has_changes cs
some_changes [] = refl
some_changes (c ∷ cs) = ap not (none_less (length cs))

-- as many have own changes as by the counts
pub owing_is : (entries : OwnEntries) (own : ℕ → List (ℕ × RecordChange)) (now as_ : List Active) → AreCounted entries own → now ≡ as_
    → length (filter (λ a. has_some (counts_at a.txn entries)) now) ≡ length (filter (λ a. has_changes (own a.txn.0)) as_)
owing_is entries own now as_ are is =
    ap₂ (λ (p : Active → _) (l : List Active). length (filter p l)) (fun_ext (λ (a : Active). ap has_some (are a.txn.0) ∙ some_changes (own a.txn.0))) is
