-- The counts of what transactions changed, after a change of their map.
use Rattle.std.proofs.Common.{◌≡◌, ℕ, ◌+◌, ◌==◌, false, cond, List, [], ◌∷◌, ◌++◌, refl, ap, ap₂, sym, ◌∙◌, ⊎_elim, arith}
use Rattle.std.specs.Prelude.{count_by}
use Rattle.std.proofs.lemmas.Bool.{cases_Bool, cond-true, cond-false}
use Rattle.std.proofs.lemmas.Bool.Decides.{nat_tests}
use Rattle.std.proofs.lemmas.List.{length-append}
use Rattle.std.proofs.lemmas.List.Sums.{sum_by-append}
use Rattle.je_order.specs.declared.txn_id.TxnId.{TxnId}
use Rattle.je_order.specs.Transactions.{is_same_txn}
use Rattle.store_model.specs.declared.record_change.RecordChange.{RecordChange}
use Rattle.je_answers.specs.Standing.{with_at}
use Rattle.active_txns.specs.declared.own_counts.OwnCounts.{OwnCounts}
use Rattle.active_txns.specs.Own.{AreCounted, OwnEntries, counted, counts_at, is_set, counts_added, none_counted}

abbrev Changes : Type 0
Changes = List (ℕ × RecordChange)

same_either : (m n : ℕ) → (m == n) ≡ (n == m)
same_either m n = grind (arith, nat_tests)

-- one transaction changed more, or less
pub are_counted_at : (old new : OwnEntries) (txn : TxnId) (counts : OwnCounts) (own : ℕ → Changes) (list : Changes) → ((t : TxnId) → counts_at t new ≡ cond (is_same_txn txn t) counts (counts_at t old))
    → counts ≡ counted list → ((n : ℕ) → (n == txn.0) ≡ false → counts_at (record { 0 = n }) old ≡ counted (own n)) → AreCounted new (with_at txn.0 list own)
are_counted_at old new txn counts own list put is others n = ⊎_elim
    (λ e. put (record { 0 = n }) ∙ (cond-true (txn.0 == n) counts (counts_at (record { 0 = n }) old) (same_either txn.0 n ∙ e) ∙ (is ∙ ap counted (sym (cond-true (n == txn.0) list (own n) e)))))
    (λ e. put (record { 0 = n }) ∙ (cond-false (txn.0 == n) counts (counts_at (record { 0 = n }) old) (same_either txn.0 n ∙ e) ∙ (others n e ∙ ap counted (sym (cond-false (n == txn.0) list (own n) e)))))
    (cases_Bool (n == txn.0))

set_append : (xs ys : Changes) → count_by (λ c. is_set c.1) (xs ++ ys) ≡ count_by (λ c. is_set c.1) xs + count_by (λ c. is_set c.1) ys
set_append xs ys = sum_by-append _ xs ys

added_counts : (xs ys : Changes) → counts_added (counted xs) (counted ys) ≡ counted (xs ++ ys)
added_counts xs ys = ap₂ (λ (n m : ℕ). record { len = n; set = m }) (sym (length-append xs ys)) (sym (set_append xs ys))

pub are_pushed : (old new : OwnEntries) (txn : TxnId) (counts : OwnCounts) → ((t : TxnId) → counts_at t new ≡ cond (is_same_txn txn t) (counts_added (counts_at txn old) counts) (counts_at t old))
    → (own : ℕ → Changes) (more : Changes) → counts ≡ counted more → AreCounted old own → AreCounted new (with_at txn.0 (own txn.0 ++ more) own)
are_pushed old new txn counts put own more is are =
    are_counted_at old new txn (counts_added (counts_at txn old) counts) own (own txn.0 ++ more) put (ap₂ counts_added (are txn.0) is ∙ added_counts (own txn.0) more) (λ n e. are n)

pub are_gone : (old new : OwnEntries) (txn : TxnId) → ((t : TxnId) → counts_at t new ≡ cond (is_same_txn txn t) none_counted (counts_at t old))
    → (own : ℕ → Changes) → AreCounted old own → AreCounted new (with_at txn.0 [] own)
are_gone old new txn put own are = are_counted_at old new txn none_counted own [] put refl (λ n e. are n)

-- where nothing is counted of changes and more of them, there are none
none_before : (xs ys : Changes) → none_counted ≡ counted (xs ++ ys) → none_counted ≡ counted xs
none_before [] ys e = refl
none_before (x ∷ xs) ys e = absurd (omega (arith, ap (λ (c : OwnCounts). c.len) e))
