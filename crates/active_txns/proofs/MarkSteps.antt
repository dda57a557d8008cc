-- A victim is marked: the walk along the transactions.
use Rattle.std.proofs.Common.{◌≡◌, ℕ, ◌<◌, ◌≤◌, ◌+◌, ◌==◌, true, false, List, [], ◌++◌, ◌∷◌, Some, None, ⊎_elim, length, get_or, take, drop, refl, ap, ap₂, sym, ◌∙◌, arith, subst}
use Rattle.std.specs.List.{slice_set, AllByRecursion}
use Rattle.std.proofs.lemmas.List.{append-nil, drop_all, drop_more, take_all, take-set, take-append-drop}
use Rattle.std.proofs.lemmas.Grind.{drop-set_at}
use Rattle.std.proofs.lemmas.Option.{slice_get-get_or}
use Rattle.std.proofs.lemmas.Bool.{cases_Bool, eqb-true, cond-true, cond-false}
use Rattle.std.proofs.lemmas.Bool.Decides.{nat_tests}
use Rattle.je_order.specs.declared.txn_id.TxnId.{TxnId}
use Rattle.je_answers.specs.declared.active.Active.{Active}
use Rattle.je_answers.specs.After.{marked, marked_by}
use Rattle.active_txns.specs.Marks.{with_cycle, marked_for, HaveOwnSessions}

same_number : (n : ℕ) → (n == n) ≡ true
same_number n = grind (arith, nat_tests)

set_parts : (xs : List Active) (i : ℕ) (y : Active) → i < length xs → slice_set xs i y ≡ take i xs ++ y ∷ drop (i + 1) xs
set_parts xs i y within = sym (take-append-drop i (slice_set xs i y)) ∙ ap₂ (λ (a b : List Active). a ++ b) (take-set xs i y) (drop-set_at xs i i y refl within)

some_is : (x y : Active) → Some x ≡ Some y → x ≡ y
some_is x y e = cc

-- the session's transaction is here
pub mark_here : (session : ℕ) (cycle : List TxnId) (xs first : List Active) (i : ℕ) (x y : Active) → i < length xs → (get_or xs i x).session ≡ session
    → take i xs ++ marked_for session cycle (drop i xs) ≡ marked_for session cycle first → slice_set xs i (with_cycle cycle (get_or xs i y)) ≡ marked_for session cycle first
mark_here session cycle xs first i x y within its so =
    let z = get_or xs i y in
    let same : get_or xs i x ≡ z = some_is (get_or xs i x) z (sym (slice_get-get_or xs i x within) ∙ slice_get-get_or xs i y within) in
    let test : (z.session == session) ≡ true = ap (λ (a : Active). a.session == session) (sym same) ∙ (ap (λ n. n == session) its ∙ same_number session) in
    set_parts xs i (with_cycle cycle z) within
    ∙ (ap (λ (l : List Active). take i xs ++ l) (sym (cond-true (z.session == session) (with_cycle cycle z ∷ drop (i + 1) xs) (z ∷ marked_for session cycle (drop (i + 1) xs)) test))
    ∙ (ap (λ (l : List Active). take i xs ++ marked_for session cycle l) (sym (drop_more xs i y within)) ∙ so))

-- no transaction is the session's
pub mark_ends : (session : ℕ) (cycle : List TxnId) (xs first : List Active) (i : ℕ) → length xs ≤ i
    → take i xs ++ marked_for session cycle (drop i xs) ≡ marked_for session cycle first → xs ≡ marked_for session cycle first
mark_ends session cycle xs first i past so =
    sym (append-nil xs) ∙ (ap₂ (λ (a b : List Active). a ++ marked_for session cycle b) (sym (take_all i xs past)) (sym (drop_all i xs past)) ∙ so)

-- ---- as the mark of an event's victim
same_either : (m n : ℕ) → (m == n) ≡ (n == m)
same_either m n = grind (arith, nat_tests)

same_is : (m n : ℕ) → (m == n) ≡ true → m ≡ n
same_is m n h = eqb-true m n h

-- the others are not marked
none_marked : (session line : ℕ) (cycle : List TxnId) (xs : List Active) → AllByRecursion (λ b. (b.session == session) ≡ false) xs → marked (record { session = session; line = line; cycle = cycle } ∷ []) xs ≡ xs
none_marked session line cycle [] others = refl
none_marked session line cycle (a ∷ xs) others =
    ap₂ (λ (x : Active) (ys : List Active). x ∷ ys)
    (ap (λ o. marked_by o a) (cond-false (session == a.session) (Some (record { session = session; line = line; cycle = cycle })) None (same_either session a.session ∙ others.0)))
    (none_marked session line cycle xs others.1)

pub marked_alone : (session line : ℕ) (cycle : List TxnId) (xs : List Active) → HaveOwnSessions xs → marked_for session cycle xs ≡ marked (record { session = session; line = line; cycle = cycle } ∷ []) xs
marked_alone session line cycle [] own = refl
marked_alone session line cycle (a ∷ xs) own = ⊎_elim
    (λ e. cond-true (a.session == session) (with_cycle cycle a ∷ xs) (a ∷ marked_for session cycle xs) e
    ∙ ap₂ (λ (x : Active) (ys : List Active). x ∷ ys)
    (sym (ap (λ o. marked_by o a) (cond-true (session == a.session) (Some (record { session = session; line = line; cycle = cycle })) None (same_either session a.session ∙ e))))
    (sym (none_marked session line cycle xs (subst (λ (n : ℕ). AllByRecursion (λ b. (b.session == n) ≡ false) xs) (same_is a.session session e) own.0))))
    (λ e. cond-false (a.session == session) (with_cycle cycle a ∷ xs) (a ∷ marked_for session cycle xs) e
    ∙ ap₂ (λ (x : Active) (ys : List Active). x ∷ ys)
    (sym (ap (λ o. marked_by o a) (cond-false (session == a.session) (Some (record { session = session; line = line; cycle = cycle })) None (same_either session a.session ∙ e))))
    (marked_alone session line cycle xs own.1))
    (cases_Bool (a.session == session))
