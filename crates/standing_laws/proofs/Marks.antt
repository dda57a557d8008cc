-- Marks of victims, which change no number and no session; and their ends.
use Rattle.std.proofs.Common.{◌≡◌, ℕ, ◌<◌, ◌≤◌, ◌==◌, Bool, false, cond, ◌&&◌, ◌||◌, List, [], ◌∷◌, Some, None, Option, refl, ap, ap₂, sym, ◌∙◌, subst, ⊎_elim}
use Rattle.std.specs.List.{find, AllByRecursion}
use Rattle.std.proofs.lemmas.Bool.{cases_Bool, cond-true, cond-false}
use Rattle.je_order.specs.declared.txn_id.TxnId.{TxnId}
use Rattle.je_order.specs.Transactions.{is_same_txn}
use Rattle.store_model.specs.declared.victim.Victim.{Victim}
use Rattle.je_answers.specs.declared.active.Active.{Active}
use Rattle.je_answers.specs.Standing.{Standing, active_of}
use Rattle.je_answers.specs.After.{marked, marked_by, is_victim, ended, all_ended, autos_in}
use Rattle.active_txns.specs.Marks.{HaveOwnSessions}
use Rattle.standing_laws.specs.Right.{AreNumbered, is_active}

pub same_session : (o : Option Victim) (a : Active) → (marked_by o a).session ≡ a.session
same_session None a = refl
same_session (Some v) a = refl

pub same_txn : (o : Option Victim) (a : Active) → (marked_by o a).txn ≡ a.txn
same_txn None a = refl
same_txn (Some v) a = refl

all_sessions : (n : ℕ) (vs : List Victim) (as_ : List Active) → AllByRecursion (λ b. (b.session == n) ≡ false) as_ → AllByRecursion (λ b. (b.session == n) ≡ false) (marked vs as_)
all_sessions n vs [] h = tt
all_sessions n vs (a ∷ as_) h = (ap (λ (m : ℕ). m == n) (same_session (find (λ (w : Victim). w.session == a.session) vs) a) ∙ h.0, all_sessions n vs as_ h.1)

pub marked_own : (vs : List Victim) (as_ : List Active) → HaveOwnSessions as_ → HaveOwnSessions (marked vs as_)
marked_own vs [] h = tt
marked_own vs (a ∷ as_) h = (subst (λ n. AllByRecursion (λ b. (b.session == n) ≡ false) (marked vs as_)) (sym (same_session (find (λ (w : Victim). w.session == a.session) vs) a)) (all_sessions a.session vs as_ h.0), marked_own vs as_ h.1)

all_above : (n : ℕ) (vs : List Victim) (as_ : List Active) → AllByRecursion (λ b. n < b.txn.0) as_ → AllByRecursion (λ b. n < b.txn.0) (marked vs as_)
all_above n vs [] h = tt
all_above n vs (a ∷ as_) h = (subst (λ (t : TxnId). n < t.0) (sym (same_txn (find (λ (w : Victim). w.session == a.session) vs) a)) h.0, all_above n vs as_ h.1)

abbrev NumberedAt : ℕ → List Active → TxnId → Type 0
NumberedAt last as_ t = (t.0 ≤ last) × AllByRecursion (λ b. t.0 < b.txn.0) as_ × AreNumbered last as_

pub marked_numbered : (last : ℕ) (vs : List Victim) (as_ : List Active) → AreNumbered last as_ → AreNumbered last (marked vs as_)
marked_numbered last vs [] h = tt
marked_numbered last vs (a ∷ as_) h = subst (NumberedAt last (marked vs as_)) (sym (same_txn (find (λ (w : Victim). w.session == a.session) vs) a)) (h.0, all_above a.txn.0 vs as_ h.1, marked_numbered last vs as_ h.2)

pub marked_active : (u : TxnId) (vs : List Victim) (as_ : List Active) → is_active u (marked vs as_) ≡ is_active u as_
marked_active u vs [] = refl
marked_active u vs (a ∷ as_) = ap₂ (λ (t : TxnId) (b : Bool). is_same_txn u t || b) (same_txn (find (λ (w : Victim). w.session == a.session) vs) a) (marked_active u vs as_)

some_active : (x y : Active) → Some x ≡ Some y → x ≡ y
some_active x y e = cc

-- a session's transaction, marked
pub marked_found : (s : ℕ) (vs : List Victim) (as_ : List Active) (a : Active) → active_of s as_ ≡ Some a → active_of s (marked vs as_) ≡ Some (marked_by (find (λ (w : Victim). w.session == a.session) vs) a)
marked_found s vs [] a h = absurd (cc (h))
marked_found s vs (b ∷ bs) a h = ⊎_elim
    (λ e. let k : Some b ≡ Some a = sym (cond-true (b.session == s) (Some b) (active_of s bs) e) ∙ h in
    cond-true _ (Some (marked_by (find (λ (w : Victim). w.session == b.session) vs) b)) (active_of s (marked vs bs)) (ap (λ (m : ℕ). m == s) (same_session (find (λ (w : Victim). w.session == b.session) vs) b) ∙ e)
    ∙ ap (λ (x : Active). Some (marked_by (find (λ (w : Victim). w.session == x.session) vs) x)) (some_active b a k))
    (λ e. cond-false _ (Some (marked_by (find (λ (w : Victim). w.session == b.session) vs) b)) (active_of s (marked vs bs)) (ap (λ (m : ℕ). m == s) (same_session (find (λ (w : Victim). w.session == b.session) vs) b) ∙ e)
    ∙ marked_found s vs bs a (sym (cond-false (b.session == s) (Some b) (active_of s bs) e) ∙ h))
    (cases_Bool (b.session == s))

-- a session without a transaction has none that is marked
pub marked_none : (s : ℕ) (vs : List Victim) (as_ : List Active) → active_of s (marked vs as_) ≡ None → active_of s as_ ≡ None
marked_none s vs as_ h = by (active_of s as_) refl
  where
    by : (o : Option Active) → active_of s as_ ≡ o → o ≡ None
    by None e = refl
    by (Some a) e = let k : Some (marked_by (find (λ (w : Victim). w.session == a.session) vs) a) ≡ None = sym (marked_found s vs as_ a e) ∙ h in absurd (cc (k))

-- ---- a mark changes nothing of an end

abbrev pub is_auto_victim : List Victim → Active → Bool
is_auto_victim victims a = a.is_auto && is_victim a.session victims

test_marked : (vs : List Victim) (o : Option Victim) (a : Active) → is_auto_victim vs (marked_by o a) ≡ is_auto_victim vs a
test_marked vs None a = refl
test_marked vs (Some v) a = refl

end_marked : (o : Option Victim) (a : Active) (st : Standing) → ended (marked_by o a) st ≡ ended a st
end_marked None a st = refl
end_marked (Some v) a st = refl

pub ends_marked : (vs ws : List Victim) (as_ : List Active) (st : Standing) → all_ended (autos_in vs (marked ws as_)) st ≡ all_ended (autos_in vs as_) st
ends_marked vs ws [] st = refl
ends_marked vs ws (a ∷ as_) st =
    let o : Option Victim = find (λ v. v.session == a.session) ws in
    let rest = autos_in vs (marked ws as_) in
    ap (λ b. all_ended (cond b (marked_by o a ∷ rest) rest) st) (test_marked vs o a)
    ∙ ⊎_elim
    (λ e. ap (λ l. all_ended l st) (cond-true (is_auto_victim vs a) (marked_by o a ∷ rest) rest e)
    ∙ (ap (all_ended rest) (end_marked o a st) ∙ (ends_marked vs ws as_ (ended a st) ∙ ap (λ l. all_ended l st) (sym (cond-true (is_auto_victim vs a) (a ∷ autos_in vs as_) (autos_in vs as_) e)))))
    (λ e. ap (λ l. all_ended l st) (cond-false (is_auto_victim vs a) (marked_by o a ∷ rest) rest e)
    ∙ (ends_marked vs ws as_ st ∙ ap (λ l. all_ended l st) (sym (cond-false (is_auto_victim vs a) (a ∷ autos_in vs as_) (autos_in vs as_) e))))
    (cases_Bool (is_auto_victim vs a))
