-- What victims give back.
use Rattle.std.proofs.Common.{◌≡◌, ℕ, ◌+◌, ◌<◌, ◌≤◌, ◌==◌, Bool, true, false, cond, List, [], ◌∷◌, length, drop, drop-cons, add-one, get_or, suc, Some, None, Option, refl, ap, sym, ◌∙◌, ⊎_elim}
use Rattle.std.specs.List.{filter, find}
use Rattle.std.proofs.lemmas.Bool.{cases_Bool, cond-true, cond-false}
use Rattle.store_model.specs.declared.victim.Victim.{Victim}
use Rattle.je_answers.specs.declared.active.Active.{Active}
use Rattle.je_answers.specs.Standing.{LockState}
use Rattle.je_answers.specs.After.{marked, marked_by, is_victim}
use Rattle.txn_locks.specs.Taking.{when_answered}
use Rattle.sessions.specs.Waiting.{all_back}

abbrev pub told_among : List Victim → List Active → List Active
told_among victims actives = filter (λ a. is_victim a.session victims) actives

-- one more of them
back_one : (vs : List Victim) (a : Active) (rest : List Active) (now next : LockState) → next ≡ cond (is_victim a.session vs) (when_answered a.level a.txn now) now → all_back (told_among vs rest) next ≡ all_back (told_among vs (a ∷ rest)) now
back_one vs a rest now next is = ⊎_elim
    (λ e. ap (all_back (told_among vs rest)) (is ∙ cond-true (is_victim a.session vs) (when_answered a.level a.txn now) now e) ∙ sym (ap (λ (l : List Active). all_back l now) (cond-true (is_victim a.session vs) (a ∷ told_among vs rest) (told_among vs rest) e)))
    (λ e. ap (all_back (told_among vs rest)) (is ∙ cond-false (is_victim a.session vs) (when_answered a.level a.txn now) now e) ∙ sym (ap (λ (l : List Active). all_back l now) (cond-false (is_victim a.session vs) (a ∷ told_among vs rest) (told_among vs rest) e)))
    (cases_Bool (is_victim a.session vs))

drop_one : (as_ : List Active) (i : ℕ) (a : Active) → i < length as_ → a ≡ get_or as_ i a → drop i as_ ≡ a ∷ drop (i + 1) as_
drop_one as_ i a within is =
    let d : drop i as_ ≡ a ∷ drop (suc i) as_ = drop-cons as_ i a within ∙ ap (λ (x : Active). x ∷ drop (suc i) as_) (sym is) in
    rw add-one d

pub back_more : (vs : List Victim) (as_ : List Active) (i : ℕ) (a : Active) (old now next : LockState) → i < length as_ → a ≡ get_or as_ i a → next ≡ cond (is_victim a.session vs) (when_answered a.level a.txn now) now
    → all_back (told_among vs (drop i as_)) now ≡ all_back (told_among vs as_) old → all_back (told_among vs (drop (i + 1) as_)) next ≡ all_back (told_among vs as_) old
back_more vs as_ i a old now next within is gives before =
    back_one vs a (drop (i + 1) as_) now next gives ∙ (ap (λ (l : List Active). all_back (told_among vs l) now) (sym (drop_one as_ i a within is)) ∙ before)

-- ---- a mark changes nothing of what is given back

one_marked : (vs : List Victim) (o : Option Victim) (a : Active) (rest others : List Active) (locks : LockState) → ((l : LockState) → all_back rest l ≡ all_back others l)
    → all_back (cond (is_victim (marked_by o a).session vs) (marked_by o a ∷ rest) rest) locks ≡ all_back (cond (is_victim a.session vs) (a ∷ others) others) locks
one_marked vs None a rest others locks same = by (is_victim a.session vs)
  where
    by : (b : Bool) → all_back (cond b (a ∷ rest) rest) locks ≡ all_back (cond b (a ∷ others) others) locks
    by true = same (when_answered a.level a.txn locks)
    by false = same locks
one_marked vs (Some v) a rest others locks same = by (is_victim a.session vs)
  where
    by : (b : Bool) → all_back (cond b (marked_by (Some v) a ∷ rest) rest) locks ≡ all_back (cond b (a ∷ others) others) locks
    by true = same (when_answered a.level a.txn locks)
    by false = same locks

pub backs_marked : (vs ws : List Victim) (as_ : List Active) (locks : LockState) → all_back (told_among vs (marked ws as_)) locks ≡ all_back (told_among vs as_) locks
backs_marked vs ws [] locks = refl
backs_marked vs ws (a ∷ as_) locks = one_marked vs (find (λ (v : Victim). v.session == a.session) ws) a (told_among vs (marked ws as_)) (told_among vs as_) locks (backs_marked vs ws as_)
