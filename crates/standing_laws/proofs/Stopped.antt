-- Where a stop with victims leaves a standing: only transactions of one call end, and these have changed nothing.
use mathlib.Core.Path.{fun_ext}
use Rattle.std.proofs.Common.{◌≡◌, ℕ, ◌≤◌, ◌==◌, Bool, true, false, cond, not, List, [], ◌∷◌, ◌++◌, length, refl, ap, sym, ◌∙◌, subst, ⊎_elim, arith}
use Rattle.std.specs.List.{filter, find, AllByRecursion}
use Rattle.std.proofs.lemmas.Bool.{cases_Bool, cond-true, cond-false, eqb-true, and_parts}
use Rattle.je_order.specs.declared.txn_id.TxnId.{TxnId}
use Rattle.je_order.specs.Transactions.{is_same_txn}
use Rattle.store_model.specs.declared.call.Call.{Call}
use Rattle.store_model.specs.declared.need.Need.{Need}
use Rattle.store_model.specs.declared.record_change.RecordChange.{RecordChange}
use Rattle.store_model.specs.declared.victim.Victim.{Victim}
use Rattle.je_answers.specs.declared.active.Active.{Active}
use Rattle.je_answers.specs.declared.wait.Wait.{Wait}
use Rattle.je_answers.specs.Standing.{Standing, with_at}
use Rattle.je_answers.specs.Views.{Target}
use Rattle.je_answers.specs.Events.{asking}
use Rattle.je_answers.specs.After.{marked, marked_by, is_victim, without_session, ended, all_ended, autos_in, without_waits_of, with_victims, with_waiting}
use Rattle.active_txns.specs.Own.{has_changes}
use Rattle.standing_laws.specs.Right.{is_active, HaveOwnWaits}
use Rattle.standing_laws.specs.Laws.{AreBare}
use Rattle.standing_laws.proofs.Among.{any_some, any_from, all_at, all_of, filter_among}
use Rattle.standing_laws.proofs.Moves.{waits_filter}
use Rattle.standing_laws.proofs.Marks.{is_auto_victim, marked_active, same_txn}
use Rattle.standing_laws.proofs.Stays.{kept_by, own_waits_with}

-- how many of some transactions have changes
abbrev pub changing : (ℕ → List (ℕ × RecordChange)) → List Active → ℕ
changing own as_ = length (filter (λ a. has_changes (own a.txn.0)) as_)

-- a standing in which waiting calls, marks and locks are others, and perhaps fewer transactions are under way
pub record LeavesSame (old new : Standing) : Type 0 where
  pub store : new.store ≡ old.store
  pub numbers : new.numbers ≡ old.numbers
  pub last_txn : new.last_txn ≡ old.last_txn
  pub last_db : new.last_db ≡ old.last_db
  pub commits : new.commits ≡ old.commits
  pub fault : new.fault ≡ old.fault
  pub checkpoint : new.in_checkpoint ≡ old.in_checkpoint
  pub own : new.own ≡ old.own
  pub actives : (t : TxnId) → is_active t new.actives ≡ true → is_active t old.actives ≡ true
  pub owing : changing new.own new.actives ≤ changing old.own old.actives

leaves_itself : (st : Standing) → LeavesSame st st
leaves_itself st = record { store = refl; numbers = refl; last_txn = refl; last_db = refl; commits = refl; fault = refl; checkpoint = refl; own = refl; actives = λ t h. h; owing = omega arith }

le_trans : (a b c : ℕ) → a ≤ b → b ≤ c → a ≤ c
le_trans a b c h k = omega arith

leaves_then : (a b c : Standing) → LeavesSame a b → LeavesSame b c → LeavesSame a c
leaves_then a b c h k = record {
  store = k.store ∙ h.store;
  numbers = k.numbers ∙ h.numbers;
  last_txn = k.last_txn ∙ h.last_txn;
  last_db = k.last_db ∙ h.last_db;
  commits = k.commits ∙ h.commits;
  fault = k.fault ∙ h.fault;
  checkpoint = k.checkpoint ∙ h.checkpoint;
  own = k.own ∙ h.own;
  actives = λ t x. h.actives t (k.actives t x);
  owing = le_trans (changing c.own c.actives) (changing b.own b.actives) (changing a.own a.actives) k.owing h.owing;
}

fewer : {X : Type 0} (p q : X → Bool) (xs : List X) → length (filter p (filter q xs)) ≤ length (filter p xs)
fewer p q [] = omega arith
fewer p q (x ∷ xs) = ⊎_elim
    (λ e. ⊎_elim
    (λ f. let k = ap (λ (l : List _). length (filter p l)) (cond-true (q x) (x ∷ filter q xs) (filter q xs) e) in let m = ap (λ (l : List _). length l) (cond-true (p x) (x ∷ filter p (filter q xs)) (filter p (filter q xs)) f) in
    let n = ap (λ (l : List _). length l) (cond-true (p x) (x ∷ filter p xs) (filter p xs) f) in omega (arith, k, m, n, fewer p q xs))
    (λ f. let k = ap (λ (l : List _). length (filter p l)) (cond-true (q x) (x ∷ filter q xs) (filter q xs) e) in let m = ap (λ (l : List _). length l) (cond-false (p x) (x ∷ filter p (filter q xs)) (filter p (filter q xs)) f) in
    let n = ap (λ (l : List _). length l) (cond-false (p x) (x ∷ filter p xs) (filter p xs) f) in omega (arith, k, m, n, fewer p q xs))
    (cases_Bool (p x)))
    (λ e. ⊎_elim
    (λ f. let k = ap (λ (l : List _). length (filter p l)) (cond-false (q x) (x ∷ filter q xs) (filter q xs) e) in let n = ap (λ (l : List _). length l) (cond-true (p x) (x ∷ filter p xs) (filter p xs) f) in omega (arith, k, n, fewer p q xs))
    (λ f. let k = ap (λ (l : List _). length (filter p l)) (cond-false (q x) (x ∷ filter q xs) (filter q xs) e) in let n = ap (λ (l : List _). length l) (cond-false (p x) (x ∷ filter p xs) (filter p xs) f) in omega (arith, k, n, fewer p q xs))
    (cases_Bool (p x)))
    (cases_Bool (q x))

-- a transaction that has changed nothing ends
same_own : (own : ℕ → List (ℕ × RecordChange)) (t : ℕ) → own t ≡ [] → with_at t [] own ≡ own
same_own own t none = fun_ext (λ n. ⊎_elim
    (λ e. cond-true (n == t) [] (own n) e ∙ (sym none ∙ ap own (sym (eqb-true n t e))))
    (λ e. cond-false (n == t) [] (own n) e)
    (cases_Bool (n == t)))

pub ended_leaves : (st : Standing) (a : Active) → st.own a.txn.0 ≡ [] → LeavesSame st (ended a st)
ended_leaves st a none = record {
  store = refl;
  numbers = refl;
  last_txn = refl;
  last_db = refl;
  commits = refl;
  fault = refl;
  checkpoint = refl;
  own = same_own st.own a.txn.0 none;
  actives = λ t h. let b = any_some (λ (x : Active). is_same_txn t x.txn) (without_session a.session st.actives) h in
      any_from (λ (x : Active). is_same_txn t x.txn) st.actives b.0 (filter_among (λ (x : Active). not (x.session == a.session)) st.actives b.0 b.1).0 b.2;
  owing = subst (λ (own : ℕ → List (ℕ × RecordChange)). changing own (without_session a.session st.actives) ≤ changing st.own st.actives) (sym (same_own st.own a.txn.0 none))
      (fewer (λ (x : Active). has_changes (st.own x.txn.0)) (λ (x : Active). not (x.session == a.session)) st.actives);
}

pub all_ended_leave : (l : List Active) (st : Standing) → AllByRecursion (λ a. st.own a.txn.0 ≡ []) l → LeavesSame st (all_ended l st)
all_ended_leave [] st bare = leaves_itself st
all_ended_leave (a ∷ as_) st bare =
    leaves_then st (ended a st) (all_ended as_ (ended a st)) (ended_leaves st a bare.0)
    (all_ended_leave as_ (ended a st) (all_of (λ b. (ended a st).own b.txn.0 ≡ []) as_ (λ b k. ap (λ (own : ℕ → List (ℕ × RecordChange)). own b.txn.0) (same_own st.own a.txn.0 bare.0) ∙ all_at (λ (c : Active). st.own c.txn.0 ≡ []) as_ b bare.1 k)))

-- marks change nothing of who has changes
same_count : (own : ℕ → List (ℕ × RecordChange)) (vs : List Victim) (as_ : List Active) → changing own (marked vs as_) ≡ changing own as_
same_count own vs [] = refl
same_count own vs (a ∷ as_) =
    ap (λ (t : TxnId). length (cond (has_changes (own t.0)) (marked_by (find (λ (w : Victim). w.session == a.session) vs) a ∷ rest) rest)) (same_txn (find (λ (w : Victim). w.session == a.session) vs) a)
    ∙ by (has_changes (own a.txn.0)) (same_count own vs as_)
  where
    rest : List Active
    rest = filter (λ x. has_changes (own x.txn.0)) (marked vs as_)

    by : (b : Bool) → length rest ≡ changing own as_ → length (cond b (marked_by (find (λ (w : Victim). w.session == a.session) vs) a ∷ rest) rest) ≡ length (cond b (a ∷ filter (λ x. has_changes (own x.txn.0)) as_) (filter (λ x. has_changes (own x.txn.0)) as_))
    by true k = omega (arith, k)
    by false k = k

pub marked_leaves : (st : Standing) (vs : List Victim) (waiting : List Wait) (locks : _) → LeavesSame st (record st { actives = marked vs st.actives; waiting = waiting; locks = locks })
marked_leaves st vs waiting locks = record {
  store = refl;
  numbers = refl;
  last_txn = refl;
  last_db = refl;
  commits = refl;
  fault = refl;
  checkpoint = refl;
  own = refl;
  actives = λ t h. sym (marked_active t vs st.actives) ∙ h;
  owing = let k = same_count st.own vs st.actives in omega (arith, k);
}

-- a call waits, and the victims' calls no more
pub victims_leave : (st : Standing) (a : Active) (line : ℕ) (call : Call) (g : Target) (n : Need) (vs : List Victim) → AreBare st → LeavesSame st (with_victims vs (with_waiting st a line call g n vs))
victims_leave st a line call g n vs bare =
    let mid : Standing = without_waits_of vs (with_waiting st a line call g n vs) in
    leaves_then st mid (with_victims vs (with_waiting st a line call g n vs)) (marked_leaves st vs mid.waiting mid.locks)
    (all_ended_leave (autos_in vs st.actives) mid (all_of (λ b. st.own b.txn.0 ≡ []) (autos_in vs st.actives) (λ b k. let f = filter_among (is_auto_victim vs) st.actives b k in
    all_at (λ (c : Active). c.is_auto ≡ true → st.own c.txn.0 ≡ []) st.actives b bare f.0 (and_parts b.is_auto (is_victim b.session vs) f.1).0)))

ends_wait : (l : List Active) (st : Standing) → (all_ended l st).waiting ≡ st.waiting
ends_wait [] st = refl
ends_wait (a ∷ as_) st = ends_wait as_ (ended a st)

-- the calls that wait stay apart, where the session had none
pub victims_apart : (st : Standing) (a : Active) (line : ℕ) (call : Call) (g : Target) (n : Need) (vs : List Victim) → HaveOwnWaits st.waiting → AllByRecursion (λ w. (w.session == a.session) ≡ false) st.waiting
    → HaveOwnWaits (with_victims vs (with_waiting st a line call g n vs)).waiting
victims_apart st a line call g n vs apart others =
    subst HaveOwnWaits (sym (ends_wait (autos_in vs st.actives) (without_waits_of vs (with_waiting st a line call g n vs))))
    (waits_filter (kept_by vs) (st.waiting ++ asking a line call ∷ []) (own_waits_with st.waiting (asking a line call) others apart))
