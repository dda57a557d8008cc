-- Waiting calls that go on come to rest: fewer wait, or as many, of which fewer may go on.
use Rattle.std.proofs.Common.{⊎_elim, ◌≡◌, inl, inr, ℕ, suc, ◌==◌, ◌+◌, ◌<◌, ◌≤◌, nat_lt, Bool, true, false, cond, not, ◌&&◌, ◌||◌, List, [], ◌∷◌, ◌++◌, map, filter, length, is_some, Some, None, Option, refl, ap, ap₂, sym, ◌∙◌, subst, arith}
use Rattle.std.specs.List.{find, list_any, AllByRecursion}
use Rattle.std.specs.Option.{option_map_or}
use Rattle.std.proofs.lemmas.Bool.{cases_Bool, cond-true, cond-false, or_left, or_right, both_ways, eqb-true, ltb-false, ltb-true}
use Rattle.std.proofs.lemmas.List.{length-append}
use Rattle.std.proofs.lemmas.List.Folds.{list_any-append}
use Rattle.std.proofs.lemmas.Option.{none-some, same_Some}
use Rattle.je_order.specs.declared.txn_id.TxnId.{TxnId}
use Rattle.je_order.specs.Transactions.{is_same_txn}
use Rattle.je_order.proofs.TxnIds.{same_is, same_itself}
use Rattle.waits_for.specs.Cycles.{is_in}
use Rattle.lock_mgr.specs.Deadlock.{without_waits}
use Rattle.lock_table.specs.declared.lock.Lock.{Lock}
use Rattle.lock_table.specs.declared.record_id.RecordId.{RecordId}
use Rattle.lock_table.specs.Locks.{lock_of, is_of, has_lock, without_txn, is_blocked, with_lock, after_ask, after_cancel}
use Rattle.lock_table.specs.Records.{is_record}
use Rattle.lock_table.proofs.CallSteps.{record_same}
use Rattle.store_model.specs.declared.need.Need.{Need}
use Rattle.store_model.specs.declared.call.Call.{Call}
use Rattle.store_model.specs.declared.call.Call.TheVariants.{Get, GetBoth, Put, Delete, Count, Cur, CPutCur, CDel, CPut}
use Rattle.store_model.specs.declared.change.Change.{Change}
use Rattle.store_model.specs.declared.record_change.RecordChange.{RecordChange}
use Rattle.store_model.specs.declared.lock_target.LockTarget.{LockTarget}
use Rattle.store_model.specs.declared.answer.Answer.{Answer}
use Rattle.store_model.specs.declared.answer.Answer.TheVariants.{Invalid}
use Rattle.store_model.specs.declared.answer.Fault.{Fault}
use Rattle.store_model.specs.declared.victim.Victim.{Victim}
use Rattle.store_model.specs.Journal.{is_logged}
use Rattle.store_model.specs.Records.{Evaluated}
use Rattle.je_answers.specs.declared.active.Active.{Active}
use Rattle.je_answers.specs.declared.wait.Wait.{Wait}
use Rattle.je_answers.specs.Standing.{LockState, Standing, active_of, wait_of, without_wait}
use Rattle.je_answers.specs.Views.{Target, target_of, needs_in, outcome_of, changes_with, with_names}
use Rattle.store_model.specs.Refusals.{or_refusal}
use Rattle.je_answers.specs.Refusals.{early_refusal, late_refusal, fault_refusal, waits_refusal, abort_refusal, txn_refusal}
use Rattle.je_answers.specs.Locking.{Queues, record_of, got, all_got, all_given_back, is_stopped, granted_part, first_blocked, owner_before, with_wait, was_granted_in}
use Rattle.je_answers.specs.Events.{IsResumed, IsReady, IsCallAnswered, IsEvaluated, IsPerformed, IsRun, IsOn, IsTaken, IsStopped, IsWaiting, waiting_answer, cycle_of, lock_target, asking, queues_before, locks_before, resumed, told_by, told_in}
use Rattle.je_answers.specs.After.{Fate, fate_of, drawn_by, ended, ended_if_any, closed, with_outcome, with_locks, answered, after_fate, after_changes, is_victim, txns_of, all_ended, autos_in, without_waits_of, with_victims, with_waiting, after_stop, after_taking, after_on, after_run, after_performed, after_evaluated, after_call, after_resumed, after_session}
use Rattle.je_answers.specs.After.Fate.{Succeeds, IsRefused, Faults}
use Rattle.je_answers.specs.Journal.{is_ready, ready_in, IsSettling}
use Rattle.standing_laws.proofs.Among.{IsAmong, any_some, any_from, all_at, all_of, mapped_among, find_some, found_is as found_among}
use Rattle.standing_laws.proofs.Victims.{txns, victims_in, all_wait}
use Rattle.standing_laws.proofs.Moves.{waits_resumed}
use Rattle.standing_laws.specs.Right.{IsWaitIn, MayWait, AreRight}
use Rattle.standing_laws.specs.Laws.{IsRightOrFaulted, ResumesSettle, EndsSettle}

-- ---- how many items of a list pass

kept : {X : Type 0} (p : X → Bool) (x : X) (xs : List X) → p x ≡ true → filter p (x ∷ xs) ≡ x ∷ filter p xs
kept p x xs e = cond-true (p x) (x ∷ filter p xs) (filter p xs) e

lost : {X : Type 0} (p : X → Bool) (x : X) (xs : List X) → p x ≡ false → filter p (x ∷ xs) ≡ filter p xs
lost p x xs e = cond-false (p x) (x ∷ filter p xs) (filter p xs) e

no_more : {X : Type 0} (p : X → Bool) (xs : List X) → length (filter p xs) ≤ length xs
no_more p [] = omega arith
no_more p (x ∷ xs) = by (p x) refl (no_more p xs)
  where
    by : (b : Bool) → p x ≡ b → length (filter p xs) ≤ length xs → length (filter p (x ∷ xs)) ≤ suc (length xs)
    by true e rest = let k = ap length (kept p x xs e) in omega (arith, k, rest)
    by false e rest = let k = ap length (lost p x xs e) in omega (arith, k, rest)

-- where as many pass as there are, all do
all_pass : {X : Type 0} (p : X → Bool) (xs : List X) → length xs ≤ length (filter p xs) → AllByRecursion (λ x. p x ≡ true) xs
all_pass p [] h = tt
all_pass p (x ∷ xs) h = by (p x) refl (λ k. all_pass p xs k)
  where
    by : (b : Bool) → p x ≡ b → (length xs ≤ length (filter p xs) → AllByRecursion (λ x. p x ≡ true) xs) → AllByRecursion (λ x. p x ≡ true) (x ∷ xs)
    by true e rest = let k = ap length (kept p x xs e) in (e, rest (omega (arith, k, h)))
    by false e rest = let k = ap length (lost p x xs e) in let few = no_more p xs in absurd (omega (arith, k, h, few))

none_pass : {X : Type 0} (p : X → Bool) (xs : List X) → AllByRecursion (λ x. p x ≡ false) xs → filter p xs ≡ []
none_pass p [] all = refl
none_pass p (x ∷ xs) all = lost p x xs all.0 ∙ none_pass p xs all.1

-- a test that passes less
fewer_pass : {X : Type 0} (p q : X → Bool) (xs : List X) → AllByRecursion (λ x. p x ≡ true → q x ≡ true) xs → length (filter p xs) ≤ length (filter q xs)
fewer_pass p q [] all = omega arith
fewer_pass p q (x ∷ xs) all = by (p x) refl (q x) refl (fewer_pass p q xs all.1)
  where
    by : (b : Bool) → p x ≡ b → (c : Bool) → q x ≡ c → length (filter p xs) ≤ length (filter q xs) → length (filter p (x ∷ xs)) ≤ length (filter q (x ∷ xs))
    by true e true f rest = let k = ap length (kept p x xs e) in let l = ap length (kept q x xs f) in omega (arith, k, l, rest)
    by true e false f rest = absurd (both_ways (q x) f (all.0 e))
    by false e true f rest = let k = ap length (lost p x xs e) in let l = ap length (kept q x xs f) in omega (arith, k, l, rest)
    by false e false f rest = let k = ap length (lost p x xs e) in let l = ap length (lost q x xs f) in omega (arith, k, l, rest)

-- a part of a list
fewer_of : {X : Type 0} (p q : X → Bool) (xs : List X) → length (filter p (filter q xs)) ≤ length (filter p xs)
fewer_of p q [] = omega arith
fewer_of p q (x ∷ xs) = by (q x) refl (p x) refl (fewer_of p q xs)
  where
    by : (b : Bool) → q x ≡ b → (c : Bool) → p x ≡ c → length (filter p (filter q xs)) ≤ length (filter p xs) → length (filter p (filter q (x ∷ xs))) ≤ length (filter p (x ∷ xs))
    by true e true f rest =
        let k = ap (λ (l : List _). length (filter p l)) (kept q x xs e) in let m = ap length (kept p x (filter q xs) f) in let n = ap length (kept p x xs f) in omega (arith, k, m, n, rest)
    by true e false f rest =
        let k = ap (λ (l : List _). length (filter p l)) (kept q x xs e) in let m = ap length (lost p x (filter q xs) f) in let n = ap length (lost p x xs f) in omega (arith, k, m, n, rest)
    by false e true f rest = let k = ap (λ (l : List _). length (filter p l)) (lost q x xs e) in let n = ap length (kept p x xs f) in omega (arith, k, n, rest)
    by false e false f rest = let k = ap (λ (l : List _). length (filter p l)) (lost q x xs e) in let n = ap length (lost p x xs f) in omega (arith, k, n, rest)

filter_append : {X : Type 0} (p : X → Bool) (xs ys : List X) → filter p (xs ++ ys) ≡ filter p xs ++ filter p ys
filter_append p [] ys = refl
filter_append {X} p (x ∷ xs) ys = by (p x) (filter_append p xs ys)
  where
    by : (b : Bool) → filter p (xs ++ ys) ≡ filter p xs ++ filter p ys → cond b (x ∷ filter p (xs ++ ys)) (filter p (xs ++ ys)) ≡ cond b (x ∷ filter p xs) (filter p xs) ++ filter p ys
    by true rest = ap (λ (l : List X). x ∷ l) rest
    by false rest = rest

-- what is found in a list of which all is so
found_is : {X : Type 0} (P : X → Type 0) (p : X → Bool) (xs : List X) (x : X) → AllByRecursion P xs → find p xs ≡ Some x → P x
found_is P p [] x all is = absurd (none-some x is)
found_is P p (y ∷ xs) x all is = by (p y) refl (found_is P p xs x all.1)
  where
    by : (b : Bool) → p y ≡ b → (find p xs ≡ Some x → P x) → P x
    by true e rest = subst P (same_Some y x (sym (cond-true (p y) (Some y) (find p xs) e) ∙ is)) all.0
    by false e rest = rest (sym (cond-false (p y) (Some y) (find p xs) e) ∙ is)

found_passes : {X : Type 0} (p : X → Bool) (xs : List X) (x : X) → find p xs ≡ Some x → p x ≡ true
found_passes p [] x is = absurd (none-some x is)
found_passes p (y ∷ xs) x is = by (p y) refl (found_passes p xs x)
  where
    by : (b : Bool) → p y ≡ b → (find p xs ≡ Some x → p x ≡ true) → p x ≡ true
    by true e rest = ap p (sym (same_Some y x (sym (cond-true (p y) (Some y) (find p xs) e) ∙ is))) ∙ e
    by false e rest = rest (sym (cond-false (p y) (Some y) (find p xs) e) ∙ is)

-- without what is found there are fewer, and fewer that pass a test that it passes
without_fewer : {X : Type 0} (p : X → Bool) (xs : List X) (x : X) → find p xs ≡ Some x → length (filter (λ y. not (p y)) xs) < length xs
without_fewer p [] x is = absurd (none-some x is)
without_fewer p (y ∷ xs) x is = by (p y) refl (without_fewer p xs x)
  where
    by : (b : Bool) → p y ≡ b → (find p xs ≡ Some x → length (filter (λ y. not (p y)) xs) < length xs) → length (filter (λ y. not (p y)) (y ∷ xs)) < suc (length xs)
    by true e rest =
        let k = ap length (lost (λ y. not (p y)) y xs (ap not e)) in let few = no_more (λ y. not (p y)) xs in omega (arith, k, few)
    by false e rest =
        let k = ap length (kept (λ y. not (p y)) y xs (ap not e)) in let r = rest (sym (cond-false (p y) (Some y) (find p xs) e) ∙ is) in omega (arith, k, r)

without_less : {X : Type 0} (f p : X → Bool) (xs : List X) (x : X) → find p xs ≡ Some x → f x ≡ true → length (filter f (filter (λ y. not (p y)) xs)) < length (filter f xs)
without_less f p [] x is passes = absurd (none-some x is)
without_less f p (y ∷ xs) x is passes = by (p y) refl (f y) refl (λ later. without_less f p xs x later passes)
  where
    by : (b : Bool) → p y ≡ b → (c : Bool) → f y ≡ c → (find p xs ≡ Some x → length (filter f (filter (λ y. not (p y)) xs)) < length (filter f xs)) →
        length (filter f (filter (λ y. not (p y)) (y ∷ xs))) < length (filter f (y ∷ xs))
    by true e true g rest =
        let k = ap (λ (l : List _). length (filter f l)) (lost (λ y. not (p y)) y xs (ap not e)) in let n = ap length (kept f y xs g) in let few = fewer_of f (λ y. not (p y)) xs in
        omega (arith, k, n, few)
    by true e false g rest = absurd (both_ways (f x) (ap f (sym (same_Some y x (sym (cond-true (p y) (Some y) (find p xs) e) ∙ is))) ∙ g) passes)
    by false e true g rest =
        let k = ap (λ (l : List _). length (filter f l)) (kept (λ y. not (p y)) y xs (ap not e)) in let m = ap length (kept f y (filter (λ y. not (p y)) xs) g) in let n = ap length (kept f y xs g) in
        let r = rest (sym (cond-false (p y) (Some y) (find p xs) e) ∙ is) in omega (arith, k, m, n, r)
    by false e false g rest =
        let k = ap (λ (l : List _). length (filter f l)) (kept (λ y. not (p y)) y xs (ap not e)) in let m = ap length (lost f y (filter (λ y. not (p y)) xs) g) in let n = ap length (lost f y xs g) in
        let r = rest (sym (cond-false (p y) (Some y) (find p xs) e) ∙ is) in omega (arith, k, m, n, r)

-- ---- who waits still waits

has_pushed : (t : TxnId) (ls : List Lock) (w : Lock) → has_lock t ls ≡ true → has_lock t (ls ++ w ∷ []) ≡ true
has_pushed t ls w h = list_any-append (is_of t) ls (w ∷ []) ∙ or_left (has_lock t ls) (list_any (is_of t) (w ∷ [])) h

has_last : (t : TxnId) (ls : List Lock) (w : Lock) → is_of t w ≡ true → has_lock t (ls ++ w ∷ []) ≡ true
has_last t ls w h = list_any-append (is_of t) ls (w ∷ []) ∙ or_right (has_lock t ls) (list_any (is_of t) (w ∷ [])) (or_left (is_of t w) false h)

waits_asked : (t : TxnId) (w : Lock) (q : List Lock × List Lock) → has_lock t q.1 ≡ true → has_lock t (after_ask w q).1 ≡ true
waits_asked t w q h = by (is_blocked q.0 w)
  where
    pushed : List Lock × List Lock
    pushed = (q.0, q.1 ++ w ∷ [])

    had : List Lock × List Lock
    had = (with_lock w q.0, q.1)

    by : (b : Bool) → has_lock t (cond b pushed had).1 ≡ true
    by true = has_pushed t q.1 w h
    by false = h

waits_got : (t u : TxnId) (n : Need) (at : Queues) (r : RecordId) → has_lock u (at r).1 ≡ true → has_lock u (got t n at r).1 ≡ true
waits_got t u n at r h = by (is_record (record_of n) r)
  where
    by : (b : Bool) → has_lock u (cond b (after_ask (lock_of t n.asked) (at r)) (at r)).1 ≡ true
    by true = waits_asked u (lock_of t n.asked) (at r) h
    by false = h

waits_all_got : (t u : TxnId) (needs : List Need) (at : Queues) (r : RecordId) → has_lock u (at r).1 ≡ true → has_lock u (all_got t needs at r).1 ≡ true
waits_all_got t u [] at r h = h
waits_all_got t u (n ∷ needs) at r h = waits_all_got t u needs (got t n at) r (waits_got t u n at r h)

has_without : (t u : TxnId) (ls : List Lock) → is_same_txn t u ≡ false → has_lock t ls ≡ true → has_lock t (without_txn u ls) ≡ true
has_without t u [] apart h = h
has_without t u (l ∷ ls) apart h = by (is_of t l) refl (is_of u l) refl (has_without t u ls apart) h
  where
    rest : List Lock
    rest = without_txn u ls

    by : (b : Bool) → is_of t l ≡ b → (c : Bool) → is_of u l ≡ c → (has_lock t ls ≡ true → has_lock t rest ≡ true) → (is_of t l || has_lock t ls) ≡ true → has_lock t (without_txn u (l ∷ ls)) ≡ true
    by true e true f more k = absurd (both_ways (is_same_txn t u) apart (ap (is_same_txn t) (same_is u l.txn f) ∙ e))
    by true e false f more k = ap (has_lock t) (kept (λ l. not (is_of u l)) l ls (ap not f)) ∙ or_left (is_of t l) (has_lock t rest) e
    by false e true f more k = ap (has_lock t) (lost (λ l. not (is_of u l)) l ls (ap not f)) ∙ more (sym (ap (λ (b : Bool). b || has_lock t ls) e) ∙ k)
    by false e false f more k =
        ap (has_lock t) (kept (λ l. not (is_of u l)) l ls (ap not f)) ∙ or_right (is_of t l) (has_lock t rest) (more (sym (ap (λ (b : Bool). b || has_lock t ls) e) ∙ k))

or_false : (a b : Bool) → (a || b) ≡ false → (a ≡ false) × (b ≡ false)
or_false true b h = absurd cc
or_false false b h = (refl, h)

waits_without : (t : TxnId) (gone : List TxnId) (q : List Lock × List Lock) → is_in t gone ≡ false → has_lock t q.1 ≡ true → has_lock t (without_waits gone q).1 ≡ true
waits_without t [] q apart h = h
waits_without t (u ∷ gone) q apart h =
    let parts = or_false (is_same_txn t u) (is_in t gone) apart in
    waits_without t gone (after_cancel u q) parts.1 (has_without t u q.1 parts.0 h)

-- ---- the need that stops a call

blocked_last : (t : TxnId) (needs : List Need) (at : Queues) (n : Need) → first_blocked t needs at ≡ Some n → is_stopped t n (all_got t (granted_part t needs at) at) ≡ true
blocked_last t [] at n is = absurd (none-some n is)
blocked_last t (m ∷ needs) at n is = by (is_stopped t m at) refl (blocked_last t needs (got t m at) n)
  where
    more : List Need
    more = granted_part t needs (got t m at)

    by : (b : Bool) → is_stopped t m at ≡ b → (first_blocked t needs (got t m at) ≡ Some n → is_stopped t n (all_got t more (got t m at)) ≡ true) → is_stopped t n (all_got t (granted_part t (m ∷ needs) at) at) ≡ true
    by true e rest =
        ap (λ (b : Bool). is_stopped t n (all_got t (cond b [] (m ∷ more)) at)) e
        ∙ ap (λ (x : Need). is_stopped t x at) (sym (same_Some m n (sym (cond-true (is_stopped t m at) (Some m) (first_blocked t needs (got t m at)) e) ∙ is))) ∙ e
    by false e rest =
        ap (λ (b : Bool). is_stopped t n (all_got t (cond b [] (m ∷ more)) at)) e
        ∙ rest (sym (cond-false (is_stopped t m at) (Some m) (first_blocked t needs (got t m at)) e) ∙ is)

-- who was stopped waits there
asker_waits : (t : TxnId) (n : Need) (at : Queues) → is_stopped t n at ≡ true → has_lock t (got t n at (record_of n)).1 ≡ true
asker_waits t n at stopped =
    let r : RecordId = record_of n in
    let w : Lock = lock_of t n.asked in
    let pushed : List Lock × List Lock = ((at r).0, (at r).1 ++ w ∷ []) in
    let had : List Lock × List Lock = (with_lock w (at r).0, (at r).1) in
    ap (λ (b : Bool). has_lock t (cond b (after_ask w (at r)) (at r)).1) (record_same r)
    ∙ ap (λ (b : Bool). has_lock t (cond b pushed had).1) stopped
    ∙ has_last t (at r).1 w (same_itself t)

-- ---- who may go on

-- a wait at a record was granted
abbrev grant : TxnId → Queues → Option RecordId → Bool
grant t at o = option_map_or (λ r. cond (has_lock t (at r).1) false true) o false

grants_less : (t : TxnId) (old new : Queues) (o : Option RecordId) → ((r : RecordId) → has_lock t (old r).1 ≡ true → has_lock t (new r).1 ≡ true) → grant t new o ≡ true → grant t old o ≡ true
grants_less t old new None stays h = h
grants_less t old new (Some r) stays h = by (has_lock t (old r).1) refl
  where
    by : (b : Bool) → has_lock t (old r).1 ≡ b → cond (has_lock t (old r).1) false true ≡ true
    by true e = absurd (both_ways (cond (has_lock t (new r).1) false true) (ap (λ (b : Bool). cond b false true) (stays r e)) h)
    by false e = ap (λ (b : Bool). cond b false true) e

-- ---- a call that went on and waits again

-- a wait that may go on then could before, and is not the call's own
granted_before : (st : Standing) (w : Wait) (a : Active) (call : Call) (g : Target) (n : Need) (gone : List TxnId) (t : TxnId) →
    first_blocked a.txn (needs_in (resumed st w) a call g) st.locks.at ≡ Some n → was_granted_in t (with_wait a.txn n gone (locks_before (resumed st w) a call g)) ≡ true →
    (was_granted_in t st.locks ≡ true) × (is_same_txn a.txn t ≡ false)
granted_before st w a call g n gone t blocked h = by (is_in t gone) refl (is_same_txn a.txn t) refl (is_same_txn w.txn t) refl
  where
    before : Queues
    before = queues_before (resumed st w) a call g

    after : Queues
    after = λ r. without_waits gone (got a.txn n before r)

    pending : Bool → Bool → Bool → Option RecordId
    pending b c d = cond b None (cond c (Some (record_of n)) (cond d None (st.locks.pending t)))

    is_told : grant t after (pending (is_in t gone) (is_same_txn a.txn t) (is_same_txn w.txn t)) ≡ true
    is_told = h

    told : (b c d : Bool) → is_in t gone ≡ b → is_same_txn a.txn t ≡ c → is_same_txn w.txn t ≡ d → grant t after (pending b c d) ≡ true
    told b c d e f k =
        sym (ap (λ (x : Bool). grant t after (pending x (is_same_txn a.txn t) (is_same_txn w.txn t))) e
        ∙ ap₂ (λ (x y : Bool). grant t after (pending b x y)) f k) ∙ is_told

    stays : is_in t gone ≡ false → (r : RecordId) → has_lock t (st.locks.at r).1 ≡ true → has_lock t (after r).1 ≡ true
    stays apart r has =
        waits_without t gone (got a.txn n before r) apart
        (waits_got a.txn t n before r (waits_all_got a.txn t (granted_part a.txn (needs_in (resumed st w) a call g) st.locks.at) st.locks.at r has))

    by : (b : Bool) → is_in t gone ≡ b → (c : Bool) → is_same_txn a.txn t ≡ c → (d : Bool) → is_same_txn w.txn t ≡ d → (was_granted_in t st.locks ≡ true) × (is_same_txn a.txn t ≡ false)
    by true e c f d k = absurd (both_ways false refl (told true c d e f k))
    by false e true f d k =
        let same : a.txn ≡ t = same_is a.txn t f in
        let waits : has_lock t (after (record_of n)).1 ≡ true =
        waits_without t gone (got a.txn n before (record_of n)) e
        (ap (λ (u : TxnId). has_lock u (got a.txn n before (record_of n)).1) (sym same) ∙ asker_waits a.txn n before (blocked_last a.txn (needs_in (resumed st w) a call g) st.locks.at n blocked)) in
        absurd (both_ways (cond (has_lock t (after (record_of n)).1) false true) (ap (λ (x : Bool). cond x false true) waits) (told false true d e f k))
    by false e false f true k = absurd (both_ways false refl (told false false true e f k))
    by false e false f false k = (grants_less t st.locks.at after (st.locks.pending t) (stays e) (told false false false e f k), f)

or_either : (b x y : Bool) → (x ≡ true → y ≡ true) → (b || x) ≡ true → (b || y) ≡ true
or_either true x y f h = refl
or_either false x y f h = f h

-- ---- what is waiting after each step

closed_waits : (b : Bool) (a : Active) (changes : List Change) (st : Standing) → (closed b a changes st).waiting ≡ st.waiting
closed_waits true a [] st = refl
closed_waits true a (c ∷ changes) st = refl
closed_waits false a changes st = refl

fate_waits : (fate : Fate) (st : Standing) (a : Active) (call : Call) (g : Target) (evaluated : Evaluated) → (after_fate fate st st a call g evaluated).waiting ≡ st.waiting
fate_waits Succeeds st a call g evaluated = closed_waits a.is_auto a (with_names (changes_with st a g evaluated.changes)) (with_outcome a call g evaluated (answered a call g st))
fate_waits IsRefused st a call g evaluated = closed_waits a.is_auto a [] (answered a call g st)
fate_waits Faults st a call g evaluated = refl

changes_waits : (changes : List RecordChange) (st : Standing) (a : Active) (call : Call) (g : Target) (evaluated : Evaluated) (answer : Answer) → (after_changes changes st st a call g evaluated answer).waiting ≡ st.waiting
changes_waits [] st a call g evaluated answer = fate_waits Succeeds st a call g evaluated
changes_waits (c ∷ changes) st a call g evaluated answer = fate_waits (fate_of answer) st a call g evaluated

drawn_waits : (o : Option Active) (st : Standing) → (drawn_by o st).waiting ≡ st.waiting
drawn_waits None st = refl
drawn_waits (Some a) st = refl

ended_waits : (actives : List Active) (st : Standing) → (all_ended actives st).waiting ≡ st.waiting
ended_waits [] st = refl
ended_waits (a ∷ actives) st = ended_waits actives (ended a st)

any_ended_waits : (o : Option Active) (st : Standing) → (ended_if_any o st).waiting ≡ st.waiting
any_ended_waits None st = refl
any_ended_waits (Some a) st = refl

-- ---- each victim waits

waits_any : (t : TxnId) (ws : List Wait) → is_in t (txns ws) ≡ list_any (λ x. is_same_txn t x.txn) ws
waits_any t [] = refl
waits_any t (w ∷ ws) = ap (λ (b : Bool). is_same_txn t w.txn || b) (waits_any t ws)

-- a victim's session is that of a call that waits
victims_wait : (found : List (TxnId × List TxnId)) (ws : List Wait) (victims : List Victim) → victims ≡ map (told_in ws) found → AllByRecursion (λ v. is_in v.0 (txns ws) ≡ true) found →
    (s : ℕ) → is_victim s victims ≡ true → list_any (λ v. v.session == s) ws ≡ true
victims_wait found ws victims is there s h =
    let t = any_some (λ (v : Victim). v.session == s) victims h in
    let m = mapped_among (told_in ws) found t.0 (subst (IsAmong t.0) is t.1) in
    let f = find_some (λ (x : Wait). is_same_txn m.0.0 x.txn) ws (sym (waits_any m.0.0 ws) ∙ all_at (λ (v : TxnId × List TxnId). is_in v.0 (txns ws) ≡ true) found m.0 there m.1) in
    any_from (λ (v : Wait). v.session == s) ws f.0 (found_among (λ (x : Wait). is_same_txn m.0.0 x.txn) ws f.0 f.1).0
    (ap (λ (o : Option Wait). (told_by o m.0.1).session == s) (sym f.1) ∙ (ap (λ (v : Victim). v.session == s) m.2 ∙ t.2))

-- ---- together

abbrev back_at : List Active → LockState → LockState
back_at l locks = record { at = all_given_back l locks.at; pending = locks.pending }

-- the call waits again
module _ (st : Standing) (w : Wait) (a : Active) (line : ℕ) (g : Target) (n : Need) (victims : List Victim) where
  abbrev old : Standing
  old = resumed st w

  abbrev mid : Standing
  mid = with_waiting old a line w.call g n victims

  abbrev is_kept : Wait → Bool
  is_kept = λ v. not (is_victim v.session victims)

  abbrev asks : List Wait
  asks = asking a line w.call ∷ []

  stopped : (answer : Answer) → AreRight st → st.fault ≡ None → wait_of w.session st.waiting ≡ Some w → was_granted_in w.txn st.locks ≡ true → a.session ≡ w.session →
      first_blocked a.txn (needs_in old a w.call g) st.locks.at ≡ Some n → is_logged answer ≡ false → ((s : ℕ) → is_victim s victims ≡ true → list_any (λ v. v.session == s) (old.waiting ++ asks) ≡ true) → IsSettling answer st (with_victims victims mid)
  stopped answer right calm found ready own blocked logged waiters = by (nat_lt (length (with_victims victims mid).waiting) (length st.waiting)) refl
    where
      few : length old.waiting < length st.waiting
      few = without_fewer (λ (v : Wait). v.session == w.session) st.waiting w found

      waits : (with_victims victims mid).waiting ≡ filter is_kept (old.waiting ++ asks)
      waits = ended_waits (autos_in victims mid.actives) (without_waits_of victims mid)

      by : (b : Bool) → nat_lt (length (with_victims victims mid).waiting) (length st.waiting) ≡ b → IsSettling answer st (with_victims victims mid)
      by true e = inl (ltb-true (length (with_victims victims mid).waiting) (length st.waiting) e)
      by false e = inr (logged, as_many, fewer_ready)
        where
          many : length (filter is_kept (old.waiting ++ asks)) ≤ length (old.waiting ++ asks)
          many = no_more is_kept (old.waiting ++ asks)

          in_all : length (old.waiting ++ asks) ≡ length old.waiting + 1
          in_all = length-append old.waiting asks

          as_many : length (with_victims victims mid).waiting ≡ length st.waiting
          as_many =
              let is = ap length waits in
              let under = ltb-false (length (with_victims victims mid).waiting) (length st.waiting) e in
              omega (arith, is, under, many, in_all, few)

          all_kept : AllByRecursion (λ v. is_kept v ≡ true) (old.waiting ++ asks)
          all_kept = all_pass is_kept (old.waiting ++ asks) (let is = ap length waits in omega (arith, is, as_many, in_all, few))

          not_true : (b : Bool) → not b ≡ true → b ≡ false
          not_true true h = absurd cc
          not_true false h = refl

          no_victim : (s : ℕ) → is_victim s victims ≡ false
          no_victim s = ⊎_elim
              (λ h. let w = any_some (λ (v : Wait). v.session == s) (old.waiting ++ asks) (waiters s h) in
              let kept = all_at (λ (v : Wait). is_kept v ≡ true) (old.waiting ++ asks) w.0 all_kept w.1 in
              absurd (both_ways (is_victim w.0.session victims) (not_true (is_victim w.0.session victims) kept) (ap (λ (m : ℕ). is_victim m victims) (eqb-true w.0.session s w.2) ∙ h)))
              (λ h. h)
              (cases_Bool (is_victim s victims))

          both : (b c : Bool) → c ≡ false → (b && c) ≡ false
          both true c f = f
          both false c f = refl

          no_autos : autos_in victims st.actives ≡ []
          no_autos = none_pass (λ (b : Active). b.is_auto && is_victim b.session victims) st.actives (all_of (λ b. (b.is_auto && is_victim b.session victims) ≡ false) st.actives (λ b k. both b.is_auto (is_victim b.session victims) (no_victim b.session)))

          is : with_victims victims mid ≡ without_waits_of victims mid
          is = ap (λ (actives : List Active). all_ended actives (without_waits_of victims mid)) no_autos

          none_back : filter (λ b. is_victim b.session victims) st.actives ≡ []
          none_back = none_pass (λ (b : Active). is_victim b.session victims) st.actives (all_of (λ b. is_victim b.session victims ≡ false) st.actives (λ b k. no_victim b.session))

          same_locks : (without_waits_of victims mid).locks ≡ mid.locks
          same_locks = ap (λ (l : List Active). back_at l mid.locks) none_back

          test : Wait → Bool
          test = is_ready (without_waits_of victims mid)

          before : (v : Wait) → test v ≡ true → is_ready st v ≡ true
          before v h =
              or_either (is_some st.fault) (was_granted_in v.txn (without_waits_of victims mid).locks) (was_granted_in v.txn st.locks)
              (λ k. (granted_before st w a w.call g n (txns_of victims old.actives) v.txn blocked (ap (was_granted_in v.txn) (sym same_locks) ∙ k)).0) h

          not_ready : test (asking a line w.call) ≡ false
          not_ready = by_test (was_granted_in a.txn mid.locks) refl
            where
              by_test : (b : Bool) → was_granted_in a.txn mid.locks ≡ b → test (asking a line w.call) ≡ false
              by_test true k = absurd (both_ways (is_same_txn a.txn a.txn) (granted_before st w a w.call g n (txns_of victims old.actives) a.txn blocked k).1 (same_itself a.txn))
              by_test false k = ap₂ (λ (f : Option Fault) (b : Bool). is_some f || b) calm (ap (was_granted_in a.txn) same_locks ∙ k)

          all_so : (xs : List Wait) → AllByRecursion (λ v. test v ≡ true → is_ready st v ≡ true) xs
          all_so [] = tt
          all_so (v ∷ xs) = (before v, all_so xs)

          fewer_ready : ready_in (with_victims victims mid) < ready_in st
          fewer_ready =
              let at_first = ap ready_in is in
              let some = fewer_of test is_kept (old.waiting ++ asks) in
              let split = ap length (filter_append test old.waiting asks) in
              let sum = length-append (filter test old.waiting) (filter test asks) in
              let none = ap length (lost test (asking a line w.call) [] not_ready) in
              let less = fewer_pass test (is_ready st) old.waiting (all_so old.waiting) in
              let last = without_less (is_ready st) (λ (v : Wait). v.session == w.session) st.waiting w found (or_right (is_some st.fault) (was_granted_in w.txn st.locks) ready) in
              omega (arith, at_first, some, split, sum, none, less, last)

-- a session that ends
pub ends-settle : EndsSettle
ends-settle st session has = by (wait_of session st.waiting) refl has
  where
    by : (o : Option Wait) → wait_of session st.waiting ≡ o → is_some o ≡ true → length (after_session session st).waiting < length st.waiting
    by None e h = absurd cc
    by (Some w) e h =
        let is = ap length (any_ended_waits (active_of session st.actives) (record st { waiting = without_wait session st.waiting })) in
        let few = without_fewer (λ (v : Wait). v.session == session) st.waiting w e in
        omega (arith, is, few)

-- ---- a call that goes on

not_logged : (o : Option (List TxnId)) (at : LockTarget) (owner : TxnId) → is_logged (waiting_answer o at owner) ≡ false
not_logged None at owner = refl
not_logged (Some cycle) at owner = refl

fault_early : (st : Standing) (session : ℕ) (call : Call) (first : Fault) → st.fault ≡ Some first → early_refusal st session call ≡ None → ⊥
fault_early st session call first is none = absurd (none-some (Invalid first) (sym none ∙ ap (λ (f : Option Fault). or_refusal (fault_refusal f) (later st session call)) is))
  where
    later : Standing → ℕ → Call → Option Answer
    later st session call =
        let active = active_of session st.actives in or_refusal (waits_refusal st active) (or_refusal (abort_refusal call active) (txn_refusal call active))

module _ (limit : Option Answer) (st : Standing) (w : Wait) (session line : ℕ) (answer : Answer) (victims : List Victim) where
  abbrev on : Standing
  on = resumed st w

  -- fewer calls wait
  less : (new : Standing) → wait_of w.session st.waiting ≡ Some w → new.waiting ≡ on.waiting → IsSettling answer st new
  less new found is =
      let k = ap length is in
      let few = without_fewer (λ (v : Wait). v.session == w.session) st.waiting w found in
      inl (omega (arith, k, few))

  taken : (a : Active) (call : Call) (g : Target) (o : Option Need) → w.call ≡ call → first_blocked a.txn (needs_in on a call g) st.locks.at ≡ o → AreRight st → st.fault ≡ None →
      wait_of w.session st.waiting ≡ Some w → was_granted_in w.txn st.locks ≡ true → a.session ≡ w.session → IsTaken o limit on a line call g answer victims →
      IsSettling answer st (after_taking o on on a line call g answer victims)
  taken a call g None same blocked right calm found ready own h =
      less (after_changes (outcome_of on a call g).changes on on a call g (outcome_of on a call g) answer) found (changes_waits (outcome_of on a call g).changes on a call g (outcome_of on a call g) answer)
  taken a call g (Some n) same blocked right calm found ready own h = by_owner (owner_before a.txn n (queues_before on a call g)) h
    where
      by_waits : (b : Bool) (owner : TxnId) → IsWaiting b on a line call g n owner answer victims → IsSettling answer st (after_stop b on a line call g n victims)
      by_waits false owner k = less (with_locks a (queues_before on a call g) on) found refl
      by_waits true owner k =
          let logged : is_logged answer ≡ false = ap is_logged k.3 ∙ not_logged (cycle_of a.txn k.0) (lock_target g n) owner in
          subst (λ (c : Call). IsSettling answer st (with_victims victims (with_waiting on a line c g n victims))) same
          (stopped st w a line g n victims answer right calm found ready own (ap (λ (c : Call). first_blocked a.txn (needs_in on a c g) st.locks.at) same ∙ blocked) logged
          (victims_wait k.0 (on.waiting ++ asking a line w.call ∷ []) victims (k.2 ∙ ap (λ (c : Call). map (told_in (on.waiting ++ asking a line c ∷ [])) k.0) (sym same))
          (victims_in a.txn _ (txns (on.waiting ++ asking a line w.call ∷ [])) k.0 (all_wait (lock_of a.txn n.asked) (record_of n) (locks_before on a call g) on.waiting (asking a line w.call) refl (waits_resumed st.actives st.waiting st.locks.pending w right.sound.waits found).told) k.1)))

      by_owner : (o : Option TxnId) → IsStopped o on a line call g n answer victims → IsSettling answer st (after_stop a.waits on a line call g n victims)
      by_owner None k = absurd k
      by_owner (Some owner) k = by_waits a.waits owner k

  run : (o : Option Active) (call : Call) → w.call ≡ call → active_of session st.actives ≡ o → is_some o ≡ true → AreRight st → st.fault ≡ None → wait_of w.session st.waiting ≡ Some w →
      was_granted_in w.txn st.locks ≡ true → session ≡ w.session → IsRun o limit on session line call answer victims → IsSettling answer st (after_run o on session line call answer victims)
  run None call same its has right calm found ready own h = absurd cc
  run (Some a) call same its has right calm found ready own h = by_target (target_of on session call) h
    where
      by_target : (t : Option Target) → IsOn t limit on a line call answer victims → IsSettling answer st (after_on t on on a line call answer victims)
      by_target None k = absurd k
      by_target (Some g) k =
          taken a call g (first_blocked a.txn (needs_in on a call g) st.locks.at) same refl right calm found ready
          (eqb-true a.session session (found_passes (λ (b : Active). b.session == session) st.actives a its) ∙ own) k

  performed : (call : Call) → w.call ≡ call → MayWait call → is_some (active_of session st.actives) ≡ true → AreRight st → st.fault ≡ None → wait_of w.session st.waiting ≡ Some w →
      was_granted_in w.txn st.locks ≡ true → session ≡ w.session → IsPerformed call limit on session line answer victims → IsSettling answer st (after_performed call on session line answer victims)
  performed (Get db key rmw) same may has right calm found ready own h = run (active_of session st.actives) (Get db key rmw) same refl has right calm found ready own h
  performed (GetBoth db key value rmw) same may has right calm found ready own h = run (active_of session st.actives) (GetBoth db key value rmw) same refl has right calm found ready own h
  performed (Put db key value mode) same may has right calm found ready own h = run (active_of session st.actives) (Put db key value mode) same refl has right calm found ready own h
  performed (Delete db key) same may has right calm found ready own h = run (active_of session st.actives) (Delete db key) same refl has right calm found ready own h
  performed (Count cursor) same may has right calm found ready own h = run (active_of session st.actives) (Count cursor) same refl has right calm found ready own h
  performed (Cur cursor motion rmw) same may has right calm found ready own h = run (active_of session st.actives) (Cur cursor motion rmw) same refl has right calm found ready own h
  performed (CPutCur cursor value) same may has right calm found ready own h = run (active_of session st.actives) (CPutCur cursor value) same refl has right calm found ready own h
  performed (CDel cursor) same may has right calm found ready own h = run (active_of session st.actives) (CDel cursor) same refl has right calm found ready own h
  performed (CPut cursor key value mode) same may has right calm found ready own h = run (active_of session st.actives) (CPut cursor key value mode) same refl has right calm found ready own h
  performed call same may has right calm found ready own h = absurd may

  evaluated : (o : Option Answer) → IsRightOrFaulted st → st.fault ≡ None → wait_of w.session st.waiting ≡ Some w → was_granted_in w.txn st.locks ≡ true → session ≡ w.session →
      IsEvaluated o limit on session line w.call answer victims → IsSettling answer st (after_evaluated o on session line w.call answer victims)
  evaluated (Some refusal) right calm found ready own h = less (drawn_by (active_of session on.actives) on) found (drawn_waits (active_of session on.actives) on)
  evaluated None (inr fault) calm found ready own h = absurd (none-some fault.0 (sym calm ∙ fault.1))
  evaluated None (inl right) calm found ready own h =
      let its : IsWaitIn st.actives w = found_is (IsWaitIn st.actives) (λ (v : Wait). v.session == w.session) st.waiting w right.sound.waits.each found in
      let may : MayWait w.call = found_is (λ v. MayWait v.call) (λ (v : Wait). v.session == w.session) st.waiting w right.calls found in
      performed w.call refl may (ap (λ (s : ℕ). is_some (active_of s st.actives)) own ∙ ap is_some its.its) right calm found ready own h

  goes_on : (o : Option Answer) → early_refusal on session w.call ≡ o → IsRightOrFaulted st → wait_of w.session st.waiting ≡ Some w → IsReady st.fault st w.txn → session ≡ w.session →
      IsCallAnswered o limit on session line w.call answer victims → IsSettling answer st (after_call o on session line w.call answer victims)
  goes_on (Some refusal) early right found ready own h = less on found refl
  goes_on None early right found ready own h = by st.fault refl ready
    where
      by : (f : Option Fault) → st.fault ≡ f → IsReady f st w.txn → IsSettling answer st (after_call None on session line w.call answer victims)
      by (Some first) e k = absurd (fault_early on session w.call first e early)
      by None e k = evaluated (late_refusal on session w.call) right e found k own h

pub resumes-settle : ResumesSettle
resumes-settle limit st session line answer victims right is = by (wait_of session st.waiting) refl is
  where
    by : (o : Option Wait) → wait_of session st.waiting ≡ o → IsResumed o limit st session line answer victims → IsSettling answer st (after_resumed o st session line answer victims)
    by None e h = absurd h
    by (Some w) e h =
        let own : session ≡ w.session = sym (eqb-true w.session session (found_passes (λ (v : Wait). v.session == session) st.waiting w e)) in
        let found : wait_of w.session st.waiting ≡ Some w = ap (λ (s : ℕ). wait_of s st.waiting) (sym own) ∙ e in
        goes_on limit st w session line answer victims (early_refusal (resumed st w) session w.call) refl right found h.1 own h.2
