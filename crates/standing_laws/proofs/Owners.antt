-- Owners that stay owners: what a transaction holds for writing stays, whoever asks, gives back or ends.
use Rattle.std.proofs.Common.{◌≡◌, Bool, true, false, cond, not, ◌||◌, ◌⊎◌, inl, inr, List, [], ◌∷◌, ◌++◌, map, Some, None, Option, refl, ap, sym, ◌∙◌, subst, ⊎_elim}
use Rattle.std.specs.List.{find}
use Rattle.std.specs.Option.{option_map}
use Rattle.std.proofs.lemmas.Bool.{cases_Bool, cond-true, cond-false, or_left, or_right, both_ways}
use Rattle.je_order.specs.declared.txn_id.TxnId.{TxnId}
use Rattle.je_order.specs.Transactions.{is_same_txn}
use Rattle.je_order.proofs.TxnIds.{same_is, same_itself}
use Rattle.lock_mode.specs.declared.lock_type.LockType.{LockType}
use Rattle.lock_mode.specs.declared.lock_type.LockType.TheVariants.{Read, Write, RangeRead, RangeWrite, RangeInsert}
use Rattle.lock_mode.specs.Modes.{upgraded, can_be_held}
use Rattle.lock_table.specs.declared.lock.Lock.{Lock}
use Rattle.lock_table.specs.Locks.{is_of, is_write, has_lock, without_txn, held_by, is_blocked, upgraded_by, with_lock, waits_still, granted, after_release, read_given_back, after_read}
use Rattle.lock_table.proofs.RecordCalls.{lock_in, granted_in}
use Rattle.standing_laws.specs.Right.{HasWrite}

some_is : {X : Type 0} (x y : X) → Some x ≡ Some y → x ≡ y
some_is x y e = cc

held_here : (t : TxnId) (o : Lock) (os : List Lock) → is_of t o ≡ true → held_by t (o ∷ os) ≡ Some o.mode
held_here t o os e = ap (option_map (λ (l : Lock). l.mode)) (cond-true (is_of t o) (Some o) (find (is_of t) os) e)

held_there : (t : TxnId) (o : Lock) (os : List Lock) → is_of t o ≡ false → held_by t (o ∷ os) ≡ held_by t os
held_there t o os e = ap (option_map (λ (l : Lock). l.mode)) (cond-false (is_of t o) (Some o) (find (is_of t) os) e)

-- ---- what is written stays written

write_up : (h m : LockType) → is_write h ≡ true → is_write (upgraded h m) ≡ true
write_up Read m e = absurd (cc (e))
write_up RangeRead m e = absurd (cc (e))
write_up RangeInsert m e = absurd (cc (e))
write_up Write Read e = refl
write_up Write Write e = refl
write_up Write RangeRead e = refl
write_up Write RangeWrite e = refl
write_up Write RangeInsert e = refl
write_up RangeWrite m e = refl

write_gets : (h m : LockType) → is_write m ≡ true → is_write (upgraded h m) ≡ true
write_gets h Read e = absurd (cc (e))
write_gets h RangeRead e = absurd (cc (e))
write_gets h RangeInsert e = absurd (cc (e))
write_gets Read Write e = refl
write_gets Read RangeWrite e = refl
write_gets Write Write e = refl
write_gets Write RangeWrite e = refl
write_gets RangeRead Write e = refl
write_gets RangeRead RangeWrite e = refl
write_gets RangeWrite Write e = refl
write_gets RangeWrite RangeWrite e = refl
write_gets RangeInsert Write e = refl
write_gets RangeInsert RangeWrite e = refl

can_write : (m : LockType) → is_write m ≡ true → can_be_held m ≡ true
can_write Read e = absurd (cc (e))
can_write RangeRead e = absurd (cc (e))
can_write RangeInsert e = absurd (cc (e))
can_write Write e = refl
can_write RangeWrite e = refl

first_write : (u : TxnId) (o : Lock) (os : List Lock) → is_of u o ≡ true → is_write o.mode ≡ true → HasWrite u (o ∷ os)
first_write u o os e w = record { mode = o.mode; held = held_here u o os e; writes = w }

later_write : (u : TxnId) (o : Lock) (os : List Lock) → is_of u o ≡ false → HasWrite u os → HasWrite u (o ∷ os)
later_write u o os e h = record { mode = h.mode; held = held_there u o os e ∙ h.held; writes = h.writes }

mode_here : (u : TxnId) (o : Lock) (os : List Lock) → is_of u o ≡ true → HasWrite u (o ∷ os) → is_write o.mode ≡ true
mode_here u o os e h = ap is_write (some_is o.mode h.mode (sym (held_here u o os e) ∙ h.held)) ∙ h.writes

rest_write : (u : TxnId) (o : Lock) (os : List Lock) → is_of u o ≡ false → HasWrite u (o ∷ os) → HasWrite u os
rest_write u o os e h = record { mode = h.mode; held = sym (held_there u o os e) ∙ h.held; writes = h.writes }

nobody_writes : (u : TxnId) → HasWrite u [] → ⊥
nobody_writes u h = let k = h.held in absurd (cc (k))

same_owner : (w o : Lock) (b : Bool) → (cond b (record { txn = o.txn; mode = upgraded o.mode w.mode }) o).txn ≡ o.txn
same_owner w o true = refl
same_owner w o false = refl

still_writes : (w o : Lock) (b : Bool) → is_write o.mode ≡ true → is_write (cond b (record { txn = o.txn; mode = upgraded o.mode w.mode }) o).mode ≡ true
still_writes w o true e = write_up o.mode w.mode e
still_writes w o false e = e

upgraded_keeps : (u : TxnId) (w : Lock) (os : List Lock) → HasWrite u os → HasWrite u (map (upgraded_by w) os)
upgraded_keeps u w [] h = absurd (nobody_writes u h)
upgraded_keeps u w (o ∷ os) h = ⊎_elim
    (λ e. first_write u (upgraded_by w o) (map (upgraded_by w) os) (ap (is_same_txn u) (same_owner w o (is_of w.txn o)) ∙ e) (still_writes w o (is_of w.txn o) (mode_here u o os e h)))
    (λ e. later_write u (upgraded_by w o) (map (upgraded_by w) os) (ap (is_same_txn u) (same_owner w o (is_of w.txn o)) ∙ e) (upgraded_keeps u w os (rest_write u o os e h)))
    (cases_Bool (is_of u o))

pushed_keeps : (u : TxnId) (w : Lock) (os : List Lock) → HasWrite u os → HasWrite u (os ++ w ∷ [])
pushed_keeps u w [] h = absurd (nobody_writes u h)
pushed_keeps u w (o ∷ os) h = ⊎_elim
    (λ e. first_write u o (os ++ w ∷ []) e (mode_here u o os e h))
    (λ e. later_write u o (os ++ w ∷ []) e (pushed_keeps u w os (rest_write u o os e h)))
    (cases_Bool (is_of u o))

by_cond : (P : List Lock → Type 0) (b : Bool) (xs ys : List Lock) → P xs → P ys → P (cond b xs ys)
by_cond P true xs ys h k = h
by_cond P false xs ys h k = k

pub lock_keeps : (u : TxnId) (w : Lock) (os : List Lock) → HasWrite u os → HasWrite u (with_lock w os)
lock_keeps u w os h = by_cond (HasWrite u) (can_be_held w.mode) _ os (by_cond (HasWrite u) (has_lock w.txn os) (map (upgraded_by w) os) (os ++ w ∷ []) (upgraded_keeps u w os h) (pushed_keeps u w os h)) h

pub granted_keeps : (u : TxnId) (ws os : List Lock) → HasWrite u os → HasWrite u (granted os ws).0
granted_keeps u [] os h = h
granted_keeps u (w ∷ ws) os h = ⊎_elim
    (λ e. subst (λ (q : List Lock × List Lock). HasWrite u q.0) (sym (cond-true (is_blocked os w) (waits_still w (granted os ws)) (granted (with_lock w os) ws) e)) (granted_keeps u ws os h))
    (λ e. subst (λ (q : List Lock × List Lock). HasWrite u q.0) (sym (cond-false (is_blocked os w) (waits_still w (granted os ws)) (granted (with_lock w os) ws) e)) (granted_keeps u ws (with_lock w os) (lock_keeps u w os h)))
    (cases_Bool (is_blocked os w))

pub without_keeps : (t u : TxnId) (os : List Lock) → is_same_txn t u ≡ false → HasWrite u os → HasWrite u (without_txn t os)
without_keeps t u [] n h = absurd (nobody_writes u h)
without_keeps t u (o ∷ os) n h = ⊎_elim
    (λ e. subst (HasWrite u) (sym (cond-true (not (is_of t o)) (o ∷ without_txn t os) (without_txn t os) e)) (⊎_elim
    (λ f. first_write u o (without_txn t os) f (mode_here u o os f h))
    (λ f. later_write u o (without_txn t os) f (without_keeps t u os n (rest_write u o os f h)))
    (cases_Bool (is_of u o))))
    (λ e. subst (HasWrite u) (sym (cond-false (not (is_of t o)) (o ∷ without_txn t os) (without_txn t os) e)) (⊎_elim
    (λ f. let k : u ≡ o.txn = same_is u o.txn f in let m : is_of t o ≡ false = subst (λ (x : TxnId). is_same_txn t x ≡ false) k n in absurd (cc (m, e, ap not m)))
    (λ f. without_keeps t u os n (rest_write u o os f h))
    (cases_Bool (is_of u o))))
    (cases_Bool (not (is_of t o)))

pub release_keeps : (t u : TxnId) (q : List Lock × List Lock) → is_same_txn t u ≡ false → HasWrite u q.0 → HasWrite u (after_release t q).0
release_keeps t u q n h = granted_keeps u (without_txn t q.1) (without_txn t q.0) (without_keeps t u q.0 n h)

read_not_write : (u : TxnId) (os : List Lock) → held_by u os ≡ Some Read → HasWrite u os → ⊥
read_not_write u os e h = let k : Read ≡ h.mode = some_is Read h.mode (sym e ∙ h.held) in let m : is_write Read ≡ true = ap is_write k ∙ h.writes in both_ways false refl m

by_held : (t u : TxnId) (held : Option LockType) (q : List Lock × List Lock) → held_by t q.0 ≡ held → HasWrite u q.0 → HasWrite u (read_given_back t held q).0
by_held t u (Some Read) q e h = ⊎_elim
    (λ s. absurd (read_not_write u q.0 (ap (λ (x : TxnId). held_by x q.0) (sym (same_is t u s)) ∙ e) h))
    (λ s. granted_keeps u q.1 (without_txn t q.0) (without_keeps t u q.0 s h))
    (cases_Bool (is_same_txn t u))
by_held t u None q e h = h
by_held t u (Some Write) q e h = h
by_held t u (Some RangeRead) q e h = h
by_held t u (Some RangeWrite) q e h = h
by_held t u (Some RangeInsert) q e h = h

pub read_keeps : (t u : TxnId) (q : List Lock × List Lock) → HasWrite u q.0 → HasWrite u (after_read t q).0
read_keeps t u q h = by_held t u (held_by t q.0) q refl h

-- ---- what is asked for writing is written

upgraded_writes : (w : Lock) (os : List Lock) → is_write w.mode ≡ true → has_lock w.txn os ≡ true → HasWrite w.txn (map (upgraded_by w) os)
upgraded_writes w [] m h = absurd (cc (h))
upgraded_writes w (o ∷ os) m h = ⊎_elim
    (λ e. first_write w.txn (upgraded_by w o) (map (upgraded_by w) os) (ap (is_same_txn w.txn) (same_owner w o (is_of w.txn o)) ∙ e)
    (subst (λ (l : Lock). is_write l.mode ≡ true) (sym (cond-true (is_of w.txn o) (record { txn = o.txn; mode = upgraded o.mode w.mode }) o e)) (write_gets o.mode w.mode m)))
    (λ e. later_write w.txn (upgraded_by w o) (map (upgraded_by w) os) (ap (is_same_txn w.txn) (same_owner w o (is_of w.txn o)) ∙ e) (upgraded_writes w os m (sym (ap (λ b. b || has_lock w.txn os) e) ∙ h)))
    (cases_Bool (is_of w.txn o))

pushed_writes : (w : Lock) (os : List Lock) → is_write w.mode ≡ true → has_lock w.txn os ≡ false → HasWrite w.txn (os ++ w ∷ [])
pushed_writes w [] m h = first_write w.txn w [] (same_itself w.txn) m
pushed_writes w (o ∷ os) m h = ⊎_elim
    (λ e. absurd (both_ways (has_lock w.txn (o ∷ os)) h (or_left (is_of w.txn o) (has_lock w.txn os) e)))
    (λ e. later_write w.txn o (os ++ w ∷ []) e (pushed_writes w os m (sym (ap (λ b. b || has_lock w.txn os) e) ∙ h)))
    (cases_Bool (is_of w.txn o))

pub lock_writes : (w : Lock) (os : List Lock) → is_write w.mode ≡ true → HasWrite w.txn (with_lock w os)
lock_writes w os m = subst (HasWrite w.txn) (sym (cond-true (can_be_held w.mode) (cond (has_lock w.txn os) (map (upgraded_by w) os) (os ++ w ∷ [])) os (can_write w.mode m)))
    (⊎_elim
    (λ e. subst (HasWrite w.txn) (sym (cond-true (has_lock w.txn os) (map (upgraded_by w) os) (os ++ w ∷ []) e)) (upgraded_writes w os m e))
    (λ e. subst (HasWrite w.txn) (sym (cond-false (has_lock w.txn os) (map (upgraded_by w) os) (os ++ w ∷ []) e)) (pushed_writes w os m e))
    (cases_Bool (has_lock w.txn os)))

-- ---- who owns afterwards, owned or waited before

turn : (a b c : Bool) → (a ≡ false → b ≡ false → c ≡ false) → c ≡ true → (a ≡ true) ⊎ (b ≡ true)
turn true b c f h = inl refl
turn false true c f h = inr refl
turn false false c f h = absurd (both_ways c (f refl refl) h)

pub locked_before : (u : TxnId) (w : Lock) (os : List Lock) → has_lock u (with_lock w os) ≡ true → (has_lock u os ≡ true) ⊎ (is_of u w ≡ true)
locked_before u w os h = turn (has_lock u os) (is_of u w) (has_lock u (with_lock w os)) (lock_in u w os) h

pub granted_before : (u : TxnId) (os ws : List Lock) → has_lock u (granted os ws).0 ≡ true → (has_lock u os ≡ true) ⊎ (has_lock u ws ≡ true)
granted_before u os ws h = turn (has_lock u os) (has_lock u ws) (has_lock u (granted os ws).0) (granted_in u ws os) h

without_before : (t u : TxnId) (ls : List Lock) → has_lock u (without_txn t ls) ≡ true → (has_lock u ls ≡ true) × (is_same_txn t u ≡ false)
without_before t u [] h = absurd (cc (h))
without_before t u (l ∷ ls) h = ⊎_elim
    (λ e. kept e (sym (ap (has_lock u) (cond-true (not (is_of t l)) (l ∷ without_txn t ls) (without_txn t ls) e)) ∙ h) (without_before t u ls))
    (λ e. let r = without_before t u ls (sym (ap (has_lock u) (cond-false (not (is_of t l)) (l ∷ without_txn t ls) (without_txn t ls) e)) ∙ h) in (or_right (is_of u l) (has_lock u ls) r.0, r.1))
    (cases_Bool (not (is_of t l)))
  where
    not_true : (b : Bool) → not b ≡ true → b ≡ false
    not_true true k = absurd (cc (k))
    not_true false k = refl

    kept : not (is_of t l) ≡ true → (is_of u l || has_lock u (without_txn t ls)) ≡ true → (has_lock u (without_txn t ls) ≡ true → (has_lock u ls ≡ true) × (is_same_txn t u ≡ false)) → (has_lock u (l ∷ ls) ≡ true) × (is_same_txn t u ≡ false)
    kept e k f = ⊎_elim
        (λ s. (or_left (is_of u l) (has_lock u ls) s, ap (is_same_txn t) (same_is u l.txn s) ∙ not_true (is_of t l) e))
        (λ s. let r = f (sym (ap (λ b. b || has_lock u (without_txn t ls)) s) ∙ k) in (or_right (is_of u l) (has_lock u ls) r.0, r.1))
        (cases_Bool (is_of u l))

-- after a release the others own what they owned or waited for
pub released_before : (t u : TxnId) (q : List Lock × List Lock) → has_lock u (after_release t q).0 ≡ true → ((has_lock u q.0 ≡ true) ⊎ (has_lock u q.1 ≡ true)) × (is_same_txn t u ≡ false)
released_before t u q h = ⊎_elim
    (λ k. let r = without_before t u q.0 k in (inl r.0, r.1))
    (λ k. let r = without_before t u q.1 k in (inr r.0, r.1))
    (granted_before u (without_txn t q.0) (without_txn t q.1) h)

pub read_before : (t u : TxnId) (held : Option LockType) (q : List Lock × List Lock) → has_lock u (read_given_back t held q).0 ≡ true → (has_lock u q.0 ≡ true) ⊎ (has_lock u q.1 ≡ true)
read_before t u (Some Read) q h = ⊎_elim (λ k. inl (without_before t u q.0 k).0) (λ k. inr k) (granted_before u (without_txn t q.0) q.1 h)
read_before t u None q h = inl h
read_before t u (Some Write) q h = inl h
read_before t u (Some RangeRead) q h = inl h
read_before t u (Some RangeWrite) q h = inl h
read_before t u (Some RangeInsert) q h = inl h
