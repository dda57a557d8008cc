-- A change of one record's queue, read at every record.
use mathlib.Core.Path.{fun_ext}
use Rattle.std.proofs.Common.{◌≡◌, ℕ, Bool, true, false, cond, List, [], ◌∷◌, length, eqb, ◌&&◌, Some, None, Option, refl, ap, sym, ◌∙◌, subst, ⊎_elim, arith}
use Rattle.std.specs.declared.cmp.Ordering.TheVariants.{Equal}
use Rattle.std.specs.Map.{lookup}
use Rattle.std.specs.Option.{unwrap_or}
use Rattle.std.proofs.lemmas.Map.Lookups.{exact_unsigned}
use Rattle.std.proofs.lemmas.Bool.{cases_Bool, and_parts, eqb-true}
use Rattle.je_order.specs.declared.bound.Bound.{Bound}
use Rattle.je_order.specs.declared.bound.Bound.TheVariants.{At, End}
use Rattle.lock_table.specs.declared.lock.Lock.{Lock}
use Rattle.lock_table.specs.declared.record_id.RecordId.{RecordId}
use Rattle.lock_table.specs.Records.{record_cmp, is_record, queue_at}
use Rattle.lock_table.specs.Locks.{after_give_back}
use Rattle.lock_mode.specs.declared.lock_type.LockType.{LockType}
use Rattle.je_order.specs.declared.txn_id.TxnId.{TxnId}
use Rattle.je_order.specs.contracts.bound.BoundOrd.TheImpl.{ghosts as bound_order}
use Rattle.lock_table.specs.contracts.record_id.RecordIdPartialEq.TheImpl.{ghosts as equality}
use Rattle.lock_table.specs.contracts.record_id.RecordIdOrd.TheImpl.Laws as order
use Rattle.je_order.proofs.Orderings.{equal_from_test, name_exact, then_equal}

bound_exact : (a b : Bound) → bound_order.cmp a b ≡ Equal → a ≡ b
bound_exact (At a) (At b) h = ap At (name_exact a b h)
bound_exact (At a) End h = absurd (cc)
bound_exact End (At b) h = absurd (cc)
bound_exact End End h = refl

pub record_is : (a b : RecordId) → is_record a b ≡ true → a ≡ b
record_is a b h = let p = then_equal _ _ (equal_from_test (record_cmp a b) h) in let d = exact_unsigned a.db b.db p.0 in let t = bound_exact a.at b.at p.1 in ap (λ (x : ℕ). record { db = x; at = a.at }) d ∙ ap (λ (x : Bound). record { db = b.db; at = x }) t

abbrev pub Queue : Type 0
Queue = List Lock × List Lock

-- ---- what a map says by the equality of records, by the test of them
same_test : (r : RecordId) → equality.eq r ≡ is_record r
same_test r = fun_ext (order.matches_eq-law r)

same_tests : equality.eq ≡ is_record
same_tests = fun_ext same_test

pub at_equal : (r : RecordId) (es : List (RecordId × Queue)) → lookup (equality.eq r) es ≡ lookup (is_record r) es
at_equal r es = ap (λ (test : RecordId → Bool). lookup test es) (same_test r)

pub queue_equal : (r : RecordId) (es : List (RecordId × Queue)) → unwrap_or (lookup (equality.eq r) es) ([], []) ≡ queue_at r es
queue_equal r es = ap (λ o. unwrap_or o ([], [])) (at_equal r es)

-- the queue at one record is another, and all else is as it was
abbrev pub IsChanged : List (RecordId × Queue) → List (RecordId × Queue) → RecordId → Option Queue → Type 0
IsChanged old new at w = (q : RecordId) → lookup (is_record q) new ≡ cond (is_record at q) w (lookup (is_record q) old)

pub changed_equal : (old new : List (RecordId × Queue)) (at : RecordId) (w : Option Queue) → ((q : RecordId) → lookup (equality.eq q) new ≡ cond (equality.eq at q) w (lookup (equality.eq q) old)) → IsChanged old new at w
changed_equal old new at w h = subst (λ (test : RecordId → RecordId → Bool). (q : RecordId) → lookup (test q) new ≡ cond (test at q) w (lookup (test q) old)) same_tests h

pub queue_written : (old new : List (RecordId × Queue)) (at : RecordId) (f : Queue → Queue) (v w : Queue) → Some v ≡ lookup (is_record at) old → w ≡ f v → IsChanged old new at (Some w)
    → (r : RecordId) → queue_at r new ≡ cond (is_record at r) (f (queue_at r old)) (queue_at r old)
queue_written old new at f v w has is u r = ⊎_elim
    (λ h. let e = record_is at r h in
    let a : lookup (is_record r) new ≡ Some w = u r ∙ ap (λ b. cond b (Some w) (lookup (is_record r) old)) h in
    let b : Some v ≡ lookup (is_record r) old = rw e at has in
    let c : queue_at r new ≡ w = ap (λ o. unwrap_or o ([], [])) a in
    let d : v ≡ queue_at r old = ap (λ o. unwrap_or o ([], [])) b in
    c ∙ (is ∙ (ap f d ∙ sym (ap (λ x. cond x (f (queue_at r old)) (queue_at r old)) h))))
    (λ h. let a : lookup (is_record r) new ≡ lookup (is_record r) old = u r ∙ ap (λ b. cond b (Some w) (lookup (is_record r) old)) h in
    ap (λ o. unwrap_or o ([], [])) a ∙ sym (ap (λ x. cond x (f (queue_at r old)) (queue_at r old)) h))
    (cases_Bool (is_record at r))

-- where the record is not there, a change that makes nothing of nothing is no change
pub queue_absent : (old new : List (RecordId × Queue)) (at : RecordId) (f : Queue → Queue) → None ≡ lookup (is_record at) old → f ([], []) ≡ ([], []) → new ≡ old
    → (r : RecordId) → queue_at r new ≡ cond (is_record at r) (f (queue_at r old)) (queue_at r old)
queue_absent old new at f none is same r = ap (queue_at r) same ∙ ⊎_elim
    (λ h. let e = record_is at r h in
    let b : None ≡ lookup (is_record r) old = rw e at none in
    let d : ([], []) ≡ queue_at r old = ap (λ o. unwrap_or o ([], [])) b in
    sym d ∙ (sym is ∙ (ap f d ∙ sym (ap (λ x. cond x (f (queue_at r old)) (queue_at r old)) h))))
    (λ h. sym (ap (λ x. cond x (f (queue_at r old)) (queue_at r old)) h))
    (cases_Bool (is_record at r))

-- a queue that became empty goes
pub queue_removed : (old mid new : List (RecordId × Queue)) (at : RecordId) (f : Queue → Queue) (v w : Queue) → Some v ≡ lookup (is_record at) old → w ≡ f v → w ≡ ([], []) → IsChanged old mid at (Some w) → IsChanged mid new at None
    → (r : RecordId) → queue_at r new ≡ cond (is_record at r) (f (queue_at r old)) (queue_at r old)
queue_removed old mid new at f v w has is empty u d r = gone ∙ queue_written old mid at f v w has is u r
  where
    gone : queue_at r new ≡ queue_at r mid
    gone = ⊎_elim
        (λ h. let a : lookup (is_record r) new ≡ None = d r ∙ ap (λ b. cond b None (lookup (is_record r) mid)) h in
        let b : lookup (is_record r) mid ≡ Some w = u r ∙ ap (λ b. cond b (Some w) (lookup (is_record r) old)) h in
        let c : queue_at r new ≡ ([], []) = ap (λ o. unwrap_or o ([], [])) a in
        c ∙ (sym empty ∙ sym (ap (λ o. unwrap_or o ([], [])) b)))
        (λ h. let a : lookup (is_record r) new ≡ lookup (is_record r) mid = d r ∙ ap (λ b. cond b None (lookup (is_record r) mid)) h in ap (λ o. unwrap_or o ([], [])) a)
        (cases_Bool (is_record at r))

-- a new queue comes
pub queue_added : (old new : List (RecordId × Queue)) (at : RecordId) (f : Queue → Queue) (w : Queue) → None ≡ lookup (is_record at) old → w ≡ f ([], []) → IsChanged old new at (Some w)
    → (r : RecordId) → queue_at r new ≡ cond (is_record at r) (f (queue_at r old)) (queue_at r old)
queue_added old new at f w none is u r = ⊎_elim
    (λ h. let e = record_is at r h in
    let a : lookup (is_record r) new ≡ Some w = u r ∙ ap (λ b. cond b (Some w) (lookup (is_record r) old)) h in
    let b : None ≡ lookup (is_record r) old = rw e at none in
    let c : queue_at r new ≡ w = ap (λ o. unwrap_or o ([], [])) a in
    let d : ([], []) ≡ queue_at r old = ap (λ o. unwrap_or o ([], [])) b in
    c ∙ (is ∙ (ap f d ∙ sym (ap (λ x. cond x (f (queue_at r old)) (queue_at r old)) h))))
    (λ h. let a : lookup (is_record r) new ≡ lookup (is_record r) old = u r ∙ ap (λ b. cond b (Some w) (lookup (is_record r) old)) h in
    ap (λ o. unwrap_or o ([], [])) a ∙ sym (ap (λ x. cond x (f (queue_at r old)) (queue_at r old)) h))
    (cases_Bool (is_record at r))

pub same_written : (old new : List (RecordId × Queue)) (at : RecordId) (v w : Queue) → Some v ≡ lookup (is_record at) old → w ≡ v → IsChanged old new at (Some w) → (r : RecordId) → queue_at r new ≡ queue_at r old
same_written old new at v w has is u r = queue_written old new at (λ q. q) v w has is u r ∙ either (is_record at r) (queue_at r old)
  where
    either : (b : Bool) (q : Queue) → cond b q q ≡ q
    either true q = refl
    either false q = refl

-- no owner and no wait
pub is_nothing : (q : Queue) (b : Bool) → b ≡ (eqb (length q.0) 0 && eqb (length q.1) 0) → b ≡ true → q ≡ ([], [])
is_nothing q b e h = let p = and_parts (eqb (length q.0) 0) (eqb (length q.1) 0) (sym e ∙ h) in let a = nil q.0 (eqb-true (length q.0) 0 p.0) in let c = nil q.1 (eqb-true (length q.1) 0 p.1) in ap (λ (x : List Lock). (x, q.1)) a ∙ ap (λ (x : List Lock). ([], x)) c
  where
    nil : (xs : List Lock) → length xs ≡ 0 → xs ≡ []
    nil [] h = refl
    nil (x ∷ xs) h = absurd (omega arith)

pub give_nothing : (t : TxnId) (was : Option LockType) → after_give_back t was ([], []) ≡ ([], [])
give_nothing t None = refl
give_nothing t (Some m) = refl
