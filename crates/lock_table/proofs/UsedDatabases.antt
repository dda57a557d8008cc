-- A database where no lock was asked for has no lock: what each call keeps of it.
use Rattle.std.proofs.Common.{◌≡◌, ℕ, Bool, true, cond, length, arith, List, [], ◌∷◌, Result, Ok, Err, OnOk, OnErr, refl, ap, ◌∙◌, subst}
use Rattle.std.proofs.lemmas.Bool.{cond_both, both_ways, false_from_ne_true}
use Rattle.je_order.specs.declared.txn_id.TxnId.{TxnId}
use Rattle.lock_mode.specs.declared.lock_type.LockType.{LockType}
use Rattle.std.specs.declared.option.Option.{Option}
use Rattle.lock_table.specs.declared.lock.Lock.{Lock}
use Rattle.lock_table.specs.declared.record_id.RecordId.{RecordId}
use Rattle.lock_table.specs.Locks.{after_ask, after_give_back}
use Rattle.lock_table.specs.Records.{is_record, queue_at}
use Rattle.lock_table.specs.Table.{Locks, locks_at, IsSameTable, AreUsed}
use Rattle.lock_table.proofs.QueueMaps.{Queue, record_is, give_nothing}

-- a change that makes nothing of nothing
pub used_by : (used : ℕ → Bool) (Q Q2 : RecordId → Queue) (f : Queue → Queue) → f ([], []) ≡ ([], []) → ((r : RecordId) → Q2 r ≡ f (Q r)) → AreUsed used Q → AreUsed used Q2
used_by used Q Q2 f none is a r n = is r ∙ (ap f (a r n) ∙ none)

pub used_back : (used : ℕ → Bool) (Q Q2 : RecordId → Queue) (u : TxnId) (at : RecordId) (was : Option LockType) → ((r : RecordId) → Q2 r ≡ cond (is_record at r) (after_give_back u was (Q r)) (Q r)) → AreUsed used Q → AreUsed used Q2
used_back used Q Q2 u at was is a r n = is r ∙ cond_both (is_record at r) (after_give_back u was (Q r)) (Q r) (λ q. q ≡ ([], [])) (λ e. ap (after_give_back u was) (a r n) ∙ give_nothing u was) (λ e. a r n)

-- where more databases are noted
pub used_more : (used used2 : ℕ → Bool) (Q : RecordId → Queue) → ((d : ℕ) → used d ≡ true → used2 d ≡ true) → AreUsed used Q → AreUsed used2 Q
used_more used used2 Q more a r n = a r (false_from_ne_true (used r.db) (λ h. both_ways (used2 r.db) n (more r.db h)))

pub used_asked_in : {T E : Type 0} (result : Result T E) (used : ℕ → Bool) (v w : Locks) (at : RecordId) (l : Lock) → AreUsed used (λ r. locks_at r v) → used at.db ≡ true
    → OnOk result ((r : RecordId) → locks_at r w ≡ cond (is_record at r) (after_ask l (locks_at r v)) (locks_at r v)) → OnErr result (IsSameTable v w) → AreUsed used (λ r. locks_at r w)
used_asked_in (Ok x) used v w at l a is ok err r n = ok r ∙ cond_both (is_record at r) (after_ask l (locks_at r v)) (locks_at r v) (λ q. q ≡ ([], []))
    (λ e. absurd (both_ways (used r.db) n (subst (λ (x : RecordId). used x.db ≡ true) (record_is at r e) is)))
    (λ e. a r n)
used_asked_in (Err e) used v w at l a is ok err r n = err.locks r ∙ a r n

-- no record is there
pub used_empty : (used : ℕ → Bool) (es : List (RecordId × Queue)) → length es ≡ 0 → AreUsed used (λ r. queue_at r es)
used_empty used [] h r n = refl
used_empty used (e ∷ es) h r n = absurd (omega arith)
