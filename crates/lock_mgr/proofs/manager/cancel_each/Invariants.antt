use Rattle.std.proofs.Common.{◌≡◌, Some, true, false, drop, map}
use Rattle.je_order.specs.declared.txn_id.TxnId.{TxnId}
use Rattle.waits_for.specs.Cycles.{is_in}
use Rattle.lock_table.specs.declared.record_id.RecordId.{RecordId}
use Rattle.lock_table.specs.Table.{locks_at, pending_at, is_waiting, IsLockTable}
use Rattle.lock_mgr.specs.Deadlock.{without_waits}
use Rattle.lock_mgr.proofs.NoDeadlockLaws.{IsGoing}
use Rattle.lock_mgr.proofs.manager.cancel_each.Given as goal

abbrev pub invariant-loop-victim : goal.invariant-loop-victim
invariant-loop-victim l = record {
  locks : (r : RecordId) → without_waits (map (λ v. v.0) (drop l.victim-index l.victims)) (locks_at r l.table) ≡ without_waits (map (λ v. v.0) l.victims) (locks_at r l.initial.table);
  sound : IsLockTable l.table;
  pending : (t : TxnId) → is_in t (map (λ v. v.0) l.victims) ≡ false → pending_at t l.table ≡ pending_at t l.initial.table;
  gone : (t : TxnId) → is_in t (map (λ v. v.0) l.victims) ≡ true → is_waiting t l.initial.table ≡ true → IsGoing t (map (λ v. v.0) (drop l.victim-index l.victims)) l.table;
  kept : (t : TxnId) (r : RecordId) → pending_at t l.table ≡ Some r → pending_at t l.initial.table ≡ Some r;
}
