use Rattle.std.proofs.Common.{◌≡◌, ◌≤◌, ◌+◌, ◌-◌, take, drop, vec_len, vec_capacity}
use Rattle.lock_table.specs.Locks.{granted}
use Rattle.lock_table.proofs.WaitsAfterGrant.{behind}
use Rattle.lock_table.proofs.lists.grant_in.Given as goal

abbrev pub invariant-loop-at : goal.invariant-loop-at
invariant-loop-at l = record {
  grants : behind (take l.kept l.waits.items) (granted l.owners.items (drop l.at l.waits.items)) ≡ granted l.initial.owners.items l.initial.waits.items;
  kept : l.kept ≤ l.at;
  len : vec_len l.waits ≡ vec_len l.initial.waits;
  room : vec_len l.owners + (vec_len l.waits - l.at) + l.kept ≤ vec_capacity l.owners;
}
