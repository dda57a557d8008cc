use Rattle.std.proofs.Common.{◌≡◌, ℕ, length, vec_capacity}
use Rattle.sessions.proofs.Tells.{IsTelling}
use Rattle.sessions.proofs.telling.tell_each.Given as goal

abbrev pub invariant-loop-victim : goal.invariant-loop-victim
invariant-loop-victim l =
    ((size : ℕ) × IsTelling l.waiting l.fn.victims.items l.victims.items size l.initial.txns.actives.items l.txns.actives.items l.told.items (vec_capacity l.told) l.buffers.items)
    × (l.txns.own.entries ≡ l.initial.txns.own.entries)

abbrev pub decreases-loop-victim : goal.decreases-loop-victim
decreases-loop-victim l = length l.victims.items
