use Rattle.std.proofs.Common.{◌≡◌}
use Rattle.std.specs.Vec.Iter.{into_iter_items}
use Rattle.sessions.specs.Names.{named_by}
use Rattle.sessions.proofs.telling.known_as.Given as goal

abbrev pub invariant-loop-other : goal.invariant-loop-other
invariant-loop-other l = named_by (into_iter_items l.other-iterator) l.number (l.fn.db, l.fn.kind) ≡ named_by l.fn.others.items l.number (l.fn.db, l.fn.kind)
