use Rattle.std.proofs.Common.{◌≡◌, ◌++◌, map}
use Rattle.std.specs.Vec.Iter.{into_iter_items}
use Rattle.db_tree.proofs.imaging.lows_in.Given as goal

abbrev pub invariant-loop-slot : goal.invariant-loop-slot
invariant-loop-slot l = l.lows.items ++ map (λ slot. slot.name) (into_iter_items l.slot-iterator) ≡ map (λ slot. slot.name) l.fn.slots
