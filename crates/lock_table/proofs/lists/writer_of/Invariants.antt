use Rattle.std.proofs.Common.{◌≡◌, drop}
use Rattle.lock_table.specs.Locks.{writer_in}
use Rattle.lock_table.proofs.lists.writer_of.Given as goal

abbrev pub invariant-loop-owner : goal.invariant-loop-owner
invariant-loop-owner l = writer_in (drop l.owner-index l.owners) ≡ writer_in l.owners
