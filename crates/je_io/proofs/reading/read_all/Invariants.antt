use Rattle.std.proofs.Common.{length, ◌-◌, ◌+◌, ◌≤◌}
use Rattle.je_io.specs.Source.{Loses}
use Rattle.je_io.proofs.reading.read_all.Given as goal

abbrev pub invariant-loop-piece : goal.invariant-loop-piece
invariant-loop-piece g l =
    (length l.bytes.items ≤ l.most + 1) × Loses (g.S.Source.left l.initial.input) (g.S.Source.left l.input) l.bytes.items × (g.S.Source.faults l.initial.input ≤ g.S.Source.faults l.input)

abbrev pub decreases-loop-piece : goal.decreases-loop-piece
decreases-loop-piece g l = l.most + 1 - length l.bytes.items
