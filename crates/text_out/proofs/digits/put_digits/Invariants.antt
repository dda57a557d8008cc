use Rattle.std.proofs.Common.{◌≡◌, ◌++◌, ℕ, List, length}
use Rattle.hex.specs.Hex.{encode_lower}
use Rattle.text_out.specs.OutBuffer.{Adds, point}
use Rattle.text_out.proofs.digits.put_digits.Given as goal

-- the digits that were sent and those of what is left are all
abbrev pub invariant-loop-rest : goal.invariant-loop-rest
invariant-loop-rest g l =
    (done : List ℕ) × Adds (point (g.K.Sink.written l.initial.out) (g.K.Sink.faults l.initial.out) l.initial.buffer) (point (g.K.Sink.written l.out) (g.K.Sink.faults l.out) l.buffer) done
    × (done ++ encode_lower l.rest ≡ encode_lower l.bytes)

abbrev pub decreases-loop-rest : goal.decreases-loop-rest
decreases-loop-rest g l = length l.rest
