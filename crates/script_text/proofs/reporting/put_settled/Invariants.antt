use Rattle.std.proofs.Common.{◌≡◌, ◌++◌, ℕ, List, take, drop}
use Rattle.std.specs.List.{flat_map}
use Rattle.text_out.specs.OutBuffer.{Adds, point}
use Rattle.script_text.specs.Report.{begun_after, none_begun, settled_line, waiting_after}
use Rattle.script_text.proofs.reporting.put_settled.Given as goal

abbrev pub invariant-loop-k : goal.invariant-loop-k
invariant-loop-k g l =
    (done : List ℕ) × Adds (point (g.K.Sink.written l.initial.out) (g.K.Sink.faults l.initial.out) l.initial.buffer) (point (g.K.Sink.written l.out) (g.K.Sink.faults l.out) l.buffer) done
    × (done ++ flat_map (settled_line l.event) (waiting_after (begun_after none_begun (take l.k l.seen)) (drop l.k l.seen)) ≡ flat_map (settled_line l.event) (waiting_after none_begun l.seen))
