use Rattle.std.proofs.Common.{ℕ, arith, length-take, length-drop}
use Rattle.std.proofs.lemmas.List.{take_rest}
use Rattle.je_io.proofs.SourceSinkSteps.{gains_further}
use Rattle.je_io.proofs.writing.write_all.Goals as goal

pub loop-done-preserved : goal.loop-done-preserved
loop-done-preserved g c =
    let observed = simp take_rest at c.in_ok-done.ensures.observed in
    let more = gains_further (g.K.Sink.written c.args.output.now) (g.K.Sink.written c.loop-done.output) (g.K.Sink.written c.write.new.self) c.args.bytes.now c.loop-done.done c.in_ok-done.field-0 c.loop-done.invariant.1 observed in
    (omega (arith, c.in_ok-done.ensures.bound, length-take {A = ℕ}, length-drop {A = ℕ}), more, grind arith)
