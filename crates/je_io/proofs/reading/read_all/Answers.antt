use Rattle.std.proofs.Common.{take, ◌++◌, arith}
use Rattle.std.proofs.lemmas.Grind.{common_steps}
use Rattle.je_io.proofs.SourceSinkSteps.{after_err, loses_further, takes_full, takes_ended}
use Rattle.je_io.proofs.reading.read_all.Goals as goal

pub returns-in_err-extend_from_slice-clause-lost :
    goal.returns-in_err-extend_from_slice-clause-lost
returns-in_err-extend_from_slice-clause-lost g c =
    let lost = loses_further (g.S.Source.left c.args.input.now) (g.S.Source.left c.loop-piece.input) (g.S.Source.left c.read.new.self) c.loop-piece.bytes.items _ _ c.in_ok-count.count c.loop-piece.invariant.1 c.in_ok-count.ensures.observed in
    after_err c.from_residual-in_err-extend_from_slice.result (c.loop-piece.bytes.items ++ take c.in_ok-count.count c.read.new.into, lost)

pub returns-clause-observed : goal.returns-clause-observed
returns-clause-observed g c =
    takes_full (g.S.Source.left c.args.input.now) (g.S.Source.left c.loop-piece.input) c.args.most c.loop-piece.bytes.items c.loop-piece.invariant.1 (omega (arith, c.loop-piece.invariant.0))

pub returns-then-count-eq0-clause-observed : goal.returns-then-count-eq0-clause-observed
returns-then-count-eq0-clause-observed g c =
    takes_ended (g.S.Source.left c.args.input.now) (g.S.Source.left c.loop-piece.input) (g.S.Source.left c.read.new.self) c.args.most c.loop-piece.bytes.items _ _ c.in_ok-count.count c.loop-piece.invariant.1 c.in_ok-count.ensures.observed c.if-count-eq0.true (grind (arith, common_steps)) (omega arith)
