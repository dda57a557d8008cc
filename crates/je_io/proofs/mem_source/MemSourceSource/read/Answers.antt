use Rattle.std.proofs.Common.{arith}
use Rattle.je_io.proofs.SourceSinkSteps.{front_read}
use Rattle.je_io.proofs.mem_source.MemSourceSource.read.Goals as goal

pub returns-clause-observed : goal.returns-clause-observed
returns-clause-observed c =
    front_read c.args.self.now.rest.now c.split_at.result.1.now c.args.into.now c.split_at.result.0.now c.copy_from_slice.new.self c.min-count.result
    c.split_at.ensures.front c.split_at.ensures.back c.copy_from_slice.ensures.after (omega arith) (λ z room. omega arith)
