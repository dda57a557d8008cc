use Rattle.std.proofs.Common.{sym, ◌∙◌, take}
use Rattle.je_io.proofs.SourceSinkSteps.{put}
use Rattle.je_io.proofs.mem_sink.MemSinkSink.write.Goals as goal

pub returns-clause-observed : goal.returns-clause-observed
returns-clause-observed c =
    put c.extend_from_slice.result c.extend_from_slice.new.self.items c.args.self.now.bytes.items (take c.min-count.result c.args.from.now)
    c.extend_from_slice.ensures.items (sym c.is_err.ensures.value ∙ c.if-is_err.false)
