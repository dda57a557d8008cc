use Rattle.text_out.proofs.BufferedText.{adds_written, adds_broken}
use Rattle.text_out.proofs.out_buffer.write_out.Goals as goal

pub returns-in-Ok : goal.returns-in-Ok
returns-in-Ok g c =
    rw c.if-failed.false (adds_written (g.K.Sink.written c.args.out.now) (g.K.Sink.written c.write_all.new.output) (g.K.Sink.faults c.args.out.now) (g.K.Sink.faults c.write_all.new.output) c.args.bytes.now c.in-Ok.ensures.observed c.in-Ok.ensures.never_falls)

pub returns-in-Err : goal.returns-in-Err
returns-in-Err g c =
    rw c.if-failed.false (adds_broken (g.K.Sink.written c.args.out.now) (g.K.Sink.written c.write_all.new.output) (g.K.Sink.faults c.args.out.now) (g.K.Sink.faults c.write_all.new.output) c.args.bytes.now c.in-Err.ensures.part c.in-Err.ensures.never_falls c.in-Err.ensures.cause)
