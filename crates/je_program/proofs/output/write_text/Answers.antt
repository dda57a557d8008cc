use Rattle.je_program.specs.Commands.{text_of}
use Rattle.je_program.specs.Program.{fault_text}
use Rattle.je_program.proofs.OutputLaws.{both_observed, both_part, part_of_first}
use Rattle.je_program.proofs.output.write_text.Goals as goal

pub returns-in-Ok-clause-observed : goal.returns-in-Ok-clause-observed
returns-in-Ok-clause-observed g c =
    both_observed (g.K.Sink.written c.args.output.now) (g.K.Sink.written c.write_body.new.output) (g.K.Sink.written c.write_fault.new.output) (text_of c.args.text.now c.args.opened c.args.journal.now c.args.totals.now) (fault_text c.args.cause.now) c.write_fault.result c.in-Ok.ensures.observed c.write_fault.ensures.observed

pub returns-in-Ok-clause-part : goal.returns-in-Ok-clause-part
returns-in-Ok-clause-part g c =
    both_part (g.K.Sink.written c.args.output.now) (g.K.Sink.written c.write_body.new.output) (g.K.Sink.written c.write_fault.new.output) (text_of c.args.text.now c.args.opened c.args.journal.now c.args.totals.now) (fault_text c.args.cause.now) c.write_fault.result c.in-Ok.ensures.observed c.write_fault.ensures.part

pub returns-in-Err-clause-part : goal.returns-in-Err-clause-part
returns-in-Err-clause-part g c =
    part_of_first (g.K.Sink.written c.args.output.now) (g.K.Sink.written c.write_body.new.output) (text_of c.args.text.now c.args.opened c.args.journal.now c.args.totals.now) (fault_text c.args.cause.now) c.in-Err.ensures.part
