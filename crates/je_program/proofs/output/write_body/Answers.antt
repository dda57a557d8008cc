use Rattle.std.proofs.Common.{OnErr, sym, subst}
use Rattle.je_io.specs.Sink.{GainsPart}
use Rattle.je_program.specs.declared.text.Text.{Text}
use Rattle.je_program.specs.Commands.{text_of}
use Rattle.je_program.proofs.output.write_body.Goals as goal

pub returns-in-Dump-clause-part : goal.returns-in-Dump-clause-part
returns-in-Dump-clause-part g c = subst
    (λ (text : Text). OnErr c.write_dump.result (GainsPart (g.K.Sink.written c.args.output.now) (g.K.Sink.written c.write_dump.new.output) (text_of text c.args.opened c.args.journal.now c.args.totals.now)))
    (sym c.in-Dump.is) c.write_dump.ensures.part
