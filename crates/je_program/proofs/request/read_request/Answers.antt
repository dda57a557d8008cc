use Rattle.std.proofs.Common.{map, string_bytes, sym, ap, subst, ◌∙◌}
use Rattle.std.specs.Prelude.{IfErr, IfOk, Option}
use Rattle.command_line.specs.declared.command.Command.{Command}
use Rattle.command_line.specs.Arguments.{command_in}
use Rattle.je_program.specs.Commands.{reads_input}
use Rattle.je_program.specs.Program.{IsNoRequest}
use Rattle.je_program.specs.Request.{IsRequestOf}
use Rattle.je_program.proofs.RequestLaws.{none_given}
use Rattle.je_program.proofs.request.read_request.Goals as goal

pub returns-in_err-command-clause-none : goal.returns-in_err-command-clause-none
returns-in_err-command-clause-none g c =
    none_given (command_in (map string_bytes c.args.args.now)) (g.S.Source.left c.args.input.now) (g.S.Source.faults c.args.input.now) (g.S.Source.faults c.args.input.now) c.from_residual.result c.in_err-command.field-0.0
    c.from_residual.ensures.1 c.in_err-command.ensures.none

pub returns-clause-is : goal.returns-clause-is
returns-clause-is g c =
    subst (λ (k : Option Command). IfOk c.request_of.result (IsRequestOf k (g.S.Source.left c.args.input.now) (g.S.Source.left c.request_of.new.input))) (sym c.in_ok-command.ensures.is) c.request_of.ensures.is

pub returns-clause-none : goal.returns-clause-none
returns-clause-none g c =
    subst (λ (k : Option Command). IfErr c.request_of.result (IsNoRequest k (g.S.Source.left c.args.input.now) (g.S.Source.faults c.args.input.now) (g.S.Source.faults c.request_of.new.input))) (sym c.in_ok-command.ensures.is)
    c.request_of.ensures.none

pub returns-clause-unread : goal.returns-clause-unread
returns-clause-unread g c = λ none. c.request_of.ensures.unread (ap reads_input (sym c.in_ok-command.ensures.is) ∙ none)
