use Rattle.std.proofs.Common.{refl, sym, subst, Some}
use Rattle.std.specs.Prelude.{IfErr, IfOk}
use Rattle.command_line.specs.declared.command.Command.{Command}
use Rattle.command_line.specs.declared.command.Command.TheVariants.{Load, Run}
use Rattle.command_line.specs.Arguments.{HasSettings}
use Rattle.je_program.specs.Program.{IsNoRequest}
use Rattle.je_program.specs.Request.{IsRequestOf}
use Rattle.je_program.proofs.RequestLaws.{no_reading, no_soak}
use Rattle.je_program.proofs.request.request_of.Goals as goal

pub run_request-requires : goal.run_request-requires
run_request-requires g c = subst HasSettings c.in-Run.is c.requires

pub soak_request-requires : goal.soak_request-requires
soak_request-requires g c = subst HasSettings c.in-Soak.is c.requires

pub returns-in-Run-clause-is : goal.returns-in-Run-clause-is
returns-in-Run-clause-is g c =
    subst (λ (k : Command). IfOk c.run_request.result (IsRequestOf (Some k) (g.S.Source.left c.args.input.now) (g.S.Source.left c.run_request.new.input))) (sym c.in-Run.is) c.run_request.ensures.is

pub returns-in-Run-clause-none : goal.returns-in-Run-clause-none
returns-in-Run-clause-none g c =
    subst (λ (k : Command). IfErr c.run_request.result (IsNoRequest (Some k) (g.S.Source.left c.args.input.now) (g.S.Source.faults c.args.input.now) (g.S.Source.faults c.run_request.new.input))) (sym c.in-Run.is)
    (no_reading (Some (Run c.in-Run.settings)) (g.S.Source.left c.args.input.now) (g.S.Source.faults c.args.input.now) (g.S.Source.faults c.run_request.new.input) c.run_request.result refl c.run_request.ensures.no_dump c.run_request.ensures.none)

pub returns-in-Soak-clause-is : goal.returns-in-Soak-clause-is
returns-in-Soak-clause-is g c =
    subst (λ (k : Command). IfOk c.soak_request.result (IsRequestOf (Some k) (g.S.Source.left c.args.input.now) (g.S.Source.left c.args.input.now))) (sym c.in-Soak.is)
    (c.soak_request.ensures.is (g.S.Source.left c.args.input.now))

pub returns-in-Soak-clause-none : goal.returns-in-Soak-clause-none
returns-in-Soak-clause-none g c =
    subst (λ (k : Command). IfErr c.soak_request.result (IsNoRequest (Some k) (g.S.Source.left c.args.input.now) (g.S.Source.faults c.args.input.now) (g.S.Source.faults c.args.input.now))) (sym c.in-Soak.is)
    (no_soak c.in-Soak.seed c.in-Soak.settings (g.S.Source.left c.args.input.now) (g.S.Source.faults c.args.input.now) (g.S.Source.faults c.args.input.now) c.soak_request.result c.soak_request.ensures.none)

pub returns-in-Load-clause-is : goal.returns-in-Load-clause-is
returns-in-Load-clause-is g c =
    subst (λ (k : Command). IfOk c.load_request.result (IsRequestOf (Some k) (g.S.Source.left c.args.input.now) (g.S.Source.left c.load_request.new.input))) (sym c.in-Load.is) c.load_request.ensures.is

pub returns-in-Load-clause-none : goal.returns-in-Load-clause-none
returns-in-Load-clause-none g c =
    subst (λ (k : Command). IfErr c.load_request.result (IsNoRequest (Some k) (g.S.Source.left c.args.input.now) (g.S.Source.faults c.args.input.now) (g.S.Source.faults c.load_request.new.input))) (sym c.in-Load.is)
    (no_reading (Some (Load c.in-Load.db c.in-Load.no_overwrite)) (g.S.Source.left c.args.input.now) (g.S.Source.faults c.args.input.now) (g.S.Source.faults c.load_request.new.input) c.load_request.result refl c.load_request.ensures.no_script c.load_request.ensures.none)
