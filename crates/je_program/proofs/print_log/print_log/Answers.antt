use Rattle.std.proofs.Common.{◌∙◌, sym, subst, ap}
use Rattle.je_disk.specs.Moments.{now}
use Rattle.engine.specs.Untouched.{IsUntouched}
use Rattle.je_program.specs.declared.cause.Cause.{Cause}
use Rattle.je_program.specs.declared.text.Text.TheVariants.{Nothing, Log}
use Rattle.je_program.specs.Commands.{ends_reading}
use Rattle.je_program.specs.Printing.{IsPrinted, cause_of_log}
use Rattle.je_program.proofs.PrintLaws.{log_may, log_stopped}
use Rattle.je_program.proofs.print_log.print_log.Goals as goal

pub returns-in-Ok-clause-cause : goal.returns-in-Ok-clause-cause
returns-in-Ok-clause-cause g c = ap ends_reading c.unopened.ensures.cause

pub returns-in-Ok-clause-printed : goal.returns-in-Ok-clause-printed
returns-in-Ok-clause-printed g c =
    subst (λ (why : Cause). IsPrinted g.D.Disk.meaning.observable (now (g.D.Disk.meaning.history c.args.disk)).reads (g.D.Disk.meaning.faults c.args.disk) (g.D.Disk.meaning.faults c.unopened.result.disk) why (Log c.in-Ok.files)) (sym c.unopened.ensures.cause)
    c.in-Ok.ensures.read

pub returns-in-Ok-clause-untouched : goal.returns-in-Ok-clause-untouched
returns-in-Ok-clause-untouched g c = λ observed.
    subst (λ d. IsUntouched (g.D.Disk.meaning.history c.args.disk) (g.D.Disk.meaning.history d)) (sym c.unopened.ensures.disk) (record { same = c.in-Ok.ensures.same observed; moments = c.in-Ok.ensures.moments observed })

pub returns-in-Err-clause-cause : goal.returns-in-Err-clause-cause
returns-in-Err-clause-cause g c = ap ends_reading (c.unopened-in-Err.ensures.cause ∙ c.log_cause.ensures) ∙ log_may c.in-Err.error

pub returns-in-Err-clause-printed : goal.returns-in-Err-clause-printed
returns-in-Err-clause-printed g c =
    let meaning = g.D.Disk.meaning in
    subst (λ (why : Cause). IsPrinted g.D.Disk.meaning.observable (now (g.D.Disk.meaning.history c.args.disk)).reads (meaning.faults c.args.disk) (meaning.faults c.unopened-in-Err.result.disk) why Nothing) (sym (c.unopened-in-Err.ensures.cause ∙ c.log_cause.ensures))
    (subst (λ d. IsPrinted g.D.Disk.meaning.observable (now (g.D.Disk.meaning.history c.args.disk)).reads (meaning.faults c.args.disk) (meaning.faults d) (cause_of_log c.in-Err.error) Nothing) (sym c.unopened-in-Err.ensures.disk)
    (log_stopped g.D.Disk.meaning.observable (now (g.D.Disk.meaning.history c.args.disk)).reads (meaning.faults c.args.disk) (meaning.faults c.read_log.new.disk) c.in-Err.error c.in-Err.ensures.stops))

pub returns-in-Err-clause-untouched : goal.returns-in-Err-clause-untouched
returns-in-Err-clause-untouched g c = λ observed.
    subst (λ d. IsUntouched (g.D.Disk.meaning.history c.args.disk) (g.D.Disk.meaning.history d)) (sym c.unopened-in-Err.ensures.disk) (record { same = c.in-Err.ensures.same observed; moments = c.in-Err.ensures.moments observed })
