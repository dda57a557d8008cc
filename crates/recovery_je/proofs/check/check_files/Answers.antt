use Rattle.std.proofs.Common.{subst}
use Rattle.recovery_je.specs.Measuring.{AreMeasured}
use Rattle.recovery_je.proofs.CheckAnswers.{checked_all, stopped_at}
use Rattle.recovery_je.proofs.check.check_files.Goals as goal

pub returns-in-Stopped-clause-corrupt : goal.returns-in-Stopped-clause-corrupt
returns-in-Stopped-clause-corrupt g c observable reads read =
    stopped_at observable reads c.args.files.now c.in-Stopped.corruption c.requires.files (subst (AreMeasured observable reads c.args.files.now c.args.lens.now) c.in-Stopped.is read)

pub returns-in_ok-with_runs-in-All-clause-checked : goal.returns-in_ok-with_runs-in-All-clause-checked
returns-in_ok-with_runs-in-All-clause-checked g c observable reads read =
    let check = c.in_ok-check-in-All.check in
    checked_all observable reads c.args.files.now c.in-All.entries c.in-All.tail c.args.lens.now check.databases check.findings c.in_ok-with_runs-in-All.field-0 c.requires.files
    (subst (AreMeasured observable reads c.args.files.now c.args.lens.now) c.in-All.is read) c.in_ok-check-in-All.ensures.findings c.in_ok-check-in-All.ensures.databases c.in_ok-with_runs-in-All.ensures
