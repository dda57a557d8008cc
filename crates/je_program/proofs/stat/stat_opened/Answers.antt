use Rattle.std.proofs.Common.{◌∙◌, ℕ, Some, subst}
use Rattle.je_disk.specs.Moments.{now}
use Rattle.command_line.specs.declared.command.Command.TheVariants.{Stat}
use Rattle.environment.specs.Whole.{disk_of}
use Rattle.je_program.specs.Program.{IsRunOf}
use Rattle.je_program.proofs.BeginLaws.{beginning, opened_as_one}
use Rattle.je_program.proofs.LoadLaws.{load_start}
use Rattle.je_program.proofs.RestingLaws.{stat_opens_only, stopped_comes}
use Rattle.je_program.proofs.StatLaws.{closed_comes}
use Rattle.je_program.proofs.stat.stat_opened.Goals as goal

pub returns-in-Ok : goal.returns-in-Ok
returns-in-Ok g c = λ left before after later there.
    let meaning = g.D.Disk.meaning in
    let disk = c.args.disk in
    let old = meaning.history disk in
    let faults = meaning.faults disk in
    let environment = c.in-Ok.opened.environment in
    let opening = c.in-Ok.opened.opening in
    let o = c.in-Ok.ensures in
    let most = c.usual_config-config.result.file_max in
    let one = opened_as_one most meaning.observable (now old).reads opening (meaning.history (disk_of environment)) environment o.opened o.crash in
    let start = load_start meaning most old faults opening environment one o.bounds o.entry o.faults in
    let first = c.close_at_rest-run.result in
    let f = c.close_at_rest-run.ensures in
    let run : IsRunOf _ meaning.observable old (meaning.history first.disk) faults (meaning.faults first.disk) first.opening first.totals first.journal.items first.cause one.st =
    subst (λ (n : ℕ). IsRunOf n meaning.observable old (meaning.history first.disk) faults (meaning.faults first.disk) first.opening first.totals first.journal.items first.cause one.st) c.usual_config-config.ensures.file_max
    (f.run old faults (beginning meaning most environment one.st) start) in
    let n = c.counted_if.ensures in
    closed_comes meaning left before after later disk there first c.counted_if.result.run c.counted_if.result.text one.st f.ends f.opened f.journal run (f.caused faults o.faults) n.counted n.untouched n.never_falls

pub returns-in-Err : goal.returns-in-Err
returns-in-Err g c = λ left before after later there.
    let u = c.unopened.ensures in
    let e = c.in-Err.ensures in
    stopped_comes g.D.Disk.meaning (Some Stat) stat_opens_only left before after later c.args.disk c.unopened.result c.in-Err.field-0.error c.in-Err.field-0.disk there
    e.stopped e.left_alone e.stopped_entry e.stopped_faults (u.cause ∙ c.opening_cause-cause.ensures) u.opened u.disk u.journal u.opening
