use Rattle.std.proofs.Common.{◌≡◌, ◌∙◌, ℕ, List, None, Some, ap, sym, subst}
use Rattle.je_disk.specs.Moments.{now}
use Rattle.store_model.specs.declared.event.Event.{Event}
use Rattle.store_model.specs.declared.store.Store.{Store}
use Rattle.store_model.specs.Store.{database_of}
use Rattle.je_answers.specs.Standing.{Standing}
use Rattle.command_line.specs.declared.command.Command.TheVariants.{Dump}
use Rattle.environment.specs.Databases.{IsFoundIn, rows_held}
use Rattle.environment.specs.Whole.{disk_of}
use Rattle.je_program.specs.Program.{ClosesRun, IsRunOf}
use Rattle.je_program.proofs.BeginLaws.{beginning, opened_as_one, starts_valid}
use Rattle.je_program.proofs.DumpLaws.{dump_comes, run_of_same}
use Rattle.je_program.proofs.LoadLaws.{load_start}
use Rattle.je_program.proofs.RestingLaws.{dump_opens_only, stopped_comes}
use Rattle.je_program.proofs.dumping.dump_opened.Goals as goal

pub returns-in-Ok : goal.returns-in-Ok
returns-in-Ok g c = λ left before after later there.
    let meaning = g.D.Disk.meaning in
    let disk = c.args.disk in
    let old = meaning.history disk in
    let faults = meaning.faults disk in
    let environment = c.in-Ok.opened.environment in
    let opening = c.in-Ok.opened.opening in
    let o = c.in-Ok.ensures in
    let most = c.usual_config-config.result.file_max in
    let one = opened_as_one most meaning.observable (now old).reads opening (meaning.history (disk_of environment)) environment o.opened o.crash in
    let st = one.st in
    let start = load_start meaning most old faults opening environment one o.bounds o.entry o.faults in
    let first = c.close_at_rest-run.result in
    let f = c.close_at_rest-run.ensures in
    let r = c.dumped.result.run in
    let d = c.dumped.ensures in
    let known = c.find_database-found.result in
    let run : IsRunOf _ meaning.observable old (meaning.history first.disk) faults (meaning.faults first.disk) first.opening first.totals first.journal.items first.cause st =
    subst (λ (n : ℕ). IsRunOf n meaning.observable old (meaning.history first.disk) faults (meaning.faults first.disk) first.opening first.totals first.journal.items first.cause st) c.usual_config-config.ensures.file_max
    (f.run old faults (beginning meaning most environment st) start) in
    let closes : ClosesRun faults (meaning.faults r.disk) r.journal.items first.cause =
    subst (λ (x : g.row.D.Denot). ClosesRun faults (meaning.faults x) r.journal.items first.cause) (sym d.same.disk)
    (subst (λ (j : List Event). ClosesRun faults (meaning.faults first.disk) j first.cause) (sym d.same.journal) (f.caused faults o.faults)) in
    let store : st.store ≡ r.opening = ap (λ (s : Standing). s.store) one.starts.st_is ∙ one.starts.store ∙ sym f.opening ∙ sym d.same.opening in
    let valid : st.fault ≡ None = starts_valid meaning.observable (now old).reads opening st one.starts in
    let found : IsFoundIn (rows_held environment) (database_of c.args.db.now r.opening) known = subst (λ (s : Store). IsFoundIn (rows_held environment) (database_of c.args.db.now s) known) store
    (c.find_database-found.ensures most st one.here valid) in
    dump_comes meaning c.args.db.now c.args.printed left before after later disk r c.dumped.result.text st first.cause (rows_held environment) known there d.cause f.ends (d.same.opened ∙ f.opened)
    (d.same.journal ∙ f.journal) (run_of_same meaning _ old faults first r first.cause st d.same run) closes found (d.text (rows_held environment) r.opened r.journal.items r.totals f.records)

pub returns-in-Err : goal.returns-in-Err
returns-in-Err g c = λ left before after later there.
    let u = c.unopened.ensures in
    let e = c.in-Err.ensures in
    stopped_comes g.D.Disk.meaning (Some (Dump c.args.db.now c.args.printed)) (dump_opens_only c.args.db.now c.args.printed) left before after later c.args.disk c.unopened.result c.in-Err.field-0.error c.in-Err.field-0.disk there
    e.stopped e.left_alone e.stopped_entry e.stopped_faults (u.cause ∙ c.opening_cause-cause.ensures) u.opened u.disk u.journal u.opening
