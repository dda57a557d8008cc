use Rattle.std.proofs.Common.{◌≡◌, ◌∙◌, ℕ, List, None, Ok, Err, ap, sym, subst, length}
use Rattle.je_disk.specs.Moments.{now}
use Rattle.store_model.specs.declared.event.Event.{Event}
use Rattle.store_model.specs.declared.store.Store.{Store}
use Rattle.store_model.specs.Store.{database_of}
use Rattle.je_answers.specs.Standing.{Standing}
use Rattle.je_answers.specs.Journal.{lines_of}
use Rattle.load_laws.specs.Images.{IsLoadOf}
use Rattle.environment.specs.Whole.{disk_of}
use Rattle.script_run.proofs.Pushed.{caused_earlier}
use Rattle.je_program.specs.Loading.{IsPlaceFor}
use Rattle.je_program.specs.declared.cause.Cause.{Cause}
use Rattle.je_program.specs.Run.{cause_of_load, first_refused}
use Rattle.je_program.specs.Program.{ClosesRun, EndsBy, IsRunOf}
use Rattle.je_program.proofs.BeginLaws.{beginning, begins, opened_as_one, starts_valid}
use Rattle.je_program.proofs.DumpLaws.{no_memory_closing, run_of_same}
use Rattle.je_program.proofs.FinishLaws.{ends_by, ran_cause}
use Rattle.je_program.proofs.LoadLaws.{barred_comes, done_left, load_start, loaded_comes, unopened_comes}
use Rattle.je_program.proofs.loading.load.Goals as goal

pub give_lines-running-requires : goal.give_lines-running-requires
give_lines-running-requires g c =
    let meaning = g.D.Disk.meaning in
    let environment = c.in-Ok.opened.environment in
    let opening = c.in-Ok.opened.opening in
    let o = c.in-Ok.ensures in
    let most = c.usual_config-config.result.file_max in
    let files = (now (meaning.history c.args.disk)).reads in
    let one = opened_as_one most meaning.observable files opening (meaning.history (disk_of environment)) environment o.opened o.crash in
    record { start = (beginning meaning most environment one.st, begins meaning most files opening environment one o.bounds) }

pub returns-in-Ok-place_in : goal.returns-in-Ok-place_in
returns-in-Ok-place_in g c = λ left rest before after later read.
    let meaning = g.D.Disk.meaning in
    let disk = c.args.disk in
    let old = meaning.history disk in
    let faults = meaning.faults disk in
    let kept = c.args.no_overwrite in
    let db = c.args.db.now in
    let dump = c.args.dump in
    let environment = c.in-Ok.opened.environment in
    let opening = c.in-Ok.opened.opening in
    let o = c.in-Ok.ensures in
    let most = c.usual_config-config.result.file_max in
    let one = opened_as_one most meaning.observable (now old).reads opening (meaning.history (disk_of environment)) environment o.opened o.crash in
    let st = one.st in
    let p = beginning meaning most environment st in
    let start = load_start meaning most old faults opening environment one o.bounds o.entry o.faults in
    let running = c.give_lines-running.result in
    let gave = c.give_lines-running.ensures in
    let ran = gave.run old faults opening p start in
    let first = c.finish-run.result in
    let f = c.finish-run.ensures in
    let r = c.loaded.result.run in
    let d = c.loaded.ensures in
    let end = first.cause in
    let j = running.recorded.journal.items in
    let journal_is : r.journal.items ≡ j = d.same.journal ∙ f.journal in
    let run : IsRunOf _ meaning.observable old (meaning.history first.disk) faults (meaning.faults first.disk) first.opening first.totals first.journal.items end st =
    subst (λ (n : ℕ). IsRunOf n meaning.observable old (meaning.history first.disk) faults (meaning.faults first.disk) first.opening first.totals first.journal.items end st) c.usual_config-config.ensures.file_max (f.run old faults p ran) in
    let caused = f.caused faults (caused_earlier faults (meaning.faults (disk_of environment)) (meaning.faults (disk_of running.recorded.environment)) j o.faults ran.under.running.caused) in
    let closes : ClosesRun faults (meaning.faults r.disk) r.journal.items end =
    subst (λ (x : g.row.D.Denot). ClosesRun faults (meaning.faults x) r.journal.items end) (sym d.same.disk) (subst (λ (l : List Event). ClosesRun faults (meaning.faults first.disk) l end) (sym journal_is) caused) in
    let store : st.store ≡ r.opening = ap (λ (s : Standing). s.store) one.starts.st_is ∙ one.starts.store ∙ sym f.opening ∙ sym d.same.opening in
    let valid : st.fault ≡ None = starts_valid meaning.observable (now old).reads opening st one.starts in
    let make = c.in-Ok-place_in.make in
    let place = subst (λ (s : Store). IsPlaceFor dump.dup dump.dup_line (length s.databases) (database_of db s) (Ok make)) store (c.in-Ok-place_in.ensures most st one.here valid) in
    let load = subst (λ (l : List Event). IsLoadOf make db kept dump st l) (sym journal_is) (gave.load old faults opening p start) in
    loaded_comes meaning db kept left rest before after later dump read disk r c.loaded.result.text st end make (d.same.opened ∙ f.opened) store (run_of_same meaning _ old faults first r end st d.same run) closes
    (ran_cause j running.memory_ended end f.memory f.ends) (λ other. subst (λ (l : List Event). EndsBy l end) (sym journal_is) (ends_by j running.memory_ended end f.memory f.ends other))
    (d.cause ∙ ap (λ (l : List Event). cause_of_load kept end l) (sym d.same.journal)) place load
    (λ is none. ap lines_of journal_is ∙ gave.all (done_left running.memory_ended end f.memory is) (ap (first_refused kept) (sym journal_is) ∙ none)) (d.text r.opened r.journal.items r.totals)

pub returns-in-Err-place_in : goal.returns-in-Err-place_in
returns-in-Err-place_in g c = λ left rest before after later read.
    let meaning = g.D.Disk.meaning in
    let disk = c.args.disk in
    let old = meaning.history disk in
    let faults = meaning.faults disk in
    let db = c.args.db.now in
    let dump = c.args.dump in
    let environment = c.in-Ok.opened.environment in
    let opening = c.in-Ok.opened.opening in
    let o = c.in-Ok.ensures in
    let most = c.usual_config-config.result.file_max in
    let one = opened_as_one most meaning.observable (now old).reads opening (meaning.history (disk_of environment)) environment o.opened o.crash in
    let st = one.st in
    let p = beginning meaning most environment st in
    let start = load_start meaning most old faults opening environment one o.bounds o.entry o.faults in
    let first = c.close_at_rest-run.result in
    let f = c.close_at_rest-run.ensures in
    let r = c.with_cause.result in
    let d = c.with_cause.ensures in
    let end = first.cause in
    let run : IsRunOf _ meaning.observable old (meaning.history first.disk) faults (meaning.faults first.disk) first.opening first.totals first.journal.items end st =
    subst (λ (n : ℕ). IsRunOf n meaning.observable old (meaning.history first.disk) faults (meaning.faults first.disk) first.opening first.totals first.journal.items end st) c.usual_config-config.ensures.file_max (f.run old faults p start) in
    let closes : ClosesRun faults (meaning.faults r.disk) r.journal.items end =
    subst (λ (x : g.row.D.Denot). ClosesRun faults (meaning.faults x) r.journal.items end) (sym d.same.disk) (subst (λ (l : List Event). ClosesRun faults (meaning.faults first.disk) l end) (sym d.same.journal) (f.caused faults o.faults)) in
    let store : st.store ≡ r.opening = ap (λ (s : Standing). s.store) one.starts.st_is ∙ one.starts.store ∙ sym f.opening ∙ sym d.same.opening in
    let valid : st.fault ≡ None = starts_valid meaning.observable (now old).reads opening st one.starts in
    let at_store = subst (λ (s : Store). IsPlaceFor dump.dup dump.dup_line (length s.databases) (database_of db s) (Err c.in-Err-place_in.cause)) store (c.in-Err-place_in.ensures most st one.here valid) in
    let bar = subst (λ (why : Cause). IsPlaceFor dump.dup dump.dup_line (length r.opening.databases) (database_of db r.opening) (Err why)) (sym d.cause) at_store in
    barred_comes meaning db c.args.no_overwrite left rest before after later dump read disk r st one.starts.alone_at end (d.same.opened ∙ f.opened) store one.starts.st_is (run_of_same meaning _ old faults first r end st d.same run) closes
    (no_memory_closing end f.ends) (d.same.journal ∙ f.journal) bar

pub returns-in-Err : goal.returns-in-Err
returns-in-Err g c = λ left rest before after later read.
    let u = c.unopened.ensures in
    let e = c.in-Err.ensures in
    unopened_comes g.D.Disk.meaning c.args.db.now c.args.no_overwrite left rest before after later c.args.dump read c.args.disk c.unopened.result c.in-Err.field-0.error c.in-Err.field-0.disk
    e.stopped e.left_alone e.stopped_entry e.stopped_faults (u.cause ∙ c.opening_cause-cause.ensures) u.opened u.disk u.journal u.opening
