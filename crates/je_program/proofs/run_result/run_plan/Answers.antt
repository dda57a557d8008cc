use Rattle.std.proofs.Common.{◌∙◌, true≢false, List, sym, ap, subst}
use Rattle.je_disk.specs.Moments.{now}
use Rattle.store_model.specs.declared.event.Event.{Event}
use Rattle.store_model.specs.declared.plan.ScriptLine.{ScriptLine}
use Rattle.je_answers.specs.Journal.{lines_of}
use Rattle.environment.specs.Whole.{disk_of}
use Rattle.engine.specs.Crash.{KeepsEntry}
use Rattle.je_program.specs.Commands.{ends_soak}
use Rattle.je_program.specs.Program.{EndsBy, ClosesRun, RunsIf, cause_of_opening}
use Rattle.script_run.specs.Lines.{AreFirstLines, of_maintenance, of_session}
use Rattle.je_program.proofs.BeginLaws.{beginning, begins, opened_as_one}
use Rattle.je_program.proofs.FinishLaws.{ran_cause, runs_if, ran_ends, ran_not_unreadable, ran_not_wrong, ends_by, memory_left}
use Rattle.script_run.proofs.Pushed.{caused_earlier}
use Rattle.je_program.specs.declared.cause.Cause.{Cause}
use Rattle.je_program.specs.Untouched.{LeavesUnreadable}
use Rattle.je_program.proofs.StopLaws.{stopped_ends, stopped_caused, stopped_failed, stopped_numbers, stopped_runs, stopped_unreadable, stopped_wrong}
use Rattle.je_program.proofs.UntouchedLaws.{ran_alone, stopped_alone}
use Rattle.je_program.proofs.run_result.run_plan.Goals as goal

pub returns-in-Ok-clause-runs : goal.returns-in-Ok-clause-runs
returns-in-Ok-clause-runs g c =
    let f = c.finish in
    runs_if f.result.cause f.result.opened (ran_cause c.run-running.result.recorded.journal.items c.run-running.result.memory_ended f.result.cause f.ensures.memory f.ensures.ends) f.ensures.opened

pub returns-in-Ok-clause-causes : goal.returns-in-Ok-clause-causes
returns-in-Ok-clause-causes g c =
    let f = c.finish in
    ran_ends f.result.cause (ran_cause c.run-running.result.recorded.journal.items c.run-running.result.memory_ended f.result.cause f.ensures.memory f.ensures.ends)

pub run-running-requires-clause-start : goal.run-running-requires-clause-start
run-running-requires-clause-start g c =
    let environment = c.in-Ok.opened.environment in
    let most = c.args.config.file_max in
    let meaning = g.D.Disk.meaning in
    let files = (now (meaning.history c.args.disk)).reads in
    let opening = c.in-Ok.opened.opening in
    let one = opened_as_one most g.D.Disk.meaning.observable files opening (meaning.history (disk_of environment)) environment c.in-Ok.ensures.opened c.in-Ok.ensures.crash in
    (beginning g.D.Disk.meaning most environment one.st, begins g.D.Disk.meaning most files opening environment one c.in-Ok.ensures.bounds)

pub returns-in-Ok-clause-run : goal.returns-in-Ok-clause-run
returns-in-Ok-clause-run g c = λ is_opened.
    let meaning = g.D.Disk.meaning in
    let environment = c.in-Ok.opened.environment in
    let opening = c.in-Ok.opened.opening in
    let most = c.args.config.file_max in
    let ran = c.run-running in
    let old = meaning.history c.args.disk in
    let one = opened_as_one most meaning.observable (now old).reads opening (meaning.history (disk_of environment)) environment c.in-Ok.ensures.opened c.in-Ok.ensures.crash in
    let p = beginning meaning most environment one.st in
    let starts = begins meaning most (now old).reads opening environment one c.in-Ok.ensures.bounds in (
      one.st,
      c.finish.ensures.run old (meaning.faults c.args.disk) p (record {
        starts = one.starts;
        reach = one.reach;
        stable = λ observed. (one.safe observed).stable;
        entry = c.in-Ok.ensures.entry;
        earlier = c.in-Ok.ensures.faults;
        under = ran.ensures.goes_on p starts;
        ends = ran.ensures.ends p starts;
        none_stopped = ran.ensures.given.none_stopped;
        ended = ran.ensures.ended p starts;
        calm = ran.ensures.calm p starts;
      }),
    )

pub returns-in-Ok-clause-unreadable : goal.returns-in-Ok-clause-unreadable
returns-in-Ok-clause-unreadable g c = λ corruption is observed.
    let f = c.finish in
    absurd (ran_not_unreadable f.result.cause corruption (ran_cause c.run-running.result.recorded.journal.items c.run-running.result.memory_ended f.result.cause f.ensures.memory f.ensures.ends) is)

pub returns-in-Ok-clause-wrong_index : goal.returns-in-Ok-clause-wrong_index
returns-in-Ok-clause-wrong_index g c = λ name is observed.
    let f = c.finish in
    absurd (ran_not_wrong f.result.cause name (ran_cause c.run-running.result.recorded.journal.items c.run-running.result.memory_ended f.result.cause f.ensures.memory f.ensures.ends) is)

pub returns-in-Ok-clause-ids_ended : goal.returns-in-Ok-clause-ids_ended
returns-in-Ok-clause-ids_ended g c = λ is none observed.
    (let opened = sym c.finish.ensures.opened ∙ none in absurd (true≢false opened))

pub returns-in-Ok-clause-front : goal.returns-in-Ok-clause-front
returns-in-Ok-clause-front g c = λ opened session.
    let front = c.run-running.ensures.given.front session in
    subst (λ (j : List Event). AreFirstLines (of_session session (lines_of j)) (of_session session c.args.plan.lines)) (sym c.finish.ensures.journal)
    (subst (λ (l : List ScriptLine). AreFirstLines (of_session session (lines_of c.run-running.result.recorded.journal.items)) (of_session session l)) c.into_vec.ensures front)

pub returns-in-Ok-clause-lines : goal.returns-in-Ok-clause-lines
returns-in-Ok-clause-lines g c = λ opened other.
    let f = c.finish in
    ap lines_of f.ensures.journal ∙ c.run-running.ensures.given.all (memory_left c.run-running.result.memory_ended f.result.cause f.ensures.memory other) ∙ c.into_vec.ensures

pub returns-in-Ok-clause-front_steps : goal.returns-in-Ok-clause-front_steps
returns-in-Ok-clause-front_steps g c = λ opened.
    let front = c.run-running.ensures.given.front_steps in
    subst (λ (j : List Event). AreFirstLines (of_maintenance (lines_of j)) (of_maintenance c.args.plan.lines)) (sym c.finish.ensures.journal)
    (subst (λ (l : List ScriptLine). AreFirstLines (of_maintenance (lines_of c.run-running.result.recorded.journal.items)) (of_maintenance l)) c.into_vec.ensures front)

pub returns-in-Ok-clause-ends : goal.returns-in-Ok-clause-ends
returns-in-Ok-clause-ends g c = λ opened other.
    let f = c.finish in
    subst (λ (j : List Event). EndsBy j f.result.cause) (sym f.ensures.journal)
    (ends_by c.run-running.result.recorded.journal.items c.run-running.result.memory_ended f.result.cause f.ensures.memory f.ensures.ends other)

pub returns-in-Ok-clause-caused : goal.returns-in-Ok-clause-caused
returns-in-Ok-clause-caused g c =
    let f = c.finish in
    let j = c.run-running.result.recorded.journal.items in
    let meaning = g.D.Disk.meaning in
    let environment = c.in-Ok.opened.environment in
    let most = c.args.config.file_max in
    let files = (now (meaning.history c.args.disk)).reads in
    let one = opened_as_one most meaning.observable files c.in-Ok.opened.opening (meaning.history (disk_of environment)) environment c.in-Ok.ensures.opened c.in-Ok.ensures.crash in
    let under = c.run-running.ensures.goes_on (beginning meaning most environment one.st)
    (begins meaning most files c.in-Ok.opened.opening environment one c.in-Ok.ensures.bounds) in
    subst (λ (l : List Event). ClosesRun (meaning.faults c.args.disk) (meaning.faults f.result.disk) l f.result.cause) (sym f.ensures.journal)
    (f.ensures.caused (meaning.faults c.args.disk)
    (caused_earlier (meaning.faults c.args.disk) (meaning.faults (disk_of environment)) (meaning.faults (disk_of c.run-running.result.recorded.environment)) j c.in-Ok.ensures.faults under.running.caused))

pub returns-in-Err-clause-crash_unopened : goal.returns-in-Err-clause-crash_unopened
returns-in-Err-clause-crash_unopened g c = λ observed opened. subst (λ d. KeepsEntry (g.D.Disk.meaning.history c.args.disk) (g.D.Disk.meaning.history d)) (sym c.unopened.ensures.disk) (c.in-Err.ensures.stopped_entry observed)

pub returns-in-Ok-clause-left_alone : goal.returns-in-Ok-clause-left_alone
returns-in-Ok-clause-left_alone g c = λ observed.
    let f = c.finish in
    ran_alone f.result.cause (g.D.Disk.meaning.history c.args.disk) (g.D.Disk.meaning.history f.result.disk) (ran_cause c.run-running.result.recorded.journal.items c.run-running.result.memory_ended f.result.cause f.ensures.memory f.ensures.ends)

pub returns-in-Err-clause-left_alone : goal.returns-in-Err-clause-left_alone
returns-in-Err-clause-left_alone g c = λ observed.
    let meaning = g.D.Disk.meaning in
    subst (λ (why : Cause). LeavesUnreadable why (meaning.history c.args.disk) (meaning.history c.unopened.result.disk)) (sym (c.unopened.ensures.cause ∙ c.opening_cause-cause.ensures))
    (subst (λ d. LeavesUnreadable (cause_of_opening c.in-Err.field-0.error) (meaning.history c.args.disk) (meaning.history d)) (sym c.unopened.ensures.disk)
    (stopped_alone c.in-Err.field-0.error (meaning.history c.args.disk) (meaning.history c.in-Err.field-0.disk) (c.in-Err.ensures.left_alone observed)))

pub returns-in-Err-clause-runs : goal.returns-in-Err-clause-runs
returns-in-Err-clause-runs g c =
    subst (λ (why : Cause). RunsIf why c.unopened.result.opened) (sym (c.unopened.ensures.cause ∙ c.opening_cause-cause.ensures))
    (stopped_runs c.in-Err.field-0.error c.unopened.result.opened c.unopened.ensures.opened)

pub returns-in-Err-clause-causes : goal.returns-in-Err-clause-causes
returns-in-Err-clause-causes g c = ap ends_soak (c.unopened.ensures.cause ∙ c.opening_cause-cause.ensures) ∙ stopped_ends c.in-Err.field-0.error

pub returns-in-Err-clause-unreadable : goal.returns-in-Err-clause-unreadable
returns-in-Err-clause-unreadable g c = λ corruption is observed.
    stopped_unreadable g.D.Disk.meaning.observable (now (g.D.Disk.meaning.history c.args.disk)).reads (g.D.Disk.meaning.faults c.args.disk) (g.D.Disk.meaning.faults c.in-Err.field-0.disk) c.in-Err.field-0.error corruption
    c.in-Err.ensures.stopped (sym (c.unopened.ensures.cause ∙ c.opening_cause-cause.ensures) ∙ is) observed

pub returns-in-Err-clause-wrong_index : goal.returns-in-Err-clause-wrong_index
returns-in-Err-clause-wrong_index g c = λ name is observed.
    stopped_wrong g.D.Disk.meaning.observable (now (g.D.Disk.meaning.history c.args.disk)).reads (g.D.Disk.meaning.faults c.args.disk) (g.D.Disk.meaning.faults c.in-Err.field-0.disk) c.in-Err.field-0.error name
    c.in-Err.ensures.stopped (sym (c.unopened.ensures.cause ∙ c.opening_cause-cause.ensures) ∙ is) observed

pub returns-in-Err-clause-caused : goal.returns-in-Err-clause-caused
returns-in-Err-clause-caused g c =
    let meaning = g.D.Disk.meaning in
    let before = meaning.faults c.args.disk in
    stopped_caused before (meaning.faults c.in-Err.field-0.disk) (meaning.faults c.unopened.result.disk) c.unopened.result.journal.items c.unopened.result.cause (ap (λ d. meaning.faults d) c.unopened.ensures.disk) c.unopened.ensures.journal
    c.in-Err.ensures.stopped_faults
    (λ is. stopped_failed g.D.Disk.meaning.observable (now (g.D.Disk.meaning.history c.args.disk)).reads before (meaning.faults c.in-Err.field-0.disk) c.in-Err.field-0.error c.in-Err.ensures.stopped (sym (c.unopened.ensures.cause ∙ c.opening_cause-cause.ensures) ∙ is))

pub returns-in-Err-clause-unopened : goal.returns-in-Err-clause-unopened
returns-in-Err-clause-unopened g c = λ opened. (c.unopened.ensures.opening, c.unopened.ensures.journal)

pub returns-in-Err-clause-ids_ended : goal.returns-in-Err-clause-ids_ended
returns-in-Err-clause-ids_ended g c = λ is none observed.
    let meaning = g.D.Disk.meaning in
    stopped_numbers g.D.Disk.meaning.observable (now (g.D.Disk.meaning.history c.args.disk)).reads (meaning.faults c.args.disk) (meaning.faults c.in-Err.field-0.disk) c.in-Err.field-0.error c.in-Err.ensures.stopped
    (sym (c.unopened.ensures.cause ∙ c.opening_cause-cause.ensures) ∙ is) observed
