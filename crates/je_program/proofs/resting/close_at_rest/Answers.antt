use Rattle.std.proofs.Common.{◌∙◌, List, ap, sym, subst}
use Rattle.store_model.specs.declared.event.Event.{Event}
use Rattle.environment.specs.declared.environment.Environment.{Environment}
use Rattle.environment.specs.Databases.{rows_held}
use Rattle.environment.specs.Whole.{disk_of}
use Rattle.je_program.specs.Dumping.{HaveRows}
use Rattle.je_program.specs.Program.{ClosesRun}
use Rattle.je_program.proofs.DumpLaws.{closed_end}
use Rattle.je_program.proofs.LoadLaws.{rests_caused, rests_so}
use Rattle.je_program.proofs.resting.close_at_rest.Goals as goal

pub returns-clause-journal : goal.returns-clause-journal
returns-clause-journal g c = c.finish.ensures.journal ∙ c.at_rest-running.ensures.journal

pub returns-clause-records : goal.returns-clause-records
returns-clause-records g c = subst (λ (e : Environment g.row.D.Denot). HaveRows c.finish.result.records (rows_held e)) c.at_rest-running.ensures.environment c.finish.ensures.records

pub returns-clause-run : goal.returns-clause-run
returns-clause-run g c = λ old before p start.
    let r = c.at_rest-running in
    c.finish.ensures.run old before p (rests_so g.D.Disk.meaning old before c.args.opening p c.args.environment r.result start r.ensures.environment r.ensures.journal r.ensures.stopped)

pub returns-clause-ends : goal.returns-clause-ends
returns-clause-ends g c =
    let r = c.at_rest-running in
    closed_end r.result.recorded.journal.items c.finish.result.cause r.ensures.journal (c.finish.ensures.ends r.ensures.memory)

pub returns-clause-caused : goal.returns-clause-caused
returns-clause-caused g c = λ before earlier.
    let r = c.at_rest-running in
    let faults = g.D.Disk.meaning.faults in
    subst (λ (j : List Event). ClosesRun before (faults c.finish.result.disk) j c.finish.result.cause) (sym c.finish.ensures.journal)
    (c.finish.ensures.caused before (rests_caused before (faults (disk_of c.args.environment)) (faults (disk_of r.result.recorded.environment)) r.result.recorded.journal.items
    (ap (λ (e : Environment g.row.D.Denot). faults (disk_of e)) (sym r.ensures.environment)) earlier r.ensures.journal))
