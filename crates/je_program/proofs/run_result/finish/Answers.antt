use Rattle.std.proofs.Common.{◌≡◌, ap, sym, ◌∙◌, subst, true, false, [], None}
use Rattle.je_disk.specs.Moments.{now}
use Rattle.engine.proofs.LengthLaws.{entry_lengths, lengths_kept}
use Rattle.engine.specs.Opening.{reach_in}
use Rattle.environment.specs.Whole.{disk_of}
use Rattle.script_run.specs.UnderWay.{standing}
use Rattle.script_run.proofs.FaultLaws.{valid_afterwards}
use Rattle.script_run.proofs.Pushed.{bounded_far, synced_all}
use Rattle.je_program.specs.declared.cause.Cause.{Cause}
use Rattle.je_program.specs.Crash.{IsSafeProgram}
use Rattle.je_program.specs.declared.cause.Cause.TheVariants.{Memory}
use Rattle.je_program.specs.Program.{ClosesBy, EndsBy}
use Rattle.je_program.specs.Run.{is_run_through}
use Rattle.je_program.proofs.BeginLaws.{starts_valid}
use Rattle.je_program.proofs.FinishLaws.{closed_ends, closed_memory, closed_well, closes_by, closes_run, done_acknowledged, done_is_no_memory, done_without_fault, ended_well, ends_by, memory_left, well_since}
use Rattle.je_program.proofs.ReplayLaws.{run_fronts_indexed, run_never_cycles, run_replays, run_stays_indexed}
use Rattle.je_program.proofs.run_result.finish.Goals as goal

pub returns-clause-caused : goal.returns-clause-caused
returns-clause-caused g c = λ before caused.
    let r = c.args.running in
    let mid = g.D.Disk.meaning.faults (disk_of r.recorded.environment) in
    let after = g.D.Disk.meaning.faults c.close-closed.result.disk in
    let closes = subst (λ (why : Cause). ClosesBy mid after c.end_cause-cause.result why) (sym c.closed_cause-cause.ensures)
    (closes_by mid after c.close-closed.result.failed c.end_cause-cause.result c.close-closed.ensures.cause) in
    closes_run before mid after r.recorded.journal.items r.memory_ended c.end_cause-cause.result c.closed_cause-cause.result
    caused closes c.close-closed.ensures.never_falls c.end_cause-cause.ensures.memory (rw c.deref.ensures.value at c.end_cause-cause.ensures.journal)

pub returns-clause-totals : goal.returns-clause-totals
returns-clause-totals g c = λ p under. c.totals-totals.ensures p.most (standing p c.args.running.recorded) under.running.here

pub returns-clause-files : goal.returns-clause-files
returns-clause-files g c = λ p under none done observed.
    let r = c.args.running in
    let journal = r.recorded.journal.items in
    let mid = g.D.Disk.meaning.faults (disk_of r.recorded.environment) in
    let after = g.D.Disk.meaning.faults c.close-closed.result.disk in
    let closes = subst (λ (why : Cause). ClosesBy mid after c.end_cause-cause.result why) (sym c.closed_cause-cause.ensures)
    (closes_by mid after c.close-closed.result.failed c.end_cause-cause.result c.close-closed.ensures.cause) in
    let no_fault = done_without_fault mid after journal r.memory_ended c.end_cause-cause.result c.closed_cause-cause.result
    closes c.end_cause-cause.ensures.memory (rw c.deref.ensures.value at c.end_cause-cause.ensures.journal) done in
    c.close-closed.ensures.files observed (closed_well c.close-closed.result.failed c.end_cause-cause.result (ap is_run_through (sym c.closed_cause-cause.ensures) ∙ done))
    p.most (standing p r.recorded) under.running.here (valid_afterwards p.st journal none no_fault)

pub returns-clause-crash : goal.returns-clause-crash
returns-clause-crash g c = λ observed p under. c.close-closed.ensures.crash observed p.most p.st p.start c.args.running.recorded.journal.items (under.guarded observed)

pub returns-clause-crash_end : goal.returns-clause-crash_end
returns-clause-crash_end g c = λ observed p under none done.
    let r = c.args.running in
    let journal = r.recorded.journal.items in
    let mid = g.D.Disk.meaning.faults (disk_of r.recorded.environment) in
    let after = g.D.Disk.meaning.faults c.close-closed.result.disk in
    let closes = subst (λ (why : Cause). ClosesBy mid after c.end_cause-cause.result why) (sym c.closed_cause-cause.ensures)
    (closes_by mid after c.close-closed.result.failed c.end_cause-cause.result c.close-closed.ensures.cause) in
    let no_fault = done_without_fault mid after journal r.memory_ended c.end_cause-cause.result c.closed_cause-cause.result
    closes c.end_cause-cause.ensures.memory (rw c.deref.ensures.value at c.end_cause-cause.ensures.journal) done in
    c.close-closed.ensures.images observed (closed_well c.close-closed.result.failed c.end_cause-cause.result (ap is_run_through (sym c.closed_cause-cause.ensures) ∙ done))
    p.most p.st p.start journal under.running.here (under.guarded observed) (valid_afterwards p.st journal none no_fault)

pub returns-clause-lengths : goal.returns-clause-lengths
returns-clause-lengths g c = λ p under none well observed.
    let r = c.args.running in
    let journal = r.recorded.journal.items in
    let mid = g.D.Disk.meaning.faults (disk_of r.recorded.environment) in
    let after = g.D.Disk.meaning.faults c.close-closed.result.disk in
    let both = ended_well p.faults mid after journal r.memory_ended c.end_cause-cause.result c.closed_cause-cause.result c.close-closed.result.failed under.running.caused c.close-closed.ensures.never_falls c.close-closed.ensures.cause
    c.end_cause-cause.ensures.memory (rw c.deref.ensures.value at c.end_cause-cause.ensures.journal) c.closed_cause-cause.ensures well in
    c.close-closed.ensures.lengths observed both.1 p.most p.st p.start journal under.running.here (under.guarded observed) (valid_afterwards p.st journal none both.0)

pub returns-clause-records : goal.returns-clause-records
returns-clause-records g c = c.close-closed.ensures.records

pub returns-clause-run : goal.returns-clause-run
returns-clause-run g c = λ old before p ran.
    let meaning = g.D.Disk.meaning in
    let running = c.args.running in
    let journal = running.recorded.journal.items in
    let cause = c.closed_cause-cause.result in
    let disk = c.close-closed.result.disk in
    let new = meaning.history disk in
    let after = meaning.faults disk in
    let under = ran.under in
    let end = c.end_cause-cause.result in
    let failed = c.close-closed.result.failed in
    let memory : running.memory_ended ≡ true → cause ≡ Memory = λ none. closed_memory failed end cause c.closed_cause-cause.ensures (c.end_cause-cause.ensures.memory none) in
    let ends : running.memory_ended ≡ false → EndsBy journal cause = λ left. closed_ends journal failed end cause c.closed_cause-cause.ensures
    (rw c.deref.ensures.value at c.end_cause-cause.ensures.journal left) in
    let valid : p.st.fault ≡ None = starts_valid meaning.observable (now old).reads c.args.opening p.st ran.starts in
    let synced = synced_all p.st journal (under.running.synced [] tt) in
    let safe : meaning.observable ≡ true → IsSafeProgram old new p.st journal cause = λ observed. record {
      start = p.start;
      stable = ran.stable observed;
      before = ran.entry observed;
      run = returns-clause-crash g c observed p under;
      indexed = run_fronts_indexed meaning.observable (now old).reads c.args.opening p.st under.running.limits journal ran.starts under.running.answers;
      ends = λ done. returns-clause-crash_end g c observed p under valid done;
    } in
    record {
      starts = ran.starts;
      limits = under.running.limits;
      answers = under.running.answers;
      replays = run_replays meaning.observable (now old).reads c.args.opening p.st under.running.limits journal ran.starts under.running.answers;
      no_cycle = run_never_cycles meaning.observable (now old).reads c.args.opening p.st under.running.limits journal ran.starts under.running.answers;
      indexes = run_stays_indexed meaning.observable (now old).reads c.args.opening p.st under.running.limits journal ran.starts under.running.answers;
      bounded = bounded_far p.first (reach_in ran.starts.held ran.starts.meaning) p.st journal under.running.limits ran.reach under.running.bounded;
      synced_at_once = synced;
      in_order = under.running.ordered;
      steps = under.running.steps;
      stopped = running.stopped;
      in_place = ran.ends;
      none_stopped = λ other. ran.none_stopped (memory_left running.memory_ended cause memory other);
      ended = λ other. ran.ended (memory_left running.memory_ended cause memory other);
      rests = λ other. ran.calm (memory_left running.memory_ended cause memory other);
      acknowledged = λ done. done_acknowledged p.st journal cause done (ends_by journal running.memory_ended cause memory ends (done_is_no_memory cause done)) synced;
      safe = safe;
      files = λ done observed. returns-clause-files g c p under valid done observed;
      lengths = λ well observed. lengths_kept p.most (now old).reads (now p.start).reads (now new).reads (entry_lengths old p.start (ran.entry observed))
          (returns-clause-lengths g c p under valid (well_since before p.faults after cause ran.earlier (returns-clause-caused g c p.faults under.running.caused).never_falls well) observed);
      totals = returns-clause-totals g c p under;
    }
