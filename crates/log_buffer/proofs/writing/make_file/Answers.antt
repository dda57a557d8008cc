use Rattle.std.proofs.Common.{ap, ◌∙◌}
use Rattle.je_disk.specs.States.{created}
use Rattle.log_buffer.proofs.WriteBufferRoom.{on_ok}
use Rattle.log_buffer.proofs.AppendMoments.{made_synced, made_next}
use Rattle.log_buffer.proofs.DiskFaults.{fault_again, fault_then}
use Rattle.log_buffer.proofs.writing.make_file.Goals as goal

pub returns-clause-moments : goal.returns-clause-moments
returns-clause-moments g c =
    λ observed. made_next c.args.f.0 (g.D.Disk.meaning.history c.args.disk.now) (g.D.Disk.meaning.history c.sync_now.new.self) (g.D.Disk.meaning.history c.create.new.self)
    (c.sync_now.ensures.moments observed) (c.in_ok-sync_now.ensures.done observed) (c.create.ensures.moments observed)

pub returns-in_err-sync_now-clause-moments : goal.returns-in_err-sync_now-clause-moments
returns-in_err-sync_now-clause-moments g c = λ observed. made_synced c.args.f.0 (g.D.Disk.meaning.history c.args.disk.now) (g.D.Disk.meaning.history c.sync_now.new.self) (c.sync_now.ensures.moments observed)

pub returns-clause-state : goal.returns-clause-state
returns-clause-state g c = λ observed. on_ok c.create.result _ _ (c.create.ensures.done observed) (λ done. done ∙ ap (created c.args.f.0) (c.in_ok-sync_now.ensures.done observed))

pub returns-clause-sync_out : goal.returns-clause-sync_out
returns-clause-sync_out g c = c.create.ensures.sync_out ∙ c.sync_now.ensures.sync_out

pub returns-clause-read_out : goal.returns-clause-read_out
returns-clause-read_out g c = c.create.ensures.read_out ∙ c.sync_now.ensures.read_out

pub returns-clause-read_of : goal.returns-clause-read_of
returns-clause-read_of g c = c.create.ensures.read_of ∙ c.sync_now.ensures.read_of

pub returns-clause-cause : goal.returns-clause-cause
returns-clause-cause g c =
    let meaning = g.D.Disk.meaning in
    fault_then (meaning.faults c.args.disk.now) (meaning.faults c.sync_now.new.self) (meaning.faults c.create.new.self) c.create.result c.in_ok-sync_now.ensures.cause.never_falls c.create.ensures.cause

pub returns-in_err-sync_now-clause-cause : goal.returns-in_err-sync_now-clause-cause
returns-in_err-sync_now-clause-cause g c =
    let meaning = g.D.Disk.meaning in
    fault_again (meaning.faults c.args.disk.now) (meaning.faults c.sync_now.new.self) c.from_residual.result c.in_err-sync_now.field-0.0 c.from_residual.ensures.1 c.in_err-sync_now.ensures.cause

pub returns-in_err-sync_now-clause-sync_out : goal.returns-in_err-sync_now-clause-sync_out
returns-in_err-sync_now-clause-sync_out g c = c.sync_now.ensures.sync_out

pub returns-in_err-sync_now-clause-read_out : goal.returns-in_err-sync_now-clause-read_out
returns-in_err-sync_now-clause-read_out g c = c.sync_now.ensures.read_out

pub returns-in_err-sync_now-clause-read_of : goal.returns-in_err-sync_now-clause-read_of
returns-in_err-sync_now-clause-read_of g c = c.sync_now.ensures.read_of
