use Rattle.std.proofs.Common.{Some, length, refl, sym, ap, subst, arith, rules, ◌∙◌}
use Rattle.std.specs.Result.{is_err}
use Rattle.je_disk.specs.Moments.{now}
use Rattle.je_disk.specs.States.{State}
use Rattle.log_file.specs.Log.{entries_of}
use Rattle.log_buffer.specs.Buffer.{file_of, offset_of, last_of, first_of}
use Rattle.log_buffer.specs.Crash.{Holds}
use Rattle.log_buffer.proofs.CrashSync.{holds_begun, begun_through}
use Rattle.log_buffer.proofs.Prefixes.{observed_prefixes}
use Rattle.log_buffer.proofs.UnchangedBuffer.{log_still, unwritten_over}
use Rattle.log_buffer.proofs.FaultCauses.{cause_err, err_is, failed_not, cause_then_ok, cause_then_fault}
use Rattle.log_buffer.proofs.buffer.LogBuffer.sync_begin.Goals as goal

pub returns-in-Ok-clause-holds : goal.returns-in-Ok-clause-holds
returns-in-Ok-clause-holds g c =
    let written = c.write_out.new.self in
    λ observed log removed least begun has h.
    let has_written = c.in_ok-write_out.ensures.grew.log log has in
    subst (Holds log removed least (Some (length (entries_of log))) (first_of written)) (sym (c.in-Ok.ensures.done observed))
    (holds_begun log removed least (file_of written) (offset_of written) (last_of written) (first_of written) begun (now (g.D.Disk.meaning.history written.disk)) has_written.is_log has_written.ends (omega arith)
    (c.in_ok-write_out.ensures.whole log has observed) (c.in_ok-write_out.ensures.grew.holds observed log removed least begun has h))

pub returns-in-Ok-clause-log : goal.returns-in-Ok-clause-log
returns-in-Ok-clause-log g c =
    let written = c.write_out.new.self in
    λ log has.
    log_still g.D.Disk.meaning.observable (now (g.D.Disk.meaning.history written.disk)) _ written _ log (λ observed. ap (λ (s : State). s.reads) (c.in-Ok.ensures.done observed)) (unwritten_over written) (c.in_ok-write_out.ensures.grew.log log has)

pub returns-in-Ok-clause-crash : goal.returns-in-Ok-clause-crash
returns-in-Ok-clause-crash g c =
    let written = c.write_out.new.self in
    λ observed log removed least begun has h.
    begun_through log removed least (first_of written) begun (g.D.Disk.meaning.history c.args.self.now.disk) (g.D.Disk.meaning.history written.disk) (g.D.Disk.meaning.history c.begin_sync.new.self)
    (c.in_ok-write_out.ensures.grew.crash observed log removed least begun has h) (observed_prefixes g.D.Disk.meaning.observable _ written log observed (c.in_ok-write_out.ensures.grew.log log has)) (c.in_ok-write_out.ensures.grew.holds observed log removed least begun has h)
    (c.begin_sync.ensures.moments observed)

pub returns-in-Err-clause-crash : goal.returns-in-Err-clause-crash
returns-in-Err-clause-crash g c =
    let written = c.write_out.new.self in
    λ observed log removed least begun has h.
    begun_through log removed least (first_of written) begun (g.D.Disk.meaning.history c.args.self.now.disk) (g.D.Disk.meaning.history written.disk) (g.D.Disk.meaning.history c.begin_sync.new.self)
    (c.in_ok-write_out.ensures.grew.crash observed log removed least begun has h) (observed_prefixes g.D.Disk.meaning.observable _ written log observed (c.in_ok-write_out.ensures.grew.log log has)) (c.in_ok-write_out.ensures.grew.holds observed log removed least begun has h)
    (c.begin_sync.ensures.moments observed)

pub returns-in-Ok-clause-cause : goal.returns-in-Ok-clause-cause
returns-in-Ok-clause-cause g c = cause_then_ok _ _ _ _ _ c.write_out.result _ _ c.in_ok-write_out.was c.write_out.ensures.cause c.begin_sync.ensures.cause.never_falls

pub returns-in-Err-clause-cause : goal.returns-in-Err-clause-cause
returns-in-Err-clause-cause g c = cause_then_fault _ _ _ _ _ c.write_out.result _ _ c.in_ok-write_out.was refl c.write_out.ensures.cause c.begin_sync.ensures.cause.never_falls c.in-Err.ensures.cause.failed

pub returns-in_err-write_out-clause-cause : goal.returns-in_err-write_out-clause-cause
returns-in_err-write_out-clause-cause g c = cause_err _ _ _ _ _ _ c.write_out.result _ _ c.in_err-write_out.was (err_is _ _ c.from_residual.ensures.1) refl refl c.write_out.ensures.cause

pub returns-in-Ok-clause-written : goal.returns-in-Ok-clause-written
returns-in-Ok-clause-written g c = search rules

pub returns-in-Ok-clause-whole : goal.returns-in-Ok-clause-whole
returns-in-Ok-clause-whole g c = search rules

pub returns-in-Ok-clause-still : goal.returns-in-Ok-clause-still
returns-in-Ok-clause-still g c = λ failed. failed_not _ _ _ _ c.write_out.result _ (ap is_err c.in_ok-write_out.was) c.write_out.ensures.cause failed

pub returns-in-Err-clause-still : goal.returns-in-Err-clause-still
returns-in-Err-clause-still g c = λ failed. failed_not _ _ _ _ c.write_out.result _ (ap is_err c.in_ok-write_out.was) c.write_out.ensures.cause failed

pub returns-in_err-write_out-clause-crash : goal.returns-in_err-write_out-clause-crash
returns-in_err-write_out-clause-crash g c = c.in_err-write_out.ensures.tried.crash

pub returns-in-Ok-clause-read_out : goal.returns-in-Ok-clause-read_out
returns-in-Ok-clause-read_out g c = c.begin_sync.ensures.read_out ∙ c.in_ok-write_out.ensures.grew.jobs.reads

pub returns-in-Err-clause-read_out : goal.returns-in-Err-clause-read_out
returns-in-Err-clause-read_out g c = c.begin_sync.ensures.read_out ∙ c.in_ok-write_out.ensures.grew.jobs.reads

pub returns-in_err-write_out-clause-read_out : goal.returns-in_err-write_out-clause-read_out
returns-in_err-write_out-clause-read_out g c = c.in_err-write_out.ensures.tried.jobs.reads

pub returns-in-Ok-clause-read_of : goal.returns-in-Ok-clause-read_of
returns-in-Ok-clause-read_of g c = c.begin_sync.ensures.read_of ∙ c.in_ok-write_out.ensures.grew.jobs.file

pub returns-in-Err-clause-read_of : goal.returns-in-Err-clause-read_of
returns-in-Err-clause-read_of g c = c.begin_sync.ensures.read_of ∙ c.in_ok-write_out.ensures.grew.jobs.file

pub returns-in_err-write_out-clause-read_of : goal.returns-in_err-write_out-clause-read_of
returns-in_err-write_out-clause-read_of g c = c.in_err-write_out.ensures.tried.jobs.file
