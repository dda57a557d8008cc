use Rattle.std.proofs.Common.{refl, sym, ap, subst}
use Rattle.je_disk.specs.States.{State}
use Rattle.log_buffer.specs.Buffer.{first_of}
use Rattle.log_buffer.specs.Crash.{Holds}
use Rattle.log_buffer.proofs.CrashSync.{same_through}
use Rattle.log_buffer.proofs.Prefixes.{observed_prefixes}
use Rattle.log_buffer.proofs.UnchangedBuffer.{log_still, unwritten_over, unwritten_same}
use Rattle.log_buffer.proofs.FaultCauses.{cause_ok, cause_failed, cause_fault}
use Rattle.log_buffer.proofs.buffer.LogBuffer.read_begin.Goals as goal

pub returns-in-Ok-clause-log : goal.returns-in-Ok-clause-log
returns-in-Ok-clause-log g c =
    λ log has. log_still g.D.Disk.meaning.observable _ _ c.args.self.now _ log (λ observed. ap (λ (s : State). s.reads) (c.read_job.ensures.same observed)) (unwritten_over c.args.self.now) has

pub returns-in-Ok-clause-crash : goal.returns-in-Ok-clause-crash
returns-in-Ok-clause-crash g c = λ observed log removed least begun has h. same_through log removed least (first_of c.args.self.now) begun _ _ (c.read_job.ensures.moments observed) (observed_prefixes g.D.Disk.meaning.observable _ c.args.self.now log observed has) h

pub returns-in-Ok-clause-holds : goal.returns-in-Ok-clause-holds
returns-in-Ok-clause-holds g c = λ observed log removed least begun has h. subst (Holds log removed least begun (first_of c.args.self.now)) (sym (c.read_job.ensures.same observed)) h

pub returns-in-Ok-clause-kept : goal.returns-in-Ok-clause-kept
returns-in-Ok-clause-kept g c = unwritten_over c.args.self.now

pub returns-in-Err-clause-log : goal.returns-in-Err-clause-log
returns-in-Err-clause-log g c =
    λ log has. log_still g.D.Disk.meaning.observable _ _ c.args.self.now _ log (λ observed. ap (λ (s : State). s.reads) (c.read_job.ensures.same observed)) (unwritten_over c.args.self.now) has

pub returns-in-Err-clause-crash : goal.returns-in-Err-clause-crash
returns-in-Err-clause-crash g c = λ observed log removed least begun has h. same_through log removed least (first_of c.args.self.now) begun _ _ (c.read_job.ensures.moments observed) (observed_prefixes g.D.Disk.meaning.observable _ c.args.self.now log observed has) h

pub returns-in-Err-clause-holds : goal.returns-in-Err-clause-holds
returns-in-Err-clause-holds g c = λ observed log removed least begun has h. subst (Holds log removed least begun (first_of c.args.self.now)) (sym (c.read_job.ensures.same observed)) h

pub returns-in-Err-clause-kept : goal.returns-in-Err-clause-kept
returns-in-Err-clause-kept g c = unwritten_over c.args.self.now

pub returns-in-Ok-clause-cause : goal.returns-in-Ok-clause-cause
returns-in-Ok-clause-cause g c = cause_ok _ _ _ _ _ c.if-self.false refl c.read_job.ensures.cause.never_falls

pub returns-in-Err-clause-cause : goal.returns-in-Err-clause-cause
returns-in-Err-clause-cause g c = cause_fault _ _ _ _ _ c.if-self.false refl c.read_job.ensures.cause.never_falls refl c.in-Err.ensures.cause.failed

pub returns-then-self-clause-cause : goal.returns-then-self-clause-cause
returns-then-self-clause-cause g c = cause_failed _ _ _ _ c.if-self.true c.if-self.true refl

pub returns-then-self-clause-kept : goal.returns-then-self-clause-kept
returns-then-self-clause-kept g c = unwritten_same c.args.self.now
