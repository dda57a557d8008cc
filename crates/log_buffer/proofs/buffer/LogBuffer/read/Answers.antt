use Rattle.std.proofs.Common.{◌≡◌, refl, ℕ, sym, ap, subst}
use Rattle.je_disk.specs.Moments.{now}
use Rattle.je_disk.specs.States.{State}
use Rattle.std.specs.Prelude.{Result, IfOk}
use Rattle.log_entry.specs.declared.entry.Entry.{Entry}
use Rattle.log_buffer.specs.declared.error.LogErr.{LogErr}
use Rattle.log_buffer.specs.Buffer.{first_of}
use Rattle.log_buffer.specs.Crash.{Holds}
use Rattle.log_buffer.proofs.CrashSync.{same_through}
use Rattle.log_buffer.proofs.Prefixes.{observed_prefixes}
use Rattle.log_buffer.proofs.UnchangedBuffer.{log_still}
use Rattle.log_buffer.proofs.FaultCauses.{found_is, found_not_full, cause_found}
use Rattle.log_buffer.proofs.buffer.LogBuffer.read.Goals as goal

pub returns-in_err-look-clause-holds : goal.returns-in_err-look-clause-holds
returns-in_err-look-clause-holds g c =
    λ observed log removed least begun has h.
    subst (λ (n : ℕ). Holds log removed least begun n (now (g.D.Disk.meaning.history c.look.new.self.disk))) (sym c.look.ensures.kept.first)
    (subst (Holds log removed least begun (first_of c.args.self.now)) (sym (c.look.ensures.only_read.same observed)) h)

pub returns-clause-holds : goal.returns-clause-holds
returns-clause-holds g c =
    λ observed log removed least begun has h.
    subst (λ (n : ℕ). Holds log removed least begun n (now (g.D.Disk.meaning.history c.look.new.self.disk))) (sym c.look.ensures.kept.first)
    (subst (Holds log removed least begun (first_of c.args.self.now)) (sym (c.look.ensures.only_read.same observed)) h)

pub returns-in_err-look-clause-crash : goal.returns-in_err-look-clause-crash
returns-in_err-look-clause-crash g c = λ observed log removed least begun has h. same_through log removed least (first_of c.args.self.now) begun _ _ (c.look.ensures.only_read.moments observed) (observed_prefixes g.D.Disk.meaning.observable _ c.args.self.now log observed has) h

pub returns-clause-crash : goal.returns-clause-crash
returns-clause-crash g c = λ observed log removed least begun has h. same_through log removed least (first_of c.args.self.now) begun _ _ (c.look.ensures.only_read.moments observed) (observed_prefixes g.D.Disk.meaning.observable _ c.args.self.now log observed has) h

pub returns-clause-found : goal.returns-clause-found
returns-clause-found g c =
    λ log entry observed has stands.
    subst (λ (r : Result Entry LogErr). IfOk r (λ found. found ≡ entry)) (sym (found_is c.in_ok-look.field-0 c.ok_or.result entry c.ok_or.ensures.value (c.in_ok-look.ensures.found log entry observed has stands))) refl

pub returns-clause-undamaged : goal.returns-clause-undamaged
returns-clause-undamaged g c =
    λ log entry observed has stands damaged. let ok = found_is c.in_ok-look.field-0 c.ok_or.result entry c.ok_or.ensures.value (c.in_ok-look.ensures.found log entry observed has stands) in absurd cc

pub returns-clause-not_full : goal.returns-clause-not_full
returns-clause-not_full g c = found_not_full c.in_ok-look.field-0 c.ok_or.result c.ok_or.ensures.value

pub returns-clause-cause : goal.returns-clause-cause
returns-clause-cause g c = cause_found _ _ _ _ c.look.result c.in_ok-look.field-0 c.ok_or.result c.in_ok-look.was c.ok_or.ensures.value c.look.ensures.cause

pub returns-in_err-look-clause-log : goal.returns-in_err-look-clause-log
returns-in_err-look-clause-log g c = λ log has. log_still g.D.Disk.meaning.observable _ _ c.args.self.now _ log (λ observed. ap (λ (s : State). s.reads) (c.look.ensures.only_read.same observed)) c.look.ensures.kept has

pub returns-in_err-look-clause-same : goal.returns-in_err-look-clause-same
returns-in_err-look-clause-same g c = c.look.ensures.only_read.same

pub returns-in_err-look-clause-moments : goal.returns-in_err-look-clause-moments
returns-in_err-look-clause-moments g c = c.look.ensures.only_read.moments

pub returns-in_err-look-clause-sync_out : goal.returns-in_err-look-clause-sync_out
returns-in_err-look-clause-sync_out g c = c.look.ensures.only_read.syncs

pub returns-in_err-look-clause-read_out : goal.returns-in_err-look-clause-read_out
returns-in_err-look-clause-read_out g c = c.look.ensures.only_read.reads

pub returns-in_err-look-clause-read_of : goal.returns-in_err-look-clause-read_of
returns-in_err-look-clause-read_of g c = c.look.ensures.only_read.file

pub returns-clause-log : goal.returns-clause-log
returns-clause-log g c = λ log has. log_still g.D.Disk.meaning.observable _ _ c.args.self.now _ log (λ observed. ap (λ (s : State). s.reads) (c.look.ensures.only_read.same observed)) c.look.ensures.kept has

pub returns-clause-same : goal.returns-clause-same
returns-clause-same g c = c.look.ensures.only_read.same

pub returns-clause-moments : goal.returns-clause-moments
returns-clause-moments g c = c.look.ensures.only_read.moments

pub returns-clause-sync_out : goal.returns-clause-sync_out
returns-clause-sync_out g c = c.look.ensures.only_read.syncs

pub returns-clause-read_out : goal.returns-clause-read_out
returns-clause-read_out g c = c.look.ensures.only_read.reads

pub returns-clause-read_of : goal.returns-clause-read_of
returns-clause-read_of g c = c.look.ensures.only_read.file
