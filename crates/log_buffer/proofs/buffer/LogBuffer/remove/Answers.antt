use Rattle.std.proofs.Common.{ℕ, ◌-◌, ◌++◌, length, option_map, refl, sym, subst, arith}
use Rattle.je_disk.specs.Moments.{now}
use Rattle.log_buffer.proofs.WriteBuffers.{none_below, first_for_le, first_or_below}
use Rattle.log_buffer.proofs.LogEnds.{log_removed}
use Rattle.log_file.specs.Log.{entries_of}
use Rattle.log_buffer.specs.Buffer.{first_of}
use Rattle.log_buffer.specs.Log.{log_without, log_of}
use Rattle.log_buffer.specs.Crash.{Holds}
use Rattle.log_buffer.proofs.CrashRemove.{holds_removed, removed_through}
use Rattle.log_buffer.proofs.UnchangedBuffer.{unwritten_over, unwritten_same}
use Rattle.log_buffer.proofs.FaultCauses.{cause_ok, cause_failed, cause_fault}
use Rattle.log_buffer.proofs.buffer.LogBuffer.remove.Goals as goal

pub returns-in-Ok-clause-log : goal.returns-in-Ok-clause-log
returns-in-Ok-clause-log g c =
    let old = c.args.self.now in
    let starts = old.unwritten.starts.items in
    λ log has.
    log_removed g.D.Disk.meaning.observable (now (g.D.Disk.meaning.history old.disk)) (now (g.D.Disk.meaning.history c.remove.new.self)) old _ log c.args.f.0 c.requires
    (none_below old.unwritten.bytes.items starts old.file.0 c.args.f.0 old.files c.requires)
    (λ is. let le = first_for_le starts old.file.0 old.files in let below = c.requires in absurd (omega (arith, is)))
    (first_or_below starts (old.file.0 - length starts) c.args.f.0 c.requires)
    refl refl refl refl refl refl (λ f. refl) c.in-Ok.ensures.done has

pub returns-in-Ok-clause-crash : goal.returns-in-Ok-clause-crash
returns-in-Ok-clause-crash g c =
    let old = c.args.self.now in
    λ observed log removed least begun has h less.
    removed_through log removed least c.args.f.0 begun (first_of old) (g.D.Disk.meaning.history old.disk) (g.D.Disk.meaning.history c.remove.new.self) has.is_log less h (c.remove.ensures.moments observed)

pub returns-in-Ok-clause-holds : goal.returns-in-Ok-clause-holds
returns-in-Ok-clause-holds g c =
    let old = c.args.self.now in
    λ observed log removed least begun has h less.
    subst (Holds (log_without c.args.f.0 log) (log_of c.args.f.0 log ++ removed) (least - length (entries_of (log_of c.args.f.0 log))) (option_map (λ (n : ℕ). n - length (entries_of (log_of c.args.f.0 log))) begun) (first_of old)) (sym (c.in-Ok.ensures.done observed))
    (holds_removed log removed least c.args.f.0 begun (first_of old) (first_of old) (now (g.D.Disk.meaning.history old.disk)) has.is_log less refl h)

pub returns-in-Err-clause-crash : goal.returns-in-Err-clause-crash
returns-in-Err-clause-crash g c =
    let old = c.args.self.now in
    λ observed log removed least begun has h less.
    removed_through log removed least c.args.f.0 begun (first_of old) (g.D.Disk.meaning.history old.disk) (g.D.Disk.meaning.history c.remove.new.self) has.is_log less h (c.remove.ensures.moments observed)

pub returns-then-self-clause-cause : goal.returns-then-self-clause-cause
returns-then-self-clause-cause g c = cause_failed _ _ _ _ c.if-self.true c.if-self.true refl

pub returns-then-self-clause-kept : goal.returns-then-self-clause-kept
returns-then-self-clause-kept g c = unwritten_same c.args.self.now

pub returns-in-Ok-clause-kept : goal.returns-in-Ok-clause-kept
returns-in-Ok-clause-kept g c = unwritten_over c.args.self.now

pub returns-in-Err-clause-kept : goal.returns-in-Err-clause-kept
returns-in-Err-clause-kept g c = unwritten_over c.args.self.now

pub returns-in-Ok-clause-cause : goal.returns-in-Ok-clause-cause
returns-in-Ok-clause-cause g c = cause_ok _ _ _ _ _ c.if-self.false refl c.remove.ensures.cause.never_falls

pub returns-in-Err-clause-cause : goal.returns-in-Err-clause-cause
returns-in-Err-clause-cause g c = cause_fault _ _ _ _ _ c.if-self.false refl c.remove.ensures.cause.never_falls refl c.in-Err.ensures.cause.failed
