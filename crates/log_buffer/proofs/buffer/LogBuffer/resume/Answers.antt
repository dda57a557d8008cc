use Rattle.std.proofs.Common.{ℕ, ◌/◌, ◌-◌, [], length, refl, ap, sym, subst, ◌∙◌, arith}
use Rattle.je_disk.specs.Moments.{now}
use Rattle.log_buffer.specs.Log.{EndsAt}
use Rattle.log_buffer.proofs.WriteBuffers.{bytes_for_none}
use Rattle.log_buffer.proofs.WriteBufferRoom.{same_for}
use Rattle.log_buffer.proofs.LogEnds.{log_at_end}
use Rattle.log_buffer.proofs.CrashOpen.{synced_holds}
use Rattle.log_buffer.proofs.buffer.LogBuffer.resume.Goals as goal

pub returns-clause-log : goal.returns-clause-log
returns-clause-log g c =
    λ log is ends read.
    log_at_end g.D.Disk.meaning.observable (now (g.D.Disk.meaning.history c.args.disk)) _ log
    (record {
      empty = λ f. same_for [] [] c.new.result.bytes.items c.new.result.starts.items c.file-file.result.0 f c.new.ensures.bytes c.new.ensures.starts ∙ bytes_for_none c.file-file.result.0 f;
      first = let starts = ap length c.new.ensures.starts in omega (arith, starts);
      flushed_len = refl;
    })
    is
    (subst (λ (k : ℕ). EndsAt log k c.offset-offset.result c.args.last) (sym c.file-file.ensures)
    (subst (λ (k : ℕ). EndsAt log (c.args.at / 4294967296) k c.args.last) (sym c.offset-offset.ensures) ends))
    read

pub returns-clause-holds : goal.returns-clause-holds
returns-clause-holds g c =
    λ observed log is ends read stable.
    synced_holds log c.file-file.result.0 c.offset-offset.result c.args.last (c.file-file.result.0 - length c.new.result.starts.items) (now (g.D.Disk.meaning.history c.args.disk)) is
    (subst (λ (k : ℕ). EndsAt log k c.offset-offset.result c.args.last) (sym c.file-file.ensures)
    (subst (λ (k : ℕ). EndsAt log (c.args.at / 4294967296) k c.args.last) (sym c.offset-offset.ensures) ends))
    (omega arith) (read observed) stable
