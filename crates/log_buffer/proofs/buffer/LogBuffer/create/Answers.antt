use Rattle.std.proofs.Common.{◌-◌, [], length, refl, ap, ◌∙◌, arith}
use Rattle.je_disk.specs.Moments.{now}
use Rattle.log_buffer.proofs.WriteBuffers.{alone_last, alone_other}
use Rattle.log_buffer.proofs.WriteBufferRoom.{same_for}
use Rattle.log_buffer.proofs.LogEnds.{log_created}
use Rattle.log_buffer.proofs.CrashOpen.{headless_holds}
use Rattle.log_buffer.proofs.buffer.LogBuffer.create.Goals as goal

pub returns-in-Ok-clause-log : goal.returns-in-Ok-clause-log
returns-in-Ok-clause-log g c =
    let file = c.args.file.0 in
    let bytes = c.in-Ok.unwritten.bytes.items in
    let starts = c.in-Ok.unwritten.starts.items in
    λ before is read.
    log_created g.D.Disk.meaning.observable (now (g.D.Disk.meaning.history c.args.disk)) _ before
    (let none = ap length c.in-Ok.ensures.starts in omega (arith, none)) refl refl refl
    (same_for bytes [] bytes starts file file refl c.in-Ok.ensures.starts ∙ alone_last bytes file ∙ c.in-Ok.ensures.bytes)
    (λ f apart. same_for bytes [] bytes starts file f refl c.in-Ok.ensures.starts ∙ alone_other bytes file f apart)
    is read

pub returns-in-Ok-clause-holds : goal.returns-in-Ok-clause-holds
returns-in-Ok-clause-holds g c =
    λ observed before is read stable.
    let but = read observed in
    headless_holds before c.args.file.0 (c.args.file.0 - length c.in-Ok.unwritten.starts.items) (now (g.D.Disk.meaning.history c.args.disk)) (omega arith) but.1 stable
