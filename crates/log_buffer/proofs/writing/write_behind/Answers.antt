use Rattle.std.proofs.Common.{sym, ◌∙◌}
use Rattle.je_disk.specs.Moments.{now}
use Rattle.log_buffer.proofs.WriteBufferRoom.{on_ok}
use Rattle.log_buffer.proofs.AppendMoments.{some_bytes, put_some, put_passes}
use Rattle.log_buffer.proofs.writing.write_behind.Goals as goal

pub returns-clause-state : goal.returns-clause-state
returns-clause-state g c =
    let some = some_bytes c.args.bytes.now c.is_empty.result c.is_empty.ensures c.if-is_empty.false in
    λ observed. on_ok c.append.result _ _ (c.append.ensures.done observed) (λ done. done ∙ sym (put_some c.args.f.0 c.args.bytes.now (now (g.D.Disk.meaning.history c.args.disk.now)) some))

pub returns-clause-moments : goal.returns-clause-moments
returns-clause-moments g c =
    let some = some_bytes c.args.bytes.now c.is_empty.result c.is_empty.ensures c.if-is_empty.false in
    λ observed. put_passes c.args.f.0 c.args.bytes.now (g.D.Disk.meaning.history c.args.disk.now) (g.D.Disk.meaning.history c.append.new.self) some (c.append.ensures.moments observed)

pub returns-clause-cause : goal.returns-clause-cause
returns-clause-cause g c = c.append.ensures.cause

pub returns-clause-sync_out : goal.returns-clause-sync_out
returns-clause-sync_out g c = c.append.ensures.sync_out

pub returns-clause-read_out : goal.returns-clause-read_out
returns-clause-read_out g c = c.append.ensures.read_out

pub returns-clause-read_of : goal.returns-clause-read_of
returns-clause-read_of g c = c.append.ensures.read_of
