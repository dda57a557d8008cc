use Rattle.std.proofs.Common.{ap, ◌∙◌}
use Rattle.je_disk.specs.States.{appended}
use Rattle.log_buffer.proofs.WriteBufferRoom.{on_ok}
use Rattle.log_buffer.proofs.AppendMoments.{next_made, next_put}
use Rattle.log_buffer.proofs.writing.write_file.Goals as goal

pub returns-clause-moments : goal.returns-clause-moments
returns-clause-moments g c =
    λ observed. next_put c.args.f.0 c.args.piece.now (g.D.Disk.meaning.history c.args.disk.now) (g.D.Disk.meaning.history c.make_file.new.disk) (g.D.Disk.meaning.history c.append.new.self)
    (c.make_file.ensures.moments observed) (c.in_ok-make_file.ensures.state observed) (c.append.ensures.moments observed)

pub returns-in_err-make_file-clause-moments : goal.returns-in_err-make_file-clause-moments
returns-in_err-make_file-clause-moments g c =
    λ observed. next_made c.args.f.0 c.args.piece.now (g.D.Disk.meaning.history c.args.disk.now) (g.D.Disk.meaning.history c.make_file.new.disk) (c.make_file.ensures.moments observed)

pub returns-clause-state : goal.returns-clause-state
returns-clause-state g c = λ observed. on_ok c.append.result _ _ (c.append.ensures.done observed) (λ done. done ∙ ap (appended c.args.f.0 c.args.piece.now) (c.in_ok-make_file.ensures.state observed))
