use Rattle.std.proofs.Common.{is_ok, refl}
use Rattle.mem_disk.specs.Replay.{read_at}
use Rattle.mem_disk.specs.declared.change.Change.TheVariants.{EndSync}
use Rattle.mem_disk.proofs.ChangeReplay.{noted_agrees}
use Rattle.mem_disk.proofs.file_map.FileMap.end_sync.Goals as goal

pub invariant_of-self : goal.invariant_of-self
invariant_of-self c = record {
  agrees = noted_agrees (is_ok c.push.result) (read_at c.args.self.now.files) c.args.self.now.changes.items c.push.new.self.items EndSync c.push.ensures.items c.args.self.now.agrees (λ g. refl);
}

pub returns-clause-ok : goal.returns-clause-ok
returns-clause-ok c = c.in_ok-push.ensures.items
