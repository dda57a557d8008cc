use Rattle.std.proofs.Common.{None}
use Rattle.je_disk.proofs.CallEffects.{removed-reads}
use Rattle.mem_disk.specs.Replay.{read_at, replay}
use Rattle.mem_disk.specs.declared.change.Change.TheVariants.{Remove}
use Rattle.mem_disk.proofs.ChangeReplay.{changed_agrees}
use Rattle.mem_disk.proofs.file_map.FileMap.remove.Goals as goal

pub invariant_of-self-2 : goal.invariant_of-self-2
invariant_of-self-2 c = record {
  agrees = changed_agrees (read_at c.args.self.now.files) (read_at c.take_away.new.files) c.args.self.now.changes.items c.push.new.self.items (Remove c.args.f) c.args.f.0 (λ _. None)
      c.in_ok-push.ensures.items c.take_away.ensures c.args.self.now.agrees (λ g. removed-reads c.args.f.0 g (replay c.args.self.now.changes.items));
}
