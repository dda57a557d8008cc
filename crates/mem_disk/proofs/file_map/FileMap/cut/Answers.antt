use Rattle.std.proofs.Common.{take}
use Rattle.std.specs.Option.{option_map}
use Rattle.je_disk.proofs.CallEffects.{cut-reads}
use Rattle.mem_disk.specs.Replay.{read_at, replay}
use Rattle.mem_disk.specs.declared.change.Change.TheVariants.{Cut}
use Rattle.mem_disk.proofs.ChangeReplay.{changed_agrees}
use Rattle.mem_disk.proofs.file_map.FileMap.cut.Goals as goal

pub invariant_of-self-2 : goal.invariant_of-self-2
invariant_of-self-2 c = record {
  agrees = changed_agrees (read_at c.args.self.now.files) (read_at c.shorten.new.files) c.args.self.now.changes.items c.push.new.self.items (Cut c.args.f c.args.len) c.args.f.0 (option_map (take c.args.len))
      c.in_ok-push.ensures.items c.shorten.ensures c.args.self.now.agrees (λ g. cut-reads c.args.f.0 g c.args.len (replay c.args.self.now.changes.items));
}
