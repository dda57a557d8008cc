use Rattle.mem_disk.specs.Replay.{read_at, replay}
use Rattle.mem_disk.specs.declared.change.Change.TheVariants.{Append}
use Rattle.mem_disk.proofs.ChangeReplay.{written_agrees, appended-reads}
use Rattle.mem_disk.proofs.file_map.FileMap.append.Goals as goal

pub invariant_of-self : goal.invariant_of-self
invariant_of-self c = record {
  agrees = written_agrees c.write.result (read_at c.args.self.now.files) (read_at c.write.new.files) c.args.self.now.changes.items c.write.new.changes.items c.args.f.0 c.args.bytes.now (Append c.args.f c.in_ok-from_slice.field-0)
      c.write.ensures.ok c.write.ensures.recorded c.write.ensures.err c.write.ensures.unrecorded c.args.self.now.agrees
      (λ g. appended-reads c.args.f.0 g c.in_ok-from_slice.field-0 c.args.bytes.now (replay c.args.self.now.changes.items) c.in_ok-from_slice.ensures);
}
