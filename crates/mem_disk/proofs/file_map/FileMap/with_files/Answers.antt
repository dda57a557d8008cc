use Rattle.std.proofs.Common.{arith, ◌<◌, ◌≤◌, ◌++◌, ◌∷◌, [], length, ap, ◌∙◌, List, ℕ}
use Rattle.mem_disk.specs.declared.change.Change.TheVariants.{Append}
use Rattle.mem_disk.specs.Replay.{listed, held}
use Rattle.mem_disk.proofs.ChangeReplay.{held_from-step, held_from-end}
use Rattle.mem_disk.proofs.file_map.FileMap.with_files.Goals as goal

pub loop-f-preserved : goal.loop-f-preserved
loop-f-preserved c = let within : c.loop-f.f-index < length c.args.files.now = omega arith in
    held_from-step c.loop-f.file_map.changes.items c.append.new.self.changes.items c.args.files.now c.loop-f.f-index c.loop-f-item.result (held (listed c.args.files.now)) within c.loop-f-item.is
    (c.in_ok-append.ensures.ok ∙ ap (λ (bytes : List ℕ). c.loop-f.file_map.changes.items ++ Append c.loop-f-item.result.0 bytes ∷ []) c.as_slice.ensures.value) c.loop-f.invariant

pub returns : goal.returns
returns c = let past : length c.args.files.now ≤ c.loop-f.f-index = omega arith in
    held_from-end c.loop-f.file_map.changes.items c.sync.new.self.changes.items c.args.files.now c.loop-f.f-index (held (listed c.args.files.now)) past c.in_ok-sync.ensures.ok c.loop-f.invariant
