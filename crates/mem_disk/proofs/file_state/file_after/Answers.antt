use Rattle.std.proofs.Common.{arith, ◌<◌, ◌≤◌, length}
use Rattle.mem_disk.specs.CrashStates.{view_of, file_in}
use Rattle.mem_disk.specs.Replay.{replay}
use Rattle.mem_disk.proofs.CrashStateLaws.{traced-begun, traced-step, traced-end}
use Rattle.mem_disk.proofs.file_state.file_after.Goals as goal

pub loop-change-init : goal.loop-change-init
loop-change-init c = traced-begun c.args.f.0 (view_of c.new-file.result) c.args.changes.now c.new-file.ensures

pub loop-change-preserved : goal.loop-change-preserved
loop-change-preserved c = let within : c.loop-change.change-index < length c.args.changes.now = omega arith in
    traced-step c.args.f.0 (view_of c.loop-change.file) (view_of c.change.new.self) (file_in c.args.f.0 (replay c.args.changes.now)) c.args.changes.now c.loop-change.change-index c.change-item.result
    within c.change-item.is c.in_ok-change.ensures c.loop-change.invariant

pub returns : goal.returns
returns c = let past : length c.args.changes.now ≤ c.loop-change.change-index = omega arith in
    traced-end c.args.f.0 (view_of c.loop-change.file) (file_in c.args.f.0 (replay c.args.changes.now)) c.args.changes.now c.loop-change.change-index past c.loop-change.invariant
