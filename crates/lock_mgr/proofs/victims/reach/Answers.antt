use Rattle.std.proofs.Common.{◌≡◌, []}
use Rattle.waits_for.proofs.SearchEnds.{nothing_popped}
use Rattle.lock_mgr.specs.Deadlock.{waits}
use Rattle.lock_mgr.specs.Reach.{IsFilling}
use Rattle.lock_mgr.proofs.EdgeSearch.{filled}
use Rattle.lock_mgr.proofs.victims.reach.Goals as goal

pub returns : goal.returns
returns c =
    let e : c.loop-next.todo.items ≡ [] = nothing_popped c.loop-next.todo.items c.pop.new.self.items _ c.in_default.ensures.items c.in_default.ensures.rest c.in_default.ensures.cases.0 in
    let f : IsFilling (waits c.args.table.now) c.args.txn c.loop-next.edges c.loop-next.seen [] = rw e at c.loop-next.invariant in
    filled (waits c.args.table.now) c.args.txn c.loop-next.edges c.loop-next.seen f
