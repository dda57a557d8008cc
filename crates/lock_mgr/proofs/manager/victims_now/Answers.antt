use Rattle.waits_for.specs.Cycles.{is_edge}
use Rattle.lock_mgr.specs.Deadlock.{waits}
use Rattle.je_order.proofs.Results.{if_ok}
use Rattle.lock_mgr.proofs.CycleLaws.{all_broken}
use Rattle.lock_mgr.proofs.manager.victims_now.Goals as goal

pub returns : goal.returns
returns c = if_ok c.victims_of.result (all_broken (waits c.args.table.now) (is_edge c.in_ok-edges.edges) c.args.txn c.in_ok-edges.ensures c.requires) c.victims_of.ensures
