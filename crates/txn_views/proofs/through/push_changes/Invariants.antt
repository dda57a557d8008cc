use Rattle.std.proofs.Common.{◌≡◌, ◌++◌, drop, flat_map}
use Rattle.txn_views.specs.Targets.{needs_for}
use Rattle.txn_views.proofs.through.push_changes.Given as goal

-- the needs so far and those of the changes that are left are all
abbrev pub invariant-loop-change : goal.invariant-loop-change
invariant-loop-change g l =
    l.needs.items ++ flat_map (needs_for l.viewer.level l.viewer.txn (g.T.Records.cells l.trees)) (drop l.change-index l.changes)
    ≡ l.fn.needs.items ++ flat_map (needs_for l.viewer.level l.viewer.txn (g.T.Records.cells l.trees)) l.changes
