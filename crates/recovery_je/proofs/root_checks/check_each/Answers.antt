use Rattle.std.proofs.Common.{map, drop, ◌∷◌, [], ◌+◌}
use Rattle.check_laws.specs.Trees.{check_root}
use Rattle.recovery_je.proofs.PutLaws.{next_left}
use Rattle.recovery_je.proofs.TreeCheckLaws.{checks_on}
use Rattle.recovery_je.proofs.root_checks.check_each.Goals as goal

pub loop-root-preserved : goal.loop-root-preserved
loop-root-preserved g c =
    let roots = c.args.roots.now in
    let i = c.loop-root.root-index in
    let root = c.root-item.result in
    checks_on g.T.Loads.stored (check_root (map (λ f. f.0) c.args.files.now) c.args.entries.now c.args.end) roots (drop i roots) (root ∷ []) (drop (i + 1) roots) c.args.check.now c.loop-root.check c.check_root.new.check
    (next_left roots i root c.loop-root-test.true c.root-item.is) c.loop-root.invariant c.in_ok-check_root.ensures.checks
