use Rattle.std.proofs.Common.{Bool, ℕ, map, drop, ◌∷◌, [], ◌+◌}
use Rattle.log_meaning.specs.ReadNodes.{IsRootLoaded}
use Rattle.log_trees.specs.Walk.{read_root}
use Rattle.recovery_je.specs.Putting.{as_loaded}
use Rattle.recovery_je.specs.Walking.{IsWalking}
use Rattle.recovery_je.proofs.PutLaws.{putting_on, put_so, each_one, next_left}
use Rattle.recovery_je.proofs.WalkLaws.{walking_on, one_is}
use Rattle.recovery_je.proofs.roots.read_each.Goals as goal

pub loop-root-preserved : goal.loop-root-preserved
loop-root-preserved g c =
    let es = c.args.entries.now in
    let roots = c.args.roots.now in
    let i = c.loop-root.root-index in
    let root = c.root-item.result in
    let before = c.loop-root.walking in
    let after = c.read_root.new.walking in
    let left = next_left roots i root c.loop-root-test.true c.root-item.is in
    record {
      walk = λ walk at.
          walking_on (read_root (map (λ f. f.0) c.args.files.now) es c.args.end) roots (drop i roots) (root ∷ []) (drop (i + 1) roots)
          (IsWalking (g.T.Loads.stored before.trees) before.seen.keys before.node before.db) (IsWalking (g.T.Loads.stored after.trees) after.seen.keys after.node after.db) walk
          left (c.loop-root.invariant.walk walk at)
          (λ here is. one_is (read_root (map (λ f. f.0) c.args.files.now) es c.args.end) root here (IsWalking (g.T.Loads.stored after.trees) after.seen.keys after.node after.db) (c.in_ok-read_root.ensures.walk here is));
      nodes = putting_on (as_loaded g.T.Loads.nodes g.T.Loads.read) (λ (keeps : Bool) (most : ℕ). IsRootLoaded es keeps most) roots (drop i roots) (drop (i + 1) roots) (root ∷ []) c.args.walking.now before after left c.loop-root.invariant.nodes
          (put_so (as_loaded g.T.Loads.nodes g.T.Loads.read) (λ (keeps : Bool) (most : ℕ). IsRootLoaded es keeps most root) _ before after (λ keeps most. each_one (IsRootLoaded es keeps most) root) c.in_ok-read_root.ensures.nodes);
    }
