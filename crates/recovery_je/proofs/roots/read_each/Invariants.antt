use Rattle.std.proofs.Common.{Bool, ℕ, map, drop}
use Rattle.log_meaning.specs.ReadNodes.{IsRootLoaded}
use Rattle.log_trees.specs.Walk.{Walk, read_root}
use Rattle.recovery_je.specs.Putting.{as_loaded}
use Rattle.recovery_je.specs.Walking.{IsWalking}
use Rattle.recovery_je.proofs.PutLaws.{IsPuttingOn}
use Rattle.recovery_je.proofs.WalkLaws.{IsWalkingOn}
use Rattle.recovery_je.proofs.roots.read_each.Given as goal

abbrev pub invariant-loop-root : goal.invariant-loop-root
invariant-loop-root g l = record {
  walk :
      (walk : Walk) → IsWalking (g.T.Loads.stored l.initial.walking.trees) l.initial.walking.seen.keys l.initial.walking.node l.initial.walking.db walk →
      IsWalkingOn (read_root (map (λ f. f.0) l.files) l.entries l.end) l.roots (drop l.root-index l.roots) (IsWalking (g.T.Loads.stored l.walking.trees) l.walking.seen.keys l.walking.node l.walking.db) walk;
  nodes : IsPuttingOn (as_loaded g.T.Loads.nodes g.T.Loads.read) (λ (keeps : Bool) (most : ℕ). IsRootLoaded l.entries keeps most) l.roots (drop l.root-index l.roots) l.initial.walking l.walking;
}
