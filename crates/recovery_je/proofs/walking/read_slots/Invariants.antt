use Rattle.std.proofs.Common.{ℕ, IsSome, map, drop, option_copied}
use Rattle.std.specs.List.{flat_map}
use Rattle.log_trees.specs.Images.{slot_shown}
use Rattle.log_trees.specs.Bounds.{slots_inside}
use Rattle.log_trees.specs.Walk.{Walk, read_record}
use Rattle.je_order.specs.declared.name.Name.{Name}
use Rattle.recovery_je.specs.Putting.{as_loaded, HasPut, none_put}
use Rattle.recovery_je.specs.Walking.{IsWalking}
use Rattle.recovery_je.proofs.WalkLaws.{IsWalkingOn}
use Rattle.recovery_je.proofs.walking.read_slots.Given as goal

abbrev pub invariant-loop-marked : goal.invariant-loop-marked
invariant-loop-marked g l = record {
  walk :
      (walk : Walk) → IsWalking (g.T.Loads.stored l.initial.walking.trees) l.initial.walking.seen.keys l.initial.walking.node l.initial.walking.db walk →
      IsWalkingOn (read_record (map (λ f. f.0) l.files) l.entries l.d l.at) (slots_inside l.low (option_copied l.high) (flat_map slot_shown l.slots)) (slots_inside l.low (option_copied l.high) (flat_map slot_shown (drop l.marked-index l.slots)))
      (IsWalking (g.T.Loads.stored l.walking.trees) l.walking.seen.keys l.walking.node l.walking.db) walk;
  nodes : (k : ℕ) (x : Name) → IsSome (g.T.Loads.nodes l.initial.walking.trees l.d k x) → HasPut (as_loaded g.T.Loads.nodes g.T.Loads.read) none_put l.initial.walking l.walking;
}
