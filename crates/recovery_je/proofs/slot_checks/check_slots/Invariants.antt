use Rattle.std.proofs.Common.{map, drop, option_copied}
use Rattle.std.specs.List.{flat_map}
use Rattle.log_trees.specs.Images.{slot_shown}
use Rattle.log_trees.specs.Bounds.{slots_inside}
use Rattle.check_laws.specs.Trees.{check_record}
use Rattle.recovery_je.proofs.TreeCheckLaws.{ChecksOn}
use Rattle.recovery_je.proofs.slot_checks.check_slots.Given as goal

abbrev pub invariant-loop-marked : goal.invariant-loop-marked
invariant-loop-marked g l =
    ChecksOn g.T.Loads.stored (check_record (map (λ f. f.0) l.files) l.entries l.d l.at) (slots_inside l.low (option_copied l.high) (flat_map slot_shown l.slots))
    (slots_inside l.low (option_copied l.high) (flat_map slot_shown (drop l.marked-index l.slots))) l.initial.check l.check
