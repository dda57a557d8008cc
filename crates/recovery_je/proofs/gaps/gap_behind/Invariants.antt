use Rattle.std.proofs.Common.{◌≡◌, ◌∷◌, drop, map}
use Rattle.std.specs.List.Sorted.{IsStrictlyIncreasing}
use Rattle.log_replay.specs.Reading.{gap_behind}
use Rattle.recovery_je.proofs.gaps.gap_behind.Given as goal

abbrev pub invariant-loop-f : goal.invariant-loop-f
invariant-loop-f l =
    IsStrictlyIncreasing (l.last.0 ∷ map (λ f. f.0) (drop l.f-index l.rest))
    × (gap_behind l.last.0 (map (λ f. f.0) (drop l.f-index l.rest)) ≡ gap_behind l.fn.file.0 (map (λ f. f.0) l.rest))
