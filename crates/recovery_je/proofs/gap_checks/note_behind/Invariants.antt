use Rattle.std.proofs.Common.{◌≡◌, ◌∷◌, ◌++◌, drop, map}
use Rattle.std.specs.List.Sorted.{IsStrictlyIncreasing}
use Rattle.check_laws.specs.Parts.{gaps_behind}
use Rattle.check_laws.specs.Check.{gap_finding}
use Rattle.recovery_je.proofs.gap_checks.note_behind.Given as goal

abbrev pub invariant-loop-f : goal.invariant-loop-f
invariant-loop-f l =
    IsStrictlyIncreasing (l.last.0 ∷ map (λ f. f.0) (drop l.f-index l.rest))
    × (l.findings ++ map gap_finding (gaps_behind l.last.0 (map (λ f. f.0) (drop l.f-index l.rest))) ≡ l.initial.findings ++ map gap_finding (gaps_behind l.fn.file.0 (map (λ f. f.0) l.rest)))
