use Rattle.std.proofs.Common.{◌≡◌, ◌==◌, map, drop}
use Rattle.std.specs.List.{list_any}
use Rattle.recovery_je.proofs.images.is_listed.Given as goal

abbrev pub invariant-loop-f : goal.invariant-loop-f
invariant-loop-f l = list_any (λ n. n == l.file.0) (map (λ f. f.0) (drop l.f-index l.files)) ≡ list_any (λ n. n == l.file.0) (map (λ f. f.0) l.files)
