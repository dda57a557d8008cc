use Rattle.std.proofs.Common.{refl, rules}
use Rattle.dir_disk.proofs.pending.Pending.end.Goals as goal

pub returns-then-worked-clause-since : goal.returns-then-worked-clause-since
returns-then-worked-clause-since c = search rules

pub returns-else-worked-clause-failed : goal.returns-else-worked-clause-failed
returns-else-worked-clause-failed c = λ _ _. refl
