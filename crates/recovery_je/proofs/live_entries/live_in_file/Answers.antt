use Rattle.std.proofs.Common.{sym, subst}
use Rattle.std.specs.List.{AllByRecursion}
use Rattle.log_entry.specs.Body.{IsEntry}
use Rattle.log_trees.specs.Placed.{Placed}
use Rattle.recovery_je.proofs.FileLookups.{all_in_file}
use Rattle.recovery_je.proofs.live_entries.live_in_file.Goals as goal

pub live_of_file-requires : goal.live_of_file-requires
live_of_file-requires g c =
    subst (AllByRecursion (λ (p : Placed). IsEntry p.1)) (sym c.in-Some.ensures) (all_in_file (λ (p : Placed). IsEntry p.1) c.args.number.0 c.args.entries.now c.requires)
