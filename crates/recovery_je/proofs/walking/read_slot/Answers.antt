use Rattle.std.proofs.Common.{map}
use Rattle.log_trees.specs.Walk.{read_record}
use Rattle.recovery_je.specs.Walking.{IsWalking}
use Rattle.recovery_je.proofs.WalkLaws.{one_goes_on}
use Rattle.recovery_je.proofs.walking.read_slot.Goals as goal

pub returns-in-There-clause-walk : goal.returns-in-There-clause-walk
returns-in-There-clause-walk g c walk at =
    rw c.in-There.is (one_goes_on (read_record (map (λ f. f.0) c.args.files.now) c.args.entries.now c.args.d c.args.at) (c.args.slot.now.name, c.in-There.lsn) walk
    (IsWalking (g.T.Loads.stored c.read_record.new.walking.trees) c.read_record.new.walking.seen.keys c.read_record.new.walking.node c.read_record.new.walking.db) c.read_record.result (c.read_record.ensures.walk walk at))
