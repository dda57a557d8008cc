use Rattle.std.proofs.Common.{map}
use Rattle.recovery_je.specs.Putting.{as_loaded}
use Rattle.recovery_je.proofs.PutLaws.{root_goes}
use Rattle.recovery_je.proofs.roots.read_root.Goals as goal

pub returns-clause-nodes : goal.returns-clause-nodes
returns-clause-nodes g c =
    root_goes (as_loaded g.T.Loads.nodes g.T.Loads.read) (map (λ f. f.0) c.args.files.now) c.args.entries.now c.args.root.now c.in_ok-level.level c.args.walking.now c.read_level.new.walking c.read_level.result c.in_ok-level.ensures c.read_level.ensures.nodes
