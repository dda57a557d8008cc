use Rattle.recovery_je.specs.Putting.{as_loaded}
use Rattle.recovery_je.proofs.PutLaws.{level_goes}
use Rattle.recovery_je.proofs.roots.read_level.Goals as goal

pub returns-clause-nodes : goal.returns-clause-nodes
returns-clause-nodes g c =
    level_goes (as_loaded g.T.Loads.nodes g.T.Loads.read) c.args.entries.now c.args.d c.args.level c.args.least.now c.args.at c.args.walking.now c.read_node.new.walking c.read_node.result c.if-level-eq0.false c.requires.least c.read_node.ensures.nodes
