use Rattle.node_log.proofs.NodeReadBack.{images_are_read_back, deltas_are_read_back}
use Rattle.node_log.proofs.laws.nodes_are_read_back.Goals as goal

pub returns-clause-full : goal.returns-clause-full
returns-clause-full c = images_are_read_back

pub returns-clause-delta : goal.returns-clause-delta
returns-clause-delta c = deltas_are_read_back
