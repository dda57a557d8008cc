use Rattle.node_core.proofs.SlotLookup.{at_put, put_in_place, same_lists}
use Rattle.node_core.proofs.laws.slots_are_their_names.Goals as goal

pub returns-clause-put : goal.returns-clause-put
returns-clause-put c = at_put

pub returns-clause-place : goal.returns-clause-place
returns-clause-place c = put_in_place

pub returns-clause-same : goal.returns-clause-same
returns-clause-same c = same_lists
