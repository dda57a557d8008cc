use Rattle.tree_images.proofs.Recorded.{cells_are_set, made_recorded, write_recorded, committed_recorded, given_up_recorded, logged_recorded, loaded_recorded}
use Rattle.tree_images.proofs.laws.cells_are_recorded.Goals as goal

pub returns-clause-set : goal.returns-clause-set
returns-clause-set c = cells_are_set

pub returns-clause-made : goal.returns-clause-made
returns-clause-made c = made_recorded

pub returns-clause-written : goal.returns-clause-written
returns-clause-written c = write_recorded

pub returns-clause-committed : goal.returns-clause-committed
returns-clause-committed c = committed_recorded

pub returns-clause-given_up : goal.returns-clause-given_up
returns-clause-given_up c = given_up_recorded

pub returns-clause-logged : goal.returns-clause-logged
returns-clause-logged c = logged_recorded

pub returns-clause-loaded : goal.returns-clause-loaded
returns-clause-loaded c = loaded_recorded
