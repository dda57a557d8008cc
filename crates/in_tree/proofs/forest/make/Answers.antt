use Rattle.std.proofs.Common.{refl}
use Rattle.in_tree.proofs.Waits.{made_waits}
use Rattle.in_tree.proofs.LoadedLaws.{parts_same, parts_step}
use Rattle.in_tree.proofs.forest.make.Goals as goal

pub returns-clause-waits : goal.returns-clause-waits
returns-clause-waits c = made_waits c.args.trees.now c.insert.new.self c.args.db c.in_ok-tree.tree c.in_ok-insert.ensures.updates.0 c.ranges.db.fits c.in_ok-tree.ensures.shape

pub returns-clause-parts : goal.returns-clause-parts
returns-clause-parts c = parts_step c.args.trees.now c.insert.new.self c.args.db c.in_ok-tree.tree c.in_ok-insert.ensures.updates.0 c.height-height.ensures.parts

pub returns-in_err-insert-clause-parts : goal.returns-in_err-insert-clause-parts
returns-in_err-insert-clause-parts c = parts_same c.args.trees.now c.insert.new.self (λ d. rw c.in_err-insert.ensures.err refl)
