use Rattle.std.proofs.Common.{arith, refl}
use Rattle.std.proofs.lemmas.Bool.{ne_eqb}
use Rattle.in_tree.proofs.LoadedLaws.{made_up_to}
use Rattle.in_tree.proofs.loaded_trees.LoadedTreesLoads.make.Goals as goal

pub returns-clause-fits : goal.returns-clause-fits
returns-clause-fits c es base fits more below =
    let sum = c.saturating_add.ensures in
    let least = c.min-number.ensures in
    let taken = c.take_number.ensures.number in
    made_up_to es base c.self.inside.trees.last_node c.min-number.result c.take_number.new.self.last_node c.args.db c.self.inside.trees.forest c.make.new.trees c.args.self.now c.self.inside.trees c.self.view_is
    (omega (arith, sum, least, taken, more)) (omega (arith, sum, least, taken, more)) (omega (arith, sum, least, taken, more)) (λ d away. c.in_ok-make.ensures.others d (ne_eqb d c.args.db away)) c.in_ok-make.ensures.tree
    c.take_number.new.self.forest c.take_number.ensures.same refl fits below
