use Rattle.std.proofs.Common.{arith}
use Rattle.in_tree.proofs.LoadedLaws.{redo_fits}
use Rattle.in_tree.proofs.trees.Trees.redo.Goals as goal

pub returns-clause-fits : goal.returns-clause-fits
returns-clause-fits c es base less before high logged quiet fits more below =
    let sum = c.saturating_add.ensures in
    let least = c.min-self.ensures in
    redo_fits es base c.args.self.now.last_node c.min-self.result c.args.db c.args.self.now.fanout c.next_number-number.result c.args.name.now c.args.value c.args.first c.args.at c.in_ok-made.made c.args.self.now.forest c.redo.new.trees
    c.next_number-number.ensures (omega (arith, sum, least, more)) (omega (arith, more)) less before high logged c.in_ok-made.ensures.step (c.redo.ensures.quiet quiet) below (fits (omega (arith, sum, least, more)) below)
