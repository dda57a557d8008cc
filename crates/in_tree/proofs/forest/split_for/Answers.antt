use Rattle.std.proofs.Common.{inr}
use Rattle.in_tree.proofs.SplitExact.{split_exact}
use Rattle.in_tree.proofs.forest.split_for.Goals as goal

pub returns-in-Ok-clause-keeps : goal.returns-in-Ok-clause-keeps
returns-in-Ok-clause-keeps c = λ es base newest behind tree. c.in-Ok.ensures.tree es base newest (λ x. inr behind) tree

pub returns-in-Ok-clause-exact : goal.returns-in-Ok-clause-exact
returns-in-Ok-clause-exact c =
    split_exact c.args.fanout c.in-Some.first c.args.name.now c.args.tree.now c.place_unlogged.new.self c.height-height.ensures.parts c.in-Ok.ensures.was_rising c.in-Ok.ensures.rising c.in-Ok.ensures.cell c.in-Ok.ensures.split
