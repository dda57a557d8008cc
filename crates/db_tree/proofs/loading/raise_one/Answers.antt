use Rattle.db_tree.proofs.LoadingLaws.{more_raised}
use Rattle.db_tree.proofs.WaitCounts.{raise_few, raise_height}
use Rattle.db_tree.proofs.loading.raise_one.Goals as goal

pub returns-clause-height : goal.returns-clause-height
returns-clause-height c = raise_height c.raise.result c.args.levels.now c.raise.new.self c.unlogged.result c.raise.ensures.ok

pub returns-clause-more : goal.returns-clause-more
returns-clause-more c level low high = more_raised c.raise.result c.args.levels.now c.raise.new.self c.unlogged.result level low high c.raise.ensures.ok

pub returns-clause-few : goal.returns-clause-few
returns-clause-few c = raise_few c.raise.result c.args.levels.now c.raise.new.self c.unlogged.result c.raise.ensures.ok c.raise.ensures.low c.raise.ensures.front c.raise.ensures.err
