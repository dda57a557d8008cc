use Rattle.db_tree.specs.Splits.{one_if}
use Rattle.db_tree.specs.Waiting.{waiting_of, count_lows}
use Rattle.db_tree.proofs.LoadingLaws.{more_then, loaded, set_few, set_net, few_three, both_few, net_three}
use Rattle.db_tree.proofs.loading.put_node.Goals as goal

pub returns-clause-loaded : goal.returns-clause-loaded
returns-clause-loaded c =
    loaded c.args.levels.now c.put_lows.new.levels c.set.new.self c.args.level c.args.low.now c.args.node
    (more_then c.args.levels.now c.raise_to.new.levels c.put_lows.new.levels c.args.level c.args.low.now (c.in_ok-raised.ensures.more c.args.low.now) c.in_ok-made.ensures.more)
    c.set.ensures.parts c.set.ensures.put

pub returns-clause-few : goal.returns-clause-few
returns-clause-few c =
    net_three (count_lows (waiting_of c.args.levels.now)) (count_lows (waiting_of c.raise_to.new.levels)) (count_lows (waiting_of c.put_lows.new.levels)) (count_lows (waiting_of c.set.new.self)) c.in_ok-raised.raised c.in_ok-made.made
    (one_if c.args.node.forced) (one_if c.waits_there-replaced.result) c.in_ok-raised.ensures.few c.in_ok-made.ensures.few
    (set_net c.put_lows.new.levels c.set.new.self c.args.level c.args.low.now c.args.node c.waits_there-replaced.result c.height-height.ensures.parts c.set.ensures.parts c.in_ok-made.ensures.here c.set.ensures.put c.waits_there-replaced.ensures)

pub returns-clause-most : goal.returns-clause-most
returns-clause-most c =
    few_three (count_lows (waiting_of c.args.levels.now)) (count_lows (waiting_of c.raise_to.new.levels)) (count_lows (waiting_of c.put_lows.new.levels)) (count_lows (waiting_of c.set.new.self)) c.in_ok-raised.raised c.in_ok-made.made 513
    c.in_ok-raised.ensures.few c.in_ok-made.ensures.few
    (set_few c.put_lows.new.levels c.set.new.self c.args.level c.args.low.now c.args.node c.height-height.ensures.parts c.set.ensures.parts c.in_ok-made.ensures.here c.set.ensures.put)
    (both_few c.in_ok-raised.raised c.in_ok-made.made c.in_ok-raised.ensures.made c.in_ok-made.ensures.made)
