use Rattle.std.proofs.Common.{refl}
use Rattle.in_tree.proofs.Placings.{same_seen_of}
use Rattle.in_tree.proofs.Checked.{all_none, trees_back, seen_rise}
use Rattle.in_tree.proofs.logged_trees.LogTrees.take_room.Goals as goal

pub make_all-requires-clause-none : goal.make_all-requires-clause-none
make_all-requires-clause-none g c = all_none c.args.self.now.trees.forest c.args.changes.now c.requires.new

pub returns-in-Err-clause-err : goal.returns-in-Err-clause-err
returns-in-Err-clause-err g c = (trees_back c.args.self.now.trees.forest c.make_all.new.trees c.drop_made.new.trees c.args.changes.now c.requires.new c.make_all.ensures.stay c.drop_made.ensures, refl)

pub returns-in-Err-clause-same : goal.returns-in-Err-clause-same
returns-in-Err-clause-same g c =
    same_seen_of c.args.self.now.trees.forest c.drop_made.new.trees (trees_back c.args.self.now.trees.forest c.make_all.new.trees c.drop_made.new.trees c.args.changes.now c.requires.new c.make_all.ensures.stay c.drop_made.ensures)

pub invariant_of-self-in-Err : goal.invariant_of-self-in-Err
invariant_of-self-in-Err g c =
    let trees = c.args.self.now.trees in (
      (trees.numbers, (trees.least, (trees.most, tt))),
      (
        seen_rise trees.forest c.drop_made.new.trees
            (same_seen_of trees.forest c.drop_made.new.trees (trees_back trees.forest c.make_all.new.trees c.drop_made.new.trees c.args.changes.now c.requires.new c.make_all.ensures.stay c.drop_made.ensures)) c.args.self.now.ordered,
        tt,
      ),
    )
