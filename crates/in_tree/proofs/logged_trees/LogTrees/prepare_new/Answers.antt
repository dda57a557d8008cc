use Rattle.std.proofs.Common.{ℕ, arith, refl, subst}
use Rattle.in_tree.specs.Forest.{IsSameForest}
use Rattle.in_tree.specs.Placing.{IsFittedIn}
use Rattle.in_tree.proofs.Checked.{seen_rise}
use Rattle.in_tree.proofs.FillReady.{placed_after}
use Rattle.in_tree.proofs.Placings.{same_seen_of}
use Rattle.in_tree.proofs.logged_trees.LogTrees.prepare_new.Goals as goal

pub invariant_of-self-in-Err-make_new : goal.invariant_of-self-in-Err-make_new
invariant_of-self-in-Err-make_new g c =
    let trees = c.args.self.now.trees in
    let change = c.args.change.now in
    let back : IsSameForest trees.forest c.take_back.new.trees =
    c.take_back.ensures trees.fanout trees.forest
    (placed_after trees.fanout change.db change.name c.in-Ok.room trees.forest c.place.new.trees c.make_new.new.self.trees.forest c.in-Ok.ensures.placed c.in-Err-make_new.ensures.err.0) in
    let kept = c.make_new.new.self.trees in (
      (kept.numbers, (kept.least, (kept.most, tt))),
      (seen_rise trees.forest c.take_back.new.trees (same_seen_of trees.forest c.take_back.new.trees back) c.args.self.now.ordered, tt),
    )

pub returns-in-Ok-make_new-clause-ready : goal.returns-in-Ok-make_new-clause-ready
returns-in-Ok-make_new-clause-ready g c = record {
  mid = _;
  placed = c.in-Ok.ensures.placed;
  fitted = subst (λ (n : ℕ). IsFittedIn c.args.self.now.trees.fanout n c.args.change.now.db c.args.change.now.name c.in-Ok.room c.args.self.now.trees.forest c.place.new.trees) (let low = c.args.self.now.trees.numbers in omega (arith, low))
      c.in-Ok.ensures.fitted;
  log = refl;
  last = refl;
  fanout = refl;
  up = c.in-Ok-make_new.ensures.ok;
}

pub returns-in-Err-make_new-clause-err : goal.returns-in-Err-make_new-clause-err
returns-in-Err-make_new-clause-err g c =
    let trees = c.args.self.now.trees in
    let change = c.args.change.now in (
      c.take_back.ensures trees.fanout trees.forest
          (placed_after trees.fanout change.db change.name c.in-Ok.room trees.forest c.place.new.trees c.make_new.new.self.trees.forest c.in-Ok.ensures.placed c.in-Err-make_new.ensures.err.0),
      c.in-Err-make_new.ensures.err.1,
    )

pub returns-in-Err-make_new-clause-same : goal.returns-in-Err-make_new-clause-same
returns-in-Err-make_new-clause-same g c = same_seen_of c.args.self.now.trees.forest c.take_back.new.trees (returns-in-Err-make_new-clause-err g c).0
