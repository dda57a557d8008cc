use Rattle.std.proofs.Common.{◌∙◌, refl, sym}
use Rattle.in_tree.specs.Fitting.{unchanged_itself}
use Rattle.in_tree.proofs.Placings.{placed_loggable, placed_even, same_seen_of}
use Rattle.in_tree.proofs.Waits.{same_waits}
use Rattle.in_tree.proofs.Checked.{all_back, few_back, seen_rise, same_trees_of, placed_limit, if_ok_then}
use Rattle.in_tree.proofs.logged_trees.LogTrees.find_limit.Goals as goal

pub invariant_of-self : goal.invariant_of-self
invariant_of-self g c =
    let trees = c.args.self.now.trees in
    ((trees.numbers, (trees.least, (trees.most, tt))), (seen_rise trees.forest c.place_all.new.trees c.place_all.ensures.same c.args.self.now.ordered, tt))

pub limit_behind-found-requires-clause-loggable : goal.limit_behind-found-requires-clause-loggable
limit_behind-found-requires-clause-loggable g c = placed_loggable c.args.self.now.trees.fanout c.args.changes.now c.in-Ok.placed.rooms.items c.args.self.now.trees.forest c.place_all.new.trees c.in-Ok.ensures.placed

pub limit_behind-found-requires-clause-paired : goal.limit_behind-found-requires-clause-paired
limit_behind-found-requires-clause-paired g c = placed_even c.args.self.now.trees.fanout c.args.changes.now c.in-Ok.placed.rooms.items c.args.self.now.trees.forest c.place_all.new.trees c.in-Ok.ensures.placed

pub take_back_all-requires : goal.take_back_all-requires
take_back_all-requires g c =
    few_back c.args.self.now.trees.fanout c.args.changes.now c.in-Ok.placed.rooms.items c.as_slice.result.now c.args.self.now.trees.forest c.place_all.new.trees c.as_slice.ensures.value c.in-Ok.ensures.placed

pub invariant_of-self-in-Ok : goal.invariant_of-self-in-Ok
invariant_of-self-in-Ok g c =
    let trees = c.args.self.now.trees in (
      (trees.numbers, (trees.least, (trees.most, tt))),
      (
        seen_rise trees.forest c.take_back_all.new.trees (same_seen_of trees.forest c.take_back_all.new.trees (c.take_back_all.ensures c.args.self.now.trees.fanout c.args.self.now.trees.forest
            (all_back c.args.self.now.trees.fanout c.args.changes.now c.in-Ok.placed.rooms.items c.as_slice.result.now c.args.self.now.trees.forest c.place_all.new.trees c.place_all.new.trees c.as_slice.ensures.value c.in-Ok.ensures.placed (λ d. refl)))) c.args.self.now.ordered,
        tt,
      ),
    )

pub returns-in-Ok-clause-limit : goal.returns-in-Ok-clause-limit
returns-in-Ok-clause-limit g c =
    if_ok_then c.limit_behind-found.result
    (λ limit is. is ∙ sym (placed_limit c.args.self.now.log c.args.self.now.trees.fanout c.args.self.now.trees.last_node c.args.changes.now c.args.owed c.in-Ok.placed c.args.self.now.trees.forest c.place_all.new.trees
    c.requires.works c.in-Ok.ensures.placed c.in-Ok.ensures.last)) c.limit_behind-found.ensures

pub returns-in-Ok-clause-same : goal.returns-in-Ok-clause-same
returns-in-Ok-clause-same g c =
    let old = c.args.self.now.trees.forest in
    let back = (c.take_back_all.ensures c.args.self.now.trees.fanout c.args.self.now.trees.forest
    (all_back c.args.self.now.trees.fanout c.args.changes.now c.in-Ok.placed.rooms.items c.as_slice.result.now c.args.self.now.trees.forest c.place_all.new.trees c.place_all.new.trees c.as_slice.ensures.value c.in-Ok.ensures.placed (λ d. refl))) in
    (same_seen_of old c.take_back_all.new.trees back, same_trees_of old c.take_back_all.new.trees back, same_waits old c.take_back_all.new.trees back, unchanged_itself c.args.self.now.log)

pub returns-in-Ok-clause-trees : goal.returns-in-Ok-clause-trees
returns-in-Ok-clause-trees g c = (
  (c.take_back_all.ensures c.args.self.now.trees.fanout c.args.self.now.trees.forest
      (all_back c.args.self.now.trees.fanout c.args.changes.now c.in-Ok.placed.rooms.items c.as_slice.result.now c.args.self.now.trees.forest c.place_all.new.trees c.place_all.new.trees c.as_slice.ensures.value c.in-Ok.ensures.placed (λ d. refl))),
  refl,
)
