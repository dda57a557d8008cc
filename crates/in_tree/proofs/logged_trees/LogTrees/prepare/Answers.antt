use Rattle.std.proofs.Common.{◌||◌, ◌∙◌, Bool, ap}
use Rattle.record_tree.specs.Logged.{is_made}
use Rattle.in_tree.proofs.Placings.{same_seen_of, placed_seen, placed_trees, placed_there, placed_loggable, placed_even, few_placed}
use Rattle.in_tree.proofs.Checked.{all_back, few_back, few_then, limit_none, limit_met, none_still, seen_rise, there_still}
use Rattle.in_tree.proofs.DueReady.{ready_fits}
use Rattle.in_tree.proofs.Checked.{le_of}
use Rattle.in_tree.proofs.logged_trees.LogTrees.prepare.Goals as goal

pub invariant_of-self : goal.invariant_of-self
invariant_of-self g c =
    let trees = c.args.self.now.trees in
    ((trees.numbers, (trees.least, (trees.most, tt))), (seen_rise trees.forest c.place_all.new.trees c.place_all.ensures.same c.args.self.now.ordered, tt))

pub make_ready-requires-clause-new : goal.make_ready-requires-clause-new
make_ready-requires-clause-new g c = none_still c.args.self.now.trees.forest c.place_all.new.trees c.args.changes.now (placed_trees c.args.self.now.trees.fanout c.args.changes.now c.in-Ok.placed.rooms.items c.args.self.now.trees.forest c.place_all.new.trees c.in-Ok.ensures.placed) c.requires.new

pub make_ready-requires-clause-loggable : goal.make_ready-requires-clause-loggable
make_ready-requires-clause-loggable g c = placed_loggable c.args.self.now.trees.fanout c.args.changes.now c.in-Ok.placed.rooms.items c.args.self.now.trees.forest c.place_all.new.trees c.in-Ok.ensures.placed

pub make_ready-requires-clause-paired : goal.make_ready-requires-clause-paired
make_ready-requires-clause-paired g c = placed_even c.args.self.now.trees.fanout c.args.changes.now c.in-Ok.placed.rooms.items c.args.self.now.trees.forest c.place_all.new.trees c.in-Ok.ensures.placed

pub take_back_all-requires : goal.take_back_all-requires
take_back_all-requires g c =
    few_back c.args.self.now.trees.fanout c.args.changes.now c.in-Ok.placed.rooms.items c.as_slice.result.now c.args.self.now.trees.forest c.place_all.new.trees c.as_slice.ensures.value c.in-Ok.ensures.placed

pub invariant_of-self-in-Err-make_ready : goal.invariant_of-self-in-Err-make_ready
invariant_of-self-in-Err-make_ready g c =
    let trees = c.make_ready.new.self.trees in (
      (trees.numbers, (trees.least, (trees.most, tt))),
      (
        seen_rise c.args.self.now.trees.forest c.take_back_all.new.trees (same_seen_of c.args.self.now.trees.forest c.take_back_all.new.trees (c.take_back_all.ensures c.args.self.now.trees.fanout c.args.self.now.trees.forest
            (all_back c.args.self.now.trees.fanout c.args.changes.now c.in-Ok.placed.rooms.items c.as_slice.result.now c.args.self.now.trees.forest c.place_all.new.trees c.make_ready.new.self.trees.forest c.as_slice.ensures.value c.in-Ok.ensures.placed c.in-Err-make_ready.ensures.err.0))) c.args.self.now.ordered,
        tt,
      ),
    )

pub returns-in-Ok-make_ready-clause-ready : goal.returns-in-Ok-make_ready-clause-ready
returns-in-Ok-make_ready-clause-ready g c =
    let done = c.in-Ok-make_ready.ensures in
    let placed = c.in-Ok.ensures.placed in
    record {
      made = λ d. done.made d ∙ ap (λ (t : Bool). is_made d c.args.changes.now || t) (placed_trees c.args.self.now.trees.fanout c.args.changes.now c.in-Ok.placed.rooms.items c.args.self.now.trees.forest c.place_all.new.trees placed d);
      there = there_still c.place_all.new.trees c.make_ready.new.self.trees.forest c.args.changes.now done.kept (placed_there c.args.self.now.trees.fanout c.args.changes.now c.in-Ok.placed.rooms.items c.args.self.now.trees.forest c.place_all.new.trees placed);
      loggable = placed_loggable c.args.self.now.trees.fanout c.args.changes.now c.in-Ok.placed.rooms.items c.args.self.now.trees.forest c.place_all.new.trees placed;
      paired = placed_even c.args.self.now.trees.fanout c.args.changes.now c.in-Ok.placed.rooms.items c.args.self.now.trees.forest c.place_all.new.trees placed;
      room = done.room;
      fits = λ es base few f. ready_fits es base c.args.self.now.trees.fanout c.args.self.now.trees.last_node c.make_ready.new.self.trees.last_node c.args.changes.now c.in-Ok.placed.rooms.items c.args.self.now.trees.forest c.place_all.new.trees
          c.make_ready.new.self.trees.forest c.in-Ok.ensures.fitted done.trees.0 c.requires.new (done.trees.1 ∙ c.in-Ok.ensures.last) (le_of done.trees.1 done.ids) few f;
      few = few_then _ _ _ _ (few_placed c.args.self.now.trees.fanout c.args.changes.now c.in-Ok.placed.rooms.items c.args.self.now.trees.forest c.place_all.new.trees placed) done.waits;
    }

pub returns-in-Ok-make_ready-clause-same : goal.returns-in-Ok-make_ready-clause-same
returns-in-Ok-make_ready-clause-same g c = λ d. c.make_ready.ensures.same d ∙ placed_seen c.args.self.now.trees.fanout c.args.changes.now c.in-Ok.placed.rooms.items c.args.self.now.trees.forest c.place_all.new.trees c.in-Ok.ensures.placed d

pub returns-in-Ok-make_ready-clause-room : goal.returns-in-Ok-make_ready-clause-room
returns-in-Ok-make_ready-clause-room g c =
    limit_none c.args.self.now.log c.args.self.now.trees.fanout c.args.self.now.trees.last_node c.args.changes.now c.args.owed c.in-Ok.placed c.args.self.now.trees.forest c.place_all.new.trees
    c.requires.works c.in-Ok.ensures.placed c.in-Ok.ensures.last c.in-Ok-make_ready.ensures.files c.in-Ok-make_ready.ensures.ids

pub returns-in-Err-make_ready-clause-err : goal.returns-in-Err-make_ready-clause-err
returns-in-Err-make_ready-clause-err g c = (
  c.take_back_all.ensures c.args.self.now.trees.fanout c.args.self.now.trees.forest
      (all_back c.args.self.now.trees.fanout c.args.changes.now c.in-Ok.placed.rooms.items c.as_slice.result.now c.args.self.now.trees.forest c.place_all.new.trees c.make_ready.new.self.trees.forest c.as_slice.ensures.value c.in-Ok.ensures.placed c.in-Err-make_ready.ensures.err.0),
  c.in-Err-make_ready.ensures.err.1,
)

pub returns-in-Err-make_ready-clause-same : goal.returns-in-Err-make_ready-clause-same
returns-in-Err-make_ready-clause-same g c = same_seen_of c.args.self.now.trees.forest c.take_back_all.new.trees (c.take_back_all.ensures c.args.self.now.trees.fanout c.args.self.now.trees.forest
    (all_back c.args.self.now.trees.fanout c.args.changes.now c.in-Ok.placed.rooms.items c.as_slice.result.now c.args.self.now.trees.forest c.place_all.new.trees c.make_ready.new.self.trees.forest c.as_slice.ensures.value c.in-Ok.ensures.placed c.in-Err-make_ready.ensures.err.0))

pub returns-in-Err-make_ready-clause-limited : goal.returns-in-Err-make_ready-clause-limited
returns-in-Err-make_ready-clause-limited g c =
    limit_met c.args.self.now.log c.args.self.now.trees.fanout c.args.self.now.trees.last_node c.args.changes.now c.args.owed c.in-Ok.placed c.args.self.now.trees.forest c.place_all.new.trees c.in-Err-make_ready.error
    c.requires.works c.in-Ok.ensures.placed c.in-Ok.ensures.last c.in-Err-make_ready.ensures.full c.in-Err-make_ready.ensures.ended
