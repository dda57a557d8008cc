use Rattle.std.proofs.Common.{◌≡◌, ◌∙◌, List, length, take, refl, ap, sym, subst, arith}
use Rattle.db_tree.specs.declared.slot_room.SlotRoom.{SlotRoom}
use Rattle.in_tree.specs.Placing.{ArePlaced}
use Rattle.in_tree.proofs.Placings.{places_begin, places_step, places_there, places_few, places_fail, places_high, places_end, placed_seen, same_seen_of}
use Rattle.in_tree.proofs.preparing.place_all.Goals as goal

pub loop-change-init : goal.loop-change-init
loop-change-init c = places_begin c.args.fanout c.args.last c.args.trees.now c.args.changes.now (record { rooms = c.new.result; last = c.args.last }) c.new.ensures.items refl c.ranges.last.fits c.requires

pub place_next-requires : goal.place_next-requires
place_next-requires c =
    places_there c.args.fanout c.args.last c.args.trees.now c.loop-change.trees c.args.changes.now c.loop-change.change-index c.change-item.result c.loop-change.placed c.loop-change-test.true c.change-item.is c.loop-change.invariant

pub loop-change-preserved : goal.loop-change-preserved
loop-change-preserved c =
    places_step c.args.fanout c.args.last c.args.trees.now c.loop-change.trees c.place_next.new.trees c.args.changes.now c.loop-change.change-index c.change-item.result c.loop-change.placed c.place_next.new.placed c.loop-change-test.true c.change-item.is
    c.loop-change.invariant c.in-Ok.ensures.ok

pub take_back_all-requires : goal.take_back_all-requires
take_back_all-requires c =
    let few = places_few c.args.fanout c.args.last c.args.trees.now c.loop-change.trees c.args.changes.now c.loop-change.change-index c.loop-change.placed c.loop-change-test.true c.loop-change.invariant in
    let same : length c.as_slice.result.now ≡ length c.loop-change.placed.rooms.items = ap (λ (l : List SlotRoom). length l) (c.as_slice.ensures.value ∙ c.in-Err.ensures.rooms) in
    let within = c.loop-change-test.true in
    omega (arith, few, same, within)

pub returns-in-Err-clause-err : goal.returns-in-Err-clause-err
returns-in-Err-clause-err c =
    c.take_back_all.ensures c.args.fanout c.args.trees.now
    (subst (λ (rs : List SlotRoom). ArePlaced c.args.fanout (take (length rs) c.args.changes.now) rs c.args.trees.now c.place_next.new.trees) (sym c.as_slice.ensures.value)
    (places_fail c.args.fanout c.args.last c.args.trees.now c.loop-change.trees c.place_next.new.trees c.args.changes.now c.loop-change.change-index c.loop-change.placed c.place_next.new.placed c.loop-change-test.true c.loop-change.invariant
    c.in-Err.ensures.err c.in-Err.ensures.rooms))

pub returns-in-Err-clause-high : goal.returns-in-Err-clause-high
returns-in-Err-clause-high c = λ is.
    places_high c.args.fanout c.args.last c.args.trees.now c.loop-change.trees c.args.changes.now c.loop-change.change-index c.change-item.result c.loop-change.placed c.loop-change-test.true c.change-item.is c.loop-change.invariant (c.in-Err.ensures.high is)

pub returns-clause-placed : goal.returns-clause-placed
returns-clause-placed c =
    (places_end c.args.fanout c.args.last c.args.trees.now c.loop-change.trees c.args.changes.now c.loop-change.change-index c.loop-change.placed c.loop-change-test.false c.loop-change.invariant).placed

pub returns-clause-last : goal.returns-clause-last
returns-clause-last c =
    (places_end c.args.fanout c.args.last c.args.trees.now c.loop-change.trees c.args.changes.now c.loop-change.change-index c.loop-change.placed c.loop-change-test.false c.loop-change.invariant).numbers

pub returns-clause-same : goal.returns-clause-same
returns-clause-same c =
    placed_seen c.args.fanout c.args.changes.now c.loop-change.placed.rooms.items c.args.trees.now c.loop-change.trees
    (places_end c.args.fanout c.args.last c.args.trees.now c.loop-change.trees c.args.changes.now c.loop-change.change-index c.loop-change.placed c.loop-change-test.false c.loop-change.invariant).placed

pub returns-in-Err-clause-same : goal.returns-in-Err-clause-same
returns-in-Err-clause-same c =
    same_seen_of c.args.trees.now c.take_back_all.new.trees
    (c.take_back_all.ensures c.args.fanout c.args.trees.now
    (subst (λ (rs : List SlotRoom). ArePlaced c.args.fanout (take (length rs) c.args.changes.now) rs c.args.trees.now c.place_next.new.trees) (sym c.as_slice.ensures.value)
    (places_fail c.args.fanout c.args.last c.args.trees.now c.loop-change.trees c.place_next.new.trees c.args.changes.now c.loop-change.change-index c.loop-change.placed c.place_next.new.placed c.loop-change-test.true c.loop-change.invariant
    c.in-Err.ensures.err c.in-Err.ensures.rooms)))

pub returns-clause-fitted : goal.returns-clause-fitted
returns-clause-fitted c =
    (places_end c.args.fanout c.args.last c.args.trees.now c.loop-change.trees c.args.changes.now c.loop-change.change-index c.loop-change.placed c.loop-change-test.false c.loop-change.invariant).fitted
