use Rattle.std.proofs.Common.{◌+◌, ◌∷◌, ◌∙◌, drop, map, ap, Box}
use Rattle.std.specs.Global.{Global}
use Rattle.record_map.specs.declared.write.Write.{Write}
use Rattle.in_tree.specs.Forest.{write_for}
use Rattle.db_tree.proofs.Ending.{next_left}
use Rattle.in_tree.proofs.Written.{writes_begin, writes_turn, writes_step, writes_fail, room_of_next, all_written, heads_same, rests_same, on_err}
use Rattle.in_tree.proofs.writing.write_each.Goals as goal

abbrev value_of : Box Write Global → Write
value_of b = b.value

pub loop-change-init : goal.loop-change-init
loop-change-init g c =
    writes_begin g.D.Disk.meaning c.args.txn c.args.log.now c.args.trees.now c.args.changes.now c.args.rooms.items c.into_iter-rooms.result.rest.items (map value_of c.into_iter-writes.result.rest.items)
    c.into_iter-rooms.ensures.rest c.requires.entries c.requires.loggable c.requires.paired c.requires.there (ap (map value_of) c.into_iter-writes.ensures.rest ∙ c.requires.writes) c.requires.room

pub write_one-requires : goal.write_one-requires
write_one-requires g c =
    let i = c.loop-change.change-index in
    let changes = c.args.changes.now in
    let turn = writes_turn g.D.Disk.meaning c.args.txn c.args.log.now c.loop-change.log c.args.trees.now c.loop-change.trees changes
    (drop i changes) (c.change-item.result ∷ drop (i + 1) changes) c.args.rooms.items c.loop-change.rooms.rest.items (c.in-Some.room ∷ c.next.new.self.rest.items) (map value_of c.loop-change.writes.rest.items) (c.in-Some-next.write.value ∷ map value_of c.next-in-loop-change.new.self.rest.items)
    c.loop-change.first c.loop-change.invariant (next_left changes i c.change-item.result c.loop-change-test.true c.change-item.is) c.in-Some.ensures.items (ap (map value_of) c.in-Some-next.ensures.items) in
    record {
      entry = turn.entries.0;
      loggable = turn.loggable.0;
      room = (_, room_of_next g.D.Disk.meaning c.loop-change.log c.change-item.result (drop (i + 1) changes) c.in-Some.room c.next.new.self.rest.items turn.some_room.0 turn.some_room.1);
      there = turn.there.0;
      write = heads_same c.in-Some-next.write.value (write_for c.args.txn c.change-item.result) (map value_of c.next-in-loop-change.new.self.rest.items) (map (write_for c.args.txn) (drop (i + 1) changes)) turn.writes_are;
    }

pub loop-change-preserved : goal.loop-change-preserved
loop-change-preserved g c =
    let i = c.loop-change.change-index in
    let changes = c.args.changes.now in
    let turn = writes_turn g.D.Disk.meaning c.args.txn c.args.log.now c.loop-change.log c.args.trees.now c.loop-change.trees changes
    (drop i changes) (c.change-item.result ∷ drop (i + 1) changes) c.args.rooms.items c.loop-change.rooms.rest.items (c.in-Some.room ∷ c.next.new.self.rest.items) (map value_of c.loop-change.writes.rest.items) (c.in-Some-next.write.value ∷ map value_of c.next-in-loop-change.new.self.rest.items)
    c.loop-change.first c.loop-change.invariant (next_left changes i c.change-item.result c.loop-change-test.true c.change-item.is) c.in-Some.ensures.items (ap (map value_of) c.in-Some-next.ensures.items) in
    let done = c.in_ok-at.ensures in
    writes_step g.D.Disk.meaning c.args.txn c.args.log.now c.loop-change.log c.write_one.new.log c.args.trees.now c.loop-change.trees c.write_one.new.trees changes (drop (i + 1) changes) c.change-item.result
    c.args.rooms.items c.next.new.self.rest.items c.in-Some.room c.in-Some-next.write.value (map value_of c.next-in-loop-change.new.self.rest.items) c.loop-change.first c.keep_first.new.first c.in_ok-at.at turn
    (rests_same c.in-Some-next.write.value (write_for c.args.txn c.change-item.result) (map value_of c.next-in-loop-change.new.self.rest.items) (map (write_for c.args.txn) (drop (i + 1) changes)) turn.writes_are)
    c.keep_first.ensures done.grew done.left done.cells c.write_one.ensures.kept c.write_one.ensures.trees c.write_one.ensures.rising c.write_one.ensures.waits

pub returns-in_err-at-clause-tried : goal.returns-in_err-at-clause-tried
returns-in_err-at-clause-tried g c =
    let i = c.loop-change.change-index in
    let changes = c.args.changes.now in
    let turn = writes_turn g.D.Disk.meaning c.args.txn c.args.log.now c.loop-change.log c.args.trees.now c.loop-change.trees changes
    (drop i changes) (c.change-item.result ∷ drop (i + 1) changes) c.args.rooms.items c.loop-change.rooms.rest.items (c.in-Some.room ∷ c.next.new.self.rest.items) (map value_of c.loop-change.writes.rest.items) (c.in-Some-next.write.value ∷ map value_of c.next-in-loop-change.new.self.rest.items)
    c.loop-change.first c.loop-change.invariant (next_left changes i c.change-item.result c.loop-change-test.true c.change-item.is) c.in-Some.ensures.items (ap (map value_of) c.in-Some-next.ensures.items) in
    on_err c.from_residual.result
    (writes_fail g.D.Disk.meaning c.args.txn c.args.log.now c.loop-change.log c.write_one.new.log c.args.trees.now c.loop-change.trees changes (drop (i + 1) changes) c.change-item.result
    c.args.rooms.items (c.in-Some.room ∷ c.next.new.self.rest.items) (c.in-Some-next.write.value ∷ map value_of c.next-in-loop-change.new.self.rest.items) c.loop-change.first turn c.in_err-at.ensures.tried)

pub returns-in_err-at-clause-trees : goal.returns-in_err-at-clause-trees
returns-in_err-at-clause-trees g c = λ d. c.write_one.ensures.trees d ∙ c.loop-change.invariant.same d

pub returns-in_err-at-clause-rising : goal.returns-in_err-at-clause-rising
returns-in_err-at-clause-rising g c = λ d up. c.write_one.ensures.rising d (c.loop-change.invariant.rising d up)

pub returns-clause-grew : goal.returns-clause-grew
returns-clause-grew g c = (all_written g.D.Disk.meaning c.args.txn c.args.log.now c.loop-change.log c.args.trees.now c.loop-change.trees c.args.changes.now c.loop-change.change-index c.args.rooms.items c.loop-change.rooms.rest.items
    (map value_of c.loop-change.writes.rest.items) c.loop-change.first c.loop-change-test.false c.loop-change.invariant).grew

pub returns-clause-left : goal.returns-clause-left
returns-clause-left g c = (all_written g.D.Disk.meaning c.args.txn c.args.log.now c.loop-change.log c.args.trees.now c.loop-change.trees c.args.changes.now c.loop-change.change-index c.args.rooms.items c.loop-change.rooms.rest.items
    (map value_of c.loop-change.writes.rest.items) c.loop-change.first c.loop-change-test.false c.loop-change.invariant).left

pub returns-clause-cells : goal.returns-clause-cells
returns-clause-cells g c = (all_written g.D.Disk.meaning c.args.txn c.args.log.now c.loop-change.log c.args.trees.now c.loop-change.trees c.args.changes.now c.loop-change.change-index c.args.rooms.items c.loop-change.rooms.rest.items
    (map value_of c.loop-change.writes.rest.items) c.loop-change.first c.loop-change-test.false c.loop-change.invariant).cells

pub returns-clause-trees : goal.returns-clause-trees
returns-clause-trees g c = c.loop-change.invariant.same

pub returns-clause-rising : goal.returns-clause-rising
returns-clause-rising g c = c.loop-change.invariant.rising
