use Rattle.std.proofs.Common.{◌+◌, ◌++◌, List, [], ◌∷◌, Vec, drop, map, refl, subst}
use Rattle.std.specs.Global.{Global}
use Rattle.std.specs.List.{AllByRecursion}
use Rattle.log_entry.specs.Body.{IsEntry}
use Rattle.log_entry.specs.Encoding.{size_of}
use Rattle.log_entry.specs.declared.entry.Entry.{Entry}
use Rattle.record_tree.specs.declared.tree_change.TreeChange.{TreeChange}
use Rattle.record_tree.specs.Logged.{entry_for}
use Rattle.db_tree.proofs.Ending.{next_left}
use Rattle.db_tree.specs.NodeImages.{IsLoggable}
use Rattle.in_tree.specs.Filled.{entries_with}
use Rattle.in_tree.proofs.FillLogged.{all_rest, front_more, logs_fail, logs_more, logs_turn, room_of_change, room_parts}
use Rattle.in_tree.proofs.Written.{on_err}
use Rattle.in_tree.proofs.making_new.log_rows.Goals as goal

pub log_entries-requires-clause-room : goal.log_entries-requires-clause-room
log_entries-requires-clause-room g c =
    let i = c.loop-i.i in
    let row = c.index-rows-i.result in
    let all = entries_with c.args.txn c.args.rows.now c.args.images.now in
    let rest = entries_with c.args.txn (drop (i + 1) c.args.rows.now) (drop (i + 1) c.args.images.now) in
    let entry = entry_for c.args.txn row.db row.name row.value in
    let turn =
    logs_turn g.D.Disk.meaning c.args.log.now c.loop-i.log c.args.txn c.args.rows.now c.args.images.now i c.index-rows-i.result c.index-images-i.result c.as_slice.result.now c.loop-i-test.true c.index-rows-i.is
    c.requires.paired c.index-images-i.is c.as_slice.ensures.value c.loop-i.invariant.logs in
    (map size_of (entry ∷ rest) ++ turn.some_room.0, room_parts c.loop-i.log c.as_slice.result.now (entry ∷ rest) turn.some_room.0 turn.some_room.1)

pub returns-in_err-log_entries-clause-tried : goal.returns-in_err-log_entries-clause-tried
returns-in_err-log_entries-clause-tried g c =
    let i = c.loop-i.i in
    let row = c.index-rows-i.result in
    let all = entries_with c.args.txn c.args.rows.now c.args.images.now in
    let rest = entries_with c.args.txn (drop (i + 1) c.args.rows.now) (drop (i + 1) c.args.images.now) in
    let entry = entry_for c.args.txn row.db row.name row.value in
    let turn =
    logs_turn g.D.Disk.meaning c.args.log.now c.loop-i.log c.args.txn c.args.rows.now c.args.images.now i c.index-rows-i.result c.index-images-i.result c.as_slice.result.now c.loop-i-test.true c.index-rows-i.is
    c.requires.paired c.index-images-i.is c.as_slice.ensures.value c.loop-i.invariant.logs in
    let tried = c.in_err-log_entries.ensures.tried in
    on_err c.from_residual.result
    (logs_fail g.D.Disk.meaning c.args.log.now c.loop-i.log c.log_entries.new.log all (c.as_slice.result.now ++ entry ∷ rest) tried.0 turn (front_more tried.0 c.as_slice.result.now (entry ∷ rest) tried.1) tried.2)

pub log_one-requires-clause-room : goal.log_one-requires-clause-room
log_one-requires-clause-room g c =
    let i = c.loop-i.i in
    let row = c.index-rows-i.result in
    let all = entries_with c.args.txn c.args.rows.now c.args.images.now in
    let rest = entries_with c.args.txn (drop (i + 1) c.args.rows.now) (drop (i + 1) c.args.images.now) in
    let entry = entry_for c.args.txn row.db row.name row.value in
    let turn =
    logs_turn g.D.Disk.meaning c.args.log.now c.loop-i.log c.args.txn c.args.rows.now c.args.images.now i c.index-rows-i.result c.index-images-i.result c.as_slice.result.now c.loop-i-test.true c.index-rows-i.is
    c.requires.paired c.index-images-i.is c.as_slice.ensures.value c.loop-i.invariant.logs in
    let next = logs_more g.D.Disk.meaning c.args.log.now c.loop-i.log c.log_entries.new.log all c.as_slice.result.now (entry ∷ rest) turn c.in_ok-log_entries.ensures.grew c.in_ok-log_entries.ensures.left in
    (map size_of rest ++ next.some_room.0, room_of_change c.log_entries.new.log c.args.txn row (map size_of rest ++ next.some_room.0) next.some_room.1)

pub returns-in_err-_at-clause-tried : goal.returns-in_err-_at-clause-tried
returns-in_err-_at-clause-tried g c =
    let i = c.loop-i.i in
    let row = c.index-rows-i.result in
    let all = entries_with c.args.txn c.args.rows.now c.args.images.now in
    let rest = entries_with c.args.txn (drop (i + 1) c.args.rows.now) (drop (i + 1) c.args.images.now) in
    let entry = entry_for c.args.txn row.db row.name row.value in
    let turn =
    logs_turn g.D.Disk.meaning c.args.log.now c.loop-i.log c.args.txn c.args.rows.now c.args.images.now i c.index-rows-i.result c.index-images-i.result c.as_slice.result.now c.loop-i-test.true c.index-rows-i.is
    c.requires.paired c.index-images-i.is c.as_slice.ensures.value c.loop-i.invariant.logs in
    let next = logs_more g.D.Disk.meaning c.args.log.now c.loop-i.log c.log_entries.new.log all c.as_slice.result.now (entry ∷ rest) turn c.in_ok-log_entries.ensures.grew c.in_ok-log_entries.ensures.left in
    on_err c.from_residual-in_err-_at.result (logs_fail g.D.Disk.meaning c.args.log.now c.log_entries.new.log c.log_one.new.log all (entry ∷ rest) (entry ∷ []) next (rest, refl) c.in_err-_at.ensures.tried)

pub loop-i-preserved : goal.loop-i-preserved
loop-i-preserved g c =
    let i = c.loop-i.i in
    let row = c.index-rows-i.result in
    let all = entries_with c.args.txn c.args.rows.now c.args.images.now in
    let rest = entries_with c.args.txn (drop (i + 1) c.args.rows.now) (drop (i + 1) c.args.images.now) in
    let entry = entry_for c.args.txn row.db row.name row.value in
    let turn =
    logs_turn g.D.Disk.meaning c.args.log.now c.loop-i.log c.args.txn c.args.rows.now c.args.images.now i c.index-rows-i.result c.index-images-i.result c.as_slice.result.now c.loop-i-test.true c.index-rows-i.is
    c.requires.paired c.index-images-i.is c.as_slice.ensures.value c.loop-i.invariant.logs in
    let next = logs_more g.D.Disk.meaning c.args.log.now c.loop-i.log c.log_entries.new.log all c.as_slice.result.now (entry ∷ rest) turn c.in_ok-log_entries.ensures.grew c.in_ok-log_entries.ensures.left in
    record {
      entries = (subst (λ (l : List TreeChange). AllByRecursion (λ (t : TreeChange). IsEntry (entry_for c.args.txn t.db t.name t.value)) l) (next_left c.args.rows.now i row c.loop-i-test.true c.index-rows-i.is) c.loop-i.invariant.entries).1;
      loggable = all_rest (λ (own : Vec Entry Global). AllByRecursion IsLoggable own.items) c.args.images.now i c.loop-i.invariant.loggable;
      logs = logs_more g.D.Disk.meaning c.args.log.now c.log_entries.new.log c.log_one.new.log all (entry ∷ []) rest next c.in_ok-_at.ensures.grew
          (λ sizes room. c.in_ok-_at.ensures.left sizes (room_of_change c.log_entries.new.log c.args.txn row sizes room));
    }
