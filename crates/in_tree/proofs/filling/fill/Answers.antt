use Rattle.std.proofs.Common.{drop, ◌+◌, refl}
use Rattle.in_tree.proofs.FillRows.{rows_start, rows_turn, rows_step, rows_high, rows_end}
use Rattle.in_tree.proofs.filling.fill.Goals as goal

pub loop-row-init : goal.loop-row-init
loop-row-init c =
    rows_start c.args.fanout c.args.txn c.args.number c.args.rows.now (record { tree = record { cells = c.in-Ok.tree.cells; levels = c.in-Ok.tree.levels }; last = c.args.number; images = c.new-2.result }) c.args.place c.ranges.number.fits refl
    c.new-2.ensures.items (record { root = c.in-Ok.ensures.root; cells = c.in-Ok.ensures.cells; is_tree = c.in-Ok.ensures.tree }) c.in-Ok.ensures.shape

pub loop-row-preserved : goal.loop-row-preserved
loop-row-preserved c =
    let i = c.loop-row.row-index in
    let rows = c.args.rows.now in
    rows_step c.args.fanout c.args.txn c.args.number rows (drop (i + 1) rows) c.row-item.result c.loop-row.filled c.fill_row.new.filled c.args.place c.loop-row.place c.fill_row.new.place
    (rows_turn c.args.fanout c.args.txn c.args.number rows i c.row-item.result c.loop-row.filled c.args.place c.loop-row.place c.loop-row-test.true c.row-item.is c.loop-row.invariant) c.in-Ok-fill_row.ensures.ok

pub returns-in-Err-clause-high : goal.returns-in-Err-clause-high
returns-in-Err-clause-high c = λ is.
    let i = c.loop-row.row-index in
    let rows = c.args.rows.now in
    rows_high c.args.fanout c.args.txn c.args.number rows (drop (i + 1) rows) c.row-item.result c.loop-row.filled c.args.place c.loop-row.place
    (rows_turn c.args.fanout c.args.txn c.args.number rows i c.row-item.result c.loop-row.filled c.args.place c.loop-row.place c.loop-row-test.true c.row-item.is c.loop-row.invariant) (c.in-Err.ensures.high is)

pub returns-clause-filled : goal.returns-clause-filled
returns-clause-filled c = rows_end c.args.fanout c.args.txn c.args.number c.args.rows.now c.loop-row.row-index c.loop-row.filled c.args.place c.loop-row.place c.loop-row-test.false c.loop-row.invariant
