use Rattle.std.proofs.Common.{ap}
use Rattle.db_tree.specs.Seen.{occupied, with_change}
use Rattle.db_tree.proofs.Ending.{ok_then}
use Rattle.in_tree.specs.Forest.{cells_seen}
use Rattle.in_tree.proofs.Written.{err_then, change_since, change_logged_at, entry_tried, if_ok_both}
use Rattle.in_tree.proofs.writing.write_one.Goals as goal

pub returns-in-Ok-clause-grew : goal.returns-in-Ok-clause-grew
returns-in-Ok-clause-grew g c =
    if_ok_both c.write_entry.result
    (λ at is grew. change_logged_at g.D.Disk.meaning c.args.room.images.items c.args.txn c.args.change.now at c.args.log.now c.log_room.new.log c.write_entry.new.log c.args.trees.now c.log_room.new.trees c.write_entry.new.trees c.in-Ok.ensures.grew is grew)
    c.write_entry.ensures.at c.write_entry.ensures.grew

pub returns-in-Ok-clause-tried : goal.returns-in-Ok-clause-tried
returns-in-Ok-clause-tried g c =
    err_then c.write_entry.result
    (entry_tried g.D.Disk.meaning c.args.room.images.items c.args.txn c.args.change.now c.args.log.now c.log_room.new.log c.write_entry.new.log c.args.trees.now c.log_room.new.trees c.in-Ok.ensures.grew)
    c.write_entry.ensures.tried

pub returns-in-Ok-clause-cells : goal.returns-in-Ok-clause-cells
returns-in-Ok-clause-cells g c =
    ok_then c.write_entry.result
    (λ has. (
      has.0,
      change_since (cells_seen c.args.trees.now) (cells_seen c.log_room.new.trees) (cells_seen c.write_entry.new.trees) c.args.change.now.db c.args.change.now.name (with_change (record { txn = c.args.txn; at = has.0; value = c.args.change.now.value }))
          (λ d. ap occupied (c.log_room.ensures.cells d)) has.1,
    ))
    c.write_entry.ensures.cells
