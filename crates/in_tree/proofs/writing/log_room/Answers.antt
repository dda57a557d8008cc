use Rattle.std.proofs.Common.{ap, is_some, sym}
use Rattle.db_tree.proofs.Ending.{ok_then}
use Rattle.in_tree.proofs.DueLogging.{room_logged}
use Rattle.in_tree.proofs.Waits.{tree_waits_less}
use Rattle.in_tree.proofs.writing.log_room.Goals as goal

pub returns-clause-waits : goal.returns-clause-waits
returns-clause-waits g c =
    tree_waits_less c.args.trees.now (c.get_mut.follows.lender c.log_images.new.tree) c.args.db c.in-Some.tree.now c.log_images.new.tree c.in-Some.ensures.value
    ((c.get_mut.follows.holds c.log_images.new.tree).3 (sym (ap is_some c.in-Some.ensures.value))).0 c.ranges.db.fits c.log_images.ensures.waits

pub returns-clause-grew : goal.returns-clause-grew
returns-clause-grew g c =
    ok_then c.log_images.result
    (λ grew. (
      grew.0,
      grew.1,
      grew.2,
      room_logged g.D.Disk.meaning c.args.log.now c.log_images.new.log c.args.trees.now (c.get_mut.follows.lender c.log_images.new.tree) c.args.db c.in-Some.tree.now c.log_images.new.tree c.args.room.images.items grew.0
          c.in-Some.ensures.value ((c.get_mut.follows.holds c.log_images.new.tree).3 (sym (ap is_some c.in-Some.ensures.value))).0 c.log_images.ensures.cells grew.1 grew.3,
    ))
    c.log_images.ensures.grew
