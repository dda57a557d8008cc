use Rattle.std.proofs.Common.{[], ◌∷◌, ℕ, ap, is_some, sym}
use Rattle.db_tree.proofs.Ending.{ok_then}
use Rattle.in_tree.proofs.DueLogging.{room_logged}
use Rattle.in_tree.proofs.NotedTrees.{alone_clean, tree_notes}
use Rattle.in_tree.proofs.Waits.{tree_waits_less}
use Rattle.in_tree.proofs.logging_checkpoints.log_alone.Goals as goal

pub returns-clause-clean : goal.returns-clause-clean
returns-clause-clean g c =
    alone_clean c.log_image.result c.args.trees.now (c.get_mut.follows.lender c.log_image.new.tree) c.args.db c.in-Some.tree.now c.log_image.new.tree c.args.place.now c.args.image c.requires.own c.requires.alone c.in-Some.ensures.value
    ((c.get_mut.follows.holds c.log_image.new.tree).3 (sym (ap is_some c.in-Some.ensures.value))).0 c.log_image.ensures.clean

pub returns-clause-noted : goal.returns-clause-noted
returns-clause-noted g c =
    tree_notes c.args.trees.now (c.get_mut.follows.lender c.log_image.new.tree) c.args.db c.in-Some.tree.now c.log_image.new.tree c.in-Some.ensures.value
    ((c.get_mut.follows.holds c.log_image.new.tree).3 (sym (ap is_some c.in-Some.ensures.value))).0 c.log_image.ensures.notes

pub returns-clause-waits : goal.returns-clause-waits
returns-clause-waits g c =
    tree_waits_less c.args.trees.now (c.get_mut.follows.lender c.log_image.new.tree) c.args.db c.in-Some.tree.now c.log_image.new.tree c.in-Some.ensures.value
    ((c.get_mut.follows.holds c.log_image.new.tree).3 (sym (ap is_some c.in-Some.ensures.value))).0 c.ranges.db.fits c.log_image.ensures.waits

pub returns-clause-grew : goal.returns-clause-grew
returns-clause-grew g c =
    ok_then c.log_image.result
    (λ grew. (
      grew.0 ∷ [],
      (grew.1, tt),
      ap (λ (n : ℕ). n ∷ []) grew.2,
      room_logged g.D.Disk.meaning c.args.log.now c.log_image.new.log c.args.trees.now (c.get_mut.follows.lender c.log_image.new.tree) c.args.db c.in-Some.tree.now c.log_image.new.tree (c.args.image ∷ []) (grew.0 ∷ [])
          c.in-Some.ensures.value ((c.get_mut.follows.holds c.log_image.new.tree).3 (sym (ap is_some c.in-Some.ensures.value))).0 c.log_image.ensures.cells (grew.1, tt) grew.3,
    ))
    c.log_image.ensures.grew
