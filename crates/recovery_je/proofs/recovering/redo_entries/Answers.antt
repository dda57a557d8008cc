use Rattle.log_meaning.specs.Redo.{nothing_redone}
use Rattle.log_meaning.specs.Checkpoint.{behind}
use Rattle.recovery_je.proofs.MeaningLaws.{redo_begins, redo_ends, same_stored}
use Rattle.recovery_je.proofs.ReadAgain.{all_in, fits_begin}
use Rattle.recovery_je.proofs.recovering.redo_entries.Goals as goal

pub returns-clause-redone : goal.returns-clause-redone
returns-clause-redone g c rows holds =
    let stored = g.T.Loads.stored in
    redo_ends rows c.args.redo c.args.entries.now (stored c.take_all.new.going.trees) c.take_all.new.going.waiting
    (c.in_ok-take_all.ensures.redo (behind rows nothing_redone) (redo_begins rows (stored c.ensure_tree.new.trees) c.new.result
    (same_stored rows (stored c.args.trees) (stored c.ensure_tree.new.trees) c.in_ok-ensure_tree.ensures.stored holds) c.new.ensures))

pub returns-clause-fits : goal.returns-clause-fits
returns-clause-fits g c base small below fit =
    let es = c.args.entries.now in
    (c.in_ok-take_all.ensures.fits es base small (all_in base es c.requires.order below)
    (fits_begin g.T.Loads.fits es base c.ensure_tree.new.trees c.new.result c.new.ensures (c.in_ok-ensure_tree.ensures.fits es base fit))).fit
