use Rattle.std.proofs.Common.{◌+◌, refl, ap, drop}
use Rattle.std.proofs.Math.ListN.{drop_of_length-le}
use Rattle.log_trees.specs.Placed.{Placed}
use Rattle.recovery_je.specs.LogRead.{entries_of_files}
use Rattle.recovery_je.specs.Putting.{IsIn, FitsRedo}
use Rattle.recovery_je.proofs.EntryPlaces.{next_item}
use Rattle.recovery_je.proofs.FitLaws.{entries_begin, part_more}
use Rattle.recovery_je.proofs.RedoingLaws.{taking_begins, taking_part, taking_ends}
use Rattle.recovery_je.proofs.redoing.take_lent.Goals as goal

pub loop-file-init : goal.loop-file-init
loop-file-init g c = record {
  redo = taking_begins c.args.redo (entries_of_files c.args.files.now) (entries_of_files c.args.files.now) (g.T.Loads.stored c.args.going.now.trees) c.args.going.now.waiting refl;
  fits = λ es base small all fit. entries_begin (IsIn es base) (entries_of_files c.args.files.now) (entries_of_files c.args.files.now) refl _ all fit;
}

pub loop-file-preserved : goal.loop-file-preserved
loop-file-preserved g c =
    let files = c.args.files.now in
    let i = c.loop-file.file-index in
    let is = ap entries_of_files (next_item files i c.file-item.result c.loop-file-test.true c.file-item.is) in record {
      redo =
          taking_part c.args.redo (entries_of_files files) (entries_of_files (drop i files)) (entries_of_files (drop (i + 1) files)) c.file-item.result.1
          (g.T.Loads.stored c.args.going.now.trees) c.args.going.now.waiting (g.T.Loads.stored c.loop-file.going.trees) c.loop-file.going.waiting
          (g.T.Loads.stored c.take_file.new.going.trees) c.take_file.new.going.waiting is c.in_ok-take_file.ensures.redo c.loop-file.invariant.redo;
      fits = λ es base small all fit. part_more (FitsRedo g.T.Loads.fits es base c.loop-file.going.trees c.loop-file.going.waiting) (FitsRedo g.T.Loads.fits es base c.take_file.new.going.trees c.take_file.new.going.waiting)
          (IsIn es base) (λ (p : Placed). Unit {0}) (entries_of_files (drop i files)) (entries_of_files (drop (i + 1) files)) c.file-item.result.1 is
          (λ at. c.in_ok-take_file.ensures.fits es base small at) (c.loop-file.invariant.fits es base small all fit);
    }

pub returns-clause-redo : goal.returns-clause-redo
returns-clause-redo g c r at =
    let files = c.args.files.now in
    taking_ends c.args.redo (entries_of_files files) (entries_of_files (drop c.loop-file.file-index files)) (g.T.Loads.stored c.args.going.now.trees) c.args.going.now.waiting
    (g.T.Loads.stored c.loop-file.going.trees) c.loop-file.going.waiting (ap entries_of_files (drop_of_length-le files c.loop-file-test.false)) c.loop-file.invariant.redo r at

pub returns-clause-fits : goal.returns-clause-fits
returns-clause-fits g c es base small all fit = (c.loop-file.invariant.fits es base small all fit).fit
