use Rattle.std.proofs.Common.{◌∙◌, refl, ap, reverse}
use Rattle.std.proofs.lemmas.List.{reverse-reverse}
use Rattle.log_trees.specs.Placed.{Placed}
use Rattle.recovery_je.specs.LogRead.{entries_of_files}
use Rattle.recovery_je.specs.Putting.{IsIn, FitsRedo}
use Rattle.recovery_je.proofs.FitLaws.{entries_begin, part_more}
use Rattle.recovery_je.proofs.RedoingLaws.{last_is_first, taking_begins, taking_part}
use Rattle.recovery_je.proofs.redoing.take_files.Goals as goal

pub loop-file-init : goal.loop-file-init
loop-file-init g c =
    let is = ap entries_of_files (ap reverse c.reverse.ensures.items ∙ reverse-reverse c.args.files.items) in record {
      redo = taking_begins c.args.redo (entries_of_files c.args.files.items) (entries_of_files (reverse c.reverse.new.self.items)) (g.T.Loads.stored c.args.going.now.trees) c.args.going.now.waiting is;
      fits = λ es base small all fit. entries_begin (IsIn es base) (entries_of_files c.args.files.items) (entries_of_files (reverse c.reverse.new.self.items)) is _ all fit;
    }

pub loop-file-preserved : goal.loop-file-preserved
loop-file-preserved g c =
    let is = ap entries_of_files (last_is_first c.loop-file.left.items c.pop.new.self.items c.pop.new.self.items c.in-Some.file c.in-Some.ensures.items refl) in record {
      redo =
          taking_part c.args.redo (entries_of_files c.args.files.items) (entries_of_files (reverse c.loop-file.left.items)) (entries_of_files (reverse c.pop.new.self.items)) c.in-Some.file.1
          (g.T.Loads.stored c.args.going.now.trees) c.args.going.now.waiting (g.T.Loads.stored c.loop-file.going.trees) c.loop-file.going.waiting
          (g.T.Loads.stored c.take_file.new.going.trees) c.take_file.new.going.waiting is c.in_ok-take_file.ensures.redo c.loop-file.invariant.redo;
      fits = λ es base small all fit. part_more (FitsRedo g.T.Loads.fits es base c.loop-file.going.trees c.loop-file.going.waiting) (FitsRedo g.T.Loads.fits es base c.take_file.new.going.trees c.take_file.new.going.waiting)
          (IsIn es base) (λ (p : Placed). Unit {0}) (entries_of_files (reverse c.loop-file.left.items)) (entries_of_files (reverse c.pop.new.self.items)) c.in-Some.file.1 is
          (λ at. c.in_ok-take_file.ensures.fits es base small at) (c.loop-file.invariant.fits es base small all fit);
    }
