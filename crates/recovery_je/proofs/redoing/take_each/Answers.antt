use Rattle.std.proofs.Common.{◌+◌, refl, get_or, drop}
use Rattle.std.proofs.Math.ListN.{drop_of_length-le}
use Rattle.log_trees.specs.Placed.{Placed}
use Rattle.log_replay.specs.Reading.{lsn_at}
use Rattle.recovery_je.specs.Putting.{IsIn, FitsRedo}
use Rattle.recovery_je.proofs.EntryPlaces.{offset_at, first_at, none_at}
use Rattle.recovery_je.proofs.FitLaws.{entries_begin, changes_more}
use Rattle.recovery_je.proofs.RedoingLaws.{taking_begins, taking_goes_on, taking_ends}
use Rattle.recovery_je.proofs.redoing.take_each.Goals as goal

pub loop-at-init : goal.loop-at-init
loop-at-init g c all standing = record {
  left = all;
  standing = standing;
  redo = taking_begins c.args.redo all all (g.T.Loads.stored c.args.going.now.trees) c.args.going.now.waiting refl;
  fits = λ es base small each fit. entries_begin (IsIn es base) all all refl _ each fit;
}

pub loop-at-preserved : goal.loop-at-preserved
loop-at-preserved g c all standing =
    let so = c.loop-at.invariant all standing in
    let i = c.loop-at.at-index in
    let first = first_at c.args.number.0 c.args.bytes.now (drop i c.args.offsets.now) (get_or c.args.offsets.now i 0) (drop (i + 1) c.args.offsets.now) so.left (offset_at c.args.offsets.now i c.loop-at-test.true) so.standing in
    let p : Placed = (lsn_at c.args.number.0 (get_or c.args.offsets.now i 0), first.entry) in
    record {
      left = first.more;
      standing = first.standing;
      redo =
          taking_goes_on c.args.redo all so.left first.more p (g.T.Loads.stored c.args.going.now.trees) c.args.going.now.waiting (g.T.Loads.stored c.loop-at.going.trees) c.loop-at.going.waiting
          (g.T.Loads.stored c.take_at.new.going.trees) c.take_at.new.going.waiting first.is (λ r at. c.in_ok-take_at.ensures.redo first.entry r first.has at) so.redo;
      fits = λ es base small each fit. changes_more (FitsRedo g.T.Loads.fits es base c.loop-at.going.trees c.loop-at.going.waiting) (FitsRedo g.T.Loads.fits es base c.take_at.new.going.trees c.take_at.new.going.waiting)
          (IsIn es base) (λ (q : Placed). Unit {0}) so.left first.more p first.is (λ ok at. c.in_ok-take_at.ensures.fits first.entry es base first.has small at) (so.fits es base small each fit);
    }

pub take_at-requires : goal.take_at-requires
take_at-requires g c =
    let so = c.loop-at.invariant c.requires.0 c.requires.1 in
    let i = c.loop-at.at-index in
    let first = first_at c.args.number.0 c.args.bytes.now (drop i c.args.offsets.now) (get_or c.args.offsets.now i 0) (drop (i + 1) c.args.offsets.now) so.left (offset_at c.args.offsets.now i c.loop-at-test.true) so.standing in
    (first.entry, first.has)

pub returns-clause-redo : goal.returns-clause-redo
returns-clause-redo g c all r standing at =
    let so = c.loop-at.invariant all standing in
    let none = none_at c.args.number.0 c.args.bytes.now (drop c.loop-at.at-index c.args.offsets.now) so.left (drop_of_length-le c.args.offsets.now c.loop-at-test.false) so.standing in
    taking_ends c.args.redo all so.left (g.T.Loads.stored c.args.going.now.trees) c.args.going.now.waiting (g.T.Loads.stored c.loop-at.going.trees) c.loop-at.going.waiting none so.redo r at

pub returns-clause-fits : goal.returns-clause-fits
returns-clause-fits g c all es base standing small each fit = ((c.loop-at.invariant all standing).fits es base small each fit).fit
