use Rattle.std.proofs.Common.{◌∙◌, ◌+◌, drop, get_or}
use Rattle.std.proofs.Math.ListN.{drop_of_length-le}
use Rattle.recovery_je.proofs.FinishLaws.{number_at, making_goes_on, making_ends}
use Rattle.recovery_je.proofs.finishing.make_missing.Goals as goal

pub loop-number-preserved : goal.loop-number-preserved
loop-number-preserved g c =
    let before = c.loop-number.invariant in
    let made = c.in_ok-ensure_tree.ensures in
    let numbers = c.args.numbers.now in
    record {
      making =
          making_goes_on numbers (drop c.loop-number.number-index numbers) (drop (c.loop-number.number-index + 1) numbers) (get_or numbers c.loop-number.number-index 0)
          (g.T.Loads.has_tree c.loop-number.trees) (g.T.Loads.has_tree c.ensure_tree.new.trees) (number_at numbers c.loop-number.number-index c.loop-number-test.true) made.here made.others before.making;
      same = λ d. made.stored d ∙ before.same d;
      fits = λ es base fit. made.fits es base (before.fits es base fit);
      others = λ d there. made.others d (before.others d there);
    }

pub returns-clause-there : goal.returns-clause-there
returns-clause-there g c =
    making_ends c.args.numbers.now (drop c.loop-number.number-index c.args.numbers.now) (g.T.Loads.has_tree c.loop-number.trees)
    (drop_of_length-le c.args.numbers.now c.loop-number-test.false) c.loop-number.invariant.making
