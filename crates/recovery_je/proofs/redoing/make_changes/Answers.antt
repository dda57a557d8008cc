use Rattle.std.proofs.Common.{◌<◌, ◌∙◌, List, ap, reverse}
use Rattle.std.proofs.lemmas.List.{reverse-reverse}
use Rattle.log_trees.specs.Changes.{LoggedChange}
use Rattle.record_map.specs.Cells.{value_at}
use Rattle.recovery_je.specs.Putting.{IsLogged, first_lsn}
use Rattle.recovery_je.specs.Redoing.{stored_after}
use Rattle.recovery_je.proofs.FitLaws.{changes_begin, changes_more}
use Rattle.recovery_je.proofs.RedoingLaws.{last_is_first, changes_go_on}
use Rattle.recovery_je.proofs.redoing.make_changes.Goals as goal

pub loop-change-init : goal.loop-change-init
loop-change-init g c =
    let is = ap reverse c.reverse.ensures.items ∙ reverse-reverse c.into_vec-left.result.items ∙ c.into_vec-left.ensures in record {
      made = λ d x. ap (λ (l : List LoggedChange). stored_after d x l (value_at x (g.T.Loads.stored c.args.trees.now d))) is;
      fits = λ es base small all fit. changes_begin es base c.args.changes (reverse c.reverse.new.self.items) c.first_of-first.result is (c.first_of-first.ensures ∙ ap first_lsn c.as_slice.ensures) (g.T.Loads.fits c.args.trees.now es base) all fit;
    }

pub loop-change-preserved : goal.loop-change-preserved
loop-change-preserved g c =
    let is = last_is_first c.loop-change.left.items c.pop.new.self.items c.give_back.new.left.items c.in-Some.change c.in-Some.ensures.items c.give_back.ensures in record {
      made = λ d x.
          changes_go_on d x (g.T.Loads.stored c.loop-change.trees) (g.T.Loads.stored c.make_change.new.trees) (reverse c.loop-change.left.items) (reverse c.give_back.new.left.items) c.in-Some.change
          (stored_after d x c.args.changes (value_at x (g.T.Loads.stored c.args.trees.now d))) c.in_ok-make_change.ensures.made is (c.loop-change.invariant.made d x);
      fits = λ es base small all fit. changes_more (g.T.Loads.fits c.loop-change.trees es base) (g.T.Loads.fits c.make_change.new.trees es base) (IsLogged es base) (λ (k : LoggedChange). c.first_of-first.result < base)
          (reverse c.loop-change.left.items) (reverse c.give_back.new.left.items) c.in-Some.change is (c.in_ok-make_change.ensures.fits es base small) (c.loop-change.invariant.fits es base small all fit);
    }
