use Rattle.std.proofs.Common.{◌∙◌, ◌==◌, ap, sym, List, ℕ}
use Rattle.std.proofs.lemmas.List.{nil_from_length}
use Rattle.std.specs.List.{list_any}
use Rattle.std.specs.Vec.Iter.{into_iter_items}
use Rattle.recovery_je.proofs.FinishLaws.{dropping_begins, dropping_goes_on, dropping_ends}
use Rattle.recovery_je.proofs.finishing.drop_others.Goals as goal

pub loop-db-init : goal.loop-db-init
loop-db-init g c = record {
  fits = λ es base fit. fit;
  dropping =
      dropping_begins c.args.numbers.now _ (g.T.Loads.has_tree c.args.trees.now) (g.T.Loads.stored c.args.trees.now)
      (λ d. c.in_ok-db-items.ensures d ∙ ap (λ (l : List ℕ). list_any (λ n. n == d) l) (sym c.into_iter-db-iterator.ensures.into_iter_gives.0));
}

pub loop-db-preserved : goal.loop-db-preserved
loop-db-preserved g c = record {
  fits = λ es base fit. c.drop_unnamed.ensures.fits es base (c.loop-db.invariant.fits es base fit);
  dropping =
      dropping_goes_on c.args.numbers.now (into_iter_items c.loop-db.db-iterator) (into_iter_items c.next.new.self) c.in-Some.db (g.T.Loads.has_tree c.args.trees.now) (g.T.Loads.has_tree c.loop-db.trees)
      (g.T.Loads.has_tree c.drop_unnamed.new.trees) (g.T.Loads.stored c.args.trees.now) (g.T.Loads.stored c.loop-db.trees) (g.T.Loads.stored c.drop_unnamed.new.trees) c.in-Some.ensures.steps.0
      c.drop_unnamed.ensures.dropped c.loop-db.invariant.dropping;
}

pub returns-clause-finished : goal.returns-clause-finished
returns-clause-finished g c =
    dropping_ends c.args.numbers.now (into_iter_items c.loop-db.db-iterator) (g.T.Loads.has_tree c.args.trees.now) (g.T.Loads.has_tree c.loop-db.trees) (g.T.Loads.stored c.args.trees.now) (g.T.Loads.stored c.loop-db.trees)
    (nil_from_length (into_iter_items c.loop-db.db-iterator) (sym c.loop-db.db-iterator.rest.ok.0 ∙ c.in-None.ensures.steps.0)) c.requires.catalog c.requires.there
    (g.met.T.Loads.none_stored c.loop-db.trees) c.loop-db.invariant.dropping
