use Rattle.std.proofs.Common.{◌∙◌, ap, ap₂, map, List}
use Rattle.store_model.specs.Store.{Pair}
use Rattle.store_model.specs.declared.kind.Kind.TheVariants.{Plain, Dup}
use Rattle.record_tree.specs.Stored.{values_of, lent}
use Rattle.secondary.specs.Pairs.{keyed_pairs, pairs_in}
use Rattle.log_replay.specs.Rows.{Row, pair_of}
use Rattle.log_replay.specs.Indexed.{are_same_pairs}
use Rattle.recovery_je.proofs.MeaningLaws.{values_rise}
use Rattle.log_replay.proofs.PlanViews.{rising_pairs}
use Rattle.recovery_je.proofs.indexes.has_pairs_of.Goals as goal

pub returns : goal.returns
returns g c =
    let stored = g.T.Loads.stored c.args.trees.now in
    let primary = values_of (stored c.args.primary) in
    let lent_are = ap lent c.deref.ensures.value ∙ c.in_ok-records.ensures.records in
    let sorted = c.sort_pairs.ensures c.args.extract.now (map (pair_of Plain) primary) (rising_pairs Plain primary c.requires (values_rise (stored c.args.primary) (c.in_ok-records.ensures.rising c.args.primary)))
    (c.in_ok-pairs.ensures ∙ ap (λ (l : List Row). keyed_pairs c.args.extract.now (map (pair_of Plain) l)) lent_are) in
    c.are_pairs.ensures
    ∙ ap₂ (λ (own : List Row) (pairs : List Pair). are_same_pairs (map (pair_of Dup) own) pairs) (ap lent c.deref-2.ensures.value ∙ c.in_ok-records-2.ensures.records)
    (ap pairs_in c.deref-3.ensures.value ∙ sorted)
