use Rattle.std.proofs.Common.{◌∙◌, ap, sym, length, sum_by}
use Rattle.recovery_je.proofs.MeaningLaws.{settled}
use Rattle.recovery_je.proofs.CheckLaws.{right_rows}
use Rattle.recovery_je.proofs.settling.settle_right.Goals as goal

pub wrong_index-requires : goal.wrong_index-requires
wrong_index-requires g c = right_rows (g.T.Loads.stored c.args.trees) c.requires.right

pub returns-clause-settled : goal.returns-clause-settled
returns-clause-settled g c redo holds =
    let stored = g.T.Loads.stored c.args.trees in
    settled redo (g.T.Loads.has_tree c.finish.new.trees) stored (g.T.Loads.stored c.finish.new.trees) c.of-opening.result c.in_ok-numbers.numbers.items c.len-databases.result c.in_ok-records.records
    holds c.requires.rising c.requires.right
    c.of-opening.ensures c.in_ok-numbers.ensures (c.len-databases.ensures ∙ sym c.deref.ensures.len ∙ ap length c.deref.ensures.value) (c.in_ok-records.ensures ∙ ap (sum_by (λ n. length (stored n))) c.deref.ensures.value) c.in_ok-finish.ensures.finished
