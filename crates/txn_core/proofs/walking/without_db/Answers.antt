use Rattle.std.proofs.Common.{◌∙◌, ◌-◌, ℕ, ap, sym}
use Rattle.txn_core.proofs.ReadingLaws.{counted_rows}
use Rattle.txn_core.proofs.walking.without_db.Goals as goal

pub returns : goal.returns
returns g c =
    c.saturating_sub.ensures ∙ ap (λ (n : ℕ). c.args.records - n) (c.count_records.ensures ∙ sym (counted_rows (g.T.Records.cells c.args.trees.now c.args.db)))
