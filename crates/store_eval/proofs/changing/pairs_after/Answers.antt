use Rattle.std.proofs.Common.{rules, ◌∙◌, true, ap}
use Rattle.store_model.specs.Store.{Pair, all_pairs_changed}
use Rattle.store_eval.proofs.Kept.{all_kept}
use Rattle.store_eval.proofs.changing.pairs_after.Goals as goal

pub loop-change-init : goal.loop-change-init
loop-change-init c =
    ap (all_pairs_changed c.args.kind c.args.changes.now) (c.in_ok-now.ensures (λ (p : Pair). true) (λ x b h. search rules) ∙ all_kept c.args.pairs.now)
