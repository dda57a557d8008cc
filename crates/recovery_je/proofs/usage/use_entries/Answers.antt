use Rattle.recovery_je.proofs.AnswerLaws.{ok_weaker}
use Rattle.recovery_je.proofs.UseLaws.{uses_same}
use Rattle.recovery_je.proofs.usage.use_entries.Goals as goal

pub returns : goal.returns
returns g c redo trees =
    ok_weaker _ _ c.count_live-uses.result
    (λ uses is. uses_same redo (g.T.Loads.has_tree c.args.trees.now) (g.T.Loads.stored c.args.trees.now) c.args.entries.now c.args.roots.now c.in_ok-images.images.keys c.args.lens.now uses trees c.in_ok-images.ensures is)
    c.count_live-uses.ensures
