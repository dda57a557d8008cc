use Rattle.std.proofs.Common.{◌∙◌, ap, sym, Option, Err, cond, ℕ}
use Rattle.node_core.specs.declared.node.Node.{Node}
use Rattle.log_replay.specs.declared.corruption.Corruption.TheVariants.{Tree}
use Rattle.log_trees.specs.Walk.{is_bin_of, delta_by}
use Rattle.recovery_je.proofs.images.delta_with.Goals as goal

pub returns-in-Some : goal.returns-in-Some
returns-in-Some c =
    ap (λ (o : Option Node). delta_by o (Tree (cond (is_bin_of c.args.db c.args.number c.args.base.now) c.args.at c.args.full))) (sym c.in_ok-node.ensures.both ∙ c.in-Some.is)

pub returns-in-None : goal.returns-in-None
returns-in-None c =
    ap (λ (o : Option Node). delta_by o (Tree (cond (is_bin_of c.args.db c.args.number c.args.base.now) c.args.at c.args.full))) (sym c.in_ok-node.ensures.both ∙ c.in-None.is)
    ∙ ap (λ (n : ℕ). Err (Tree n)) (sym c.wrong_delta-wrong.ensures)
