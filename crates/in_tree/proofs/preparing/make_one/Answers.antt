use Rattle.std.proofs.Common.{◌||◌, ◌∙◌, ℕ, Option, ap, sym}
use Rattle.record_tree.specs.Logged.{makes_db}
use Rattle.in_tree.specs.Forest.{is_there}
use Rattle.in_tree.proofs.Preparation.{made_is}
use Rattle.db_tree.proofs.Ending.{ok_then}
use Rattle.in_tree.proofs.preparing.make_one.Goals as goal

pub returns-in-Some-clause-made : goal.returns-in-Some-clause-made
returns-in-Some-clause-made c =
    ok_then c.make.result
    (λ trees d. trees d ∙ made_is d c.in-Some.db (is_there c.args.trees.now d) ∙ ap (λ (o : Option ℕ). makes_db d o || is_there c.args.trees.now d) (sym c.in-Some.is))
    c.make.ensures.trees
