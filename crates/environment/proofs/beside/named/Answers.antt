use Rattle.std.proofs.Common.{◌∙◌, ℕ, List, Option, Some, option_map, refl, ap, sym}
use Rattle.environment.specs.Beside.{Beside, name_in}
use Rattle.environment.proofs.beside.named.Goals as goal

pub returns : goal.returns
returns c =
    ap (λ (o : Option (List ℕ)). let b : Beside = (c.args.number, (o, c.args.kind)) in b)
    (ap Some c.in_ok-name.ensures ∙ ap (option_map (λ (n : _). n.now)) (sym c.in-Some.is) ∙ c.name.ensures (name_in c.args.names.now) (λ n. refl))
