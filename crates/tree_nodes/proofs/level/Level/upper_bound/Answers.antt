use Rattle.std.proofs.Common.{◌∙◌, ℕ, Option, ap, option_map}
use Rattle.je_order.specs.Edges.Edge.{Behind}
use Rattle.je_order.specs.declared.name.Name.{Name}
use Rattle.tree_nodes.specs.Nodes.{low_behind}
use Rattle.tree_nodes.proofs.Places.{first_low}
use Rattle.tree_nodes.proofs.level.Level.upper_bound.Goals as goal

-- the low of what is found
abbrev low_in : Option (Name × ℕ) → Option Name
low_in o = option_map (λ (e : Name × ℕ). e.0) o

pub returns-in-Some : goal.returns-in-Some
returns-in-Some c =
    ap low_in c.in-Some.ensures ∙ first_low (Behind c.args.low.now) c.self.inside.lows.entries c.self.inside.nodes.items ∙ ap (low_behind c.args.low.now) c.self.view_is

pub returns-in-None : goal.returns-in-None
returns-in-None c =
    ap low_in c.in-None.ensures ∙ first_low (Behind c.args.low.now) c.self.inside.lows.entries c.self.inside.nodes.items ∙ ap (low_behind c.args.low.now) c.self.view_is
