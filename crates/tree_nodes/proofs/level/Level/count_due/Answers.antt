use Rattle.std.proofs.Common.{◌∙◌, ap, sym}
use Rattle.tree_nodes.specs.Nodes.{NodeRow}
use Rattle.tree_nodes.specs.Noted.{count_due}
use Rattle.tree_nodes.proofs.DuePlaces.{count_is}
use Rattle.tree_nodes.proofs.level.Level.count_due.Goals as goal

pub returns : goal.returns
returns c =
    c.count.ensures ∙ sym (count_is c.self.inside.lows.entries c.self.inside.nodes.items c.self.inside.names.items c.self.inside.due c.self.invariant) ∙ ap (λ (row : NodeRow). count_due row) c.self.view_is
