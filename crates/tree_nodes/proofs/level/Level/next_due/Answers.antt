use Rattle.std.proofs.Common.{◌≡◌, ◌<◌, ◌∙◌, ℕ, Some, length, subst, sym}
use Rattle.tree_nodes.specs.declared.node.Node.{Node}
use Rattle.tree_nodes.specs.Nodes.{NodeRow, node_at}
use Rattle.tree_nodes.specs.Noted.{IsNextDue, NoneDue}
use Rattle.tree_nodes.specs.Due.{IsLeastNumber, IsLeastOf, name_in}
use Rattle.tree_nodes.proofs.Places.{read_at}
use Rattle.tree_nodes.proofs.DuePlaces.{least_within, next_is, none_due, read_name}
use Rattle.tree_nodes.proofs.level.Level.next_due.Goals as goal

pub returns-in-Some-index : goal.returns-in-Some-index
returns-in-Some-index c =
    let lows = c.self.inside.lows.entries in
    let nodes = c.self.inside.nodes.items in
    let names = c.self.inside.names.items in
    let place = c.in-Some.place in
    let first : IsLeastNumber c.self.inside.due place = subst (IsLeastOf c.self.inside.due) c.in-Some.is c.least.ensures in
    let within : place < length names = least_within lows nodes names c.self.inside.due place c.self.invariant first in
    let named : name_in names place ≡ Some c.in-Some-index.low = sym (read_name names place c.index.result.now within c.index.ensures) ∙ c.in-Some-index.is in
    let same : c.index-in-Some-index.result.now ≡ node_at nodes place = read_at nodes place c.index-in-Some-index.result.now (subst (λ (n : ℕ). place < n) c.self.invariant.count within) c.index-in-Some-index.ensures in
    subst (λ (n : Node). IsNextDue c.args.self.now (c.in-Some-index.low, n)) (sym same)
    (subst (λ (row : NodeRow). IsNextDue row (c.in-Some-index.low, node_at nodes place)) c.self.view_is (next_is lows nodes names c.self.inside.due place c.in-Some-index.low c.self.invariant first named))

pub returns-in-None : goal.returns-in-None
returns-in-None c =
    subst NoneDue c.self.view_is (none_due c.self.inside.lows.entries c.self.inside.nodes.items c.self.inside.names.items c.self.inside.due c.self.invariant (subst (IsLeastOf c.self.inside.due) c.in-None.is c.least.ensures))
