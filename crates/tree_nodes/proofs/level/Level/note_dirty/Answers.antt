use Rattle.std.proofs.Common.{◌∙◌, ◌<◌, ℕ, List, ap, length, subst, sym}
use Rattle.std.specs.List.{AllByRecursion}
use Rattle.std.specs.Vec.{with_items}
use Rattle.std.proofs.lemmas.List.{with_items_is}
use Rattle.je_order.specs.declared.name.Name.{Name}
use Rattle.tree_nodes.specs.declared.node.Node.{Node}
use Rattle.tree_nodes.specs.Nodes.{is_dirty, placed}
use Rattle.tree_nodes.specs.Noted.{noted_row}
use Rattle.tree_nodes.proofs.Places.{rising_placed}
use Rattle.tree_nodes.proofs.level.Level.note_dirty.Goals as goal

pub returns-clause-noted : goal.returns-clause-noted
returns-clause-noted c =
    ap (placed c.self.inside.lows.entries) (with_items_is c.self.inside.nodes c.note_each.new.nodes (c.note_each.ensures.size ∙ ap length c.as_mut_slice.ensures.value ∙ sym c.self.inside.nodes.ok.0))
    ∙ c.note_each.ensures.noted c.self.inside.lows.entries
    (subst (λ (nodes : List Node). AllByRecursion (λ (e : Name × ℕ). e.1 < length nodes) c.self.inside.lows.entries) (sym c.as_mut_slice.ensures.value) c.self.invariant.places.each)
    ∙ ap (λ (nodes : List Node). noted_row (λ e. is_dirty e.1) (placed c.self.inside.lows.entries nodes)) c.as_mut_slice.ensures.value
    ∙ ap (noted_row (λ e. is_dirty e.1)) c.self.view_is

pub returns-clause-rising : goal.returns-clause-rising
returns-clause-rising c = rising_placed c.self.inside.lows.entries (with_items c.self.inside.nodes c.note_each.new.nodes).items c.self.invariant.places.rising
