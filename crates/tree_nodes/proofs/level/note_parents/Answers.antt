use Rattle.std.proofs.Common.{◌≡◌, ◌∙◌, ◌<◌, ◌||◌, ◌∷◌, ℕ, List, IsSome, ap, sym, subst, length}
use Rattle.std.specs.List.{AllByRecursion}
use Rattle.je_order.specs.declared.name.Name.{Name}
use Rattle.record_map.specs.Cells.{value_at}
use Rattle.tree_nodes.specs.declared.node.Node.{Node}
use Rattle.tree_nodes.specs.Nodes.{NodeRow, least, node_at}
use Rattle.tree_nodes.specs.Noted.{is_low_over}
use Rattle.tree_nodes.proofs.Places.{read_at}
use Rattle.tree_nodes.proofs.NoteLaws.{above_begin, above_next, above_passed, noted_there}
use Rattle.tree_nodes.proofs.level.note_parents.Goals as goal

pub loop-low-init : goal.loop-low-init
loop-low-init c = (
  above_begin c.args.lows.now.entries c.into_iter-low-iterator.result c.args.nodes.now c.args.row.now c.into_iter-low-iterator.ensures.into_iter_gives.0,
  c.requires.least,
  c.requires.rising,
  subst (λ (l : List (Name × ℕ)). AllByRecursion (λ (e : Name × ℕ). e.1 < length c.args.nodes.now) l) (sym c.into_iter-low-iterator.ensures.into_iter_gives.0) c.requires.places,
)

pub loop-low-preserved-then-is_noted : goal.loop-low-preserved-then-is_noted
loop-low-preserved-then-is_noted c =
    let places : AllByRecursion (λ (e : Name × ℕ). e.1 < length c.args.nodes.now) ((c.in-Some.low.now, c.in-Some.place.now) ∷ c.next.new.self) =
    subst (λ (l : List (Name × ℕ)). AllByRecursion (λ (e : Name × ℕ). e.1 < length c.args.nodes.now) l) c.in-Some.ensures.steps c.loop-low.invariant.3 in
    let same : c.index-nodes-place.result ≡ node_at c.args.nodes.now c.in-Some.place.now = read_at c.args.nodes.now c.in-Some.place.now c.index-nodes-place.result places.0 c.index-nodes-place.is in (
      above_next c.args.lows.now.entries c.loop-low.low-iterator c.next.new.self c.args.nodes.now c.args.row.now c.loop-low.row c.note_over.new.self (c.in-Some.low.now, c.in-Some.place.now) c.in-Some.ensures.steps
          (ap (λ (n : Node). n.noted) (sym same) ∙ sym c.is_noted.ensures ∙ c.if-is_noted.true) c.note_over.ensures.noted c.loop-low.invariant.0,
      subst (λ (row : NodeRow). IsSome (value_at least row)) (sym c.note_over.ensures.noted) (noted_there (λ e. e.1.noted || is_low_over c.loop-low.row c.in-Some.low.now e.0) c.loop-low.row least c.loop-low.invariant.1),
      c.note_over.ensures.rising,
      places.1,
    )

pub loop-low-preserved : goal.loop-low-preserved
loop-low-preserved c =
    let places : AllByRecursion (λ (e : Name × ℕ). e.1 < length c.args.nodes.now) ((c.in-Some.low.now, c.in-Some.place.now) ∷ c.next.new.self) =
    subst (λ (l : List (Name × ℕ)). AllByRecursion (λ (e : Name × ℕ). e.1 < length c.args.nodes.now) l) c.in-Some.ensures.steps c.loop-low.invariant.3 in
    let same : c.index-nodes-place.result ≡ node_at c.args.nodes.now c.in-Some.place.now = read_at c.args.nodes.now c.in-Some.place.now c.index-nodes-place.result places.0 c.index-nodes-place.is in (
      above_passed c.args.lows.now.entries c.loop-low.low-iterator c.next.new.self c.args.nodes.now c.args.row.now c.loop-low.row (c.in-Some.low.now, c.in-Some.place.now) c.in-Some.ensures.steps
          (ap (λ (n : Node). n.noted) (sym same) ∙ sym c.is_noted.ensures ∙ c.if-is_noted.false) c.loop-low.invariant.0,
      c.loop-low.invariant.1,
      c.loop-low.invariant.2,
      places.1,
    )
