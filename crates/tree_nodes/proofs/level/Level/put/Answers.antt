use Rattle.std.proofs.Common.{◌≡◌, ◌∙◌, ◌++◌, ◌∷◌, [], ℕ, List, None, Some, ap, refl, set, subst, sym, length}
use Rattle.std.specs.BTreeMap.{insert_entry}
use Rattle.std.specs.BTreeSet.{insert_key}
use Rattle.std.specs.Map.{keys_of}
use Rattle.je_order.specs.Order.{name_cmp}
use Rattle.je_order.specs.declared.name.Name.{Name}
use Rattle.record_map.specs.Cells.{value_at}
use Rattle.tree_nodes.specs.declared.node.Node.{Node}
use Rattle.tree_nodes.specs.Nodes.{NodeRow, HasPut, placed}
use Rattle.tree_nodes.specs.Due.{AreDueKept, due_number}
use Rattle.tree_nodes.proofs.DuePlaces.{due_by, due_put, due_same}
use Rattle.tree_nodes.proofs.LowLaws.{lows_placed, keys_inserted}
use Rattle.tree_nodes.proofs.Places.{no_low, puts, puts_places, rising_placed, HasPlace, put_items}
use Rattle.tree_nodes.proofs.level.Level.put.Goals as goal

pub returns-in_err-copy-clause-rising : goal.returns-in_err-copy-clause-rising
returns-in_err-copy-clause-rising c = rising_placed c.self.inside.lows.entries c.room_for.new.nodes.items c.self.invariant.places.rising

pub returns-in_err-insert-clause-rising : goal.returns-in_err-insert-clause-rising
returns-in_err-insert-clause-rising c = rising_placed c.insert.new.self.entries c.room_for.new.nodes.items c.insert.ensures.ordered

pub invariant_of-self : goal.invariant_of-self
invariant_of-self c =
    due_same c.self.inside.lows.entries c.self.inside.lows.entries c.self.inside.nodes.items c.room_for.new.nodes.items c.self.inside.names.items c.room_for.new.names.items c.self.inside.due c.room_for.new.due refl c.room_for.ensures.nodes
    c.room_for.ensures.names c.room_for.ensures.due c.room_for.ensures.longer c.self.invariant

pub invariant_of-self-2 : goal.invariant_of-self-2
invariant_of-self-2 c =
    let lows = c.self.inside.lows.entries in
    let new = c.insert.new.self.entries in
    let nodes = c.room_for.new.nodes.items in
    let names = c.room_for.new.names.items in
    let due = c.room_for.new.due in
    let kept : AreDueKept lows nodes names due =
    due_same lows lows c.self.inside.nodes.items nodes c.self.inside.names.items names c.self.inside.due due refl c.room_for.ensures.nodes c.room_for.ensures.names c.room_for.ensures.due c.room_for.ensures.longer c.self.invariant in
    let has : HasPlace lows new c.args.low (length nodes) = subst (HasPlace lows new c.args.low) (ap length c.as_slice.ensures.value) c.in_ok-insert.ensures.updates.0 in
    let free : value_at c.args.low lows ≡ None = no_low c.args.low lows c.self.inside.nodes.items (subst (λ (row : NodeRow). value_at c.args.low row ≡ None) (sym c.self.view_is) c.requires) in
    due_by new (nodes ++ c.args.node ∷ []) c.push_placed.new.nodes.items (names ++ Some c.args.low ∷ []) c.push_placed.new.names.items (set due (length nodes) (due_number (Some c.args.low) c.args.node)) c.push_placed.new.due c.push_placed.ensures.nodes
    (c.push_placed.ensures.names ∙ ap (λ (x : Name). names ++ Some x ∷ []) c.in_ok-copy.ensures.copy)
    (c.push_placed.ensures.due ∙ ap (λ (x : Name). set due (length nodes) (due_number (Some x) c.args.node)) c.in_ok-copy.ensures.copy)
    (due_put lows new nodes names due c.args.low c.args.node kept c.in_ok-copy.ensures.covers free has
    (puts_places lows new nodes c.args.low c.args.node kept.places has (c.in_ok-insert.ensures.entries ∙ ap (insert_entry name_cmp lows c.args.low) (ap length c.as_slice.ensures.value)) c.insert.ensures.ordered))

pub returns-clause-put : goal.returns-clause-put
returns-clause-put c =
    let made = put_items c.self.inside.nodes.items c.room_for.new.nodes.items c.push_placed.new.nodes.items c.args.node c.room_for.ensures.nodes c.push_placed.ensures.nodes in
    let has : HasPlace c.self.inside.lows.entries c.insert.new.self.entries c.args.low (length c.self.inside.nodes.items) =
    subst (HasPlace c.self.inside.lows.entries c.insert.new.self.entries c.args.low) (ap length (c.as_slice.ensures.value ∙ c.room_for.ensures.nodes)) c.in_ok-insert.ensures.updates.0 in
    subst (λ (row : NodeRow). HasPut row (placed c.insert.new.self.entries c.push_placed.new.nodes.items) c.args.low c.args.node) c.self.view_is
    (subst (λ (nodes : List Node). HasPut (placed c.self.inside.lows.entries c.self.inside.nodes.items) (placed c.insert.new.self.entries nodes) c.args.low c.args.node) (sym made)
    (puts c.self.inside.lows.entries c.insert.new.self.entries c.self.inside.nodes.items c.args.low c.args.node c.self.invariant.places has))

pub returns-clause-rising : goal.returns-clause-rising
returns-clause-rising c = rising_placed c.insert.new.self.entries c.push_placed.new.nodes.items c.insert.ensures.ordered

pub returns-clause-low : goal.returns-clause-low
returns-clause-low c =
    lows_placed c.insert.new.self.entries c.push_placed.new.nodes.items
    ∙ ap (λ (lows : List (Name × ℕ)). keys_of lows) c.in_ok-insert.ensures.entries
    ∙ keys_inserted c.self.inside.lows.entries c.args.low (length c.as_slice.result.now)
    ∙ ap (λ (names : List Name). insert_key name_cmp names c.args.low) (sym (lows_placed c.self.inside.lows.entries c.self.inside.nodes.items) ∙ ap (λ (row : NodeRow). keys_of row) c.self.view_is)
