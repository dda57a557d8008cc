-- The image of a node that was made before its children were logged.
use Rattle.std.proofs.Common.{◌≡◌, ◌+◌, ◌++◌, ℕ, zero, suc, List, [], ◌∷◌, Bool, true, Option, Some, filter, map, refl, ap, ap₂, sym, ◌∙◌, unwrap_or, arith}
use Rattle.std.specs.Option.{option_and_then}
use Rattle.std.specs.List.{AllByRecursion}
use Rattle.std.specs.Map.{keys_of}
use Rattle.je_order.specs.Edges.{is_between}
use Rattle.je_order.specs.Edges.Edge.{At}
use Rattle.je_order.specs.declared.name.Name.{Name}
use Rattle.je_order.proofs.Lists.{all_weaker, all_kept, filter_all_pass}
use Rattle.log_entry.specs.declared.child_slot.ChildSlot.{ChildSlot}
use Rattle.log_entry.specs.declared.entry.Entry.{Entry}
use Rattle.log_entry.specs.declared.entry.Entry.TheVariants.{In, Bin}
use Rattle.record_map.specs.Cells.{value_at, upper_edge, between_edges}
use Rattle.tree_nodes.specs.declared.node.Node.{Node}
use Rattle.tree_nodes.specs.Nodes.{NodeRow, low_behind}
use Rattle.tree_nodes.specs.Levels.{row_of, slot_of}
use Rattle.tree_nodes.specs.Lows.{lows_of, lows_at}
use Rattle.tree_nodes.proofs.LowLaws.{keys_passed, lows_at_is}
use Rattle.db_tree.specs.Content.{record_slots, child_slot_for, child_slots}
use Rattle.db_tree.specs.NodeImages.{kept_child, node_entry, children_of, last_at, finished_slots, finished_entry, number_of}
use Rattle.tree_images.specs.NodeLaws.{image_of, AreChildrenLogged, FinishedImagesAreWhole}
use Rattle.tree_images.proofs.Logged.{child_imaged}
use Rattle.tree_images.proofs.Neighbours.{both_all, own_values}
use Rattle.tree_images.proofs.NodeSteps.{behind_same}

-- the slot of a child by its last image
abbrev slot_at : List NodeRow → ℕ → Name → ChildSlot
slot_at rows k x = record { name = x; child = last_at rows k x }

-- slots that were kept get the LSNs of the children
kept_finished : (rows : List NodeRow) (k : ℕ) (nodes : NodeRow) → finished_slots rows k (keys_of nodes) (map kept_child (map slot_of nodes)) ≡ map (slot_at rows k) (keys_of nodes)
kept_finished rows k [] = refl
kept_finished rows k (e ∷ nodes) = ap (λ (l : List ChildSlot). slot_at rows k e.0 ∷ l) (kept_finished rows k nodes)

-- those are the slots of children that have images
slots_are : (rows : List NodeRow) (k : ℕ) (nodes : NodeRow) → AllByRecursion (λ (e : Name × Node). (value_at e.0 (row_of rows k) ≡ Some e.1) × (lsn : ℕ) × (e.1.last ≡ Some lsn)) nodes →
    child_slots nodes ≡ map (slot_at rows k) (keys_of nodes)
slots_are rows k [] all = refl
slots_are rows k (e ∷ nodes) all =
    let last : last_at rows k e.0 ≡ all.0.1 = ap (λ (o : Option Node). unwrap_or (option_and_then (λ (n : Node). n.last) o) 0) all.0.0 ∙ ap (λ (o : Option ℕ). unwrap_or o 0) all.0.2 in
    ap (λ (o : Option ℕ). child_slot_for e.0 o ++ child_slots nodes) all.0.2
    ∙ ap (λ (lsn : ℕ). record { name = e.0; child = lsn } ∷ child_slots nodes) (sym last)
    ∙ ap (λ (l : List ChildSlot). slot_at rows k e.0 ∷ l) (slots_are rows k nodes all.1)

keys_same : (before rows : List NodeRow) (k : ℕ) → lows_of rows ≡ lows_of before → keys_of (row_of before k) ≡ keys_of (row_of rows k)
keys_same before rows k same = sym (lows_at_is before k) ∙ ap (λ (l : List (List Name)). lows_at l k) (sym same) ∙ lows_at_is rows k

pub finished_whole : FinishedImagesAreWhole
finished_whole es home last d due before rows cells image n is lows number parts imaged there logged =
    ap₂ (λ (e : Entry) (c : List Name). finished_entry rows image.level c e) is.entry is.children ∙ by_level image.level image.low number there logged
  where
    by_level : (level : ℕ) (low : Name) → number_of before level low ≡ n.number → value_at low (row_of rows level) ≡ Some n → AreChildrenLogged rows due level low →
        finished_entry rows level (children_of level low before) (node_entry d level low before cells) ≡ image_of d n.number level low rows cells
    by_level zero low number there logged =
        ap₂ (λ (i : ℕ) (o : Option Name). Bin d i (record_slots (between_edges (At low) (upper_edge o) cells))) number (behind_same rows before 0 low (sym lows))
    by_level (suc k) low number there logged =
        let level_is : suc k + 1 ≡ suc (suc k) = omega arith in
        ap₂ (λ (i l : ℕ). In d i l (finished_slots rows k (keys_of (nodes before)) (map kept_child (map slot_of (nodes before))))) number level_is
        ∙ ap (In d n.number (suc (suc k))) (kept_finished rows k (nodes before) ∙ ap (map (slot_at rows k)) keys ∙ sym (slots_are rows k (nodes rows) have))
      where
        inside : List NodeRow → Name → Bool
        inside r q = is_between (At low) (upper_edge (low_behind low (row_of r (suc k)))) q

        nodes : List NodeRow → NodeRow
        nodes r = filter (λ (e : Name × Node). inside r e.0) (row_of r k)

        keys : keys_of (nodes before) ≡ keys_of (nodes rows)
        keys =
            keys_passed (inside before) (row_of before k)
            ∙ ap₂ (λ (o : Option Name) (l : List Name). filter (is_between (At low) (upper_edge o)) l) (behind_same rows before (suc k) low (sym lows)) (keys_same before rows k lows)
            ∙ sym (keys_passed (inside rows) (row_of rows k))

        last_of_child : (q : Name) (c : Node) → value_at q (row_of rows k) ≡ Some c → inside rows q ≡ true → (lsn : ℕ) × (c.last ≡ Some lsn)
        last_of_child q c found within = let has = child_imaged es home last d due rows cells k low n imaged there logged q c found within in (has.0, has.1)

        have : AllByRecursion (λ (e : Name × Node). (value_at e.0 (row_of rows k) ≡ Some e.1) × (lsn : ℕ) × (e.1.last ≡ Some lsn)) (nodes rows)
        have =
            all_weaker (λ (e : Name × Node). (value_at e.0 (row_of rows k) ≡ Some e.1) × (inside rows e.0 ≡ true)) (λ e. (value_at e.0 (row_of rows k) ≡ Some e.1) × (lsn : ℕ) × (e.1.last ≡ Some lsn))
            (λ e h. (let last = last_of_child e.0 e.1 h.0 h.1 in (h.0, last.0, last.1))) (nodes rows)
            (both_all (λ (e : Name × Node). value_at e.0 (row_of rows k) ≡ Some e.1) (λ e. inside rows e.0 ≡ true) (nodes rows)
            (all_kept (λ (e : Name × Node). value_at e.0 (row_of rows k) ≡ Some e.1) (λ e. inside rows e.0) (row_of rows k) (own_values (row_of rows k) (parts.rising k)))
            (filter_all_pass (λ (e : Name × Node). inside rows e.0) (row_of rows k)))
