-- The order in which nodes are logged for a name's slot.
use Rattle.std.proofs.Common.{◌≡◌, ◌⊎◌, ◌++◌, ℕ, zero, suc, List, [], ◌∷◌, Bool, true, false, Option, None, Some, IsSome, length, refl, ap, sym, subst, ◌∙◌, inl, inr, arith}
use Rattle.std.specs.List.{slice_get}
use Rattle.std.proofs.lemmas.Bool.{eqb-true}
use Rattle.std.proofs.lemmas.List.{append_assoc}
use Rattle.std.proofs.lemmas.Option.{none-some}
use Rattle.je_order.specs.Edges.{is_between}
use Rattle.je_order.specs.Edges.Edge.{At}
use Rattle.je_order.specs.declared.name.Name.{Name}
use Rattle.record_map.specs.Cells.{value_at, last_of, upper_edge}
use Rattle.tree_nodes.specs.declared.node.Node.{Node}
use Rattle.tree_nodes.specs.Nodes.{NodeRow, least, low_behind}
use Rattle.tree_nodes.specs.Levels.{row_of}
use Rattle.tree_nodes.specs.Lows.{lows_of}
use Rattle.db_tree.specs.declared.node_at.NodeAt.{NodeAt}
use Rattle.db_tree.specs.declared.node_split.NodeSplit.{NodeSplit}
use Rattle.db_tree.specs.NodeSteps.{WasThere, IsNoted}
use Rattle.db_tree.specs.Shapes.{AreForced}
use Rattle.db_tree.specs.Splits.{one_if}
use Rattle.db_tree.specs.Waiting.{waiting_of, waiting_below, waiting_before, halves_of, root_at, logged_for, is_among}
use Rattle.db_tree.proofs.NodeSteps.{IsElsewhere, place_of}
use Rattle.tree_images.specs.NodeLaws.{AreChildrenLogged}
use Rattle.tree_images.specs.PlaceLaws.{AreSplitsOf, AreInOrder, OrdersStay, PlacedNodesAreInOrder}
use Rattle.tree_images.proofs.NodeSteps.{behind_same, elsewhere}
use Rattle.tree_images.proofs.Paths.{IsSplitFor, in_holds, path_of}
use Rattle.tree_images.proofs.LogOrder.{IsIn, in_keys}
use Rattle.db_tree.proofs.WaitLaws.{keys_at}
use Rattle.std.specs.Map.{keys_of}
use Rattle.tree_images.proofs.PlaceOrder.{due_for, all_ordered}
use Rattle.tree_images.proofs.Splits.{lows_height, height_grown, keys_there, rows_grown, splits_few, splits_of_nodes}

-- ---- it stays

children_stay : (due : List NodeAt) (old new : List NodeRow) (level : ℕ) (low : Name) (at : ℕ) → IsNoted old new level low at → (k : ℕ) (x : Name) → AreChildrenLogged old due k x → AreChildrenLogged new due k x
children_stay due old new level low at noted zero x all = tt
children_stay due old new level low at noted (suc k) x all = λ q c there inside. by_place q c there (subst (λ (o : Option Name). is_between (At x) (upper_edge o) q ≡ true) (behind_same old new (suc k) x noted.lows) inside) (place_of level low k q)
  where
    by_place : (q : Name) (c : Node) → value_at q (row_of new k) ≡ Some c → is_between (At x) (upper_edge (low_behind x (row_of old (suc k)))) q ≡ true → ((level ≡ k) × (low ≡ q)) ⊎ IsElsewhere level low k q →
        (c.forced ≡ false) × (is_among due k q ≡ false)
    by_place q c there inside (inl same) =
        let here = noted.here c (subst (λ (i : ℕ). value_at low (row_of new i) ≡ Some c) (sym same.0) (subst (λ (y : Name). value_at y (row_of new k) ≡ Some c) (sym same.1) there)) in
        let was : value_at q (row_of old k) ≡ Some here.0 = subst (λ (i : ℕ). value_at q (row_of old i) ≡ Some here.0) same.0 (subst (λ (y : Name). value_at y (row_of old level) ≡ Some here.0) same.1 here.1) in
        (here.2.forced, (all q here.0 was inside).1)
    by_place q c there inside (inr other) =
        let w : WasThere old k q c = noted.others k q c (elsewhere level low k q other) there in
        let before = all q w.0 w.1 inside in
        (w.2.forced ∙ before.0, before.1)

-- a low that is there is there where each level has the same lows
pub there_stays : (old new : List NodeRow) (k : ℕ) (x : Name) → lows_of new ≡ lows_of old → IsSome (value_at x (row_of old k)) → IsSome (value_at x (row_of new k))
there_stays old new k x same some =
    in_holds (λ (y : Name). IsSome (value_at y (row_of new k))) x (keys_of (row_of new k)) (keys_there (row_of new k)) (subst (IsIn x) (keys_at old new k (sym same)) (in_keys (row_of old k) x some))

pub orders_stay : OrdersStay
orders_stay [] old new level low at noted all = tt
orders_stay (n ∷ due) old new level low at noted all =
    (there_stays old new n.level n.low noted.lows all.0, children_stay (n ∷ due) old new level low at noted n.level n.low all.1, orders_stay due old new level low at noted all.2)

-- ---- the topmost split

last_get : (splits : List NodeSplit) (top : NodeSplit) → last_of splits ≡ Some top → (i : ℕ) × (suc i ≡ length splits) × (slice_get splits i ≡ Some top)
last_get [] top is = absurd (none-some top is)
last_get (s ∷ []) top is = (0, refl, is)
last_get (s ∷ t ∷ splits) top is = let rest = last_get (t ∷ splits) top is in (suc rest.0, ap suc rest.1, rest.2)

not_empty : (s : NodeSplit) (splits : List NodeSplit) → s ∷ splits ≡ [] → ⊥
not_empty s splits e = cc

none_last : (splits : List NodeSplit) → last_of splits ≡ None → splits ≡ []
none_last [] is = refl
none_last (s ∷ []) is = absurd (none-some s (sym is))
none_last (s ∷ t ∷ splits) is = absurd (not_empty t splits (none_last (t ∷ splits) is))

-- ---- the whole

pub placed_in_order : PlacedNodesAreInOrder
placed_in_order fanout x cells splits raised old mid new was now after splits_is raised_is grown only cleared = by_last (last_of splits) refl
  where
    paths : (k : ℕ) (split : NodeSplit) → slice_get splits k ≡ Some split → IsSplitFor (row_of old k) x split
    paths = subst (λ (l : List NodeSplit). (k : ℕ) (split : NodeSplit) → slice_get l k ≡ Some split → IsSplitFor (row_of old k) x split) (sym splits_is) (path_of fanout x cells old was)

    middles : AreSplitsOf splits old
    middles = subst (λ (l : List NodeSplit). AreSplitsOf l old) (sym splits_is) (splits_of_nodes fanout x cells old was)

    count : raised ≡ true → length splits ≡ length old
    count up = eqb-true (length splits) (length (lows_of old)) (sym raised_is ∙ up) ∙ lows_height old

    root_there : raised ≡ true → IsSome (value_at least (row_of new (length splits)))
    root_there up =
        let height = cleared.height in
        let grew = height_grown splits raised old mid grown in
        let all = count up in
        let one : one_if raised ≡ 1 = ap one_if up in
        after.parts (length splits) (omega (arith, height, grew, all, one))

    none_raised : splits ≡ [] → (t : Bool) → raised ≡ t → t ≡ false
    none_raised none false up = refl
    none_raised none true up = let some = was.some in let same = count up in let few : length splits ≡ 0 = ap (λ (l : List NodeSplit). length l) none in absurd (omega (arith, some, same, few))

    by_last : (o : Option NodeSplit) → last_of splits ≡ o → AreInOrder new (waiting_before o splits (waiting_of old) ++ halves_of 0 splits ++ root_at (length splits) raised)
    by_last None none =
        let empty : splits ≡ [] = none_last splits none in
        subst (λ (t : Bool). AreInOrder new (halves_of 0 splits ++ root_at (length splits) t)) (sym (none_raised empty raised refl))
        (subst (λ (l : List NodeSplit). AreInOrder new (halves_of 0 l ++ root_at (length l) false)) (sym empty) tt)
    by_last (Some top) last =
        let at = last_get splits top last in
        let assoc : logged_for splits raised (waiting_of old) ≡ due_for top splits raised old =
        ap (λ (o : Option NodeSplit). waiting_before o splits (waiting_of old) ++ halves_of 0 splits ++ root_at (length splits) raised) last
        ∙ append_assoc (waiting_below 0 top splits (waiting_of old)) (halves_of 0 splits) (root_at (length splits) raised) in
        subst (AreInOrder new) (sym (append_assoc (waiting_below 0 top splits (waiting_of old)) (halves_of 0 splits) (root_at (length splits) raised)))
        (all_ordered x splits raised top old mid new
        (record {
          was = was;
          now = after;
          path = paths;
          middles = middles;
          rows = rows_grown splits raised old mid grown;
          few = splits_few splits old middles;
          last = at.0;
          last_is = at.1;
          top_is = at.2;
          cleared = subst (λ (l : List NodeAt). AreForced false l mid new) assoc cleared;
          above = count;
          root = root_there;
          only = λ q up some. only at.0 q (at.1 ∙ count up) some;
        }))
