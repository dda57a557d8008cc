-- Which BINs are dirty, where nodes are split for a name's slot, and where trees are new.
use Rattle.std.proofs.Common.{◌≡◌, ◌==◌, ◌⊎◌, ◌&&◌, ◌||◌, ◌++◌, not, ℕ, Bool, true, false, cond, List, Option, None, Some, is_some, length, refl, ap, ap₂, sym, subst, ◌∙◌, inl, inr, is_eq}
use Rattle.std.specs.List.{list_all, slice_get}
use Rattle.std.proofs.lemmas.Bool.{true≢false}
use Rattle.std.proofs.lemmas.List.Folds.{list_any-append}
use Rattle.std.proofs.lemmas.Option.{none-some, same_Some}
use Rattle.je_order.specs.Order.{name_cmp}
use Rattle.je_order.specs.Edges.Edge.{At}
use Rattle.je_order.specs.declared.name.Name.{Name}
use Rattle.record_map.specs.declared.cell.Cell.{Cell}
use Rattle.record_map.specs.Cells.{value_at, between_edges, upper_edge}
use Rattle.record_map.proofs.NameLaws.{same_or_other, other_stays}
use Rattle.tree_nodes.specs.declared.node.Node.{Node}
use Rattle.tree_nodes.specs.Nodes.{NodeRow, IsOver, is_dirty, least}
use Rattle.tree_nodes.specs.Levels.{row_of}
use Rattle.tree_nodes.specs.Lows.{lows_of}
use Rattle.db_tree.specs.declared.node_at.NodeAt.{NodeAt}
use Rattle.db_tree.specs.declared.node_split.NodeSplit.{NodeSplit}
use Rattle.db_tree.specs.Dirty.{AreExact, are_as_shown, is_as_imaged}
use Rattle.record_map.specs.Cells.{is_as_shown}
use Rattle.db_tree.specs.NodeSteps.{AreWaiting, MayWait, slot_splits}
use Rattle.db_tree.specs.Shapes.{shape_in}
use Rattle.db_tree.specs.Splits.{is_raised}
use Rattle.db_tree.specs.Waiting.{halves_of, is_among, is_same_name, root_at}
use Rattle.db_tree.proofs.DirtyCells.{exact_held}
use Rattle.db_tree.proofs.NodesExact.{forced_exact, imaged_same}
use Rattle.db_tree.proofs.Over.{there_is}
use Rattle.tree_images.specs.ExactLaws.{GrownBinsAreExact, NewBinsAreExact, UnloggedBinsAreExact}
use Rattle.tree_images.proofs.Grown.{RowIs, among_back, among_front, split_among}
use Rattle.tree_images.proofs.Neighbours.{behind_put}
use Rattle.tree_images.proofs.PlacedTrees.{slot_splits_of}
use Rattle.tree_images.proofs.Splits.{rows_grown}

-- a node that is not among more is not among some of them
pub not_among : (start due : List NodeAt) (x : Name) → ((low : Name) → is_among start 0 low ≡ true → is_among due 0 low ≡ true) → is_among due 0 x ≡ false → is_among start 0 x ≡ false
not_among start due x within out = by_test (is_among start 0 x) refl
  where
    by_test : (t : Bool) → is_among start 0 x ≡ t → is_among start 0 x ≡ false
    by_test false is = is
    by_test true is = absurd (true≢false (sym (within x is) ∙ out))

pub grown_exact : GrownBinsAreExact
grown_exact start due splits raised old new cells was now grown splits_are within halves exact x n there out = by_split (slice_get splits 0) refl (rows_grown splits raised old new grown 0 was.some)
  where
    early : is_among start 0 x ≡ false
    early = not_among start due x within out

    by_split : (o : Option NodeSplit) → slice_get splits 0 ≡ o → RowIs old new 0 o → is_dirty n ≡ not (is_as_imaged (row_of new 0) cells (x, n))
    by_split None is row = subst (λ (r : NodeRow). is_dirty n ≡ not (is_as_imaged r cells (x, n))) (sym row) (exact x n (ap (value_at x) (sym row) ∙ there) early)
    by_split (Some split) is row = by_name (same_or_other split.middle x)
      where
        both : (is_among due 0 split.low ≡ true) × (is_among due 0 split.middle ≡ true)
        both = let h = split_among splits raised 0 split is in (halves 0 split.low h.0, halves 0 split.middle h.1)

        over : (node : Node) × IsOver (row_of old 0) split.middle (split.low, node)
        over = splits_are 0 split is

        not_low : x ≡ split.low → ⊥
        not_low same = true≢false (sym both.0 ∙ ap (is_among due 0) (sym same) ∙ out)

        by_name : (split.middle ≡ x) ⊎ (is_eq (name_cmp split.middle x) ≡ false) → is_dirty n ≡ not (is_as_imaged (row_of new 0) cells (x, n))
        by_name (inl same) = absurd (true≢false (sym both.1 ∙ ap (is_among due 0) same ∙ out))
        by_name (inr apart) =
            let before : value_at x (row_of old 0) ≡ Some n = sym (row.1 x ∙ other_stays split.middle x (Some row.0) (value_at x (row_of old 0)) apart) ∙ there in
            exact x n before early
            ∙ sym (ap (λ (h : Option Name). not (not n.forced && (is_some n.last && list_all (λ e. is_as_shown n.last e.1) (between_edges (At x) (upper_edge h) cells))))
            (behind_put (row_of old 0) (row_of new 0) split.middle split.low x row.0 over.0 (was.rising 0) (now.rising 0) row.1 over.1 not_low (there_is (row_of old 0) x n before)))

-- ---- nodes that wait

-- a node that is as it was
module _ (row : NodeRow) (cells : List (Name × Cell)) (low : Name) (m n : Node) (forced : n.forced ≡ m.forced) (last : n.last ≡ m.last) (from : n.from ≡ m.from) where
  dirty_same : is_dirty n ≡ is_dirty m
  dirty_same =
      ap (λ (f : Bool). f || not (is_some n.last) || is_some n.from) forced
      ∙ ap (λ (l : Option ℕ). m.forced || not (is_some l) || is_some n.from) last
      ∙ ap (λ (o : Option ℕ). m.forced || not (is_some m.last) || is_some o) from

  shown_same : is_as_imaged row cells (low, n) ≡ is_as_imaged row cells (low, m)
  shown_same =
      ap (λ (f : Bool). not f && (is_some n.last && are_as_shown n.last low row cells)) forced
      ∙ ap (λ (l : Option ℕ). not m.forced && (is_some l && are_as_shown l low row cells)) last

pub waiting_exact : (due nodes : List NodeAt) (old new : List NodeRow) (cells : List (Name × Cell)) → AreWaiting nodes old new → ((low : Name) → is_among nodes 0 low ≡ false → is_among due 0 low ≡ false → (m : Node) → value_at low (row_of old 0) ≡ Some m →
    is_dirty m ≡ not (is_as_imaged (row_of old 0) cells (low, m))) → AreExact due new cells
waiting_exact due nodes old new cells waits exact x n there out = by_node (waits.each 0 x n there)
  where
    by_node : (m : Node) × (value_at x (row_of old 0) ≡ Some m) × MayWait (is_among nodes 0 x) m n → is_dirty n ≡ not (is_as_imaged (row_of new 0) cells (x, n))
    by_node w = by_forced n.forced refl (is_among nodes 0 x) refl
      where
        by_forced : (f : Bool) → n.forced ≡ f → (t : Bool) → is_among nodes 0 x ≡ t → is_dirty n ≡ not (is_as_imaged (row_of new 0) cells (x, n))
        by_forced true is t at = forced_exact (row_of new 0) cells x n is
        by_forced false is true at = absurd (true≢false (sym (w.2.waits at) ∙ is))
        by_forced false is false at =
            let forced : n.forced ≡ w.0.forced = is ∙ sym (w.2.still is) in
            dirty_same (row_of new 0) cells x w.0 n forced w.2.last (w.2.mark at)
            ∙ exact x at out w.0 w.1
            ∙ sym (ap not (shown_same (row_of new 0) cells x w.0 n forced w.2.last (w.2.mark at) ∙ imaged_same old new cells x w.0 waits.lows))

pub unlogged_exact : UnloggedBinsAreExact
unlogged_exact due fanout first x old new was split up_old up_new same exact =
    exact_held due new.levels old.cells new.cells up_old up_new same (waiting_exact due nodes split.mid new.levels old.cells split.waits (λ low free out m there. grown low m there (neither low free out)))
  where
    splits : List NodeSplit
    splits = slot_splits fanout x (shape_in old)

    raised : Bool
    raised = is_raised splits (lows_of old.levels)

    nodes : List NodeAt
    nodes = halves_of 0 splits ++ root_at (length splits) raised

    grown : AreExact (nodes ++ due) split.mid old.cells
    grown =
        grown_exact due (nodes ++ due) splits raised old.levels split.mid old.cells was split.parts split.grown (slot_splits_of fanout x old was) (λ low h. among_back nodes due 0 low h) (λ level low h. among_front nodes due level low h) exact

    neither : (low : Name) → is_among nodes 0 low ≡ false → is_among due 0 low ≡ false → is_among (nodes ++ due) 0 low ≡ false
    neither low free out = list_any-append (λ (n : NodeAt). (n.level == 0) && is_same_name n.low low) nodes due ∙ ap₂ (λ (a b : Bool). a || b) free out

-- ---- a new tree

pub new_exact : NewBinsAreExact
new_exact due number rows cells one low n there out = by_test (is_eq (name_cmp least low)) (sym (one.put low) ∙ there)
  where
    at_root : one.root ≡ n → is_dirty n ≡ not (is_as_imaged (row_of rows 0) cells (low, n))
    at_root same =
        subst (λ (k : Node). is_dirty k ≡ not (is_as_imaged (row_of rows 0) cells (low, k))) same
        (ap (λ (l : Option ℕ). one.root.forced || not (is_some l) || is_some one.root.from) one.last
        ∙ by_forced one.root.forced
        ∙ sym (ap (λ (l : Option ℕ). not (not one.root.forced && (is_some l && are_as_shown l low (row_of rows 0) cells))) one.last))
      where
        by_forced : (f : Bool) → (f || true || is_some one.root.from) ≡ not (not f && false)
        by_forced true = refl
        by_forced false = refl

    by_test : (t : Bool) → cond t (Some one.root) None ≡ Some n → is_dirty n ≡ not (is_as_imaged (row_of rows 0) cells (low, n))
    by_test true h = at_root (same_Some one.root n h)
    by_test false h = absurd (none-some n h)
