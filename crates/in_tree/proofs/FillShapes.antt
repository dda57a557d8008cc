-- Shapes of trees whose cells have nothing committed: what a slot takes depends on their names alone.
use Rattle.std.proofs.Common.{◌≡◌, ◌≤◌, ◌+◌, ◌||◌, ◌++◌, ℕ, zero, suc, length, filter, map, nat_lt, Bool, true, false, cond, List, [], ◌∷◌, Some, is_some, refl, ap, ap₂, sym, subst, ◌∙◌, arith, Ordering, Less, Equal, Greater}
use Rattle.std.specs.Prelude.{Box}
use Rattle.std.specs.Global.{Global}
use Rattle.std.specs.List.{AllByRecursion, list_any}
use Rattle.std.specs.Map.{keys_of, set_value}
use Rattle.std.specs.BTreeMap.{insert_entry, is_at}
use Rattle.std.specs.BTreeSet.{insert_key}
use Rattle.std.specs.Ordering.{match_ordering}
use Rattle.std.proofs.lemmas.Map.{keys-set_value}
use Rattle.std.proofs.lemmas.Option.{same_Some}
use Rattle.je_order.specs.Order.{name_cmp}
use Rattle.je_order.specs.Edges.{Edge, is_between}
use Rattle.je_order.specs.Edges.Edge.{At}
use Rattle.je_order.specs.declared.name.Name.{Name}
use Rattle.log_entry.specs.Encoding.{size_of}
use Rattle.log_entry.specs.declared.entry.Entry.TheVariants.{Bin}
use Rattle.log_entry.specs.declared.record_slot.RecordSlot.{RecordSlot}
use Rattle.node_core.specs.declared.slot.Version.{Version}
use Rattle.node_core.specs.declared.slot.Version.TheVariants.{Unset}
use Rattle.record_map.specs.declared.cell.Cell.{Cell}
use Rattle.record_map.specs.declared.write.Write.{Write}
use Rattle.record_map.specs.Cells.{value_at, upper_edge, fresh, with_write}
use Rattle.tree_nodes.specs.Lows.{low_after, lows_at}
use Rattle.tree_nodes.proofs.LowLaws.{keys_inserted}
use Rattle.db_tree.specs.declared.node_at.NodeAt.{NodeAt}
use Rattle.db_tree.proofs.FewSplits.{still_less}
use Rattle.db_tree.specs.declared.node_split.NodeSplit.{NodeSplit}
use Rattle.db_tree.specs.Content.{record_slots, slot_for}
use Rattle.db_tree.specs.Splits.{Shape, count_waiting, has_slot, image_size, image_sizes, is_raised, logged_by, lows_behind, made_for, node_size, nodes_logged, nodes_made, passes_top, shape_behind, shape_with, splits_from, splits_of}
use Rattle.db_tree.specs.Waiting.{count_lows, logged_for, still_waiting, waiting_raised}

-- nothing is committed of any cell
abbrev pub AreUnset : List (Name × Cell) → Type 0
AreUnset cells = AllByRecursion (λ p. p.1.version ≡ Unset) cells

-- two shapes that differ in the cells of the same names alone, of which nothing is committed
pub record AreSimilar (a b : Shape) : Type 0 where
  pub keys : keys_of a.cells ≡ keys_of b.cells
  pub lows : a.lows ≡ b.lows
  pub waiting : a.waiting ≡ b.waiting
  pub unset : AreUnset a.cells
  pub unset_too : AreUnset b.cells

-- ---- cells

-- whether a name has a cell, by the names alone
has_named : (x : Name) (cells : List (Name × Cell)) → is_some (value_at x cells) ≡ list_any (is_at (name_cmp x)) (keys_of cells)
has_named x [] = refl
has_named x (e ∷ cells) = by_test (is_at (name_cmp x) e.0) (has_named x cells)
  where
    by_test : (t : Bool) → is_some (value_at x cells) ≡ list_any (is_at (name_cmp x)) (keys_of cells) → is_some (cond t (Some e.1) (value_at x cells)) ≡ (t || list_any (is_at (name_cmp x)) (keys_of cells))
    by_test true rest = refl
    by_test false rest = rest

-- whether a name has a slot
same_slot : (x : Name) (a b : Shape) → AreSimilar a b → has_slot x a ≡ has_slot x b
same_slot x a b s = has_named x a.cells ∙ ap (list_any (is_at (name_cmp x))) s.keys ∙ sym (has_named x b.cells)

-- a cell more, with nothing committed
unset_inserted : (x : Name) (cells : List (Name × Cell)) → AreUnset cells → AreUnset (insert_entry name_cmp cells x fresh)
unset_inserted x [] all = (refl, tt)
unset_inserted x (e ∷ cells) all = by_order (name_cmp x e.0) (unset_inserted x cells all.1)
  where
    by_order : (o : Ordering) → AreUnset (insert_entry name_cmp cells x fresh) → AreUnset (match_ordering o ((x, fresh) ∷ e ∷ cells) ((e.0, fresh) ∷ cells) (e ∷ insert_entry name_cmp cells x fresh))
    by_order Less rest = (refl, all)
    by_order Equal rest = (refl, all.1)
    by_order Greater rest = (all.0, rest)

-- a cell in the place of one with its version
unset_set : (x : Name) (c next : Cell) (cells : List (Name × Cell)) → next.version ≡ c.version → value_at x cells ≡ Some c → AreUnset cells → AreUnset (set_value (is_at (name_cmp x)) cells next)
unset_set x c next [] same there all = tt
unset_set x c next (e ∷ cells) same there all = by_test (is_at (name_cmp x) e.0) there (λ found. unset_set x c next cells same found all.1)
  where
    by_test : (t : Bool) → cond t (Some e.1) (value_at x cells) ≡ Some c → (value_at x cells ≡ Some c → AreUnset (set_value (is_at (name_cmp x)) cells next)) →
        AreUnset (cond t ((e.0, next) ∷ cells) (e ∷ set_value (is_at (name_cmp x)) cells next))
    by_test true found rest = (same ∙ sym (ap (λ (d : Cell). d.version) (same_Some e.1 c found)) ∙ all.0, all.1)
    by_test false found rest = (all.0, rest found)

-- ---- images

-- cells of which nothing is committed have no slots in an image
slots_none : (p : Name → Bool) (cells : List (Name × Cell)) → AreUnset cells → record_slots (filter (λ e. p e.0) cells) ≡ []
slots_none p [] all = refl
slots_none p (e ∷ cells) all = by_test (p e.0) (slots_none p cells all.1)
  where
    passed : List (Name × Cell)
    passed = filter (λ (f : Name × Cell). p f.0) cells

    by_test : (t : Bool) → record_slots passed ≡ [] → record_slots (cond t (e ∷ passed) passed) ≡ []
    by_test true rest = ap₂ (λ (v : Version) (l : List RecordSlot). slot_for e.0 v ++ l) all.0 rest
    by_test false rest = rest

-- the size of an image, by the lows alone
same_size : (cells others : List (Name × Cell)) (lows : List (List Name)) (level : ℕ) (from upto : Edge) → AreUnset cells → AreUnset others →
    image_size cells lows level from upto ≡ image_size others lows level from upto
same_size cells others lows zero from upto unset unset_too =
    ap (λ (l : List RecordSlot). size_of (Bin 0 0 l)) (slots_none (is_between from upto) cells unset ∙ sym (slots_none (is_between from upto) others unset_too))
same_size cells others lows (suc level) from upto unset unset_too = refl

-- the size of a node's image, and the sizes of some
same_node : (a b : Shape) (n : NodeAt) → AreSimilar a b → node_size a n ≡ node_size b n
same_node a b n s =
    ap (λ (l : List (List Name)). image_size a.cells l n.level (At n.low) (upper_edge (low_after n.low (lows_at l n.level)))) s.lows
    ∙ same_size a.cells b.cells b.lows n.level (At n.low) (upper_edge (low_after n.low (lows_at b.lows n.level))) s.unset s.unset_too

same_sizes : (a b : Shape) (nodes : List NodeAt) → AreSimilar a b → map (node_size a) nodes ≡ map (node_size b) nodes
same_sizes a b [] s = refl
same_sizes a b (n ∷ nodes) s = ap₂ (λ (size : ℕ) (sizes : List ℕ). size ∷ sizes) (same_node a b n s) (same_sizes a b nodes s)

-- ---- what a slot takes

-- how many nodes it makes
pub similar_made : (fanout : ℕ) (x : Name) (a b : Shape) → AreSimilar a b → nodes_made fanout x a ≡ nodes_made fanout x b
similar_made fanout x a b s =
    ap (λ (t : Bool). cond t 0 (made_for (splits_of fanout x a) a.lows)) (same_slot x a b s)
    ∙ ap₂ (λ (k : List Name) (l : List (List Name)). cond (has_slot x b) 0 (made_for (splits_from fanout x k l) l)) s.keys s.lows

-- whether it passes the last level
pub similar_top : (fanout : ℕ) (x : Name) (a b : Shape) → AreSimilar a b → passes_top fanout x a ≡ passes_top fanout x b
similar_top fanout x a b s = ap (nat_lt 64) (similar_made fanout x a b s)

-- what is logged for splits
same_logged : (fanout : ℕ) (x : Name) (a b : Shape) → AreSimilar a b → logged_by (splits_of fanout x a) a ≡ logged_by (splits_of fanout x b) b
same_logged fanout x a b s =
    ap₂ (λ (k : List Name) (l : List (List Name)). logged_for (splits_from fanout x k l) (is_raised (splits_from fanout x k l) l) a.waiting) s.keys s.lows
    ∙ ap (λ (w : List (List Name)). logged_for (splits_of fanout x b) (is_raised (splits_of fanout x b) b.lows) w) s.waiting

-- what is logged for a name's slot
same_nodes : (fanout : ℕ) (x : Name) (a b : Shape) → AreSimilar a b → nodes_logged fanout x a ≡ nodes_logged fanout x b
same_nodes fanout x a b s =
    ap₂ (λ (t : Bool) (nodes : List NodeAt). (let none : List NodeAt = [] in cond t none nodes)) (same_slot x a b s) (same_logged fanout x a b s)

-- what waits where the root was split
same_raised : (fanout : ℕ) (x : Name) (a b : Shape) → AreSimilar a b →
    waiting_raised (is_raised (splits_of fanout x a) a.lows) a.waiting ≡ waiting_raised (is_raised (splits_of fanout x b) b.lows) b.waiting
same_raised fanout x a b s =
    ap₂ (λ (k : List Name) (l : List (List Name)). waiting_raised (is_raised (splits_from fanout x k l) l) a.waiting) s.keys s.lows
    ∙ ap (waiting_raised (is_raised (splits_of fanout x b) b.lows)) s.waiting

-- behind the splits
similar_behind : (fanout : ℕ) (x : Name) (a b : Shape) → AreSimilar a b → AreSimilar (shape_behind (splits_of fanout x a) x a) (shape_behind (splits_of fanout x b) x b)
similar_behind fanout x a b s = record {
  keys = keys_inserted a.cells x fresh ∙ ap (λ (k : List Name). insert_key name_cmp k x) s.keys ∙ sym (keys_inserted b.cells x fresh);
  lows = ap₂ (λ (k : List Name) (l : List (List Name)). lows_behind (splits_from fanout x k l) l) s.keys s.lows;
  waiting = ap₂ (λ (nodes : List NodeAt) (w : List (List Name)). still_waiting nodes 0 w) (same_logged fanout x a b s) (same_raised fanout x a b s);
  unset = unset_inserted x a.cells s.unset;
  unset_too = unset_inserted x b.cells s.unset_too;
}

-- with a name's slot
pub similar_with : (fanout : ℕ) (x : Name) (a b : Shape) → AreSimilar a b → AreSimilar (shape_with fanout x a) (shape_with fanout x b)
similar_with fanout x a b s =
    subst (λ (t : Bool). AreSimilar (shape_with fanout x a) (cond t b (shape_behind (splits_of fanout x b) x b))) (same_slot x a b s) (by_test (has_slot x a))
  where
    by_test : (t : Bool) → AreSimilar (cond t a (shape_behind (splits_of fanout x a) x a)) (cond t b (shape_behind (splits_of fanout x b) x b))
    by_test true = s
    by_test false = similar_behind fanout x a b s

-- how long the images are that it needs
pub similar_sizes : (fanout : ℕ) (x : Name) (a b : Shape) → AreSimilar a b → image_sizes fanout x a ≡ image_sizes fanout x b
similar_sizes fanout x a b s =
    ap (map (node_size (shape_with fanout x a))) (same_nodes fanout x a b s)
    ∙ same_sizes (shape_with fanout x a) (shape_with fanout x b) (nodes_logged fanout x b) (similar_with fanout x a b s)

-- a cell of a that gets a change: its version stays
pub similar_written : (x : Name) (c : Cell) (w : Box Write Global) (a b : Shape) (cells : List (Name × Cell)) → value_at x a.cells ≡ Some c →
    cells ≡ set_value (is_at (name_cmp x)) a.cells (with_write (Some w) c) → AreSimilar a b → AreSimilar (record { cells = cells; lows = a.lows; waiting = a.waiting }) b
similar_written x c w a b cells there is s = record {
  keys = ap (λ (l : List (Name × Cell)). keys_of l) is ∙ keys-set_value (is_at (name_cmp x)) a.cells (with_write (Some w) c) ∙ s.keys;
  lows = s.lows;
  waiting = s.waiting;
  unset = subst (λ (l : List (Name × Cell)). AreUnset l) (sym is) (unset_set x c (with_write (Some w) c) a.cells refl there s.unset);
  unset_too = s.unset_too;
}

-- ---- nodes that wait

-- where no node waits, logging nodes leaves the lists of those that wait as they are
pub still_none : (nodes : List NodeAt) (level : ℕ) (waiting : List (List Name)) → count_lows waiting ≡ 0 → still_waiting nodes level waiting ≡ waiting
still_none nodes level [] none = refl
still_none nodes level ([] ∷ waiting) none = (let rest : count_lows waiting ≡ 0 = omega (arith, none) in ap (λ (w : List (List Name)). [] ∷ w) (still_none nodes (suc level) waiting rest))
still_none nodes level ((low ∷ lows) ∷ waiting) none = absurd (omega (arith, none))

-- a new root does not wait
count_root : (waiting : List (List Name)) → count_lows (waiting ++ [] ∷ []) ≡ count_lows waiting
count_root [] = refl
count_root (lows ∷ waiting) = ap (λ (n : ℕ). length lows + n) (count_root waiting)

raised_same : (raised : Bool) (waiting : List (List Name)) → count_lows (waiting_raised raised waiting) ≡ count_lows waiting
raised_same true waiting = count_root waiting
raised_same false waiting = refl

-- nor does a name's slot make a node wait
pub waits_with : (fanout : ℕ) (x : Name) (shape : Shape) → count_waiting (shape_with fanout x shape) ≤ count_waiting shape
waits_with fanout x shape = by_test (has_slot x shape)
  where
    splits : List NodeSplit
    splits = splits_of fanout x shape

    raised : List (List Name)
    raised = waiting_raised (is_raised splits shape.lows) shape.waiting

    by_test : (t : Bool) → count_waiting (cond t shape (shape_behind splits x shape)) ≤ count_waiting shape
    by_test true = omega arith
    by_test false = let less = still_less (logged_by splits shape) 0 raised in let same = raised_same (is_raised splits shape.lows) shape.waiting in omega (arith, less, same)

pub quiet_with : (fanout : ℕ) (x : Name) (shape : Shape) → count_waiting shape ≡ 0 → count_waiting (shape_with fanout x shape) ≡ 0
quiet_with fanout x shape none = let less = waits_with fanout x shape in omega (arith, less, none)
