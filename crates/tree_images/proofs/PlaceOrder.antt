-- The nodes that are logged for a name's slot stand behind their children, which wait no more.
use Rattle.std.proofs.Common.{◌≡◌, ◌==◌, ◌&&◌, ◌||◌, ◌≤◌, ◌<◌, ◌⊎◌, ◌+◌, ◌++◌, not, ℕ, zero, suc, List, [], ◌∷◌, Bool, true, false, Option, None, Some, IsSome, filter, option_map, length, get_or, refl, ap, ap₂, sym, subst, ◌∙◌, inl, inr, arith, is_eq}
use Rattle.std.specs.List.{slice_get, AllByRecursion}
use Rattle.std.specs.Map.{keys_of}
use Rattle.std.proofs.lemmas.Bool.{true≢false, and_parts}
use Rattle.std.proofs.lemmas.List.Folds.{list_any-append}
use Rattle.std.proofs.lemmas.Option.{none-some, same_Some, slice_get_within, slice_get-get_or}
use Rattle.std.proofs.Math.Nat.{le_refl}
use Rattle.je_order.specs.Order.{name_cmp}
use Rattle.je_order.specs.Edges.{is_between}
use Rattle.je_order.specs.Edges.Edge.{At}
use Rattle.je_order.specs.declared.name.Name.{Name}
use Rattle.je_order.proofs.Lists.{all_append, all_kept, filter_all_pass}
use Rattle.record_map.specs.Cells.{value_at, upper_edge}
use Rattle.record_map.proofs.NameLaws.{name_same, same_or_other, same_gets, other_stays}
use Rattle.tree_nodes.specs.declared.node.Node.{Node}
use Rattle.tree_nodes.specs.Nodes.{NodeRow, least, IsOver, low_behind}
use Rattle.tree_nodes.specs.Levels.{row_of, AreParts}
use Rattle.tree_nodes.specs.Lows.{lows_at}
use Rattle.db_tree.specs.declared.node_at.NodeAt.{NodeAt}
use Rattle.db_tree.specs.declared.node_split.NodeSplit.{NodeSplit}
use Rattle.db_tree.specs.Shapes.{AreForced, forced_if}
use Rattle.db_tree.specs.Waiting.{is_same_name, waits_in, waiting_in, waiting_of, at_level, is_logged_before, waiting_below, halves_of, root_at, is_among}
use Rattle.db_tree.proofs.Contents.{within}
use Rattle.db_tree.proofs.Order.{up_trans}
use Rattle.db_tree.proofs.Over.{there_is, over_once}
use Rattle.db_tree.proofs.Within.{over_within}
use Rattle.tree_images.specs.NodeLaws.{AreChildrenLogged}
use Rattle.tree_images.specs.PlaceLaws.{AreSplitsOf, AreInOrder}
use Rattle.tree_images.proofs.Grown.{RowIs, among_front, among_back, split_among}
use Rattle.tree_images.proofs.LogOrder.{IsIn, same_of, among_below, waiting_at_is, is_waiting, AreFrom, not_among, at_level_from, from_lower, halves_from, below_from, halves_not}
use Rattle.tree_images.proofs.Lows.{only_over}
use Rattle.tree_images.proofs.NodeSteps.{some_there}
use Rattle.tree_images.proofs.Neighbours.{both_all}
use Rattle.tree_images.proofs.Paths.{IsSplitFor, up_over, down_over}
use Rattle.tree_images.proofs.Splits.{keys_there}

-- the halves of splits and a new root, and behind the nodes that wait all that are to be logged
abbrev pub halves_for : List NodeSplit → Bool → List NodeAt
halves_for splits raised = halves_of 0 splits ++ root_at (length splits) raised

abbrev pub due_for : NodeSplit → List NodeSplit → Bool → List NodeRow → List NodeAt
due_for top splits raised old = waiting_below 0 top splits (waiting_of old) ++ halves_for splits raised

-- a tree whose nodes were split for a name, and where those that are to be logged wait no more
pub record IsCleared (x : Name) (splits : List NodeSplit) (raised : Bool) (top : NodeSplit) (old mid new : List NodeRow) : Type 0 where
  pub was : AreParts old
  pub now : AreParts new
  pub path : (k : ℕ) (split : NodeSplit) → slice_get splits k ≡ Some split → IsSplitFor (row_of old k) x split
  pub middles : AreSplitsOf splits old
  pub rows : (k : ℕ) → k < length old → RowIs old mid k (slice_get splits k)
  pub few : length splits ≤ length old
  pub last : ℕ
  pub last_is : suc last ≡ length splits
  pub top_is : slice_get splits last ≡ Some top
  pub cleared : AreForced false (due_for top splits raised old) mid new
  -- a root is put above the top
  pub above : raised ≡ true → length splits ≡ length old
  pub root : raised ≡ true → IsSome (value_at least (row_of new (length splits)))
  pub only : (q : Name) → raised ≡ true → IsSome (value_at q (row_of old last)) → q ≡ least

module _ (x : Name) (splits : List NodeSplit) (raised : Bool) (top : NodeSplit) (old mid new : List NodeRow) (is : IsCleared x splits raised top old mid new) where
  -- ---- the nodes before and after

  mid_there : (k : ℕ) (q : Name) (o : Option NodeSplit) → RowIs old mid k o → IsSome (value_at q (row_of old k)) → IsSome (value_at q (row_of mid k))
  mid_there k q None same h = subst IsSome (ap (value_at q) (sym same)) h
  mid_there k q (Some split) row h = by_name (same_or_other split.middle q)
    where
      by_name : (split.middle ≡ q) ⊎ (is_eq (name_cmp split.middle q) ≡ false) → IsSome (value_at q (row_of mid k))
      by_name (inl e) = subst (λ (y : Name). IsSome (value_at y (row_of mid k))) e (subst IsSome (sym (row.1 split.middle ∙ same_gets split.middle (Some row.0) (value_at split.middle (row_of old k)))) refl)
      by_name (inr apart) = subst IsSome (sym (row.1 q ∙ other_stays split.middle q (Some row.0) (value_at q (row_of old k)) apart)) h

  some_forced : (t : Bool) (o : Option Node) → IsSome o → IsSome (option_map (forced_if t false) o)
  some_forced t None h = h
  some_forced t (Some n) h = refl

  kept : (k : ℕ) (q : Name) → k < length old → IsSome (value_at q (row_of old k)) → IsSome (value_at q (row_of new k))
  kept k q lt h = subst IsSome (sym (is.cleared.each k q)) (some_forced (is_among (due_for top splits raised old) k q) (value_at q (row_of mid k)) (mid_there k q (slice_get splits k) (is.rows k lt) h))

  within_old : (k : ℕ) (split : NodeSplit) → slice_get splits k ≡ Some split → k < length old
  within_old k split at = let lt = slice_get_within splits k split at in let few = is.few in omega (arith, lt, few)

  -- a node over a name is over it without the middle of a split, where it was there
  over_old : (k : ℕ) (q w : Name) (n : Node) → k < length old → IsSome (value_at w (row_of old k)) → IsOver (row_of new k) q (w, n) → (m : Node) × IsOver (row_of old k) q (w, m)
  over_old k q w n lt some over =
      let m = some_there (row_of old k) w some in
      (m.0, record { there = m.1; below = over.below; most = λ r there at_most. over.most r (kept k r lt there) at_most })

  over_left : (k : ℕ) (q : Name) (n : Node) (split : NodeSplit) → slice_get splits k ≡ Some split → IsOver (row_of new k) q (split.middle, n) → (m : Node) × IsOver (row_of old k) q (split.low, m)
  over_left k q n split at over =
      let left = is.middles k split at in (
        left.0,
        record {
          there = left.1.there;
          below = up_trans split.low split.middle q left.1.below over.below;
          most = λ r there at_most. left.1.most r there (over.most r (kept k r (within_old k split at) there) at_most);
        },
      )

  -- ---- names below the topmost split

  abbrev IsBelowTop : Name → Type 0
  IsBelowTop q = is_between (At top.low) (upper_edge top.high) q ≡ true

  top_path : IsSplitFor (row_of old is.last) x top
  top_path = is.path is.last top is.top_is

  over_top : (q : Name) → IsOver (row_of old is.last) q (top.low, top_path.node) → IsBelowTop q
  over_top q over = subst (λ (o : Option Name). is_between (At top.low) (upper_edge o) q ≡ true) (sym top_path.high) (within (row_of old is.last) q (top.low, top_path.node) over)

  -- what a split node is over is below the top
  split_below : (k : ℕ) (q : Name) (m : Node) (split : NodeSplit) → slice_get splits k ≡ Some split → IsOver (row_of old k) q (split.low, m) → IsBelowTop q
  split_below k q m split at over =
      let lt = slice_get_within splits k split at in
      let end = is.last_is in
      let le : k ≤ is.last = omega (arith, lt, end) in
      let path : IsSplitFor (row_of old k) x split = is.path k split at in
      over_top q (up_over old k is.last q (split.low, m) (top.low, top_path.node) is.was le over (down_over old k is.last x (split.low, path.node) (top.low, top_path.node) is.was le path.over top_path.over))

  -- so is what a node is over that is below the top
  waiting_below_top : (k : ℕ) (q w : Name) (m : Node) → k ≤ is.last → IsBelowTop w → IsOver (row_of old k) q (w, m) → IsBelowTop q
  waiting_below_top k q w m le inside over =
      over_top q (up_over old k is.last q (w, m) (top.low, top_path.node) is.was le over
      (over_within (row_of old is.last) w top.low top_path.node (is.was.rising is.last) top_path.over.there (subst (λ (o : Option Name). is_between (At top.low) (upper_edge o) w ≡ true) top_path.high inside)))

  -- ---- no node below the top waits

  forced_false : (n c : Node) → forced_if true false n ≡ c → c.forced ≡ false
  forced_false n c same = sym (ap (λ (m : Node). m.forced) same)

  -- a node that waits is among those that are to be logged
  waits_among : (k : ℕ) (q : Name) (c : Node) (split : NodeSplit) → slice_get splits k ≡ Some split → value_at q (row_of old k) ≡ Some c → c.forced ≡ true → IsBelowTop q → is_among (due_for top splits raised old) k q ≡ true
  waits_among k q c split at there waits inside = by_low (is_same_name q split.low) refl
    where
      by_low : (t : Bool) → is_same_name q split.low ≡ t → is_among (due_for top splits raised old) k q ≡ true
      by_low true same =
          let e : q ≡ split.low = same_of q split.low same in
          among_back (waiting_below 0 top splits (waiting_of old)) (halves_for splits raised) k q (subst (λ (y : Name). is_among (halves_for splits raised) k y ≡ true) (sym e) (split_among splits raised k split at).0)
      by_low false other =
          let z : 0 + k ≡ k = omega arith in
          among_front (waiting_below 0 top splits (waiting_of old)) (halves_for splits raised) k q
          (subst (λ (i : ℕ). is_among (waiting_below 0 top splits (waiting_of old)) i q ≡ true) z
          (among_below 0 top splits (waiting_of old) k split q at
          (subst (λ (l : List Name). IsIn q l) (sym (ap (lows_at (waiting_of old)) z ∙ waiting_at_is old k)) (is_waiting (row_of old k) q c there waits))
          (ap₂ (λ (a b : Bool). a && not b) inside other)))

  no_wait : (k : ℕ) (q : Name) (c : Node) (split : NodeSplit) → slice_get splits k ≡ Some split → value_at q (row_of new k) ≡ Some c → IsBelowTop q → c.forced ≡ false
  no_wait k q c split at there inside = by_value (value_at q (row_of mid k)) refl (sym (is.cleared.each k q) ∙ there)
    where
      by_row : (n : Node) → value_at q (row_of mid k) ≡ Some n → is_among (due_for top splits raised old) k q ≡ false → (o : Option NodeSplit) → slice_get splits k ≡ o → RowIs old mid k o → n.forced ≡ false
      by_row n found none None e row = absurd (none-some split (sym e ∙ at))
      by_row n found none (Some s) e row = by_name (same_or_other s.middle q)
        where
          by_forced : (t : Bool) → n.forced ≡ t → value_at q (row_of old k) ≡ Some n → n.forced ≡ false
          by_forced false h was = h
          by_forced true h was = absurd (true≢false (sym (waits_among k q n s e was h inside) ∙ none))

          by_name : (s.middle ≡ q) ⊎ (is_eq (name_cmp s.middle q) ≡ false) → n.forced ≡ false
          by_name (inl same) =
              absurd (true≢false (sym (among_back (waiting_below 0 top splits (waiting_of old)) (halves_for splits raised) k q (subst (λ (y : Name). is_among (halves_for splits raised) k y ≡ true) same (split_among splits raised k s e).1)) ∙ none))
          by_name (inr apart) = by_forced n.forced refl (sym (row.1 q ∙ other_stays s.middle q (Some row.0) (value_at q (row_of old k)) apart) ∙ found)

      by_test : (n : Node) → value_at q (row_of mid k) ≡ Some n → (t : Bool) → is_among (due_for top splits raised old) k q ≡ t → forced_if t false n ≡ c → c.forced ≡ false
      by_test n found true among same = forced_false n c same
      by_test n found false among same = ap (λ (m : Node). m.forced) (sym same) ∙ by_row n found among (slice_get splits k) refl (is.rows k (within_old k split at))

      by_value : (o : Option Node) → value_at q (row_of mid k) ≡ o → option_map (forced_if (is_among (due_for top splits raised old) k q) false) o ≡ Some c → c.forced ≡ false
      by_value None found h = absurd (none-some c h)
      by_value (Some n) found h = by_test n found (is_among (due_for top splits raised old) k q) refl (same_Some (forced_if (is_among (due_for top splits raised old) k q) false n) c h)

  -- ---- children

  -- the node of a level with a low is over each child
  child_over : (k : ℕ) (low q : Name) → IsSome (value_at low (row_of new (suc k))) → is_between (At low) (upper_edge (low_behind low (row_of new (suc k)))) q ≡ true → (n : Node) × IsOver (row_of new (suc k)) q (low, n)
  child_over k low q some inside = let n = some_there (row_of new (suc k)) low some in (n.0, over_within (row_of new (suc k)) q low n.0 (is.now.rising (suc k)) n.1 inside)

  split_here : (k : ℕ) → k < length splits → (split : NodeSplit) × (slice_get splits k ≡ Some split)
  split_here k lt = (get_or splits k top, slice_get-get_or splits k top lt)

  -- ---- the root

  root_from : AreFrom (length splits) (root_at (length splits) raised)
  root_from = by_raised raised
    where
      by_raised : (t : Bool) → AreFrom (length splits) (root_at (length splits) t)
      by_raised true = (le_refl (length splits), tt)
      by_raised false = tt

  root_children : raised ≡ true → (level : ℕ) → suc is.last ≡ level → AreChildrenLogged new (record { level = level; low = least } ∷ []) level least
  root_children up zero at = tt
  root_children up (suc k) at = λ q c there inside. (
    (let here : is.last ≡ k = omega (arith, at) in
        no_wait k q c top (subst (λ (i : ℕ). slice_get splits i ≡ Some top) here is.top_is) there (below_root q k c here there)),
    not_among (suc k) k q (record { level = suc k; low = least } ∷ []) (omega arith) (le_refl (suc k), tt),
  )
    where
      row_only : IsSome (value_at top.low (row_of old is.last)) → top.low ≡ least
      row_only h = is.only top.low up h

      below_root : (q : Name) (k : ℕ) (c : Node) → is.last ≡ k → value_at q (row_of new k) ≡ Some c → IsBelowTop q
      below_root q k c here there =
          let low : top.low ≡ least = row_only (there_is (row_of old is.last) top.low top_path.node top_path.over.there) in
          over_top q (subst (λ (y : Name). IsOver (row_of old is.last) q (y, top_path.node)) (sym low)
          (only_over (row_of old is.last) q top_path.node (subst (λ (y : Name). value_at y (row_of old is.last) ≡ Some top_path.node) low top_path.over.there) (λ r h. is.only r up h)))

  order_root : AreInOrder new (root_at (length splits) raised)
  order_root = by_raised raised refl
    where
      by_raised : (t : Bool) → raised ≡ t → AreInOrder new (root_at (length splits) t)
      by_raised true up = (is.root up, root_children up (length splits) is.last_is, tt)
      by_raised false up = tt

  -- ---- the halves

  -- both halves of a split are there
  low_there : (k : ℕ) (split : NodeSplit) → slice_get splits k ≡ Some split → IsSome (value_at split.low (row_of new k))
  low_there k split at = let left = is.middles k split at in kept k split.low (within_old k split at) (there_is (row_of old k) split.low left.0 left.1.there)

  middle_there : (k : ℕ) (split : NodeSplit) → slice_get splits k ≡ Some split → IsSome (value_at split.middle (row_of new k))
  middle_there k split at =
      subst IsSome (sym (is.cleared.each k split.middle)) (some_forced (is_among (due_for top splits raised old) k split.middle) (value_at split.middle (row_of mid k)) (put_there (slice_get splits k) refl (is.rows k (within_old k split at))))
    where
      put_there : (o : Option NodeSplit) → slice_get splits k ≡ o → RowIs old mid k o → IsSome (value_at split.middle (row_of mid k))
      put_there None e row = absurd (none-some split (sym e ∙ at))
      put_there (Some s) e row =
          let same : s ≡ split = same_Some s split (sym e ∙ at) in
          subst (λ (t : NodeSplit). IsSome (value_at t.middle (row_of mid k))) same (subst IsSome (sym (row.1 s.middle ∙ same_gets s.middle (Some row.0) (value_at s.middle (row_of old k)))) refl)

  -- the children of a half
  half_children : (k : ℕ) (level : ℕ) (low : Name) (split : NodeSplit) (rest : List NodeAt) → slice_get splits level ≡ Some split → (low ≡ split.low) ⊎ (low ≡ split.middle) → AreFrom level rest → AreChildrenLogged new rest level low
  half_children k zero low split rest at side all = tt
  half_children _ (suc k) low split rest at side all = λ q c there inside. (
    (let below = split_here k (let lt = slice_get_within splits (suc k) split at in omega (arith, lt)) in no_wait k q c below.0 below.1 there (by_side q side inside)),
    not_among (suc k) k q rest (omega arith) all,
  )
    where
      lt : suc k < length old
      lt = within_old (suc k) split at

      left : (node : Node) × IsOver (row_of old (suc k)) split.middle (split.low, node)
      left = is.middles (suc k) split at

      low_new : IsSome (value_at split.low (row_of new (suc k)))
      low_new = low_there (suc k) split at

      middle_new : IsSome (value_at split.middle (row_of new (suc k)))
      middle_new = middle_there (suc k) split at

      by_side : (q : Name) → (low ≡ split.low) ⊎ (low ≡ split.middle) → is_between (At low) (upper_edge (low_behind low (row_of new (suc k)))) q ≡ true → IsBelowTop q
      by_side q (inl e) inside =
          let over = child_over k split.low q low_new (subst (λ (y : Name). is_between (At y) (upper_edge (low_behind y (row_of new (suc k)))) q ≡ true) e inside) in
          let was = over_old (suc k) q split.low over.0 lt (there_is (row_of old (suc k)) split.low left.0 left.1.there) over.1 in
          split_below (suc k) q was.0 split at was.1
      by_side q (inr e) inside =
          let over = child_over k split.middle q middle_new (subst (λ (y : Name). is_between (At y) (upper_edge (low_behind y (row_of new (suc k)))) q ≡ true) e inside) in
          let was = over_left (suc k) q over.0 split at over.1 in
          split_below (suc k) q was.0 split at was.1

  abbrev AreRest : ℕ → List NodeSplit → Type 0
  AreRest level rest = ((k : ℕ) (split : NodeSplit) → slice_get rest k ≡ Some split → slice_get splits (level + k) ≡ Some split) × (level + length rest ≡ length splits)

  rest_next : (level : ℕ) (s : NodeSplit) (rest : List NodeSplit) → AreRest level (s ∷ rest) → AreRest (suc level) rest
  rest_next level s rest all = (
    λ k split at. subst (λ (i : ℕ). slice_get splits i ≡ Some split) (let e : level + suc k ≡ suc level + k = omega arith in e) (all.0 (suc k) split at),
    (let e : suc level + length rest ≡ level + suc (length rest) = omega arith in e) ∙ all.1,
  )

  rest_first : (level : ℕ) (s : NodeSplit) (rest : List NodeSplit) → AreRest level (s ∷ rest) → slice_get splits level ≡ Some s
  rest_first level s rest all = subst (λ (i : ℕ). slice_get splits i ≡ Some s) (let e : level + 0 ≡ level = omega arith in e) (all.0 0 s refl)

  halves_rest : (level : ℕ) (rest : List NodeSplit) → AreRest level rest → AreFrom level (halves_of level rest ++ root_at (length splits) raised)
  halves_rest level rest all =
      all_append (λ (n : NodeAt). level ≤ n.level) (halves_of level rest) (root_at (length splits) raised) (halves_from level rest)
      (from_lower level (length splits) (root_at (length splits) raised) (let e = all.1 in omega (arith, e)) root_from)

  order_halves : (level : ℕ) (rest : List NodeSplit) → AreRest level rest → AreInOrder new (halves_of level rest ++ root_at (length splits) raised)
  order_halves level [] all = order_root
  order_halves level (s ∷ rest) all =
      let later = halves_rest (suc level) rest (rest_next level s rest all) in
      let right : AreFrom level (record { level = level; low = s.middle } ∷ halves_of (suc level) rest ++ root_at (length splits) raised) = (le_refl level, from_lower level (suc level) (halves_of (suc level) rest ++ root_at (length splits) raised) (omega arith) later) in
      let first = rest_first level s rest all in (
        low_there level s first,
        half_children 0 level s.low s (record { level = level; low = s.low } ∷ record { level = level; low = s.middle } ∷ halves_of (suc level) rest ++ root_at (length splits) raised) first (inl refl) (le_refl level, right),
        (
          middle_there level s first,
          half_children 0 level s.middle s (record { level = level; low = s.middle } ∷ halves_of (suc level) rest ++ root_at (length splits) raised) first (inr refl) right,
          order_halves (suc level) rest (rest_next level s rest all),
        ),
      )

  -- ---- the nodes that wait

  -- a name of a node that waits below the top, of a level with a split, whose half it is not
  abbrev Waits : ℕ → NodeSplit → Name → Type 0
  Waits level s w = IsSome (value_at w (row_of old level)) × (is_logged_before top s w ≡ true)

  -- a node over a half's name, or over its middle, is the one that is split above it
  over_low : (k : ℕ) (w : Name) (m : Node) (below s : NodeSplit) → slice_get splits k ≡ Some below → slice_get splits (suc k) ≡ Some s → IsOver (row_of old (suc k)) below.low (w, m) → w ≡ s.low
  over_low k w m below s at above over =
      let lower : IsSplitFor (row_of old k) x below = is.path k below at in
      let upper : IsSplitFor (row_of old (suc k)) x s = is.path (suc k) s above in
      over_once (row_of old (suc k)) below.low (w, m) (s.low, upper.node) over
      (down_over old k (suc k) x (below.low, lower.node) (s.low, upper.node) is.was (omega arith) lower.over upper.over)

  over_middle : (k : ℕ) (w : Name) (m : Node) (below s : NodeSplit) → slice_get splits k ≡ Some below → slice_get splits (suc k) ≡ Some s → IsOver (row_of old (suc k)) below.middle (w, m) → w ≡ s.low
  over_middle k w m below s at above over =
      let lower : IsSplitFor (row_of old k) x below = is.path k below at in
      let upper : IsSplitFor (row_of old (suc k)) x s = is.path (suc k) s above in
      let left = is.middles k below at in
      over_once (row_of old (suc k)) below.middle (w, m) (s.low, upper.node) over
      (up_over old k (suc k) below.middle (below.low, left.0) (s.low, upper.node) is.was (omega arith) left.1
      (down_over old k (suc k) x (below.low, lower.node) (s.low, upper.node) is.was (omega arith) lower.over upper.over))

  not_root : (k : ℕ) (q : Name) → k < length splits → is_among (root_at (length splits) raised) k q ≡ false
  not_root k q lt = not_among (length splits) k q (root_at (length splits) raised) lt root_from

  none_of : (a b : List NodeAt) (k : ℕ) (q : Name) → is_among a k q ≡ false → is_among b k q ≡ false → is_among (a ++ b) k q ≡ false
  none_of a b k q first second = list_any-append (λ (n : NodeAt). (n.level == k) && is_same_name n.low q) a b ∙ ap₂ (λ (s t : Bool). s || t) first second

  -- the children of a node that waits do not, and are no halves
  wait_children : (level : ℕ) (w : Name) (s : NodeSplit) (rest : List NodeAt) → slice_get splits level ≡ Some s → Waits level s w → AreFrom level rest → AreChildrenLogged new (rest ++ halves_for splits raised) level w
  wait_children zero w s rest at waits all = tt
  wait_children (suc k) w s rest at waits all = λ q c there inside. by_over q c there (child_over k w q (kept (suc k) w lt waits.0) inside)
    where
      lt : suc k < length old
      lt = within_old (suc k) s at

      few : suc k < length splits
      few = slice_get_within splits (suc k) s at

      below : (split : NodeSplit) × (slice_get splits k ≡ Some split)
      below = split_here k (let up = few in omega (arith, up))

      parts : IsBelowTop w × (not (is_same_name w s.low) ≡ true)
      parts = and_parts (is_between (At top.low) (upper_edge top.high) w) (not (is_same_name w s.low)) waits.1

      other : {A : Type 0} → w ≡ s.low → A
      other same = absurd (true≢false (sym parts.1 ∙ ap not (subst (λ (y : Name). is_same_name w y ≡ true) same (ap is_eq (name_same w)))))

      not_low : (q : Name) (m : Node) → IsOver (row_of old (suc k)) q (w, m) → is_same_name below.0.low q ≡ false
      not_low q m over = by_test (is_same_name below.0.low q) refl
        where
          by_test : (t : Bool) → is_same_name below.0.low q ≡ t → t ≡ false
          by_test false h = refl
          by_test true h = other (over_low k w m below.0 s below.1 at (subst (λ (y : Name). IsOver (row_of old (suc k)) y (w, m)) (sym (same_of below.0.low q h)) over))

      not_middle : (q : Name) (m : Node) → IsOver (row_of old (suc k)) q (w, m) → is_same_name below.0.middle q ≡ false
      not_middle q m over = by_test (is_same_name below.0.middle q) refl
        where
          by_test : (t : Bool) → is_same_name below.0.middle q ≡ t → t ≡ false
          by_test false h = refl
          by_test true h = other (over_middle k w m below.0 s below.1 at (subst (λ (y : Name). IsOver (row_of old (suc k)) y (w, m)) (sym (same_of below.0.middle q h)) over))

      by_over : (q : Name) (c : Node) → value_at q (row_of new k) ≡ Some c → (n : Node) × IsOver (row_of new (suc k)) q (w, n) → (c.forced ≡ false) × (is_among (rest ++ halves_for splits raised) k q ≡ false)
      by_over q c there over =
          let was = over_old (suc k) q w over.0 lt waits.0 over.1 in
          let end = is.last_is in (
            no_wait k q c below.0 below.1 there (waiting_below_top (suc k) q w was.0 (let up = few in omega (arith, up, end)) parts.0 was.1),
            none_of rest (halves_for splits raised) k q (not_among (suc k) k q rest (omega arith) all)
                (none_of (halves_of 0 splits) (root_at (length splits) raised) k q
                (subst (λ (i : ℕ). is_among (halves_of 0 splits) i q ≡ false) (let e : 0 + k ≡ k = omega arith in e) (halves_not 0 splits k below.0 q below.1 (not_low q was.0 was.1) (not_middle q was.0 was.1)))
                (not_root k q (let up = few in omega (arith, up)))),
          )

  order_block : (level : ℕ) (s : NodeSplit) (names : List Name) (more : List NodeAt) → slice_get splits level ≡ Some s → AllByRecursion (Waits level s) names → AreFrom level more → AreInOrder new (more ++ halves_for splits raised) →
      AreInOrder new (at_level level names ++ more ++ halves_for splits raised)
  order_block level s [] more at all from order = order
  order_block level s (w ∷ names) more at all from order = (
    kept level w (within_old level s at) all.0.0,
    wait_children level w s (record { level = level; low = w } ∷ at_level level names ++ more) at all.0
        (le_refl level, all_append (λ (n : NodeAt). level ≤ n.level) (at_level level names) more (at_level_from level names) from),
    order_block level s names more at all.1 from order,
  )

  names_wait : (level : ℕ) (s : NodeSplit) → AllByRecursion (Waits level s) (filter (is_logged_before top s) (lows_at (waiting_of old) level))
  names_wait level s =
      subst (λ (l : List Name). AllByRecursion (Waits level s) (filter (is_logged_before top s) l)) (sym (waiting_at_is old level))
      (both_all (λ (w : Name). IsSome (value_at w (row_of old level))) (λ w. is_logged_before top s w ≡ true) (filter (is_logged_before top s) (waiting_in (row_of old level)))
      (all_kept (λ (w : Name). IsSome (value_at w (row_of old level))) (is_logged_before top s) (waiting_in (row_of old level))
      (all_kept (λ (w : Name). IsSome (value_at w (row_of old level))) (waits_in (row_of old level)) (keys_of (row_of old level)) (keys_there (row_of old level))))
      (filter_all_pass (is_logged_before top s) (waiting_in (row_of old level))))

  order_below : (level : ℕ) (rest : List NodeSplit) → AreRest level rest → AreInOrder new (halves_for splits raised) → AreInOrder new (waiting_below level top rest (waiting_of old) ++ halves_for splits raised)
  order_below level [] all order = order
  order_below level (s ∷ rest) all order =
      order_block level s (filter (is_logged_before top s) (lows_at (waiting_of old) level)) (waiting_below (suc level) top rest (waiting_of old)) (rest_first level s rest all) (names_wait level s)
      (from_lower level (suc level) (waiting_below (suc level) top rest (waiting_of old)) (omega arith) (below_from (suc level) top rest (waiting_of old)))
      (order_below (suc level) rest (rest_next level s rest all) order)

  pub all_ordered : AreInOrder new (due_for top splits raised old)
  all_ordered =
      let all : AreRest 0 splits = (λ k split at. subst (λ (i : ℕ). slice_get splits i ≡ Some split) (let e : k ≡ 0 + k = omega arith in e) at, (let e : 0 + length splits ≡ length splits = omega arith in e)) in
      order_below 0 splits all (order_halves 0 splits all)
