-- The splits for a name's slot, and the nodes of a tree in which they were made.
use Rattle.std.proofs.Common.{◌≡◌, ◌≤◌, ◌<◌, ◌+◌, ◌-◌, ◌/◌, ◌++◌, ℕ, zero, suc, nat_lt, List, [], ◌∷◌, Bool, true, false, cond, Option, None, Some, IsSome, filter, length, get_or, refl, ap, sym, subst, ◌∙◌, arith, unwrap_or}
use Rattle.std.specs.List.{slice_get, AllByRecursion}
use Rattle.std.specs.Map.{keys_of}
use Rattle.std.proofs.lemmas.Bool.{true≢false, ltb-true, ltb-false, eqb-true, eq-eqb}
use Rattle.std.proofs.lemmas.List.{get_or-take, length-map, length-append, append-nil}
use Rattle.std.proofs.Math.Seq.{get_or-append_seam}
use Rattle.std.proofs.lemmas.Option.{none-some, same_Some, slice_get-get_or, slice_get_within, get_or_from_slice_get}
use Rattle.je_order.specs.Edges.{is_below, is_between}
use Rattle.je_order.specs.Edges.Edge.{At, Behind}
use Rattle.je_order.specs.declared.name.Name.{Name}
use Rattle.je_order.proofs.Lists.{filter_all_pass, all_weaker, all_kept}
use Rattle.record_map.specs.Cells.{value_at, IsRising, last_of, upper_edge}
use Rattle.tree_nodes.specs.declared.node.Node.{Node}
use Rattle.tree_nodes.specs.Nodes.{NodeRow, least, IsOver, low_behind}
use Rattle.tree_nodes.specs.Levels.{row_of}
use Rattle.tree_nodes.specs.Lows.{lows_of, lows_at, low_up_to, low_after}
use Rattle.tree_nodes.proofs.LevelLaws.{is_level}
use Rattle.tree_nodes.proofs.LowLaws.{lows_at_is, low_after_is}
use Rattle.db_tree.specs.declared.node_split.NodeSplit.{NodeSplit}
use Rattle.db_tree.specs.Images.{Placed}
use Rattle.db_tree.specs.Splits.{names_within, middle_name, split_at, split_over, then_above, splits_from, lows_split, is_raised, lows_behind, one_if}
use Rattle.db_tree.specs.Splitting.{IsRaisedFrom, AreGrown}
use Rattle.db_tree.proofs.Over.{there_is, first_is}
use Rattle.db_tree.proofs.Within.{over_within}
use Rattle.tree_images.specs.Fits.{AreImaged}
use Rattle.tree_images.specs.PlaceLaws.{home_with, AreSplitsOf, SplitsAreOfNodes, GrownNodesAreImaged}
use Rattle.tree_images.proofs.Grown.{HasGrown, RowIs, row_ended, rows_from, height_split, homes_agree, grown_imaged}
use Rattle.tree_images.proofs.Longer.{imaged_stays}
use Rattle.tree_images.proofs.Lows.{there_later}
use Rattle.tree_images.proofs.NodeSteps.{some_there}

-- ---- levels

height_raised : (raised : Bool) (mid new : List NodeRow) → IsRaisedFrom raised mid new → length new ≡ length mid + one_if raised
height_raised true mid new is = is.1 ∙ (let e : suc (length mid) ≡ length mid + 1 = omega arith in e)
height_raised false mid new is = ap (λ (r : List NodeRow). length r) is ∙ (let e : length mid ≡ length mid + 0 = omega arith in e)

pub row_raised : (raised : Bool) (mid new : List NodeRow) (k : ℕ) → IsRaisedFrom raised mid new → k < length mid → row_of new k ≡ row_of mid k
row_raised true mid new k is lt = sym (get_or-take (length mid) new k [] lt) ∙ ap (λ (r : List NodeRow). row_of r k) is.2
row_raised false mid new k is lt = ap (λ (r : List NodeRow). row_of r k) is

pub lows_height : (rows : List NodeRow) → length (lows_of rows) ≡ length rows
lows_height rows = length-map rows keys_of

-- the lows of a root that was put above the top
root_lows : (splits : List NodeSplit) (raised : Bool) (old new : List NodeRow) → raised ≡ is_raised splits (lows_of old) → raised ≡ true → lows_of new ≡ lows_behind splits (lows_of old) → length new ≡ length old + one_if raised →
    keys_of (row_of new (length old)) ≡ least ∷ []
root_lows splits raised old new same is lows height =
    sym (lows_at_is new (length old))
    ∙ ap (λ (l : List (List Name)). lows_at l (length old)) lows_are
    ∙ ap (λ (n : ℕ). lows_at (before ++ (least ∷ []) ∷ []) n) (sym count)
    ∙ get_or-append_seam before (least ∷ []) [] []
  where
    before : List (List Name)
    before = lows_split 0 splits (lows_of old)

    lows_are : lows_of new ≡ before ++ (least ∷ []) ∷ []
    lows_are = lows ∙ ap (λ (t : Bool). cond t (before ++ (least ∷ []) ∷ []) before) (sym same ∙ is)

    count : length before ≡ length old
    count =
        let up : length new ≡ length old + 1 = height ∙ ap (λ (t : Bool). length old + one_if t) is in
        let whole : length (lows_of new) ≡ length before + 1 = ap (λ (l : List (List Name)). length l) lows_are ∙ length-append before ((least ∷ []) ∷ []) in
        let levels : length (lows_of new) ≡ length new = lows_height new in
        omega (arith, up, whole, levels)

-- ---- the splits

pub splits_few : (splits : List NodeSplit) (rows : List NodeRow) → AreSplitsOf splits rows → length splits ≤ length rows
splits_few splits rows are = by_test (nat_lt (length rows) (length splits)) refl
  where
    any : NodeSplit
    any = record { low = least; middle = least; high = None }

    by_test : (t : Bool) → nat_lt (length rows) (length splits) ≡ t → length splits ≤ length rows
    by_test false h = ltb-false (length rows) (length splits) h
    by_test true h =
        let split = get_or splits (length rows) any in
        let over = are (length rows) split (slice_get-get_or splits (length rows) any (ltb-true (length rows) (length splits) h)) in
        let lt = is_level rows (length rows) split.low (there_is (row_of rows (length rows)) split.low over.0 over.1.there) in
        absurd (omega (arith, lt))

pub height_grown : (splits : List NodeSplit) (raised : Bool) (old new : List NodeRow) → AreGrown splits raised old new → length new ≡ length old + one_if raised
height_grown splits raised old new grown = height_raised raised grown.mid new grown.root ∙ ap (λ (n : ℕ). n + one_if raised) (height_split splits old grown.mid grown.split)

-- each level is an old one, or with the half of a node put in
pub rows_grown : (splits : List NodeSplit) (raised : Bool) (old new : List NodeRow) → AreGrown splits raised old new → (k : ℕ) → k < length old → RowIs old new k (slice_get splits k)
rows_grown splits raised old new grown k lt =
    row_ended old grown.mid new k (slice_get splits k) (row_raised raised grown.mid new k grown.root (subst (λ (n : ℕ). k < n) (sym (height_split splits old grown.mid grown.split)) lt)) (rows_from splits old grown.mid grown.split k)

pub grown_nodes : GrownNodesAreImaged
grown_nodes es home last d due splits raised first later old new was now grown same lows splits_are numbers lt enough fits whole imaged =
    grown_imaged es home d due first later splits raised old new has whole
    (subst (λ (l : Placed). AreImaged l (home_with home first d splits) later d [] old) (append-nil es)
    (imaged_stays es [] home (home_with home first d splits) last later d [] old (homes_agree home last first d splits lt) (omega (arith, lt, enough)) imaged))
  where
    height : length new ≡ length old + one_if raised
    height = height_grown splits raised old new grown

    lows_count : length (lows_of old) ≡ length old
    lows_count = lows_height old

    has : HasGrown first later splits raised old new
    has = record {
      was = was;
      now = now;
      rows = rows_grown splits raised old new grown;
      height = height;
      splits_are = splits_are;
      numbers = numbers;
      low_enough = enough;
      fits = fits;
      few = splits_few splits old splits_are;
      all = λ is. eqb-true (length splits) (length (lows_of old)) (sym same ∙ is) ∙ lows_count;
      some = λ is all. true≢false (sym (eq-eqb (length splits) (length (lows_of old)) (all ∙ sym lows_count)) ∙ sym same ∙ is);
      root = λ is. root_lows splits raised old new same is lows height;
    }

-- ---- the splits for a name

get_holds : {A : Type 0} (P : A → Type 0) (xs : List A) (i : ℕ) (x : A) → AllByRecursion P xs → slice_get xs i ≡ Some x → P x
get_holds P [] i x all is = absurd (none-some x is)
get_holds P (y ∷ xs) zero x all is = subst P (same_Some y x is) all.0
get_holds P (y ∷ xs) (suc i) x all is = get_holds P xs i x all.1 is

pub last_holds : {A : Type 0} (P : A → Type 0) (xs : List A) (x : A) → AllByRecursion P xs → last_of xs ≡ Some x → P x
last_holds P [] x all is = absurd (none-some x is)
last_holds P (y ∷ []) x all is = subst P (same_Some y x is) all.0
last_holds P (y ∷ z ∷ xs) x all is = last_holds P (z ∷ xs) x all.1 is

pub keys_there : (row : NodeRow) → AllByRecursion (λ (y : Name). IsSome (value_at y row)) (keys_of row)
keys_there [] = tt
keys_there (e ∷ row) = (there_is (e ∷ row) e.0 e.1 (first_is e row), all_weaker (λ (y : Name). IsSome (value_at y row)) (λ y. IsSome (value_at y (e ∷ row))) (λ y h. there_later e row y h) (keys_of row) (keys_there row))

-- the low up to a name is one
pub low_there : (row : NodeRow) (x : Name) → IsSome (value_at least row) → IsSome (value_at (low_up_to x (keys_of row)) row)
low_there row x some = by_last (last_of lows) refl
  where
    lows : List Name
    lows = filter (λ (low : Name). is_below (Behind x) low) (keys_of row)

    by_last : (o : Option Name) → last_of lows ≡ o → IsSome (value_at (unwrap_or o least) row)
    by_last None is = some
    by_last (Some low) is =
        last_holds (λ (y : Name). IsSome (value_at y row)) lows low (all_kept (λ (y : Name). IsSome (value_at y row)) (λ low. is_below (Behind x) low) (keys_of row) (keys_there row)) is

-- a split is of the node over its middle
split_is : (fanout : ℕ) (x : Name) (names : List Name) (row : NodeRow) (split : NodeSplit) → IsRising row → IsSome (value_at least row) → split_over fanout x names (keys_of row) ≡ Some split →
    (node : Node) × IsOver row split.middle (split.low, node)
split_is fanout x names row split up some is = by_middle (middle_name fanout inside) refl is
  where
    low : Name
    low = low_up_to x (keys_of row)

    inside : List Name
    inside = names_within x (keys_of row) names

    passes : (middle : Name) → middle_name fanout inside ≡ Some middle → is_between (At low) (upper_edge (low_behind low row)) middle ≡ true
    passes middle at =
        ap (λ (o : Option Name). is_between (At low) (upper_edge o) middle) (low_after_is low row)
        ∙ by_test (nat_lt (length inside) fanout) at
      where
        by_test : (t : Bool) → cond t None (slice_get inside (length inside - length inside / 2)) ≡ Some middle → is_between (At low) (upper_edge (low_after low (keys_of row))) middle ≡ true
        by_test true h = absurd (none-some middle h)
        by_test false h =
            get_holds (λ (y : Name). is_between (At low) (upper_edge (low_after low (keys_of row))) y ≡ true) inside (length inside - length inside / 2) middle
            (filter_all_pass (is_between (At low) (upper_edge (low_after low (keys_of row)))) names) h

    by_middle : (o : Option Name) → middle_name fanout inside ≡ o → split_at low (low_after low (keys_of row)) o ≡ Some split → (node : Node) × IsOver row split.middle (split.low, node)
    by_middle None at h = absurd (none-some split h)
    by_middle (Some middle) at h =
        let made = some_there row low (low_there row x some) in
        let same = same_Some (record { low = low; middle = middle; high = low_after low (keys_of row) }) split h in
        subst (λ (s : NodeSplit). (node : Node) × IsOver row s.middle (s.low, node)) same (made.0, over_within row middle low made.0 up made.1 (passes middle at))

-- each split for a name is one of its own level
pub record IsFor (fanout : ℕ) (x : Name) (lows : List (List Name)) (k : ℕ) (split : NodeSplit) : Type 0 where
  pub keys : List Name
  pub names : List Name
  pub level : slice_get lows k ≡ Some keys
  pub made : split_over fanout x names keys ≡ Some split

pub split_for : (fanout : ℕ) (x : Name) (names : List Name) (lows : List (List Name)) (k : ℕ) (split : NodeSplit) → slice_get (splits_from fanout x names lows) k ≡ Some split → IsFor fanout x lows k split
split_for fanout x names [] k split is = absurd (none-some split is)
split_for fanout x names (keys ∷ above) k split is = by_split (split_over fanout x names keys) refl k is (λ j h. split_for fanout x keys above j split h)
  where
    by_split : (o : Option NodeSplit) → split_over fanout x names keys ≡ o → (k : ℕ) → slice_get (then_above o (splits_from fanout x keys above)) k ≡ Some split →
        ((j : ℕ) → slice_get (splits_from fanout x keys above) j ≡ Some split → IsFor fanout x above j split) → IsFor fanout x (keys ∷ above) k split
    by_split None made k h rest = absurd (none-some split h)
    by_split (Some first) made zero h rest = record { keys = keys; names = names; level = refl; made = made ∙ h }
    by_split (Some first) made (suc k) h rest = let is_for : IsFor fanout x above k split = rest k h in record { keys = is_for.keys; names = is_for.names; level = is_for.level; made = is_for.made }

pub splits_of_nodes : SplitsAreOfNodes
splits_of_nodes fanout x cells rows parts k split is = by_for (split_for fanout x (keys_of cells) (lows_of rows) k split is)
  where
    by_for : IsFor fanout x (lows_of rows) k split → (node : Node) × IsOver (row_of rows k) split.middle (split.low, node)
    by_for f =
        let lt : k < length rows = subst (λ (n : ℕ). k < n) (lows_height rows) (slice_get_within (lows_of rows) k f.keys f.level) in
        let keys : f.keys ≡ keys_of (row_of rows k) = sym (get_or_from_slice_get (lows_of rows) k f.keys [] f.level) ∙ lows_at_is rows k in
        split_is fanout x f.names (row_of rows k) split (parts.rising k) (parts.parts k lt) (ap (split_over fanout x f.names) (sym keys) ∙ f.made)
