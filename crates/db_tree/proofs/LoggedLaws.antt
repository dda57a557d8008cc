-- Which nodes are logged where nodes are split.
use Rattle.std.proofs.Common.{◌≡◌, ◌&&◌, ◌-◌, ◌+◌, ◌<◌, ◌≤◌, ◌++◌, ◌∷◌, not, [], ℕ, suc, List, Bool, true, false, cond, Option, None, Some, IfSome, option_copied, Bor, Less, filter, map, drop, get_or, length, refl, ap, ap₂, sym, subst, ◌∙◌, arith}
use Rattle.std.specs.Map.{keys_of}
use Rattle.std.proofs.lemmas.List.{append_assoc, append-nil, drop_more, drop_all}
use Rattle.je_order.specs.Order.{name_cmp}
use Rattle.je_order.specs.Edges.{is_between}
use Rattle.je_order.specs.Edges.Edge.{At}
use Rattle.je_order.specs.declared.name.Name.{Name}
use Rattle.node_core.specs.declared.slot.Slot.{Slot}
use Rattle.record_map.specs.Cells.{between_edges, upper_edge, last_of}
use Rattle.tree_nodes.specs.Nodes.{NodeRow}
use Rattle.tree_nodes.specs.Levels.{row_of, slot_of}
use Rattle.tree_nodes.proofs.LowLaws.{keys_passed}
use Rattle.db_tree.specs.declared.node_at.NodeAt.{NodeAt}
use Rattle.db_tree.specs.declared.node_split.NodeSplit.{NodeSplit}
use Rattle.db_tree.specs.Waiting.{is_same_name, is_logged_before, waits_in, waiting_in, waiting_of, at_level, waiting_below, halves_of}
use Rattle.db_tree.proofs.ImageLaws.{slot_names}
use Rattle.db_tree.proofs.WaitCounts.{waiting_at_is}

-- ---- the nodes of a level

-- whether a node of a level waits, and is not the one that is split
abbrev pub waits_beside : NodeRow → NodeSplit → Name → Bool
waits_beside row split y = waits_in row y && not (is_same_name y split.low)

pub low_passes : (p : Name → Bool) (level : ℕ) (low : Name) (t : Bool) → p low ≡ t → at_level level (filter p (low ∷ [])) ≡ cond t (record { level = level; low = low } ∷ []) []
low_passes p level low true is = ap (λ (s : Bool). at_level level (cond s (low ∷ []) [])) is
low_passes p level low false is = ap (λ (s : Bool). at_level level (cond s (low ∷ []) [])) is

-- tests in another order
passed_same : (b w n : Name → Bool) (names : List Name) → filter (λ y. w y && n y) (filter b names) ≡ filter (λ y. b y && n y) (filter w names)
passed_same b w n [] = refl
passed_same b w n (x ∷ names) = by_tests (b x) (w x) refl refl (passed_same b w n names)
  where
    wn : List Name → List Name
    wn l = filter (λ (y : Name). w y && n y) l

    bn : List Name → List Name
    bn l = filter (λ (y : Name). b y && n y) l

    by_tests : (s t : Bool) → b x ≡ s → w x ≡ t → wn (filter b names) ≡ bn (filter w names) → wn (cond (b x) (x ∷ filter b names) (filter b names)) ≡ bn (cond (w x) (x ∷ filter w names) (filter w names))
    by_tests true true is_b is_w rest =
        ap (λ (s : Bool). wn (cond s (x ∷ filter b names) (filter b names))) is_b
        ∙ ap₂ (λ (t : Bool) (l : List Name). cond (t && n x) (x ∷ l) l) is_w rest
        ∙ sym (ap (λ (t : Bool). bn (cond t (x ∷ filter w names) (filter w names))) is_w ∙ ap (λ (s : Bool). cond (s && n x) (x ∷ bn (filter w names)) (bn (filter w names))) is_b)
    by_tests true false is_b is_w rest =
        ap (λ (s : Bool). wn (cond s (x ∷ filter b names) (filter b names))) is_b
        ∙ ap (λ (t : Bool). cond (t && n x) (x ∷ wn (filter b names)) (wn (filter b names))) is_w
        ∙ rest
        ∙ sym (ap (λ (t : Bool). bn (cond t (x ∷ filter w names) (filter w names))) is_w)
    by_tests false true is_b is_w rest =
        ap (λ (s : Bool). wn (cond s (x ∷ filter b names) (filter b names))) is_b
        ∙ rest
        ∙ sym (ap (λ (t : Bool). bn (cond t (x ∷ filter w names) (filter w names))) is_w ∙ ap (λ (s : Bool). cond (s && n x) (x ∷ bn (filter w names)) (bn (filter w names))) is_b)
    by_tests false false is_b is_w rest =
        ap (λ (s : Bool). wn (cond s (x ∷ filter b names) (filter b names))) is_b ∙ rest ∙ sym (ap (λ (t : Bool). bn (cond t (x ∷ filter w names) (filter w names))) is_w)

-- those of the slots from one edge on
pub waiting_found : (row : NodeRow) (level : ℕ) (top split : NodeSplit) (high : Option Name) (slots : List Slot) (lows : List Name) → high ≡ top.high → slots ≡ map slot_of (between_edges (At top.low) (upper_edge high) row) →
    lows ≡ map (λ (s : Slot). s.name) slots → at_level level (filter (waits_beside row split) lows) ≡ at_level level (filter (is_logged_before top split) (waiting_in row))
waiting_found row level top split high slots lows same are named =
    ap (λ (l : List Name). at_level level (filter (waits_beside row split) l))
    (named
    ∙ ap (map (λ (s : Slot). s.name)) are
    ∙ slot_names (between_edges (At top.low) (upper_edge high) row)
    ∙ keys_passed (is_between (At top.low) (upper_edge high)) row
    ∙ ap (λ (h : Option Name). filter (is_between (At top.low) (upper_edge h)) (keys_of row)) same)
    ∙ ap (at_level level) (passed_same (is_between (At top.low) (upper_edge top.high)) (waits_in row) (λ (y : Name). not (is_same_name y split.low)) (keys_of row))

-- a bound by reference
pub forward_is : (o : Option (Bor Name)) (h : Option Name) (low : Name) → option_copied o ≡ h → IfSome h (λ y. name_cmp low y ≡ Less) → IfSome o (λ y. name_cmp low y.now ≡ Less)
forward_is None h low is less = tt
forward_is (Some y) h low is less = subst (λ (g : Option Name). IfSome g (λ z. name_cmp low z ≡ Less)) (sym is) less

-- ---- level by level

split_left : (splits : List NodeSplit) (level : ℕ) (split : NodeSplit) → level < length splits → split ≡ get_or splits level split → drop level splits ≡ split ∷ drop (level + 1) splits
split_left splits level split within is = drop_more splits level split within ∙ ap (λ (s : NodeSplit). s ∷ drop (level + 1) splits) (sym is)

-- one level more
pub waiting_more : (rows : List NodeRow) (top split : NodeSplit) (splits : List NodeSplit) (level : ℕ) (before nodes all : List NodeAt) → level < length splits → split ≡ get_or splits level split →
    nodes ≡ before ++ at_level level (filter (is_logged_before top split) (waiting_in (row_of rows level))) → before ++ waiting_below level top (drop level splits) (waiting_of rows) ≡ all →
    nodes ++ waiting_below (level + 1) top (drop (level + 1) splits) (waiting_of rows) ≡ all
waiting_more rows top split splits level before nodes all within is pushed so_far =
    ap (λ (l : List NodeAt). l ++ waiting_below (level + 1) top (drop (level + 1) splits) (waiting_of rows)) pushed
    ∙ append_assoc before (at_level level (filter (is_logged_before top split) (waiting_in (row_of rows level)))) (waiting_below (level + 1) top (drop (level + 1) splits) (waiting_of rows))
    ∙ ap₂ (λ (l : List Name) (n : ℕ). before ++ (at_level level (filter (is_logged_before top split) l) ++ waiting_below n top (drop (level + 1) splits) (waiting_of rows))) (sym (waiting_at_is rows level)) next
    ∙ ap (λ (l : List NodeSplit). before ++ waiting_below level top l (waiting_of rows)) (sym (split_left splits level split within is))
    ∙ so_far
  where
    next : level + 1 ≡ suc level
    next = omega arith

pub waiting_end : (rows : List NodeRow) (top : NodeSplit) (splits : List NodeSplit) (level : ℕ) (nodes all : List NodeAt) → length splits ≤ level → nodes ++ waiting_below level top (drop level splits) (waiting_of rows) ≡ all → nodes ≡ all
waiting_end rows top splits level nodes all past so_far =
    sym (append-nil nodes) ∙ ap (λ (l : List NodeSplit). nodes ++ waiting_below level top l (waiting_of rows)) (sym (drop_all level splits past)) ∙ so_far

pub drop_none : (splits : List NodeSplit) → drop 0 splits ≡ splits
drop_none [] = refl
drop_none (s ∷ splits) = refl

pub halves_more : (split : NodeSplit) (splits : List NodeSplit) (level : ℕ) (before nodes all : List NodeAt) → level < length splits → split ≡ get_or splits level split → nodes ≡ before ++ halves_of level (split ∷ []) →
    before ++ halves_of level (drop level splits) ≡ all → nodes ++ halves_of (level + 1) (drop (level + 1) splits) ≡ all
halves_more split splits level before nodes all within is pushed so_far =
    ap (λ (l : List NodeAt). l ++ halves_of (level + 1) (drop (level + 1) splits)) pushed
    ∙ append_assoc before (halves_of level (split ∷ [])) (halves_of (level + 1) (drop (level + 1) splits))
    ∙ ap (λ (n : ℕ). before ++ (halves_of level (split ∷ []) ++ halves_of n (drop (level + 1) splits))) next
    ∙ ap (λ (l : List NodeSplit). before ++ halves_of level l) (sym (split_left splits level split within is))
    ∙ so_far
  where
    next : level + 1 ≡ suc level
    next = omega arith

pub halves_end : (splits : List NodeSplit) (level : ℕ) (nodes all : List NodeAt) → length splits ≤ level → nodes ++ halves_of level (drop level splits) ≡ all → nodes ≡ all
halves_end splits level nodes all past so_far = sym (append-nil nodes) ∙ ap (λ (l : List NodeSplit). nodes ++ halves_of level l) (sym (drop_all level splits past)) ∙ so_far

pub two_pushed : (before mid new : List NodeAt) (a b : NodeAt) → mid ≡ before ++ a ∷ [] → new ≡ mid ++ b ∷ [] → new ≡ before ++ a ∷ b ∷ []
two_pushed before mid new a b first next = next ∙ ap (λ (l : List NodeAt). l ++ b ∷ []) first ∙ append_assoc before (a ∷ []) (b ∷ [])

pub some_length : (splits : List NodeSplit) → (length splits ≡ 0 → ⊥) → 0 < length splits
some_length [] other = absurd (other refl)
some_length (s ∷ splits) other = omega arith

-- the topmost split
pub last_is : (splits : List NodeSplit) (top : NodeSplit) (n : ℕ) → n ≡ length splits - 1 → 0 < length splits → top ≡ get_or splits n top → last_of splits ≡ Some top
last_is [] top n at some is = absurd (omega (arith, some))
last_is (s ∷ []) top n at some is =
    let first : n ≡ 0 = omega (arith, at) in ap Some (sym (is ∙ ap (λ (k : ℕ). get_or (s ∷ []) k top) first))
last_is (s ∷ t ∷ splits) top n at some is =
    let next : n ≡ suc (length splits) = omega (arith, at) in
    let below : length splits ≡ length (t ∷ splits) - 1 = omega arith in
    let more : 0 < length (t ∷ splits) = omega arith in
    last_is (t ∷ splits) top (length splits) below more (is ∙ ap (λ (k : ℕ). get_or (s ∷ t ∷ splits) k top) next)
