-- Nodes that are split without being logged wait to be logged.
use Rattle.std.proofs.Common.{◌≡◌, ◌==◌, ◌&&◌, ◌||◌, ◌≤◌, ◌<◌, ◌⊎◌, ◌+◌, ◌++◌, ℕ, zero, suc, List, [], ◌∷◌, Bool, true, false, cond, None, Some, length, take, get_or, refl, ap, ap₂, sym, subst, ◌∙◌, inl, inr, arith}
use Rattle.std.proofs.lemmas.Bool.{true≢false, ne_eqb}
use Rattle.std.proofs.lemmas.List.{get_or_past, get_or_default, length-map}
use Rattle.std.specs.Map.{keys_of}
use Rattle.std.proofs.lemmas.List.Folds.{list_any-append}
use Rattle.std.proofs.lemmas.Option.{none-some, same_Some}
use Rattle.je_order.specs.declared.name.Name.{Name}
use Rattle.record_map.specs.Cells.{value_at}
use Rattle.tree_nodes.specs.declared.node.Node.{Node}
use Rattle.tree_nodes.specs.Nodes.{NodeRow, least}
use Rattle.tree_nodes.specs.Levels.{row_of, AreParts, HasPutAt}
use Rattle.tree_nodes.specs.Lows.{lows_of, with_root}
use Rattle.db_tree.specs.declared.node_at.NodeAt.{NodeAt}
use Rattle.db_tree.specs.declared.node_split.NodeSplit.{NodeSplit}
use Rattle.db_tree.specs.NodeSteps.{MayWait, AreWaiting, AreSplitWaiting, slot_splits}
use Rattle.db_tree.specs.Numbers.{AreNewNumbered}
use Rattle.db_tree.specs.Splits.{has_slot, splits_of, is_raised, lows_behind}
use Rattle.db_tree.specs.Shapes.{shape_in}
use Rattle.db_tree.specs.declared.tree.DbTree.{DbTree}
use Rattle.db_tree.proofs.PlaceLaws.{raised_is}
use Rattle.db_tree.specs.Splitting.{AreGrown}
use Rattle.db_tree.specs.Waiting.{is_same_name, is_among, halves_of, root_at}
use Rattle.db_tree.proofs.BackLaws.{take_whole}
use Rattle.db_tree.proofs.ForcedLaws.{one_at, one_cases}
use Rattle.db_tree.proofs.NodeSteps.{put_here, put_elsewhere, IsElsewhere}
use Rattle.db_tree.proofs.WaitLaws.{put_lows}

itself : (n : Node) → MayWait false n n
itself n = record { number = refl; last = refl; waits = λ h. absurd (true≢false (sym h)); still = λ h. h; mark = λ h. refl }

-- ---- one node

-- a node that is not named stays
stays_by : (nodes : List NodeAt) (rows : List NodeRow) (k : ℕ) (x : Name) (n : Node) → value_at x (row_of rows k) ≡ Some n → is_among nodes k x ≡ false → (m : Node) × (value_at x (row_of rows k) ≡ Some m) × MayWait (is_among nodes k x) m n
stays_by nodes rows k x n there none = (n, there, subst (λ (t : Bool). MayWait t n n) (sym none) (itself n))

pub waiting_none : (rows : List NodeRow) (level : ℕ) (low : Name) → value_at low (row_of rows level) ≡ None → AreWaiting (one_at level low) rows rows
waiting_none rows level low none = record { lows = refl; each = λ k x n there. by_case k x n there (one_cases level low k x) }
  where
    by_case : (k : ℕ) (x : Name) (n : Node) → value_at x (row_of rows k) ≡ Some n → ((level ≡ k) × (low ≡ x) × (is_among (one_at level low) k x ≡ true)) ⊎ ((is_among (one_at level low) k x ≡ false) × IsElsewhere level low k x) →
        (m : Node) × (value_at x (row_of rows k) ≡ Some m) × MayWait (is_among (one_at level low) k x) m n
    by_case k x n there (inl same) =
        absurd (none-some n (sym (subst (λ (i : ℕ). value_at x (row_of rows i) ≡ None) same.0 (subst (λ (y : Name). value_at y (row_of rows level) ≡ None) same.1 none)) ∙ there))
    by_case k x n there (inr other) = stays_by (one_at level low) rows k x n there other.0

pub waiting_past : (rows : List NodeRow) (level : ℕ) (low : Name) → length rows ≤ level → AreWaiting (one_at level low) rows rows
waiting_past rows level low past = waiting_none rows level low (ap (value_at low) (get_or_past rows level [] past))

pub waiting_put : (old new : List NodeRow) (level : ℕ) (low : Name) (m n : Node) → AreParts old → AreParts new → value_at low (row_of old level) ≡ Some m → HasPutAt old new level low n → n.number ≡ m.number → n.last ≡ m.last → n.forced ≡ true →
    AreWaiting (one_at level low) old new
waiting_put old new level low m n was are there put number last forced = record { lows = put_lows old new level low m n was are there put; each = λ k x o found. by_case k x o found (one_cases level low k x) }
  where
    may : (o : Node) → n ≡ o → MayWait true m o
    may o same = record {
      number = sym (ap (λ (i : Node). i.number) same) ∙ number;
      last = sym (ap (λ (i : Node). i.last) same) ∙ last;
      waits = λ h. sym (ap (λ (i : Node). i.forced) same) ∙ forced;
      still = λ h. absurd (true≢false (sym forced ∙ ap (λ (i : Node). i.forced) same ∙ h));
      mark = λ h. absurd (true≢false h);
    }

    by_case : (k : ℕ) (x : Name) (o : Node) → value_at x (row_of new k) ≡ Some o → ((level ≡ k) × (low ≡ x) × (is_among (one_at level low) k x ≡ true)) ⊎ ((is_among (one_at level low) k x ≡ false) × IsElsewhere level low k x) →
        (p : Node) × (value_at x (row_of old k) ≡ Some p) × MayWait (is_among (one_at level low) k x) p o
    by_case k x o found (inl same) =
        let found_here : value_at low (row_of new level) ≡ Some o = subst (λ (i : ℕ). value_at low (row_of new i) ≡ Some o) (sym same.0) (subst (λ (y : Name). value_at y (row_of new k) ≡ Some o) (sym same.1) found) in (
          m,
          subst (λ (i : ℕ). value_at x (row_of old i) ≡ Some m) same.0 (subst (λ (y : Name). value_at y (row_of old level) ≡ Some m) same.1 there),
          subst (λ (t : Bool). MayWait t m o) (sym same.2) (may o (same_Some n o (sym (put_here old new level low n put) ∙ found_here))),
        )
    by_case k x o found (inr other) =
        (o, sym (put_elsewhere old new level low n k x put other.1) ∙ found, subst (λ (t : Bool). MayWait t o o) (sym other.0) (itself o))

-- ---- several

pub waiting_begin : (rows : List NodeRow) → AreWaiting [] rows rows
waiting_begin rows = record { lows = refl; each = λ k x n there. (n, there, itself n) }

pub waiting_then : (a b : List NodeAt) (old mid new : List NodeRow) → AreWaiting a old mid → AreWaiting b mid new → AreWaiting (a ++ b) old new
waiting_then a b old mid new first second = record { lows = second.lows ∙ first.lows; each = λ k x n there. join k x n (second.each k x n there) }
  where
    both : (k : ℕ) (x : Name) (n m o : Node) → MayWait (is_among b k x) m n → MayWait (is_among a k x) o m → MayWait (is_among (a ++ b) k x) o n
    both k x n m o late early = record {
      number = late.number ∙ early.number;
      last = late.last ∙ early.last;
      waits = λ h. by_tests (is_among a k x) refl (is_among b k x) refl (sym (list_any-append (λ (p : NodeAt). (p.level == k) && is_same_name p.low x) a b) ∙ h);
      still = λ h. early.still (late.still h);
      mark = λ h. by_sides (is_among a k x) refl (is_among b k x) refl (sym (list_any-append (λ (p : NodeAt). (p.level == k) && is_same_name p.low x) a b) ∙ h);
    }
      where
        by_sides : (s : Bool) → is_among a k x ≡ s → (t : Bool) → is_among b k x ≡ t → (is_among a k x || is_among b k x) ≡ false → n.from ≡ o.from
        by_sides false is_a false is_b h = late.mark is_b ∙ early.mark is_a
        by_sides true is_a t is_b h = absurd (true≢false (sym (ap (λ (u : Bool). u || is_among b k x) is_a) ∙ h))
        by_sides false is_a true is_b h = absurd (true≢false (sym (ap₂ (λ (u w : Bool). u || w) is_a is_b) ∙ h))

        by_forced : (t : Bool) → n.forced ≡ t → m.forced ≡ true → n.forced ≡ true
        by_forced true h waits = h
        by_forced false h waits = absurd (true≢false (sym waits ∙ late.still h))

        by_tests : (s : Bool) → is_among a k x ≡ s → (t : Bool) → is_among b k x ≡ t → (is_among a k x || is_among b k x) ≡ true → n.forced ≡ true
        by_tests true is_a t is_b h = by_forced n.forced refl (early.waits is_a)
        by_tests false is_a true is_b h = late.waits is_b
        by_tests false is_a false is_b h = absurd (true≢false (sym h ∙ ap₂ (λ (s t : Bool). s || t) is_a is_b))

    join : (k : ℕ) (x : Name) (n : Node) → (m : Node) × (value_at x (row_of mid k) ≡ Some m) × MayWait (is_among b k x) m n → (o : Node) × (value_at x (row_of old k) ≡ Some o) × MayWait (is_among (a ++ b) k x) o n
    join k x n w = let v = first.each k x w.0 w.1 in (v.0, v.1, both k x n w.0 v.0 w.2 v.2)

-- the halves of the first splits, and of one more
halves_from : (level : ℕ) (splits : List NodeSplit) (i : ℕ) (s : NodeSplit) → i < length splits → s ≡ get_or splits i s →
    halves_of level (take (suc i) splits) ≡ halves_of level (take i splits) ++ record { level = level + i; low = s.low } ∷ record { level = level + i; low = s.middle } ∷ []
halves_from level [] i s lt is = absurd (omega (arith, lt))
halves_from level (t ∷ splits) zero s lt is =
    let e : level ≡ level + 0 = omega arith in
    ap₂ (λ (l : ℕ) (u : NodeSplit). record { level = l; low = u.low } ∷ record { level = l; low = u.middle } ∷ []) e (sym is)
halves_from level (t ∷ splits) (suc i) s lt is =
    let e : suc level + i ≡ level + suc i = omega arith in
    ap (λ (l : List NodeAt). record { level = level; low = t.low } ∷ record { level = level; low = t.middle } ∷ l)
    (halves_from (suc level) splits i s (omega (arith, lt)) is
    ∙ ap (λ (l : ℕ). halves_of (suc level) (take i splits) ++ record { level = l; low = s.low } ∷ record { level = l; low = s.middle } ∷ []) e)

pub halves_begin : (splits : List NodeSplit) (rows : List NodeRow) → AreWaiting (halves_of 0 (take 0 splits)) rows rows
halves_begin splits rows = waiting_begin rows

pub halves_next : (splits : List NodeSplit) (i next : ℕ) (first second : NodeSplit) (old mid between new : List NodeRow) → i < length splits → first ≡ get_or splits i first → second ≡ get_or splits i second → next ≡ i + 1 → AreWaiting (halves_of 0 (take i splits)) old mid →
    AreWaiting (one_at i first.low) mid between → AreWaiting (one_at i second.middle) between new → AreWaiting (halves_of 0 (take next splits)) old new
halves_next splits i next first second old mid between new lt is_first is_second up before low middle =
    subst (λ (j : ℕ). AreWaiting (halves_of 0 (take j splits)) old new) (let e : suc i ≡ i + 1 = omega arith in e ∙ sym up)
    (subst (λ (l : List NodeAt). AreWaiting l old new) (sym (halves_from 0 splits i first lt is_first ∙ ap (λ (j : ℕ). halves_of 0 (take i splits) ++ record { level = j; low = first.low } ∷ record { level = j; low = first.middle } ∷ []) z))
    (waiting_then (halves_of 0 (take i splits)) (record { level = i; low = first.low } ∷ record { level = i; low = first.middle } ∷ []) old mid new before
    (waiting_then (one_at i first.low) (one_at i first.middle) mid between new low
    (subst (λ (s : NodeSplit). AreWaiting (one_at i s.middle) between new) (is_second ∙ get_same ∙ sym is_first) middle))))
  where
    z : 0 + i ≡ i
    z = omega arith

    get_same : get_or splits i second ≡ get_or splits i first
    get_same = get_or_default splits i second first lt

pub halves_end : (splits : List NodeSplit) (i : ℕ) (old new : List NodeRow) → length splits ≤ i → AreWaiting (halves_of 0 (take i splits)) old new → AreWaiting (halves_of 0 splits) old new
halves_end splits i old new past waits = subst (λ (l : List NodeSplit). AreWaiting (halves_of 0 l) old new) (take_whole splits i past) waits

-- ---- the whole

pub split_waiting : (first : ℕ) (splits : List NodeSplit) (raised : Bool) (old mid put waited new : List NodeRow) → raised ≡ is_raised splits (lows_of old) → AreParts mid → AreGrown splits (is_raised splits (lows_of old)) old mid →
    lows_of mid ≡ lows_behind splits (lows_of old) → AreNewNumbered first splits (is_raised splits (lows_of old)) mid → put ≡ mid → AreWaiting (halves_of 0 splits) put waited → AreWaiting (root_at (length splits) raised) waited new → AreSplitWaiting first splits old new
split_waiting first splits raised old mid put waited new is parts grown lows numbers same halves root = record {
  mid = mid;
  parts = parts;
  grown = grown;
  lows = lows;
  numbers = numbers;
  waits = subst (λ (t : Bool). AreWaiting (halves_of 0 splits ++ root_at (length splits) t) mid new) is
      (waiting_then (halves_of 0 splits) (root_at (length splits) raised) mid waited new (subst (λ (r : List NodeRow). AreWaiting (halves_of 0 splits) r waited) same halves) root);
}

pub split_low : (first : ℕ) (splits : List NodeSplit) (old mid put new : List NodeRow) (height : ℕ) → height ≡ length old → (length splits ≡ height → ⊥) → AreParts mid → AreGrown splits (is_raised splits (lows_of old)) old mid →
    lows_of mid ≡ lows_behind splits (lows_of old) → AreNewNumbered first splits (is_raised splits (lows_of old)) mid → put ≡ mid → AreWaiting (halves_of 0 splits) put new → AreSplitWaiting first splits old new
split_low first splits old mid put new height is other parts grown lows numbers same halves =
    split_waiting first splits false old mid put new new (sym low) parts grown lows numbers same halves (waiting_begin new)
  where
    low : is_raised splits (lows_of old) ≡ false
    low = ne_eqb (length splits) (length (lows_of old)) (λ (e : length splits ≡ length (lows_of old)). other (e ∙ length-map old keys_of ∙ sym is))

pub split_high : (first : ℕ) (splits : List NodeSplit) (old mid put waited new : List NodeRow) (height : ℕ) (root : Name) → height ≡ length old → length splits ≡ height → AreParts mid → AreGrown splits (is_raised splits (lows_of old)) old mid →
    lows_of mid ≡ lows_behind splits (lows_of old) → AreNewNumbered first splits (is_raised splits (lows_of old)) mid → put ≡ mid → AreWaiting (halves_of 0 splits) put waited → root ≡ least → AreWaiting (one_at (length splits) root) waited new →
    AreSplitWaiting first splits old new
split_high first splits old mid put waited new height root is same_height parts grown lows numbers same halves low root_waits =
    split_waiting first splits true old mid put waited new (sym (raised_is splits old height is same_height)) parts grown lows numbers same halves (subst (λ (y : Name). AreWaiting (one_at (length splits) y) waited new) low root_waits)

-- a name that has a slot splits none
pub none_split : (first fanout : ℕ) (x : Name) (tree : DbTree) → AreParts tree.levels → has_slot x (shape_in tree) ≡ true → AreSplitWaiting first (slot_splits fanout x (shape_in tree)) tree.levels tree.levels
none_split first fanout x tree parts had = subst (λ (l : List NodeSplit). AreSplitWaiting first l tree.levels tree.levels) (sym empty) none
  where
    empty : slot_splits fanout x (shape_in tree) ≡ []
    empty = ap (λ (t : Bool). cond t [] (splits_of fanout x (shape_in tree))) had

    low : is_raised [] (lows_of tree.levels) ≡ false
    low = let some = parts.some in ne_eqb 0 (length (lows_of tree.levels)) (λ (e : 0 ≡ length (lows_of tree.levels)). (let height : length (lows_of tree.levels) ≡ length tree.levels = length-map tree.levels keys_of in absurd (omega (arith, e, some, height))))

    none : AreSplitWaiting first [] tree.levels tree.levels
    none = split_waiting first [] false tree.levels tree.levels tree.levels tree.levels tree.levels (sym low) parts
        (subst (λ (t : Bool). AreGrown [] t tree.levels tree.levels) (sym low) (record { mid = tree.levels; split = refl; root = refl }))
        (sym (ap (λ (t : Bool). cond t (with_root (lows_of tree.levels)) (lows_of tree.levels)) low))
        (subst (λ (t : Bool). AreNewNumbered first [] t tree.levels) (sym low) (record { halves = λ level split at. absurd (none-some split at); root = tt }))
        refl (waiting_begin tree.levels) (waiting_begin tree.levels)
