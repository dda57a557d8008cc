-- Nodes that are noted.
use Rattle.std.proofs.Common.{◌≡◌, ◌≤◌, ◌<◌, ◌+◌, ◌⊎◌, inl, inr, ℕ, zero, suc, List, [], ◌∷◌, ◌++◌, ◌||◌, ◌&&◌, Bool, true, false, Option, None, Some, IsSome, option_map, length, set, get_or, refl, ap, ap₂, sym, subst, ◌∙◌, arith, is_eq, is_some, get_or-set_same, get_or-set_other, append_assoc}
use Rattle.std.specs.List.{AllByRecursion, list_any}
use Rattle.std.specs.List.Sorted.{IsStrictlySortedBy}
use Rattle.std.specs.Map.{keys_of}
use Rattle.std.proofs.lemmas.Bool.{cases_eq, cases_lt}
use Rattle.std.proofs.lemmas.List.{length-set, length-append, append-nil, get_or_past}
use Rattle.std.proofs.lemmas.List.Folds.{list_any-append}
use Rattle.std.proofs.lemmas.Option.{none-some, same_Some}
use Rattle.je_order.proofs.Lists.{all_weaker}
use Rattle.je_order.specs.Order.{name_cmp}
use Rattle.je_order.specs.declared.name.Name.{Name}
use Rattle.record_map.specs.Cells.{value_at, IsRising}
use Rattle.record_map.proofs.NameLaws.{same_or_other, name_same, other_stays, same_gets}
use Rattle.tree_nodes.specs.declared.node.Node.{Node}
use Rattle.tree_nodes.specs.Nodes.{NodeRow, HasPut, is_dirty, least, node_at, no_node, noted_as, placed}
use Rattle.tree_nodes.specs.Levels.{row_of, AreParts}
use Rattle.tree_nodes.specs.Lows.{low_up_to}
use Rattle.tree_nodes.specs.Noted.{AreNoted, HasNotedLevel, has_noted_child, is_low_over, is_to_note, noted_level, noted_row}
use Rattle.tree_nodes.proofs.RisingLists.{same_lists}

-- ---- a level with nodes noted

-- the lows stay
pub noted_keys : (test : Name × Node → Bool) (row : NodeRow) → keys_of (noted_row test row) ≡ keys_of row
noted_keys test [] = refl
noted_keys test (e ∷ row) = ap (λ (names : List Name). e.0 ∷ names) (noted_keys test row)

pub noted_rising : (test : Name × Node → Bool) (row : NodeRow) → IsRising row → IsRising (noted_row test row)
noted_rising test row up = subst (IsStrictlySortedBy name_cmp) (sym (noted_keys test row)) up

-- the node with a low
pub noted_value : (test : Name × Node → Bool) (row : NodeRow) (x : Name) → value_at x (noted_row test row) ≡ option_map (λ n. noted_as (test (x, n)) n) (value_at x row)
noted_value test [] x = refl
noted_value test (e ∷ row) x = by_name (noted_value test row x) (same_or_other x e.0)
  where
    by_name : value_at x (noted_row test row) ≡ option_map (λ n. noted_as (test (x, n)) n) (value_at x row) → (x ≡ e.0) ⊎ (is_eq (name_cmp x e.0) ≡ false) → value_at x (noted_row test (e ∷ row)) ≡ option_map (λ n. noted_as (test (x, n)) n) (value_at x (e ∷ row))
    by_name rest (inl same) =
        subst (λ (y : Name). value_at y (noted_row test (e ∷ row)) ≡ option_map (λ n. noted_as (test (y, n)) n) (value_at y (e ∷ row))) (sym same)
        (same_gets e.0 (Some (noted_as (test e) e.1)) (value_at e.0 (noted_row test row)) ∙ sym (ap (option_map (λ n. noted_as (test (e.0, n)) n)) (same_gets e.0 (Some e.1) (value_at e.0 row))))
    by_name rest (inr apart) =
        other_stays x e.0 (Some (noted_as (test e) e.1)) (value_at x (noted_row test row)) apart
        ∙ rest
        ∙ sym (ap (option_map (λ n. noted_as (test (x, n)) n)) (other_stays x e.0 (Some e.1) (value_at x row) apart))

-- a node is there as before
pub noted_there : (test : Name × Node → Bool) (row : NodeRow) (x : Name) → IsSome (value_at x row) → IsSome (value_at x (noted_row test row))
noted_there test row x there = subst IsSome (sym (noted_value test row x)) (by_node (value_at x row) there)
  where
    by_node : (o : Option Node) → IsSome o → IsSome (option_map (λ n. noted_as (test (x, n)) n) o)
    by_node None some = some
    by_node (Some n) some = refl

-- by another test that finds the same
pub noted_same : (p q : Name × Node → Bool) (row : NodeRow) → ((e : Name × Node) → p e ≡ q e) → noted_row p row ≡ noted_row q row
noted_same p q [] same = refl
noted_same p q (e ∷ row) same = ap₂ (λ (b : Bool) (l : NodeRow). (e.0, noted_as b e.1) ∷ l) (same e) (noted_same p q row same)

-- by two tests, the second of which sees what the first one noted
pub noted_twice : (p q : Name × Node → Bool) (row : NodeRow) → noted_row q (noted_row p row) ≡ noted_row (λ e. q (e.0, noted_as (p e) e.1)) row
noted_twice p q [] = refl
noted_twice p q (e ∷ row) = ap (λ (l : NodeRow). (e.0, noted_as (q (e.0, noted_as (p e) e.1)) e.1) ∷ l) (noted_twice p q row)

-- ---- the dirty nodes of a level

-- nodes at places are noted that are dirty, up to a place
pub record IsNotedUpTo (old now : List Node) (count : ℕ) : Type 0 where
  pub size : length now ≡ length old
  pub done : (i : ℕ) → i < count → node_at now i ≡ noted_as (is_dirty (node_at old i)) (node_at old i)
  pub rest : (i : ℕ) → count ≤ i → node_at now i ≡ node_at old i

pub noted_begin : (nodes : List Node) → IsNotedUpTo nodes nodes 0
noted_begin nodes = record { size = refl; done = λ i less. absurd (omega (arith, less)); rest = λ i le. refl }

pub noted_next : (old now : List Node) (k : ℕ) (m : Node) → k < length now → m ≡ noted_as (is_dirty (node_at now k)) (node_at now k) → IsNotedUpTo old now k → IsNotedUpTo old (set now k m) (k + 1)
noted_next old now k m within is h = record {
  size = length-set now k m ∙ h.size;
  done = λ i less. by_place i less (cases_eq i k);
  rest = λ i le. get_or-set_other now k i m no_node (λ same. omega (arith, le, same)) ∙ h.rest i (omega (arith, le));
}
  where
    here : m ≡ noted_as (is_dirty (node_at old k)) (node_at old k)
    here = is ∙ ap (λ (n : Node). noted_as (is_dirty n) n) (h.rest k (omega arith))

    by_place : (i : ℕ) → i < k + 1 → (i ≡ k) ⊎ (i ≡ k → ⊥) → node_at (set now k m) i ≡ noted_as (is_dirty (node_at old i)) (node_at old i)
    by_place i less (inl same) =
        subst (λ (j : ℕ). node_at (set now k m) j ≡ noted_as (is_dirty (node_at old j)) (node_at old j)) (sym same) (get_or-set_same now k m no_node within ∙ here)
    by_place i less (inr other) = get_or-set_other now k i m no_node other ∙ h.done i (omega (arith, less, other))

pub all_noted : (lows : List (Name × ℕ)) (old now : List Node) (count : ℕ) → AllByRecursion (λ e. e.1 < count) lows → IsNotedUpTo old now count → placed lows now ≡ noted_row (λ e. is_dirty e.1) (placed lows old)
all_noted [] old now count each h = refl
all_noted (e ∷ lows) old now count each h =
    ap₂ (λ (n : Node) (l : NodeRow). (e.0, n) ∷ l) (h.done e.1 each.0) (all_noted lows old now count each.1 h)

pub all_noted_within : (lows : List (Name × ℕ)) (old now : List Node) (place end : ℕ) → end ≤ place → end ≡ length old → AllByRecursion (λ e. e.1 < length old) lows → IsNotedUpTo old now place →
    placed lows now ≡ noted_row (λ e. is_dirty e.1) (placed lows old)
all_noted_within lows old now place end ended is each h =
    all_noted lows old now place (all_weaker (λ (e : Name × ℕ). e.1 < length old) (λ e. e.1 < place) (λ e less. omega (arith, less, is, ended)) lows each) h

-- ---- the node over a name

or_false : (b : Bool) → (b || false) ≡ b
or_false true = refl
or_false false = refl

or_true : (b : Bool) → (b || true) ≡ true
or_true true = refl
or_true false = refl

-- the node over a name is put noted
pub noted_over : (old new : NodeRow) (name low : Name) (n : Node) → IsRising old → IsRising new → value_at low old ≡ Some n → low ≡ low_up_to name (keys_of old) → HasPut old new low (noted_as true n) →
    new ≡ noted_row (λ e. e.1.noted || is_low_over old name e.0) old
noted_over old new name low n up up_new there is put = same_lists new (noted_row test old) up_new (noted_rising test old up) each
  where
    test : Name × Node → Bool
    test e = e.1.noted || is_low_over old name e.0

    at_low : (x : Name) → is_low_over old name x ≡ is_eq (name_cmp low x)
    at_low x = ap (λ (y : Name). is_eq (name_cmp y x)) (sym is)

    stays : (x : Name) (o : Option Node) → is_low_over old name x ≡ false → o ≡ option_map (λ n. noted_as (n.noted || is_low_over old name x) n) o
    stays x None apart = refl
    stays x (Some m) apart = ap (λ (b : Bool). Some (noted_as b m)) (sym (ap (λ (b : Bool). m.noted || b) apart ∙ or_false m.noted))

    by_name : (x : Name) → (low ≡ x) ⊎ (is_eq (name_cmp low x) ≡ false) → value_at x new ≡ option_map (λ n. noted_as (n.noted || is_low_over old name x) n) (value_at x old)
    by_name x (inl same) =
        subst (λ (y : Name). value_at y new ≡ option_map (λ n. noted_as (n.noted || is_low_over old name y) n) (value_at y old)) same
        (put low ∙ same_gets low (Some (noted_as true n)) (value_at low old)
        ∙ sym (ap (option_map (λ n. noted_as (n.noted || is_low_over old name low) n)) there
        ∙ ap (λ (b : Bool). Some (noted_as b n)) (ap (λ (b : Bool). n.noted || b) (at_low low ∙ ap is_eq (name_same low)) ∙ or_true n.noted)))
    by_name x (inr apart) = put x ∙ other_stays low x (Some (noted_as true n)) (value_at x old) apart ∙ stays x (value_at x old) (at_low x ∙ apart)

    each : (x : Name) → value_at x new ≡ value_at x (noted_row test old)
    each x = by_name x (same_or_other low x) ∙ sym (noted_value test old x)

-- ---- the nodes above some

-- the nodes are noted that have a child among the first ones of the level below that is noted
pub record IsNotedAbove (lows rest : List (Name × ℕ)) (nodes : List Node) (old now : NodeRow) : Type 0 where
  pub front : List (Name × ℕ)
  pub is : lows ≡ front ++ rest
  pub noted : now ≡ noted_row (λ e. e.1.noted || has_noted_child (placed front nodes) old e.0) old

pub above_begin : (lows rest : List (Name × ℕ)) (nodes : List Node) (old : NodeRow) → rest ≡ lows → IsNotedAbove lows rest nodes old old
above_begin lows rest nodes old is = record { front = []; is = sym is; noted = stays old }
  where
    stays : (row : NodeRow) → row ≡ noted_row (λ e. e.1.noted || false) row
    stays [] = refl
    stays (e ∷ row) = ap₂ (λ (b : Bool) (l : NodeRow). (e.0, noted_as b e.1) ∷ l) (sym (or_false e.1.noted)) (stays row)

placed_push : (front : List (Name × ℕ)) (e : Name × ℕ) (nodes : List Node) → placed (front ++ e ∷ []) nodes ≡ placed front nodes ++ (e.0, node_at nodes e.1) ∷ []
placed_push [] e nodes = refl
placed_push (f ∷ front) e nodes = ap (λ (l : NodeRow). (f.0, node_at nodes f.1) ∷ l) (placed_push front e nodes)

-- one child more
child_more : (front : List (Name × ℕ)) (e : Name × ℕ) (nodes : List Node) (old : NodeRow) (x : Name) →
    has_noted_child (placed (front ++ e ∷ []) nodes) old x ≡ (has_noted_child (placed front nodes) old x || ((node_at nodes e.1).noted && is_low_over old e.0 x))
child_more front e nodes old x =
    ap (λ (l : NodeRow). has_noted_child l old x) (placed_push front e nodes)
    ∙ list_any-append (λ (c : Name × Node). c.1.noted && is_low_over old c.0 x) (placed front nodes) ((e.0, node_at nodes e.1) ∷ [])
    ∙ ap (λ (b : Bool). has_noted_child (placed front nodes) old x || b) (or_false ((node_at nodes e.1).noted && is_low_over old e.0 x))

pub step_front : (lows front rest more : List (Name × ℕ)) (e : Name × ℕ) → lows ≡ front ++ rest → rest ≡ e ∷ more → lows ≡ (front ++ e ∷ []) ++ more
step_front lows front rest more e is next = is ∙ ap (λ (l : List (Name × ℕ)). front ++ l) next ∙ sym (append_assoc front (e ∷ []) more)

pub above_next : (lows rest more : List (Name × ℕ)) (nodes : List Node) (old now next : NodeRow) (e : Name × ℕ) → rest ≡ e ∷ more → (node_at nodes e.1).noted ≡ true →
    next ≡ noted_row (λ n. n.1.noted || is_low_over now e.0 n.0) now → IsNotedAbove lows rest nodes old now → IsNotedAbove lows more nodes old next
above_next lows rest more nodes old now next e is noted has h = record {
  front = h.front ++ e ∷ [];
  is = step_front lows h.front rest more e h.is is;
  noted =
      has
      ∙ ap (noted_row test) h.noted
      ∙ noted_twice first test old
      ∙ noted_same (λ n. (n.1.noted || has_noted_child (placed h.front nodes) old n.0) || is_low_over now e.0 n.0) (λ n. n.1.noted || has_noted_child (placed (h.front ++ e ∷ []) nodes) old n.0) old one;
}
  where
    test : Name × Node → Bool
    test n = n.1.noted || is_low_over now e.0 n.0

    first : Name × Node → Bool
    first n = n.1.noted || has_noted_child (placed h.front nodes) old n.0

    or_assoc : (a b c : Bool) → ((a || b) || c) ≡ (a || (b || c))
    or_assoc true b c = refl
    or_assoc false b c = refl

    same_over : (x : Name) → is_low_over now e.0 x ≡ is_low_over old e.0 x
    same_over x = ap (λ (names : List Name). is_eq (name_cmp (low_up_to e.0 names) x)) (ap (λ (row : NodeRow). keys_of row) h.noted ∙ noted_keys first old)

    one : (n : Name × Node) → ((n.1.noted || has_noted_child (placed h.front nodes) old n.0) || is_low_over now e.0 n.0) ≡ (n.1.noted || has_noted_child (placed (h.front ++ e ∷ []) nodes) old n.0)
    one n =
        or_assoc n.1.noted (has_noted_child (placed h.front nodes) old n.0) (is_low_over now e.0 n.0)
        ∙ ap (λ (b : Bool). n.1.noted || (has_noted_child (placed h.front nodes) old n.0 || b)) (same_over n.0 ∙ sym (ap (λ (b : Bool). b && is_low_over old e.0 n.0) noted))
        ∙ sym (ap (λ (b : Bool). n.1.noted || b) (child_more h.front e nodes old n.0))

pub above_passed : (lows rest more : List (Name × ℕ)) (nodes : List Node) (old now : NodeRow) (e : Name × ℕ) → rest ≡ e ∷ more → (node_at nodes e.1).noted ≡ false →
    IsNotedAbove lows rest nodes old now → IsNotedAbove lows more nodes old now
above_passed lows rest more nodes old now e is noted h = record {
  front = h.front ++ e ∷ [];
  is = step_front lows h.front rest more e h.is is;
  noted = h.noted ∙ noted_same (λ n. n.1.noted || has_noted_child (placed h.front nodes) old n.0) (λ n. n.1.noted || has_noted_child (placed (h.front ++ e ∷ []) nodes) old n.0) old one;
}
  where
    one : (n : Name × Node) → (n.1.noted || has_noted_child (placed h.front nodes) old n.0) ≡ (n.1.noted || has_noted_child (placed (h.front ++ e ∷ []) nodes) old n.0)
    one n =
        ap (λ (b : Bool). n.1.noted || b)
        (sym (child_more h.front e nodes old n.0 ∙ ap (λ (b : Bool). has_noted_child (placed h.front nodes) old n.0 || (b && is_low_over old e.0 n.0)) noted ∙ or_false (has_noted_child (placed h.front nodes) old n.0)))

pub above_all : (lows rest : List (Name × ℕ)) (nodes : List Node) (old now : NodeRow) → rest ≡ [] → IsNotedAbove lows rest nodes old now →
    now ≡ noted_row (λ e. e.1.noted || has_noted_child (placed lows nodes) old e.0) old
above_all lows rest nodes old now none h =
    h.noted ∙ ap (λ (l : List (Name × ℕ)). noted_row (λ e. e.1.noted || has_noted_child (placed l nodes) old e.0) old) (sym (h.is ∙ ap (λ (l : List (Name × ℕ)). h.front ++ l) none ∙ append-nil h.front))

-- ---- the levels

-- the levels below one are noted
pub record AreNotedBelow (old now : List NodeRow) (level : ℕ) : Type 0 where
  pub height : length now ≡ length old
  pub below : (k : ℕ) → k < level → row_of now k ≡ noted_row (is_to_note old k) (row_of old k)
  pub rest : (k : ℕ) → level ≤ k → row_of now k ≡ row_of old k

pub below_begin : (rows : List NodeRow) → AreNotedBelow rows rows 0
below_begin rows = record { height = refl; below = λ k less. absurd (omega (arith, less)); rest = λ k le. refl }

-- the noted children of a node are those that are to be noted
child_to_note : (old : List NodeRow) (k : ℕ) (row below : NodeRow) (x : Name) → has_noted_child (noted_row (is_to_note old k) below) row x ≡ list_any (λ c. is_to_note old k c && is_low_over row c.0 x) below
child_to_note old k row [] x = refl
child_to_note old k row (c ∷ below) x = ap (λ (b : Bool). (is_to_note old k c && is_low_over row c.0 x) || b) (child_to_note old k row below x)

pub below_next : (old now next : List NodeRow) (level : ℕ) → HasNotedLevel now next level → AreNotedBelow old now level → AreNotedBelow old next (level + 1)
below_next old now next level has h = record {
  height = has.height ∙ h.height;
  below = λ k less. by_level k less (cases_eq k level);
  rest = λ k le. has.others k (λ same. omega (arith, le, same)) ∙ h.rest k (omega (arith, le));
}
  where
    noted : (l : ℕ) → ((k : ℕ) → k < l → row_of now k ≡ noted_row (is_to_note old k) (row_of old k)) → row_of now l ≡ row_of old l → noted_level now l ≡ noted_row (is_to_note old l) (row_of old l)
    noted zero below here = ap (noted_row (λ e. is_dirty e.1)) here
    noted (suc k) below here =
        ap (λ (row : NodeRow). noted_row (λ e. is_dirty e.1 || has_noted_child (row_of now k) row e.0) row) here
        ∙ ap (λ (low : NodeRow). noted_row (λ e. is_dirty e.1 || has_noted_child low (row_of old (suc k)) e.0) (row_of old (suc k))) (below k (omega arith))
        ∙ noted_same (λ e. is_dirty e.1 || has_noted_child (noted_row (is_to_note old k) (row_of old k)) (row_of old (suc k)) e.0) (is_to_note old (suc k)) (row_of old (suc k))
        (λ e. ap (λ (b : Bool). is_dirty e.1 || b) (child_to_note old k (row_of old (suc k)) (row_of old k) e.0))

    by_level : (k : ℕ) → k < level + 1 → (k ≡ level) ⊎ (k ≡ level → ⊥) → row_of next k ≡ noted_row (is_to_note old k) (row_of old k)
    by_level k less (inl same) =
        subst (λ (l : ℕ). row_of next l ≡ noted_row (is_to_note old l) (row_of old l)) (sym same) (has.here ∙ noted level h.below (h.rest level (omega arith)))
    by_level k less (inr other) = has.others k other ∙ h.below k (omega (arith, less, other))

-- no level above the top has a node
pub below_all : (old now : List NodeRow) (level : ℕ) → level ≡ length old → AreNotedBelow old now level → AreNoted old now
below_all old now level top h = record { height = h.height; each = λ k. by_height k (cases_lt k level) }
  where
    by_height : (k : ℕ) → (k < level) ⊎ (level ≤ k) → row_of now k ≡ noted_row (is_to_note old k) (row_of old k)
    by_height k (inl less) = h.below k less
    by_height k (inr high) =
        let none : row_of old k ≡ [] = get_or_past old k [] (omega (arith, high, top)) in
        h.rest k high ∙ none ∙ sym (ap (noted_row (is_to_note old k)) none)

-- levels with nodes noted part names as before
pub parts_noted : (old new : List NodeRow) (level : ℕ) (test : Name × Node → Bool) → AreParts old → length new ≡ length old → row_of new level ≡ noted_row test (row_of old level) →
    ((k : ℕ) → (k ≡ level → ⊥) → row_of new k ≡ row_of old k) → AreParts new
parts_noted old new level test are height here others = record {
  some = subst (λ (n : ℕ). 0 < n) (sym height) are.some;
  parts = λ k less. stays k least (are.parts k (subst (λ (n : ℕ). k < n) height less));
  nested = λ k x there. stays k x (are.nested k x (was (suc k) x there));
  rising = λ k. by_level k (cases_eq k level);
}
  where
    keys : (k : ℕ) → (k ≡ level) ⊎ (k ≡ level → ⊥) → (x : Name) → is_some (value_at x (row_of new k)) ≡ is_some (value_at x (row_of old k))
    keys k (inl same) x =
        subst (λ (l : ℕ). is_some (value_at x (row_of new l)) ≡ is_some (value_at x (row_of old l))) (sym same)
        (ap (λ (row : NodeRow). is_some (value_at x row)) here ∙ ap is_some (noted_value test (row_of old level) x) ∙ mapped (value_at x (row_of old level)))
      where
        mapped : (o : Option Node) → is_some (option_map (λ n. noted_as (test (x, n)) n) o) ≡ is_some o
        mapped None = refl
        mapped (Some n) = refl
    keys k (inr other) x = ap (λ (row : NodeRow). is_some (value_at x row)) (others k other)

    stays : (k : ℕ) (x : Name) → IsSome (value_at x (row_of old k)) → IsSome (value_at x (row_of new k))
    stays k x there = keys k (cases_eq k level) x ∙ there

    was : (k : ℕ) (x : Name) → IsSome (value_at x (row_of new k)) → IsSome (value_at x (row_of old k))
    was k x there = sym (keys k (cases_eq k level) x) ∙ there

    by_level : (k : ℕ) → (k ≡ level) ⊎ (k ≡ level → ⊥) → IsRising (row_of new k)
    by_level k (inl same) = subst (λ (l : ℕ). IsRising (row_of new l)) (sym same) (subst IsRising (sym here) (noted_rising test (row_of old level) (are.rising level)))
    by_level k (inr other) = subst IsRising (sym (others k other)) (are.rising k)

-- a node of a level with nodes noted was one, but for its note
pub noted_was : (test : Name × Node → Bool) (row : NodeRow) (x : Name) (n : Node) → value_at x (noted_row test row) ≡ Some n → (m : Node) × (value_at x row ≡ Some m) × (n ≡ noted_as (test (x, m)) m)
noted_was test row x n there = by_node (value_at x row) refl
  where
    by_node : (o : Option Node) → value_at x row ≡ o → (m : Node) × (value_at x row ≡ Some m) × (n ≡ noted_as (test (x, m)) m)
    by_node None is = absurd (none-some n (sym (noted_value test row x ∙ ap (option_map (λ k. noted_as (test (x, k)) k)) is) ∙ there))
    by_node (Some m) is = (m, is, same_Some n (noted_as (test (x, m)) m) (sym there ∙ noted_value test row x ∙ ap (option_map (λ k. noted_as (test (x, k)) k)) is))

-- ---- one level is noted

first_of_back : (front back : List NodeRow) (r : NodeRow) → 0 < length back → r ≡ get_or back 0 r → r ≡ row_of (front ++ back) (length front)
first_of_back [] [] r some is = absurd (omega (arith, some))
first_of_back [] (x ∷ back) r some is = is
first_of_back (f ∷ front) back r some is = first_of_back front back r some is

below_of : (front back : List NodeRow) (k : ℕ) (b : NodeRow) → k < length front → b ≡ get_or front k b → b ≡ row_of (front ++ back) k
below_of [] back k b less is = absurd (omega (arith, less))
below_of (f ∷ front) back zero b less is = is
below_of (f ∷ front) back (suc k) b less is = let low : k < length front = omega (arith, less) in below_of front back k b low is

set_back : (front back : List NodeRow) (row : NodeRow) → front ++ set back 0 row ≡ set (front ++ back) (length front) row
set_back [] back row = refl
set_back (f ∷ front) back row = ap (λ (l : List NodeRow). f ∷ l) (set_back front back row)

-- levels in two parts, of which the first of the second one is noted
pub record IsParted (levels front back : List NodeRow) (level : ℕ) : Type 0 where
  pub value : levels ≡ front ++ back
  pub front_len : length front ≡ level
  pub less : level < length levels

pub parted_row : (levels front back : List NodeRow) (level : ℕ) (r : NodeRow) → IsParted levels front back level → r ≡ get_or back 0 r → r ≡ row_of levels level
parted_row levels front back level r p is =
    first_of_back front back r (let len : length (front ++ back) ≡ length front + length back = length-append front back in let all : length levels ≡ length (front ++ back) = ap length p.value in let at = p.front_len in let less = p.less in omega (arith, len, all, at, less)) is
    ∙ ap (λ (l : ℕ). row_of (front ++ back) l) p.front_len
    ∙ ap (λ (l : List NodeRow). row_of l level) (sym p.value)

pub parted_below : (levels front back : List NodeRow) (level k : ℕ) (b : NodeRow) → IsParted levels front back level → level ≡ suc k → b ≡ get_or front k b → b ≡ row_of levels k
parted_below levels front back level k b p is own =
    below_of front back k b (let at = p.front_len in omega (arith, at, is)) own ∙ ap (λ (l : List NodeRow). row_of l k) (sym p.value)

parted_set : (levels front back : List NodeRow) (level : ℕ) (row : NodeRow) → IsParted levels front back level → front ++ set back 0 row ≡ set levels level row
parted_set levels front back level row p = set_back front back row ∙ ap (λ (l : ℕ). set (front ++ back) l row) p.front_len ∙ ap (λ (l : List NodeRow). set l level row) (sym p.value)

-- the lowest level
pub noted_lowest : (levels front back : List NodeRow) (level : ℕ) (r row : NodeRow) → IsParted levels front back level → level ≡ 0 → r ≡ get_or back 0 r → row ≡ noted_row (λ e. is_dirty e.1) r →
    HasNotedLevel levels (front ++ set back 0 row) level
noted_lowest levels front back level r row p lowest is noted =
    subst (λ (l : List NodeRow). HasNotedLevel levels l level) (sym (parted_set levels front back level row p))
    (record {
      height = length-set levels level row;
      here = get_or-set_same levels level row [] p.less ∙ noted ∙ ap (noted_row (λ e. is_dirty e.1)) (parted_row levels front back level r p is) ∙ same level lowest;
      others = λ k other. get_or-set_other levels level k row [] other;
    })
  where
    same : (l : ℕ) → l ≡ 0 → noted_row (λ e. is_dirty e.1) (row_of levels l) ≡ noted_level levels l
    same zero z = refl
    same (suc k) z = absurd (omega (arith, z))

-- another one
pub noted_upper : (levels front back : List NodeRow) (level k : ℕ) (b r mid row : NodeRow) → IsParted levels front back level → level ≡ suc k → b ≡ get_or front k b → r ≡ get_or back 0 r →
    mid ≡ noted_row (λ e. is_dirty e.1) r → row ≡ noted_row (λ e. e.1.noted || has_noted_child b mid e.0) mid → HasNotedLevel levels (front ++ set back 0 row) level
noted_upper levels front back level k b r mid row p upper below is dirty noted =
    subst (λ (l : List NodeRow). HasNotedLevel levels l level) (sym (parted_set levels front back level row p))
    (record {
      height = length-set levels level row;
      here =
          get_or-set_same levels level row [] p.less
          ∙ noted
          ∙ ap (λ (m : NodeRow). noted_row (λ e. e.1.noted || has_noted_child b m e.0) m) dirty
          ∙ noted_twice (λ e. is_dirty e.1) (λ e. e.1.noted || has_noted_child b (noted_row (λ e. is_dirty e.1) r) e.0) r
          ∙ noted_same (λ e. is_dirty e.1 || has_noted_child b (noted_row (λ e. is_dirty e.1) r) e.0) (λ e. is_dirty e.1 || has_noted_child b r e.0) r (λ e. ap (λ (t : Bool). is_dirty e.1 || t) (same_child e.0))
          ∙ ap (λ (x : NodeRow). noted_row (λ e. is_dirty e.1 || has_noted_child x r e.0) r) (parted_below levels front back level k b p upper below)
          ∙ ap (λ (x : NodeRow). noted_row (λ e. is_dirty e.1 || has_noted_child (row_of levels k) x e.0) x) (parted_row levels front back level r p is)
          ∙ ap (λ (l : ℕ). noted_row (λ e. is_dirty e.1 || has_noted_child (row_of levels k) (row_of levels l) e.0) (row_of levels l)) upper
          ∙ sym (ap (noted_level levels) upper);
      others = λ j other. get_or-set_other levels level j row [] other;
    })
  where
    same_child : (x : Name) → has_noted_child b (noted_row (λ e. is_dirty e.1) r) x ≡ has_noted_child b r x
    same_child x = ap (λ (names : List Name). list_any (λ (c : Name × Node). c.1.noted && is_eq (name_cmp (low_up_to c.0 names) x)) b) (noted_keys (λ e. is_dirty e.1) r)

pub parts_level : (old new : List NodeRow) (level : ℕ) → AreParts old → HasNotedLevel old new level → AreParts new
parts_level old new zero are has = parts_noted old new zero (λ e. is_dirty e.1) are has.height has.here has.others
parts_level old new (suc k) are has = parts_noted old new (suc k) (λ e. is_dirty e.1 || has_noted_child (row_of old k) (row_of old (suc k)) e.0) are has.height has.here has.others
