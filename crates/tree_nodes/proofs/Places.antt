-- A level in memory: lows with places, and nodes at places.
use Rattle.std.proofs.Common.{◌≡◌, ℕ, ◌<◌, ◌+◌, ◌⊎◌, List, [], ◌∷◌, ◌++◌, Bool, true, false, cond, Option, None, Some, IsSome, option_map, filter, length, set, get_or, refl, ap, sym, subst, ◌∙◌, inl, inr, arith, Ordering, Less, Equal, Greater, is_eq, ◌≤◌, get_or-set_same, get_or-set_other}
use Rattle.std.proofs.lemmas.Bool.{true≢false}
use Rattle.std.proofs.lemmas.Option.{none-some, same_Some}
use Rattle.std.proofs.lemmas.List.{get_or_append_left, get_or_push, get_or_read, length-set, length_push}
use Rattle.std.specs.Map.{keys_of, remove_entry}
use Rattle.std.specs.BTreeMap.{is_at, insert_entry}
use Rattle.std.specs.Ordering.{match_ordering}
use Rattle.std.specs.List.{AllByRecursion}
use Rattle.std.specs.List.Sorted.{IsStrictlySortedBy}
use Rattle.je_order.specs.Order.{name_cmp}
use Rattle.je_order.specs.Edges.{Edge, is_between}
use Rattle.je_order.specs.Edges.Edge.{End}
use Rattle.je_order.specs.declared.name.Name.{Name}
use Rattle.record_map.specs.Cells.{value_at, IsRising, first_of, from_edge}
use Rattle.record_map.proofs.NameLaws.{same_or_other, name_same, other_stays, same_gets}
use Rattle.tree_nodes.specs.declared.node.Node.{Node}
use Rattle.tree_nodes.specs.Nodes.{NodeRow, IsOver, IsLowOver, HasPut, HasTaken, node_at, no_node, placed, ArePlaces}

keys_placed : (lows : List (Name × ℕ)) (nodes : List Node) → keys_of (placed lows nodes) ≡ keys_of lows
keys_placed [] nodes = refl
keys_placed (e ∷ lows) nodes = ap (λ (names : List Name). e.0 ∷ names) (keys_placed lows nodes)

-- a low has the node at its place
pub value_placed : (x : Name) (lows : List (Name × ℕ)) (nodes : List Node) → value_at x (placed lows nodes) ≡ option_map (node_at nodes) (value_at x lows)
value_placed x [] nodes = refl
value_placed x (e ∷ lows) nodes = by_test (is_eq (name_cmp x e.0)) (value_placed x lows nodes)
  where
    by_test : (t : Bool) → value_at x (placed lows nodes) ≡ option_map (node_at nodes) (value_at x lows) →
        cond t (Some (node_at nodes e.1)) (value_at x (placed lows nodes)) ≡ option_map (node_at nodes) (cond t (Some e.1) (value_at x lows))
    by_test true rest = refl
    by_test false rest = rest

-- a low's place is one of a node
pub within_at : (x : Name) (i count : ℕ) (lows : List (Name × ℕ)) → AllByRecursion (λ e. e.1 < count) lows → value_at x lows ≡ Some i → i < count
within_at x i count [] all e = absurd (none-some i e)
within_at x i count (l ∷ lows) all e = by_test (is_eq (name_cmp x l.0)) (within_at x i count lows all.1) e
  where
    by_test : (t : Bool) → (value_at x lows ≡ Some i → i < count) → cond t (Some l.1) (value_at x lows) ≡ Some i → i < count
    by_test true rest is = subst (λ n. n < count) (same_Some l.1 i is) all.0
    by_test false rest is = rest is

pub are_places : (lows : List (Name × ℕ)) (nodes : List Node) → IsRising lows → AllByRecursion (λ e. e.1 < length nodes) lows →
    ((x y : Name) (i : ℕ) → value_at x lows ≡ Some i → value_at y lows ≡ Some i → x ≡ y) → ArePlaces lows nodes
are_places lows nodes up each apart_ = record { rising = up; each = each; within = λ x i e. within_at x i (length nodes) lows each e; apart = apart_ }

all_more : (few many : ℕ) (lows : List (Name × ℕ)) → few ≤ many → AllByRecursion (λ e. e.1 < few) lows → AllByRecursion (λ e. e.1 < many) lows
all_more few many [] le all = tt
all_more few many (l ∷ lows) le all = let less : l.1 < few = all.0 in (omega arith, all_more few many lows le all.1)

all_with : (low : Name) (i count : ℕ) (lows : List (Name × ℕ)) → i < count → AllByRecursion (λ e. e.1 < count) lows → AllByRecursion (λ e. e.1 < count) (insert_entry name_cmp lows low i)
all_with low i count [] less all = (less, tt)
all_with low i count (l ∷ lows) less all = by_order (name_cmp low l.0) (all_with low i count lows less all.1)
  where
    by_order : (o : Ordering) → AllByRecursion (λ (e : Name × ℕ). e.1 < count) (insert_entry name_cmp lows low i) →
        AllByRecursion (λ (e : Name × ℕ). e.1 < count) (match_ordering o ((low, i) ∷ l ∷ lows) ((l.0, i) ∷ lows) (l ∷ insert_entry name_cmp lows low i))
    by_order Less rest = (less, all)
    by_order Equal rest = (less, all.1)
    by_order Greater rest = (all.0, rest)

all_without : (test : Name → Bool) (count : ℕ) (lows : List (Name × ℕ)) → AllByRecursion (λ e. e.1 < count) lows → AllByRecursion (λ e. e.1 < count) (remove_entry test lows)
all_without test count [] all = tt
all_without test count (l ∷ lows) all = by_test (test l.0) (all_without test count lows all.1)
  where
    by_test : (t : Bool) → AllByRecursion (λ (e : Name × ℕ). e.1 < count) (remove_entry test lows) → AllByRecursion (λ (e : Name × ℕ). e.1 < count) (cond t lows (l ∷ remove_entry test lows))
    by_test true rest = all.1
    by_test false rest = (all.0, rest)

-- the lows that pass a test have places of nodes
pub all_passed : (p : Name → Bool) (count : ℕ) (lows : List (Name × ℕ)) → AllByRecursion (λ e. e.1 < count) lows → AllByRecursion (λ e. e.1 < count) (filter (λ e. p e.0) lows)
all_passed p count [] all = tt
all_passed p count (l ∷ lows) all = by_test (p l.0) (all_passed p count lows all.1)
  where
    by_test : (t : Bool) → AllByRecursion (λ (e : Name × ℕ). e.1 < count) (filter (λ e. p e.0) lows) →
        AllByRecursion (λ (e : Name × ℕ). e.1 < count) (cond t (l ∷ filter (λ e. p e.0) lows) (filter (λ e. p e.0) lows))
    by_test true rest = (all.0, rest)
    by_test false rest = rest

-- the nodes whose lows pass a test
pub passed_placed : (p : Name → Bool) (lows : List (Name × ℕ)) (nodes : List Node) → placed (filter (λ e. p e.0) lows) nodes ≡ filter (λ e. p e.0) (placed lows nodes)
passed_placed p [] nodes = refl
passed_placed p (l ∷ lows) nodes = by_test (p l.0) (passed_placed p lows nodes)
  where
    by_test : (t : Bool) → placed (filter (λ e. p e.0) lows) nodes ≡ filter (λ e. p e.0) (placed lows nodes) →
        placed (cond t (l ∷ filter (λ e. p e.0) lows) (filter (λ e. p e.0) lows)) nodes ≡ cond t ((l.0, node_at nodes l.1) ∷ filter (λ e. p e.0) (placed lows nodes)) (filter (λ e. p e.0) (placed lows nodes))
    by_test true rest = ap (λ (row : NodeRow). (l.0, node_at nodes l.1) ∷ row) rest
    by_test false rest = rest

-- lows rise where their places do
pub rising_placed : (lows : List (Name × ℕ)) (nodes : List Node) → IsRising lows → IsRising (placed lows nodes)
rising_placed lows nodes up = subst (IsStrictlySortedBy name_cmp) (sym (keys_placed lows nodes)) up

-- what is read at a place of a node
pub read_at : (nodes : List Node) (i : ℕ) (n : Node) → i < length nodes → n ≡ get_or nodes i n → n ≡ node_at nodes i
read_at nodes i n within is = get_or_read nodes i n within is no_node

some_of_mapped : {A B : Type 0} (f : A → B) (o : Option A) → IsSome (option_map f o) → IsSome o
some_of_mapped f None h = h
some_of_mapped f (Some x) h = refl

-- a low is that of a node exactly where it has a place
pub is_low : (x : Name) (lows : List (Name × ℕ)) (nodes : List Node) → IsSome (value_at x (placed lows nodes)) → IsSome (value_at x lows)
is_low x lows nodes h = some_of_mapped (node_at nodes) (value_at x lows) (subst IsSome (value_placed x lows nodes) h)

pub no_low : (x : Name) (lows : List (Name × ℕ)) (nodes : List Node) → value_at x (placed lows nodes) ≡ None → value_at x lows ≡ None
no_low x lows nodes h = none (value_at x lows) (sym (value_placed x lows nodes) ∙ h)
  where
    none : (o : Option ℕ) → option_map (node_at nodes) o ≡ None → o ≡ None
    none None e = refl
    none (Some i) e = absurd (none-some (node_at nodes i) (sym e))

-- the node at the place of the low over a name is over it
pub over_placed : (lows : List (Name × ℕ)) (nodes : List Node) (x : Name) (e : Name × ℕ) → IsLowOver lows x e → IsOver (placed lows nodes) x (e.0, node_at nodes e.1)
over_placed lows nodes x e is = record {
  there = value_placed e.0 lows nodes ∙ ap (option_map (node_at nodes)) is.there;
  below = is.below;
  most = λ q there up. is.most q (is_low q lows nodes there) up;
}

-- the first low from an edge on is that of the first node
pub first_low : (edge : Edge) (lows : List (Name × ℕ)) (nodes : List Node) →
    option_map (λ e. e.0) (first_of (from_edge edge lows)) ≡ option_map (λ e. e.0) (first_of (from_edge edge (placed lows nodes)))
first_low edge [] nodes = refl
first_low edge (e ∷ lows) nodes = by_test (is_between edge End e.0) (first_low edge lows nodes)
  where
    by_test : (t : Bool) → option_map (λ (l : Name × ℕ). l.0) (first_of (from_edge edge lows)) ≡ option_map (λ (n : Name × Node). n.0) (first_of (from_edge edge (placed lows nodes))) →
        option_map (λ (l : Name × ℕ). l.0) (first_of (cond t (e ∷ from_edge edge lows) (from_edge edge lows)))
        ≡ option_map (λ (n : Name × Node). n.0) (first_of (cond t ((e.0, node_at nodes e.1) ∷ from_edge edge (placed lows nodes)) (from_edge edge (placed lows nodes))))
    by_test true rest = refl
    by_test false rest = rest

-- another node at a low's place is put under that low
pub sets : (lows : List (Name × ℕ)) (nodes : List Node) (low : Name) (i : ℕ) (n : Node) → ArePlaces lows nodes → value_at low lows ≡ Some i →
    HasPut (placed lows nodes) (placed lows (set nodes i n)) low n
sets lows nodes low i n are there x =
    value_placed x lows (set nodes i n) ∙ by_name (same_or_other low x)
  where
    here : node_at (set nodes i n) i ≡ n
    here = get_or-set_same nodes i n no_node (are.within low i there)

    at_other : (o : Option ℕ) → value_at x lows ≡ o → is_eq (name_cmp low x) ≡ false → option_map (node_at (set nodes i n)) o ≡ option_map (node_at nodes) o
    at_other None e apart = refl
    at_other (Some j) e apart =
        ap Some (get_or-set_other nodes i j n no_node
        (λ same. true≢false (sym (ap is_eq (name_same low)) ∙ subst (λ y. is_eq (name_cmp low y) ≡ false) (sym (are.apart low x i there (e ∙ ap Some same))) apart)))

    by_name : (low ≡ x) ⊎ (is_eq (name_cmp low x) ≡ false) → option_map (node_at (set nodes i n)) (value_at x lows) ≡ cond (is_eq (name_cmp low x)) (Some n) (value_at x (placed lows nodes))
    by_name (inl same) =
        subst (λ y. option_map (node_at (set nodes i n)) (value_at y lows) ≡ cond (is_eq (name_cmp low y)) (Some n) (value_at y (placed lows nodes))) same
        (ap (option_map (node_at (set nodes i n))) there ∙ ap Some here ∙ sym (same_gets low (Some n) (value_at low (placed lows nodes))))
    by_name (inr apart) =
        at_other (value_at x lows) refl apart ∙ sym (value_placed x lows nodes) ∙ sym (other_stays low x (Some n) (value_at x (placed lows nodes)) apart)

-- places stay those of nodes
pub sets_places : (lows : List (Name × ℕ)) (nodes : List Node) (i : ℕ) (n : Node) → ArePlaces lows nodes → ArePlaces lows (set nodes i n)
sets_places lows nodes i n are =
    are_places lows (set nodes i n) are.rising (subst (λ count. AllByRecursion (λ (e : Name × ℕ). e.1 < count) lows) (sym (length-set nodes i n)) are.each) are.apart

-- ---- a low more

pub put_items : (old kept new : List Node) (n : Node) → kept ≡ old → new ≡ kept ++ n ∷ [] → new ≡ old ++ n ∷ []
put_items old kept new n same made = made ∙ ap (λ (nodes : List Node). nodes ++ n ∷ []) same

-- lows with a place put under a name
abbrev pub HasPlace : List (Name × ℕ) → List (Name × ℕ) → Name → ℕ → Type 0
HasPlace old new low i = (x : Name) → value_at x new ≡ cond (is_eq (name_cmp low x)) (Some i) (value_at x old)

-- a node behind the others, under a low that none has
pub puts : (old new : List (Name × ℕ)) (nodes : List Node) (low : Name) (n : Node) → ArePlaces old nodes → HasPlace old new low (length nodes) →
    HasPut (placed old nodes) (placed new (nodes ++ n ∷ [])) low n
puts old new nodes low n are has x =
    value_placed x new (nodes ++ n ∷ []) ∙ ap (option_map (node_at (nodes ++ n ∷ []))) (has x) ∙ by_test (is_eq (name_cmp low x))
  where
    old_stays : (o : Option ℕ) → value_at x old ≡ o → option_map (node_at (nodes ++ n ∷ [])) o ≡ option_map (node_at nodes) o
    old_stays None e = refl
    old_stays (Some j) e = ap Some (get_or_append_left nodes (n ∷ []) no_node j (are.within x j e))

    by_test : (t : Bool) → option_map (node_at (nodes ++ n ∷ [])) (cond t (Some (length nodes)) (value_at x old)) ≡ cond t (Some n) (value_at x (placed old nodes))
    by_test true = ap Some (get_or_push nodes n no_node (length nodes) refl)
    by_test false = old_stays (value_at x old) refl ∙ sym (value_placed x old nodes)

pub puts_places : (old new : List (Name × ℕ)) (nodes : List Node) (low : Name) (n : Node) → ArePlaces old nodes → HasPlace old new low (length nodes) → new ≡ insert_entry name_cmp old low (length nodes) → IsRising new →
    ArePlaces new (nodes ++ n ∷ [])
puts_places old new nodes low n are has is up =
    are_places new (nodes ++ n ∷ []) up
    (subst (λ count. AllByRecursion (λ (e : Name × ℕ). e.1 < count) new) (sym (length_push nodes n))
    (subst (AllByRecursion (λ (e : Name × ℕ). e.1 < length nodes + 1)) (sym is)
    (all_with low (length nodes) (length nodes + 1) old (omega arith) (all_more (length nodes) (length nodes + 1) old (omega arith) are.each))))
    (λ x y i ex ey. together x y i ex ey (same_or_other low x) (same_or_other low y))
  where
    was : (x : Name) (i : ℕ) → value_at x new ≡ Some i → is_eq (name_cmp low x) ≡ false → value_at x old ≡ Some i
    was x i e apart = sym (other_stays low x (Some (length nodes)) (value_at x old) apart) ∙ sym (has x) ∙ e

    is_new : (x : Name) (i : ℕ) → value_at x new ≡ Some i → low ≡ x → length nodes ≡ i
    is_new x i e same =
        same_Some (length nodes) i (sym (same_gets low (Some (length nodes)) (value_at low old)) ∙ sym (has low) ∙ ap (λ y. value_at y new) same ∙ e)

    together : (x y : Name) (i : ℕ) → value_at x new ≡ Some i → value_at y new ≡ Some i → (low ≡ x) ⊎ (is_eq (name_cmp low x) ≡ false) → (low ≡ y) ⊎ (is_eq (name_cmp low y) ≡ false) → x ≡ y
    together x y i ex ey (inl sx) (inl sy) = sym sx ∙ sy
    together x y i ex ey (inl sx) (inr ay) =
        let less : i < length nodes = are.within y i (was y i ey ay) in
        let same : length nodes ≡ i = is_new x i ex sx in
        absurd (omega arith)
    together x y i ex ey (inr ax) (inl sy) =
        let less : i < length nodes = are.within x i (was x i ex ax) in
        let same : length nodes ≡ i = is_new y i ey sy in
        absurd (omega arith)
    together x y i ex ey (inr ax) (inr ay) = are.apart x y i (was x i ex ax) (was y i ey ay)

-- ---- a low less

-- lows without a name
abbrev pub HasNoPlace : List (Name × ℕ) → List (Name × ℕ) → Name → Type 0
HasNoPlace old new low = (x : Name) → value_at x new ≡ cond (is_eq (name_cmp low x)) None (value_at x old)

pub takes : (old new : List (Name × ℕ)) (nodes : List Node) (low : Name) → HasNoPlace old new low → HasTaken (placed old nodes) (placed new nodes) low
takes old new nodes low has x =
    value_placed x new nodes ∙ ap (option_map (node_at nodes)) (has x) ∙ by_test (is_eq (name_cmp low x))
  where
    by_test : (t : Bool) → option_map (node_at nodes) (cond t None (value_at x old)) ≡ cond t None (value_at x (placed old nodes))
    by_test true = refl
    by_test false = sym (value_placed x old nodes)

pub takes_places : (old new : List (Name × ℕ)) (nodes : List Node) (low : Name) → ArePlaces old nodes → HasNoPlace old new low → new ≡ remove_entry (is_at (name_cmp low)) old → IsRising new → ArePlaces new nodes
takes_places old new nodes low are has is up =
    are_places new nodes up (subst (AllByRecursion (λ (e : Name × ℕ). e.1 < length nodes)) (sym is) (all_without (is_at (name_cmp low)) (length nodes) old are.each))
    (λ x y i ex ey. are.apart x y i (was x i ex) (was y i ey))
  where
    by_test : (t : Bool) (o : Option ℕ) (i : ℕ) → cond t None o ≡ Some i → o ≡ Some i
    by_test true o i e = absurd (none-some i e)
    by_test false o i e = e

    was : (x : Name) (i : ℕ) → value_at x new ≡ Some i → value_at x old ≡ Some i
    was x i e = by_test (is_eq (name_cmp low x)) (value_at x old) i (sym (has x) ∙ e)
