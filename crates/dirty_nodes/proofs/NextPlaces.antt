-- The next node to be logged, of the trees of all databases.
use Rattle.std.proofs.Common.{◌≡◌, ◌<◌, ◌≤◌, ◌==◌, ◌+◌, ◌++◌, ◌&&◌, ℕ, List, [], ◌∷◌, Bool, true, false, Option, None, Some, get_or, length, Ordering, Less, Equal, Greater, refl, ap, ap₂, sym, subst, ◌∙◌, arith}
use Rattle.std.specs.List.{AllByRecursion, All, sum_by}
use Rattle.std.specs.Ordering.{nat_cmp, is_lt, ordering_reverse, ordering_then, MatchOrdering}
use Rattle.std.specs.BTreeMap.{BTreeMap, get}
use Rattle.std.specs.Cmp.{IsTotalOrder}
use Rattle.std.proofs.lemmas.Bool.{true≢false, eq-eqb, eqb-true}
use Rattle.std.proofs.lemmas.Cmp.{nat_cmp_total, on_total, ranked, then_total}
use Rattle.std.proofs.lemmas.List.Sums.{sum_by-cons}
use Rattle.record_map.specs.Cells.{value_at}
use Rattle.record_tree.specs.Nodes.{IsNext, place_cmp}
use Rattle.record_tree.specs.declared.node_place.NodePlace.{NodePlace}
use Rattle.tree_nodes.specs.declared.node.Node.{Node}
use Rattle.tree_nodes.specs.Nodes.{NodeRow, is_dirty, is_due}
use Rattle.tree_nodes.specs.Levels.{row_of}
use Rattle.tree_nodes.specs.Noted.{count_all_due}
use Rattle.db_tree.specs.declared.tree.DbTree.{DbTree}
use Rattle.dirty_nodes.specs.Marks.{is_one}
use Rattle.dirty_nodes.specs.Forest.{at_place, is_dirty_in, is_noted_in}
use Rattle.dirty_nodes.specs.Steps.{IsNextAt, IsNextPlace, is_first}
use Rattle.dirty_nodes.proofs.Forests.{each_get}

-- ---- the order of places

place_total : IsTotalOrder place_cmp
place_total = then_total (on_total (λ (p : NodePlace). p.level) nat_cmp_total) (then_total (on_total (λ (p : NodePlace). p.db) nat_cmp_total) (on_total (λ (p : NodePlace). p.node) nat_cmp_total))

is_less : (o : Ordering) → is_lt o ≡ true → o ≡ Less
is_less Less h = refl
is_less Equal h = absurd (true≢false (sym h))
is_less Greater h = absurd (true≢false (sym h))

not_less : (o : Ordering) → (o ≡ Less → ⊥) → is_lt o ≡ false
not_less o never = by_order o refl
  where
    by_order : (r : Ordering) → o ≡ r → is_lt o ≡ false
    by_order Less is = absurd (never is)
    by_order Equal is = ap is_lt is
    by_order Greater is = ap is_lt is

less_not : (o : Ordering) → is_lt o ≡ false → o ≡ Less → ⊥
less_not o not_it is = true≢false (sym (ap is_lt is) ∙ not_it)

-- what does not come before a place does not come before an earlier one
pub not_before_less : (q p b : NodePlace) → is_lt (place_cmp p b) ≡ true → is_lt (place_cmp q b) ≡ false → is_lt (place_cmp q p) ≡ false
not_before_less q p b less not_it = not_less (place_cmp q p) (λ is. less_not (place_cmp q b) not_it (place_total.trans q p b is (is_less (place_cmp p b) less)))

-- nor before one that does not come before that
pub not_before_not : (q p b : NodePlace) → is_lt (place_cmp p b) ≡ false → is_lt (place_cmp q p) ≡ false → is_lt (place_cmp q b) ≡ false
not_before_not q p b other not_it = not_less (place_cmp q b) (λ is. by_order (place_cmp p b) refl is)
  where
    by_order : (o : Ordering) → place_cmp p b ≡ o → place_cmp q b ≡ Less → ⊥
    by_order Less e is = less_not (place_cmp p b) other e
    by_order Equal e is =
        less_not (place_cmp q p) not_it
        (place_total.antisymm q p ∙ ap ordering_reverse (place_total.congr p b q e) ∙ sym (place_total.antisymm q b) ∙ is)
    by_order Greater e is = less_not (place_cmp q p) not_it (place_total.trans q b p is (place_total.antisymm b p ∙ ap ordering_reverse e))

-- ---- nodes that are due

-- the node at a place of a tree is noted and dirty
pub record DueAt (rows : List NodeRow) (p : NodePlace) : Type 0 where
  pub node : Node
  pub there : value_at p.low (row_of rows p.level) ≡ Some node
  pub number : p.node ≡ node.number
  pub due : is_due node ≡ true

and_left : (a b : Bool) → (a && b) ≡ true → a ≡ true
and_left true b is = refl
and_left false b is = is

and_right : (a b : Bool) → (a && b) ≡ true → b ≡ true
and_right true b is = is
and_right false b is = absurd (true≢false (sym is))

both_true : (a b : Bool) → a ≡ true → b ≡ true → (a && b) ≡ true
both_true a b first second = ap₂ (λ (x y : Bool). x && y) first second

abbrev is_due_in : BTreeMap ℕ DbTree → NodePlace → Bool
is_due_in forest p = is_noted_in forest p && is_dirty_in forest p

one_due : (o : Option Node) (number : ℕ) → (is_one (λ n. n.noted) o number && is_one is_dirty o number) ≡ true → (n : Node) × (o ≡ Some n) × (number ≡ n.number) × (is_due n ≡ true)
one_due None number is = absurd (true≢false (sym is))
one_due (Some n) number is =
    let noted = and_left ((n.number == number) && n.noted) ((n.number == number) && is_dirty n) is in
    let dirty = and_right ((n.number == number) && n.noted) ((n.number == number) && is_dirty n) is in (
      n,
      refl,
      sym (eqb-true n.number number (and_left (n.number == number) n.noted noted)),
      both_true n.noted (is_dirty n) (and_right (n.number == number) n.noted noted) (and_right (n.number == number) (is_dirty n) dirty),
    )

due_one : (o : Option Node) (number : ℕ) (n : Node) → o ≡ Some n → number ≡ n.number → is_due n ≡ true → (is_one (λ n. n.noted) o number && is_one is_dirty o number) ≡ true
due_one o number n there same due =
    subst (λ (x : Option Node). (is_one (λ n. n.noted) x number && is_one is_dirty x number) ≡ true) (sym there)
    (both_true ((n.number == number) && n.noted) ((n.number == number) && is_dirty n) (both_true (n.number == number) n.noted is (and_left n.noted (is_dirty n) due)) (both_true (n.number == number) (is_dirty n) is (and_right n.noted (is_dirty n) due)))
  where
    is : (n.number == number) ≡ true
    is = eq-eqb n.number number (sym same)

-- a node that is due in the trees is due in the one of its database
due_there : (forest : BTreeMap ℕ DbTree) (p : NodePlace) → is_due_in forest p ≡ true → (tree : DbTree) × (get nat_cmp forest p.db ≡ Some tree) × DueAt tree.levels p
due_there forest p due = by_tree (get nat_cmp forest p.db) refl
  where
    by_tree : (o : Option DbTree) → get nat_cmp forest p.db ≡ o → (tree : DbTree) × (get nat_cmp forest p.db ≡ Some tree) × DueAt tree.levels p
    by_tree None is = absurd (true≢false (sym due ∙ ap (λ (o : Option DbTree). at_place (λ rows level low number. is_one (λ n. n.noted) (value_at low (row_of rows level)) number) o p && at_place (λ rows level low number. is_one is_dirty (value_at low (row_of rows level)) number) o p) is))
    by_tree (Some tree) is =
        let d = one_due (value_at p.low (row_of tree.levels p.level)) p.node (sym (ap (λ (o : Option DbTree). at_place (λ rows level low number. is_one (λ n. n.noted) (value_at low (row_of rows level)) number) o p && at_place (λ rows level low number. is_one is_dirty (value_at low (row_of rows level)) number) o p) is) ∙ due) in
        (tree, is, record { node = d.0; there = d.1; number = d.2; due = d.3 })

there_due : (forest : BTreeMap ℕ DbTree) (p : NodePlace) (tree : DbTree) → get nat_cmp forest p.db ≡ Some tree → DueAt tree.levels p → is_due_in forest p ≡ true
there_due forest p tree is d =
    ap (λ (o : Option DbTree). at_place (λ rows level low number. is_one (λ n. n.noted) (value_at low (row_of rows level)) number) o p && at_place (λ rows level low number. is_one is_dirty (value_at low (row_of rows level)) number) o p) is
    ∙ due_one (value_at p.low (row_of tree.levels p.level)) p.node d.node d.there d.number d.due

-- ---- one tree after another

-- a place does not come before the one that was found
abbrev pub IsNotBefore : NodePlace → Option NodePlace → Type 0
IsNotBefore q None = ⊥
IsNotBefore q (Some p) = is_lt (place_cmp q p) ≡ false

-- no node of a database's tree that is due does
abbrev pub NoneBefore : Option NodePlace → ℕ × DbTree → Type 0
NoneBefore found e = (q : NodePlace) → q.db ≡ e.0 → DueAt e.1.levels q → IsNotBefore q found

-- the place that was found is that of a node that is due
abbrev pub IsFound : BTreeMap ℕ DbTree → Option NodePlace → Type 0
IsFound forest None = Unit {0}
IsFound forest (Some p) = (tree : DbTree) × (get nat_cmp forest p.db ≡ Some tree) × DueAt tree.levels p

-- no node of a tree without one that is due is
pub none_at : (found : Option NodePlace) (db : ℕ) (tree : DbTree) → IsNextAt db tree.levels None → NoneBefore found (db, tree)
none_at found db tree none q same d = absurd (true≢false (sym d.due ∙ none q.level q.low d.node d.there))

-- the next one of a tree is due
pub next_is_due : (db : ℕ) (rows : List NodeRow) (p : NodePlace) → IsNextPlace db rows p → DueAt rows p
next_is_due db rows p next = record { node = next.node; there = next.next.there; number = next.number; due = next.next.due }

-- and no other one comes before it
next_before : (db : ℕ) (rows : List NodeRow) (p q : NodePlace) → IsNextPlace db rows p → q.db ≡ db → DueAt rows q → is_lt (place_cmp q p) ≡ false
next_before db rows p q next same d = by_level (nat_cmp q.level p.level) refl (ranked q.level p.level (nat_cmp q.level p.level) refl)
  where
    by_number : (o : Ordering) → nat_cmp q.node p.node ≡ o → MatchOrdering o (q.node < p.node) (q.node ≡ p.node) (p.node < q.node) → p.node ≤ q.node → is_lt o ≡ false
    by_number Less e m le = absurd (omega (arith, m, le))
    by_number Equal e m le = refl
    by_number Greater e m le = refl

    number_least : (q.level ≡ p.level) → p.node ≤ q.node
    number_least at =
        let le = next.next.least q.low d.node (subst (λ (l : ℕ). value_at q.low (row_of rows l) ≡ Some d.node) at d.there) d.due in
        let own = next.number in
        let its = d.number in
        omega (arith, le, own, its)

    by_db : (o : Ordering) → MatchOrdering o (q.db < p.db) (q.db ≡ p.db) (p.db < q.db) → (q.level ≡ p.level) → is_lt (ordering_then o (nat_cmp q.node p.node)) ≡ false
    by_db Less m at = let own = next.own in absurd (omega (arith, m, own, same))
    by_db Equal m at = by_number (nat_cmp q.node p.node) refl (ranked q.node p.node (nat_cmp q.node p.node) refl) (number_least at)
    by_db Greater m at = refl

    by_level : (o : Ordering) → nat_cmp q.level p.level ≡ o → MatchOrdering o (q.level < p.level) (q.level ≡ p.level) (p.level < q.level) → is_lt (ordering_then (nat_cmp q.level p.level) (ordering_then (nat_cmp q.db p.db) (nat_cmp q.node p.node))) ≡ false
    by_level Less e m = absurd (true≢false (sym d.due ∙ next.below q.level m q.low d.node d.there))
    by_level Equal e m =
        ap (λ (o : Ordering). is_lt (ordering_then o (ordering_then (nat_cmp q.db p.db) (nat_cmp q.node p.node)))) e
        ∙ by_db (nat_cmp q.db p.db) (ranked q.db p.db (nat_cmp q.db p.db) refl) m
    by_level Greater e m = ap (λ (o : Ordering). is_lt (ordering_then o (ordering_then (nat_cmp q.db p.db) (nat_cmp q.node p.node)))) e

-- the next one of a tree comes first: none of the others comes before it
pub first_at : (db : ℕ) (tree : DbTree) (p : NodePlace) → IsNextPlace db tree.levels p → NoneBefore (Some p) (db, tree)
first_at db tree p next q same d = next_before db tree.levels p q next same d

pub before_first : (found : Option NodePlace) (p : NodePlace) (e : ℕ × DbTree) → is_first p found ≡ true → NoneBefore found e → NoneBefore (Some p) e
before_first None p e first none q same d = absurd (none q same d)
before_first (Some b) p e first none q same d = not_before_less q p b first (none q same d)

-- another one was found that it does not come before
pub after_found : (found : Option NodePlace) (db : ℕ) (tree : DbTree) (p : NodePlace) → IsNextPlace db tree.levels p → is_first p found ≡ false → NoneBefore found (db, tree)
after_found None db tree p next other q same d = absurd (true≢false other)
after_found (Some b) db tree p next other q same d = not_before_not q p b other (next_before db tree.levels p q next same d)

-- ---- all trees

pub found_next : (forest : BTreeMap ℕ DbTree) (found : Option NodePlace) → IsFound forest found → AllByRecursion (NoneBefore found) forest.entries → IsNext (λ p. is_noted_in forest p && is_dirty_in forest p) found
found_next forest None is all = λ q. not_true (is_due_in forest q) (λ due. (let t = due_there forest q due in each_get (NoneBefore None) forest all q.db t.0 t.1 q refl t.2))
  where
    not_true : (b : Bool) → (b ≡ true → ⊥) → b ≡ false
    not_true b never = by_test b refl
      where
        by_test : (t : Bool) → b ≡ t → b ≡ false
        by_test true is = absurd (never is)
        by_test false is = is
found_next forest (Some p) is all = (
  there_due forest p is.0 is.1 is.2,
  λ q due. (let t = due_there forest q due in each_get (NoneBefore (Some p)) forest all q.db t.0 t.1 q refl t.2),
)

-- an entry of a map is what it gives
pub entry_of : (forest : BTreeMap ℕ DbTree) (done rest : List (ℕ × DbTree)) (e : ℕ × DbTree) → All (λ e. get nat_cmp forest e.0 ≡ Some e.1) forest.entries → forest.entries ≡ done ++ e ∷ rest → get nat_cmp forest e.0 ≡ Some e.1
entry_of forest done rest e all is = subst (λ (x : ℕ × DbTree). get nat_cmp forest x.0 ≡ Some x.1) (at_end done) (subst (All (λ e. get nat_cmp forest e.0 ≡ Some e.1)) is all (length done) e (within done))
  where
    at_end : (xs : List (ℕ × DbTree)) → get_or (xs ++ e ∷ rest) (length xs) e ≡ e
    at_end [] = refl
    at_end (x ∷ xs) = at_end xs

    within : (xs : List (ℕ × DbTree)) → length xs < length (xs ++ e ∷ rest)
    within [] = omega arith
    within (x ∷ xs) = let less = within xs in omega (arith, less)

-- ---- how many

pub left_begin : (entries rest : List (ℕ × DbTree)) → rest ≡ entries → 0 + sum_by (λ e. count_all_due e.1.levels) rest ≡ sum_by (λ e. count_all_due e.1.levels) entries
left_begin entries rest is = let same = ap (sum_by (λ (e : ℕ × DbTree). count_all_due e.1.levels)) is in omega (arith, same)

pub left_next : (rest more : List (ℕ × DbTree)) (e : ℕ × DbTree) (count own next total : ℕ) → rest ≡ e ∷ more → own ≡ count_all_due e.1.levels → next ≡ count + own → count + sum_by (λ e. count_all_due e.1.levels) rest ≡ total →
    next + sum_by (λ e. count_all_due e.1.levels) more ≡ total
left_next rest more e count own next total is own_is sum h =
    let all = ap (sum_by (λ (x : ℕ × DbTree). count_all_due x.1.levels)) is ∙ sum_by-cons (λ (x : ℕ × DbTree). count_all_due x.1.levels) e more in
    omega (arith, all, own_is, sum, h)

pub left_end : (rest : List (ℕ × DbTree)) (count total : ℕ) → rest ≡ [] → count + sum_by (λ e. count_all_due e.1.levels) rest ≡ total → count ≡ total
left_end rest count total is h = let none = ap (sum_by (λ (x : ℕ × DbTree). count_all_due x.1.levels)) is in omega (arith, none, h)
