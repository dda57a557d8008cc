-- How many images and nodes a name's slot needs.
use Rattle.std.proofs.Common.{◌≡◌, ◌==◌, ◌&&◌, ◌||◌, ◌≤◌, ◌<◌, ◌*◌, ◌+◌, ◌++◌, ◌∷◌, not, ℕ, zero, suc, List, [], Bool, true, false, cond, Option, None, Some, filter, map, drop, length, refl, ap, ap₂, sym, subst, ◌∙◌, arith, length-append, is_eq, ◌⊎◌, inl, inr}
use Rattle.std.specs.List.{AllByRecursion}
use Rattle.std.specs.Map.{keys_of}
use Rattle.std.proofs.lemmas.Bool.{eq-eqb, ltb-false}
use Rattle.std.proofs.lemmas.List.{length-map, drop_more, drop_all}
use Rattle.std.proofs.lemmas.List.Folds.{list_any-append}
use Rattle.je_order.specs.declared.name.Name.{Name}
use Rattle.record_map.specs.Cells.{last_of}
use Rattle.record_map.proofs.NameLaws.{name_same}
use Rattle.tree_nodes.specs.Lows.{lows_at}
use Rattle.db_tree.specs.declared.node_at.NodeAt.{NodeAt}
use Rattle.db_tree.specs.declared.node_split.NodeSplit.{NodeSplit}
use Rattle.db_tree.specs.Laws.{ImagesAreFew, NodesAreFew}
use Rattle.db_tree.specs.Splits.{Shape, split_over, then_above, splits_from, splits_of, is_raised, one_if, made_for, nodes_made, has_slot, nodes_logged, logged_by, shape_behind, shape_with, count_waiting, node_size}
use Rattle.db_tree.specs.Waiting.{is_same_name, is_logged_before, at_level, waiting_below, waiting_before, halves_of, root_at, is_among, still_waiting, waiting_raised, count_lows}

-- ---- splits

pub splits_few : (fanout : ℕ) (x : Name) (names : List Name) (lows : List (List Name)) → length (splits_from fanout x names lows) ≤ length lows
splits_few fanout x names [] = omega arith
splits_few fanout x names (l ∷ lows) = by_split (split_over fanout x names l) (splits_few fanout x l lows)
  where
    by_split : (o : Option NodeSplit) → length (splits_from fanout x l lows) ≤ length lows → length (then_above o (splits_from fanout x l lows)) ≤ length (l ∷ lows)
    by_split None few = omega arith
    by_split (Some s) few = omega (arith, few)

one_few : (raised : Bool) → one_if raised ≤ 1
one_few true = omega arith
one_few false = omega arith

pub nodes_few : NodesAreFew
nodes_few fanout x shape = by_test (has_slot x shape)
  where
    by_test : (t : Bool) → cond t 0 (made_for (splits_of fanout x shape) shape.lows) ≤ length shape.lows + 1
    by_test true = omega arith
    by_test false =
        let few : length (splits_of fanout x shape) ≤ length shape.lows = splits_few fanout x (keys_of shape.cells) shape.lows in
        let root : one_if (is_raised (splits_of fanout x shape) shape.lows) ≤ 1 = one_few (is_raised (splits_of fanout x shape) shape.lows) in
        omega (arith, few, root)

-- ---- what waits and is logged

or_left : (a b : Bool) → a ≡ true → (a || b) ≡ true
or_left a b is = ap (λ (t : Bool). t || b) is

or_right : (a b : Bool) → b ≡ true → (a || b) ≡ true
or_right true b is = refl
or_right false b is = is

-- nodes that are among others
abbrev AreAmong : List NodeAt → List NodeAt → Type 0
AreAmong part whole = (k : ℕ) (y : Name) → is_among part k y ≡ true → is_among whole k y ≡ true

among_both : (a b : List NodeAt) (k : ℕ) (y : Name) → is_among (a ++ b) k y ≡ (is_among a k y || is_among b k y)
among_both a b k y = list_any-append (λ (n : NodeAt). (n.level == k) && is_same_name n.low y) a b

among_left : (a b whole : List NodeAt) → AreAmong (a ++ b) whole → AreAmong a whole
among_left a b whole are k y is = are k y (among_both a b k y ∙ or_left (is_among a k y) (is_among b k y) is)

among_right : (a b whole : List NodeAt) → AreAmong (a ++ b) whole → AreAmong b whole
among_right a b whole are k y is = are k y (among_both a b k y ∙ or_right (is_among a k y) (is_among b k y) is)

among_first : (a b : List NodeAt) → AreAmong a (a ++ b)
among_first a b k y is = among_both a b k y ∙ or_left (is_among a k y) (is_among b k y) is

-- each name of a level is among them
all_among : (whole : List NodeAt) (level : ℕ) (names : List Name) → AreAmong (at_level level names) whole → AllByRecursion (λ y. is_among whole level y ≡ true) names
all_among whole level [] are = tt
all_among whole level (x ∷ names) are = (
  are level x (or_left ((level == level) && is_same_name x x) (is_among (at_level level names) level x) here),
  all_among whole level names (λ k y is. are k y (or_right ((level == k) && is_same_name x y) (is_among (at_level level names) k y) is)),
)
  where
    here : ((level == level) && is_same_name x x) ≡ true
    here = ap₂ (λ (a b : Bool). a && b) (eq-eqb level level refl) (ap is_eq (name_same x))

cond_few : (t : Bool) (x : Name) (l : List Name) → length (cond t (x ∷ l) l) ≤ length l + 1
cond_few true x l = omega arith
cond_few false x l = omega arith

-- some names, and those of all that are not among some with them
count_apart : (p q : Name → Bool) (names : List Name) → AllByRecursion (λ y. q y ≡ true) (filter p names) → length (filter p names) + length (filter (λ y. not (q y)) names) ≤ length names
count_apart p q [] all = omega arith
count_apart p q (x ∷ names) all = by_test (p x) refl (λ rest. count_apart p q names rest)
  where
    by_test : (t : Bool) → p x ≡ t → (AllByRecursion (λ y. q y ≡ true) (filter p names) → length (filter p names) + length (filter (λ y. not (q y)) names) ≤ length names) →
        length (filter p (x ∷ names)) + length (filter (λ y. not (q y)) (x ∷ names)) ≤ length (x ∷ names)
    by_test true is rest =
        let own : AllByRecursion (λ y. q y ≡ true) (x ∷ filter p names) = subst (λ (t : Bool). AllByRecursion (λ y. q y ≡ true) (cond t (x ∷ filter p names) (filter p names))) is all in
        let tails : length (filter p names) + length (filter (λ y. not (q y)) names) ≤ length names = rest own.1 in
        subst (λ (t : Bool). length (cond t (x ∷ filter p names) (filter p names)) + length (filter (λ y. not (q y)) (x ∷ names)) ≤ length (x ∷ names)) (sym is)
        (subst (λ (t : Bool). length (x ∷ filter p names) + length (cond (not t) (x ∷ filter (λ y. not (q y)) names) (filter (λ y. not (q y)) names)) ≤ length (x ∷ names)) (sym own.0) (omega (arith, tails)))
    by_test false is rest =
        let own : AllByRecursion (λ y. q y ≡ true) (filter p names) = subst (λ (t : Bool). AllByRecursion (λ y. q y ≡ true) (cond t (x ∷ filter p names) (filter p names))) is all in
        let tails : length (filter p names) + length (filter (λ y. not (q y)) names) ≤ length names = rest own in
        let head : length (cond (not (q x)) (x ∷ filter (λ y. not (q y)) names) (filter (λ y. not (q y)) names)) ≤ length (filter (λ y. not (q y)) names) + 1 = cond_few (not (q x)) x (filter (λ y. not (q y)) names) in
        subst (λ (t : Bool). length (cond t (x ∷ filter p names) (filter p names)) + length (filter (λ y. not (q y)) (x ∷ names)) ≤ length (x ∷ names)) (sym is) (omega (arith, tails, head))

filter_less : (p : Name → Bool) (names : List Name) → length (filter p names) ≤ length names
filter_less p [] = omega arith
filter_less p (x ∷ names) =
    let rest : length (filter p names) ≤ length names = filter_less p names in
    let head : length (cond (p x) (x ∷ filter p names) (filter p names)) ≤ length (filter p names) + 1 = cond_few (p x) x (filter p names) in
    omega (arith, rest, head)

pub still_less : (whole : List NodeAt) (level : ℕ) (waiting : List (List Name)) → count_lows (still_waiting whole level waiting) ≤ count_lows waiting
still_less whole level [] = omega arith
still_less whole level (l ∷ waiting) =
    let head : length (filter (λ y. not (is_among whole level y)) l) ≤ length l = filter_less (λ (y : Name). not (is_among whole level y)) l in
    let rest : count_lows (still_waiting whole (suc level) waiting) ≤ count_lows waiting = still_less whole (suc level) waiting in
    omega (arith, head, rest)

still_root : (whole : List NodeAt) (level : ℕ) (waiting : List (List Name)) → count_lows (still_waiting whole level (waiting ++ [] ∷ [])) ≡ count_lows (still_waiting whole level waiting)
still_root whole level [] = refl
still_root whole level (l ∷ waiting) = ap (λ (n : ℕ). length (filter (λ y. not (is_among whole level y)) l) + n) (still_root whole (suc level) waiting)

past_lows : (waiting : List (List Name)) (level : ℕ) → length waiting ≤ level → lows_at waiting level ≡ []
past_lows [] level past = refl
past_lows (l ∷ waiting) zero past = absurd (omega (arith, past))
past_lows (l ∷ waiting) (suc level) past = let less : length waiting ≤ level = omega (arith, past) in past_lows waiting level less

-- what is logged of the levels from one on, and what of them waits still
below_few : (whole : List NodeAt) (waiting : List (List Name)) (level : ℕ) (top : NodeSplit) (splits : List NodeSplit) → AreAmong (waiting_below level top splits waiting) whole →
    length (waiting_below level top splits waiting) + count_lows (still_waiting whole level (drop level waiting)) ≤ count_lows (drop level waiting)
below_few whole waiting level top [] are = let less : count_lows (still_waiting whole level (drop level waiting)) ≤ count_lows (drop level waiting) = still_less whole level (drop level waiting) in omega (arith, less)
below_few whole waiting level top (split ∷ splits) are =
    let rest : length others + count_lows (still_waiting whole (suc level) (drop (suc level) waiting)) ≤ count_lows (drop (suc level) waiting) =
    below_few whole waiting (suc level) top splits (among_right here others whole are) in
    by_order (nat_order level (length waiting)) rest
  where
    names : List Name
    names = filter (is_logged_before top split) (lows_at waiting level)

    here : List NodeAt
    here = at_level level names

    others : List NodeAt
    others = waiting_below (suc level) top splits waiting

    nat_order : (a b : ℕ) → (a < b) ⊎ (b ≤ a)
    nat_order zero zero = inr (omega arith)
    nat_order zero (suc b) = inl (omega arith)
    nat_order (suc a) zero = inr (omega arith)
    nat_order (suc a) (suc b) = elim (nat_order a b) [
      | inl less ↦ inl (omega (arith, less))
      | inr more ↦ inr (omega (arith, more))
    ]

    long : length (here ++ others) ≡ length names + length others
    long = length-append here others ∙ ap (λ (n : ℕ). n + length others) (length-map names (λ (low : Name). record { level = level; low = low }))

    next : suc level ≡ level + 1
    next = omega arith

    by_order : (level < length waiting) ⊎ (length waiting ≤ level) → length others + count_lows (still_waiting whole (suc level) (drop (suc level) waiting)) ≤ count_lows (drop (suc level) waiting) →
        length (here ++ others) + count_lows (still_waiting whole level (drop level waiting)) ≤ count_lows (drop level waiting)
    by_order (inl within) rest =
        let is : drop level waiting ≡ lows_at waiting level ∷ drop (suc level) waiting = drop_more waiting level [] within ∙ ap (λ (n : ℕ). lows_at waiting level ∷ drop n waiting) (sym next) in
        let own : length names + length (filter (λ y. not (is_among whole level y)) (lows_at waiting level)) ≤ length (lows_at waiting level) =
        count_apart (is_logged_before top split) (is_among whole level) (lows_at waiting level) (all_among whole level names (among_left here others whole are)) in
        subst (λ (l : List (List Name)). length (here ++ others) + count_lows (still_waiting whole level l) ≤ count_lows l) (sym is) (omega (arith, long, own, rest))
    by_order (inr past) rest =
        let none : length names ≡ 0 = ap (λ (l : List Name). length (filter (is_logged_before top split) l)) (past_lows waiting level past) in
        let more : length waiting ≤ suc level = omega (arith, past) in
        let tails : length others + count_lows (still_waiting whole (suc level) []) ≤ count_lows [] =
        subst (λ (l : List (List Name)). length others + count_lows (still_waiting whole (suc level) l) ≤ count_lows l) (drop_all (suc level) waiting more) rest in
        subst (λ (l : List (List Name)). length (here ++ others) + count_lows (still_waiting whole level l) ≤ count_lows l) (sym (drop_all level waiting past)) (omega (arith, long, none, tails))

drop_none : (waiting : List (List Name)) → drop 0 waiting ≡ waiting
drop_none [] = refl
drop_none (l ∷ waiting) = refl

before_few : (whole : List NodeAt) (waiting : List (List Name)) (top : Option NodeSplit) (splits : List NodeSplit) → AreAmong (waiting_before top splits waiting) whole →
    length (waiting_before top splits waiting) + count_lows (still_waiting whole 0 waiting) ≤ count_lows waiting
before_few whole waiting None splits are = let less : count_lows (still_waiting whole 0 waiting) ≤ count_lows waiting = still_less whole 0 waiting in omega (arith, less)
before_few whole waiting (Some top) splits are =
    subst (λ (l : List (List Name)). length (waiting_below 0 top splits waiting) + count_lows (still_waiting whole 0 l) ≤ count_lows l) (drop_none waiting) (below_few whole waiting 0 top splits are)

halves_count : (level : ℕ) (splits : List NodeSplit) → length (halves_of level splits) ≡ 2 * length splits
halves_count level [] = refl
halves_count level (s ∷ splits) = let rest : length (halves_of (suc level) splits) ≡ 2 * length splits = halves_count (suc level) splits in omega (arith, rest)

root_count : (level : ℕ) (raised : Bool) → length (root_at level raised) ≡ one_if raised
root_count level true = refl
root_count level false = refl

raised_count : (whole : List NodeAt) (raised : Bool) (waiting : List (List Name)) → count_lows (still_waiting whole 0 (waiting_raised raised waiting)) ≡ count_lows (still_waiting whole 0 waiting)
raised_count whole true waiting = still_root whole 0 waiting
raised_count whole false waiting = refl

-- the nodes that are logged for splits, and those that wait still
splits_logged : (splits : List NodeSplit) (shape : Shape) → length (logged_by splits shape) + count_lows (still_waiting (logged_by splits shape) 0 (waiting_raised (is_raised splits shape.lows) shape.waiting)) ≤
    count_lows shape.waiting + 2 * made_for splits shape.lows
splits_logged splits shape =
    let before = waiting_before (last_of splits) splits shape.waiting in
    let halves = halves_of 0 splits in
    let root = root_at (length splits) (is_raised splits shape.lows) in
    let whole : length (logged_by splits shape) ≡ length (before ++ halves) + length root = length-append (before ++ halves) root in
    let both : length (before ++ halves) ≡ length before + length halves = length-append before halves in
    let first : length halves ≡ 2 * length splits = halves_count 0 splits in
    let last : length root ≡ one_if (is_raised splits shape.lows) = root_count (length splits) (is_raised splits shape.lows) in
    let same : count_lows (still_waiting (logged_by splits shape) 0 (waiting_raised (is_raised splits shape.lows) shape.waiting)) ≡ count_lows (still_waiting (logged_by splits shape) 0 shape.waiting) =
    raised_count (logged_by splits shape) (is_raised splits shape.lows) shape.waiting in
    let few : length before + count_lows (still_waiting (logged_by splits shape) 0 shape.waiting) ≤ count_lows shape.waiting =
    before_few (logged_by splits shape) shape.waiting (last_of splits) splits (λ k y is. among_first (before ++ halves) root k y (among_first before halves k y is)) in
    omega (arith, whole, both, first, last, same, few)

-- what is logged where a name gets a slot, and what waits still; `t` is whether it has one
abbrev Few : ℕ → Name → Shape → Bool → Type 0
Few fanout x shape t = length (cond t [] (logged_by (splits_of fanout x shape) shape)) + count_waiting (cond t shape (shape_behind (splits_of fanout x shape) x shape)) ≤ count_waiting shape + 129

few_by : (fanout : ℕ) (x : Name) (shape : Shape) (t : Bool) → cond t 0 (made_for (splits_of fanout x shape) shape.lows) ≤ 64 → Few fanout x shape t
few_by fanout x shape true most = omega arith
few_by fanout x shape false most =
    let few : length (logged_by (splits_of fanout x shape) shape) + count_lows (still_waiting (logged_by (splits_of fanout x shape) shape) 0 (waiting_raised (is_raised (splits_of fanout x shape) shape.lows) shape.waiting)) ≤
    count_lows shape.waiting + 2 * made_for (splits_of fanout x shape) shape.lows = splits_logged (splits_of fanout x shape) shape in
    omega (arith, few, most)

-- at most 129 images more than the waits that end
pub images_few : ImagesAreFew
images_few fanout x shape low =
    let few : Few fanout x shape (has_slot x shape) = few_by fanout x shape (has_slot x shape) (ltb-false 64 (nodes_made fanout x shape) low) in
    let sizes : length (map (node_size (shape_with fanout x shape)) (nodes_logged fanout x shape)) ≡ length (nodes_logged fanout x shape) = length-map (nodes_logged fanout x shape) (node_size (shape_with fanout x shape)) in
    omega (arith, sizes, few)
