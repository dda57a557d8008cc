-- How many nodes wait where the tree of one database changes.
use Rattle.std.proofs.Common.{◌≡◌, ◌≤◌, ◌<◌, ◌+◌, ◌==◌, ◌⊎◌, ℕ, zero, suc, List, Bool, true, false, cond, nat_lt, Option, Some, None, is_eq, refl, ap, ap₂, sym, subst, ◌∙◌, inl, inr, arith}
use Rattle.std.specs.Ordering.{nat_cmp}
use Rattle.std.specs.BTreeMap.{get}
use Rattle.std.proofs.lemmas.Bool.{lt-ltb}
use Rattle.db_tree.specs.declared.tree.DbTree.{DbTree}
use Rattle.db_tree.specs.Splits.{Shape}
use Rattle.db_tree.specs.Shapes.{AreAlike, new_shape, shape_in}
use Rattle.db_tree.specs.Splits.{count_waiting}
use Rattle.db_tree.specs.Waiting.{count_lows, waiting_of}
use Rattle.tree_nodes.specs.Nodes.{NodeRow}
use Rattle.in_tree.specs.Forest.{Forest, Replaces, IsSameForest}
use Rattle.in_tree.specs.Shapes.{Shapes, shape_of, shapes_of}
use Rattle.in_tree.specs.Waits.{waits_below, waits_in}
use Rattle.in_tree.proofs.Forests.{number_cases, apart_numbers, replaced, others}

-- of databases that have as many nodes that wait
pub waits_same : (a b : Shapes) (n : ℕ) → ((d : ℕ) → d < n → count_waiting (b d) ≡ count_waiting (a d)) → waits_below b n ≡ waits_below a n
unfolding waits_below
waits_same a b zero same = refl
waits_same a b (suc n) same = ap₂ (λ (x y : ℕ). x + y) (same n (omega arith)) (waits_same a b n (λ d less. same d (omega arith)))

-- where one database has others
pub waits_one : (a b : Shapes) (n db : ℕ) → db < n → ((d : ℕ) → (db ≡ d → ⊥) → count_waiting (b d) ≡ count_waiting (a d)) → waits_below b n + count_waiting (a db) ≡ waits_below a n + count_waiting (b db)
unfolding waits_below
waits_one a b zero db less same = absurd (omega (arith, less))
waits_one a b (suc n) db less same = by_number (number_cases db n) (λ below. waits_one a b n db below same)
  where
    by_number : (db ≡ n) ⊎ ((n == db ≡ false) × (is_eq (nat_cmp db n) ≡ false)) → (db < n → waits_below b n + count_waiting (a db) ≡ waits_below a n + count_waiting (b db)) →
        count_waiting (b n) + waits_below b n + count_waiting (a db) ≡ count_waiting (a n) + waits_below a n + count_waiting (b db)
    by_number (inl is) below =
        let rest : waits_below b n ≡ waits_below a n = waits_same a b n (λ d under. same d (λ (h : db ≡ d). absurd (omega (arith, h, is, under)))) in
        subst (λ (e : ℕ). count_waiting (b n) + waits_below b n + count_waiting (a e) ≡ count_waiting (a n) + waits_below a n + count_waiting (b e)) (sym is) (omega (arith, rest))
    by_number (inr apart) below =
        let other : db ≡ n → ⊥ = apart_numbers db n apart.1 in
        let here : count_waiting (b n) ≡ count_waiting (a n) = same n other in
        let rest : waits_below b n + count_waiting (a db) ≡ waits_below a n + count_waiting (b db) = below (omega (arith, less, other)) in
        omega (arith, here, rest)

-- the tree of a database, and of the same one
pub shapes_at : (forest : Forest) (d : ℕ) → d < 4294967296 → shapes_of forest d ≡ shape_of (get nat_cmp forest d)
shapes_at forest d within = ap (λ (t : Bool). cond t (shape_of (get nat_cmp forest d)) new_shape) (lt-ltb d 4294967296 within)

pub shapes_same : (old new : Forest) (d : ℕ) → get nat_cmp new d ≡ get nat_cmp old d → shapes_of new d ≡ shapes_of old d
shapes_same old new d same = ap (λ (t : Option DbTree). cond (nat_lt d 4294967296) (shape_of t) new_shape) same

-- where one database has another tree
pub forest_waits : (old new : Forest) (db : ℕ) (o : Option DbTree) → Replaces old new db o → db < 4294967296 → waits_in new + count_waiting (shapes_of old db) ≡ waits_in old + count_waiting (shape_of o)
forest_waits old new db o has within =
    subst (λ (t : Shape). waits_in new + count_waiting (shapes_of old db) ≡ waits_in old + count_waiting t) (shapes_at new db within ∙ ap shape_of (replaced old new db o has))
    (waits_one (shapes_of old) (shapes_of new) 4294967296 db within (λ d apart. by_number d apart (number_cases db d)))
  where
    by_number : (d : ℕ) → (db ≡ d → ⊥) → (db ≡ d) ⊎ ((d == db ≡ false) × (is_eq (nat_cmp db d) ≡ false)) → count_waiting (shapes_of new d) ≡ count_waiting (shapes_of old d)
    by_number d apart (inl is) = absurd (apart is)
    by_number d apart (inr other) = ap count_waiting (shapes_same old new d (others old new db o has d other.1))

-- as many, or not more
pub forest_waits_same : (old new : Forest) (db : ℕ) (o : Option DbTree) → Replaces old new db o → db < 4294967296 → count_waiting (shape_of o) ≡ count_waiting (shapes_of old db) → waits_in new ≡ waits_in old
forest_waits_same old new db o has within same = let all = forest_waits old new db o has within in omega (arith, all, same)

pub forest_waits_less : (old new : Forest) (db : ℕ) (o : Option DbTree) → Replaces old new db o → db < 4294967296 → count_waiting (shape_of o) ≤ count_waiting (shapes_of old db) → waits_in new ≤ waits_in old
forest_waits_less old new db o has within less = let all = forest_waits old new db o has within in omega (arith, all, less)

-- the same where a tree was written over
pub tree_waits_same : (old new : Forest) (db : ℕ) (tree next : DbTree) → Some tree ≡ get nat_cmp old db → Replaces old new db (Some next) → db < 4294967296 → count_waiting (shape_in next) ≡ count_waiting (shape_in tree) → waits_in new ≡ waits_in old
tree_waits_same old new db tree next there has within same = forest_waits_same old new db (Some next) has within (same ∙ ap (λ (t : Option DbTree). count_waiting (shape_of t)) there ∙ sym (ap count_waiting (shapes_at old db within)))

pub tree_waits_less : (old new : Forest) (db : ℕ) (tree next : DbTree) → Some tree ≡ get nat_cmp old db → Replaces old new db (Some next) → db < 4294967296 → count_waiting (shape_in next) ≤ count_waiting (shape_in tree) → waits_in new ≤ waits_in old
tree_waits_less old new db tree next there has within less =
    forest_waits_less old new db (Some next) has within (subst (λ (n : ℕ). count_waiting (shape_in next) ≤ n) (ap (λ (t : Option DbTree). count_waiting (shape_of t)) there ∙ sym (ap count_waiting (shapes_at old db within))) less)

-- as many wait in trees with the same levels, and in those that are alike
pub same_levels : (old new : DbTree) → new.levels ≡ old.levels → count_waiting (shape_in new) ≡ count_waiting (shape_in old)
same_levels old new same = ap (λ (rows : List NodeRow). count_lows (waiting_of rows)) same

pub alike_levels : (old new : DbTree) → AreAlike old.levels new.levels → count_waiting (shape_in new) ≡ count_waiting (shape_in old)
alike_levels old new alike = ap count_lows alike.waits

-- the same trees
pub same_waits : (old new : Forest) → IsSameForest old new → waits_in new ≡ waits_in old
same_waits old new same = waits_same (shapes_of old) (shapes_of new) 4294967296 (λ d less. ap count_waiting (shapes_same old new d (same d)))

-- a tree more by so many
pub tree_waits_more : (old new : Forest) (db : ℕ) (tree next : DbTree) (more : ℕ) → Some tree ≡ get nat_cmp old db → Replaces old new db (Some next) → db < 4294967296 → count_waiting (shape_in next) ≤ count_waiting (shape_in tree) + more → waits_in new ≤ waits_in old + more
tree_waits_more old new db tree next more there has within most =
    let all = forest_waits old new db (Some next) has within in
    let was : count_waiting (shape_in tree) ≡ count_waiting (shapes_of old db) = ap (λ (t : Option DbTree). count_waiting (shape_of t)) there ∙ sym (ap count_waiting (shapes_at old db within)) in
    omega (arith, all, was, most)

-- a tree more by so many and less by so many
pub tree_waits_net : (old new : Forest) (db : ℕ) (tree next : DbTree) (more fewer : ℕ) → Some tree ≡ get nat_cmp old db → Replaces old new db (Some next) → db < 4294967296 →
    count_waiting (shape_in next) + fewer ≤ count_waiting (shape_in tree) + more → waits_in new + fewer ≤ waits_in old + more
tree_waits_net old new db tree next more fewer there has within most =
    let all = forest_waits old new db (Some next) has within in
    let was : count_waiting (shape_in tree) ≡ count_waiting (shapes_of old db) = ap (λ (t : Option DbTree). count_waiting (shape_of t)) there ∙ sym (ap count_waiting (shapes_at old db within)) in
    omega (arith, all, was, most)

none_at : (forest : Forest) → ((d : ℕ) → get nat_cmp forest d ≡ None) → (d : ℕ) → count_waiting (shapes_of forest d) ≡ 0
none_at forest none d = ap (λ (t : Option DbTree). count_waiting (cond (nat_lt d 4294967296) (shape_of t) new_shape)) (none d) ∙ by_test (nat_lt d 4294967296)
  where
    by_test : (t : Bool) → count_waiting (cond t new_shape new_shape) ≡ 0
    by_test true = refl
    by_test false = refl

none_below : (shapes : Shapes) (n : ℕ) → ((d : ℕ) → count_waiting (shapes d) ≡ 0) → waits_below shapes n ≡ 0
unfolding waits_below
none_below shapes zero none = refl
none_below shapes (suc n) none = let here = none n in let rest = none_below shapes n none in omega (arith, here, rest)

-- no node waits without trees
pub none_wait : (forest : Forest) → ((d : ℕ) → get nat_cmp forest d ≡ None) → waits_in forest ≡ 0
none_wait forest none = none_below (shapes_of forest) 4294967296 (none_at forest none)

-- a new tree, and one that goes
pub made_waits : (old new : Forest) (db : ℕ) (tree : DbTree) → Replaces old new db (Some tree) → db < 4294967296 → shape_in tree ≡ new_shape → waits_in new ≤ waits_in old
made_waits old new db tree has within is =
    let none : count_waiting (shape_in tree) ≡ 0 = ap count_waiting is in
    forest_waits_less old new db (Some tree) has within (omega (arith, none))

pub gone_waits : (old new : Forest) (db : ℕ) → Replaces old new db None → db < 4294967296 → waits_in new ≤ waits_in old
gone_waits old new db has within =
    let none : count_waiting new_shape ≡ 0 = refl in
    forest_waits_less old new db None has within (omega (arith, none))
