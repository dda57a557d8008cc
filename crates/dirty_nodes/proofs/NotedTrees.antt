-- Trees whose nodes are noted, one after another.
use Rattle.std.proofs.Common.{◌≡◌, ◌<◌, ◌≤◌, ◌+◌, ◌++◌, ◌||◌, ◌&&◌, ℕ, zero, suc, List, [], ◌∷◌, Bool, true, false, cond, Option, None, Some, take, get_or, length, is_eq, refl, ap, ap₂, sym, subst, ◌∙◌}
use Rattle.std.specs.List.{list_any}
use Rattle.std.specs.Ordering.{nat_cmp}
use Rattle.std.specs.BTreeMap.{BTreeMap, get}
use Rattle.std.specs.Map.{keys_of}
use Rattle.std.proofs.lemmas.List.{take_more, take_all}
use Rattle.std.proofs.lemmas.List.Folds.{list_any-append}
use Rattle.je_order.specs.Order.{name_cmp}
use Rattle.je_order.specs.declared.name.Name.{Name}
use Rattle.tree_nodes.specs.declared.node.Node.{Node}
use Rattle.tree_nodes.specs.Nodes.{NodeRow, is_dirty, noted_as}
use Rattle.tree_nodes.specs.Levels.{row_of}
use Rattle.tree_nodes.specs.Lows.{low_up_to}
use Rattle.tree_nodes.specs.Noted.{AreNoted, is_low_over, is_to_note, noted_row}
use Rattle.tree_nodes.proofs.NoteLaws.{noted_keys, noted_same, noted_twice}
use Rattle.db_tree.specs.declared.tree.DbTree.{DbTree}
use Rattle.dirty_nodes.specs.Forest.{AreNotedTrees, HasAllNumbers, IsNotedOne, IsNotedTree}
use Rattle.dirty_nodes.specs.Steps.{AreNotedFor, IsNotedIf}
use Rattle.dirty_nodes.proofs.Forests.{nat_itself, nat_same}

-- ---- levels whose nodes are noted twice

-- a note does not matter to whether a node is to be noted
same_to_note : (a b : List NodeRow) → AreNoted a b → (level : ℕ) (e : Name × Node) (t : Bool) → is_to_note b level (e.0, noted_as t e.1) ≡ is_to_note a level e
same_to_note a b are zero e t = refl
same_to_note a b are (suc k) e t =
    ap (λ (x : Bool). is_dirty e.1 || x)
    (ap (list_any (λ (c : Name × Node). is_to_note b k c && is_low_over (row_of b (suc k)) c.0 e.0)) (are.each k)
    ∙ any_same (row_of a k) (λ c s. same_to_note a b are k c s))
  where
    over : (x : Name) → is_low_over (row_of b (suc k)) x e.0 ≡ is_low_over (row_of a (suc k)) x e.0
    over x =
        ap (λ (names : List Name). is_eq (name_cmp (low_up_to x names) e.0)) (ap (λ (row : NodeRow). keys_of row) (are.each (suc k)) ∙ noted_keys (is_to_note a (suc k)) (row_of a (suc k)))

    any_same : (row : NodeRow) → ((c : Name × Node) (s : Bool) → is_to_note b k (c.0, noted_as s c.1) ≡ is_to_note a k c) →
        list_any (λ (c : Name × Node). is_to_note b k c && is_low_over (row_of b (suc k)) c.0 e.0) (noted_row (is_to_note a k) row)
        ≡ list_any (λ (c : Name × Node). is_to_note a k c && is_low_over (row_of a (suc k)) c.0 e.0) row
    any_same [] same = refl
    any_same (c ∷ row) same = ap₂ (λ (x y : Bool). x || y) (ap₂ (λ (x y : Bool). x && y) (same c (is_to_note a k c)) (over c.0)) (any_same row same)

pub noted_again : (a b c : List NodeRow) → AreNoted a b → AreNoted b c → AreNoted a c
noted_again a b c first second = record {
  height = second.height ∙ first.height;
  each = λ k.
      second.each k
      ∙ ap (noted_row (is_to_note b k)) (first.each k)
      ∙ noted_twice (is_to_note a k) (is_to_note b k) (row_of a k)
      ∙ noted_same (λ e. is_to_note b k (e.0, noted_as (is_to_note a k e) e.1)) (is_to_note a k) (row_of a k) (λ e. same_to_note a b first k e (is_to_note a k e));
}

-- ---- one tree after another

one_then : (a b c : Option DbTree) → IsNotedOne a b → IsNotedOne b c → IsNotedOne a c
one_then None None None first second = tt
one_then None None (Some z) first second = absurd second
one_then None (Some y) c first second = absurd first
one_then (Some x) None c first second = absurd first
one_then (Some x) (Some y) None first second = absurd second
one_then (Some x) (Some y) (Some z) first second =
    record { noted = noted_again x.levels y.levels z.levels first.noted second.noted; cells = second.cells ∙ first.cells; parts = second.parts }

noted_more : (m t : Bool) (a b c : Option DbTree) → IsNotedIf m a b → IsNotedIf t b c → IsNotedIf (m || t) a c
noted_more true true a b c first second = one_then a b c first second
noted_more true false a b c first second = subst (λ (o : Option DbTree). IsNotedOne a o) (sym second) first
noted_more false true a b c first second = subst (λ (o : Option DbTree). IsNotedOne o c) first second
noted_more false false a b c first second = second ∙ first

or_false : (b : Bool) → (b || false) ≡ b
or_false true = refl
or_false false = refl

pub for_none : (forest : BTreeMap ℕ DbTree) → AreNotedFor [] forest forest
for_none forest d = refl

pub for_next : (old mid new : BTreeMap ℕ DbTree) (dbs : List ℕ) (i : ℕ) → i < length dbs → AreNotedFor (take i dbs) old mid → AreNotedFor (get_or dbs i 0 ∷ []) mid new → AreNotedFor (take (i + 1) dbs) old new
for_next old mid new dbs i within first second d =
    subst (λ (b : Bool). IsNotedIf b (get nat_cmp old d) (get nat_cmp new d)) (sym all)
    (noted_more (list_any test (take i dbs)) (test (get_or dbs i 0) || false) (get nat_cmp old d) (get nat_cmp mid d) (get nat_cmp new d) (first d) (second d))
  where
    test : ℕ → Bool
    test b = is_eq (nat_cmp b d)

    all : list_any test (take (i + 1) dbs) ≡ (list_any test (take i dbs) || (test (get_or dbs i 0) || false))
    all = ap (list_any test) (take_more dbs i 0 within) ∙ list_any-append test (take i dbs) (get_or dbs i 0 ∷ [])

pub for_all : (old new : BTreeMap ℕ DbTree) (dbs : List ℕ) (i : ℕ) → length dbs ≤ i → HasAllNumbers old dbs → AreNotedFor (take i dbs) old new → AreNotedTrees old new
for_all old new dbs i past numbers noted d = by_tree (get nat_cmp old d) refl (subst (λ (l : List ℕ). IsNotedIf (list_any test l) (get nat_cmp old d) (get nat_cmp new d)) (take_all i dbs past) (noted d))
  where
    test : ℕ → Bool
    test b = is_eq (nat_cmp b d)

    none : (b : Bool) (n : Option DbTree) → IsNotedIf b None n → IsNotedOne None n
    none true n h = h
    none false n h = subst (λ (o : Option DbTree). IsNotedOne None o) (sym h) tt

    by_tree : (o : Option DbTree) → get nat_cmp old d ≡ o → IsNotedIf (list_any test dbs) (get nat_cmp old d) (get nat_cmp new d) → IsNotedOne (get nat_cmp old d) (get nat_cmp new d)
    by_tree None is h =
        subst (λ (o : Option DbTree). IsNotedOne o (get nat_cmp new d)) (sym is)
        (none (list_any test dbs) (get nat_cmp new d) (subst (λ (o : Option DbTree). IsNotedIf (list_any test dbs) o (get nat_cmp new d)) is h))
    by_tree (Some tree) is h = subst (λ (b : Bool). IsNotedIf b (get nat_cmp old d) (get nat_cmp new d)) (numbers d tree is) h

-- ---- one tree

-- the tree of a database was noted
pub for_one : (old new : BTreeMap ℕ DbTree) (db : ℕ) (tree next : DbTree) → Some tree ≡ get nat_cmp old db → ((d : ℕ) → get nat_cmp new d ≡ cond (is_eq (nat_cmp db d)) (Some next) (get nat_cmp old d)) → IsNotedTree tree next →
    AreNotedFor (db ∷ []) old new
for_one old new db tree next there has noted d = subst (λ (b : Bool). IsNotedIf b (get nat_cmp old d) (get nat_cmp new d)) (sym (or_false (is_eq (nat_cmp db d)))) (by_number (is_eq (nat_cmp db d)) refl)
  where
    by_number : (b : Bool) → is_eq (nat_cmp db d) ≡ b → IsNotedIf (is_eq (nat_cmp db d)) (get nat_cmp old d) (get nat_cmp new d)
    by_number true is =
        subst (λ (b : Bool). IsNotedIf b (get nat_cmp old d) (get nat_cmp new d)) (sym is)
        (subst (λ (o : Option DbTree). IsNotedOne o (get nat_cmp new d)) (there ∙ ap (λ (e : ℕ). get nat_cmp old e) (nat_same db d is))
        (subst (λ (o : Option DbTree). IsNotedOne (Some tree) o) (sym (has d ∙ ap (λ (b : Bool). cond b (Some next) (get nat_cmp old d)) is)) noted))
    by_number false is =
        subst (λ (b : Bool). IsNotedIf b (get nat_cmp old d) (get nat_cmp new d)) (sym is) (has d ∙ ap (λ (b : Bool). cond b (Some next) (get nat_cmp old d)) is)

-- ---- the numbers of all databases

abbrev pub HasNumber : List ℕ → ℕ × DbTree → Type 0
HasNumber dbs e = list_any (λ b. is_eq (nat_cmp b e.0)) dbs ≡ true

pub number_more : (dbs : List ℕ) (db : ℕ) (e : ℕ × DbTree) → HasNumber dbs e → HasNumber (dbs ++ db ∷ []) e
number_more dbs db e has =
    list_any-append (λ (b : ℕ). is_eq (nat_cmp b e.0)) dbs (db ∷ []) ∙ ap (λ (t : Bool). t || (is_eq (nat_cmp db e.0) || false)) has

or_true : (b : Bool) → (b || true) ≡ true
or_true true = refl
or_true false = refl

pub number_here : (dbs : List ℕ) (e : ℕ × DbTree) → HasNumber (dbs ++ e.0 ∷ []) e
number_here dbs e =
    list_any-append (λ (b : ℕ). is_eq (nat_cmp b e.0)) dbs (e.0 ∷ [])
    ∙ ap (λ (t : Bool). list_any (λ (b : ℕ). is_eq (nat_cmp b e.0)) dbs || (t || false)) (ap is_eq (nat_itself e.0))
    ∙ or_true (list_any (λ (b : ℕ). is_eq (nat_cmp b e.0)) dbs)
