-- How the trees of all databases change where that of one does.
use Rattle.std.proofs.Common.{◌≡◌, ◌==◌, ◌&&◌, ◌⊎◌, ℕ, Bool, true, false, cond, Option, Some, IsSome, is_some, refl, ap, sym, subst, ◌∙◌, inl, inr, Less, Equal, Greater, is_eq, arith}
use Rattle.std.specs.Ordering.{nat_cmp}
use Rattle.std.specs.Cmp.{nat_cmp_is}
use Rattle.std.specs.BTreeMap.{get}
use Rattle.std.proofs.lemmas.Bool.{cases_order, ne_eqb, eq-eqb, true≢false}
use Rattle.je_order.specs.Order.{name_cmp}
use Rattle.je_order.specs.declared.name.Name.{Name}
use Rattle.record_map.specs.Cells.{value_at, IsRising}
use Rattle.record_tree.specs.Occupied.{Occupied, AreSame}
use Rattle.db_tree.specs.declared.tree.DbTree.{DbTree}
use Rattle.in_tree.specs.Forest.{Forest, Replaces, IsSameForest, cells_of, cells_at, cells_seen, is_there, HasChange, HasSameTrees, KeepsCells}
use Rattle.db_tree.specs.Seen.{occupied}

-- two numbers are one, or both tests tell them apart
pub number_cases : (a b : ℕ) → (a ≡ b) ⊎ ((b == a ≡ false) × (is_eq (nat_cmp a b) ≡ false))
number_cases a b =
    elim (cases_order a b) [
      | inl same ↦ inl same
      | inr other ↦ elim other [
        | inl less ↦ inr (ne_eqb b a (λ (h : b ≡ a). absurd (omega (arith, less, h))), sym (ap is_eq (nat_cmp_is a b Less less)))
        | inr more ↦ inr (ne_eqb b a (λ (h : b ≡ a). absurd (omega (arith, more, h))), sym (ap is_eq (nat_cmp_is a b Greater more)))
      ]
    ]

pub number_same : (a : ℕ) → is_eq (nat_cmp a a) ≡ true
number_same a = sym (ap is_eq (nat_cmp_is a a Equal refl))

pub replaced : (old new : Forest) (db : ℕ) (o : Option DbTree) → Replaces old new db o → get nat_cmp new db ≡ o
replaced old new db o has = has db ∙ ap (λ (t : Bool). cond t o (get nat_cmp old db)) (number_same db)

pub others : (old new : Forest) (db : ℕ) (o : Option DbTree) → Replaces old new db o → (d : ℕ) → is_eq (nat_cmp db d) ≡ false → get nat_cmp new d ≡ get nat_cmp old d
others old new db o has d apart = has d ∙ ap (λ (t : Bool). cond t o (get nat_cmp old d)) apart

-- each other database has what it had
pub others_away : (old new : Forest) (db : ℕ) (o : Option DbTree) → Replaces old new db o → (d : ℕ) → (d ≡ db → ⊥) → get nat_cmp new d ≡ get nat_cmp old d
others_away old new db o has d away = by_number (number_cases db d)
  where
    by_number : (db ≡ d) ⊎ ((d == db ≡ false) × (is_eq (nat_cmp db d) ≡ false)) → get nat_cmp new d ≡ get nat_cmp old d
    by_number (inl is) = absurd (away (sym is))
    by_number (inr apart) = others old new db o has d apart.1

-- what is seen of one database is the same
pub forest_same : (old new : Forest) (db : ℕ) (o : Option DbTree) → Replaces old new db o → occupied (cells_of o) ≡ cells_seen old db → AreSame (cells_seen old) (cells_seen new)
forest_same old new db o has same d = by_number (number_cases db d)
  where
    by_number : (db ≡ d) ⊎ ((d == db ≡ false) × (is_eq (nat_cmp db d) ≡ false)) → cells_seen new d ≡ cells_seen old d
    by_number (inl is) = subst (λ (e : ℕ). cells_seen new e ≡ cells_seen old e) is (ap (λ (t : Option DbTree). occupied (cells_of t)) (replaced old new db o has) ∙ same)
    by_number (inr apart) = ap (λ (t : Option DbTree). occupied (cells_of t)) (others old new db o has d apart.1)

-- one name of one database changes
pub forest_change : (old new : Forest) (db : ℕ) (o : Option DbTree) (name : Name) (change : Option Occupied → Option Occupied) → Replaces old new db o →
    ((x : Name) → value_at x (occupied (cells_of o)) ≡ cond (is_eq (name_cmp name x)) (change (value_at x (cells_seen old db))) (value_at x (cells_seen old db))) →
    HasChange (cells_seen old) (cells_seen new) db name change
forest_change old new db o name change has is d x = by_number (number_cases db d)
  where
    by_number : (db ≡ d) ⊎ ((d == db ≡ false) × (is_eq (nat_cmp db d) ≡ false)) →
        value_at x (cells_seen new d) ≡ cond (d == db && is_eq (name_cmp name x)) (change (value_at x (cells_seen old d))) (value_at x (cells_seen old d))
    by_number (inl same) =
        subst (λ (e : ℕ). value_at x (cells_seen new e) ≡ cond (e == db && is_eq (name_cmp name x)) (change (value_at x (cells_seen old e))) (value_at x (cells_seen old e))) same
        (ap (λ (t : Option DbTree). value_at x (occupied (cells_of t))) (replaced old new db o has)
        ∙ is x
        ∙ sym (ap (λ (t : Bool). cond (t && is_eq (name_cmp name x)) (change (value_at x (cells_seen old db))) (value_at x (cells_seen old db))) (eq-eqb db db refl)))
    by_number (inr apart) =
        ap (λ (t : Option DbTree). value_at x (occupied (cells_of t))) (others old new db o has d apart.1)
        ∙ sym (ap (λ (t : Bool). cond (t && is_eq (name_cmp name x)) (change (value_at x (cells_seen old d))) (value_at x (cells_seen old d))) apart.0)

-- each database has a tree as before
pub forest_trees : (old new : Forest) (db : ℕ) (o : Option DbTree) → Replaces old new db o → is_some o ≡ is_there old db → HasSameTrees old new
forest_trees old new db o has same d = by_number (number_cases db d)
  where
    by_number : (db ≡ d) ⊎ ((d == db ≡ false) × (is_eq (nat_cmp db d) ≡ false)) → is_there new d ≡ is_there old d
    by_number (inl is) = subst (λ (e : ℕ). is_there new e ≡ is_there old e) is (ap (λ (t : Option DbTree). is_some t) (replaced old new db o has) ∙ same)
    by_number (inr apart) = ap (λ (t : Option DbTree). is_some t) (others old new db o has d apart.1)

-- one database gets a tree, or loses it
pub forest_tree : (old new : Forest) (db : ℕ) (o : Option DbTree) → Replaces old new db o → (d : ℕ) → is_there new d ≡ cond (d == db) (is_some o) (is_there old d)
forest_tree old new db o has d = by_number (number_cases db d)
  where
    by_number : (db ≡ d) ⊎ ((d == db ≡ false) × (is_eq (nat_cmp db d) ≡ false)) → is_there new d ≡ cond (d == db) (is_some o) (is_there old d)
    by_number (inl is) =
        subst (λ (e : ℕ). is_there new e ≡ cond (e == db) (is_some o) (is_there old e)) is
        (ap (λ (t : Option DbTree). is_some t) (replaced old new db o has) ∙ sym (ap (λ (t : Bool). cond t (is_some o) (is_there old db)) (eq-eqb db db refl)))
    by_number (inr apart) = ap (λ (t : Option DbTree). is_some t) (others old new db o has d apart.1) ∙ sym (ap (λ (t : Bool). cond t (is_some o) (is_there old d)) apart.0)

-- no cell goes
pub forest_kept : (old new : Forest) (db : ℕ) (o : Option DbTree) → Replaces old new db o → ((x : Name) → IsSome (value_at x (cells_at old db)) → IsSome (value_at x (cells_of o))) → KeepsCells old new
forest_kept old new db o has kept d x there = by_number (number_cases db d)
  where
    by_number : (db ≡ d) ⊎ ((d == db ≡ false) × (is_eq (nat_cmp db d) ≡ false)) → IsSome (value_at x (cells_at new d))
    by_number (inl is) =
        subst (λ (e : ℕ). IsSome (value_at x (cells_at new e))) is
        (subst (λ (t : Option DbTree). IsSome (value_at x (cells_of t))) (sym (replaced old new db o has)) (kept x (subst (λ (e : ℕ). IsSome (value_at x (cells_at old e))) (sym is) there)))
    by_number (inr apart) = subst (λ (t : Option DbTree). IsSome (value_at x (cells_of t))) (sym (others old new db o has d apart.1)) there

-- names rise in one database, and in the others as before
pub forest_rises : (old new : Forest) (db : ℕ) (o : Option DbTree) → Replaces old new db o → IsRising (occupied (cells_of o)) → (d : ℕ) → IsRising (cells_seen old d) → IsRising (cells_seen new d)
forest_rises old new db o has up d rises = by_number (number_cases db d)
  where
    by_number : (db ≡ d) ⊎ ((d == db ≡ false) × (is_eq (nat_cmp db d) ≡ false)) → IsRising (cells_seen new d)
    by_number (inl is) =
        subst (λ (e : ℕ). IsRising (cells_seen new e)) is
        (subst (λ (t : Option DbTree). IsRising (occupied (cells_of t))) (sym (replaced old new db o has)) up)
    by_number (inr apart) = subst (λ (t : Option DbTree). IsRising (occupied (cells_of t))) (sym (others old new db o has d apart.1)) rises

-- two numbers that a test tells apart
pub apart_numbers : (a b : ℕ) → is_eq (nat_cmp a b) ≡ false → a ≡ b → ⊥
apart_numbers a b apart same = absurd (true≢false (sym (number_same b) ∙ sym (ap (λ (n : ℕ). is_eq (nat_cmp n b)) same) ∙ apart))

-- a tree is what it was before
pub forest_back : (before old new : Forest) (db : ℕ) (t : DbTree) (o : Option DbTree) → get nat_cmp before db ≡ Some t → Replaces before old db o → Replaces old new db (Some t) → IsSameForest before new
forest_back before old new db t o was has back d = by_number (number_cases db d)
  where
    by_number : (db ≡ d) ⊎ ((d == db ≡ false) × (is_eq (nat_cmp db d) ≡ false)) → get nat_cmp new d ≡ get nat_cmp before d
    by_number (inl is) = subst (λ (e : ℕ). get nat_cmp new e ≡ get nat_cmp before e) is (replaced old new db (Some t) back ∙ sym was)
    by_number (inr apart) = others old new db (Some t) back d apart.1 ∙ others before old db o has d apart.1

-- what is seen where a tree was written over
pub tree_change : (old new : Forest) (db : ℕ) (before after : DbTree) (name : Name) (change : Option Occupied → Option Occupied) → Some before ≡ get nat_cmp old db → Replaces old new db (Some after) →
    ((x : Name) → value_at x (occupied after.cells) ≡ cond (is_eq (name_cmp name x)) (change (value_at x (occupied before.cells))) (value_at x (occupied before.cells))) →
    HasChange (cells_seen old) (cells_seen new) db name change
tree_change old new db before after name change there has is =
    forest_change old new db (Some after) name change has
    (subst (λ (o : Option DbTree). (x : Name) → value_at x (occupied after.cells) ≡ cond (is_eq (name_cmp name x)) (change (value_at x (occupied (cells_of o)))) (value_at x (occupied (cells_of o)))) there is)

pub tree_same : (old new : Forest) (db : ℕ) (before after : DbTree) → Some before ≡ get nat_cmp old db → Replaces old new db (Some after) → occupied after.cells ≡ occupied before.cells → AreSame (cells_seen old) (cells_seen new)
tree_same old new db before after there has same = forest_same old new db (Some after) has (same ∙ ap (λ (o : Option DbTree). occupied (cells_of o)) there)
