-- The roots of trees, by their databases' numbers.
use Rattle.std.proofs.Common.{◌≡◌, ◌<◌, ◌++◌, ◌==◌, ◌&&◌, ℕ, Bool, true, false, cond, List, [], ◌∷◌, Option, None, Some, is_eq, find, option_map, Less, Equal, refl, sym, ap, ap₂, subst, ◌∙◌, arith}
use Rattle.std.specs.List.{AllByRecursion, flat_map}
use Rattle.std.specs.List.Sorted.{IsStrictlySortedBy}
use Rattle.std.specs.Map.{keys_of, lookup}
use Rattle.std.specs.BTreeMap.{BTreeMap, get, is_at}
use Rattle.std.specs.Option.{option_and_then}
use Rattle.std.specs.Ordering.{nat_cmp}
use Rattle.std.proofs.lemmas.Bool.{true≢false, eq-eqb, ne_eqb, lt-ltb}
use Rattle.std.proofs.lemmas.Cmp.{ranked}
use Rattle.std.proofs.lemmas.Map.Keys.{sorted_head, sorted_tail}
use Rattle.log_entry.specs.declared.root.Root.{Root}
use Rattle.log_entry.specs.Items.{rises, rises_from, root_before}
use Rattle.log_trees.specs.Trees.{root_of}
use Rattle.db_tree.specs.declared.tree.DbTree.{DbTree}
use Rattle.tree_images.specs.Roots.{AreRootsOf, root_image}
use Rattle.dirty_nodes.specs.Forest.{root_for}
use Rattle.dirty_nodes.proofs.Forests.{nat_itself, nat_same}

abbrev pub Entries : Type 0
Entries = List (ℕ × DbTree)

abbrev pub roots_by : Entries → List Root
roots_by es = flat_map (λ e. root_for e.0 (root_image e.1)) es

all_above : (k : ℕ) (ks : List ℕ) → AllByRecursion (λ y. nat_cmp k y ≡ Less) ks → AllByRecursion (λ y. k < y) ks
all_above k [] all = tt
all_above k (y ∷ ks) all = (is_less k y all.0, all_above k ks all.1)
  where
    is_less : (a b : ℕ) → nat_cmp a b ≡ Less → a < b
    is_less a b less = ranked a b Less (sym less)

-- ---- they rise

rise_from : (last : Root) (es : Entries) → AllByRecursion (λ k. last.db < k) (keys_of es) → IsStrictlySortedBy nat_cmp (keys_of es) → rises_from root_before last (roots_by es) ≡ true
rise_from last [] above up = refl
rise_from last (e ∷ es) above up = by_image (root_image e.1) (rise_from last es above.1 rest) (λ root. rise_from root es)
  where
    rest : IsStrictlySortedBy nat_cmp (keys_of es)
    rest = sorted_tail nat_cmp e.0 (keys_of es) up

    by_image : (o : Option ℕ) → rises_from root_before last (roots_by es) ≡ true →
        ((root : Root) → AllByRecursion (λ k. root.db < k) (keys_of es) → IsStrictlySortedBy nat_cmp (keys_of es) → rises_from root_before root (roots_by es) ≡ true) →
        rises_from root_before last (root_for e.0 o ++ roots_by es) ≡ true
    by_image None further next = further
    by_image (Some image) further next =
        ap₂ (λ (a b : Bool). a && b) (lt-ltb last.db e.0 above.0) (next (record { db = e.0; image = image }) (all_above e.0 (keys_of es) (sorted_head nat_cmp e.0 (keys_of es) up)) rest)

roots_rise : (es : Entries) → IsStrictlySortedBy nat_cmp (keys_of es) → rises root_before (roots_by es) ≡ true
roots_rise [] up = refl
roots_rise (e ∷ es) up = by_image (root_image e.1) (roots_rise es rest)
  where
    rest : IsStrictlySortedBy nat_cmp (keys_of es)
    rest = sorted_tail nat_cmp e.0 (keys_of es) up

    by_image : (o : Option ℕ) → rises root_before (roots_by es) ≡ true → rises root_before (root_for e.0 o ++ roots_by es) ≡ true
    by_image None further = further
    by_image (Some image) further = rise_from (record { db = e.0; image = image }) es (all_above e.0 (keys_of es) (sorted_head nat_cmp e.0 (keys_of es) up)) rest

-- ---- each is that of its tree

none_of : (d : ℕ) (es : Entries) → AllByRecursion (λ k. d < k) (keys_of es) → root_of d (roots_by es) ≡ None
none_of d [] above = refl
none_of d (e ∷ es) above = by_image (root_image e.1) (none_of d es above.1)
  where
    by_image : (o : Option ℕ) → root_of d (roots_by es) ≡ None → root_of d (root_for e.0 o ++ roots_by es) ≡ None
    by_image None further = further
    by_image (Some image) further =
        ap (λ (b : Bool). option_map (λ (r : Root). r.image) (cond b (Some (record { db = e.0; image = image })) (find (λ r. r.db == d) (roots_by es)))) (ne_eqb e.0 d (λ same. let lt = above.0 in absurd (omega (arith, lt, same)))) ∙ further

each_is : (d : ℕ) (es : Entries) → IsStrictlySortedBy nat_cmp (keys_of es) → root_of d (roots_by es) ≡ option_and_then root_image (lookup (is_at (nat_cmp d)) es)
each_is d [] up = refl
each_is d (e ∷ es) up = by_test (is_eq (nat_cmp d e.0)) refl (each_is d es (sorted_tail nat_cmp e.0 (keys_of es) up))
  where
    here : (o : Option ℕ) → e.0 ≡ d → root_of d (root_for e.0 o ++ roots_by es) ≡ o
    here None same =
        none_of d es (subst (λ (n : ℕ). AllByRecursion (λ k. n < k) (keys_of es)) same (all_above e.0 (keys_of es) (sorted_head nat_cmp e.0 (keys_of es) up)))
    here (Some image) same =
        ap (λ (b : Bool). option_map (λ (r : Root). r.image) (cond b (Some (record { db = e.0; image = image })) (find (λ r. r.db == d) (roots_by es)))) (eq-eqb e.0 d same)

    away : (o : Option ℕ) → (e.0 ≡ d → ⊥) → root_of d (root_for e.0 o ++ roots_by es) ≡ root_of d (roots_by es)
    away None other = refl
    away (Some image) other =
        ap (λ (b : Bool). option_map (λ (r : Root). r.image) (cond b (Some (record { db = e.0; image = image })) (find (λ r. r.db == d) (roots_by es)))) (ne_eqb e.0 d other)

    by_test : (b : Bool) → is_eq (nat_cmp d e.0) ≡ b → root_of d (roots_by es) ≡ option_and_then root_image (lookup (is_at (nat_cmp d)) es) →
        root_of d (roots_by (e ∷ es)) ≡ option_and_then root_image (cond b (Some e.1) (lookup (is_at (nat_cmp d)) es))
    by_test true same further = here (root_image e.1) (sym (nat_same d e.0 same))
    by_test false other further = away (root_image e.1) (λ same. true≢false (sym (ap is_eq (subst (λ (n : ℕ). nat_cmp d n ≡ Equal) (sym same) (nat_itself d))) ∙ other)) ∙ further

pub roots_are : (forest : BTreeMap ℕ DbTree) (roots : List Root) → IsStrictlySortedBy nat_cmp (keys_of forest.entries) → roots ≡ roots_by forest.entries → AreRootsOf (get nat_cmp forest) roots
roots_are forest roots up is = record {
  rise = subst (λ (l : List Root). rises root_before l ≡ true) (sym is) (roots_rise forest.entries up);
  each = λ d. ap (root_of d) is ∙ each_is d forest.entries up;
}
