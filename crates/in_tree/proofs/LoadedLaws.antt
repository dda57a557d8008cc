-- Trees that are made of a log: their nodes, and what they fit.
use Rattle.std.proofs.Common.{◌≡◌, ◌≤◌, ◌<◌, ◌==◌, ◌+◌, ◌^◌, ◌⊎◌, ℕ, zero, suc, Bool, true, false, cond, List, [], Option, None, Some, IsSome, is_some, length, refl, ap, sym, subst, ◌∙◌, inl, inr, is_eq, arith, Result, Ok, Err, OnOk}
use Rattle.std.specs.Prelude.{IfSome, option_map}
use Rattle.std.specs.Option.{option_and_then}
use Rattle.std.specs.List.{AllByRecursion}
use Rattle.std.specs.Ordering.{nat_cmp}
use Rattle.std.specs.BTreeMap.{get}
use Rattle.std.proofs.lemmas.Bool.{true≢false, cases_eq}
use Rattle.std.proofs.lemmas.List.{get_or_past}
use Rattle.std.proofs.lemmas.Option.{none-some, same_Some}
use Rattle.je_order.specs.Order.{name_cmp}
use Rattle.je_order.specs.declared.name.Name.{Name}
use Rattle.log_entry.specs.declared.entry.Entry.{Entry}
use Rattle.log_entry.specs.declared.entry.Entry.TheVariants.{Put, Migrated}
use Rattle.record_map.specs.Cells.{value_at, IsRising}
use Rattle.record_map.proofs.NameLaws.{same_or_other}
use Rattle.record_tree.specs.LoadedNodes.{LoadedNode, HasPutNode, AreNodesStill, IsLoggedAt, data_put}
use Rattle.record_tree.specs.Stored.{stored_at}
use Rattle.tree_nodes.specs.declared.node.Node.{Node}
use Rattle.tree_nodes.specs.Nodes.{NodeRow, least}
use Rattle.tree_nodes.specs.Levels.{row_of, AreParts}
use Rattle.log_trees.specs.Placed.{Placed}
use Rattle.log_trees.specs.Trees.{data_in, data_of}
use Rattle.db_tree.specs.Dirty.{IsRedoneAt}
use Rattle.db_tree.proofs.Says.{bin_before}
use Rattle.db_tree.specs.declared.tree.DbTree.{DbTree}
use Rattle.db_tree.specs.Loading.{loaded_by, loaded_in, slot_read, IsLoaded}
use Rattle.db_tree.specs.NodeSteps.{IsOneNode}
use Rattle.db_tree.specs.Stored.{stored_under, IsLoggedAlready}
use Rattle.tree_images.specs.Fits.{FitsTree}
use Rattle.tree_images.specs.Forest.{ForestFits, AreLogged, IsLoggedWrite, latest_at}
use Rattle.tree_images.specs.PlaceLaws.{home_with}
use Rattle.tree_images.specs.RedoSteps.{HasRedone}
use Rattle.tree_images.specs.TreeSteps.{IsNewTree}
use Rattle.tree_images.proofs.ForestSteps.{forest_here}
use Rattle.tree_images.proofs.ForestWrites.{new_fits, new_logged}
use Rattle.tree_images.proofs.Grown.{homes_agree, root_home}
use Rattle.tree_images.proofs.LateMarks.{none_begun}
use Rattle.tree_images.proofs.ReadForest.{forests_fit}
use Rattle.tree_images.proofs.RedoneTrees.{redone_fit}
use Rattle.in_tree.specs.Forest.{Forest, Replaces, IsStepIn, IsSameForest, cells_of, cells_at, is_there}
use Rattle.in_tree.specs.Loaded.{AreAllParts, node_in, nodes_of, FitsUpTo}
use Rattle.in_tree.specs.declared.trees.Trees.{Trees}
use Rattle.in_tree.specs.LoadedFits.{LoadedTreesFit}
use Rattle.in_tree.specs.LoadedNodes.{HasLoadedIn, IsEnsured}
use Rattle.in_tree.specs.Stored.{IsQuiet, read_of, slots_held, stored_of}
use Rattle.in_tree.proofs.Forests.{number_cases, number_same, replaced, others_away}
use Rattle.in_tree.proofs.StoredLaws.{logged_already, stored_at_name}

-- ---- levels that part all names

pub parts_same : (old new : Forest) → IsSameForest old new → AreAllParts old → AreAllParts new
parts_same old new same parts d tree is = parts d tree (sym (same d) ∙ is)

pub parts_step : (old new : Forest) (db : ℕ) (next : DbTree) → Replaces old new db (Some next) → AreParts next.levels → AreAllParts old → AreAllParts new
parts_step old new db next has here parts d tree is = by_number (cases_eq d db)
  where
    by_number : (d ≡ db) ⊎ (d ≡ db → ⊥) → AreParts tree.levels
    by_number (inl same) = subst (λ (t : DbTree). AreParts t.levels) (same_Some next tree (sym (replaced old new db (Some next) has) ∙ sym (ap (get nat_cmp new) same) ∙ is)) here
    by_number (inr away) = parts d tree (sym (others_away old new db (Some next) has d away) ∙ is)

pub parts_dropped : (old new : Forest) (db : ℕ) → ((d : ℕ) → get nat_cmp new d ≡ cond (d == db) None (get nat_cmp old d)) → AreAllParts old → AreAllParts new
parts_dropped old new db gone parts d tree is = by_test (d == db) (sym (gone d) ∙ is)
  where
    by_test : (t : Bool) → cond t None (get nat_cmp old d) ≡ Some tree → AreParts tree.levels
    by_test true h = absurd (none-some tree h)
    by_test false h = parts d tree h

-- ---- nodes

pub nodes_still : (old new : Forest) (db : ℕ) (tree next : DbTree) → get nat_cmp old db ≡ Some tree → Replaces old new db (Some next) → next.levels ≡ tree.levels → AreNodesStill (nodes_of old) (nodes_of new)
nodes_still old new db tree next was has levels d k x = by_number (cases_eq d db)
  where
    by_number : (d ≡ db) ⊎ (d ≡ db → ⊥) → nodes_of new d k x ≡ nodes_of old d k x
    by_number (inr away) = ap (λ (o : Option DbTree). node_in o k x) (others_away old new db (Some next) has d away)
    by_number (inl same) =
        subst (λ (e : ℕ). nodes_of new e k x ≡ nodes_of old e k x) (sym same)
        (ap (λ (o : Option DbTree). node_in o k x) (replaced old new db (Some next) has) ∙ ap (λ (rows : List NodeRow). loaded_in rows k x) levels ∙ sym (ap (λ (o : Option DbTree). node_in o k x) was))

pub nodes_same : (old new : Forest) → IsSameForest old new → AreNodesStill (nodes_of old) (nodes_of new)
nodes_same old new same d k x = ap (λ (o : Option DbTree). node_in o k x) (same d)

-- the node of a row, as far as reading goes
some_loaded : (o : Option Node) → IsSome (option_map loaded_by o) → IsSome o
some_loaded None h = h
some_loaded (Some n) h = refl

loaded_some : (o : Option Node) → IsSome o → IsSome (option_map loaded_by o)
loaded_some None h = h
loaded_some (Some n) h = refl

was_loaded : (o : Option Node) (l : LoadedNode) → option_map loaded_by o ≡ Some l → (n : Node) × (o ≡ Some n) × (loaded_by n ≡ l)
was_loaded None l h = absurd (none-some l h)
was_loaded (Some n) l h = (n, refl, same_Some (loaded_by n) l h)

-- a tree of one node has the least low alone
one_low : (rows : List NodeRow) (number k : ℕ) (x : Name) → IsOneNode rows number → IsSome (value_at x (row_of rows k)) → (k ≡ 0) × (x ≡ least)
one_low rows number zero x one some = (refl, by_name (same_or_other least x))
  where
    by_name : (least ≡ x) ⊎ (is_eq (name_cmp least x) ≡ false) → x ≡ least
    by_name (inl same) = sym same
    by_name (inr apart) = absurd (true≢false (sym (subst IsSome (one.put x ∙ ap (λ (t : Bool). cond t (Some one.root) None) apart) some)))
one_low rows number (suc k) x one some =
    let height : length rows ≡ 1 = one.height in
    absurd (true≢false (sym (subst (λ (row : NodeRow). IsSome (value_at x row)) (get_or_past rows (suc k) [] (omega (arith, height))) some)))

-- a tree was made for a database that had none
pub ensured : {X Y : Type 0} (r : Result X Y) (db number : ℕ) (old new : Forest) → is_there old db ≡ false → OnOk r ((tree : DbTree) × IsNewTree number tree × (get nat_cmp new db ≡ Some tree)) →
    ((d : ℕ) → d == db ≡ false → get nat_cmp new d ≡ get nat_cmp old d) → OnOk r (IsEnsured db number old new)
ensured (Err e) db number old new none made others = tt
ensured (Ok v) db number old new none made others =
    inr (record { none = no_tree (get nat_cmp old db) none; tree = made.0; root = made.1.root; has = λ d. by_number d (number_cases db d) })
  where
    no_tree : (o : Option DbTree) → is_some o ≡ false → o ≡ None
    no_tree None h = refl
    no_tree (Some t) h = absurd (true≢false h)

    by_number : (d : ℕ) → (db ≡ d) ⊎ ((d == db ≡ false) × (is_eq (nat_cmp db d) ≡ false)) → get nat_cmp new d ≡ cond (is_eq (nat_cmp db d)) (Some made.0) (get nat_cmp old d)
    by_number d (inl same) =
        subst (λ (e : ℕ). get nat_cmp new e ≡ cond (is_eq (nat_cmp db e)) (Some made.0) (get nat_cmp old e)) same (made.2 ∙ sym (ap (λ (t : Bool). cond t (Some made.0) (get nat_cmp old db)) (number_same db)))
    by_number d (inr apart) = others d apart.0 ∙ sym (ap (λ (t : Bool). cond t (Some made.0) (get nat_cmp old d)) apart.1)

-- a node was put into a tree that was there, or was made for it
pub node_put : (db number level : ℕ) (low : Name) (as_read : LoadedNode) (old mid new : Forest) → IsEnsured db number old mid → IsStepIn db (HasLoadedIn level low as_read) mid new → HasPutNode (nodes_of old) (nodes_of new) db level low as_read
node_put db number level low as_read old mid new ensured step = record {
  here = at_db level low ∙ ap (option_map loaded_by) loaded.put.here ∙ ap Some loaded.is;
  below = λ k le. subst IsSome (sym (at_db k low)) (loaded_some (value_at low (row_of step.next.levels k)) (loaded.put.below k le));
  kept = λ d k x n was away. kept d k x n was away (cases_eq d db);
  made = λ d k x some. made d k x some (cases_eq d db);
}
  where
    loaded : IsLoaded step.tree.levels step.next.levels level low as_read
    loaded = step.step.loaded

    at_db : (k : ℕ) (x : Name) → nodes_of new db k x ≡ loaded_in step.next.levels k x
    at_db k x = ap (λ (o : Option DbTree). node_in o k x) (replaced mid new db (Some step.next) step.has)

    elsewhere : (d k : ℕ) (x : Name) → (d ≡ db → ⊥) → nodes_of new d k x ≡ nodes_of old d k x
    elsewhere d k x away = ap (λ (o : Option DbTree). node_in o k x) (others_away mid new db (Some step.next) step.has d away ∙ before ensured)
      where
        before : IsEnsured db number old mid → get nat_cmp mid d ≡ get nat_cmp old d
        before (inl same) = same d
        before (inr m) = others_away old mid db (Some m.tree) m.has d away

    -- where the database had a node, it had this tree
    was_there : (k : ℕ) (x : Name) (n : LoadedNode) → nodes_of old db k x ≡ Some n → IsEnsured db number old mid → loaded_in step.tree.levels k x ≡ Some n
    was_there k x n was (inl same) = sym (ap (λ (o : Option DbTree). node_in o k x) (sym (same db) ∙ step.was)) ∙ was
    was_there k x n was (inr m) = absurd (none-some n (sym (ap (λ (o : Option DbTree). node_in o k x) m.none) ∙ was))

    kept : (d k : ℕ) (x : Name) (n : LoadedNode) → nodes_of old d k x ≡ Some n → (d ≡ db → k ≡ level → x ≡ low → ⊥) → (d ≡ db) ⊎ (d ≡ db → ⊥) → nodes_of new d k x ≡ Some n
    kept d k x n was away (inr other) = elsewhere d k x other ∙ was
    kept d k x n was away (inl same) =
        let there = was_loaded (value_at x (row_of step.tree.levels k)) n (was_there k x n (sym (ap (λ (e : ℕ). nodes_of old e k x) same) ∙ was) ensured) in
        ap (λ (e : ℕ). nodes_of new e k x) same ∙ at_db k x ∙ ap (option_map loaded_by) (loaded.put.kept k x there.0 there.1 (away same)) ∙ ap Some there.2

    in_tree : (k : ℕ) (x : Name) → IsSome (value_at x (row_of step.tree.levels k)) → IsEnsured db number old mid → IsSome (nodes_of old db k x) ⊎ ((db ≡ db) × (k ≤ level) × ((x ≡ low) ⊎ (x ≡ least)))
    in_tree k x some (inl same) =
        inl (subst IsSome (sym (ap (λ (o : Option DbTree). node_in o k x) (sym (same db) ∙ step.was))) (loaded_some (value_at x (row_of step.tree.levels k)) some))
    in_tree k x some (inr m) =
        let trees : m.tree ≡ step.tree = same_Some m.tree step.tree (sym (replaced old mid db (Some m.tree) m.has) ∙ step.was) in
        let low_is = one_low m.tree.levels number k x m.root (subst (λ (t : DbTree). IsSome (value_at x (row_of t.levels k))) (sym trees) some) in
        let first : k ≡ 0 = low_is.0 in
        inr (refl, omega (arith, first), inr low_is.1)

    made : (d k : ℕ) (x : Name) → IsSome (nodes_of new d k x) → (d ≡ db) ⊎ (d ≡ db → ⊥) → IsSome (nodes_of old d k x) ⊎ ((d ≡ db) × (k ≤ level) × ((x ≡ low) ⊎ (x ≡ least)))
    made d k x some (inr other) = inl (subst IsSome (elsewhere d k x other) some)
    made d k x some (inl same) =
        subst (λ (e : ℕ). IsSome (nodes_of old e k x) ⊎ ((e ≡ db) × (k ≤ level) × ((x ≡ low) ⊎ (x ≡ least)))) (sym same)
        (by_made (loaded.put.made k x (some_loaded (value_at x (row_of step.next.levels k)) (subst IsSome (at_db k x) (subst (λ (e : ℕ). IsSome (nodes_of new e k x)) same some)))))
      where
        by_made : IsSome (value_at x (row_of step.tree.levels k)) ⊎ ((k ≤ level) × ((x ≡ low) ⊎ (x ≡ least))) → IsSome (nodes_of old db k x) ⊎ ((db ≡ db) × (k ≤ level) × ((x ≡ low) ⊎ (x ≡ least)))
        by_made (inl was) = in_tree k x was ensured
        by_made (inr h) = inr (refl, h.0, h.1)

-- ---- what trees fit

pub make_fits : (es : List Placed) (base last number db : ℕ) (old new : Forest) (tree : DbTree) → number ≡ suc last → ((d : ℕ) → (d ≡ db → ⊥) → get nat_cmp new d ≡ get nat_cmp old d) → IsNewTree number tree → get nat_cmp new db ≡ Some tree →
    AllByRecursion (λ p. p.0 < base) es → ForestFits es base last (get nat_cmp old) → ForestFits es base number (get nat_cmp new)
make_fits es base last number db old new tree is others is_new here below f =
    (forest_here es base last number db (get nat_cmp old) (get nat_cmp new) (λ d. []) (λ d. []) (home_with f.home number db []) f (homes_agree f.home last number db [] (omega (arith, is))) (omega (arith, is)) others (λ b away. refl)
    (λ t there. subst (λ (u : DbTree). FitsTree es base (latest_at base es db) (home_with f.home number db []) number db u.levels u.cells) (same_Some tree t (sym here ∙ there)) (new_fits es base (home_with f.home number db []) number db number tree is_new (root_home f.home number db)))
    (λ t there. subst (λ (u : DbTree). AreLogged es base db u.cells) (same_Some tree t (sym here ∙ there)) (new_logged es base db number tree is_new))
    (λ t there start begun. absurd (none_begun es base start below begun))).0

pub made_up_to : (es : List Placed) (base last number later db : ℕ) (old new : Forest) (before inside : Trees) → inside ≡ before → last < 0x7fffffffffffffff → number ≡ suc last → later ≡ number → ((d : ℕ) → (d ≡ db → ⊥) → get nat_cmp new d ≡ get nat_cmp inside.forest d) →
    (tree : DbTree) × IsNewTree number tree × (get nat_cmp new db ≡ Some tree) → (after : Forest) → after ≡ new → last ≡ inside.last_node → FitsUpTo before.last_node before.forest es base → AllByRecursion (λ p. p.0 < base) es → ForestFits es base later (get nat_cmp after)
made_up_to es base last number later db old new before inside same less is later_is others tree after after_is last_is fits below =
    subst (λ (f : Forest). ForestFits es base later (get nat_cmp f)) (sym after_is)
    (subst (λ (n : ℕ). ForestFits es base n (get nat_cmp new)) (sym later_is)
    (make_fits es base last number db inside.forest new tree.0 is others tree.1 tree.2 below
    (subst (λ (n : ℕ). ForestFits es base n (get nat_cmp inside.forest)) (sym last_is)
    (subst (λ (t : Trees). FitsUpTo t.last_node t.forest es base) (sym same) fits (omega (arith, less, last_is)) below))))

pub dropped_fits : (es : List Placed) (base last db : ℕ) (old new : Forest) → ((d : ℕ) → get nat_cmp new d ≡ cond (d == db) None (get nat_cmp old d)) → ForestFits es base last (get nat_cmp old) → ForestFits es base last (get nat_cmp new)
dropped_fits es base last db old new gone f = record {
  home = f.home;
  fits = λ d tree is. f.fits d tree (by_test d tree (d == db) (sym (gone d) ∙ is));
  writes = λ d tree is. f.writes d tree (by_test d tree (d == db) (sym (gone d) ∙ is));
  notes = λ d tree is. f.notes d tree (by_test d tree (d == db) (sym (gone d) ∙ is));
}
  where
    by_test : (d : ℕ) (tree : DbTree) (t : Bool) → cond t None (get nat_cmp old d) ≡ Some tree → get nat_cmp old d ≡ Some tree
    by_test d tree true h = absurd (none-some tree h)
    by_test d tree false h = h

-- a change that was logged
data_is : (d : ℕ) (x : Name) (entry : Entry) → data_in d x entry ≡ data_put d x entry
data_is d x (Put txn db name value) = refl
data_is d x (Migrated db name value) = refl
data_is d x entry = refl

logged_data : (es : List Placed) (d : ℕ) (x : Name) (at : ℕ) (value : Option (List ℕ)) → IsLoggedAt es d x at value → IfSome value (λ v. data_of es d x at ≡ Some v)
logged_data es d x at None is = tt
logged_data es d x at (Some v) is = ap (option_and_then (data_in d x)) is.1 ∙ data_is d x is.0 ∙ is.2

pub redo_fits : (es : List Placed) (base last later db fanout : ℕ) (number : Option ℕ) (x : Name) (value : Option (List ℕ)) (first at made : ℕ) (old new : Forest) → IfSome number (λ n. n ≡ suc last) → last + made ≤ later → later < 2 ^ 64 →
    first < base → at < base → base < 2 ^ 64 → IsLoggedAt es db x at value → IsStepIn db (HasRedone fanout number x value first at made) old new → IsQuiet new → AllByRecursion (λ p. p.0 < base) es → ForestFits es base last (get nat_cmp old) → ForestFits es base later (get nat_cmp new)
redo_fits es base last later db fanout number x value first at made old new is few within less before high logged step quiet below f =
    let redone : IsRedoneAt es base at = record { before = omega (arith, before); small = λ lsn bin. (let lower : lsn < base = bin_before base es lsn below bin in omega (arith, lower, high)) } in
    let after = redone_fit es base (latest_at base es db) f.home last later db fanout number x value first at made step.tree step.next is few within less redone (logged_data es db x at value logged) step.step (f.fits db step.tree step.was) in
    (forest_here es base last later db (get nat_cmp old) (get nat_cmp new) (λ d. []) (λ d. []) after.0 f after.1 (omega (arith, few)) (others_away old new db (Some step.next) step.has) (λ b away. refl)
    (λ t there. subst (λ (u : DbTree). FitsTree es base (latest_at base es db) after.0 later db u.levels u.cells) (same_Some step.next t (sym (replaced old new db (Some step.next) step.has) ∙ there)) after.2)
    (λ t there y cell at_y. subst (λ w. IfSome w (λ w. IsLoggedWrite es base db y w.value)) (sym ((quiet db).quiet y cell (ap (value_at y) (ap cells_of there) ∙ at_y))) tt)
    (λ t there start begun. absurd (none_begun es base start below begun))).0

pub read_fits : LoadedTreesFit
read_fits trees es c base formed read below numbers earlier =
    forests_fit es c (nodes_of trees.forest) (read_of trees.forest) (stored_of trees.forest) trees.last_node base (get nat_cmp trees.forest) read numbers below
    (λ d tree is. record {
      parts = formed.parts d tree is;
      nodes_are = λ level low. ap (λ (o : Option DbTree). node_in o level low) is;
      records_are = λ x.
          stored_at_name (cells_at trees.forest d) x (formed.quiet d).rising
          ∙ ap (λ (o : Option DbTree). stored_under (value_at x (cells_of o))) is;
      rising = subst (λ (o : Option DbTree). IsRising (cells_of o)) is (formed.quiet d).rising;
      quiet = λ x cell there. (formed.quiet d).quiet x cell (ap (value_at x) (ap cells_of is) ∙ there);
      slots_are = λ x. ap (λ (o : Option DbTree). option_map slot_read (value_at x (cells_of o))) is;
    })

-- what is committed already stands in the cells
pub cells_already : (inside seen : Trees) (db : ℕ) (kept name : Name) (at : ℕ) (value : Option (List ℕ)) → inside ≡ seen → kept ≡ name → IsQuiet inside.forest → slots_held seen.forest db name ≡ true →
    value_at name (stored_of seen.forest db) ≡ stored_at at value → IsLoggedAlready (cells_at inside.forest db) kept at value
cells_already inside seen db kept name at value same is quiet slot found =
    subst (λ (x : Name). IsLoggedAlready (cells_at inside.forest db) x at value) (sym is)
    (logged_already (cells_at inside.forest db) name at value (subst (λ (t : Trees). slots_held t.forest db name ≡ true) (sym same) slot)
    (sym (stored_at_name (cells_at inside.forest db) name (quiet db).rising) ∙ subst (λ (t : Trees). value_at name (stored_of t.forest db) ≡ stored_at at value) (sym same) found))
