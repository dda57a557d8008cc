-- What the roots of right trees give is what they show name by name.
use Rattle.std.proofs.Common.{◌≡◌, ℕ, zero, suc, ◌+◌, ◌<◌, ◌≤◌, ◌==◌, nat_lt, Bool, true, false, cond, List, [], ◌∷◌, ◌++◌, Option, None, Some, map, option_map, is_eq, Less, refl, sym, ap, subst, ◌∙◌, arith}
use Rattle.std.specs.Prelude.{find}
use Rattle.std.specs.Option.{option_and_then}
use Rattle.std.proofs.lemmas.Bool.{cond-true, cond-false, and_left, and_right, and_from, and_parts, ltb-true, lt-ltb, eqb-true, eq-eqb, ne_eqb}
use Rattle.std.specs.List.{AllByRecursion}
use Rattle.je_order.specs.declared.name.Name.{Name}
use Rattle.je_order.specs.Order.{name_cmp}
use Rattle.log_entry.specs.declared.root.Root.{Root}
use Rattle.log_entry.specs.Items.{rises, rises_from, root_before}
use Rattle.node_core.proofs.NameOrder.{same}
use Rattle.je_order.proofs.Orderings.{equal_from_test}
use Rattle.log_trees.specs.Placed.{Placed}
use Rattle.log_trees.specs.Changes.{Written, unwritten, LoggedChange, is_of, last_of}
use Rattle.log_trees.specs.Images.{NamedLsn, level_of, level_at}
use Rattle.log_trees.specs.Trees.{slots_at, found, data_of, written_at, loaded, slots_by_level, slots_of_tree, shows_by_level, tree_shows, rows_of_root, rows_of_roots, roots_show}
use Rattle.log_trees.specs.Sound.{least_name, AreUp, IsTreeAt, Home, at_home, IsRootAt}
use Rattle.log_trees.specs.Laws.{RootsShow}
use Rattle.log_trees.proofs.Bounds.{eq_turned, within_from, none_below_least}
use Rattle.log_trees.proofs.Shown.{slots_up, shown_is}

-- ---- changes one after another

pub last_of-append : (d : ℕ) (x : Name) (a b : List LoggedChange) (w : Written) → last_of d x (a ++ b) w ≡ last_of d x b (last_of d x a w)
last_of-append d x [] b w = refl
last_of-append d x (c ∷ a) b w = last_of-append d x a b (cond (is_of d x c) c.written w)

-- changes of other names change nothing
pub last_of-none : (d : ℕ) (x : Name) (cs : List LoggedChange) (w : Written) → AllByRecursion (λ c. is_of d x c ≡ false) cs → last_of d x cs w ≡ w
last_of-none d x [] w none = refl
last_of-none d x (c ∷ cs) w none = ap (last_of d x cs) (cond-false (is_of d x c) c.written w none.0) ∙ last_of-none d x cs w none.1

-- ---- one tree

-- a tree's records are changes of its database alone
other_tree : (es : List Placed) (d e : ℕ) (x : Name) (slots : List NamedLsn) → (e == d) ≡ false → AllByRecursion (λ c. is_of d x c ≡ false) (map (loaded es e) slots)
other_tree es d e x [] other = tt
other_tree es d e x (s ∷ slots) other = (and_left (e == d) (is_eq (name_cmp s.0 x)) other, other_tree es d e x slots other)

-- later names are not the first one
not_later : (es : List Placed) (d : ℕ) (x : Name) (slots : List NamedLsn) → AllByRecursion (λ t. name_cmp x t.0 ≡ Less) slots → AllByRecursion (λ c. is_of d x c ≡ false) (map (loaded es d) slots)
not_later es d x [] up = tt
not_later es d x (t ∷ slots) up = (
  and_right (d == d) (is_eq (name_cmp t.0 x)) (eq_turned x t.0 false (ap is_eq up.0)),
  not_later es d x slots up.1,
)

-- a tree's records, in rising order of their names, leave under a name what is found of it
last_loaded : (es : List Placed) (d : ℕ) (x : Name) (slots : List NamedLsn) → AreUp slots → last_of d x (map (loaded es d) slots) unwritten ≡ written_at es d x (found x slots)
last_loaded es d x [] up = refl
last_loaded es d x (s ∷ slots) up = by_test (is_eq (name_cmp x s.0)) refl (last_loaded es d x slots up.1)
  where
    here : (b : Bool) → is_eq (name_cmp s.0 x) ≡ b → is_of d x (loaded es d s) ≡ b
    here true is = and_from (d == d) (is_eq (name_cmp s.0 x)) (eq-eqb d d refl) is
    here false is = and_right (d == d) (is_eq (name_cmp s.0 x)) is

    by_test : (b : Bool) → is_eq (name_cmp x s.0) ≡ b → last_of d x (map (loaded es d) slots) unwritten ≡ written_at es d x (found x slots) →
        last_of d x (map (loaded es d) slots) (cond (is_of d x (loaded es d s)) (loaded es d s).written unwritten) ≡ written_at es d x (cond b (Some s.1) (found x slots))
    by_test true is rest =
        let at : x ≡ s.0 = same x s.0 (equal_from_test _ is) in
        let make : Name → Written = λ y. record { at = s.1; value = data_of es d y s.1 } in
        ap (last_of d x (map (loaded es d) slots)) (cond-true (is_of d x (loaded es d s)) (loaded es d s).written unwritten (here true (eq_turned x s.0 true is)))
        ∙ last_of-none d x (map (loaded es d) slots) (loaded es d s).written
        (subst (λ (y : Name). AllByRecursion (λ c. is_of d y c ≡ false) (map (loaded es d) slots)) (sym at) (not_later es d s.0 slots up.0))
        ∙ ap make (sym at)
    by_test false is rest =
        ap (last_of d x (map (loaded es d) slots)) (cond-false (is_of d x (loaded es d s)) (loaded es d s).written unwritten (here false (eq_turned x s.0 false is)))
        ∙ rest

tree_level : (es : List Placed) (home : ℕ → ℕ → Name → Type 0) (d above : ℕ) (low : Name) (high : Option Name) (at : ℕ) → IsTreeAt es home d above low high at → level_at es at ≡ suc above
tree_level es home d zero low high at tree = ap level_of tree.image ∙ tree.level_is
tree_level es home d (suc above) low high at tree = ap level_of tree.image ∙ tree.level_is

-- the records that a root's tree gives
pub root_rows_of : (es : List Placed) (home : ℕ → ℕ → Name → Type 0) (end above : ℕ) (root : Root) → root.image < end → IsTreeAt es home root.db above least_name None root.image →
    rows_of_root es end root ≡ map (loaded es root.db) (slots_at es above least_name None root.image)
root_rows_of es home end above root lower tree =
    cond-true (nat_lt root.image end) (map (loaded es root.db) (slots_of_tree es root.image)) [] (lt-ltb root.image end lower)
    ∙ ap (λ (n : ℕ). map (loaded es root.db) (slots_by_level es n root.image)) (tree_level es home root.db above least_name None root.image tree)

pub root_rows : (es : List Placed) (home : ℕ → Home) (end : ℕ) (root : Root) (is : IsRootAt es home end root) →
    rows_of_root es end root ≡ map (loaded es root.db) (slots_at es is.above least_name None root.image)
root_rows es home end root is = root_rows_of es (at_home home root.db) end is.above root is.lower is.tree

root_shows : (es : List Placed) (home : ℕ → Home) (end : ℕ) (root : Root) (x : Name) → IsRootAt es home end root →
    last_of root.db x (rows_of_root es end root) unwritten ≡ written_at es root.db x (tree_shows es root.image x)
root_shows es home end root x is =
    let level = tree_level es (at_home home root.db) root.db is.above least_name None root.image is.tree in
    ap (λ (l : List LoggedChange). last_of root.db x l unwritten) (root_rows es home end root is)
    ∙ last_loaded es root.db x (slots_at es is.above least_name None root.image) (slots_up es (at_home home root.db) root.db is.above least_name None root.image refl is.tree)
    ∙ ap (written_at es root.db x)
    (shown_is es (at_home home root.db) root.db is.above x least_name None root.image is.tree (within_from least_name None x (none_below_least x) refl)
    ∙ sym (ap (λ (n : ℕ). shows_by_level es n root.image x) level))

-- ---- all roots

-- the databases' numbers rise from here on
abbrev pub RiseFrom : ℕ → List Root → Type 0
RiseFrom b [] = Unit {0}
RiseFrom b (r ∷ roots) = (b ≤ r.db) × RiseFrom (r.db + 1) roots

rise_behind : (r : Root) (roots : List Root) → rises_from root_before r roots ≡ true → RiseFrom (r.db + 1) roots
rise_behind r [] h = tt
rise_behind r (s ∷ roots) h =
    let both = and_parts (root_before r s) (rises_from root_before s roots) h in
    let less : r.db < s.db = ltb-true r.db s.db both.0 in
    (omega arith, rise_behind s roots both.1)

pub rise_of : (roots : List Root) → rises root_before roots ≡ true → RiseFrom 0 roots
rise_of [] h = tt
rise_of (r ∷ roots) h = (omega arith, rise_behind r roots h)

root_of_other : (es : List Placed) (end d : ℕ) (x : Name) (root : Root) → (root.db == d) ≡ false → AllByRecursion (λ c. is_of d x c ≡ false) (rows_of_root es end root)
root_of_other es end d x root other = by_test (nat_lt root.image end)
  where
    by_test : (b : Bool) → AllByRecursion (λ c. is_of d x c ≡ false) (cond b (map (loaded es root.db) (slots_of_tree es root.image)) [])
    by_test true = other_tree es d root.db x (slots_of_tree es root.image) other
    by_test false = tt

others_behind : (es : List Placed) (end d : ℕ) (x : Name) (b : ℕ) (roots : List Root) (w : Written) → RiseFrom b roots → d < b → last_of d x (rows_of_roots es end roots) w ≡ w
others_behind es end d x b [] w up lt = refl
others_behind es end d x b (r ∷ roots) w up lt =
    let low = up.0 in
    let other : (r.db == d) ≡ false = ne_eqb r.db d (λ e. omega (arith, e, low)) in
    last_of-append d x (rows_of_root es end r) (rows_of_roots es end roots) w
    ∙ ap (last_of d x (rows_of_roots es end roots)) (last_of-none d x (rows_of_root es end r) w (root_of_other es end d x r other))
    ∙ others_behind es end d x (r.db + 1) roots w up.1 (omega (arith, low))

roots_shown : (es : List Placed) (home : ℕ → Home) (end : ℕ) (d : ℕ) (x : Name) (b : ℕ) (roots : List Root) → RiseFrom b roots → AllByRecursion (IsRootAt es home end) roots →
    last_of d x (rows_of_roots es end roots) unwritten ≡ roots_show es roots d x
roots_shown es home end d x b [] up all = refl
roots_shown es home end d x b (r ∷ roots) up all =
    last_of-append d x (rows_of_root es end r) (rows_of_roots es end roots) unwritten ∙ by_test (r.db == d) refl (roots_shown es home end d x (r.db + 1) roots up.1 all.1)
  where
    by_test : (t : Bool) → (r.db == d) ≡ t → last_of d x (rows_of_roots es end roots) unwritten ≡ roots_show es roots d x →
        last_of d x (rows_of_roots es end roots) (last_of d x (rows_of_root es end r) unwritten)
        ≡ written_at es d x (option_and_then (λ at. tree_shows es at x) (option_map (λ (s : Root). s.image) (cond t (Some r) (find (λ (s : Root). s.db == d) roots))))
    by_test true is rest =
        let at : r.db ≡ d = eqb-true r.db d is in
        others_behind es end d x (r.db + 1) roots (last_of d x (rows_of_root es end r) unwritten) up.1 (omega (arith, at))
        ∙ subst (λ (n : ℕ). last_of n x (rows_of_root es end r) unwritten ≡ written_at es n x (tree_shows es r.image x)) at (root_shows es home end r x all.0)
    by_test false is rest =
        ap (last_of d x (rows_of_roots es end roots)) (last_of-none d x (rows_of_root es end r) unwritten (root_of_other es end d x r is)) ∙ rest

pub roots_show_rows : RootsShow
roots_show_rows es home end roots d x up all = roots_shown es home end d x 0 roots (rise_of roots up) all
