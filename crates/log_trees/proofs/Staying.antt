-- What an image shows is the same in a longer log, since it names lower LSNs alone.
use Rattle.std.proofs.Common.{◌≡◌, ℕ, zero, suc, ◌<◌, ◌≤◌, ◌==◌, nat_lt, Bool, true, false, cond, List, [], ◌∷◌, ◌++◌, Option, None, Some, map, filter, refl, ap, ap₂, ◌∙◌, arith}
use Rattle.std.specs.Option.{option_and_then}
use Rattle.std.proofs.lemmas.Bool.{ltb-true, cond_both}
use Rattle.std.proofs.lemmas.Bool.Decides.{nat_tests}
use Rattle.std.specs.List.{AllByRecursion, flat_map}
use Rattle.std.specs.Ordering.{is_lt}
use Rattle.je_order.specs.declared.name.Name.{Name}
use Rattle.je_order.specs.Order.{name_cmp}
use Rattle.log_entry.specs.declared.entry.Entry.{Entry}
use Rattle.log_entry.specs.declared.entry.Entry.TheVariants.{BinDelta}
use Rattle.log_entry.specs.declared.root.Root.{Root}
use Rattle.node_core.specs.declared.node.Node.{Node}
use Rattle.node_log.specs.Images.{node_with}
use Rattle.log_replay.proofs.ListLaws.{map_same}
use Rattle.je_order.proofs.Lists.{all_weaker, all_append, all_kept, filter_all_pass}
use Rattle.log_trees.specs.Placed.{Placed, entry_at}
use Rattle.log_trees.specs.Changes.{LoggedChange}
use Rattle.log_trees.specs.Images.{NamedLsn, slots_shown, node_in, node_at, slots_of_level, image, level_of, level_at}
use Rattle.log_trees.specs.Trees.{children_at, slots_at, found, child_behind, child_over, shows, data_in, data_of, loaded, slots_by_level, slots_of_tree, rows_of_root}
use Rattle.log_trees.specs.Bounds.{least_name, is_within, slots_inside, Child, children}
use Rattle.log_trees.specs.Sound.{IsRecordAt, IsTreeAt, at_home, IsRootAt}
use Rattle.log_trees.specs.Laws.{AreBehind, SlotsStay, ShowsStay, RootsStay, TreesStay, RootsStayRight}

-- ---- lists

flat-same : {X Y : Type 0} (f g : X → List Y) (xs : List X) → AllByRecursion (λ x. f x ≡ g x) xs → flat_map f xs ≡ flat_map g xs
flat-same f g [] all = refl
flat-same f g (x ∷ xs) all = ap₂ (λ a b. a ++ b) all.0 (flat-same f g xs all.1)

pub all_flat : {X Y : Type 0} (P : Y → Type 0) (f : X → List Y) (xs : List X) → AllByRecursion (λ x. AllByRecursion P (f x)) xs → AllByRecursion P (flat_map f xs)
all_flat P f [] all = tt
all_flat P f (x ∷ xs) all = all_append P (f x) (flat_map f xs) all.0 (all_flat P f xs all.1)

then_same : {A B : Type 0} (f g : A → Option B) (o : Option A) → ((x : A) → f x ≡ g x) → option_and_then f o ≡ option_and_then g o
then_same f g None same = refl
then_same f g (Some x) same = same x

-- ---- one entry

none_behind : (more : List Placed) (at : ℕ) → AreBehind at more → entry_at more at ≡ None
none_behind [] at behind = refl
none_behind (p ∷ more) at behind =
    let other : (p.0 == at) ≡ false = grind (arith, nat_tests, behind.0) in
    rw other (none_behind more at behind.1)

pub entry-stays : (es more : List Placed) (at : ℕ) → AreBehind at more → entry_at (es ++ more) at ≡ entry_at es at
entry-stays [] more at behind = none_behind more at behind
entry-stays (p ∷ es) more at behind = ap (λ (o : Option Entry). cond (p.0 == at) (Some p.1) o) (entry-stays es more at behind)

pub lower_behind : (more : List Placed) (lower at : ℕ) → AreBehind at more → lower < at → AreBehind lower more
lower_behind more lower at behind lt = all_weaker (λ (p : Placed). at < p.0) (λ p. lower < p.0) (λ p h. omega arith) more behind

-- ---- one image

node_in-stays : (es more : List Placed) (at : ℕ) (entry : Entry) → AreBehind at more → node_in (es ++ more) at entry ≡ node_in es at entry
node_in-stays es more at (BinDelta db number full slots) behind = by_test (nat_lt full at) refl
  where
    by_test : (b : Bool) → nat_lt full at ≡ b →
        cond b (option_and_then (λ base. node_with base (BinDelta db number full slots)) (entry_at (es ++ more) full)) None
        ≡ cond b (option_and_then (λ base. node_with base (BinDelta db number full slots)) (entry_at es full)) None
    by_test true is = ap (option_and_then (λ base. node_with base (BinDelta db number full slots))) (entry-stays es more full (lower_behind more full at behind (ltb-true full at is)))
    by_test false is = refl
node_in-stays es more at entry behind = refl

pub node-stays : (es more : List Placed) (at : ℕ) → AreBehind at more → node_at (es ++ more) at ≡ node_at es at
node-stays es more at behind =
    ap (option_and_then (node_in (es ++ more) at)) (entry-stays es more at behind)
    ∙ then_same (node_in (es ++ more) at) (node_in es at) (entry_at es at) (λ entry. node_in-stays es more at entry behind)

image-stays : (es more : List Placed) (level at : ℕ) → AreBehind at more → image (es ++ more) level at ≡ image es level at
image-stays es more level at behind = ap (λ (o : Option Node). filter (λ (s : NamedLsn). nat_lt s.1 at) (slots_of_level level o)) (node-stays es more at behind)

level-stays : (es more : List Placed) (at : ℕ) → AreBehind at more → level_at (es ++ more) at ≡ level_at es at
level-stays es more at behind = ap level_of (node-stays es more at behind)

-- an image names lower LSNs alone
pub image-lower : (es : List Placed) (level at : ℕ) → AllByRecursion (λ s. s.1 < at) (image es level at)
image-lower es level at =
    all_weaker (λ (s : NamedLsn). nat_lt s.1 at ≡ true) (λ s. s.1 < at) (λ s h. ltb-true s.1 at h) (image es level at)
    (filter_all_pass (λ (s : NamedLsn). nat_lt s.1 at) (slots_of_level level (node_at es at)))

-- ---- trees

-- the children of an IN stand at lower LSNs
children-stay : (es more : List Placed) (level : ℕ) (low : Name) (high : Option Name) (at : ℕ) → AreBehind at more → children_at (es ++ more) level low high at ≡ children_at es level low high at
children-stay es more level low high at behind =
    ap (λ (o : Option Node). filter (λ (c : Child). nat_lt c.at at) (children low high (slots_of_level level o))) (node-stays es more at behind)

children-lower : (es : List Placed) (level : ℕ) (low : Name) (high : Option Name) (at : ℕ) → AllByRecursion (λ (c : Child). c.at < at) (children_at es level low high at)
children-lower es level low high at =
    all_weaker (λ (c : Child). nat_lt c.at at ≡ true) (λ c. c.at < at) (λ c h. ltb-true c.at at h) (children_at es level low high at)
    (filter_all_pass (λ (c : Child). nat_lt c.at at) (children low high (slots_of_level level (node_at es at))))

pub slots_stay : SlotsStay
slots_stay es more zero low high at behind = ap (slots_inside low high) (image-stays es more 1 at behind)
slots_stay es more (suc above) low high at behind =
    ap (flat_map (λ (c : Child). slots_at (es ++ more) above c.low c.high c.at)) (children-stay es more (suc (suc above)) low high at behind)
    ∙ flat-same (λ (c : Child). slots_at (es ++ more) above c.low c.high c.at) (λ c. slots_at es above c.low c.high c.at) (children_at es (suc (suc above)) low high at)
    (all_weaker (λ (c : Child). c.at < at) (λ c. slots_at (es ++ more) above c.low c.high c.at ≡ slots_at es above c.low c.high c.at)
    (λ c h. slots_stay es more above c.low c.high c.at (lower_behind more c.at at behind h)) (children_at es (suc (suc above)) low high at) (children-lower es (suc (suc above)) low high at))

slots_lower : (es : List Placed) (above : ℕ) (low : Name) (high : Option Name) (at : ℕ) → AllByRecursion (λ s. s.1 < at) (slots_at es above low high at)
slots_lower es zero low high at = all_kept (λ (s : NamedLsn). s.1 < at) (λ s. is_within low high s.0) (image es 1 at) (image-lower es 1 at)
slots_lower es (suc above) low high at =
    all_flat (λ (s : NamedLsn). s.1 < at) (λ (c : Child). slots_at es above c.low c.high c.at) (children_at es (suc (suc above)) low high at)
    (all_weaker (λ (c : Child). c.at < at) (λ c. AllByRecursion (λ (t : NamedLsn). t.1 < at) (slots_at es above c.low c.high c.at))
    (λ c h. all_weaker (λ (t : NamedLsn). t.1 < c.at) (λ t. t.1 < at) (λ t k. omega arith) (slots_at es above c.low c.high c.at) (slots_lower es above c.low c.high c.at))
    (children_at es (suc (suc above)) low high at) (children-lower es (suc (suc above)) low high at))

child-lower : (x : Name) (child at : ℕ) (slots : List NamedLsn) → child < at → AllByRecursion (λ s. s.1 < at) slots → child_behind x child slots < at
child-lower x child at [] lt all = lt
child-lower x child at (s ∷ slots) lt all =
    cond_both (is_lt (name_cmp x s.0)) child (child_behind x s.1 slots) (λ (n : ℕ). n < at) (λ _. lt) (λ _. child-lower x s.1 at slots all.0 all.1)

over_same : (x : Name) (at : ℕ) (slots : List NamedLsn) (f g : ℕ → Option ℕ) → AllByRecursion (λ s. s.1 < at) slots → ((child : ℕ) → child < at → f child ≡ g child) →
    option_and_then f (child_over x slots) ≡ option_and_then g (child_over x slots)
over_same x at [] f g all same = refl
over_same x at (s ∷ slots) f g all same = same (child_behind x s.1 slots) (child-lower x s.1 at slots all.0 all.1)

pub shows_stay : ShowsStay
shows_stay es more zero at x behind = slots_found
  where
    slots_found : shows (es ++ more) zero at x ≡ shows es zero at x
    slots_found = ap (λ (l : List NamedLsn). found x l) (image-stays es more 1 at behind)
shows_stay es more (suc above) at x behind =
    ap (λ (l : List NamedLsn). option_and_then (λ child. shows (es ++ more) above child x) (child_over x l)) (image-stays es more (suc (suc above)) at behind)
    ∙ over_same x at (image es (suc (suc above)) at) (λ child. shows (es ++ more) above child x) (λ child. shows es above child x) (image-lower es (suc (suc above)) at)
    (λ child h. shows_stay es more above child x (lower_behind more child at behind h))

-- ---- roots

data-stays : (es more : List Placed) (d : ℕ) (x : Name) (lsn : ℕ) → AreBehind lsn more → data_of (es ++ more) d x lsn ≡ data_of es d x lsn
data-stays es more d x lsn behind = ap (option_and_then (data_in d x)) (entry-stays es more lsn behind)

loaded-stays : (es more : List Placed) (d : ℕ) (s : NamedLsn) → AreBehind s.1 more → loaded (es ++ more) d s ≡ loaded es d s
loaded-stays es more d s behind =
    let make : Option (List ℕ) → LoggedChange = λ v. record { db = d; name = s.0; written = record { at = s.1; value = v } } in
    ap make (data-stays es more d s.0 s.1 behind)

by_level-stays : (es more : List Placed) (level at : ℕ) → AreBehind at more → slots_by_level (es ++ more) level at ≡ slots_by_level es level at
by_level-stays es more zero at behind = refl
by_level-stays es more (suc above) at behind = slots_stay es more above least_name None at behind

tree-stays : (es more : List Placed) (at : ℕ) → AreBehind at more → slots_of_tree (es ++ more) at ≡ slots_of_tree es at
tree-stays es more at behind = ap (λ (n : ℕ). slots_by_level (es ++ more) n at) (level-stays es more at behind) ∙ by_level-stays es more (level_at es at) at behind

by_level-lower : (es : List Placed) (level at : ℕ) → AllByRecursion (λ s. s.1 < at) (slots_by_level es level at)
by_level-lower es zero at = tt
by_level-lower es (suc above) at = slots_lower es above least_name None at

root-stays : (es more : List Placed) (end : ℕ) (root : Root) → AllByRecursion (λ p. end ≤ p.0) more → rows_of_root (es ++ more) end root ≡ rows_of_root es end root
root-stays es more end root behind = by_test (nat_lt root.image end) refl
  where
    by_test : (b : Bool) → nat_lt root.image end ≡ b →
        cond b (map (loaded (es ++ more) root.db) (slots_of_tree (es ++ more) root.image)) [] ≡ cond b (map (loaded es root.db) (slots_of_tree es root.image)) []
    by_test true is =
        let lt : root.image < end = ltb-true root.image end is in
        let above : AreBehind root.image more = all_weaker (λ (p : Placed). end ≤ p.0) (λ p. root.image < p.0) (λ p h. omega (arith, lt)) more behind in
        ap (map (loaded (es ++ more) root.db)) (tree-stays es more root.image above)
        ∙ map_same (loaded (es ++ more) root.db) (loaded es root.db) (slots_of_tree es root.image)
        (all_weaker (λ (s : NamedLsn). s.1 < root.image) (λ s. loaded (es ++ more) root.db s ≡ loaded es root.db s)
        (λ s h. loaded-stays es more root.db s (lower_behind more s.1 root.image above h)) (slots_of_tree es root.image) (by_level-lower es (level_at es root.image) root.image))
    by_test false is = refl

pub roots_stay : RootsStay
roots_stay es more end [] behind = refl
roots_stay es more end (root ∷ roots) behind = ap₂ (λ a b. a ++ b) (root-stays es more end root behind) (roots_stay es more end roots behind)

-- ---- right trees

tree-stays_right : (es more : List Placed) (home : ℕ → ℕ → Name → Type 0) (d above : ℕ) (low : Name) (high : Option Name) (at : ℕ) → AreBehind at more →
    IsTreeAt es home d above low high at → IsTreeAt (es ++ more) home d above low high at
tree-stays_right es more home d zero low high at behind tree = record {
  node = tree.node;
  image = node-stays es more at behind ∙ tree.image;
  db = tree.db;
  level_is = tree.level_is;
  up = tree.up;
  home = tree.home;
  right = all_weaker (IsRecordAt es d at) (IsRecordAt (es ++ more) d at)
      (λ s h. (h.0, h.1, data-stays es more d s.0 s.1 (lower_behind more s.1 at behind h.0) ∙ h.2)) (slots_inside low high (slots_shown tree.node)) tree.right;
}
tree-stays_right es more home d (suc above) low high at behind tree = record {
  node = tree.node;
  image = node-stays es more at behind ∙ tree.image;
  db = tree.db;
  level_is = tree.level_is;
  up = tree.up;
  home = tree.home;
  right = all_weaker (λ (c : Child). (c.at < at) × IsTreeAt es home d above c.low c.high c.at) (λ c. (c.at < at) × IsTreeAt (es ++ more) home d above c.low c.high c.at)
      (λ c h. (h.0, tree-stays_right es more home d above c.low c.high c.at (lower_behind more c.at at behind h.0) h.1)) (children low high (slots_shown tree.node)) tree.right;
}

pub trees_stay : TreesStay
trees_stay es more home d above low high at behind tree = tree-stays_right es more (at_home home d) d above low high at behind tree

pub roots_stay_right : RootsStayRight
roots_stay_right es more home end roots behind all =
    all_weaker (IsRootAt es home end) (IsRootAt (es ++ more) home end)
    (λ root is. let lower = is.lower in record {
      lower = is.lower;
      above = is.above;
      tree = trees_stay es more home root.db is.above least_name None root.image (all_weaker (λ (p : Placed). end ≤ p.0) (λ p. root.image < p.0) (λ p h. omega (arith, h, lower)) more behind) is.tree;
    }) roots all
