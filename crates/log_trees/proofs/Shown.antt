-- The records below an image are those that it shows name by name.
use Rattle.std.proofs.Common.{◌≡◌, ℕ, zero, suc, ◌<◌, ◌==◌, nat_lt, Bool, true, false, cond, List, [], ◌∷◌, ◌++◌, Option, None, Some, filter, Less, is_eq, is_lt, refl, sym, ap, subst, ◌∙◌}
use Rattle.std.specs.Option.{option_and_then}
use Rattle.std.proofs.lemmas.Bool.{lt-ltb, eq-eqb, cond-true}
use Rattle.std.proofs.lemmas.List.{append-nil}
use Rattle.std.specs.List.{AllByRecursion, flat_map}
use Rattle.je_order.specs.declared.name.Name.{Name}
use Rattle.je_order.specs.Order.{name_cmp}
use Rattle.node_core.specs.declared.node.Node.{Node}
use Rattle.log_replay.proofs.ListLaws.{filter-all}
use Rattle.je_order.proofs.Lists.{all_weaker, all_append, filter_all_pass}
use Rattle.log_trees.specs.Placed.{Placed}
use Rattle.log_trees.specs.Images.{NamedLsn, slots_shown, node_at, slots_of_level, image}
use Rattle.log_trees.specs.Trees.{children_at, slots_at, found, child_behind, child_over, shows}
use Rattle.log_trees.specs.Bounds.{is_below, is_within, slots_inside, Child, children}
use Rattle.log_trees.specs.Sound.{AreUp, IsRecordAt, IsTreeAt, at_home}
use Rattle.log_trees.specs.Laws.{ShowsAreSlots}
use Rattle.log_trees.proofs.Bounds.{apart, less_over, within_parts, within_from, wider_high, wider_low, within_next}
use Rattle.log_trees.proofs.Cut.{filter_twice, found_in, up_kept, side_by_side, cut_slots, children_cut, cut_within, cut_up, children_lower, below_last, rooms, over_kept}

-- ---- one image

-- the slots that an image shows, as far as they stand at lower LSNs
pub image_kept : (es : List Placed) (level at : ℕ) (n : Node) → node_at es at ≡ Some n → n.level ≡ level → image es level at ≡ filter (λ s. nat_lt s.1 at) (slots_shown n)
image_kept es level at n is level_is =
    ap (λ (o : Option Node). filter (λ (s : NamedLsn). nat_lt s.1 at) (slots_of_level level o)) is
    ∙ ap (filter (λ (s : NamedLsn). nat_lt s.1 at)) (cond-true (n.level == level) (slots_shown n) [] (eq-eqb n.level level level_is))

-- what a right BIN's image shows within its bounds
pub leaf_image : (es : List Placed) (home : ℕ → ℕ → Name → Type 0) (d : ℕ) (low : Name) (high : Option Name) (at : ℕ) (tree : IsTreeAt es home d zero low high at) →
    slots_at es zero low high at ≡ slots_inside low high (slots_shown tree.node)
leaf_image es home d low high at tree =
    ap (slots_inside low high) (image_kept es 1 at tree.node tree.image tree.level_is)
    ∙ filter_twice (λ (s : NamedLsn). is_within low high s.0) (λ s. nat_lt s.1 at) (slots_shown tree.node)
    (all_weaker (IsRecordAt es d at) (λ s. nat_lt s.1 at ≡ true) (λ s h. lt-ltb s.1 at h.0) (slots_inside low high (slots_shown tree.node)) tree.right)

-- and the children of a right IN
pub inner_image : (es : List Placed) (home : ℕ → ℕ → Name → Type 0) (d above : ℕ) (low : Name) (high : Option Name) (at : ℕ) (tree : IsTreeAt es home d (suc above) low high at) →
    children_at es (suc (suc above)) low high at ≡ children low high (slots_shown tree.node)
inner_image es home d above low high at tree =
    ap (λ (o : Option Node). filter (λ (c : Child). nat_lt c.at at) (children low high (slots_of_level (suc (suc above)) o))) tree.image
    ∙ ap (λ (l : List NamedLsn). filter (λ (c : Child). nat_lt c.at at) (children low high l)) (cond-true (tree.node.level == suc (suc above)) (slots_shown tree.node) [] (eq-eqb tree.node.level (suc (suc above)) tree.level_is))
    ∙ filter-all (λ (c : Child). nat_lt c.at at) (children low high (slots_shown tree.node))
    (all_weaker (λ (c : Child). (c.at < at) × IsTreeAt es home d above c.low c.high c.at) (λ c. nat_lt c.at at ≡ true) (λ c h. lt-ltb c.at at h.0) (children low high (slots_shown tree.node)) tree.right)

-- the slots of an IN's children
abbrev pub child_slots_of : Name → Option Name → Node → List NamedLsn
child_slots_of low high n = cut_slots low high (slots_shown n)

-- what holds of an IN's children, side by side
pub right_beside : (es : List Placed) (home : ℕ → ℕ → Name → Type 0) (d above : ℕ) (low : Name) (high : Option Name) (at : ℕ) (tree : IsTreeAt es home d (suc above) low high at) →
    AllByRecursion (λ (c : Child). (c.at < at) × IsTreeAt es home d above c.low c.high c.at) (side_by_side low high (child_slots_of low high tree.node))
right_beside es home d above low high at tree =
    subst (AllByRecursion (λ (c : Child). (c.at < at) × IsTreeAt es home d above c.low c.high c.at)) (children_cut low high (slots_shown tree.node) tree.up) tree.right

-- the trees of an IN's children
pub right_children : (es : List Placed) (home : ℕ → ℕ → Name → Type 0) (d above : ℕ) (low : Name) (high : Option Name) (at : ℕ) (tree : IsTreeAt es home d (suc above) low high at) →
    AllByRecursion (λ (c : Child). IsTreeAt es home d above c.low c.high c.at) (side_by_side low high (child_slots_of low high tree.node))
right_children es home d above low high at tree =
    all_weaker (λ (c : Child). (c.at < at) × IsTreeAt es home d above c.low c.high c.at) (λ c. IsTreeAt es home d above c.low c.high c.at) (λ c h. h.1)
    (side_by_side low high (child_slots_of low high tree.node)) (right_beside es home d above low high at tree)

-- a tree whose bounds have room
abbrev pub IsRoomyTree : List Placed → (ℕ → ℕ → Name → Type 0) → ℕ → ℕ → Name → Option Name → ℕ → Type 0
IsRoomyTree es home d above low high at = (is_below low high ≡ true) × IsTreeAt es home d above low high at

both_hold : {X : Type 0} (P Q : X → Type 0) (xs : List X) → AllByRecursion P xs → AllByRecursion Q xs → AllByRecursion (λ x. P x × Q x) xs
both_hold P Q [] a b = tt
both_hold P Q (x ∷ xs) a b = ((a.0, b.0), both_hold P Q xs a.1 b.1)

roomy_children : (es : List Placed) (home : ℕ → ℕ → Name → Type 0) (d above : ℕ) (low : Name) (high : Option Name) (at : ℕ) (tree : IsTreeAt es home d (suc above) low high at) → is_below low high ≡ true →
    AllByRecursion (λ (c : Child). IsRoomyTree es home d above c.low c.high c.at) (side_by_side low high (child_slots_of low high tree.node))
roomy_children es home d above low high at tree room =
    both_hold (λ (c : Child). is_below c.low c.high ≡ true) (λ c. IsTreeAt es home d above c.low c.high c.at) (side_by_side low high (child_slots_of low high tree.node))
    (rooms low high (child_slots_of low high tree.node) (cut_within low high (slots_shown tree.node) room tree.up) (cut_up low high (slots_shown tree.node) tree.up))
    (right_children es home d above low high at tree)

-- ---- what is found in lists

found_none : (x : Name) (b : List NamedLsn) → AllByRecursion (λ s. is_eq (name_cmp x s.0) ≡ false) b → found x b ≡ None
found_none x [] all = refl
found_none x (s ∷ b) all = let other = all.0 in rw other (found_none x b all.1)

found_left : (x : Name) (a b : List NamedLsn) → found x b ≡ None → found x (a ++ b) ≡ found x a
found_left x [] b none = none
found_left x (s ∷ a) b none = ap (λ (o : Option ℕ). cond (is_eq (name_cmp x s.0)) (Some s.1) o) (found_left x a b none)

found_right : (x : Name) (a b : List NamedLsn) → AllByRecursion (λ s. is_eq (name_cmp x s.0) ≡ false) a → found x (a ++ b) ≡ found x b
found_right x [] b all = refl
found_right x (s ∷ a) b all = let other = all.0 in rw other (found_right x a b all.1)

-- ---- the children of an IN side by side: `f` gives the records of each, which lie within its bounds

within_children : (f : Name → Option Name → ℕ → List NamedLsn) (Tree : Name → Option Name → ℕ → Type 0)
    (inside : (low : Name) (high : Option Name) (at : ℕ) → Tree low high at → AllByRecursion (λ s. is_within low high s.0 ≡ true) (f low high at))
    (low : Name) (high : Option Name) (slots : List NamedLsn) → AllByRecursion (λ (c : Child). Tree c.low c.high c.at) (side_by_side low high slots) →
    AllByRecursion (λ s. is_within low high s.0 ≡ true) slots → AreUp slots → AllByRecursion (λ s. is_within low high s.0 ≡ true) (flat_map (λ (c : Child). f c.low c.high c.at) (side_by_side low high slots))
within_children f Tree inside low high [] trees within up = tt
within_children f Tree inside low high (s ∷ []) trees within up = all_append (λ (t : NamedLsn). is_within low high t.0 ≡ true) (f low high s.1) [] (inside low high s.1 trees.0) tt
within_children f Tree inside low high (s ∷ n ∷ slots) trees within up =
    let bounds = within_parts low high n.0 within.1.0 in
    all_append (λ (t : NamedLsn). is_within low high t.0 ≡ true) (f low (Some n.0) s.1) (flat_map (λ (c : Child). f c.low c.high c.at) (side_by_side n.0 high (n ∷ slots)))
    (all_weaker (λ (t : NamedLsn). is_within low (Some n.0) t.0 ≡ true) (λ t. is_within low high t.0 ≡ true) (λ t h. wider_high low high n.0 t.0 bounds.1 h) (f low (Some n.0) s.1)
    (inside low (Some n.0) s.1 trees.0))
    (all_weaker (λ (t : NamedLsn). is_within n.0 high t.0 ≡ true) (λ t. is_within low high t.0 ≡ true) (λ t h. wider_low low high n.0 t.0 bounds.0 h) (flat_map (λ (c : Child). f c.low c.high c.at) (side_by_side n.0 high (n ∷ slots)))
    (within_children f Tree inside n.0 high (n ∷ slots) trees.1 (within_next low high n slots within.1 up.1) up.1))

-- the records of later children are not below their first slot's name
not_below : (low : Name) (high : Option Name) (slots : List NamedLsn) → AllByRecursion (λ s. is_within low high s.0 ≡ true) slots → AllByRecursion (λ s. is_lt (name_cmp s.0 low) ≡ false) slots
not_below low high slots all = all_weaker (λ (s : NamedLsn). is_within low high s.0 ≡ true) (λ s. is_lt (name_cmp s.0 low) ≡ false) (λ s h. (within_parts low high s.0 h).0) slots all

all_below : (low n : Name) (slots : List NamedLsn) → AllByRecursion (λ s. is_within low (Some n) s.0 ≡ true) slots → AllByRecursion (λ s. is_lt (name_cmp s.0 n) ≡ true) slots
all_below low n slots all = all_weaker (λ (s : NamedLsn). is_within low (Some n) s.0 ≡ true) (λ s. is_lt (name_cmp s.0 n) ≡ true) (λ s h. (within_parts low (Some n) s.0 h).1) slots all

found_children : (f : Name → Option Name → ℕ → List NamedLsn) (g : ℕ → Option ℕ) (x : Name) (Tree : Name → Option Name → ℕ → Type 0)
    (inside : (low : Name) (high : Option Name) (at : ℕ) → Tree low high at → AllByRecursion (λ s. is_within low high s.0 ≡ true) (f low high at))
    (shown : (low : Name) (high : Option Name) (at : ℕ) → Tree low high at → is_within low high x ≡ true → found x (f low high at) ≡ g at)
    (low : Name) (high : Option Name) (slots : List NamedLsn) → AllByRecursion (λ (c : Child). Tree c.low c.high c.at) (side_by_side low high slots) →
    AllByRecursion (λ s. is_within low high s.0 ≡ true) slots → AreUp slots → is_within low high x ≡ true →
    found x (flat_map (λ (c : Child). f c.low c.high c.at) (side_by_side low high slots)) ≡ option_and_then g (child_over x slots)
found_children f g x Tree inside shown low high [] trees within up x_in = refl
found_children f g x Tree inside shown low high (s ∷ []) trees within up x_in = ap (found x) (append-nil (f low high s.1)) ∙ shown low high s.1 trees.0 x_in
found_children f g x Tree inside shown low high (s ∷ n ∷ slots) trees within up x_in =
    by_test (is_lt (name_cmp x n.0)) refl (λ in_next. found_children f g x Tree inside shown n.0 high (n ∷ slots) trees.1 next up.1 in_next)
  where
    bounds : (is_lt (name_cmp x low) ≡ false) × (is_below x high ≡ true)
    bounds = within_parts low high x x_in

    next : AllByRecursion (λ (t : NamedLsn). is_within n.0 high t.0 ≡ true) (n ∷ slots)
    next = within_next low high n slots within.1 up.1

    rest_in : AllByRecursion (λ (t : NamedLsn). is_within n.0 high t.0 ≡ true) (flat_map (λ (c : Child). f c.low c.high c.at) (side_by_side n.0 high (n ∷ slots)))
    rest_in = within_children f Tree inside n.0 high (n ∷ slots) trees.1 next up.1

    by_test : (b : Bool) → is_lt (name_cmp x n.0) ≡ b →
        (is_within n.0 high x ≡ true → found x (flat_map (λ (c : Child). f c.low c.high c.at) (side_by_side n.0 high (n ∷ slots))) ≡ g (child_behind x n.1 slots)) →
        found x (f low (Some n.0) s.1 ++ flat_map (λ (c : Child). f c.low c.high c.at) (side_by_side n.0 high (n ∷ slots))) ≡ g (cond b s.1 (child_behind x n.1 slots))
    by_test true is goes =
        found_left x (f low (Some n.0) s.1) (flat_map (λ (c : Child). f c.low c.high c.at) (side_by_side n.0 high (n ∷ slots)))
        (found_none x (flat_map (λ (c : Child). f c.low c.high c.at) (side_by_side n.0 high (n ∷ slots)))
        (all_weaker (λ (t : NamedLsn). is_lt (name_cmp t.0 n.0) ≡ false) (λ t. is_eq (name_cmp x t.0) ≡ false) (λ t h. apart x t.0 n.0 true is h)
        (flat_map (λ (c : Child). f c.low c.high c.at) (side_by_side n.0 high (n ∷ slots))) (not_below n.0 high (flat_map (λ (c : Child). f c.low c.high c.at) (side_by_side n.0 high (n ∷ slots))) rest_in)))
        ∙ shown low (Some n.0) s.1 trees.0 (within_from low (Some n.0) x bounds.0 is)
    by_test false is goes =
        found_right x (f low (Some n.0) s.1) (flat_map (λ (c : Child). f c.low c.high c.at) (side_by_side n.0 high (n ∷ slots)))
        (all_weaker (λ (t : NamedLsn). is_lt (name_cmp t.0 n.0) ≡ true) (λ t. is_eq (name_cmp x t.0) ≡ false) (λ t h. apart x t.0 n.0 false is h)
        (f low (Some n.0) s.1) (all_below low n.0 (f low (Some n.0) s.1) (inside low (Some n.0) s.1 trees.0)))
        ∙ goes (within_from n.0 high x is bounds.1)

up-append : (bound : Name) (a b : List NamedLsn) → AreUp a → AreUp b → AllByRecursion (λ s. is_lt (name_cmp s.0 bound) ≡ true) a → AllByRecursion (λ s. is_lt (name_cmp s.0 bound) ≡ false) b → AreUp (a ++ b)
up-append bound [] b up_a up_b low high = up_b
up-append bound (s ∷ a) b up_a up_b low high = (
  all_append (λ (t : NamedLsn). name_cmp s.0 t.0 ≡ Less) a b up_a.0
      (all_weaker (λ (t : NamedLsn). is_lt (name_cmp t.0 bound) ≡ false) (λ t. name_cmp s.0 t.0 ≡ Less) (λ t h. less_over s.0 t.0 bound low.0 h) b high),
  up-append bound a b up_a.1 up_b low.1 high,
)

up_children : (f : Name → Option Name → ℕ → List NamedLsn) (Tree : Name → Option Name → ℕ → Type 0)
    (inside : (low : Name) (high : Option Name) (at : ℕ) → Tree low high at → AllByRecursion (λ s. is_within low high s.0 ≡ true) (f low high at))
    (rises : (low : Name) (high : Option Name) (at : ℕ) → Tree low high at → AreUp (f low high at))
    (low : Name) (high : Option Name) (slots : List NamedLsn) → AllByRecursion (λ (c : Child). Tree c.low c.high c.at) (side_by_side low high slots) →
    AllByRecursion (λ s. is_within low high s.0 ≡ true) slots → AreUp slots → AreUp (flat_map (λ (c : Child). f c.low c.high c.at) (side_by_side low high slots))
up_children f Tree inside rises low high [] trees within up = tt
up_children f Tree inside rises low high (s ∷ []) trees within up = subst AreUp (sym (append-nil (f low high s.1))) (rises low high s.1 trees.0)
up_children f Tree inside rises low high (s ∷ n ∷ slots) trees within up =
    let next = within_next low high n slots within.1 up.1 in
    up-append n.0 (f low (Some n.0) s.1) (flat_map (λ (c : Child). f c.low c.high c.at) (side_by_side n.0 high (n ∷ slots))) (rises low (Some n.0) s.1 trees.0)
    (up_children f Tree inside rises n.0 high (n ∷ slots) trees.1 next up.1)
    (all_below low n.0 (f low (Some n.0) s.1) (inside low (Some n.0) s.1 trees.0))
    (not_below n.0 high (flat_map (λ (c : Child). f c.low c.high c.at) (side_by_side n.0 high (n ∷ slots))) (within_children f Tree inside n.0 high (n ∷ slots) trees.1 next up.1))

-- ---- trees

pub slots_within : (es : List Placed) (home : ℕ → ℕ → Name → Type 0) (d above : ℕ) (low : Name) (high : Option Name) (at : ℕ) → is_below low high ≡ true → IsTreeAt es home d above low high at →
    AllByRecursion (λ s. is_within low high s.0 ≡ true) (slots_at es above low high at)
slots_within es home d zero low high at room tree = filter_all_pass (λ (s : NamedLsn). is_within low high s.0) (image es 1 at)
slots_within es home d (suc above) low high at room tree =
    subst (λ (l : List Child). AllByRecursion (λ s. is_within low high s.0 ≡ true) (flat_map (λ (c : Child). slots_at es above c.low c.high c.at) l))
    (sym (inner_image es home d above low high at tree ∙ children_cut low high (slots_shown tree.node) tree.up))
    (within_children (slots_at es above) (IsRoomyTree es home d above) (λ l h a t. slots_within es home d above l h a t.0 t.1) low high (child_slots_of low high tree.node)
    (roomy_children es home d above low high at tree room) (cut_within low high (slots_shown tree.node) room tree.up) (cut_up low high (slots_shown tree.node) tree.up))

-- names rise from one BIN to the next
pub slots_up : (es : List Placed) (home : ℕ → ℕ → Name → Type 0) (d above : ℕ) (low : Name) (high : Option Name) (at : ℕ) → is_below low high ≡ true → IsTreeAt es home d above low high at →
    AreUp (slots_at es above low high at)
slots_up es home d zero low high at room tree = subst AreUp (sym (leaf_image es home d low high at tree)) (up_kept (λ (s : NamedLsn). is_within low high s.0) (slots_shown tree.node) tree.up)
slots_up es home d (suc above) low high at room tree =
    subst (λ (l : List Child). AreUp (flat_map (λ (c : Child). slots_at es above c.low c.high c.at) l)) (sym (inner_image es home d above low high at tree ∙ children_cut low high (slots_shown tree.node) tree.up))
    (up_children (slots_at es above) (IsRoomyTree es home d above) (λ l h a t. slots_within es home d above l h a t.0 t.1) (λ l h a t. slots_up es home d above l h a t.0 t.1) low high (child_slots_of low high tree.node)
    (roomy_children es home d above low high at tree room) (cut_within low high (slots_shown tree.node) room tree.up) (cut_up low high (slots_shown tree.node) tree.up))

-- the child over a name within an IN's bounds
pub child_shown_over : (es : List Placed) (home : ℕ → ℕ → Name → Type 0) (d above : ℕ) (x : Name) (low : Name) (high : Option Name) (at : ℕ) (tree : IsTreeAt es home d (suc above) low high at) →
    is_within low high x ≡ true → child_over x (image es (suc (suc above)) at) ≡ child_over x (child_slots_of low high tree.node)
child_shown_over es home d above x low high at tree x_in =
    ap (child_over x) (image_kept es (suc (suc above)) at tree.node tree.image tree.level_is)
    ∙ over_kept (λ (n : ℕ). nat_lt n at) x low high (slots_shown tree.node) x_in tree.up
    (children_lower (λ (n : ℕ). nat_lt n at ≡ true) low high (child_slots_of low high tree.node)
    (all_weaker (λ (c : Child). (c.at < at) × IsTreeAt es home d above c.low c.high c.at) (λ c. nat_lt c.at at ≡ true) (λ c h. lt-ltb c.at at h.0) (side_by_side low high (child_slots_of low high tree.node))
    (right_beside es home d above low high at tree)))

pub shown_is : (es : List Placed) (home : ℕ → ℕ → Name → Type 0) (d above : ℕ) (x : Name) (low : Name) (high : Option Name) (at : ℕ) → IsTreeAt es home d above low high at →
    is_within low high x ≡ true → found x (slots_at es above low high at) ≡ shows es above at x
shown_is es home d zero x low high at tree x_in = found_in low high x (image es 1 at) x_in
shown_is es home d (suc above) x low high at tree x_in =
    let bounds = within_parts low high x x_in in
    let room : is_below low high ≡ true = below_last low high x bounds.0 bounds.1 in
    ap (λ (l : List Child). found x (flat_map (λ (c : Child). slots_at es above c.low c.high c.at) l)) (inner_image es home d above low high at tree ∙ children_cut low high (slots_shown tree.node) tree.up)
    ∙ found_children (slots_at es above) (λ child. shows es above child x) x (IsRoomyTree es home d above) (λ l h a t. slots_within es home d above l h a t.0 t.1) (λ l h a t. shown_is es home d above x l h a t.1)
    low high (child_slots_of low high tree.node) (roomy_children es home d above low high at tree room) (cut_within low high (slots_shown tree.node) room tree.up) (cut_up low high (slots_shown tree.node) tree.up) x_in
    ∙ sym (ap (option_and_then (λ child. shows es above child x)) (child_shown_over es home d above x low high at tree x_in))

pub shows_are_slots : ShowsAreSlots
shows_are_slots es home d above low high at x tree x_in = shown_is es (at_home home d) d above x low high at tree x_in
