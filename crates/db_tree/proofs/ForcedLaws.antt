-- Levels in which some nodes wait, or do not.
use Rattle.std.proofs.Common.{◌≡◌, ◌==◌, ◌&&◌, ◌||◌, ◌+◌, ◌<◌, ◌≤◌, ◌++◌, ◌∷◌, not, [], ℕ, zero, suc, List, Bool, true, false, cond, Option, None, Some, is_some, option_map, filter, map, take, length, get_or, refl, ap, ap₂, sym, subst, ◌∙◌, arith, is_eq, ◌⊎◌, inl, inr}
use Rattle.std.specs.List.{AllByRecursion}
use Rattle.std.specs.List.Sorted.{IsStrictlySortedBy}
use Rattle.std.specs.Map.{keys_of}
use Rattle.std.proofs.lemmas.Bool.{true≢false, eq-eqb, ne_eqb}
use Rattle.std.proofs.lemmas.List.{take_more, map-append}
use Rattle.std.proofs.lemmas.List.Folds.{list_any-append}
use Rattle.std.proofs.Math.Nat.{le_refl}
use Rattle.je_order.specs.Order.{name_cmp}
use Rattle.je_order.specs.Edges.{Edge, is_between}
use Rattle.je_order.specs.declared.name.Name.{Name}
use Rattle.node_core.specs.declared.slot.Slot.{Slot}
use Rattle.record_map.specs.Cells.{value_at, between_edges}
use Rattle.record_map.proofs.NameLaws.{same_or_other, name_same, other_stays, same_gets}
use Rattle.tree_nodes.specs.declared.node.Node.{Node}
use Rattle.tree_nodes.specs.Nodes.{NodeRow, low_behind}
use Rattle.tree_nodes.specs.Levels.{row_of, slot_of, AreParts, HasPutAt}
use Rattle.tree_nodes.specs.Lows.{lows_of, low_after}
use Rattle.tree_nodes.proofs.LowLaws.{low_after_is, keys_passed}
use Rattle.db_tree.specs.declared.node_at.NodeAt.{NodeAt}
use Rattle.db_tree.specs.declared.node_image.NodeImage.{NodeImage}
use Rattle.db_tree.specs.Images.{Placed}
use Rattle.db_tree.specs.NodeImages.{node_of}
use Rattle.db_tree.specs.Shapes.{AreForced, with_forced, forced_if}
use Rattle.db_tree.specs.Content.{NameState}
use Rattle.db_tree.specs.Trees.{IsTreeOf}
use Rattle.db_tree.specs.Waiting.{is_same_name, is_forced, is_among, waits_in, waits_at, waiting_in, waiting_of, still_waiting}
use Rattle.db_tree.proofs.BackLaws.{same_levels}
use Rattle.db_tree.proofs.Marking.{marked_or_split}
use Rattle.db_tree.proofs.Over.{over_low}
use Rattle.tree_nodes.proofs.RisingLists.{same_lists}
use Rattle.db_tree.proofs.SplitLaws.{level_cases}
use Rattle.db_tree.proofs.WaitLaws.{lows_same, keys_at, put_lows, filter_ext}

-- ---- one node

abbrev pub one_at : ℕ → Name → List NodeAt
one_at level low = record { level = level; low = low } ∷ []

forced_same : (b : Bool) (o : Option Node) → option_map (forced_if false b) o ≡ o
forced_same b None = refl
forced_same b (Some n) = refl

-- a node is the one, or another one
pub one_cases : (level : ℕ) (low : Name) (k : ℕ) (x : Name) → ((level ≡ k) × (low ≡ x) × (is_among (one_at level low) k x ≡ true)) ⊎ ((is_among (one_at level low) k x ≡ false) × ((k ≡ level → ⊥) ⊎ (is_eq (name_cmp low x) ≡ false)))
one_cases level low k x = by_level (level_cases k level) (same_or_other low x)
  where
    among : (s t : Bool) → (level == k) ≡ s → is_same_name low x ≡ t → is_among (one_at level low) k x ≡ ((s && t) || false)
    among s t is_s is_t = ap₂ (λ (a b : Bool). (a && b) || false) is_s is_t

    none : (s : Bool) → ((s && false) || false) ≡ false
    none true = refl
    none false = refl

    by_level : (k ≡ level) ⊎ (k ≡ level → ⊥) → (low ≡ x) ⊎ (is_eq (name_cmp low x) ≡ false) →
        ((level ≡ k) × (low ≡ x) × (is_among (one_at level low) k x ≡ true)) ⊎ ((is_among (one_at level low) k x ≡ false) × ((k ≡ level → ⊥) ⊎ (is_eq (name_cmp low x) ≡ false)))
    by_level (inl is) (inl same) =
        inl (sym is, same, among true true (eq-eqb level k (sym is)) (subst (λ (y : Name). is_same_name low y ≡ true) same (ap is_eq (name_same low))))
    by_level (inl is) (inr apart) = inr (among (level == k) false refl apart ∙ none (level == k), inr apart)
    by_level (inr other) by_name = inr (among false (is_same_name low x) (ne_eqb level k (λ (h : level ≡ k). other (sym h))) refl, inl other)

-- a node was put in the place of one, which waits or does not
pub force_put : (b : Bool) (old new : List NodeRow) (level : ℕ) (low : Name) (m : Node) → AreParts old → AreParts new → value_at low (row_of old level) ≡ Some m → HasPutAt old new level low (with_forced b m) → AreForced b (one_at level low) old new
force_put b old new level low m was are there put = record { was_parts = was; parts = are; height = put.height; each = λ k x. by_case k x (one_cases level low k x) }
  where
    by_case : (k : ℕ) (x : Name) → ((level ≡ k) × (low ≡ x) × (is_among (one_at level low) k x ≡ true)) ⊎ ((is_among (one_at level low) k x ≡ false) × ((k ≡ level → ⊥) ⊎ (is_eq (name_cmp low x) ≡ false))) →
        value_at x (row_of new k) ≡ option_map (forced_if (is_among (one_at level low) k x) b) (value_at x (row_of old k))
    by_case k x (inl is) =
        subst (λ (l : ℕ). value_at x (row_of new l) ≡ option_map (forced_if (is_among (one_at level low) l x) b) (value_at x (row_of old l))) is.0
        (subst (λ (y : Name). value_at y (row_of new level) ≡ option_map (forced_if (is_among (one_at level low) level y) b) (value_at y (row_of old level))) is.1
        (put.here low
        ∙ same_gets low (Some (with_forced b m)) (value_at low (row_of old level))
        ∙ sym (ap₂ (λ (t : Bool) (o : Option Node). option_map (forced_if t b) o) here there)))
      where
        here : is_among (one_at level low) level low ≡ true
        here = ap₂ (λ (l : ℕ) (y : Name). is_among (one_at level low) l y) is.0 is.1 ∙ is.2
    by_case k x (inr is) = same is.1 ∙ sym (ap (λ (t : Bool). option_map (forced_if t b) (value_at x (row_of old k))) is.0 ∙ forced_same b (value_at x (row_of old k)))
      where
        at_level : (k ≡ level) ⊎ (k ≡ level → ⊥) → is_eq (name_cmp low x) ≡ false → value_at x (row_of new k) ≡ value_at x (row_of old k)
        at_level (inl here) apart =
            subst (λ (l : ℕ). value_at x (row_of new l) ≡ value_at x (row_of old l)) (sym here) (put.here x ∙ other_stays low x (Some (with_forced b m)) (value_at x (row_of old level)) apart)
        at_level (inr other) apart = ap (value_at x) (put.others k other)

        same : (k ≡ level → ⊥) ⊎ (is_eq (name_cmp low x) ≡ false) → value_at x (row_of new k) ≡ value_at x (row_of old k)
        same (inl other) = ap (value_at x) (put.others k other)
        same (inr apart) = at_level (level_cases k level) apart

-- there is no such node
pub force_none : (b : Bool) (rows : List NodeRow) (level : ℕ) (low : Name) → AreParts rows → value_at low (row_of rows level) ≡ None → AreForced b (one_at level low) rows rows
force_none b rows level low are none = record { was_parts = are; parts = are; height = refl; each = λ k x. by_case k x (one_cases level low k x) }
  where
    by_case : (k : ℕ) (x : Name) → ((level ≡ k) × (low ≡ x) × (is_among (one_at level low) k x ≡ true)) ⊎ ((is_among (one_at level low) k x ≡ false) × ((k ≡ level → ⊥) ⊎ (is_eq (name_cmp low x) ≡ false))) →
        value_at x (row_of rows k) ≡ option_map (forced_if (is_among (one_at level low) k x) b) (value_at x (row_of rows k))
    by_case k x (inl is) =
        let here : value_at x (row_of rows k) ≡ None = ap₂ (λ (l : ℕ) (y : Name). value_at y (row_of rows l)) (sym is.0) (sym is.1) ∙ none in
        here ∙ sym (ap (option_map (forced_if (is_among (one_at level low) k x) b)) here)
    by_case k x (inr is) = sym (ap (λ (t : Bool). option_map (forced_if t b) (value_at x (row_of rows k))) is.0 ∙ forced_same b (value_at x (row_of rows k)))

past_none : (rows : List NodeRow) (level : ℕ) (low : Name) → length rows ≤ level → value_at low (row_of rows level) ≡ None
past_none [] level low past = refl
past_none (r ∷ rows) zero low past = absurd (omega (arith, past))
past_none (r ∷ rows) (suc level) low past = let less : length rows ≤ level = omega (arith, past) in past_none rows level low less

-- nor such a level
pub force_past : (b : Bool) (rows : List NodeRow) (level : ℕ) (low : Name) → AreParts rows → length rows ≤ level → AreForced b (one_at level low) rows rows
force_past b rows level low are past = force_none b rows level low are (past_none rows level low past)

-- the tree fits its log as before
pub force_tree : (b : Bool) (es : Placed) (base : ℕ) (newest : Name → ℕ) (old new : List NodeRow) (held : Name → NameState) (level : ℕ) (low : Name) (m : Node) → value_at low (row_of old level) ≡ Some m → HasPutAt old new level low (with_forced b m) →
    IsTreeOf es base newest old held → IsTreeOf es base newest new held
force_tree b es base newest old new held level low m there put tree =
    marked_or_split es base newest old new held level low low m (with_forced b m) (over_low (row_of old level) low m there) put (record { last = refl; from = λ f own. (f, own, le_refl f) }) tree

-- ---- several nodes

pub force_begin : (b : Bool) (rows : List NodeRow) → AreParts rows → AreForced b [] rows rows
force_begin b rows are = record { was_parts = are; parts = are; height = refl; each = λ k x. sym (forced_same b (value_at x (row_of rows k))) }

twice : (s t b : Bool) (o : Option Node) → option_map (forced_if t b) (option_map (forced_if s b) o) ≡ option_map (forced_if (s || t) b) o
twice s t b None = refl
twice true true b (Some n) = refl
twice true false b (Some n) = refl
twice false true b (Some n) = refl
twice false false b (Some n) = refl

pub force_then : (b : Bool) (ns ms : List NodeAt) (old mid new : List NodeRow) → AreForced b ns old mid → AreForced b ms mid new → AreForced b (ns ++ ms) old new
force_then b ns ms old mid new first next = record {
  was_parts = first.was_parts;
  parts = next.parts;
  height = next.height ∙ first.height;
  each = λ k x. next.each k x
      ∙ ap (option_map (forced_if (is_among ms k x) b)) (first.each k x)
      ∙ twice (is_among ns k x) (is_among ms k x) b (value_at x (row_of old k))
      ∙ ap (λ (t : Bool). option_map (forced_if t b) (value_at x (row_of old k))) (sym (list_any-append (λ (n : NodeAt). (n.level == k) && is_same_name n.low x) ns ms));
}

-- one image more
next_image : (images : List NodeImage) (i : ℕ) (image : NodeImage) → i < length images → image ≡ get_or images i image → take (i + 1) images ≡ take i images ++ image ∷ []
next_image images i image within is = take_more images i image within ∙ ap (λ (x : NodeImage). take i images ++ x ∷ []) (sym is)

pub force_more : (b : Bool) (images : List NodeImage) (i : ℕ) (image : NodeImage) (old mid new : List NodeRow) → i < length images → image ≡ get_or images i image → AreForced b (map node_of (take i images)) old mid →
    AreForced b (node_of image ∷ []) mid new → AreForced b (map node_of (take (i + 1) images)) old new
force_more b images i image old mid new within is first next =
    subst (λ (ns : List NodeAt). AreForced b ns old new) (sym (ap (map node_of) (next_image images i image within is) ∙ map-append node_of (take i images) (image ∷ [])))
    (force_then b (map node_of (take i images)) (node_of image ∷ []) old mid new first next)

take_all : (images : List NodeImage) (i : ℕ) → length images ≤ i → take i images ≡ images
take_all [] zero past = refl
take_all [] (suc i) past = refl
take_all (x ∷ xs) zero past = absurd (omega (arith, past))
take_all (x ∷ xs) (suc i) past = let less : length xs ≤ i = omega (arith, past) in ap (λ (l : List NodeImage). x ∷ l) (take_all xs i less)

pub force_end : (b : Bool) (images : List NodeImage) (i : ℕ) (old new : List NodeRow) → length images ≤ i → AreForced b (map node_of (take i images)) old new → AreForced b (map node_of images) old new
force_end b images i old new past are = subst (λ (l : List NodeImage). AreForced b (map node_of l) old new) (take_all images i past) are

-- ---- what the levels have then

some_kept : (f : Node → Node) (o : Option Node) → is_some (option_map f o) ≡ is_some o
some_kept f None = refl
some_kept f (Some n) = refl

pub force_lows : (b : Bool) (ns : List NodeAt) (old new : List NodeRow) → AreForced b ns old new → lows_of new ≡ lows_of old
force_lows b ns old new are =
    lows_same old new are.was_parts are.parts are.height (λ k x. ap is_some (are.each k x) ∙ some_kept (forced_if (is_among ns k x) b) (value_at x (row_of old k)))

clear_waits : (t : Bool) (o : Option Node) → is_forced (option_map (forced_if t false) o) ≡ (is_forced o && not t)
clear_waits t None = refl
clear_waits true (Some n) = both n.forced
  where
    both : (a : Bool) → false ≡ (a && false)
    both true = refl
    both false = refl
clear_waits false (Some n) = both n.forced
  where
    both : (a : Bool) → a ≡ (a && true)
    both true = refl
    both false = refl

filter_both : (p q : Name → Bool) (xs : List Name) → filter (λ x. p x && q x) xs ≡ filter q (filter p xs)
filter_both p q [] = refl
filter_both p q (x ∷ xs) = by_test (p x) (filter_both p q xs)
  where
    by_test : (t : Bool) → filter (λ (y : Name). p y && q y) xs ≡ filter q (filter p xs) →
        cond (t && q x) (x ∷ filter (λ (y : Name). p y && q y) xs) (filter (λ (y : Name). p y && q y) xs) ≡ filter q (cond t (x ∷ filter p xs) (filter p xs))
    by_test true rest = ap (λ (l : List Name). cond (q x) (x ∷ l) l) rest
    by_test false rest = rest

still_is : (ns : List NodeAt) (level : ℕ) (a b : List NodeRow) → length b ≡ length a →
    ((k : ℕ) → waiting_in (get_or b k []) ≡ filter (λ low. not (is_among ns (level + k) low)) (waiting_in (get_or a k []))) → waiting_of b ≡ still_waiting ns level (waiting_of a)
still_is ns level [] [] same each = refl
still_is ns level [] (y ∷ b) same each = absurd (omega (arith, same))
still_is ns level (x ∷ a) [] same each = absurd (omega (arith, same))
still_is ns level (x ∷ a) (y ∷ b) same each =
    let rest : length b ≡ length a = omega (arith, same) in
    let here : level + 0 ≡ level = omega arith in
    ap₂ (λ (l : List Name) (ls : List (List Name)). l ∷ ls) (each 0 ∙ ap (λ (n : ℕ). filter (λ (low : Name). not (is_among ns n low)) (waiting_in x)) here)
    (still_is ns (suc level) a b rest (λ k. each (suc k) ∙ ap (λ (n : ℕ). filter (λ (low : Name). not (is_among ns n low)) (waiting_in (get_or a k []))) (shift k)))
  where
    shift : (k : ℕ) → level + suc k ≡ suc level + k
    shift k = omega arith

-- nodes of the same lows, of which some wait no more
clear_by : (ns : List NodeAt) (old new : List NodeRow) → length new ≡ length old → lows_of new ≡ lows_of old → ((k : ℕ) (x : Name) → waits_at new k x ≡ (waits_at old k x && not (is_among ns k x))) → waiting_of new ≡ still_waiting ns 0 (waiting_of old)
clear_by ns old new height lows waits = still_is ns 0 old new height each
  where
    each : (k : ℕ) → waiting_in (get_or new k []) ≡ filter (λ low. not (is_among ns (0 + k) low)) (waiting_in (get_or old k []))
    each k =
        let zero_first : k ≡ 0 + k = omega arith in
        ap (filter (waits_in (row_of new k))) (keys_at new old k lows)
        ∙ filter_ext (waits_in (row_of new k)) (λ (x : Name). waits_at old k x && not (is_among ns k x)) (keys_of (row_of old k)) (waits k)
        ∙ filter_both (waits_in (row_of old k)) (λ (x : Name). not (is_among ns k x)) (keys_of (row_of old k))
        ∙ ap (λ (n : ℕ). filter (λ (low : Name). not (is_among ns n low)) (waiting_in (row_of old k))) zero_first

-- what is cleared waits no more
pub clear_waiting : (ns : List NodeAt) (old new : List NodeRow) → AreForced false ns old new → waiting_of new ≡ still_waiting ns 0 (waiting_of old)
clear_waiting ns old new are =
    clear_by ns old new are.height (force_lows false ns old new are) (λ k x. ap is_forced (are.each k x) ∙ clear_waits (is_among ns k x) (value_at x (row_of old k)))

-- a node that does not wait was put in the place of one
pub put_waiting : (old new : List NodeRow) (level : ℕ) (low : Name) (m n : Node) → AreParts old → AreParts new → value_at low (row_of old level) ≡ Some m → HasPutAt old new level low n → n.forced ≡ false →
    waiting_of new ≡ still_waiting (one_at level low) 0 (waiting_of old)
put_waiting old new level low m n was are there put quiet =
    clear_by (one_at level low) old new put.height (put_lows old new level low m n was are there put) (λ k x. by_case k x (one_cases level low k x))
  where
    off : (a : Bool) → false ≡ (a && false)
    off true = refl
    off false = refl

    on : (a : Bool) → a ≡ (a && true)
    on true = refl
    on false = refl

    same : (k : ℕ) (x : Name) → (k ≡ level → ⊥) ⊎ (is_eq (name_cmp low x) ≡ false) → waits_at new k x ≡ waits_at old k x
    same k x (inl other) = ap (λ (row : NodeRow). waits_in row x) (put.others k other)
    same k x (inr apart) = at_level (level_cases k level)
      where
        at_level : (k ≡ level) ⊎ (k ≡ level → ⊥) → waits_at new k x ≡ waits_at old k x
        at_level (inl here) =
            subst (λ (l : ℕ). waits_at new l x ≡ waits_at old l x) (sym here) (ap is_forced (put.here x ∙ other_stays low x (Some n) (value_at x (row_of old level)) apart))
        at_level (inr other) = ap (λ (row : NodeRow). waits_in row x) (put.others k other)

    by_case : (k : ℕ) (x : Name) → ((level ≡ k) × (low ≡ x) × (is_among (one_at level low) k x ≡ true)) ⊎ ((is_among (one_at level low) k x ≡ false) × ((k ≡ level → ⊥) ⊎ (is_eq (name_cmp low x) ≡ false))) →
        waits_at new k x ≡ (waits_at old k x && not (is_among (one_at level low) k x))
    by_case k x (inl is) =
        ap₂ (λ (l : ℕ) (y : Name). waits_at new l y) (sym is.0) (sym is.1)
        ∙ ap is_forced (put.here low ∙ same_gets low (Some n) (value_at low (row_of old level)))
        ∙ quiet
        ∙ off (waits_at old k x)
        ∙ sym (ap (λ (t : Bool). waits_at old k x && not t) is.2)
    by_case k x (inr is) = same k x is.1 ∙ on (waits_at old k x) ∙ sym (ap (λ (t : Bool). waits_at old k x && not t) is.0)

-- ---- nodes that wait again

-- the images whose nodes waited
abbrev pub waited_in : List NodeImage → List NodeImage
waited_in images = filter (λ image. image.waited) images

waited_append : (xs : List NodeImage) (x : NodeImage) → waited_in (xs ++ x ∷ []) ≡ waited_in xs ++ cond x.waited (x ∷ []) []
waited_append [] x = refl
waited_append (y ∷ xs) x = by_test y.waited (waited_append xs x)
  where
    by_test : (t : Bool) → waited_in (xs ++ x ∷ []) ≡ waited_in xs ++ cond x.waited (x ∷ []) [] →
        cond t (y ∷ waited_in (xs ++ x ∷ [])) (waited_in (xs ++ x ∷ [])) ≡ cond t (y ∷ waited_in xs) (waited_in xs) ++ cond x.waited (x ∷ []) []
    by_test true rest = ap (λ (l : List NodeImage). y ∷ l) rest
    by_test false rest = rest

-- one image more
pub restore_more : (images : List NodeImage) (i : ℕ) (image : NodeImage) (old mid new : List NodeRow) → i < length images → image ≡ get_or images i image → AreForced true (map node_of (waited_in (take i images))) old mid →
    AreForced true (map node_of (waited_in (image ∷ []))) mid new → AreForced true (map node_of (waited_in (take (i + 1) images))) old new
restore_more images i image old mid new within is first next =
    subst (λ (ns : List NodeAt). AreForced true ns old new)
    (sym (ap (λ (l : List NodeImage). map node_of (waited_in l)) (next_image images i image within is) ∙ ap (map node_of) (waited_append (take i images) image) ∙ map-append node_of (waited_in (take i images)) (waited_in (image ∷ []))))
    (force_then true (map node_of (waited_in (take i images))) (map node_of (waited_in (image ∷ []))) old mid new first next)

pub restore_this : (image : NodeImage) (old new : List NodeRow) → image.waited ≡ true → AreForced true (one_at image.level image.low) old new → AreForced true (map node_of (waited_in (image ∷ []))) old new
restore_this image old new is are = subst (λ (t : Bool). AreForced true (map node_of (cond t (image ∷ []) [])) old new) (sym is) are

pub restore_none : (image : NodeImage) (rows : List NodeRow) → AreParts rows → image.waited ≡ false → AreForced true (map node_of (waited_in (image ∷ []))) rows rows
restore_none image rows are is = subst (λ (t : Bool). AreForced true (map node_of (cond t (image ∷ []) [])) rows rows) (sym is) (force_begin true rows are)

pub restore_begin : (images : List NodeImage) (rows : List NodeRow) → AreParts rows → AreForced true (map node_of (waited_in (take 0 images))) rows rows
restore_begin [] rows are = force_begin true rows are
restore_begin (x ∷ xs) rows are = force_begin true rows are

pub clear_begin : (images : List NodeImage) (rows : List NodeRow) → AreParts rows → AreForced false (map node_of (take 0 images)) rows rows
clear_begin [] rows are = force_begin false rows are
clear_begin (x ∷ xs) rows are = force_begin false rows are

-- the node of an image waits as the image has it
all_waited : (before : List NodeRow) (images : List NodeImage) (k : ℕ) (x : Name) (o : Option Node) → value_at x (row_of before k) ≡ o → AllByRecursion (λ image. image.waited ≡ waits_at before image.level image.low) images →
    option_map (forced_if (is_among (map node_of (waited_in images)) k x) true) (option_map (forced_if (is_among (map node_of images) k x) false) o) ≡ o
all_waited before images k x None is all = refl
all_waited before images k x (Some n) is all = by_images (among_waited images all)
  where
    with_own : (b : Bool) → n.forced ≡ b → with_forced b n ≡ n
    with_own b own = ap (λ (t : Bool). with_forced t n) (sym own)

    -- among the images, and then as the images that waited say
    Both : List NodeImage → Type 0
    Both l = ((is_among (map node_of l) k x ≡ false) × (is_among (map node_of (waited_in l)) k x ≡ false)) ⊎ ((is_among (map node_of l) k x ≡ true) × (is_among (map node_of (waited_in l)) k x ≡ n.forced))

    step : (y : NodeImage) (l : List NodeImage) (s t : Bool) → y.waited ≡ s → ((y.level == k) && is_same_name y.low x) ≡ t → (t ≡ true → s ≡ n.forced) → Both l → Both (y ∷ l)
    step y l true true w a same (inl h) = inr (
      ap (λ (b : Bool). b || is_among (map node_of l) k x) a,
      ap (λ (b : Bool). is_among (map node_of (cond b (y ∷ waited_in l) (waited_in l))) k x) w ∙ ap (λ (b : Bool). b || is_among (map node_of (waited_in l)) k x) a ∙ same refl,
    )
    step y l true true w a same (inr h) = inr (
      ap (λ (b : Bool). b || is_among (map node_of l) k x) a,
      ap (λ (b : Bool). is_among (map node_of (cond b (y ∷ waited_in l) (waited_in l))) k x) w ∙ ap (λ (b : Bool). b || is_among (map node_of (waited_in l)) k x) a ∙ same refl,
    )
    step y l true false w a same (inl h) = inl (
      ap (λ (b : Bool). b || is_among (map node_of l) k x) a ∙ h.0,
      ap (λ (b : Bool). is_among (map node_of (cond b (y ∷ waited_in l) (waited_in l))) k x) w ∙ ap (λ (b : Bool). b || is_among (map node_of (waited_in l)) k x) a ∙ h.1,
    )
    step y l true false w a same (inr h) = inr (
      ap (λ (b : Bool). b || is_among (map node_of l) k x) a ∙ h.0,
      ap (λ (b : Bool). is_among (map node_of (cond b (y ∷ waited_in l) (waited_in l))) k x) w ∙ ap (λ (b : Bool). b || is_among (map node_of (waited_in l)) k x) a ∙ h.1,
    )
    step y l false true w a same (inl h) = inr (ap (λ (b : Bool). b || is_among (map node_of l) k x) a, ap (λ (b : Bool). is_among (map node_of (cond b (y ∷ waited_in l) (waited_in l))) k x) w ∙ h.1 ∙ same refl)
    step y l false true w a same (inr h) = inr (ap (λ (b : Bool). b || is_among (map node_of l) k x) a, ap (λ (b : Bool). is_among (map node_of (cond b (y ∷ waited_in l) (waited_in l))) k x) w ∙ h.1)
    step y l false false w a same (inl h) = inl (ap (λ (b : Bool). b || is_among (map node_of l) k x) a ∙ h.0, ap (λ (b : Bool). is_among (map node_of (cond b (y ∷ waited_in l) (waited_in l))) k x) w ∙ h.1)
    step y l false false w a same (inr h) = inr (ap (λ (b : Bool). b || is_among (map node_of l) k x) a ∙ h.0, ap (λ (b : Bool). is_among (map node_of (cond b (y ∷ waited_in l) (waited_in l))) k x) w ∙ h.1)

    here : (y : NodeImage) → y.waited ≡ waits_at before y.level y.low → ((y.level == k) && is_same_name y.low x) ≡ true → y.waited ≡ n.forced
    here y own among = own ∙ by_case (one_cases y.level y.low k x)
      where
        by_case : ((y.level ≡ k) × (y.low ≡ x) × (is_among (one_at y.level y.low) k x ≡ true)) ⊎ ((is_among (one_at y.level y.low) k x ≡ false) × ((k ≡ y.level → ⊥) ⊎ (is_eq (name_cmp y.low x) ≡ false))) →
            waits_at before y.level y.low ≡ n.forced
        by_case (inl at) = ap₂ (λ (l : ℕ) (z : Name). waits_at before l z) at.0 at.1 ∙ ap is_forced is
        by_case (inr other) = absurd (true≢false (sym (ap (λ (b : Bool). b || false) among) ∙ other.0))

    among_waited : (l : List NodeImage) → AllByRecursion (λ image. image.waited ≡ waits_at before image.level image.low) l → Both l
    among_waited [] own = inl (refl, refl)
    among_waited (y ∷ l) own = step y l y.waited ((y.level == k) && is_same_name y.low x) refl refl (λ among. here y own.0 among) (among_waited l own.1)

    by_images : Both images → option_map (forced_if (is_among (map node_of (waited_in images)) k x) true) (option_map (forced_if (is_among (map node_of images) k x) false) (Some n)) ≡ Some n
    by_images (inl h) = ap₂ (λ (a b : Bool). option_map (forced_if b true) (option_map (forced_if a false) (Some n))) h.0 h.1
    by_images (inr h) = ap₂ (λ (a b : Bool). option_map (forced_if b true) (option_map (forced_if a false) (Some n))) h.0 h.1 ∙ by_own n.forced refl
      where
        by_own : (b : Bool) → n.forced ≡ b → option_map (forced_if b true) (option_map (forced_if true false) (Some n)) ≡ Some n
        by_own true own = ap Some (with_own true own)
        by_own false own = ap Some (with_own false own)

-- nodes that were cleared, and wait again as their images have it, are as they were
pub restored : (before now new : List NodeRow) (images : List NodeImage) (i : ℕ) → length images ≤ i → AreForced false (map node_of images) before now → AllByRecursion (λ image. image.waited ≡ waits_at before image.level image.low) images →
    AreForced true (map node_of (waited_in (take i images))) now new → new ≡ before
restored before now new images i past cleared all again =
    same_levels before new cleared.was_parts again.parts (again.height ∙ cleared.height)
    (λ k x. again.each k x
    ∙ ap₂ (λ (l : List NodeImage) (o : Option Node). option_map (forced_if (is_among (map node_of (waited_in l)) k x) true) o) (take_all images i past) (cleared.each k x)
    ∙ all_waited before images k x (value_at x (row_of before k)) refl all)

-- ---- images are the same

with_keys : (f : Name → Node → Node) (row : NodeRow) → keys_of (map (λ e. (e.0, f e.0 e.1)) row) ≡ keys_of row
with_keys f [] = refl
with_keys f (e ∷ row) = ap (λ (names : List Name). e.0 ∷ names) (with_keys f row)

with_found : (f : Name → Node → Node) (row : NodeRow) (x : Name) → value_at x (map (λ e. (e.0, f e.0 e.1)) row) ≡ option_map (f x) (value_at x row)
with_found f [] x = refl
with_found f (e ∷ row) x = by_name (same_or_other x e.0) (with_found f row x)
  where
    by_name : (x ≡ e.0) ⊎ (is_eq (name_cmp x e.0) ≡ false) → value_at x (map (λ (g : Name × Node). (g.0, f g.0 g.1)) row) ≡ option_map (f x) (value_at x row) →
        value_at x (map (λ (g : Name × Node). (g.0, f g.0 g.1)) (e ∷ row)) ≡ option_map (f x) (value_at x (e ∷ row))
    by_name (inl same) rest =
        subst (λ (y : Name). value_at y (map (λ (g : Name × Node). (g.0, f g.0 g.1)) (e ∷ row)) ≡ option_map (f y) (value_at y (e ∷ row))) (sym same)
        (same_gets e.0 (Some (f e.0 e.1)) (value_at e.0 (map (λ (g : Name × Node). (g.0, f g.0 g.1)) row)) ∙ sym (ap (option_map (f e.0)) (same_gets e.0 (Some e.1) (value_at e.0 row))))
    by_name (inr apart) rest =
        other_stays x e.0 (Some (f e.0 e.1)) (value_at x (map (λ (g : Name × Node). (g.0, f g.0 g.1)) row)) apart ∙ rest ∙ sym (ap (option_map (f x)) (other_stays x e.0 (Some e.1) (value_at x row) apart))

-- each level is the other one with other waits
pub force_row : (b : Bool) (ns : List NodeAt) (old new : List NodeRow) (k : ℕ) → AreForced b ns old new → row_of new k ≡ map (λ e. (e.0, forced_if (is_among ns k e.0) b e.1)) (row_of old k)
force_row b ns old new k are =
    same_lists (row_of new k) (map (λ (e : Name × Node). (e.0, forced_if (is_among ns k e.0) b e.1)) (row_of old k)) (are.parts.rising k)
    (subst (IsStrictlySortedBy name_cmp) (sym (with_keys (λ (x : Name). forced_if (is_among ns k x) b) (row_of old k))) (are.was_parts.rising k))
    (λ x. are.each k x ∙ sym (with_found (λ (y : Name). forced_if (is_among ns k y) b) (row_of old k) x))

-- the children of a node make the same slots
pub force_slots : (b : Bool) (ns : List NodeAt) (old new : List NodeRow) (k : ℕ) (from upto : Edge) → AreForced b ns old new → map slot_of (between_edges from upto (row_of new k)) ≡ map slot_of (between_edges from upto (row_of old k))
force_slots b ns old new k from upto are = ap (λ (row : NodeRow). map slot_of (between_edges from upto row)) (force_row b ns old new k are) ∙ slots (row_of old k)
  where
    one : (t : Bool) (e : Name × Node) → slot_of (e.0, forced_if t b e.1) ≡ slot_of e
    one true e = refl
    one false e = refl

    slots : (row : NodeRow) → map slot_of (between_edges from upto (map (λ (e : Name × Node). (e.0, forced_if (is_among ns k e.0) b e.1)) row)) ≡ map slot_of (between_edges from upto row)
    slots [] = refl
    slots (e ∷ row) = by_test (is_between from upto e.0) (slots row)
      where
        others : NodeRow
        others = map (λ (g : Name × Node). (g.0, forced_if (is_among ns k g.0) b g.1)) row

        by_test : (t : Bool) → map slot_of (between_edges from upto (map (λ (g : Name × Node). (g.0, forced_if (is_among ns k g.0) b g.1)) row)) ≡ map slot_of (between_edges from upto row) →
            map slot_of (cond t ((e.0, forced_if (is_among ns k e.0) b e.1) ∷ between_edges from upto (map (λ (g : Name × Node). (g.0, forced_if (is_among ns k g.0) b g.1)) row))
            (between_edges from upto (map (λ (g : Name × Node). (g.0, forced_if (is_among ns k g.0) b g.1)) row))) ≡ map slot_of (cond t (e ∷ between_edges from upto row) (between_edges from upto row))
        by_test true rest = ap₂ (λ (s : Slot) (l : List Slot). s ∷ l) (one (is_among ns k e.0) e) rest
        by_test false rest = rest

pub force_behind : (b : Bool) (ns : List NodeAt) (old new : List NodeRow) (k : ℕ) (low : Name) → AreForced b ns old new → low_behind low (row_of new k) ≡ low_behind low (row_of old k)
force_behind b ns old new k low are = low_after_is low (row_of new k) ∙ ap (low_after low) (keys_at new old k (force_lows b ns old new are)) ∙ sym (low_after_is low (row_of old k))

-- and have the same lows
pub force_keys : (b : Bool) (ns : List NodeAt) (old new : List NodeRow) (k : ℕ) (from upto : Edge) → AreForced b ns old new → keys_of (between_edges from upto (row_of new k)) ≡ keys_of (between_edges from upto (row_of old k))
force_keys b ns old new k from upto are =
    keys_passed (is_between from upto) (row_of new k) ∙ ap (filter (is_between from upto)) (keys_at new old k (force_lows b ns old new are)) ∙ sym (keys_passed (is_between from upto) (row_of old k))
