-- The images that trees reach, one after another.
use Rattle.std.proofs.Common.{◌≡◌, ◌≢◌, ◌+◌, ◌-◌, ◌==◌, ℕ, zero, suc, Bool, true, false, List, [], ◌∷◌, ◌++◌, Option, nat_cmp, refl, sym, ap, ap₂, subst, ◌∙◌, arith}
use Rattle.std.specs.Prelude.{◌||◌, nat_lt, filter}
use Rattle.std.specs.BTreeSet.{insert_key}
use Rattle.std.specs.List.{flat_map, list_any}
use Rattle.std.proofs.lemmas.List.Concat.{flat_map-append}
use Rattle.std.proofs.lemmas.List.Elements.{filter-append}
use Rattle.std.proofs.lemmas.List.Folds.{list_any-append}
use Rattle.je_order.specs.declared.name.Name.{Name}
use Rattle.log_entry.specs.declared.root.Root.{Root}
use Rattle.log_trees.specs.Placed.{Placed}
use Rattle.log_trees.specs.Bounds.{Child, children}
use Rattle.log_trees.specs.Images.{node_at, slots_of_level}
use Rattle.file_use.specs.Images.{images_below, images_of_root}
use Rattle.file_use.specs.Live.{images_in_use, is_one_of}
use Rattle.recovery_je.specs.Using.{HasAdded, images_of_children, AreInUse}
use Rattle.recovery_je.proofs.WalkLaws.{any_insert}

-- ---- numbers that are put to others

or_false : (a : Bool) → a ≡ (a || false)
or_false true = refl
or_false false = refl

or_turned : (a b x : Bool) → (b || (a || x)) ≡ ((a || b) || x)
or_turned true true x = refl
or_turned true false x = refl
or_turned false b x = refl

in_both : (a b : List ℕ) (m : ℕ) → is_one_of (a ++ b) m ≡ (is_one_of a m || is_one_of b m)
in_both a b m = list_any-append (λ k. k == m) a b

pub added_one : (old new : List ℕ) (n : ℕ) → new ≡ insert_key nat_cmp old n → HasAdded (n ∷ []) old new
added_one old new n is m = ap (list_any (λ k. k == m)) is ∙ any_insert m n old ∙ ap (λ (b : Bool). b || list_any (λ k. k == m) old) (or_false (n == m))

pub added_none : (xs : List ℕ) → HasAdded [] xs xs
added_none xs m = refl

pub added_then : (a b x y z : List ℕ) → HasAdded a x y → HasAdded b y z → HasAdded (a ++ b) x z
added_then a b x y z first second m =
    second m ∙ ap (λ (t : Bool). is_one_of b m || t) (first m) ∙ or_turned (is_one_of a m) (is_one_of b m) (is_one_of x m) ∙ ap (λ (t : Bool). t || is_one_of x m) (sym (in_both a b m))

pub added_same : (a b x y : List ℕ) → a ≡ b → HasAdded a x y → HasAdded b x y
added_same a b x y is h = subst (λ (l : List ℕ). HasAdded l x y) is h

-- of all numbers that are put to others these are left
abbrev pub IsAdding : List ℕ → List ℕ → List ℕ → List ℕ → Type 0
IsAdding all old left now_ = (m : ℕ) → (is_one_of left m || is_one_of now_ m) ≡ (is_one_of all m || is_one_of old m)

pub adding_begins : (all old : List ℕ) → IsAdding all old all old
adding_begins all old m = refl

pub adding_on : (all old left part rest x y : List ℕ) → left ≡ part ++ rest → HasAdded part x y → IsAdding all old left x → IsAdding all old rest y
adding_on all old left part rest x y is added so_far m =
    ap (λ (t : Bool). is_one_of rest m || t) (added m)
    ∙ or_turned (is_one_of part m) (is_one_of rest m) (is_one_of x m)
    ∙ ap (λ (t : Bool). t || is_one_of x m) (sym (in_both part rest m))
    ∙ ap (λ (l : List ℕ). is_one_of l m || is_one_of x m) (sym is)
    ∙ so_far m

pub adding_ends : (all old left x y : List ℕ) → HasAdded left x y → IsAdding all old left x → HasAdded all old y
adding_ends all old left x y added so_far m = added m ∙ so_far m

-- ---- what stands below an image

one_more : (n : ℕ) → suc (suc n) ≡ suc n - 1 + 2
one_more n = omega arith

less_one : (n : ℕ) → n ≡ suc n - 1
less_one n = omega arith

-- an IN's images are its own, and those of its children's trees
pub in_images : (es : List Placed) (above : ℕ) (low : Name) (high : Option Name) (at : ℕ) → above ≢ 0 →
    images_below es above low high at ≡ at ∷ images_of_children es (above - 1) at (children low high (slots_of_level (above - 1 + 2) (node_at es at)))
in_images es zero low high at some = absurd (some refl)
in_images es (suc n) low high at some =
    ap₂ (λ (k level : ℕ). at ∷ images_of_children es k at (children low high (slots_of_level level (node_at es at)))) (less_one n) (one_more n)

-- ---- children

pub children_both : (es : List Placed) (above at : ℕ) (a b : List Child) → images_of_children es above at (a ++ b) ≡ images_of_children es above at a ++ images_of_children es above at b
children_both es above at a b =
    ap (flat_map (λ (c : Child). images_below es above c.low c.high c.at)) (filter-append (λ (c : Child). nat_lt c.at at) a b)
    ∙ flat_map-append (λ (c : Child). images_below es above c.low c.high c.at) (filter (λ (c : Child). nat_lt c.at at) a) (filter (λ (c : Child). nat_lt c.at at) b)

-- ---- roots

pub roots_both : (has : ℕ → Bool) (es : List Placed) (a b : List Root) → images_in_use has es (a ++ b) ≡ images_in_use has es a ++ images_in_use has es b
roots_both has es a b =
    ap (flat_map (images_of_root es)) (filter-append (λ (r : Root). has r.db) a b)
    ∙ flat_map-append (images_of_root es) (filter (λ (r : Root). has r.db) a) (filter (λ (r : Root). has r.db) b)

-- all roots are done
pub in_use_all : (has : ℕ → Bool) (es : List Placed) (roots left : List Root) (images old : List ℕ) → left ≡ [] → old ≡ [] → IsAdding (images_in_use has es roots) old (images_in_use has es left) images → AreInUse has es roots images
in_use_all has es roots left images old none empty so_far m =
    ap (λ (l : List Root). is_one_of (images_in_use has es l) m || is_one_of images m) (sym none)
    ∙ so_far m
    ∙ ap (λ (l : List ℕ). is_one_of (images_in_use has es roots) m || is_one_of l m) empty
    ∙ sym (or_false (is_one_of (images_in_use has es roots) m))
