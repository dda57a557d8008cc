-- Rising names between edges, and how they are walked.
use Rattle.std.proofs.Common.{◌≡◌, ◌<◌, List, [], ◌∷◌, ◌++◌, Bool, true, false, cond, not, ◌&&◌, None, Some, find, filter, map, length, refl, ap, ap₂, sym, ◌∙◌, arith, Ordering, Less}
use Rattle.std.specs.List.{AllByRecursion}
use Rattle.std.specs.List.Sorted.{IsStrictlySortedBy}
use Rattle.std.specs.Ordering.{is_ge, ordering_reverse}
use Rattle.std.proofs.lemmas.List.{append-nil}
use Rattle.std.proofs.lemmas.Option.{none-some, same_Some}
use Rattle.je_order.specs.Order.{name_cmp}
use Rattle.je_order.specs.Edges.{Edge, is_below}
use Rattle.je_order.specs.Edges.Edge.{Behind}
use Rattle.je_order.specs.declared.name.Name.{Name}
use Rattle.store_model.specs.Reads.{range, is_within}
use Rattle.store_model.specs.declared.need.Need.{Need}
use Rattle.store_model.proofs.StoreLaws.{names_total}
use Rattle.cursor_je.specs.Reaches.{kept_below}
use Rattle.cursor_je.proofs.EdgeLaws.{stays_above, name_same}

-- ---- the first name of a range

none_later : (from upto : Edge) (m : Name) (names : List Name) → is_below upto m ≡ false → AllByRecursion (λ n. name_cmp m n ≡ Less) names → find (is_within (range from upto)) names ≡ None
none_later from upto m [] above all = refl
none_later from upto m (n ∷ names) above all =
    ap (λ (b : Bool). cond (not (is_below from n) && b) (Some n) (find (is_within (range from upto)) names)) (stays_above upto m n all.0 above)
    ∙ by (is_below from n) ∙ none_later from upto m names above all.1
  where
    by : (b : Bool) → cond (not b && false) (Some n) (find (is_within (range from upto)) names) ≡ find (is_within (range from upto)) names
    by true = refl
    by false = refl

-- it is the first one from the lower edge, if that is in it
pub first_is : (from upto : Edge) (names : List Name) → IsStrictlySortedBy name_cmp names → kept_below upto (find (λ n. not (is_below from n)) names) ≡ find (is_within (range from upto)) names
unfolding IsStrictlySortedBy
first_is from upto [] up = refl
first_is from upto (m ∷ names) up = by (is_below from m) refl (is_below upto m) refl (first_is from upto names up.1)
  where
    within : Name → Bool
    within = is_within (range from upto)

    above : Name → Bool
    above = λ n. not (is_below from n)

    by : (b : Bool) → is_below from m ≡ b → (c : Bool) → is_below upto m ≡ c → kept_below upto (find above names) ≡ find within names → kept_below upto (find above (m ∷ names)) ≡ find within (m ∷ names)
    by true e c f rest =
        ap (λ (t : Bool). kept_below upto (cond (not t) (Some m) (find above names))) e ∙ rest
        ∙ sym (ap (λ (t : Bool). cond (not t && is_below upto m) (Some m) (find within names)) e)
    by false e true f rest =
        ap (λ (t : Bool). kept_below upto (cond (not t) (Some m) (find above names))) e
        ∙ ap (λ (t : Bool). cond t (Some m) None) f
        ∙ sym (ap₂ (λ (t u : Bool). cond (not t && u) (Some m) (find within names)) e f)
    by false e false f rest =
        ap (λ (t : Bool). kept_below upto (cond (not t) (Some m) (find above names))) e
        ∙ ap (λ (t : Bool). cond t (Some m) None) f
        ∙ sym (ap₂ (λ (t u : Bool). cond (not t && u) (Some m) (find within names)) e f ∙ none_later from upto m names f up.0)

-- none is between an edge and itself
pub none_between : (edge : Edge) (names : List Name) → find (is_within (range edge edge)) names ≡ None
none_between edge [] = refl
none_between edge (n ∷ names) = by (is_below edge n) ∙ none_between edge names
  where
    by : (b : Bool) → cond (not b && b) (Some n) (find (is_within (range edge edge)) names) ≡ find (is_within (range edge edge)) names
    by true = refl
    by false = refl

-- ---- a walk

dropped : (p : Name → Bool) (m : Name) (names : List Name) → p m ≡ false → filter p (m ∷ names) ≡ filter p names
dropped p m names e = ap (λ (b : Bool). cond b (m ∷ filter p names) (filter p names)) e

taken : (p : Name → Bool) (m : Name) (names : List Name) → p m ≡ true → filter p (m ∷ names) ≡ m ∷ filter p names
taken p m names e = ap (λ (b : Bool). cond b (m ∷ filter p names) (filter p names)) e

missed : (p : Name → Bool) (m : Name) (names : List Name) → p m ≡ false → find p (m ∷ names) ≡ find p names
missed p m names e = ap (λ (b : Bool). cond b (Some m) (find p names)) e

found_is : (p : Name → Bool) (m : Name) (names : List Name) → p m ≡ true → find p (m ∷ names) ≡ Some m
found_is p m names e = ap (λ (b : Bool). cond b (Some m) (find p names)) e

later_than : (p : Name → Bool) (m n : Name) (names : List Name) → AllByRecursion (λ x. name_cmp m x ≡ Less) names → Some n ≡ find p names → name_cmp m n ≡ Less
later_than p m n [] all is = absurd (none-some n (sym is))
later_than p m n (x ∷ names) all is = by (p x) refl (later_than p m n names all.1)
  where
    by : (b : Bool) → p x ≡ b → (Some n ≡ find p names → name_cmp m n ≡ Less) → name_cmp m n ≡ Less
    by true e rest = ap (name_cmp m) (same_Some n x (is ∙ found_is p x names e)) ∙ all.0
    by false e rest = rest (is ∙ missed p x names e)

from_of : (b c : Bool) → (not b && c) ≡ true → b ≡ false
from_of true c h = cc
from_of false c h = refl

same_behind : (from upto : Edge) (m : Name) (names : List Name) → is_below from m ≡ false → AllByRecursion (λ n. name_cmp m n ≡ Less) names →
    filter (is_within (range from upto)) names ≡ filter (is_within (range (Behind m) upto)) names
same_behind from upto m [] above all = refl
same_behind from upto m (n ∷ names) above all =
    ap₂ (λ (b : Bool) (l : List Name). cond b (n ∷ l) l)
    (ap (λ (b : Bool). not b && is_below upto n) (stays_above from m n all.0 above ∙ sym (ap is_ge all.0)))
    (same_behind from upto m names above all.1)

not_itself : (upto : Edge) (m : Name) → is_within (range (Behind m) upto) m ≡ false
not_itself upto m = ap (λ (o : Ordering). not (is_ge o) && is_below upto m) (name_same m)

not_earlier : (upto : Edge) (m n : Name) → name_cmp m n ≡ Less → is_within (range (Behind n) upto) m ≡ false
not_earlier upto m n less = ap (λ (o : Ordering). not (is_ge o) && is_below upto m) (names_total.antisymm n m ∙ ap ordering_reverse less)

-- the names of a range are the first one and those behind it
pub step : (from upto : Edge) (n : Name) (names : List Name) → IsStrictlySortedBy name_cmp names → Some n ≡ find (is_within (range from upto)) names →
    filter (is_within (range from upto)) names ≡ n ∷ filter (is_within (range (Behind n) upto)) names
unfolding IsStrictlySortedBy
step from upto n [] up is = absurd (none-some n (sym is))
step from upto n (m ∷ names) up is = by (is_within (range from upto) m) refl (step from upto n names up.1)
  where
    within : Name → Bool
    within = is_within (range from upto)

    by : (b : Bool) → within m ≡ b → (Some n ≡ find within names → filter within names ≡ n ∷ filter (is_within (range (Behind n) upto)) names) →
        filter within (m ∷ names) ≡ n ∷ filter (is_within (range (Behind n) upto)) (m ∷ names)
    by true e rest =
        let same : m ≡ n = sym (same_Some n m (is ∙ found_is within m names e)) in
        taken within m names e
        ∙ ap (λ (l : List Name). m ∷ l) (same_behind from upto m names (from_of (is_below from m) (is_below upto m) e) up.0
        ∙ sym (dropped (is_within (range (Behind m) upto)) m names (not_itself upto m)))
        ∙ ap (λ (x : Name). x ∷ filter (is_within (range (Behind x) upto)) (m ∷ names)) same
    by false e rest =
        let later = is ∙ missed within m names e in
        dropped within m names e ∙ rest later
        ∙ ap (λ (l : List Name). n ∷ l) (sym (dropped (is_within (range (Behind n) upto)) m names (not_earlier upto m n (later_than within m n names up.0 later))))

-- with fewer left
pub fewer : (from upto : Edge) (n : Name) (names : List Name) → IsStrictlySortedBy name_cmp names → Some n ≡ find (is_within (range from upto)) names →
    length (filter (is_within (range (Behind n) upto)) names) < length (filter (is_within (range from upto)) names)
fewer from upto n names up is = let all = ap length (step from upto n names up is) in omega (arith, all)

-- where none is found there is none
pub none_left : (p : Name → Bool) (names : List Name) → None ≡ find p names → filter p names ≡ []
none_left p [] is = refl
none_left p (m ∷ names) is = by (p m) refl (none_left p names)
  where
    by : (b : Bool) → p m ≡ b → (None ≡ find p names → filter p names ≡ []) → filter p (m ∷ names) ≡ []
    by true e rest = absurd (none-some m (is ∙ found_is p m names e))
    by false e rest = dropped p m names e ∙ rest (is ∙ missed p m names e)

pushed : (xs : List Need) (x : Need) (ys : List Need) → (xs ++ x ∷ []) ++ ys ≡ xs ++ x ∷ ys
pushed [] x ys = refl
pushed (y ∷ xs) x ys = ap (λ (l : List Need). y ∷ l) (pushed xs x ys)

-- a walk that found a name goes on behind it
pub walk_on : (from upto : Edge) (n : Name) (names : List Name) (one : Name → Need) (items next all : List Need) → IsStrictlySortedBy name_cmp names →
    Some n ≡ find (is_within (range from upto)) names → next ≡ items ++ one n ∷ [] → items ++ map one (filter (is_within (range from upto)) names) ≡ all →
    next ++ map one (filter (is_within (range (Behind n) upto)) names) ≡ all
walk_on from upto n names one items next all up is grown so =
    ap (λ (l : List Need). l ++ map one (filter (is_within (range (Behind n) upto)) names)) grown
    ∙ pushed items (one n) (map one (filter (is_within (range (Behind n) upto)) names))
    ∙ ap (λ (l : List Name). items ++ map one l) (sym (step from upto n names up is)) ∙ so

-- one that found none has all
pub walk_done : (p : Name → Bool) (names : List Name) (one : Name → Need) (items all : List Need) → None ≡ find p names → items ++ map one (filter p names) ≡ all → items ≡ all
walk_done p names one items all is so = sym (append-nil items) ∙ sym (ap (λ (l : List Name). items ++ map one l) (none_left p names is)) ∙ so
