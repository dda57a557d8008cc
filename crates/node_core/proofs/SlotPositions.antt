-- The place of a name among slots in the order of their names, and an edit there.
use Rattle.std.proofs.Common.{◌≡◌, ℕ, zero, suc, ◌-◌, ◌<◌, ◌≤◌, ◌==◌, Bool, true, false, cond, not, List, [], ◌∷◌, ◌++◌, length, take, drop, set, get_or, map, Option, Some, None, Ordering, Less, Equal, Greater, is_eq, is_lt, refl, sym, ap, subst, ◌∙◌, arith, length-set, length-take, length-drop, take_at}
use Rattle.std.specs.Prelude.{is_some, slice_get}
use Rattle.std.specs.List.{insert, remove}
use Rattle.std.specs.List.Sorted.{IsPartitionPoint, IsPartitionedBy}
use Rattle.std.specs.Ordering.{ordering_reverse, match_ordering}
use Rattle.je_order.specs.declared.name.Name.{Name}
use Rattle.je_order.specs.Order.{name_cmp}
use Rattle.node_core.specs.declared.slot.Marked.{Marked}
use Rattle.node_core.specs.Sorted.{AllAbove, Rises, AreSlots, AllBelow, NoneBelow, IsPlace, IsAt, HasRoom, at, put}
use Rattle.node_core.proofs.NameOrder.{total, same, turned, above_of}
use Rattle.node_core.proofs.SlotLookup.{at_above, at_name, above_below, rises_put, rises_filter}
use Rattle.node_core.specs.Changes.{unmarked}
use Rattle.std.proofs.lemmas.List.Edits.{length-insert, length-remove}
use Rattle.std.proofs.lemmas.List.{length-map}
use Rattle.je_order.proofs.Orderings.{less_from_test}

abbrev tied : Name → Marked → Bool
tied x m = is_eq (name_cmp x m.slot.name)

abbrev pub is_under : Name → Marked → Bool
is_under x m = is_lt (name_cmp m.slot.name x)

-- ---- what a binary search asks and answers

-- a slot behind one that is above a name is above it
above_get : (x : Name) (ms : List Marked) (j : ℕ) (d : Marked) → AllAbove x ms → j < length ms → name_cmp x (get_or ms j d).slot.name ≡ Less
above_get x [] j d h lt = absurd (omega arith)
above_get x (m ∷ ms) zero d h lt = h.0
above_get x (m ∷ ms) (suc j) d h lt = above_get x ms j d h.1 (omega arith)

pub partitioned : (x : Name) (ms : List Marked) → Rises ms → IsPartitionedBy (is_under x) ms
partitioned x [] h i j d le lt under = absurd (omega arith)
partitioned x (m ∷ ms) h zero zero d le lt under = under
partitioned x (m ∷ ms) h zero (suc j) d le lt under =
    ap is_lt (total.trans m.slot.name (get_or ms j d).slot.name x (above_get m.slot.name ms j d h.0 (omega arith)) (less_from_test _ under))
partitioned x (m ∷ ms) h (suc i) zero d le lt under = absurd (omega arith)
partitioned x (m ∷ ms) h (suc i) (suc j) d le lt under = partitioned x ms h.1 i j d (omega arith) (omega arith) under

none_below : (x : Name) (ms : List Marked) → ((k : ℕ) (d : Marked) → k < length ms → is_under x (get_or ms k d) ≡ false) → NoneBelow x ms
none_below x [] h = tt
none_below x (m ∷ ms) h = (h zero m (omega arith), none_below x ms (λ k d lt. h (suc k) d (omega arith)))

place_by : (x : Name) (ms : List Marked) (i : ℕ) → i ≤ length ms
    → ((k : ℕ) (d : Marked) → k < i → is_under x (get_or ms k d) ≡ true) → ((k : ℕ) (d : Marked) → i ≤ k → k < length ms → is_under x (get_or ms k d) ≡ false)
    → AllBelow x (take i ms) × NoneBelow x (drop i ms)
place_by x ms zero le f g = (tt, none_below x ms (λ k d lt. g k d (omega arith) lt))
place_by x [] (suc i) le f g = absurd (omega arith)
place_by x (m ∷ ms) (suc i) le f g =
    let rest = place_by x ms i (omega arith) (λ k d lt. f (suc k) d (omega arith)) (λ k d low lt. g (suc k) d (omega arith) (omega arith)) in
    ((less_from_test _ (f zero m (omega arith)), rest.0), rest.1)

pub place_from : (x : Name) (ms : List Marked) (i : ℕ) → i ≤ length ms → IsPartitionPoint (λ m. is_under x m ≡ true) (λ m. is_under x m ≡ false) ms i → IsPlace x ms i
place_from x ms i le h =
    let both = place_by x ms i le (λ k d lt. h.0 k d (omega arith) lt) (λ k d low lt. h.1 k d low lt) in
    record { within = le; before = both.0; behind = both.1 }

-- an item that is there is the same whatever stands for one that is not
pub same_item : (a b : Marked) (ms : List Marked) (i : ℕ) → i < length ms → get_or ms i a ≡ get_or ms i b
same_item a b [] i some = absurd (omega (arith, some))
same_item a b (m ∷ ms) zero some = refl
same_item a b (m ∷ ms) (suc i) some = same_item a b ms i (omega (arith, some))

-- the last of slots, where there are some
pub last_of_some : (ms : List Marked) (none : Bool) → none ≡ (length ms == 0) → none ≡ false → suc (length ms - 1) ≡ length ms
last_of_some [] none is not_none = absurd cc
last_of_some (m ∷ ms) none is not_none = omega arith

-- the place of a name behind the last slot
pub place_behind : (x : Name) (ms : List Marked) (i : ℕ) (m : Marked) → Rises ms → suc i ≡ length ms → m ≡ get_or ms i m → is_under x m ≡ true → IsPlace x ms (length ms)
place_behind x ms i m h last is under =
    place_from x ms (length ms) (omega arith) (
      λ k d low lt. partitioned x ms h k i d (omega (arith, last, lt)) (omega (arith, last)) (ap (is_under x) (same_item d m ms i (omega (arith, last)) ∙ sym is) ∙ under),
      λ k d low lt. absurd (omega (arith, low, lt)),
    )

-- ---- the slot at the place

reverse_eq : (o : Ordering) → is_eq (ordering_reverse o) ≡ is_eq o
reverse_eq Less = refl
reverse_eq Equal = refl
reverse_eq Greater = refl

flip_eq : (x y : Name) → is_eq (name_cmp x y) ≡ false → is_eq (name_cmp y x) ≡ false
flip_eq x y e = ap is_eq (total.antisymm y x) ∙ reverse_eq (name_cmp x y) ∙ e

front_by : (x : Name) (m : Marked) (ms : List Marked) → AllAbove m.slot.name ms → is_lt (name_cmp m.slot.name x) ≡ false → at x (m ∷ ms) ≡ cond (tied x m) (Some m) None
front_by x m ms h low =
    elim (tied x m) as (λ b. tied x m ≡ b → cond b (Some m) (at x ms) ≡ cond b (Some m) None) [
      | true ↦ λ t. refl
      | false ↦ λ t. at_above x ms (above_below x m.slot.name ms (turned m.slot.name x Greater (above_of _ low (flip_eq x m.slot.name t))) h)
    ] refl

-- where no slot is found by a name, the first does not have it
untied : (x : Name) (n : Marked) (ms : List Marked) → at x (n ∷ ms) ≡ None → tied x n ≡ false
untied x n ms none =
    elim (tied x n) as (λ b. cond b (Some n) (at x ms) ≡ None → b ≡ false) [ true ↦ λ e. absurd cc | false ↦ λ e. refl ] none

-- a slot below a name does not have it
not_tied : (x : Name) (m : Marked) → name_cmp m.slot.name x ≡ Less → tied x m ≡ false
not_tied x m e = ap is_eq (turned m.slot.name x Less e)

at_past : (x : Name) (m : Marked) (ms : List Marked) → name_cmp m.slot.name x ≡ Less → at x (m ∷ ms) ≡ at x ms
at_past x m ms e = ap (λ b. cond b (Some m) (at x ms)) (not_tied x m e)

-- what is found by a name is the slot at its place, if that has the name
abbrev pub if_tied : Name → Option Marked → Option Marked
if_tied x None = None
if_tied x (Some m) = cond (tied x m) (Some m) None

pub at_place : (x : Name) (ms : List Marked) (i : ℕ) → Rises ms → AllBelow x (take i ms) → NoneBelow x (drop i ms) → at x ms ≡ if_tied x (slice_get ms i)
at_place x [] i h before behind = refl
at_place x (m ∷ ms) zero h before behind = front_by x m ms h.0 behind.0
at_place x (m ∷ ms) (suc i) h before behind = at_past x m ms before.0 ∙ at_place x ms i h.1 before.1 behind

-- ---- an edit at the place

under_first : (m n : Marked) (ms : List Marked) → name_cmp n.slot.name m.slot.name ≡ Less → put m (n ∷ ms) ≡ n ∷ put m ms
under_first m n ms e = ap (λ o. match_ordering o (m ∷ n ∷ ms) (m ∷ ms) (n ∷ put m ms)) (turned n.slot.name m.slot.name Less e)

found_tied : (x : Name) (n : Marked) (ms : List Marked) → Some n ≡ at x (n ∷ ms) → name_cmp x n.slot.name ≡ Equal
found_tied x n ms e = at_name x (n ∷ ms) n (sym e)

pub put_set : (m : Marked) (ms : List Marked) (i : ℕ) → AllBelow m.slot.name (take i ms) → IsAt m.slot.name ms i → put m ms ≡ set ms i m
put_set m [] i before here = absurd (omega (arith, here.within))
put_set m (n ∷ ms) zero before here = ap (λ o. match_ordering o (m ∷ n ∷ ms) (m ∷ ms) (n ∷ put m ms)) (found_tied m.slot.name n ms here.is)
put_set m (n ∷ ms) (suc i) before here =
    under_first m n ms before.0
    ∙ ap (λ (ks : List Marked). n ∷ ks) (put_set m ms i before.1 (record { within = omega (arith, here.within); is = here.is ∙ at_past m.slot.name n ms before.0 }))

pub put_insert : (m : Marked) (ms : List Marked) (i : ℕ) → AllBelow m.slot.name (take i ms) → NoneBelow m.slot.name (drop i ms) → at m.slot.name ms ≡ None → put m ms ≡ insert ms i m
put_insert m [] zero before behind none = refl
put_insert m [] (suc i) before behind none = refl
put_insert m (n ∷ ms) zero before behind none =
    let apart : tied m.slot.name n ≡ false = untied m.slot.name n ms none in
    let less : name_cmp m.slot.name n.slot.name ≡ Less = turned n.slot.name m.slot.name Greater (above_of _ behind.0 (flip_eq m.slot.name n.slot.name apart)) in
    ap (λ o. match_ordering o (m ∷ n ∷ ms) (m ∷ ms) (n ∷ put m ms)) less
put_insert m (n ∷ ms) (suc i) before behind none =
    under_first m n ms before.0 ∙ ap (λ (ks : List Marked). n ∷ ks) (put_insert m ms i before.1 behind (sym (at_past m.slot.name n ms before.0) ∙ none))

-- ---- what a test at the place says

pub is_found : (x : Name) (ms : List Marked) (i : ℕ) (m : Marked) → Rises ms → IsPlace x ms i → i < length ms → slice_get ms i ≡ Some m → name_cmp x m.slot.name ≡ Equal → IsAt x ms i
is_found x ms i m h place lt here tie =
    let found : at x ms ≡ if_tied x (slice_get ms i) = at_place x ms i h place.before place.behind in
    let some : if_tied x (slice_get ms i) ≡ Some m = ap (if_tied x) here ∙ ap (λ o. cond (is_eq o) (Some m) None) tie in
    record { within = lt; is = here ∙ sym (found ∙ some) }

pub is_there : (x : Name) (ms : List Marked) (i : ℕ) (m : Marked) → IsAt x ms i → slice_get ms i ≡ Some m → is_some (at x ms) ≡ true
is_there x ms i m is here = ap is_some (sym is.is ∙ here)

not_equal : (o : Ordering) → (o ≡ Equal → ⊥) → is_eq o ≡ false
not_equal Less h = refl
not_equal Equal h = absurd (h refl)
not_equal Greater h = refl

pub is_missed : (x : Name) (ms : List Marked) (i : ℕ) (m : Marked) → Rises ms → IsPlace x ms i → slice_get ms i ≡ Some m → (name_cmp x m.slot.name ≡ Equal → ⊥) → at x ms ≡ None
is_missed x ms i m h place here apart =
    at_place x ms i h place.before place.behind ∙ ap (if_tied x) here ∙ ap (λ b. cond b (Some m) None) (not_equal _ apart)

pub is_past : (x : Name) (ms : List Marked) (i : ℕ) → Rises ms → IsPlace x ms i → length ms ≤ i → at x ms ≡ None
is_past x ms i h place le = at_place x ms i h place.before place.behind ∙ ap (if_tied x) (nothing_past ms i le)
  where
    nothing_past : (ms : List Marked) (i : ℕ) → length ms ≤ i → slice_get ms i ≡ None
    nothing_past [] i le = refl
    nothing_past (m ∷ ms) zero le = absurd (omega arith)
    nothing_past (m ∷ ms) (suc i) le = nothing_past ms i (omega arith)

-- ---- slots stay slots

pub are_put : (m : Marked) (ms ns : List Marked) → AreSlots ms → ns ≡ put m ms → length ns ≤ 128 → AreSlots ns
are_put m ms ns are is few = record { rises = subst Rises (sym is) (rises_put m ms are.rises); few = few }

pub are_set : (m : Marked) (ms : List Marked) (i : ℕ) → AreSlots ms → IsPlace m.slot.name ms i → IsAt m.slot.name ms i → AreSlots (set ms i m)
are_set m ms i are place here = are_put m ms (set ms i m) are (sym (put_set m ms i place.before here)) (omega (arith, length-set ms i m, are.few))

pub are_insert : (m : Marked) (ms : List Marked) (i : ℕ) → AreSlots ms → IsPlace m.slot.name ms i → at m.slot.name ms ≡ None → HasRoom m.slot.name ms → AreSlots (insert ms i m)
are_insert m ms i are place none room =
    are_put m ms (insert ms i m) are (sym (put_insert m ms i place.before place.behind none))
    (omega (arith, length-insert ms i m place.within, room none))

above_unmarked : (x : Name) (ms : List Marked) → AllAbove x ms → AllAbove x (map unmarked ms)
above_unmarked x [] h = tt
above_unmarked x (m ∷ ms) h = (h.0, above_unmarked x ms h.1)

pub rises_unmarked : (ms : List Marked) → Rises ms → Rises (map unmarked ms)
rises_unmarked [] h = tt
rises_unmarked (m ∷ ms) h = (above_unmarked m.slot.name ms h.0, rises_unmarked ms h.1)

pub are_unmarked : (ms ns : List Marked) → AreSlots ms → ns ≡ map unmarked ms → AreSlots ns
are_unmarked ms ns are is = record { rises = subst Rises (sym is) (rises_unmarked ms are.rises); few = omega (arith, ap length is, length-map ms unmarked, are.few) }

-- a slice that was written over whole is the vector
pub written_over : (ms ns : List Marked) (len : ℕ) → len ≡ length ms → length ns ≡ length ms → take len (ns ++ drop (length ns) ms) ≡ ns
written_over ms ns len is same_len = take_at ns (drop (length ns) ms) len (same_len ∙ sym is)

none_of : (o : Option Marked) → false ≡ is_some o → o ≡ None
none_of None e = refl
none_of (Some m) e = absurd cc

-- a test that failed
pub none_there : (x : Name) (ks ms : List Marked) → ks ≡ ms → false ≡ is_some (at x ks) → at x ms ≡ None
none_there x ks ms same e = ap (at x) (sym same) ∙ none_of (at x ks) e
