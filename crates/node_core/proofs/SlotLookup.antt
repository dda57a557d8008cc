-- What is found by names among slots in the order of their names, and what each change leaves.
use Rattle.std.proofs.Common.{◌≡◌, ℕ, zero, suc, Bool, true, false, cond, not, List, [], ◌∷◌, ◌++◌, Option, Some, None, Less, Equal, Greater, is_eq, is_lt, refl, sym, ap, subst, ◌∙◌}
use Rattle.std.specs.Prelude.{filter}
use Rattle.std.specs.Ordering.{match_ordering}
use Rattle.je_order.specs.declared.name.Name.{Name}
use Rattle.je_order.specs.Order.{name_cmp}
use Rattle.node_core.specs.declared.slot.Marked.{Marked}
use Rattle.node_core.specs.Sorted.{AllAbove, Rises, at, put, put_all, below, above}
use Rattle.node_core.proofs.NameOrder.{total, same, itself, turned, joined, test_again, tests_turned}
use Rattle.je_order.proofs.Orderings.{equal_from_test}

abbrev tied : Name → Marked → Bool
tied x m = is_eq (name_cmp x m.slot.name)

-- ---- names above

pub above_below : (x y : Name) (ms : List Marked) → name_cmp x y ≡ Less → AllAbove y ms → AllAbove x ms
above_below x y [] lt h = tt
above_below x y (m ∷ ms) lt h = (total.trans x y m.slot.name lt h.0, above_below x y ms lt h.1)

pub above_filter : (x : Name) (p : Marked → Bool) (ms : List Marked) → AllAbove x ms → AllAbove x (filter p ms)
above_filter x p [] h = tt
above_filter x p (m ∷ ms) h =
    elim (p m) as (λ b. AllAbove x (cond b (m ∷ filter p ms) (filter p ms))) [ true ↦ (h.0, above_filter x p ms h.1) | false ↦ above_filter x p ms h.1 ]

pub rises_filter : (p : Marked → Bool) (ms : List Marked) → Rises ms → Rises (filter p ms)
rises_filter p [] h = tt
rises_filter p (m ∷ ms) h =
    elim (p m) as (λ b. Rises (cond b (m ∷ filter p ms) (filter p ms))) [ true ↦ (above_filter m.slot.name p ms h.0, rises_filter p ms h.1) | false ↦ rises_filter p ms h.1 ]

above_put : (x : Name) (m : Marked) (ms : List Marked) → name_cmp x m.slot.name ≡ Less → AllAbove x ms → AllAbove x (put m ms)
above_put x m [] lt h = (lt, tt)
above_put x m (n ∷ ms) lt h =
    elim (name_cmp m.slot.name n.slot.name) as (λ o. AllAbove x (match_ordering o (m ∷ n ∷ ms) (m ∷ ms) (n ∷ put m ms))) [
      | Less ↦ (lt, h)
      | Equal ↦ (lt, h.1)
      | Greater ↦ (h.0, above_put x m ms lt h.1)
    ]

above_same : (x y : Name) (ms : List Marked) → name_cmp x y ≡ Equal → AllAbove y ms → AllAbove x ms
above_same x y ms e h = subst (λ (z : Name). AllAbove z ms) (sym (same x y e)) h

pub rises_put : (m : Marked) (ms : List Marked) → Rises ms → Rises (put m ms)
rises_put m [] h = (tt, tt)
rises_put m (n ∷ ms) h =
    elim (name_cmp m.slot.name n.slot.name) as (λ o. name_cmp m.slot.name n.slot.name ≡ o → Rises (match_ordering o (m ∷ n ∷ ms) (m ∷ ms) (n ∷ put m ms))) [
      | Less ↦ λ e. ((e, above_below m.slot.name n.slot.name ms e h.0), h)
      | Equal ↦ λ e. (above_same m.slot.name n.slot.name ms e h.0, h.1)
      | Greater ↦ λ e. (above_put n.slot.name m ms (turned m.slot.name n.slot.name Greater e) h.0, rises_put m ms h.1)
    ] refl

pub rises_put_all : (ns ms : List Marked) → Rises ms → Rises (put_all ns ms)
rises_put_all [] ms h = h
rises_put_all (n ∷ ns) ms h = rises_put_all ns (put n ms) (rises_put n ms h)

-- ---- what is found

pub at_above : (x : Name) (ms : List Marked) → AllAbove x ms → at x ms ≡ None
at_above x [] h = refl
at_above x (m ∷ ms) h = ap (λ o. cond (is_eq o) (Some m) (at x ms)) h.0 ∙ at_above x ms h.1

-- what is found by a name has it
pub at_name : (x : Name) (ms : List Marked) (m : Marked) → at x ms ≡ Some m → name_cmp x m.slot.name ≡ Equal
at_name x [] m e = absurd cc
at_name x (n ∷ ms) m e =
    elim (tied x n) as (λ b. tied x n ≡ b → cond b (Some n) (at x ms) ≡ Some m → name_cmp x m.slot.name ≡ Equal) [
      | true ↦ λ t f. let is : n ≡ m = cc in subst (λ (k : Marked). name_cmp x k.slot.name ≡ Equal) is (equal_from_test _ t)
      | false ↦ λ t f. at_name x ms m f
    ] refl e

pub at_put : (x : Name) (m : Marked) (ms : List Marked) → at x (put m ms) ≡ cond (tied x m) (Some m) (at x ms)
at_put x m [] = refl
at_put x m (n ∷ ms) =
    elim (name_cmp m.slot.name n.slot.name) as (λ o. name_cmp m.slot.name n.slot.name ≡ o → at x (match_ordering o (m ∷ n ∷ ms) (m ∷ ms) (n ∷ put m ms)) ≡ cond (tied x m) (Some m) (at x (n ∷ ms))) [
      | Less ↦ λ e. refl
      | Equal ↦ λ e. test_again (tied x m) (tied x n) (Some m) (Some n) (at x ms) (ap (λ (y : Name). is_eq (name_cmp x y)) (sym (same m.slot.name n.slot.name e)))
      | Greater ↦ λ e. ap (cond (tied x n) (Some n)) (at_put x m ms)
          ∙ tests_turned (tied x n) (tied x m) (Some n) (Some m) (at x ms) (λ a b. let tie : name_cmp m.slot.name n.slot.name ≡ Equal = joined x m.slot.name n.slot.name b a in cc)
    ] refl

abbrev pub keep : (Marked → Bool) → Option Marked → Option Marked
keep p None = None
keep p (Some m) = cond (p m) (Some m) None

pub at_filter : (x : Name) (p : Marked → Bool) (ms : List Marked) → Rises ms → at x (filter p ms) ≡ keep p (at x ms)
at_filter x p [] h = refl
at_filter x p (m ∷ ms) h =
    elim (tied x m) as (λ t. tied x m ≡ t → at x (cond (p m) (m ∷ filter p ms) (filter p ms)) ≡ keep p (cond t (Some m) (at x ms))) [
      | true ↦ λ t. elim (p m) as (λ b. at x (cond b (m ∷ filter p ms) (filter p ms)) ≡ cond b (Some m) None) [
        | true ↦ ap (λ b. cond b (Some m) (at x (filter p ms))) t
        | false ↦ at_above x (filter p ms) (above_filter x p ms (above_same x m.slot.name ms (equal_from_test _ t) h.0))
      ]
      | false ↦ λ t. elim (p m) as (λ b. at x (cond b (m ∷ filter p ms) (filter p ms)) ≡ keep p (at x ms)) [
        | true ↦ ap (λ b. cond b (Some m) (at x (filter p ms))) t ∙ at_filter x p ms h.1
        | false ↦ at_filter x p ms h.1
      ]
    ] refl

abbrev pub or_else : Option Marked → Option Marked → Option Marked
or_else None o = o
or_else (Some m) o = Some m

or_put : (b : Bool) (n : Marked) (f g : Option Marked) → (b ≡ true → f ≡ None) → or_else f (cond b (Some n) g) ≡ or_else (cond b (Some n) f) g
or_put true n f g none = ap (λ (o : Option Marked). or_else o (Some n)) (none refl)
or_put false n f g none = refl

-- of what is put in and what was there, the former is found
pub at_put_all : (x : Name) (ns ms : List Marked) → Rises ns → at x (put_all ns ms) ≡ or_else (at x ns) (at x ms)
at_put_all x [] ms h = refl
at_put_all x (n ∷ ns) ms h =
    at_put_all x ns (put n ms) h.1 ∙ ap (or_else (at x ns)) (at_put x n ms)
    ∙ or_put (tied x n) n (at x ns) (at x ms) (λ t. at_above x ns (above_same x n.slot.name ns (equal_from_test _ t) h.0))

-- ---- the same by every name is the same

first_at : (m : Marked) (ms : List Marked) → at m.slot.name (m ∷ ms) ≡ Some m
first_at m ms = ap (λ o. cond (is_eq o) (Some m) (at m.slot.name ms)) (itself m.slot.name)

missed : (m n : Marked) (ms ns : List Marked) → AllAbove n.slot.name ns → name_cmp m.slot.name n.slot.name ≡ Less → at m.slot.name (m ∷ ms) ≡ at m.slot.name (n ∷ ns) → ⊥
missed m n ms ns h lt is =
    let some : at m.slot.name (m ∷ ms) ≡ Some m = first_at m ms in
    let none : at m.slot.name (n ∷ ns) ≡ None = at_above m.slot.name (n ∷ ns) (lt, above_below m.slot.name n.slot.name ns lt h) in cc

tails : (x : Name) (m n : Marked) (ms ns : List Marked) → m ≡ n → AllAbove m.slot.name ms → AllAbove n.slot.name ns → at x (m ∷ ms) ≡ at x (n ∷ ns) → at x ms ≡ at x ns
tails x m n ms ns is g h same_here =
    elim (tied x m) as (λ b. tied x m ≡ b → cond b (Some m) (at x ms) ≡ cond b (Some n) (at x ns) → at x ms ≡ at x ns) [
      | true ↦ λ t e. at_above x ms (above_same x m.slot.name ms (equal_from_test _ t) g)
          ∙ sym (at_above x ns (above_same x n.slot.name ns (subst (λ (k : Marked). name_cmp x k.slot.name ≡ Equal) is (equal_from_test _ t)) h))
      | false ↦ λ t e. e
    ] refl (subst (λ (k : Marked). at x (m ∷ ms) ≡ cond (tied x k) (Some n) (at x ns)) (sym is) same_here)

pub same_lists : (ms ns : List Marked) → Rises ms → Rises ns → ((x : Name) → at x ms ≡ at x ns) → ms ≡ ns
same_lists [] [] g h is = refl
same_lists [] (n ∷ ns) g h is = let some : at n.slot.name (n ∷ ns) ≡ Some n = first_at n ns in let none : None ≡ at n.slot.name (n ∷ ns) = is n.slot.name in absurd cc
same_lists (m ∷ ms) [] g h is = let some : at m.slot.name (m ∷ ms) ≡ Some m = first_at m ms in let none : at m.slot.name (m ∷ ms) ≡ None = is m.slot.name in absurd cc
same_lists (m ∷ ms) (n ∷ ns) g h is =
    elim (name_cmp m.slot.name n.slot.name) as (λ o. name_cmp m.slot.name n.slot.name ≡ o → m ∷ ms ≡ n ∷ ns) [
      | Less ↦ λ e. absurd (missed m n ms ns h.0 e (is m.slot.name))
      | Greater ↦ λ e. absurd (missed n m ns ms g.0 (turned m.slot.name n.slot.name Greater e) (sym (is n.slot.name)))
      | Equal ↦ λ e.
          let here : at m.slot.name (n ∷ ns) ≡ Some n = ap (λ o. cond (is_eq o) (Some n) (at m.slot.name ns)) e in
          let both : Some m ≡ Some n = sym (first_at m ms) ∙ is m.slot.name ∙ here in
          let first : m ≡ n = cc in
          let rest = same_lists ms ns g.1 h.1 (λ x. tails x m n ms ns first g.0 h.0 (is x)) in
          ap (λ (k : Marked). k ∷ ms) first ∙ ap (λ (ks : List Marked). n ∷ ks) rest
    ] refl

-- ---- removal, and the parts around a name

below_none : (x : Name) (ms : List Marked) → AllAbove x ms → below x ms ≡ []
below_none x [] h = refl
below_none x (m ∷ ms) h = ap (λ o. cond (is_lt o) (m ∷ below x ms) (below x ms)) (turned x m.slot.name Less h.0) ∙ below_none x ms h.1

above_all : (x : Name) (ms : List Marked) → AllAbove x ms → above x ms ≡ ms
above_all x [] h = refl
above_all x (m ∷ ms) h = ap (λ o. cond (is_lt o) (m ∷ above x ms) (above x ms)) h.0 ∙ ap (λ (ks : List Marked). m ∷ ks) (above_all x ms h.1)

in_place_by : (m n : Marked) (ms ls hs : List Marked) (a b : Bool) → is_lt (name_cmp n.slot.name m.slot.name) ≡ a → is_lt (name_cmp m.slot.name n.slot.name) ≡ b → cond a (n ∷ below m.slot.name ms) (below m.slot.name ms) ≡ ls → cond b (n ∷ above m.slot.name ms) (above m.slot.name ms) ≡ hs
    → below m.slot.name (n ∷ ms) ++ m ∷ above m.slot.name (n ∷ ms) ≡ ls ++ m ∷ hs
in_place_by m n ms ls hs a b is_a is_b is_l is_h =
    let first : below m.slot.name (n ∷ ms) ≡ ls = ap (λ c. cond c (n ∷ below m.slot.name ms) (below m.slot.name ms)) is_a ∙ is_l in
    let last : above m.slot.name (n ∷ ms) ≡ hs = ap (λ c. cond c (n ∷ above m.slot.name ms) (above m.slot.name ms)) is_b ∙ is_h in
    ap (λ (ks : List Marked). ks ++ m ∷ above m.slot.name (n ∷ ms)) first ∙ ap (λ (ks : List Marked). ls ++ m ∷ ks) last

pub put_in_place : (m : Marked) (ms : List Marked) → Rises ms → put m ms ≡ below m.slot.name ms ++ m ∷ above m.slot.name ms
put_in_place m [] h = refl
put_in_place m (n ∷ ms) h =
    elim (name_cmp m.slot.name n.slot.name) as (λ o. name_cmp m.slot.name n.slot.name ≡ o → match_ordering o (m ∷ n ∷ ms) (m ∷ ms) (n ∷ put m ms) ≡ below m.slot.name (n ∷ ms) ++ m ∷ above m.slot.name (n ∷ ms)) [
      | Less ↦ λ e. let up = above_below m.slot.name n.slot.name ms e h.0 in
          sym (in_place_by m n ms [] (n ∷ ms) false true (ap is_lt (turned m.slot.name n.slot.name Less e)) (ap is_lt e) (below_none m.slot.name ms up) (ap (λ (ks : List Marked). n ∷ ks) (above_all m.slot.name ms up)))
      | Equal ↦ λ e. let up = above_same m.slot.name n.slot.name ms e h.0 in
          sym (in_place_by m n ms [] ms false false (ap is_lt (turned m.slot.name n.slot.name Equal e)) (ap is_lt e) (below_none m.slot.name ms up) (above_all m.slot.name ms up))
      | Greater ↦ λ e.
          ap (λ (ks : List Marked). n ∷ ks) (put_in_place m ms h.1)
          ∙ sym (in_place_by m n ms (n ∷ below m.slot.name ms) (above m.slot.name ms) true false (ap is_lt (turned m.slot.name n.slot.name Greater e)) (ap is_lt e) refl refl)
    ] refl
