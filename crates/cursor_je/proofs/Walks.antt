-- Records between edges: what the ends of a range are, and how it is walked.
use Rattle.std.proofs.Common.{◌≡◌, suc, ◌<◌, arith, map, length, List, [], ◌∷◌, ◌++◌, Bool, true, false, cond, not, ◌&&◌, filter, refl, ap, ap₂, sym, subst, ◌∙◌, Ordering, Less, Equal, Greater, is_eq}
use Rattle.std.specs.List.{AllByRecursion}
use Rattle.std.specs.List.Sorted.{IsStrictlySortedBy}
use Rattle.std.specs.Ordering.{on, ordering_reverse, is_ge}
use Rattle.std.proofs.lemmas.Bool.{and_parts}
use Rattle.std.proofs.lemmas.List.{append-nil}
use Rattle.std.proofs.lemmas.List.Kept.{IsStrictlySortedBy-filter}
use Rattle.je_order.specs.Order.{name_cmp}
use Rattle.je_order.specs.Edges.{Edge, is_below}
use Rattle.je_order.specs.Edges.Edge.{First, Behind, End}
use Rattle.je_order.specs.declared.name.Name.{Name}
use Rattle.je_order.proofs.Lists.{all_weaker, filter_all_pass}
use Rattle.store_model.specs.declared.kind.Kind.{Kind}
use Rattle.store_model.specs.Store.{Pair, name_of, HasRisingNames}
use Rattle.store_model.specs.Reads.{range, empty_range, just, is_within, last_of, taken_by, seen, at_name}
use Rattle.store_model.specs.Reads.Way.{Lowest, Highest, Each}
use Rattle.cursor_je.specs.declared.record_ref.RecordRef.{RecordRef}
use Rattle.cursor_je.specs.Looks.{pair_in}
use Rattle.store_model.proofs.StoreLaws.{names_total}
use Rattle.cursor_je.proofs.EdgeLaws.{stays_above, just_that, name_same}

-- ---- filters

keeps : {X : Type 0} (p : X → Bool) (x : X) (xs : List X) → p x ≡ true → filter p (x ∷ xs) ≡ x ∷ filter p xs
keeps p x xs is = ap (λ (b : Bool). cond b (x ∷ filter p xs) (filter p xs)) is

drops : {X : Type 0} (p : X → Bool) (x : X) (xs : List X) → p x ≡ false → filter p (x ∷ xs) ≡ filter p xs
drops p x xs is = ap (λ (b : Bool). cond b (x ∷ filter p xs) (filter p xs)) is

-- what passes two tests passes one and then the other
both : {X : Type 0} (p q : X → Bool) (xs : List X) → filter (λ x. p x && q x) xs ≡ filter q (filter p xs)
both p q [] = refl
both {X} p q (x ∷ xs) = by (p x) refl (both p q xs)
  where
    by : (b : Bool) → p x ≡ b → filter (λ x. p x && q x) xs ≡ filter q (filter p xs) → filter (λ x. p x && q x) (x ∷ xs) ≡ filter q (filter p (x ∷ xs))
    by true e rest =
        ap (λ (b : Bool). cond (b && q x) (x ∷ filter (λ x. p x && q x) xs) (filter (λ x. p x && q x) xs)) e
        ∙ ap (λ (l : List X). cond (q x) (x ∷ l) l) rest ∙ sym (ap (filter q) (keeps p x xs e))
    by false e rest =
        ap (λ (b : Bool). cond (b && q x) (x ∷ filter (λ x. p x && q x) xs) (filter (λ x. p x && q x) xs)) e
        ∙ rest ∙ sym (ap (filter q) (drops p x xs e))

-- tests that agree keep the same
pub same_kept : {X : Type 0} (p q : X → Bool) → ((x : X) → p x ≡ q x) → (xs : List X) → filter p xs ≡ filter q xs
same_kept p q h [] = refl
same_kept {X} p q h (x ∷ xs) = ap₂ (λ (b : Bool) (l : List X). cond b (x ∷ l) l) (h x) (same_kept p q h xs)

swapped : (a b : Bool) → (a && b) ≡ (b && a)
swapped true true = refl
swapped true false = refl
swapped false true = refl
swapped false false = refl

both_back : {X : Type 0} (p q : X → Bool) (xs : List X) → filter (λ x. p x && q x) xs ≡ filter p (filter q xs)
both_back p q xs = same_kept (λ x. p x && q x) (λ x. q x && p x) (λ x. swapped (p x) (q x)) xs ∙ both q p xs

none_kept : {X : Type 0} (p : X → Bool) (xs : List X) → AllByRecursion (λ x. p x ≡ false) xs → filter p xs ≡ []
none_kept p [] h = refl
none_kept p (x ∷ xs) h = drops p x xs h.0 ∙ none_kept p xs h.1

all_stay : {X : Type 0} (p : X → Bool) (xs : List X) → AllByRecursion (λ x. p x ≡ true) xs → filter p xs ≡ xs
all_stay p [] h = refl
all_stay p (x ∷ xs) h = keeps p x xs h.0 ∙ ap (λ (l : List _). x ∷ l) (all_stay p xs h.1)

-- ---- a test along rising records

-- a record that fails a test has no later one that passes it
abbrev FailsOn : (Pair → Name) → (Pair → Bool) → Type 0
FailsOn name p = (a b : Pair) → name_cmp (name a) (name b) ≡ Less → p a ≡ false → p b ≡ false

-- a record that passes a test has no later one that fails it
abbrev PassesOn : (Pair → Name) → (Pair → Bool) → Type 0
PassesOn name p = (a b : Pair) → name_cmp (name a) (name b) ≡ Less → p a ≡ true → p b ≡ true

first_first : (name : Pair → Name) (p : Pair → Bool) → FailsOn name p → (xs : List Pair) → IsStrictlySortedBy (on name name_cmp) xs →
    taken_by Lowest (filter p xs) ≡ filter p (taken_by Lowest xs)
unfolding IsStrictlySortedBy
first_first name p on_fails [] up = refl
first_first name p on_fails (x ∷ xs) up = by (p x) refl
  where
    by : (b : Bool) → p x ≡ b → taken_by Lowest (filter p (x ∷ xs)) ≡ filter p (x ∷ [])
    by true e = ap (taken_by Lowest) (keeps p x xs e) ∙ sym (keeps p x [] e)
    by false e =
        ap (taken_by Lowest) (drops p x xs e ∙ none_kept p xs (all_weaker (λ y. name_cmp (name x) (name y) ≡ Less) (λ y. p y ≡ false) (λ y less. on_fails x y less e) xs up.0))
        ∙ sym (drops p x [] e)

last_last : (name : Pair → Name) (p : Pair → Bool) → PassesOn name p → (xs : List Pair) → IsStrictlySortedBy (on name name_cmp) xs →
    last_of (filter p xs) ≡ filter p (last_of xs)
unfolding IsStrictlySortedBy
last_last name p on_passes [] up = refl
last_last name p on_passes (x ∷ []) up = by (p x) refl
  where
    by : (b : Bool) → p x ≡ b → last_of (filter p (x ∷ [])) ≡ filter p (x ∷ [])
    by true e = ap last_of (keeps p x [] e) ∙ sym (keeps p x [] e)
    by false e = ap last_of (drops p x [] e) ∙ sym (drops p x [] e)
last_last name p on_passes (x ∷ y ∷ ys) up = by (p x) refl (last_last name p on_passes (y ∷ ys) up.1)
  where
    by : (b : Bool) → p x ≡ b → last_of (filter p (y ∷ ys)) ≡ filter p (last_of (y ∷ ys)) → last_of (filter p (x ∷ y ∷ ys)) ≡ filter p (last_of (y ∷ ys))
    by true e rest =
        let f = keeps p y ys (on_passes x y up.0.0 e) in
        ap last_of (keeps p x (y ∷ ys) e) ∙ ap (λ (l : List Pair). last_of (x ∷ l)) f ∙ sym (ap last_of f) ∙ rest
    by false e rest = ap last_of (drops p x (y ∷ ys) e) ∙ rest

-- ---- ends of a range

below_fails : (kind : Kind) (edge : Edge) → FailsOn (name_of kind) (λ p. is_below edge (name_of kind p))
below_fails kind edge a b less h = stays_above edge (name_of kind a) (name_of kind b) less h

not_true : (b : Bool) → not b ≡ true → b ≡ false
not_true true h = cc
not_true false h = refl

above_passes : (kind : Kind) (edge : Edge) → PassesOn (name_of kind) (λ p. not (is_below edge (name_of kind p)))
above_passes kind edge a b less h = ap not (stays_above edge (name_of kind a) (name_of kind b) less (not_true (is_below edge (name_of kind a)) h))

and_true : (b : Bool) → (b && true) ≡ b
and_true true = refl
and_true false = refl

-- the first record of a range is the first one from its lower edge, if that is in it
pub lowest_is : (kind : Kind) (from upto : Edge) (pairs : List Pair) → HasRisingNames kind pairs →
    seen kind Lowest (range from upto) pairs ≡ filter (λ p. is_below upto (name_of kind p)) (seen kind Lowest (range from End) pairs)
lowest_is kind from upto pairs up =
    let above : Pair → Bool = λ p. not (is_below from (name_of kind p)) in
    let below : Pair → Bool = λ p. is_below upto (name_of kind p) in
    ap (taken_by Lowest) (both above below pairs)
    ∙ first_first (name_of kind) below (below_fails kind upto) (filter above pairs) (IsStrictlySortedBy-filter (on (name_of kind) name_cmp) above pairs up)
    ∙ ap (λ (l : List Pair). filter below (taken_by Lowest l)) (sym (same_kept (λ p. above p && true) above (λ p. and_true (above p)) pairs))

-- the last record of a range is the last one below its upper edge, if that is in it
pub highest_is : (kind : Kind) (from upto : Edge) (pairs : List Pair) → HasRisingNames kind pairs →
    seen kind Highest (range from upto) pairs ≡ filter (λ p. not (is_below from (name_of kind p))) (seen kind Highest (range First upto) pairs)
highest_is kind from upto pairs up =
    let above : Pair → Bool = λ p. not (is_below from (name_of kind p)) in
    let below : Pair → Bool = λ p. is_below upto (name_of kind p) in
    ap last_of (both_back above below pairs)
    ∙ last_last (name_of kind) above (above_passes kind from) (filter below pairs) (IsStrictlySortedBy-filter (on (name_of kind) name_cmp) below pairs up)

-- ---- one name

eq_less : (x y n : Name) → name_cmp x y ≡ Less → is_eq (name_cmp x n) ≡ true → is_eq (name_cmp y n) ≡ false
eq_less x y n less h = by (name_cmp x n) refl h
  where
    by : (o : Ordering) → name_cmp x n ≡ o → is_eq o ≡ true → is_eq (name_cmp y n) ≡ false
    by Less e t = cc
    by Greater e t = cc
    by Equal e t = ap is_eq (names_total.antisymm y n ∙ ap ordering_reverse (sym (names_total.congr x n y e) ∙ less))

pub one_named : (kind : Kind) (n : Name) (xs : List Pair) → HasRisingNames kind xs → taken_by Lowest (at_name kind n xs) ≡ at_name kind n xs
unfolding IsStrictlySortedBy
one_named kind n [] up = refl
one_named kind n (x ∷ xs) up = by (is_eq (name_cmp (name_of kind x) n)) refl (one_named kind n xs up.1)
  where
    by : (b : Bool) → is_eq (name_cmp (name_of kind x) n) ≡ b → taken_by Lowest (at_name kind n xs) ≡ at_name kind n xs → taken_by Lowest (at_name kind n (x ∷ xs)) ≡ at_name kind n (x ∷ xs)
    by true e more =
        let none = none_kept (λ p. is_eq (name_cmp (name_of kind p) n)) xs (all_weaker (λ y. name_cmp (name_of kind x) (name_of kind y) ≡ Less) (λ y. is_eq (name_cmp (name_of kind y) n) ≡ false) (λ y less. eq_less (name_of kind x) (name_of kind y) n less e) xs up.0) in
        let whole = keeps (λ p. is_eq (name_cmp (name_of kind p) n)) x xs e ∙ ap (λ (l : List Pair). x ∷ l) none in
        ap (taken_by Lowest) whole ∙ sym whole
    by false e more =
        let rest = drops (λ p. is_eq (name_cmp (name_of kind p) n)) x xs e in
        ap (taken_by Lowest) rest ∙ more ∙ sym rest

-- the record of a name is the first of that name
pub just_is : (kind : Kind) (n : Name) (pairs : List Pair) → HasRisingNames kind pairs → seen kind Lowest (just n) pairs ≡ at_name kind n pairs
just_is kind n pairs up =
    ap (taken_by Lowest) (same_kept (λ p. is_within (just n) (name_of kind p)) (λ p. is_eq (name_cmp (name_of kind p) n)) (λ p. just_that n (name_of kind p)) pairs)
    ∙ one_named kind n pairs up

-- ---- what a look takes

-- a look nowhere takes nothing
pub nowhere : (kind : Kind) (pairs : List Pair) → [] ≡ seen kind Each empty_range pairs
nowhere kind [] = refl
nowhere kind (p ∷ pairs) = nowhere kind pairs

-- of what was found from one edge, what the other one leaves
pub lowest_kept : (kind k : Kind) (from upto : Edge) (pairs taken kept : List Pair) → HasRisingNames kind pairs → k ≡ kind →
    taken ≡ seen kind Lowest (range from End) pairs → kept ≡ filter (λ p. is_below upto (name_of k p)) taken → kept ≡ seen kind Lowest (range from upto) pairs
lowest_kept kind k from upto pairs taken kept up same is left =
    left ∙ ap (λ (k : Kind). filter (λ p. is_below upto (name_of k p)) taken) same
    ∙ ap (filter (λ p. is_below upto (name_of kind p))) is ∙ sym (lowest_is kind from upto pairs up)

pub highest_kept : (kind k : Kind) (from upto : Edge) (pairs taken kept : List Pair) → HasRisingNames kind pairs → k ≡ kind →
    taken ≡ seen kind Highest (range First upto) pairs → kept ≡ filter (λ p. not (is_below from (name_of k p))) taken → kept ≡ seen kind Highest (range from upto) pairs
highest_kept kind k from upto pairs taken kept up same is left =
    left ∙ ap (λ (k : Kind). filter (λ p. not (is_below from (name_of k p))) taken) same
    ∙ ap (filter (λ p. not (is_below from (name_of kind p)))) is ∙ sym (highest_is kind from upto pairs up)

-- ---- a walk

-- the records between two edges
abbrev between : Kind → Edge → Edge → List Pair → List Pair
between kind from upto pairs = filter (λ p. is_within (range from upto) (name_of kind p)) pairs

head_of : (xs : List Pair) (p : Pair) → p ∷ [] ≡ taken_by Lowest xs → (ys : List Pair) × (xs ≡ p ∷ ys)
head_of [] p is = absurd cc
head_of (x ∷ xs) p is = (xs, ap (λ (q : Pair). q ∷ xs) cc)

none_of : (xs : List Pair) → [] ≡ taken_by Lowest xs → xs ≡ []
none_of [] is = refl
none_of (x ∷ xs) is = absurd cc

less_of : (o : Ordering) → not (is_ge o) ≡ true → o ≡ Less
less_of Less h = refl
less_of Equal h = cc
less_of Greater h = cc

-- behind a record that is not below an edge there is no record below it
agrees : (a b c : Bool) → (a ≡ true → b ≡ true) → (a && c) ≡ (a && (b && c))
agrees true b c h = sym (ap (λ (t : Bool). t && c) (h refl))
agrees false b c h = refl

behind_one : (kind : Kind) (from upto : Edge) (pairs ys : List Pair) (p : Pair) → HasRisingNames kind pairs → between kind from upto pairs ≡ p ∷ ys →
    between kind (Behind (name_of kind p)) upto pairs ≡ ys
unfolding IsStrictlySortedBy
behind_one kind from upto pairs ys p up is =
    let name : Pair → Name = name_of kind in
    let above : Pair → Bool = λ q. not (is_below from (name q)) in
    let below : Pair → Bool = λ q. is_below upto (name q) in
    let behind : Pair → Bool = λ q. not (is_below (Behind (name p)) (name q)) in
    let inside : Pair → Bool = λ q. above q && below q in
    let sorted : IsStrictlySortedBy (on name name_cmp) (p ∷ ys) = subst (IsStrictlySortedBy (on name name_cmp)) is (IsStrictlySortedBy-filter (on name name_cmp) inside pairs up) in
    let passes : AllByRecursion (λ q. inside q ≡ true) (p ∷ ys) = subst (AllByRecursion (λ q. inside q ≡ true)) is (filter_all_pass inside pairs) in
    let from_it : is_below from (name p) ≡ false = not_true (is_below from (name p)) (and_parts (above p) (below p) passes.0).0 in
    let later : (q : Pair) → behind q ≡ true → above q ≡ true = λ q h. ap not (stays_above from (name p) (name q) (less_of (name_cmp (name p) (name q)) h) from_it) in
    same_kept (λ q. behind q && below q) (λ q. behind q && inside q) (λ q. agrees (behind q) (above q) (below q) (later q)) pairs
    ∙ both_back behind inside pairs ∙ ap (filter behind) is
    ∙ drops behind p ys (ap (λ (o : Ordering). not (is_ge o)) (name_same (name p)))
    ∙ all_stay behind ys (all_weaker (λ q. name_cmp (name p) (name q) ≡ Less) (λ q. behind q ≡ true) (λ q less. ap (λ (o : Ordering). not (is_ge o)) less) ys sorted.0)

-- the records from an edge on are the first one and those behind it
step : (kind : Kind) (from upto : Edge) (pairs : List Pair) (p : Pair) → HasRisingNames kind pairs → p ∷ [] ≡ seen kind Lowest (range from upto) pairs →
    between kind from upto pairs ≡ p ∷ between kind (Behind (name_of kind p)) upto pairs
step kind from upto pairs p up is =
    let h = head_of (between kind from upto pairs) p is in
    h.1 ∙ ap (λ (ys : List Pair). p ∷ ys) (sym (behind_one kind from upto pairs h.0 p up h.1))

pushed : (xs : List RecordRef) (x : RecordRef) (ys : List Pair) → map pair_in (xs ++ x ∷ []) ++ ys ≡ map pair_in xs ++ pair_in x ∷ ys
pushed [] x ys = refl
pushed (y ∷ xs) x ys = ap (λ (l : List Pair). pair_in y ∷ l) (pushed xs x ys)

-- the edge behind the record that was found
behind_found : (kind k : Kind) (name : Name) (p : Pair) → k ≡ kind → name ≡ name_of k p → Behind name ≡ Behind (name_of kind p)
behind_found kind k name p same is = ap Behind (is ∙ ap (λ (k : Kind). name_of k p) same)

-- a walk that found a record goes on behind it
pub walk_on : (kind k : Kind) (from upto : Edge) (pairs start : List Pair) (items next : List RecordRef) (found : RecordRef) (name : Name) →
    HasRisingNames kind pairs → k ≡ kind → pair_in found ∷ [] ≡ seen kind Lowest (range from upto) pairs → name ≡ name_of k (pair_in found) →
    next ≡ items ++ found ∷ [] → map pair_in items ++ between kind from upto pairs ≡ start →
    map pair_in next ++ between kind (Behind name) upto pairs ≡ start
walk_on kind k from upto pairs start items next found name up same is named grown so =
    ap (λ (l : List RecordRef). map pair_in l ++ between kind (Behind name) upto pairs) grown
    ∙ pushed items found (between kind (Behind name) upto pairs)
    ∙ ap (λ (e : Edge). map pair_in items ++ pair_in found ∷ between kind e upto pairs) (behind_found kind k name (pair_in found) same named)
    ∙ ap (λ (l : List Pair). map pair_in items ++ l) (sym (step kind from upto pairs (pair_in found) up is)) ∙ so

-- and has less before it
pub walk_less : (kind k : Kind) (from upto : Edge) (pairs : List Pair) (found : RecordRef) (name : Name) →
    HasRisingNames kind pairs → k ≡ kind → pair_in found ∷ [] ≡ seen kind Lowest (range from upto) pairs → name ≡ name_of k (pair_in found) →
    length (between kind (Behind name) upto pairs) < length (between kind from upto pairs)
walk_less kind k from upto pairs found name up same is named =
    let longer : length (between kind from upto pairs) ≡ suc (length (between kind (Behind name) upto pairs)) =
    ap length (step kind from upto pairs (pair_in found) up is)
    ∙ ap (λ (e : Edge). suc (length (between kind e upto pairs))) (sym (behind_found kind k name (pair_in found) same named)) in
    omega (arith, longer)

-- a walk that found nothing has all
pub walk_done : (kind : Kind) (from upto : Edge) (pairs start : List Pair) (items : List RecordRef) →
    [] ≡ seen kind Lowest (range from upto) pairs → map pair_in items ++ between kind from upto pairs ≡ start → map pair_in items ≡ start
walk_done kind from upto pairs start items is so =
    sym (ap (λ (l : List Pair). map pair_in items ++ l) (none_of (between kind from upto pairs) is) ∙ append-nil (map pair_in items)) ∙ so

-- ---- the first of what is seen

-- a put that looks nowhere sees nothing
pub nothing_put : (kind : Kind) (pairs : List Pair) → [] ≡ taken_by Lowest (seen kind Each empty_range pairs)
nothing_put kind pairs = ap (taken_by Lowest) (nowhere kind pairs)

-- ---- counts

pub none_seen : (kind : Kind) (pairs : List Pair) → 0 ≡ length (seen kind Each empty_range pairs)
none_seen kind pairs = ap length (nowhere kind pairs)
