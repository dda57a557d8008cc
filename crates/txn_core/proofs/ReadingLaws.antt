-- Searches among committed records, and walks over them.
use Rattle.std.proofs.Common.{◌≡◌, ◌⊎◌, ℕ, ◌+◌, ◌<◌, List, [], ◌∷◌, ◌++◌, Bool, true, false, cond, not, ◌&&◌, Option, None, Some, is_some, filter, count_by, length, refl, ap, sym, subst, ◌∙◌, arith, inl, inr, Less, Greater, is_eq}
use Rattle.std.specs.List.{AllByRecursion, list_all}
use Rattle.std.specs.List.Sorted.{IsStrictlySortedBy}
use Rattle.std.specs.Map.{keys_of}
use Rattle.std.specs.Ordering.{is_gt, is_ge, ordering_reverse}
use Rattle.std.proofs.lemmas.List.{append-nil, length-append}
use Rattle.std.proofs.lemmas.List.Recursion.{is_count_by}
use Rattle.std.proofs.lemmas.Option.{none-some, same_Some}
use Rattle.je_order.specs.Order.{name_cmp}
use Rattle.je_order.specs.declared.name.Name.{Name}
use Rattle.je_order.specs.Edges.{Edge, is_below, is_between}
use Rattle.je_order.specs.Edges.Edge.{First, At, Behind, End}
use Rattle.cursor_je.proofs.EdgeLaws.{stays_above}
use Rattle.record_map.specs.Held.{names_are_ordered}
use Rattle.record_map.specs.Cells.{value_at, IsRising, first_of, last_of, from_edge, below_edge}
use Rattle.record_map.proofs.EdgeLaws.{last_is}
use Rattle.record_map.proofs.NameLaws.{same_or_other, name_same, other_stays}
use Rattle.record_tree.specs.Occupied.{Occupied, value_in}
use Rattle.log_replay.specs.Rows.{Row, data_at}
use Rattle.log_replay.proofs.MapRows.{lookup_is_data}
use Rattle.txn_core.specs.Known.{with_row, committed_rows}

-- ---- orders

flipped : (a b : Name) → name_cmp a b ≡ Less → name_cmp b a ≡ Greater
flipped a b h = names_are_ordered.antisymm b a ∙ ap ordering_reverse h

below_all : (q y : Name) (names : List Name) → name_cmp q y ≡ Less → AllByRecursion (λ z. name_cmp y z ≡ Less) names → AllByRecursion (λ z. name_cmp q z ≡ Less) names
below_all q y [] less all = tt
below_all q y (z ∷ names) less all = (names_are_ordered.trans q y z less all.0, below_all q y names less all.1)

none_behind : {V : Type 0} (x : Name) (l : List (Name × V)) → AllByRecursion (λ y. name_cmp x y ≡ Less) (keys_of l) → value_at x l ≡ None
none_behind x [] all = refl
none_behind x (e ∷ l) all = other_stays x e.0 (Some e.1) (value_at x l) (ap is_eq all.0) ∙ none_behind x l all.1

-- ---- steps of a walk

-- what stands behind a name is kept by an edge that keeps the name, and by the edge behind it
kept_above : {V : Type 0} (edge : Edge) (n : Name) (l : List (Name × V)) → is_below edge n ≡ false → AllByRecursion (λ y. name_cmp n y ≡ Less) (keys_of l) → from_edge edge l ≡ l
kept_above edge n [] from all = refl
kept_above {V} edge n (e ∷ l) from all =
    ap (λ (b : Bool). cond (not b && true) (e ∷ from_edge edge l) (from_edge edge l)) (stays_above edge n e.0 all.0 from)
    ∙ ap (λ (m : List (Name × V)). e ∷ m) (kept_above edge n l from all.1)

behind_itself : (n : Name) → is_below (Behind n) n ≡ true
behind_itself n = ap is_ge (name_same n)

at_itself : (n : Name) → is_below (At n) n ≡ false
at_itself n = ap is_gt (name_same n)

-- a name behind another one is not below the edge behind that
not_behind : (n : Name) (e : Name) → name_cmp n e ≡ Less → is_below (Behind n) e ≡ false
not_behind n e less = ap is_ge less

dropped : {V : Type 0} (edge : Edge) (e : Name × V) (l : List (Name × V)) → is_below edge e.0 ≡ true → from_edge edge (e ∷ l) ≡ from_edge edge l
dropped edge e l below = ap (λ (b : Bool). cond (not b && true) (e ∷ from_edge edge l) (from_edge edge l)) below

taken : {V : Type 0} (edge : Edge) (e : Name × V) (l : List (Name × V)) → is_below edge e.0 ≡ false → from_edge edge (e ∷ l) ≡ e ∷ from_edge edge l
taken edge e l above = ap (λ (b : Bool). cond (not b && true) (e ∷ from_edge edge l) (from_edge edge l)) above

all_behind : {V : Type 0} (e : Name × V) (l : List (Name × V)) → AllByRecursion (λ y. name_cmp e.0 y ≡ Less) (keys_of l) → from_edge (Behind e.0) l ≡ l
all_behind e [] all = refl
all_behind {V} e (f ∷ l) all = taken (Behind e.0) f l (not_behind e.0 f.0 all.0) ∙ ap (λ (m : List (Name × V)). f ∷ m) (all_behind e l all.1)

-- the first one from an edge on is behind a name that all are behind
first_behind : {V : Type 0} (n : Name) (edge : Edge) (e : Name × V) (l : List (Name × V)) → AllByRecursion (λ y. name_cmp n y ≡ Less) (keys_of l) → Some e ≡ first_of (from_edge edge l) → name_cmp n e.0 ≡ Less
first_behind n edge e [] all is = absurd (none-some e (sym is))
first_behind n edge e (f ∷ l) all is = by_test (is_below edge f.0) refl (λ later. first_behind n edge e l all.1 later)
  where
    by_test : (b : Bool) → is_below edge f.0 ≡ b → (Some e ≡ first_of (from_edge edge l) → name_cmp n e.0 ≡ Less) → name_cmp n e.0 ≡ Less
    by_test true below rest = rest (is ∙ ap first_of (dropped edge f l below))
    by_test false above rest =
        let same = same_Some e f (is ∙ ap first_of (taken edge f l above)) in
        ap (λ x. name_cmp n x.0) same ∙ all.0

-- from an edge on: the first one, and those behind it
pub step_from : {V : Type 0} (edge : Edge) (e : Name × V) (l : List (Name × V)) → IsRising l → Some e ≡ first_of (from_edge edge l) → from_edge edge l ≡ e ∷ from_edge (Behind e.0) l
unfolding IsStrictlySortedBy
step_from edge e [] up is = absurd (none-some e (sym is))
step_from {V} edge e (f ∷ l) up is = by_test (is_below edge f.0) refl (λ first. step_from edge e l up.1 first)
  where
    by_test : (b : Bool) → is_below edge f.0 ≡ b → (Some e ≡ first_of (from_edge edge l) → from_edge edge l ≡ e ∷ from_edge (Behind e.0) l) → from_edge edge (f ∷ l) ≡ e ∷ from_edge (Behind e.0) (f ∷ l)
    by_test true below rest =
        let first = is ∙ ap first_of (dropped edge f l below) in
        let less = first_behind f.0 edge e l up.0 first in
        dropped edge f l below ∙ rest first
        ∙ ap (λ (m : List (Name × V)). e ∷ m) (sym (dropped (Behind e.0) f l (ap is_ge (flipped f.0 e.0 less))))
    by_test false above rest =
        let same = same_Some e f (is ∙ ap first_of (taken edge f l above)) in
        taken edge f l above
        ∙ ap (λ (m : List (Name × V)). f ∷ m) (kept_above edge f.0 l above up.0 ∙ sym (all_behind f l up.0) ∙ sym (dropped (Behind f.0) f l (behind_itself f.0)))
        ∙ ap (λ (x : Name × V). x ∷ from_edge (Behind x.0) (f ∷ l)) (sym same)

-- none is in front of all
pub from_first : {V : Type 0} (l : List (Name × V)) → from_edge First l ≡ l
from_first [] = refl
from_first {V} (e ∷ l) = ap (λ (m : List (Name × V)). e ∷ m) (from_first l)

-- with fewer left at each step
pub fewer_behind : {V : Type 0} (edge : Edge) (e : Name × V) (l : List (Name × V)) → IsRising l → Some e ≡ first_of (from_edge edge l) → length (from_edge (Behind e.0) l) < length (from_edge edge l)
fewer_behind edge e l up is = let all = ap length (step_from edge e l up is) in omega (arith, all)

-- below an edge: those below the last one, and the last one
down_taken : {V : Type 0} (edge : Edge) (e : Name × V) (l : List (Name × V)) → is_below edge e.0 ≡ true → below_edge edge (e ∷ l) ≡ e ∷ below_edge edge l
down_taken edge e l below = ap (λ (b : Bool). cond b (e ∷ below_edge edge l) (below_edge edge l)) below

down_dropped : {V : Type 0} (edge : Edge) (e : Name × V) (l : List (Name × V)) → is_below edge e.0 ≡ false → below_edge edge (e ∷ l) ≡ below_edge edge l
down_dropped edge e l above = ap (λ (b : Bool). cond b (e ∷ below_edge edge l) (below_edge edge l)) above

none_below : {V : Type 0} (edge : Edge) (n : Name) (l : List (Name × V)) → is_below edge n ≡ false → AllByRecursion (λ y. name_cmp n y ≡ Less) (keys_of l) → below_edge edge l ≡ []
none_below edge n [] above all = refl
none_below edge n (e ∷ l) above all = down_dropped edge e l (stays_above edge n e.0 all.0 above) ∙ none_below edge n l above all.1

last_behind : {V : Type 0} (n : Name) (edge : Edge) (e : Name × V) (l : List (Name × V)) → AllByRecursion (λ y. name_cmp n y ≡ Less) (keys_of l) → Some e ≡ last_of (below_edge edge l) → name_cmp n e.0 ≡ Less
last_behind n edge e [] all is = absurd (none-some e (sym is))
last_behind {V} n edge e (f ∷ l) all is = by_test (is_below edge f.0) refl (λ later. last_behind n edge e l all.1 later)
  where
    by_rest : (m : List (Name × V)) → below_edge edge l ≡ m → (Some e ≡ last_of (below_edge edge l) → name_cmp n e.0 ≡ Less) → Some e ≡ last_of (f ∷ m) → name_cmp n e.0 ≡ Less
    by_rest [] none rest last = ap (λ (x : Name × V). name_cmp n x.0) (same_Some e f last) ∙ all.0
    by_rest (g ∷ m) some rest last = rest (last ∙ ap last_of (sym some))

    by_test : (b : Bool) → is_below edge f.0 ≡ b → (Some e ≡ last_of (below_edge edge l) → name_cmp n e.0 ≡ Less) → name_cmp n e.0 ≡ Less
    by_test true below rest = by_rest (below_edge edge l) refl rest (is ∙ ap last_of (down_taken edge f l below))
    by_test false above rest = rest (is ∙ ap last_of (down_dropped edge f l above))

pub step_below : {V : Type 0} (edge : Edge) (e : Name × V) (l : List (Name × V)) → IsRising l → Some e ≡ last_of (below_edge edge l) → below_edge edge l ≡ below_edge (At e.0) l ++ e ∷ []
unfolding IsStrictlySortedBy
step_below edge e [] up is = absurd (none-some e (sym is))
step_below {V} edge e (f ∷ l) up is = by_test (is_below edge f.0) refl (λ last. step_below edge e l up.1 last)
  where
    by_rest : (m : List (Name × V)) → below_edge edge l ≡ m → (Some e ≡ last_of (below_edge edge l) → below_edge edge l ≡ below_edge (At e.0) l ++ e ∷ []) →
        Some e ≡ last_of (f ∷ m) → f ∷ below_edge edge l ≡ below_edge (At e.0) (f ∷ l) ++ e ∷ []
    by_rest [] none rest last =
        let same = same_Some e f last in
        ap (λ (k : List (Name × V)). f ∷ k) none
        ∙ ap (λ (k : List (Name × V)). k ++ f ∷ []) (sym (down_dropped (At f.0) f l (at_itself f.0) ∙ none_below (At f.0) f.0 l (at_itself f.0) up.0))
        ∙ ap (λ (x : Name × V). below_edge (At x.0) (f ∷ l) ++ x ∷ []) (sym same)
    by_rest (g ∷ m) some rest last =
        let later = last ∙ ap last_of (sym some) in
        let less = last_behind f.0 edge e l up.0 later in
        ap (λ (k : List (Name × V)). f ∷ k) (rest later)
        ∙ ap (λ (k : List (Name × V)). k ++ e ∷ []) (sym (down_taken (At e.0) f l (ap is_gt (flipped f.0 e.0 less))))

    by_test : (b : Bool) → is_below edge f.0 ≡ b → (Some e ≡ last_of (below_edge edge l) → below_edge edge l ≡ below_edge (At e.0) l ++ e ∷ []) → below_edge edge (f ∷ l) ≡ below_edge (At e.0) (f ∷ l) ++ e ∷ []
    by_test true below rest = down_taken edge f l below ∙ by_rest (below_edge edge l) refl rest (is ∙ ap last_of (down_taken edge f l below))
    by_test false above rest = absurd (none-some e (sym (is ∙ ap last_of (down_dropped edge f l above ∙ none_below edge f.0 l above up.0))))

pub fewer_below : {V : Type 0} (edge : Edge) (e : Name × V) (l : List (Name × V)) → IsRising l → Some e ≡ last_of (below_edge edge l) → length (below_edge (At e.0) l) < length (below_edge edge l)
fewer_below edge e l up is =
    let all = ap length (step_below edge e l up is) in
    let more = length-append (below_edge (At e.0) l) (e ∷ []) in
    omega (arith, all, more)

-- ---- the cell of a name

-- ---- committed records

-- those that pass a test
pub committed_passed : (p : Name → Bool) (cells : List (Name × Occupied)) → filter (λ r. p r.0) (committed_rows cells) ≡ committed_rows (filter (λ e. p e.0) cells)
committed_passed p [] = refl
committed_passed p (e ∷ cells) = by_value e.1.value (p e.0) refl (committed_passed p cells) ∙ sym (by_test (p e.0))
  where
    by_test : (t : Bool) → committed_rows (cond t (e ∷ filter (λ f. p f.0) cells) (filter (λ f. p f.0) cells))
        ≡ cond t (with_row e.0 e.1.value (committed_rows (filter (λ f. p f.0) cells))) (committed_rows (filter (λ f. p f.0) cells))
    by_test true = refl
    by_test false = refl

    by_value : (v : Option (List ℕ)) (t : Bool) → p e.0 ≡ t → filter (λ r. p r.0) (committed_rows cells) ≡ committed_rows (filter (λ f. p f.0) cells) →
        filter (λ r. p r.0) (with_row e.0 v (committed_rows cells))
        ≡ cond t (with_row e.0 v (committed_rows (filter (λ f. p f.0) cells))) (committed_rows (filter (λ f. p f.0) cells))
    by_value None true is rest = rest
    by_value None false is rest = rest
    by_value (Some v) true is rest =
        ap (λ (t : Bool). cond t ((e.0, v) ∷ filter (λ r. p r.0) (committed_rows cells)) (filter (λ r. p r.0) (committed_rows cells))) is
        ∙ ap (λ (l : List Row). (e.0, v) ∷ l) rest
    by_value (Some v) false is rest =
        ap (λ (t : Bool). cond t ((e.0, v) ∷ filter (λ r. p r.0) (committed_rows cells)) (filter (λ r. p r.0) (committed_rows cells))) is ∙ rest

committed_from : (edge : Edge) (cells : List (Name × Occupied)) → from_edge edge (committed_rows cells) ≡ committed_rows (from_edge edge cells)
committed_from edge cells = committed_passed (λ n. is_between edge End n) cells

committed_below : (edge : Edge) (cells : List (Name × Occupied)) → below_edge edge (committed_rows cells) ≡ committed_rows (below_edge edge cells)
committed_below edge cells = committed_passed (λ n. is_below edge n) cells

committed_append : (a b : List (Name × Occupied)) → committed_rows (a ++ b) ≡ committed_rows a ++ committed_rows b
committed_append [] b = refl
committed_append (e ∷ a) b = by_value e.1.value (committed_append a b)
  where
    by_value : (v : Option (List ℕ)) → committed_rows (a ++ b) ≡ committed_rows a ++ committed_rows b → with_row e.0 v (committed_rows (a ++ b)) ≡ with_row e.0 v (committed_rows a) ++ committed_rows b
    by_value None rest = rest
    by_value (Some v) rest = ap (λ (l : List Row). (e.0, v) ∷ l) rest

still_behind : (x : Name) (cells : List (Name × Occupied)) → AllByRecursion (λ y. name_cmp x y ≡ Less) (keys_of cells) → AllByRecursion (λ y. name_cmp x y ≡ Less) (keys_of (committed_rows cells))
still_behind x [] all = tt
still_behind x (e ∷ cells) all = by_value e.1.value (still_behind x cells all.1)
  where
    by_value : (v : Option (List ℕ)) → AllByRecursion (λ y. name_cmp x y ≡ Less) (keys_of (committed_rows cells)) → AllByRecursion (λ y. name_cmp x y ≡ Less) (keys_of (with_row e.0 v (committed_rows cells)))
    by_value None rest = rest
    by_value (Some v) rest = (all.0, rest)

-- their names rise
pub committed_rises : (cells : List (Name × Occupied)) → IsRising cells → IsRising (committed_rows cells)
unfolding IsStrictlySortedBy
committed_rises [] up = tt
committed_rises (e ∷ cells) up = by_value e.1.value (committed_rises cells up.1)
  where
    by_value : (v : Option (List ℕ)) → IsStrictlySortedBy name_cmp (keys_of (committed_rows cells)) → IsStrictlySortedBy name_cmp (keys_of (with_row e.0 v (committed_rows cells)))
    by_value None rest = rest
    by_value (Some v) rest = (still_behind e.0 cells up.0, rest)

-- the data of a name
value_of : (name : Name) (cells : List (Name × Occupied)) → IsRising cells → value_at name (committed_rows cells) ≡ value_in (value_at name cells)
unfolding IsStrictlySortedBy
value_of name [] up = refl
value_of name (e ∷ cells) up = by_name (same_or_other name e.0) (value_of name cells up.1)
  where
    at_value : (v : Option (List ℕ)) → is_eq (name_cmp name e.0) ≡ true → value_at name (committed_rows cells) ≡ None → value_at name (with_row e.0 v (committed_rows cells)) ≡ v
    at_value None equal none = none
    at_value (Some v) equal none = ap (λ (t : Bool). cond t (Some v) (value_at name (committed_rows cells))) equal

    over_value : (v : Option (List ℕ)) → is_eq (name_cmp name e.0) ≡ false → value_at name (with_row e.0 v (committed_rows cells)) ≡ value_at name (committed_rows cells)
    over_value None apart = refl
    over_value (Some v) apart = other_stays name e.0 (Some v) (value_at name (committed_rows cells)) apart

    by_name : (name ≡ e.0) ⊎ (is_eq (name_cmp name e.0) ≡ false) → value_at name (committed_rows cells) ≡ value_in (value_at name cells) → value_at name (with_row e.0 e.1.value (committed_rows cells)) ≡ value_in (value_at name (e ∷ cells))
    by_name (inl same) rest =
        let equal : is_eq (name_cmp name e.0) ≡ true = subst (λ (y : Name). is_eq (name_cmp name y) ≡ true) same (ap is_eq (name_same name)) in
        let none : value_at name cells ≡ None = subst (λ (y : Name). value_at y cells ≡ None) (sym same) (none_behind e.0 cells up.0) in
        at_value e.1.value equal (rest ∙ ap value_in none) ∙ sym (ap (λ (t : Bool). value_in (cond t (Some e.1) (value_at name cells))) equal)
    by_name (inr apart) rest =
        over_value e.1.value apart ∙ rest ∙ sym (ap value_in (other_stays name e.0 (Some e.1) (value_at name cells) apart))

pub committed_at : (name : Name) (cells : List (Name × Occupied)) → IsRising cells → data_at name (committed_rows cells) ≡ value_in (value_at name cells)
committed_at name cells up = sym (lookup_is_data name (committed_rows cells)) ∙ value_of name cells up

-- ---- searches

-- where no cell is found, no record is
pub none_from : (edge : Edge) (cells : List (Name × Occupied)) → None ≡ first_of (from_edge edge cells) → None ≡ first_of (from_edge edge (committed_rows cells))
none_from edge cells is = by_list (from_edge edge cells) is ∙ ap first_of (sym (committed_from edge cells))
  where
    by_list : (l : List (Name × Occupied)) → None ≡ first_of l → None ≡ first_of (committed_rows l)
    by_list [] none = refl
    by_list (e ∷ l) none = absurd (none-some e none)

some_last : {A : Type 0} (x : A) (l : List A) → None ≡ last_of (x ∷ l) → ⊥
some_last x [] none = none-some x none
some_last x (y ∷ l) none = some_last y l none

pub none_below_edge : (edge : Edge) (cells : List (Name × Occupied)) → None ≡ last_of (below_edge edge cells) → None ≡ last_of (below_edge edge (committed_rows cells))
none_below_edge edge cells is = by_list (below_edge edge cells) is ∙ ap last_of (sym (committed_below edge cells))
  where
    by_list : (l : List (Name × Occupied)) → None ≡ last_of l → None ≡ last_of (committed_rows l)
    by_list [] none = refl
    by_list (e ∷ []) none = absurd (none-some e none)
    by_list (e ∷ f ∷ l) none = absurd (some_last f l none)

-- a cell with data is the first record
pub found_from : (edge : Edge) (e : Name × Occupied) (cells : List (Name × Occupied)) (value : List ℕ) → IsRising cells → Some e ≡ first_of (from_edge edge cells) → Some value ≡ e.1.value →
    Some (e.0, value) ≡ first_of (from_edge edge (committed_rows cells))
found_from edge e cells value up is has =
    ap (λ (v : Option (List ℕ)). first_of (with_row e.0 v (committed_rows (from_edge (Behind e.0) cells)))) has
    ∙ ap (λ l. first_of (committed_rows l)) (sym (step_from edge e cells up is)) ∙ ap first_of (sym (committed_from edge cells))

-- a cell without data is passed over
pub passed_from : (edge : Edge) (e : Name × Occupied) (cells : List (Name × Occupied)) → IsRising cells → Some e ≡ first_of (from_edge edge cells) → None ≡ e.1.value →
    from_edge (Behind e.0) (committed_rows cells) ≡ from_edge edge (committed_rows cells)
passed_from edge e cells up is none =
    committed_from (Behind e.0) cells
    ∙ ap (λ (v : Option (List ℕ)). with_row e.0 v (committed_rows (from_edge (Behind e.0) cells))) none
    ∙ ap committed_rows (sym (step_from edge e cells up is)) ∙ sym (committed_from edge cells)

-- and so for the last one below an edge: the records are those below the last cell, and the record of its data
below_parts : (edge : Edge) (e : Name × Occupied) (cells : List (Name × Occupied)) → IsRising cells → Some e ≡ last_of (below_edge edge cells) →
    below_edge edge (committed_rows cells) ≡ below_edge (At e.0) (committed_rows cells) ++ with_row e.0 e.1.value []
below_parts edge e cells up is =
    committed_below edge cells ∙ ap committed_rows (step_below edge e cells up is) ∙ committed_append (below_edge (At e.0) cells) (e ∷ [])
    ∙ ap (λ (l : List Row). l ++ with_row e.0 e.1.value []) (sym (committed_below (At e.0) cells))

pub found_below : (edge : Edge) (e : Name × Occupied) (cells : List (Name × Occupied)) (value : List ℕ) → IsRising cells → Some e ≡ last_of (below_edge edge cells) → Some value ≡ e.1.value →
    Some (e.0, value) ≡ last_of (below_edge edge (committed_rows cells))
found_below edge e cells value up is has =
    sym (ap last_of (below_parts edge e cells up is)
    ∙ ap (λ (v : Option (List ℕ)). last_of (below_edge (At e.0) (committed_rows cells) ++ with_row e.0 v [])) (sym has)
    ∙ last_is (below_edge (At e.0) (committed_rows cells)) (e.0, value))

pub passed_below : (edge : Edge) (e : Name × Occupied) (cells : List (Name × Occupied)) → IsRising cells → Some e ≡ last_of (below_edge edge cells) → None ≡ e.1.value →
    below_edge (At e.0) (committed_rows cells) ≡ below_edge edge (committed_rows cells)
passed_below edge e cells up is none =
    sym (below_parts edge e cells up is
    ∙ ap (λ (v : Option (List ℕ)). below_edge (At e.0) (committed_rows cells) ++ with_row e.0 v []) (sym none)
    ∙ append-nil (below_edge (At e.0) (committed_rows cells)))

-- ---- walks

-- what holds of all holds of the first one from an edge on
pub first_passes : {V : Type 0} (p : Name × V → Bool) (edge : Edge) (e : Name × V) (l : List (Name × V)) → list_all p l ≡ true → Some e ≡ first_of (from_edge edge l) → p e ≡ true
first_passes p edge e [] all is = absurd (none-some e (sym is))
first_passes {V} p edge e (f ∷ l) all is = by_test (p f) refl (is_below edge f.0) refl (λ more later. first_passes p edge e l more later) all
  where
    by_test : (t : Bool) → p f ≡ t → (b : Bool) → is_below edge f.0 ≡ b → (list_all p l ≡ true → Some e ≡ first_of (from_edge edge l) → p e ≡ true) → (t && list_all p l) ≡ true → p e ≡ true
    by_test true is_t true below rest both = rest both (is ∙ ap first_of (dropped edge f l below))
    by_test true is_t false above rest both = ap p (same_Some e f (is ∙ ap first_of (taken edge f l above))) ∙ is_t
    by_test false is_t b is_b rest both = cc

-- there are as many committed records as names with committed data
pub counted_rows : (cells : List (Name × Occupied)) → length (committed_rows cells) ≡ count_by (λ (e : Name × Occupied). is_some e.1.value) cells
counted_rows cells = is_count_by (λ (l : List (Name × Occupied)). length (committed_rows l)) (λ e. is_some e.1.value) refl (λ e l. with_one e.0 e.1.value (committed_rows l)) cells
  where
    with_one : (x : Name) (value : Option (List ℕ)) (rows : List Row) → length (with_row x value rows) ≡ cond (is_some value) (1 + length rows) (length rows)
    with_one x None rows = refl
    with_one x (Some held) rows = omega arith
