-- The records of one database: names and their order, what a name finds, and what a change leaves.
use Rattle.std.proofs.Common.{◌≡◌, ℕ, ◌+◌, List, [], ◌∷◌, ◌++◌, Bool, true, false, cond, not, ◌==◌, Option, None, Some, map, filter, length, option_map, refl, ap, ap₂, sym, ◌∙◌, ⊎_elim, arith, length-append, Ordering, Less, Equal, Greater, nat_cmp, is_eq, is_lt, is_gt}
use Rattle.std.specs.List.{AllByRecursion}
use Rattle.std.specs.List.Sorted.{IsStrictlySortedBy}
use Rattle.std.specs.Ordering.{ordering_then, ordering_reverse, on}
use Rattle.std.specs.Cmp.{IsTotalOrder}
use Rattle.std.specs.Cmp.Lexicographic.{slice_cmp}
use Rattle.std.proofs.lemmas.Bool.{cases_Bool, cond-true, cond-false, true≢false, eqb-true}
use Rattle.std.proofs.lemmas.Option.{none-some, same_Some}
use Rattle.std.proofs.lemmas.Cmp.{then_total, on_total, nat_list_cmp_total}
use Rattle.std.proofs.lemmas.List.{map-append, nil_from_length}
use Rattle.std.proofs.lemmas.List.Filters.{length-filter_both}
use Rattle.std.proofs.lemmas.List.Kept.{IsStrictlySortedBy-filter}
use Rattle.je_order.specs.Order.{bytes_cmp, name_cmp, is_same_bytes}
use Rattle.je_order.specs.declared.name.Name.{Name}
use Rattle.store_model.specs.declared.kind.Kind.{Kind}
use Rattle.store_model.specs.declared.kind.Kind.TheVariants.{Plain, Dup}
use Rattle.store_model.specs.Store.{Pair, name_of, proper, pair_for, pair_at, pairs_with, pairs_without}
use Rattle.store_model.specs.Evaluation.{plain_name}
use Rattle.log_replay.specs.Rows.{Row, rows_with, row_at, data_at, IsRising, is_right_row, are_right, pair_of}
use Rattle.log_replay.proofs.ListLaws.{all_true, all_from_true, filter-all, filter-none, find-map, filter-map, none_found, none_found_in}
use Rattle.je_order.proofs.Lists.{all_weaker, all_append, all_kept, filter_all_pass}
use Rattle.je_order.proofs.Orderings.{less_from_test, equal_from_test, greater_from_test, name_exact}

-- data comes from a record
row_of_mapped : (o : Option Row) (bytes : List ℕ) → option_map (λ (r : Row). r.1) o ≡ Some bytes → (row : Row) × (o ≡ Some row) × (row.1 ≡ bytes)
row_of_mapped None bytes h = absurd (none-some bytes h)
row_of_mapped (Some row) bytes h = (row, refl, same_Some row.1 bytes h)

-- no data comes from no record
no_row_of_mapped : (o : Option Row) → option_map (λ (r : Row). r.1) o ≡ None → o ≡ None
no_row_of_mapped None h = refl
no_row_of_mapped (Some row) h = absurd (none-some row.1 (sym h))

-- two negations cancel
not_twice : (b : Bool) → b ≡ not (not b)
not_twice true = refl
not_twice false = refl

-- ---- names

-- an order and then nothing is that order
ordering_then-equal : (o : Ordering) → ordering_then o Equal ≡ o
ordering_then-equal Less = refl
ordering_then-equal Equal = refl
ordering_then-equal Greater = refl

-- the order of names is a total order
pub name_total : IsTotalOrder name_cmp
name_total = then_total (on_total (λ (n : Name). n.key) nat_list_cmp_total) (on_total (λ (n : Name). n.dup) nat_list_cmp_total)

-- where a name stands before another, this one stands behind it
pub name_flipped : (a b : Name) → name_cmp a b ≡ Less → name_cmp b a ≡ Greater
name_flipped a b h = name_total.antisymm b a ∙ ap ordering_reverse h

-- and the other way round
pub name_flipped_back : (a b : Name) → name_cmp a b ≡ Greater → name_cmp b a ≡ Less
name_flipped_back a b h = name_total.antisymm b a ∙ ap ordering_reverse h

-- a name with an empty dup stands by its key
pub name_cmp-plain : (name : Name) (key : List ℕ) → name.dup ≡ [] → name_cmp name (plain_name key) ≡ bytes_cmp name.key key
name_cmp-plain name key h =
    ap (λ d. ordering_then (bytes_cmp name.key key) (slice_cmp nat_cmp d [])) h ∙ ordering_then-equal (bytes_cmp name.key key)

-- a name with an empty dup is that of its key
pub plain_name-key : (name : Name) → name.dup ≡ [] → name ≡ plain_name name.key
plain_name-key name h = let make : List ℕ → Name = λ d. record { key = name.key; dup = d } in ap make h

-- ---- records of a kind

-- the name of a right record's pair is the record's
pub name_of-right : (kind : Kind) (row : Row) → is_right_row kind row ≡ true → name_of kind (pair_of kind row) ≡ row.0
name_of-right Plain row h = sym (plain_name-key row.0 (nil_from_length row.0.dup (eqb-true (length row.0.dup) 0 h)))
name_of-right Dup row h = refl

-- and it is a name of the kind
pub proper-right : (kind : Kind) (at : Name) (value : List ℕ) → is_right_row kind (at, value) ≡ true → proper kind at ≡ at
proper-right Plain at value h = sym (plain_name-key at (nil_from_length at.dup (eqb-true (length at.dup) 0 h)))
proper-right Dup at value h = refl

-- the pair that is set is the record's
pair_for-is : (kind : Kind) (at : Name) (value : List ℕ) → pair_for kind at value ≡ pair_of kind (at, value)
pair_for-is Plain at value = refl
pair_for-is Dup at value = refl

-- right records, one by one
pub each_right : (kind : Kind) (rows : List Row) → are_right kind rows ≡ true → AllByRecursion (λ r. name_of kind (pair_of kind r) ≡ r.0) rows
each_right kind rows right =
    all_weaker (λ (r : Row). is_right_row kind r ≡ true) (λ r. name_of kind (pair_of kind r) ≡ r.0) (λ r e. name_of-right kind r e) rows
    (all_true (is_right_row kind) rows right)

-- a test of the pairs' names is one of the records'
tested : (kind : Kind) (at : Name) (test : Ordering → Bool) (rows : List Row) → are_right kind rows ≡ true → proper kind at ≡ at →
    filter (λ p. test (name_cmp (name_of kind p) (proper kind at))) (map (pair_of kind) rows) ≡ map (pair_of kind) (filter (λ r. test (name_cmp r.0 at)) rows)
tested kind at test rows right own =
    filter-map (pair_of kind) (λ p. test (name_cmp (name_of kind p) (proper kind at))) (λ r. test (name_cmp r.0 at)) rows
    (all_weaker (λ (r : Row). name_of kind (pair_of kind r) ≡ r.0) (λ r. test (name_cmp (name_of kind (pair_of kind r)) (proper kind at)) ≡ test (name_cmp r.0 at))
    (λ r e. ap₂ (λ (a b : Name). test (name_cmp a b)) e own) rows (each_right kind rows right))

-- a key finds in the pairs of a plain database what its name finds in the records
pub pair_at-rows : (rows : List Row) (key : List ℕ) → are_right Plain rows ≡ true →
    pair_at key (map (pair_of Plain) rows) ≡ option_map (pair_of Plain) (row_at (plain_name key) rows)
pair_at-rows rows key plain =
    find-map (pair_of Plain) (λ p. is_same_bytes p.0 key) (λ r. is_eq (name_cmp r.0 (plain_name key))) rows
    (all_weaker (λ (r : Row). (length r.0.dup == 0) ≡ true) (λ r. is_same_bytes r.0.key key ≡ is_eq (name_cmp r.0 (plain_name key)))
    (λ r e. ap is_eq (sym (name_cmp-plain r.0 key (nil_from_length r.0.dup (eqb-true (length r.0.dup) 0 e))))) rows (all_true (is_right_row Plain) rows plain))

-- a record set in the records is set in the pairs
pub pairs_with-rows : (kind : Kind) (rows : List Row) (at : Name) (value : List ℕ) → are_right kind rows ≡ true → is_right_row kind (at, value) ≡ true →
    map (pair_of kind) (rows_with at (Some value) rows) ≡ pairs_with kind at value (map (pair_of kind) rows)
pairs_with-rows kind rows at value right own =
    let proper_ = proper-right kind at value own in
    map-append (pair_of kind) (filter (λ (r : Row). is_lt (name_cmp r.0 at)) rows) ((at, value) ∷ filter (λ (r : Row). is_gt (name_cmp r.0 at)) rows)
    ∙ ap₂ (λ (a b : List Pair). a ++ pair_of kind (at, value) ∷ b) (sym (tested kind at is_lt rows right proper_)) (sym (tested kind at is_gt rows right proper_))
    ∙ ap
    (λ (p : Pair). filter (λ q. is_lt (name_cmp (name_of kind q) (proper kind at))) (map (pair_of kind) rows)
    ++ p ∷ filter (λ q. is_gt (name_cmp (name_of kind q) (proper kind at))) (map (pair_of kind) rows))
    (sym (pair_for-is kind at value))

-- a name taken out of the records is taken out of the pairs
pub pairs_without-rows : (kind : Kind) (rows : List Row) (at : Name) → are_right kind rows ≡ true → proper kind at ≡ at →
    map (pair_of kind) (rows_with at None rows) ≡ pairs_without kind at (map (pair_of kind) rows)
pairs_without-rows kind rows at right own = sym (tested kind at (λ o. not (is_eq o)) rows right own)

-- what a name is set to is a right record
abbrev pub IsRightValue : Kind → Name → Option (List ℕ) → Type 0
IsRightValue kind at None = Unit {0}
IsRightValue kind at (Some value) = is_right_row kind (at, value) ≡ true

-- a change to such a record leaves records right
pub right-changed : (kind : Kind) (rows : List Row) (at : Name) (value : Option (List ℕ)) → are_right kind rows ≡ true → IsRightValue kind at value →
    are_right kind (rows_with at value rows) ≡ true
right-changed kind rows at None right own =
    all_from_true (is_right_row kind) (rows_with at None rows)
    (all_kept (λ r. is_right_row kind r ≡ true) (λ r. not (is_eq (name_cmp r.0 at))) rows (all_true (is_right_row kind) rows right))
right-changed kind rows at (Some value) right own =
    let P : Row → Type 0 = λ r. is_right_row kind r ≡ true in
    let each : AllByRecursion P rows = all_true (is_right_row kind) rows right in
    all_from_true (is_right_row kind) (rows_with at (Some value) rows)
    (all_append P (filter (λ r. is_lt (name_cmp r.0 at)) rows) ((at, value) ∷ filter (λ r. is_gt (name_cmp r.0 at)) rows)
    (all_kept P (λ r. is_lt (name_cmp r.0 at)) rows each) (own, all_kept P (λ r. is_gt (name_cmp r.0 at)) rows each))

-- ---- rising names

-- no names rise
pub rising-nil : IsRising []
unfolding IsStrictlySortedBy
rising-nil = tt

-- a record between lower and higher ones
rising_between : (lower higher : List Row) (x : Row) → IsRising lower → IsRising higher →
    AllByRecursion (λ r. name_cmp r.0 x.0 ≡ Less) lower → AllByRecursion (λ r. name_cmp x.0 r.0 ≡ Less) higher → IsRising (lower ++ x ∷ higher)
unfolding IsStrictlySortedBy
rising_between [] higher x up_low up_high below above = (above, up_high)
rising_between (r ∷ lower) higher x up_low up_high below above =
    let P : Row → Type 0 = λ y. name_cmp r.0 y.0 ≡ Less in (
      all_append P lower (x ∷ higher) up_low.0
          (below.0, all_weaker (λ (y : Row). name_cmp x.0 y.0 ≡ Less) P (λ y e. name_total.trans r.0 x.0 y.0 below.0 e) higher above),
      rising_between lower higher x up_low.1 up_high below.1 above,
    )

-- a change leaves names rising
pub rising-changed : (rows : List Row) (at : Name) (value : Option (List ℕ)) → IsRising rows → IsRising (rows_with at value rows)
rising-changed rows at None up = IsStrictlySortedBy-filter (on (λ (r : Row). r.0) name_cmp) (λ r. not (is_eq (name_cmp r.0 at))) rows up
rising-changed rows at (Some value) up =
    let low : Row → Bool = λ r. is_lt (name_cmp r.0 at) in
    let high : Row → Bool = λ r. is_gt (name_cmp r.0 at) in
    rising_between (filter low rows) (filter high rows) (at, value)
    (IsStrictlySortedBy-filter (on (λ (r : Row). r.0) name_cmp) low rows up)
    (IsStrictlySortedBy-filter (on (λ (r : Row). r.0) name_cmp) high rows up)
    (all_weaker (λ (r : Row). low r ≡ true) (λ r. name_cmp r.0 at ≡ Less) (λ r e. less_from_test (name_cmp r.0 at) e) (filter low rows) (filter_all_pass low rows))
    (all_weaker (λ (r : Row). high r ≡ true) (λ r. name_cmp at r.0 ≡ Less) (λ r e. name_flipped_back r.0 at (greater_from_test (name_cmp r.0 at) e)) (filter high rows)
    (filter_all_pass high rows))

-- names rise behind the first
pub rising_tail : (row : Row) (rows : List Row) → IsRising (row ∷ rows) → IsRising rows
unfolding IsStrictlySortedBy
rising_tail row rows up = up.1

-- the first stands before each other
pub rising_head : (row : Row) (rows : List Row) → IsRising (row ∷ rows) → AllByRecursion (λ r. name_cmp row.0 r.0 ≡ Less) rows
unfolding IsStrictlySortedBy
rising_head row rows up = up.0

-- where the first name stands behind another, each later one does
above_all : (row : Row) (rows : List Row) (name : Name) → IsRising (row ∷ rows) → name_cmp name row.0 ≡ Less → AllByRecursion (λ r. name_cmp r.0 name ≡ Greater) rows
above_all row rows name up e =
    all_weaker (λ (r : Row). name_cmp row.0 r.0 ≡ Less) (λ r. name_cmp r.0 name ≡ Greater)
    (λ r f. name_flipped name r.0 (name_total.trans name row.0 r.0 e f)) rows (rising_head row rows up)

-- one record before those that are parted
split_step : (o : Ordering) (r : Row) (rows : List Row) (name : Name) → IsRising (r ∷ rows) → name_cmp r.0 name ≡ o → is_eq (name_cmp r.0 name) ≡ false →
    filter (λ (y : Row). is_lt (name_cmp y.0 name)) rows ++ filter (λ (y : Row). is_gt (name_cmp y.0 name)) rows ≡ rows →
    cond (is_lt o) (r ∷ filter (λ (y : Row). is_lt (name_cmp y.0 name)) rows) (filter (λ (y : Row). is_lt (name_cmp y.0 name)) rows)
    ++ cond (is_gt o) (r ∷ filter (λ (y : Row). is_gt (name_cmp y.0 name)) rows) (filter (λ (y : Row). is_gt (name_cmp y.0 name)) rows) ≡ r ∷ rows
split_step Less r rows name up e other rest = ap (λ l. r ∷ l) rest
split_step Equal r rows name up e other rest = absurd (true≢false (sym (ap is_eq e) ∙ other))
split_step Greater r rows name up e other rest =
    let above = above_all r rows name up (name_flipped_back r.0 name e) in
    ap₂ (λ a b. a ++ r ∷ b)
    (filter-none (λ (y : Row). is_lt (name_cmp y.0 name)) rows (all_weaker (λ (y : Row). name_cmp y.0 name ≡ Greater) (λ y. is_lt (name_cmp y.0 name) ≡ false) (λ y g. ap is_lt g) rows above))
    (filter-all (λ (y : Row). is_gt (name_cmp y.0 name)) rows (all_weaker (λ (y : Row). name_cmp y.0 name ≡ Greater) (λ y. is_gt (name_cmp y.0 name) ≡ true) (λ y g. ap is_gt g) rows above))

-- a name that is not there parts the records in lower and higher ones
pub split_where_none : (rows : List Row) (name : Name) → IsRising rows → row_at name rows ≡ None →
    filter (λ r. is_lt (name_cmp r.0 name)) rows ++ filter (λ r. is_gt (name_cmp r.0 name)) rows ≡ rows
split_where_none [] name up none = refl
split_where_none (r ∷ rows) name up none =
    let fails = none_found (λ (y : Row). is_eq (name_cmp y.0 name)) (r ∷ rows) none in
    let rest_none : row_at name rows ≡ None = sym (cond-false (is_eq (name_cmp r.0 name)) (Some r) (row_at name rows) fails.0) ∙ none in
    split_step (name_cmp r.0 name) r rows name up refl fails.0 (split_where_none rows name (rising_tail r rows up) rest_none)

-- ---- how many records a change leaves

-- a record is lower, the same or higher
length_parts : (rows : List Row) (name : Name) →
    length (filter (λ (r : Row). is_lt (name_cmp r.0 name)) rows) + length (filter (λ (r : Row). is_gt (name_cmp r.0 name)) rows)
    + length (filter (λ (r : Row). is_eq (name_cmp r.0 name)) rows) ≡ length rows
length_parts [] name = refl
length_parts (r ∷ rows) name =
    let rest = length_parts rows name in
    let P : Ordering → Type 0 = λ o.
    length (cond (is_lt o) (r ∷ filter (λ (y : Row). is_lt (name_cmp y.0 name)) rows) (filter (λ (y : Row). is_lt (name_cmp y.0 name)) rows))
    + length (cond (is_gt o) (r ∷ filter (λ (y : Row). is_gt (name_cmp y.0 name)) rows) (filter (λ (y : Row). is_gt (name_cmp y.0 name)) rows))
    + length (cond (is_eq o) (r ∷ filter (λ (y : Row). is_eq (name_cmp y.0 name)) rows) (filter (λ (y : Row). is_eq (name_cmp y.0 name)) rows)) ≡ length (r ∷ rows) in
    elim (name_cmp r.0 name) as P [ Less ↦ omega arith | Equal ↦ omega arith | Greater ↦ omega arith ]

-- the records that a test leaves out and those that it keeps
length_without : (p : Row → Bool) (rows : List Row) → length (filter (λ r. not (p r)) rows) + length (filter p rows) ≡ length rows
length_without p rows = length-filter_both (λ r. not (p r)) p (λ r. not_twice (p r)) rows

-- no record has a name that is not there
same_named_none : (rows : List Row) (name : Name) → row_at name rows ≡ None → filter (λ (r : Row). is_eq (name_cmp r.0 name)) rows ≡ []
same_named_none rows name none = filter-none (λ (r : Row). is_eq (name_cmp r.0 name)) rows (none_found (λ (r : Row). is_eq (name_cmp r.0 name)) rows none)

-- behind a record of a name none other has it
pub others_after : (r : Row) (rows : List Row) (name : Name) → IsRising (r ∷ rows) → is_eq (name_cmp r.0 name) ≡ true →
    AllByRecursion (λ y. is_eq (name_cmp y.0 name) ≡ false) rows
others_after r rows name up same =
    let at : r.0 ≡ name = name_exact r.0 name (equal_from_test (name_cmp r.0 name) same) in
    all_weaker (λ (y : Row). name_cmp r.0 y.0 ≡ Less) (λ y. is_eq (name_cmp y.0 name) ≡ false)
    (λ y e. ap is_eq (ap (λ n. name_cmp y.0 n) (sym at) ∙ name_flipped r.0 y.0 e)) rows (rising_head r rows up)

-- one record has a name that is there
same_named_one : (rows : List Row) (name : Name) (row : Row) → IsRising rows → row_at name rows ≡ Some row →
    length (filter (λ (r : Row). is_eq (name_cmp r.0 name)) rows) ≡ 1
same_named_one [] name row up h = absurd (none-some row h)
same_named_one (r ∷ rows) name row up h =
    let p : Row → Bool = λ y. is_eq (name_cmp y.0 name) in
    ⊎_elim
    (λ (e : p r ≡ true).
    ap length (cond-true (p r) (r ∷ filter p rows) (filter p rows) e)
    ∙ ap (λ (l : List Row). length (r ∷ l)) (filter-none p rows (others_after r rows name up e)))
    (λ (e : p r ≡ false).
    ap length (cond-false (p r) (r ∷ filter p rows) (filter p rows) e)
    ∙ same_named_one rows name row (rising_tail r rows up) (sym (cond-false (p r) (Some r) (row_at name rows) e) ∙ h))
    (cases_Bool (p r))

-- a name that was not there is one record more
pub length-set_new : (rows : List Row) (at : Name) (value : List ℕ) → row_at at rows ≡ None → length (rows_with at (Some value) rows) ≡ length rows + 1
length-set_new rows at value none =
    let low = filter (λ (r : Row). is_lt (name_cmp r.0 at)) rows in
    let high = filter (λ (r : Row). is_gt (name_cmp r.0 at)) rows in
    omega (arith, length-append low ((at, value) ∷ high), length_parts rows at, ap length (same_named_none rows at none))

-- a name that was there is a record still
pub length-set_again : (rows : List Row) (at : Name) (value : List ℕ) (row : Row) → IsRising rows → row_at at rows ≡ Some row →
    length (rows_with at (Some value) rows) ≡ length rows
length-set_again rows at value row up there =
    let low = filter (λ (r : Row). is_lt (name_cmp r.0 at)) rows in
    let high = filter (λ (r : Row). is_gt (name_cmp r.0 at)) rows in
    omega (arith, length-append low ((at, value) ∷ high), length_parts rows at, same_named_one rows at row up there)

-- a name that was there and is taken out is one record less
pub length-unset : (rows : List Row) (at : Name) (row : Row) → IsRising rows → row_at at rows ≡ Some row →
    length (rows_with at None rows) + 1 ≡ length rows
length-unset rows at row up there =
    omega (arith, length_without (λ r. is_eq (name_cmp r.0 at)) rows, same_named_one rows at row up there)

-- a name that was not there and is taken out is no record less
pub length-unset_none : (rows : List Row) (at : Name) → row_at at rows ≡ None → length (rows_with at None rows) ≡ length rows
length-unset_none rows at none =
    let same = ap length (same_named_none rows at none) in
    omega (arith, length_without (λ r. is_eq (name_cmp r.0 at)) rows, same)

-- ---- the data of a name

-- data that is there is that of a record
pub row_of_data : (name : Name) (rows : List Row) (bytes : List ℕ) → data_at name rows ≡ Some bytes → (row : Row) × (row_at name rows ≡ Some row) × (row.1 ≡ bytes)
row_of_data name rows bytes h = row_of_mapped (row_at name rows) bytes h

-- where there is no data there is no record
pub no_row_of_data : (name : Name) (rows : List Row) → data_at name rows ≡ None → row_at name rows ≡ None
no_row_of_data name rows h = no_row_of_mapped (row_at name rows) h

-- ---- a name that is there and is set again

-- the front row, by how it compares to the name
replaced_step : (o : Ordering) (r : Row) (rows : List Row) (at : Name) (value : List ℕ) (row : Row) → IsRising (r ∷ rows) → name_cmp r.0 at ≡ o →
    row_at at (r ∷ rows) ≡ Some row →
    (row_at at rows ≡ Some row → rows_with at (Some value) rows ≡ map (λ (y : Row). cond (is_eq (name_cmp y.0 at)) (at, value) y) rows) →
    cond (is_lt o) (r ∷ filter (λ (y : Row). is_lt (name_cmp y.0 at)) rows) (filter (λ (y : Row). is_lt (name_cmp y.0 at)) rows)
    ++ (at, value) ∷ cond (is_gt o) (r ∷ filter (λ (y : Row). is_gt (name_cmp y.0 at)) rows) (filter (λ (y : Row). is_gt (name_cmp y.0 at)) rows)
    ≡ cond (is_eq o) (at, value) r ∷ map (λ (y : Row). cond (is_eq (name_cmp y.0 at)) (at, value) y) rows
replaced_step Less r rows at value row up e there behind =
    ap (λ (l : List Row). r ∷ l) (behind (sym (cond-false (is_eq (name_cmp r.0 at)) (Some r) (row_at at rows) (ap is_eq e)) ∙ there))
replaced_step Equal r rows at value row up e there behind =
    let name : r.0 ≡ at = name_exact r.0 at e in
    let later : AllByRecursion (λ (y : Row). name_cmp y.0 at ≡ Greater) rows =
    all_weaker (λ (y : Row). name_cmp r.0 y.0 ≡ Less) (λ y. name_cmp y.0 at ≡ Greater)
    (λ y f. ap (λ n. name_cmp y.0 n) (sym name) ∙ name_flipped r.0 y.0 f) rows (rising_head r rows up) in
    ap₂ (λ (a b : List Row). a ++ (at, value) ∷ b)
    (filter-none (λ (y : Row). is_lt (name_cmp y.0 at)) rows (all_weaker (λ (y : Row). name_cmp y.0 at ≡ Greater) (λ y. is_lt (name_cmp y.0 at) ≡ false) (λ y g. ap is_lt g) rows later))
    (filter-all (λ (y : Row). is_gt (name_cmp y.0 at)) rows (all_weaker (λ (y : Row). name_cmp y.0 at ≡ Greater) (λ y. is_gt (name_cmp y.0 at) ≡ true) (λ y g. ap is_gt g) rows later))
    ∙ ap (λ (l : List Row). (at, value) ∷ l) (sym (kept rows later))
  where
    kept : (l : List Row) → AllByRecursion (λ (y : Row). name_cmp y.0 at ≡ Greater) l → map (λ (y : Row). cond (is_eq (name_cmp y.0 at)) (at, value) y) l ≡ l
    kept [] h = refl
    kept (y ∷ l) h = ap₂ (λ (a : Row) (b : List Row). a ∷ b) (cond-false (is_eq (name_cmp y.0 at)) (at, value) y (ap is_eq h.0)) (kept l h.1)
replaced_step Greater r rows at value row up e there behind =
    let above = above_all r rows at up (name_flipped_back r.0 at e) in
    let none : row_at at rows ≡ None =
    none_found_in (λ (y : Row). is_eq (name_cmp y.0 at)) rows (all_weaker (λ (y : Row). name_cmp y.0 at ≡ Greater) (λ y. is_eq (name_cmp y.0 at) ≡ false) (λ y g. ap is_eq g) rows above) in
    absurd (none-some row (sym none ∙ sym (cond-false (is_eq (name_cmp r.0 at)) (Some r) (row_at at rows) (ap is_eq e)) ∙ there))

-- a name that is there keeps its place where it is set
pub replaced : (rows : List Row) (at : Name) (value : List ℕ) (row : Row) → IsRising rows → row_at at rows ≡ Some row →
    rows_with at (Some value) rows ≡ map (λ (y : Row). cond (is_eq (name_cmp y.0 at)) (at, value) y) rows
replaced [] at value row up there = absurd (none-some row there)
replaced (r ∷ rows) at value row up there =
    replaced_step (name_cmp r.0 at) r rows at value row up refl there (λ later. replaced rows at value row (rising_tail r rows up) later)

-- a name that was taken out is set as if it had not been
pub set_over_unset : (rows : List Row) (at : Name) (value : List ℕ) → rows_with at (Some value) (rows_with at None rows) ≡ rows_with at (Some value) rows
set_over_unset rows at value =
    ap₂ (λ (a b : List Row). a ++ (at, value) ∷ b) (skipped is_lt refl rows) (skipped is_gt refl rows)
  where
    skipped : (test : Ordering → Bool) → test Equal ≡ false → (l : List Row) →
        filter (λ (r : Row). test (name_cmp r.0 at)) (filter (λ (r : Row). not (is_eq (name_cmp r.0 at))) l) ≡ filter (λ (r : Row). test (name_cmp r.0 at)) l
    skipped test fails [] = refl
    skipped test fails (r ∷ l) = by_order (name_cmp r.0 at) refl (skipped test fails l)
      where
        by_order : (o : Ordering) → name_cmp r.0 at ≡ o → filter (λ (y : Row). test (name_cmp y.0 at)) (filter (λ (y : Row). not (is_eq (name_cmp y.0 at))) l) ≡ filter (λ (y : Row). test (name_cmp y.0 at)) l →
            filter (λ (y : Row). test (name_cmp y.0 at)) (cond (not (is_eq o)) (r ∷ filter (λ (y : Row). not (is_eq (name_cmp y.0 at))) l) (filter (λ (y : Row). not (is_eq (name_cmp y.0 at))) l))
            ≡ cond (test o) (r ∷ filter (λ (y : Row). test (name_cmp y.0 at)) l) (filter (λ (y : Row). test (name_cmp y.0 at)) l)
        by_order Less e rest =
            ap (λ (b : Bool). cond b (r ∷ filter (λ (y : Row). test (name_cmp y.0 at)) (filter (λ (y : Row). not (is_eq (name_cmp y.0 at))) l)) (filter (λ (y : Row). test (name_cmp y.0 at)) (filter (λ (y : Row). not (is_eq (name_cmp y.0 at))) l))) (ap test e)
            ∙ ap (λ (m : List Row). cond (test Less) (r ∷ m) m) rest
        by_order Equal e rest = rest ∙ sym (cond-false (test Equal) (r ∷ filter (λ (y : Row). test (name_cmp y.0 at)) l) (filter (λ (y : Row). test (name_cmp y.0 at)) l) fails)
        by_order Greater e rest =
            ap (λ (b : Bool). cond b (r ∷ filter (λ (y : Row). test (name_cmp y.0 at)) (filter (λ (y : Row). not (is_eq (name_cmp y.0 at))) l)) (filter (λ (y : Row). test (name_cmp y.0 at)) (filter (λ (y : Row). not (is_eq (name_cmp y.0 at))) l))) (ap test e)
            ∙ ap (λ (m : List Row). cond (test Greater) (r ∷ m) m) rest
