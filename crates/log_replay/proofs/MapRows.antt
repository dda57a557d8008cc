-- What the maps of std do to a database's records, as the definitions on lists say it.
use Rattle.std.proofs.Common.{◌≡◌, ℕ, List, [], ◌∷◌, ◌==◌, Bool, true, false, not, cond, refl, ap, sym, ◌∙◌, subst, arith}
use Rattle.std.specs.Option.{unwrap_or, option_map, IsSome}
use Rattle.std.specs.declared.option.Option.{Option}
use Rattle.std.specs.declared.option.Option.TheVariants.{None, Some}
use Rattle.std.specs.declared.cmp.Ordering.{Ordering}
use Rattle.std.specs.declared.cmp.Ordering.TheVariants.{Less, Equal, Greater}
use Rattle.std.specs.Result.{OnErr}
use Rattle.std.specs.declared.result.Result.{Result}
use Rattle.std.specs.declared.result.Result.TheVariants.{Ok, Err}
use Rattle.std.specs.Ordering.{is_eq, is_lt, is_gt, ordering_reverse, match_ordering, nat_cmp}
use Rattle.std.specs.Cmp.{IsTotalOrder}
use Rattle.std.specs.List.{filter, AllByRecursion, find}
use Rattle.std.specs.List.Sorted.{IsStrictlySortedBy}
use Rattle.std.specs.Map.{lookup, keys_of, remove_entry}
use Rattle.std.specs.BTreeMap.{insert_entry, is_at}
use Rattle.std.proofs.lemmas.Cmp.{nat_list_cmp_total, on_total, then_total}
use Rattle.je_order.specs.Order.{name_cmp}
use Rattle.je_order.specs.declared.name.Name.{Name}
use Rattle.log_replay.specs.Rows.{Row, IsRising, rows_with, rows_in, data_at}
use Rattle.std.proofs.lemmas.Bool.Decides.{nat_tests}
use Rattle.je_order.proofs.Orderings.{name_exact}

-- ---- name order

pub name_cmp_total : IsTotalOrder name_cmp
name_cmp_total = then_total (on_total (λ (n : Name). n.key) nat_list_cmp_total) (on_total (λ (n : Name). n.dup) nat_list_cmp_total)

flipped : (a b : Name) (r : Ordering) → name_cmp a b ≡ r → name_cmp b a ≡ ordering_reverse r
flipped a b r h = name_cmp_total.antisymm b a ∙ ap ordering_reverse h

-- ---- rising

-- each of the rows stands behind this name
IsBefore : Name → List Row → Type 0
IsBefore name rows = AllByRecursion (λ k. name_cmp name k ≡ Less) (keys_of rows)

unfold_before : (name : Name) (rows : List Row) → AllByRecursion (λ (r : Row). name_cmp name r.0 ≡ Less) rows → IsBefore name rows
unfolding IsBefore
unfold_before name [] h = tt
unfold_before name (r ∷ rows) h = (h.0, unfold_before name rows h.1)

fold_before : (name : Name) (rows : List Row) → IsBefore name rows → AllByRecursion (λ (r : Row). name_cmp name r.0 ≡ Less) rows
unfolding IsBefore
fold_before name [] h = tt
fold_before name (r ∷ rows) h = (h.0, fold_before name rows h.1)

-- a map whose keys ascend has rising rows, and the other way round
pub rising_from_keys : (rows : List Row) → IsStrictlySortedBy name_cmp (keys_of rows) → IsRising rows
unfolding IsStrictlySortedBy IsBefore
rising_from_keys [] h = tt
rising_from_keys (r ∷ rows) h = (fold_before r.0 rows h.0, rising_from_keys rows h.1)

pub keys_from_rising : (rows : List Row) → IsRising rows → IsStrictlySortedBy name_cmp (keys_of rows)
unfolding IsStrictlySortedBy IsBefore
keys_from_rising [] h = tt
keys_from_rising (r ∷ rows) h = (unfold_before r.0 rows h.0, keys_from_rising rows h.1)

rising_head : (r : Row) (rows : List Row) → IsRising (r ∷ rows) → IsBefore r.0 rows
unfolding IsStrictlySortedBy
rising_head r rows h = unfold_before r.0 rows h.0

rising_tail : (r : Row) (rows : List Row) → IsRising (r ∷ rows) → IsRising rows
unfolding IsStrictlySortedBy
rising_tail r rows h = h.1

before_trans : (a b : Name) (rows : List Row) → name_cmp a b ≡ Less → IsBefore b rows → IsBefore a rows
unfolding IsBefore
before_trans a b [] h all = tt
before_trans a b (r ∷ rows) h all = (name_cmp_total.trans a b r.0 h all.0, before_trans a b rows h all.1)

-- ---- filters of rows that stand behind a name

none_less : (name : Name) (rows : List Row) → IsBefore name rows → filter (λ r. is_lt (name_cmp r.0 name)) rows ≡ []
unfolding IsBefore
none_less name [] h = refl
none_less name (r ∷ rows) h = rw (flipped name r.0 Less h.0) (none_less name rows h.1)

all_greater : (name : Name) (rows : List Row) → IsBefore name rows → filter (λ r. is_gt (name_cmp r.0 name)) rows ≡ rows
unfolding IsBefore
all_greater name [] h = refl
all_greater name (r ∷ rows) h = rw (flipped name r.0 Less h.0) (ap (λ (l : List Row). r ∷ l) (all_greater name rows h.1))

all_others : (name : Name) (rows : List Row) → IsBefore name rows → filter (λ r. not (is_eq (name_cmp r.0 name))) rows ≡ rows
unfolding IsBefore
all_others name [] h = refl
all_others name (r ∷ rows) h = rw (flipped name r.0 Less h.0) (ap (λ (l : List Row). r ∷ l) (all_others name rows h.1))

-- ---- insert, remove and look up

-- at the front row, by how the name compares to it
insert_at : (name : Name) (value : List ℕ) (r : Row) (rows : List Row) (o : Ordering) → name_cmp name r.0 ≡ o →
    IsBefore r.0 rows → insert_entry name_cmp rows name value ≡ rows_with name (Some value) rows →
    match_ordering o ((name, value) ∷ r ∷ rows) ((r.0, value) ∷ rows) (r ∷ insert_entry name_cmp rows name value) ≡ rows_with name (Some value) (r ∷ rows)
insert_at name value r rows Less h before step =
    let behind : IsBefore name rows = before_trans name r.0 rows h before in
    rw (flipped name r.0 Less h, none_less name rows behind, all_greater name rows behind) refl
insert_at name value r rows Equal h before step =
    let same : name ≡ r.0 = name_exact name r.0 h in
    let behind : IsBefore name rows = subst (λ (n : Name). IsBefore n rows) (sym same) before in
    rw (flipped name r.0 Equal h, none_less name rows behind, all_greater name rows behind) (ap (λ (n : Name). let e : Row = (n, value) in e ∷ rows) (sym same))
insert_at name value r rows Greater h before step =
    rw (flipped name r.0 Greater h) (ap (λ (l : List Row). r ∷ l) step)

-- a map's insertion sets the name
pub insert_is_set : (name : Name) (value : List ℕ) (rows : List Row) → IsRising rows →
    insert_entry name_cmp rows name value ≡ rows_with name (Some value) rows
insert_is_set name value [] h = refl
insert_is_set name value (r ∷ rows) h =
    insert_at name value r rows (name_cmp name r.0) refl (rising_head r rows h) (insert_is_set name value rows (rising_tail r rows h))

remove_at : (name : Name) (r : Row) (rows : List Row) (o : Ordering) → name_cmp name r.0 ≡ o →
    IsBefore r.0 rows → remove_entry (is_at (name_cmp name)) rows ≡ rows_with name None rows →
    cond (is_eq o) rows (r ∷ remove_entry (is_at (name_cmp name)) rows) ≡ rows_with name None (r ∷ rows)
remove_at name r rows Less h before step = rw (flipped name r.0 Less h) (ap (λ (l : List Row). r ∷ l) step)
remove_at name r rows Equal h before step =
    let same : name ≡ r.0 = name_exact name r.0 h in
    let behind : IsBefore name rows = subst (λ (n : Name). IsBefore n rows) (sym same) before in
    rw (flipped name r.0 Equal h) (sym (all_others name rows behind))
remove_at name r rows Greater h before step = rw (flipped name r.0 Greater h) (ap (λ (l : List Row). r ∷ l) step)

-- a map's removal takes the name out
pub remove_is_unset : (name : Name) (rows : List Row) → IsRising rows →
    remove_entry (is_at (name_cmp name)) rows ≡ rows_with name None rows
remove_is_unset name [] h = refl
remove_is_unset name (r ∷ rows) h =
    remove_at name r rows (name_cmp name r.0) refl (rising_head r rows h) (remove_is_unset name rows (rising_tail r rows h))

pub flips_equal : (a b : Name) (o : Ordering) → name_cmp a b ≡ o → is_eq (name_cmp b a) ≡ is_eq o
flips_equal a b Less h = rw (flipped a b Less h) refl
flips_equal a b Equal h = rw (flipped a b Equal h) refl
flips_equal a b Greater h = rw (flipped a b Greater h) refl

-- a map's look-up finds the name's data
pub lookup_is_data : (name : Name) (rows : List Row) → lookup (is_at (name_cmp name)) rows ≡ data_at name rows
lookup_is_data name [] = refl
lookup_is_data name (r ∷ rows) =
    rw (flips_equal name r.0 (name_cmp name r.0) refl) (by_case (is_eq (name_cmp name r.0)) (lookup_is_data name rows))
  where
    by_case : (b : Bool) → lookup (is_at (name_cmp name)) rows ≡ data_at name rows → cond b (Some r.1) (lookup (is_at (name_cmp name)) rows) ≡ option_map (λ (e : Row). e.1) (cond b (Some r) (find (λ (e : Row). is_eq (name_cmp e.0 name)) rows))
    by_case true step = refl
    by_case false step = step

-- ---- lists by numbers, as a map keeps them

-- the list under a number; nothing where there is none
abbrev pub list_in : {X : Type 0} → List (ℕ × List X) → ℕ → List X
list_in kept n = unwrap_or (lookup (λ m. m == n) kept) []

number_test : (n m : ℕ) → is_eq (nat_cmp n m) ≡ (m == n)
number_test n m = grind (arith, nat_tests)

lookup_number : {X : Type 0} (n : ℕ) (kept : List (ℕ × List X)) → lookup (is_at (nat_cmp n)) kept ≡ lookup (λ m. m == n) kept
lookup_number n [] = refl
lookup_number {X} n (e ∷ kept) = rw (number_test n e.0) (ap (λ (o : Option (List X)). cond (e.0 == n) (Some e.1) o) (lookup_number n kept))

list_found : {X : Type 0} (n : ℕ) (kept : List (ℕ × List X)) → unwrap_or (lookup (is_at (nat_cmp n)) kept) [] ≡ list_in kept n
list_found n kept = rw (lookup_number n kept) refl

-- `new` has what `old` has, and under one number another list or none
abbrev pub IsUpdated : {X : Type 0} → ℕ → Option (List X) → List (ℕ × List X) → List (ℕ × List X) → Type 0
IsUpdated n list old new = (q : ℕ) → lookup (is_at (nat_cmp q)) new ≡ cond (is_at (nat_cmp n) q) list (lookup (is_at (nat_cmp q)) old)

pub list_updated : {X : Type 0} (n : ℕ) (list : Option (List X)) (old new : List (ℕ × List X)) → IsUpdated n list old new →
    (m : ℕ) → list_in new m ≡ cond (m == n) (unwrap_or list []) (list_in old m)
list_updated {X} n list old new updates m =
    rw (← list_found m new, updates m, number_test n m, ← list_found m old) (by_case (m == n))
  where
    by_case : (b : Bool) → unwrap_or (cond b list (lookup (is_at (nat_cmp m)) old)) [] ≡ cond b (unwrap_or list []) (unwrap_or (lookup (is_at (nat_cmp m)) old) [])
    by_case true = refl
    by_case false = refl

-- what a look-up found stands under the number
pub list_is_found : {X : Type 0} (n : ℕ) (found : List X) (kept : List (ℕ × List X)) → Some found ≡ lookup (is_at (nat_cmp n)) kept → list_in kept n ≡ found
list_is_found {X} n found kept is = sym (list_found n kept) ∙ ap (λ (o : Option (List X)). unwrap_or o []) (sym is)

pub list_is_absent : {X : Type 0} (n : ℕ) (kept : List (ℕ × List X)) → None ≡ lookup (is_at (nat_cmp n)) kept → list_in kept n ≡ []
list_is_absent {X} n kept is = sym (list_found n kept) ∙ ap (λ (o : Option (List X)). unwrap_or o []) (sym is)

pub is_there : {X : Type 0} (n : ℕ) (found : List X) (kept : List (ℕ × List X)) → Some found ≡ lookup (is_at (nat_cmp n)) kept → IsSome (lookup (is_at (nat_cmp n)) kept)
is_there {X} n found kept is = let P : Option (List X) → Type 0 = λ o. IsSome o in subst P is refl

-- ---- the records by databases

pub rising_updated : (db : ℕ) (rows : List Row) (old new : List (ℕ × List Row)) → IsUpdated db (Some rows) old new →
    IsRising rows → ((d : ℕ) → IsRising (rows_in old d)) → (d : ℕ) → IsRising (rows_in new d)
rising_updated db rows old new updates rising all d = rw (list_updated db (Some rows) old new updates d) (by_case (d == db))
  where
    by_case : (b : Bool) → IsRising (cond b rows (rows_in old d))
    by_case true = rising
    by_case false = all d

pub no_rows_rise : (kept : List (ℕ × List Row)) → kept ≡ [] → (d : ℕ) → IsRising (rows_in kept d)
unfolding IsStrictlySortedBy
no_rows_rise kept none d = rw none tt

-- the records with one database's replaced by what it has
pub rows_same : (db : ℕ) (found rows : List Row) (old new : List (ℕ × List Row)) → Some found ≡ lookup (is_at (nat_cmp db)) old →
    IsUpdated db (Some rows) old new → rows ≡ found → (d : ℕ) → rows_in new d ≡ rows_in old d
rows_same db found rows old new is updates same d = list_updated db (Some rows) old new updates d ∙ by_case (d == db) refl
  where
    by_case : (b : Bool) → (d == db) ≡ b → cond b rows (rows_in old d) ≡ rows_in old d
    by_case true h =
        let at : d ≡ db = grind (arith, nat_tests) in
        same ∙ sym (list_is_found db found old is) ∙ ap (λ (n : ℕ). rows_in old n) (sym at)
    by_case false h = refl

-- what follows from what an Err says
pub on_err_weaker : {T E P Q : Type 0} (r : Result T E) → (P → Q) → OnErr r P → OnErr r Q
on_err_weaker (Ok x) f h = tt
on_err_weaker (Err e) f h = f h
