-- No record is wrong exactly where the records are those of an environment.
use Rattle.std.proofs.Common.{◌≡◌, ℕ, suc, ◌+◌, ◌<◌, ◌≤◌, List, [], ◌∷◌, ◌++◌, ◌==◌, ◌&&◌, ◌||◌, Bool, true, false, not, cond, refl, ap, sym, ◌∙◌, map, length, Option, Some, None, nat_le, nat_lt, arith, filter, option_map, ◌⊎◌, inl, inr}
use Rattle.std.specs.Prelude.{find}
use Rattle.std.proofs.lemmas.Bool.Decides.{nat_tests}
use Rattle.std.proofs.lemmas.Bool.{cond-true, cond-false, and_parts, and_from}
use Rattle.std.proofs.lemmas.Option.{none-some, same_Some}
use Rattle.std.proofs.lemmas.List.Folds.{list_any-append}
use Rattle.std.proofs.lemmas.List.{length-append}
use Rattle.std.specs.List.{list_all, list_any}
use Rattle.je_order.specs.declared.name.Name.{Name}
use Rattle.store_model.specs.declared.store.TheConstants.{MOST_DATABASES}
use Rattle.store_model.specs.declared.kind.Kind.{Kind}
use Rattle.log_replay.specs.declared.place.Place.{Place}
use Rattle.log_replay.specs.declared.numbered.Numbered.{Numbered}
use Rattle.log_replay.specs.Rows.{Row, Rows, is_catalog_row, catalog_number, catalog_kind, catalog_index, has_primary, are_distinct, is_right_row, are_right, rows_of_row, numbers_of, is_environment}
use Rattle.log_replay.specs.Wrong.{or_else, is_right_behind, wrong_in_catalog, wrong_in, numbered_by, lesser, least, wrong_database, wrong_under, wrong_record}

is_none : {A : Type 0} → Option A → Bool
is_none None = true
is_none (Some x) = false

-- none of these numbers is one of those
abbrev are_others : List ℕ → List ℕ → Bool
are_others before ns = list_all (λ n. not (list_any (λ m. m == n) before)) ns

-- the test of a whole catalog behind records of these numbers
abbrev is_catalog_behind : List ℕ → List Row → Bool
is_catalog_behind before rows =
    list_all is_catalog_row rows && are_others before (map (λ r. catalog_number r.1) rows) && are_distinct (map (λ r. catalog_number r.1) rows)
    && nat_le (length before + length rows) MOST_DATABASES

others_more : (before ns : List ℕ) (n : ℕ) → are_others (before ++ n ∷ []) ns ≡ (are_others before ns && not (list_any (λ m. m == n) ns))
others_more before [] n = refl
others_more before (k ∷ ns) n =
    rw (list_any-append (λ m. m == k) before (n ∷ []), others_more before ns n, turned n k)
    (by_case (list_any (λ m. m == k) before) (k == n) (are_others before ns) (list_any (λ m. m == n) ns))
  where
    turned : (a b : ℕ) → (a == b) ≡ (b == a)
    turned a b = grind (arith, nat_tests)

    by_case : (a b c d : Bool) → (not (a || (b || false)) && (c && not d)) ≡ ((not a && c) && not (b || d))
    by_case true b c d = refl
    by_case false true true d = refl
    by_case false true false d = refl
    by_case false false c d = refl

-- one row more, by the tests of the row and of those behind it
row_more : (a b c l o x d q rest : Bool) → ((a && b && c) ≡ true → rest ≡ (l && (o && x) && d && q)) → (c ≡ false → q ≡ false) →
    cond (a && b && c) rest false ≡ ((a && l) && (b && o) && (x && d) && q)
row_more false b c l o x d q rest right full = refl
row_more true false c false o x d q rest right full = refl
row_more true false c true o x d q rest right full = refl
row_more true true false l o x d true rest right full = let not = full refl in absurd cc
row_more true true false false o x d false rest right full = refl
row_more true true false true false x d false rest right full = refl
row_more true true false true true false d false rest right full = refl
row_more true true false true true true false false rest right full = refl
row_more true true false true true true true false rest right full = refl
row_more true true true l o x d q rest right full = right refl ∙ same l o x d q
  where
    same : (l o x d q : Bool) → (l && (o && x) && d && q) ≡ ((true && l) && (true && o) && (x && d) && q)
    same false o x d q = refl
    same true false x d q = refl
    same true true false d q = refl
    same true true true d q = refl

none_of : {A : Type 0} (t : Bool) (o : Option A) (x : A) → is_none (cond t o (Some x)) ≡ cond t (is_none o) false
unfolding is_none
none_of true o x = refl
none_of false o x = refl

none_is : {A : Type 0} (o : Option A) → is_none o ≡ true → o ≡ None
unfolding is_none
none_is None h = refl
none_is (Some x) h = cc

all_parts_true : (a b c : Bool) → (a && b && c) ≡ true → (a ≡ true) × (b ≡ true) × (c ≡ true)
all_parts_true true true true h = (refl, refl, refl)
all_parts_true true true false h = cc
all_parts_true true false c h = cc
all_parts_true false b c h = cc

-- the same search, which does not look at primaries
abbrev first_behind : List ℕ → List Row → Option Name
first_behind before [] = None
first_behind before (row ∷ rows) = cond (is_right_behind before row) (first_behind (before ++ catalog_number row.1 ∷ []) rows) (Some row.0)

-- no record of a catalog is wrong exactly where the whole catalog is right
catalog_none : (before : List ℕ) (rows : List Row) → length before ≤ MOST_DATABASES → is_none (first_behind before rows) ≡ is_catalog_behind before rows
unfolding is_none
catalog_none before [] few =
    let fits : nat_le (length before + 0) MOST_DATABASES ≡ true = grind (arith, nat_tests) in rw fits refl
catalog_none before (r ∷ rows) few =
    let n = catalog_number r.1 in
    let ns = map (λ (x : Row). catalog_number x.1) rows in
    let longer : length (before ++ n ∷ []) ≡ length before + 1 = length-append before (n ∷ []) in
    let behind : nat_lt (length before) MOST_DATABASES ≡ true → is_none (first_behind (before ++ n ∷ []) rows) ≡ is_catalog_behind (before ++ n ∷ []) rows =
    λ room. catalog_none (before ++ n ∷ []) rows (let lt : length before < MOST_DATABASES = grind (arith, nat_tests) in omega (arith, longer, lt)) in
    let ends : nat_le (length (before ++ n ∷ []) + length rows) MOST_DATABASES ≡ nat_le (length before + suc (length rows)) MOST_DATABASES =
    ap (λ k. nat_le k MOST_DATABASES) (omega (arith, longer)) in
    none_of (is_right_behind before r) (first_behind (before ++ n ∷ []) rows) r.0
    ∙ row_more (is_catalog_row r) (not (list_any (λ m. m == n) before)) (nat_lt (length before) MOST_DATABASES) (list_all is_catalog_row rows) (are_others before ns)
    (not (list_any (λ m. m == n) ns)) (are_distinct ns) (nat_le (length before + suc (length rows)) MOST_DATABASES) (is_none (first_behind (before ++ n ∷ []) rows))
    (λ right. behind (all_parts_true (is_catalog_row r) (not (list_any (λ m. m == n) before)) (nat_lt (length before) MOST_DATABASES) right).2
    ∙ rw (others_more before ns n, ends) refl)
    (λ full. grind (arith, nat_tests, full))

-- and where each primary is there
abbrev with_primary : List Row → Row → Bool
with_primary catalog r = has_primary catalog (catalog_index r.1)

primaries_none : (catalog : List Row) (before : List ℕ) (rows : List Row) →
    is_none (wrong_in_catalog catalog before rows) ≡ (is_none (first_behind before rows) && list_all (with_primary catalog) rows)
unfolding is_none
primaries_none catalog before [] = refl
primaries_none catalog before (r ∷ rows) =
    by_tests (is_right_behind before r) (with_primary catalog r) (wrong_in_catalog catalog (before ++ catalog_number r.1 ∷ []) rows)
    (first_behind (before ++ catalog_number r.1 ∷ []) rows) (list_all (with_primary catalog) rows) (primaries_none catalog (before ++ catalog_number r.1 ∷ []) rows)
  where
    either_no : (o : Option Name) (b : Bool) → false ≡ (is_none o && (false && b))
    either_no None b = refl
    either_no (Some name) b = refl

    by_tests : (a p : Bool) (now old : Option Name) (all : Bool) → is_none now ≡ (is_none old && all) →
        is_none (cond (a && p) now (Some r.0)) ≡ (is_none (cond a old (Some r.0)) && (p && all))
    by_tests true true now old all same = same
    by_tests true false now old all same = either_no old all
    by_tests false p now old all same = refl

-- ---- the databases

-- whether a database's records are right
abbrev is_right_database : Rows → Numbered → Bool
is_right_database rows d = are_right d.kind (rows d.number)

lesser_by : (b : Bool) (k m n : Numbered) → Some (cond b k m) ≡ Some n → (n ≡ k) ⊎ (Some m ≡ Some n)
lesser_by true k m n h = inl (sym (same_Some k n h))
lesser_by false k m n h = inr h

lesser_is : (k n : Numbered) (o : Option Numbered) → lesser k o ≡ Some n → (n ≡ k) ⊎ (o ≡ Some n)
lesser_is k n None h = inl (sym (same_Some k n h))
lesser_is k n (Some m) h = lesser_by (nat_le k.number m.number) k m n h

lesser_some : (k : Numbered) (o : Option Numbered) → lesser k o ≡ None → ⊥
lesser_some k None h = none-some k (sym h)
lesser_some k (Some m) h = none-some (cond (nat_le k.number m.number) k m) (sym h)

-- the least of those that pass passes
least_passes : (p : Numbered → Bool) (ns : List Numbered) (n : Numbered) → least (filter p ns) ≡ Some n → p n ≡ true
least_passes p [] n h = absurd (none-some n h)
least_passes p (k ∷ ns) n h = by_case (p k) refl h (least_passes p ns n)
  where
    by_case : (b : Bool) → p k ≡ b → least (cond b (k ∷ filter p ns) (filter p ns)) ≡ Some n → (least (filter p ns) ≡ Some n → p n ≡ true) → p n ≡ true
    by_case true is found behind = elim (lesser_is k n (least (filter p ns)) found) [ inl same ↦ ap p same ∙ is | inr there ↦ behind there ]
    by_case false is found behind = behind found

least_none : (q : Numbered → Bool) (ns : List Numbered) → least (filter (λ n. not (q n)) ns) ≡ None → list_all q ns ≡ true
least_none q [] h = refl
least_none q (k ∷ ns) h = by_case (q k) refl h (least_none q ns)
  where
    by_case : (b : Bool) → q k ≡ b → least (cond (not b) (k ∷ filter (λ n. not (q n)) ns) (filter (λ n. not (q n)) ns)) ≡ None →
        (least (filter (λ n. not (q n)) ns) ≡ None → list_all q ns ≡ true) → (b && list_all q ns) ≡ true
    by_case true is none behind = behind none
    by_case false is none behind = absurd (lesser_some k (least (filter (λ n. not (q n)) ns)) none)

least_of_none : (q : Numbered → Bool) (ns : List Numbered) → list_all q ns ≡ true → least (filter (λ n. not (q n)) ns) ≡ None
least_of_none q [] h = refl
least_of_none q (k ∷ ns) h = by_case (q k) h (least_of_none q ns)
  where
    by_case : (b : Bool) → (b && list_all q ns) ≡ true → (list_all q ns ≡ true → least (filter (λ n. not (q n)) ns) ≡ None) →
        least (cond (not b) (k ∷ filter (λ n. not (q n)) ns) (filter (λ n. not (q n)) ns)) ≡ None
    by_case true all behind = behind all
    by_case false all behind = cc

right_none : (kind : Kind) (rows : List Row) → wrong_in kind rows ≡ None → are_right kind rows ≡ true
right_none kind [] h = refl
right_none kind (r ∷ rows) h = by_case (is_right_row kind r) h (right_none kind rows)
  where
    by_case : (b : Bool) → option_map (λ (x : Row). x.0) (cond (not b) (Some r) (find (λ x. not (is_right_row kind x)) rows)) ≡ None →
        (wrong_in kind rows ≡ None → are_right kind rows ≡ true) → (b && are_right kind rows) ≡ true
    by_case true none behind = behind none
    by_case false none behind = cc

-- a test of the databases is one of the catalog's records
all_numbered : (q : Numbered → Bool) (rows : List Row) → list_all q (map numbered_by rows) ≡ list_all (λ r. q (numbered_by r)) rows
all_numbered q [] = refl
all_numbered q (r ∷ rows) = ap (λ b. q (numbered_by r) && b) (all_numbered q rows)

mapped_none : {A B : Type 0} (f : A → B) (o : Option A) → option_map f o ≡ None → o ≡ None
mapped_none f None h = refl
mapped_none f (Some x) h = cc

under_none : (rows : Rows) (o : Option Numbered) → wrong_database rows ≡ o → wrong_under rows o ≡ None → list_all (is_right_database rows) (map numbered_by (rows 0)) ≡ true
under_none rows None is h = least_none (is_right_database rows) (map numbered_by (rows 0)) is
under_none rows (Some d) is h =
    let bad : not (is_right_database rows d) ≡ true = least_passes (λ n. not (is_right_database rows n)) (map numbered_by (rows 0)) d is in
    let good : is_right_database rows d ≡ true =
    right_none d.kind (rows d.number) (mapped_none (λ (name : Name). let p : Place = record { db = d.number; name = name } in p) (wrong_in d.kind (rows d.number)) h) in
    let never : not true ≡ true = ap not (sym good) ∙ bad in absurd cc

neither : {A : Type 0} (a b : Option A) → or_else a b ≡ None → (a ≡ None) × (b ≡ None)
neither None b h = (refl, h)
neither (Some x) b h = cc

no_others : (ns : List ℕ) → are_others [] ns ≡ true
no_others [] = refl
no_others (n ∷ ns) = no_others ns

of_four : (a b c d : Bool) → a ≡ true → b ≡ true → c ≡ true → d ≡ true → (a && b && c && d) ≡ true
of_four a b c d ha hb hc hd = rw (ha, hb, hc, hd) refl

four_of : (a b c d : Bool) → (a && b && c && d) ≡ true → (a ≡ true) × (b ≡ true) × (c ≡ true) × (d ≡ true)
four_of true true true true h = (refl, refl, refl, refl)
four_of true true true false h = cc
four_of true true false d h = cc
four_of true false c d h = cc
four_of false b c d h = cc

-- the tests of an environment
abbrev four_tests : Rows → Bool
four_tests rows =
    list_all is_catalog_row (rows 0) && are_distinct (numbers_of rows) && list_all (λ (r : Row). are_right (catalog_kind r.1) (rows_of_row rows r)) (rows 0)
    && nat_le (length (rows 0)) MOST_DATABASES

-- where no record is wrong, the records are those of an environment
pub none_is_environment : (rows : Rows) → wrong_record rows ≡ None → is_environment rows ≡ true
unfolding is_none
none_is_environment rows h =
    let both = neither (option_map (λ (name : Name). let p : Place = record { db = 0; name = name } in p) (wrong_in_catalog (rows 0) [] (rows 0))) (wrong_under rows (wrong_database rows)) h in
    let none : wrong_in_catalog (rows 0) [] (rows 0) ≡ None = mapped_none (λ (name : Name). let p : Place = record { db = 0; name = name } in p) (wrong_in_catalog (rows 0) [] (rows 0)) both.0 in
    let two = and_parts (is_none (first_behind [] (rows 0))) (list_all (with_primary (rows 0)) (rows 0)) (sym (primaries_none (rows 0) [] (rows 0)) ∙ ap is_none none) in
    let catalog : is_catalog_behind [] (rows 0) ≡ true = sym (catalog_none [] (rows 0) (omega arith)) ∙ two.0 in
    let parts = four_of (list_all is_catalog_row (rows 0)) (are_others [] (numbers_of rows)) (are_distinct (numbers_of rows)) (nat_le (0 + length (rows 0)) MOST_DATABASES) catalog in
    let few : nat_le (length (rows 0)) MOST_DATABASES ≡ true = ap (λ n. nat_le n MOST_DATABASES) (omega arith) ∙ parts.3 in
    and_from (four_tests rows) (list_all (with_primary (rows 0)) (rows 0))
    (of_four (list_all is_catalog_row (rows 0)) (are_distinct (numbers_of rows)) (list_all (λ (r : Row). are_right (catalog_kind r.1) (rows_of_row rows r)) (rows 0)) (nat_le (length (rows 0)) MOST_DATABASES)
    parts.0 parts.2 (sym (all_numbered (is_right_database rows) (rows 0)) ∙ under_none rows (wrong_database rows) refl both.1) few)
    two.1

-- and the other way round
pub environment_is_none : (rows : Rows) → is_environment rows ≡ true → wrong_record rows ≡ None
unfolding is_none
environment_is_none rows h =
    let two = and_parts (four_tests rows) (list_all (with_primary (rows 0)) (rows 0)) h in
    let parts = four_of (list_all is_catalog_row (rows 0)) (are_distinct (numbers_of rows)) (list_all (λ (r : Row). are_right (catalog_kind r.1) (rows_of_row rows r)) (rows 0)) (nat_le (length (rows 0)) MOST_DATABASES) two.0 in
    let few : nat_le (0 + length (rows 0)) MOST_DATABASES ≡ true = ap (λ n. nat_le n MOST_DATABASES) (omega arith) ∙ parts.3 in
    let catalog : is_catalog_behind [] (rows 0) ≡ true =
    of_four (list_all is_catalog_row (rows 0)) (are_others [] (numbers_of rows)) (are_distinct (numbers_of rows)) (nat_le (0 + length (rows 0)) MOST_DATABASES)
    parts.0 (no_others (numbers_of rows)) parts.1 few in
    let none : wrong_in_catalog (rows 0) [] (rows 0) ≡ None =
    none_is (wrong_in_catalog (rows 0) [] (rows 0))
    (primaries_none (rows 0) [] (rows 0)
    ∙ and_from (is_none (first_behind [] (rows 0))) (list_all (with_primary (rows 0)) (rows 0)) (catalog_none [] (rows 0) (omega arith) ∙ catalog) two.1) in
    let databases : wrong_database rows ≡ None = least_of_none (is_right_database rows) (map numbered_by (rows 0)) (all_numbered (is_right_database rows) (rows 0) ∙ parts.2) in
    rw (none, databases) refl

-- ---- the search for the least

-- the least of what was found and of what is left
abbrev pub lesser_of_both : Option Numbered → Option Numbered → Option Numbered
lesser_of_both None other = other
lesser_of_both (Some d) other = lesser d other

-- the lesser of three, from either side
lesser_thrice : (k d l : Numbered) (a b : Bool) → nat_le k.number d.number ≡ a → nat_le d.number l.number ≡ b →
    cond (nat_le (cond a k d).number l.number) (cond a k d) l ≡ cond (nat_le k.number (cond b d l).number) k (cond b d l)
lesser_thrice k d l true true ea eb =
    let e : nat_le k.number l.number ≡ true = grind (arith, nat_tests) in
    cond-true (nat_le k.number l.number) k l e ∙ sym (cond-true (nat_le k.number d.number) k d ea)
lesser_thrice k d l true false ea eb = refl
lesser_thrice k d l false true ea eb = cond-true (nat_le d.number l.number) d l eb ∙ sym (cond-false (nat_le k.number d.number) k d ea)
lesser_thrice k d l false false ea eb =
    let e : nat_le k.number l.number ≡ false = grind (arith, nat_tests) in
    cond-false (nat_le d.number l.number) d l eb ∙ sym (cond-false (nat_le k.number l.number) k l e)

-- a database more was looked at
pub lesser_more : (found rest : Option Numbered) (d m : Numbered) → (found ≡ None → m ≡ d) → ((k : Numbered) → found ≡ Some k → Some m ≡ lesser k (Some d)) →
    lesser_of_both (Some m) rest ≡ lesser_of_both found (lesser d rest)
lesser_more None rest d m none some = ap (λ (k : Numbered). lesser k rest) (none refl)
lesser_more (Some k) None d m none some = some k refl
lesser_more (Some k) (Some l) d m none some =
    ap (λ (o : Option Numbered). lesser_all o l) (some k refl)
    ∙ ap (λ (n : Numbered). Some n) (lesser_thrice k d l (nat_le k.number d.number) (nat_le d.number l.number) refl refl)
  where
    lesser_all : Option Numbered → Numbered → Option Numbered
    lesser_all None n = None
    lesser_all (Some m) n = Some (cond (nat_le m.number n.number) m n)

-- a database that is wrong was looked at, and one that is right
pub wrong_met : (right : Numbered → Bool) (d m : Numbered) (left rest : List Numbered) (found next : Option Numbered) → left ≡ d ∷ rest → right d ≡ false → next ≡ Some m →
    (found ≡ None → m ≡ d) → ((k : Numbered) → found ≡ Some k → Some m ≡ lesser k (Some d)) →
    lesser_of_both next (least (filter (λ n. not (right n)) rest)) ≡ lesser_of_both found (least (filter (λ n. not (right n)) left))
wrong_met right d m left rest found next parts wrong is none some =
    ap (λ (o : Option Numbered). lesser_of_both o (least (filter (λ n. not (right n)) rest))) is
    ∙ lesser_more found (least (filter (λ n. not (right n)) rest)) d m none some
    ∙ ap (λ (l : List Numbered). lesser_of_both found (least l))
    (sym (cond-true (not (right d)) (d ∷ filter (λ n. not (right n)) rest) (filter (λ n. not (right n)) rest) (ap not wrong)))
    ∙ ap (λ (l : List Numbered). lesser_of_both found (least (filter (λ n. not (right n)) l))) (sym parts)

pub right_met : (right : Numbered → Bool) (d : Numbered) (left rest : List Numbered) (found next : Option Numbered) → left ≡ d ∷ rest → right d ≡ true → next ≡ found →
    lesser_of_both next (least (filter (λ n. not (right n)) rest)) ≡ lesser_of_both found (least (filter (λ n. not (right n)) left))
right_met right d left rest found next parts ok is =
    ap (λ (o : Option Numbered). lesser_of_both o (least (filter (λ n. not (right n)) rest))) is
    ∙ ap (λ (l : List Numbered). lesser_of_both found (least l))
    (sym (cond-false (not (right d)) (d ∷ filter (λ n. not (right n)) rest) (filter (λ n. not (right n)) rest) (ap not ok)))
    ∙ ap (λ (l : List Numbered). lesser_of_both found (least (filter (λ n. not (right n)) l))) (sym parts)
