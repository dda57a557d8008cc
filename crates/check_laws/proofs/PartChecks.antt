-- What a check finds in each part behind the trees begins with what opening finds there.
use Rattle.std.proofs.Common.{◌≡◌, ℕ, ◌+◌, ◌==◌, ◌&&◌, nat_le, not, ◌++◌, List, [], ◌∷◌, Bool, true, false, Some, map, filter, find, option_map, refl, ap, ◌∙◌}
use Rattle.log_replay.specs.Rows.{Row, catalog_number, catalog_index, has_primary, is_right_row, are_right}
use Rattle.log_replay.specs.Reading.{gap_behind, gap_in}
use Rattle.log_replay.specs.Wrong.{is_right_behind, lesser, least, numbered_by, wrong_in_catalog}
use Rattle.check_laws.specs.Parts.{NumberedKind, PartsBegin, first_item, gaps_behind, gaps_in, wrongs_in_catalog, kept_in_catalog, put_by_number, in_number_order}

gaps_by : (n m : ℕ) (ms : List ℕ) (b : Bool) → (m == n + 1) ≡ b → option_map (λ g. g.0) (first_item (gaps_behind m ms)) ≡ gap_behind m ms →
    option_map (λ g. g.0) (first_item (gaps_behind n (m ∷ ms))) ≡ gap_behind n (m ∷ ms)
gaps_by n m ms true e rest = rw e rest
gaps_by n m ms false e rest = rw e refl

pub gaps_first : (n : ℕ) (ms : List ℕ) → option_map (λ g. g.0) (first_item (gaps_behind n ms)) ≡ gap_behind n ms
gaps_first n [] = refl
gaps_first n (m ∷ ms) = gaps_by n m ms (m == n + 1) refl (gaps_first m ms)

gaps_begin : (ns : List ℕ) → option_map (λ g. g.0) (first_item (gaps_in ns)) ≡ gap_in ns
gaps_begin [] = refl
gaps_begin (n ∷ ns) = gaps_first n ns

catalog_by : (all : List Row) (before : List ℕ) (row : Row) (rows : List Row) (b : Bool) → (is_right_behind before row && has_primary all (catalog_index row.1)) ≡ b →
    first_item (wrongs_in_catalog all (before ++ catalog_number row.1 ∷ []) rows) ≡ wrong_in_catalog all (before ++ catalog_number row.1 ∷ []) rows →
    first_item (wrongs_in_catalog all before (row ∷ rows)) ≡ wrong_in_catalog all before (row ∷ rows)
catalog_by all before row rows true e rest = rw e rest
catalog_by all before row rows false e rest = rw e refl

pub catalog_begins : (all : List Row) (before : List ℕ) (rows : List Row) → first_item (wrongs_in_catalog all before rows) ≡ wrong_in_catalog all before rows
catalog_begins all before [] = refl
catalog_begins all before (row ∷ rows) =
    catalog_by all before row rows (is_right_behind before row && has_primary all (catalog_index row.1)) refl (catalog_begins all (before ++ catalog_number row.1 ∷ []) rows)

kept_by : (all : List Row) (before : List ℕ) (row : Row) (rows : List Row) (b : Bool) → (is_right_behind before row && has_primary all (catalog_index row.1)) ≡ b →
    (wrongs_in_catalog all (before ++ catalog_number row.1 ∷ []) rows ≡ [] → kept_in_catalog all (before ++ catalog_number row.1 ∷ []) rows ≡ rows) →
    wrongs_in_catalog all before (row ∷ rows) ≡ [] → kept_in_catalog all before (row ∷ rows) ≡ row ∷ rows
kept_by all before row rows true e rest none = let left = rw e at none in rw e (ap (λ (l : List Row). row ∷ l) (rest left))
kept_by all before row rows false e rest none = let wrong = rw e at none in absurd (cc wrong)

all_kept : (all : List Row) (before : List ℕ) (rows : List Row) → wrongs_in_catalog all before rows ≡ [] → kept_in_catalog all before rows ≡ rows
all_kept all before [] none = refl
all_kept all before (row ∷ rows) none =
    kept_by all before row rows (is_right_behind before row && has_primary all (catalog_index row.1)) refl (all_kept all (before ++ catalog_number row.1 ∷ []) rows) none

inserted_by : (d e : NumberedKind) (es : List NumberedKind) (b : Bool) → nat_le d.number e.number ≡ b → first_item (put_by_number d (e ∷ es)) ≡ lesser d (Some e)
inserted_by d e es true h = rw h refl
inserted_by d e es false h = rw h refl

inserted_first : (d : NumberedKind) (es : List NumberedKind) → first_item (put_by_number d es) ≡ lesser d (first_item es)
inserted_first d [] = refl
inserted_first d (e ∷ es) = inserted_by d e es (nat_le d.number e.number) refl

numbers_begin : (ds : List NumberedKind) → first_item (in_number_order ds) ≡ least ds
numbers_begin [] = refl
numbers_begin (d ∷ ds) = inserted_first d (in_number_order ds) ∙ ap (lesser d) (numbers_begin ds)

filtered_by : {A B : Type 0} (p : A → Bool) (f : A → B) (x : A) (xs : List A) (b : Bool) → p x ≡ b → first_item (map f (filter p xs)) ≡ option_map f (find p xs) →
    first_item (map f (filter p (x ∷ xs))) ≡ option_map f (find p (x ∷ xs))
filtered_by p f x xs true e rest = rw e refl
filtered_by p f x xs false e rest = rw e rest

pub filtered_first : {A B : Type 0} (p : A → Bool) (f : A → B) (xs : List A) → first_item (map f (filter p xs)) ≡ option_map f (find p xs)
filtered_first p f [] = refl
filtered_first p f (x ∷ xs) = filtered_by p f x xs (p x) refl (filtered_first p f xs)

pub parts_begin : PartsBegin
parts_begin = record {
  gaps = gaps_begin;
  catalog = catalog_begins;
  kept = all_kept;
  databases = λ rows. numbers_begin (filter (λ d. not (are_right d.kind (rows d.number))) (map numbered_by (rows 0)));
  records = λ kind rows. filtered_first (λ r. not (is_right_row kind r)) (λ r. r.0) rows;
}
