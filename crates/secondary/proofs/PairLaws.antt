-- Sorted pairs of records are those of an index.
use Rattle.std.proofs.Common.{◌≡◌, ℕ, ◌+◌, ◌≤◌, ◌++◌, List, [], ◌∷◌, suc, Bool, true, false, cond, ◌&&◌, Option, None, Some, get_or, map, refl, ap, sym, ◌∙◌, Ordering, Less, Equal, Greater, is_eq, is_lt, arith}
use Rattle.std.specs.Prelude.{option_map, sum_by}
use Rattle.std.specs.List.{AllByRecursion}
use Rattle.std.specs.List.Sorted.{IsPermutation, IsSortedBy, IsStrictlySortedBy}
use Rattle.std.specs.Ordering.{ordering_reverse}
use Rattle.std.proofs.lemmas.List.Sorted.{sum_by-IsPermutation, IsPermutation-map}
use Rattle.std.proofs.lemmas.List.Sums.{sum_by-cons}
use Rattle.je_order.specs.Order.{name_cmp, is_same_bytes}
use Rattle.je_order.specs.declared.name.Name.{Name}
use Rattle.store_model.specs.declared.kind.Kind.TheVariants.{Plain, Dup}
use Rattle.store_model.specs.declared.extract.Extract.{Extract}
use Rattle.store_model.specs.Store.{Pair, named, name_of, HasRisingNames, pair_at}
use Rattle.store_model.specs.Indexes.{key_in, index_pairs, data_under}
use Rattle.store_model.proofs.StoreLaws.{names_nil, names_total}
use Rattle.store_model.proofs.Rows.{is_name, name_itself, name_is, row, rising_head, rising_rest, same_pairs}
use Rattle.store_model.proofs.IndexLaws.{bytes_are, both_same, is_key, is_of, pair_if, index_row, index_rises}
use Rattle.secondary.specs.Pairs.{pair_with, keyed_pairs}

-- 1 where a test passes
abbrev one_if : Bool → ℕ
one_if b = cond b 1 0

-- one more where a test passes
abbrev more : Bool → ℕ → ℕ
more b n = cond b (suc n) n

-- how many of the pairs have a name
abbrev pub count : Name → List Pair → ℕ
count n [] = 0
count n (p ∷ pairs) = more (is_name (name_of Dup p) n) (count n pairs)

summed : (n : Name) (pairs : List Pair) → sum_by (λ p. one_if (is_name (name_of Dup p) n)) pairs ≡ count n pairs
summed n [] = refl
summed n (p ∷ pairs) =
    sum_by-cons (λ p. one_if (is_name (name_of Dup p) n)) p pairs ∙ by (is_name (name_of Dup p) n) (sum_by (λ p. one_if (is_name (name_of Dup p) n)) pairs) (count n pairs) (summed n pairs)
  where
    by : (b : Bool) (s c : ℕ) → s ≡ c → one_if b + s ≡ more b c
    by true s c h = omega arith
    by false s c h = omega arith

-- ---- how many pairs of records have a name

count_pair : (primary_key : List ℕ) (key : Option (List ℕ)) (rest : List Pair) (n : Name) →
    count n (pair_with primary_key key ++ rest) ≡ more (is_key key n.key && is_same_bytes primary_key n.dup) (count n rest)
count_pair primary_key None rest n = refl
count_pair primary_key (Some key) rest n = ap (λ (b : Bool). more b (count n rest)) (both_same key primary_key n)

-- records behind have other keys
none_behind : (key : List ℕ) (p : Pair) (records : List Pair) → is_same_bytes p.0 key ≡ true → AllByRecursion (λ q. name_cmp (named p.0 []) (named q.0 []) ≡ Less) records → data_under key records ≡ None
none_behind key p [] same all = refl
none_behind key p (q ∷ records) same all =
    ap (λ (b : Bool). option_map (λ (x : Pair). x.1) (cond b (Some q) (pair_at key records))) (other (is_same_bytes q.0 key) refl) ∙ none_behind key p records same all.1
  where
    not_less : (o : Ordering) → o ≡ Less → is_eq o ≡ true → ⊥
    not_less Less h k = cc
    not_less Equal h k = cc
    not_less Greater h k = cc

    other : (b : Bool) → is_same_bytes q.0 key ≡ b → is_same_bytes q.0 key ≡ false
    other false e = e
    other true e =
        let one : p.0 ≡ q.0 = bytes_are p.0 key same ∙ sym (bytes_are q.0 key e) in
        absurd (not_less (name_cmp (named p.0 []) (named q.0 [])) all.0 (ap (λ (k : List ℕ). is_name (named p.0 []) (named k [])) (sym one) ∙ name_itself (named p.0 [])))

count_keyed : (extract : Extract) (records : List Pair) (n : Name) → HasRisingNames Plain records → count n (keyed_pairs extract records) ≡ one_if (is_of extract (data_under n.dup records) n)
count_keyed extract [] n up = refl
count_keyed extract (p ∷ records) n up =
    count_pair p.0 (key_in extract p.1) (keyed_pairs extract records) n
    ∙ ap (λ (c : ℕ). more (is_key (key_in extract p.1) n.key && is_same_bytes p.0 n.dup) c) (count_keyed extract records n (rising_rest Plain p records up))
    ∙ by (is_same_bytes p.0 n.dup) refl
  where
    own : Bool
    own = is_key (key_in extract p.1) n.key

    first_alone : (a b : Bool) → b ≡ false → more (a && true) (one_if b) ≡ one_if a
    first_alone true false h = refl
    first_alone false false h = refl
    first_alone a true h = absurd cc

    second_alone : (a b : Bool) → more (a && false) (one_if b) ≡ one_if b
    second_alone true b = refl
    second_alone false b = refl

    by : (b : Bool) → is_same_bytes p.0 n.dup ≡ b →
        more (own && b) (one_if (is_of extract (data_under n.dup records) n)) ≡ one_if (is_of extract (option_map (λ (x : Pair). x.1) (cond b (Some p) (pair_at n.dup records))) n)
    by true e =
        first_alone own (is_of extract (data_under n.dup records) n)
        (ap (λ (o : Option (List ℕ)). is_of extract o n) (none_behind n.dup p records e (rising_head Plain p records up)))
    by false e = second_alone own (is_of extract (data_under n.dup records) n)

-- ---- what a name finds

none_counted : (n : Name) (pairs : List Pair) → count n pairs ≡ 0 → row Dup n pairs ≡ None
none_counted n [] h = refl
none_counted n (p ∷ pairs) h = by (is_name (name_of Dup p) n) (none_counted n pairs) h
  where
    by : (b : Bool) → (count n pairs ≡ 0 → row Dup n pairs ≡ None) → more b (count n pairs) ≡ 0 → cond b (Some p) (row Dup n pairs) ≡ None
    by true rest k = absurd (omega arith)
    by false rest k = rest k

row_counted : (n : Name) (b : Bool) (pairs : List Pair) → count n pairs ≡ one_if b → row Dup n pairs ≡ pair_if n b
row_counted n false pairs h = none_counted n pairs h
row_counted n true [] h = absurd cc
row_counted n true (p ∷ pairs) h = by (is_name (name_of Dup p) n) refl (row_counted n true pairs) h
  where
    by : (b : Bool) → is_name (name_of Dup p) n ≡ b → (count n pairs ≡ 1 → row Dup n pairs ≡ pair_if n true) → more b (count n pairs) ≡ 1 → cond b (Some p) (row Dup n pairs) ≡ pair_if n true
    by true e rest k = ap (λ (m : Name). let o : Option Pair = Some (m.key, m.dup) in o) (name_is (name_of Dup p) n e)
    by false e rest k = rest k

-- ---- sorted pairs no two of which are the same rise

abbrev pub below : Pair → Pair → Bool
below p q = is_lt (name_cmp (name_of Dup p) (name_of Dup q))

module _ {X : Type 0} (f : X → Pair) where
  head_sorted : (x y : X) (xs : List X) → IsSortedBy (λ a b. below (f a) (f b)) (x ∷ y ∷ xs) → below (f y) (f x) ≡ false
  head_sorted x y xs up = up 0 x (omega arith) (omega arith)

  rest_sorted : (x : X) (xs : List X) → IsSortedBy (λ a b. below (f a) (f b)) (x ∷ xs) → IsSortedBy (λ a b. below (f a) (f b)) xs
  rest_sorted x xs up = λ k d low high. next (k + 1) k d (omega arith) (up (suc k) d (omega arith) (omega arith))
    where
      one_up : (j k : ℕ) → j ≡ suc k → suc j ≡ suc k + 1
      one_up j k is = omega arith

      next : (j k : ℕ) (d : X) → j ≡ suc k → below (f (get_or (x ∷ xs) (suc k + 1) d)) (f (get_or xs k d)) ≡ false → below (f (get_or xs j d)) (f (get_or xs k d)) ≡ false
      next j k d is h = ap (λ (i : ℕ). below (f (get_or (x ∷ xs) i d)) (f (get_or xs k d))) (one_up j k is) ∙ h

at_most_one : (p : Pair) (pairs : List Pair) (n : Name) → count n (p ∷ pairs) ≤ 1 → count n pairs ≤ 1
at_most_one p pairs n h = by (is_name (name_of Dup p) n) (count n pairs) h
  where
    by : (b : Bool) (c : ℕ) → more b c ≤ 1 → c ≤ 1
    by true c h = omega arith
    by false c h = h

-- one behind that is not below, and is another one, is above
above : (p q : Pair) → below q p ≡ false → is_name (name_of Dup q) (name_of Dup p) ≡ false → name_cmp (name_of Dup p) (name_of Dup q) ≡ Less
above p q not_below other =
    names_total.antisymm (name_of Dup p) (name_of Dup q) ∙ by (name_cmp (name_of Dup q) (name_of Dup p)) not_below other
  where
    by : (o : Ordering) → is_lt o ≡ false → is_eq o ≡ false → ordering_reverse o ≡ Less
    by Less h k = absurd cc
    by Equal h k = absurd cc
    by Greater h k = refl

itself_counted : (p q : Pair) (pairs : List Pair) → count (name_of Dup p) (p ∷ q ∷ pairs) ≤ 1 → is_name (name_of Dup q) (name_of Dup p) ≡ false
itself_counted p q pairs most = by (is_name (name_of Dup q) (name_of Dup p)) (is_name (name_of Dup p) (name_of Dup p)) (count (name_of Dup p) pairs) (name_itself (name_of Dup p)) most
  where
    by : (a b : Bool) (c : ℕ) → b ≡ true → more b (more a c) ≤ 1 → a ≡ false
    by false b c h k = refl
    by true true c h k = absurd (omega arith)
    by true false c h k = absurd cc

all_above : (p q : Pair) (pairs : List Pair) → name_cmp (name_of Dup p) (name_of Dup q) ≡ Less → AllByRecursion (λ r. name_cmp (name_of Dup q) (name_of Dup r) ≡ Less) pairs →
    AllByRecursion (λ r. name_cmp (name_of Dup p) (name_of Dup r) ≡ Less) pairs
all_above p q [] low all = tt
all_above p q (r ∷ pairs) low all = (names_total.trans (name_of Dup p) (name_of Dup q) (name_of Dup r) low all.0, all_above p q pairs low all.1)

rising_cons : (p : Pair) (pairs : List Pair) → AllByRecursion (λ r. name_cmp (name_of Dup p) (name_of Dup r) ≡ Less) pairs → HasRisingNames Dup pairs → HasRisingNames Dup (p ∷ pairs)
unfolding IsStrictlySortedBy
rising_cons p pairs all up = (all, up)

rises : {X : Type 0} (f : X → Pair) (xs : List X) → IsSortedBy (λ a b. below (f a) (f b)) xs → ((n : Name) → count n (map f xs) ≤ 1) → HasRisingNames Dup (map f xs)
rises f [] up most = names_nil Dup
rises f (x ∷ []) up most = rising_cons (f x) [] tt (names_nil Dup)
rises f (x ∷ y ∷ xs) up most =
    let rest : HasRisingNames Dup (f y ∷ map f xs) = rises f (y ∷ xs) (rest_sorted f x (y ∷ xs) up) (λ n. at_most_one (f x) (f y ∷ map f xs) n (most n)) in
    let low : name_cmp (name_of Dup (f x)) (name_of Dup (f y)) ≡ Less = above (f x) (f y) (head_sorted f x y xs up) (itself_counted (f x) (f y) (map f xs) (most (name_of Dup (f x)))) in
    rising_cons (f x) (f y ∷ map f xs) (low, all_above (f x) (f y) (map f xs) low (rising_head Dup (f y) (map f xs) rest)) rest

-- ---- the pairs of records, sorted

one_at_most : (b : Bool) (n : ℕ) → n ≡ one_if b → n ≤ 1
one_at_most true n h = omega arith
one_at_most false n h = omega arith

pub sorted_pairs : {X : Type 0} (f : X → Pair) (extract : Extract) (records : List Pair) (old new : List X) → HasRisingNames Plain records → map f old ≡ keyed_pairs extract records →
    IsPermutation old new → IsSortedBy (λ a b. below (f a) (f b)) new → map f new ≡ index_pairs extract records
sorted_pairs f extract records old new up are moved sorted =
    same_pairs Dup (map f new) (index_pairs extract records) (rises f new sorted (λ n. one_at_most (is_of extract (data_under n.dup records) n) (count n (map f new)) (counted n)))
    (index_rises extract records) (λ n. row_counted n (is_of extract (data_under n.dup records) n) (map f new) (counted n) ∙ sym (index_row extract records n up))
  where
    counted : (n : Name) → count n (map f new) ≡ one_if (is_of extract (data_under n.dup records) n)
    counted n =
        sym (summed n (map f new)) ∙ sum_by-IsPermutation (λ p. one_if (is_name (name_of Dup p) n)) (map f old) (map f new) (IsPermutation-map f old new moved) ∙ summed n (map f old) ∙ ap (count n) are
        ∙ count_keyed extract records n up
