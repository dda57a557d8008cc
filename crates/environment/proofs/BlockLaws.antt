-- The changes that come with a call's changes in the indexes of a database: each is right there and can be logged, and no two are of one name.
use Rattle.std.proofs.Common.{◌≡◌, ◌≢◌, ◌⊎◌, inl, inr, ◌∙◌, ◌&&◌, ◌==◌, ◌++◌, ◌≤◌, ◌+◌, ℕ, zero, suc, Bool, true, false, true≢false, cond, nat_le, List, [], ◌∷◌, Option, None, Some, IfSome, option_map, map, flat_map, take, drop, length, is_eq, Ordering, Less, Equal, Greater, refl, ap, ap₂, sym, arith}
use Rattle.std.specs.List.{AllByRecursion, slice_get}
use Rattle.std.specs.Ordering.{ordering_then}
use Rattle.std.proofs.lemmas.Bool.{le-leb}
use Rattle.std.proofs.lemmas.Bool.Decides.{eqb_tells}
use Rattle.je_order.specs.Order.{bytes_cmp, is_same_bytes, name_cmp}
use Rattle.je_order.specs.declared.name.Name.{Name}
use Rattle.je_order.specs.declared.limits.TheConstants.{KEY_LIMIT}
use Rattle.je_order.proofs.Lists.{all_append, all_weaker}
use Rattle.je_order.proofs.Orderings.{equal_from_test, name_exact}
use Rattle.store_model.specs.declared.store.TheConstants.{DUP_LIMIT}
use Rattle.store_model.specs.declared.kind.Kind.TheVariants.{Dup}
use Rattle.store_model.specs.declared.extract.Extract.{Extract}
use Rattle.store_model.specs.declared.extract.Extract.TheVariants.{ByteSlice, Field}
use Rattle.store_model.specs.declared.index.Index.{Index}
use Rattle.store_model.specs.declared.record_change.RecordChange.{RecordChange}
use Rattle.store_model.specs.declared.record_change.RecordChange.TheVariants.{Set, Unset}
use Rattle.store_model.specs.Store.{Pair, named, data_after}
use Rattle.store_model.specs.Indexes.{Numbered, changes_in, data_under, fields_of, key_in, key_of, keys_changed, with_indexes}
use Rattle.store_model.specs.Needs.{changed_name}
use Rattle.txn_views.specs.Seen.{is_right_change}
use Rattle.environment.specs.Access.{AreNumbersApart, HasShortKeys}
use Rattle.environment.specs.Changing.{FitsEntry}
use Rattle.environment.proofs.ChangeLaws.{Changed}
use Rattle.environment.proofs.LoggableLaws.{AreOneEach}

-- ---- no two of one name

-- two changes are not of one name of one database
abbrev pub Apart : Changed → Changed → Type 0
Apart y z = ((y.0.0 == z.0.0) && is_eq (name_cmp (changed_name y.1) (changed_name z.1))) ≡ false

abbrev pub AllApart : List Changed → Type 0
AllApart [] = Unit {0}
AllApart (y ∷ ys) = AllByRecursion (Apart y) ys × AllApart ys

other_number : (a b : ℕ) (t : Bool) → (a == b) ≡ false → ((a == b) && t) ≡ false
other_number a b t is = ap (λ (x : Bool). x && t) is

other_name : (a b : ℕ) (t : Bool) → t ≡ false → ((a == b) && t) ≡ false
other_name a b t is = by (a == b)
  where
    by : (x : Bool) → (x && t) ≡ false
    by true = is
    by false = refl

pub apart_append : (xs ys : List Changed) → AllApart xs → AllApart ys → AllByRecursion (λ x. AllByRecursion (Apart x) ys) xs → AllApart (xs ++ ys)
apart_append [] ys first second cross = second
apart_append (x ∷ xs) ys first second cross = (all_append (Apart x) xs ys first.0 cross.0, apart_append xs ys first.1 second cross.1)

-- numbers that differ
differ : (a b : ℕ) → a ≢ b → (a == b) ≡ false
differ a b apart = by (eqb_tells a b)
  where
    by : ((a == b) ≡ true) × (a ≡ b) ⊎ ((a == b) ≡ false) × (a ≢ b) → (a == b) ≡ false
    by (inl same) = absurd (apart same.1)
    by (inr other) = other.0

differ_by : (a b : ℕ) → (a == b) ≡ false → a ≢ b
differ_by a b is same = by (eqb_tells a b)
  where
    by : ((a == b) ≡ true) × (a ≡ b) ⊎ ((a == b) ≡ false) × (a ≢ b) → ⊥
    by (inl h) = true≢false (sym h.0 ∙ is)
    by (inr other) = other.1 same

-- names that differ
pub names_differ : (x y : Name) → x ≢ y → is_eq (name_cmp x y) ≡ false
names_differ x y apart = by (is_eq (name_cmp x y)) refl
  where
    by : (b : Bool) → is_eq (name_cmp x y) ≡ b → is_eq (name_cmp x y) ≡ false
    by true e = absurd (apart (name_exact x y (equal_from_test (name_cmp x y) e)))
    by false e = e

-- ---- the pairs of an index

-- a change of an index's pairs that comes with a record of this key
pub record IsPairOf (key : List ℕ) (x : RecordChange) : Type 0 where
  pub dup : (changed_name x).dup ≡ key
  pub right : is_right_change Dup x ≡ true
  pub fits : FitsEntry x

short : (n : ℕ) → n ≤ 4096 → nat_le n DUP_LIMIT ≡ true
short n few = le-leb n DUP_LIMIT few

taken_pair : (key k : List ℕ) → length k ≤ 4096 → length key ≤ 4096 → IsPairOf key (Unset (named k key))
taken_pair key k low few = record { dup = refl; right = short (length key) few; fits = (low, few) }

put_pair : (key k : List ℕ) → length k ≤ 4096 → length key ≤ 4096 → IsPairOf key (Set (named k key) [])
put_pair key k low few = record { dup = refl; right = short (length key) few; fits = ((low, few), omega arith) }

abbrev IsShort : Option (List ℕ) → Type 0
IsShort o = IfSome o (λ k. length k ≤ 4096)

then_not : (o p : Ordering) → is_eq o ≡ false → is_eq (ordering_then o p) ≡ false
then_not Less p h = refl
then_not Equal p h = absurd (true≢false h)
then_not Greater p h = refl

changed_pairs : (key : List ℕ) (old new : Option (List ℕ)) → IsShort old → IsShort new → length key ≤ 4096 → AllByRecursion (IsPairOf key) (keys_changed key old new) × AreOneEach (keys_changed key old new)
changed_pairs key None None low high few = (tt, tt)
changed_pairs key None (Some k) low high few = ((put_pair key k high few, tt), (tt, tt))
changed_pairs key (Some k) None low high few = ((taken_pair key k low few, tt), (tt, tt))
changed_pairs key (Some k) (Some m) low high few = by (is_same_bytes k m) refl
  where
    by : (b : Bool) → is_same_bytes k m ≡ b → AllByRecursion (IsPairOf key) (cond b [] (Unset (named k key) ∷ Set (named m key) [] ∷ [])) × AreOneEach (cond b [] (Unset (named k key) ∷ Set (named m key) [] ∷ []))
    by true e = (tt, tt)
    by false e = ((taken_pair key k low few, (put_pair key m high few, tt)), ((then_not (bytes_cmp k m) (bytes_cmp key key) e, tt), (tt, tt)))

-- the key of a record is short
take_few : (n : ℕ) (l : List ℕ) → length (take n l) ≤ n
take_few zero l = omega arith
take_few (suc n) [] = omega arith
take_few (suc n) (x ∷ l) = let rest = take_few n l in omega (arith, rest)

field_short : (o : Option (List ℕ)) → IsShort (option_map (take KEY_LIMIT) o)
field_short None = tt
field_short (Some l) = take_few KEY_LIMIT l

data_short : (e : Extract) (value : List ℕ) → HasShortKeys e → IsShort (key_in e value)
data_short (ByteSlice offset len) value few = by (nat_le (offset + len) (length value))
  where
    by : (b : Bool) → IsShort (cond b (Some (take len (drop offset value))) None)
    by true = let low = take_few len (drop offset value) in omega (arith, low, few)
    by false = tt
data_short (Field number separator) value few = field_short (slice_get (fields_of separator value) number)

key_short : (e : Extract) (o : Option (List ℕ)) → HasShortKeys e → IsShort (key_of e o)
key_short e None few = tt
key_short e (Some value) few = data_short e value few

pub index_pairs_are : (o : Option Index) (records : List Pair) (c : RecordChange) → IfSome o (λ i. HasShortKeys i.extract) → length (changed_name c).key ≤ 4096 →
    AllByRecursion (IsPairOf (changed_name c).key) (changes_in o records c) × AreOneEach (changes_in o records c)
index_pairs_are None records c few low = (tt, tt)
index_pairs_are (Some i) records c few low =
    changed_pairs (changed_name c).key (key_of i.extract (data_under (changed_name c).key records)) (key_of i.extract (data_after c)) (key_short i.extract (data_under (changed_name c).key records) few)
    (key_short i.extract (data_after c) few) low

-- ---- a change with its pairs

-- a change in the database of a number itself, or a pair in another one
abbrev pub InBlock : ℕ → RecordChange → Changed → Type 0
InBlock number c y = ((y.0.0 ≡ number) × (y.1 ≡ c)) ⊎ ((y.0.0 ≢ number) × ((changed_name y.1).dup ≡ (changed_name c).key))

-- what two such changes leave apart, of changes whose names and keys differ
pub block_apart : (number : ℕ) (c e : RecordChange) → is_eq (name_cmp (changed_name c) (changed_name e)) ≡ false → (changed_name c).key ≢ (changed_name e).key → (y z : Changed) → InBlock number c y → InBlock number e z → Apart y z
block_apart number c e names keys y z (inl own) (inl other) =
    other_name y.0.0 z.0.0 (is_eq (name_cmp (changed_name y.1) (changed_name z.1)))
    (ap₂ (λ (a b : RecordChange). is_eq (name_cmp (changed_name a) (changed_name b))) own.1 other.1 ∙ names)
block_apart number c e names keys y z (inl own) (inr pair) =
    other_number y.0.0 z.0.0 (is_eq (name_cmp (changed_name y.1) (changed_name z.1))) (differ y.0.0 z.0.0 (λ same. pair.0 (sym same ∙ own.0)))
block_apart number c e names keys y z (inr pair) (inl own) =
    other_number y.0.0 z.0.0 (is_eq (name_cmp (changed_name y.1) (changed_name z.1))) (differ y.0.0 z.0.0 (λ same. pair.0 (same ∙ own.0)))
block_apart number c e names keys y z (inr one) (inr other) =
    other_name y.0.0 z.0.0 (is_eq (name_cmp (changed_name y.1) (changed_name z.1)))
    (names_differ (changed_name y.1) (changed_name z.1) (λ same. keys (sym one.1 ∙ ap (λ (n : Name). n.dup) same ∙ other.1)))

-- the pairs of one index
module _ (d : Numbered) (records : List Pair) (c : RecordChange) (low : length (changed_name c).key ≤ 4096) where
  abbrev pairs_of : Numbered → List Changed
  pairs_of i = map (λ x. (i, x)) (changes_in i.1.index records c)

  abbrev all_pairs : List Numbered → List Changed
  all_pairs indexes = flat_map pairs_of indexes

  each_pair : (P : Changed → Type 0) (i : Numbered) (xs : List RecordChange) → AllByRecursion (λ x. P (i, x)) xs → AllByRecursion P (map (λ x. (i, x)) xs)
  each_pair P i [] all = tt
  each_pair P i (x ∷ xs) all = (all.0, each_pair P i xs all.1)

  one_index_apart : (i : Numbered) (xs : List RecordChange) → AreOneEach xs → AllApart (map (λ x. (i, x)) xs)
  one_index_apart i [] each = tt
  one_index_apart i (x ∷ xs) each = (
    each_pair (Apart (i, x)) i xs (all_weaker (λ (e : RecordChange). is_eq (name_cmp (changed_name x) (changed_name e)) ≡ false) (λ e. Apart (i, x) (i, e)) (λ e other. other_name i.0 i.0 (is_eq (name_cmp (changed_name x) (changed_name e))) other) xs each.0),
    one_index_apart i xs each.1,
  )

  -- what holds of each pair of indexes, by its index
  pub of_pairs : (Q : Numbered → Type 0) (P : Changed → Type 0) → ((i : Numbered) (x : RecordChange) → Q i → IsPairOf (changed_name c).key x → P (i, x)) → (indexes : List Numbered) → AllByRecursion Q indexes →
      AllByRecursion (λ (i : Numbered). IfSome i.1.index (λ j. HasShortKeys j.extract)) indexes → AllByRecursion P (all_pairs indexes)
  of_pairs Q P step [] all few = tt
  of_pairs Q P step (i ∷ indexes) all few =
      all_append P (pairs_of i) (all_pairs indexes)
      (each_pair P i (changes_in i.1.index records c) (all_weaker (IsPairOf (changed_name c).key) (λ x. P (i, x)) (λ x pair. step i x all.0 pair) (changes_in i.1.index records c) (index_pairs_are i.1.index records c few.0 low).0))
      (of_pairs Q P step indexes all.1 few.1)

  pairs_apart : (indexes : List Numbered) → AreNumbersApart indexes → AllByRecursion (λ (i : Numbered). IfSome i.1.index (λ j. HasShortKeys j.extract)) indexes → AllApart (all_pairs indexes)
  pairs_apart [] apart few = tt
  pairs_apart (i ∷ indexes) apart few =
      apart_append (pairs_of i) (all_pairs indexes) (one_index_apart i (changes_in i.1.index records c) (index_pairs_are i.1.index records c few.0 low).1) (pairs_apart indexes apart.1 few.1)
      (each_pair (λ y. AllByRecursion (Apart y) (all_pairs indexes)) i (changes_in i.1.index records c) (every (changes_in i.1.index records c)))
    where
      every : (xs : List RecordChange) → AllByRecursion (λ x. AllByRecursion (Apart (i, x)) (all_pairs indexes)) xs
      every [] = tt
      every (x ∷ xs) = (
        of_pairs (λ (j : Numbered). (i.0 == j.0) ≡ false) (Apart (i, x)) (λ j z other pair. other_number i.0 j.0 (is_eq (name_cmp (changed_name x) (changed_name z))) other) indexes apart.0 few.1,
        every xs,
      )

  -- a change with its pairs
  pub block_in : (indexes : List Numbered) → AreNumbersApart (d ∷ indexes) → AllByRecursion (λ (i : Numbered). IfSome i.1.index (λ j. HasShortKeys j.extract)) indexes →
      AllByRecursion (InBlock d.0 c) (with_indexes d indexes records c)
  block_in indexes apart few = (
    inl (refl, refl),
    of_pairs (λ (j : Numbered). (d.0 == j.0) ≡ false) (InBlock d.0 c) (λ j x other pair. inr ((λ same. differ_by d.0 j.0 other (sym same)), pair.dup)) indexes apart.0 few,
  )

  pub one_block_apart : (indexes : List Numbered) → AreNumbersApart (d ∷ indexes) → AllByRecursion (λ (i : Numbered). IfSome i.1.index (λ j. HasShortKeys j.extract)) indexes → AllApart (with_indexes d indexes records c)
  one_block_apart indexes apart few = (
    of_pairs (λ (j : Numbered). (d.0 == j.0) ≡ false) (Apart (d, c)) (λ j x other pair. other_number d.0 j.0 (is_eq (name_cmp (changed_name c) (changed_name x))) other) indexes apart.0 few,
    pairs_apart indexes apart.1 few,
  )

-- ---- all of them

-- no two changes are of one key
abbrev pub AreKeysApart : List RecordChange → Type 0
AreKeysApart [] = Unit {0}
AreKeysApart (c ∷ cs) = AllByRecursion (λ e. (changed_name c).key ≢ (changed_name e).key) cs × AreKeysApart cs

-- changes, each with its pairs
abbrev pub blocks_of : Numbered → List Numbered → List Pair → List RecordChange → List Changed
blocks_of d indexes records cs = flat_map (λ c. with_indexes d indexes records c) cs

module _ (d : Numbered) (indexes : List Numbered) (records : List Pair) (apart : AreNumbersApart (d ∷ indexes)) (few : AllByRecursion (λ (i : Numbered). IfSome i.1.index (λ j. HasShortKeys j.extract)) indexes) where
  abbrev blocks : List RecordChange → List Changed
  blocks cs = blocks_of d indexes records cs

  -- a change of one block is apart from those of other ones
  past : (c : RecordChange) (y : Changed) → InBlock d.0 c y → (cs : List RecordChange) → AllByRecursion (λ e. length (changed_name e).key ≤ 4096) cs →
      AllByRecursion (λ e. is_eq (name_cmp (changed_name c) (changed_name e)) ≡ false) cs → AllByRecursion (λ e. (changed_name c).key ≢ (changed_name e).key) cs → AllByRecursion (Apart y) (blocks cs)
  past c y in_ [] low names keys = tt
  past c y in_ (e ∷ cs) low names keys =
      all_append (Apart y) (with_indexes d indexes records e) (blocks cs)
      (all_weaker (InBlock d.0 e) (Apart y) (λ z inside. block_apart d.0 c e names.0 keys.0 y z in_ inside) (with_indexes d indexes records e) (block_in d records e low.0 indexes apart few))
      (past c y in_ cs low.1 names.1 keys.1)

  pub blocks_apart : (cs : List RecordChange) → AllByRecursion (λ e. length (changed_name e).key ≤ 4096) cs → AreOneEach cs → AreKeysApart cs → AllApart (blocks cs)
  blocks_apart [] low names keys = tt
  blocks_apart (c ∷ cs) low names keys =
      apart_append (with_indexes d indexes records c) (blocks cs) (one_block_apart d records c low.0 indexes apart few) (blocks_apart cs low.1 names.1 keys.1)
      (all_weaker (InBlock d.0 c) (λ y. AllByRecursion (Apart y) (blocks cs)) (λ y inside. past c y inside cs low.1 names.0 keys.0) (with_indexes d indexes records c) (block_in d records c low.0 indexes apart few))

  -- what holds of each
  pub of_blocks : (Q : Numbered → Type 0) (P : Changed → Type 0) → ((i : Numbered) (c x : RecordChange) → Q i → IsPairOf (changed_name c).key x → P (i, x)) → AllByRecursion Q indexes → (cs : List RecordChange) →
      AllByRecursion (λ e. length (changed_name e).key ≤ 4096) cs → AllByRecursion (λ c. P (d, c)) cs → AllByRecursion P (blocks cs)
  of_blocks Q P step all [] low own = tt
  of_blocks Q P step all (c ∷ cs) low own =
      all_append P (with_indexes d indexes records c) (blocks cs) (own.0, of_pairs d records c low.0 Q P (λ i x q pair. step i c x q pair) indexes all few) (of_blocks Q P step all cs low.1 own.1)
