-- An index has, for each record of its primary, the pair of its key, and none besides; and with what comes with a change of a record it has the pairs of the
-- records after it.
use Rattle.std.proofs.Common.{◌≡◌, ℕ, List, [], ◌∷◌, ◌++◌, Bool, true, false, cond, ◌&&◌, Option, None, Some, find, refl, ap, ap₂, sym, ◌∙◌, Ordering, Less, Equal, Greater, is_eq}
use Rattle.std.specs.Prelude.{option_map}
use Rattle.std.specs.List.{AllByRecursion}
use Rattle.std.specs.Ordering.{ordering_then}
use Rattle.std.proofs.lemmas.Bool.{both_ways}
use Rattle.std.proofs.lemmas.Map.Lookups.{exact_bytes}
use Rattle.je_order.specs.Order.{bytes_cmp, name_cmp, is_same_bytes}
use Rattle.je_order.specs.declared.name.Name.{Name}
use Rattle.je_order.proofs.Orderings.{equal_from_test}
use Rattle.store_model.specs.declared.kind.Kind.TheVariants.{Plain, Dup}
use Rattle.store_model.specs.declared.extract.Extract.{Extract}
use Rattle.store_model.specs.declared.record_change.RecordChange.{RecordChange}
use Rattle.store_model.specs.declared.record_change.RecordChange.TheVariants.{Set, Unset}
use Rattle.store_model.specs.Store.{Pair, named, proper, HasRisingNames, pair_at, pairs_changed, all_pairs_changed, changed_name, data_after}
use Rattle.store_model.specs.Indexes.{key_in, key_of, taken_out, put_in, pairs_put, index_pairs, is_same_key, keys_changed, data_under, changes_in, IndexesKeepUp}
use Rattle.store_model.proofs.StoreLaws.{names_nil}
use Rattle.store_model.proofs.Rows.{is_name, name_itself, name_is, row, left_by, row_changed, rising_changed, all_rising, all_changed-append, rising_head, rising_rest, same_pairs}

-- ---- byte strings and names

pub bytes_are : (a b : List ℕ) → is_same_bytes a b ≡ true → a ≡ b
bytes_are a b h = exact_bytes a b (equal_from_test (bytes_cmp a b) h)

then_nothing : (o : Ordering) → is_eq (ordering_then o Equal) ≡ is_eq o
then_nothing Less = refl
then_nothing Equal = refl
then_nothing Greater = refl

-- names without data are the same where their keys are
pub plain_names : (a b : List ℕ) → is_name (named a []) (named b []) ≡ is_same_bytes a b
plain_names a b = then_nothing (bytes_cmp a b)

pub bytes_themselves : (a : List ℕ) → is_same_bytes a a ≡ true
bytes_themselves a = sym (plain_names a a) ∙ name_itself (named a [])

then_both : (o p : Ordering) → is_eq (ordering_then o p) ≡ (is_eq o && is_eq p)
then_both Less p = refl
then_both Equal p = refl
then_both Greater p = refl

-- names are the same where their keys and their data are
pub both_same : (key dup : List ℕ) (n : Name) → is_name (named key dup) n ≡ (is_same_bytes key n.key && is_same_bytes dup n.dup)
both_same key dup n = then_both (bytes_cmp key n.key) (bytes_cmp dup n.dup)

-- ---- the data of a key

alike : {X : Type 0} (p q : X → Bool) → ((x : X) → p x ≡ q x) → (xs : List X) → find p xs ≡ find q xs
alike p q same [] = refl
alike {X} p q same (x ∷ xs) = ap₂ (λ (b : Bool) (r : Option X). cond b (Some x) r) (same x) (alike p q same xs)

pub data_row : (key : List ℕ) (records : List Pair) → data_under key records ≡ option_map (λ p. p.1) (row Plain (named key []) records)
data_row key records = ap (option_map (λ (p : Pair). p.1)) (alike (λ p. is_same_bytes p.0 key) (λ p. is_name (named p.0 []) (named key [])) (λ p. sym (plain_names p.0 key)) records)

data_left : (change : RecordChange) → option_map (λ (p : Pair). p.1) (left_by Plain change) ≡ data_after change
data_left (Set at value) = refl
data_left (Unset at) = refl

map_either : (b : Bool) (o p : Option Pair) → option_map (λ (x : Pair). x.1) (cond b o p) ≡ cond b (option_map (λ (x : Pair). x.1) o) (option_map (λ (x : Pair). x.1) p)
map_either true o p = refl
map_either false o p = refl

-- and after a change
pub data_changed : (change : RecordChange) (key : List ℕ) (records : List Pair) →
    data_under key (pairs_changed Plain change records) ≡ cond (is_same_bytes (changed_name change).key key) (data_after change) (data_under key records)
data_changed change key records =
    data_row key (pairs_changed Plain change records)
    ∙ ap (option_map (λ (p : Pair). p.1)) (row_changed Plain change (named key []) records)
    ∙ map_either (is_name (proper Plain (changed_name change)) (named key [])) (left_by Plain change) (row Plain (named key []) records)
    ∙ ap (λ (b : Bool). cond b (option_map (λ (p : Pair). p.1) (left_by Plain change)) (option_map (λ (p : Pair). p.1) (row Plain (named key []) records))) (plain_names (changed_name change).key key)
    ∙ ap₂ (λ (x y : Option (List ℕ)). cond (is_same_bytes (changed_name change).key key) x y) (data_left change) (sym (data_row key records))

-- ---- what a name finds in an index

-- the key is this one
abbrev pub is_key : Option (List ℕ) → List ℕ → Bool
is_key None key = false
is_key (Some other) key = is_same_bytes other key

-- the pair of a name, if it is there
abbrev pub pair_if : Name → Bool → Option Pair
pair_if n b = cond b (Some (n.key, n.dup)) None

-- a pair that is put or taken out is that of a name where its key and the record's are
row_put : (primary_key : List ℕ) (key : Option (List ℕ)) (n : Name) (pairs : List Pair) →
    row Dup n (all_pairs_changed Dup (put_in primary_key key) pairs) ≡ cond (is_key key n.key && is_same_bytes primary_key n.dup) (Some (n.key, n.dup)) (row Dup n pairs)
row_put primary_key None n pairs = refl
row_put primary_key (Some key) n pairs =
    row_changed Dup (Set (named key primary_key) []) n pairs ∙ by (is_name (named key primary_key) n) refl ∙ ap (λ (b : Bool). cond b (Some (n.key, n.dup)) (row Dup n pairs)) (both_same key primary_key n)
  where
    by : (b : Bool) → is_name (named key primary_key) n ≡ b → cond b (Some (key, primary_key)) (row Dup n pairs) ≡ cond b (Some (n.key, n.dup)) (row Dup n pairs)
    by true e = ap (λ (m : Name). Some (m.key, m.dup)) (name_is (named key primary_key) n e)
    by false e = refl

pub row_taken : (primary_key : List ℕ) (key : Option (List ℕ)) (n : Name) (pairs : List Pair) →
    row Dup n (all_pairs_changed Dup (taken_out primary_key key) pairs) ≡ cond (is_key key n.key && is_same_bytes primary_key n.dup) None (row Dup n pairs)
row_taken primary_key None n pairs = refl
row_taken primary_key (Some key) n pairs =
    row_changed Dup (Unset (named key primary_key)) n pairs ∙ ap (λ (b : Bool). cond b None (row Dup n pairs)) (both_same key primary_key n)

-- the name's key is that of the data of its record
abbrev pub is_of : Extract → Option (List ℕ) → Name → Bool
is_of extract data_ n = is_key (key_of extract data_) n.key

-- records behind have other keys
none_behind : (key : List ℕ) (p : Pair) (records : List Pair) → is_same_bytes p.0 key ≡ true → AllByRecursion (λ q. name_cmp (named p.0 []) (named q.0 []) ≡ Less) records → data_under key records ≡ None
none_behind key p [] same all = refl
none_behind key p (q ∷ records) same all =
    ap (λ (b : Bool). option_map (λ (x : Pair). x.1) (cond b (Some q) (pair_at key records))) (other (is_same_bytes q.0 key) refl) ∙ none_behind key p records same all.1
  where
    not_less : (o : Ordering) → o ≡ Less → is_eq o ≡ true → ⊥
    not_less Less h k = cc
    not_less Equal h k = cc
    not_less Greater h k = cc

    other : (b : Bool) → is_same_bytes q.0 key ≡ b → is_same_bytes q.0 key ≡ false
    other false e = e
    other true e =
        let one : p.0 ≡ q.0 = bytes_are p.0 key same ∙ sym (bytes_are q.0 key e) in
        absurd (not_less (name_cmp (named p.0 []) (named q.0 [])) all.0 (ap (λ (k : List ℕ). is_name (named p.0 []) (named k [])) (sym one) ∙ name_itself (named p.0 [])))

row_all_put : (extract : Extract) (records : List Pair) (n : Name) (pairs : List Pair) → HasRisingNames Plain records →
    row Dup n (all_pairs_changed Dup (pairs_put extract records) pairs) ≡ cond (is_of extract (data_under n.dup records) n) (Some (n.key, n.dup)) (row Dup n pairs)
row_all_put extract [] n pairs up = refl
row_all_put extract (p ∷ records) n pairs up =
    let first = all_pairs_changed Dup (put_in p.0 (key_in extract p.1)) pairs in
    ap (row Dup n) (all_changed-append Dup (put_in p.0 (key_in extract p.1)) (pairs_put extract records) pairs)
    ∙ row_all_put extract records n first (rising_rest Plain p records up)
    ∙ ap (λ (r : Option Pair). cond (is_of extract (data_under n.dup records) n) (Some (n.key, n.dup)) r) (row_put p.0 (key_in extract p.1) n pairs)
    ∙ by (is_same_bytes p.0 n.dup) refl
  where
    rest : Option (List ℕ)
    rest = data_under n.dup records

    either : (a b : Bool) (x y : Option Pair) → a ≡ false → cond a x (cond (b && true) x y) ≡ cond b x y
    either false true x y h = refl
    either false false x y h = refl
    either true b x y h = absurd (both_ways true h refl)

    neither : (a b : Bool) (x y : Option Pair) → cond a x (cond (b && false) x y) ≡ cond a x y
    neither a true x y = refl
    neither a false x y = refl

    by : (b : Bool) → is_same_bytes p.0 n.dup ≡ b →
        cond (is_of extract rest n) (Some (n.key, n.dup)) (cond (is_key (key_in extract p.1) n.key && b) (Some (n.key, n.dup)) (row Dup n pairs))
        ≡ cond (is_of extract (option_map (λ (x : Pair). x.1) (cond b (Some p) (pair_at n.dup records))) n) (Some (n.key, n.dup)) (row Dup n pairs)
    by true e =
        either (is_of extract rest n) (is_key (key_in extract p.1) n.key) (Some (n.key, n.dup)) (row Dup n pairs)
        (ap (λ (o : Option (List ℕ)). is_of extract o n) (none_behind n.dup p records e (rising_head Plain p records up)))
    by false e = neither (is_of extract rest n) (is_key (key_in extract p.1) n.key) (Some (n.key, n.dup)) (row Dup n pairs)

-- in an index a name finds its pair where its key is that of its record
pub index_row : (extract : Extract) (records : List Pair) (n : Name) → HasRisingNames Plain records → row Dup n (index_pairs extract records) ≡ pair_if n (is_of extract (data_under n.dup records) n)
index_row extract records n up = row_all_put extract records n [] up

pub index_rises : (extract : Extract) (records : List Pair) → HasRisingNames Dup (index_pairs extract records)
index_rises extract records = all_rising Dup (pairs_put extract records) [] (names_nil Dup)

-- ---- what comes with a change

same_keys : (a b : Option (List ℕ)) (key : List ℕ) → is_same_key a b ≡ true → is_key a key ≡ is_key b key
same_keys None b key h = absurd cc
same_keys (Some a) None key h = absurd cc
same_keys (Some a) (Some b) key h = ap (λ (k : List ℕ). is_same_bytes k key) (bytes_are a b h)

-- the pair of the record is then that of its new key, and all others stay
pub row_keys : (primary_key : List ℕ) (old new : Option (List ℕ)) (n : Name) (pairs : List Pair) →
    (is_same_bytes primary_key n.dup ≡ true → row Dup n pairs ≡ pair_if n (is_key old n.key)) →
    row Dup n (all_pairs_changed Dup (keys_changed primary_key old new) pairs) ≡ cond (is_same_bytes primary_key n.dup) (pair_if n (is_key new n.key)) (row Dup n pairs)
row_keys primary_key old new n pairs was = by (is_same_key old new) refl
  where
    its : Bool
    its = is_same_bytes primary_key n.dup

    stays : (b : Bool) → its ≡ b → is_same_key old new ≡ true → row Dup n pairs ≡ cond b (pair_if n (is_key new n.key)) (row Dup n pairs)
    stays true e same = was e ∙ ap (pair_if n) (same_keys old new n.key same)
    stays false e same = refl

    moves : (b : Bool) (x y : Bool) → its ≡ b → is_key old n.key ≡ x →
        cond (y && b) (Some (n.key, n.dup)) (cond (x && b) None (row Dup n pairs)) ≡ cond b (pair_if n y) (row Dup n pairs)
    moves true true true e h = refl
    moves true true false e h = refl
    moves true false true e h = refl
    moves true false false e h = was e ∙ ap (pair_if n) h
    moves false true true e h = refl
    moves false true false e h = refl
    moves false false true e h = refl
    moves false false false e h = refl

    by : (b : Bool) → is_same_key old new ≡ b →
        row Dup n (all_pairs_changed Dup (cond b [] (taken_out primary_key old ++ put_in primary_key new)) pairs) ≡ cond its (pair_if n (is_key new n.key)) (row Dup n pairs)
    by true e = stays its refl e
    by false e =
        ap (row Dup n) (all_changed-append Dup (taken_out primary_key old) (put_in primary_key new) pairs)
        ∙ row_put primary_key new n (all_pairs_changed Dup (taken_out primary_key old) pairs)
        ∙ ap (λ (r : Option Pair). cond (is_key new n.key && its) (Some (n.key, n.dup)) r) (row_taken primary_key old n pairs)
        ∙ moves its (is_key old n.key) (is_key new n.key) refl refl

if_either : (n : Name) (extract : Extract) (b : Bool) (x y : Option (List ℕ)) → cond b (pair_if n (is_of extract x n)) (pair_if n (is_of extract y n)) ≡ pair_if n (is_of extract (cond b x y) n)
if_either n extract true x y = refl
if_either n extract false x y = refl

pub indexes-keep_up : IndexesKeepUp
indexes-keep_up index records change up =
    same_pairs Dup after (index_pairs index.extract (pairs_changed Plain change records)) (all_rising Dup changes (index_pairs index.extract records) (index_rises index.extract records))
    (index_rises index.extract (pairs_changed Plain change records)) each
  where
    key : List ℕ
    key = (changed_name change).key

    changes : List RecordChange
    changes = changes_in (Some index) records change

    after : List Pair
    after = all_pairs_changed Dup changes (index_pairs index.extract records)

    each : (n : Name) → row Dup n after ≡ row Dup n (index_pairs index.extract (pairs_changed Plain change records))
    each n =
        row_keys key (key_of index.extract (data_under key records)) (key_of index.extract (data_after change)) n (index_pairs index.extract records)
        (λ e. index_row index.extract records n up ∙ ap (λ (k : List ℕ). pair_if n (is_of index.extract (data_under k records) n)) (sym (bytes_are key n.dup e)))
        ∙ ap (λ (r : Option Pair). cond (is_same_bytes key n.dup) (pair_if n (is_of index.extract (data_after change) n)) r) (index_row index.extract records n up)
        ∙ if_either n index.extract (is_same_bytes key n.dup) (data_after change) (data_under n.dup records)
        ∙ ap (λ (o : Option (List ℕ)). pair_if n (is_of index.extract o n)) (sym (data_changed change n.dup records))
        ∙ sym (index_row index.extract (pairs_changed Plain change records) n (rising_changed Plain change records up))
