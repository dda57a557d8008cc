-- Databases by name and by number, and how changes of records change a store.
use Rattle.std.proofs.Common.{◌≡◌, ◌≤◌, inl, inr, ℕ, ◌==◌, Bool, true, false, cond, List, [], ◌∷◌, ◌++◌, map, find, Option, None, Some, refl, ap, ap₂, sym, ◌∙◌, subst, ⊎_elim, arith, Ordering, Less, Equal, Greater, is_eq}
use Rattle.std.specs.List.{flat_map, AllByRecursion}
use Rattle.std.specs.List.Sorted.{IsStrictlySortedBy}
use Rattle.std.specs.Option.{option_map}
use Rattle.std.specs.Ordering.{on, ordering_then}
use Rattle.std.proofs.lemmas.Bool.{cases_Bool, cond-true, cond-false, both_ways, eqb-true}
use Rattle.std.proofs.lemmas.Bool.Decides.{nat_tests}
use Rattle.je_order.specs.Order.{bytes_cmp, name_cmp, is_same_bytes}
use Rattle.je_order.specs.declared.name.Name.{Name}
use Rattle.je_order.proofs.Orderings.{name_exact, equal_from_test}
use Rattle.store_model.specs.declared.store.Store.{Store}
use Rattle.store_model.specs.declared.store.Database.{Database}
use Rattle.store_model.specs.declared.index.Index.{Index}
use Rattle.store_model.specs.declared.extract.Extract.{Extract}
use Rattle.store_model.specs.declared.kind.Kind.{Kind}
use Rattle.store_model.specs.declared.kind.Kind.TheVariants.{Plain, Dup}
use Rattle.store_model.specs.declared.change.Change.{Change}
use Rattle.store_model.specs.declared.record_change.RecordChange.{RecordChange}
use Rattle.store_model.specs.declared.record_change.RecordChange.TheVariants.{Set, Unset}
use Rattle.store_model.specs.Store.{Pair, named, name_of, proper, HasRisingNames, IsStore, database_of, pairs_changed, all_pairs_changed, with_pairs, changed, change_in, all_changed}
use Rattle.store_model.specs.Needs.{changed_name}
use Rattle.store_model.specs.Indexes.{IsMadeFrom, IsIndex, AreIndexed}
use Rattle.store_model.proofs.StoreLaws.{changed_is_right}
use Rattle.je_answers.specs.Standing.{Standing}
use Rattle.je_answers.specs.Views.{of_db, changes_in}
use Rattle.standing_laws.proofs.Among.{IsAmong, all_at, mapped_among, found_is, find_some, any_from}
use Rattle.serial_replay.proofs.Rising.{RisesBy, rises, one_of_name, same_names}

-- ---- finding

abbrev pub Numbers : Type 0
Numbers = List ℕ → ℕ

-- a database by its number
abbrev pub numbered_in : Numbers → ℕ → Store → Option Database
numbered_in numbers n store = find (λ d. numbers d.name == n) store.databases

-- what a database is an index of: the number of its primary, and which part of the data is the key
abbrev pub Over : Type 0
Over = Option (ℕ × Extract)

abbrev pub over_by : Numbers → Option Index → Over
over_by numbers None = None
over_by numbers (Some index) = Some (numbers index.primary, index.extract)

abbrev pub Base : Type 0
Base = List ℕ × Kind × Over

abbrev pub base_of : Numbers → Option Database → Option Base
base_of numbers None = None
base_of numbers (Some d) = Some (d.name, d.kind, over_by numbers d.index)

abbrev pub pairs_of : Option Database → List Pair
pairs_of None = []
pairs_of (Some d) = d.pairs

-- its name and kind and what it is an index of, and its records
abbrev pub base_in : Numbers → ℕ → Store → Option Base
base_in numbers n store = base_of numbers (numbered_in numbers n store)

abbrev pub pairs_in : Numbers → ℕ → Store → List Pair
pairs_in numbers n store = pairs_of (numbered_in numbers n store)

abbrev pub base_at : ℕ → Standing → Option Base
base_at n st = base_in st.numbers n st.store

abbrev pub pairs_at : ℕ → Standing → List Pair
pairs_at n st = pairs_in st.numbers n st.store

-- a database that has these
pub record IsBased (numbers : Numbers) (o : Option Database) (b : Base) : Type 0 where
  pub database : Database
  pub is : o ≡ Some database
  pub name : database.name ≡ b.0
  pub kind : database.kind ≡ b.1
  pub over : over_by numbers database.index ≡ b.2

pub based : (numbers : Numbers) (o : Option Database) (b : Base) → base_of numbers o ≡ Some b → IsBased numbers o b
based numbers None b e = absurd (cc (e))
based numbers (Some d) b e = record { database = d; is = refl; name = ap (λ (x : Base). x.0) same; kind = ap (λ (x : Base). x.1) same; over = ap (λ (x : Base). x.2) same }
  where
    some_is : (x y : Base) → Some x ≡ Some y → x ≡ y
    some_is x y k = cc (k)

    same : (d.name, d.kind, over_by numbers d.index) ≡ b
    same = some_is (d.name, d.kind, over_by numbers d.index) b e

find_mapped : (p : Database → Bool) (f : Database → Database) → ((d : Database) → p (f d) ≡ p d) → (ds : List Database) → find p (map f ds) ≡ option_map f (find p ds)
find_mapped p f same [] = refl
find_mapped p f same (d ∷ ds) = ⊎_elim
    (λ e. cond-true (p (f d)) (Some (f d)) (find p (map f ds)) (same d ∙ e) ∙ ap (option_map f) (sym (cond-true (p d) (Some d) (find p ds) e)))
    (λ e. cond-false (p (f d)) (Some (f d)) (find p (map f ds)) (same d ∙ e) ∙ (find_mapped p f same ds ∙ ap (option_map f) (sym (cond-false (p d) (Some d) (find p ds) e))))
    (cases_Bool (p d))

pub find_same : {X : Type 0} (p q : X → Bool) (xs : List X) → ((x : X) → IsAmong x xs → p x ≡ q x) → find p xs ≡ find q xs
find_same p q [] same = refl
find_same p q (x ∷ xs) same = ⊎_elim
    (λ e. cond-true (p x) (Some x) (find p xs) e ∙ sym (cond-true (q x) (Some x) (find q xs) (sym (same x (inl refl)) ∙ e)))
    (λ e. cond-false (p x) (Some x) (find p xs) e ∙ (find_same p q xs (λ y a. same y (inr a)) ∙ sym (cond-false (q x) (Some x) (find q xs) (sym (same x (inl refl)) ∙ e))))
    (cases_Bool (p x))

pub same_number : (n : ℕ) → (n == n) ≡ true
same_number n = grind (arith, nat_tests)

pub same_bytes : (b : List ℕ) → is_same_bytes b b ≡ true
same_bytes b = ap is_eq (by (bytes_cmp b b) (same_names (named b [])))
  where
    by : (o : Ordering) → ordering_then o Equal ≡ Equal → o ≡ Equal
    by Less e = absurd (cc (e))
    by Equal e = refl
    by Greater e = absurd (cc (e))

then_equal : (o : Ordering) → ordering_then o Equal ≡ o
then_equal Less = refl
then_equal Equal = refl
then_equal Greater = refl

pub bytes_exact : (a b : List ℕ) → is_same_bytes a b ≡ true → a ≡ b
bytes_exact a b h = ap (λ (n : Name). n.key) (name_exact (named a []) (named b []) (then_equal (bytes_cmp a b) ∙ equal_from_test (bytes_cmp a b) h))

-- ---- one change

-- a change of one database's records
abbrev in_one : List ℕ → RecordChange → Database → Database
in_one db c d = cond (is_same_bytes d.name db) (with_pairs d (pairs_changed d.kind c d.pairs)) d

changed_is : (db : List ℕ) (c : RecordChange) (store : Store) → changed (change_in db c) store ≡ record { databases = map (in_one db c) store.databases }
changed_is db (Set at value) store = refl
changed_is db (Unset at) store = refl

cond_name : (b : Bool) (d : Database) (pairs : List Pair) → (cond b (with_pairs d pairs) d).name ≡ d.name
cond_name true d pairs = refl
cond_name false d pairs = refl

cond_kind : (b : Bool) (d : Database) (pairs : List Pair) → (cond b (with_pairs d pairs) d).kind ≡ d.kind
cond_kind true d pairs = refl
cond_kind false d pairs = refl

cond_index : (b : Bool) (d : Database) (pairs : List Pair) → (cond b (with_pairs d pairs) d).index ≡ d.index
cond_index true d pairs = refl
cond_index false d pairs = refl

one_name : (db : List ℕ) (c : RecordChange) (d : Database) → (in_one db c d).name ≡ d.name
one_name db c d = cond_name (is_same_bytes d.name db) d (pairs_changed d.kind c d.pairs)

one_kind : (db : List ℕ) (c : RecordChange) (d : Database) → (in_one db c d).kind ≡ d.kind
one_kind db c d = cond_kind (is_same_bytes d.name db) d (pairs_changed d.kind c d.pairs)

one_index : (db : List ℕ) (c : RecordChange) (d : Database) → (in_one db c d).index ≡ d.index
one_index db c d = cond_index (is_same_bytes d.name db) d (pairs_changed d.kind c d.pairs)

one_numbered : (numbers : Numbers) (n : ℕ) (db : List ℕ) (c : RecordChange) (store : Store) → numbered_in numbers n (changed (change_in db c) store) ≡ option_map (in_one db c) (numbered_in numbers n store)
one_numbered numbers n db c store =
    ap (numbered_in numbers n) (changed_is db c store)
    ∙ find_mapped (λ d. numbers d.name == n) (in_one db c) (λ d. ap (λ (b : List ℕ). numbers b == n) (one_name db c d)) store.databases

one_base_of : (numbers : Numbers) (db : List ℕ) (c : RecordChange) (o : Option Database) → base_of numbers (option_map (in_one db c) o) ≡ base_of numbers o
one_base_of numbers db c None = refl
one_base_of numbers db c (Some d) =
    ap₂ (λ (a : List ℕ) (k : Kind). Some (a, k, over_by numbers (in_one db c d).index)) (one_name db c d) (one_kind db c d)
    ∙ ap (λ (i : Option Index). Some (d.name, d.kind, over_by numbers i)) (one_index db c d)

pub one_base : (numbers : Numbers) (n : ℕ) (db : List ℕ) (c : RecordChange) (store : Store) → base_in numbers n (changed (change_in db c) store) ≡ base_in numbers n store
one_base numbers n db c store = ap (base_of numbers) (one_numbered numbers n db c store) ∙ one_base_of numbers db c (numbered_in numbers n store)

-- the number of what was found
pub number_of_found : (numbers : Numbers) (n : ℕ) (store : Store) (d : Database) → numbered_in numbers n store ≡ Some d → numbers d.name ≡ n
number_of_found numbers n store d e = eqb-true (numbers d.name) n (found_is (λ (x : Database). numbers x.name == n) store.databases d e).1

one_pairs : (numbers : Numbers) (n : ℕ) (b : Base) (db : List ℕ) (c : RecordChange) (store : Store) → base_in numbers n store ≡ Some b
    → pairs_in numbers n (changed (change_in db c) store) ≡ cond (is_same_bytes b.0 db) (pairs_changed b.1 c (pairs_in numbers n store)) (pairs_in numbers n store)
one_pairs numbers n b db c store e =
    let i = based numbers (numbered_in numbers n store) b e in
    ap pairs_of (one_numbered numbers n db c store)
    ∙ (ap (λ (o : Option Database). pairs_of (option_map (in_one db c) o)) i.is
    ∙ (by (is_same_bytes i.database.name db) i.database
    ∙ (ap₂ (λ (a : List ℕ) (k : Kind). cond (is_same_bytes a db) (pairs_changed k c i.database.pairs) i.database.pairs) i.name i.kind
    ∙ ap (λ (o : Option Database). cond (is_same_bytes b.0 db) (pairs_changed b.1 c (pairs_of o)) (pairs_of o)) (sym i.is))))
  where
    by : (x : Bool) (d : Database) → pairs_of (Some (cond x (with_pairs d (pairs_changed d.kind c d.pairs)) d)) ≡ cond x (pairs_changed d.kind c d.pairs) d.pairs
    by true d = refl
    by false d = refl

-- ---- changes of several databases

-- a change fits a store: its database is there, and its name is one of that kind
pub record IsFitIn (numbers : Numbers) (store : Store) (c : ℕ × RecordChange) : Type 0 where
  pub base : Base
  pub there : base_in numbers c.0 store ≡ Some base
  pub its : proper base.1 (changed_name c.1) ≡ changed_name c.1

abbrev pub IsFit : Standing → ℕ × RecordChange → Type 0
IsFit st c = IsFitIn st.numbers st.store c

-- changes named by a store's databases
abbrev pub named_in : Numbers → Store → List (ℕ × RecordChange) → List Change
named_in numbers store cs = flat_map (λ c. changes_in (numbered_in numbers c.0 store) c.1) cs

abbrev changes_based : Option Base → RecordChange → List Change
changes_based None c = []
changes_based (Some b) c = change_in b.0 c ∷ []

in_based : (numbers : Numbers) (o : Option Database) (c : RecordChange) → changes_in o c ≡ changes_based (base_of numbers o) c
in_based numbers None c = refl
in_based numbers (Some d) c = refl

-- where the same databases have the same numbers the changes have the same names
pub named_same : (numbers more : Numbers) (store other : Store) (cs : List (ℕ × RecordChange)) → ((c : ℕ × RecordChange) → IsAmong c cs → base_in numbers c.0 store ≡ base_in more c.0 other)
    → named_in numbers store cs ≡ named_in more other cs
named_same numbers more store other [] same = refl
named_same numbers more store other (c ∷ cs) same =
    ap₂ (λ (a b : List Change). a ++ b)
    (in_based numbers (numbered_in numbers c.0 store) c.1 ∙ (ap (λ (o : Option Base). changes_based o c.1) (same c (inl refl)) ∙ sym (in_based more (numbered_in more c.0 other) c.1)))
    (named_same numbers more store other cs (λ d a. same d (inr a)))

pub named_one : (numbers : Numbers) (store : Store) (c : ℕ × RecordChange) (b : Base) → base_in numbers c.0 store ≡ Some b → changes_in (numbered_in numbers c.0 store) c.1 ≡ change_in b.0 c.1 ∷ []
named_one numbers store c b e = in_based numbers (numbered_in numbers c.0 store) c.1 ∙ ap (λ (o : Option Base). changes_based o c.1) e

pub named_append : (numbers : Numbers) (store : Store) (cs ds : List (ℕ × RecordChange)) → named_in numbers store (cs ++ ds) ≡ named_in numbers store cs ++ named_in numbers store ds
named_append numbers store [] ds = refl
named_append numbers store (c ∷ cs) ds =
    ap (λ (l : List Change). changes_in (numbered_in numbers c.0 store) c.1 ++ l) (named_append numbers store cs ds)
    ∙ assoc (changes_in (numbered_in numbers c.0 store) c.1) (named_in numbers store cs) (named_in numbers store ds)
  where
    assoc : (a b d : List Change) → a ++ (b ++ d) ≡ (a ++ b) ++ d
    assoc [] b d = refl
    assoc (x ∷ a) b d = ap (λ (l : List Change). x ∷ l) (assoc a b d)

pub all_append : (cs ds : List Change) (store : Store) → all_changed (cs ++ ds) store ≡ all_changed ds (all_changed cs store)
all_append [] ds store = refl
all_append (c ∷ cs) ds store = all_append cs ds (changed c store)

module _ (numbers : Numbers) (first : Store) where
  -- the store as it goes along, with the same databases
  abbrev IsLike : Store → Type 0
  IsLike store = (n : ℕ) → base_in numbers n store ≡ base_in numbers n first

  step : (c : ℕ × RecordChange) (cs : List (ℕ × RecordChange)) (b : Base) (store : Store) → base_in numbers c.0 first ≡ Some b
      → all_changed (named_in numbers first (c ∷ cs)) store ≡ all_changed (named_in numbers first cs) (changed (change_in b.0 c.1) store)
  step c cs b store e = ap (λ (l : List Change). all_changed (l ++ named_in numbers first cs) store) (named_one numbers first c b e)

  like_on : (db : List ℕ) (c : RecordChange) (store : Store) → IsLike store → IsLike (changed (change_in db c) store)
  like_on db c store like n = one_base numbers n db c store ∙ like n

  pub all_base : (cs : List (ℕ × RecordChange)) (store : Store) → AllByRecursion (IsFitIn numbers first) cs → IsLike store → IsLike (all_changed (named_in numbers first cs) store)
  all_base [] store fit like n = like n
  all_base (c ∷ cs) store fit like n =
      ap (base_in numbers n) (step c cs fit.0.base store fit.0.there) ∙ all_base cs (changed (change_in fit.0.base.0 c.1) store) fit.1 (like_on fit.0.base.0 c.1 store like) n

  pub all_pairs : (cs : List (ℕ × RecordChange)) (store : Store) → AllByRecursion (IsFitIn numbers first) cs → IsLike store → (n : ℕ) (b : Base) → base_in numbers n first ≡ Some b
      → pairs_in numbers n (all_changed (named_in numbers first cs) store) ≡ all_pairs_changed b.1 (of_db n cs) (pairs_in numbers n store)
  all_pairs [] store fit like n b e = refl
  all_pairs (c ∷ cs) store fit like n b e =
      ap (pairs_in numbers n) (step c cs db.base store db.there)
      ∙ (all_pairs cs (changed (change_in db.base.0 c.1) store) fit.1 (like_on db.base.0 c.1 store like) n b e
      ∙ (ap (all_pairs_changed b.1 (of_db n cs)) (one_pairs numbers n b db.base.0 c.1 store (like n ∙ e)) ∙ by (is_same_bytes b.0 db.base.0) refl (c.0 == n) refl))
    where
      db : IsFitIn numbers first c
      db = fit.0

      pairs : List Pair
      pairs = pairs_in numbers n store

      here : IsBased numbers (numbered_in numbers n first) b
      here = based numbers (numbered_in numbers n first) b e

      there : IsBased numbers (numbered_in numbers c.0 first) db.base
      there = based numbers (numbered_in numbers c.0 first) db.base db.there

      number_here : numbers b.0 ≡ n
      number_here = ap numbers (sym here.name) ∙ number_of_found numbers n first here.database here.is

      number_there : numbers db.base.0 ≡ c.0
      number_there = ap numbers (sym there.name) ∙ number_of_found numbers c.0 first there.database there.is

      by : (x : Bool) → is_same_bytes b.0 db.base.0 ≡ x → (y : Bool) → (c.0 == n) ≡ y
          → all_pairs_changed b.1 (of_db n cs) (cond (is_same_bytes b.0 db.base.0) (pairs_changed b.1 c.1 pairs) pairs) ≡ all_pairs_changed b.1 (of_db n (c ∷ cs)) pairs
      by true e true f =
          ap (all_pairs_changed b.1 (of_db n cs)) (cond-true (is_same_bytes b.0 db.base.0) (pairs_changed b.1 c.1 pairs) pairs e)
          ∙ ap (λ (l : List RecordChange). all_pairs_changed b.1 l pairs) (sym (cond-true (c.0 == n) (c.1 ∷ of_db n cs) (of_db n cs) f))
      by true e false f =
          absurd (both_ways (c.0 == n) f (ap (λ (m : ℕ). m == n) (sym number_there ∙ (ap numbers (sym (bytes_exact b.0 db.base.0 e)) ∙ number_here)) ∙ same_number n))
      by false e true f =
          let k : c.0 ≡ n = eqb-true c.0 n f in
          let o : numbered_in numbers n first ≡ Some there.database = ap (λ (m : ℕ). numbered_in numbers m first) (sym k) ∙ there.is in
          let same : b.0 ≡ db.base.0 = sym here.name ∙ (ap (λ (d : Database). d.name) (some_is here.database there.database (sym here.is ∙ o)) ∙ there.name) in
          absurd (both_ways (is_same_bytes b.0 db.base.0) e (ap (is_same_bytes b.0) (sym same) ∙ same_bytes b.0))
        where
          some_is : (x y : Database) → Some x ≡ Some y → x ≡ y
          some_is x y k = cc (k)
      by false e false f =
          ap (all_pairs_changed b.1 (of_db n cs)) (cond-false (is_same_bytes b.0 db.base.0) (pairs_changed b.1 c.1 pairs) pairs e)
          ∙ ap (λ (l : List RecordChange). all_pairs_changed b.1 l pairs) (sym (cond-false (c.0 == n) (c.1 ∷ of_db n cs) (of_db n cs) f))

-- ---- right stores

pub all_right : (cs : List Change) (store : Store) → IsStore store → IsStore (all_changed cs store)
all_right [] store right = right
all_right (c ∷ cs) store right = all_right cs (changed c store) (changed_is_right c store right)

pub pairs_rise : (numbers : Numbers) (n : ℕ) (store : Store) (b : Base) → IsStore store → base_in numbers n store ≡ Some b → RisesBy (name_of b.1) (pairs_in numbers n store)
pairs_rise numbers n store b right e =
    let i = based numbers (numbered_in numbers n store) b e in
    let up = all_at (λ (d : Database). HasRisingNames d.kind d.pairs) store.databases i.database right.records (found_is (λ (d : Database). numbers d.name == n) store.databases i.database i.is).0 in
    subst (λ (o : Option Database). RisesBy (name_of b.1) (pairs_of o)) (sym i.is)
    (subst (λ (k : Kind). RisesBy (name_of k) i.database.pairs) i.kind (rises (name_of i.database.kind) i.database.pairs up))

-- databases of one name are one
abbrev pub name_key : Database → Name
name_key d = named d.name []

pub databases_rise : (ds : List Database) → IsStrictlySortedBy (on (λ (d : Database). d.name) bytes_cmp) ds → RisesBy name_key ds
unfolding IsStrictlySortedBy
databases_rise [] h = tt
databases_rise (d ∷ ds) h = (below ds h.0, databases_rise ds h.1)
  where
    below : (es : List Database) → AllByRecursion (λ e. bytes_cmp d.name e.name ≡ Less) es → AllByRecursion (λ e. name_cmp (name_key d) (name_key e) ≡ Less) es
    below [] k = tt
    below (e ∷ es) k = (then_equal (bytes_cmp d.name e.name) ∙ k.0, below es k.1)

pub one_database : (store : Store) (d e : Database) → IsStore store → IsAmong d store.databases → IsAmong e store.databases → d.name ≡ e.name → d ≡ e
one_database store d e right a b same = one_of_name name_key store.databases d e (databases_rise store.databases right.names) a b (ap (λ (n : List ℕ). named n []) same)

-- ---- numbers of databases

-- the databases of a store have numbers that were allocated, and no two alike
pub record AreNumbered (numbers : Numbers) (last : ℕ) (ds : List Database) : Type 0 where
  pub allocated : (d : Database) → IsAmong d ds → numbers d.name ≤ last
  pub apart : (d e : Database) → IsAmong d ds → IsAmong e ds → numbers d.name ≡ numbers e.name → d.name ≡ e.name

-- a database of a name is the one of its number
pub by_name : (numbers : Numbers) (last : ℕ) (store : Store) (name : List ℕ) (d : Database) → AreNumbered numbers last store.databases → IsAmong d store.databases → d.name ≡ name
    → database_of name store ≡ numbered_in numbers (numbers name) store
by_name numbers last store name d k there is = find_same (λ (e : Database). is_same_bytes e.name name) (λ (e : Database). numbers e.name == numbers name) store.databases (λ e a. same e a (is_same_bytes e.name name) refl (numbers e.name == numbers name) refl)
  where
    same : (e : Database) → IsAmong e store.databases → (x : Bool) → is_same_bytes e.name name ≡ x → (y : Bool) → (numbers e.name == numbers name) ≡ y → is_same_bytes e.name name ≡ (numbers e.name == numbers name)
    same e a true p true q = p ∙ sym q
    same e a true p false q = absurd (both_ways (numbers e.name == numbers name) q (ap (λ (m : List ℕ). numbers m == numbers name) (bytes_exact e.name name p) ∙ same_number (numbers name)))
    same e a false p true q =
        let n : e.name ≡ name = k.apart e d a there (eqb-true (numbers e.name) (numbers name) q ∙ ap numbers (sym is)) ∙ is in
        absurd (both_ways (is_same_bytes e.name name) p (ap (λ (m : List ℕ). is_same_bytes m name) n ∙ same_bytes name))
    same e a false p false q = p ∙ sym q

-- a database that was found by its name is found by its number, and the other way round
pub by_number : (numbers : Numbers) (last : ℕ) (store : Store) (name : List ℕ) (d : Database) → AreNumbered numbers last store.databases → database_of name store ≡ Some d → numbered_in numbers (numbers name) store ≡ Some d
by_number numbers last store name d k e =
    let f = found_is (λ (x : Database). is_same_bytes x.name name) store.databases d e in
    sym (by_name numbers last store name d k f.0 (bytes_exact d.name name f.1)) ∙ e

pub by_found : (numbers : Numbers) (last : ℕ) (store : Store) (n : ℕ) (d : Database) → AreNumbered numbers last store.databases → numbered_in numbers n store ≡ Some d → database_of d.name store ≡ Some d
by_found numbers last store n d k e =
    let f = found_is (λ (x : Database). numbers x.name == n) store.databases d e in
    by_name numbers last store d.name d k f.0 refl ∙ (ap (λ (m : ℕ). numbered_in numbers m store) (eqb-true (numbers d.name) n f.1) ∙ e)

pub numbered_mapped : (numbers : Numbers) (last : ℕ) (f : Database → Database) (ds : List Database) → ((d : Database) → (f d).name ≡ d.name) → AreNumbered numbers last ds → AreNumbered numbers last (map f ds)
numbered_mapped numbers last f ds same k = record {
  allocated = λ d a. let m = mapped_among f ds d a in subst (λ (n : List ℕ). numbers n ≤ last) (sym (same m.0) ∙ ap (λ (x : Database). x.name) m.2) (k.allocated m.0 m.1);
  apart = λ d e a b h.
      let m = mapped_among f ds d a in
      let n = mapped_among f ds e b in
      let at_m : m.0.name ≡ d.name = sym (same m.0) ∙ ap (λ (x : Database). x.name) m.2 in
      let at_n : n.0.name ≡ e.name = sym (same n.0) ∙ ap (λ (x : Database). x.name) n.2 in
      sym at_m ∙ (k.apart m.0 n.0 m.1 n.1 (ap numbers at_m ∙ (h ∙ ap numbers (sym at_n))) ∙ at_n);
}

numbered_one : (numbers : Numbers) (last : ℕ) (db : List ℕ) (c : RecordChange) (store : Store) → AreNumbered numbers last store.databases → AreNumbered numbers last (changed (change_in db c) store).databases
numbered_one numbers last db c store k =
    subst (λ (s : Store). AreNumbered numbers last s.databases) (sym (changed_is db c store)) (numbered_mapped numbers last (in_one db c) store.databases (one_name db c) k)

pub numbered_all : (numbers : Numbers) (last : ℕ) (first : Store) (cs : List (ℕ × RecordChange)) (store : Store) → AreNumbered numbers last store.databases → AreNumbered numbers last (all_changed (named_in numbers first cs) store).databases
numbered_all numbers last first [] store k = k
numbered_all numbers last first (c ∷ cs) store k = by (numbered_in numbers c.0 first) (λ s m. numbered_all numbers last first cs s m)
  where
    by : (o : Option Database) → ((s : Store) → AreNumbered numbers last s.databases → AreNumbered numbers last (all_changed (named_in numbers first cs) s).databases)
        → AreNumbered numbers last (all_changed (changes_in o c.1 ++ named_in numbers first cs) store).databases
    by None more = more store k
    by (Some d) more = more (changed (change_in d.name c.1) store) (numbered_one numbers last d.name c.1 store k)

-- a database that is there under its number is found
pub found_there : (numbers : Numbers) (last n : ℕ) (store : Store) (d : Database) → IsStore store → AreNumbered numbers last store.databases → IsAmong d store.databases → numbers d.name ≡ n → numbered_in numbers n store ≡ Some d
found_there numbers last n store d right k there is =
    let test : Database → Bool = λ e. numbers e.name == n in
    let f = find_some test store.databases (any_from test store.databases d there (ap (λ (m : ℕ). m == n) is ∙ same_number n)) in
    let i = found_is test store.databases f.0 f.1 in
    f.1 ∙ ap (λ (e : Database). Some e) (one_database store f.0 d right i.0 there (k.apart f.0 d i.0 there (eqb-true (numbers f.0.name) n i.1 ∙ sym is)))

-- and under its name
pub named_there : (store : Store) (d : Database) → IsStore store → IsAmong d store.databases → database_of d.name store ≡ Some d
named_there store d right there =
    let test : Database → Bool = λ e. is_same_bytes e.name d.name in
    let f = find_some test store.databases (any_from test store.databases d there (same_bytes d.name)) in
    let i = found_is test store.databases f.0 f.1 in
    f.1 ∙ ap (λ (e : Database). Some e) (one_database store f.0 d right i.0 there (bytes_exact f.0.name d.name i.1))

-- ---- indexes of a store

-- an index has sorted duplicates, and is of a plain database that is there and no index
abbrev pub IsOver : Store → Database → Index → Type 0
IsOver store d index = (d.kind ≡ Dup) × ((p : Database) × (database_of index.primary store ≡ Some p) × (p.kind ≡ Plain) × (p.index ≡ None))

abbrev pub AreOver : Store → Type 0
AreOver store = (d : Database) (index : Index) → IsAmong d store.databases → d.index ≡ Some index → IsOver store d index

pub indexed_over : (store : Store) → AreIndexed store → AreOver store
indexed_over store h d index there is = by (database_of index.primary store) refl (subst (IsIndex store d) is (all_at (λ (e : Database). IsIndex store e e.index) store.databases d h there))
  where
    by : (o : Option Database) → database_of index.primary store ≡ o → (d.kind ≡ Dup) × IsMadeFrom (database_of index.primary store) index.extract d.pairs → IsOver store d index
    by None e k = absurd (subst (λ (o : Option Database). IsMadeFrom o index.extract d.pairs) e k.1)
    by (Some p) e k = let m = subst (λ (o : Option Database). IsMadeFrom o index.extract d.pairs) e k.1 in (k.0, (p, e, m.0, m.1))

over_one : (db : List ℕ) (c : RecordChange) (store : Store) → AreOver store → AreOver (changed (change_in db c) store)
over_one db c store over = subst AreOver (sym (changed_is db c store)) (λ d index a is.
    let m = mapped_among (in_one db c) store.databases d a in
    let o = over m.0 index m.1 (sym (one_index db c m.0) ∙ (ap (λ (x : Database). x.index) m.2 ∙ is)) in (
      ap (λ (x : Database). x.kind) (sym m.2) ∙ (one_kind db c m.0 ∙ o.0),
      (
        in_one db c o.1.0,
        find_mapped (λ x. is_same_bytes x.name index.primary) (in_one db c) (λ x. ap (λ (b : List ℕ). is_same_bytes b index.primary) (one_name db c x)) store.databases ∙ ap (option_map (in_one db c)) o.1.1,
        one_kind db c o.1.0 ∙ o.1.2,
        one_index db c o.1.0 ∙ o.1.3,
      ),
    ))

pub over_all : (numbers : Numbers) (first : Store) (cs : List (ℕ × RecordChange)) (store : Store) → AreOver store → AreOver (all_changed (named_in numbers first cs) store)
over_all numbers first [] store over = over
over_all numbers first (c ∷ cs) store over = by (numbered_in numbers c.0 first) (λ s h. over_all numbers first cs s h)
  where
    by : (o : Option Database) → ((s : Store) → AreOver s → AreOver (all_changed (named_in numbers first cs) s)) → AreOver (all_changed (changes_in o c.1 ++ named_in numbers first cs) store)
    by None more = more store over
    by (Some d) more = more (changed (change_in d.name c.1) store) (over_one d.name c.1 store over)
