-- What a call comes to through indexes, said by the numbers of databases: the records that are changed are those of one database, and what comes with
-- a change of a record in an index hangs on the data of that record alone.
use Rattle.std.proofs.Common.{◌≡◌, ◌⊎◌, inl, inr, ℕ, ◌==◌, true, false, List, [], ◌∷◌, ◌++◌, map, filter, Option, None, Some, refl, ap, ap₂, sym, ◌∙◌, subst, ⊎_elim, Ordering, Less, Equal, Greater, is_eq}
use Rattle.std.specs.Prelude.{unwrap_or, option_map}
use Rattle.std.specs.List.{flat_map}
use Rattle.std.specs.Option.{option_map_or}
use Rattle.std.specs.Ordering.{ordering_then}
use Rattle.std.proofs.lemmas.Bool.{cases_Bool, cond-true, cond-false, eqb-true}
use Rattle.je_order.specs.Order.{bytes_cmp, name_cmp, is_same_bytes}
use Rattle.je_order.specs.declared.name.Name.{Name}
use Rattle.store_model.specs.declared.store.Store.{Store}
use Rattle.store_model.specs.declared.store.Database.{Database}
use Rattle.store_model.specs.declared.index.Index.{Index}
use Rattle.store_model.specs.declared.extract.Extract.{Extract}
use Rattle.store_model.specs.declared.kind.Kind.TheVariants.{Plain, Dup}
use Rattle.store_model.specs.declared.answer.Answer.{Answer}
use Rattle.store_model.specs.declared.answer.Answer.TheVariants.{Rec, IndexRec, NoPosition}
use Rattle.store_model.specs.declared.record_change.RecordChange.{RecordChange}
use Rattle.store_model.specs.declared.record_change.RecordChange.TheVariants.{Unset}
use Rattle.store_model.specs.Store.{Pair, named, name_of, pair_at, database_of, changed_name, data_after, IsStore}
use Rattle.store_model.specs.Indexes.{Numbered, is_index_of, indexes_of, primary_of, records_name, data_under, index_changes, changes_in, with_indexes, changed_database, changed_through, all_changes, index_answer, answer_through}
use Rattle.store_model.specs.Reads.{at_name}
use Rattle.je_answers.specs.Views.{Target, target, with_numbers}
use Rattle.je_answers.proofs.PlainTargets.{numbers_there}
use Rattle.standing_laws.proofs.Among.{IsAmong, all_at, all_of, mapped_among, filter_among, among_filter, found_is}
use Rattle.serial_replay.proofs.Occupied.{flat_is}
use Rattle.serial_replay.proofs.Rising.{RisesBy, rises_kept, never_less as never_below}
use Rattle.serial_replay.proofs.Stores.{Numbers, Over, over_by, numbered_in, bytes_exact, same_bytes, name_key, databases_rise, AreNumbered, by_number as number_found, by_found, found_there, AreOver, IsOver}
use Rattle.serial_replay.proofs.NumberedLists.{AreRising, AreApart, numbered_is, numbered_has, numbered_rises, same_flat}

-- ---- a reply, by numbers

-- the number of the database whose records are changed
abbrev pub records_number : ℕ → Over → ℕ
records_number n None = n
records_number n (Some o) = o.0

-- what becomes of a change there
abbrev pub changed_by : Over → RecordChange → RecordChange
changed_by None c = c
changed_by (Some o) c = Unset (named (changed_name c).dup [])

-- and of an answer
abbrev pub answered_by : Over → List Pair → Answer → Answer
answered_by None records answer = answer
answered_by (Some o) records (Rec key primary_key) = IndexRec key primary_key (unwrap_or (data_under primary_key records) [])
answered_by (Some o) records answer = answer

-- what a change of a record changes in an index; and what it comes to with that in all indexes; and what several do
abbrev pub in_index : List Pair → RecordChange → Numbered → List (ℕ × RecordChange)
in_index records c x = map (λ y. (x.0, y)) (changes_in x.1.index records c)

abbrev pub with_all : ℕ → List Numbered → List Pair → RecordChange → List (ℕ × RecordChange)
with_all q is records c = (q, c) ∷ flat_map (in_index records c) is

abbrev pub reply_changes : Over → ℕ → List Numbered → List Pair → List RecordChange → List (ℕ × RecordChange)
reply_changes o q is records cs = flat_map (λ c. with_all q is records (changed_by o c)) cs

-- that a cursor stands at no record is no record
pub lost_answer : (o : Over) (records : List Pair) → answered_by o records NoPosition ≡ NoPosition
lost_answer None records = refl
lost_answer (Some o) records = refl

numbers_append : (xs ys : List (Numbered × RecordChange)) → with_numbers (xs ++ ys) ≡ with_numbers xs ++ with_numbers ys
numbers_append [] ys = refl
numbers_append (x ∷ xs) ys = ap (λ (l : List (ℕ × RecordChange)). (x.0.0, x.1) ∷ l) (numbers_append xs ys)

numbers_indexes : (records : List Pair) (c : RecordChange) (is : List Numbered)
    → with_numbers (flat_map (λ i. map (λ x. (i, x)) (changes_in i.1.index records c)) is) ≡ flat_map (in_index records c) is
numbers_indexes records c [] = refl
numbers_indexes records c (i ∷ is) =
    numbers_append (map (λ x. (i, x)) (changes_in i.1.index records c)) (flat_map (λ j. map (λ x. (j, x)) (changes_in j.1.index records c)) is)
    ∙ ap₂ (λ (a b : List (ℕ × RecordChange)). a ++ b) (numbers_there i (changes_in i.1.index records c)) (numbers_indexes records c is)

pub numbers_all : (over : Option Numbered) (d : Numbered) (is : List Numbered) (see : Numbered → List Pair) (cs : List RecordChange)
    → with_numbers (all_changes over d is see cs) ≡ flat_map (λ c. with_all (changed_database over d).0 is (see (changed_database over d)) (changed_through over c)) cs
numbers_all over d is see [] = refl
numbers_all over d is see (c ∷ cs) =
    let m = changed_database over d in
    numbers_append (with_indexes m is (see m) (changed_through over c)) (all_changes over d is see cs)
    ∙ ap₂ (λ (a b : List (ℕ × RecordChange)). a ++ b)
    (ap (λ (l : List (ℕ × RecordChange)). (m.0, changed_through over c) ∷ l) (numbers_indexes (see m) (changed_through over c) is))
    (numbers_all over d is see cs)

pub flat_same : {X Y : Type 0} (f g : X → List Y) (xs : List X) → ((x : X) → IsAmong x xs → f x ≡ g x) → flat_map f xs ≡ flat_map g xs
flat_same f g [] same = refl
flat_same {X} {Y} f g (x ∷ xs) same = ap₂ (λ (a b : List Y). a ++ b) (same x (inl refl)) (flat_same f g xs (λ y a. same y (inr a)))

-- ---- the data of a record

abbrev head_of : List Pair → Option Pair
head_of [] = None
head_of (p ∷ ps) = Some p

then_equal : (o : Ordering) → is_eq (ordering_then o Equal) ≡ is_eq o
then_equal Less = refl
then_equal Equal = refl
then_equal Greater = refl

found_first : (key : List ℕ) (pairs : List Pair) → pair_at key pairs ≡ head_of (at_name Plain (named key []) pairs)
found_first key [] = refl
found_first key (p ∷ pairs) = ⊎_elim
    (λ e. cond-true (is_same_bytes p.0 key) (Some p) (pair_at key pairs) e
    ∙ ap head_of (sym (cond-true (is_eq (name_cmp (name_of Plain p) (named key []))) (p ∷ at_name Plain (named key []) pairs) (at_name Plain (named key []) pairs) (then_equal (bytes_cmp p.0 key) ∙ e))))
    (λ e. cond-false (is_same_bytes p.0 key) (Some p) (pair_at key pairs) e
    ∙ (found_first key pairs ∙ ap head_of (sym (cond-false (is_eq (name_cmp (name_of Plain p) (named key []))) (p ∷ at_name Plain (named key []) pairs) (at_name Plain (named key []) pairs) (then_equal (bytes_cmp p.0 key) ∙ e)))))
    (cases_Bool (is_same_bytes p.0 key))

-- it hangs on the record of that name alone
pub same_data : (key : List ℕ) (v w : List Pair) → at_name Plain (named key []) v ≡ at_name Plain (named key []) w → data_under key v ≡ data_under key w
same_data key v w e = ap (option_map (λ (p : Pair). p.1)) (found_first key v ∙ (ap head_of e ∙ sym (found_first key w)))

-- a record's data
pub data_is : (key value : List ℕ) (v : List Pair) → at_name Plain (named key []) v ≡ (key, value) ∷ [] → data_under key v ≡ Some value
data_is key value v e = ap (option_map (λ (p : Pair). p.1)) (found_first key v ∙ ap head_of e)

-- what comes in two forms of an index is the same
pub same_in_index : (numbers more : Numbers) (v w : List Pair) (c : RecordChange) (x y : Numbered) (o : ℕ × Extract) → x.0 ≡ y.0 → over_by numbers x.1.index ≡ Some o → over_by more y.1.index ≡ Some o
    → data_under (changed_name c).key v ≡ data_under (changed_name c).key w → in_index v c x ≡ in_index w c y
same_in_index numbers more v w c x y o same e f its_data =
    ap₂ (λ (n : ℕ) (l : List RecordChange). map (λ z. (n, z)) l) same (by x.1.index y.1.index e f)
  where
    over_is : (i : Index) (ns : Numbers) → over_by ns (Some i) ≡ Some o → i.extract ≡ o.1
    over_is i ns h = let k : (ns i.primary, i.extract) ≡ o = some_is (ns i.primary, i.extract) o h in ap (λ (z : ℕ × Extract). z.1) k
      where
        some_is : (a b : ℕ × Extract) → Some a ≡ Some b → a ≡ b
        some_is a b h = cc (h)

    by : (i j : Option Index) → over_by numbers i ≡ Some o → over_by more j ≡ Some o → changes_in i v c ≡ changes_in j w c
    by None j h k = absurd (cc (h))
    by (Some i) None h k = absurd (cc (k))
    by (Some i) (Some j) h k = ap₂ (λ (e : Extract) (d : Option (List ℕ)). index_changes e (changed_name c).key d (data_after c)) (over_is i numbers h ∙ sym (over_is j more k)) its_data

-- ---- the indexes of a database

-- all of them, by rising number
pub record AreIndexesOf (numbers : Numbers) (store : Store) (q : ℕ) (is : List Numbered) : Type 0 where
  pub rising : AreRising is
  pub its : (x : Numbered) → IsAmong x is → (numbered_in numbers x.0 store ≡ Some x.1) × ((e : Extract) × (over_by numbers x.1.index ≡ Some (q, e)))
  pub all : (n : ℕ) (d : Database) (e : Extract) → numbered_in numbers n store ≡ Some d → over_by numbers d.index ≡ Some (q, e) → IsAmong (n, d) is

-- the database whose records a call changes, and its indexes
pub record IsFound (numbers : Numbers) (store : Store) (n : ℕ) (d : Database) (g : Target) (o : Over) : Type 0 where
  pub records : Database
  pub here : numbered_in numbers (records_number n o) store ≡ Some records
  pub over : (p : ℕ × Extract) → o ≡ Some p → g.over ≡ Some (p.0, records)
  pub changing : changed_database g.over (n, d) ≡ (records_number n o, records)
  pub through : (c : RecordChange) → changed_through g.over c ≡ changed_by o c
  pub answer : (see : Numbered → List Pair) (a : Answer) → answer_through g.over see a ≡ answered_by o (see (records_number n o, records)) a
  pub indexes : AreIndexesOf numbers store (records_number n o) g.indexes
  pub plain : (x : Numbered) → IsAmong x g.indexes → records.kind ≡ Plain
  pub over_plain : (p : ℕ × Extract) → o ≡ Some p → records.kind ≡ Plain

-- its reply by numbers
pub changes_are : (numbers : Numbers) (store : Store) (n : ℕ) (d : Database) (g : Target) (o : Over) (see : Numbered → List Pair) (cs : List RecordChange) (k : IsFound numbers store n d g o)
    → with_numbers (all_changes g.over (n, d) g.indexes see cs) ≡ reply_changes o (records_number n o) g.indexes (see (records_number n o, k.records)) cs
changes_are numbers store n d g o see cs k =
    numbers_all g.over (n, d) g.indexes see cs
    ∙ (ap (λ (m : Numbered). flat_map (λ c. with_all m.0 g.indexes (see m) (changed_through g.over c)) cs) k.changing
    ∙ flat_same (λ c. with_all (records_number n o) g.indexes (see (records_number n o, k.records)) (changed_through g.over c)) (λ c. with_all (records_number n o) g.indexes (see (records_number n o, k.records)) (changed_by o c)) cs
    (λ c a. ap (with_all (records_number n o) g.indexes (see (records_number n o, k.records))) (k.through c)))

abbrev over_of : ℕ → Extract → Over
over_of n e = Some (n, e)

apart_of : (numbers : Numbers) (ds : List Database) → RisesBy name_key ds → ((d e : Database) → IsAmong d ds → IsAmong e ds → numbers d.name ≡ numbers e.name → d.name ≡ e.name) → AreApart numbers ds
apart_of numbers [] up same = tt
apart_of numbers (d ∷ ds) up same = (
  all_of (λ e. numbers d.name ≡ numbers e.name → ⊥) ds (λ e a h. never_below (name_key d) (subst (λ (n : List ℕ). name_cmp (name_key d) (named n []) ≡ Less) (sym (same d e (inl refl) (inr a) h)) (all_at (λ (x : Database). name_cmp (name_key d) (name_key x) ≡ Less) ds e up.0 a))),
  apart_of numbers ds up.1 (λ x y a b. same x y (inr a) (inr b)),
)

over_first : (a b : ℕ) (u v : Extract) → over_of a u ≡ over_of b v → a ≡ b
over_first a b u v h = ap (λ (z : ℕ × Extract). z.0) (all_is (a, u) (b, v) h)
  where
    all_is : (x y : ℕ × Extract) → Some x ≡ Some y → x ≡ y
    all_is x y k = cc (k)

pub index_is : (name : List ℕ) (o : Option Index) → option_map_or (λ (i : Index). is_same_bytes i.primary name) o false ≡ true → (i : Index) × (o ≡ Some i) × (i.primary ≡ name)
index_is name None h = absurd (cc (h))
index_is name (Some i) h = (i, refl, bytes_exact i.primary name h)

some_database : (x y : Database) → Some x ≡ Some y → x ≡ y
some_database x y e = cc (e)

module _ (numbers : Numbers) (last : ℕ) (store : Store) (right : IsStore store) (numbered : AreNumbered numbers last store.databases) (over : AreOver store) where
  module _ (name : List ℕ) (d : Database) (named_it : database_of name store ≡ Some d) where
    its_name : IsAmong d store.databases × (d.name ≡ name)
    its_name = let f = found_is (λ (x : Database). is_same_bytes x.name name) store.databases d named_it in (f.0, bytes_exact d.name name f.1)

    -- one of its indexes
    one_is : (x : Numbered) → IsAmong x (indexes_of numbers store name) → IsAmong x.1 store.databases × (x.0 ≡ numbers x.1.name) × ((i : Index) × (x.1.index ≡ Some i) × (i.primary ≡ name))
    one_is x a =
        let r = numbered_is numbers (filter (is_index_of name) store.databases) x a in
        let f = filter_among (is_index_of name) store.databases x.1 r.0 in
        (f.0, r.1, index_is name x.1.index f.1)

    pub indexes_are : AreIndexesOf numbers store (numbers name) (indexes_of numbers store name)
    indexes_are = record {
      rising = numbered_rises numbers (filter (is_index_of name) store.databases)
          (apart_of numbers (filter (is_index_of name) store.databases) (rises_kept name_key (is_index_of name) store.databases (databases_rise store.databases right.names))
          (λ x y a b. numbered.apart x y (filter_among (is_index_of name) store.databases x a).0 (filter_among (is_index_of name) store.databases y b).0));
      its = λ x a. let r = one_is x a in (
        found_there numbers last x.0 store x.1 right numbered r.0 (sym r.1),
        (r.2.0.extract, ap (over_by numbers) r.2.1 ∙ ap (λ (m : List ℕ). Some (numbers m, r.2.0.extract)) r.2.2),
      );
      all = λ n x e h k. let f = found_is (λ (z : Database). numbers z.name == n) store.databases x h in there n x e h k f.0 x.index refl;
    }
      where
        primary_is : (x : Database) (i : Index) (e : Extract) → IsAmong x store.databases → x.index ≡ Some i → over_by numbers x.index ≡ Some (numbers name, e) → i.primary ≡ name
        primary_is x i e a is k =
            let o = over x i a is in
            let f = found_is (λ (z : Database). is_same_bytes z.name i.primary) store.databases o.1.0 o.1.1 in
            let same : numbers i.primary ≡ numbers name = over_first (numbers i.primary) (numbers name) i.extract e (sym (ap (over_by numbers) is) ∙ k) in
            let p : o.1.0.name ≡ i.primary = bytes_exact o.1.0.name i.primary f.1 in
            sym p ∙ (numbered.apart o.1.0 d f.0 its_name.0 (ap numbers p ∙ (same ∙ ap numbers (sym its_name.1))) ∙ its_name.1)

        there : (n : ℕ) (x : Database) (e : Extract) → numbered_in numbers n store ≡ Some x → over_by numbers x.index ≡ Some (numbers name, e) → IsAmong x store.databases → (o : Option Index) → x.index ≡ o → IsAmong (n, x) (indexes_of numbers store name)
        there n x e h k a None is = let m = sym (ap (over_by numbers) is) ∙ k in absurd (cc (m))
        there n x e h k a (Some i) is =
            let f = found_is (λ (z : Database). numbers z.name == n) store.databases x h in
            let mine : is_index_of name x ≡ true = ap (λ (o : Option Index). option_map_or (λ (z : Index). is_same_bytes z.primary name) o false) is ∙ (ap (λ (m : List ℕ). is_same_bytes m name) (primary_is x i e a is k) ∙ same_bytes name) in
            subst (λ (m : ℕ). IsAmong (m, x) (indexes_of numbers store name)) (number_is n x f.1)
            (numbered_has numbers (filter (is_index_of name) store.databases) x (among_filter (is_index_of name) store.databases x a mine))
          where
            number_is : (m : ℕ) (z : Database) → (numbers z.name == m) ≡ true → numbers z.name ≡ m
            number_is m z t = eqb-true (numbers z.name) m t

    -- who has indexes is plain
    pub has_plain : (x : Numbered) → IsAmong x (indexes_of numbers store name) → d.kind ≡ Plain
    has_plain x a =
        let r = one_is x a in
        let o = over x.1 r.2.0 r.0 r.2.1 in
        ap (λ (z : Database). z.kind) (some_database d o.1.0 (sym named_it ∙ (ap (λ (m : List ℕ). database_of m store) (sym r.2.2) ∙ o.1.1))) ∙ o.1.2

  -- ---- what a call is on

  index_answered : (p : Numbered) (see : Numbered → List Pair) (o : ℕ × Extract) (a : Answer) → index_answer p see a ≡ answered_by (Some o) (see p) a
  index_answered p see o (Rec key value) = refl
  index_answered p see o a = refl

  pub found_target : (n : ℕ) (at : Option Name) (d : Database) → numbered_in numbers n store ≡ Some d → IsFound numbers store n d (target numbers store n at d) (over_by numbers d.index)
  found_target n at d h = by d.index refl
    where
      f : IsAmong d store.databases × (numbers d.name ≡ n)
      f = let k = found_is (λ (x : Database). numbers x.name == n) store.databases d h in (k.0, eqb-true (numbers d.name) n k.1)

      g : Target
      g = target numbers store n at d

      by : (i : Option Index) → d.index ≡ i → IsFound numbers store n d (target numbers store n at d) (over_by numbers d.index)
      by None e = subst (λ (i : Option Index). IsFound numbers store n d (target numbers store n at d) (over_by numbers i)) (sym e) (record {
        records = d;
        here = h;
        over = λ p k. absurd (cc (k));
        changing = ap (λ (v : Option Numbered). changed_database v (n, d)) none;
        through = λ c. ap (λ (v : Option Numbered). changed_through v c) none;
        answer = λ see a. ap (λ (v : Option Numbered). answer_through v see a) none;
        indexes = subst (λ (m : ℕ). AreIndexesOf numbers store m (indexes_of numbers store (records_name d))) f.1
            (subst (λ (m : List ℕ). AreIndexesOf numbers store (numbers d.name) (indexes_of numbers store m)) (sym same_name) (indexes_are d.name d its));
        plain = λ x a. has_plain d.name d its x (subst (λ (m : List ℕ). IsAmong x (indexes_of numbers store m)) same_name a);
        over_plain = λ p k. absurd (cc (k));
      })
        where
          none : primary_of numbers store d.index ≡ None
          none = ap (primary_of numbers store) e

          same_name : records_name d ≡ d.name
          same_name = ap (λ (i : Option Index). option_map_or (λ (x : Index). x.primary) i d.name) e

          its : database_of d.name store ≡ Some d
          its = by_found numbers last store n d numbered h
      by (Some i) e = subst (λ (j : Option Index). IsFound numbers store n d (target numbers store n at d) (over_by numbers j)) (sym e) (record {
        records = p;
        here = number_found numbers last store i.primary p numbered o.1.1;
        over = λ q k. some ∙ ap (λ (m : ℕ). Some (m, o.1.0)) (first_is (numbers i.primary, i.extract) q k);
        changing = ap (λ (v : Option Numbered). changed_database v (n, d)) some;
        through = λ c. ap (λ (v : Option Numbered). changed_through v c) some;
        answer = λ see a. ap (λ (v : Option Numbered). answer_through v see a) some ∙ index_answered (numbers i.primary, p) see (numbers i.primary, i.extract) a;
        indexes = subst (λ (m : List ℕ). AreIndexesOf numbers store (numbers i.primary) (indexes_of numbers store m)) (sym same_name) (indexes_are i.primary p o.1.1);
        plain = λ x a. o.1.2;
        over_plain = λ q k. o.1.2;
      })
        where
          o : IsOver store d i
          o = over d i f.0 e

          p : Database
          p = o.1.0

          some : primary_of numbers store d.index ≡ Some (numbers i.primary, o.1.0)
          some = ap (primary_of numbers store) e ∙ ap (option_map (λ (x : Database). (numbers i.primary, x))) o.1.1

          first_is : (x y : ℕ × Extract) → Some x ≡ Some y → x.0 ≡ y.0
          first_is x y k = ap (λ (z : ℕ × Extract). z.0) (all_is x y k)
            where
              all_is : (u v : ℕ × Extract) → Some u ≡ Some v → u ≡ v
              all_is u v h = cc (h)

          same_name : records_name d ≡ i.primary
          same_name = ap (λ (j : Option Index). option_map_or (λ (x : Index). x.primary) j d.name) e

-- ---- two replies that are the same

module _ (numbers more : Numbers) (store other : Store) (o : Over) (q : ℕ) (is js : List Numbered) (first : AreIndexesOf numbers store q is) (second : AreIndexesOf more other q js) (v w : List Pair) where
  -- where each index in which something changes is still there, no index is new, and the records that are changed have the same data
  pub same_reply : (cs : List RecordChange)
      → ((c : RecordChange) → IsAmong c cs → (x : Numbered) → IsAmong x is → (in_index v (changed_by o c) x ≡ []) ⊎ ((y : Numbered) × IsAmong y js × (y.0 ≡ x.0)))
      → ((c : RecordChange) → IsAmong c cs → (y : Numbered) → IsAmong y js → (x : Numbered) × IsAmong x is × (x.0 ≡ y.0) × (over_by numbers x.1.index ≡ over_by more y.1.index))
      → ((c : RecordChange) → IsAmong c cs → (x : Numbered) → IsAmong x is → data_under (changed_name (changed_by o c)).key v ≡ data_under (changed_name (changed_by o c)).key w)
      → reply_changes o q is v cs ≡ reply_changes o q js w cs
  same_reply cs there back same = flat_same (λ c. with_all q is v (changed_by o c)) (λ c. with_all q js w (changed_by o c)) cs (λ c a.
      ap (λ (l : List (ℕ × RecordChange)). (q, changed_by o c) ∷ l)
      (same_flat (in_index v (changed_by o c)) (in_index w (changed_by o c)) is js first.rising second.rising (there c a) (λ y b. at c a y b (back c a y b))))
    where
      at : (c : RecordChange) → IsAmong c cs → (y : Numbered) → IsAmong y js → (x : Numbered) × IsAmong x is × (x.0 ≡ y.0) × (over_by numbers x.1.index ≡ over_by more y.1.index)
          → (x : Numbered) × IsAmong x is × (x.0 ≡ y.0) × (in_index v (changed_by o c) x ≡ in_index w (changed_by o c) y)
      at c a y b (x, k, e, f) =
          let i = first.its x k in
          (x, k, e, same_in_index numbers more v w (changed_by o c) x y (q, i.1.0) e i.1.1 (sym f ∙ i.1.1) (same c a x k))

-- an index has sorted duplicates
pub index_kind : (numbers : Numbers) (store : Store) (d : Database) (o : ℕ × Extract) → AreOver store → IsAmong d store.databases → over_by numbers d.index ≡ Some o → d.kind ≡ Dup
index_kind numbers store d o over there is = by d.index refl
  where
    by : (i : Option Index) → d.index ≡ i → d.kind ≡ Dup
    by None e = let k = sym (ap (over_by numbers) e) ∙ is in absurd (cc (k))
    by (Some i) e = (over d i there e).0

-- each change is in a database of the store
pub all_there : (numbers : Numbers) (store : Store) (n : ℕ) (d : Database) (g : Target) (o : Over) (see : Numbered → List Pair) (cs : List RecordChange) → IsFound numbers store n d g o
    → (m : Numbered × RecordChange) → IsAmong m (all_changes g.over (n, d) g.indexes see cs) → numbered_in numbers m.0.0 store ≡ Some m.0.1
all_there numbers store n d g o see cs found m k = by (flat_is (λ (c : RecordChange). with_indexes (changed_database g.over (n, d)) g.indexes (see (changed_database g.over (n, d))) (changed_through g.over c)) cs m k)
  where
    in_one : (c : RecordChange) → IsAmong m (flat_map (λ i. map (λ y. (i, y)) (changes_in i.1.index (see (changed_database g.over (n, d))) c)) g.indexes) → IsAmong m.0 g.indexes
    in_one c i =
        let f = flat_is (λ (x : Numbered). map (λ y. (x, y)) (changes_in x.1.index (see (changed_database g.over (n, d))) c)) g.indexes m i in
        let p = mapped_among (λ (y : RecordChange). (f.0, y)) _ m f.2 in
        subst (λ (x : Numbered). IsAmong x g.indexes) (ap (λ (z : Numbered × RecordChange). z.0) p.2) f.1

    by : (c : RecordChange) × IsAmong c cs × IsAmong m (with_indexes (changed_database g.over (n, d)) g.indexes (see (changed_database g.over (n, d))) (changed_through g.over c)) → numbered_in numbers m.0.0 store ≡ Some m.0.1
    by (c, a, inl e) = subst (λ (x : Numbered). numbered_in numbers x.0 store ≡ Some x.1) (sym found.changing ∙ ap (λ (z : Numbered × RecordChange). z.0) e) found.here
    by (c, a, inr i) = (found.indexes.its m.0 (in_one (changed_through g.over c) i)).0
