-- The databases of a target are those that an environment finds by its own, and the store has them.
use mathlib.Core.Path.{fun_ext}
use Rattle.std.proofs.Common.{◌≡◌, ◌≢◌, ◌⊎◌, inl, inr, ◌∙◌, ◌<◌, ◌==◌, nat_lt, ℕ, Bool, true, false, true≢false, cond, List, [], ◌∷◌, Option, None, Some, IfSome, filter, find, map, option_map, unwrap_or, refl, ap, ap₂, sym, subst, arith}
use Rattle.std.specs.List.{AllByRecursion}
use Rattle.std.proofs.lemmas.Bool.Decides.{eqb_tells}
use Rattle.std.proofs.lemmas.Option.{none-some, same_Some}
use Rattle.je_order.proofs.Lists.{all_kept, all_weaker}
use Rattle.store_model.specs.declared.extract.Extract.{Extract}
use Rattle.store_model.specs.declared.index.Index.{Index}
use Rattle.store_model.specs.declared.kind.Kind.{Kind}
use Rattle.store_model.specs.declared.kind.Kind.TheVariants.{Plain, Dup}
use Rattle.store_model.specs.declared.store.Database.{Database}
use Rattle.store_model.specs.declared.store.Store.{Store}
use Rattle.store_model.specs.Store.{database_of}
use Rattle.store_model.specs.Indexes.{Numbered, by_number, changed_database, indexes_of, is_index_of, primary_of, records_name, with_among}
use Rattle.je_answers.specs.Standing.{Standing, database_at}
use Rattle.je_answers.specs.Views.{Target}
use Rattle.db_catalog.specs.declared.db_record.DbRecord.{DbRecord}
use Rattle.db_catalog.specs.declared.db_kind.DbKind.{DbKind}
use Rattle.db_catalog.specs.declared.db_kind.DbKind.TheVariants.{Plain as PlainRecord, Dup as DupRecord, SliceIndex, FieldIndex}
use Rattle.db_catalog.specs.Catalog.{db_record_in}
use Rattle.log_replay.specs.Rows.{Row, Rows, catalog_index, catalog_kind, database_in, index_in, index_or_none, index_over, kind_or_plain, row_at, row_numbered, store_of}
use Rattle.log_replay.specs.Logging.{number_named}
use Rattle.log_replay.proofs.ListLaws.{all_both, all_to_map, found}
use Rattle.log_replay.proofs.LoggedLaws.{found_each}
use Rattle.log_replay.proofs.RowLaws.{plain_name-key}
use Rattle.log_replay.proofs.StoreLaws.{catalog_plain, database_of-store_of, environment_parts}
use Rattle.je_order.specs.declared.name.Name.{Name}
use Rattle.txn_log.specs.Committing.{MakesStore}
use Rattle.index_map.specs.declared.found_index.FoundIndex.{FoundIndex}
use Rattle.index_map.specs.declared.index_map.IndexMap.{IndexMap}
use Rattle.index_map.specs.Made.{AreIndexesOf, AreRising, Made, extract_in, extract_of, made_in, primary_in}
use Rattle.index_map.specs.Map.{HasIndexes, list_at}
use Rattle.index_map.specs.Laws.{db_at, indexes_at, known, over_of, records_number}
use Rattle.index_map.proofs.Found.{indexes_are_found}
use Rattle.environment.specs.Access.{AreNumbersApart, AreThere, HasShortKeys, IsDbAt, IsIndexAt, IsPrimaryAt}
use Rattle.environment.specs.Valid.{index_made, made_at}
use Rattle.environment.proofs.Databases.{made_is}
use Rattle.environment.proofs.LateLaws.{known_as}
use Rattle.environment.proofs.ShortKeys.{short_keys}

-- ---- lists of found indexes and of a store's

-- what a plan knows of the first of some databases, and of those behind it
abbrev first_kind : List Numbered → Kind
first_kind [] = Dup
first_kind (d ∷ ds) = d.1.kind

abbrev first_number : ℕ → List Numbered → ℕ
first_number n [] = n
first_number n (d ∷ ds) = d.0

abbrev behind : List Numbered → List Numbered
behind [] = []
behind (d ∷ ds) = ds

kinds_of : (is : List Numbered) (fs : List FoundIndex) → indexes_at fs ≡ map known is → AllByRecursion (λ i. i.1.kind ≡ Dup) is
kinds_of [] fs e = tt
kinds_of (i ∷ is) [] e = absurd cc
kinds_of (i ∷ is) (f ∷ fs) e = (sym (ap first_kind e), kinds_of is fs (ap behind e))

-- what holds of the number of each found one holds of that of each of the store's
numbers_of : (P : ℕ → Type 0) (is : List Numbered) (fs : List FoundIndex) → indexes_at fs ≡ map known is → AllByRecursion (λ f. P f.number) fs → AllByRecursion (λ i. P i.0) is
numbers_of P [] fs e all = tt
numbers_of P (i ∷ is) [] e all = absurd cc
numbers_of P (i ∷ is) (f ∷ fs) e all = (subst P (ap (first_number 0) e) all.0, numbers_of P is fs (ap behind e) all.1)

less_differ : (a b : ℕ) → a < b → (a == b) ≡ false
less_differ a b less = by (eqb_tells a b)
  where
    by : ((a == b) ≡ true) × (a ≡ b) ⊎ ((a == b) ≡ false) × (a ≢ b) → (a == b) ≡ false
    by (inl same) = let e = same.1 in absurd (omega (arith, less, e))
    by (inr other) = other.0

rising_apart : (is : List Numbered) (fs : List FoundIndex) → indexes_at fs ≡ map known is → AreRising fs → AreNumbersApart is
rising_apart [] fs e up = tt
rising_apart (i ∷ is) [] e up = absurd cc
rising_apart (i ∷ is) (f ∷ fs) e up = (
  subst (λ (n : ℕ). AllByRecursion (λ (j : Numbered). (n == j.0) ≡ false) is) (ap (first_number 0) e)
      (numbers_of (λ n. (f.number == n) ≡ false) is fs (ap behind e) (all_weaker (λ (j : FoundIndex). f.number < j.number) (λ j. (f.number == j.number) ≡ false) (λ j less. less_differ f.number j.number less) fs up.0)),
  rising_apart is fs (ap behind e) up.1,
)

turned : (a b : ℕ) → (a == b) ≡ false → (b == a) ≡ false
turned a b is = by (eqb_tells b a) (eqb_tells a b)
  where
    by : ((b == a) ≡ true) × (b ≡ a) ⊎ ((b == a) ≡ false) × (b ≢ a) → ((a == b) ≡ true) × (a ≡ b) ⊎ ((a == b) ≡ false) × (a ≢ b) → (b == a) ≡ false
    by (inl same) (inl h) = absurd (true≢false (sym h.0 ∙ is))
    by (inl same) (inr h) = absurd (h.1 (sym same.1))
    by (inr other) h = other.0

-- a number that a list has no index of
none_in : (c : ℕ) (fs : List FoundIndex) → extract_in c fs ≡ None → AllByRecursion (λ f. (c == f.number) ≡ false) fs
none_in c [] none = tt
none_in c (f ∷ fs) none = by (f.number == c) refl none (λ h. none_in c fs h)
  where
    by : (b : Bool) → (f.number == c) ≡ b → option_map (λ (i : FoundIndex). i.extract) (cond b (Some f) (find (λ i. i.number == c) fs)) ≡ None →
        (extract_in c fs ≡ None → AllByRecursion (λ (x : FoundIndex). (c == x.number) ≡ false) fs) → AllByRecursion (λ x. (c == x.number) ≡ false) (f ∷ fs)
    by true e h rest = absurd cc
    by false e h rest = (turned f.number c e, rest h)

-- the first index of a list is found by its number
first_found : (f : FoundIndex) (fs : List FoundIndex) → extract_in f.number (f ∷ fs) ≡ Some f.extract
first_found f fs = ap (λ (b : Bool). option_map (λ (i : FoundIndex). i.extract) (cond b (Some f) (find (λ i. i.number == f.number) fs))) (by (eqb_tells f.number f.number))
  where
    by : ((f.number == f.number) ≡ true) × (f.number ≡ f.number) ⊎ ((f.number == f.number) ≡ false) × (f.number ≢ f.number) → (f.number == f.number) ≡ true
    by (inl h) = h.0
    by (inr h) = absurd (h.1 refl)

-- ---- databases by their numbers

all_among : (P : Numbered → Type 0) (d : Numbered) (ds : List Numbered) → P d → AllByRecursion P ds → AllByRecursion P (with_among d ds)
all_among P d [] own all = (own, tt)
all_among P d (e ∷ ds) own all = by (nat_lt d.0 e.0) (all_among P d ds own all.1)
  where
    by : (b : Bool) → AllByRecursion P (with_among d ds) → AllByRecursion P (cond b (d ∷ e ∷ ds) (e ∷ with_among d ds))
    by true rest = (own, all)
    by false rest = (all.0, rest)

all_numbered : (P : Numbered → Type 0) (numbers : List ℕ → ℕ) (ds : List Database) → AllByRecursion (λ d. P (numbers d.name, d)) ds → AllByRecursion P (by_number numbers ds)
all_numbered P numbers [] all = tt
all_numbered P numbers (d ∷ ds) all = all_among P (numbers d.name, d) (by_number numbers ds) all.0 (all_numbered P numbers ds all.1)

-- ---- those of a store

-- an index keeps sorted duplicates
kind_of_index : (bytes : List ℕ) → (m : ℕ × Extract) × (catalog_index bytes ≡ Some m) → catalog_kind bytes ≡ Dup
kind_of_index bytes made = by (db_record_in bytes) refl made
  where
    of_kind : (number : ℕ) (k : DbKind) (m : ℕ × Extract) → (let o : Option DbRecord = Some (record { number = number; kind = k }) in index_or_none o ≡ Some m) →
        (let o : Option DbRecord = Some (record { number = number; kind = k }) in kind_or_plain o ≡ Dup)
    of_kind number PlainRecord m h = absurd cc
    of_kind number DupRecord m h = absurd cc
    of_kind number (SliceIndex primary offset len) m h = refl
    of_kind number (FieldIndex primary field separator) m h = refl

    by : (o : Option DbRecord) → db_record_in bytes ≡ o → (m : ℕ × Extract) × (index_or_none (db_record_in bytes) ≡ Some m) → kind_or_plain (db_record_in bytes) ≡ Dup
    by None e h = absurd (none-some h.0 (sym (ap index_or_none e) ∙ h.1))
    by (Some r) e h = ap kind_or_plain e ∙ of_kind r.number r.kind h.0 (sym (ap index_or_none e) ∙ h.1)

module _ (rows : Rows) (st : Standing) (makes : MakesStore rows st.last_db st) where
  -- each database is found by its name
  each_there : AllByRecursion (λ (d : Database). database_of d.name st.store ≡ Some d) st.store.databases
  each_there =
      subst (λ (s : Store). AllByRecursion (λ (d : Database). database_of d.name st.store ≡ Some d) s.databases) makes.store
      (all_to_map (database_in rows) (λ (d : Database). database_of d.name st.store ≡ Some d) (rows 0)
      (all_both (λ (r : Row). r.0.dup ≡ []) (λ (r : Row). row_at r.0 (rows 0) ≡ Some r) (λ r. database_of r.0.key st.store ≡ Some (database_in rows r))
      (λ r plain at.
      ap (database_of r.0.key) (sym makes.store) ∙ database_of-store_of rows r.0.key makes.environment
      ∙ ap (option_map (database_in rows)) (ap (λ (n : Name). row_at n (rows 0)) (sym (plain_name-key r.0 plain)) ∙ at)) (rows 0)
      (catalog_plain (rows 0) (environment_parts rows makes.environment).catalog) (found_each (rows 0) (makes.rising 0))))

  -- so it is there under its number
  pub by_name : (name : List ℕ) (d : Database) → database_of name st.store ≡ Some d → IsDbAt st (st.numbers name, d)
  by_name name d is =
      let k = known_as rows st makes name d is in
      record { is = ap (λ (n : List ℕ). database_of n st.store) k.name ∙ is; there = k.there; named = ap st.numbers k.name; above = k.above }

  -- and the keys of an index are short
  over_short : (m : Option (ℕ × Extract)) → IfSome m (λ x. HasShortKeys x.1) → IfSome (index_in (rows 0) m) (λ j. HasShortKeys j.extract)
  over_short None short = tt
  over_short (Some m) short = by (row_numbered m.0 (rows 0))
    where
      by : (o : Option Row) → IfSome (option_map (index_over m.1) o) (λ j. HasShortKeys j.extract)
      by None = tt
      by (Some r) = short

  each_short : AllByRecursion (λ (d : Database). IfSome d.index (λ j. HasShortKeys j.extract)) st.store.databases
  each_short =
      subst (λ (s : Store). AllByRecursion (λ (d : Database). IfSome d.index (λ j. HasShortKeys j.extract)) s.databases) makes.store
      (all_to_map (database_in rows) (λ (d : Database). IfSome d.index (λ j. HasShortKeys j.extract)) (rows 0) (every (rows 0)))
    where
      every : (rs : List Row) → AllByRecursion (λ r. IfSome (index_in (rows 0) (catalog_index r.1)) (λ j. HasShortKeys j.extract)) rs
      every [] = tt
      every (r ∷ rs) = (over_short (catalog_index r.1) (short_keys r.1), every rs)

  abbrev IsShortAt : Numbered → Type 0
  IsShortAt i = IsDbAt st i × IfSome i.1.index (λ j. HasShortKeys j.extract)

  each_index : (name : List ℕ) → AllByRecursion IsShortAt (indexes_of st.numbers st.store name)
  each_index name =
      all_numbered IsShortAt st.numbers (filter (is_index_of name) st.store.databases)
      (all_kept (λ (d : Database). IsShortAt (st.numbers d.name, d)) (is_index_of name) st.store.databases
      (all_both (λ (d : Database). database_of d.name st.store ≡ Some d) (λ (d : Database). IfSome d.index (λ j. HasShortKeys j.extract)) (λ d. IsShortAt (st.numbers d.name, d))
      (λ d is short. (by_name d.name d is, short)) st.store.databases each_there each_short))

  -- ---- what an environment finds

  abbrev made : Made
  made = made_at st.numbers st.store

  made_same : made ≡ made_in (rows 0)
  made_same = fun_ext (made_is rows st.last_db st makes)

  numbers_same : number_named rows ≡ st.numbers
  numbers_same = fun_ext makes.named

  -- by the law, with the numbers and the store of the standing
  finds : (d : Numbered) (fs : List FoundIndex) → IsDbAt st d → AreIndexesOf made (records_number made d.0) fs →
      (over_of (primary_in made d.0) ≡ option_map known (primary_of st.numbers st.store d.1.index)) × (indexes_at fs ≡ map known (indexes_of st.numbers st.store (records_name d.1)))
  finds d fs at are =
      let number : number_named rows d.1.name ≡ d.0 = makes.named d.1.name ∙ at.named in
      let here : database_of d.1.name (store_of rows) ≡ Some d.1 = ap (database_of d.1.name) makes.store ∙ at.is in
      let law = indexes_are_found rows d.1.name d.1 fs makes.environment (makes.rising 0) here
      (subst (λ (n : ℕ). AreIndexesOf (made_in (rows 0)) (records_number (made_in (rows 0)) n) fs) (sym number) (subst (λ (m : Made). AreIndexesOf m (records_number m d.0) fs) made_same are)) in (
        ap (λ (m : Made). over_of (primary_in m d.0)) made_same ∙ sym (ap (λ (n : ℕ). over_of (primary_in (made_in (rows 0)) n)) number) ∙ law.0
            ∙ ap₂ (λ (f : List ℕ → ℕ) (s : Store). option_map known (primary_of f s d.1.index)) numbers_same makes.store,
        law.1 ∙ ap₂ (λ (f : List ℕ → ℕ) (s : Store). map known (indexes_of f s (records_name d.1))) numbers_same makes.store,
      )

  -- a primary
  primary_parts : (o : Option Index) (p : Numbered) → primary_of st.numbers st.store o ≡ Some p → IsDbAt st p × ((i : Index) × (o ≡ Some i))
  primary_parts None p is = absurd (none-some p is)
  primary_parts (Some i) p is = by (database_of i.primary st.store) refl is
    where
      by : (o : Option Database) → database_of i.primary st.store ≡ o → option_map (λ (d : Database). (st.numbers i.primary, d)) o ≡ Some p → IsDbAt st p × ((j : Index) × (Some i ≡ Some j))
      by None e h = absurd (none-some p h)
      by (Some d) e h = (subst (IsDbAt st) (same_Some (st.numbers i.primary, d) p h) (by_name i.primary d e), (i, refl))

  -- what is found of it
  known_primary : (found : Option ℕ) (p : Numbered) → over_of found ≡ Some (known p) → (found ≡ Some p.0) × (p.1.kind ≡ Plain) × (p.1.index ≡ None)
  known_primary None p is = absurd (none-some (known p) is)
  known_primary (Some n) p is =
      let same : db_at n Plain ≡ known p = same_Some (db_at n Plain) (known p) is in
      (ap Some (ap (λ (d : Numbered). d.0) same), sym (ap (λ (d : Numbered). d.1.kind) same), no_index p.1.index (sym (ap (λ (d : Numbered). d.1.index) same)))
    where
      no_index : (o : Option Index) → option_map (λ (i : Index). let j : Index = record { primary = []; extract = i.extract } in j) o ≡ None → o ≡ None
      no_index None e = refl
      no_index (Some i) e = absurd cc

  none_found : (found : Option ℕ) → over_of found ≡ None → found ≡ None
  none_found None is = refl
  none_found (Some n) is = absurd cc

  -- a database that is no index makes none
  made_none : (d : Numbered) → IsDbAt st d → d.1.index ≡ None → made d.0 ≡ None
  made_none d at none =
      ap (λ (o : Option Database). index_made st.numbers o) at.there ∙ ap (option_map (λ (i : Index). (st.numbers i.primary, i.extract))) none

  no_primary : (o : Option (ℕ × Extract)) → option_map (λ (m : ℕ × Extract). m.0) o ≡ None → o ≡ None
  no_primary None is = refl
  no_primary (Some m) is = absurd cc

  module _ (indexes_map : IndexMap) (has : HasIndexes made indexes_map) where
    abbrev list_for : Numbered → List FoundIndex
    list_for d = list_at indexes_map.indexes (records_number made d.0)

    pub over_is : (d : Numbered) → IsDbAt st d → over_of (primary_in made d.0) ≡ option_map known (primary_of st.numbers st.store d.1.index)
    over_is d at = (finds d (list_for d) at (has.indexes (records_number made d.0))).0

    -- an index's primary is the database of its number
    primary_at : (i : Numbered) (d : Numbered) → IsDbAt st i → IsDbAt st d → primary_in made i.0 ≡ Some d.0 → d.1.kind ≡ Plain
    primary_at i d at there is = by (primary_of st.numbers st.store i.1.index) refl
      where
        by : (o : Option Numbered) → primary_of st.numbers st.store i.1.index ≡ o → d.1.kind ≡ Plain
        by None e = absurd (none-some (db_at d.0 Plain) (sym (sym (ap over_of is) ∙ over_is i at ∙ ap (option_map known) e)))
        by (Some p) e =
            let facts = known_primary (primary_in made i.0) p (over_is i at ∙ ap (option_map known) e) in
            let same : p.0 ≡ d.0 = same_Some p.0 d.0 (sym facts.0 ∙ is) in
            let one : p.1 ≡ d.1 = same_Some p.1 d.1 (sym ((primary_parts i.1.index p e).0.there) ∙ ap (λ (n : ℕ). database_at n st) same ∙ there.there) in
            sym (ap (λ (x : Database). x.kind) one) ∙ facts.1

    -- an index of a list has the list's primary
    made_of : (n primary : ℕ) (e : Extract) → extract_of primary (made n) ≡ Some e → primary_in made n ≡ Some primary
    made_of n primary e is = by (made n) refl is
      where
        by : (o : Option (ℕ × Extract)) → made n ≡ o → extract_of primary o ≡ Some e → option_map (λ (m : ℕ × Extract). m.0) (made n) ≡ Some primary
        by None h k = absurd (none-some e k)
        by (Some m) h k = by_test (eqb_tells m.0 primary) k
          where
            by_test : ((m.0 == primary) ≡ true) × (m.0 ≡ primary) ⊎ ((m.0 == primary) ≡ false) × (m.0 ≢ primary) → cond (m.0 == primary) (Some m.1) None ≡ Some e → option_map (λ (x : ℕ × Extract). x.0) (made n) ≡ Some primary
            by_test (inl same) q = ap (option_map (λ (x : ℕ × Extract). x.0)) h ∙ ap Some same.1
            by_test (inr other) q = absurd (none-some e (sym (ap (λ (b : Bool). cond b (Some m.1) None) other.0) ∙ q))

    -- a database that has an index is plain
    plain_or_none : (d : Numbered) (primary : ℕ) (is : List Numbered) (fs : List FoundIndex) → IsDbAt st d → primary ≡ d.0 → indexes_at fs ≡ map known is → AreIndexesOf made primary fs → AllByRecursion (IsDbAt st) is →
        (d.1.kind ≡ Plain) ⊎ (is ≡ [])
    plain_or_none d primary [] fs at same e are all = inr refl
    plain_or_none d primary (i ∷ is) [] at same e are all = absurd cc
    plain_or_none d primary (i ∷ is) (f ∷ fs) at same e are all =
        let number : f.number ≡ i.0 = ap (first_number 0) e in
        let of_it : primary_in made f.number ≡ Some primary = made_of f.number primary f.extract (sym (are.found f.number) ∙ first_found f fs) in
        inl (primary_at i d all.0 at (sym (ap (primary_in made) number) ∙ of_it ∙ ap Some same))

    -- ---- a target

    module _ (g : Target) (over : g.over ≡ primary_of st.numbers st.store g.database.index) (indexes : g.indexes ≡ indexes_of st.numbers st.store (records_name g.database)) (own : IsDbAt st (g.db, g.database)) where
      abbrev d_ : Numbered
      d_ = (g.db, g.database)

      pub over_found : over_of (primary_in made g.db) ≡ option_map known g.over
      over_found = over_is d_ own ∙ ap (option_map known) (sym over)

      pub indexes_found : (fs : List FoundIndex) → AreIndexesOf made (records_number made g.db) fs → indexes_at fs ≡ map known g.indexes
      indexes_found fs are = (finds d_ fs own are).1 ∙ ap (map known) (sym indexes)

      own_kind : (i : Index) → g.database.index ≡ Some i → g.database.kind ≡ Dup
      own_kind i is = (found (λ (d : Database). (j : Index) → d.index ≡ Some j → d.kind ≡ Dup) (λ (d : Database). st.numbers d.name == g.db) st.store.databases g.database own.there each_kind).0 i is
        where
          of_row : (r : Row) (j : Index) → index_in (rows 0) (catalog_index r.1) ≡ Some j → catalog_kind r.1 ≡ Dup
          of_row r j h = kind_of_index r.1 (by (catalog_index r.1) h)
            where
              by : (o : Option (ℕ × Extract)) → index_in (rows 0) o ≡ Some j → (m : ℕ × Extract) × (o ≡ Some m)
              by None k = absurd (none-some j k)
              by (Some m) k = (m, refl)

          every : (rs : List Row) → AllByRecursion (λ r. (j : Index) → index_in (rows 0) (catalog_index r.1) ≡ Some j → catalog_kind r.1 ≡ Dup) rs
          every [] = tt
          every (r ∷ rs) = (of_row r, every rs)

          each_kind : AllByRecursion (λ (d : Database). (j : Index) → d.index ≡ Some j → d.kind ≡ Dup) st.store.databases
          each_kind =
              subst (λ (s : Store). AllByRecursion (λ (d : Database). (j : Index) → d.index ≡ Some j → d.kind ≡ Dup) s.databases) makes.store
              (all_to_map (database_in rows) (λ (d : Database). (j : Index) → d.index ≡ Some j → d.kind ≡ Dup) (rows 0) (every (rows 0)))

      by_over : (o : Option Numbered) → g.over ≡ o → IfSome o (IsPrimaryAt st g) × (made (changed_database o d_).0 ≡ None) × (records_number made g.db ≡ (changed_database o d_).0) × IsDbAt st (changed_database o d_)
      by_over None e =
          let none : primary_in made g.db ≡ None = none_found (primary_in made g.db) (over_found ∙ ap (option_map known) e) in
          (tt, no_primary (made g.db) none, ap (λ (o : Option ℕ). unwrap_or o g.db) none, own)
      by_over (Some p) e =
          let facts = known_primary (primary_in made g.db) p (over_found ∙ ap (option_map known) e) in
          let parts = primary_parts g.database.index p (sym over ∙ e) in (
            record { at = parts.0; kind = facts.1; own = own_kind parts.1.0 parts.1.1; index = parts.1 },
            made_none p parts.0 facts.2,
            ap (λ (o : Option ℕ). unwrap_or o g.db) facts.0,
            parts.0,
          )

      all_short : AllByRecursion IsShortAt g.indexes
      all_short = subst (AllByRecursion IsShortAt) (sym indexes) (each_index (records_name g.database))

      own_plain : (o : Option Numbered) → records_number made g.db ≡ (changed_database o d_).0 → IsDbAt st (changed_database o d_) → ((changed_database o d_).1.kind ≡ Plain) ⊎ (g.indexes ≡ [])
      own_plain o same at =
          plain_or_none (changed_database o d_) (records_number made g.db) g.indexes (list_for d_) at same (indexes_found (list_for d_) (has.indexes (records_number made g.db))) (has.indexes (records_number made g.db))
          (all_weaker IsShortAt (IsDbAt st) (λ i h. h.0) g.indexes all_short)

      -- the store has its databases
      pub target_there : AreThere st g
      target_there =
          let facts = by_over g.over refl in
          let fs : List FoundIndex = list_for d_ in
          let are : AreIndexesOf made (records_number made g.db) fs = has.indexes (records_number made g.db) in
          let same : indexes_at fs ≡ map known g.indexes = indexes_found fs are in
          record {
            own = own;
            over = facts.0;
            indexes = all_both IsShortAt (λ (i : Numbered). i.1.kind ≡ Dup) (IsIndexAt st) (λ i h kind. record { at = h.0; kind = kind; keys = h.1 }) g.indexes all_short (kinds_of g.indexes fs same);
            apart = (
              numbers_of (λ n. ((changed_database g.over d_).0 == n) ≡ false) g.indexes fs same
                  (none_in (changed_database g.over d_).0 fs (are.found (changed_database g.over d_).0 ∙ ap (extract_of (records_number made g.db)) facts.1)),
              rising_apart g.indexes fs same are.rising,
            );
            plain = own_plain g.over facts.2 facts.3;
          }
