-- What a store has once changes of one database and its indexes were made.
use Rattle.std.proofs.Common.{◌≡◌, ◌==◌, ℕ, Bool, true, false, cond, List, [], ◌∷◌, ◌++◌, Option, None, Some, map, filter, find, flat_map, refl, ap, sym, ◌∙◌, subst}
use Rattle.std.specs.List.{AllByRecursion}
use Rattle.std.specs.Prelude.{IsSome, nat_lt}
use Rattle.std.specs.Option.{option_map_or}
use Rattle.je_order.proofs.Lists.{all_weaker}
use Rattle.store_model.specs.declared.index.Index.{Index}
use Rattle.store_model.specs.Indexes.{Numbered, all_changes, by_number, changes_in as changes_in_index, indexes_of, is_index_of, with_among}
use Rattle.std.proofs.lemmas.Bool.{eq-eqb, eqb-true, true≢false}
use Rattle.std.proofs.lemmas.Option.{none-some, same_Some}
use Rattle.store_model.specs.declared.store.Store.{Store}
use Rattle.store_model.specs.declared.store.Database.{Database}
use Rattle.store_model.specs.declared.change.Change.{Change}
use Rattle.store_model.specs.declared.record_change.RecordChange.{RecordChange}
use Rattle.store_model.specs.declared.record_change.RecordChange.TheVariants.{Set, Unset}
use Rattle.je_order.specs.Order.{is_same_bytes}
use Rattle.store_model.specs.Store.{Pair, all_changed, all_pairs_changed, change_in, changed, database_of, in_database, pairs_changed, with_pairs}
use Rattle.store_model.proofs.IndexLaws.{bytes_are, bytes_themselves}
use Rattle.je_answers.specs.Standing.{Standing, database_at}
use Rattle.je_answers.specs.Views.{changes_in, changes_named, of_db, with_numbers}
use Rattle.je_answers.specs.Numbers.{HaveNumbers}

-- ---- one change

-- whether two names are the same, after either
same_after : (name a b : List ℕ) → is_same_bytes a name ≡ true → is_same_bytes a b ≡ is_same_bytes name b
same_after name a b same = ap (λ (l : List ℕ). is_same_bytes l b) (bytes_are a name same)

module _ (name db : List ℕ) (f : Database → Database) (keeps : (d : Database) → (f d).name ≡ d.name) where
  is_db : Database → Bool
  is_db d = is_same_bytes d.name db

  kept_step : (d : Database) (ds : List Database) → is_same_bytes name db ≡ false → find (λ e. is_same_bytes e.name db) (in_database name f ds) ≡ find (λ e. is_same_bytes e.name db) ds →
      (b : Bool) → is_same_bytes d.name name ≡ b →
      cond (is_same_bytes (cond b (f d) d).name db) (Some (cond b (f d) d)) (find (λ e. is_same_bytes e.name db) (in_database name f ds)) ≡ cond (is_same_bytes d.name db) (Some d) (find (λ e. is_same_bytes e.name db) ds)
  kept_step d ds other rest true is =
      let not_d : is_same_bytes d.name db ≡ false = same_after name d.name db is ∙ other in
      let not_f : is_same_bytes (f d).name db ≡ false = ap (λ (l : List ℕ). is_same_bytes l db) (keeps d) ∙ not_d in
      ap (λ (b : Bool). cond b (Some (f d)) (find (λ (e : Database). is_same_bytes e.name db) (in_database name f ds))) not_f ∙ rest
      ∙ sym (ap (λ (b : Bool). cond b (Some d) (find (λ (e : Database). is_same_bytes e.name db) ds)) not_d)
  kept_step d ds other rest false is = ap (λ (r : Option Database). cond (is_same_bytes d.name db) (Some d) r) rest

  -- a change of databases of a name leaves that of another name
  other_kept : (ds : List Database) → is_same_bytes name db ≡ false → find (λ e. is_same_bytes e.name db) (in_database name f ds) ≡ find (λ e. is_same_bytes e.name db) ds
  other_kept [] other = refl
  other_kept (d ∷ ds) other = kept_step d ds other (other_kept ds other) (is_same_bytes d.name name) refl

  own_step : (e d : Database) (ds : List Database) → (find (λ x. is_same_bytes x.name db) ds ≡ Some d → find (λ x. is_same_bytes x.name db) (in_database name f ds) ≡ Some (f d)) → is_same_bytes name db ≡ true →
      (b : Bool) → is_same_bytes e.name db ≡ b → cond b (Some e) (find (λ x. is_same_bytes x.name db) ds) ≡ Some d →
      find (λ x. is_same_bytes x.name db) (in_database name f (e ∷ ds)) ≡ Some (f d)
  own_step e d ds rest own true is found =
      let same : is_same_bytes e.name name ≡ true = ap (is_same_bytes e.name) (bytes_are name db own) ∙ is in
      let there : is_same_bytes (f e).name db ≡ true = ap (λ (l : List ℕ). is_same_bytes l db) (keeps e) ∙ is in
      ap (λ (b : Bool). cond (is_same_bytes (cond b (f e) e).name db) (Some (cond b (f e) e)) (find (λ (x : Database). is_same_bytes x.name db) (in_database name f ds))) same
      ∙ ap (λ (b : Bool). cond b (Some (f e)) (find (λ (x : Database). is_same_bytes x.name db) (in_database name f ds))) there
      ∙ ap (λ (x : Database). Some (f x)) (same_Some e d found)
  own_step e d ds rest own false is found =
      let other : is_same_bytes e.name name ≡ false = ap (is_same_bytes e.name) (bytes_are name db own) ∙ is in
      ap (λ (b : Bool). cond (is_same_bytes (cond b (f e) e).name db) (Some (cond b (f e) e)) (find (λ (x : Database). is_same_bytes x.name db) (in_database name f ds))) other
      ∙ ap (λ (b : Bool). cond b (Some e) (find (λ (x : Database). is_same_bytes x.name db) (in_database name f ds))) is
      ∙ rest found

  -- and changes the one of this name
  own_changed : (ds : List Database) (d : Database) → is_same_bytes name db ≡ true → find (λ x. is_same_bytes x.name db) ds ≡ Some d → find (λ x. is_same_bytes x.name db) (in_database name f ds) ≡ Some (f d)
  own_changed [] d own found = absurd (none-some d found)
  own_changed (e ∷ ds) d own found = own_step e d ds (own_changed ds d own) own (is_same_bytes e.name db) refl found

-- a change of records in the database, and in another one
own_record : (db : List ℕ) (change : RecordChange) (name : List ℕ) (store : Store) (d : Database) → is_same_bytes name db ≡ true → database_of db store ≡ Some d →
    database_of db (changed (change_in name change) store) ≡ Some (with_pairs d (pairs_changed d.kind change d.pairs))
own_record db (Set at value) name store d own there = own_changed name db (λ e. with_pairs e (pairs_changed e.kind (Set at value) e.pairs)) (λ e. refl) store.databases d own there
own_record db (Unset at) name store d own there = own_changed name db (λ e. with_pairs e (pairs_changed e.kind (Unset at) e.pairs)) (λ e. refl) store.databases d own there

other_record : (db : List ℕ) (change : RecordChange) (name : List ℕ) (store : Store) → is_same_bytes name db ≡ false → database_of db (changed (change_in name change) store) ≡ database_of db store
other_record db (Set at value) name store other = other_kept name db (λ e. with_pairs e (pairs_changed e.kind (Set at value) e.pairs)) (λ e. refl) store.databases other
other_record db (Unset at) name store other = other_kept name db (λ e. with_pairs e (pairs_changed e.kind (Unset at) e.pairs)) (λ e. refl) store.databases other

-- ---- a transaction's own changes

changed_append : (first second : List Change) (store : Store) → all_changed (first ++ second) store ≡ all_changed second (all_changed first store)
changed_append [] second store = refl
changed_append (change ∷ first) second store = changed_append first second (changed change store)

-- each number finds the database of its name, and the name's own number finds one
pub record FindsOwn (db : List ℕ) (number : ℕ) (find_at : ℕ → Option Database) : Type 0 where
  pub name : (at : ℕ) (e : Database) → find_at at ≡ Some e → is_same_bytes e.name db ≡ (at == number)
  pub there : find_at number ≡ None → ⊥

module _ (db : List ℕ) (st : Standing) (number : ℕ) (finds : FindsOwn db number (λ at. database_at at st)) where
  own_one : (o : Option Database) (at : ℕ) (change : RecordChange) (store : Store) (d : Database) → database_at at st ≡ o → database_of db store ≡ Some d → (b : Bool) → (at == number) ≡ b →
      database_of db (all_changed (changes_in o change) store) ≡ Some (with_pairs d (all_pairs_changed d.kind (cond b (change ∷ []) []) d.pairs))
  own_one None at change store d is there true e = absurd (finds.there (ap (λ n. database_at n st) (sym (eqb-true at number e)) ∙ is))
  own_one None at change store d is there false e = there
  own_one (Some x) at change store d is there true e = own_record db change x.name store d (finds.name at x is ∙ e) there
  own_one (Some x) at change store d is there false e = other_record db change x.name store (finds.name at x is ∙ e) ∙ there

  of_first : (b : Bool) (change : RecordChange) (own : List (ℕ × RecordChange)) (d : Database) →
      all_pairs_changed d.kind (of_db number own) (all_pairs_changed d.kind (cond b (change ∷ []) []) d.pairs) ≡ all_pairs_changed d.kind (cond b (change ∷ of_db number own) (of_db number own)) d.pairs
  of_first true change own d = refl
  of_first false change own d = refl

  -- the database has its own changes
  pub own_stored : (own : List (ℕ × RecordChange)) (store : Store) (d : Database) → database_of db store ≡ Some d →
      database_of db (all_changed (changes_named st own) store) ≡ Some (with_pairs d (all_pairs_changed d.kind (of_db number own) d.pairs))
  own_stored [] store d there = there
  own_stored (c ∷ own) store d there =
      let first : List Change = changes_in (database_at c.0 st) c.1 in
      let now : Database = with_pairs d (all_pairs_changed d.kind (cond (c.0 == number) (c.1 ∷ []) []) d.pairs) in
      ap (database_of db) (changed_append first (changes_named st own) store)
      ∙ own_stored own (all_changed first store) now (own_one (database_at c.0 st) c.0 c.1 store d refl there (c.0 == number) refl)
      ∙ ap (λ (ps : List Pair). Some (with_pairs d ps)) (of_first (c.0 == number) c.1 own d)

-- ---- numbers

module _ {X : Type 0} where
  found_test : (p : X → Bool) (xs : List X) (x : X) → find p xs ≡ Some x → p x ≡ true
  found_test p [] x found = absurd (none-some x found)
  found_test p (y ∷ xs) x found = by (p y) refl found (found_test p xs x) where
    by : (b : Bool) → p y ≡ b → cond b (Some y) (find p xs) ≡ Some x → (find p xs ≡ Some x → p x ≡ true) → p x ≡ true
    by true is found rest = ap p (sym (same_Some y x found)) ∙ is
    by false is found rest = rest found

  found_too : (p q : X → Bool) (xs : List X) (x : X) → find q xs ≡ Some x → p x ≡ true → find p xs ≡ None → ⊥
  found_too p q [] x found is none = none-some x found
  found_too p q (y ∷ xs) x found is none = by (p y) refl none (q y) found (found_too p q xs x) where
    by : (b : Bool) → p y ≡ b → cond b (Some y) (find p xs) ≡ None → (c : Bool) → cond c (Some y) (find q xs) ≡ Some x → (find q xs ≡ Some x → p x ≡ true → find p xs ≡ None → ⊥) → ⊥
    by true e none c found rest = none-some y (sym none)
    by false e none true found rest = true≢false (sym is ∙ ap p (sym (same_Some y x found)) ∙ e)
    by false e none false found rest = rest found is none

-- where each database has a number of its own, the number of one finds it
pub finds_own : (db : List ℕ) (st : Standing) (last : ℕ) (d : Database) → HaveNumbers st.store last st.numbers → database_of db st.store ≡ Some d → FindsOwn db (st.numbers db) (λ at. database_at at st)
finds_own db st last d have there = record { name = names; there = is_there } where
  some : IsSome (database_of db st.store)
  some = subst (λ (o : Option Database). IsSome o) (sym there) refl

  names : (at : ℕ) (e : Database) → database_at at st ≡ Some e → is_same_bytes e.name db ≡ (at == st.numbers db)
  names at e found = by (at == st.numbers db) refl where
    number : st.numbers e.name ≡ at
    number = eqb-true (st.numbers e.name) at (found_test (λ (x : Database). st.numbers x.name == at) st.store.databases e found)

    by : (b : Bool) → (at == st.numbers db) ≡ b → is_same_bytes e.name db ≡ b
    by true is = ap (λ (l : List ℕ). is_same_bytes l db) (sym (have.apart db e.name some (sym (eqb-true at (st.numbers db) is) ∙ sym number))) ∙ bytes_themselves db
    by false is = not_same (is_same_bytes e.name db) refl where
      not_same : (b : Bool) → is_same_bytes e.name db ≡ b → b ≡ false
      not_same true same = absurd (true≢false (sym (eq-eqb at (st.numbers db) (sym number ∙ ap st.numbers (bytes_are e.name db same))) ∙ is))
      not_same false same = refl

  is_there : database_at (st.numbers db) st ≡ None → ⊥
  is_there none =
      let name : d.name ≡ db = bytes_are d.name db (found_test (λ (x : Database). is_same_bytes x.name db) st.store.databases d there) in
      found_too (λ (x : Database). st.numbers x.name == st.numbers db) (λ (x : Database). is_same_bytes x.name db) st.store.databases d there (eq-eqb (st.numbers d.name) (st.numbers db) (ap st.numbers name)) none

pub its_name : (db : List ℕ) (store : Store) (d : Database) → database_of db store ≡ Some d → d.name ≡ db
its_name db store d there = bytes_are d.name db (found_test (λ (x : Database). is_same_bytes x.name db) store.databases d there)

-- ---- the changes of a call, of which those in the indexes have other numbers

of_step : (b : Bool) (c : RecordChange) (both first second : List RecordChange) → both ≡ first ++ second → cond b (c ∷ both) both ≡ cond b (c ∷ first) first ++ second
of_step true c both first second is = ap (λ (l : List RecordChange). c ∷ l) is
of_step false c both first second is = is

pub of_append : (n : ℕ) (first second : List (ℕ × RecordChange)) → of_db n (first ++ second) ≡ of_db n first ++ of_db n second
of_append n [] second = refl
of_append n (c ∷ first) second = of_step (c.0 == n) c.1 (of_db n (first ++ second)) (of_db n first) (of_db n second) (of_append n first second)

numbers_append : (first second : List (Numbered × RecordChange)) → with_numbers (first ++ second) ≡ with_numbers first ++ with_numbers second
numbers_append [] second = refl
numbers_append (c ∷ first) second = ap (λ (l : List (ℕ × RecordChange)). (c.0.0, c.1) ∷ l) (numbers_append first second)

-- a database has another number
abbrev pub IsOther : ℕ → Numbered → Type 0
IsOther n i = (i.0 == n) ≡ false

of_others : (n : ℕ) (i : Numbered) (changes : List RecordChange) → IsOther n i → of_db n (with_numbers (map (λ c. (i, c)) changes)) ≡ []
of_others n i [] other = refl
of_others n i (c ∷ changes) other =
    ap (λ (b : Bool). cond b (c ∷ of_db n (with_numbers (map (λ (x : RecordChange). (i, x)) changes))) (of_db n (with_numbers (map (λ (x : RecordChange). (i, x)) changes)))) other ∙ of_others n i changes other

of_indexes : (n : ℕ) (records : List Pair) (change : RecordChange) (indexes : List Numbered) → AllByRecursion (IsOther n) indexes →
    of_db n (with_numbers (flat_map (λ i. map (λ c. (i, c)) (changes_in_index i.1.index records change)) indexes)) ≡ []
of_indexes n records change [] others = refl
of_indexes n records change (i ∷ indexes) others =
    let first : List (Numbered × RecordChange) = map (λ (c : RecordChange). (i, c)) (changes_in_index i.1.index records change) in
    let rest : List (Numbered × RecordChange) = flat_map (λ (j : Numbered). map (λ (c : RecordChange). (j, c)) (changes_in_index j.1.index records change)) indexes in
    ap (of_db n) (numbers_append first rest) ∙ of_append n (with_numbers first) (with_numbers rest)
    ∙ ap (λ (l : List RecordChange). l ++ of_db n (with_numbers rest)) (of_others n i (changes_in_index i.1.index records change) others.0) ∙ of_indexes n records change indexes others.1

pub of_changes : (d : Numbered) (indexes : List Numbered) (see : Numbered → List Pair) (changes : List RecordChange) → AllByRecursion (IsOther d.0) indexes →
    of_db d.0 (with_numbers (all_changes None d indexes see changes)) ≡ changes
of_changes d indexes see [] others = refl
of_changes d indexes see (c ∷ changes) others =
    let first : List (Numbered × RecordChange) = flat_map (λ (i : Numbered). map (λ (x : RecordChange). (i, x)) (changes_in_index i.1.index (see d) c)) indexes in
    let rest : List (Numbered × RecordChange) = all_changes None d indexes see changes in
    let both : of_db d.0 (with_numbers (first ++ rest)) ≡ changes =
    ap (of_db d.0) (numbers_append first rest) ∙ of_append d.0 (with_numbers first) (with_numbers rest)
    ∙ ap (λ (l : List RecordChange). l ++ of_db d.0 (with_numbers rest)) (of_indexes d.0 (see d) c indexes others) ∙ of_changes d indexes see changes others in
    ap (λ (b : Bool). cond b (c ∷ of_db d.0 (with_numbers (first ++ rest))) (of_db d.0 (with_numbers (first ++ rest)))) (eq-eqb d.0 d.0 refl) ∙ ap (λ (l : List RecordChange). c ∷ l) both

-- ---- the indexes of a database have other numbers

among_all : (P : Numbered → Type 0) (d : Numbered) (ds : List Numbered) → P d → AllByRecursion P ds → AllByRecursion P (with_among d ds)
among_all P d [] here all = (here, tt)
among_all P d (e ∷ es) here all = by (nat_lt d.0 e.0) (among_all P d es here all.1) where
  by : (b : Bool) → AllByRecursion P (with_among d es) → AllByRecursion P (cond b (d ∷ e ∷ es) (e ∷ with_among d es))
  by true rest = (here, all)
  by false rest = (all.0, rest)

by_number_all : (P : Numbered → Type 0) (numbers : List ℕ → ℕ) (ds : List Database) → AllByRecursion (λ d. P (numbers d.name, d)) ds → AllByRecursion P (by_number numbers ds)
by_number_all P numbers [] all = tt
by_number_all P numbers (d ∷ ds) all = among_all P (numbers d.name, d) (by_number numbers ds) all.0 (by_number_all P numbers ds all.1)

passed_all : {X : Type 0} (p : X → Bool) (P : X → Type 0) (xs : List X) → AllByRecursion (λ x. p x ≡ true → P x) xs → AllByRecursion P (filter p xs)
passed_all p P [] all = tt
passed_all p P (x ∷ xs) all = by (p x) refl (passed_all p P xs all.1) where
  by : (b : Bool) → p x ≡ b → AllByRecursion P (filter p xs) → AllByRecursion P (cond b (x ∷ filter p xs) (filter p xs))
  by true is rest = (all.0 is, rest)
  by false is rest = rest

-- the only database of its name, which is no index
pub others_of : (db : List ℕ) (store : Store) (last : ℕ) (numbers : List ℕ → ℕ) (d : Database) → HaveNumbers store last numbers → database_of db store ≡ Some d → d.index ≡ None →
    AllByRecursion (λ e. is_same_bytes e.name db ≡ true → e ≡ d) store.databases → AllByRecursion (IsOther (numbers db)) (indexes_of numbers store db)
others_of db store last numbers d have there none only =
    by_number_all (IsOther (numbers db)) numbers (filter (is_index_of db) store.databases)
    (passed_all (is_index_of db) (λ (e : Database). IsOther (numbers db) (numbers e.name, e)) store.databases
    (all_weaker (λ (e : Database). is_same_bytes e.name db ≡ true → e ≡ d) (λ (e : Database). is_index_of db e ≡ true → IsOther (numbers db) (numbers e.name, e)) one store.databases only))
  where
    one : (e : Database) → (is_same_bytes e.name db ≡ true → e ≡ d) → is_index_of db e ≡ true → (numbers e.name == numbers db) ≡ false
    one e only index = by (numbers e.name == numbers db) refl where
      by : (b : Bool) → (numbers e.name == numbers db) ≡ b → b ≡ false
      by false is = refl
      by true is =
          let some = subst (λ (o : Option Database). IsSome o) (sym there) refl in
          let name : db ≡ e.name = have.apart db e.name some (sym (eqb-true (numbers e.name) (numbers db) is)) in
          let same : e ≡ d = only (ap (λ (l : List ℕ). is_same_bytes l db) (sym name) ∙ bytes_themselves db) in
          absurd (true≢false (sym index ∙ ap (is_index_of db) same ∙ ap (λ (o : Option Index). option_map_or (λ (i : Index). is_same_bytes i.primary db) o false) none))
