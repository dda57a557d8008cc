-- Own changes, as changes of the store, change each database by those with its number.
use Rattle.std.proofs.Common.{◌≡◌, ◌⊎◌, inl, inr, ℕ, ◌==◌, Bool, true, false, cond, List, [], ◌∷◌, ◌++◌, map, find, Option, None, Some, refl, ap, ap₂, sym, ◌∙◌, ⊎_elim}
use Rattle.std.specs.List.{AllByRecursion, flat_map}
use Rattle.std.specs.Option.{is_some}
use Rattle.std.proofs.lemmas.Bool.{cases_Bool, both_ways, eqb-true}
use Rattle.std.proofs.lemmas.Bool.Decides.{eqb_tells}
use Rattle.std.proofs.lemmas.Option.{none-some}
use Rattle.je_order.specs.Order.{is_same_bytes}
use Rattle.store_model.specs.declared.store.Store.{Store}
use Rattle.store_model.specs.declared.store.Database.{Database}
use Rattle.store_model.specs.declared.record_change.RecordChange.{RecordChange}
use Rattle.store_model.specs.declared.record_change.RecordChange.TheVariants.{Set, Unset}
use Rattle.store_model.specs.Store.{database_of, with_pairs, in_database, pairs_changed, all_pairs_changed, change_in, changed, all_changed}
use Rattle.store_model.proofs.IndexLaws.{bytes_are, bytes_themselves}
use Rattle.je_answers.specs.Standing.{Standing, database_at}
use Rattle.je_answers.specs.Views.{of_db, changes_in, changes_named}
use Rattle.standing_laws.proofs.Among.{IsAmong, all_of, found_is}
use Rattle.indexed_standings.specs.Indexed.{HaveOwnNumbers}

-- a database with what its number's changes make of its records
abbrev pub changed_by : (List ℕ → ℕ) → List (ℕ × RecordChange) → Database → Database
changed_by numbers own d = with_pairs d (all_pairs_changed d.kind (of_db (numbers d.name) own) d.pairs)

-- the database that a number is looked up to be, seen from another one: they are the same where it has the number
abbrev IsFor : (List ℕ → ℕ) → ℕ → Option Database → Database → Type 0
IsFor numbers m None d = (m == numbers d.name) ≡ false
IsFor numbers m (Some e) d = is_same_bytes d.name e.name ≡ (m == numbers d.name)

-- one change of a database's records
one_changed : (name : List ℕ) (c : RecordChange) (ds : List Database) →
    changed (change_in name c) (record { databases = ds }) ≡ record { databases = in_database name (λ d. with_pairs d (pairs_changed d.kind c d.pairs)) ds }
one_changed name (Set at value) ds = refl
one_changed name (Unset at) ds = refl

module _ (numbers : List ℕ → ℕ) (at : ℕ → Option Database) where
  abbrev AreFor : List Database → Type 0
  AreFor ds = (m : ℕ) → AllByRecursion (IsFor numbers m (at m)) ds

  abbrev step : List ℕ → RecordChange → Database → Database
  step name c d = cond (is_same_bytes d.name name) (with_pairs d (pairs_changed d.kind c d.pairs)) d

  for_step : (m : ℕ) (o : Option Database) (name : List ℕ) (c : RecordChange) (ds : List Database) → AllByRecursion (IsFor numbers m o) ds → AllByRecursion (IsFor numbers m o) (map (step name c) ds)
  for_step m o name c [] h = tt
  for_step m o name c (d ∷ ds) h = (by o (is_same_bytes d.name name) h.0, for_step m o name c ds h.1)
    where
      by : (p : Option Database) (b : Bool) → IsFor numbers m p d → IsFor numbers m p (cond b (with_pairs d (pairs_changed d.kind c d.pairs)) d)
      by None true k = k
      by None false k = k
      by (Some e) true k = k
      by (Some e) false k = k

  -- the first change, and then the others
  first_then : (m : ℕ) (c : RecordChange) (own : List (ℕ × RecordChange)) (e d : Database) → is_same_bytes d.name e.name ≡ (m == numbers d.name) →
      changed_by numbers own (step e.name c d) ≡ changed_by numbers ((m, c) ∷ own) d
  first_then m c own e d same = by (is_same_bytes d.name e.name) (m == numbers d.name) same
    where
      by : (b x : Bool) → b ≡ x →
          changed_by numbers own (cond b (with_pairs d (pairs_changed d.kind c d.pairs)) d)
          ≡ with_pairs d (all_pairs_changed d.kind (cond x (c ∷ of_db (numbers d.name) own) (of_db (numbers d.name) own)) d.pairs)
      by true true h = refl
      by true false h = absurd (both_ways false refl (sym h))
      by false true h = absurd (both_ways false refl h)
      by false false h = refl

  each_first : (m : ℕ) (c : RecordChange) (own : List (ℕ × RecordChange)) (e : Database) (ds : List Database) → AllByRecursion (IsFor numbers m (Some e)) ds →
      map (changed_by numbers own) (map (step e.name c) ds) ≡ map (changed_by numbers ((m, c) ∷ own)) ds
  each_first m c own e [] h = refl
  each_first m c own e (d ∷ ds) h = ap₂ (λ (x : Database) (xs : List Database). x ∷ xs) (first_then m c own e d h.0) (each_first m c own e ds h.1)

  -- a change of no database
  no_first : (m : ℕ) (c : RecordChange) (own : List (ℕ × RecordChange)) (ds : List Database) → AllByRecursion (IsFor numbers m None) ds →
      map (changed_by numbers own) ds ≡ map (changed_by numbers ((m, c) ∷ own)) ds
  no_first m c own [] h = refl
  no_first m c own (d ∷ ds) h =
      ap₂ (λ (x : Database) (xs : List Database). x ∷ xs)
      (ap (λ (b : Bool). with_pairs d (all_pairs_changed d.kind (cond b (c ∷ of_db (numbers d.name) own) (of_db (numbers d.name) own)) d.pairs)) (sym h.0))
      (no_first m c own ds h.1)

  all_by_number : (own : List (ℕ × RecordChange)) (ds : List Database) → AreFor ds →
      all_changed (flat_map (λ c. changes_in (at c.0) c.1) own) (record { databases = ds }) ≡ record { databases = map (changed_by numbers own) ds }
  all_by_number [] ds h = ap (λ (l : List Database). record { databases = l }) (same ds)
    where
      same : (l : List Database) → l ≡ map (changed_by numbers []) l
      same [] = refl
      same (d ∷ l) = ap (λ (xs : List Database). d ∷ xs) (same l)
  all_by_number (c ∷ own) ds h = by (at c.0) (h c.0) (all_by_number own ds h) (λ name. all_by_number own (map (step name c.1) ds) (λ m. for_step m (at m) name c.1 ds (h m)))
    where
      by : (o : Option Database) → AllByRecursion (IsFor numbers c.0 o) ds →
          (all_changed (flat_map (λ x. changes_in (at x.0) x.1) own) (record { databases = ds }) ≡ record { databases = map (changed_by numbers own) ds }) →
          ((name : List ℕ) → all_changed (flat_map (λ x. changes_in (at x.0) x.1) own) (record { databases = map (step name c.1) ds }) ≡ record { databases = map (changed_by numbers own) (map (step name c.1) ds) }) →
          all_changed (changes_in o c.1 ++ flat_map (λ x. changes_in (at x.0) x.1) own) (record { databases = ds }) ≡ record { databases = map (changed_by numbers (c ∷ own)) ds }
      by None k rest more = rest ∙ ap (λ (l : List Database). record { databases = l }) (no_first c.0 c.1 own ds k)
      by (Some e) k rest more =
          ap (all_changed (flat_map (λ x. changes_in (at x.0) x.1) own)) (one_changed e.name c.1 ds)
          ∙ more e.name
          ∙ ap (λ (l : List Database). record { databases = l }) (each_first c.0 c.1 own e ds k)

-- ---- numbers of a standing

equal_turned : (m n : ℕ) → (m == n) ≡ (n == m)
equal_turned m n = by (eqb_tells m n) (eqb_tells n m)
  where
    by : ((m == n) ≡ true) × (m ≡ n) ⊎ ((m == n) ≡ false) × (m ≡ n → ⊥) → ((n == m) ≡ true) × (n ≡ m) ⊎ ((n == m) ≡ false) × (n ≡ m → ⊥) → (m == n) ≡ (n == m)
    by (inl x) (inl y) = x.0 ∙ sym y.0
    by (inl x) (inr y) = absurd (y.1 (sym x.1))
    by (inr x) (inl y) = absurd (x.1 (sym y.1))
    by (inr x) (inr y) = x.0 ∙ sym y.0

none_has : (numbers : List ℕ → ℕ) (m : ℕ) (ds : List Database) → find (λ d. numbers d.name == m) ds ≡ None → AllByRecursion (IsFor numbers m None) ds
none_has numbers m [] h = tt
none_has numbers m (d ∷ ds) h = by (numbers d.name == m) refl h (none_has numbers m ds)
  where
    by : (b : Bool) → (numbers d.name == m) ≡ b → cond b (Some d) (find (λ x. numbers x.name == m) ds) ≡ None → (find (λ x. numbers x.name == m) ds ≡ None → AllByRecursion (IsFor numbers m None) ds) →
        AllByRecursion (IsFor numbers m None) (d ∷ ds)
    by true e k rest = absurd (none-some d (sym k))
    by false e k rest = (equal_turned m (numbers d.name) ∙ e, rest k)

there_is : (store : Store) (d : Database) → IsAmong d store.databases → is_some (database_of d.name store) ≡ true
there_is store d there = any d.name store.databases there (bytes_themselves d.name)
  where
    any : (name : List ℕ) (ds : List Database) → IsAmong d ds → is_same_bytes d.name name ≡ true → is_some (find (λ x. is_same_bytes x.name name) ds) ≡ true
    any name [] k same = absurd k
    any name (e ∷ ds) k same = by (is_same_bytes e.name name) refl k (λ l. any name ds l same)
      where
        by : (b : Bool) → is_same_bytes e.name name ≡ b → (e ≡ d) ⊎ IsAmong d ds → (IsAmong d ds → is_some (find (λ x. is_same_bytes x.name name) ds) ≡ true) →
            is_some (cond b (Some e) (find (λ x. is_same_bytes x.name name) ds)) ≡ true
        by true f l rest = refl
        by false f (inl l) rest = absurd (both_ways (is_same_bytes e.name name) f (ap (λ (x : Database). is_same_bytes x.name name) l ∙ same))
        by false f (inr l) rest = rest l

its_number : (st : Standing) (m : ℕ) (o : Option Database) → HaveOwnNumbers st → database_at m st ≡ o → AllByRecursion (IsFor st.numbers m o) st.store.databases
its_number st m None own is = none_has st.numbers m st.store.databases is
its_number st m (Some e) own is = all_of (IsFor st.numbers m (Some e)) st.store.databases (λ d there. by d there (eqb_tells (st.numbers d.name) m))
  where
    f : IsAmong e st.store.databases × ((st.numbers e.name == m) ≡ true)
    f = found_is (λ (x : Database). st.numbers x.name == m) st.store.databases e is

    number : st.numbers e.name ≡ m
    number = eqb-true (st.numbers e.name) m f.1

    by : (d : Database) → IsAmong d st.store.databases → ((st.numbers d.name == m) ≡ true) × (st.numbers d.name ≡ m) ⊎ ((st.numbers d.name == m) ≡ false) × (st.numbers d.name ≡ m → ⊥) →
        is_same_bytes d.name e.name ≡ (m == st.numbers d.name)
    by d there (inl x) =
        ap (λ (n : List ℕ). is_same_bytes n e.name) (own d.name e.name (there_is st.store d there) (x.1 ∙ sym number))
        ∙ bytes_themselves e.name ∙ sym (equal_turned m (st.numbers d.name) ∙ x.0)
    by d there (inr x) =
        ⊎_elim (λ e_same. absurd (x.1 (ap st.numbers (bytes_are d.name e.name e_same) ∙ number))) (λ h. h) (cases_Bool (is_same_bytes d.name e.name))
        ∙ sym (equal_turned m (st.numbers d.name) ∙ x.0)

-- a store with own changes of a standing
pub committed_store : (st : Standing) (own : List (ℕ × RecordChange)) → HaveOwnNumbers st →
    all_changed (changes_named st own) st.store ≡ record { databases = map (changed_by st.numbers own) st.store.databases }
committed_store st own apart = all_by_number st.numbers (λ m. database_at m st) own st.store.databases (λ m. its_number st m (database_at m st) apart refl)
