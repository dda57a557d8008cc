-- The database of a name, where databases are made, removed, renamed and changed.
use Rattle.std.proofs.Common.{◌≡◌, ℕ, ◌+◌, Bool, true, false, cond, not, List, [], ◌∷◌, ◌++◌, Some, None, Option, Ordering, Less, Equal, Greater, is_lt, is_gt, filter, map, refl, ap, sym, ◌∙◌, ⊎_elim}
use Rattle.std.specs.List.{find, AllByRecursion}
use Rattle.std.specs.Option.{option_map}
use Rattle.std.proofs.lemmas.Bool.{cases_Bool, cond-false, both_ways}
use Rattle.std.proofs.lemmas.Option.{none-some}
use Rattle.std.proofs.lemmas.Map.Lookups.{exact_bytes}
use Rattle.je_order.specs.Order.{bytes_cmp, is_same_bytes}
use Rattle.je_order.proofs.Orderings.{equal_from_test}
use Rattle.store_model.specs.declared.store.Store.{Store}
use Rattle.store_model.specs.declared.store.Database.{Database}
use Rattle.store_model.specs.declared.kind.Kind.{Kind}
use Rattle.store_model.specs.declared.kind.Kind.TheVariants.{Dup}
use Rattle.store_model.specs.declared.index.Index.{Index}
use Rattle.store_model.specs.declared.change.Change.{Change}
use Rattle.store_model.specs.declared.change.Change.TheVariants.{Set, Unset, Make, MakeIndex, Remove, Rename, Empty}
use Rattle.store_model.specs.Store.{Pair, named, new_database, with_primary, pairs_with, pairs_without, with_pairs, with_name, in_database, databases_with, databases_without, databases_renamed, database_of, changed, all_changed}
use Rattle.store_model.specs.Refusals.{made_by}
use Rattle.je_answers.specs.Standing.{with_number, all_numbered}
use Rattle.open_cursors.specs.Under.{IsUnderIn}
use Rattle.standing_laws.proofs.Among.{found_is}

-- ---- names

abbrev pub IsOther : List ℕ → List ℕ → Type 0
IsOther a b = a ≡ b → ⊥

pub same_is : (a b : List ℕ) → is_same_bytes a b ≡ true → a ≡ b
same_is a b h = exact_bytes a b (equal_from_test (bytes_cmp a b) h)

not_same : (a b : List ℕ) → IsOther a b → is_same_bytes a b ≡ false
not_same a b n = ⊎_elim (λ e. absurd (n (same_is a b e))) (λ e. e) (cases_Bool (is_same_bytes a b))

turned : (a b : List ℕ) → IsOther a b → IsOther b a
turned a b n e = n (sym e)

-- ---- looking

abbrev named_in : List ℕ → List Database → Option Database
named_in name ds = find (λ (d : Database). is_same_bytes d.name name) ds

kept_by : (name : List ℕ) (q : Database → Bool) → ((d : Database) → d.name ≡ name → q d ≡ true) → (ds : List Database) → named_in name (filter q ds) ≡ named_in name ds
kept_by name q all [] = refl
kept_by name q all (d ∷ ds) = by (q d) refl (kept_by name q all ds)
  where
    by : (b : Bool) → q d ≡ b → named_in name (filter q ds) ≡ named_in name ds → named_in name (cond b (d ∷ filter q ds) (filter q ds)) ≡ cond (is_same_bytes d.name name) (Some d) (named_in name ds)
    by true e h = ap (λ (o : Option Database). cond (is_same_bytes d.name name) (Some d) o) h
    by false e h = h ∙ sym (cond-false (is_same_bytes d.name name) (Some d) (named_in name ds) (⊎_elim (λ k. absurd (both_ways (q d) e (all d (same_is d.name name k)))) (λ k. k) (cases_Bool (is_same_bytes d.name name))))

gone_by : (name : List ℕ) (q : Database → Bool) → ((d : Database) → d.name ≡ name → q d ≡ false) → (ds : List Database) → named_in name (filter q ds) ≡ None
gone_by name q all [] = refl
gone_by name q all (d ∷ ds) = by (q d) refl (gone_by name q all ds)
  where
    by : (b : Bool) → q d ≡ b → named_in name (filter q ds) ≡ None → named_in name (cond b (d ∷ filter q ds) (filter q ds)) ≡ None
    by true e h = cond-false (is_same_bytes d.name name) (Some d) (named_in name (filter q ds)) (⊎_elim (λ k. absurd (both_ways (q d) (all d (same_is d.name name k)) e)) (λ k. k) (cases_Bool (is_same_bytes d.name name))) ∙ h
    by false e h = h

first_some : (name : List ℕ) (xs ys : List Database) (d : Database) → named_in name xs ≡ Some d → named_in name (xs ++ ys) ≡ Some d
first_some name [] ys d h = absurd (none-some d h)
first_some name (x ∷ xs) ys d h = by (is_same_bytes x.name name) (first_some name xs ys d) h
  where
    by : (b : Bool) → (named_in name xs ≡ Some d → named_in name (xs ++ ys) ≡ Some d) → cond b (Some x) (named_in name xs) ≡ Some d → cond b (Some x) (named_in name (xs ++ ys)) ≡ Some d
    by true rest k = k
    by false rest k = rest k

first_none : (name : List ℕ) (xs ys : List Database) → named_in name xs ≡ None → named_in name (xs ++ ys) ≡ named_in name ys
first_none name [] ys h = refl
first_none name (x ∷ xs) ys h = by (is_same_bytes x.name name) (first_none name xs ys) h
  where
    by : (b : Bool) → (named_in name xs ≡ None → named_in name (xs ++ ys) ≡ named_in name ys) → cond b (Some x) (named_in name xs) ≡ None → cond b (Some x) (named_in name (xs ++ ys)) ≡ named_in name ys
    by true rest k = absurd (none-some x (sym k))
    by false rest k = rest k

-- one database more, of another name
inserted : (name : List ℕ) (new : Database) (ds : List Database) (d : Database) → IsOther new.name name → named_in name ds ≡ Some d → named_in name (databases_with new ds) ≡ Some d
inserted name new ds d other its = by (bytes_cmp name new.name) refl
  where
    low : Database → Bool
    low x = is_lt (bytes_cmp x.name new.name)

    high : Database → Bool
    high x = is_gt (bytes_cmp x.name new.name)

    behind : named_in name (new ∷ filter high ds) ≡ named_in name (filter high ds)
    behind = cond-false (is_same_bytes new.name name) (Some new) (named_in name (filter high ds)) (not_same new.name name other)

    by : (o : Ordering) → bytes_cmp name new.name ≡ o → named_in name (databases_with new ds) ≡ Some d
    by Less e = first_some name (filter low ds) (new ∷ filter high ds) d (kept_by name low (λ x k. ap (λ (n : List ℕ). is_lt (bytes_cmp n new.name)) k ∙ ap is_lt e) ds ∙ its)
    by Greater e = first_none name (filter low ds) (new ∷ filter high ds) (gone_by name low (λ x k. ap (λ (n : List ℕ). is_lt (bytes_cmp n new.name)) k ∙ ap is_lt e) ds)
        ∙ (behind ∙ (kept_by name high (λ x k. ap (λ (n : List ℕ). is_gt (bytes_cmp n new.name)) k ∙ ap is_gt e) ds ∙ its))
    by Equal e = absurd (other (sym (exact_bytes name new.name e)))

-- one database less, of another name
left_out : (name db : List ℕ) (ds : List Database) → IsOther name db → named_in name (databases_without db ds) ≡ named_in name ds
left_out name db ds other = kept_by name (λ (x : Database). not (is_same_bytes x.name db)) (λ x k. ap (λ (n : List ℕ). not (is_same_bytes n db)) k ∙ ap not (not_same name db other)) ds

-- the databases with changes that leave their names
along : (name : List ℕ) (c : Database → Database) → ((d : Database) → (c d).name ≡ d.name) → (ds : List Database) → named_in name (map c ds) ≡ option_map c (named_in name ds)
along name c same [] = refl
along name c same (d ∷ ds) = ap (λ (n : List ℕ). cond (is_same_bytes n name) (Some (c d)) (named_in name (map c ds))) (same d) ∙ by (is_same_bytes d.name name) (along name c same ds)
  where
    by : (b : Bool) → named_in name (map c ds) ≡ option_map c (named_in name ds) → cond b (Some (c d)) (named_in name (map c ds)) ≡ option_map c (cond b (Some d) (named_in name ds))
    by true h = refl
    by false h = h

-- ---- a database that goes on

numbers_there : (db : List ℕ) (n : ℕ) (numbers : List ℕ → ℕ) (name : List ℕ) → IsOther name db → with_number db n numbers name ≡ numbers name
numbers_there db n numbers name other = cond-false (is_same_bytes name db) n (numbers name) (not_same name db other)

name_stays : (b : Bool) (d : Database) (pairs : List Pair) → (cond b (with_pairs d pairs) d).name ≡ d.name
name_stays true d pairs = refl
name_stays false d pairs = refl

kind_stays : (b : Bool) (d : Database) (pairs : List Pair) → (cond b (with_pairs d pairs) d).kind ≡ d.kind
kind_stays true d pairs = refl
kind_stays false d pairs = refl

-- records are other ones
pub under_records : (store : Store) (numbers : List ℕ → ℕ) (number : ℕ) (name : List ℕ) (kind : Kind) (db : List ℕ) (pairs : Database → List Pair) → IsUnderIn store numbers number name kind
    → IsUnderIn (record { databases = in_database db (λ d. with_pairs d (pairs d)) store.databases }) numbers number name kind
under_records store numbers number name kind db pairs u =
    let c : Database → Database = λ d. cond (is_same_bytes d.name db) (with_pairs d (pairs d)) d in
    record {
      database = c u.database;
      its = along name c (λ d. name_stays (is_same_bytes d.name db) d (pairs d)) store.databases ∙ ap (option_map c) u.its;
      kind_is = kind_stays (is_same_bytes u.database.name db) u.database (pairs u.database) ∙ u.kind_is;
      number_is = u.number_is;
    }

pub under_made : (store : Store) (numbers : List ℕ → ℕ) (number n : ℕ) (name : List ℕ) (kind its : Kind) (db : List ℕ) → IsOther name db → IsUnderIn store numbers number name kind
    → IsUnderIn (changed (Make db its) store) (with_number db n numbers) number name kind
under_made store numbers number n name kind its db other u = record {
  database = u.database;
  its = inserted name (new_database db its None) store.databases u.database (turned name db other) u.its;
  kind_is = u.kind_is;
  number_is = numbers_there db n numbers name other ∙ u.number_is;
}

pub under_removed : (store : Store) (numbers : List ℕ → ℕ) (number : ℕ) (name : List ℕ) (kind : Kind) (db : List ℕ) → IsOther name db → IsUnderIn store numbers number name kind
    → IsUnderIn (changed (Remove db) store) (with_number db 0 numbers) number name kind
under_removed store numbers number name kind db other u = record {
  database = u.database;
  its = left_out name db store.databases other ∙ u.its;
  kind_is = u.kind_is;
  number_is = numbers_there db 0 numbers name other ∙ u.number_is;
}

-- its index, if it is one, may know its primary by another name
pub under_renamed : (store : Store) (numbers : List ℕ → ℕ) (number : ℕ) (name : List ℕ) (kind : Kind) (db to : List ℕ) → IsOther name db → IsOther name to → IsUnderIn store numbers number name kind
    → IsUnderIn (changed (Rename db to) store) (with_number to (numbers db) (with_number db 0 numbers)) number name kind
under_renamed store numbers number name kind db to other moved u = by (database_of db store) refl
  where
    numbered : with_number to (numbers db) (with_number db 0 numbers) name ≡ number
    numbered = numbers_there to (numbers db) (with_number db 0 numbers) name moved ∙ (numbers_there db 0 numbers name other ∙ u.number_is)

    by : (o : Option Database) → database_of db store ≡ o → IsUnderIn (record { databases = databases_renamed o to store.databases }) (with_number to (numbers db) (with_number db 0 numbers)) number name kind
    by None e = record { database = u.database; its = u.its; kind_is = u.kind_is; number_is = numbered }
    by (Some d) e =
        let its : d.name ≡ db = same_is d.name db (found_is (λ (x : Database). is_same_bytes x.name db) store.databases d e).1 in
        let there : named_in name (databases_with (with_name d to) (databases_without d.name store.databases)) ≡ Some u.database =
        inserted name (with_name d to) (databases_without d.name store.databases) u.database (turned name to moved)
        (left_out name d.name store.databases (λ k. other (k ∙ its)) ∙ u.its) in
        record {
          database = with_primary d.name to u.database;
          its = along name (with_primary d.name to) (λ x. refl) (databases_with (with_name d to) (databases_without d.name store.databases)) ∙ ap (option_map (with_primary d.name to)) there;
          kind_is = u.kind_is;
          number_is = numbered;
        }

pub under_emptied : (store : Store) (numbers : List ℕ → ℕ) (number n : ℕ) (name : List ℕ) (kind : Kind) (db : List ℕ) → IsOther name db → IsUnderIn store numbers number name kind
    → IsUnderIn (changed (Empty db) store) (with_number db n numbers) number name kind
under_emptied store numbers number n name kind db other u =
    let v = under_records store numbers number name kind db (λ d. []) u in
    record { database = v.database; its = v.its; kind_is = v.kind_is; number_is = numbers_there db n numbers name other ∙ u.number_is }

-- ---- changes of records

abbrev pub IsOfRecord : Change → Type 0
IsOfRecord (Set db at value) = Unit {0}
IsOfRecord (Unset db at) = Unit {0}
IsOfRecord change = ⊥

pub under_all : (changes : List Change) (store : Store) (last : ℕ) (numbers : List ℕ → ℕ) (number : ℕ) (name : List ℕ) (kind : Kind) → AllByRecursion IsOfRecord changes → IsUnderIn store numbers number name kind
    → IsUnderIn (all_changed changes store) (all_numbered changes last numbers) number name kind
under_all [] store last numbers number name kind all u = u
under_all (Set db at value ∷ changes) store last numbers number name kind all u =
    under_all changes (changed (Set db at value) store) (last + made_by (Set db at value ∷ [])) numbers number name kind all.1 (under_records store numbers number name kind db (λ d. pairs_with d.kind at value d.pairs) u)
under_all (Unset db at ∷ changes) store last numbers number name kind all u =
    under_all changes (changed (Unset db at) store) (last + made_by (Unset db at ∷ [])) numbers number name kind all.1 (under_records store numbers number name kind db (λ d. pairs_without d.kind at d.pairs) u)
under_all (change ∷ changes) store last numbers number name kind all u = absurd all.0

-- an index is made and filled
sets_only : (db : List ℕ) (pairs : List Pair) → AllByRecursion IsOfRecord (map (λ p. Set db (named p.0 p.1) []) pairs)
sets_only db [] = tt
sets_only db (p ∷ pairs) = (tt, sets_only db pairs)

pub under_indexed : (store : Store) (last : ℕ) (numbers : List ℕ → ℕ) (number : ℕ) (name : List ℕ) (kind : Kind) (db : List ℕ) (index : Index) (pairs : List Pair) → IsOther name db
    → IsUnderIn store numbers number name kind
    → IsUnderIn (all_changed (MakeIndex db index ∷ map (λ p. Set db (named p.0 p.1) []) pairs) store)
    (all_numbered (MakeIndex db index ∷ map (λ p. Set db (named p.0 p.1) []) pairs) last numbers) number name kind
under_indexed store last numbers number name kind db index pairs other u =
    under_all (map (λ p. Set db (named p.0 p.1) []) pairs) (changed (MakeIndex db index) store) (last + made_by (MakeIndex db index ∷ [])) (with_number db (last + 1) numbers) number name kind (sets_only db pairs) (record {
      database = u.database;
      its = inserted name (new_database db Dup (Some index)) store.databases u.database (turned name db other) u.its;
      kind_is = u.kind_is;
      number_is = numbers_there db (last + 1) numbers name other ∙ u.number_is;
    })
