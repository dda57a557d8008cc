-- A store in which a database was made: what it finds, and the numbers of its databases.
use Rattle.std.proofs.Common.{◌≡◌, ◌<◌, ◌≤◌, ◌+◌, ℕ, Bool, true, false, cond, List, [], ◌∷◌, ◌++◌, Option, None, Some, filter, find, refl, ap, sym, ◌∙◌, subst, arith, Ordering, Less, Equal, Greater, is_lt, is_gt, is_eq}
use Rattle.std.specs.Prelude.{IsSome}
use Rattle.std.specs.List.{AllByRecursion}
use Rattle.std.specs.List.Sorted.{IsStrictlySortedBy}
use Rattle.std.specs.Ordering.{on}
use Rattle.std.proofs.lemmas.Bool.{true≢false}
use Rattle.std.proofs.lemmas.Option.{none-some, same_Some}
use Rattle.je_order.specs.Order.{bytes_cmp, is_same_bytes}
use Rattle.je_order.proofs.Lists.{all_weaker}
use Rattle.store_model.specs.declared.store.Store.{Store}
use Rattle.store_model.specs.declared.store.Database.{Database}
use Rattle.store_model.specs.declared.kind.Kind.{Kind}
use Rattle.store_model.specs.declared.change.Change.TheVariants.{Make}
use Rattle.store_model.specs.Store.{changed, database_of, new_database}
use Rattle.store_model.proofs.IndexLaws.{bytes_are, bytes_themselves}
use Rattle.je_answers.specs.Standing.{with_number}
use Rattle.je_answers.specs.Numbers.{HaveNumbers}

-- ---- names that rise

-- a name below another one is not the same
not_below : (a b : List ℕ) → bytes_cmp a b ≡ Less → is_same_bytes a b ≡ true → ⊥
not_below a b less same = true≢false (sym same ∙ ap is_eq less)

later_others : (db : List ℕ) (d y : Database) → is_same_bytes y.name db ≡ true → (z : Database) → bytes_cmp y.name z.name ≡ Less → is_same_bytes z.name db ≡ true → z ≡ d
later_others db d y own z less same =
    absurd (not_below y.name z.name less (ap (λ (l : List ℕ). is_same_bytes l z.name) (bytes_are y.name db own ∙ sym (bytes_are z.name db same)) ∙ bytes_themselves z.name))

only_step : (db : List ℕ) (d y : Database) (ys : List Database) → AllByRecursion (λ z. bytes_cmp y.name z.name ≡ Less) ys →
    (find (λ x. is_same_bytes x.name db) ys ≡ Some d → AllByRecursion (λ e. is_same_bytes e.name db ≡ true → e ≡ d) ys) → (b : Bool) → is_same_bytes y.name db ≡ b →
    cond b (Some y) (find (λ x. is_same_bytes x.name db) ys) ≡ Some d → AllByRecursion (λ e. is_same_bytes e.name db ≡ true → e ≡ d) (y ∷ ys)
only_step db d y ys above rest true is found =
    (λ same. same_Some y d found, all_weaker (λ (z : Database). bytes_cmp y.name z.name ≡ Less) (λ (z : Database). is_same_bytes z.name db ≡ true → z ≡ d) (later_others db d y is) ys above)
only_step db d y ys above rest false is found = (λ same. absurd (true≢false (sym same ∙ is)), rest found)

-- where names rise the database that is found is the only one of its name
pub only_one : (db : List ℕ) (ds : List Database) (d : Database) → IsStrictlySortedBy (on (λ (x : Database). x.name) bytes_cmp) ds → find (λ x. is_same_bytes x.name db) ds ≡ Some d →
    AllByRecursion (λ e. is_same_bytes e.name db ≡ true → e ≡ d) ds
unfolding IsStrictlySortedBy
only_one db [] d rising found = tt
only_one db (y ∷ ys) d rising found = only_step db d y ys rising.0 (only_one db ys d rising.1) (is_same_bytes y.name db) refl found

-- ---- what is found

found_first : {X : Type 0} (p : X → Bool) (xs ys : List X) (x : X) → find p xs ≡ Some x → find p (xs ++ ys) ≡ Some x
found_first p [] ys x found = absurd (none-some x found)
found_first p (y ∷ xs) ys x found = by (p y) (found_first p xs ys x) found where
  by : (b : Bool) → (find p xs ≡ Some x → find p (xs ++ ys) ≡ Some x) → cond b (Some y) (find p xs) ≡ Some x → cond b (Some y) (find p (xs ++ ys)) ≡ Some x
  by true rest found = found
  by false rest found = rest found

found_behind : {X : Type 0} (p : X → Bool) (xs ys : List X) → find p xs ≡ None → find p (xs ++ ys) ≡ find p ys
found_behind p [] ys none = refl
found_behind p (y ∷ xs) ys none = by (p y) (found_behind p xs ys) none where
  by : (b : Bool) → (find p xs ≡ None → find p (xs ++ ys) ≡ find p ys) → cond b (Some y) (find p xs) ≡ None → cond b (Some y) (find p (xs ++ ys)) ≡ find p ys
  by true rest none = absurd (none-some y (sym none))
  by false rest none = rest none

-- of those that are kept the same is found, if what is found is kept
found_kept : {X : Type 0} (p q : X → Bool) → ((x : X) → p x ≡ true → q x ≡ true) → (xs : List X) → find p (filter q xs) ≡ find p xs
found_kept p q keeps [] = refl
found_kept p q keeps (x ∷ xs) = by (q x) refl (p x) refl (found_kept p q keeps xs) where
  by : (b : Bool) → q x ≡ b → (c : Bool) → p x ≡ c → find p (filter q xs) ≡ find p xs → find p (cond b (x ∷ filter q xs) (filter q xs)) ≡ cond c (Some x) (find p xs)
  by true kept true is rest = ap (λ (b : Bool). cond b (Some x) (find p (filter q xs))) is
  by true kept false is rest = ap (λ (b : Bool). cond b (Some x) (find p (filter q xs))) is ∙ rest
  by false kept true is rest = absurd (true≢false (sym (keeps x is) ∙ kept))
  by false kept false is rest = rest

none_kept : {X : Type 0} (p q : X → Bool) → ((x : X) → p x ≡ true → q x ≡ false) → (xs : List X) → find p (filter q xs) ≡ None
none_kept p q drops [] = refl
none_kept p q drops (x ∷ xs) = by (q x) refl (p x) refl (none_kept p q drops xs) where
  by : (b : Bool) → q x ≡ b → (c : Bool) → p x ≡ c → find p (filter q xs) ≡ None → find p (cond b (x ∷ filter q xs) (filter q xs)) ≡ None
  by true kept true is rest = absurd (true≢false (sym kept ∙ drops x is))
  by true kept false is rest = ap (λ (b : Bool). cond b (Some x) (find p (filter q xs))) is ∙ rest
  by false kept c is rest = rest

module _ (db : List ℕ) (kind : Kind) (store : Store) where
  abbrev new : Database
  new = new_database db kind None

  abbrev below : Database → Bool
  below d = is_lt (bytes_cmp d.name db)

  abbrev above : Database → Bool
  above d = is_gt (bytes_cmp d.name db)

  not_low : (d : Database) → is_same_bytes d.name db ≡ true → below d ≡ false
  not_low d same = by (bytes_cmp d.name db) same where
    by : (o : Ordering) → is_eq o ≡ true → is_lt o ≡ false
    by Less e = cc
    by Equal e = refl
    by Greater e = refl

  -- the database that was made is found
  pub made_found : database_of db (changed (Make db kind) store) ≡ Some new
  made_found =
      let p : Database → Bool = λ d. is_same_bytes d.name db in
      found_behind p (filter below store.databases) (new ∷ filter above store.databases) (none_kept p below not_low store.databases)
      ∙ ap (λ (b : Bool). cond b (Some new) (find p (filter above store.databases))) (bytes_themselves db)

  -- and under another name what was
  pub made_other : (name : List ℕ) → is_same_bytes name db ≡ false → database_of name (changed (Make db kind) store) ≡ database_of name store
  made_other name other = by (bytes_cmp name db) refl where
    not_new : is_same_bytes db name ≡ false
    not_new = by_test (is_same_bytes db name) refl where
      by_test : (b : Bool) → is_same_bytes db name ≡ b → b ≡ false
      by_test true same = absurd (true≢false (sym (bytes_themselves db) ∙ ap (λ (l : List ℕ). is_same_bytes l db) (bytes_are db name same) ∙ other))
      by_test false same = refl

    ordered : (o : Ordering) → bytes_cmp name db ≡ o → (d : Database) → is_same_bytes d.name name ≡ true → bytes_cmp d.name db ≡ o
    ordered o is d same = ap (λ (l : List ℕ). bytes_cmp l db) (bytes_are d.name name same) ∙ is

    behind : (o : Option Database) → find (λ (x : Database). is_same_bytes x.name name) (filter below store.databases) ≡ o → find (λ (x : Database). is_same_bytes x.name name) (filter above store.databases) ≡ None → find (λ (x : Database). is_same_bytes x.name name) (filter below store.databases ++ new ∷ filter above store.databases) ≡ o
    behind (Some x) first none = found_first (λ (x : Database). is_same_bytes x.name name) (filter below store.databases) (new ∷ filter above store.databases) x first
    behind None first none = found_behind (λ (x : Database). is_same_bytes x.name name) (filter below store.databases) (new ∷ filter above store.databases) first
        ∙ ap (λ (b : Bool). cond b (Some new) (find (λ (x : Database). is_same_bytes x.name name) (filter above store.databases))) not_new ∙ none

    by : (o : Ordering) → bytes_cmp name db ≡ o → find (λ (x : Database). is_same_bytes x.name name) (filter below store.databases ++ new ∷ filter above store.databases) ≡ find (λ (x : Database). is_same_bytes x.name name) store.databases
    by Less is = behind (find (λ (x : Database). is_same_bytes x.name name) store.databases) (found_kept (λ (x : Database). is_same_bytes x.name name) below (λ d same. ap is_lt (ordered Less is d same)) store.databases) (none_kept (λ (x : Database). is_same_bytes x.name name) above (λ d same. ap is_gt (ordered Less is d same)) store.databases)
    by Equal is = absurd (true≢false (sym (ap is_eq is) ∙ other))
    by Greater is =
        found_behind (λ (x : Database). is_same_bytes x.name name) (filter below store.databases) (new ∷ filter above store.databases) (none_kept (λ (x : Database). is_same_bytes x.name name) below (λ d same. ap is_lt (ordered Greater is d same)) store.databases)
        ∙ ap (λ (b : Bool). cond b (Some new) (find (λ (x : Database). is_same_bytes x.name name) (filter above store.databases))) not_new ∙ found_kept (λ (x : Database). is_same_bytes x.name name) above (λ d same. ap is_gt (ordered Greater is d same)) store.databases

-- ---- numbers

-- a database that is made gets the next number
pub made_numbers : (db : List ℕ) (kind : Kind) (store : Store) (last : ℕ) (numbers : List ℕ → ℕ) → HaveNumbers store last numbers → HaveNumbers (changed (Make db kind) store) (last + 1) (with_number db (last + 1) numbers)
made_numbers db kind store last numbers have = record {
  none = λ name missing. none name (is_same_bytes name db) refl missing;
  allocated = λ name some. allocated name (is_same_bytes name db) refl some;
  apart = λ name other some same. apart name other (is_same_bytes name db) (is_same_bytes other db) refl refl some same;
} where
  now : Store
  now = changed (Make db kind) store

  some_was : (name : List ℕ) → is_same_bytes name db ≡ false → IsSome (database_of name now) → IsSome (database_of name store)
  some_was name other some = subst (λ (o : Option Database). IsSome o) (made_other db kind store name other) some

  none : (name : List ℕ) (b : Bool) → is_same_bytes name db ≡ b → database_of name now ≡ None → cond b (last + 1) (numbers name) ≡ 0
  none name true is missing =
      absurd (none-some (new_database db kind None) (sym missing ∙ ap (λ (l : List ℕ). database_of l now) (bytes_are name db is) ∙ made_found db kind store))
  none name false is missing = have.none name (sym (made_other db kind store name is) ∙ missing)

  allocated : (name : List ℕ) (b : Bool) → is_same_bytes name db ≡ b → IsSome (database_of name now) → (0 < cond b (last + 1) (numbers name)) × (cond b (last + 1) (numbers name) ≤ last + 1)
  allocated name true is some = (omega arith, omega arith)
  allocated name false is some = (let was = have.allocated name (some_was name is some) in let low = was.1 in (was.0, omega (arith, low)))

  at_most : (name : List ℕ) (o : Option Database) → database_of name store ≡ o → numbers name ≤ last
  at_most name None is = (let zero = have.none name is in omega (arith, zero))
  at_most name (Some d) is = (have.allocated name (subst (λ (x : Option Database). IsSome x) (sym is) refl)).1

  apart : (name other : List ℕ) (b c : Bool) → is_same_bytes name db ≡ b → is_same_bytes other db ≡ c → IsSome (database_of name now) → cond b (last + 1) (numbers name) ≡ cond c (last + 1) (numbers other) → name ≡ other
  apart name other true true is its some same = bytes_are name db is ∙ sym (bytes_are other db its)
  apart name other true false is its some same = (let most = at_most other (database_of other store) refl in absurd (omega (arith, same, most)))
  apart name other false true is its some same = (let most = at_most name (database_of name store) refl in absurd (omega (arith, same, most)))
  apart name other false false is its some same = have.apart name other (some_was name is some) same
