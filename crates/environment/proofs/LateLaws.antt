-- What refuses a call on records late, and the database that it is on.
use Rattle.std.proofs.Common.{◌≡◌, ◌≢◌, ◌==◌, ◌∙◌, ℕ, ◌≤◌, nat_lt, Bool, true, false, true≢false, cond, List, [], ◌∷◌, Option, None, Some, is_some, find, length, refl, ap, ap₂, sym, subst, rules, arith, is_eq}
use Rattle.std.specs.Prelude.{option_map}
use Rattle.std.proofs.lemmas.Bool.{eq-eqb}
use Rattle.std.proofs.lemmas.Bool.Decides.{nat_tests}
use Rattle.std.proofs.lemmas.Map.Lookups.{exact_bytes}
use Rattle.je_order.specs.Order.{bytes_cmp, is_same_bytes}
use Rattle.je_order.proofs.Orderings.{equal_from_test}
use Rattle.node_core.proofs.NameOrder.{itself}
use Rattle.store_model.specs.declared.answer.Answer.{Answer}
use Rattle.store_model.specs.declared.answer.Answer.TheVariants.{IdsEnded, NoDatabase}
use Rattle.store_model.specs.declared.call.Call.{Call}
use Rattle.store_model.specs.declared.call.Call.TheVariants.{Get, GetBoth, Put, Delete, Count, Cur, CPutCur, CDel, CPut}
use Rattle.store_model.specs.declared.motion.Motion.{Motion}
use Rattle.store_model.specs.declared.motion.Motion.TheVariants.{Key, Range as InRange, Both, BothRange}
use Rattle.store_model.specs.declared.kind.Kind.{Kind}
use Rattle.store_model.specs.declared.store.Database.{Database}
use Rattle.store_model.specs.declared.store.TheConstants.{LAST_TXN}
use Rattle.store_model.specs.Evaluation.{plain_name}
use Rattle.store_model.specs.declared.answer.Answer.TheVariants.{TooLong}
use Rattle.store_model.specs.declared.kind.Kind.TheVariants.{Plain as IsPlain, Dup as IsDup}
use Rattle.store_model.specs.declared.put_mode.PutMode.{PutMode}
use Rattle.store_model.specs.declared.put_mode.PutMode.TheVariants.{Overwrite, NoOverwrite, NoDupData}
use Rattle.je_order.specs.declared.limits.TheConstants.{KEY_LIMIT}
use Rattle.store_model.specs.Refusals.{access_refusal, data_limit, index_refusal, database_refuses, kind_refusal, motion_refusal, or_refusal, pair_refusal, too_long}
use Rattle.environment.proofs.EarlyLaws.{IsCalmRefusal, calm_or}
use Rattle.store_model.specs.Store.{database_of}
use Rattle.je_answers.specs.declared.active.Active.{Active}
use Rattle.je_answers.specs.Standing.{Standing, active_of, database_at}
use Rattle.je_answers.specs.Views.{Target, named_target, target, target_of}
use Rattle.je_answers.specs.Refusals.{database_refusal, late_refusal, number_refusal, target_refusal}
use Rattle.db_catalog.specs.declared.db_record.DbRecord.{DbRecord}
use Rattle.db_catalog.specs.declared.found_db.FoundDb.{FoundDb}
use Rattle.db_catalog.specs.Planning.{IsFoundAs, found_in}
use Rattle.log_replay.specs.Logging.{record_named}
use Rattle.log_replay.specs.Rows.{Rows, number_or_0, store_of}
use Rattle.log_replay.proofs.RowLaws.{name_cmp-plain}
use Rattle.log_replay.proofs.StoreLaws.{database_of-absent}
use Rattle.txn_log.specs.Committing.{MakesStore}
use Rattle.txn_log.proofs.CommittingLaws.{database_numbered}
use Rattle.engine.proofs.CalmAnswers.{IsCalm}
use Rattle.environment.specs.Access.{IsLate, index_refuses, refuses_in}
use Rattle.index_map.specs.Made.{Made, primary_in}
use Rattle.environment.specs.Valid.{index_made, made_at}
use Rattle.store_model.specs.declared.index.Index.{Index}
use Rattle.store_model.specs.declared.extract.Extract.{Extract}
use Rattle.standing_laws.specs.Right.{MayWait}
use Rattle.environment.specs.Calls.{IsAtCursor, IsOnRecords}
use Rattle.environment.specs.declared.late.Late.TheVariants.{Refused, Found}

-- ---- the refusals

-- a call outside a transaction wants a number
number_is : (last : ℕ) (o : Option Active) (kept : ℕ) → kept ≡ last → (is_some o ≡ false) → (LAST_TXN ≤ kept) → number_refusal last o ≡ Some IdsEnded
number_is last None kept same none over = ap (λ (b : Bool). cond b None (Some IdsEnded)) (let test : nat_lt last LAST_TXN ≡ false = grind (arith, nat_tests) in test)
number_is last (Some a) kept same none over = absurd (true≢false none)

pub number_is_none : (n : Option Answer) → is_some n ≡ false → n ≡ None
number_is_none None is = refl
number_is_none (Some x) is = absurd (true≢false is)

-- where one is wanted and none is left
pub number_ended : (last : ℕ) (o : Option Active) → is_some (number_refusal last o) ≡ true → number_refusal last o ≡ Some IdsEnded
number_ended last None is = by_test (nat_lt last LAST_TXN) is
  where
    by_test : (b : Bool) → is_some (cond b None (Some IdsEnded)) ≡ true → cond b None (Some IdsEnded) ≡ Some IdsEnded
    by_test true h = absurd (true≢false (sym h))
    by_test false h = refl
number_ended last (Some a) is = absurd (true≢false (sym is))

-- what refuses a call on the records of a name
abbrev pub late_by : Option Answer → Standing → Call → List ℕ → Option Answer
late_by number st call db = or_refusal number (or_refusal (database_refusal st db) (or_refusal None (target_refusal call (named_target st db))))

pub late_is : (st : Standing) (session : ℕ) (call : Call) (db : List ℕ) → IsOnRecords db call → late_refusal st session call ≡ late_by (number_refusal st.last_txn (active_of session st.actives)) st call db
late_is st session (Get name key rmw) db is = ap (late_by (number_refusal st.last_txn (active_of session st.actives)) st (Get name key rmw)) is
late_is st session (GetBoth name key value rmw) db is = ap (late_by (number_refusal st.last_txn (active_of session st.actives)) st (GetBoth name key value rmw)) is
late_is st session (Put name key value mode) db is = ap (late_by (number_refusal st.last_txn (active_of session st.actives)) st (Put name key value mode)) is
late_is st session (Delete name key) db is = ap (late_by (number_refusal st.last_txn (active_of session st.actives)) st (Delete name key)) is
late_is st session call db is = absurd is

pub target_is : (st : Standing) (session : ℕ) (call : Call) (db : List ℕ) → IsOnRecords db call → target_of st session call ≡ named_target st db
target_is st session (Get name key rmw) db is = ap (named_target st) is
target_is st session (GetBoth name key value rmw) db is = ap (named_target st) is
target_is st session (Put name key value mode) db is = ap (named_target st) is
target_is st session (Delete name key) db is = ap (named_target st) is
target_is st session call db is = absurd is

-- ---- the database of a name

pub same_is : (a b : List ℕ) → is_same_bytes a b ≡ true → a ≡ b
same_is a b same = exact_bytes a b (equal_from_test (bytes_cmp a b) same)

same_itself : (name : List ℕ) → is_same_bytes name name ≡ true
same_itself name = ap is_eq (sym (name_cmp-plain (plain_name name) name refl) ∙ itself (plain_name name))

some_is : {X : Type 0} (x y : X) → Some x ≡ Some y → x ≡ y
some_is x y e = search (rules, e)

-- the first that passes a test passes it
passes : {X : Type 0} (p : X → Bool) (xs : List X) (x : X) → find p xs ≡ Some x → p x ≡ true
passes p [] x is = absurd cc
passes p (h ∷ xs) x is = by_test (p h) refl is (passes p xs x)
  where
    by_test : (b : Bool) → p h ≡ b → cond b (Some h) (find p xs) ≡ Some x → (find p xs ≡ Some x → p x ≡ true) → p x ≡ true
    by_test true e here rest = subst (λ y. p y ≡ true) (some_is h x here) e
    by_test false e there rest = rest there

-- where each of two that are first by their tests passes the other's, they are one
one_first : {X : Type 0} (p q : X → Bool) (xs : List X) (x y : X) → find p xs ≡ Some x → find q xs ≡ Some y → p y ≡ true → q x ≡ true → x ≡ y
one_first p q [] x y first second py qx = absurd cc
one_first p q (h ∷ xs) x y first second py qx = by_tests (p h) (q h) refl refl first second (λ f s. one_first p q xs x y f s py qx)
  where
    by_tests : (a b : Bool) → p h ≡ a → q h ≡ b → cond a (Some h) (find p xs) ≡ Some x → cond b (Some h) (find q xs) ≡ Some y → (find p xs ≡ Some x → find q xs ≡ Some y → x ≡ y) → x ≡ y
    by_tests true true ea eb f s rest = sym (some_is h x f) ∙ some_is h y s
    by_tests true false ea eb f s rest = absurd (true≢false (sym (sym eb ∙ ap q (some_is h x f) ∙ qx)))
    by_tests false true ea eb f s rest = absurd (true≢false (sym (sym ea ∙ ap p (some_is h y s) ∙ py)))
    by_tests false false ea eb f s rest = rest f s

found_number : (o : Option DbRecord) (f : FoundDb) → found_in o ≡ Some f → number_or_0 o ≡ f.number
found_number None f is = absurd cc
found_number (Some r) f is = ap (λ (x : FoundDb). x.number) (some_is _ f is)

-- the database of a name is that of the name's number
pub record IsKnownAs (st : Standing) (db : List ℕ) (d : Database) : Type 0 where
  pub name : d.name ≡ db
  pub above : st.numbers db ≢ 0
  pub there : database_at (st.numbers db) st ≡ Some d

pub known_as : (rows : Rows) (st : Standing) (makes : MakesStore rows st.last_db st) (db : List ℕ) (d : Database) → database_of db st.store ≡ Some d → IsKnownAs st db d
known_as rows st makes db d here = record { name = name_is; above = above; there = by_number }
  where
    name_is : d.name ≡ db
    name_is = same_is d.name db (passes (λ (x : Database). is_same_bytes x.name db) st.store.databases d here)

    above : st.numbers db ≢ 0
    above zero_ =
        let gone = database_of-absent rows db makes.environment (makes.named db ∙ zero_) in
        absurd (let e : None ≡ Some d = sym gone ∙ ap (database_of db) makes.store ∙ here in cc)

    by_number : database_at (st.numbers db) st ≡ Some d
    by_number =
        let other = database_numbered rows st.last_db st db makes (λ e. above (sym (makes.named db) ∙ e)) in
        let is : database_at (st.numbers db) st ≡ Some other.database = ap (λ (n : ℕ). database_at n st) (sym (makes.named db)) ∙ other.is in
        let one : d ≡ other.database =
        one_first (λ (x : Database). is_same_bytes x.name db) (λ (x : Database). st.numbers x.name == st.numbers db) st.store.databases d other.database here is
        (ap (λ (n : List ℕ). is_same_bytes n db) other.name_is ∙ same_itself db) (eq-eqb (st.numbers d.name) (st.numbers db) (ap st.numbers name_is)) in
        is ∙ ap Some (sym one)

module _ (rows : Rows) (st : Standing) (makes : MakesStore rows st.last_db st) (db : List ℕ) where
  found_none : (o : Option Database) (found : Option FoundDb) → IsFoundAs o found → found ≡ None → o ≡ None
  found_none None found as_ none = refl
  found_none (Some d) found as_ none = absurd (let e = sym none ∙ as_.1 in cc)

  pub absent_by : (found : Option FoundDb) → IsFoundAs (database_of db (store_of rows)) found → found ≡ None → database_of db st.store ≡ None
  absent_by found as_ absent = ap (database_of db) (sym makes.store) ∙ found_none (database_of db (store_of rows)) found as_ absent

  pub record IsThere (found : FoundDb) : Type 0 where
    pub database : Database
    pub is : database_of db st.store ≡ Some database
    pub kind : database.kind ≡ found.kind

  found_there : (o : Option Database) (found : Option FoundDb) (f : FoundDb) → database_of db st.store ≡ o → IsFoundAs o found → found ≡ Some f → IsThere f
  found_there None found f is as_ there = absurd (let e = sym as_ ∙ there in cc)
  found_there (Some d) found f is as_ there = record { database = d; is = is; kind = ap (λ (x : FoundDb). x.kind) (some_is _ f (sym as_.1 ∙ there)) }

  pub there_by : (found : Option FoundDb) (f : FoundDb) → IsFoundAs (database_of db (store_of rows)) found → found ≡ Some f → IsThere f
  there_by found f as_ there = found_there (database_of db (store_of rows)) found f (ap (database_of db) (sym makes.store)) as_ there

  pub number_by : (found : Option FoundDb) (f : FoundDb) → found ≡ found_in (record_named rows db) → found ≡ Some f → st.numbers db ≡ f.number
  number_by found f exact there = sym (makes.named db) ∙ found_number (record_named rows db) f (sym exact ∙ there)

-- ---- what its database refuses

index_refused : (call : Call) (o : Option Index) → index_refusal call o ≡ index_refuses call (is_some o)
index_refused (Put db key value mode) None = refl
index_refused (Put db key value mode) (Some index) = refl
index_refused (CPutCur cursor value) None = refl
index_refused (CPutCur cursor value) (Some index) = refl
index_refused (CPut cursor key value mode) None = refl
index_refused (CPut cursor key value mode) (Some index) = refl
index_refused call o = refl

some_primary : (numbers : List ℕ → ℕ) (o : Option Index) → is_some (option_map (λ (m : ℕ × Extract). m.0) (option_map (λ (i : Index). (numbers i.primary, i.extract)) o)) ≡ is_some o
some_primary numbers None = refl
some_primary numbers (Some index) = refl

-- the database that was found, by its number and kind, and by the indexes that are known
pub target_refuses : (st : Standing) (call : Call) (f : FoundDb) (d : Database) → database_at f.number st ≡ Some d → d.kind ≡ f.kind →
    or_refusal (index_refusal call d.index) (database_refuses d.kind call) ≡ refuses_in (made_at st.numbers st.store) f call
target_refuses st call f d there kind =
    ap₂ (λ (o : Option Answer) (k : Kind). or_refusal o (database_refuses k call))
    (index_refused call d.index
    ∙ ap (index_refuses call) (sym (some_primary st.numbers d.index) ∙ sym (ap (λ (o : Option Database). is_some (option_map (λ (m : ℕ × Extract). m.0) (index_made st.numbers o))) there))) kind

module _ (rows : Rows) (st : Standing) (makes : MakesStore rows st.last_db st) (session : ℕ) (call : Call) (db : List ℕ) (on : IsOnRecords db call) where
  abbrev pub number : Option Answer
  number = number_refusal st.last_txn (active_of session st.actives)

  late_on : (o : Option Database) → database_of db st.store ≡ o → late_refusal st session call ≡ or_refusal number (or_refusal (access_refusal (is_some o)) (or_refusal None (target_refusal call (option_map (target st.numbers st.store (st.numbers db) None) o))))
  late_on o is = late_is st session call db on
      ∙ ap (λ (x : Option Database). or_refusal number (or_refusal (access_refusal (is_some x)) (or_refusal None (target_refusal call (option_map (target st.numbers st.store (st.numbers db) None) x))))) is

  target_there : (d : Database) → database_of db st.store ≡ Some d → target_of st session call ≡ Some (target st.numbers st.store (st.numbers db) None d)
  target_there d is = target_is st session call db on ∙ ap (option_map (target st.numbers st.store (st.numbers db) None)) is

  pub late_number : is_some number ≡ true → IsLate st session call db (Refused IdsEnded)
  late_number is = (
    late_is st session call db on ∙ ap (λ (n : Option Answer). late_by n st call db) (number_ended st.last_txn (active_of session st.actives) is),
    refl,
  )

  pub late_absent : is_some number ≡ false → (found : Option FoundDb) → IsFoundAs (database_of db (store_of rows)) found → found ≡ None → IsLate st session call db (Refused NoDatabase)
  late_absent none found as_ absent =
      let gone = absent_by rows st makes db found as_ absent in (
        late_on None gone ∙ ap (λ (n : Option Answer). or_refusal n (Some NoDatabase)) (number_is_none number none),
        refl,
      )

  pub late_refuses : is_some number ≡ false → (found : Option FoundDb) (f : FoundDb) → IsFoundAs (database_of db (store_of rows)) found → found ≡ Some f → found ≡ found_in (record_named rows db) → (answer : Answer) →
      refuses_in (made_at st.numbers st.store) f call ≡ Some answer → IsCalm answer → IsLate st session call db (Refused answer)
  late_refuses none found f as_ there exact answer refuses calm =
      let d = there_by rows st makes db found f as_ there in (
        late_on (Some d.database) d.is ∙ ap (λ (n : Option Answer). or_refusal n (target_refusal call (Some (target st.numbers st.store (st.numbers db) None d.database)))) (number_is_none number none)
            ∙ target_refuses st call f d.database (ap (λ (n : ℕ). database_at n st) (sym (number_by rows st makes db found f exact there)) ∙ (known_as rows st makes db d.database d.is).there) d.kind ∙ refuses,
        calm,
      )

  pub late_found : is_some number ≡ false → (found : Option FoundDb) (f : FoundDb) → found ≡ found_in (record_named rows db) → IsFoundAs (database_of db (store_of rows)) found → found ≡ Some f →
      refuses_in (made_at st.numbers st.store) f call ≡ None → IsLate st session call db (Found f)
  late_found none found f exact as_ there refuses = (
    g,
    record {
      late = late_on (Some d.database) d.is ∙ ap (λ (n : Option Answer). or_refusal n (target_refusal call (Some g))) (number_is_none number none)
          ∙ target_refuses st call f d.database (ap (λ (n : ℕ). database_at n st) (sym named_number) ∙ known.there) d.kind ∙ refuses;
      target = target_there d.database d.is;
      over = refl;
      indexes = refl;
      number = named_number;
      kind = d.kind;
      name = known.name;
      stands = refl;
      is = d.is;
      there = known.there;
      named = ap st.numbers known.name;
      above = known.above;
    },
  ) where
    d : IsThere rows st makes db f
    d = there_by rows st makes db found f as_ there

    g : Target
    g = target st.numbers st.store (st.numbers db) None d.database

    known : IsKnownAs st db d.database
    known = known_as rows st makes db d.database d.is

    named_number : st.numbers db ≡ f.number
    named_number = number_by rows st makes db found f exact there

-- ---- what a database refuses is calm

calm_long : (limit : ℕ) (bytes : List ℕ) → IsCalmRefusal (too_long limit bytes)
calm_long limit bytes = by_test (nat_lt limit (length bytes))
  where
    by_test : (b : Bool) → IsCalmRefusal (cond b (Some (TooLong (length bytes))) None)
    by_test true = refl
    by_test false = tt

calm_pair : (kind : Kind) (key value : List ℕ) → IsCalmRefusal (pair_refusal kind key value)
calm_pair kind key value = calm_or (too_long KEY_LIMIT key) (too_long (data_limit kind) value) (calm_long KEY_LIMIT key) (calm_long (data_limit kind) value)

calm_put : (kind : Kind) (mode : PutMode) (db key value : List ℕ) → IsCalmRefusal (kind_refusal (Put db key value mode) kind)
calm_put IsPlain NoDupData db key value = refl
calm_put IsDup NoDupData db key value = tt
calm_put IsPlain Overwrite db key value = tt
calm_put IsDup Overwrite db key value = tt
calm_put IsPlain NoOverwrite db key value = tt
calm_put IsDup NoOverwrite db key value = tt

calm_cursor_put : (kind : Kind) (mode : PutMode) (cursor : ℕ) (key value : List ℕ) → IsCalmRefusal (kind_refusal (CPut cursor key value mode) kind)
calm_cursor_put IsPlain NoDupData cursor key value = refl
calm_cursor_put IsDup NoDupData cursor key value = tt
calm_cursor_put IsPlain Overwrite cursor key value = tt
calm_cursor_put IsDup Overwrite cursor key value = tt
calm_cursor_put IsPlain NoOverwrite cursor key value = tt
calm_cursor_put IsDup NoOverwrite cursor key value = tt

calm_put_here : (kind : Kind) (cursor : ℕ) (value : List ℕ) → IsCalmRefusal (kind_refusal (CPutCur cursor value) kind)
calm_put_here IsPlain cursor value = tt
calm_put_here IsDup cursor value = refl

calm_motion : (motion : Motion) (kind : Kind) → IsCalmRefusal (motion_refusal motion kind)
calm_motion (Key key) kind = calm_long KEY_LIMIT key
calm_motion (InRange key) kind = calm_long KEY_LIMIT key
calm_motion (Both key value) kind = calm_pair kind key value
calm_motion (BothRange key value) kind = calm_pair kind key value
calm_motion motion kind = tt

pub calm_refuses : (kind : Kind) (call : Call) → MayWait call → IsCalmRefusal (database_refuses kind call)
calm_refuses kind (Get name key rmw) is = calm_or (kind_refusal (Get name key rmw) kind) _ tt (calm_long KEY_LIMIT key)
calm_refuses kind (GetBoth name key value rmw) is = calm_or (kind_refusal (GetBoth name key value rmw) kind) _ tt (calm_pair kind key value)
calm_refuses kind (Put name key value mode) is = calm_or (kind_refusal (Put name key value mode) kind) _ (calm_put kind mode name key value) (calm_pair kind key value)
calm_refuses kind (Delete name key) is = calm_or (kind_refusal (Delete name key) kind) _ tt (calm_long KEY_LIMIT key)
calm_refuses kind (Count cursor) is = tt
calm_refuses kind (Cur cursor motion rmw) is = calm_or (kind_refusal (Cur cursor motion rmw) kind) _ tt (calm_motion motion kind)
calm_refuses kind (CPutCur cursor value) is = calm_or (kind_refusal (CPutCur cursor value) kind) _ (calm_put_here kind cursor value) (calm_long (data_limit kind) value)
calm_refuses kind (CDel cursor) is = tt
calm_refuses kind (CPut cursor key value mode) is = calm_or (kind_refusal (CPut cursor key value mode) kind) _ (calm_cursor_put kind mode cursor key value) (calm_pair kind key value)
calm_refuses kind call is = absurd is

calm_index : (call : Call) (is_index : Bool) → IsCalmRefusal (index_refuses call is_index)
calm_index (Put db key value mode) true = refl
calm_index (Put db key value mode) false = tt
calm_index (CPutCur cursor value) true = refl
calm_index (CPutCur cursor value) false = tt
calm_index (CPut cursor key value mode) true = refl
calm_index (CPut cursor key value mode) false = tt
calm_index call is_index = tt

pub calm_in : (made : Made) (f : FoundDb) (call : Call) → MayWait call → IsCalmRefusal (refuses_in made f call)
calm_in made f call is = calm_or (index_refuses call (is_some (primary_in made f.number))) (database_refuses f.kind call) (calm_index call (is_some (primary_in made f.number))) (calm_refuses f.kind call is)

-- a call on the records of a database by its name is one on records, and so is one at a cursor
pub may_wait : (call : Call) (db : List ℕ) → IsOnRecords db call → MayWait call
may_wait (Get name key rmw) db on = tt
may_wait (GetBoth name key value rmw) db on = tt
may_wait (Put name key value mode) db on = tt
may_wait (Delete name key) db on = tt
may_wait call db on = absurd on

pub may_wait_at : (call : Call) (cursor : ℕ) → IsAtCursor cursor call → MayWait call
may_wait_at (Count n) cursor at = tt
may_wait_at (Cur n motion rmw) cursor at = tt
may_wait_at (CPutCur n value) cursor at = tt
may_wait_at (CDel n) cursor at = tt
may_wait_at (CPut n key value mode) cursor at = tt
may_wait_at call cursor at = absurd at
