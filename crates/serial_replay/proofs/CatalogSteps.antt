-- Changes of the catalog: a database that is in use stays as it is.
use Rattle.std.proofs.Common.{◌≡◌, ◌≤◌, ◌+◌, ◌⊎◌, inl, inr, ℕ, ◌==◌, Bool, true, false, cond, not, List, [], ◌∷◌, map, filter, Option, None, Some, refl, ap, sym, ◌∙◌, subst, ⊎_elim, arith, Ordering, Less, Equal, Greater, is_lt, is_gt, is_eq}
use Rattle.std.specs.List.{AllByRecursion, list_any}
use Rattle.std.specs.Option.{option_map, option_map_or}
use Rattle.std.proofs.lemmas.Bool.{cases_Bool, cond-true, cond-false, both_ways}
use Rattle.je_order.specs.Order.{bytes_cmp, is_same_bytes}
use Rattle.je_order.specs.declared.name.Name.{Name}
use Rattle.je_order.specs.declared.txn_id.TxnId.{TxnId}
use Rattle.lock_mode.specs.Modes.{can_be_held}
use Rattle.lock_table.specs.declared.record_id.RecordId.{RecordId}
use Rattle.lock_table.specs.declared.lock.Lock.{Lock}
use Rattle.store_model.specs.declared.extract.Extract.{Extract}
use Rattle.store_model.specs.declared.kind.Kind.{Kind}
use Rattle.store_model.specs.declared.kind.Kind.TheVariants.{Plain, Dup}
use Rattle.store_model.specs.declared.isolation.Isolation.{Isolation}
use Rattle.store_model.specs.declared.store.Store.{Store}
use Rattle.store_model.specs.declared.store.Database.{Database}
use Rattle.store_model.specs.declared.index.Index.{Index}
use Rattle.store_model.specs.declared.change.Change.TheVariants.{Remove, Empty}
use Rattle.store_model.specs.Store.{IsStore, database_of, new_database, with_pairs, with_name, with_primary, index_renamed, databases_with, databases_without, databases_renamed, changed}
use Rattle.store_model.specs.Indexes.{is_index_of}
use Rattle.store_model.specs.Reads.{at_name}
use Rattle.je_answers.specs.Standing.{Standing, place_at, database_at, with_number, numbered}
use Rattle.je_answers.specs.Locking.{IsUnused}
use Rattle.standing_laws.specs.Right.{AreSound}
use Rattle.standing_laws.proofs.Among.{IsAmong, among_map, mapped_among, among_append, among_first, among_second, among_filter, filter_among, any_from, found_is}
use Rattle.serial_replay.specs.Replay.{AnsweredCall}
use Rattle.serial_replay.proofs.Rising.{none_passes}
use Rattle.serial_replay.proofs.Holding.{Holds}
use Rattle.serial_replay.proofs.Stores.{Over, over_by, Base, Numbers, base_of, based, number_of_found, base_at, pairs_at, same_bytes, bytes_exact, IsFit, AreNumbered, numbered_mapped, one_database, named_there, IsOver, AreOver}
use Rattle.serial_replay.proofs.Upkeep.{IsUp, AreUp, up_from}
use Rattle.serial_replay.proofs.IndexBases.{index_at}
use Rattle.serial_replay.proofs.Keeping.{IsUsedBy, occupied_at, IsStable, IsWell, IsKept, own_same, fits_kept, keeps_kept, IsKnown}

-- ---- a step that leaves each database in use as it is, and makes an index or none

pub record IsCatalogStep (st new : Standing) (made : Option Index) : Type 0 where
  pub well : IsWell new
  pub last_txn : st.last_txn ≤ new.last_txn
  pub actives : new.actives ≡ st.actives
  pub own : (t : ℕ) → new.own t ≡ st.own t
  pub places : (session : ℕ) → new.places session ≡ st.places session
  pub locks : (r : RecordId) → new.locks.at r ≡ st.locks.at r
  pub same : (t : TxnId) (n : ℕ) (b : Base) → IsUsedBy st t n → base_at n st ≡ Some b → (base_at n new ≡ Some b) × (pairs_at n new ≡ pairs_at n st)
  pub fresh : (t : TxnId) (q n : ℕ) (b : Base) (e : Extract) → IsUsedBy st t q → base_at n new ≡ Some b → b.2 ≡ Some (q, e) → (c : Base) × (base_at n st ≡ Some c) × (c.2 ≡ Some (q, e))
  pub pairs : (m : ℕ) (b : Base) → base_at m new ≡ Some b → m ≤ st.last_db → pairs_at m new ≡ pairs_at m st
  pub indexes : (n q : ℕ) (e : Extract) (b : Base) → base_at n new ≡ Some b → b.2 ≡ Some (q, e) → ((c : Base) × (base_at n st ≡ Some c) × (c.2 ≡ Some (q, e))) ⊎ ((n ≡ st.last_db + 1) × (over_by new.numbers made ≡ Some (q, e)))

-- the number of a database is allocated
pub low_number : (st : Standing) (n : ℕ) (b : Base) → IsWell st → base_at n st ≡ Some b → n ≤ st.last_db
low_number st n b well e =
    let i = based st.numbers (database_at n st) b e in
    subst (λ (m : ℕ). m ≤ st.last_db) (number_of_found st.numbers n st.store i.database i.is)
    (well.numbers.allocated i.database (found_is (λ (x : Database). st.numbers x.name == n) st.store.databases i.database i.is).0)

-- the index that is made, if one is, has the pairs of its primary's records
abbrev pub IsMadeUp : Standing → Standing → Option Index → Type 0
IsMadeUp st new made = (q : ℕ) (e : Extract) (b : Base) → base_at (st.last_db + 1) new ≡ Some b → b.2 ≡ Some (q, e) → over_by new.numbers made ≡ Some (q, e) → IsUp new (st.last_db + 1) q e

-- none is made
pub none_up : (st new : Standing) → IsMadeUp st new None
none_up st new q e b there is made = absurd (cc (made))

up_step : (st new : Standing) (made : Option Index) → IsWell st → IsCatalogStep st new made → AreUp st → IsMadeUp st new made → AreUp new
up_step st new made well step up its n q e b there is = by (step.indexes n q e b there is)
  where
    by : ((c : Base) × (base_at n st ≡ Some c) × (c.2 ≡ Some (q, e))) ⊎ ((n ≡ st.last_db + 1) × (over_by new.numbers made ≡ Some (q, e))) → IsUp new n q e
    by (inl c) =
        let f = index_at st n q e c.0 well c.1 c.2 in
        let g = index_at new n q e b step.well there is in
        up_from st new n q e (step.pairs n b there (low_number st n c.0 well c.1)) (step.pairs q g.base g.primary (low_number st q f.base well f.primary)) (λ t. inl (step.own t)) (up n q e c.0 c.1 c.2)
    by (inr k) = subst (λ (m : ℕ). IsUp new m q e) (sym k.0) (its q e b (ap (λ (m : ℕ). base_at m new) (sym k.0) ∙ there) is k.1)

all_each : {X : Type 0} (P Q : X → Type 0) → ((x : X) → P x → Q x) → (xs : List X) → AllByRecursion P xs → AllByRecursion Q xs
all_each P Q f [] h = tt
all_each P Q f (x ∷ xs) h = (f x h.0, all_each P Q f xs h.1)

module _ (st new : Standing) (made : Option Index) (told : List AnsweredCall) (sound : AreSound st) (step : IsCatalogStep st new made) where
  stable : IsStable st new
  stable = record { stays = λ t n b used e. (step.same t n b used e).0; fresh = λ t q n b e used h k. step.fresh t q n b e used h k }

  kept : (t : TxnId) (level : Isolation) → IsKept t level st new
  kept t level = record {
    locks = λ sort s r h. subst (λ (q : List Lock × List Lock). Holds sort t q.0) (sym (step.locks r)) h;
    alike = λ n b x used e. inl (ap (at_name b.1 x) (sym (step.same t n b used e).1));
    occupied = λ ser n b x used e o. inl (now n b x (step.same t n b used e).1 o);
    stays = λ n b x used e h o. still n b x (step.same t n b used e).1 o;
  }
    where
      now : (n : ℕ) (b : Base) (x : Name) → pairs_at n new ≡ pairs_at n st → occupied_at new n b.1 x → occupied_at st n b.1 x
      now n b x e (inl r) = inl (record { pair = r.pair; there = subst (IsAmong r.pair) e r.there; named = r.named })
      now n b x e (inr w) = inr (record { txn = w.txn; change = w.change; there = subst (IsAmong (n, w.change)) (step.own w.txn) w.there; named = w.named })

      still : (n : ℕ) (b : Base) (x : Name) → pairs_at n new ≡ pairs_at n st → occupied_at st n b.1 x → occupied_at new n b.1 x
      still n b x e (inl r) = inl (record { pair = r.pair; there = subst (IsAmong r.pair) (sym e) r.there; named = r.named })
      still n b x e (inr w) = inr (record { txn = w.txn; change = w.change; there = subst (IsAmong (n, w.change)) (sym (step.own w.txn)) w.there; named = w.named })

  pub known_catalog : IsMadeUp st new made → IsKnown st told → IsKnown new told
  known_catalog its known = record {
    ground = record {
      well = step.well;
      up = up_step st new made known.ground.well step known.ground.up its;
      fits = λ t. subst (AllByRecursion (IsFit new)) (sym (step.own t)) (fits_kept st new t sound (known.ground.fits t) stable);
      last = all_each (λ (c : AnsweredCall). c.txn.0 ≤ st.last_txn) (λ c. c.txn.0 ≤ new.last_txn) (λ c h. let k = step.last_txn in omega (arith, h, k)) told known.ground.last;
    };
    each = λ b k keep. keeps_kept b.txn b.level b.session b.is_auto st new told told stable known.ground.well step.well (kept b.txn b.level) (λ own_call cursor. ap (place_at cursor) (step.places b.session))
        (λ c i. own_same st new b.txn sound (known.ground.fits b.txn.0) stable c i) (step.own b.txn.0) refl (known.each b (subst (IsAmong b) step.actives k) keep);
  }

-- ---- databases

with_is : (new d : Database) (ds : List Database) → IsAmong d (databases_with new ds) → (new ≡ d) ⊎ IsAmong d ds
with_is new d ds a = by (among_append (filter (λ e. is_lt (bytes_cmp e.name new.name)) ds) (new ∷ filter (λ e. is_gt (bytes_cmp e.name new.name)) ds) d a)
  where
    by : IsAmong d (filter (λ e. is_lt (bytes_cmp e.name new.name)) ds) ⊎ IsAmong d (new ∷ filter (λ e. is_gt (bytes_cmp e.name new.name)) ds) → (new ≡ d) ⊎ IsAmong d ds
    by (inl k) = inr (filter_among (λ (e : Database). is_lt (bytes_cmp e.name new.name)) ds d k).0
    by (inr (inl e)) = inl e
    by (inr (inr k)) = inr (filter_among (λ (e : Database). is_gt (bytes_cmp e.name new.name)) ds d k).0

pub with_it : (new : Database) (ds : List Database) → IsAmong new (databases_with new ds)
with_it new ds = among_second (filter (λ e. is_lt (bytes_cmp e.name new.name)) ds) (new ∷ filter (λ e. is_gt (bytes_cmp e.name new.name)) ds) new (inl refl)

with_has : (new d : Database) (ds : List Database) → IsAmong d ds → (d.name ≡ new.name → ⊥) → IsAmong d (databases_with new ds)
with_has new d ds a other = by (bytes_cmp d.name new.name) refl
  where
    low : Database → Bool
    low e = is_lt (bytes_cmp e.name new.name)

    high : Database → Bool
    high e = is_gt (bytes_cmp e.name new.name)

    by : (o : Ordering) → bytes_cmp d.name new.name ≡ o → IsAmong d (databases_with new ds)
    by Less e = among_first (filter low ds) (new ∷ filter high ds) d (among_filter low ds d a (ap is_lt e))
    by Equal e = absurd (other (bytes_exact d.name new.name (ap is_eq e)))
    by Greater e = among_second (filter low ds) (new ∷ filter high ds) d (inr (among_filter high ds d a (ap is_gt e)))

not_there : (store : Store) (name : List ℕ) (d : Database) → database_of name store ≡ None → IsAmong d store.databases → d.name ≡ name → ⊥
not_there store name d none there is = none_passes (λ (e : Database). is_same_bytes e.name name) store.databases d none there (ap (λ (m : List ℕ). is_same_bytes m name) is ∙ same_bytes name)

other_bytes : (a b : List ℕ) → (a ≡ b → ⊥) → is_same_bytes a b ≡ false
other_bytes a b other = ⊎_elim (λ e. absurd (other (bytes_exact a b e))) (λ e. e) (cases_Bool (is_same_bytes a b))

number_other : (name : List ℕ) (number : ℕ) (numbers : Numbers) (other : List ℕ) → (other ≡ name → ⊥) → with_number name number numbers other ≡ numbers other
number_other name number numbers other apart = cond-false (is_same_bytes other name) number (numbers other) (other_bytes other name apart)

number_its : (name : List ℕ) (number : ℕ) (numbers : Numbers) (other : List ℕ) → other ≡ name → with_number name number numbers other ≡ number
number_its name number numbers other e = cond-true (is_same_bytes other name) number (numbers other) (ap (λ (m : List ℕ). is_same_bytes m name) e ∙ same_bytes name)

-- a used database has another number than one that nobody uses
pub used_other : (st : Standing) (t : TxnId) (n m : ℕ) → IsUsedBy st t n → IsUnused st m → n ≡ m → ⊥
used_other st t n m used unused e = nothing (subst (λ (q : List Lock × List Lock). Holds can_be_held t q.0)
    (ap (λ (k : ℕ). st.locks.at (record { db = k; at = used.its.at })) (used.there ∙ e) ∙ unused.locks used.its.at) used.held)
  where
    nothing : Holds can_be_held t [] → ⊥
    nothing h = let k = h.held in absurd (cc (k))

-- ---- each change

-- an index that is made
abbrev pub IsOfNew : Numbers → Option Index → ℕ → Type 0
IsOfNew numbers o q = (i : Index) × (o ≡ Some i) × (q ≡ numbers i.primary)

-- what a change of the catalog does to databases, where it makes an index or none: those that stay are there; each index was one before, or is the one that is
-- made; and each database had its records before, or has a new number
pub record IsDone (numbers : Numbers) (last : ℕ) (store : Store) (new_numbers : Numbers) (new_last : ℕ) (new_store : Store) (stays : Database → Type 0) (made : Option Index) : Type 0 where
  pub numbered : AreNumbered new_numbers new_last new_store.databases
  pub over : AreOver new_store
  pub there : (d : Database) → IsAmong d store.databases → stays d
      → (e : Database) × IsAmong e new_store.databases × (new_numbers e.name ≡ numbers d.name) × (base_of new_numbers (Some e) ≡ base_of numbers (Some d)) × (e.pairs ≡ d.pairs)
  pub back : (e : Database) (o : ℕ × Extract) → IsAmong e new_store.databases → over_by new_numbers e.index ≡ Some o
      → ((d : Database) × IsAmong d store.databases × (new_numbers e.name ≡ numbers d.name) × (over_by numbers d.index ≡ Some o)) ⊎ IsOfNew numbers made o.0
  pub old : (e : Database) → IsAmong e new_store.databases
      → ((d : Database) × IsAmong d store.databases × (new_numbers e.name ≡ numbers d.name) × (over_by new_numbers e.index ≡ over_by numbers d.index) × (e.pairs ≡ d.pairs))
      ⊎ ((new_numbers e.name ≡ last + 1) × (over_by new_numbers e.index ≡ over_by new_numbers made))

-- what an index is of stays, where its primary's number does
over_stays : (numbers now : Numbers) (d : Database) → ((i : Index) → d.index ≡ Some i → now i.primary ≡ numbers i.primary) → over_by now d.index ≡ over_by numbers d.index
over_stays numbers now d same = by d.index refl
  where
    by : (o : Option Index) → d.index ≡ o → over_by now d.index ≡ over_by numbers d.index
    by None e = ap (over_by now) e ∙ sym (ap (over_by numbers) e)
    by (Some i) e = ap (over_by now) e ∙ (ap (λ (m : ℕ). Some (m, i.extract)) (same i e) ∙ sym (ap (over_by numbers) e))

base_stays : (numbers now : Numbers) (d : Database) → ((i : Index) → d.index ≡ Some i → now i.primary ≡ numbers i.primary) → base_of now (Some d) ≡ base_of numbers (Some d)
base_stays numbers now d same = ap (λ (v : Over). Some (d.name, d.kind, v)) (over_stays numbers now d same)

-- a primary is there
primary_there : (store : Store) (d : Database) (i : Index) → AreOver store → IsAmong d store.databases → d.index ≡ Some i → (p : Database) × IsAmong p store.databases × (p.name ≡ i.primary) × (p.kind ≡ Plain) × (p.index ≡ None)
primary_there store d i over a e =
    let o = over d i a e in
    let f = found_is (λ (x : Database). is_same_bytes x.name i.primary) store.databases o.1.0 o.1.1 in
    (o.1.0, f.0, bytes_exact o.1.0.name i.primary f.1, o.1.2, o.1.3)

-- it is found in another store where it is
over_from : (store : Store) (d p : Database) (i : Index) → IsStore store → d.kind ≡ Dup → IsAmong p store.databases → p.name ≡ i.primary → p.kind ≡ Plain → p.index ≡ None → IsOver store d i
over_from store d p i right kind a name plain none = (kind, (p, subst (λ (n : List ℕ). database_of n store ≡ Some p) name (named_there store p right a), plain, none))

-- a database that has no indexes is no primary
not_primary : (store : Store) (db : List ℕ) (d : Database) (i : Index) → list_any (is_index_of db) store.databases ≡ false → IsAmong d store.databases → d.index ≡ Some i → i.primary ≡ db → ⊥
not_primary store db d i none a e is = both_ways (list_any (is_index_of db) store.databases) none
    (any_from (is_index_of db) store.databases d a (ap (λ (o : Option Index). option_map_or (λ (x : Index). is_same_bytes x.primary db) o false) e ∙ (ap (λ (n : List ℕ). is_same_bytes n db) is ∙ same_bytes db)))

none_some : {X : Type 0} (P : Type 0) (x : X) → None ≡ Some x → P
none_some P x e = absurd (cc (e))

pub made_done : (numbers : Numbers) (last : ℕ) (store : Store) (db : List ℕ) (kind : Kind) (o : Option Index) → AreNumbered numbers last store.databases → AreOver store → database_of db store ≡ None
    → IsStore (record { databases = databases_with (new_database db kind o) store.databases }) → ((i : Index) → o ≡ Some i → (kind ≡ Dup) × ((p : Database) × IsAmong p store.databases × (p.name ≡ i.primary) × (p.kind ≡ Plain) × (p.index ≡ None)))
    → IsDone numbers last store (with_number db (last + 1) numbers) (last + 1) (record { databases = databases_with (new_database db kind o) store.databases }) (λ d. Unit {0}) o
made_done numbers last store db kind o k over none right fit = record {
  numbered = record {
    allocated = λ d a. by_allocated d (with_is (new_database db kind o) d store.databases a);
    apart = λ d e a b h. by_apart d e (with_is (new_database db kind o) d store.databases a) (with_is (new_database db kind o) e store.databases b) h;
  };
  over = λ d i a is. by_over d i (with_is (new_database db kind o) d store.databases a) is;
  there = λ d a t. (d, with_has (new_database db kind o) d store.databases a (not_there store db d none a), old_number d a, base_stays numbers (with_number db (last + 1) numbers) d (old_primary d a), refl);
  back = λ e p a h. by_back e p (with_is (new_database db kind o) e store.databases a) h;
  old = λ e a. by_old e (with_is (new_database db kind o) e store.databases a);
}
  where
    old_number : (d : Database) → IsAmong d store.databases → with_number db (last + 1) numbers d.name ≡ numbers d.name
    old_number d a = number_other db (last + 1) numbers d.name (not_there store db d none a)

    old_primary : (d : Database) → IsAmong d store.databases → (i : Index) → d.index ≡ Some i → with_number db (last + 1) numbers i.primary ≡ numbers i.primary
    old_primary d a i e = let p = primary_there store d i over a e in ap (with_number db (last + 1) numbers) (sym p.2) ∙ (old_number p.0 p.1 ∙ ap numbers p.2)

    new_number : (d : Database) → new_database db kind o ≡ d → with_number db (last + 1) numbers d.name ≡ last + 1
    new_number d e = number_its db (last + 1) numbers d.name (sym (ap (λ (x : Database). x.name) e))

    by_old : (e : Database) → (new_database db kind o ≡ e) ⊎ IsAmong e store.databases
        → ((d : Database) × IsAmong d store.databases × (with_number db (last + 1) numbers e.name ≡ numbers d.name) × (over_by (with_number db (last + 1) numbers) e.index ≡ over_by numbers d.index) × (e.pairs ≡ d.pairs))
        ⊎ ((with_number db (last + 1) numbers e.name ≡ last + 1) × (over_by (with_number db (last + 1) numbers) e.index ≡ over_by (with_number db (last + 1) numbers) o))
    by_old e (inl is) = inr (new_number e is, ap (λ (x : Database). over_by (with_number db (last + 1) numbers) x.index) (sym is))
    by_old e (inr a) = inl (e, a, old_number e a, over_stays numbers (with_number db (last + 1) numbers) e (old_primary e a), refl)

    by_allocated : (d : Database) → (new_database db kind o ≡ d) ⊎ IsAmong d store.databases → with_number db (last + 1) numbers d.name ≤ last + 1
    by_allocated d (inl e) = subst (λ (n : ℕ). n ≤ last + 1) (sym (new_number d e)) (omega arith)
    by_allocated d (inr a) = subst (λ (n : ℕ). n ≤ last + 1) (sym (old_number d a)) (let h = k.allocated d a in omega (arith, h))

    by_apart : (d e : Database) → (new_database db kind o ≡ d) ⊎ IsAmong d store.databases → (new_database db kind o ≡ e) ⊎ IsAmong e store.databases → with_number db (last + 1) numbers d.name ≡ with_number db (last + 1) numbers e.name → d.name ≡ e.name
    by_apart d e (inl i) (inl j) h = ap (λ (x : Database). x.name) (sym i ∙ j)
    by_apart d e (inl i) (inr b) h = let m = sym (new_number d i) ∙ (h ∙ old_number e b) in let n = k.allocated e b in absurd (omega (arith, m, n))
    by_apart d e (inr a) (inl j) h = let m = sym (old_number d a) ∙ (h ∙ new_number e j) in let n = k.allocated d a in absurd (omega (arith, m, n))
    by_apart d e (inr a) (inr b) h = k.apart d e a b (sym (old_number d a) ∙ (h ∙ old_number e b))

    by_over : (d : Database) (i : Index) → (new_database db kind o ≡ d) ⊎ IsAmong d store.databases → d.index ≡ Some i → IsOver (record { databases = databases_with (new_database db kind o) store.databases }) d i
    by_over d i (inl e) is =
        let p = fit i (ap (λ (x : Database). x.index) e ∙ is) in
        over_from (record { databases = databases_with (new_database db kind o) store.databases }) d p.1.0 i right (ap (λ (x : Database). x.kind) (sym e) ∙ p.0)
        (with_has (new_database db kind o) p.1.0 store.databases p.1.1 (not_there store db p.1.0 none p.1.1)) p.1.2 p.1.3 p.1.4
    by_over d i (inr a) is =
        let p = primary_there store d i over a is in
        over_from (record { databases = databases_with (new_database db kind o) store.databases }) d p.0 i right (over d i a is).0
        (with_has (new_database db kind o) p.0 store.databases p.1 (not_there store db p.0 none p.1)) p.2 p.3 p.4

    by_back : (e : Database) (p : ℕ × Extract) → (new_database db kind o ≡ e) ⊎ IsAmong e store.databases → over_by (with_number db (last + 1) numbers) e.index ≡ Some p
        → ((d : Database) × IsAmong d store.databases × (with_number db (last + 1) numbers e.name ≡ numbers d.name) × (over_by numbers d.index ≡ Some p)) ⊎ IsOfNew numbers o p.0
    by_back e p (inr a) h = inl (e, a, old_number e a, sym (over_stays numbers (with_number db (last + 1) numbers) e (old_primary e a)) ∙ h)
    by_back e p (inl is) h = inr (of_new o refl (ap (λ (x : Database). over_by (with_number db (last + 1) numbers) x.index) is ∙ h))
      where
        of_new : (v : Option Index) → o ≡ v → over_by (with_number db (last + 1) numbers) o ≡ Some p → IsOfNew numbers o p.0
        of_new None f m = none_some (IsOfNew numbers o p.0) p (sym (ap (over_by (with_number db (last + 1) numbers)) f) ∙ m)
        of_new (Some i) f m =
            let w = (fit i f).1 in
            (i, f, sym (first_is (with_number db (last + 1) numbers i.primary, i.extract) p (sym (ap (over_by (with_number db (last + 1) numbers)) f) ∙ m)) ∙ (ap (with_number db (last + 1) numbers) (sym w.2) ∙ (old_number w.0 w.1 ∙ ap numbers w.2)))
          where
            first_is : (x y : ℕ × Extract) → Some x ≡ Some y → x.0 ≡ y.0
            first_is x y n = ap (λ (z : ℕ × Extract). z.0) (all_is x y n)
              where
                all_is : (u v : ℕ × Extract) → Some u ≡ Some v → u ≡ v
                all_is u v l = cc (l)

not_true : (b : Bool) → not b ≡ true → b ≡ false
not_true true h = absurd (cc (h))
not_true false h = refl

-- one that is left when another one goes has another name
left_is : (name : List ℕ) (d : Database) (ds : List Database) → IsAmong d (databases_without name ds) → IsAmong d ds × (d.name ≡ name → ⊥)
left_is name d ds a =
    let f = filter_among (λ (e : Database). not (is_same_bytes e.name name)) ds d a in
    (f.0, λ e. both_ways (is_same_bytes d.name name) (not_true (is_same_bytes d.name name) f.1) (ap (λ (m : List ℕ). is_same_bytes m name) e ∙ same_bytes name))

left_has : (name : List ℕ) (d : Database) (ds : List Database) → IsAmong d ds → (d.name ≡ name → ⊥) → IsAmong d (databases_without name ds)
left_has name d ds a other = among_filter (λ (e : Database). not (is_same_bytes e.name name)) ds d a (ap not (other_bytes d.name name other))

pub removed_done : (numbers : Numbers) (last : ℕ) (store : Store) (db : List ℕ) → AreNumbered numbers last store.databases → AreOver store → list_any (is_index_of db) store.databases ≡ false → IsStore (changed (Remove db) store)
    → IsDone numbers last store (numbered (Remove db) last numbers) (last + 0) (changed (Remove db) store) (λ d. d.name ≡ db → ⊥) None
removed_done numbers last store db k over alone right = record {
  numbered = record {
    allocated = λ d a. let f = left_is db d store.databases a in subst (λ (n : ℕ). n ≤ last + 0) (sym (number_other db 0 numbers d.name f.1)) (let h = k.allocated d f.0 in omega (arith, h));
    apart = λ d e a b h.
        let f = left_is db d store.databases a in
        let g = left_is db e store.databases b in
        k.apart d e f.0 g.0 (sym (number_other db 0 numbers d.name f.1) ∙ (h ∙ number_other db 0 numbers e.name g.1));
  };
  over = λ d i a is.
      let f = left_is db d store.databases a in
      let p = primary_there store d i over f.0 is in
      over_from (changed (Remove db) store) d p.0 i right (over d i f.0 is).0 (left_has db p.0 store.databases p.1 (λ e. not_primary store db d i alone f.0 is (sym p.2 ∙ e))) p.2 p.3 p.4;
  there = λ d a other. (d, left_has db d store.databases a other, number_other db 0 numbers d.name other, base_stays numbers (with_number db 0 numbers) d (old_primary d a), refl);
  back = λ e p a h. let f = left_is db e store.databases a in
      inl (e, f.0, number_other db 0 numbers e.name f.1, sym (over_stays numbers (with_number db 0 numbers) e (old_primary e f.0)) ∙ h);
  old = λ e a. let f = left_is db e store.databases a in
      inl (e, f.0, number_other db 0 numbers e.name f.1, over_stays numbers (with_number db 0 numbers) e (old_primary e f.0), refl);
}
  where
    old_primary : (d : Database) → IsAmong d store.databases → (i : Index) → d.index ≡ Some i → with_number db 0 numbers i.primary ≡ numbers i.primary
    old_primary d a i e = number_other db 0 numbers i.primary (λ is. not_primary store db d i alone a e is)

-- ---- a database under another name

pub renamed_done : (numbers : Numbers) (last : ℕ) (store : Store) (db to : List ℕ) (old : Database) → AreNumbered numbers last store.databases → AreOver store → IsStore store → database_of db store ≡ Some old → database_of to store ≡ None
    → IsStore (record { databases = databases_renamed (Some old) to store.databases })
    → IsDone numbers last store (with_number to (numbers db) (with_number db 0 numbers)) (last + 0) (record { databases = databases_renamed (Some old) to store.databases }) (λ d. d.name ≡ db → ⊥) None
renamed_done numbers last store db to old k over right_old found none right = record {
  numbered = numbered_mapped (with_number to (numbers db) (with_number db 0 numbers)) (last + 0) (with_primary old.name to) (databases_with (with_name old to) (databases_without old.name store.databases)) (λ d. refl) (record {
    allocated = λ d a. by_allocated d (with_is (with_name old to) d (databases_without old.name store.databases) a);
    apart = λ d e a b h. by_apart d e (with_is (with_name old to) d (databases_without old.name store.databases) a) (with_is (with_name old to) e (databases_without old.name store.databases) b) h;
  });
  over = λ e i a is. by_over e i (mapped_among (with_primary old.name to) (databases_with (with_name old to) (databases_without old.name store.databases)) e a) is;
  there = λ d a other. (
    with_primary old.name to d,
    among_map (with_primary old.name to) (databases_with (with_name old to) (databases_without old.name store.databases)) d
        (with_has (with_name old to) d (databases_without old.name store.databases) (left_has old.name d store.databases a (λ e. other (e ∙ its.1))) (not_there store to d none a)),
    old_number d a other,
    ap (λ (v : Over). Some (d.name, d.kind, v)) (renamed_over d a),
    refl,
  );
  back = λ e p a h. by_back e p (mapped_among (with_primary old.name to) (databases_with (with_name old to) (databases_without old.name store.databases)) e a) h;
  old = λ e a. by_old e (mapped_among (with_primary old.name to) (databases_with (with_name old to) (databases_without old.name store.databases)) e a);
}
  where
    its : IsAmong old store.databases × (old.name ≡ db)
    its = let f = found_is (λ (e : Database). is_same_bytes e.name db) store.databases old found in (f.0, bytes_exact old.name db f.1)

    old_number : (d : Database) → IsAmong d store.databases → (d.name ≡ db → ⊥) → with_number to (numbers db) (with_number db 0 numbers) d.name ≡ numbers d.name
    old_number d a other = number_other to (numbers db) (with_number db 0 numbers) d.name (not_there store to d none a) ∙ number_other db 0 numbers d.name other

    to_number : with_number to (numbers db) (with_number db 0 numbers) to ≡ numbers old.name
    to_number = number_its to (numbers db) (with_number db 0 numbers) to refl ∙ ap numbers (sym its.1)

    new_number : (d : Database) → with_name old to ≡ d → with_number to (numbers db) (with_number db 0 numbers) d.name ≡ numbers old.name
    new_number d e = number_its to (numbers db) (with_number db 0 numbers) d.name (sym (ap (λ (x : Database). x.name) e)) ∙ ap numbers (sym its.1)

    left : (d : Database) → IsAmong d (databases_without old.name store.databases) → IsAmong d store.databases × (d.name ≡ db → ⊥)
    left d a = let f = left_is old.name d store.databases a in (f.0, λ e. f.1 (e ∙ sym its.1))

    by_allocated : (d : Database) → (with_name old to ≡ d) ⊎ IsAmong d (databases_without old.name store.databases) → with_number to (numbers db) (with_number db 0 numbers) d.name ≤ last + 0
    by_allocated d (inl e) = subst (λ (n : ℕ). n ≤ last + 0) (sym (new_number d e)) (let h = k.allocated old its.0 in omega (arith, h))
    by_allocated d (inr a) = let f = left d a in subst (λ (n : ℕ). n ≤ last + 0) (sym (old_number d f.0 f.1)) (let h = k.allocated d f.0 in omega (arith, h))

    by_apart : (d e : Database) → (with_name old to ≡ d) ⊎ IsAmong d (databases_without old.name store.databases) → (with_name old to ≡ e) ⊎ IsAmong e (databases_without old.name store.databases)
        → with_number to (numbers db) (with_number db 0 numbers) d.name ≡ with_number to (numbers db) (with_number db 0 numbers) e.name → d.name ≡ e.name
    by_apart d e (inl i) (inl j) h = ap (λ (x : Database). x.name) (sym i ∙ j)
    by_apart d e (inl i) (inr b) h = let f = left e b in absurd (f.1 (sym (k.apart old e its.0 f.0 (sym (new_number d i) ∙ (h ∙ old_number e f.0 f.1))) ∙ its.1))
    by_apart d e (inr a) (inl j) h = let f = left d a in absurd (f.1 (k.apart d old f.0 its.0 (sym (old_number d f.0 f.1) ∙ (h ∙ new_number e j)) ∙ its.1))
    by_apart d e (inr a) (inr b) h = let f = left d a in let g = left e b in k.apart d e f.0 g.0 (sym (old_number d f.0 f.1) ∙ (h ∙ old_number e g.0 g.1))

    -- what an index is of stays, by its number
    renamed_over : (d : Database) → IsAmong d store.databases → over_by (with_number to (numbers db) (with_number db 0 numbers)) (option_map (index_renamed old.name to) d.index) ≡ over_by numbers d.index
    renamed_over d a = by d.index refl
      where
        number_is : (i : Index) → d.index ≡ Some i → (b : Bool) → is_same_bytes i.primary old.name ≡ b → with_number to (numbers db) (with_number db 0 numbers) (cond (is_same_bytes i.primary old.name) to i.primary) ≡ numbers i.primary
        number_is i e true f = ap (with_number to (numbers db) (with_number db 0 numbers)) (cond-true (is_same_bytes i.primary old.name) to i.primary f) ∙ (to_number ∙ ap numbers (sym (bytes_exact i.primary old.name f)))
        number_is i e false f =
            let p = primary_there store d i over a e in
            let other : p.0.name ≡ db → ⊥ = λ h. both_ways (is_same_bytes i.primary old.name) f (ap (λ (n : List ℕ). is_same_bytes n old.name) (sym p.2 ∙ (h ∙ sym its.1)) ∙ same_bytes old.name) in
            ap (with_number to (numbers db) (with_number db 0 numbers)) (cond-false (is_same_bytes i.primary old.name) to i.primary f ∙ sym p.2) ∙ (old_number p.0 p.1 other ∙ ap numbers p.2)

        by : (o : Option Index) → d.index ≡ o → over_by (with_number to (numbers db) (with_number db 0 numbers)) (option_map (index_renamed old.name to) d.index) ≡ over_by numbers d.index
        by None e = ap (λ (o : Option Index). over_by (with_number to (numbers db) (with_number db 0 numbers)) (option_map (index_renamed old.name to) o)) e ∙ sym (ap (over_by numbers) e)
        by (Some i) e =
            ap (λ (o : Option Index). over_by (with_number to (numbers db) (with_number db 0 numbers)) (option_map (index_renamed old.name to) o)) e
            ∙ (ap (λ (m : ℕ). Some (m, i.extract)) (number_is i e (is_same_bytes i.primary old.name) refl) ∙ sym (ap (over_by numbers) e))

    -- a database under the new names is one of the old ones
    was : (z : Database) → (with_name old to ≡ z) ⊎ IsAmong z (databases_without old.name store.databases)
        → (y : Database) × IsAmong y store.databases × (y.kind ≡ z.kind) × (y.index ≡ z.index) × (with_number to (numbers db) (with_number db 0 numbers) z.name ≡ numbers y.name) × (y.pairs ≡ z.pairs)
    was z (inl e) = (old, its.0, ap (λ (x : Database). x.kind) e, ap (λ (x : Database). x.index) e, new_number z e, ap (λ (x : Database). x.pairs) e)
    was z (inr a) = let f = left z a in (z, f.0, refl, refl, old_number z f.0 f.1, refl)

    by_old : (e : Database) → (z : Database) × IsAmong z (databases_with (with_name old to) (databases_without old.name store.databases)) × (with_primary old.name to z ≡ e)
        → ((d : Database) × IsAmong d store.databases × (with_number to (numbers db) (with_number db 0 numbers) e.name ≡ numbers d.name)
        × (over_by (with_number to (numbers db) (with_number db 0 numbers)) e.index ≡ over_by numbers d.index) × (e.pairs ≡ d.pairs))
        ⊎ ((with_number to (numbers db) (with_number db 0 numbers) e.name ≡ last + 1) × (over_by (with_number to (numbers db) (with_number db 0 numbers)) e.index ≡ None))
    by_old e (z, a, is) =
        let y = was z (with_is (with_name old to) z (databases_without old.name store.databases) a) in
        inl (
          y.0,
          y.1,
          ap (λ (x : Database). with_number to (numbers db) (with_number db 0 numbers) x.name) (sym is) ∙ y.4,
          ap (λ (x : Database). over_by (with_number to (numbers db) (with_number db 0 numbers)) x.index) (sym is)
              ∙ (ap (λ (o : Option Index). over_by (with_number to (numbers db) (with_number db 0 numbers)) (option_map (index_renamed old.name to) o)) (sym y.3) ∙ renamed_over y.0 y.1),
          ap (λ (x : Database). x.pairs) (sym is) ∙ sym y.5,
        )

    by_back : (e : Database) (p : ℕ × Extract) → (z : Database) × IsAmong z (databases_with (with_name old to) (databases_without old.name store.databases)) × (with_primary old.name to z ≡ e)
        → over_by (with_number to (numbers db) (with_number db 0 numbers)) e.index ≡ Some p
        → ((d : Database) × IsAmong d store.databases × (with_number to (numbers db) (with_number db 0 numbers) e.name ≡ numbers d.name) × (over_by numbers d.index ≡ Some p)) ⊎ IsOfNew numbers None p.0
    by_back e p (z, a, is) h =
        let y = was z (with_is (with_name old to) z (databases_without old.name store.databases) a) in
        inl (
          y.0,
          y.1,
          ap (λ (x : Database). with_number to (numbers db) (with_number db 0 numbers) x.name) (sym is) ∙ y.4,
          sym (renamed_over y.0 y.1) ∙ (ap (λ (o : Option Index). over_by (with_number to (numbers db) (with_number db 0 numbers)) (option_map (index_renamed old.name to) o)) y.3
              ∙ (ap (λ (x : Database). over_by (with_number to (numbers db) (with_number db 0 numbers)) x.index) is ∙ h)),
        )

    by_over : (e : Database) (i : Index) → (z : Database) × IsAmong z (databases_with (with_name old to) (databases_without old.name store.databases)) × (with_primary old.name to z ≡ e) → e.index ≡ Some i
        → IsOver (record { databases = databases_renamed (Some old) to store.databases }) e i
    by_over e i (z, a, is) h =
        let y = was z (with_is (with_name old to) z (databases_without old.name store.databases) a) in
        of_index y.0.index y.0 y.1 (ap (λ (x : Database). x.kind) (sym is) ∙ sym y.2) refl (ap (option_map (index_renamed old.name to)) y.3 ∙ (ap (λ (x : Database). x.index) is ∙ h))
      where
        of_index : (o : Option Index) (y : Database) → IsAmong y store.databases → e.kind ≡ y.kind → y.index ≡ o → option_map (index_renamed old.name to) y.index ≡ Some i → IsOver (record { databases = databases_renamed (Some old) to store.databases }) e i
        of_index None y b kind f m = none_some (IsOver (record { databases = databases_renamed (Some old) to store.databases }) e i) i (sym (ap (option_map (index_renamed old.name to)) f) ∙ m)
        of_index (Some j) y b kind f m =
            let p = primary_there store y j over b f in
            at_name (is_same_bytes j.primary old.name) refl p.0 p.1 p.2 p.3 p.4
          where
            index_is : cond (is_same_bytes j.primary old.name) to j.primary ≡ i.primary
            index_is = ap (λ (x : Index). x.primary) (some_is (index_renamed old.name to j) i (sym (ap (option_map (index_renamed old.name to)) f) ∙ m))
              where
                some_is : (u v : Index) → Some u ≡ Some v → u ≡ v
                some_is u v n = cc (n)

            at_name : (c : Bool) → is_same_bytes j.primary old.name ≡ c → (p : Database) → IsAmong p store.databases → p.name ≡ j.primary → p.kind ≡ Plain → p.index ≡ None
                → IsOver (record { databases = databases_renamed (Some old) to store.databases }) e i
            at_name true g p at name plain none_it =
                let same : p ≡ old = one_database store p old right_old at its.0 (name ∙ bytes_exact j.primary old.name g) in
                over_from (record { databases = databases_renamed (Some old) to store.databases }) e (with_primary old.name to (with_name old to)) i right (kind ∙ (over y j b f).0)
                (among_map (with_primary old.name to) (databases_with (with_name old to) (databases_without old.name store.databases)) (with_name old to) (with_it (with_name old to) (databases_without old.name store.databases)))
                (sym (cond-true (is_same_bytes j.primary old.name) to j.primary g) ∙ index_is)
                (ap (λ (x : Database). x.kind) (sym same) ∙ plain)
                (ap (option_map (index_renamed old.name to)) (ap (λ (x : Database). x.index) (sym same) ∙ none_it))
            at_name false g p at name plain none_it =
                over_from (record { databases = databases_renamed (Some old) to store.databases }) e (with_primary old.name to p) i right (kind ∙ (over y j b f).0)
                (among_map (with_primary old.name to) (databases_with (with_name old to) (databases_without old.name store.databases)) p
                (with_has (with_name old to) p (databases_without old.name store.databases) (left_has old.name p store.databases at (λ n. both_ways (is_same_bytes j.primary old.name) g (ap (λ (x : List ℕ). is_same_bytes x old.name) (sym name ∙ n) ∙ same_bytes old.name)))
                (not_there store to p none at)))
                (name ∙ (sym (cond-false (is_same_bytes j.primary old.name) to j.primary g) ∙ index_is))
                plain (ap (option_map (index_renamed old.name to)) none_it)

-- ---- a database that is emptied

cond_name : (b : Bool) (d : Database) → (cond b (with_pairs d []) d).name ≡ d.name
cond_name true d = refl
cond_name false d = refl

cond_kind : (b : Bool) (d : Database) → (cond b (with_pairs d []) d).kind ≡ d.kind
cond_kind true d = refl
cond_kind false d = refl

cond_index : (b : Bool) (d : Database) → (cond b (with_pairs d []) d).index ≡ d.index
cond_index true d = refl
cond_index false d = refl

pub emptied_done : (numbers : Numbers) (last : ℕ) (store : Store) (db : List ℕ) (old : Database) → AreNumbered numbers last store.databases → AreOver store → IsStore store → database_of db store ≡ Some old → old.index ≡ None
    → list_any (is_index_of db) store.databases ≡ false → IsStore (changed (Empty db) store)
    → IsDone numbers last store (numbered (Empty db) last numbers) (last + 1) (changed (Empty db) store) (λ d. d.name ≡ db → ⊥) None
emptied_done numbers last store db old k over right_old found none alone right = record {
  numbered = record {
    allocated = λ d a. let m = mapped_among f store.databases d a in
        subst (λ (n : List ℕ). with_number db (last + 1) numbers n ≤ last + 1) (sym (cond_name (is_same_bytes m.0.name db) m.0) ∙ ap (λ (x : Database). x.name) m.2) (by_allocated m.0 m.1 (is_same_bytes m.0.name db) refl);
    apart = λ d e a b h.
        let m = mapped_among f store.databases d a in
        let n = mapped_among f store.databases e b in
        let p : m.0.name ≡ d.name = sym (cond_name (is_same_bytes m.0.name db) m.0) ∙ ap (λ (x : Database). x.name) m.2 in
        let q : n.0.name ≡ e.name = sym (cond_name (is_same_bytes n.0.name db) n.0) ∙ ap (λ (x : Database). x.name) n.2 in
        sym p ∙ (by_apart m.0 n.0 m.1 n.1 (ap (with_number db (last + 1) numbers) p ∙ (h ∙ ap (with_number db (last + 1) numbers) (sym q))) ∙ q);
  };
  over = λ d i a is.
      let m = mapped_among f store.databases d a in
      let e : m.0.index ≡ Some i = sym (cond_index (is_same_bytes m.0.name db) m.0) ∙ (ap (λ (x : Database). x.index) m.2 ∙ is) in
      let p = primary_there store m.0 i over m.1 e in
      over_from (changed (Empty db) store) d p.0 i right (ap (λ (x : Database). x.kind) (sym m.2) ∙ (cond_kind (is_same_bytes m.0.name db) m.0 ∙ (over m.0 i m.1 e).0))
      (same_there p.0 p.1 (λ h. not_primary store db m.0 i alone m.1 e (sym p.2 ∙ h))) p.2 p.3 p.4;
  there = λ d a other. (d, same_there d a other, number_other db (last + 1) numbers d.name other, base_stays numbers (with_number db (last + 1) numbers) d (old_primary d a), refl);
  back = λ e p a h.
      let m = mapped_among f store.databases e a in
      let same : m.0.index ≡ e.index = sym (cond_index (is_same_bytes m.0.name db) m.0) ∙ ap (λ (x : Database). x.index) m.2 in
      let name : e.name ≡ m.0.name = sym (sym (cond_name (is_same_bytes m.0.name db) m.0) ∙ ap (λ (x : Database). x.name) m.2) in
      let is : over_by (with_number db (last + 1) numbers) m.0.index ≡ Some p = ap (over_by (with_number db (last + 1) numbers)) same ∙ h in
      inl (m.0, m.1, ap (with_number db (last + 1) numbers) name ∙ number_other db (last + 1) numbers m.0.name (not_it m.0 m.1 p is), sym (over_stays numbers (with_number db (last + 1) numbers) m.0 (old_primary m.0 m.1)) ∙ is);
  old = λ e a. let m = mapped_among f store.databases e a in by_old e m.0 m.1 m.2 (is_same_bytes m.0.name db) refl;
}
  where
    f : Database → Database
    f d = cond (is_same_bytes d.name db) (with_pairs d []) d

    old_primary : (d : Database) → IsAmong d store.databases → (i : Index) → d.index ≡ Some i → with_number db (last + 1) numbers i.primary ≡ numbers i.primary
    old_primary d a i e = number_other db (last + 1) numbers i.primary (λ is. not_primary store db d i alone a e is)

    same_there : (d : Database) → IsAmong d store.databases → (d.name ≡ db → ⊥) → IsAmong d (map f store.databases)
    same_there d a other = subst (λ (x : Database). IsAmong x (map f store.databases)) (cond-false (is_same_bytes d.name db) (with_pairs d []) d (other_bytes d.name db other)) (among_map f store.databases d a)

    by_old : (e d : Database) → IsAmong d store.databases → cond (is_same_bytes d.name db) (with_pairs d []) d ≡ e → (b : Bool) → is_same_bytes d.name db ≡ b
        → ((x : Database) × IsAmong x store.databases × (with_number db (last + 1) numbers e.name ≡ numbers x.name) × (over_by (with_number db (last + 1) numbers) e.index ≡ over_by numbers x.index) × (e.pairs ≡ x.pairs))
        ⊎ ((with_number db (last + 1) numbers e.name ≡ last + 1) × (over_by (with_number db (last + 1) numbers) e.index ≡ None))
    by_old e d a is true k =
        let i = found_is (λ (x : Database). is_same_bytes x.name db) store.databases old found in
        let same : d ≡ old = one_database store d old right_old a i.0 (bytes_exact d.name db k ∙ sym (bytes_exact old.name db i.1)) in
        inr (
          number_its db (last + 1) numbers e.name (ap (λ (x : Database). x.name) (sym is) ∙ (cond_name (is_same_bytes d.name db) d ∙ bytes_exact d.name db k)),
          ap (over_by (with_number db (last + 1) numbers)) (ap (λ (x : Database). x.index) (sym is) ∙ (cond_index (is_same_bytes d.name db) d ∙ (ap (λ (x : Database). x.index) same ∙ none))),
        )
    by_old e d a is false k =
        let it : d ≡ e = sym (cond-false (is_same_bytes d.name db) (with_pairs d []) d k) ∙ is in
        inl (
          d,
          a,
          ap (λ (x : Database). with_number db (last + 1) numbers x.name) (sym it) ∙ cond-false (is_same_bytes d.name db) (last + 1) (numbers d.name) k,
          ap (λ (x : Database). over_by (with_number db (last + 1) numbers) x.index) (sym it) ∙ over_stays numbers (with_number db (last + 1) numbers) d (old_primary d a),
          ap (λ (x : Database). x.pairs) (sym it),
        )

    -- the emptied one is no index
    not_it : (d : Database) → IsAmong d store.databases → (p : ℕ × Extract) → over_by (with_number db (last + 1) numbers) d.index ≡ Some p → d.name ≡ db → ⊥
    not_it d a p h e =
        let i = found_is (λ (x : Database). is_same_bytes x.name db) store.databases old found in
        let same : d ≡ old = one_database store d old right_old a i.0 (e ∙ sym (bytes_exact old.name db i.1)) in
        none_some ⊥ p (sym (ap (over_by (with_number db (last + 1) numbers)) (ap (λ (x : Database). x.index) same ∙ none)) ∙ h)

    by_allocated : (d : Database) → IsAmong d store.databases → (b : Bool) → is_same_bytes d.name db ≡ b → with_number db (last + 1) numbers d.name ≤ last + 1
    by_allocated d a true e = subst (λ (n : ℕ). n ≤ last + 1) (sym (cond-true (is_same_bytes d.name db) (last + 1) (numbers d.name) e)) (omega arith)
    by_allocated d a false e = subst (λ (n : ℕ). n ≤ last + 1) (sym (cond-false (is_same_bytes d.name db) (last + 1) (numbers d.name) e)) (let h = k.allocated d a in omega (arith, h))

    by_apart : (d e : Database) → IsAmong d store.databases → IsAmong e store.databases → with_number db (last + 1) numbers d.name ≡ with_number db (last + 1) numbers e.name → d.name ≡ e.name
    by_apart d e a b h = by (is_same_bytes d.name db) refl (is_same_bytes e.name db) refl
      where
        new_number : (x : Database) → is_same_bytes x.name db ≡ true → with_number db (last + 1) numbers x.name ≡ last + 1
        new_number x i = cond-true (is_same_bytes x.name db) (last + 1) (numbers x.name) i

        old_number : (x : Database) → is_same_bytes x.name db ≡ false → with_number db (last + 1) numbers x.name ≡ numbers x.name
        old_number x i = cond-false (is_same_bytes x.name db) (last + 1) (numbers x.name) i

        by : (x : Bool) → is_same_bytes d.name db ≡ x → (y : Bool) → is_same_bytes e.name db ≡ y → d.name ≡ e.name
        by true i true j = bytes_exact d.name db i ∙ sym (bytes_exact e.name db j)
        by true i false j = let m = sym (new_number d i) ∙ (h ∙ old_number e j) in let n = k.allocated e b in absurd (omega (arith, m, n))
        by false i true j = let m = sym (old_number d i) ∙ (h ∙ new_number e j) in let n = k.allocated d a in absurd (omega (arith, m, n))
        by false i false j = k.apart d e a b (sym (old_number d i) ∙ (h ∙ old_number e j))
