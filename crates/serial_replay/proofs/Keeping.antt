-- What holds of each transaction's calls between two events, and how it stays where others go on.
use Rattle.std.proofs.Common.{◌≡◌, ◌≤◌, ◌⊎◌, inl, inr, ℕ, Bool, true, false, List, [], ◌∷◌, ◌++◌, map, Option, None, Some, refl, ap, ap₂, sym, ◌∙◌, subst, ⊎_elim}
use Rattle.std.specs.Prelude.{unwrap_or}
use Rattle.std.specs.List.{AllByRecursion}
use Rattle.je_order.specs.declared.name.Name.{Name}
use Rattle.je_order.specs.declared.bound.Bound.{Bound}
use Rattle.je_order.specs.declared.bound.Bound.TheVariants.{At as On, End as AtEnd}
use Rattle.je_order.specs.declared.txn_id.TxnId.{TxnId}
use Rattle.lock_mode.specs.Modes.{can_be_held}
use Rattle.lock_table.specs.declared.record_id.RecordId.{RecordId}
use Rattle.lock_table.specs.Locks.{is_range}
use Rattle.store_model.specs.declared.kind.Kind.{Kind}
use Rattle.store_model.specs.declared.isolation.Isolation.{Isolation}
use Rattle.store_model.specs.declared.isolation.Isolation.TheVariants.{ReadUncommitted, ReadCommitted, RepeatableRead, Serializable}
use Rattle.store_model.specs.declared.call.Call.{Call}
use Rattle.store_model.specs.declared.record_change.RecordChange.{RecordChange}
use Rattle.store_model.specs.declared.answer.Answer.{Answer}
use Rattle.store_model.specs.declared.answer.Answer.TheVariants.{Done, Rec, IndexRec}
use Rattle.store_model.specs.Store.{Pair, named, name_of, proper, changed_name, all_pairs_changed, IsStore}
use Rattle.store_model.specs.declared.store.Store.{Store}
use Rattle.store_model.specs.declared.store.Database.{Database}
use Rattle.store_model.specs.declared.extract.Extract.{Extract}
use Rattle.store_model.specs.declared.kind.Kind.TheVariants.{Plain}
use Rattle.store_model.specs.Indexes.{Numbered, data_under, all_changes, answer_through}
use Rattle.store_model.specs.declared.place.Place.{Place}
use Rattle.store_model.specs.Reads.{Range, is_within, at_name}
use Rattle.store_model.specs.Records.{Evaluated, evaluation, says}
use Rattle.store_model.specs.Needs.{ranges_of}
use Rattle.je_answers.specs.declared.active.Active.{Active}
use Rattle.je_answers.specs.Standing.{Standing, place_at}
use Rattle.je_answers.specs.Views.{target, of_db, with_numbers, changes_named}
use Rattle.standing_laws.specs.Right.{AreSound, HoldsWrite, place_of, txn_id}
use Rattle.standing_laws.proofs.Among.{IsAmong, all_at, all_of, among_first, mapped_among}
use Rattle.serial_replay.specs.Replay.{AnsweredCall, Positions, calls_of, is_of_cursors, cursor_of, nowhere, position_of, positions_after}
use Rattle.serial_replay.proofs.Locality.{AgreeWithin}
use Rattle.serial_replay.proofs.Ranges.{evaluation_is_local}
use Rattle.serial_replay.proofs.Changing.{alike, rises_changed}
use Rattle.serial_replay.proofs.Holding.{Sort, IsSort, Holds, ranges, any_lock, range_can, weaker, from_write}
use Rattle.serial_replay.proofs.Occupied.{IsOccupied, flat_has}
use Rattle.serial_replay.proofs.Shut.{Closed, is_inside, place, IsThere, IsShut, only}
use Rattle.serial_replay.proofs.Stores.{Numbers, Over, over_by, Base, base_of, pairs_of, numbered_in, IsBased, based, base_at, pairs_at, IsFit, AreNumbered, AreOver, pairs_rise, named_same}
use Rattle.serial_replay.proofs.Upkeep.{AreUp}
use Rattle.serial_replay.proofs.Through.{records_number, changed_by, answered_by, in_index, with_all, reply_changes, same_data, IsFound, found_target, changes_are, same_reply}

-- ---- a call that was answered

-- its database, with its name and kind, where its cursor stood, what it came to there, what it answered and changed with indexes, its transaction's
-- changes before it, and the ranges that the transaction's locks shut
pub record Said : Type 0 where
  pub db : ℕ
  pub base : Base
  pub call : Call
  pub at : Option Name
  pub came : Evaluated
  pub answer : Answer
  pub changes : List (ℕ × RecordChange)
  pub before : List (ℕ × RecordChange)
  pub closed : List Closed

-- the records that it would see now
abbrev pub view_in : Standing → Said → List Pair
view_in st s = all_pairs_changed s.base.1 (of_db s.db s.before) (pairs_at s.db st)

abbrev pub occupied_at : Standing → ℕ → Kind → Name → Type 0
occupied_at st n kind x = IsOccupied kind (pairs_at n st) st.own n x

-- a transaction has a lock in a database
pub record IsUsedBy (st : Standing) (t : TxnId) (n : ℕ) : Type 0 where
  pub its : RecordId
  pub there : its.db ≡ n
  pub held : Holds can_be_held t (st.locks.at its).0

-- ---- what holds of it

-- the records of a database, with a transaction's changes
abbrev pub see_with : List (ℕ × RecordChange) → Numbered → List Pair
see_with before x = all_pairs_changed x.1.kind (of_db x.0 before) x.1.pairs

-- what it comes to with indexes on a store
pub record IsReplyIn (numbers : Numbers) (store : Store) (before : List (ℕ × RecordChange)) (s : Said) : Type 0 where
  pub database : Database
  pub here : numbered_in numbers s.db store ≡ Some database
  pub over : over_by numbers database.index ≡ s.base.2
  pub answer : answer_through (target numbers store s.db s.at database).over (see_with before) s.came.answer ≡ s.answer
  pub changes : with_numbers (all_changes (target numbers store s.db s.at database).over (s.db, database) (target numbers store s.db s.at database).indexes (see_with before) s.came.changes) ≡ s.changes

-- at serializable: it would come to the same, and all that it depends on is shut or locked
pub record IsSer (st : Standing) (t : TxnId) (s : Said) : Type 0 where
  pub there : base_at s.db st ≡ Some s.base
  pub used : IsUsedBy st t s.db
  pub is : evaluation s.base.1 s.call s.at (view_in st s) ≡ s.came
  pub covers : (r : Range) → IsAmong r (ranges_of s.base.1 s.call s.at (view_in st s)) → (x : Name) → is_within r x ≡ true → (c : Closed) × IsAmong c s.closed × (is_inside c x ≡ true)
  pub shut : (c : Closed) → IsAmong c s.closed → IsShut st.locks.at (occupied_at st s.db s.base.1) t s.db c
  pub reply : IsReplyIn st.numbers st.store s.before s
  pub its : AllByRecursion (λ c. proper s.base.1 (changed_name c) ≡ changed_name c) s.came.changes
  pub written : (c : ℕ × RecordChange) → IsAmong c s.changes → Holds can_be_held t (st.locks.at (place c.0 (On (changed_name c.1)))).0
  pub read : (o : ℕ × Extract) → s.base.2 ≡ Some o → (key primary_key : List ℕ) → s.came.answer ≡ Rec key primary_key → Holds can_be_held t (st.locks.at (place o.0 (On (named primary_key [])))).0

-- a call that only opens a cursor or closes it is done
abbrev pub IsSerAs : Bool → Standing → TxnId → Said → Type 0
IsSerAs true st t s = (s.came ≡ says Done None) × (s.answer ≡ Done) × (s.changes ≡ [])
IsSerAs false st t s = IsSer st t s

abbrev pub IsSerial : Standing → TxnId → Said → Type 0
IsSerial st t s = IsSerAs (is_of_cursors s.call) st t s

-- at repeatable read: the record that it answered stands, and is locked
pub record IsHeldIn (st : Standing) (t : TxnId) (db : ℕ) (base : Base) (before : List (ℕ × RecordChange)) (p : Pair) : Type 0 where
  pub there : base_at db st ≡ Some base
  pub held : Holds can_be_held t (st.locks.at (place db (On (name_of base.1 p)))).0
  pub stands : at_name base.1 (name_of base.1 p) (all_pairs_changed base.1 (of_db db before) (pairs_at db st)) ≡ p ∷ []

-- and that of the primary, where an index answered it
pub record IsHeldOver (st : Standing) (t : TxnId) (s : Said) (p : Pair) : Type 0 where
  pub over : ℕ × Extract
  pub its : s.base.2 ≡ Some over
  pub base : Base
  pub plain : base.1 ≡ Plain
  pub record_ : IsHeldIn st t over.0 base s.before p

abbrev pub IsRepeatableAs : Standing → TxnId → Said → Answer → Type 0
IsRepeatableAs st t s (Rec key value) = IsHeldIn st t s.db s.base s.before (key, value)
IsRepeatableAs st t s (IndexRec key primary_key value) = IsHeldIn st t s.db s.base s.before (key, primary_key) × IsHeldOver st t s (primary_key, value)
IsRepeatableAs st t s answer = Unit {0}

abbrev pub IsRepeatable : Standing → TxnId → Said → Type 0
IsRepeatable st t s = IsRepeatableAs st t s s.answer

-- at serializable: the place of a cursor is shut
pub record IsShutPlace (st : Standing) (t : TxnId) (db : ℕ) (n : Name) : Type 0 where
  pub base : Base
  pub there : base_at db st ≡ Some base
  pub shut : IsShut st.locks.at (occupied_at st db base.1) t db (only n)

-- ---- what another event leaves a transaction

-- a database in use stays, with its name and kind and what it is an index of; and no index of it is made
pub record IsStable (st new : Standing) : Type 0 where
  pub stays : (t : TxnId) (n : ℕ) (b : Base) → IsUsedBy st t n → base_at n st ≡ Some b → base_at n new ≡ Some b
  pub fresh : (t : TxnId) (q : ℕ) (n : ℕ) (b : Base) (e : Extract) → IsUsedBy st t q → base_at n new ≡ Some b → b.2 ≡ Some (q, e) → (c : Base) × (base_at n st ≡ Some c) × (c.2 ≡ Some (q, e))

-- where all databases stay
pub stable_same : (st new : Standing) → ((n : ℕ) → base_at n new ≡ base_at n st) → IsStable st new
stable_same st new same = record {
  stays = λ t n b used e. same n ∙ e;
  fresh = λ t q n b e used h k. (b, sym (same n) ∙ h, k);
}

-- a right store, whose databases have numbers and whose indexes have primaries
pub record IsWell (st : Standing) : Type 0 where
  pub store : IsStore st.store
  pub numbers : AreNumbered st.numbers st.last_db st.store.databases
  pub over : AreOver st.store

pub well_same : (st new : Standing) → new.store ≡ st.store → new.numbers ≡ st.numbers → new.last_db ≡ st.last_db → IsWell st → IsWell new
well_same st new store numbers last well = record {
  store = subst IsStore (sym store) well.store;
  numbers = subst (λ (s : Store). AreNumbered new.numbers new.last_db s.databases) (sym store)
      (subst (λ (m : Numbers). AreNumbered m new.last_db st.store.databases) (sym numbers) (subst (λ (l : ℕ). AreNumbered st.numbers l st.store.databases) (sym last) well.numbers));
  over = subst AreOver (sym store) well.over;
}

-- its locks stay; a record changes only under a name that it has no lock on, and a name is occupied anew only outside its ranges; what it has a lock on stays occupied
pub record IsKept (t : TxnId) (level : Isolation) (st new : Standing) : Type 0 where
  pub locks : (sort : Sort) → IsSort sort → (r : RecordId) → Holds sort t (st.locks.at r).0 → Holds sort t (new.locks.at r).0
  pub alike : (n : ℕ) (b : Base) (x : Name) → IsUsedBy st t n → base_at n st ≡ Some b →
      (at_name b.1 x (pairs_at n st) ≡ at_name b.1 x (pairs_at n new)) ⊎ (occupied_at st n b.1 x × (Holds can_be_held t (st.locks.at (place n (On x))).0 → ⊥))
  pub occupied : level ≡ Serializable → (n : ℕ) (b : Base) (x : Name) → IsUsedBy st t n → base_at n st ≡ Some b → occupied_at new n b.1 x →
      occupied_at st n b.1 x ⊎ ((c : Closed) → IsShut st.locks.at (occupied_at st n b.1) t n c → is_inside c x ≡ true → Holds is_range t (new.locks.at (place n (On x))).0)
  pub stays : (n : ℕ) (b : Base) (x : Name) → IsUsedBy st t n → base_at n st ≡ Some b → Holds can_be_held t (st.locks.at (place n (On x))).0 → occupied_at st n b.1 x → occupied_at new n b.1 x

module _ (t : TxnId) (level : Isolation) (st new : Standing) (stable : IsStable st new) (kept : IsKept t level st new) (right : IsWell st) (right_new : IsWell new) where
  used_kept : (n : ℕ) → IsUsedBy st t n → IsUsedBy new t n
  used_kept n u = record { its = u.its; there = u.there; held = kept.locks can_be_held any_lock u.its u.held }

  pub shut_kept : level ≡ Serializable → (n : ℕ) (b : Base) (c : Closed) → base_at n st ≡ Some b → IsShut st.locks.at (occupied_at st n b.1) t n c → IsShut new.locks.at (occupied_at new n b.1) t n c
  shut_kept ser n b c there k = record {
    inside = λ x o i. ⊎_elim (λ old. kept.locks is_range ranges (place n (On x)) (k.inside x old i)) (λ f. f c k i) (kept.occupied ser n b x used there o);
    top = kept.locks is_range ranges (place n c.top) k.top;
    stays = by c.top k.top k.stays;
  }
    where
      used : IsUsedBy st t n
      used = record { its = place n c.top; there = refl; held = weaker is_range can_be_held range_can t (st.locks.at (place n c.top)).0 k.top }

      by : (top : Bound) → Holds is_range t (st.locks.at (place n top)).0 → IsThere (occupied_at st n b.1) top → IsThere (occupied_at new n b.1) top
      by AtEnd held o = tt
      by (On y) held o = kept.stays n b y used there (weaker is_range can_be_held range_can t (st.locks.at (place n (On y))).0 held) o

  pub place_kept : level ≡ Serializable → (db : ℕ) (n : Name) → IsShutPlace st t db n → IsShutPlace new t db n
  place_kept ser db n p = record { base = p.base; there = stable.stays t db p.base used p.there; shut = shut_kept ser db p.base (only n) p.there p.shut }
    where
      used : IsUsedBy st t db
      used = record { its = place db (On n); there = refl; held = weaker is_range can_be_held range_can t (st.locks.at (place db (On n))).0 p.shut.top }

  -- the data of a locked record of a plain database stays
  data_kept : (q : ℕ) (d e : Database) (before : List (ℕ × RecordChange)) (key : List ℕ) → numbered_in st.numbers q st.store ≡ Some d → numbered_in new.numbers q new.store ≡ Some e → d.kind ≡ Plain
      → Holds can_be_held t (st.locks.at (place q (On (named key [])))).0 → data_under key (see_with before (q, d)) ≡ data_under key (see_with before (q, e))
  data_kept q d e before key is is_new plain held = same_data key (see_with before (q, d)) (see_with before (q, e)) (⊎_elim same (λ o. absurd (o.1 held)) (kept.alike q b (named key []) used there))
    where
      b : Base
      b = (d.name, d.kind, over_by st.numbers d.index)

      used : IsUsedBy st t q
      used = record { its = place q (On (named key [])); there = refl; held = held }

      there : base_at q st ≡ Some (d.name, d.kind, over_by st.numbers d.index)
      there = ap (base_of st.numbers) is

      same_kind : e.kind ≡ d.kind
      same_kind = some_kind (e.name, e.kind, over_by new.numbers e.index) (d.name, d.kind, over_by st.numbers d.index) (sym (ap (base_of new.numbers) is_new) ∙ stable.stays t q (d.name, d.kind, over_by st.numbers d.index) used there)
        where
          some_kind : (x y : Base) → Some x ≡ Some y → x.1 ≡ y.1
          some_kind x y h = ap (λ (z : Base). z.1) (all_is x y h)
            where
              all_is : (u v : Base) → Some u ≡ Some v → u ≡ v
              all_is u v k = cc (k)

      same : at_name d.kind (named key []) (pairs_at q st) ≡ at_name d.kind (named key []) (pairs_at q new) → at_name Plain (named key []) (see_with before (q, d)) ≡ at_name Plain (named key []) (see_with before (q, e))
      same h =
          let k : at_name d.kind (named key []) d.pairs ≡ at_name d.kind (named key []) e.pairs =
          ap (λ (o : Option Database). at_name d.kind (named key []) (pairs_of o)) (sym is) ∙ (h ∙ ap (λ (o : Option Database). at_name d.kind (named key []) (pairs_of o)) is_new) in
          subst (λ (x : Kind). at_name x (named key []) (see_with before (q, d)) ≡ at_name x (named key []) (see_with before (q, e))) plain
          (alike d.kind (of_db q before) (named key []) d.pairs e.pairs k
          ∙ ap (λ (x : Kind). at_name d.kind (named key []) (all_pairs_changed x (of_db q before) e.pairs)) (sym same_kind))

  -- what it comes to with indexes
  module _ (s : Said) (h : IsSer st t s) (there_new : base_at s.db new ≡ Some s.base) where
    i : IsBased new.numbers (numbered_in new.numbers s.db new.store) s.base
    i = based new.numbers (numbered_in new.numbers s.db new.store) s.base there_new

    abbrev q : ℕ
    q = records_number s.db s.base.2

    found : IsFound st.numbers st.store s.db h.reply.database (target st.numbers st.store s.db s.at h.reply.database) s.base.2
    found = subst (IsFound st.numbers st.store s.db h.reply.database (target st.numbers st.store s.db s.at h.reply.database)) h.reply.over
        (found_target st.numbers st.last_db st.store right.store right.numbers right.over s.db s.at h.reply.database h.reply.here)

    found_new : IsFound new.numbers new.store s.db i.database (target new.numbers new.store s.db s.at i.database) s.base.2
    found_new = subst (IsFound new.numbers new.store s.db i.database (target new.numbers new.store s.db s.at i.database)) i.over
        (found_target new.numbers new.last_db new.store right_new.store right_new.numbers right_new.over s.db s.at i.database i.is)

    abbrev seen_old : List Pair
    seen_old = see_with s.before (q, found.records)

    abbrev seen_new : List Pair
    seen_new = see_with s.before (q, found_new.records)

    data_at : (key : List ℕ) → found.records.kind ≡ Plain → Holds can_be_held t (st.locks.at (place q (On (named key [])))).0 → data_under key seen_old ≡ data_under key seen_new
    data_at key plain held = data_kept q found.records found_new.records s.before key found.here found_new.here plain held

    answers : (o : Over) → s.base.2 ≡ o → (a : Answer) → s.came.answer ≡ a → answered_by o seen_old a ≡ answered_by o seen_new a
    answers None e a k = refl
    answers (Some o) e (Rec key primary_key) k =
        ap (λ (x : Option (List ℕ)). IndexRec key primary_key (unwrap_or x []))
        (data_at primary_key (found.over_plain o e) (subst (λ (v : Over). Holds can_be_held t (st.locks.at (place (records_number s.db v) (On (named primary_key [])))).0) (sym e) (h.read o e key primary_key k)))
    answers (Some o) e a k = refl

    -- what it changes, by numbers
    by_number : reply_changes s.base.2 q (target st.numbers st.store s.db s.at h.reply.database).indexes seen_old s.came.changes ≡ s.changes
    by_number = sym (changes_are st.numbers st.store s.db h.reply.database (target st.numbers st.store s.db s.at h.reply.database) s.base.2 (see_with s.before) s.came.changes found) ∙ h.reply.changes

    abbrev indexes : List Numbered
    indexes = (target st.numbers st.store s.db s.at h.reply.database).indexes

    abbrev indexes_new : List Numbered
    indexes_new = (target new.numbers new.store s.db s.at i.database).indexes

    -- each change with those in the indexes is among them
    among_all : (c : RecordChange) → IsAmong c s.came.changes → (y : ℕ × RecordChange) → IsAmong y (with_all q indexes seen_old (changed_by s.base.2 c)) → IsAmong y s.changes
    among_all c a y b = subst (IsAmong y) by_number (flat_has (λ (x : RecordChange). with_all q indexes seen_old (changed_by s.base.2 x)) s.came.changes c y a b)

    used_at : (y : ℕ × RecordChange) → IsAmong y s.changes → IsUsedBy st t y.0
    used_at y a = record { its = place y.0 (On (changed_name y.1)); there = refl; held = h.written y a }

    used_records : (c : RecordChange) → IsAmong c s.came.changes → IsUsedBy st t q
    used_records c a = used_at (q, changed_by s.base.2 c) (among_all c a (q, changed_by s.base.2 c) (inl refl))

    there : (c : RecordChange) → IsAmong c s.came.changes → (x : Numbered) → IsAmong x indexes → (in_index seen_old (changed_by s.base.2 c) x ≡ []) ⊎ ((y : Numbered) × IsAmong y indexes_new × (y.0 ≡ x.0))
    there c a x b = by (in_index seen_old (changed_by s.base.2 c) x) refl
      where
        by : (l : List (ℕ × RecordChange)) → in_index seen_old (changed_by s.base.2 c) x ≡ l → (in_index seen_old (changed_by s.base.2 c) x ≡ []) ⊎ ((y : Numbered) × IsAmong y indexes_new × (y.0 ≡ x.0))
        by [] e = inl e
        by (y ∷ ys) e =
            let k : IsAmong y (in_index seen_old (changed_by s.base.2 c) x) = subst (IsAmong y) (sym e) (inl refl) in
            let m = mapped_among (λ (z : RecordChange). (x.0, z)) _ y k in
            let number : x.0 ≡ y.0 = ap (λ (z : ℕ × RecordChange). z.0) m.2 in
            let used : IsUsedBy st t x.0 = subst (IsUsedBy st t) (sym number) (used_at y (among_all c a y (inr (flat_has (in_index seen_old (changed_by s.base.2 c)) indexes x y b k)))) in
            let its = found.indexes.its x b in
            let new_base = stable.stays t x.0 (x.1.name, x.1.kind, over_by st.numbers x.1.index) used (ap (base_of st.numbers) its.0) in
            let j = based new.numbers (numbered_in new.numbers x.0 new.store) (x.1.name, x.1.kind, over_by st.numbers x.1.index) new_base in
            inr ((x.0, j.database), found_new.indexes.all x.0 j.database its.1.0 j.is (j.over ∙ its.1.1), refl)

    back : (c : RecordChange) → IsAmong c s.came.changes → (y : Numbered) → IsAmong y indexes_new → (x : Numbered) × IsAmong x indexes × (x.0 ≡ y.0) × (over_by st.numbers x.1.index ≡ over_by new.numbers y.1.index)
    back c a y b =
        let its = found_new.indexes.its y b in
        let f = stable.fresh t q y.0 (y.1.name, y.1.kind, over_by new.numbers y.1.index) its.1.0 (used_records c a) (ap (base_of new.numbers) its.0) its.1.1 in
        let j = based st.numbers (numbered_in st.numbers y.0 st.store) f.0 f.1 in
        ((y.0, j.database), found.indexes.all y.0 j.database its.1.0 j.is (j.over ∙ f.2), refl, j.over ∙ (f.2 ∙ sym its.1.1))

    -- the record of a change in a plain database
    key_is : (o : Over) → s.base.2 ≡ o → (c : RecordChange) → IsAmong c s.came.changes → found.records.kind ≡ Plain → named (changed_name (changed_by o c)).key [] ≡ changed_name (changed_by o c)
    key_is (Some o) e c a plain = refl
    key_is None e c a plain =
        let k : proper s.base.1 (changed_name c) ≡ changed_name c = all_at (λ (x : RecordChange). proper s.base.1 (changed_name x) ≡ changed_name x) s.came.changes c h.its a in
        ap (λ (x : Kind). proper x (changed_name c)) (sym plain ∙ kind_is) ∙ k
      where
        kind_is : found.records.kind ≡ s.base.1
        kind_is = first_kind (found.records.name, found.records.kind, over_by st.numbers found.records.index) s.base (sym (ap (base_of st.numbers) (subst (λ (v : Over). numbered_in st.numbers (records_number s.db v) st.store ≡ Some found.records) e found.here)) ∙ h.there)
          where
            first_kind : (x y : Base) → Some x ≡ Some y → x.1 ≡ y.1
            first_kind x y m = ap (λ (z : Base). z.1) (all_is x y m)
              where
                all_is : (u v : Base) → Some u ≡ Some v → u ≡ v
                all_is u v n = cc (n)

    same : (c : RecordChange) → IsAmong c s.came.changes → (x : Numbered) → IsAmong x indexes
        → data_under (changed_name (changed_by s.base.2 c)).key seen_old ≡ data_under (changed_name (changed_by s.base.2 c)).key seen_new
    same c a x b =
        data_at (changed_name (changed_by s.base.2 c)).key (found.plain x b)
        (subst (λ (m : Name). Holds can_be_held t (st.locks.at (place q (On m))).0) (sym (key_is s.base.2 refl c a (found.plain x b)))
        (h.written (q, changed_by s.base.2 c) (among_all c a (q, changed_by s.base.2 c) (inl refl))))

    changes : reply_changes s.base.2 q indexes seen_old s.came.changes ≡ reply_changes s.base.2 q indexes_new seen_new s.came.changes
    changes = same_reply st.numbers new.numbers st.store new.store s.base.2 q indexes indexes_new found.indexes found_new.indexes seen_old seen_new s.came.changes there back same

    reply_kept : IsReplyIn new.numbers new.store s.before s
    reply_kept = record {
      database = i.database;
      here = i.is;
      over = i.over;
      answer = found_new.answer (see_with s.before) s.came.answer ∙ (sym (answers s.base.2 refl s.came.answer refl) ∙ (sym (found.answer (see_with s.before) s.came.answer) ∙ h.reply.answer));
      changes = changes_are new.numbers new.store s.db i.database (target new.numbers new.store s.db s.at i.database) s.base.2 (see_with s.before) s.came.changes found_new ∙ (sym changes ∙ by_number);
    }

  ser_kept : level ≡ Serializable → (s : Said) → IsSer st t s → IsSer new t s
  ser_kept ser s h = record {
    there = there_new;
    used = used_kept s.db h.used;
    is = sym same.0 ∙ h.is;
    covers = λ r a x w. h.covers r (subst (IsAmong r) (sym same.1) a) x w;
    shut = λ c a. shut_kept ser s.db s.base c h.there (h.shut c a);
    reply = reply_kept s h there_new;
    its = h.its;
    written = λ c a. kept.locks can_be_held any_lock (place c.0 (On (changed_name c.1))) (h.written c a);
    read = λ o e key primary_key k. kept.locks can_be_held any_lock (place o.0 (On (named primary_key []))) (h.read o e key primary_key k);
  }
    where
      there_new : base_at s.db new ≡ Some s.base
      there_new = stable.stays t s.db s.base h.used h.there

      agree : (r : Range) → IsAmong r (ranges_of s.base.1 s.call s.at (view_in st s)) → AgreeWithin s.base.1 r (view_in st s) (view_in new s)
      agree r a x w = let c = h.covers r a x w in by c.0 c.1 c.2 (kept.alike s.db s.base x h.used h.there)
        where
          by : (c : Closed) → IsAmong c s.closed → is_inside c x ≡ true
              → (at_name s.base.1 x (pairs_at s.db st) ≡ at_name s.base.1 x (pairs_at s.db new)) ⊎ (occupied_at st s.db s.base.1 x × (Holds can_be_held t (st.locks.at (place s.db (On x))).0 → ⊥))
              → at_name s.base.1 x (view_in st s) ≡ at_name s.base.1 x (view_in new s)
          by c e i (inl eq) = alike s.base.1 (of_db s.db s.before) x (pairs_at s.db st) (pairs_at s.db new) eq
          by c e i (inr o) = absurd (o.1 (weaker is_range can_be_held range_can t (st.locks.at (place s.db (On x))).0 ((h.shut c e).inside x o.0 i)))

      same : (evaluation s.base.1 s.call s.at (view_in st s) ≡ evaluation s.base.1 s.call s.at (view_in new s)) × (ranges_of s.base.1 s.call s.at (view_in st s) ≡ ranges_of s.base.1 s.call s.at (view_in new s))
      same = evaluation_is_local s.base.1 s.call s.at (view_in st s) (view_in new s)
          (rises_changed s.base.1 (of_db s.db s.before) (pairs_at s.db st) (pairs_rise st.numbers s.db st.store s.base right.store h.there))
          (rises_changed s.base.1 (of_db s.db s.before) (pairs_at s.db new) (pairs_rise new.numbers s.db new.store s.base right_new.store there_new))
          agree

  pub serial_kept : level ≡ Serializable → (s : Said) → IsSerial st t s → IsSerial new t s
  serial_kept ser s h = by (is_of_cursors s.call) h
    where
      by : (b : Bool) → IsSerAs b st t s → IsSerAs b new t s
      by true k = k
      by false k = ser_kept ser s k

  record_kept : (db : ℕ) (base : Base) (before : List (ℕ × RecordChange)) (p : Pair) → IsHeldIn st t db base before p → IsHeldIn new t db base before p
  record_kept db base before p h = record {
    there = stable.stays t db base used h.there;
    held = kept.locks can_be_held any_lock (place db (On (name_of base.1 p))) h.held;
    stands = ⊎_elim
        (λ same. sym (alike base.1 (of_db db before) (name_of base.1 p) (pairs_at db st) (pairs_at db new) same) ∙ h.stands)
        (λ o. absurd (o.1 h.held))
        (kept.alike db base (name_of base.1 p) used h.there);
  }
    where
      used : IsUsedBy st t db
      used = record { its = place db (On (name_of base.1 p)); there = refl; held = h.held }

  pub repeatable_kept : (s : Said) (answer : Answer) → IsRepeatableAs st t s answer → IsRepeatableAs new t s answer
  repeatable_kept s (Rec key value) h = record_kept s.db s.base s.before (key, value) h
  repeatable_kept s (IndexRec key primary_key value) h = (
    record_kept s.db s.base s.before (key, primary_key) h.0,
    record { over = h.1.over; its = h.1.its; base = h.1.base; plain = h.1.plain; record_ = record_kept h.1.over.0 h.1.base s.before (primary_key, value) h.1.record_ },
  )
  repeatable_kept s answer h = tt

-- ---- the calls of a transaction

-- the changes before each call are those of the calls before it, and in the end all of the transaction's; each is made where those before it left its cursor
abbrev pub Follows : List (ℕ × RecordChange) → Positions → List Said → List (ℕ × RecordChange) → Type 0
Follows before at [] own = own ≡ before
Follows before at (s ∷ said) own = (s.before ≡ before) × (s.at ≡ position_of (cursor_of s.call) at) × Follows (before ++ s.changes) (positions_after s.call s.came.place at) said own

-- where calls leave the cursors
abbrev pub positions_by : List Said → Positions → Positions
positions_by [] at = at
positions_by (s ∷ said) at = positions_by said (positions_after s.call s.came.place at)

abbrev pub call_by : Standing → TxnId → Said → AnsweredCall
call_by st t s = record { txn = t; call = s.call; db = s.base.0; answer = s.answer; own = changes_named st s.before }

-- a session's cursors stand where its calls left them
abbrev pub AreWhere : Standing → ℕ → Positions → Type 0
AreWhere st session at = (cursor : ℕ) (p : Place) → place_at cursor (st.places session) ≡ Some p → p.at ≡ at cursor

abbrev pub AreShutPlaces : Standing → TxnId → ℕ → Type 0
AreShutPlaces st t session = (cursor : ℕ) (p : Place) → place_at cursor (st.places session) ≡ Some p → (n : Name) → p.at ≡ Some n → IsShutPlace st t p.db n

-- what holds of a session's transaction at a level; one of a single call tells none
pub record KeepsOf (st : Standing) (told : List AnsweredCall) (t : TxnId) (level : Isolation) (session : ℕ) (auto : Bool) : Type 0 where
  pub said : List Said
  pub calls : calls_of t told ≡ map (call_by st t) said
  pub follows : Follows [] nowhere said (st.own t.0)
  pub positions : auto ≡ false → AreWhere st session (positions_by said nowhere)
  pub ser : level ≡ Serializable → AllByRecursion (IsSerial st t) said
  pub places : auto ≡ false → level ≡ Serializable → AreShutPlaces st t session
  pub repeatable : level ≡ RepeatableRead → AllByRecursion (IsRepeatable st t) said

-- the levels of whose calls something holds
abbrev pub keeps : Isolation → Bool
keeps ReadUncommitted = false
keeps ReadCommitted = false
keeps RepeatableRead = true
keeps Serializable = true

-- the changes before a call are among the transaction's
pub follows_from : (before : List (ℕ × RecordChange)) (at : Positions) (said : List Said) (own : List (ℕ × RecordChange)) (c : ℕ × RecordChange) → Follows before at said own → IsAmong c before → IsAmong c own
follows_from before at [] own c h a = subst (IsAmong c) (sym h) a
follows_from before at (s ∷ said) own c h a =
    follows_from (before ++ s.changes) (positions_after s.call s.came.place at) said own c h.2 (among_first before (s.changes) c a)

pub before_own : (before : List (ℕ × RecordChange)) (at : Positions) (said : List Said) (own : List (ℕ × RecordChange)) → Follows before at said own → AllByRecursion (λ s. (c : ℕ × RecordChange) → IsAmong c s.before → IsAmong c own) said
before_own before at [] own h = tt
before_own before at (s ∷ said) own h = (
  λ c a. follows_from before at (s ∷ said) own c h (subst (IsAmong c) h.0 a),
  before_own (before ++ s.changes) (positions_after s.call s.came.place at) said own h.2,
)

all_each : {X : Type 0} (P Q : X → Type 0) → ((x : X) → P x → Q x) → (xs : List X) → AllByRecursion P xs → AllByRecursion Q xs
all_each P Q f [] h = tt
all_each P Q f (x ∷ xs) h = (f x h.0, all_each P Q f xs h.1)

-- the same calls, where the databases of the changes have the same names
pub same_calls : (st new : Standing) (t : TxnId) (own : List (ℕ × RecordChange)) → ((c : ℕ × RecordChange) → IsAmong c own → base_at c.0 st ≡ base_at c.0 new) → (said : List Said)
    → AllByRecursion (λ s. (c : ℕ × RecordChange) → IsAmong c s.before → IsAmong c own) said → map (call_by st t) said ≡ map (call_by new t) said
same_calls st new t own same [] h = refl
same_calls st new t own same (s ∷ said) h =
    ap₂ (λ (c : AnsweredCall) (l : List AnsweredCall). c ∷ l)
    (ap (λ (cs : _). record { txn = t; call = s.call; db = s.base.0; answer = s.answer; own = cs }) (named_same st.numbers new.numbers st.store new.store s.before (λ c a. same c (h.0 c a))))
    (same_calls st new t own same said h.1)

-- a session's cursors stand where they stood
abbrev pub KeepsPlaces : ℕ → Standing → Standing → Type 0
KeepsPlaces session st new = (cursor : ℕ) → place_at cursor (new.places session) ≡ place_at cursor (st.places session)

module _ (t : TxnId) (level : Isolation) (session : ℕ) (auto : Bool) (st new : Standing) (told told_new : List AnsweredCall) (stable : IsStable st new) (right : IsWell st) (right_new : IsWell new) where
  pub keeps_kept : IsKept t level st new → (auto ≡ false → KeepsPlaces session st new) → ((c : ℕ × RecordChange) → IsAmong c (st.own t.0) → base_at c.0 st ≡ base_at c.0 new) → new.own t.0 ≡ st.own t.0 → calls_of t told_new ≡ calls_of t told
      → KeepsOf st told t level session auto → KeepsOf new told_new t level session auto
  keeps_kept kept moved same own calls k = record {
    said = k.said;
    calls = calls ∙ (k.calls ∙ same_calls st new t (st.own t.0) same k.said (before_own [] nowhere k.said (st.own t.0) k.follows));
    follows = subst (λ (l : List (ℕ × RecordChange)). Follows [] nowhere k.said l) (sym own) k.follows;
    positions = λ own_call cursor p e. k.positions own_call cursor p (sym (moved own_call cursor) ∙ e);
    ser = λ e. all_each (IsSerial st t) (IsSerial new t) (λ s h. serial_kept t level st new stable kept right right_new e s h) k.said (k.ser e);
    places = λ own_call e cursor p f n h. place_kept t level st new stable kept right right_new e p.db n (k.places own_call e cursor p (sym (moved own_call cursor) ∙ f) n h);
    repeatable = λ e. all_each (IsRepeatable st t) (IsRepeatable new t) (λ s h. repeatable_kept t level st new stable kept right right_new s s.answer h) k.said (k.repeatable e);
  }

-- ---- a standing

-- own changes are locked, so that their databases are in use
pub own_same : (st new : Standing) (t : TxnId) → AreSound st → AllByRecursion (IsFit st) (st.own t.0) → IsStable st new → (c : ℕ × RecordChange) → IsAmong c (st.own t.0) → base_at c.0 st ≡ base_at c.0 new
own_same st new t sound fit stable c a =
    let f = all_at (IsFit st) (st.own t.0) c fit a in
    let w = all_at (HoldsWrite st.locks.at (txn_id t.0)) (st.own t.0) c (sound.own_locked t.0) a in
    f.there ∙ sym (stable.stays (txn_id t.0) c.0 f.base (record { its = place_of c; there = refl; held = from_write (txn_id t.0) (st.locks.at (place_of c)).0 w }) f.there)

pub fits_kept : (st new : Standing) (t : ℕ) → AreSound st → AllByRecursion (IsFit st) (st.own t) → IsStable st new → AllByRecursion (IsFit new) (st.own t)
fits_kept st new t sound fit stable = all_of (IsFit new) (st.own t) (λ c a.
    let f = all_at (IsFit st) (st.own t) c fit a in
    let w = all_at (HoldsWrite st.locks.at (txn_id t)) (st.own t) c (sound.own_locked t) a in
    record { base = f.base; there = stable.stays (txn_id t) c.0 f.base (record { its = place_of c; there = refl; held = from_write (txn_id t) (st.locks.at (place_of c)).0 w }) f.there; its = f.its })

-- what holds of an environment beside its transactions' calls
pub record IsGround (st : Standing) (told : List AnsweredCall) : Type 0 where
  pub well : IsWell st
  pub fits : (t : ℕ) → AllByRecursion (IsFit st) (st.own t)
  pub up : AreUp st
  pub last : AllByRecursion (λ c. c.txn.0 ≤ st.last_txn) told

abbrev pub KeepsIf : Standing → List AnsweredCall → Active → Type 0
KeepsIf st told a = keeps a.level ≡ true → KeepsOf st told a.txn a.level a.session a.is_auto

-- and of these, but for one transaction
abbrev pub EachBut : TxnId → Standing → List AnsweredCall → List Active → Type 0
EachBut t st told actives = (a : Active) → IsAmong a actives → (a.txn ≡ t → ⊥) → KeepsIf st told a

pub record IsKnown (st : Standing) (told : List AnsweredCall) : Type 0 where
  pub ground : IsGround st told
  pub each : (a : Active) → IsAmong a st.actives → KeepsIf st told a
