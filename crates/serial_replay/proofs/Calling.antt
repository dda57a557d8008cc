-- A call gets its locks and is evaluated: it comes into no range of another transaction, and what it read is shut from then on.
use Rattle.std.proofs.Common.{◌≡◌, ◌⊎◌, inl, inr, ℕ, ◌==◌, Bool, true, false, List, [], ◌∷◌, ◌++◌, map, filter, Option, None, Some, refl, ap, ap₂, sym, ◌∙◌, subst, ⊎_elim, arith, is_eq}
use Rattle.std.specs.Prelude.{unwrap_or}
use Rattle.std.specs.List.{flat_map, AllByRecursion}
use Rattle.std.proofs.lemmas.Bool.{cases_Bool, cond-true, cond-false, both_ways, eqb-true}
use Rattle.std.proofs.lemmas.Bool.Decides.{nat_tests}
use Rattle.je_order.specs.Order.{name_cmp}
use Rattle.je_order.specs.declared.name.Name.{Name}
use Rattle.je_order.specs.declared.bound.Bound.{Bound}
use Rattle.je_order.specs.declared.bound.Bound.TheVariants.{At as On}
use Rattle.je_order.specs.declared.txn_id.TxnId.{TxnId}
use Rattle.je_order.specs.Transactions.{is_same_txn}
use Rattle.je_order.proofs.TxnIds.{same_is}
use Rattle.je_order.proofs.Orderings.{name_exact, equal_from_test}
use Rattle.lock_mode.specs.declared.lock_type.LockType.{LockType}
use Rattle.lock_mode.specs.Modes.{can_be_held}
use Rattle.lock_table.specs.declared.lock.Lock.{Lock}
use Rattle.lock_table.specs.declared.record_id.RecordId.{RecordId}
use Rattle.lock_table.specs.Locks.{is_range, is_write}
use Rattle.store_model.specs.declared.kind.Kind.{Kind}
use Rattle.store_model.specs.declared.kind.Kind.TheVariants.{Plain}
use Rattle.store_model.specs.declared.isolation.Isolation.{Isolation}
use Rattle.store_model.specs.declared.isolation.Isolation.TheVariants.{ReadUncommitted, ReadCommitted, RepeatableRead, Serializable}
use Rattle.store_model.specs.declared.call.Call.{Call}
use Rattle.store_model.specs.declared.need.Need.{Need}
use Rattle.store_model.specs.declared.store.Store.{Store}
use Rattle.store_model.specs.declared.answer.Answer.{Answer}
use Rattle.store_model.specs.declared.answer.Answer.TheVariants.{Rec, IndexRec, NoPosition}
use Rattle.store_model.specs.declared.record_change.RecordChange.{RecordChange}
use Rattle.store_model.specs.Store.{Pair, named, name_of, proper, all_pairs_changed}
use Rattle.store_model.specs.declared.store.Database.{Database}
use Rattle.store_model.specs.declared.index.Index.{Index}
use Rattle.store_model.specs.declared.extract.Extract.{Extract}
use Rattle.store_model.specs.Indexes.{Numbered, changes_in, with_indexes, changed_database, changed_through, all_changes, data_under, answer_through}
use Rattle.store_model.specs.Refusals.{index_refusal}
use Rattle.store_model.specs.Reads.{Look, Range, is_within, seen, passed_to, at_name}
use Rattle.store_model.specs.Records.{Evaluated, look_of, early_of, conclude, unless_early, evaluation}
use Rattle.store_model.specs.Needs.{Part, need, part_of, part_needs, ends, write_type, record_needs, change_needs, changed_name, needs_unless, place_range, look_range, ranges_of}
use Rattle.je_answers.specs.declared.active.Active.{Active}
use Rattle.je_answers.specs.Standing.{Standing, database_at, with_at}
use Rattle.je_answers.specs.Views.{Target, of_db, seen_changes, view_in, view_of, occupied, occupied_in, changes_with, with_numbers, needs_in, outcome_of}
use Rattle.je_answers.specs.Locking.{Queues, record_of, all_got, first_blocked, given_back}
use Rattle.je_answers.specs.After.{moved}
use Rattle.standing_laws.specs.Right.{AreSound, HasWrite, HoldsWrite, MayWait}
use Rattle.standing_laws.proofs.Owners.{read_keeps as write_stays}
use Rattle.standing_laws.proofs.Among.{IsAmong, all_at, all_of, among_map, mapped_among, found_is, among_filter, filter_among, among_append, among_first, among_second}
use Rattle.standing_laws.proofs.Writers.{write_is}
use Rattle.serial_replay.specs.Replay.{AnsweredCall, is_evaluated}
use Rattle.serial_replay.proofs.Rising.{RisesBy, one_of_name, rises_kept, same_items, same_names}
use Rattle.serial_replay.proofs.Holding.{Sort, IsSort, Holds, writes, to_write, from_write, ranges, any_lock, range_can, weaker, all_got_keeps, all_got_gets, read_keeps, IsFreeNeed, free_needs}
use Rattle.serial_replay.proofs.Occupied.{IsWritten, flat_is, flat_has}
use Rattle.serial_replay.proofs.Shut.{Closed, is_inside, place, IsThere, IsShut, only, only_shut, MayWrite, no_phantom, closed_by, IsEndedBy, ended_by, taken_there, covers, shuts}
use Rattle.serial_replay.proofs.Stores.{Over, over_by, Base, Numbers, base_of, pairs_of, base_in, pairs_in, base_at, pairs_at}
use Rattle.serial_replay.proofs.Keeping.{Said, view_in as view_said, see_with, IsReplyIn, occupied_at, IsUsedBy, IsSer, IsHeldIn, IsRepeatableAs, IsRepeatable, IsStable, stable_same, well_same, IsKept, shut_kept, keeps, IsGround}
use Rattle.serial_replay.proofs.Through.{records_number, changed_by, answered_by, data_is, IsFound, found_target, index_kind}
use Rattle.serial_replay.proofs.Here.{HasRecords, base_is as base_is_there, pairs_are as pairs_are_there, view_up as view_up_there, listed as listed_there, has as has_there, names_up as names_up_there, view_seen as view_seen_there, may_write as may_write_there}
use Rattle.serial_replay.proofs.Places.{IsTargetOf}
use Rattle.serial_replay.proofs.Calls.{IsEarly, early_is, evaluation_early, IsPut, IsSerPart, ser_part, nothing_seen, IsProper, changes_proper, IsFirst, AnswersRecord, answers_record, answers_late, own_is_none, IsPlaceOf, place_is}

-- ---- lists

all_front : {X : Type 0} (P : X → Type 0) (xs ys : List X) → AllByRecursion P (xs ++ ys) → AllByRecursion P xs
all_front P [] ys h = tt
all_front P (x ∷ xs) ys h = (h.0, all_front P xs ys h.1)

all_behind : {X : Type 0} (P : X → Type 0) (xs ys : List X) → AllByRecursion P (xs ++ ys) → AllByRecursion P ys
all_behind P [] ys h = h
all_behind P (x ∷ xs) ys h = all_behind P xs ys h.1

all_push : {X : Type 0} (P : X → Type 0) (xs : List X) (x : X) → AllByRecursion P xs → P x → AllByRecursion P (xs ++ x ∷ [])
all_push P [] x h k = (k, tt)
all_push P (y ∷ xs) x h k = (h.0, all_push P xs x h.1 k)

-- what holds of lists joined holds of each
each_of : {X Y : Type 0} (P : Y → Type 0) (f : X → List Y) (xs : List X) (x : X) → AllByRecursion P (flat_map f xs) → IsAmong x xs → AllByRecursion P (f x)
each_of P f [] x h a = absurd a
each_of P f (y ∷ xs) x h (inl e) = subst (λ z. AllByRecursion P (f z)) e (all_front P (f y) (flat_map f xs) h)
each_of P f (y ∷ xs) x h (inr a) = each_of P f xs x (all_behind P (f y) (flat_map f xs) h) a

-- the record of a name, where names rise
at_is : (kind : Kind) (v : List Pair) (p : Pair) → RisesBy (name_of kind) v → IsAmong p v → at_name kind (name_of kind p) v ≡ p ∷ []
at_is kind v p up a = same_items (name_of kind) (filter test v) (p ∷ []) (rises_kept (name_of kind) test v up) (tt, tt) there back
  where
    test : Pair → Bool
    test q = is_eq (name_cmp (name_of kind q) (name_of kind p))

    there : (z : Pair) → IsAmong z (filter test v) → IsAmong z (p ∷ [])
    there z k = let f = filter_among test v z k in
        inl (sym (one_of_name (name_of kind) v z p up f.0 a (name_exact (name_of kind z) (name_of kind p) (equal_from_test (name_cmp (name_of kind z) (name_of kind p)) f.1))))

    back : (z : Pair) → IsAmong z (p ∷ []) → IsAmong z (filter test v)
    back z (inl e) = subst (λ (q : Pair). IsAmong q (filter test v)) e (among_filter test v p a (ap is_eq (same_names (name_of kind p))))
    back z (inr k) = absurd k

-- ---- locks given back

-- another transaction's locks stay; and at the levels that keep theirs, the transaction's own
pub back_keeps : (sort : Sort) → IsSort sort → (level : Isolation) (t u : TxnId) (at : Queues) (r : RecordId) → is_same_txn t u ≡ false → Holds sort u (at r).0 → Holds sort u (given_back level t at r).0
back_keeps sort s ReadUncommitted t u at r apart h = h
back_keeps sort s ReadCommitted t u at r apart h = read_keeps sort s t u (at r) apart h
back_keeps sort s RepeatableRead t u at r apart h = h
back_keeps sort s Serializable t u at r apart h = h

write_back : (level : Isolation) (t u : TxnId) (at : Queues) (r : RecordId) → HasWrite u (at r).0 → HasWrite u (given_back level t at r).0
write_back ReadUncommitted t u at r h = h
write_back ReadCommitted t u at r h = write_stays t u (at r) h
write_back RepeatableRead t u at r h = h
write_back Serializable t u at r h = h

pub back_none : (level : Isolation) (t : TxnId) (at : Queues) (r : RecordId) → keeps level ≡ true → given_back level t at r ≡ at r
back_none ReadUncommitted t at r k = absurd (both_ways false refl k)
back_none ReadCommitted t at r k = absurd (both_ways false refl k)
back_none RepeatableRead t at r k = refl
back_none Serializable t at r k = refl

own_seen : (level : Isolation) (st : Standing) (txn : ℕ) → keeps level ≡ true → seen_changes level st txn ≡ st.own txn
own_seen ReadUncommitted st txn k = absurd (both_ways false refl k)
own_seen ReadCommitted st txn k = refl
own_seen RepeatableRead st txn k = refl
own_seen Serializable st txn k = refl

keeps_ser : (level : Isolation) → level ≡ Serializable → keeps level ≡ true
keeps_ser level e = ap keeps e

keeps_repeatable : (level : Isolation) → level ≡ RepeatableRead → keeps level ≡ true
keeps_repeatable level e = ap keeps e

-- ---- the ranges that a call shuts: where its cursor stands, and what it passes if it looks

abbrev closed_at : Option Name → List Closed
closed_at None = []
closed_at (Some n) = only n ∷ []

abbrev closed_part : Range → Bool → List Name → Option Part → List Closed
closed_part passed ended names None = []
closed_part passed ended names (Some p) = closed_by passed ended names ∷ []

abbrev closed_read : Range → Bool → List Name → Option Part → Option Answer → List Closed
closed_read passed ended names part None = closed_part passed ended names part
closed_read passed ended names part (Some answer) = []

-- ---- the call

no_position : (o : Over) (records : List Pair) → is_evaluated (answered_by o records NoPosition) ≡ false
no_position None records = refl
no_position (Some o) records = refl

-- what it changes, with those in the indexes
abbrev pub made : Standing → Active → Call → Target → List (Numbered × RecordChange)
made st a call g = changes_with st a g (outcome_of st a call g).changes

module _ (st : Standing) (a : Active) (call : Call) (g : Target) (told : List AnsweredCall) (may : MayWait call) (sound : AreSound st) (ground : IsGround st told) (on : IsTargetOf st a call g)
    (free : first_blocked a.txn (needs_in st a call g) st.locks.at ≡ None) where
  abbrev kind : Kind
  kind = g.database.kind

  abbrev over : Over
  over = over_by st.numbers g.database.index

  abbrev self : Numbered
  self = (g.db, g.database)

  abbrev view : List Pair
  view = view_of st a g

  abbrev names : List Name
  names = occupied st g

  abbrev look : Look
  look = look_of g.database.kind call g.at

  abbrev taken : List Pair
  taken = seen g.database.kind (look_of g.database.kind call g.at).way (look_of g.database.kind call g.at).range (view_of st a g)

  abbrev early : Option Answer
  early = early_of g.database.kind call g.at (view_of st a g)

  abbrev concluded : Evaluated
  concluded = conclude g.database.kind call g.at (seen g.database.kind (look_of g.database.kind call g.at).way (look_of g.database.kind call g.at).range (view_of st a g))

  abbrev raw : Evaluated
  raw = evaluation g.database.kind call g.at (view_of st a g)

  abbrev passed : Range
  passed = passed_to g.database.kind (look_of g.database.kind call g.at).way (look_of g.database.kind call g.at).range
      (seen g.database.kind (look_of g.database.kind call g.at).way (look_of g.database.kind call g.at).range (view_of st a g))

  abbrev ended : Bool
  ended = ends (look_of g.database.kind call g.at).way
      (conclude g.database.kind call g.at (seen g.database.kind (look_of g.database.kind call g.at).way (look_of g.database.kind call g.at).range (view_of st a g))).answered
      (seen g.database.kind (look_of g.database.kind call g.at).way (look_of g.database.kind call g.at).range (view_of st a g))

  abbrev occ : Name → Type 0
  occ x = occupied_at st g.db g.database.kind x

  abbrev base : Base
  base = (g.database.name, g.database.kind, over_by st.numbers g.database.index)

  raw_is : (o : Option Answer) → early ≡ o → raw ≡ unless_early o g.at concluded
  raw_is o e = evaluation_early g.database.kind call g.at (view_of st a g) o e

  pub base_is : base_at g.db st ≡ Some base
  base_is = base_is_there st a told sound ground self on.here

  -- the database whose records it changes
  pub found : IsFound st.numbers st.store g.db g.database g (over_by st.numbers g.database.index)
  found = subst (λ (x : Target). IsFound st.numbers st.store g.db g.database x (over_by st.numbers g.database.index)) on.is
      (found_target st.numbers st.last_db st.store ground.well.store ground.well.numbers ground.well.over g.db g.at g.database on.here)

  abbrev q : ℕ
  q = records_number g.db (over_by st.numbers g.database.index)

  -- each of its changes is one of the records, or in an index
  made_of : (m : Numbered × RecordChange) → IsAmong m (made st a call g)
      → (c : RecordChange) × IsAmong c (outcome_of st a call g).changes × (((changed_database g.over (g.db, g.database), changed_through g.over c) ≡ m) ⊎ IsAmong m.0 g.indexes)
  made_of m k =
      let f = flat_is (λ (c : RecordChange). with_indexes (changed_database g.over (g.db, g.database)) g.indexes (view_in st a (changed_database g.over (g.db, g.database))) (changed_through g.over c)) (outcome_of st a call g).changes m k in
      (f.0, f.1, ⊎_elim (λ e. inl e) (λ i. inr (in_one f.0 i)) f.2)
    where
      in_one : (c : RecordChange) → IsAmong m (flat_map (λ i. map (λ y. (i, y)) (changes_in i.1.index (view_in st a (changed_database g.over (g.db, g.database))) (changed_through g.over c))) g.indexes) → IsAmong m.0 g.indexes
      in_one c i =
          let f = flat_is (λ (x : Numbered). map (λ y. (x, y)) (changes_in x.1.index (view_in st a (changed_database g.over (g.db, g.database))) (changed_through g.over c))) g.indexes m i in
          let p = mapped_among (λ (y : RecordChange). (f.0, y)) _ m f.2 in
          subst (λ (x : Numbered). IsAmong x g.indexes) (ap (λ (z : Numbered × RecordChange). z.0) p.2) f.1

  pub made_there : (m : Numbered × RecordChange) → IsAmong m (made st a call g) → database_at m.0.0 st ≡ Some m.0.1
  made_there m k = let f = made_of m k in ⊎_elim
      (λ e. subst (λ (x : Numbered). database_at x.0 st ≡ Some x.1) (sym found.changing ∙ ap (λ (z : Numbered × RecordChange). z.0) e) found.here)
      (λ i. (found.indexes.its m.0 i).0)
      f.2

  pub made_proper : (m : Numbered × RecordChange) → IsAmong m (made st a call g) → proper m.0.1.kind (changed_name m.1) ≡ changed_name m.1
  made_proper m k = let f = made_of m k in ⊎_elim
      (λ e. subst (λ (z : Numbered × RecordChange). proper z.0.1.kind (changed_name z.1) ≡ changed_name z.1) e
      (subst (λ (x : Numbered). proper x.1.kind (changed_name (changed_through g.over f.0)) ≡ changed_name (changed_through g.over f.0)) (sym found.changing)
      (subst (λ (c : RecordChange). proper found.records.kind (changed_name c) ≡ changed_name c) (sym (found.through f.0)) (own (over_by st.numbers g.database.index) refl f.0 f.1))))
      (λ i. let its = found.indexes.its m.0 i in
      subst (λ (x : Kind). proper x (changed_name m.1) ≡ changed_name m.1)
      (sym (index_kind st.numbers st.store m.0.1 (q, its.1.0) ground.well.over (found_is (λ (d : Database). st.numbers d.name == m.0.0) st.store.databases m.0.1 its.0).0 its.1.1)) refl)
      f.2
    where
      own : (o : Over) → over_by st.numbers g.database.index ≡ o → (c : RecordChange) → IsAmong c (outcome_of st a call g).changes → proper found.records.kind (changed_name (changed_by o c)) ≡ changed_name (changed_by o c)
      own (Some o) e c i = ap (λ (x : Kind). proper x (named (changed_name c).dup [])) (found.over_plain o e)
      own None e c i = ap (λ (x : Kind). proper x (changed_name c)) kind_is ∙ all_at (IsProper g.database.kind) raw.changes c (changes_proper g.database.kind call g.at (view_of st a g) may) i
        where
          kind_is : found.records.kind ≡ g.database.kind
          kind_is = ap (λ (d : Database). d.kind) (one_is found.records g.database (sym (subst (λ (v : Over). database_at (records_number g.db v) st ≡ Some found.records) e found.here) ∙ on.here))
            where
              one_is : (x y : Database) → Some x ≡ Some y → x ≡ y
              one_is x y h = cc (h)

  -- its own changes are among them, where it is on no index
  own_made : over_by st.numbers g.database.index ≡ None → (c : RecordChange) → IsAmong c (outcome_of st a call g).changes → IsAmong ((g.db, g.database), c) (made st a call g)
  own_made none c i = subst (λ (z : Numbered × RecordChange). IsAmong z (made st a call g)) (ap₂ (λ (x : Numbered) (y : RecordChange). (x, y)) database_is change_is)
      (flat_has (λ (y : RecordChange). with_indexes (changed_database g.over (g.db, g.database)) g.indexes (view_in st a (changed_database g.over (g.db, g.database))) (changed_through g.over y)) (outcome_of st a call g).changes c
      (changed_database g.over (g.db, g.database), changed_through g.over c) i (inl refl))
    where
      change_is : changed_through g.over c ≡ c
      change_is = found.through c ∙ ap (λ (v : Over). changed_by v c) none

      database_is : changed_database g.over (g.db, g.database) ≡ (g.db, g.database)
      database_is = found.changing ∙ (ap (λ (v : Over). (records_number g.db v, found.records)) none ∙ ap (λ (d : Database). (g.db, d)) (one_is found.records g.database
          (sym (subst (λ (v : Over). database_at (records_number g.db v) st ≡ Some found.records) none found.here) ∙ on.here)))
        where
          one_is : (x y : Database) → Some x ≡ Some y → x ≡ y
          one_is x y h = cc (h)

  -- a call that an index refuses is on none
  on_none : IsPut call → over_by st.numbers g.database.index ≡ None
  on_none put = by g.database.index refl
    where
      by : (i : Option Index) → g.database.index ≡ i → over_by st.numbers g.database.index ≡ None
      by None e = ap (over_by st.numbers) e
      by (Some index) e = let k = sym (put index) ∙ (ap (index_refusal call) (sym e) ∙ on.allowed) in absurd (cc (k))

  -- ---- its needs

  abbrev front : List Need
  front = part_needs g.db (part_of a.level call) passed ended (occupied st g)

  abbrev middle : List Need
  middle = record_needs (part_of a.level call) g.over concluded.answer

  abbrev back : List Need
  back = flat_map (change_needs a.level (view_in st a) (occupied_in st)) (all_changes g.over (g.db, g.database) g.indexes (view_in st a) concluded.changes)

  needs_are : (o : Option Answer) → early ≡ o → needs_in st a call g ≡ needs_unless o (front ++ middle ++ back)
  needs_are o e = ap (λ (x : Option Answer). needs_unless x (front ++ middle ++ back)) e

  -- what holds of all needs holds of those of a change
  of_change : (P : Need → Type 0) (m : Numbered × RecordChange) → IsAmong m (made st a call g) → AllByRecursion P (needs_in st a call g) → AllByRecursion P (change_needs a.level (view_in st a) (occupied_in st) m)
  of_change P m k h = by early refl
    where
      by : (o : Option Answer) → early ≡ o → AllByRecursion P (change_needs a.level (view_in st a) (occupied_in st) m)
      by None e = each_of P (change_needs a.level (view_in st a) (occupied_in st)) (all_changes g.over (g.db, g.database) g.indexes (view_in st a) concluded.changes) m
          (all_behind P (front ++ middle) back (subst (AllByRecursion P) (needs_are None e) h))
          (subst (λ (v : Evaluated). IsAmong m (all_changes g.over (g.db, g.database) g.indexes (view_in st a) v.changes)) (raw_is None e) k)
      by (Some answer) e = absurd (subst (λ (v : Evaluated). IsAmong m (all_changes g.over (g.db, g.database) g.indexes (view_in st a) v.changes)) (raw_is (Some answer) e) k)

  -- and of those of what it read, if it looked
  of_read : (P : Need → Type 0) → early ≡ None → AllByRecursion P (needs_in st a call g) → AllByRecursion P front
  of_read P e h = all_front P front middle (all_front P (front ++ middle) back (subst (AllByRecursion P) (needs_are None e) h))

  of_record : (P : Need → Type 0) → early ≡ None → AllByRecursion P (needs_in st a call g) → AllByRecursion P middle
  of_record P e h = all_behind P front middle (all_front P (front ++ middle) back (subst (AllByRecursion P) (needs_are None e) h))

  may_write : (m : Numbered × RecordChange) → IsAmong m (made st a call g) → MayWrite st.locks.at (λ (n : Name). occupied_at st m.0.0 m.0.1.kind n) (occupied_in st m.0) a.txn m.0.0 (changed_name m.1)
  may_write m k = may_write_there st a told sound ground m.0 (made_there m k) m.1 (of_change (IsFreeNeed a.txn st.locks.at) m k (free_needs a.txn (needs_in st a call g) st.locks.at free))

  other_txn : (t : TxnId) → (t ≡ a.txn → ⊥) → is_same_txn t a.txn ≡ false
  other_txn t apart = ⊎_elim (λ e. absurd (apart (same_is t a.txn e))) (λ e. e) (cases_Bool (is_same_txn t a.txn))

  -- no change is in another transaction's range
  out : (t : TxnId) → (t ≡ a.txn → ⊥) → (m : Numbered × RecordChange) → IsAmong m (made st a call g) → (c : Closed) → IsShut st.locks.at (λ (n : Name). occupied_at st m.0.0 m.0.1.kind n) t m.0.0 c → is_inside c (changed_name m.1) ≡ true → ⊥
  out t apart m k c shut h =
      no_phantom st.locks.at (λ (n : Name). occupied_at st m.0.0 m.0.1.kind n) (occupied_in st m.0) (listed_there st a told sound ground m.0 (made_there m k)) (has_there st a told sound ground m.0 (made_there m k))
      (names_up_there st a told sound ground m.0 (made_there m k)) t a.txn (other_txn t apart) m.0.0 c shut (changed_name m.1) (may_write m k) h

  -- ---- where it leaves the environment

  -- its locks are got, and given back as the level says; its changes are the transaction's own
  pub record IsCallOf (new : Standing) : Type 0 where
    pub store : new.store ≡ st.store
    pub numbers : new.numbers ≡ st.numbers
    pub last_db : new.last_db ≡ st.last_db
    pub last_txn : new.last_txn ≡ st.last_txn
    pub own : (t : ℕ) → new.own t ≡ with_at a.txn.0 (st.own a.txn.0 ++ with_numbers (made st a call g)) st.own t
    pub places : (session : ℕ) → new.places session ≡ with_at a.session (moved call (outcome_of st a call g).place (st.places a.session)) st.places session
    pub locks : (r : RecordId) → new.locks.at r ≡ given_back a.level a.txn (all_got a.txn (needs_in st a call g) st.locks.at) r

  module _ (new : Standing) (step : IsCallOf new) where
    pub base_new : (n : ℕ) → base_at n new ≡ base_at n st
    base_new n = ap₂ (λ (m : Numbers) (s : Store). base_in m n s) step.numbers step.store

    pairs_new : (n : ℕ) → pairs_at n new ≡ pairs_at n st
    pairs_new n = ap₂ (λ (m : Numbers) (s : Store). pairs_in m n s) step.numbers step.store

    pub stable_call : IsStable st new
    stable_call = stable_same st new base_new

    pub own_other : (t : ℕ) → (t ≡ a.txn.0 → ⊥) → new.own t ≡ st.own t
    own_other t apart = step.own t ∙ cond-false (t == a.txn.0) (st.own a.txn.0 ++ with_numbers (made st a call g)) (st.own t) (⊎_elim (λ e. absurd (apart (eqb-true t a.txn.0 e))) (λ e. e) (cases_Bool (t == a.txn.0)))

    pub own_its : new.own a.txn.0 ≡ st.own a.txn.0 ++ with_numbers (made st a call g)
    own_its = step.own a.txn.0 ∙ cond-true (a.txn.0 == a.txn.0) (st.own a.txn.0 ++ with_numbers (made st a call g)) (st.own a.txn.0) (grind (arith, nat_tests))

    -- a name that this call wrote
    abbrev IsNewAt : ℕ → Name → Type 0
    IsNewAt n x = (m : Numbered × RecordChange) × IsAmong m (made st a call g) × (m.0.0 ≡ n) × (changed_name m.1 ≡ x)

    written_now : (n : ℕ) (x : Name) → IsWritten new.own n x → IsWritten st.own n x ⊎ IsNewAt n x
    written_now n x w = ⊎_elim
        (λ e. its (among_append (st.own a.txn.0) (with_numbers (made st a call g)) (n, w.change)
        (subst (IsAmong (n, w.change)) (step.own w.txn ∙ cond-true (w.txn == a.txn.0) (st.own a.txn.0 ++ with_numbers (made st a call g)) (st.own w.txn) e) w.there)))
        (λ e. inl (record {
          txn = w.txn;
          change = w.change;
          named = w.named;
          there = subst (IsAmong (n, w.change)) (step.own w.txn ∙ cond-false (w.txn == a.txn.0) (st.own a.txn.0 ++ with_numbers (made st a call g)) (st.own w.txn) e) w.there;
        }))
        (cases_Bool (w.txn == a.txn.0))
      where
        its : IsAmong (n, w.change) (st.own a.txn.0) ⊎ IsAmong (n, w.change) (with_numbers (made st a call g)) → IsWritten st.own n x ⊎ IsNewAt n x
        its (inl k) = inl (record { txn = a.txn.0; change = w.change; there = k; named = w.named })
        its (inr k) =
            let r = mapped_among (λ (z : Numbered × RecordChange). (z.0.0, z.1)) (made st a call g) (n, w.change) k in
            inr (r.0, r.1, ap (λ (z : ℕ × RecordChange). z.0) r.2, ap (λ (z : ℕ × RecordChange). changed_name z.1) r.2 ∙ w.named)

    written_still : (n : ℕ) (x : Name) → IsWritten st.own n x → IsWritten new.own n x
    written_still n x w = ⊎_elim
        (λ e. record {
          txn = w.txn;
          change = w.change;
          named = w.named;
          there = subst (IsAmong (n, w.change)) (sym (step.own w.txn ∙ cond-true (w.txn == a.txn.0) (st.own a.txn.0 ++ with_numbers (made st a call g)) (st.own w.txn) e))
              (among_first (st.own a.txn.0) (with_numbers (made st a call g)) (n, w.change) (subst (λ (m : ℕ). IsAmong (n, w.change) (st.own m)) (eqb-true w.txn a.txn.0 e) w.there));
        })
        (λ e. record {
          txn = w.txn;
          change = w.change;
          named = w.named;
          there = subst (IsAmong (n, w.change)) (sym (step.own w.txn ∙ cond-false (w.txn == a.txn.0) (st.own a.txn.0 ++ with_numbers (made st a call g)) (st.own w.txn) e)) w.there;
        })
        (cases_Bool (w.txn == a.txn.0))

    occupied_now : (n : ℕ) (k : Kind) (x : Name) → occupied_at new n k x → occupied_at st n k x ⊎ IsNewAt n x
    occupied_now n k x (inl r) = inl (inl (record { pair = r.pair; there = subst (IsAmong r.pair) (pairs_new n) r.there; named = r.named }))
    occupied_now n k x (inr w) = by (written_now n x w)
      where
        by : IsWritten st.own n x ⊎ IsNewAt n x → occupied_at st n k x ⊎ IsNewAt n x
        by (inl o) = inl (inr o)
        by (inr o) = inr o

    occupied_still : (n : ℕ) (k : Kind) (x : Name) → occupied_at st n k x → occupied_at new n k x
    occupied_still n k x (inl r) = inl (record { pair = r.pair; there = subst (IsAmong r.pair) (sym (pairs_new n)) r.there; named = r.named })
    occupied_still n k x (inr w) = inr (written_still n x w)

    -- ---- the others

    same_at : (n : ℕ) (b : Base) (x : Name) → at_name b.1 x (pairs_at n st) ≡ at_name b.1 x (pairs_at n new)
    same_at n b x = ap (at_name b.1 x) (sym (pairs_new n))

    some_base : (x y : Base) → Some x ≡ Some y → x ≡ y
    some_base x y e = cc (e)

    out_at : (t : TxnId) → (t ≡ a.txn → ⊥) → (n : ℕ) (b : Base) → base_at n st ≡ Some b → (m : Numbered × RecordChange) → IsAmong m (made st a call g) → m.0.0 ≡ n → (c : Closed) → IsShut st.locks.at (occupied_at st n b.1) t n c
        → is_inside c (changed_name m.1) ≡ true → ⊥
    out_at t apart n b is m k e c shut h =
        let same : b.1 ≡ m.0.1.kind = ap (λ (z : Base). z.1) (some_base b (m.0.1.name, m.0.1.kind, over_by st.numbers m.0.1.index) (sym is ∙ (ap (λ (i : ℕ). base_at i st) (sym e) ∙ ap (base_of st.numbers) (made_there m k)))) in
        out t apart m k c (subst (λ (i : ℕ). IsShut st.locks.at (occupied_at st i m.0.1.kind) t i c) (sym e) (subst (λ (x : Kind). IsShut st.locks.at (occupied_at st n x) t n c) same shut)) h

    pub kept_other : (t : TxnId) (level : Isolation) → (t ≡ a.txn → ⊥) → IsKept t level st new
    kept_other t level apart = record {
      locks = λ sort s r h. subst (λ (q : List Lock × List Lock). Holds sort t q.0) (sym (step.locks r))
          (back_keeps sort s a.level a.txn t (all_got a.txn (needs_in st a call g) st.locks.at) r other (all_got_keeps sort s a.txn t (needs_in st a call g) st.locks.at r h));
      alike = λ n b x used e. inl (same_at n b x);
      occupied = λ ser n b x used e o. by n b x e (occupied_now n b.1 x o);
      stays = λ n b x used e h o. occupied_still n b.1 x o;
    }
      where
        other : is_same_txn a.txn t ≡ false
        other = ⊎_elim (λ e. absurd (apart (sym (same_is a.txn t e)))) (λ e. e) (cases_Bool (is_same_txn a.txn t))

        by : (n : ℕ) (b : Base) (x : Name) → base_at n st ≡ Some b → occupied_at st n b.1 x ⊎ IsNewAt n x
            → occupied_at st n b.1 x ⊎ ((c : Closed) → IsShut st.locks.at (occupied_at st n b.1) t n c → is_inside c x ≡ true → Holds is_range t (new.locks.at (place n (On x))).0)
        by n b x e (inl o) = inl o
        by n b x e (inr o) = inr (λ c shut i. absurd (out_at t apart n b e o.0 o.1 o.2 c shut (subst (λ (z : Name). is_inside c z ≡ true) (sym o.3) i)))

    -- ---- the transaction's own calls before this one

    locks_new : keeps a.level ≡ true → (r : RecordId) → new.locks.at r ≡ all_got a.txn (needs_in st a call g) st.locks.at r
    locks_new k r = step.locks r ∙ back_none a.level a.txn (all_got a.txn (needs_in st a call g) st.locks.at) r k

    -- what it needed it has
    gets : (sort : Sort) → IsSort sort → keeps a.level ≡ true → AllByRecursion (λ m. sort m.asked ≡ true → Holds sort a.txn (new.locks.at (record_of m)).0) (needs_in st a call g)
    gets sort s k = all_each (λ m. sort m.asked ≡ true → Holds sort a.txn (all_got a.txn (needs_in st a call g) st.locks.at (record_of m)).0) (λ m. sort m.asked ≡ true → Holds sort a.txn (new.locks.at (record_of m)).0)
        (λ m h e. subst (λ (q : List Lock × List Lock). Holds sort a.txn q.0) (sym (locks_new k (record_of m))) (h e)) (needs_in st a call g) (all_got_gets sort s a.txn (needs_in st a call g) st.locks.at free)
      where
        all_each : (P Q : Need → Type 0) → ((m : Need) → P m → Q m) → (l : List Need) → AllByRecursion P l → AllByRecursion Q l
        all_each P Q f [] h = tt
        all_each P Q f (m ∷ l) h = (f m h.0, all_each P Q f l h.1)

    -- what it changes it then holds for writing
    pub writes_held : AllByRecursion (HoldsWrite new.locks.at a.txn) (with_numbers (made st a call g))
    writes_held = all_of (HoldsWrite new.locks.at a.txn) (with_numbers (made st a call g)) (λ c i.
        let m = mapped_among (λ (z : Numbered × RecordChange). (z.0.0, z.1)) (made st a call g) c i in
        let r : RecordId = place m.0.0.0 (On (changed_name m.0.1)) in
        let h = (of_change (λ n. is_write n.asked ≡ true → Holds is_write a.txn (all_got a.txn (needs_in st a call g) st.locks.at (record_of n)).0) m.0 m.1
        (all_got_gets is_write writes a.txn (needs_in st a call g) st.locks.at free)).0 (write_is a.level) in
        subst (HoldsWrite new.locks.at a.txn) m.2
        (subst (λ (l : List Lock × List Lock). HasWrite a.txn l.0) (sym (step.locks r))
        (write_back a.level a.txn a.txn (all_got a.txn (needs_in st a call g) st.locks.at) r (to_write a.txn (all_got a.txn (needs_in st a call g) st.locks.at r).0 h))))

    new_held : a.level ≡ Serializable → (m : Numbered × RecordChange) → IsAmong m (made st a call g) → Holds is_range a.txn (new.locks.at (place m.0.0 (On (changed_name m.1)))).0
    new_held ser m k = (of_change (λ n. is_range n.asked ≡ true → Holds is_range a.txn (new.locks.at (record_of n)).0) m k (gets is_range ranges (keeps_ser a.level ser))).0
        (ap (λ (l : Isolation). is_range (write_type l)) ser)

    new_held_at : a.level ≡ Serializable → (n : ℕ) (x : Name) → IsNewAt n x → Holds is_range a.txn (new.locks.at (place n (On x))).0
    new_held_at ser n x o = subst (λ (m : ℕ). Holds is_range a.txn (new.locks.at (place m (On x))).0) o.2
        (subst (λ (m : Name). Holds is_range a.txn (new.locks.at (place o.0.0.0 (On m))).0) o.3 (new_held ser o.0 o.1))

    pub kept_own : keeps a.level ≡ true → IsKept a.txn a.level st new
    kept_own k = record {
      locks = λ sort s r h. subst (λ (q : List Lock × List Lock). Holds sort a.txn q.0) (sym (locks_new k r)) (all_got_keeps sort s a.txn a.txn (needs_in st a call g) st.locks.at r h);
      alike = λ n b x used e. inl (same_at n b x);
      occupied = λ ser n b x used e o. by ser n b x (occupied_now n b.1 x o);
      stays = λ n b x used e h o. occupied_still n b.1 x o;
    }
      where
        by : a.level ≡ Serializable → (n : ℕ) (b : Base) (x : Name) → occupied_at st n b.1 x ⊎ IsNewAt n x
            → occupied_at st n b.1 x ⊎ ((c : Closed) → IsShut st.locks.at (occupied_at st n b.1) a.txn n c → is_inside c x ≡ true → Holds is_range a.txn (new.locks.at (place n (On x))).0)
        by ser n b x (inl o) = inl o
        by ser n b x (inr o) = inr (λ c shut i. new_held_at ser n x o)

    -- ---- this call

    abbrev pub said_now : Said
    said_now = record {
      db = g.db;
      base = (g.database.name, g.database.kind, over_by st.numbers g.database.index);
      call = call;
      at = g.at;
      came = evaluation g.database.kind call g.at (view_of st a g);
      answer = (outcome_of st a call g).answer;
      changes = with_numbers (made st a call g);
      before = st.own a.txn.0;
      closed = closed_at g.at ++ closed_read passed ended (occupied st g) (part_of a.level call) early;
    }

    view_now : keeps a.level ≡ true → view_said new said_now ≡ view
    view_now k = ap₂ (λ (l : List (ℕ × RecordChange)) (ps : List Pair). all_pairs_changed kind (of_db g.db l) ps) (sym (own_seen a.level st a.txn.0 k)) (pairs_new g.db ∙ pairs_are_there st a told sound ground self on.here)

    is_end : ended ≡ true → IsEndedBy kind view look.range passed
    is_end e = ended_by kind look.way look.range view concluded.answered taken refl e

    there_now : base_at g.db new ≡ Some said_now.base
    there_now = base_new g.db ∙ base_is

    abbrev names_now : Name → Type 0
    names_now x = occupied_at new g.db kind x

    -- what it comes to with indexes
    reply_now : keeps a.level ≡ true → IsReplyIn new.numbers new.store (st.own a.txn.0) said_now
    reply_now k = subst (λ (m : Numbers). IsReplyIn m new.store (st.own a.txn.0) said_now) (sym step.numbers) (subst (λ (x : Store). IsReplyIn st.numbers x (st.own a.txn.0) said_now) (sym step.store) (record {
      database = g.database;
      here = on.here;
      over = refl;
      answer = subst (λ (x : Target). answer_through x.over (see_with (st.own a.txn.0)) raw.answer ≡ (outcome_of st a call g).answer) (sym on.is)
          (ap (λ (l : List (ℕ × RecordChange)). answer_through g.over (see_with l) raw.answer) (sym (own_seen a.level st a.txn.0 k)));
      changes = subst (λ (x : Target). with_numbers (all_changes x.over (g.db, g.database) x.indexes (see_with (st.own a.txn.0)) raw.changes) ≡ with_numbers (made st a call g)) (sym on.is)
          (ap (λ (l : List (ℕ × RecordChange)). with_numbers (all_changes g.over (g.db, g.database) g.indexes (see_with l) raw.changes)) (sym (own_seen a.level st a.txn.0 k)));
    }))

    -- the primary's record that it answers is locked
    locked_over : keeps a.level ≡ true → (o : ℕ × Extract) → over ≡ Some o → (key primary_key : List ℕ) → raw.answer ≡ Rec key primary_key → (inside : LockType) (behind : Option LockType)
        → part_of a.level call ≡ Some (record { inside = inside; behind = behind }) → can_be_held inside ≡ true → Holds can_be_held a.txn (new.locks.at (place o.0 (On (named primary_key [])))).0
    locked_over k o e key primary_key h inside behind part can =
        (subst (AllByRecursion (λ (m : Need). can_be_held m.asked ≡ true → Holds can_be_held a.txn (new.locks.at (record_of m)).0)) needs
        (of_record (λ (m : Need). can_be_held m.asked ≡ true → Holds can_be_held a.txn (new.locks.at (record_of m)).0) late (gets can_be_held any_lock k))).0 can
      where
        late : early ≡ None
        late = answers_late kind call g.at view key primary_key h

        needs : middle ≡ need o.0 (On (named primary_key [])) inside ∷ []
        needs = ap (λ (p : Option Part). record_needs p g.over concluded.answer) part
            ∙ (ap (λ (x : Option Numbered). record_needs (Some (record { inside = inside; behind = behind })) x concluded.answer) (found.over o e)
            ∙ ap (record_needs (Some (record { inside = inside; behind = behind })) (Some (o.0, found.records))) (sym (ap (λ (v : Evaluated). v.answer) (raw_is None late)) ∙ h))

    record_of_call : (key primary_key : List ℕ) → raw.answer ≡ Rec key primary_key → AnswersRecord call taken (key, primary_key)
    record_of_call key primary_key h = answers_record kind call g.at taken key primary_key may (sym (ap (λ (v : Evaluated). v.answer) (raw_is None (answers_late kind call g.at view key primary_key h))) ∙ h)

    -- at serializable, where the place of its cursor was shut
    module _ (ser : a.level ≡ Serializable) (at_place : (n : Name) → g.at ≡ Some n → IsShut st.locks.at occ a.txn g.db (only n)) where
      k : keeps a.level ≡ true
      k = keeps_ser a.level ser

      part_is : part_of a.level call ≡ part_of Serializable call
      part_is = ap (λ (l : Isolation). part_of l call) ser

      place_still : (n : Name) → g.at ≡ Some n → IsShut new.locks.at names_now a.txn g.db (only n)
      place_still n e = shut_kept a.txn a.level st new stable_call (kept_own k) ground.well (well_same st new step.store step.numbers step.last_db ground.well) ser g.db base (only n) base_is (at_place n e)

      -- what it passed, if it looked and reads anything
      shut_read : early ≡ None → (inside behind : LockType) → part_of Serializable call ≡ Some (record { inside = inside; behind = Some behind }) → is_range inside ≡ true → is_range behind ≡ true
          → IsShut new.locks.at occ a.txn g.db (closed_by passed ended names)
      shut_read late inside behind e r q =
          let p : Part = record { inside = inside; behind = Some behind } in
          shuts kind view look.range passed ended names is_end new.locks.at a.txn g.db inside behind p refl r q
          (subst (λ (o : Option Part). AllByRecursion (λ (m : Need). is_range m.asked ≡ true → Holds is_range a.txn (new.locks.at (record_of m)).0) (part_needs g.db o passed ended names)) (part_is ∙ e)
          (of_read (λ (m : Need). is_range m.asked ≡ true → Holds is_range a.txn (new.locks.at (record_of m)).0) late (gets is_range ranges k)))
          occ (listed_there st a told sound ground self on.here) (has_there st a told sound ground self on.here) (names_up_there st a told sound ground self on.here) (view_seen_there st a told sound ground self on.here)

      widen : (c : Closed) → IsShut new.locks.at occ a.txn g.db c → IsShut new.locks.at names_now a.txn g.db c
      widen c h = record { inside = λ x o i. ⊎_elim (λ old. h.inside x old i) (λ now. new_held_at ser g.db x now) (occupied_now g.db kind x o); top = h.top; stays = still c.top h.stays }
        where
          still : (top : Bound) → IsThere occ top → IsThere names_now top
          still (On y) o = occupied_still g.db kind y o
          still top o = tt

      -- ---- where it leaves its cursor

      pub place_now : (n : Name) → (outcome_of st a call g).place ≡ Some n → IsShut new.locks.at names_now a.txn g.db (only n)
      place_now n h = by early refl
        where
          at_first : early ≡ None → (p : Pair) → IsFirst p taken → name_of kind p ≡ n → IsSerPart kind call g.at (part_of Serializable call) → IsShut new.locks.at names_now a.txn g.db (only n)
          at_first e p f is (inr w) =
              let none : [] ≡ p ∷ f.0 = sym (ap (λ (l : Look). seen kind l.way l.range view) w.1 ∙ nothing_seen kind view) ∙ f.1 in absurd (cc (none))
          at_first e p f is (inl w) =
              let t = taken_there kind look.way look.range view p f.0 f.1 in
              let o : occ (name_of kind p) = view_seen_there st a told sound ground self on.here (name_of kind p) (record { pair = p; there = t.0; named = refl }) in
              let into : is_within passed (name_of kind p) ≡ true = subst (λ (l : List Pair). is_within (passed_to kind look.way look.range l) (name_of kind p) ≡ true) (sym f.1) t.1 in
              let s = shut_read e w.0 w.1 w.2 w.3 w.4 in
              subst (λ (m : Name). IsShut new.locks.at names_now a.txn g.db (only m)) is
              (only_shut new.locks.at names_now a.txn g.db (name_of kind p) (occupied_still g.db kind (name_of kind p) o)
              (s.inside (name_of kind p) o (covers kind view look.range passed ended names is_end (name_of kind p) into)))

          written : over_by st.numbers g.database.index ≡ None → (c : RecordChange) → IsAmong c (outcome_of st a call g).changes → names_now (changed_name c)
          written none c i = inr (record {
            txn = a.txn.0;
            change = c;
            named = refl;
            there = subst (IsAmong (g.db, c)) (sym own_its)
                (among_second (st.own a.txn.0) (with_numbers (made st a call g)) (g.db, c) (among_map (λ (z : Numbered × RecordChange). (z.0.0, z.1)) (made st a call g) ((g.db, g.database), c) (own_made none c i)));
          })

          late : early ≡ None → IsPlaceOf (IsPut call) kind g.at taken concluded.changes n → IsShut new.locks.at names_now a.txn g.db (only n)
          late e (inl is) = place_still n is
          late e (inr (inl w)) = at_first e w.0 w.1 w.2 (ser_part kind call g.at may)
          late e (inr (inr w)) =
              let i : IsAmong w.0 (outcome_of st a call g).changes = subst (λ (v : Evaluated). IsAmong w.0 v.changes) (sym (raw_is None e)) w.1 in
              let none = on_none w.3 in
              subst (λ (m : Name). IsShut new.locks.at names_now a.txn g.db (only m)) w.2
              (only_shut new.locks.at names_now a.txn g.db (changed_name w.0) (written none w.0 i) (new_held ser ((g.db, g.database), w.0) (own_made none w.0 i)))

          by : (o : Option Answer) → early ≡ o → IsShut new.locks.at names_now a.txn g.db (only n)
          by None e = late e (place_is kind call g.at taken n may (sym (ap (λ (v : Evaluated). v.place) (raw_is None e)) ∙ h))
          by (Some answer) e = place_still n (sym (ap (λ (v : Evaluated). v.place) (raw_is (Some answer) e)) ∙ h)

      -- ---- what it depends on

      at_covers : (o : Option Name) (r : Range) → IsAmong r (place_range o) → (x : Name) → is_within r x ≡ true → (c : Closed) × IsAmong c (closed_at o) × (is_inside c x ≡ true)
      at_covers None r i x w = absurd i
      at_covers (Some n) r (inl e) x w = (only n, inl refl, subst (λ (q : Range). is_within q x ≡ true) (sym e) w)
      at_covers (Some n) r (inr i) x w = absurd i

      at_shut : (o : Option Name) → g.at ≡ o → (c : Closed) → IsAmong c (closed_at o) → IsShut new.locks.at names_now a.txn g.db c
      at_shut None e c i = absurd i
      at_shut (Some n) e c (inl is) = subst (λ (z : Closed). IsShut new.locks.at names_now a.txn g.db z) is (place_still n e)
      at_shut (Some n) e c (inr i) = absurd i

      abbrev read : Option Answer → List Closed
      read o = closed_read passed ended (occupied st g) (part_of a.level call) o

      read_is : (p : Part) → part_of Serializable call ≡ Some p → read None ≡ closed_by passed ended names ∷ []
      read_is p e = ap (closed_part passed ended (occupied st g)) (part_is ∙ e)

      read_none : part_of Serializable call ≡ None → read None ≡ []
      read_none e = ap (closed_part passed ended (occupied st g)) (part_is ∙ e)

      read_covers : (o : Option Answer) (r : Range) → IsAmong r (look_range o passed) → (x : Name) → is_within r x ≡ true → (c : Closed) × IsAmong c (read o) × (is_inside c x ≡ true)
      read_covers (Some answer) r i x w = absurd i
      read_covers None r (inr i) x w = absurd i
      read_covers None r (inl e) x w = by (ser_part kind call g.at may)
        where
          its : is_within passed x ≡ true
          its = subst (λ (q : Range). is_within q x ≡ true) (sym e) w

          by : IsSerPart kind call g.at (part_of Serializable call) → (c : Closed) × IsAmong c (read None) × (is_inside c x ≡ true)
          by (inl p) = (
            closed_by passed ended names,
            subst (IsAmong (closed_by passed ended names)) (sym (read_is (record { inside = p.0; behind = Some p.1 }) p.2)) (inl refl),
            covers kind view look.range passed ended names is_end x its,
          )
          by (inr p) = absurd (both_ways false refl (subst (λ (l : Look). is_within (passed_to kind l.way l.range taken) x ≡ true) p.1 its))

      read_shut : (o : Option Answer) → early ≡ o → (c : Closed) → IsAmong c (read o) → IsShut new.locks.at names_now a.txn g.db c
      read_shut (Some answer) e c i = absurd i
      read_shut None e c i = by (ser_part kind call g.at may)
        where
          its : (p : Part) → part_of Serializable call ≡ Some p → IsAmong c (closed_by passed ended names ∷ []) → closed_by passed ended names ≡ c
          its p f (inl is) = is
          its p f (inr k) = absurd k

          by : IsSerPart kind call g.at (part_of Serializable call) → IsShut new.locks.at names_now a.txn g.db c
          by (inl p) =
              let q : Part = record { inside = p.0; behind = Some p.1 } in
              subst (λ (z : Closed). IsShut new.locks.at names_now a.txn g.db z) (its q p.2 (subst (IsAmong c) (read_is q p.2) i))
              (widen (closed_by passed ended names) (shut_read e p.0 p.1 p.2 p.3 p.4))
          by (inr p) = absurd (subst (IsAmong c) (read_none p.0) i)

      used_at : (c : Closed) → IsShut new.locks.at names_now a.txn g.db c → IsUsedBy new a.txn g.db
      used_at c s = record { its = place g.db c.top; there = refl; held = weaker is_range can_be_held range_can a.txn (new.locks.at (place g.db c.top)).0 s.top }

      read_locked : keeps a.level ≡ true → (o : ℕ × Extract) → over ≡ Some o → (key primary_key : List ℕ) → raw.answer ≡ Rec key primary_key → Holds can_be_held a.txn (new.locks.at (place o.0 (On (named primary_key [])))).0
      read_locked held o e key primary_key h = let r = (record_of_call key primary_key h).ser in locked_over held o e key primary_key h r.0 r.1 (part_is ∙ r.2) r.3

      pub ser_now : is_evaluated (outcome_of st a call g).answer ≡ true → IsSer new a.txn said_now
      ser_now evaluated = record {
        there = there_now;
        used = used g.at refl;
        is = ap (evaluation kind call g.at) (view_now k);
        covers = λ r i x w. covered r (subst (λ (v : List Pair). IsAmong r (ranges_of kind call g.at v)) (view_now k) i) x w;
        shut = λ c i. ⊎_elim (at_shut g.at refl c) (read_shut early refl c) (among_append (closed_at g.at) (read early) c i);
        reply = reply_now k;
        its = changes_proper g.database.kind call g.at (view_of st a g) may;
        written = λ c i. from_write a.txn (new.locks.at (place c.0 (On (changed_name c.1)))).0 (all_at (HoldsWrite new.locks.at a.txn) (with_numbers (made st a call g)) c writes_held i);
        read = λ o e key primary_key h. read_locked k o e key primary_key h;
      }
        where
          covered : (r : Range) → IsAmong r (ranges_of kind call g.at view) → (x : Name) → is_within r x ≡ true → (c : Closed) × IsAmong c said_now.closed × (is_inside c x ≡ true)
          covered r i x w = ⊎_elim
              (λ j. let c = at_covers g.at r j x w in (c.0, among_first (closed_at g.at) (read early) c.0 c.1, c.2))
              (λ j. let c = read_covers early r j x w in (c.0, among_second (closed_at g.at) (read early) c.0 c.1, c.2))
              (among_append (place_range g.at) (look_range early passed) r i)

          -- it looked, or wrote
          looked : g.at ≡ None → early ≡ None → IsSerPart kind call g.at (part_of Serializable call) → IsUsedBy new a.txn g.db
          looked none e (inl p) = used_at (closed_by passed ended names) (widen (closed_by passed ended names) (shut_read e p.0 p.1 p.2 p.3 p.4))
          looked none e (inr p) =
              let one = p.2 taken view (ap (λ (l : Look). seen kind l.way l.range view) p.1 ∙ nothing_seen kind view) none e in
              let it : IsAmong one.0 (outcome_of st a call g).changes =
              subst (λ (v : Evaluated). IsAmong one.0 v.changes) (sym (raw_is None e)) (subst (IsAmong one.0) (sym one.1) (inl refl)) in
              let made_it = own_made (on_none p.3) one.0 it in
              record { its = place g.db (On (changed_name one.0)); there = refl; held = weaker is_range can_be_held range_can a.txn (new.locks.at (place g.db (On (changed_name one.0)))).0 (new_held ser ((g.db, g.database), one.0) made_it) }

          by_early : g.at ≡ None → IsEarly early g.at → IsUsedBy new a.txn g.db
          by_early none (inl e) = looked none e (ser_part kind call g.at may)
          by_early none (inr (inl p)) = let h = sym none ∙ p.1 in absurd (cc (h))
          by_early none (inr (inr p)) = absurd (both_ways (is_evaluated (outcome_of st a call g).answer) (ap is_evaluated (found.answer (view_in st a) raw.answer ∙ ap (answered_by over (view_in st a (q, found.records))) (ap (λ (v : Evaluated). v.answer) (raw_is (Some NoPosition) p.0))) ∙ no_position over (view_in st a (q, found.records))) evaluated)

          used : (o : Option Name) → g.at ≡ o → IsUsedBy new a.txn g.db
          used (Some n) e = used_at (only n) (place_still n e)
          used None e = by_early e (early_is kind call g.at view)

    pub repeatable_now : (a.level ≡ RepeatableRead → HasRecords st a) → a.level ≡ RepeatableRead → IsRepeatable new a.txn said_now
    repeatable_now complete level = by_over over refl
      where
        k : keeps a.level ≡ true
        k = keeps_repeatable a.level level

        record_now : (key value : List ℕ) → raw.answer ≡ Rec key value → IsHeldIn new a.txn g.db base (st.own a.txn.0) (key, value)
        record_now key value h = record {
          there = there_now;
          held = held;
          stands = ap (at_name kind (name_of kind (key, value))) (view_now k) ∙ at_is kind view (key, value) (view_up_there st a told sound ground self on.here) first.0;
        }
          where
            late : early ≡ None
            late = answers_late kind call g.at view key value h

            r : AnswersRecord call taken (key, value)
            r = record_of_call key value h

            first : IsAmong (key, value) view × (is_within (passed_to kind look.way look.range ((key, value) ∷ r.first.0)) (name_of kind (key, value)) ≡ true)
            first = taken_there kind look.way look.range view (key, value) r.first.0 r.first.1

            within : is_within passed (name_of kind (key, value)) ≡ true
            within = subst (λ (l : List Pair). is_within (passed_to kind look.way look.range l) (name_of kind (key, value)) ≡ true) (sym r.first.1) first.1

            among : IsAmong (name_of kind (key, value)) names
            among = has_there st a told sound ground self on.here (name_of kind (key, value)) (view_seen_there st a told sound ground self on.here (name_of kind (key, value)) (record { pair = (key, value); there = first.0; named = refl }))

            held : Holds can_be_held a.txn (new.locks.at (place g.db (On (name_of kind (key, value))))).0
            held = all_at (λ (m : Need). can_be_held m.asked ≡ true → Holds can_be_held a.txn (new.locks.at (record_of m)).0) (part_needs g.db (Some (record { inside = r.inside; behind = None })) passed ended names) (need g.db (On (name_of kind (key, value))) r.inside)
                (subst (λ (o : Option Part). AllByRecursion (λ (m : Need). can_be_held m.asked ≡ true → Holds can_be_held a.txn (new.locks.at (record_of m)).0) (part_needs g.db o passed ended names)) (ap (λ (l : Isolation). part_of l call) level ∙ r.part)
                (of_read (λ (m : Need). can_be_held m.asked ≡ true → Holds can_be_held a.txn (new.locks.at (record_of m)).0) late (gets can_be_held any_lock k)))
                (among_first (map (λ m. need g.db (On m) r.inside) (filter (is_within passed) names)) [] (need g.db (On (name_of kind (key, value))) r.inside)
                (among_map (λ (m : Name). need g.db (On m) r.inside) (filter (is_within passed) names) (name_of kind (key, value)) (among_filter (is_within passed) names (name_of kind (key, value)) among within)))
                r.can

        own_answer : over ≡ None → (outcome_of st a call g).answer ≡ raw.answer
        own_answer e = found.answer (view_in st a) raw.answer ∙ ap (λ (v : Over). answered_by v (view_in st a (q, found.records)) raw.answer) e

        by_own : over ≡ None → (answer : Answer) → raw.answer ≡ answer → IsRepeatableAs new a.txn said_now answer
        by_own e (Rec key value) h = record_now key value h
        by_own e (IndexRec key primary_key value) h = absurd (own_is_none kind call g.at view key primary_key value may h)
        by_own e answer h = tt

        -- the primary's record that it answers
        over_now : (o : ℕ × Extract) → over ≡ Some o → (key primary_key : List ℕ) → raw.answer ≡ Rec key primary_key
            → IsHeldIn new a.txn o.0 (found.records.name, found.records.kind, over_by st.numbers found.records.index) (st.own a.txn.0) (primary_key, unwrap_or (data_under primary_key (view_in st a (q, found.records))) [])
        over_now o e key primary_key h =
            subst (λ (v : List ℕ). IsHeldIn new a.txn o.0 (found.records.name, found.records.kind, over_by st.numbers found.records.index) (st.own a.txn.0) (primary_key, v)) (sym value_is) (record {
              there = base_new o.0 ∙ ap (base_of st.numbers) here;
              held = subst (λ (x : Kind). Holds can_be_held a.txn (new.locks.at (place o.0 (On (name_of x (primary_key, w.0))))).0) (sym plain)
                  (locked_over k o e key primary_key h r.inside None (ap (λ (l : Isolation). part_of l call) level ∙ r.part) r.can);
              stands = ap (at_name found.records.kind (name_of found.records.kind (primary_key, w.0)))
                  (ap₂ (λ (l : List (ℕ × RecordChange)) (ps : List Pair). all_pairs_changed found.records.kind (of_db o.0 l) ps) (sym (own_seen a.level st a.txn.0 k)) (pairs_new o.0 ∙ ap pairs_of here)) ∙ stood;
            })
          where
            r : AnswersRecord call taken (key, primary_key)
            r = record_of_call key primary_key h

            here : database_at o.0 st ≡ Some found.records
            here = subst (λ (v : Over). database_at (records_number g.db v) st ≡ Some found.records) e found.here

            plain : found.records.kind ≡ Plain
            plain = found.over_plain o e

            w : (value : List ℕ) × IsAmong (primary_key, value) (view_in st a (o.0, found.records))
            w = complete level (g.db, g.database) (o.0, found.records) o.1 key primary_key on.here here e (taken_there kind look.way look.range view (key, primary_key) r.first.0 r.first.1).0

            stood : at_name found.records.kind (name_of found.records.kind (primary_key, w.0)) (view_in st a (o.0, found.records)) ≡ (primary_key, w.0) ∷ []
            stood = at_is found.records.kind (view_in st a (o.0, found.records)) (primary_key, w.0) (view_up_there st a told sound ground (o.0, found.records) here) w.1

            value_is : unwrap_or (data_under primary_key (view_in st a (q, found.records))) [] ≡ w.0
            value_is = ap (λ (v : Over). unwrap_or (data_under primary_key (view_in st a (records_number g.db v, found.records))) []) e
                ∙ ap (λ (x : Option (List ℕ)). unwrap_or x []) (data_is primary_key w.0 (view_in st a (o.0, found.records))
                (subst (λ (x : Kind). at_name x (name_of x (primary_key, w.0)) (view_in st a (o.0, found.records)) ≡ (primary_key, w.0) ∷ []) plain stood))

        by_index : (o : ℕ × Extract) → over ≡ Some o → (answer : Answer) → raw.answer ≡ answer → IsRepeatableAs new a.txn said_now (answered_by (Some o) (view_in st a (q, found.records)) answer)
        by_index o e (Rec key primary_key) h = (
          record_now key primary_key h,
          record {
            over = o;
            its = e;
            base = (found.records.name, found.records.kind, over_by st.numbers found.records.index);
            plain = found.over_plain o e;
            record_ = over_now o e key primary_key h;
          },
        )
        by_index o e (IndexRec key primary_key value) h = absurd (own_is_none kind call g.at view key primary_key value may h)
        by_index o e answer h = tt

        by_over : (o : Over) → over ≡ o → IsRepeatable new a.txn said_now
        by_over None e = subst (IsRepeatableAs new a.txn said_now) (sym (own_answer e)) (by_own e raw.answer refl)
        by_over (Some o) e = subst (IsRepeatableAs new a.txn said_now) (sym (found.answer (view_in st a) raw.answer ∙ ap (λ (v : Over). answered_by v (view_in st a (q, found.records)) raw.answer) e)) (by_index o e raw.answer refl)
