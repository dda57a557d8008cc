-- What is owed at a commit follows from what holds of the calls; and so journals replay.
use Rattle.std.proofs.Common.{◌≡◌, ◌⊎◌, inl, inr, ℕ, Bool, true, false, List, [], ◌∷◌, ◌++◌, map, Option, None, Some, refl, ap, ap₂, sym, ◌∙◌, ◌==◌, subst, IsSome, append_assoc, append-nil}
use Rattle.std.specs.List.{flat_map, AllByRecursion}
use Rattle.je_order.specs.Order.{is_same_bytes}
use Rattle.je_order.specs.declared.txn_id.TxnId.{TxnId}
use Rattle.store_model.specs.declared.kind.Kind.{Kind}
use Rattle.store_model.specs.declared.isolation.Isolation.{Isolation}
use Rattle.store_model.specs.declared.isolation.Isolation.TheVariants.{ReadUncommitted, ReadCommitted, RepeatableRead, Serializable}
use Rattle.je_order.specs.declared.name.Name.{Name}
use Rattle.store_model.specs.declared.call.Call.{Call}
use Rattle.store_model.specs.declared.call.Call.TheVariants.{Commit}
use Rattle.store_model.specs.declared.store.Database.{Database}
use Rattle.store_model.specs.declared.index.Index.{Index}
use Rattle.store_model.specs.declared.extract.Extract.{Extract}
use Rattle.store_model.specs.declared.store.Store.{Store}
use Rattle.store_model.specs.declared.change.Change.{Change}
use Rattle.store_model.specs.declared.record_change.RecordChange.{RecordChange}
use Rattle.store_model.specs.declared.victim.Victim.{Victim}
use Rattle.store_model.specs.declared.step.Step.{Step}
use Rattle.store_model.specs.declared.step.Step.TheVariants.{Begin as BeginStep, Flush, Finish, Sync as SyncStep}
use Rattle.store_model.specs.declared.answer.Fault.{Fault}
use Rattle.store_model.specs.declared.answer.Fault.TheVariants.{Disk}
use Rattle.store_model.specs.declared.answer.Answer.{Answer}
use Rattle.store_model.specs.declared.answer.Answer.TheVariants.{Done, Rec, IndexRec, DiskFault, Invalid}
use Rattle.store_model.specs.declared.event.Event.{Event}
use Rattle.store_model.specs.declared.event.Event.TheVariants.{Call as Called, Resume, End, WriteOut, SyncBegin, SyncEnd, Turn}
use Rattle.store_model.specs.Store.{Pair, name_of, IsStore, database_of, change_in, all_changed, all_pairs_changed}
use Rattle.store_model.specs.Indexes.{IsIndex, AreIndexed, Numbered, all_changes, answer_through}
use Rattle.store_model.specs.Reads.{at_name}
use Rattle.store_model.specs.Records.{Evaluated, evaluation}
use Rattle.store_model.specs.Refusals.{or_refusal}
use Rattle.je_answers.specs.declared.active.Active.{Active}
use Rattle.je_answers.specs.declared.wait.Wait.{Wait}
use Rattle.je_answers.specs.Standing.{Standing, active_of, wait_of, without_wait}
use Rattle.je_answers.specs.Views.{Target, target, of_db, with_numbers, with_names, changes_in, changes_named}
use Rattle.je_answers.specs.Refusals.{fault_refusal, waits_refusal, abort_refusal, txn_refusal, early_refusal, late_refusal, number_refusal}
use Rattle.je_answers.specs.Events.{resumed, IsCallAnswered, IsAnswered}
use Rattle.je_answers.specs.After.{ended_if_any, faulted_if, after_begin, after_turn, after_call, after_resumed, after_event, after_events, AnswersAsModel}
use Rattle.je_answers.specs.Journal.{changes_ended, changes_evaluated, changes_of, changes_by}
use Rattle.je_answers.specs.Alone.{Alone, alone, records_of, evaluated_on, changes_of_call}
use Rattle.standing_laws.specs.Right.{AreRight}
use Rattle.standing_laws.specs.Laws.{AreBare}
use Rattle.standing_laws.proofs.Among.{IsAmong, all_at, all_of, find_some, found_is, any_from, its_session}
use Rattle.standing_laws.proofs.StandingsStay.{standings_stay-right}
use Rattle.standing_laws.proofs.StandingsBare.{standings_stay-bare}
use Rattle.standing_laws.proofs.AloneRight.{alone-is_right}
use Rattle.serial_replay.specs.Replay.{HasPair, primary_in, over_in, AnsweredCall, Positions, Reply, calls_of, is_of_cursors, cursor_of, nowhere, position_of, positions_after, comes_to, on_store, replayed, GivesAgain, IsRecordOf, StandsAgain, IsOwedTo, is_committed, IsOwedBy, IsOwedAt, told_by, with_told, ReplaysFrom}
use Rattle.indexed_standings.specs.Indexed.{AreIndexedFor}
use Rattle.serial_replay.specs.Laws.{JournalsReplay, IsIndexedAt, StaysIndexed, IndexesStay, NoneIsIndexed}
use Rattle.je_answers.specs.Numbers.{HaveNumbers}
use Rattle.serial_replay.proofs.IndexesSeen.{first_up, are_indexed, are_seen}
use Rattle.serial_replay.proofs.Stores.{Numbers, Base, over_by, base_of, IsBased, pairs_of, base_at, pairs_at, based, numbered_in, number_of_found, same_bytes, IsFit, named_in, named_same, AreNumbered, named_append, all_append, all_base, all_pairs, all_right, numbered_all, by_number, by_found, AreOver, indexed_over, over_all}
use Rattle.serial_replay.proofs.Through.{records_number, changed_by, answered_by, in_index, reply_changes, IsFound, found_target, changes_are, same_reply, all_there}
use Rattle.serial_replay.proofs.Keeping.{Said, see_with, IsSer, IsHeldIn, IsHeldOver, IsSerAs, IsSerial, IsRepeatableAs, IsRepeatable, Follows, follows_from, before_own, call_by, KeepsOf, keeps, IsWell, IsGround, IsKnown}
use Rattle.serial_replay.proofs.Replies.{early_other}
use Rattle.serial_replay.proofs.EventsKeep.{event_known}

-- ---- the database of a call, where the changes before it were made

pub record IsThen (st : Standing) (db : ℕ) (base : Base) (before : List (ℕ × RecordChange)) (store : Store) : Type 0 where
  pub database : Database
  pub here : numbered_in st.numbers db store ≡ Some database
  pub found : database_of base.0 store ≡ Some database
  pub name : database.name ≡ base.0
  pub kind : database.kind ≡ base.1
  pub over : over_by st.numbers database.index ≡ base.2
  pub pairs : database.pairs ≡ all_pairs_changed base.1 (of_db db before) (pairs_at db st)

-- the store with the changes before a call
abbrev store_then : Standing → List (ℕ × RecordChange) → Store
store_then st before = all_changed (changes_named st before) st.store

module _ (st : Standing) (told : List AnsweredCall) (ground : IsGround st told) where
  is_then : (db : ℕ) (base : Base) (before : List (ℕ × RecordChange)) → AllByRecursion (IsFit st) before → base_at db st ≡ Some base → IsThen st db base before (store_then st before)
  is_then db base before fit there = record {
    database = i.database;
    here = i.is;
    found = subst (λ (n : List ℕ). database_of n (store_then st before) ≡ Some i.database) i.name
        (by_found st.numbers st.last_db (store_then st before) db i.database (numbered_all st.numbers st.last_db st.store before st.store ground.well.numbers) i.is);
    name = i.name;
    kind = i.kind;
    over = i.over;
    pairs = ap pairs_of (sym i.is) ∙ all_pairs st.numbers st.store before st.store fit (λ n. refl) db base there;
  }
    where
      i : IsBased st.numbers (numbered_in st.numbers db (store_then st before)) base
      i = based st.numbers (numbered_in st.numbers db (store_then st before)) base (all_base st.numbers st.store before st.store fit (λ n. refl) db ∙ there)

  -- what a call comes to again
  abbrev reply_of : Said → Reply
  reply_of s = record { answer = s.answer; changes = changes_named st s.changes; place = s.came.place }

  -- made again with the changes before it, it comes to the same
  module _ (s : Said) (t : TxnId) (fit : AllByRecursion (IsFit st) s.before) (fit_its : AllByRecursion (IsFit st) s.changes) (ser : IsSer st t s) where
    abbrev after : Store
    after = store_then st s.before

    d : IsThen st s.db s.base s.before (store_then st s.before)
    d = is_then s.db s.base s.before fit ser.there

    well_then : IsStore (store_then st s.before)
    well_then = all_right (changes_named st s.before) st.store ground.well.store

    found : IsFound st.numbers st.store s.db ser.reply.database (target st.numbers st.store s.db s.at ser.reply.database) s.base.2
    found = subst (IsFound st.numbers st.store s.db ser.reply.database (target st.numbers st.store s.db s.at ser.reply.database)) ser.reply.over
        (found_target st.numbers st.last_db st.store ground.well.store ground.well.numbers ground.well.over s.db s.at ser.reply.database ser.reply.here)

    numbered_then : AreNumbered st.numbers st.last_db (store_then st s.before).databases
    numbered_then = numbered_all st.numbers st.last_db st.store s.before st.store ground.well.numbers

    found_then : IsFound st.numbers (store_then st s.before) s.db d.database (target st.numbers (store_then st s.before) s.db s.at d.database) s.base.2
    found_then = subst (IsFound st.numbers (store_then st s.before) s.db d.database (target st.numbers (store_then st s.before) s.db s.at d.database)) d.over
        (found_target st.numbers st.last_db (store_then st s.before) well_then numbered_then (over_all st.numbers st.store s.before st.store ground.well.over) s.db s.at d.database d.here)

    abbrev q : ℕ
    q = records_number s.db s.base.2

    abbrev g : Target
    g = target st.numbers (store_then st s.before) s.db s.at d.database

    -- the records that are changed are the same
    records_same : found_then.records.pairs ≡ see_with s.before (q, found.records)
    records_same =
        ap pairs_of (sym found_then.here)
        ∙ all_pairs st.numbers st.store s.before st.store fit (λ n. refl) q (found.records.name, found.records.kind, over_by st.numbers found.records.index) (ap (base_of st.numbers) found.here)
        ∙ ap (λ (o : Option Database). all_pairs_changed found.records.kind (of_db q s.before) (pairs_of o)) found.here

    -- and so are the indexes, but for their records
    based_then : (n : ℕ) (x : Database) → numbered_in st.numbers n st.store ≡ Some x → (y : Database) × (numbered_in st.numbers n (store_then st s.before) ≡ Some y) × (over_by st.numbers y.index ≡ over_by st.numbers x.index)
    based_then n x h =
        let i = based st.numbers (numbered_in st.numbers n (store_then st s.before)) (x.name, x.kind, over_by st.numbers x.index) (all_base st.numbers st.store s.before st.store fit (λ m. refl) n ∙ ap (base_of st.numbers) h) in
        (i.database, i.is, i.over)

    based_before : (n : ℕ) (y : Database) → numbered_in st.numbers n (store_then st s.before) ≡ Some y → (x : Database) × (numbered_in st.numbers n st.store ≡ Some x) × (over_by st.numbers x.index ≡ over_by st.numbers y.index)
    based_before n y h =
        let i = based st.numbers (numbered_in st.numbers n st.store) (y.name, y.kind, over_by st.numbers y.index) (sym (all_base st.numbers st.store s.before st.store fit (λ m. refl) n) ∙ ap (base_of st.numbers) h) in
        (i.database, i.is, i.over)

    abbrev indexes : List Numbered
    indexes = (target st.numbers st.store s.db s.at ser.reply.database).indexes

    there : (c : RecordChange) → IsAmong c s.came.changes → (x : Numbered) → IsAmong x indexes → (in_index (see_with s.before (q, found.records)) (changed_by s.base.2 c) x ≡ []) ⊎ ((y : Numbered) × IsAmong y g.indexes × (y.0 ≡ x.0))
    there c a x k =
        let its = found.indexes.its x k in
        let b = based_then x.0 x.1 its.0 in
        inr ((x.0, b.0), found_then.indexes.all x.0 b.0 its.1.0 b.1 (b.2 ∙ its.1.1), refl)

    back : (c : RecordChange) → IsAmong c s.came.changes → (y : Numbered) → IsAmong y g.indexes → (x : Numbered) × IsAmong x indexes × (x.0 ≡ y.0) × (over_by st.numbers x.1.index ≡ over_by st.numbers y.1.index)
    back c a y k =
        let its = found_then.indexes.its y k in
        let b = based_before y.0 y.1 its.0 in
        ((y.0, b.0), found.indexes.all y.0 b.0 its.1.0 b.1 (b.2 ∙ its.1.1), refl, b.2)

    numbers_again : with_numbers (all_changes g.over (s.db, d.database) g.indexes records_of s.came.changes) ≡ s.changes
    numbers_again =
        changes_are st.numbers (store_then st s.before) s.db d.database g s.base.2 records_of s.came.changes found_then
        ∙ (ap (λ (v : List Pair). reply_changes s.base.2 q g.indexes v s.came.changes) records_same
        ∙ (sym (same_reply st.numbers st.numbers st.store (store_then st s.before) s.base.2 q indexes g.indexes found.indexes found_then.indexes (see_with s.before (q, found.records)) (see_with s.before (q, found.records)) s.came.changes there back (λ c a x k. refl))
        ∙ (sym (changes_are st.numbers st.store s.db ser.reply.database (target st.numbers st.store s.db s.at ser.reply.database) s.base.2 (see_with s.before) s.came.changes found)
        ∙ ser.reply.changes)))

    -- its changes, named by their databases
    all_named : (ms : List (Numbered × RecordChange)) → ((m : Numbered × RecordChange) → IsAmong m ms → numbered_in st.numbers m.0.0 (store_then st s.before) ≡ Some m.0.1)
        → with_names ms ≡ named_in st.numbers (store_then st s.before) (with_numbers ms)
    all_named [] its = refl
    all_named (m ∷ ms) its =
        ap (λ (l : List Change). change_in m.0.1.name m.1 ∷ l) (all_named ms (λ x i. its x (inr i)))
        ∙ ap (λ (o : Option Database). changes_in o m.1 ++ named_in st.numbers (store_then st s.before) (with_numbers ms)) (sym (its m (inl refl)))

    names_again : changes_of_call g s.came.changes ≡ changes_named st s.changes
    names_again =
        all_named (all_changes g.over (g.db, g.database) g.indexes records_of s.came.changes)
        (λ m k. all_there st.numbers (store_then st s.before) s.db d.database g s.base.2 records_of s.came.changes found_then m k)
        ∙ (ap (named_in st.numbers (store_then st s.before)) numbers_again
        ∙ named_same st.numbers st.numbers (store_then st s.before) st.store s.changes (λ c k. all_base st.numbers st.store s.before st.store fit (λ m. refl) c.0))

    answer_again : answer_through g.over records_of s.came.answer ≡ s.answer
    answer_again =
        found_then.answer records_of s.came.answer
        ∙ (ap (λ (v : List Pair). answered_by s.base.2 v s.came.answer) records_same
        ∙ (sym (found.answer (see_with s.before) s.came.answer) ∙ ser.reply.answer))

    raw_again : evaluation d.database.kind s.call s.at d.database.pairs ≡ s.came
    raw_again = ap₂ (λ (k : Kind) (ps : List Pair). evaluation k s.call s.at ps) d.kind d.pairs ∙ ser.is

    comes_again : comes_to st.numbers (store_then st s.before) (database_of s.base.0 (store_then st s.before)) s.call s.at ≡ record { answer = s.answer; changes = changes_named st s.changes; place = s.came.place }
    comes_again =
        ap (λ (o : Option Database). comes_to st.numbers (store_then st s.before) o s.call s.at) d.found
        ∙ (ap (λ (n : ℕ). reply_at (target st.numbers (store_then st s.before) n s.at d.database)) number_is
        ∙ (ap (λ (e : Evaluated). record { answer = answer_through g.over records_of e.answer; changes = changes_of_call g e.changes; place = e.place }) raw_again
        ∙ ap₂ (λ (a : Answer) (cs : List Change). record { answer = a; changes = cs; place = s.came.place }) answer_again names_again))
      where
        reply_at : Target → Reply
        reply_at x = record { answer = (evaluated_on s.call x).answer; changes = changes_of_call x (evaluated_on s.call x).changes; place = (evaluated_on s.call x).place }

        number_is : st.numbers d.database.name ≡ s.db
        number_is = number_of_found st.numbers s.db (store_then st s.before) d.database d.here

  -- made again there, from where its cursor stood, it comes to the same
  store_again : (s : Said) (t : TxnId) (before : List (ℕ × RecordChange)) → AllByRecursion (IsFit st) before → AllByRecursion (IsFit st) s.changes → s.before ≡ before → (b : Bool) → IsSerAs b st t s
      → on_store b st.numbers (call_by st t s) s.at (store_then st before) ≡ reply_of s
  store_again s t before fit fit_its same true ser =
      ap₂ (λ (a : Answer) (v : Evaluated). record { answer = a; changes = []; place = v.place }) (sym ser.1) (sym ser.0)
      ∙ ap (λ (l : List (ℕ × RecordChange)). record { answer = s.answer; changes = changes_named st l; place = s.came.place }) (sym ser.2)
  store_again s t before fit fit_its same false ser =
      ap (λ (l : List (ℕ × RecordChange)). comes_to st.numbers (store_then st l) (database_of s.base.0 (store_then st l)) s.call s.at) (sym same)
      ∙ comes_again s t (subst (AllByRecursion (IsFit st)) (sym same) fit) fit_its ser

  -- the calls one after another
  record GivesThen (said : List Said) (t : TxnId) (before : List (ℕ × RecordChange)) (at : Positions) (own : List (ℕ × RecordChange)) : Type 0 where
    pub answers : map (λ r. r.answer) (replayed st.numbers (map (call_by st t) said) at (store_then st before)) ≡ map (λ c. c.answer) (map (call_by st t) said)
    pub changes : changes_named st before ++ flat_map (λ r. r.changes) (replayed st.numbers (map (call_by st t) said) at (store_then st before)) ≡ changes_named st own

  fits_of : (before : List (ℕ × RecordChange)) (at : Positions) (said : List Said) (own : List (ℕ × RecordChange)) → Follows before at said own → AllByRecursion (IsFit st) own → AllByRecursion (IsFit st) before
  fits_of before at said own follows fit = all_of (IsFit st) before (λ c k. all_at (IsFit st) own c fit (follows_from before at said own c follows k))

  all_second : (xs ys : List (ℕ × RecordChange)) → AllByRecursion (IsFit st) (xs ++ ys) → AllByRecursion (IsFit st) ys
  all_second [] ys h = h
  all_second (x ∷ xs) ys h = all_second xs ys h.1

  gives_then : (said : List Said) (t : TxnId) (before : List (ℕ × RecordChange)) (at : Positions) (own : List (ℕ × RecordChange)) → Follows before at said own → AllByRecursion (IsFit st) own → AllByRecursion (IsSerial st t) said
      → GivesThen said t before at own
  gives_then [] t before at own follows fit ser = record { answers = refl; changes = append-nil (changes_named st before) ∙ ap (changes_named st) (sym follows) }
  gives_then (s ∷ said) t before at own follows fit ser =
      join
      (ap (λ (n : Option Name). on_store (is_of_cursors s.call) st.numbers (call_by st t s) n (store_then st before)) (sym follows.1)
      ∙ store_again s t before (fits_of before at (s ∷ said) own follows fit) (all_second before s.changes (fits_of (before ++ s.changes) (positions_after s.call s.came.place at) said own follows.2 fit)) follows.0 (is_of_cursors s.call) ser.0)
      (gives_then said t (before ++ s.changes) (positions_after s.call s.came.place at) own follows.2 fit ser.1)
    where
      calls : List AnsweredCall
      calls = map (call_by st t) said

      named : List Change
      named = changes_named st s.changes

      next : List (ℕ × RecordChange)
      next = before ++ s.changes

      then_at : Positions
      then_at = positions_after s.call s.came.place at

      named_next : changes_named st (before ++ s.changes) ≡ changes_named st before ++ changes_named st s.changes
      named_next = named_append st.numbers st.store before s.changes

      store_next : all_changed (changes_named st s.changes) (store_then st before) ≡ store_then st (before ++ s.changes)
      store_next = sym (all_append (changes_named st before) (changes_named st s.changes) st.store) ∙ ap (λ (l : List Change). all_changed l st.store) (sym named_next)

      join : on_store (is_of_cursors s.call) st.numbers (call_by st t s) (position_of (cursor_of s.call) at) (store_then st before) ≡ record { answer = s.answer; changes = changes_named st s.changes; place = s.came.place }
          → GivesThen said t (before ++ s.changes) (positions_after s.call s.came.place at) own → GivesThen (s ∷ said) t before at own
      join e rest = record {
        answers =
            ap (λ (o : Reply). o.answer ∷ map (λ r. r.answer) (replayed st.numbers (map (call_by st t) said) (positions_after s.call o.place at) (all_changed o.changes (store_then st before)))) e
            ∙ (ap (λ (x : Store). s.answer ∷ map (λ r. r.answer) (replayed st.numbers (map (call_by st t) said) then_at x)) store_next ∙ ap (λ (l : List Answer). s.answer ∷ l) rest.answers);
        changes =
            ap (λ (o : Reply). changes_named st before ++ (o.changes ++ flat_map (λ r. r.changes) (replayed st.numbers (map (call_by st t) said) (positions_after s.call o.place at) (all_changed o.changes (store_then st before))))) e
            ∙ (ap (λ (x : Store). changes_named st before ++ (named ++ flat_map (λ r. r.changes) (replayed st.numbers (map (call_by st t) said) then_at x))) store_next
            ∙ (sym (append_assoc (changes_named st before) named (flat_map (λ r. r.changes) (replayed st.numbers (map (call_by st t) said) then_at (store_then st next))))
            ∙ (ap (λ (l : List Change). l ++ flat_map (λ r. r.changes) (replayed st.numbers (map (call_by st t) said) then_at (store_then st next))) (sym named_next)
            ∙ rest.changes)));
      }

  pub gives_again : (t : TxnId) (level : Isolation) (session : ℕ) (auto : Bool) → level ≡ Serializable → KeepsOf st told t level session auto → GivesAgain (calls_of t told) st.numbers st.store (changes_named st (st.own t.0))
  gives_again t level session auto e k = subst (λ (l : List AnsweredCall). GivesAgain l st.numbers st.store (changes_named st (st.own t.0))) (sym k.calls) (record { answers = g.answers; changes = g.changes })
    where
      g : GivesThen k.said t [] nowhere (st.own t.0)
      g = gives_then k.said t [] nowhere (st.own t.0) k.follows (ground.fits t.0) (k.ser e)

  -- ---- records that stand

  has_pair : (t : TxnId) (db : ℕ) (base : Base) (before : List (ℕ × RecordChange)) (key value : List ℕ) → AllByRecursion (IsFit st) before → IsHeldIn st t db base before (key, value) → HasPair (database_of base.0 (store_then st before)) key value
  has_pair t db base before key value fit h =
      let d = is_then db base before fit h.there in
      subst (λ (o : Option Database). HasPair o key value) (sym d.found) (ap₂ (λ (k : Kind) (ps : List Pair). at_name k (name_of k (key, value)) ps) d.kind d.pairs ∙ h.stands)

  has_over : (t : TxnId) (s : Said) (key value : List ℕ) → AllByRecursion (IsFit st) s.before → base_at s.db st ≡ Some s.base → IsHeldOver st t s (key, value)
      → HasPair (over_in (store_then st s.before) (database_of s.base.0 (store_then st s.before))) key value
  has_over t s key value fit there h =
      let d = is_then s.db s.base s.before fit there in
      subst (λ (o : Option Database). HasPair (over_in (store_then st s.before) o) key value) (sym d.found) (by d.database (found_is (λ (x : Database). st.numbers x.name == s.db) (store_then st s.before).databases d.database d.here).0 (d.over ∙ h.its) d.database.index refl)
    where
      over_then : AreOver (store_then st s.before)
      over_then = over_all st.numbers st.store s.before st.store ground.well.over

      p : IsThen st h.over.0 h.base s.before (store_then st s.before)
      p = is_then h.over.0 h.base s.before fit h.record_.there

      some_is : (x y : Database) → Some x ≡ Some y → x ≡ y
      some_is x y k = cc (k)

      number_is : (i : Index) → Some (st.numbers i.primary, i.extract) ≡ Some h.over → st.numbers i.primary ≡ h.over.0
      number_is i k = ap (λ (x : ℕ × Extract). x.0) (over_is (st.numbers i.primary, i.extract) h.over k)
        where
          over_is : (x y : ℕ × Extract) → Some x ≡ Some y → x ≡ y
          over_is x y m = cc (m)

      by : (d : Database) → IsAmong d (store_then st s.before).databases → over_by st.numbers d.index ≡ Some h.over → (i : Option Index) → d.index ≡ i → HasPair (primary_in (store_then st s.before) d.index) key value
      by d k e None is = let m = sym (ap (over_by st.numbers) is) ∙ e in absurd (cc (m))
      by d k e (Some i) is =
          let o = over_then d i k is in
          let m : numbered_in st.numbers h.over.0 (store_then st s.before) ≡ Some o.1.0 =
          ap (λ (n : ℕ). numbered_in st.numbers n (store_then st s.before)) (sym (number_is i (sym (ap (over_by st.numbers) is) ∙ e)))
          ∙ by_number st.numbers st.last_db (store_then st s.before) i.primary o.1.0 (numbered_all st.numbers st.last_db st.store s.before st.store ground.well.numbers) o.1.1 in
          let same : p.database ≡ o.1.0 = some_is p.database o.1.0 (sym p.here ∙ m) in
          subst (λ (x : Option Index). HasPair (primary_in (store_then st s.before) x) key value) (sym is)
          (subst (λ (x : Option Database). HasPair x key value) (sym o.1.1)
          (subst (λ (x : Database). HasPair (Some x) key value) same (ap₂ (λ (k : Kind) (ps : List Pair). at_name k (name_of k (key, value)) ps) p.kind p.pairs ∙ h.record_.stands)))

  stands_by : (s : Said) (t : TxnId) → AllByRecursion (IsFit st) s.before → (answer : Answer) → IsRepeatableAs st t s answer → IsRecordOf (store_then st s.before) (database_of s.base.0 (store_then st s.before)) answer
  stands_by s t fit (Rec key value) h = has_pair t s.db s.base s.before key value fit h
  stands_by s t fit (IndexRec key primary_key value) h = (has_pair t s.db s.base s.before key primary_key fit h.0, has_over t s primary_key value fit h.0.there h.1)
  stands_by s t fit answer h = tt

  pub stands_again : (t : TxnId) (level : Isolation) (session : ℕ) (auto : Bool) → level ≡ RepeatableRead → KeepsOf st told t level session auto → AllByRecursion (StandsAgain st.store) (calls_of t told)
  stands_again t level session auto e k = subst (AllByRecursion (StandsAgain st.store)) (sym k.calls) (each k.said (before_own [] nowhere k.said (st.own t.0) k.follows) (k.repeatable e))
    where
      each : (said : List Said) → AllByRecursion (λ s. (c : ℕ × RecordChange) → IsAmong c s.before → IsAmong c (st.own t.0)) said → AllByRecursion (IsRepeatable st t) said → AllByRecursion (StandsAgain st.store) (map (call_by st t) said)
      each [] own h = tt
      each (s ∷ said) own h = (
        stands_by s t (all_of (IsFit st) s.before (λ c i. all_at (IsFit st) (st.own t.0) c (ground.fits t.0) (own.0 c i))) s.answer h.0,
        each said own.1 h.1,
      )

-- ---- a commit

owed_at_level : (st : Standing) (told : List AnsweredCall) (t : TxnId) (level : Isolation) (session : ℕ) (auto : Bool) → IsGround st told → (keeps level ≡ true → KeepsOf st told t level session auto)
    → IsOwedTo level (calls_of t told) st.numbers st.store (changes_named st (st.own t.0))
owed_at_level st told t ReadUncommitted session auto ground k = tt
owed_at_level st told t ReadCommitted session auto ground k = tt
owed_at_level st told t RepeatableRead session auto ground k = stands_again st told ground t RepeatableRead session auto refl (k refl)
owed_at_level st told t Serializable session auto ground k = gives_again st told ground t Serializable session auto refl (k refl)

-- what a commit that was not refused is to commit
commit_late : (st : Standing) (session : ℕ) (a : Active) → active_of session st.actives ≡ Some a → late_refusal st session Commit ≡ None
commit_late st session a its = ap (λ (o : Option Active). or_refusal (number_refusal st.last_txn o) None) its

commit_changes : (st : Standing) (session line : ℕ) (answer : Answer) (vs : List Victim) (a : Active) → early_refusal st session Commit ≡ None → active_of session st.actives ≡ Some a
    → changes_by st (Called session line Commit answer vs) ≡ changes_named st (st.own a.txn.0)
commit_changes st session line answer vs a early its =
    ap (λ (o : Option Answer). changes_of o st session Commit) early ∙ (ap (λ (o : Option Answer). changes_evaluated o st session Commit) (commit_late st session a its) ∙ ap (λ (o : Option Active). changes_ended o st) its)

not_owed : (b : Bool) (o : Option Active) (st : Standing) (told : List AnsweredCall) (changes : List Change) → b ≡ false → IsOwedBy b o st told changes
not_owed b o st told changes e = subst (λ (x : Bool). IsOwedBy x o st told changes) (sym e) tt

owed_by : (b : Bool) (o : Option Active) (st : Standing) (told : List AnsweredCall) (changes : List Change) → ((a : Active) → o ≡ Some a → IsOwedTo a.level (calls_of a.txn told) st.numbers st.store changes) → IsOwedBy b o st told changes
owed_by false o st told changes f = tt
owed_by true None st told changes f = tt
owed_by true (Some a) st told changes f = f a refl

owed_commit : (o : Option Answer) (limit : Option Answer) (st : Standing) (session line : ℕ) (answer : Answer) (vs : List Victim) (told : List AnsweredCall) → IsKnown st told → early_refusal st session Commit ≡ o
    → IsCallAnswered o limit st session line Commit answer vs → IsOwedAt st told (Called session line Commit answer vs)
owed_commit (Some refusal) limit st session line answer vs told known early is =
    not_owed (is_committed answer) (active_of session st.actives) st told (changes_by st (Called session line Commit answer vs)) (ap is_committed is.0 ∙ (early_other st session Commit refusal early).committed)
owed_commit None limit st session line answer vs told known early is =
    owed_by (is_committed answer) (active_of session st.actives) st told (changes_by st (Called session line Commit answer vs)) (λ a its.
    subst (λ (cs : List Change). IsOwedTo a.level (calls_of a.txn told) st.numbers st.store cs) (sym (commit_changes st session line answer vs a early its))
    (owed_at_level st told a.txn a.level a.session a.is_auto known.ground (λ keep. known.each a (its_session session st.actives a its).0 keep)))

owed_event : (limit : Option Answer) (st : Standing) (event : Event) (told : List AnsweredCall) → IsKnown st told → IsAnswered limit st event → IsOwedAt st told event
owed_event limit st (Called session line Commit answer vs) told known is = owed_commit (early_refusal st session Commit) limit st session line answer vs told known refl is
owed_event limit st event told known is = tt

-- ---- after a fault

pub faulted_refusal : (st : Standing) (session : ℕ) (call : Call) (first : Fault) → st.fault ≡ Some first → early_refusal st session call ≡ Some (Invalid first)
faulted_refusal st session call first e =
    ap (λ (o : Option Fault). or_refusal (fault_refusal o) (or_refusal (waits_refusal st (active_of session st.actives)) (or_refusal (abort_refusal call (active_of session st.actives)) (txn_refusal call (active_of session st.actives))))) e

-- nothing is owed, since each call is refused
owed_faulted : (limit : Option Answer) (st : Standing) (event : Event) (told : List AnsweredCall) (first : Fault) → st.fault ≡ Some first → IsAnswered limit st event → IsOwedAt st told event
owed_faulted limit st (Called session line Commit answer vs) told first e is =
    let refusal = subst (λ (o : Option Answer). IsCallAnswered o limit st session line Commit answer vs) (faulted_refusal st session Commit first e) is in
    not_owed (is_committed answer) (active_of session st.actives) st told (changes_by st (Called session line Commit answer vs)) (ap is_committed refusal.0)
owed_faulted limit st event told first e is = tt

-- whatever the store holds
abbrev pub AnyStore : Store → Type 0
AnyStore store = Unit {0}

-- and the fault stays, and so does what holds of the store
module _ (P : Store → Type 0) where
  abbrev pub HasFault : Standing → Type 0
  HasFault st = (first : Fault) × (st.fault ≡ Some first) × P st.store

  fault_called : (st : Standing) (session line : ℕ) (call : Call) (answer : Answer) (vs : List Victim) → HasFault st → HasFault (after_call (early_refusal st session call) st session line call answer vs)
  fault_called st session line call answer vs f = subst (λ (o : Option Answer). HasFault (after_call o st session line call answer vs)) (sym (faulted_refusal st session call f.0 f.1)) f

  fault_resumed : (o : Option Wait) (st : Standing) (session line : ℕ) (answer : Answer) (vs : List Victim) → HasFault st → HasFault (after_resumed o st session line answer vs)
  fault_resumed None st session line answer vs f = f
  fault_resumed (Some w) st session line answer vs f = fault_called (resumed st w) session line w.call answer vs f

  fault_ended : (o : Option Active) (st : Standing) → HasFault st → HasFault (ended_if_any o st)
  fault_ended None st f = f
  fault_ended (Some a) st f = f

  fault_if : (answer : Answer) (st : Standing) → HasFault st → HasFault (faulted_if answer st)
  fault_if DiskFault st f = (Disk, refl, f.2)
  fault_if answer st f = f

  fault_begun : (answer : Answer) (st : Standing) → HasFault st → HasFault (after_begin st answer)
  fault_begun Done st f = f
  fault_begun DiskFault st f = (Disk, refl, f.2)
  fault_begun answer st f = f

  fault_turned : (step : Step) (answer : Answer) (st : Standing) → HasFault st → HasFault (after_turn step st answer)
  fault_turned BeginStep Done st f = f
  fault_turned Finish Done st f = f
  fault_turned BeginStep answer st f = fault_if answer st f
  fault_turned Finish answer st f = fault_if answer st f
  fault_turned Flush answer st f = fault_if answer st f
  fault_turned SyncStep answer st f = fault_if answer st f

  pub fault_stays : (st : Standing) (event : Event) → HasFault st → HasFault (after_event st event)
  fault_stays st (Called session line call answer victims) f = fault_called st session line call answer victims f
  fault_stays st (Resume session line answer victims) f = fault_resumed (wait_of session st.waiting) st session line answer victims f
  fault_stays st (End session) f = fault_ended (active_of session st.actives) (record st { waiting = without_wait session st.waiting }) f
  fault_stays st (WriteOut answer) f = fault_if answer st f
  fault_stays st (SyncBegin answer) f = fault_begun answer st f
  fault_stays st (SyncEnd answer) f = fault_if answer (record st { begun = None }) f
  fault_stays st (Turn line step answer) f = fault_turned step answer st f

-- ---- journals

-- what is carried along a journal: all that holds of the calls, until a fault comes
abbrev Carries : Standing → List AnsweredCall → Type 0
Carries st told = ((st.fault ≡ None) × AreRight st × AreBare st × IsKnown st told) ⊎ HasFault AreIndexed st

carried : (limit : Option Answer) (st : Standing) (event : Event) (told : List AnsweredCall) → Carries st told → IsAnswered limit st event → Carries (after_event st event) (with_told (told_by st event) told)
carried limit st event told (inl c) is = by (after_event st event).fault refl
  where
    known : IsKnown (after_event st event) (with_told (told_by st event) told)
    known = event_known limit st event told c.2 c.0 c.1 c.3 is

    by : (o : Option Fault) → (after_event st event).fault ≡ o → Carries (after_event st event) (with_told (told_by st event) told)
    by None e = inl (e, standings_stay-right limit st event c.0 c.1 is, standings_stay-bare limit st event c.0 c.1 c.2 is, known)
    by (Some first) e = inr (first, e, are_indexed (after_event st event) (with_told (told_by st event) told) known.ground)
carried limit st event told (inr f) is = inr (fault_stays AreIndexed st event f)

owed : (limit : Option Answer) (st : Standing) (event : Event) (told : List AnsweredCall) → Carries st told → IsAnswered limit st event → IsOwedAt st told event
owed limit st event told (inl c) is = owed_event limit st event told c.3 is
owed limit st event told (inr f) is = owed_faulted limit st event told f.0 f.1 is

replays : (limits : List (Option Answer)) (journal : List Event) (st : Standing) (told : List AnsweredCall) → Carries st told → AnswersAsModel st limits journal → ReplaysFrom st told journal
replays limits [] st told c is = tt
replays [] (event ∷ journal) st told c is = absurd is
replays (limit ∷ limits) (event ∷ journal) st told c is =
    (owed limit st event told c is.0, replays limits journal (after_event st event) (with_told (told_by st event) told) (carried limit st event told c is.0) is.1)

-- ---- indexes

indexed_at : (st : Standing) (told : List AnsweredCall) → Carries st told → IsIndexedAt st
indexed_at st told (inl c) = record {
  store = are_indexed st told c.3.ground;
  seen = λ e. all_of (AreIndexedFor st) st.actives (λ a k. are_seen st told c.3.ground c.1.sound a);
}
indexed_at st told (inr f) = record { store = f.2; seen = λ e. let h = sym e ∙ f.1 in absurd (cc (h)) }

stays : (limits : List (Option Answer)) (journal : List Event) (st : Standing) (told : List AnsweredCall) → Carries st told → AnswersAsModel st limits journal → StaysIndexed st journal
stays limits [] st told c is = indexed_at st told c
stays [] (event ∷ journal) st told c is = absurd is
stays (limit ∷ limits) (event ∷ journal) st told c is =
    (indexed_at st told c, stays limits journal (after_event st event) (with_told (told_by st event) told) (carried limit st event told c is.0) is.1)

ends : (limits : List (Option Answer)) (journal : List Event) (st : Standing) (told : List AnsweredCall) → Carries st told → AnswersAsModel st limits journal → IsIndexedAt (after_events st journal)
ends limits [] st told c is = indexed_at st told c
ends [] (event ∷ journal) st told c is = absurd is
ends (limit ∷ limits) (event ∷ journal) st told c is = ends limits journal (after_event st event) (with_told (told_by st event) told) (carried limit st event told c is.0) is.1

-- ---- the beginning

is_some_found : (store : Store) (d : Database) → IsAmong d store.databases → IsSome (database_of d.name store)
is_some_found store d there =
    let f = find_some (λ (e : Database). is_same_bytes e.name d.name) store.databases (any_from (λ (e : Database). is_same_bytes e.name d.name) store.databases d there (same_bytes d.name)) in
    subst (λ (o : Option Database). IsSome o) (sym f.1) refl

numbered_first : (store : Store) (last : ℕ) (numbers : Numbers) → HaveNumbers store last numbers → AreNumbered numbers last store.databases
numbered_first store last numbers k = record {
  allocated = λ d a. (k.allocated d.name (is_some_found store d a)).1;
  apart = λ d e a b h. k.apart d.name e.name (is_some_found store d a) h;
}

known_first : (p : Alone) → IsStore p.store → HaveNumbers p.store p.last_db p.numbers → AreIndexed p.store → IsKnown (alone p) []
known_first p right numbers indexed = record {
  ground = record { well = well; fits = λ t. tt; up = first_up (alone p) well indexed (λ t. refl); last = tt };
  each = λ a k. absurd k;
}
  where
    well : IsWell (alone p)
    well = record { store = right; numbers = numbered_first p.store p.last_db p.numbers numbers; over = indexed_over p.store indexed }

first : (p : Alone) → IsStore p.store → HaveNumbers p.store p.last_db p.numbers → AreIndexed p.store → Carries (alone p) []
first p right numbers indexed = by p.fault refl
  where
    by : (o : Option Fault) → p.fault ≡ o → Carries (alone p) []
    by None e = inl (e, alone-is_right p, tt, known_first p right numbers indexed)
    by (Some f) e = inr (f, e, indexed)

pub journals-replay : JournalsReplay
journals-replay p limits journal right numbers indexed is = replays limits journal (alone p) [] (first p right numbers indexed) is

-- and at a journal's end
pub indexed_after : (p : Alone) (limits : List (Option Answer)) (journal : List Event) → IsStore p.store → HaveNumbers p.store p.last_db p.numbers → AreIndexed p.store → AnswersAsModel (alone p) limits journal
    → IsIndexedAt (after_events (alone p) journal)
indexed_after p limits journal right numbers indexed is = ends limits journal (alone p) [] (first p right numbers indexed) is

pub indexes-stay : IndexesStay
indexes-stay p limits journal right numbers indexed is = stays limits journal (alone p) [] (first p right numbers indexed) is

pub none_is-indexed : NoneIsIndexed
none_is-indexed store none = all_of (λ d. IsIndex store d d.index) store.databases (λ d a.
    subst (IsIndex store d) (sym (all_at (λ (x : Database). x.index ≡ None) store.databases d none a)) tt)
