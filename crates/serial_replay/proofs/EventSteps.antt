-- Each step of an event keeps what holds of the calls: a call on records.
use Rattle.std.proofs.Common.{◌≡◌, ◌⊎◌, inl, inr, ℕ, ◌==◌, Bool, true, false, List, [], ◌∷◌, ◌++◌, find, Option, None, Some, refl, ap, sym, ◌∙◌, subst, ⊎_elim, arith, append-nil}
use Rattle.std.specs.List.{filter, AllByRecursion}
use Rattle.std.specs.Option.{option_map}
use Rattle.std.proofs.lemmas.Bool.{eqb-true, cases_Bool, cond-true, cond-false}
use Rattle.je_order.specs.Transactions.{is_same_txn}
use Rattle.je_order.proofs.TxnIds.{same_itself}
use Rattle.lock_table.specs.declared.record_id.RecordId.{RecordId}
use Rattle.store_model.specs.declared.call.Call.{Call}
use Rattle.store_model.specs.declared.call.Call.TheVariants.{Get, GetBoth, Put, Delete, Count, Cur, CPutCur, CDel, CPut}
use Rattle.store_model.specs.declared.store.Database.{Database}
use Rattle.store_model.specs.declared.change.Change.{Change}
use Rattle.store_model.specs.declared.record_change.RecordChange.{RecordChange}
use Rattle.store_model.specs.declared.need.Need.{Need}
use Rattle.store_model.specs.declared.victim.Victim.{Victim}
use Rattle.store_model.specs.declared.answer.Answer.{Answer}
use Rattle.je_order.specs.declared.name.Name.{Name}
use Rattle.store_model.specs.declared.place.Place.{Place}
use Rattle.store_model.specs.Store.{database_of, change_in}
use Rattle.store_model.specs.Records.{Evaluated}
use Rattle.store_model.specs.Indexes.{Numbered, all_changes}
use Rattle.store_model.specs.declared.isolation.Isolation.{Isolation}
use Rattle.store_model.specs.declared.isolation.Isolation.TheVariants.{ReadUncommitted, ReadCommitted, RepeatableRead, Serializable}
use Rattle.je_answers.specs.declared.active.Active.{Active}
use Rattle.je_answers.specs.Standing.{active_of, Standing, place_at, database_at, with_at}
use Rattle.je_answers.specs.Views.{Target, seen_changes, with_numbers, target, named_target, target_at, cursor_target, target_of, view_of, changes_with, with_names, changes_in, changes_named, needs_in, outcome_of}
use Rattle.je_answers.specs.Locking.{Queues, all_got, granted_part, first_blocked, given_back, with_wait}
use Rattle.je_answers.specs.Events.{locks_before}
use Rattle.je_answers.specs.After.{faulted, ended, committed_if_any, moved, with_locks, answered, with_outcome, closed, marked_by, is_victim, without_waits_of, with_waiting, txns_of, after_stop}
use Rattle.standing_laws.specs.Right.{AreSound, MayWait, HoldsWrite, is_active, txn_id}
use Rattle.standing_laws.proofs.Among.{IsAmong, any_from, mapped_among, filter_among}
use Rattle.standing_laws.proofs.Steps.{state, sound_all_got, sound_back}
use Rattle.standing_laws.proofs.Moves.{sound_own}
use Rattle.standing_laws.proofs.Stays.{same_active}
use Rattle.standing_laws.proofs.StandingsStay.{MayRun, there_is}
use Rattle.serial_replay.specs.Replay.{AnsweredCall, is_evaluated, name_on, with_told, cursor_of}
use Rattle.serial_replay.proofs.Holding.{all_got_keeps, wait_keeps}
use Rattle.serial_replay.proofs.Stores.{by_number}
use Rattle.serial_replay.proofs.Places.{moved_at, moved_is, IsAtCursor, IsTargetOf, stays_lost}
use Rattle.serial_replay.proofs.Keeping.{see_with, KeepsPlaces, keeps, IsGround, IsKnown}
use Rattle.serial_replay.proofs.Calls.{IsLost}
use Rattle.serial_replay.proofs.Here.{HasRecords}
use Rattle.serial_replay.proofs.Ending.{end_is, end_named, known_end}
use Rattle.serial_replay.proofs.Calling.{made, made_there, IsCallOf, own_its, writes_held}
use Rattle.serial_replay.proofs.Told.{ground_call, others_call, known_call}
use Rattle.serial_replay.proofs.Quiet.{IsQuiet, KeepsLocks, IsSameOne, as_before, known_quiet, same_locks, same_places, locks_with, all_back_keeps}
use Rattle.serial_replay.proofs.Victims.{victims_keep}

-- ---- nothing more is told

pub as_told : (st new : Standing) (o : Option AnsweredCall) (told : List AnsweredCall) → o ≡ None → IsKnown new told → IsKnown new (with_told o told)
as_told st new o told e known = subst (λ (x : Option AnsweredCall). IsKnown new (with_told x told)) (sym e) known

-- nothing but the marks of syncs, checkpoints and faults changes
pub same_known : (st new : Standing) (told : List AnsweredCall) → AreSound st → IsQuiet st new → ((r : RecordId) → new.locks.at r ≡ st.locks.at r) → ((session : ℕ) → new.places session ≡ st.places session) → new.actives ≡ st.actives
    → IsKnown st told → IsKnown new told
same_known st new told sound quiet locks places actives known = known_quiet st new told sound quiet known
    (λ b k keep. inl (as_before st new b (subst (IsAmong b) actives k) (same_locks b.txn st new locks) (λ own. same_places b.session st new (places b.session))))

pub faulted_known : (st : Standing) (told : List AnsweredCall) → AreSound st → IsKnown st told → IsKnown (faulted st) told
faulted_known st told sound known = same_known st (faulted st) told sound (record { store = refl; numbers = refl; last_db = refl; last_txn = (omega arith); own = λ t. refl }) (λ r. refl) (λ session. refl) refl known

-- ---- the database that a call is on

some_target : (x y : Target) → Some x ≡ Some y → x ≡ y
some_target x y h = cc (h)

-- its database, where its cursor stands in it, and that it is found there
abbrev pub IsFactOf : Standing → ℕ → Option ℕ → Target → Type 0
IsFactOf st session cursor g = (database_at g.db st ≡ Some g.database) × IsAtCursor (st.places session) cursor g × (target st.numbers st.store g.db g.at g.database ≡ g)

named_facts : (st : Standing) (told : List AnsweredCall) (session : ℕ) (db : List ℕ) (g : Target) → IsGround st told → named_target st db ≡ Some g → IsFactOf st session None g
named_facts st told session db g ground e = by (database_of db st.store) refl e
  where
    by : (o : Option Database) → database_of db st.store ≡ o → option_map (target st.numbers st.store (st.numbers db) None) o ≡ Some g → IsFactOf st session None g
    by None f h = absurd (cc (h))
    by (Some d) f h = subst (IsFactOf st session None) (some_target (target st.numbers st.store (st.numbers db) None d) g h)
        (by_number st.numbers st.last_db st.store db d ground.well.numbers f, refl, refl)

cursor_facts : (st : Standing) (told : List AnsweredCall) (session cursor : ℕ) (g : Target) → IsGround st told → cursor_target st session cursor ≡ Some g → IsFactOf st session (Some cursor) g
cursor_facts st told session cursor g ground e = by (place_at cursor (st.places session)) refl e
  where
    found : (p : Place) → place_at cursor (st.places session) ≡ Some p → (o : Option Database) → database_at p.db st ≡ o → option_map (target st.numbers st.store p.db p.at) o ≡ Some g → IsFactOf st session (Some cursor) g
    found p f None i h = absurd (cc (h))
    found p f (Some d) i h = subst (IsFactOf st session (Some cursor)) (some_target (target st.numbers st.store p.db p.at d) g h) (i, (p, f, refl, refl), refl)

    by : (o : Option Place) → place_at cursor (st.places session) ≡ o → target_at st o ≡ Some g → IsFactOf st session (Some cursor) g
    by None f h = absurd (cc (h))
    by (Some p) f h = found p f (database_at p.db st) refl h

pub target_facts : (st : Standing) (told : List AnsweredCall) (session : ℕ) (call : Call) (g : Target) → MayWait call → IsGround st told → target_of st session call ≡ Some g
    → IsFactOf st session (cursor_of call) g
target_facts st told session (Get db key rmw) g may ground e = named_facts st told session db g ground e
target_facts st told session (GetBoth db key value rmw) g may ground e = named_facts st told session db g ground e
target_facts st told session (Put db key value mode) g may ground e = named_facts st told session db g ground e
target_facts st told session (Delete db key) g may ground e = named_facts st told session db g ground e
target_facts st told session (Count cursor) g may ground e = cursor_facts st told session cursor g ground e
target_facts st told session (Cur cursor motion rmw) g may ground e = cursor_facts st told session cursor g ground e
target_facts st told session (CPutCur cursor value) g may ground e = cursor_facts st told session cursor g ground e
target_facts st told session (CDel cursor) g may ground e = cursor_facts st told session cursor g ground e
target_facts st told session (CPut cursor key value mode) g may ground e = cursor_facts st told session cursor g ground e
target_facts st told session call g may ground e = absurd may

-- ---- a transaction ends without a commit

pub known_ended : (st : Standing) (a : Active) (told : List AnsweredCall) → AreSound st → IsAmong a st.actives → IsKnown st told → IsKnown (ended a st) told
known_ended st a told sound there known = known_end st a [] (ended a st) told sound there known.ground (inl refl) (end_is st a []) (λ b k apart. known.each b k)

-- ---- a call on records, of a transaction that may run it

-- locks change nothing that is seen
seen_same : (level : Isolation) (a : Active) (at : Queues) (st : Standing) → seen_changes level (with_locks a at st) a.txn.0 ≡ seen_changes level st a.txn.0
seen_same ReadUncommitted a at st = refl
seen_same ReadCommitted a at st = refl
seen_same RepeatableRead a at st = refl
seen_same Serializable a at st = refl

module _ (st : Standing) (a : Active) (call : Call) (g : Target) (told : List AnsweredCall) (may : MayWait call) (m : MayRun st a) (known : IsKnown st told) (on : IsTargetOf st a call g) where
  active : is_active a.txn st.actives ≡ true
  active = any_from (λ (b : Active). is_same_txn a.txn b.txn) st.actives a (there_is st a m) (same_itself a.txn)

  sound : AreSound st
  sound = m.right.sound

  quiet_with : (at : Queues) → IsQuiet st (with_locks a at st)
  quiet_with at = record { store = refl; numbers = refl; last_db = refl; last_txn = (omega arith); own = λ t. refl }

  same_one : (b : Active) → IsAmong b st.actives → a.txn ≡ b.txn → a ≡ b
  same_one b k e = same_active st.last_txn st.actives a b sound.numbers (there_is st a m) k e

  -- locks that were got, and given back as the level says
  pub known_locks : (ns : List Need) → IsKnown (with_locks a (all_got a.txn ns st.locks.at) st) told
  known_locks ns =
      let new : Standing = with_locks a (all_got a.txn ns st.locks.at) st in
      known_quiet st new told sound (quiet_with (all_got a.txn ns st.locks.at)) known
      (λ b k keep. inl (as_before st new b k (locks_with a.level a.txn b.txn ns st new (λ r. refl) (λ e. ap (λ (x : Active). keeps x.level) (same_one b k e) ∙ keep)) (λ own. same_places b.session st new refl)))

  -- ---- it is stopped

  abbrev stopped_at : ℕ → Need → List Victim → Standing
  stopped_at line n vs = without_waits_of vs (with_waiting st a line call g n vs)

  -- a mark tells of the cycle alone
  marked_one : (o : Option Victim) (new : Standing) (b : Active) → IsAmong b st.actives → KeepsLocks (marked_by o b).txn st new → KeepsPlaces b.session st new → IsSameOne st new (marked_by o b)
  marked_one None new b k locks places = as_before st new b k locks (λ own. places)
  marked_one (Some v) new b k locks places = record { old = b; there = k; txn = refl; level = refl; session = refl; auto = refl; locks = locks; places = λ own. places }

  -- a victim of that number is that one, and a mark leaves its level
  marked_keeps : (o : Option Victim) (b c : Active) → IsAmong b st.actives → IsAmong c st.actives → keeps (marked_by o c).level ≡ true → b.txn ≡ (marked_by o c).txn → keeps b.level ≡ true
  marked_keeps None b c k l keep e = ap (λ (x : Active). keeps x.level) (same_active st.last_txn st.actives b c sound.numbers k l e) ∙ keep
  marked_keeps (Some v) b c k l keep e = ap (λ (x : Active). keeps x.level) (same_active st.last_txn st.actives b c sound.numbers k l e) ∙ keep

  known_waiting : (line : ℕ) (n : Need) (vs : List Victim) → IsKnown (stopped_at line n vs) told
  known_waiting line n vs =
      known_quiet st (stopped_at line n vs) told sound (record { store = refl; numbers = refl; last_db = refl; last_txn = (omega arith); own = λ t. refl }) known
      (λ b k keep. let c = mapped_among (λ (x : Active). marked_by (find (λ (v : Victim). v.session == x.session) vs) x) st.actives b k in
      inl (subst (IsSameOne st (stopped_at line n vs)) c.2
      (marked_one (find (λ (v : Victim). v.session == c.0.session) vs) (stopped_at line n vs) c.0 c.1
      (λ sort s r h. let u = (marked_by (find (λ (v : Victim). v.session == c.0.session) vs) c.0).txn in
      all_back_keeps sort s u (filter (λ x. is_victim x.session vs) st.actives) (with_wait a.txn n (txns_of vs st.actives) (locks_before st a call g)).at r
      (λ x k. marked_keeps (find (λ (v : Victim). v.session == c.0.session) vs) x c.0 (filter_among (λ (y : Active). is_victim y.session vs) st.actives x k).0 c.1 (ap (λ (y : Active). keeps y.level) c.2 ∙ keep))
      (wait_keeps sort s a.txn u n (txns_of vs st.actives) (locks_before st a call g) r (all_got_keeps sort s a.txn u (granted_part a.txn (needs_in st a call g) st.locks.at) st.locks.at r h)))
      (same_places c.0.session st (stopped_at line n vs) refl))))

  pub known_stop : (b : Bool) (line : ℕ) (n : Need) (vs : List Victim) → first_blocked a.txn (needs_in st a call g) st.locks.at ≡ Some n → IsKnown (after_stop b st a line call g n vs) told
  known_stop false line n vs stopped = known_locks (granted_part a.txn (needs_in st a call g) st.locks.at)
  known_stop true line n vs stopped = victims_keep st a line call g n vs may m stopped (λ x. IsKnown x told) (λ x b r k h. known_ended x b told r.sound k h) (known_waiting line n vs)

  -- ---- it gets its locks

  module _ (free : first_blocked a.txn (needs_in st a call g) st.locks.at ≡ None) where
    abbrev done : Standing
    done = with_outcome a call g (outcome_of st a call g) (answered a call g st)

    step : IsCallOf st a call g told may m.right.sound known.ground on free done
    step = record {
      store = refl;
      numbers = refl;
      last_db = refl;
      last_txn = refl;
      own = λ t. ap (λ (l : List (ℕ × RecordChange)). with_at a.txn.0 (st.own a.txn.0 ++ with_numbers (all_changes g.over (g.db, g.database) g.indexes (see_with l) (outcome_of st a call g).changes)) st.own t)
          (seen_same a.level a (all_got a.txn (needs_in st a call g) st.locks.at) st);
      places = λ session. refl;
      locks = λ r. refl;
    }

    -- a transaction that goes on, and is told an answer of evaluation
    pub known_done : a.is_auto ≡ false → name_on (target_of st a.session call) ≡ g.database.name → is_evaluated (outcome_of st a call g).answer ≡ true → (answer : Answer) → answer ≡ (outcome_of st a call g).answer → (a.level ≡ RepeatableRead → HasRecords st a)
        → IsKnown done (told ++ record { txn = a.txn; call = call; db = name_on (target_of st a.session call); answer = answer; own = changes_named st (st.own a.txn.0) } ∷ [])
    known_done auto named evaluated answer e complete =
        subst (λ (x : Answer). IsKnown done (told ++ record { txn = a.txn; call = call; db = name_on (target_of st a.session call); answer = x; own = changes_named st (st.own a.txn.0) } ∷ [])) (sym e)
        (known_call st a call g told may m.right.sound known.ground on free done step (there_is st a m) refl auto named evaluated complete known)

    -- where the cursor stands at no record nothing is as it was not
    pub known_lost : IsLost g.database.kind call g.at (view_of st a g) → IsKnown done told
    known_lost lost =
        known_quiet st done told sound (record { store = refl; numbers = refl; last_db = refl; last_txn = (omega arith); own = same_own }) known
        (λ b k keep. inl (as_before st done b k
        (locks_with a.level a.txn b.txn (needs_in st a call g) st done (λ r. refl) (λ e. ap (λ (x : Active). keeps x.level) (same_one b k e) ∙ keep))
        (λ own cursor. same_place b cursor (cases_Bool (b.session == a.session)))))
      where
        same_own : (t : ℕ) → done.own t ≡ st.own t
        same_own t = step.own t ∙ ⊎_elim
            (λ e. cond-true (t == a.txn.0) (st.own a.txn.0 ++ with_numbers (made st a call g)) (st.own t) e
            ∙ (ap (λ (v : Evaluated). st.own a.txn.0 ++ with_numbers (changes_with st a g v.changes)) lost.is ∙ (append-nil (st.own a.txn.0) ∙ ap st.own (sym (eqb-true t a.txn.0 e)))))
            (λ e. cond-false (t == a.txn.0) (st.own a.txn.0 ++ with_numbers (made st a call g)) (st.own t) e)
            (cases_Bool (t == a.txn.0))

        moved_none : (cursor : ℕ) → place_at cursor (moved call (outcome_of st a call g).place (st.places a.session)) ≡ place_at cursor (st.places a.session)
        moved_none cursor =
            ap (place_at cursor) (moved_is call (outcome_of st a call g).place (st.places a.session)
            ∙ ap (λ (o : Option Name). moved_at (cursor_of call) o (st.places a.session)) (ap (λ (v : Evaluated). v.place) lost.is ∙ lost.none))
            ∙ stays_lost (cursor_of call) g (st.places a.session) cursor on.its lost.none

        same_place : (b : Active) (cursor : ℕ) → ((b.session == a.session) ≡ true) ⊎ ((b.session == a.session) ≡ false) → place_at cursor (done.places b.session) ≡ place_at cursor (st.places b.session)
        same_place b cursor (inl e) =
            ap (place_at cursor) (cond-true (b.session == a.session) (moved call (outcome_of st a call g).place (st.places a.session)) (st.places b.session) e)
            ∙ (moved_none cursor ∙ ap (λ (n : ℕ). place_at cursor (st.places n)) (sym (eqb-true b.session a.session e)))
        same_place b cursor (inr e) = ap (place_at cursor) (cond-false (b.session == a.session) (moved call (outcome_of st a call g).place (st.places a.session)) (st.places b.session) e)

    sound_answered : AreSound (answered a call g st)
    sound_answered = sound_back st.last_txn st.actives st.own st.places st.waiting (state (all_got a.txn (needs_in st a call g) st.locks.at) st.locks.pending) a.level a.txn
        (sound_all_got st.last_txn st.actives st.own st.places st.waiting st.locks a.txn (needs_in st a call g) sound active m.told free)

    pub known_refused : IsKnown (closed a.is_auto a [] (answered a call g st)) told
    known_refused = by a.is_auto
      where
        by : (b : Bool) → IsKnown (closed b a [] (answered a call g st)) told
        by true = known_ended (answered a call g st) a told sound_answered (there_is st a m) (known_locks (needs_in st a call g))
        by false = known_locks (needs_in st a call g)

    -- a transaction of one call, which is committed and ends
    held : AllByRecursion (HoldsWrite (given_back a.level a.txn (all_got a.txn (needs_in st a call g) st.locks.at)) a.txn) (with_numbers (made st a call g))
    held = writes_held st a call g told may m.right.sound known.ground on free done step

    sound_done : AreSound done
    sound_done =
        let s = sound_own st.last_txn st.actives st.own st.places st.waiting (answered a call g st).locks a.txn (with_numbers (made st a call g)) sound_answered active held in
        record {
          numbers = s.numbers;
          waits = s.waits;
          tables = s.tables;
          owners = s.owners;
          own_active = λ n h. step.own n ∙ s.own_active n h;
          own_locked = λ n. subst (AllByRecursion (HoldsWrite done.locks.at (txn_id n))) (sym (step.own n)) (s.own_locked n);
          places = λ session none. ⊎_elim
              (λ e. let its = sym none ∙ (ap (λ (n : ℕ). active_of n st.actives) (eqb-true session a.session e) ∙ m.its) in absurd (cc (its)))
              (λ e. cond-false (session == a.session) (moved call (outcome_of st a call g).place (st.places a.session)) (st.places session) e ∙ sound.places session none)
              (cases_Bool (session == a.session));
        }

    -- its changes are named by the databases that they are in
    all_named : (ms : List (Numbered × RecordChange)) → ((m : Numbered × RecordChange) → IsAmong m ms → database_at m.0.0 st ≡ Some m.0.1) → with_names ms ≡ changes_named done (with_numbers ms)
    all_named [] there = refl
    all_named (m ∷ ms) there =
        ap (λ (l : List Change). change_in m.0.1.name m.1 ∷ l) (all_named ms (λ x i. there x (inr i)))
        ∙ ap (λ (o : Option Database). changes_in o m.1 ++ changes_named done (with_numbers ms)) (sym (there m (inl refl)))

    -- they are all its own
    whole : st.own a.txn.0 ≡ [] → with_numbers (made st a call g) ≡ done.own a.txn.0
    whole bare =
        ap (λ (l : List (ℕ × RecordChange)). l ++ with_numbers (made st a call g)) (sym bare)
        ∙ sym (own_its st a call g told may m.right.sound known.ground on free done step)

    pub known_committed : st.own a.txn.0 ≡ [] → IsKnown (ended a (committed_if_any (with_names (changes_with st a g (outcome_of st a call g).changes)) done)) told
    known_committed bare =
        known_end done a (with_numbers (made st a call g)) (ended a (committed_if_any (with_names (changes_with st a g (outcome_of st a call g).changes)) done)) told sound_done (there_is st a m)
        (ground_call st a call g told may m.right.sound known.ground on free done step (there_is st a m)) (inr (whole bare))
        (end_named done a (with_numbers (made st a call g)) (with_names (changes_with st a g (outcome_of st a call g).changes))
        (all_named (made st a call g) (made_there st a call g told may m.right.sound known.ground on free)))
        (others_call st a call g told may m.right.sound known.ground on free done step (there_is st a m) (λ b k apart. known.each b k))
