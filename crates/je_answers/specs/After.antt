-- Where each event leaves the environment, cut as its answers are (Events).
use Rattle.std.specs.Prelude.{ℕ, ◌+◌, ◌==◌, ◌&&◌, ◌++◌, ◌∷◌, [], List, Option, None, Some, Bool, true, false, not, map, filter, find, if◌then◌else◌}
use Rattle.std.specs.List.{list_any}
use Rattle.je_order.specs.declared.txn_id.TxnId.{TxnId}
use Rattle.je_order.specs.declared.name.Name.{Name}
use Rattle.store_model.specs.declared.durability.Durability.{Durability}
use Rattle.store_model.specs.declared.isolation.Isolation.{Isolation}
use Rattle.store_model.specs.declared.call.Call.{Call}
use Rattle.store_model.specs.declared.call.Call.TheVariants.{Begin, Commit, Abort, List as Lists, Create, CreateIndex, Remove, Rename, Truncate, Open, Close, Dup, Count, Cur, CPutCur, CDel, CPut}
use Rattle.store_model.specs.declared.change.Change.{Change}
use Rattle.store_model.specs.declared.record_change.RecordChange.{RecordChange}
use Rattle.store_model.specs.declared.place.Place.{Place}
use Rattle.store_model.specs.declared.need.Need.{Need}
use Rattle.store_model.specs.declared.victim.Victim.{Victim}
use Rattle.store_model.specs.declared.step.Step.{Step}
use Rattle.store_model.specs.declared.step.Step.TheVariants.{Begin as BeginStep, Finish}
use Rattle.store_model.specs.declared.answer.Fault.TheVariants.{Disk}
use Rattle.store_model.specs.declared.answer.Answer.{Answer}
use Rattle.store_model.specs.declared.answer.Answer.TheVariants.{Done, DatabaseInUse, LogFull, IdsEnded, DiskFault}
use Rattle.store_model.specs.declared.event.Event.{Event}
use Rattle.store_model.specs.declared.event.Event.TheVariants.{Call as Called, Resume, End, WriteOut, SyncBegin, SyncEnd, Turn}
use Rattle.store_model.specs.Store.{all_changed}
use Rattle.store_model.specs.Records.{Evaluated}
use Rattle.store_model.specs.Evaluation.{evaluation}
use Rattle.store_model.specs.Refusals.{made_by, next_txn}
use Rattle.je_answers.specs.declared.active.Active.{Active}
use Rattle.je_answers.specs.declared.wait.Wait.{Wait}
use Rattle.je_answers.specs.Standing.{Standing, active_of, wait_of, without_wait, place_at, with_at, all_numbered}
use Rattle.je_answers.specs.Views.{Target, target_of, changes_with, with_numbers, with_names, changes_named, outcome_of, needs_in}
use Rattle.je_answers.specs.Refusals.{early_refusal, late_refusal}
use Rattle.je_answers.specs.Locking.{Queues, all_got, first_blocked, given_back, all_given_back, released, with_wait}
use Rattle.je_answers.specs.Events.{auto_active, begun, asking, queues_before, locks_before, resumed, IsAnswered}

-- ---- what an answer says of the changes of its call

-- they are logged; or refused; or the disk failed
pub data Fate : Type 0 where
  Succeeds : Fate
  IsRefused : Fate
  Faults : Fate

-- what became of changes, by the answer: they were refused, the disk failed, or they were made
abbrev pub fate_of : Answer → Fate
fate_of (DatabaseInUse txn) = IsRefused
fate_of LogFull = IsRefused
fate_of IdsEnded = IsRefused
fate_of DiskFault = Faults
fate_of answer = Succeeds

-- ---- small steps

-- a call outside a transaction allocated a number
abbrev pub drawn_by : Option Active → Standing → Standing
drawn_by None st = record st { last_txn = next_txn st.last_txn }
drawn_by (Some a) st = st

-- the disk failed: all is as it was, and every later call is Invalid
abbrev pub faulted : Standing → Standing
faulted st = record st { fault = Some Disk }

-- changes were committed
abbrev pub committed : List Change → Standing → Standing
committed changes st = record st {
  store = all_changed changes st.store;
  numbers = all_numbered changes st.last_db st.numbers;
  last_db = st.last_db + made_by changes;
  commits = st.commits + 1;
}

-- a transaction is at its end: its cursors are closed and its locks go
abbrev pub without_session : ℕ → List Active → List Active
without_session session actives = filter (λ a. not (a.session == session)) actives

-- a transaction has ended: its own changes, its cursors and its locks are gone
abbrev pub ended : Active → Standing → Standing
ended a st = record st {
  actives = without_session a.session st.actives;
  own = with_at a.txn.0 [] st.own;
  places = with_at a.session [] st.places;
  locks = released a.txn st.locks;
}

-- the session's transaction has ended, if it has one
abbrev pub ended_if_any : Option Active → Standing → Standing
ended_if_any None st = st
ended_if_any (Some a) st = ended a st

-- a transaction commits its own changes, and ends
abbrev pub committed_if_any : List Change → Standing → Standing
committed_if_any [] st = st
committed_if_any (change ∷ changes) st = committed (change ∷ changes) st

-- ---- a call on records

-- a cursor stands elsewhere
abbrev pub moved_to : ℕ → Option Name → List Place → List Place
moved_to cursor at places = map (λ p. if p.cursor == cursor then record { cursor = cursor; db = p.db; at = at } else p) places

-- the cursor of a call on records stands where the call left it
abbrev pub moved : Call → Option Name → List Place → List Place
moved (Count cursor) at places = moved_to cursor at places
moved (Cur cursor motion rmw) at places = moved_to cursor at places
moved (CPutCur cursor value) at places = moved_to cursor at places
moved (CDel cursor) at places = moved_to cursor at places
moved (CPut cursor key value mode) at places = moved_to cursor at places
moved call at places = places

-- a call was answered: of the locks that it got only those stay that its level keeps
abbrev pub with_locks : Active → Queues → Standing → Standing
with_locks a at st = record st { locks = record { at = given_back a.level a.txn at; pending = st.locks.pending } }

-- a call has got its locks and was answered: of these only those stay that its level keeps
abbrev pub answered : Active → Call → Target → Standing → Standing
answered a call g st = with_locks a (all_got a.txn (needs_in st a call g) st.locks.at) st

-- its cursor moved, and its changes are the transaction's own
abbrev pub with_outcome : Active → Call → Target → Evaluated → Standing → Standing
with_outcome a call g evaluated st = record st {
  own = with_at a.txn.0 (st.own a.txn.0 ++ with_numbers (changes_with st a g evaluated.changes)) st.own;
  places = with_at a.session (moved call evaluated.place (st.places a.session)) st.places;
}

-- a call of its own transaction commits it and ends it
abbrev pub closed : Bool → Active → List Change → Standing → Standing
closed true a changes st = ended a (committed_if_any changes st)
closed false a changes st = st

-- a call that got its locks: what it was to change was logged or not; a fault leaves the standing as it was before
abbrev pub after_fate : Fate → Standing → Standing → Active → Call → Target → Evaluated → Standing
after_fate Succeeds old st a call g evaluated = closed a.is_auto a (with_names (changes_with st a g evaluated.changes)) (with_outcome a call g evaluated (answered a call g st))
after_fate IsRefused old st a call g evaluated = closed a.is_auto a [] (answered a call g st)
after_fate Faults old st a call g evaluated = faulted old

-- a call without changes is done; one with changes is what its answer says of them
abbrev pub after_changes : List RecordChange → Standing → Standing → Active → Call → Target → Evaluated → Answer → Standing
after_changes [] old st a call g evaluated answer = after_fate Succeeds old st a call g evaluated
after_changes (change ∷ changes) old st a call g evaluated answer = after_fate (fate_of answer) old st a call g evaluated

-- ---- a call that waits

-- whether a session is among the victims
abbrev pub is_victim : ℕ → List Victim → Bool
is_victim session victims = list_any (λ v. v.session == session) victims

-- the transactions of victims
abbrev pub txns_of : List Victim → List Active → List TxnId
txns_of victims actives = map (λ a. a.txn) (filter (λ a. is_victim a.session victims) actives)

-- a victim has its cycle, and can only abort
abbrev pub marked_by : Option Victim → Active → Active
marked_by None a = a
marked_by (Some v) a = record a { deadlock = Some v.cycle }

-- each victim's transaction has its cycle
abbrev pub marked : List Victim → List Active → List Active
marked victims actives = map (λ a. marked_by (find (λ v. v.session == a.session) victims) a) actives

-- the victims that are transactions of one call end
abbrev pub all_ended : List Active → Standing → Standing
all_ended [] st = st
all_ended (a ∷ as_) st = all_ended as_ (ended a st)

-- the victims that are transactions of one call
abbrev pub autos_in : List Victim → List Active → List Active
autos_in victims actives = filter (λ a. a.is_auto && is_victim a.session victims) actives

-- the victims' calls are answered: each of them waits no more, and of its locks only those stay that its level keeps
abbrev pub without_waits_of : List Victim → Standing → Standing
without_waits_of victims st = record st {
  actives = marked victims st.actives;
  waiting = filter (λ w. not (is_victim w.session victims)) st.waiting;
  locks = record { at = all_given_back (filter (λ a. is_victim a.session victims) st.actives) st.locks.at; pending = st.locks.pending };
}

-- the victims wait no more, and those that are transactions of one call have ended
abbrev pub with_victims : List Victim → Standing → Standing
with_victims victims st = all_ended (autos_in victims st.actives) (without_waits_of victims st)

-- the call waits, and the waits of the victims are gone from the locks
abbrev pub with_waiting : Standing → Active → ℕ → Call → Target → Need → List Victim → Standing
with_waiting st a line call g n victims = record st {
  waiting = st.waiting ++ asking a line call ∷ [];
  locks = with_wait a.txn n (txns_of victims st.actives) (locks_before st a call g);
}

-- behind a call that did not get a lock: it waits, and victims are told, if its transaction waits at all
abbrev pub after_stop : Bool → Standing → Active → ℕ → Call → Target → Need → List Victim → Standing
after_stop false st a line call g n victims = with_locks a (queues_before st a call g) st
after_stop true st a line call g n victims = with_victims victims (with_waiting st a line call g n victims)

-- behind a call on records, by the first lock that it did not get, if there is one
abbrev pub after_taking : Option Need → Standing → Standing → Active → ℕ → Call → Target → Answer → List Victim → Standing
after_taking None old st a line call g answer victims = let evaluated = outcome_of st a call g in after_changes evaluated.changes old st a call g evaluated answer
after_taking (Some n) old st a line call g answer victims = after_stop a.waits st a line call g n victims

-- behind a call on records, by the database that it is on
abbrev pub after_on : Option Target → Standing → Standing → Active → ℕ → Call → Answer → List Victim → Standing
after_on None old st a line call answer victims = old
after_on (Some g) old st a line call answer victims = after_taking (first_blocked a.txn (needs_in st a call g) st.locks.at) old st a line call g answer victims

-- behind a call on records, in its session's transaction or in one of its own
abbrev pub after_run : Option Active → Standing → ℕ → ℕ → Call → Answer → List Victim → Standing
after_run (Some a) st session line call answer victims = after_on (target_of st session call) st st a line call answer victims
after_run None st session line call answer victims = after_on (target_of st session call) st (begun st session) (auto_active st session) line call answer victims

-- ---- the other calls

-- a session has begun a transaction, which has the next number
abbrev pub begun_by : Isolation → Durability → Bool → Standing → ℕ → Standing
begun_by level durability wait st session =
    let a : Active = record { txn = record { 0 = next_txn st.last_txn }; session = session; level = level; durability = durability; waits = wait; is_auto = false; deadlock = None } in
    record st { actives = st.actives ++ a ∷ []; last_txn = next_txn st.last_txn }

-- a commit, or the change of a catalog, by what its answer says
abbrev pub after_commit : Fate → List Change → Active → Standing → Standing
after_commit Succeeds changes a st = ended a (committed_if_any changes st)
after_commit IsRefused changes a st = st
after_commit Faults changes a st = faulted st

-- behind a commit of the session's transaction, if it has one
abbrev pub after_ending : Option Active → Standing → Answer → Standing
after_ending None st answer = st
after_ending (Some a) st answer = after_commit (fate_of answer) (changes_named st (st.own a.txn.0)) a st

-- behind a change of the catalog: it is committed, or it took a number alone, or the disk failed
abbrev pub after_catalog : Fate → List Change → Option Active → Standing → Standing
after_catalog Succeeds changes active st = committed_if_any changes (drawn_by active st)
after_catalog IsRefused changes active st = drawn_by active st
after_catalog Faults changes active st = faulted st

-- cursors are opened and closed
abbrev pub opened : ℕ → ℕ → Option Name → ℕ → Standing → Standing
opened cursor db at session st = record st { places = with_at session (st.places session ++ record { cursor = cursor; db = db; at = at } ∷ []) st.places }

-- a session has one more cursor, where another one stands
abbrev pub opened_at : Option Place → ℕ → ℕ → Standing → Standing
opened_at None to session st = st
opened_at (Some p) to session st = opened to p.db p.at session st

-- a session has a cursor less
abbrev pub closed_cursor : ℕ → ℕ → Standing → Standing
closed_cursor cursor session st = record st { places = with_at session (filter (λ p. not (p.cursor == cursor)) (st.places session)) st.places }

-- ---- a call

-- behind a call that was not refused, by what call it is
abbrev pub after_performed : Call → Standing → ℕ → ℕ → Answer → List Victim → Standing
after_performed (Begin level durability wait) st session line answer victims = begun_by level durability wait st session
after_performed Commit st session line answer victims = after_ending (active_of session st.actives) st answer
after_performed Abort st session line answer victims = ended_if_any (active_of session st.actives) st
after_performed Lists st session line answer victims = drawn_by (active_of session st.actives) st
after_performed (Create db kind) st session line answer victims = after_catalog (fate_of answer) (evaluation (Create db kind) st.store).changes (active_of session st.actives) st
after_performed (CreateIndex db index) st session line answer victims =
    after_catalog (fate_of answer) (evaluation (CreateIndex db index) st.store).changes (active_of session st.actives) st
after_performed (Remove db) st session line answer victims = after_catalog (fate_of answer) (evaluation (Remove db) st.store).changes (active_of session st.actives) st
after_performed (Rename db to) st session line answer victims = after_catalog (fate_of answer) (evaluation (Rename db to) st.store).changes (active_of session st.actives) st
after_performed (Truncate db) st session line answer victims = after_catalog (fate_of answer) (evaluation (Truncate db) st.store).changes (active_of session st.actives) st
after_performed (Open cursor db) st session line answer victims = opened cursor (st.numbers db) None session st
after_performed (Close cursor) st session line answer victims = closed_cursor cursor session st
after_performed (Dup cursor to) st session line answer victims = opened_at (place_at cursor (st.places session)) to session st
after_performed call st session line answer victims = after_run (active_of session st.actives) st session line call answer victims

-- behind a call with a transaction number: a refusal took the number alone
abbrev pub after_evaluated : Option Answer → Standing → ℕ → ℕ → Call → Answer → List Victim → Standing
after_evaluated (Some refusal) st session line call answer victims = drawn_by (active_of session st.actives) st
after_evaluated None st session line call answer victims = after_performed call st session line answer victims

-- behind a call: an early refusal changes nothing
abbrev pub after_call : Option Answer → Standing → ℕ → ℕ → Call → Answer → List Victim → Standing
after_call (Some refusal) st session line call answer victims = st
after_call None st session line call answer victims = after_evaluated (late_refusal st session call) st session line call answer victims

-- ---- the other events

-- behind a call that waited and went on
abbrev pub after_resumed : Option Wait → Standing → ℕ → ℕ → Answer → List Victim → Standing
after_resumed None st session line answer victims = st
after_resumed (Some w) st session line answer victims =
    after_call (early_refusal (resumed st w) session w.call) (resumed st w) session line w.call answer victims

-- behind the end of a session: its call that waits is withdrawn, and its transaction has ended
abbrev pub after_session : ℕ → Standing → Standing
after_session session st = ended_if_any (active_of session st.actives) (record st { waiting = without_wait session st.waiting })

-- behind an answer that may be a disk fault
abbrev pub faulted_if : Answer → Standing → Standing
faulted_if DiskFault st = faulted st
faulted_if answer st = st

-- behind the beginning of a sync: it covers the commits so far
abbrev pub after_begin : Standing → Answer → Standing
after_begin st Done = record st { begun = Some st.commits }
after_begin st DiskFault = faulted st
after_begin st answer = st

-- behind the end of a sync: none is under way
abbrev pub after_end : Standing → Answer → Standing
after_end st answer = faulted_if answer (record st { begun = None })

-- behind a step of maintenance: a checkpoint is under way, or none is any more
abbrev pub after_turn : Step → Standing → Answer → Standing
after_turn BeginStep st Done = record st { in_checkpoint = true }
after_turn Finish st Done = record st { in_checkpoint = false }
after_turn step st answer = faulted_if answer st

-- where the environment stands after an event
abbrev pub after_event : Standing → Event → Standing
after_event st (Called session line call answer victims) = after_call (early_refusal st session call) st session line call answer victims
after_event st (Resume session line answer victims) = after_resumed (wait_of session st.waiting) st session line answer victims
after_event st (End session) = after_session session st
after_event st (WriteOut answer) = faulted_if answer st
after_event st (SyncBegin answer) = after_begin st answer
after_event st (SyncEnd answer) = after_end st answer
after_event st (Turn line step answer) = after_turn step st answer

-- where the environment stands behind several events
abbrev pub after_events : Standing → List Event → Standing
after_events st [] = st
after_events st (event ∷ events) = after_events (after_event st event) events

-- each event of a journal answers what it may, where the environment stands before it; the limits are the log's, one for each event
abbrev pub AnswersAsModel : Standing → List (Option Answer) → List Event → Type 0
AnswersAsModel st [] [] = Unit {0}
AnswersAsModel st (limit ∷ limits) (event ∷ events) = IsAnswered limit st event × AnswersAsModel (after_event st event) limits events
AnswersAsModel st limits events = ⊥
