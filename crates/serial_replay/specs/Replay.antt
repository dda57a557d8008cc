-- What isolation promises of the transactions of a journal (Getting Started with Transaction Processing, "Isolation"): a serializable one comes to
-- the same where all its calls are made again, one after another, right before its commit; at repeatable read each record that was read stands there.
-- It is said of the journal, the stores and evaluation alone: neither locks nor the order of calls of different transactions come in.
use Rattle.std.specs.Prelude.{◌≡◌, ◌&&◌, ◌||◌, ◌++◌, ◌∷◌, [], ℕ, List, Option, None, Some, Bool, true, false, filter, map}
use Rattle.std.specs.List.{flat_map, AllByRecursion}
use Rattle.je_order.specs.declared.txn_id.TxnId.{TxnId}
use Rattle.je_order.specs.declared.name.Name.{Name}
use Rattle.je_order.specs.Transactions.{is_same_txn}
use Rattle.store_model.specs.declared.store.Store.{Store}
use Rattle.store_model.specs.declared.store.Database.{Database}
use Rattle.store_model.specs.declared.index.Index.{Index}
use Rattle.store_model.specs.declared.isolation.Isolation.{Isolation}
use Rattle.store_model.specs.declared.isolation.Isolation.TheVariants.{RepeatableRead, Serializable}
use Rattle.store_model.specs.declared.call.Call.{Call}
use Rattle.store_model.specs.declared.call.Call.TheVariants.{Commit, Get, GetBoth, Put, Delete, Open, Close, Dup, Count as Counts, Cur, CPutCur, CDel, CPut}
use Rattle.store_model.specs.declared.change.Change.{Change}
use Rattle.store_model.specs.declared.answer.Answer.{Answer}
use Rattle.store_model.specs.declared.answer.Answer.TheVariants.{Done, Logged, Rec, IndexRec, Count, NotFound, KeyExist, KeyEmpty, NoDatabase}
use Rattle.store_model.specs.declared.event.Event.{Event}
use Rattle.store_model.specs.declared.event.Event.TheVariants.{Call as Called, Resume}
use Rattle.store_model.specs.Store.{name_of, database_of, all_changed}
use Rattle.store_model.specs.Reads.{at_name}
use Rattle.je_answers.specs.declared.active.Active.{Active}
use Rattle.je_answers.specs.declared.wait.Wait.{Wait}
use Rattle.je_answers.specs.Standing.{Standing, active_of, wait_of, with_at}
use Rattle.je_answers.specs.Views.{Target, target, target_of, changes_named}
use Rattle.je_answers.specs.Alone.{evaluated_on, changes_of_call}
use Rattle.je_answers.specs.Journal.{changes_by}
use Rattle.je_answers.specs.After.{after_event}

-- ---- what a journal says that a transaction was answered

-- a call in a transaction, the name of the database that it was on, its answer, and the changes that the transaction had made before
pub record AnsweredCall : Type 0 where
  pub txn : TxnId
  pub call : Call
  pub db : List ℕ
  pub answer : Answer
  pub own : List Change

-- the calls that only open cursors and close them
abbrev pub is_of_cursors : Call → Bool
is_of_cursors (Open cursor db) = true
is_of_cursors (Close cursor) = true
is_of_cursors (Dup cursor to) = true
is_of_cursors call = false

-- the calls on records, by the name of a database or at a cursor
abbrev pub is_on_records : Call → Bool
is_on_records (Get db key rmw) = true
is_on_records (GetBoth db key value rmw) = true
is_on_records (Put db key value mode) = true
is_on_records (Delete db key) = true
is_on_records (Counts cursor) = true
is_on_records (Cur cursor motion rmw) = true
is_on_records (CPutCur cursor value) = true
is_on_records (CDel cursor) = true
is_on_records (CPut cursor key value mode) = true
is_on_records call = false

-- the answers that evaluation gives; a refusal, a wait, a deadlock, a full log and a fault are others. A call at a cursor that stands at no record,
-- and needs one, reads nothing, and is left out
abbrev pub is_evaluated : Answer → Bool
is_evaluated Done = true
is_evaluated (Rec key value) = true
is_evaluated (IndexRec key primary_key value) = true
is_evaluated (Count count) = true
is_evaluated NotFound = true
is_evaluated KeyExist = true
is_evaluated KeyEmpty = true
is_evaluated answer = false

-- the name of the database that a call is on
abbrev pub name_on : Option Target → List ℕ
name_on None = []
name_on (Some g) = g.database.name

-- a call of a transaction that was evaluated; a transaction of one call ends with it, and is left out
abbrev pub told_if : Bool → Active → Standing → Call → Answer → Option AnsweredCall
told_if true a st call answer = Some (record { txn = a.txn; call = call; db = name_on (target_of st a.session call); answer = answer; own = changes_named st (st.own a.txn.0) })
told_if false a st call answer = None

-- a call that was evaluated, of a transaction that has more than this call
abbrev pub told_within : Bool → Active → Standing → Call → Answer → Option AnsweredCall
told_within true a st call answer = None
told_within false a st call answer = told_if ((is_of_cursors call || is_on_records call) && is_evaluated answer) a st call answer

-- the same of the session's transaction, if it has one
abbrev pub told_of : Option Active → Standing → Call → Answer → Option AnsweredCall
told_of None st call answer = None
told_of (Some a) st call answer = told_within a.is_auto a st call answer

-- the same of a call that waited and went on
abbrev pub told_resumed : Option Wait → Standing → ℕ → Answer → Option AnsweredCall
told_resumed None st session answer = None
told_resumed (Some w) st session answer = told_of (active_of session st.actives) st w.call answer

-- what an event tells: a session's call, or one that waited and went on
abbrev pub told_by : Standing → Event → Option AnsweredCall
told_by st (Called session line call answer victims) = told_of (active_of session st.actives) st call answer
told_by st (Resume session line answer victims) = told_resumed (wait_of session st.waiting) st session answer
told_by st event = None

-- the calls that were evaluated so far, with one more if there is one
abbrev pub with_told : Option AnsweredCall → List AnsweredCall → List AnsweredCall
with_told None told = told
with_told (Some c) told = told ++ c ∷ []

-- the calls of one transaction, in order
abbrev pub calls_of : TxnId → List AnsweredCall → List AnsweredCall
calls_of t told = filter (λ c. is_same_txn t c.txn) told

-- ---- cursors

-- where each cursor stands, by its number
abbrev pub Positions : Type 0
Positions = ℕ → Option Name

-- no cursor stands at a record
abbrev pub nowhere : Positions
nowhere cursor = None

-- the cursor that a call on records is at
abbrev pub cursor_of : Call → Option ℕ
cursor_of (Counts cursor) = Some cursor
cursor_of (Cur cursor motion rmw) = Some cursor
cursor_of (CPutCur cursor value) = Some cursor
cursor_of (CDel cursor) = Some cursor
cursor_of (CPut cursor key value mode) = Some cursor
cursor_of call = None

-- where the cursor stands that a call is at
abbrev pub position_of : Option ℕ → Positions → Option Name
position_of None at = None
position_of (Some cursor) at = at cursor

-- the cursor of a call stands elsewhere
abbrev pub with_position : Option ℕ → Option Name → Positions → Positions
with_position None place at = at
with_position (Some cursor) place at = with_at cursor place at

-- where a call leaves the cursors; no call asks for the place of a closed one until it is opened again
abbrev pub positions_after : Call → Option Name → Positions → Positions
positions_after (Open cursor db) place at = with_at cursor None at
positions_after (Dup cursor to) place at = with_at to (at cursor) at
positions_after call place at = with_position (cursor_of call) place at

-- ---- calls made again

-- what a call answers and changes, and where its cursor then stands
pub record Reply : Type 0 where
  pub answer : Answer
  pub changes : List Change
  pub place : Option Name

-- What a call comes to on a store, from where its cursor stands: evaluation in the database that it was on. An index answers with its primary's record,
-- and a change comes with those in the indexes, in the order of the numbers of databases.
abbrev pub comes_to : (List ℕ → ℕ) → Store → Option Database → Call → Option Name → Reply
comes_to numbers store None call at = record { answer = NoDatabase; changes = []; place = at }
comes_to numbers store (Some d) call at =
    let g = target numbers store (numbers d.name) at d in
    let evaluated = evaluated_on call g in
    record { answer = evaluated.answer; changes = changes_of_call g evaluated.changes; place = evaluated.place }

-- a call that only opens a cursor or closes it is done, whatever the store holds
abbrev pub on_store : Bool → (List ℕ → ℕ) → AnsweredCall → Option Name → Store → Reply
on_store true numbers c at store = record { answer = Done; changes = []; place = None }
on_store false numbers c at store = comes_to numbers store (database_of c.db store) c.call at

-- calls one after another, each on the store and from the places that those before it leave
abbrev pub replayed : (List ℕ → ℕ) → List AnsweredCall → Positions → Store → List Reply
replayed numbers [] at store = []
replayed numbers (c ∷ calls) at store =
    let reply = on_store (is_of_cursors c.call) numbers c (position_of (cursor_of c.call) at) store in
    reply ∷ replayed numbers calls (positions_after c.call reply.place at) (all_changed reply.changes store)

-- ---- what is owed at a commit

-- made again on this store, with no cursor open, the calls give their answers, and their changes in order are those that are committed
pub record GivesAgain (calls : List AnsweredCall) (numbers : List ℕ → ℕ) (store : Store) (committed : List Change) : Type 0 where
  pub answers : map (λ r. r.answer) (replayed numbers calls nowhere store) ≡ map (λ c. c.answer) calls
  pub changes : flat_map (λ r. r.changes) (replayed numbers calls nowhere store) ≡ committed

-- the database that a database is an index of
abbrev pub primary_in : Store → Option Index → Option Database
primary_in store None = None
primary_in store (Some index) = database_of index.primary store

-- the primary of a database, if it is an index
abbrev pub over_in : Store → Option Database → Option Database
over_in store None = None
over_in store (Some d) = primary_in store d.index

-- a database has this record
abbrev pub HasPair : Option Database → List ℕ → List ℕ → Type 0
HasPair None key value = ⊥
HasPair (Some d) key value = at_name d.kind (name_of d.kind (key, value)) d.pairs ≡ (key, value) ∷ []

-- a record that was answered is a record of its database; of one that was answered by an index, the index has its pair, and the primary the record
abbrev pub IsRecordOf : Store → Option Database → Answer → Type 0
IsRecordOf store d (Rec key value) = HasPair d key value
IsRecordOf store d (IndexRec key primary_key value) = HasPair d key primary_key × HasPair (over_in store d) primary_key value
IsRecordOf store d answer = Unit {0}

-- on this store, with the changes that the transaction had made before the call
abbrev pub StandsAgain : Store → AnsweredCall → Type 0
StandsAgain store c = let then_ = all_changed c.own store in IsRecordOf then_ (database_of c.db then_) c.answer

-- what a level owes at the commit of its transaction, which had these calls, on the store just before
abbrev pub IsOwedTo : Isolation → List AnsweredCall → (List ℕ → ℕ) → Store → List Change → Type 0
IsOwedTo Serializable calls numbers store committed = GivesAgain calls numbers store committed
IsOwedTo RepeatableRead calls numbers store committed = AllByRecursion (StandsAgain store) calls
IsOwedTo level calls numbers store committed = Unit {0}

-- the answers of a commit that came to pass
abbrev pub is_committed : Answer → Bool
is_committed Done = true
is_committed (Logged commit) = true
is_committed answer = false

-- what is owed to a transaction as it commits, if it does
abbrev pub IsOwedBy : Bool → Option Active → Standing → List AnsweredCall → List Change → Type 0
IsOwedBy true (Some a) st told committed = IsOwedTo a.level (calls_of a.txn told) st.numbers st.store committed
IsOwedBy is_done active st told committed = Unit {0}

-- where an event is a commit, its transaction's level is kept; the changes are those that the journal says are committed by it
abbrev pub IsOwedAt : Standing → List AnsweredCall → Event → Type 0
IsOwedAt st told (Called session line Commit answer victims) =
    IsOwedBy (is_committed answer) (active_of session st.actives) st told (changes_by st (Called session line Commit answer victims))
IsOwedAt st told event = Unit {0}

-- ---- a journal

-- each commit of a journal gives its transaction what its level promises, with the calls that were evaluated so far
abbrev pub ReplaysFrom : Standing → List AnsweredCall → List Event → Type 0
ReplaysFrom st told [] = Unit {0}
ReplaysFrom st told (event ∷ events) = IsOwedAt st told event × ReplaysFrom (after_event st event) (with_told (told_by st event) told) events

-- each committed transaction of a journal that goes on from a standing is as its level promises
abbrev pub ReplaysSerially : Standing → List Event → Type 0
ReplaysSerially st journal = ReplaysFrom st [] journal
