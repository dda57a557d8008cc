-- A call that takes its locks, and what became of it.
use Rattle.std.specs.Prelude.{ℕ, ◌≡◌, List, None, Some, Bool, false, reverse}
use Rattle.lock_table.specs.Table.{pending_at}
use Rattle.store_model.specs.declared.isolation.Isolation.TheVariants.{ReadCommitted}
use Rattle.store_model.specs.declared.call.Call.{Call}
use Rattle.store_model.specs.declared.kind.Kind.{Kind}
use Rattle.store_model.specs.declared.need.Need.{Need}
use Rattle.store_model.specs.declared.victim.Victim.{Victim}
use Rattle.store_model.specs.declared.answer.Answer.{Answer}
use Rattle.je_answers.specs.declared.active.Active.{Active}
use Rattle.je_answers.specs.Standing.{Standing, active_of}
use Rattle.je_answers.specs.Views.{Target, needs_in}
use Rattle.je_answers.specs.Locking.{first_blocked, owner_before}
use Rattle.je_answers.specs.Events.{queues_before, IsStopped}
use Rattle.je_answers.specs.After.{after_stop}
use Rattle.active_txns.specs.Own.{AreCounted}
use Rattle.txn_locks.specs.Taking.{state_of, with_all, when_answered}
use Rattle.txn_locks.specs.Undoing.{AreGot, HasNoRead, AreReadsAmong}
use Rattle.standing_laws.specs.Right.{HaveWaits}
use Rattle.sessions.specs.declared.all_sessions.Sessions.{Sessions}
use Rattle.sessions.specs.declared.taken.Taken.{Taken}
use Rattle.sessions.specs.declared.taken.Taken.TheVariants.{Ready, Stopped}
use Rattle.sessions.specs.declared.named_db.NamedDb.{NamedDb}
use Rattle.sessions.specs.Names.{AreOthersOf}
use Rattle.sessions.specs.AtStanding.{AreCursorsOn, AreSessionsAt}

-- a session's transaction may ask for locks: it waits for none. At read committed it has no READ lock, unless its call waited before
pub record MayAsk (s : Sessions) (session : ℕ) (resumed : Bool) : Type 0 where
  pub active : Active
  pub its : active_of session s.txns.actives.items ≡ Some active
  pub told : pending_at active.txn s.locks.locks ≡ None
  pub waits : HaveWaits s.txns.actives.items s.waiting.items (state_of s.locks.locks).pending
  pub reads : active.level ≡ ReadCommitted → resumed ≡ false → HasNoRead active.txn (state_of s.locks.locks).at

-- a call of a transaction got all its needs, which are not yet given back; all else is as the standing before it has it
pub record HasTaken (s : Sessions) (resumed : Bool) (a : Active) (needs : List Need) (st : Standing) : Type 0 where
  pub actives : s.txns.actives.items ≡ st.actives
  pub own : AreCounted s.txns.own.entries st.own
  pub places : AreCursorsOn s.cursors st.store st.numbers st.places
  pub waiting : s.waiting.items ≡ st.waiting
  pub free : first_blocked a.txn needs st.locks.at ≡ None
  pub locks : when_answered a.level a.txn (state_of s.locks.locks) ≡ when_answered a.level a.txn (with_all a.txn needs st.locks)
  pub told : pending_at a.txn s.locks.locks ≡ None
  pub got : AreGot a.txn (reverse s.locks.got.items) st.locks (state_of s.locks.locks)
  pub reads : a.level ≡ ReadCommitted → resumed ≡ false → AreReadsAmong a.txn s.locks.got.items (state_of s.locks.locks).at

-- a call was stopped: what it answers, and where it leaves the sessions
pub record HasStopped (s : Sessions) (st : Standing) (a : Active) (line : ℕ) (call : Call) (g : Target) (answer : Answer) (victims : List Victim) : Type 0 where
  pub need : Need
  pub first : first_blocked a.txn (needs_in st a call g) st.locks.at ≡ Some need
  pub answers : IsStopped (owner_before a.txn need (queues_before st a call g)) st a line call g need answer victims
  pub stands : AreSessionsAt s (after_stop a.waits st a line call g need victims)

-- what holds where a call got all its needs, and where it was stopped
abbrev pub IfReady : Taken → Type 0 → Type 0
IfReady Ready P = P
IfReady (Stopped answer victims) P = Unit {0}

abbrev pub IfStopped : Taken → (Answer → List Victim → Type 0) → Type 0
IfStopped Ready P = Unit {0}
IfStopped (Stopped answer victims) P = P answer victims

-- the needs are those of a call of the session's transaction on a database of that name and kind, with these others beside it
pub record AreNeedsOf (st : Standing) (session : ℕ) (call : Call) (db : List ℕ) (kind : Kind) (others : List NamedDb) (needs : List Need) (a : Active) (g : Target) : Type 0 where
  pub its : active_of session st.actives ≡ Some a
  pub name : g.database.name ≡ db
  pub its_kind : g.database.kind ≡ kind
  pub beside : AreOthersOf others g
  pub each : needs ≡ needs_in st a call g
