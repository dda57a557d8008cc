-- A call that begins to wait, and what is told of it.
use Rattle.std.specs.Prelude.{ℕ, ◌≡◌, ◌≤◌, ◌+◌, ◌&&◌, ◌++◌, ◌∷◌, [], List, Option, None, Some, Bool, true, false, map, find, reverse, option_map, vec_capacity}
use Rattle.std.specs.List.{slice_get}
use Rattle.je_order.specs.declared.txn_id.TxnId.{TxnId}
use Rattle.store_model.specs.declared.call.Call.{Call}
use Rattle.store_model.specs.declared.need.Need.{Need}
use Rattle.store_model.specs.declared.victim.Victim.{Victim}
use Rattle.je_answers.specs.declared.active.Active.{Active}
use Rattle.store_model.specs.declared.kind.Kind.{Kind}
use Rattle.store_model.specs.declared.answer.Answer.{Answer}
use Rattle.je_answers.specs.Standing.{LockState, Standing}
use Rattle.je_answers.specs.Locking.{all_given_back}
use Rattle.je_answers.specs.Views.{Target}
use Rattle.je_answers.specs.Events.{waiting_answer, cycle_of, told_in}
use Rattle.je_answers.specs.After.{is_victim, with_victims}
use Rattle.active_txns.specs.Marks.{HaveOwnSessions}
use Rattle.txn_locks.specs.declared.call_locks.CallLocks.{CallLocks}
use Rattle.txn_locks.specs.declared.locked.Locked.{Locked}
use Rattle.txn_locks.specs.declared.locked.Locked.TheVariants.{Ready as HasAll, NotAvailable}
use Rattle.txn_locks.specs.Taking.{state_of, IsLocked}
use Rattle.txn_locks.specs.Undoing.{AreGot, HasNoRead, AreReadsAmong}
use Rattle.sessions.specs.declared.all_sessions.Sessions.{Sessions}
use Rattle.sessions.specs.declared.taken.Taken.{Taken}
use Rattle.sessions.specs.declared.taken.Taken.TheVariants.{Ready, Stopped}
use Rattle.sessions.specs.declared.blocked.Blocked.{Blocked}
use Rattle.sessions.specs.declared.named_db.NamedDb.{NamedDb}
use Rattle.sessions.specs.Names.{target_by}
use Rattle.sessions.specs.Spares.{HasSpare}
use Rattle.sessions.specs.AtStanding.{AreSessionsAt}
use Rattle.sessions.specs.Taking.{HasStopped, AreNeedsOf}
use Rattle.sessions.specs.declared.asker.Asker.{Asker}
use Rattle.sessions.specs.declared.stop_room.StopRoom.{StopRoom}

-- a transaction as it asks
pub record IsAsker (k : Asker) (a : Active) : Type 0 where
  pub its : k.txn ≡ a.txn
  pub at : k.level ≡ a.level
  pub may : k.waits ≡ a.waits

-- what a call without waiting came to: it has all its locks, or there is an owner in its way
abbrev pub locked_by : Option TxnId → Locked
locked_by None = HasAll
locked_by (Some owner) = NotAvailable owner

pub record HasAsked (k : Asker) (needs : List Need) (owner : Option TxnId) (old new : CallLocks) : Type 0 where
  pub locked : IsLocked (locked_by owner) k.level k.txn needs false (state_of old.locks) (state_of new.locks)
  pub got : AreGot k.txn (reverse new.got.items) (state_of old.locks) (state_of new.locks)
  pub reads : HasNoRead k.txn (state_of old.locks).at → AreReadsAmong k.txn new.got.items (state_of new.locks).at

-- room for what a stop tells, where so many calls wait
pub record HasRoomFor (calls : ℕ) (room : StopRoom) : Type 0 where
  pub none : room.told.items ≡ []
  pub told : calls ≤ vec_capacity room.told
  pub spare : HasSpare calls (calls + 1) room.buffers.items

-- the first transaction of one call that is a victim
abbrev pub is_auto_victim : List Victim → Active → Bool
is_auto_victim victims a = a.is_auto && is_victim a.session victims

abbrev pub first_auto_in : List Victim → List Active → Option (ℕ × TxnId)
first_auto_in victims actives = option_map (λ a. (a.session, a.txn)) (find (is_auto_victim victims) actives)

-- the locks once the calls of these transactions are answered
abbrev pub all_back : List Active → LockState → LockState
all_back actives locks = record { at = all_given_back actives locks.at; pending = locks.pending }

-- the call of this room was stopped, where the locks have its wait: the victims were told and marked, their waits are taken out, of their locks those stay that their levels keep, and those of one call ended
pub record HasToldSo (answer : Answer) (victims : List Victim) (room : StopRoom) (kind : Kind) (needs : List Need) (b : Blocked) (old new : Sessions) : Type 0 where
  pub answers : (need : Need) → slice_get needs b.at ≡ Some need → answer ≡ waiting_answer (cycle_of room.wait.txn b.victims.items) (target_by room.others (room.db, kind) need) b.owner
  pub tells : victims ≡ map (told_in (old.waiting.items ++ room.wait ∷ [])) b.victims.items
  pub stands : (st : Standing) → HaveOwnSessions st.actives → AreSessionsAt old st → AreSessionsAt new (with_victims victims (record st { waiting = st.waiting ++ room.wait ∷ [] }))

abbrev pub HasTold : Taken → StopRoom → Kind → List Need → Blocked → Sessions → Sessions → Type 0
HasTold Ready room kind needs b old new = ⊥
HasTold (Stopped answer victims) room kind needs b old new = HasToldSo answer victims room kind needs b old new

-- a call of a transaction that waits was stopped
abbrev pub HasWaited : Taken → Asker → ℕ → ℕ → Call → List ℕ → Kind → List NamedDb → List Need → Sessions → Sessions → Type 0
HasWaited Ready k session line call db kind others needs old new = ⊥
HasWaited (Stopped answer victims) k session line call db kind others needs old new =
    (st : Standing) (a : Active) (g : Target) → st.fault ≡ None → IsAsker k a → a.waits ≡ true → AreNeedsOf st session call db kind others needs a g → AreSessionsAt old st → HasStopped new st a line call g answer victims
