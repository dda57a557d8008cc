-- How a call of a transaction ends that got its locks and changes something.
use Rattle.std.specs.Prelude.{ℕ, ◌≡◌, [], true, List, Option, Some, Result, Ok, Err, IfOk, length}
use Rattle.std.specs.declared.alloc.AllocError.{AllocError}
use Rattle.je_disk.specs.DiskMeaning.{DiskMeaning}
use Rattle.store_model.specs.declared.answer.Answer.{Answer}
use Rattle.store_model.specs.declared.answer.Answer.TheVariants.{LogFull, IdsEnded, DiskFault}
use Rattle.je_order.specs.declared.name.Name.{Name}
use Rattle.store_model.specs.declared.need.Need.{Need}
use Rattle.store_model.specs.declared.record_change.RecordChange.{RecordChange}
use Rattle.je_answers.specs.declared.active.Active.{Active}
use Rattle.je_answers.specs.Standing.{Standing}
use Rattle.store_model.specs.declared.call.Call.{Call}
use Rattle.store_model.specs.Records.{Evaluated}
use Rattle.store_model.specs.Indexes.{Numbered}
use Rattle.je_answers.specs.Views.{Target, changes_with, outcome_of, with_names, with_numbers}
use Rattle.je_answers.specs.Locking.{all_got}
use Rattle.je_answers.specs.Events.{IsLogged, log_limit}
use Rattle.je_answers.specs.After.{answered, faulted, with_locks, with_outcome}
use Rattle.active_txns.specs.declared.own_counts.OwnCounts.{OwnCounts}
use Rattle.active_txns.specs.Own.{counted}
use Rattle.sessions.specs.declared.all_sessions.Sessions.{Sessions}
use Rattle.sessions.specs.AtStanding.{AreSessionsAt, owing, with_own}
use Rattle.sessions.specs.Taking.{HasTaken}
use Rattle.environment.specs.declared.environment.Environment.{Environment}
use Rattle.environment.specs.declared.wrote.Wrote.{Wrote}
use Rattle.environment.specs.declared.wrote.Wrote.TheVariants.{Done, Full, NoNumbers, Failed}
use Rattle.environment.specs.Access.{with_move}
use Rattle.environment.specs.Limits.{owing_with}
use Rattle.environment.specs.Steps.{HasNotCome, HasStepped}
use Rattle.environment.specs.Writing.{WritesOwn}

-- what a call is answered whose changes came to this
abbrev pub answer_for : Wrote → Answer → Answer
answer_for Done answer = answer
answer_for Full answer = LogFull
answer_for NoNumbers answer = IdsEnded
answer_for Failed answer = DiskFault

-- where it then stands, unless it ends its transaction
abbrev pub after_wrote : Wrote → Standing → Active → Call → Target → Evaluated → Standing
after_wrote Done st a call g ev = with_outcome a call g ev (answered a call g st)
after_wrote Full st a call g ev = answered a call g st
after_wrote NoNumbers st a call g ev = answered a call g st
after_wrote Failed st a call g ev = faulted st

-- and where it leaves the sessions, with the call's cursor at that place
abbrev pub AreEndedBy : Wrote → Sessions → Active → Call → Option Name → List Need → List (ℕ × RecordChange) → Standing → Type 0
AreEndedBy Done s a call place needs more st = AreSessionsAt s (with_move a call place (with_locks a (all_got a.txn needs st.locks.at) (with_own a.txn.0 more st)))
AreEndedBy Full s a call place needs more st = AreSessionsAt s (with_locks a (all_got a.txn needs st.locks.at) st)
AreEndedBy NoNumbers s a call place needs more st = AreSessionsAt s (with_locks a (all_got a.txn needs st.locks.at) st)
AreEndedBy Failed s a call place needs more st = AreSessionsAt s st

-- a transaction has these changes more, with what its call got
pub record HasPushed (s : Sessions) (a : Active) (needs : List Need) (n : ℕ) (more : List (ℕ × RecordChange)) (counts : OwnCounts) (st : Standing) : Type 0 where
  pub counts_are : counts ≡ counted (st.own n)
  pub taken : HasTaken s true a needs (with_own n more st)

module _ {D : Type 0} (meaning : DiskMeaning D) where
  -- the changes of a call are its transaction's own, and are logged or not
  pub record HasPushedAndLogged (old new : Environment D) (a : Active) (needs : List Need) (st : Standing) (cs : List (Numbered × RecordChange)) (result : Result Wrote AllocError) : Type 0 where
    pub more : List (ℕ × RecordChange)
    pub taken : HasTaken new.sessions true a needs (with_own a.txn.0 more st)
    pub is : IfOk result (λ wrote. more ≡ with_numbers cs)
    pub writes : WritesOwn meaning old new st a.txn.0 cs (owing (with_own a.txn.0 (with_numbers cs) st)) result

  -- so a call was written, whose transaction goes on
  abbrev pub WritesUp : ℕ → Environment D → Environment D → Standing → Active → Call → Target → Wrote → Type 0
  WritesUp most old new st a call g wrote =
      let ev : Evaluated = outcome_of st a call g in
      HasStepped meaning most old new (owing_with (Some a) st) (with_names (changes_with st a g ev.changes)) []
      (λ limit. IsLogged (log_limit limit) ev.answer (answer_for wrote ev.answer)) (after_wrote wrote st a call g ev) (answer_for wrote ev.answer)

  abbrev pub ComesUp : ℕ → Environment D → Environment D → Standing → Active → Call → Target → Result Wrote AllocError → Type 0
  ComesUp most old new st a call g (Ok wrote) = WritesUp most old new st a call g wrote
  ComesUp most old new st a call g (Err error) = HasNotCome meaning most old new st
