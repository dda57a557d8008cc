-- Who waits for whom in an environment.
use Rattle.std.specs.Prelude.{◌∷◌, [], Bool, List}
use Rattle.je_order.specs.declared.txn_id.TxnId.{TxnId}
use Rattle.waits_for.specs.Cycles.{is_in}
use Rattle.lock_mgr.specs.Deadlock.{HasNoCycle}
use Rattle.store_model.specs.declared.event.Event.{Event}
use Rattle.je_answers.specs.Standing.{Standing}
use Rattle.je_answers.specs.Locking.{waits_for_in}
use Rattle.je_answers.specs.After.{after_event}

-- x waits for a lock that y holds
abbrev pub waits_at : Standing → TxnId → TxnId → Bool
waits_at st x y = is_in y (waits_for_in st.locks x)

-- neither now nor after any event of a journal does anybody wait for himself by way of others
abbrev pub NeverWaitInCycle : Standing → List Event → Type 0
NeverWaitInCycle st [] = HasNoCycle (waits_at st)
NeverWaitInCycle st (event ∷ events) = HasNoCycle (waits_at st) × NeverWaitInCycle (after_event st event) events
