use Rattle.std.proofs.Common.{sym, subst}
use Rattle.je_answers.specs.Locking.{all_got}
use Rattle.je_answers.specs.After.{with_locks}
use Rattle.sessions.specs.AtStanding.{AreSessionsAt, with_own}
use Rattle.environment.specs.declared.wrote.Wrote.{Wrote}
use Rattle.environment.specs.OwnEnds.{AreEndedBy}
use Rattle.je_order.specs.declared.txn_id.TxnId.{TxnId}
use Rattle.environment.proofs.own_writing.end_own.Goals as goal

pub answered-requires : goal.answered-requires
answered-requires c =
    let r = c.requires in
    (r.0, r.1, with_own c.args.txn.0 r.2 r.3, r.4, r.5, r.6.taken)

pub returns-in-Done : goal.returns-in-Done
returns-in-Done c a call place needs more st is level moves p =
    subst (λ (w : Wrote). AreEndedBy w c.move_by.new.sessions a call place needs more st) (sym c.in-Done.is)
    (c.move_by.ensures (with_locks a (all_got a.txn needs st.locks.at) (with_own a.txn.0 more st)) a call place moves
    (subst (λ (t : TxnId). AreSessionsAt c.answered.new.self (with_locks a (all_got a.txn needs st.locks.at) (with_own t.0 more st))) (sym is)
    (c.answered.ensures.stands a needs (with_own c.args.txn.0 more st) is level p.taken)))

pub returns-in-Full : goal.returns-in-Full
returns-in-Full c a call place needs more st is level moves p =
    subst (λ (w : Wrote). AreEndedBy w c.take_back.new.sessions a call place needs more st) (sym c.in-Full.is) (c.take_back.ensures a needs more st is level p)

pub returns-in-NoNumbers : goal.returns-in-NoNumbers
returns-in-NoNumbers c a call place needs more st is level moves p =
    subst (λ (w : Wrote). AreEndedBy w c.take_back-in-NoNumbers.new.sessions a call place needs more st) (sym c.in-NoNumbers.is) (c.take_back-in-NoNumbers.ensures a needs more st is level p)

pub returns-in-Failed : goal.returns-in-Failed
returns-in-Failed c a call place needs more st is level moves p =
    subst (λ (w : Wrote). AreEndedBy w c.undo_own.new.sessions a call place needs more st) (sym c.in-Failed.is) (c.undo_own.ensures a needs more st is p)
