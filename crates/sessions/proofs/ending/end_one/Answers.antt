use Rattle.std.proofs.Common.{rules, ℕ, subst, sym, []}
use Rattle.je_order.specs.declared.txn_id.TxnId.{TxnId}
use Rattle.active_txns.specs.Own.{AreCounted}
use Rattle.je_answers.specs.Standing.{with_at}
use Rattle.open_cursors.specs.Places.{AreCursorsAt}
use Rattle.sessions.proofs.ending.end_one.Goals as goal

pub returns-clause-stands : goal.returns-clause-stands
returns-clause-stands c = λ st a its txn at. record {
  actives = search rules;
  own = subst (λ (t : TxnId). AreCounted c.end.new.self.own.entries (with_at t.0 [] st.own)) (sym txn) (c.end.ensures.own st.own at.own);
  places = record {
    at = subst (λ (n : ℕ). AreCursorsAt c.close_all.new.self (with_at n [] st.places)) (sym its) (c.close_all.ensures.closed st.places at.places.at);
    under = c.close_all.ensures.under st.store st.numbers at.places.under;
  };
  waiting = at.waiting;
  locks = search rules;
}
