use Rattle.sessions.proofs.all_sessions.Sessions.close_cursor.Goals as goal

pub returns : goal.returns
returns c = record {
  stands = λ st at. record { actives = at.actives; own = at.own; places = record { at = c.close.ensures.closed st.places at.places.at; under = c.close.ensures.under st.store st.numbers at.places.under }; waiting = at.waiting; locks = at.locks };
}
