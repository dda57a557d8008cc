use Rattle.sessions.proofs.all_sessions.Sessions.move_cursor.Goals as goal

pub returns : goal.returns
returns c = record {
  stands = λ st at. record { actives = at.actives; own = at.own; places = record { at = c.move_to.ensures.moved st.places at.places.at; under = c.move_to.ensures.under st.store st.numbers at.places.under }; waiting = at.waiting; locks = at.locks };
}
