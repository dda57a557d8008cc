use Rattle.sessions.proofs.Results.{on_ok_both, on_err_both}
use Rattle.sessions.proofs.all_sessions.Sessions.open_cursor.Goals as goal

pub returns-clause-stands : goal.returns-clause-stands
returns-clause-stands c = on_ok_both c.open.result
    (λ opened under. λ st at free its.
    record { actives = at.actives; own = at.own; places = record { at = opened st.places at.places.at free; under = under st.store st.numbers its at.places.under }; waiting = at.waiting; locks = at.locks })
    c.open.ensures.opened c.open.ensures.under

pub returns-clause-err : goal.returns-clause-err
returns-clause-err c = on_err_both c.open.result
    (λ back names. λ st at.
    record { actives = at.actives; own = at.own; places = record { at = back st.places at.places.at; under = names st.store st.numbers at.places.under }; waiting = at.waiting; locks = at.locks })
    c.open.ensures.err c.open.ensures.err_under
