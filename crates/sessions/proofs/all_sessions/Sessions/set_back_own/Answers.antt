use Rattle.std.proofs.Common.{◌∙◌}
use Rattle.sessions.proofs.all_sessions.Sessions.set_back_own.Goals as goal

pub returns : goal.returns
returns c = record {
  taken = λ resumed a needs st more is t. record {
    actives = c.set_back.ensures.actives ∙ t.actives;
    own = c.set_back.ensures.own st.own more is t.own;
    places = t.places;
    waiting = t.waiting;
    free = t.free;
    locks = t.locks;
    told = t.told;
    got = t.got;
    reads = t.reads;
  };
}
