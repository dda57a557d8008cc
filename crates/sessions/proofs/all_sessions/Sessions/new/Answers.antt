use Rattle.std.proofs.Common.{rules}
use Rattle.sessions.proofs.all_sessions.Sessions.new.Goals as goal

pub returns : goal.returns
returns c = record {
  stands = λ p. record {
    actives = c.new.ensures.actives;
    own = c.new.ensures.own;
    places = record { at = c.new-3.ensures.none; under = c.new-3.ensures.under p.store p.numbers };
    waiting = c.new-4.ensures.items;
    locks = search rules;
  };
}
