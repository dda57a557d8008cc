use Rattle.std.proofs.Common.{◌++◌, ◌∷◌, [], List, sym, ◌∙◌, subst}
use Rattle.store_model.specs.declared.victim.Victim.{Victim}
use Rattle.je_answers.specs.After.{with_victims}
use Rattle.sessions.specs.AtStanding.{AreSessionsAt}
use Rattle.sessions.proofs.Stops.{stop_stands}
use Rattle.sessions.proofs.taking.stop.Goals as goal

pub returns : goal.returns
returns c =
    let t = c.tell-answer.ensures in
    record {
      told = record {
        answers = t.answer;
        tells = c.from_vec.ensures ∙ t.victims;
        stands = λ st own at. subst (λ (vs : List Victim). AreSessionsAt c.end_autos.new.sessions (with_victims vs (record st { waiting = st.waiting ++ c.args.room.wait ∷ [] }))) (sym c.from_vec.ensures)
            (stop_stands _ _ _ c.args.room.wait c.args.sessions.now c.tell-answer.new.sessions c.end_autos.new.sessions c.give_back_each.new.locks _ c.as_slice.ensures.value c.as_slice-2.ensures.value c.actives.ensures t.actives t.own t.waiting t.locks t.cursors c.give_back_each.ensures c.end_autos.ensures.stands st own at);
      };
    }
