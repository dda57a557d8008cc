use Rattle.std.proofs.Common.{◌∙◌, None, inl, refl, sym}
use Rattle.je_answers.specs.Standing.{active_of}
use Rattle.sessions.specs.AtStanding.{without_call}
use Rattle.log_file.specs.Log.{Log}
use Rattle.store_model.specs.declared.event.Event.TheVariants.{End}
use Rattle.standing_laws.proofs.StandingsStay.{standings_stay-right}
use Rattle.standing_laws.proofs.StandingsBare.{standings_stay-bare}
use Rattle.serial_replay.proofs.Attempts.{reached_goes-on}
use Rattle.environment.proofs.EndingLaws.{ended_fault, ended_safely}
use Rattle.environment.proofs.environment.Environment.end_session.Goals as goal

pub returns-clause-goes_on : goal.returns-clause-goes_on
returns-clause-goes_on g c = λ most st here. record {
  limit = None;
  bounded = inl refl;
  answered = tt;
  here = record {
    at = c.leave.ensures.stands most st here.at (λ none. (here.right none).sound.numbers);
    right = λ none.
        let before = sym (ended_fault (active_of c.args.session st.actives) (without_call c.args.session st)) ∙ none in
        standings_stay-right None st (End c.args.session) before (here.right before) tt;
    bare = λ none.
        let before = sym (ended_fault (active_of c.args.session st.actives) (without_call c.args.session st)) ∙ none in
        standings_stay-bare None st (End c.args.session) before (here.right before) (here.bare before) tt;
    reached = reached_goes-on None st (End c.args.session) here.reached tt;
  };
}

pub returns-clause-crash : goal.returns-clause-crash
returns-clause-crash g c = λ observed most st start journal here is.
    let log : Log = is.0 in
    (log, ended_safely g.D.Disk.meaning.history st log start c.args.self.now.engine.trees.log c.leave.new.self.engine.trees.log journal c.args.session c.leave.ensures.log is.1)
