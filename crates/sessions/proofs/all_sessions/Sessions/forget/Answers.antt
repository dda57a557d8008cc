use Rattle.std.proofs.Common.{◌≡◌, ◌==◌, ℕ, ap, sym, ◌∙◌}
use Rattle.std.proofs.lemmas.Bool.{eqb-true}
use Rattle.je_answers.specs.declared.wait.Wait.{Wait}
use Rattle.je_answers.specs.Standing.{wait_of, without_wait}
use Rattle.sessions.proofs.Waits.{found_passes}
use Rattle.sessions.proofs.Forgetting.{forgot}
use Rattle.sessions.proofs.all_sessions.Sessions.forget.Goals as goal

pub returns-clause-stands : goal.returns-clause-stands
returns-clause-stands c st w its ready at =
    let found = c.taken_out-wait.ensures.wait ∙ (ap (wait_of c.args.session) at.waiting ∙ its) in
    let session : w.session ≡ c.args.session = eqb-true w.session c.args.session (found_passes (λ (v : Wait). v.session == c.args.session) st.waiting w its) in
    record {
      actives = at.actives;
      own = at.own;
      places = at.places;
      waiting = c.taken_out-wait.ensures.rest ∙ (ap (without_wait c.args.session) at.waiting ∙ ap (λ (n : ℕ). without_wait n st.waiting) (sym session));
      locks = forgot st.fault st c.taken_out-wait.result w c.args.self.now.locks.locks c.forget_for.new.locks found c.forget_for.ensures ready at.locks;
    }
