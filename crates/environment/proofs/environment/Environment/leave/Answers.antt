use Rattle.std.proofs.Common.{◌≡◌, ◌∙◌, ℕ, Option, Some, ap, sym, subst}
use Rattle.std.specs.Option.{option_copied}
use Rattle.je_answers.specs.declared.active.Active.{Active}
use Rattle.je_answers.specs.Standing.{Standing, active_of}
use Rattle.je_answers.specs.After.{ended_if_any}
use Rattle.sessions.specs.AtStanding.{without_call}
use Rattle.environment.specs.Ending.{HasAbandoned}
use Rattle.environment.specs.Steps.{StandsAt}
use Rattle.environment.specs.declared.environment.Environment.{Environment}
use Rattle.environment.proofs.Answering.{owed_is}
use Rattle.environment.proofs.EndingLaws.{abandoned, abandoned_near, found_session, near_owed, within_then, withdrawn}
use Rattle.environment.proofs.environment.Environment.leave.Goals as goal

pub returns-in-None-clause-stands : goal.returns-in-None-clause-stands
returns-in-None-clause-stands g c = λ most st at numbers.
    let e = c.args.self.now in
    let mid : Environment g.row.D.Denot = record { engine = e.engine; sessions = c.withdraw.new.self; written = e.written } in
    let now_ = c.withdraw.ensures.stands st at.sessions_at in
    let none = sym (c.of_session.ensures (without_call c.args.session st) now_) ∙ ap option_copied c.in-None.is in
    subst (λ (o : Option Active). StandsAt most g.D.Disk.meaning mid (ended_if_any o (without_call c.args.session st))) (sym none)
    (withdrawn most g.D.Disk.meaning e c.withdraw.new.self st c.args.session at now_)

pub returns-in-None-clause-near : goal.returns-in-None-clause-near
returns-in-None-clause-near g c = λ st at.
    let now_ = c.withdraw.ensures.stands st at in
    near_owed c.args.self.now c.withdraw.new.self (owed_is c.withdraw.new.self (without_call c.args.session st) now_ ∙ sym (owed_is c.args.self.now.sessions st at))

pub returns-clause-stands : goal.returns-clause-stands
returns-clause-stands g c = λ most st at numbers.
    let e = c.args.self.now in
    let mid : Environment g.row.D.Denot = record { engine = e.engine; sessions = c.withdraw.new.self; written = e.written } in
    let left : Standing = without_call c.args.session st in
    let a : Active = c.in-Some.active.now in
    let now_ = c.withdraw.ensures.stands st at.sessions_at in
    let some : active_of c.args.session st.actives ≡ Some a = sym (c.of_session.ensures left now_) ∙ ap option_copied c.in-Some.is in
    let own : a.session ≡ c.args.session = found_session c.args.session a st.actives some in
    subst (λ (o : Option Active). StandsAt most g.D.Disk.meaning c.abandon.new.self (ended_if_any o left)) (sym some)
    (abandoned most g.D.Disk.meaning mid c.abandon.new.self left a
    (subst (λ (s : ℕ). HasAbandoned mid c.abandon.new.self s a.txn) (sym own) c.abandon.ensures)
    (ap (λ (s : ℕ). active_of s st.actives) own ∙ some)
    numbers (withdrawn most g.D.Disk.meaning e c.withdraw.new.self st c.args.session at now_))

pub returns-clause-near : goal.returns-clause-near
returns-clause-near g c = λ st at.
    let e = c.args.self.now in
    let mid : Environment g.row.D.Denot = record { engine = e.engine; sessions = c.withdraw.new.self; written = e.written } in
    let left : Standing = without_call c.args.session st in
    let a : Active = c.in-Some.active.now in
    let now_ = c.withdraw.ensures.stands st at in
    let some : active_of c.args.session st.actives ≡ Some a = sym (c.of_session.ensures left now_) ∙ ap option_copied c.in-Some.is in
    let own : a.session ≡ c.args.session = found_session c.args.session a st.actives some in
    within_then e mid c.abandon.new.self (near_owed e c.withdraw.new.self (owed_is c.withdraw.new.self left now_ ∙ sym (owed_is e.sessions st at)))
    (abandoned_near 0 g.D.Disk.meaning mid c.abandon.new.self left a (subst (λ (s : ℕ). HasAbandoned mid c.abandon.new.self s a.txn) (sym own) c.abandon.ensures) now_)
