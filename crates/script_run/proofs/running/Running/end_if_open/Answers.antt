use Rattle.std.proofs.Common.{◌∙◌, ◌+◌, inl, sym, refl}
use Rattle.script_run.specs.UnderWay.{standing}
use Rattle.script_run.proofs.Ending.{below_then, ended_below, ended_is_outside, ended_none, none_then, outside_by, passed, works_before}
use Rattle.script_run.proofs.Growing.{ended_grown, grown_gained, grown_same, grown_then}
use Rattle.script_run.proofs.running.Running.end_if_open.Goals as goal

pub returns-then-self-clause-ends : goal.returns-then-self-clause-ends
returns-then-self-clause-ends g c = λ p under calm ends. passed p c.args.session c.args.self.now ends

pub returns-then-not-has_transaction-clause-ended : goal.returns-then-not-has_transaction-clause-ended
returns-then-not-has_transaction-clause-ended g c = λ p under calm works.
    let x = c.args.self.now.recorded in
    outside_by p c.args.session x c.has_transaction.result (c.has_transaction.ensures p.most (standing p x) under.running.here) c.if-not-has_transaction.true

pub returns-then-not-has_transaction-clause-ends : goal.returns-then-not-has_transaction-clause-ends
returns-then-not-has_transaction-clause-ends g c = λ p under calm ends. passed p c.args.session c.args.self.now ends

pub returns-clause-goes_on : goal.returns-clause-goes_on
returns-clause-goes_on g c = λ p under calm. c.resume_ready.ensures.goes_on p (c.end_session.ensures.goes_on p under (inl (calm c.if-self.false)))

pub returns-clause-calm : goal.returns-clause-calm
returns-clause-calm g c = λ p under calm. c.resume_ready.ensures.calm p (c.end_session.ensures.goes_on p under (inl (calm c.if-self.false)))

pub returns-clause-begins_none : goal.returns-clause-begins_none
returns-clause-begins_none g c = λ p under calm.
    let x = c.args.self.now in
    let y = c.end_session.new.self in
    none_then p x.recorded y.recorded c.resume_ready.new.self.recorded (ended_none p c.args.session x y c.end_session.ensures.ended)
    (c.resume_ready.ensures.begins_none p (c.end_session.ensures.goes_on p under (inl (calm c.if-self.false))))

pub returns-clause-ended : goal.returns-clause-ended
returns-clause-ended g c = λ p under calm works.
    c.resume_ready.ensures.begins_none p (c.end_session.ensures.goes_on p under (inl (calm c.if-self.false))) c.args.session
    (ended_is_outside p c.args.session c.args.self.now c.end_session.new.self c.end_session.ensures.ended (c.resume_ready.ensures.gone_on.halted works))

pub returns-clause-ends : goal.returns-clause-ends
returns-clause-ends g c = λ p under calm ends.
    let x = c.args.self.now in
    let y = c.end_session.new.self in
    below_then p (c.args.session + 1) y c.resume_ready.new.self c.resume_ready.ensures.gone_on
    (ended_below p c.args.session x y (calm c.if-self.false)
    (sym (c.has_transaction.ensures p.most (standing p x.recorded) under.running.here) ∙ c.if-not-has_transaction.false) c.end_session.ensures.ended ends)

pub returns-clause-works : goal.returns-clause-works
returns-clause-works g c = works_before c.args.session c.args.self.now c.end_session.new.self c.resume_ready.new.self c.end_session.ensures.ended c.resume_ready.ensures.gone_on

pub returns-then-self-clause-grew : goal.returns-then-self-clause-grew
returns-then-self-clause-grew g c = (let x = c.args.self.now.recorded.journal.items in grown_same 0 x x refl)

pub returns-then-not-has_transaction-clause-grew : goal.returns-then-not-has_transaction-clause-grew
returns-then-not-has_transaction-clause-grew g c = (let x = c.args.self.now.recorded.journal.items in grown_same 0 x x refl)

pub returns-clause-grew : goal.returns-clause-grew
returns-clause-grew g c =
    let x = c.args.self.now in
    let m = c.end_session.new.self in
    let y = c.resume_ready.new.self in
    grown_then 0 0 0 x.recorded.journal.items m.recorded.journal.items y.recorded.journal.items refl (ended_grown c.args.session x m c.end_session.ensures.ended)
    (grown_gained y.stopped m.recorded.journal.items y.recorded.journal.items c.resume_ready.ensures.gone_on.gained)
