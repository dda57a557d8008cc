use Rattle.std.proofs.Common.{arith, refl}
use Rattle.script_run.specs.UnderWay.{standing}
use Rattle.script_run.proofs.Ending.{ended_up_to}
use Rattle.script_run.proofs.EndLaws.{below_first}
use Rattle.script_run.proofs.SessionLaws.{none_left}
use Rattle.script_run.proofs.Growing.{grown_same, grown_then}
use Rattle.script_run.proofs.running.Running.end_sessions.Goals as goal

pub loop-session-init : goal.loop-session-init
loop-session-init g c = record {
  flags = c.requires.flags;
  goes_on = λ p under calm. under;
  calm = λ p under calm. calm;
  ended = λ p under calm works session less. absurd (omega (arith, less));
  ends = λ p under calm ends. below_first c.args.self.now.stopped p.st c.args.self.now.recorded.journal.items 0 ends;
  grew = (let x = c.args.self.now.recorded.journal.items in grown_same 0 x x refl);
  given = λ lines has. has;
}

pub end_if_open-requires-clause-here : goal.end_if_open-requires-clause-here
end_if_open-requires-clause-here g c =
    let h = c.requires.here in
    let inv = c.loop-session.invariant in
    (h.0, inv.goes_on h.0 h.1 h.2, inv.calm h.0 h.1 h.2)

pub loop-session-preserved : goal.loop-session-preserved
loop-session-preserved g c =
    let inv = c.loop-session.invariant in
    record {
      flags = c.end_if_open.ensures.flags;
      goes_on = λ p under calm. c.end_if_open.ensures.goes_on p (inv.goes_on p under calm) (inv.calm p under calm);
      calm = λ p under calm. c.end_if_open.ensures.calm p (inv.goes_on p under calm) (inv.calm p under calm);
      ended = λ p under calm works. ended_up_to p c.loop-session.session c.loop-session.self.recorded c.end_if_open.new.self.recorded
          (c.end_if_open.ensures.begins_none p (inv.goes_on p under calm) (inv.calm p under calm)) (inv.ended p under calm (c.end_if_open.ensures.works works))
          (c.end_if_open.ensures.ended p (inv.goes_on p under calm) (inv.calm p under calm) works);
      ends = λ p under calm ends. c.end_if_open.ensures.ends p (inv.goes_on p under calm) (inv.calm p under calm) (inv.ends p under calm ends);
      grew = grown_then 0 0 0 c.args.self.now.recorded.journal.items c.loop-session.self.recorded.journal.items c.end_if_open.new.self.recorded.journal.items refl inv.grew c.end_if_open.ensures.grew;
      given = λ lines has. c.end_if_open.ensures.given lines (inv.given lines has);
    }

pub returns-2-clause-goes_on : goal.returns-2-clause-goes_on
returns-2-clause-goes_on g c =
    let inv = c.loop-session.invariant in
    λ p under calm. c.end_if_open.ensures.goes_on p (inv.goes_on p under calm) (inv.calm p under calm)

pub returns-2-clause-calm : goal.returns-2-clause-calm
returns-2-clause-calm g c =
    let inv = c.loop-session.invariant in
    λ p under calm. c.end_if_open.ensures.calm p (inv.goes_on p under calm) (inv.calm p under calm)

pub returns-2-clause-ended : goal.returns-2-clause-ended
returns-2-clause-ended g c =
    let inv = c.loop-session.invariant in
    let y = c.end_if_open.new.self.recorded in
    λ p under calm works.
    let now = c.end_if_open.ensures.goes_on p (inv.goes_on p under calm) (inv.calm p under calm) in
    let outside = ended_up_to p c.loop-session.session c.loop-session.self.recorded y
    (c.end_if_open.ensures.begins_none p (inv.goes_on p under calm) (inv.calm p under calm)) (inv.ended p under calm (c.end_if_open.ensures.works works))
    (c.end_if_open.ensures.ended p (inv.goes_on p under calm) (inv.calm p under calm) works) in
    none_left 256 (standing p y).actives now.running.sessions (λ s less. outside s (omega (arith, less, c.loop-session-test.true)))

pub returns-2-clause-ends : goal.returns-2-clause-ends
returns-2-clause-ends g c =
    let inv = c.loop-session.invariant in
    λ p under calm ends. (c.end_if_open.ensures.ends p (inv.goes_on p under calm) (inv.calm p under calm) (inv.ends p under calm ends)).in_place

pub returns-2-clause-grew : goal.returns-2-clause-grew
returns-2-clause-grew g c =
    grown_then 0 0 0 c.args.self.now.recorded.journal.items c.loop-session.self.recorded.journal.items c.end_if_open.new.self.recorded.journal.items refl c.loop-session.invariant.grew c.end_if_open.ensures.grew
