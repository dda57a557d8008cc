use Rattle.std.proofs.Common.{◌≤◌, ◌<◌, ◌+◌, ◌-◌, ◌*◌, ◌^◌, ◌≡◌, ℕ, arith}
use Rattle.script_run.specs.UnderWay.{standing}
use Rattle.script_run.proofs.Ending.{gone_on_none, gone_on_then, none_then}
use Rattle.script_run.proofs.Resting.{counted, counted_fewer, counted_less, some_may}
use Rattle.script_run.proofs.running.Running.resume_ready.Goals as goal

pub loop-session-init : goal.loop-session-init
loop-session-init g c =
    let x = c.args.self.now.recorded in
    record {
      flags = c.requires.flags;
      goes_on = λ p under. under;
      counts = λ p under. counted p x c.waiting_count-waiting.result (c.waiting_count-waiting.ensures p.most (standing p x) under.running.here);
      begins_none = λ p under s none. none;
      gone_on = gone_on_none c.args.self.now;
      given = λ lines has. has;
    }

pub next_ready-requires : goal.next_ready-requires
next_ready-requires g c =
    let h = c.requires.here in
    record { here = (h.0, c.loop-session.invariant.goes_on h.0 h.1) }

pub go_on-requires-clause-here : goal.go_on-requires-clause-here
go_on-requires-clause-here g c =
    let h = c.requires.here in
    let under = c.loop-session.invariant.goes_on h.0 h.1 in
    (h.0, under, c.in-Some.ensures.next h.0 under)

pub returns-then-self-clause-goes_on : goal.returns-then-self-clause-goes_on
returns-then-self-clause-goes_on g c = λ p was.
    let under = c.loop-session.invariant.goes_on p was in
    c.go_on.ensures.goes_on p under (c.in-Some.ensures.next p under)

pub returns-then-self-clause-begins_none : goal.returns-then-self-clause-begins_none
returns-then-self-clause-begins_none g c = λ p was.
    let inv = c.loop-session.invariant in
    let under = inv.goes_on p was in
    none_then p c.args.self.now.recorded c.loop-session.self.recorded c.go_on.new.self.recorded (inv.begins_none p was) (c.go_on.ensures.begins_none p under (c.in-Some.ensures.next p under))

pub returns-then-self-clause-gone_on : goal.returns-then-self-clause-gone_on
returns-then-self-clause-gone_on g c = gone_on_then c.args.self.now c.loop-session.self c.go_on.new.self c.loop-session.invariant.gone_on c.go_on.ensures.gone_on

pub returns-clause-begins_none : goal.returns-clause-begins_none
returns-clause-begins_none g c = c.loop-session.invariant.begins_none

pub returns-clause-gone_on : goal.returns-clause-gone_on
returns-clause-gone_on g c = c.loop-session.invariant.gone_on

pub overflow_sub-left : goal.overflow_sub-left
overflow_sub-left g c =
    let h = c.requires.here in
    let under = c.loop-session.invariant.goes_on h.0 h.1 in
    let some = some_may h.0 c.in-Some.session c.in-Some.line c.loop-session.self.recorded (c.in-Some.ensures.next h.0 under) in
    let ready = (c.loop-session.invariant.counts h.0 h.1).ready in
    omega (arith, some, ready)

pub loop-session-preserved-then-now-waiting : goal.loop-session-preserved-then-now-waiting
loop-session-preserved-then-now-waiting g c =
    let x = c.loop-session.self.recorded in
    let y = c.go_on.new.self.recorded in
    let inv = c.loop-session.invariant in
    record {
      flags = c.go_on.ensures.flags;
      goes_on = λ p was. (let under = inv.goes_on p was in c.go_on.ensures.goes_on p under (c.in-Some.ensures.next p under));
      counts = λ p was.
          let under = inv.goes_on p was in
          let next = c.in-Some.ensures.next p under in
          let now_under = c.go_on.ensures.goes_on p under next in
          counted_fewer p x y c.loop-session.waiting c.loop-session.left c.waiting_count-now.result (inv.counts p was) (c.go_on.ensures.settles p under next c.if-self.false)
          (c.waiting_count-now.ensures p.most (standing p y) now_under.running.here) (omega (arith, c.if-now-waiting.true));
      begins_none = λ p was.
          let under = inv.goes_on p was in
          none_then p c.args.self.now.recorded x y (inv.begins_none p was) (c.go_on.ensures.begins_none p under (c.in-Some.ensures.next p under));
      gone_on = gone_on_then c.args.self.now c.loop-session.self c.go_on.new.self inv.gone_on c.go_on.ensures.gone_on;
      given = λ lines has. c.go_on.ensures.given lines (inv.given lines has);
    }

pub loop-session-preserved : goal.loop-session-preserved
loop-session-preserved g c =
    let x = c.loop-session.self.recorded in
    let y = c.go_on.new.self.recorded in
    let inv = c.loop-session.invariant in
    record {
      flags = c.go_on.ensures.flags;
      goes_on = λ p was. (let under = inv.goes_on p was in c.go_on.ensures.goes_on p under (c.in-Some.ensures.next p under));
      counts = λ p was.
          let under = inv.goes_on p was in
          let next = c.in-Some.ensures.next p under in
          let now_under = c.go_on.ensures.goes_on p under next in
          (counted_less p x y c.loop-session.waiting c.loop-session.left c.waiting_count-now.result (inv.counts p was) (c.go_on.ensures.settles p under next c.if-self.false)
          (c.waiting_count-now.ensures p.most (standing p y) now_under.running.here) (omega (arith, c.if-now-waiting.false))).1;
      begins_none = λ p was.
          let under = inv.goes_on p was in
          none_then p c.args.self.now.recorded x y (inv.begins_none p was) (c.go_on.ensures.begins_none p under (c.in-Some.ensures.next p under));
      gone_on = gone_on_then c.args.self.now c.loop-session.self c.go_on.new.self inv.gone_on c.go_on.ensures.gone_on;
      given = λ lines has. c.go_on.ensures.given lines (inv.given lines has);
    }

pub loop-session-smaller : goal.loop-session-smaller
loop-session-smaller g c =
    let h = c.requires.here in
    let p = h.0 in
    let x = c.loop-session.self.recorded in
    let y = c.go_on.new.self.recorded in
    let inv = c.loop-session.invariant in
    let under = inv.goes_on p h.1 in
    let next = c.in-Some.ensures.next p under in
    let now_under = c.go_on.ensures.goes_on p under next in
    let same = (counted_less p x y c.loop-session.waiting c.loop-session.left c.waiting_count-now.result (inv.counts p h.1) (c.go_on.ensures.settles p under next c.if-self.false)
    (c.waiting_count-now.ensures p.most (standing p y) now_under.running.here) (omega (arith, c.if-now-waiting.false))).0 in
    let some = some_may p c.in-Some.session c.in-Some.line x next in
    let ready = (inv.counts p h.1).ready in
    let left : 1 ≤ c.loop-session.left = omega (arith, some, ready) in
    smaller c.loop-session.waiting c.waiting_count-now.result c.loop-session.left same left
  where
    smaller : (waiting now left : ℕ) → now ≡ waiting → 1 ≤ left → now * 2 ^ 64 + (left - 1) < waiting * 2 ^ 64 + left
    smaller waiting now left same least = omega (arith, same, least)
