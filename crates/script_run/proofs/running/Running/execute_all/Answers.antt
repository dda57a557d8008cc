use Rattle.std.proofs.Common.{List, ◌++◌, ◌∙◌, ap, rules, subst, sym}
use Rattle.std.specs.List.{list_any}
use Rattle.std.specs.Vec.Iter.{into_iter_items}
use Rattle.script_run.specs.Pauses.{pauses}
use Rattle.script_run.specs.Running.{HasLines}
use Rattle.store_model.specs.declared.plan.ScriptLine.{ScriptLine}
use Rattle.script_run.proofs.GivenLaws.{first_line}
use Rattle.script_run.proofs.Growing.{given_all, given_front}
use Rattle.script_run.proofs.Yielded.{all_yielded, front_yielded}
use Rattle.script_run.proofs.running.Running.execute_all.Goals as goal

pub loop-given-init : goal.loop-given-init
loop-given-init g c = record {
  flags = c.requires.flags;
  goes_on = λ p under calm. under;
  calm = λ p under calm. calm;
  ends = λ ends. ends;
  lines = search (rules, c.requires.lines);
  given = c.requires.given;
  going = ap (list_any (pauses c.args.pause)) c.requires.none;
}

pub loop-given-preserved : goal.loop-given-preserved
loop-given-preserved g c =
    let inv = c.loop-given.invariant in
    record {
      flags = c.execute_until.ensures.flags;
      goes_on = λ p under calm. c.execute_until.ensures.goes_on p (inv.goes_on p under calm) (inv.calm p under calm);
      calm = λ p under calm. c.execute_until.ensures.calm p (inv.goes_on p under calm) (inv.calm p under calm);
      ends = λ ends. c.execute_until.ensures.ends (inv.ends ends);
      lines = (first_line c.in-Some.given (into_iter_items c.next.new.self) (into_iter_items c.loop-given.given-iterator) c.in-Some.ensures.steps.0 inv.lines).1;
      given = c.execute_until.ensures.given c.loop-given.yielded inv.given;
      going = c.execute_until.ensures.going c.if-execute_until.false inv.going;
    }

pub execute_until-requires-clause-here : goal.execute_until-requires-clause-here
execute_until-requires-clause-here g c =
    let h = c.requires.here in
    let inv = c.loop-given.invariant in
    (h.0, inv.goes_on h.0 h.1 h.2, inv.calm h.0 h.1 h.2)

pub execute_until-requires-clause-line : goal.execute_until-requires-clause-line
execute_until-requires-clause-line g c =
    (first_line c.in-Some.given (into_iter_items c.next.new.self) (into_iter_items c.loop-given.given-iterator) c.in-Some.ensures.steps.0 c.loop-given.invariant.lines).0

pub returns-clause-ends : goal.returns-clause-ends
returns-clause-ends g c = c.loop-given.invariant.ends

pub returns-then-execute_until-clause-goes_on : goal.returns-then-execute_until-clause-goes_on
returns-then-execute_until-clause-goes_on g c =
    let inv = c.loop-given.invariant in
    λ p under calm. c.execute_until.ensures.goes_on p (inv.goes_on p under calm) (inv.calm p under calm)

pub returns-then-execute_until-clause-calm : goal.returns-then-execute_until-clause-calm
returns-then-execute_until-clause-calm g c =
    let inv = c.loop-given.invariant in
    λ p under calm. c.execute_until.ensures.calm p (inv.goes_on p under calm) (inv.calm p under calm)

pub returns-then-execute_until-clause-given : goal.returns-then-execute_until-clause-given
returns-then-execute_until-clause-given g c =
    let inv = c.loop-given.invariant in
    let x = c.execute_until.new.self in
    let parts = sym c.into_iter-given-iterator.ensures.into_iter_gives.0
    ∙ front_yielded c.loop-given.yielded c.into_iter-given-iterator.result c.loop-given.given-iterator c.loop-given.yielded_by
    ∙ ap (λ (l : List ScriptLine). c.loop-given.yielded ++ l) c.in-Some.ensures.steps.0 in
    given_front c.args.pause x c.args.lines.items c.loop-given.yielded c.in-Some.given (into_iter_items c.next.new.self) parts (c.execute_until.ensures.given c.loop-given.yielded inv.given)
    (c.execute_until.ensures.stops inv.going) (c.execute_until.ensures.paused c.if-execute_until.true)

pub returns-clause-given : goal.returns-clause-given
returns-clause-given g c =
    let inv = c.loop-given.invariant in
    let x = c.loop-given.self in
    let all = sym c.into_iter-given-iterator.ensures.into_iter_gives.0
    ∙ all_yielded c.loop-given.yielded c.into_iter-given-iterator.result c.loop-given.given-iterator c.loop-given.yielded_by c.in-None.ensures.steps.0 in
    given_all c.args.pause x c.args.lines.items (subst (λ (l : List ScriptLine). HasLines x l) (sym all) inv.given) inv.going
