use Rattle.std.proofs.Common.{ap, subst}
use Rattle.environment.specs.Access.{IsLateAt}
use Rattle.environment.specs.declared.late_at.LateAt.{LateAt}
use Rattle.environment.proofs.AccessLaws.{any_call, calm_cause}
use Rattle.environment.proofs.LateLaws.{may_wait_at}
use Rattle.environment.proofs.environment.Environment.access_cursor.Goals as goal

pub access_spot-requires-clause-here : goal.access_spot-requires-clause-here
access_spot-requires-clause-here g c =
    let most = c.requires.here.0 in
    let st = c.requires.here.1 in
    let late = subst (λ (l : LateAt). IsLateAt st c.args.session c.args.call.now l) c.in-Stands.is (c.in_ok-answer.ensures most st c.requires.here.2 c.requires.here.3) in
    (most, st, late.0, c.requires.here.2, c.requires.here.3, c.requires.here.4, late.1, any_call st c.args.session c.args.resumed c.requires.here.5, late.2)

pub access_spot-requires-clause-call : goal.access_spot-requires-clause-call
access_spot-requires-clause-call g c = may_wait_at c.args.call.now c.args.cursor c.requires.call

pub returns-in-Refused : goal.returns-in-Refused
returns-in-Refused g c =
    let st = c.requires.here.1 in
    let late = subst (λ (l : LateAt). IsLateAt st c.args.session c.args.call.now l) c.in-Refused.is (c.in_ok-answer.ensures c.requires.here.0 st c.requires.here.2 c.requires.here.3) in
    record {
      performs = record {
        comes = λ most st here sound early may.
            let is = subst (λ (l : LateAt). IsLateAt st c.args.session c.args.call.now l) c.in-Refused.is (c.in_ok-answer.ensures most st here sound) in
            c.refuse.ensures.comes most st here sound is.0 is.1;
        near = tt;
        bounds = c.refuse.ensures.bounds;
        cause = calm_cause _ _ c.refuse.result c.in-Refused.answer c.refuse.ensures.answer late.1 (ap (λ (d : g.row.D.Denot). g.D.Disk.meaning.faults d) c.refuse.ensures.disk);
      };
    }

pub returns-in-Stands : goal.returns-in-Stands
returns-in-Stands g c = record {
  performs = record {
    comes = λ most st here sound early may.
        let late = subst (λ (l : LateAt). IsLateAt st c.args.session c.args.call.now l) c.in-Stands.is (c.in_ok-answer.ensures most st here sound) in
        c.access_spot.ensures.comes most st late.0 here sound early (any_call st c.args.session c.args.resumed may) late.1;
    near = c.access_spot.ensures.near;
    bounds = c.access_spot.ensures.bounds;
    cause = c.access_spot.ensures.cause;
  };
}
