use Rattle.std.proofs.Common.{ap, subst}
use Rattle.environment.specs.Access.{IsLate}
use Rattle.environment.specs.declared.late.Late.{Late}
use Rattle.environment.proofs.AccessLaws.{any_call, calm_cause}
use Rattle.environment.proofs.environment.Environment.access.Goals as goal

pub access_found-requires-clause-here : goal.access_found-requires-clause-here
access_found-requires-clause-here g c =
    let most = c.requires.here.0 in
    let st = c.requires.here.1 in
    let late = subst (λ (l : Late). IsLate st c.args.session c.args.call.now c.args.db.now l) c.in-Found.is (c.in_ok-answer.ensures most st c.requires.here.2) in
    (most, st, late.0, c.requires.here.2, c.requires.here.3, c.requires.here.4, late.1, any_call st c.args.session c.args.resumed c.requires.here.5)

pub returns-in-Refused : goal.returns-in-Refused
returns-in-Refused g c =
    let at = c.requires.here.1 in
    let late = subst (λ (l : Late). IsLate at c.args.session c.args.call.now c.args.db.now l) c.in-Refused.is (c.in_ok-answer.ensures c.requires.here.0 at c.requires.here.2) in
    record {
      performs = record {
        comes = λ most st here sound early may.
            let is = subst (λ (l : Late). IsLate st c.args.session c.args.call.now c.args.db.now l) c.in-Refused.is (c.in_ok-answer.ensures most st here) in
            c.refuse.ensures.comes most st here sound is.0 is.1;
        near = tt;
        bounds = c.refuse.ensures.bounds;
        cause = calm_cause _ _ c.refuse.result c.in-Refused.answer c.refuse.ensures.answer late.1 (ap (λ (d : g.row.D.Denot). g.D.Disk.meaning.faults d) c.refuse.ensures.disk);
      };
    }

pub returns-in-Found : goal.returns-in-Found
returns-in-Found g c = record {
  performs = record {
    comes = λ most st here sound early may.
        let late = subst (λ (l : Late). IsLate st c.args.session c.args.call.now c.args.db.now l) c.in-Found.is (c.in_ok-answer.ensures most st here) in
        c.access_found.ensures.comes most st late.0 here sound early (any_call st c.args.session c.args.resumed may) late.1;
    near = c.access_found.ensures.near;
    bounds = c.access_found.ensures.bounds;
    cause = c.access_found.ensures.cause;
  };
}
