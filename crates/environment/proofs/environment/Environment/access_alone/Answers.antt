use Rattle.environment.proofs.environment.Environment.access_alone.Goals as goal

pub run_alone-requires-clause-here : goal.run_alone-requires-clause-here
run_alone-requires-clause-here g c =
    let h = c.requires.here in
    let plan = c.in_ok-answer.ensures.plans h.0 h.1 h.2 h.3 h.4 h.5 in (
      h.0,
      h.1,
      h.2,
      c.args.call.now,
      h.3,
      h.4,
      c.in_ok-planned.ensures.plans h.0 h.1 h.2 c.args.call.now h.3 h.4 (c.in_ok-answer.ensures.may h.0 h.1 h.2 h.3 h.4 h.5) plan.answer plan.changes,
      h.6,
    )

pub returns-clause-comes : goal.returns-clause-comes
returns-clause-comes g c = λ most session line st t may on none.
    let plan = c.in_ok-answer.ensures.plans most session st t may on in
    c.run_alone.ensures.comes most session line st c.args.call.now t may
    (c.in_ok-planned.ensures.plans most session st c.args.call.now t may (c.in_ok-answer.ensures.may most session st t may on) plan.answer plan.changes) none
