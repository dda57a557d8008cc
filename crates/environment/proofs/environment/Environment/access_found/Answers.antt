use Rattle.std.proofs.Common.{refl, sym}
use Rattle.environment.proofs.LateLaws.{may_wait}
use Rattle.environment.proofs.environment.Environment.access_found.Goals as goal

pub returns-then-active-clause-comes : goal.returns-then-active-clause-comes
returns-then-active-clause-comes g c = λ most st on here sound early may found.
    c.access_again.ensures.comes most st on here sound early may found c.in-Some.active.now (sym (c.in-Some.ensures st here.sessions_at)) refl refl c.if-active.true

pub returns-else-active-clause-comes : goal.returns-else-active-clause-comes
returns-else-active-clause-comes g c = λ most st on here sound early may found.
    c.access_own.ensures.comes most st on here sound early may found c.in-Some.active.now (sym (c.in-Some.ensures st here.sessions_at)) refl refl c.if-active.false

pub returns-in-None-clause-comes : goal.returns-in-None-clause-comes
returns-in-None-clause-comes g c = λ most st on here sound early may found.
    c.access_auto.ensures.comes most st on here sound early may found (sym (c.in-None.ensures st here.sessions_at))

pub access_own-requires-clause-call : goal.access_own-requires-clause-call
access_own-requires-clause-call g c = may_wait c.args.call.now c.args.db.now c.requires.call

pub access_again-requires-clause-call : goal.access_again-requires-clause-call
access_again-requires-clause-call g c = may_wait c.args.call.now c.args.db.now c.requires.call
