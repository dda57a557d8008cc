use Rattle.std.proofs.Common.{Option, refl, sym, subst}
use Rattle.je_order.specs.declared.name.Name.{Name}
use Rattle.environment.specs.Access.{IsFoundFor}
use Rattle.environment.proofs.environment.Environment.access_spot.Goals as goal

pub returns-then-active-clause-comes : goal.returns-then-active-clause-comes
returns-then-active-clause-comes g c = λ most st on here sound early may found.
    c.access_again.ensures.comes most st on here sound early may (subst (λ (o : Option Name). IsFoundFor st c.args.session c.args.call.now c.args.spot.name c.args.spot.found o on) (sym c.as_ref.ensures.value) found)
    c.in-Some.active.now (sym (c.in-Some.ensures st here.sessions_at)) refl refl c.if-active.true

pub returns-clause-comes : goal.returns-clause-comes
returns-clause-comes g c = λ most st on here sound early may found.
    c.access_own.ensures.comes most st on here sound early may (subst (λ (o : Option Name). IsFoundFor st c.args.session c.args.call.now c.args.spot.name c.args.spot.found o on) (sym c.as_ref-in-Some.ensures.value) found)
    c.in-Some.active.now (sym (c.in-Some.ensures st here.sessions_at)) refl refl c.if-active.false
