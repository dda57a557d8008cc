use Rattle.environment.proofs.AutoAlone.{none_active}
use Rattle.environment.proofs.AutoCalls.{auto_at, named_as}
use Rattle.environment.proofs.LateLaws.{may_wait}
use Rattle.environment.proofs.AutoEnds.{near_by}
use Rattle.environment.proofs.PlanLaws.{on_db}
use Rattle.std.proofs.Common.{◌∙◌, None, sym}
use Rattle.environment.proofs.environment.Environment.access_auto.Goals as goal

pub plan_auto-requires : goal.plan_auto-requires
plan_auto-requires g c =
    let h = c.requires.here in
    record {
      here = (
        h.0,
        c.args.session,
        h.1,
        h.2,
        auto_at h.0 g.D.Disk.meaning c.args.self.now h.1 c.args.session c.args.call.now h.2 c.args.db.now c.args.found h.3 h.4 c.requires.valid h.7 h.6 c.requires.call h.8,
        on_db h.1 c.args.session c.args.call.now c.args.db.now c.args.found None h.2 h.6,
      );
    }

pub run_auto-requires-clause-here : goal.run_auto-requires-clause-here
run_auto-requires-clause-here g c =
    let h = c.requires.here in
    let may = auto_at h.0 g.D.Disk.meaning c.args.self.now h.1 c.args.session c.args.call.now h.2 c.args.db.now c.args.found h.3 h.4 c.requires.valid h.7 h.6 c.requires.call h.8 in
    let on = on_db h.1 c.args.session c.args.call.now c.args.db.now c.args.found None h.2 h.6 in
    let plan = c.in_ok-target.ensures.plans h.0 c.args.session h.1 h.2 may on in (
      h.0,
      h.1,
      h.2,
      may,
      c.in_ok-planned.ensures.plans h.0 c.args.session h.1 c.args.call.now h.2 may (c.in_ok-target.ensures.may h.0 c.args.session h.1 h.2 may on) plan.plan.answer plan.plan.changes,
      plan.plan.needs,
      c.in_ok-owed.ensures h.1 h.3.sessions_at,
      named_as c.args.db.now c.args.found _ h.2 h.6.name h.6.kind plan.beside,
    )

pub run_auto-requires-clause-call : goal.run_auto-requires-clause-call
run_auto-requires-clause-call g c = may_wait c.args.call.now c.args.db.now c.requires.call

pub returns-clause-comes : goal.returns-clause-comes
returns-clause-comes g c = λ most st t at sound early may found outside.
    let may_ = auto_at most g.D.Disk.meaning c.args.self.now st c.args.session c.args.call.now t c.args.db.now c.args.found at sound c.requires.valid may found c.requires.call outside in
    let on = on_db st c.args.session c.args.call.now c.args.db.now c.args.found None t found in
    let plan = c.in_ok-target.ensures.plans most c.args.session st t may_ on in
    c.run_auto.ensures.comes most st t may_ (named_as c.args.db.now c.args.found _ t found.name found.kind plan.beside)
    (c.in_ok-planned.ensures.plans most c.args.session st c.args.call.now t may_ (c.in_ok-target.ensures.may most c.args.session st t may_ on) plan.plan.answer plan.plan.changes) plan.plan.needs
    (c.in_ok-owed.ensures st at.sessions_at)

pub returns-clause-near : goal.returns-clause-near
returns-clause-near g c =
    let h = c.requires.here in
    let may = auto_at h.0 g.D.Disk.meaning c.args.self.now h.1 c.args.session c.args.call.now h.2 c.args.db.now c.args.found h.3 h.4 c.requires.valid h.7 h.6 c.requires.call h.8 in
    let on = on_db h.1 c.args.session c.args.call.now c.args.db.now c.args.found None h.2 h.6 in
    let plan = c.in_ok-target.ensures.plans h.0 c.args.session h.1 h.2 may on in
    near_by g.D.Disk.meaning h.0 c.args.self.now c.run_auto.new.self h.1 c.args.session c.args.line c.args.call.now c.run_auto.result
    (c.run_auto.ensures.comes h.0 h.1 h.2 may (named_as c.args.db.now c.args.found _ h.2 h.6.name h.6.kind plan.beside)
    (c.in_ok-planned.ensures.plans h.0 c.args.session h.1 c.args.call.now h.2 may (c.in_ok-target.ensures.may h.0 c.args.session h.1 h.2 may on) plan.plan.answer plan.plan.changes) plan.plan.needs
    (c.in_ok-owed.ensures h.1 h.3.sessions_at))

-- ---- where no transaction is under way

pub access_alone-requires-clause-here : goal.access_alone-requires-clause-here
access_alone-requires-clause-here g c =
    let h = c.requires.here in (
      h.0,
      c.args.session,
      h.1,
      h.2,
      auto_at h.0 g.D.Disk.meaning c.args.self.now h.1 c.args.session c.args.call.now h.2 c.args.db.now c.args.found h.3 h.4 c.requires.valid h.7 h.6 c.requires.call h.8,
      on_db h.1 c.args.session c.args.call.now c.args.db.now c.args.found None h.2 h.6,
      none_active h.1 (sym (c.is_empty.ensures h.1 h.3.sessions_at) ∙ c.if-is_empty.true),
    )

pub returns-then-is_empty-clause-comes : goal.returns-then-is_empty-clause-comes
returns-then-is_empty-clause-comes g c = λ most st t at sound early may found outside.
    c.access_alone.ensures.comes most c.args.session c.args.line st t
    (auto_at most g.D.Disk.meaning c.args.self.now st c.args.session c.args.call.now t c.args.db.now c.args.found at sound c.requires.valid may found c.requires.call outside)
    (on_db st c.args.session c.args.call.now c.args.db.now c.args.found None t found) (none_active st (sym (c.is_empty.ensures st at.sessions_at) ∙ c.if-is_empty.true))

pub returns-then-is_empty-clause-near : goal.returns-then-is_empty-clause-near
returns-then-is_empty-clause-near g c =
    let h = c.requires.here in
    near_by g.D.Disk.meaning h.0 c.args.self.now c.access_alone.new.self h.1 c.args.session c.args.line c.args.call.now c.access_alone.result
    (c.access_alone.ensures.comes h.0 c.args.session c.args.line h.1 h.2
    (auto_at h.0 g.D.Disk.meaning c.args.self.now h.1 c.args.session c.args.call.now h.2 c.args.db.now c.args.found h.3 h.4 c.requires.valid h.7 h.6 c.requires.call h.8)
    (on_db h.1 c.args.session c.args.call.now c.args.db.now c.args.found None h.2 h.6) (none_active h.1 (sym (c.is_empty.ensures h.1 h.3.sessions_at) ∙ c.if-is_empty.true)))
