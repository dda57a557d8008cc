use Rattle.std.proofs.Common.{subst, sym, true≢false}
use Rattle.txn_core.specs.Planning.{IsPlanned}
use Rattle.txn_core.specs.declared.planned.Planned.{Planned}
use Rattle.engine.specs.Contents.{known}
use Rattle.engine.specs.Whole.{contents_of}
use Rattle.environment.proofs.environment.Environment.change_planned.Goals as goal

pub answer_planned-requires-clause-plan : goal.answer_planned-requires-clause-plan
answer_planned-requires-clause-plan g c =
    let e = c.args.self.now in
    λ p s has. subst (λ (x : Planned). IsPlanned (known (contents_of e.engine)) p s c.args.call.now x) c.in-Answered.is (c.requires.plan p s has)

pub returns-in-Answered : goal.returns-in-Answered
returns-in-Answered g c = record { performs = c.answer_planned.ensures.performs }

pub change_unless_used-requires-clause-plan : goal.change_unless_used-requires-clause-plan
change_unless_used-requires-clause-plan g c =
    let e = c.args.self.now in
    λ p s has.
    let planned = subst (λ (x : Planned). IsPlanned (known (contents_of e.engine)) p s c.args.call.now x) c.in-Logs.is (c.requires.plan p s has) in
    record { log = planned.0; kind = planned.1; fill = λ fills. absurd (true≢false (sym fills)) }

pub change_unless_used-requires-in-Fills-clause-plan : goal.change_unless_used-requires-in-Fills-clause-plan
change_unless_used-requires-in-Fills-clause-plan g c =
    let e = c.args.self.now in
    λ p s has.
    let planned = subst (λ (x : Planned). IsPlanned (known (contents_of e.engine)) p s c.args.call.now x) c.in-Fills.is (c.requires.plan p s has) in
    record { log = planned.0; kind = planned.1; fill = λ fills. planned.2 }

pub returns-in-Fills : goal.returns-in-Fills
returns-in-Fills g c = record { performs = c.change_unless_used-in-Fills.ensures.performs }

pub returns-in-Logs : goal.returns-in-Logs
returns-in-Logs g c = record { performs = c.change_unless_used.ensures.performs }
