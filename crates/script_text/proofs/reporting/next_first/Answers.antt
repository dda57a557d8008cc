use Rattle.std.proofs.Common.{◌+◌, List, take, drop, sym, subst, arith}
use Rattle.std.proofs.lemmas.List.{take-take}
use Rattle.store_model.specs.declared.event.Event.{Event}
use Rattle.script_text.specs.Report.{NoneWaits, none_begun}
use Rattle.script_text.proofs.WaitingCalls.{seen_more}
use Rattle.script_text.proofs.reporting.next_first.Goals as goal

pub first_waiting-requires-clause-none : goal.first_waiting-requires-clause-none
first_waiting-requires-clause-none c =
    let events = c.args.events.now in
    let more = seen_more events c.args.first c.args.at (c.args.at + 1) c.requires.order (omega arith) (omega arith) c.requires.none in
    subst (λ (l : List Event). NoneWaits none_begun l (drop c.args.first (take (c.args.at + 1) events))) (sym (take-take c.args.first (c.args.at + 1) events (omega arith))) more

pub returns-else-may_settle-clause-none : goal.returns-else-may_settle-clause-none
returns-else-may_settle-clause-none c =
    seen_more c.args.events.now c.args.first c.args.at (c.args.at + 1) c.requires.order (omega arith) (omega arith) c.requires.none
