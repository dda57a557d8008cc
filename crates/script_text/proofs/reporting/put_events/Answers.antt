use Rattle.std.proofs.Common.{List, [], ◌++◌, take, drop, refl, sym, ap, subst, ◌∙◌, arith}
use Rattle.std.proofs.lemmas.List.{append-nil, drop_all, take-take}
use Rattle.store_model.specs.declared.event.Event.{Event}
use Rattle.text_out.specs.OutBuffer.{point}
use Rattle.script_text.specs.Report.{NoneWaits, commits_in, events_text, is_commit, none_begun}
use Rattle.text_out.proofs.BufferedText.{adds_none, adds_same, adds_then}
use Rattle.script_text.proofs.CommitCounts.{commits_all, commits_step, counted_most}
use Rattle.script_text.proofs.WaitingCalls.{events_step}
use Rattle.script_text.proofs.reporting.put_events.Goals as goal

pub loop-at-init : goal.loop-at-init
loop-at-init g c = (
  omega arith,
  tt,
  ([], adds_none (point (g.K.Sink.written c.args.out.now) (g.K.Sink.faults c.args.out.now) c.args.buffer.now), refl),
  omega arith,
  omega arith,
)

pub put_event-requires-clause-none : goal.put_event-requires-clause-none
put_event-requires-clause-none g c =
    let events = c.args.events.now in
    let first = c.loop-at.first in
    subst (λ (l : List Event). NoneWaits none_begun l (drop first (take c.loop-at.at events))) (sym (take-take first c.loop-at.at events c.loop-at.invariant.0)) c.loop-at.invariant.1

pub loop-at-preserved : goal.loop-at-preserved
loop-at-preserved g c =
    let events = c.args.events.now in
    let kept = c.loop-at.invariant in (
      c.next_first-first.ensures.order,
      c.next_first-first.ensures.none,
      (
        _,
        adds_then kept.2.1 c.put_event.ensures,
        events_step events c.loop-at.at c.index-events-at.result kept.2.0 (events_text [] events) c.loop-at-test.true c.index-events-at.is kept.2.2,
      ),
      counted_most c.loop-at.commits c.loop-at.at c.counted-commits.result (is_commit (take c.loop-at.at events) c.index-events-at.result) kept.3 c.counted-commits.ensures,
      commits_step events c.loop-at.at c.index-events-at.result c.loop-at.commits c.counted-commits.result (commits_in [] events) c.loop-at-test.true c.index-events-at.is kept.4 c.counted-commits.ensures,
    )

pub returns-clause-commits : goal.returns-clause-commits
returns-clause-commits g c = commits_all c.args.events.now c.loop-at.at c.loop-at.commits (commits_in [] c.args.events.now) c.loop-at-test.false c.loop-at.invariant.4

pub returns-clause-adds : goal.returns-clause-adds
returns-clause-adds g c =
    let events = c.args.events.now in
    let kept = c.loop-at.invariant.2 in
    adds_same _ _
    (sym (append-nil kept.0)
    ∙ ap (λ l. kept.0 ++ events_text (take c.loop-at.at events) l) (sym (drop_all c.loop-at.at events c.loop-at-test.false))
    ∙ kept.2) kept.1
