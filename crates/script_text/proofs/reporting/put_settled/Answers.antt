use Rattle.std.proofs.Common.{[], ◌++◌, take, sym, ap, ◌∙◌}
use Rattle.std.specs.List.{flat_map}
use Rattle.std.proofs.lemmas.List.{append-nil, drop_all}
use Rattle.text_out.specs.OutBuffer.{point}
use Rattle.script_text.specs.Report.{begun_after, none_begun, settled_line, waiting_after}
use Rattle.text_out.proofs.BufferedText.{adds_none, adds_same, adds_then}
use Rattle.script_text.proofs.WaitingCalls.{nothing_settled, settled_step, waiting_from}
use Rattle.script_text.proofs.reporting.put_settled.Goals as goal

pub returns-then-not-may_settle : goal.returns-then-not-may_settle
returns-then-not-may_settle g c =
    let none = nothing_settled c.args.event.now c.if-not-may_settle.ensures (waiting_after none_begun c.args.seen.now) in
    adds_same _ _ (sym none) (adds_none (point (g.K.Sink.written c.args.out.now) (g.K.Sink.faults c.args.out.now) c.args.buffer.now))

pub loop-k-init : goal.loop-k-init
loop-k-init g c = (
  [],
  adds_none (point (g.K.Sink.written c.args.out.now) (g.K.Sink.faults c.args.out.now) c.args.buffer.now),
  ap (flat_map (settled_line c.args.event.now)) (waiting_from c.args.seen.now c.args.first c.requires.none),
)

pub loop-k-preserved : goal.loop-k-preserved
loop-k-preserved g c =
    let f = settled_line c.args.event.now in
    let seen = c.args.seen.now in (
      _,
      adds_then c.loop-k.invariant.1 c.put_if_settled.ensures,
      settled_step f seen c.loop-k.k c.index-seen-k.result c.logged_call-call.result c.loop-k.invariant.0 (flat_map f (waiting_after none_begun seen)) c.loop-k-test.true c.index-seen-k.is
          c.logged_call-call.ensures c.loop-k.invariant.2,
    )

pub returns : goal.returns
returns g c =
    let f = settled_line c.args.event.now in
    let kept = c.loop-k.invariant in
    adds_same _ _
    (sym (append-nil kept.0)
    ∙ ap (λ l. kept.0 ++ flat_map f (waiting_after (begun_after none_begun (take c.loop-k.k c.args.seen.now)) l)) (sym (drop_all c.loop-k.k c.args.seen.now c.loop-k-test.false))
    ∙ kept.2) kept.1
