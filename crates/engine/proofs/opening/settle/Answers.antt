use Rattle.std.proofs.Common.{◌∙◌, ap, sym, inl, subst}
use Rattle.je_disk.specs.Moments.{now}
use Rattle.je_disk.specs.States.{Files, State, IsEither, synced, synced_crash_states}
use Rattle.je_disk.proofs.MomentLaws.{passes_then, passes_weaken}
use Rattle.engine.specs.Opening.{HasTornTailCut, IsSettling, cut_off}
use Rattle.engine.proofs.EntryLaws.{settles, settling_synced}
use Rattle.engine.proofs.OpenedLaws.{on_ok_map}
use Rattle.engine.proofs.opening.settle.Goals as goal

pub returns-clause-settled : goal.returns-clause-settled
returns-clause-settled g c = λ observed.
    let start = now (g.D.Disk.meaning.history c.args.disk.now) in
    on_ok_map c.sync_now.result _ _ (λ is.
    subst (λ (f : Files). HasTornTailCut start.reads f c.args.tail) (sym (ap (λ (s : State). s.reads) is ∙ ap (λ (s : State). s.reads) (c.in_ok-cut_rest.ensures.done observed))) (settles c.args.tail start)) (c.sync_now.ensures.done observed)

pub returns-clause-moments : goal.returns-clause-moments
returns-clause-moments g c = λ observed.
    let meaning = g.D.Disk.meaning in
    let old = meaning.history c.args.disk.now in
    let cut = meaning.history c.cut_rest.new.disk in
    let done = c.in_ok-cut_rest.ensures.done observed in
    passes_then old cut (meaning.history c.sync_now.new.self) (IsSettling c.args.tail (now old))
    (passes_weaken old cut (IsEither (now old) (cut_off c.args.tail (now old))) (IsSettling c.args.tail (now old)) (λ (s : State) is. inl is) (c.cut_rest.ensures.moments observed))
    (passes_weaken cut (meaning.history c.sync_now.new.self) (IsEither (now cut) (synced (now cut))) (IsSettling c.args.tail (now old))
    (λ (s : State) is. settling_synced c.args.tail (now old) (now cut) s done is) (c.sync_now.ensures.moments observed))

pub returns-clause-stable : goal.returns-clause-stable
returns-clause-stable g c = λ observed.
    on_ok_map c.sync_now.result _ _ (λ is. ap (λ (s : State). s.crash_states) is ∙ sym (ap (λ (s : State). synced_crash_states s.reads) is)) (c.sync_now.ensures.done observed)
