use Rattle.std.proofs.Common.{ap, get_or}
use Rattle.std.proofs.lemmas.List.Edits.{map_over_more}
use Rattle.node_core.specs.Changes.{unmarked}
use Rattle.node_core.proofs.slots.unmark_all.Goals as goal

pub loop-m-preserved : goal.loop-m-preserved
loop-m-preserved c =
    let ys = c.loop-m.m-items in
    let i = c.loop-m.m-index in
    map_over_more unmarked c.args.marked.now ys i (get_or ys i c.m-item.result) c.loop-m-test.true c.loop-m.invariant (ap (get_or ys i) c.m-item.is)
