use Rattle.std.proofs.Common.{◌∙◌, ap, option_copied}
use Rattle.record_map.specs.Cells.{value_at}
use Rattle.db_tree.proofs.LoadingLaws.{gets_next}
use Rattle.db_tree.proofs.loading.put_deletions.Goals as goal

pub returns-in_err-put_slot-clause-some : goal.returns-in_err-put_slot-clause-some
returns-in_err-put_slot-clause-some c = (c.loop-marked.marked-index, λ x. ap (value_at x) c.in_err-put_slot.ensures.err ∙ c.loop-marked.invariant x)

pub loop-marked-preserved : goal.loop-marked-preserved
loop-marked-preserved c =
    gets_next c.args.low.now (option_copied c.args.high) c.args.slots.now c.loop-marked.marked-index c.marked-item.result c.args.at c.args.cells.now c.loop-marked.cells c.put_slot.new.cells c.loop-marked-test.true
    c.marked-item.is c.loop-marked.invariant c.in_ok-put_slot.ensures.got
