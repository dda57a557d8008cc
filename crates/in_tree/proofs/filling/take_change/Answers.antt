use Rattle.std.proofs.Common.{◌∙◌, ap}
use Rattle.record_map.specs.declared.write.Write.{Write}
use Rattle.in_tree.proofs.FillAhead.{change_taken, written_in}
use Rattle.in_tree.proofs.filling.take_change.Goals as goal

pub returns : goal.returns
returns c =
    change_taken c.args.txn c.args.row.now c.args.tree.now c.put_write.new.self c.args.place.now c.take.new.self _ c.take.result c.change_size.result
    (ap (λ (w : Write). record w { at = c.take.result }) (c.deref_mut.ensures.value ∙ c.in_ok-write.ensures))
    (written_in c.args.row.now.name _ c.args.tree.now c.put_write.new.self c.requires.there c.put_write.ensures.levels c.put_write.ensures.list c.put_write.ensures.written c.put_write.ensures.tree c.put_write.ensures.exact)
    c.put_write.ensures.cells c.put_write.ensures.rising c.change_size.ensures (λ file_max end sizes b. (c.take.ensures.at file_max end sizes b, c.take.ensures.next file_max end sizes b))
