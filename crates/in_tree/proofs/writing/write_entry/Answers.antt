use Rattle.std.proofs.Common.{◌∙◌, ap}
use Rattle.record_map.specs.declared.write.Write.{Write}
use Rattle.in_tree.proofs.DueLogging.{change_written}
use Rattle.in_tree.proofs.writing.write_entry.Goals as goal

pub returns-clause-grew : goal.returns-clause-grew
returns-clause-grew g c =
    change_written g.D.Disk.meaning c.args.log.now c.log_one.new.log c.args.trees.now c.set_write.new.trees c.args.txn c.args.change.now.db c.args.change.now.name c.args.change.now.value _ c.in_ok-at.at
    c.in_ok-at.ensures.grew c.in_ok-at.ensures.at c.set_write.ensures.step (ap (λ (w : Write). record w { at = c.in_ok-at.at }) (c.deref_mut.ensures.value ∙ c.requires.write))
