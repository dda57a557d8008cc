use Rattle.db_tree.proofs.BackLaws.{join_level, join_end}
use Rattle.std.proofs.Common.{◌∙◌, refl}
use Rattle.db_tree.proofs.tree.DbTree.join_all.Goals as goal

pub loop-i-preserved : goal.loop-i-preserved
loop-i-preserved c = record {
  cells = c.join_one.ensures.cells ∙ c.loop-i.invariant.cells;
  back = λ before are. join_level c.args.splits.now c.args.count c.loop-i.i _ c.index-splits-level.result before c.loop-i.self.levels c.join_one.new.self.levels c.requires c.loop-i-test.true refl
      c.join_one.ensures.back (c.loop-i.invariant.back before are);
}

pub returns-clause-back : goal.returns-clause-back
returns-clause-back c = λ before are. join_end c.args.splits.now c.args.count c.loop-i.i before c.loop-i.self.levels c.loop-i-test.false (c.loop-i.invariant.back before are)
