use Rattle.std.proofs.Common.{inr, sym, subst}
use Rattle.db_tree.specs.Stored.{AreQuiet}
use Rattle.in_tree.proofs.StoredLaws.{slot_logged, slot_quiet}
use Rattle.in_tree.proofs.forest.redo_in.Goals as goal

pub returns-in_err-done-clause-quiet : goal.returns-in_err-done-clause-quiet
returns-in_err-done-clause-quiet c = λ quiet.
    subst AreQuiet (sym c.in_err-done.ensures.err) (slot_quiet c.args.tree.now.cells c.split_for.new.tree.cells c.args.name.now c.split_for.ensures.slot c.redo_slot-done.ensures.was_rising quiet)

pub returns-clause-step : goal.returns-clause-step
returns-clause-step c = record {
  was_parts = c.height-height.ensures.parts;
  parts = c.height-levels.ensures.parts;
  mid = c.split_for.new.tree.levels;
  split = c.in-Ok.ensures.split;
  nodes = c.redo_slot-done.ensures.nodes;
  logged = slot_logged c.args.tree.now.cells c.split_for.new.tree.cells c.redo_slot-done.new.tree.cells c.args.name.now c.args.value c.args.at c.split_for.ensures.slot c.in_ok-done.ensures.logged;
  exact = λ due exact. c.in_ok-done.ensures.exact due (c.in-Ok.ensures.exact due exact);
  keeps = λ es base newest behind redone tree. c.redo_slot-done.ensures.tree es base newest (inr behind) redone (c.split_for.ensures.keeps es base newest behind tree);
}
