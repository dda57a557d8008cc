use Rattle.std.proofs.Common.{rules, subst, arith}
use Rattle.std.specs.List.{AllByRecursion}
use Rattle.log_entry.specs.Items.{IsRoot}
use Rattle.in_tree.proofs.logged_trees.LogTrees.end_entry.Goals as goal

pub entry_of-entry-requires : goal.entry_of-entry-requires
entry_of-entry-requires g c = record {
  each = subst (AllByRecursion IsRoot) c.as_slice.ensures.value c.see_roots.ensures;
  few = (let f = c.if-len-gt-MOST_ROOTS.false in let l = c.len.ensures in omega (arith, f, l));
  rise = c.in_ok-roots.ensures.rise;
}

pub returns : goal.returns
returns g c = record {
  roots = c.in_ok-roots.roots.items;
  entry_is = c.entry_of-entry.ensures.entry;
  is_entry = c.entry_of-entry.ensures.is_entry;
  upto = c.least_mark_in-redo.ensures.upto;
  all = c.least_mark_in-redo.ensures.all;
  some = c.least_mark_in-redo.ensures.some;
  roots_are = c.in_ok-roots.ensures;
  below = search rules;
}
