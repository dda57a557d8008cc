use Rattle.std.proofs.Common.{◌++◌, ◌∙◌, List, Vec, ap, length, map, refl, subst, sym}
use Rattle.std.specs.Global.{Global}
use Rattle.log_entry.specs.Encoding.{size_of}
use Rattle.log_entry.specs.declared.entry.Entry.{Entry}
use Rattle.in_tree.specs.Filled.{entries_with, AreAllLoggable}
use Rattle.in_tree.specs.Limits.{commit_sizes, GrewFitting, HasRoomFor}
use Rattle.in_tree.proofs.FillLogged.{first_room, first_tried, rest_tried}
use Rattle.in_tree.proofs.Forests.{forest_rises}
use Rattle.in_tree.proofs.logged_trees.LogTrees.log_new.Goals as goal

pub returns-in-Err-clause-tried : goal.returns-in-Err-clause-tried
returns-in-Err-clause-tried g c = first_tried g.D.Disk.meaning c.args.txn c.args.change.now c.args.rows.now c.args.self.now.log c.write_one.new.log c.in-Err.ensures.tried

pub log_rows-requires-clause-room : goal.log_rows-requires-clause-room
log_rows-requires-clause-room g c =
    let owed = c.requires.room.0 in
    let rest = map size_of (entries_with c.args.txn c.args.rows.now c.args.filled.images.items) in (
      commit_sizes owed,
      subst (λ (images : List (Vec Entry Global)). HasRoomFor c.write_one.new.log (map size_of (entries_with c.args.txn c.args.rows.now images) ++ commit_sizes owed)) (sym c.as_slice.ensures.value)
          (c.in-Ok.ensures.left (rest ++ commit_sizes owed) (first_room c.args.self.now.log c.args.change.now c.args.room (rest ++ commit_sizes owed) c.requires.room.1)),
    )

pub returns-in-Err-log_rows-clause-tried : goal.returns-in-Err-log_rows-clause-tried
returns-in-Err-log_rows-clause-tried g c =
    rest_tried g.D.Disk.meaning c.args.txn c.args.change.now c.args.rows.now c.args.room.images.items c.as_slice.result.now c.args.self.now.log c.write_one.new.log c.log_rows.new.log c.args.self.now.trees.forest
    c.write_one.new.trees (ap (λ (l : List (Vec Entry Global)). length l) c.as_slice.ensures.value ∙ c.requires.paired) (subst AreAllLoggable (sym c.as_slice.ensures.value) c.requires.all_loggable) c.in-Ok.ensures.grew.0 c.in-Err-log_rows.ensures.tried

pub invariant_of-self-2 : goal.invariant_of-self-2
invariant_of-self-2 g c =
    let trees = c.args.self.now.trees in (
      (trees.numbers, (trees.least, (trees.most, tt))),
      (λ d. forest_rises c.write_one.new.trees c.replace.new.trees c.args.db _ c.replace.ensures c.requires.rising d (c.in-Ok.ensures.rising d (c.args.self.now.ordered d)), tt),
    )

pub returns-clause-logged : goal.returns-clause-logged
returns-clause-logged g c = record {
  log = c.write_one.new.log;
  forest = c.write_one.new.trees;
  first = c.in-Ok.ensures.grew.0;
  changed = c.in-Ok.ensures.cells;
  others = c.in-Ok.ensures.others;
  trees = c.in-Ok.ensures.trees;
  waits = c.in-Ok.ensures.waits;
  rest = subst (λ (images : List (Vec Entry Global)). GrewFitting g.D.Disk.meaning c.write_one.new.log c.log_rows.new.log (entries_with c.args.txn c.args.rows.now images)) c.as_slice.ensures.value c.in-Ok-log_rows.ensures.grew;
  has = c.replace.ensures;
  last = refl;
}

pub returns-clause-left : goal.returns-clause-left
returns-clause-left g c = λ owed room.
    let rest = map size_of (entries_with c.args.txn c.args.rows.now c.args.filled.images.items) in
    c.in-Ok-log_rows.ensures.left (commit_sizes owed)
    (subst (λ (images : List (Vec Entry Global)). HasRoomFor c.write_one.new.log (map size_of (entries_with c.args.txn c.args.rows.now images) ++ commit_sizes owed)) (sym c.as_slice.ensures.value)
    (c.in-Ok.ensures.left (rest ++ commit_sizes owed) (first_room c.args.self.now.log c.args.change.now c.args.room (rest ++ commit_sizes owed) room)))
