use Rattle.std.proofs.Common.{ap}
use Rattle.tree_images.specs.Notes.{is_start}
use Rattle.in_tree.proofs.Checkpoints.{end_names, plain_grows}
use Rattle.in_tree.proofs.checkpointing.LogTreesNodes.log_end.Goals as goal

pub returns-in-Ok-log_plain-clause-grew : goal.returns-in-Ok-log_plain-clause-grew
returns-in-Ok-log_plain-clause-grew g c = (
  c.in-Ok.made.1,
  end_names c.args.self.now c.args.end.now c.args.bound c.in-Ok.made.0 c.requires.0 c.in-Ok.made.1 c.requires.1 c.in-Ok.ensures,
  plain_grows g.D.Disk.meaning c.args.self.now.log c.log_plain.new.self.log c.in-Ok.made.1 _ c.args.self.now.trees c.log_plain.new.self.trees
      c.in-Ok-log_plain.ensures.got (ap is_start c.in-Ok.ensures.entry_is) c.log_plain.ensures.trees,
)

pub returns-in-Err-clause-tried : goal.returns-in-Err-clause-tried
returns-in-Err-clause-tried g c = λ is. (
    let t = c.in-Err.ensures.tried is in
    (c.in-Ok.made.1, t.0, (c.in-Ok.made.0, end_names c.args.self.now c.args.end.now c.args.bound c.in-Ok.made.0 c.requires.0 c.in-Ok.made.1 c.requires.1 c.in-Ok.ensures), t.1, t.2))

pub returns-in-Err-clause-full : goal.returns-in-Err-clause-full
returns-in-Err-clause-full g c = λ is. (c.in-Ok.made.1, (c.in-Ok.made.0, end_names c.args.self.now c.args.end.now c.args.bound c.in-Ok.made.0 c.requires.0 c.in-Ok.made.1 c.requires.1 c.in-Ok.ensures), c.in-Err.ensures.full is)
