use Rattle.std.proofs.Common.{◌∙◌, ap}
use Rattle.log_entry.specs.Encoding.{size_of}
use Rattle.db_tree.proofs.FinishLaws.{finished_size}
use Rattle.db_tree.proofs.tree.DbTree.finish_image.Goals as goal

pub returns-clause-size : goal.returns-clause-size
returns-clause-size c = ap size_of c.finish_entry.ensures.entry ∙ finished_size c.args.self.now.levels c.args.image.level c.as_slice.result.now c.args.image.entry
