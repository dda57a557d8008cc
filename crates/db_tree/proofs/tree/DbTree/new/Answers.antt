use Rattle.std.proofs.Common.{refl}
use Rattle.db_tree.proofs.RootLaws.{first_fits}
use Rattle.db_tree.proofs.ShapeLaws.{shape_is}
use Rattle.db_tree.proofs.WaitLaws.{first_waits}
use Rattle.db_tree.proofs.tree.DbTree.new.Goals as goal

pub returns-clause-shape : goal.returns-clause-shape
returns-clause-shape c =
    shape_is _ _ _ _ _ _ c.new.ensures c.in_ok-new.ensures.low (first_waits c.in_ok-new.field-0 _ refl c.in_ok-new.ensures.height c.in_ok-new.ensures.root c.in_ok-new.ensures.low)

pub returns-clause-tree : goal.returns-clause-tree
returns-clause-tree c = λ es base newest. first_fits es base newest c.in_ok-new.field-0 _ _ c.in_ok-new.ensures.height c.in_ok-new.ensures.root refl c.new.ensures
