use Rattle.std.proofs.Common.{◌∙◌, ◌-◌, ℕ, ap, length}
use Rattle.db_tree.specs.Content.{kept_by}
use Rattle.db_tree.specs.Notes.{is_noted_at}
use Rattle.db_tree.proofs.NotingLaws.{root_raised}
use Rattle.db_tree.proofs.Ending.{ok_then}
use Rattle.db_tree.proofs.RootLaws.{root_put}
use Rattle.db_tree.proofs.WaitLaws.{raised_waits, root_number, root_below}
use Rattle.db_tree.proofs.SinceLaws.{raised_since}
use Rattle.db_tree.proofs.tree.DbTree.raise_root.Goals as goal

pub returns-clause-raised : goal.returns-clause-raised
returns-clause-raised c =
    root_raised c.raise.result c.args.self.now.levels c.raise.new.self c.new_root.result c.is_noted-noted.result c.height.ensures.parts.some c.new_root.ensures.noted
    (c.is_noted-noted.ensures
    ∙ ap (λ (k : ℕ). is_noted_at c.args.self.now.levels k c.in_ok-least.least) (ap (λ (k : ℕ). k - 1) c.height.ensures.value)
    ∙ ap (is_noted_at c.args.self.now.levels (length c.args.self.now.levels - 1)) c.in_ok-least.ensures) c.raise.ensures.ok c.raise.ensures.front

pub returns-clause-tree : goal.returns-clause-tree
returns-clause-tree c =
    ok_then c.raise.result
    (λ has es base newest behind tree. root_put es base newest c.args.self.now.levels c.raise.new.self (kept_by c.args.self.now.cells) c.new_root.result c.args.mark has c.new_root.ensures.last c.new_root.ensures.from behind tree)
    c.raise.ensures.ok

pub returns-clause-waits : goal.returns-clause-waits
returns-clause-waits c = raised_waits c.raise.result c.args.self.now.levels c.raise.new.self c.new_root.result c.new_root.ensures.forced c.raise.ensures.ok c.raise.ensures.low c.raise.ensures.front

pub returns-clause-number : goal.returns-clause-number
returns-clause-number c = root_number c.raise.result c.args.self.now.levels c.raise.new.self c.new_root.result c.args.number c.new_root.ensures.number c.raise.ensures.ok

pub returns-clause-below : goal.returns-clause-below
returns-clause-below c = root_below c.raise.result c.args.self.now.levels c.raise.new.self c.new_root.result c.raise.ensures.ok

pub returns-clause-since : goal.returns-clause-since
returns-clause-since c = raised_since c.raise.result c.args.self.now.levels c.raise.new.self c.new_root.result c.args.mark _ _ c.new_root.ensures.from (c.new_root.ensures.noted ∙ c.is_noted-noted.ensures) c.raise.ensures.ok
