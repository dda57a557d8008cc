use Rattle.std.proofs.Common.{◌-◌, ◌∙◌, List, map, ap, subst}
use Rattle.log_entry.specs.declared.child_slot.ChildSlot.{ChildSlot}
use Rattle.db_tree.specs.NodeImages.{IsLoggable}
use Rattle.db_tree.proofs.FinishLaws.{finished_zero, loggable_in, names_kept}
use Rattle.db_tree.proofs.tree.DbTree.finish_entry.Goals as goal

pub returns-then-level-eq0-clause-entry : goal.returns-then-level-eq0-clause-entry
returns-then-level-eq0-clause-entry c = finished_zero c.args.self.now.levels c.args.level c.args.children.now c.args.entry c.if-level-eq0.true

pub returns-in-In-clause-loggable : goal.returns-in-In-clause-loggable
returns-in-In-clause-loggable c = λ is.
    loggable_in c.in-In.db c.in-In.node c.in-In.of_level c.in-In.slots c.finish_list.result
    (ap (λ (l : List ChildSlot). map (λ (s : ChildSlot). s.name) l) c.finish_list.ensures.slots ∙ names_kept c.args.self.now.levels (c.args.level - 1) c.args.children.now c.in-In.slots)
    c.finish_list.ensures.each (subst IsLoggable c.in-In.is is)
