use Rattle.std.proofs.Common.{List, drop, ◌+◌, subst, refl}
use Rattle.std.proofs.lemmas.List.{drop_all}
use Rattle.record_tree.specs.declared.tree_name.TreeName.{TreeName}
use Rattle.record_tree.specs.Occupied.{after_abort}
use Rattle.in_tree.specs.Forest.{cells_seen, GivesUpName}
use Rattle.db_tree.proofs.Ending.{next_left}
use Rattle.in_tree.proofs.Names.{NamesLeft, names_begin, names_step, abort_once}
use Rattle.in_tree.proofs.writing.abort_each.Goals as goal

pub loop-name-init : goal.loop-name-init
loop-name-init c = names_begin GivesUpName c.args.trees.now c.args.names.now after_abort

pub loop-name-preserved : goal.loop-name-preserved
loop-name-preserved c =
    let i = c.loop-name.name-index in
    let names = c.args.names.now in
    names_step GivesUpName c.args.trees.now c.loop-name.trees c.abort.new.trees names (drop (i + 1) names) c.name-item.result after_abort abort_once
    (subst (λ (l : List TreeName). NamesLeft GivesUpName c.args.trees.now c.loop-name.trees names l after_abort) (next_left names i c.name-item.result c.loop-name-test.true c.name-item.is) c.loop-name.invariant)
    c.abort.ensures.step c.abort.ensures.cells c.abort.ensures.trees c.abort.ensures.rising c.abort.ensures.waits

pub returns-clause-cells : goal.returns-clause-cells
returns-clause-cells c =
    let ended = subst (λ (l : List TreeName). NamesLeft GivesUpName c.args.trees.now c.loop-name.trees c.args.names.now l after_abort) (drop_all c.loop-name.name-index c.args.names.now c.loop-name-test.false) c.loop-name.invariant in
    ended.cells (cells_seen c.loop-name.trees) (λ d x. refl)

pub returns-clause-trees : goal.returns-clause-trees
returns-clause-trees c = c.loop-name.invariant.same

pub returns-clause-rising : goal.returns-clause-rising
returns-clause-rising c = c.loop-name.invariant.rising

pub returns-clause-waits : goal.returns-clause-waits
returns-clause-waits c = c.loop-name.invariant.waits

pub returns-clause-steps : goal.returns-clause-steps
returns-clause-steps c =
    let ended = subst (λ (l : List TreeName). NamesLeft GivesUpName c.args.trees.now c.loop-name.trees c.args.names.now l after_abort) (drop_all c.loop-name.name-index c.args.names.now c.loop-name-test.false) c.loop-name.invariant in
    ended.steps c.loop-name.trees (λ d. refl)
