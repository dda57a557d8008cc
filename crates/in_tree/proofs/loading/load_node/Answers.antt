use Rattle.std.proofs.Common.{◌-◌, option_copied}
use Rattle.std.proofs.lemmas.Result.{on_ok_weaker}
use Rattle.record_tree.specs.LoadedNodes.{node_read}
use Rattle.record_tree.specs.LoadedSlots.{shows_deletion_inside}
use Rattle.in_tree.specs.Stored.{read_of, slots_held}
use Rattle.in_tree.proofs.LoadedLaws.{node_put}
use Rattle.in_tree.proofs.StoredLaws.{read_then, slots_then}
use Rattle.in_tree.proofs.loading.load_node.Goals as goal

pub returns-clause-quiet : goal.returns-clause-quiet
returns-clause-quiet c = λ quiet. c.put_image.ensures.quiet (c.ensure_tree.ensures.quiet quiet)

pub returns-clause-parts : goal.returns-clause-parts
returns-clause-parts c = λ parts. c.put_image.ensures.parts (c.ensure_tree.ensures.parts parts)

pub returns-clause-nodes : goal.returns-clause-nodes
returns-clause-nodes c =
    let trees = c.args.trees.now in
    let as_read = node_read c.args.image.now.number c.args.at c.args.keeps in
    on_ok_weaker c.put_image.result
    (node_put c.args.image.now.db c.args.image.now.number (c.args.image.now.level - 1) c.args.low.now as_read trees c.ensure_tree.new.trees c.put_image.new.trees c.in_ok-ensure_tree.ensures.made)
    c.put_image.ensures.loaded

pub returns-clause-slots : goal.returns-clause-slots
returns-clause-slots c =
    on_ok_weaker c.put_image.result
    (slots_then (slots_held c.args.trees.now) (slots_held c.ensure_tree.new.trees) (slots_held c.put_image.new.trees) c.args.image.now.db (shows_deletion_inside c.args.low.now (option_copied c.args.high) c.args.image.now.slots) c.ensure_tree.ensures.slots)
    c.put_image.ensures.slots

pub returns-clause-read : goal.returns-clause-read
returns-clause-read c =
    on_ok_weaker c.put_image.result
    (read_then (read_of c.args.trees.now) (read_of c.ensure_tree.new.trees) (read_of c.put_image.new.trees) c.args.image.now.db (shows_deletion_inside c.args.low.now (option_copied c.args.high) c.args.image.now.slots) c.args.at c.ensure_tree.ensures.read)
    c.put_image.ensures.read
