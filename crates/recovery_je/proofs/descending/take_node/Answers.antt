use Rattle.std.proofs.Common.{◌≤◌, ◌-◌, ℕ, Bool, ◌∙◌, sym, map, option_copied}
use Rattle.log_meaning.specs.ReadNodes.{Loaded, IsNodeLoaded}
use Rattle.log_trees.proofs.Right.{here-is}
use Rattle.log_trees.specs.Walk.{read_here}
use Rattle.record_tree.specs.LoadedNodes.{node_read, HasPutNode}
use Rattle.record_tree.specs.LoadedSlots.{shows_deletion_inside, HasGone}
use Rattle.recovery_je.specs.Putting.{as_loaded}
use Rattle.recovery_je.specs.Walking.{IsWalking}
use Rattle.recovery_je.proofs.NodeWalks.{here_same, not_met}
use Rattle.recovery_je.proofs.PutLaws.{put_so, node_put}
use Rattle.recovery_je.proofs.descending.take_node.Goals as goal

pub returns-in_err-node-clause-walk : goal.returns-in_err-node-clause-walk
returns-in_err-node-clause-walk g c walk at =
    let files = map (λ f. f.0) c.args.files.now in
    let before = c.args.walking.now in
    let here = read_here files c.args.entries.now c.args.d c.args.level c.args.at in
    not_met (here before.seen.keys) (here walk.seen) walk (IsWalking (g.T.Loads.stored before.trees) before.seen.keys before.node before.db) c.from_residual.result c.in_err-node.field-0.0 c.from_residual.ensures.1 c.in_err-node.ensures
    (sym (here_same files c.args.entries.now c.args.d c.args.level c.args.at before.seen.keys walk.seen at.seen_is))

pub returns-clause-walk : goal.returns-clause-walk
returns-clause-walk g c walk at =
    (sym (here_same (map (λ f. f.0) c.args.files.now) c.args.entries.now c.args.d c.args.level c.args.at c.args.walking.now.seen.keys walk.seen at.seen_is) ∙ c.in_ok-node.ensures, c.in_ok-meet.ensures.walk walk at)

pub returns-clause-nodes : goal.returns-clause-nodes
returns-clause-nodes g c =
    let node = c.in_ok-node.node in
    let is = here-is (map (λ f. f.0) c.args.files.now) c.args.entries.now c.args.d c.args.level c.args.at c.args.walking.now.seen.keys node c.in_ok-node.ensures in
    put_so (as_loaded g.T.Loads.nodes g.T.Loads.read) (λ (keeps : Bool) (most : ℕ) (x y : Loaded). (node.number ≤ most) × HasPutNode x.nodes y.nodes node.db (node.level - 1) c.args.low.now (node_read node.number c.args.at keeps) × HasGone x.slots y.slots node.db (shows_deletion_inside c.args.low.now (option_copied c.args.high) node.slots) c.args.at)
    (λ (keeps : Bool) (most : ℕ). IsNodeLoaded c.args.entries.now keeps most c.args.d (c.args.level - 1) c.args.low.now (option_copied c.args.high) c.args.at node) c.args.walking.now c.meet.new.walking
    (node_put c.args.entries.now c.args.d c.args.level c.args.low.now (option_copied c.args.high) c.args.at node is.is is.db is.level_is) c.in_ok-meet.ensures.nodes
