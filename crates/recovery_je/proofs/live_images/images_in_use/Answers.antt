use Rattle.std.proofs.Common.{◌+◌, ◌∷◌, [], drop, ap, ◌∙◌}
use Rattle.std.proofs.Math.ListN.{drop_of_length-le}
use Rattle.file_use.specs.Live.{images_in_use}
use Rattle.recovery_je.proofs.ImageLaws.{adding_begins, adding_on, roots_both, in_use_all}
use Rattle.recovery_je.proofs.PutLaws.{next_left}
use Rattle.recovery_je.proofs.live_images.images_in_use.Goals as goal

pub loop-root-init : goal.loop-root-init
loop-root-init g c = adding_begins (images_in_use (g.T.Loads.has_tree c.args.trees.now) c.args.entries.now c.args.roots.now) c.new-images.result.keys

pub loop-root-preserved : goal.loop-root-preserved
loop-root-preserved g c =
    let used = images_in_use (g.T.Loads.has_tree c.args.trees.now) c.args.entries.now in
    let roots = c.args.roots.now in
    let i = c.loop-root.root-index in
    let root = c.root-item.result in
    adding_on (used roots) c.new-images.result.keys (used (drop i roots)) (used (root ∷ [])) (used (drop (i + 1) roots)) c.loop-root.images.keys c.add_made.new.images.keys
    (ap used (next_left roots i root c.loop-root-test.true c.root-item.is) ∙ roots_both (g.T.Loads.has_tree c.args.trees.now) c.args.entries.now (root ∷ []) (drop (i + 1) roots))
    c.in_ok-add_made.ensures c.loop-root.invariant

pub returns : goal.returns
returns g c =
    in_use_all (g.T.Loads.has_tree c.args.trees.now) c.args.entries.now c.args.roots.now (drop c.loop-root.root-index c.args.roots.now) c.loop-root.images.keys c.new-images.result.keys
    (drop_of_length-le c.args.roots.now c.loop-root-test.false) c.new-images.ensures.empty c.loop-root.invariant
