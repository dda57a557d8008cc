use Rattle.std.proofs.Common.{◌∷◌}
use Rattle.in_tree.proofs.Written.{images_begin, images_turn, images_step, images_fail, on_err}
use Rattle.in_tree.proofs.writing.log_images.Goals as goal

pub loop-image-init : goal.loop-image-init
loop-image-init g c =
    images_begin g.D.Disk.meaning c.args.log.now c.args.tree.now c.args.images.items c.into_iter-image-iterator.result.rest.items c.into_iter-image-iterator.ensures.into_iter_gives.0 c.requires.loggable c.requires.room

pub log_image-requires-clause-room : goal.log_image-requires-clause-room
log_image-requires-clause-room g c =
    let turn = images_turn g.D.Disk.meaning c.args.log.now c.loop-image.log c.args.tree.now c.loop-image.tree c.args.images.items c.loop-image.image-iterator.rest.items (c.in-Some.image ∷ c.next.new.self.rest.items)
    c.loop-image.invariant c.in-Some.ensures.steps.0 in
    (_, turn.some_room.1)

pub log_image-requires-clause-loggable : goal.log_image-requires-clause-loggable
log_image-requires-clause-loggable g c =
    let turn = images_turn g.D.Disk.meaning c.args.log.now c.loop-image.log c.args.tree.now c.loop-image.tree c.args.images.items c.loop-image.image-iterator.rest.items (c.in-Some.image ∷ c.next.new.self.rest.items)
    c.loop-image.invariant c.in-Some.ensures.steps.0 in
    turn.loggable.0

pub loop-image-preserved : goal.loop-image-preserved
loop-image-preserved g c =
    let turn = images_turn g.D.Disk.meaning c.args.log.now c.loop-image.log c.args.tree.now c.loop-image.tree c.args.images.items c.loop-image.image-iterator.rest.items (c.in-Some.image ∷ c.next.new.self.rest.items)
    c.loop-image.invariant c.in-Some.ensures.steps.0 in
    let done = c.in_ok-log_image.ensures in
    images_step g.D.Disk.meaning c.args.log.now c.loop-image.log c.log_image.new.log c.args.tree.now c.loop-image.tree c.log_image.new.tree c.args.images.items c.next.new.self.rest.items c.in-Some.image
    turn done.grew done.left c.log_image.ensures.cells c.log_image.ensures.waits

pub returns-in_err-log_image-clause-tried : goal.returns-in_err-log_image-clause-tried
returns-in_err-log_image-clause-tried g c =
    on_err c.from_residual.result
    (images_fail g.D.Disk.meaning c.args.log.now c.loop-image.log c.log_image.new.log c.args.tree.now c.loop-image.tree c.args.images.items c.loop-image.image-iterator.rest.items c.loop-image.invariant c.in_err-log_image.ensures.tried)
