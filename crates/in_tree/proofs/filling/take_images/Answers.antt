use Rattle.std.proofs.Common.{List, arith, sym, subst}
use Rattle.log_entry.specs.declared.entry.Entry.{Entry}
use Rattle.db_tree.specs.declared.node_image.NodeImage.{NodeImage}
use Rattle.in_tree.proofs.FillRows.{ImagesLeft, images_start, images_step, images_end}
use Rattle.in_tree.proofs.filling.take_images.Goals as goal

pub loop-image-init : goal.loop-image-init
loop-image-init c = images_start c.args.images.items c.into_iter-image-iterator.result.rest.items c.args.tree.now c.args.place.now c.new-entries.result.items c.into_iter-image-iterator.ensures.into_iter_gives.0 c.new-entries.ensures.items c.requires

pub loop-image-preserved : goal.loop-image-preserved
loop-image-preserved c =
    subst (λ (entries : List Entry). ImagesLeft c.args.images.items c.next.new.self.rest.items c.args.tree.now c.take_image-entry.new.tree c.args.place.now c.take_image-entry.new.place entries) (sym c.in_ok-push.ensures.items)
    (images_step c.args.images.items c.next.new.self.rest.items c.in-Some.image c.args.tree.now c.loop-image.tree c.take_image-entry.new.tree c.args.place.now c.loop-image.place c.take_image-entry.new.place c.loop-image.entries.items c.take_image-entry.result
    (subst (λ (left : List NodeImage). ImagesLeft c.args.images.items left c.args.tree.now c.loop-image.tree c.args.place.now c.loop-image.place c.loop-image.entries.items) c.in-Some.ensures.steps.0 c.loop-image.invariant)
    c.take_image-entry.ensures)

pub returns : goal.returns
returns c =
    images_end c.args.images.items c.loop-image.image-iterator.rest.items c.args.tree.now c.loop-image.tree c.args.place.now c.loop-image.place c.loop-image.entries.items (let none = c.in-None.ensures.steps.0 in let same = c.loop-image.image-iterator.rest.ok.0 in omega (arith, none, same)) c.loop-image.invariant
