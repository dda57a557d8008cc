use Rattle.in_tree.proofs.FillAhead.{image_taken}
use Rattle.in_tree.proofs.filling.take_image.Goals as goal

pub returns : goal.returns
returns c =
    image_taken c.args.image c.finish_image-image.result c.args.tree.now c.note_image.new.self c.args.place.now c.take-at.new.self c.take-at.result c.ref_size.result c.finish_image-image.ensures.image
    (c.finish_image-image.ensures.loggable c.requires) c.finish_image-image.ensures.size c.ref_size.ensures.value (λ file_max end sizes b. (c.take-at.ensures.at file_max end sizes b, c.take-at.ensures.next file_max end sizes b))
    (record { cells = c.note_image.ensures.cells; parts = c.height-height.ensures.parts; noted = c.note_image.ensures.noted; up = c.note_image.ensures.up; exact = c.note_image.ensures.exact; keeps = c.note_image.ensures.tree })
    c.note_image.ensures.lows c.note_image.ensures.waits
