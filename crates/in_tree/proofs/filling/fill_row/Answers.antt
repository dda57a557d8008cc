use Rattle.std.proofs.Common.{◌+◌, ◌∙◌, ℕ, min, ap, subst}
use Rattle.tree_images.specs.TreeSteps.{HasSlot}
use Rattle.in_tree.proofs.filling.fill_row.Goals as goal

pub returns-in-Ok-take_change-clause-ok : goal.returns-in-Ok-take_change-clause-ok
returns-in-Ok-take_change-clause-ok c = record {
  room = c.in-Ok.room;
  own = c.in-Ok-take_images.images;
  placed = c.place_in.new.tree;
  mid = c.take_images.new.tree;
  between = c.take_images.new.place;
  slot = subst (λ (n : ℕ). HasSlot c.args.fanout n c.args.row.now.db c.args.row.now.name c.in-Ok.room c.args.filled.now.tree c.place_in.new.tree) c.saturating_add-first.ensures c.in-Ok.ensures.slot;
  taken = c.in-Ok-take_images.ensures;
  change = c.in-Ok-take_change.ensures;
  images = c.in-Ok-push.ensures.items;
  last = c.saturating_add-filled.ensures ∙ ap (λ (n : ℕ). min (c.args.filled.now.last + n) 0xffffffffffffffff) c.made.ensures;
}
