use Rattle.std.proofs.Common.{◌+◌, ◌∙◌, ℕ, min, ap, subst}
use Rattle.in_tree.specs.Limits.{one_made}
use Rattle.in_tree.specs.Placing.{IsFittedIn}
use Rattle.in_tree.proofs.preparing.place_next.Goals as goal

pub returns-in-Ok-push-clause-ok : goal.returns-in-Ok-push-clause-ok
returns-in-Ok-push-clause-ok c = record {
  room = c.in-Ok.room;
  rooms = c.in-Ok-push.ensures.items;
  placed = c.in-Ok.ensures.placed;
  fitted = subst (λ (n : ℕ). IsFittedIn c.args.fanout n c.args.change.now.db c.args.change.now.name c.in-Ok.room c.args.trees.now c.place.new.trees) c.saturating_add-first.ensures c.in-Ok.ensures.fitted;
  last = c.last_behind-last.ensures ∙ ap (λ (n : ℕ). min (c.args.placed.now.last + (n + one_made c.args.change.now.makes)) 0xffffffffffffffff) c.made.ensures;
}
