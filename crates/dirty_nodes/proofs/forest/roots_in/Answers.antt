use Rattle.std.proofs.Common.{◌++◌, ◌∙◌, ap, sym}
use Rattle.std.proofs.lemmas.List.{append-nil}
use Rattle.dirty_nodes.proofs.RootsOf.{Entries, roots_are, roots_by}
use Rattle.dirty_nodes.proofs.forest.roots_in.Goals as goal

pub returns : goal.returns
returns c =
    roots_are c.args.forest.now c.loop-db.roots.items c.iter-db-items.ensures.ordered
    (sym (append-nil c.loop-db.roots.items) ∙ ap (λ (l : Entries). c.loop-db.roots.items ++ roots_by l) (sym c.in-None.ensures.steps.0) ∙ c.loop-db.invariant)
