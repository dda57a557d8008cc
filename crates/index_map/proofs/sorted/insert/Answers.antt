use Rattle.std.proofs.Common.{◌∙◌, ap, ℕ}
use Rattle.std.specs.List.{insert}
use Rattle.index_map.proofs.SortedLaws.{put_there, place_by}
use Rattle.index_map.proofs.sorted.insert.Goals as goal

pub returns-clause-ok : goal.returns-clause-ok
returns-clause-ok c =
    c.in_ok-insert.ensures.items ∙ ap (λ (n : ℕ). insert c.args.indexes.now.items n c.args.index) (c.place_of-place.ensures.place ∙ place_by c.args.index.number c.deref.ensures.value)
    ∙ put_there c.args.index c.args.indexes.now.items
