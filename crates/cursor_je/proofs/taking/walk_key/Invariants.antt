use Rattle.std.proofs.Common.{◌≡◌, ◌++◌, filter, map, length}
use Rattle.store_model.specs.Store.{name_of}
use Rattle.store_model.specs.Reads.{range, is_within, of_key, behind_key}
use Rattle.cursor_je.specs.Looks.{edge_in, pair_in}
use Rattle.cursor_je.proofs.taking.walk_key.Given as goal

-- the records so far and those from the edge on are all
abbrev pub invariant-records : goal.invariant-records
invariant-records g l =
    let kind = g.V.View.kind_of l.view in
    let pairs = g.V.View.pairs_of l.view in
    map pair_in l.taken.items ++ filter (λ p. is_within (range (edge_in l.from) (behind_key l.key)) (name_of kind p)) pairs
    ≡ filter (λ p. is_within (of_key l.key) (name_of kind p)) pairs

-- those from the edge on
abbrev pub decreases-records : goal.decreases-records
decreases-records g l =
    length (filter (λ p. is_within (range (edge_in l.from) (behind_key l.key)) (name_of (g.V.View.kind_of l.view) p)) (g.V.View.pairs_of l.view))
