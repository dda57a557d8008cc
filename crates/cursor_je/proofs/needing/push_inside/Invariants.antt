use Rattle.std.proofs.Common.{◌≡◌, ◌++◌, map, filter, length}
use Rattle.je_order.specs.declared.bound.Bound.TheVariants.{At as On}
use Rattle.je_order.specs.declared.name.Name.{Name}
use Rattle.store_model.specs.declared.need.Need.{Need}
use Rattle.store_model.specs.Reads.{range, is_within}
use Rattle.store_model.specs.Needs.{need}
use Rattle.cursor_je.specs.Looks.{edge_in}
use Rattle.cursor_je.proofs.needing.push_inside.Given as goal

-- the needs so far and those of the names from the edge on are the needs before and those of all names
abbrev pub invariant-names : goal.invariant-names
invariant-names g l =
    let one : Name → Need = λ n. need l.db (On n) l.asked in
    let names = g.N.Names.names_of l.names in
    l.needs.items ++ map one (filter (is_within (range (edge_in l.from) (edge_in l.upto))) names)
    ≡ l.initial.needs.items ++ map one (filter (is_within (range (edge_in l.initial.from) (edge_in l.upto))) names)

-- those from the edge on
abbrev pub decreases-names : goal.decreases-names
decreases-names g l = length (filter (is_within (range (edge_in l.from) (edge_in l.upto))) (g.N.Names.names_of l.names))
