use Rattle.std.proofs.Common.{◌∙◌, ◌++◌, ◌∷◌, [], option_map, map, filter, ap, sym, List}
use Rattle.je_order.specs.declared.bound.Bound.TheVariants.{At as On}
use Rattle.je_order.specs.declared.name.Name.{Name}
use Rattle.store_model.specs.Reads.{range, is_within}
use Rattle.store_model.specs.Needs.{need}
use Rattle.store_model.specs.declared.need.Need.{Need}
use Rattle.cursor_je.specs.Looks.{edge_in, name_in}
use Rattle.cursor_je.proofs.NameWalks.{fewer, walk_on, walk_done}
use Rattle.cursor_je.proofs.needing.push_inside.Goals as goal

pub names-smaller : goal.names-smaller
names-smaller g c =
    let names = c.args.names.now in
    fewer (edge_in c.names.from) (edge_in c.args.upto) (name_in c.in-Some.name) (g.N.Names.names_of names) (g.N.Names.names_rise names)
    (ap (option_map name_in) (sym c.in-Some.is) ∙ c.in_ok-name.ensures)

pub names-preserved : goal.names-preserved
names-preserved g c =
    let names = c.args.names.now in
    let one : Name → Need = λ n. need c.args.db (On n) c.args.asked in
    let before : List Need = c.args.needs.now.items in
    walk_on (edge_in c.names.from) (edge_in c.args.upto) (name_in c.in-Some.name) (g.N.Names.names_of names) one c.names.needs.items c.push.new.self.items
    (before ++ map one (filter (is_within (range (edge_in c.args.from) (edge_in c.args.upto))) (g.N.Names.names_of names)))
    (g.N.Names.names_rise names) (ap (option_map name_in) (sym c.in-Some.is) ∙ c.in_ok-name.ensures)
    (c.in_ok-push.ensures.items ∙ ap (λ (x : Name). c.names.needs.items ++ need c.args.db (On x) c.args.asked ∷ []) c.in_ok-to_name.ensures)
    c.names.invariant

pub returns : goal.returns
returns g c =
    let names = c.args.names.now in
    let one : Name → Need = λ n. need c.args.db (On n) c.args.asked in
    let before : List Need = c.args.needs.now.items in
    walk_done (is_within (range (edge_in c.names.from) (edge_in c.args.upto))) (g.N.Names.names_of names) one c.names.needs.items
    (before ++ map one (filter (is_within (range (edge_in c.args.from) (edge_in c.args.upto))) (g.N.Names.names_of names)))
    (ap (option_map name_in) (sym c.in_default.is) ∙ c.in_ok-name.ensures) c.names.invariant
