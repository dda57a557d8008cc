use Rattle.std.proofs.Common.{◌∙◌, ap, find, sym}
use Rattle.je_order.specs.Edges.{Edge}
use Rattle.store_model.specs.Reads.{is_within, range}
use Rattle.cursor_je.specs.Looks.{edge_in}
use Rattle.cursor_je.specs.Reaches.{kept_below}
use Rattle.cursor_je.proofs.NameWalks.{first_is, none_between}
use Rattle.cursor_je.proofs.needing.first_within.Goals as goal

pub returns : goal.returns
returns g c =
    let names = c.args.names.now in
    c.name_below.ensures ∙ ap (kept_below (edge_in c.args.upto)) c.in_ok-found.ensures
    ∙ first_is (edge_in c.args.from) (edge_in c.args.upto) (g.N.Names.names_of names) (g.N.Names.names_rise names)

pub returns-then-is_same_edge : goal.returns-then-is_same_edge
returns-then-is_same_edge g c =
    let names = g.N.Names.names_of c.args.names.now in
    sym (ap (λ (edge : Edge). find (is_within (range (edge_in c.args.from) edge)) names) (sym (c.is_same_edge.ensures c.if-is_same_edge.true)) ∙ none_between (edge_in c.args.from) names)
