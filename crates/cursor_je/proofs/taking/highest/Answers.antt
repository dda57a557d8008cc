use Rattle.cursor_je.specs.Looks.{edge_in, taken_in}
use Rattle.cursor_je.proofs.Walks.{highest_kept}
use Rattle.cursor_je.proofs.taking.highest.Goals as goal

pub returns : goal.returns
returns g c =
    let view = c.args.view.now in
    highest_kept (g.V.View.kind_of view) c.kind-kind.result (edge_in c.args.from) (edge_in c.args.upto) (g.V.View.pairs_of view)
    (taken_in c.in_ok-found.found) (taken_in c.kept_above.result) (g.V.View.rises view) c.kind-kind.ensures c.in_ok-found.ensures c.kept_above.ensures
