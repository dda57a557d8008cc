use Rattle.std.proofs.Common.{◌∙◌, sym, ap}
use Rattle.je_order.proofs.Results.{if_ok}
use Rattle.cursor_je.specs.Looks.{name_in, look_in, seen_by}
use Rattle.cursor_je.proofs.Walks.{nowhere, just_is}
use Rattle.cursor_je.proofs.taking.take.Goals as goal

pub returns-in-Nowhere : goal.returns-in-Nowhere
returns-in-Nowhere g c =
    let view = c.args.view.now in
    nowhere (g.V.View.kind_of view) (g.V.View.pairs_of view)
    ∙ sym (ap (λ look. seen_by (g.V.View.kind_of view) (look_in look) (g.V.View.pairs_of view)) c.in-Nowhere.is)

pub returns-in-One : goal.returns-in-One
returns-in-One g c =
    let view = c.args.view.now in
    if_ok c.record.result (λ found is. is ∙ sym (just_is (g.V.View.kind_of view) (name_in c.in-One.name) (g.V.View.pairs_of view) (g.V.View.rises view))
    ∙ sym (ap (λ look. seen_by (g.V.View.kind_of view) (look_in look) (g.V.View.pairs_of view)) c.in-One.is)) c.record.ensures
