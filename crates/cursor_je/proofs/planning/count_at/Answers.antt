use Rattle.std.proofs.Common.{◌∙◌, sym, ap, length}
use Rattle.std.specs.Option.{option_copied}
use Rattle.store_model.specs.Records.{look_at_key}
use Rattle.cursor_je.specs.Looks.{seen_by}
use Rattle.cursor_je.proofs.Walks.{none_seen}
use Rattle.cursor_je.proofs.planning.count_at.Goals as goal

pub returns-in-None : goal.returns-in-None
returns-in-None g c =
    let kind = g.V.View.kind_of c.args.view.now in
    let pairs = g.V.View.pairs_of c.args.view.now in
    none_seen kind pairs ∙ sym (ap (λ at. length (seen_by kind (look_at_key kind (option_copied at)) pairs)) c.in-None.is)
