use Rattle.std.proofs.Common.{◌∙◌, sym, ap}
use Rattle.store_model.specs.declared.put_mode.PutMode.{PutMode}
use Rattle.store_model.specs.Reads.{taken_by}
use Rattle.store_model.specs.Reads.Way.{Lowest}
use Rattle.store_model.specs.Records.{look_of_put}
use Rattle.cursor_je.specs.Looks.{seen_by}
use Rattle.cursor_je.proofs.Walks.{nothing_put}
use Rattle.cursor_je.proofs.taking.take_put.Goals as goal

pub returns-in-Overwrite : goal.returns-in-Overwrite
returns-in-Overwrite g c =
    let kind = g.V.View.kind_of c.args.view.now in
    let pairs = g.V.View.pairs_of c.args.view.now in
    nothing_put kind pairs
    ∙ sym (ap (λ (mode : PutMode). taken_by Lowest (seen_by kind (look_of_put mode kind c.args.key.now c.args.value.now) pairs)) c.in-Overwrite.is)
