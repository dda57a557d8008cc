use Rattle.std.proofs.Common.{◌∙◌, ap}
use Rattle.store_model.specs.Reads.{just, seen}
use Rattle.store_model.specs.Reads.Way.{Lowest}
use Rattle.cursor_je.specs.Looks.{name_in}
use Rattle.cursor_je.specs.Rising.{rises_of}
use Rattle.cursor_je.proofs.Walks.{just_is}
use Rattle.cursor_je.proofs.list_view.ListViewView.record.Goals as goal

pub returns : goal.returns
returns c =
    let view = c.args.self.now in
    c.first_in.ensures ∙ ap (seen view.kind Lowest (just (name_in c.args.name))) c.as_slice.ensures ∙ just_is view.kind (name_in c.args.name) view.pairs (rises_of view.kind view.pairs view.up)
