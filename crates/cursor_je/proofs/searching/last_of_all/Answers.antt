use Rattle.std.proofs.Common.{◌∷◌, [], ◌∙◌, ap, sym}
use Rattle.store_model.specs.Store.{Pair}
use Rattle.store_model.specs.Reads.{range}
use Rattle.cursor_je.specs.Looks.{edge_in, taken_in}
use Rattle.cursor_je.proofs.ListLaws.{last_here}
use Rattle.cursor_je.proofs.searching.last_of_all.Goals as goal

pub returns-then-is_within : goal.returns-then-is_within
returns-then-is_within c =
    ap (λ (p : Pair). p ∷ []) c.record_of.ensures
    ∙ last_here c.args.kind (range (edge_in c.args.from) (edge_in c.args.upto)) c.args.first.now c.args.rest.now
    (sym (ap taken_in c.in-None.is) ∙ c.requires) (sym c.is_within.ensures ∙ c.if-is_within.true)
