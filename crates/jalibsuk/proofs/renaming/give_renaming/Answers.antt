use Rattle.std.proofs.Common.{◌∙◌, sym}
use Rattle.jalibsuk.proofs.renaming.give_renaming.Goals as goal

pub returns-in-Ok-clause-calls : goal.returns-in-Ok-clause-calls
returns-in-Ok-clause-calls g c = λ asked made. (c.give_now.result, c.give_now.ensures.gives asked made, sym c.in-Ok.is ∙ c.done_of.ensures)

pub returns-in-Err-clause-calls : goal.returns-in-Err-clause-calls
returns-in-Err-clause-calls g c = λ asked made. (c.give_now.result, c.give_now.ensures.gives asked made, sym c.in-Err.is ∙ c.done_of.ensures)
