use Rattle.std.proofs.Common.{subst}
use Rattle.jalibsuk.specs.Seen.{Seen}
use Rattle.jalibsuk.specs.Methods.{Gives}
use Rattle.jalibsuk.proofs.env.Env.give_call.Goals as goal

pub returns-clause-gives : goal.returns-clause-gives
returns-clause-gives g c = λ asked made.
    subst (λ (s : Seen g.row.D.Denot). Gives g.D.Disk.meaning s.environment c.give.new.environment c.args.session asked c.give.result) c.self.view_is (c.give.ensures.gives asked made)
