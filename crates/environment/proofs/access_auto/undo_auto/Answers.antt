use Rattle.std.proofs.Common.{sym, true}
use Rattle.je_answers.specs.Events.{auto_active, begun}
use Rattle.environment.proofs.access_auto.undo_auto.Goals as goal

pub give_up-requires : goal.give_up-requires
give_up-requires c =
    let session = c.requires.taken.0 in
    let st = c.requires.taken.1 in
    (true, auto_active st session, c.requires.taken.2, begun st session, sym c.requires.taken.3, c.requires.taken.4)

pub returns : goal.returns
returns c = λ session st needs is taken.
    c.undo_begin.ensures.stands st (auto_active st session) (c.give_up.ensures.stands true (auto_active st session) needs (begun st session) (sym is) taken)
