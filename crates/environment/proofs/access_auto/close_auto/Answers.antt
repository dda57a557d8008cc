use Rattle.std.proofs.Common.{refl, sym}
use Rattle.je_answers.specs.Locking.{all_got}
use Rattle.je_answers.specs.Events.{auto_active, begun}
use Rattle.je_answers.specs.After.{with_locks}
use Rattle.environment.proofs.access_auto.close_auto.Goals as goal

pub answered-requires : goal.answered-requires
answered-requires c =
    let st = c.requires.taken.0 in
    (auto_active st c.args.session, c.requires.taken.1, begun st c.args.session, sym c.requires.taken.2, refl, c.requires.taken.3)

pub returns : goal.returns
returns c = λ st needs is taken.
    let a = auto_active st c.args.session in
    c.end.ensures.stands (with_locks a (all_got a.txn needs st.locks.at) (begun st c.args.session)) a refl (sym is) (c.answered.ensures.stands a needs (begun st c.args.session) (sym is) refl taken)
