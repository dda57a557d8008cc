use Rattle.std.proofs.Common.{ap, ◌∙◌}
use Rattle.std.proofs.lemmas.Result.{on_err_weaker}
use Rattle.je_answers.specs.Standing.{LockState}
use Rattle.sessions.proofs.Takes.{ready_taken, asked_told, told_by, given_up, still_at}
use Rattle.sessions.proofs.taking.take_for.Goals as goal

pub returns-in_default-clause-ready : goal.returns-in_default-clause-ready
returns-in_default-clause-ready c =
    ready_taken c.args.sessions.now c.ask.new.locks c.args.session c.args.resumed c.asker_of-asker.result c.args.needs.items _ c.in_ok-owner.owner c.asker_of-asker.ensures c.requires.may c.as_slice.ensures.value c.in_default.is c.in_ok-owner.ensures.asked

pub refused-requires-clause-none : goal.refused-requires-clause-none
refused-requires-clause-none c =
    asked_told c.asker_of-asker.result _ c.in_ok-owner.owner c.args.sessions.now.locks c.ask.new.locks c.asker_of-asker.result.txn c.in_ok-owner.ensures.asked (told_by c.args.sessions.now c.args.session c.args.resumed c.asker_of-asker.result c.asker_of-asker.ensures c.requires.may)

pub wait_for-requires-clause-none : goal.wait_for-requires-clause-none
wait_for-requires-clause-none c =
    ap (λ (l : LockState). l.pending c.asker_of-asker.result.txn) (given_up c.asker_of-asker.result _ c.in_ok-owner.owner c.args.sessions.now.locks c.ask.new.locks c.give_up.new.self c.in_ok-owner.ensures.asked c.give_up.ensures)
    ∙ told_by c.args.sessions.now c.args.session c.args.resumed c.asker_of-asker.result c.asker_of-asker.ensures c.requires.may

pub returns-clause-err : goal.returns-clause-err
returns-clause-err c =
    on_err_weaker c.wait_for.result
    (λ back. λ st at. back st (still_at c.args.sessions.now c.give_up.new.self (given_up c.asker_of-asker.result _ c.in_ok-owner.owner c.args.sessions.now.locks c.ask.new.locks c.give_up.new.self c.in_ok-owner.ensures.asked c.give_up.ensures) st at))
    c.wait_for.ensures.err
