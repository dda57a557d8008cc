use Rattle.std.proofs.Common.{◌≡◌, drop}
use Rattle.std.specs.List.{filter}
use Rattle.je_answers.specs.After.{is_victim}
use Rattle.txn_locks.specs.Taking.{state_of}
use Rattle.sessions.specs.Waiting.{all_back}
use Rattle.sessions.proofs.ending.give_back_each.Given as goal

abbrev pub invariant-loop-active : goal.invariant-loop-active
invariant-loop-active l =
    all_back (filter (λ a. is_victim a.session l.victims) (drop l.active-index l.actives)) (state_of l.locks.locks) ≡ all_back (filter (λ a. is_victim a.session l.victims) l.actives) (state_of l.initial.locks.locks)
