use Rattle.std.proofs.Common.{sym, ◌≡◌, Some, subst}
use Rattle.std.specs.Option.{IsSome}
use Rattle.lock_table.specs.Locks.{held_by}
use Rattle.lock_table.specs.Table.{locks_at}
use Rattle.lock_table.proofs.CallSteps.{some_held}
use Rattle.lock_mgr.proofs.NoDeadlockLaws.{free_give_back}
use Rattle.lock_mgr.proofs.manager.LockMgr.give_back.Goals as goal

pub invariant_of-self : goal.invariant_of-self
invariant_of-self c =
    let h = some_held (held_by c.args.txn (locks_at c.args.at.now c.self.inside.table).0) (subst (λ v. IsSome (held_by c.args.txn (locks_at c.args.at.now v).0)) (sym c.self.view_is) c.requires.holds) in
    let w = c.requires.was h.0 (subst (λ v. held_by c.args.txn (locks_at c.args.at.now v).0 ≡ Some h.0) c.self.view_is h.1) in
    free_give_back c.self.inside.table c.give_back.new.self c.args.txn c.args.at.now c.args.was h.0 c.self.invariant c.give_back.ensures.settled h.1 w c.give_back.ensures.locks c.give_back.ensures.pending

pub returns-clause-free : goal.returns-clause-free
returns-clause-free c =
    let h = some_held (held_by c.args.txn (locks_at c.args.at.now c.self.inside.table).0) (subst (λ v. IsSome (held_by c.args.txn (locks_at c.args.at.now v).0)) (sym c.self.view_is) c.requires.holds) in
    let w = c.requires.was h.0 (subst (λ v. held_by c.args.txn (locks_at c.args.at.now v).0 ≡ Some h.0) c.self.view_is h.1) in
    free_give_back c.self.inside.table c.give_back.new.self c.args.txn c.args.at.now c.args.was h.0 c.self.invariant c.give_back.ensures.settled h.1 w c.give_back.ensures.locks c.give_back.ensures.pending
