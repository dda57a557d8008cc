use Rattle.std.proofs.Common.{ap, sym, ◌∙◌}
use Rattle.lock_table.specs.Locks.{has_lock}
use Rattle.lock_table.proofs.holders.owns_at.Goals as goal

pub returns-clause-owns : goal.returns-clause-owns
returns-clause-owns c = λ h. record { record_ = c.args.at.now; owns = ap (has_lock c.args.txn) (sym c.owners_at.ensures) ∙ (sym c.is_in.ensures ∙ h); there = c.if-at-db.false }

pub returns-clause-none : goal.returns-clause-none
returns-clause-none c = λ h _. ap (has_lock c.args.txn) (sym c.owners_at.ensures) ∙ (sym c.is_in.ensures ∙ h)
