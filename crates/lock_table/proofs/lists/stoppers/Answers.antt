use Rattle.std.proofs.Common.{◌∙◌, sym, ap, map, refl, List}
use Rattle.std.specs.List.{filter}
use Rattle.lock_table.specs.declared.lock.Lock.{Lock}
use Rattle.lock_table.specs.Locks.{is_blocking}
use Rattle.lock_table.proofs.ListWalks.{walked, one_passes, one_fails}
use Rattle.lock_table.proofs.lists.stoppers.Goals.{then-is_stopping+in_ok-push, else-is_stopping}
use Rattle.lock_table.proofs.lists.stoppers.Goals as goal

pub loop-owner-preserved : goal.loop-owner-preserved
loop-owner-preserved c =
    elim c.if-is_stopping.branch [
      | then-is_stopping+in_ok-push w ↦
          one_passes (is_blocking c.args.lock) (λ (o : Lock). o.txn) c.args.owners.now c.loop-owner.owner-index _ c.loop-owner.found.items c.if-is_stopping.found.items _
          c.loop-owner-test.true c.loop-owner.invariant (sym c.is_stopping.ensures ∙ w.if-is_stopping.true) (ap (λ v. v.items) w.found-is ∙ w.in_ok-push.ensures.items)
      | else-is_stopping w ↦
          one_fails (is_blocking c.args.lock) (λ (o : Lock). o.txn) c.args.owners.now c.loop-owner.owner-index _ c.loop-owner.found.items c.if-is_stopping.found.items _
          c.loop-owner-test.true c.loop-owner.invariant (sym c.is_stopping.ensures ∙ w.if-is_stopping.false) (ap (λ v. v.items) w.found-is)
    ]

pub returns : goal.returns
returns c =
    walked (λ (l : List Lock). map (λ (o : Lock). o.txn) (filter (is_blocking c.args.lock) l)) c.args.owners.now c.loop-owner.owner-index c.loop-owner.found.items _ refl c.loop-owner-test.false c.loop-owner.invariant
