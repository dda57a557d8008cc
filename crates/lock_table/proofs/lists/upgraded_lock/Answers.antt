use Rattle.std.proofs.Common.{◌≡◌, Bool, true, false, not, refl, ap, sym, ◌∙◌}
use Rattle.std.proofs.lemmas.Bool.{cond-true}
use Rattle.lock_mode.specs.declared.lock_type.LockType.{LockType}
use Rattle.lock_mode.specs.Modes.{upgraded}
use Rattle.lock_table.specs.declared.lock.Lock.{Lock}
use Rattle.lock_table.specs.Locks.{is_of}
use Rattle.lock_table.proofs.lists.upgraded_lock.Goals as goal

true_from_not : (b : Bool) → false ≡ not b → b ≡ true
true_from_not true h = refl
true_from_not false h = cc

pub returns : goal.returns
returns c =
    let of : LockType → Lock = λ m. record { txn = c.args.owner.txn; mode = m } in
    ap of c.upgrade.ensures
    ∙ sym (cond-true (is_of c.args.lock.txn c.args.owner) (of (upgraded c.args.owner.mode c.args.lock.mode)) c.args.owner (true_from_not (is_of c.args.lock.txn c.args.owner) c.if-ne.ensures))
