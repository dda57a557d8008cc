use Rattle.std.proofs.Common.{◌≡◌, true, refl, subst}
use Rattle.je_order.specs.declared.txn_id.TxnId.{TxnId}
use Rattle.je_answers.specs.Views.{with_numbers}
use Rattle.environment.specs.Valid.{active_number}
use Rattle.environment.specs.Writing.{MayWrite}
use Rattle.environment.proofs.FinishLaws.{in_sessions}
use Rattle.environment.proofs.OwnEnds.{logged_then, none_pushed}
use Rattle.environment.proofs.environment.Environment.push_copied.Goals as goal

pub returns-in-Ok-clause-writes : goal.returns-in-Ok-clause-writes
returns-in-Ok-clause-writes g c st cs a needs valid may is active last_db counts planned names taken =
    let old = c.args.self.now in
    let mid = in_sessions c.push_own.new.self old in
    let txn = c.args.txn in
    let pushed = c.in-Ok.ensures.taken true a needs st (with_numbers cs) counts taken in
    logged_then g.D.Disk.meaning old mid c.log_pushed.new.self a txn needs st cs c.log_pushed.result is refl c.log_pushed.ensures.sessions pushed
    (c.log_pushed.ensures.writes st cs a needs valid (subst (λ (t : TxnId). MayWrite st t.0 cs) is may) (subst (λ (t : TxnId). active_number st.actives t.0 ≡ true) is active) last_db planned names pushed)

pub returns-in-Err-clause-writes : goal.returns-in-Err-clause-writes
returns-in-Err-clause-writes g c st cs a needs valid may is active last_db counts planned names taken =
    none_pushed g.D.Disk.meaning c.args.self.now c.push_own.new.self a needs st cs c.in-Err.error valid (c.in-Err.ensures.err true a needs st taken)
