use Rattle.std.proofs.Common.{◌≡◌, ◌+◌, ◌*◌, ◌^◌, ◌∙◌, ℕ, ap₂, sym, subst, arith}
use Rattle.std.proofs.lemmas.Result.{on_ok_weaker}
use Rattle.log_entry.specs.declared.entry.Entry.{Entry}
use Rattle.log_trees.specs.Placed.{Placed}
use Rattle.log_meaning.specs.Redo.{redo_entry}
use Rattle.recovery_je.specs.Putting.{IsIn}
use Rattle.recovery_je.specs.Redoing.{IsRedoAt}
use Rattle.recovery_je.proofs.RedoingLaws.{one_at}
use Rattle.recovery_je.proofs.redoing.take_at.Goals as goal

pub returns-clause-redo : goal.returns-clause-redo
returns-clause-redo g c e r has at =
    let lsn = c.args.number.0 * 2 ^ 32 + c.args.at in
    let lsn_is : c.new-lsn.result ≡ lsn = c.new-lsn.ensures in
    let low = c.as_u64.ensures in
    let high = c.as_u64-2.ensures in
    let behind = c.if-as_u64.false in
    on_ok_weaker c.take_entry.result
    (λ done. subst (IsRedoAt (g.T.Loads.stored c.take_entry.new.trees) c.take_entry.new.waiting)
    (ap₂ (λ (n : ℕ) (k : Entry). redo_entry n k r) lsn_is (c.in_ok-entry.ensures e has) ∙ one_at c.args.redo (lsn, e) r (λ lt. omega (arith, lt, lsn_is, low, high, behind))) done)
    (c.take_entry.ensures.redo r at)

pub returns-clause-fits : goal.returns-clause-fits
returns-clause-fits g c e es base has small is fit =
    let lsn_is : c.new-lsn.result ≡ c.args.number.0 * 2 ^ 32 + c.args.at = c.new-lsn.ensures in
    c.take_entry.ensures.fits es base small (subst (IsIn es base) (ap₂ (λ (n : ℕ) (k : Entry). let p : Placed = (n, k) in p) (sym lsn_is) (sym (c.in_ok-entry.ensures e has))) is) fit
