use Rattle.std.proofs.Common.{ap, sym, ◌∙◌, ◌≡◌, ◌+◌, ◌∷◌, subst, drop, map}
use Rattle.std.proofs.Common.{drop-cons, add-one, suc}
use Rattle.lock_table.specs.Table.{locks_at}
use Rattle.lock_table.proofs.RecordLists.{unless}
use Rattle.je_order.specs.Transactions.{is_same_txn}
use Rattle.lock_mgr.specs.Deadlock.{without_waits}
use Rattle.lock_mgr.proofs.NoDeadlockLaws.{some_if, IsGoing, going_step}
use Rattle.lock_mgr.proofs.GreatestTxn.{not_among}
use Rattle.lock_mgr.proofs.manager.cancel_each.Goals as goal

pub loop-victim-preserved : goal.loop-victim-preserved
loop-victim-preserved c =
    let i = c.loop-victim.victim-index in
    let d : drop i c.args.victims.now ≡ c.victim-item.result ∷ drop (suc i) c.args.victims.now = drop-cons c.args.victims.now i c.victim-item.result c.loop-victim-test.true ∙ ap (λ v. v ∷ drop (suc i) c.args.victims.now) (sym c.victim-item.is) in
    let e : drop i c.args.victims.now ≡ c.victim-item.result ∷ drop (i + 1) c.args.victims.now = rw add-one d in
    record {
      locks = λ r. ap (without_waits (map (λ v. v.0) (drop (i + 1) c.args.victims.now))) (c.cancel.ensures.locks r) ∙ (sym (ap (λ vs. without_waits (map (λ v. v.0) vs) (locks_at r c.loop-victim.table)) e) ∙ c.loop-victim.invariant.locks r);
      sound = c.cancel.ensures.settled;
      pending = λ t n. unless _ _ _ _ (c.cancel.ensures.pending t) (ap (λ v. is_same_txn v.0 t) c.victim-item.is ∙ not_among t c.args.victims.now i c.victim-item.result n c.loop-victim-test.true) ∙ c.loop-victim.invariant.pending t n;
      gone = λ t m w. going_step t c.victim-item.result.0 (map (λ v. v.0) (drop (i + 1) c.args.victims.now)) c.loop-victim.table c.cancel.new.self c.cancel.ensures.locks c.cancel.ensures.pending (subst (λ vs. IsGoing t (map (λ v. v.0) vs) c.loop-victim.table) e (c.loop-victim.invariant.gone t m w));
      kept = λ t r k. c.loop-victim.invariant.kept t r (some_if _ _ _ r (c.cancel.ensures.pending t) k).1;
    }
