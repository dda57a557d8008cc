use Rattle.std.proofs.Common.{◌≡◌, ◌∷◌, [], true, subst, append_assoc}
use Rattle.waits_for.specs.Cycles.{is_edge, IsFirstCycle, edges_without}
use Rattle.lock_mgr.specs.Deadlock.{is_greatest, others}
use Rattle.lock_mgr.specs.Reach.{BreaksAll}
use Rattle.lock_mgr.proofs.CycleLaws.{victim_waits, same_breaks}
use Rattle.lock_mgr.proofs.EdgeSearch.{fewer, edge_others}
use Rattle.lock_mgr.proofs.GreatestTxn.{append_none}
use Rattle.lock_mgr.proofs.victims.victims_of.Goals as goal

pub loop-victims-smaller : goal.loop-victims-smaller
loop-victims-smaller c =
    let f : IsFirstCycle (is_edge c.loop-victims.edges) c.args.txn c.in-Some.cycle.items = rw c.in-Some.is at c.in_ok-cycle.ensures.found in
    let g : is_greatest c.greatest-victim.result c.in-Some.cycle.items ≡ true = rw c.as_slice.ensures.value at c.greatest-victim.ensures in
    let v = victim_waits (is_edge c.loop-victims.edges) c.greatest-victim.result c.in-Some.cycle.items f.cycle g in
    rw c.remove.ensures (fewer c.greatest-victim.result v.0 c.loop-victims.edges v.1)

pub loop-victims-preserved : goal.loop-victims-preserved
loop-victims-preserved c = λ more b.
    let f : IsFirstCycle (is_edge c.loop-victims.edges) c.args.txn c.in-Some.cycle.items = rw c.in-Some.is at c.in_ok-cycle.ensures.found in
    let g : is_greatest c.greatest-victim.result c.in-Some.cycle.items ≡ true = rw c.as_slice.ensures.value at c.greatest-victim.ensures in
    let d : BreaksAll (is_edge (edges_without c.greatest-victim.result c.loop-victims.edges)) c.args.txn more = rw c.remove.ensures at b in
    let k : BreaksAll (is_edge c.loop-victims.edges) c.args.txn ((c.greatest-victim.result, c.from_vec.result) ∷ more) =
    (rw c.from_vec.ensures f, rw c.from_vec.ensures g, same_breaks (others c.greatest-victim.result (is_edge c.loop-victims.edges)) (is_edge (edges_without c.greatest-victim.result c.loop-victims.edges)) c.args.txn (edge_others c.greatest-victim.result c.loop-victims.edges) more d) in
    rw (c.in_ok-push.ensures.ok, append_assoc) (c.loop-victims.invariant ((c.greatest-victim.result, c.from_vec.result) ∷ more) k)

pub returns : goal.returns
returns c =
    let n : BreaksAll (is_edge c.loop-victims.edges) c.args.txn [] = rw c.in_default.is at c.in_ok-cycle.ensures.none in
    subst (λ vs. BreaksAll (is_edge c.args.edges) c.args.txn vs) (append_none c.loop-victims.victims) (c.loop-victims.invariant [] n)
