-- How long the cycles of victims are: no longer than the calls that wait.
use Rattle.std.proofs.Common.{ℕ, ◌≤◌, List, [], ◌∷◌, length, arith}
use Rattle.std.specs.List.{AllByRecursion}
use Rattle.je_order.specs.declared.txn_id.TxnId.{TxnId}
use Rattle.lock_mgr.specs.Deadlock.{AreVictims, others}
use Rattle.lock_mgr.proofs.CycleLaws.{victim_waits}
use Rattle.standing_laws.proofs.Victims.{Waits, AreWaiters, less, one_less, others_wait, short_cycle}
use Rattle.sessions.specs.Spares.{IsShort}

all_weak : (a b : ℕ) → a ≤ b → (vs : List (TxnId × List TxnId)) → AllByRecursion (IsShort a) vs → AllByRecursion (IsShort b) vs
all_weak a b w [] h = tt
all_weak a b w (v ∷ vs) h = ((let k = h.0 in omega (arith, k, w)), all_weak a b w vs h.1)

pub short_cycles : (t : TxnId) (R : Waits) (ws : List TxnId) (vs : List (TxnId × List TxnId)) → AreWaiters ws R → AreVictims t R vs → AllByRecursion (IsShort (length ws)) vs
short_cycles t R ws [] w h = tt
short_cycles t R ws (v ∷ vs) w h =
    let z = victim_waits R v.0 v.1 h.0.cycle h.1 in
    let k = one_less v.0 ws (w v.0 z.0 z.1) in
    (short_cycle R ws v.1 w h.0.cycle, all_weak (length (less v.0 ws)) (length ws) (omega (arith, k)) vs (short_cycles t (others v.0 R) (less v.0 ws) vs (others_wait v.0 ws R w) h.2))
