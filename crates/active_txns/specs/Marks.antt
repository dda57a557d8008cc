-- The mark of a victim.
use Rattle.std.specs.Prelude.{ℕ, ◌≡◌, ◌==◌, List, [], ◌∷◌, Some, false, if◌then◌else◌}
use Rattle.std.specs.List.{AllByRecursion}
use Rattle.je_order.specs.declared.txn_id.TxnId.{TxnId}
use Rattle.je_answers.specs.declared.active.Active.{Active}

-- a transaction that was the victim of a cycle
abbrev pub with_cycle : List TxnId → Active → Active
with_cycle cycle a = record a { deadlock = Some cycle }

-- the same of a session's transaction; a session has one at most
abbrev pub marked_for : ℕ → List TxnId → List Active → List Active
marked_for session cycle [] = []
marked_for session cycle (a ∷ as_) = if a.session == session then with_cycle cycle a ∷ as_ else a ∷ marked_for session cycle as_

-- no two of these transactions are of one session
abbrev pub HaveOwnSessions : List Active → Type 0
HaveOwnSessions [] = Unit {0}
HaveOwnSessions (a ∷ as_) = AllByRecursion (λ b. (b.session == a.session) ≡ false) as_ × HaveOwnSessions as_
