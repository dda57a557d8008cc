use Rattle.std.proofs.Common.{◌≡◌, ◌≤◌, ◌<◌, ℕ, true, is_some}
use Rattle.je_answers.specs.Standing.{Standing, active_of}
use Rattle.jalibsuk.specs.Usable.{StandsAt}
use Rattle.jalibsuk.proofs.beginning.free_session.Given as goal

abbrev pub invariant-loop-session : goal.invariant-loop-session
invariant-loop-session g l = (s : ℕ) → 1 ≤ s → s < l.session → (most : ℕ) (st : Standing) → StandsAt g.D.Disk.meaning most l.environment st → is_some (active_of s st.actives) ≡ true
