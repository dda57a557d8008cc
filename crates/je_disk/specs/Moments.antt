-- The moments of a disk. Time is counted, and the disk has a state at each moment.
use Rattle.std.specs.Prelude.{◌≡◌, ◌≤◌, ◌<◌, ℕ}
use Rattle.je_disk.specs.States.{State}

-- the states of a disk at the moments so far
pub record History : Type 0 where
  pub moment : ℕ
  pub state_at : ℕ → State

-- the state at the last moment
abbrev pub now : History → State
now h = h.state_at h.moment

-- time went on from the old history to the new one: the moments that were have their states still, and
-- each new moment has a state of this kind
pub record Passes (old new : History) (P : State → Type 0) : Type 0 where
  pub later : old.moment ≤ new.moment
  pub keeps : (k : ℕ) → k ≤ old.moment → new.state_at k ≡ old.state_at k
  pub each : (k : ℕ) → old.moment < k → k ≤ new.moment → P (new.state_at k)
