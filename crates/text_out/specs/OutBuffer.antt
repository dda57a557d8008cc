-- A buffer of bytes in front of a sink.
use Rattle.std.specs.Prelude.{◌≡◌, ◌≤◌, ℕ, List, ◌++◌, length, take, drop, Bool, true, false, Option}
use Rattle.je_order.specs.Counts.{HasRisen}
use Rattle.je_io.specs.Sink.{Gains}

-- what a buffer holds, and whether a write of it has failed
pub record Held : Type 0 where
  pub bytes : List ℕ
  pub failed : Bool

abbrev pub held_of : List ℕ → Bool → Held
held_of bytes failed = record { bytes = bytes; failed = failed }

-- where writing through a buffer stands: what the sink has been given, its count of faults, and the buffer
pub record Point : Type 0 where
  pub written : Option (List ℕ)
  pub faults : ℕ
  pub held : Held

abbrev pub point : Option (List ℕ) → ℕ → Held → Point
point written faults held = record { written = written; faults = faults; held = held }

-- of a text that was sent since a start, the first `count` bytes have reached the sink, and the buffer holds the others unless a write has
-- failed; it failed only where the count of faults rose
pub record Sends (start : Option (List ℕ)) (started : ℕ) (now : Point) (text : List ℕ) : Type 0 where
  pub count : ℕ
  pub within : count ≤ length text
  pub gained : Gains start now.written (take count text)
  pub behind : now.held.failed ≡ false → now.held.bytes ≡ drop count text
  pub never_falls : started ≤ now.faults
  pub cause : now.held.failed ≡ true → HasRisen started now.faults

-- a text was sent between two points, whatever was sent before it
pub record Adds (before after : Point) (text : List ℕ) : Type 0 where
  pub goes_on : (start : Option (List ℕ)) (started : ℕ) (sent : List ℕ) → Sends start started before sent → Sends start started after (sent ++ text)
