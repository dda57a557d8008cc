-- A replay, entry by entry.
use Rattle.std.proofs.Common.{◌≡◌, ℕ, List, [], ◌∷◌, ◌++◌, refl, arith, max}
use Rattle.log_entry.specs.declared.entry.Entry.{Entry}
use Rattle.log_replay.specs.Replay.{Replay, replayed, replayed_entry, greatest}

-- a replay of entries behind others goes on from theirs
pub replayed-append : (before after : List Entry) (replay : Replay) → replayed (before ++ after) replay ≡ replayed after (replayed before replay)
replayed-append [] after replay = refl
replayed-append (entry ∷ before) after replay = replayed-append before after (replayed_entry entry replay)

pub greatest-append : (number : Entry → ℕ) (before after : List Entry) → greatest number (before ++ after) ≡ max (greatest number before) (greatest number after)
greatest-append number [] after = omega arith
greatest-append number (entry ∷ before) after = omega (arith, greatest-append number before after)
