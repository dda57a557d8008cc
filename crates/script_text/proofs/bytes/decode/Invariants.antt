use Rattle.std.proofs.Common.{◌≡◌, ◌*◌, length, take, drop}
use Rattle.hex.specs.Hex.{decode_pairs}
use Rattle.hex.proofs.Pairs.{prepend}
use Rattle.script_text.proofs.bytes.decode.Given as goal

-- the bytes so far and those of the digits that are left are all
abbrev pub invariant-loop-i : goal.invariant-loop-i
invariant-loop-i l =
    (length l.digits ≡ 2 * length l.into) × (decode_pairs 0 l.digits ≡ prepend (take l.i l.into) (decode_pairs (2 * l.i) (drop (2 * l.i) l.digits)))
