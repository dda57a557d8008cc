use Rattle.std.proofs.Common.{◌≡◌, ◌<◌, ◌≤◌, ◌%◌, drop, false, ◌+◌, ◌^◌, slice_index, length}
use Rattle.std.specs.Fmt.{digit_glyph, digits, digits_onto}
use Rattle.text_out.proofs.hexadecimal.write_hexadecimal.Given as goal

-- the digits from `start` on are the last ones, the first of them that of what is left
abbrev pub invariant-loop-rest : goal.invariant-loop-rest
invariant-loop-rest l = record {
  within : l.start ≤ 7;
  len : length l.into ≡ 8;
  few : l.rest < 16 ^ (l.start + 1);
  first : slice_index l.into l.start ≡ digit_glyph false (l.rest % 16);
  last : digits_onto (57 + l.start) 16 false l.rest (drop (l.start + 1) l.into) ≡ digits 16 false l.number;
}

abbrev pub decreases-loop-rest : goal.decreases-loop-rest
decreases-loop-rest l = l.rest
