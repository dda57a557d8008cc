use Rattle.std.proofs.Common.{◌≡◌, Some, drop}
use Rattle.script_text.specs.Indexes.{with_digits}
use Rattle.script_text.proofs.index_calls.with_digits.Given as goal

abbrev pub invariant-loop-digit : goal.invariant-loop-digit
invariant-loop-digit l = with_digits (Some l.number) (drop l.digit-index l.word) ≡ with_digits (Some 0) l.word
