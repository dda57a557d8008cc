use Rattle.std.proofs.Common.{sym, arith}
use Rattle.std.proofs.lemmas.List.{length-take-le, take_all}
use Rattle.secondary.proofs.extracting.as_key.Goals as goal

pub slice_bounds-result-end : goal.slice_bounds-result-end
slice_bounds-result-end c = let more = c.if-field-gt-KEY_LIMIT.true in sym (length-take-le 4096 c.args.field.now (omega (arith, more)))

pub returns : goal.returns
returns c = let less = c.if-field-gt-KEY_LIMIT.false in sym (take_all 4096 c.args.field.now (omega (arith, less)))
