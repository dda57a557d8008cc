use Rattle.std.proofs.Common.{◌<◌, get_or, option_copied, subst, sym, arith}
use Rattle.record_map.specs.Runs.{IsEnd}
use Rattle.record_map.proofs.RunLaws.{few_between, bound_read}
use Rattle.record_map.proofs.runs.Runs.is_below.Goals as goal

pub returns : goal.returns
returns c same = λ cells runs.
    let lows = c.args.self.now.lows.entries in
    let bounds = c.args.self.now.bounds.items in
    let place = c.in-Some.place.now in
    let less : get_or bounds place 0 < c.args.count = omega (arith, bound_read bounds place c.index.result.now (c.requires c.args.low.now place (sym c.in-Some.ensures.value)) c.index.ensures, c.if-index-count.false) in
    few_between lows bounds c.args.low.now place c.args.count (option_copied c.args.high) (sym c.in-Some.ensures.value) less
    (subst (λ o. IsEnd lows c.args.low.now o) (c.is_same_end.ensures same) c.low_behind.ensures) cells runs
