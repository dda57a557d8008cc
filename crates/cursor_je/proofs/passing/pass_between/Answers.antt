use Rattle.std.proofs.Common.{ap, ap₂}
use Rattle.store_model.specs.Reads.{range}
use Rattle.cursor_je.specs.Looks.{edge_in, name_in}
use Rattle.cursor_je.proofs.passing.pass_between.Goals as goal

pub returns-then-is_behind : goal.returns-then-is_behind
returns-then-is_behind c =
    let one = ap₂ range (ap edge_in c.in-At.is) (c.is_behind.ensures c.if-is_behind.true) in
    (name_in c.in-At.name, one, one)
