use Rattle.std.proofs.Common.{◌<◌, ◌≤◌, get_or, arith}
use Rattle.std.proofs.lemmas.Bool.Decides.{nat_tests}
use Rattle.script_text.specs.declared.bytes.TheConstants.{VALUES}
use Rattle.script_text.proofs.HexValues.{digit_is, no_digit_is}
use Rattle.script_text.proofs.bytes.digit_value.Goals as goal

pub returns-then-value-lt16-clause-value : goal.returns-then-value-lt16-clause-value
returns-then-value-lt16-clause-value c =
    let small : get_or VALUES c.args.c 0 < 16 = grind (arith, nat_tests) in
    digit_is c.args.c (omega arith) small

pub returns-else-value-lt16-clause-value : goal.returns-else-value-lt16-clause-value
returns-else-value-lt16-clause-value c =
    let big : 16 ≤ get_or VALUES c.args.c 0 = grind (arith, nat_tests) in
    no_digit_is c.args.c (omega arith) big
