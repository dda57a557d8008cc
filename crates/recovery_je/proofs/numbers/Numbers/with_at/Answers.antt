use Rattle.std.proofs.Common.{◌≤◌, ◌+◌, ◌*◌, ◌^◌, arith}
use Rattle.recovery_je.proofs.NoteLaws.{with_behind}
use Rattle.recovery_je.proofs.numbers.Numbers.with_at.Goals as goal

pub returns : goal.returns
returns c e has =
    let lsn = c.new.ensures in
    let low = c.as_u64.ensures in
    let high = c.as_u64-2.ensures in
    let behind = c.if-as_u64.false in
    let le : c.args.redo ≤ c.args.number.0 * 2 ^ 32 + c.args.at = omega (arith, lsn, low, high, behind) in
    with_behind c.args.redo (c.args.number.0 * 2 ^ 32 + c.args.at) c.in_ok-entry.entry e c.with-numbers.result c.args.self c.with-numbers.ensures (c.in_ok-entry.ensures e has) le
