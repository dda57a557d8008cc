use Rattle.std.proofs.Common.{◌≡◌, true, arith, rules}
use Rattle.log_file.proofs.ScanSteps.{end_is}
use Rattle.log_file.proofs.scanning.end_of.Goals as goal

pub returns : goal.returns
returns c =
    let same : c.args.prev ≡ c.args.last = omega arith in
    let may : c.may_follow.result ≡ true = search rules in
    end_is c.args.entry.now c.args.prev c.args.at c.args.last c.size.result c.may_follow.result c.checked_add.result same c.may_follow.ensures may c.size.ensures.value c.checked_add.ensures
