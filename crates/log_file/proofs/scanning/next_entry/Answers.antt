use Rattle.std.proofs.Common.{◌∙◌, sym, drop}
use Rattle.log_file.proofs.ScanSteps.{torn_ends, whole_ends, whole_goes_on, whole_size}
use Rattle.log_file.proofs.scanning.next_entry.Goals as goal

pub returns-in_default : goal.returns-in_default
returns-in_default c = torn_ends c.args.bytes.now c.args.at c.args.last c.in_default.field-0 (sym c.in_ok-entry.ensures.exact ∙ c.in_default.is)

pub returns-in-Some : goal.returns-in-Some
returns-in-Some c =
    let size = whole_size (drop c.args.at c.args.bytes.now) c.in_ok-entry.field-0 c.in-Whole.entry c.in-Whole.prev c.in-Whole.len c.in_ok-entry.ensures.found c.in-Whole.is in
    whole_goes_on c.args.bytes.now c.args.at c.args.last c.in-Whole.entry c.in-Whole.prev c.in-Whole.len c.in-Some.end c.requires (sym c.in_ok-entry.ensures.exact ∙ c.in-Whole.is) size c.in-Some.ensures

pub returns-in-None : goal.returns-in-None
returns-in-None c =
    let size = whole_size (drop c.args.at c.args.bytes.now) c.in_ok-entry.field-0 c.in-Whole.entry c.in-Whole.prev c.in-Whole.len c.in_ok-entry.ensures.found c.in-Whole.is in
    whole_ends c.args.bytes.now c.args.at c.args.last c.in-Whole.entry c.in-Whole.prev c.in-Whole.len (sym c.in_ok-entry.ensures.exact ∙ c.in-Whole.is) size c.in-None.ensures
