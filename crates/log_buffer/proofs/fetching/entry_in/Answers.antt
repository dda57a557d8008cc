use Rattle.std.proofs.Common.{ap, Some, drop}
use Rattle.log_entry.specs.declared.entry.Entry.{Entry}
use Rattle.log_buffer.proofs.EntryReads.{whole_is, torn_not}
use Rattle.log_buffer.proofs.fetching.entry_in.Goals as goal

pub returns-in-Whole : goal.returns-in-Whole
returns-in-Whole c = λ entry encodes. ap (λ (e : Entry). Some e) (whole_is (drop c.args.at c.args.bytes.now) c.in_ok-entry.field-0 c.in-Whole.entry entry c.in-Whole.prev c.in-Whole.len c.in_ok-entry.ensures.exact c.in-Whole.is encodes)

pub returns-in-Torn : goal.returns-in-Torn
returns-in-Torn c = λ entry encodes. absurd (torn_not (drop c.args.at c.args.bytes.now) c.in_ok-entry.field-0 c.in-Torn.field-0 entry c.in_ok-entry.ensures.exact c.in-Torn.is encodes)
