use Rattle.std.proofs.Common.{rules}
use Rattle.log_entry.proofs.record_slot.RecordSlotItem.comes_before.Goals as goal

pub returns-in-Less : goal.returns-in-Less
returns-in-Less c = search rules
