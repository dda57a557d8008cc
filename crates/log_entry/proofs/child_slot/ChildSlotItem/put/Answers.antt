use Rattle.std.proofs.Common.{ap}
use Rattle.std.specs.Int.{w64, to_be_bytes}
use Rattle.log_entry.proofs.VectorAppends.{puts_then, puts_all, puts_same}
use Rattle.log_entry.proofs.child_slot.ChildSlotItem.put.Goals as goal

pub returns : goal.returns
returns c =
    puts_then c.in_ok-put_name.ensures
    (puts_same (ap (to_be_bytes w64) c.as_u64.ensures) (puts_all (to_be_bytes w64 c.as_u64.result) c.put_u64.ensures.ok c.put_u64.ensures.err c.put_u64.ensures.fits c.put_u64.ensures.capacity))
