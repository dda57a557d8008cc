use Rattle.std.proofs.Common.{◌++◌}
use Rattle.std.specs.Int.{w32, to_be_bytes}
use Rattle.log_entry.specs.Fields.{name_bytes}
use Rattle.log_entry.proofs.VectorAppends.{puts_behind, puts_then, puts_stops, stops_unchanged, puts_slice}
use Rattle.log_entry.proofs.body_writer.put_migrated.Goals as goal

pub returns-in_err-put_u32 : goal.returns-in_err-put_u32
returns-in_err-put_u32 c =
    stops_unchanged (to_be_bytes w32 c.args.db) (name_bytes c.args.name.now ++ c.args.value.now) c.from_residual.ensures.0 c.in_err-put_u32.ensures.err c.in_err-put_u32.ensures.fits c.in_err-put_u32.ensures.capacity

pub returns-in_err-put_name : goal.returns-in_err-put_name
returns-in_err-put_name c =
    puts_behind (to_be_bytes w32 c.args.db) c.in_ok-put_u32.ensures.ok c.in_ok-put_u32.ensures.capacity
    (puts_stops c.args.value.now c.from_residual-in_err-put_name.ensures.0 c.in_err-put_name.ensures)

pub returns : goal.returns
returns c =
    puts_behind (to_be_bytes w32 c.args.db) c.in_ok-put_u32.ensures.ok c.in_ok-put_u32.ensures.capacity
    (puts_then c.in_ok-put_name.ensures (puts_slice c.args.value.now c.put_name.new.out.len c.extend_from_slice.ensures.items c.put_name.new.out.ok.0 c.extend_from_slice.ensures.succeeds c.extend_from_slice.ensures.capacity))
