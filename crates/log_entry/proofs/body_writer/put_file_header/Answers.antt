use Rattle.std.proofs.Common.{◌++◌}
use Rattle.std.specs.Int.{w32, to_be_bytes}
use Rattle.log_entry.specs.Body.{magic}
use Rattle.log_entry.proofs.VectorAppends.{puts_behind, stops_unchanged, puts_all}
use Rattle.log_entry.proofs.body_writer.put_file_header.Goals as goal

pub returns-in_err-put_u32 : goal.returns-in_err-put_u32
returns-in_err-put_u32 c =
    stops_unchanged (to_be_bytes w32 magic) (to_be_bytes w32 c.args.version ++ to_be_bytes w32 c.args.file) c.from_residual.ensures.0 c.in_err-put_u32.ensures.err c.in_err-put_u32.ensures.fits c.in_err-put_u32.ensures.capacity

pub returns-in_err-put_u32-2 : goal.returns-in_err-put_u32-2
returns-in_err-put_u32-2 c =
    puts_behind (to_be_bytes w32 magic) c.in_ok-put_u32.ensures.ok c.in_ok-put_u32.ensures.capacity
    (stops_unchanged (to_be_bytes w32 c.args.version) (to_be_bytes w32 c.args.file) c.from_residual-in_err-put_u32-2.ensures.0 c.in_err-put_u32-2.ensures.err c.in_err-put_u32-2.ensures.fits c.in_err-put_u32-2.ensures.capacity)

pub returns : goal.returns
returns c =
    puts_behind (to_be_bytes w32 magic) c.in_ok-put_u32.ensures.ok c.in_ok-put_u32.ensures.capacity
    (puts_behind (to_be_bytes w32 c.args.version) c.in_ok-put_u32-2.ensures.ok c.in_ok-put_u32-2.ensures.capacity
    (puts_all (to_be_bytes w32 c.args.file) c.put_u32-3.ensures.ok c.put_u32-3.ensures.err c.put_u32-3.ensures.fits c.put_u32-3.ensures.capacity))
