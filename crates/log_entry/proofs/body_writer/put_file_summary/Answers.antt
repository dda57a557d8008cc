use Rattle.std.proofs.Common.{length}
use Rattle.std.specs.List.{flat_map}
use Rattle.std.specs.Int.{w32, to_be_bytes}
use Rattle.log_entry.specs.Items.{file_usage_bytes}
use Rattle.log_entry.proofs.VectorAppends.{puts_behind, stops_unchanged}
use Rattle.log_entry.proofs.body_writer.put_file_summary.Goals as goal

pub returns-in_err-put_u32 : goal.returns-in_err-put_u32
returns-in_err-put_u32 c =
    stops_unchanged (to_be_bytes w32 (length c.args.files.now)) (flat_map file_usage_bytes c.args.files.now) c.from_residual.ensures.0 c.in_err-put_u32.ensures.err c.in_err-put_u32.ensures.fits c.in_err-put_u32.ensures.capacity

pub returns : goal.returns
returns c =
    puts_behind (to_be_bytes w32 (length c.args.files.now)) c.in_ok-put_u32.ensures.ok c.in_ok-put_u32.ensures.capacity
    c.put_items.ensures
