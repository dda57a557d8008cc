use Rattle.std.proofs.Common.{◌++◌}
use Rattle.std.specs.Int.{w32, w64, to_be_bytes}
use Rattle.log_entry.proofs.VectorAppends.{puts_behind, stops_unchanged, puts_all}
use Rattle.log_entry.proofs.file_usage.FileUsageItem.put.Goals as goal

pub returns-in_err-put_u32 : goal.returns-in_err-put_u32
returns-in_err-put_u32 c =
    stops_unchanged (to_be_bytes w32 c.args.self.now.file.0) (to_be_bytes w64 c.args.self.now.total ++ to_be_bytes w64 c.args.self.now.live) c.from_residual.ensures.0 c.in_err-put_u32.ensures.err c.in_err-put_u32.ensures.fits c.in_err-put_u32.ensures.capacity

pub returns-in_err-put_u64 : goal.returns-in_err-put_u64
returns-in_err-put_u64 c =
    puts_behind (to_be_bytes w32 c.args.self.now.file.0) c.in_ok-put_u32.ensures.ok c.in_ok-put_u32.ensures.capacity
    (stops_unchanged (to_be_bytes w64 c.args.self.now.total) (to_be_bytes w64 c.args.self.now.live) c.from_residual-in_err-put_u64.ensures.0 c.in_err-put_u64.ensures.err c.in_err-put_u64.ensures.fits c.in_err-put_u64.ensures.capacity)

pub returns : goal.returns
returns c =
    puts_behind (to_be_bytes w32 c.args.self.now.file.0) c.in_ok-put_u32.ensures.ok c.in_ok-put_u32.ensures.capacity
    (puts_behind (to_be_bytes w64 c.args.self.now.total) c.in_ok-put_u64.ensures.ok c.in_ok-put_u64.ensures.capacity
    (puts_all (to_be_bytes w64 c.args.self.now.live) c.put_u64-2.ensures.ok c.put_u64-2.ensures.err c.put_u64-2.ensures.fits c.put_u64-2.ensures.capacity))
