use Rattle.std.specs.Int.{w32, w64, to_be_bytes}
use Rattle.log_entry.proofs.VectorAppends.{puts_behind, stops_unchanged, puts_all}
use Rattle.log_entry.proofs.body_writer.put_txn.Goals as goal

pub returns-in_err-put_u64 : goal.returns-in_err-put_u64
returns-in_err-put_u64 c =
    stops_unchanged (to_be_bytes w64 c.args.txn.0) (to_be_bytes w32 c.args.db) c.from_residual.ensures.0 c.in_err-put_u64.ensures.err c.in_err-put_u64.ensures.fits c.in_err-put_u64.ensures.capacity

pub returns : goal.returns
returns c =
    puts_behind (to_be_bytes w64 c.args.txn.0) c.in_ok-put_u64.ensures.ok c.in_ok-put_u64.ensures.capacity
    (puts_all (to_be_bytes w32 c.args.db) c.put_u32.ensures.ok c.put_u32.ensures.err c.put_u32.ensures.fits c.put_u32.ensures.capacity)
