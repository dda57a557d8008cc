use Rattle.std.proofs.Common.{ℕ, ◌++◌, ◌∙◌, ap}
use Rattle.std.specs.Int.{w64, to_be_bytes}
use Rattle.log_entry.proofs.VectorAppends.{puts_behind, stops_unchanged, puts_all, puts_same}
use Rattle.log_entry.proofs.body_writer.put_checkpoint.Goals as goal

pub returns-in_err-put_u64 : goal.returns-in_err-put_u64
returns-in_err-put_u64 c =
    stops_unchanged (to_be_bytes w64 c.args.number) (to_be_bytes w64 c.args.start ++ to_be_bytes w64 c.args.redo) c.from_residual.ensures.0 c.in_err-put_u64.ensures.err c.in_err-put_u64.ensures.fits c.in_err-put_u64.ensures.capacity

pub returns-in_err-put_u64-2 : goal.returns-in_err-put_u64-2
returns-in_err-put_u64-2 c =
    puts_behind (to_be_bytes w64 c.args.number) c.in_ok-put_u64.ensures.ok c.in_ok-put_u64.ensures.capacity
    (stops_unchanged (to_be_bytes w64 c.args.start) (to_be_bytes w64 c.args.redo) c.from_residual-in_err-put_u64-2.ensures.0 c.in_err-put_u64-2.ensures.err c.in_err-put_u64-2.ensures.fits c.in_err-put_u64-2.ensures.capacity)

pub returns : goal.returns
returns c =
    puts_behind (to_be_bytes w64 c.args.number) c.in_ok-put_u64.ensures.ok c.in_ok-put_u64.ensures.capacity
    (puts_behind (to_be_bytes w64 c.args.start) (c.in_ok-put_u64-2.ensures.ok ∙ ap (λ (n : ℕ). c.put_u64.new.out.items ++ to_be_bytes w64 n) c.as_u64.ensures) c.in_ok-put_u64-2.ensures.capacity
    (puts_same (ap (to_be_bytes w64) c.as_u64-2.ensures) (puts_all (to_be_bytes w64 c.as_u64-2.result) c.put_u64-3.ensures.ok c.put_u64-3.ensures.err c.put_u64-3.ensures.fits c.put_u64-3.ensures.capacity)))
