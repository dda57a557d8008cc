use Rattle.std.specs.Int.{w32, to_be_bytes}
use Rattle.log_entry.specs.Body.{body_of}
use Rattle.log_entry.specs.Parts.{entry_by}
use Rattle.log_entry.specs.Encoding.{summed}
use Rattle.log_entry.proofs.VectorAppends.{puts_behind, puts_then, puts_stops, stops_unchanged, puts_same, summed_is}
use Rattle.log_entry.proofs.encoder.put_unsigned.Goals as goal

pub returns-in_err-put_u32 : goal.returns-in_err-put_u32
returns-in_err-put_u32 c =
    stops_unchanged (to_be_bytes w32 0) (summed (entry_by c.args.entry.now) c.args.prev) c.from_residual.ensures.0 c.in_err-put_u32.ensures.err c.in_err-put_u32.ensures.fits c.in_err-put_u32.ensures.capacity

pub returns-in_err-put_head : goal.returns-in_err-put_head
returns-in_err-put_head c =
    puts_same (summed_is (entry_by c.args.entry.now) c.args.prev c.ref_kind.result c.ref_body_size.result c.ref_kind.ensures c.ref_body_size.ensures.value)
    (puts_behind (to_be_bytes w32 0) c.in_ok-put_u32.ensures.ok c.in_ok-put_u32.ensures.capacity (puts_stops (body_of (entry_by c.args.entry.now)) c.from_residual-in_err-put_head.ensures.0 c.in_err-put_head.ensures))

pub returns : goal.returns
returns c =
    puts_same (summed_is (entry_by c.args.entry.now) c.args.prev c.ref_kind.result c.ref_body_size.result c.ref_kind.ensures c.ref_body_size.ensures.value)
    (puts_behind (to_be_bytes w32 0) c.in_ok-put_u32.ensures.ok c.in_ok-put_u32.ensures.capacity (puts_then c.in_ok-put_head.ensures c.put_ref_body.ensures))
