use Rattle.std.specs.Int.{w16, to_be_bytes}
use Rattle.std.proofs.Common.{length}
use Rattle.log_entry.proofs.VectorAppends.{puts_behind, stops_unchanged, puts_slice}
use Rattle.log_entry.proofs.fields.put_string.Goals as goal

pub returns-in_err-put_u16 : goal.returns-in_err-put_u16
returns-in_err-put_u16 c =
    stops_unchanged (to_be_bytes w16 (length c.args.bytes.now)) c.args.bytes.now c.from_residual.ensures.0 c.in_err-put_u16.ensures.err c.in_err-put_u16.ensures.fits c.in_err-put_u16.ensures.capacity

pub returns : goal.returns
returns c =
    puts_behind (to_be_bytes w16 (length c.args.bytes.now)) c.in_ok-put_u16.ensures.ok c.in_ok-put_u16.ensures.capacity
    (puts_slice c.args.bytes.now c.put_u16.new.out.len c.extend_from_slice.ensures.items c.put_u16.new.out.ok.0 c.extend_from_slice.ensures.succeeds c.extend_from_slice.ensures.capacity)
