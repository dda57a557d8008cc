use Rattle.log_buffer.proofs.WriteBufferPieces.{IsCut, cut_more, grown_le}
use Rattle.std.proofs.Common.{length}
use Rattle.log_entry.specs.Parts.{entry_by}
use Rattle.log_entry.specs.Encoding.{encoding}
use Rattle.log_buffer.proofs.write_buffer.WriteBuffer.push.Goals as goal

pub invariant_of-self : goal.invariant_of-self
invariant_of-self c =
    let old = c.args.self.now in
    let cut : IsCut (length old.bytes.items) old.starts.items = record { within = old.within; apart = old.apart } in
    let put = c.encode_ref_onto in
    let new = cut_more _ _ old.starts.items (grown_le put.result old.bytes.items put.new.onto.items (encoding (entry_by c.args.entry.now) c.args.prev) put.ensures.ok put.ensures.err) cut in
    record { within = new.within; apart = new.apart }
