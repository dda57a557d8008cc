use Rattle.std.proofs.Common.{length, arith, refl, ◌++◌}
use Rattle.log_entry.specs.declared.entry.Entry.TheVariants.{FileHeader}
use Rattle.log_entry.specs.Parts.{entry_by}
use Rattle.log_entry.specs.Encoding.{encoding}
use Rattle.log_buffer.proofs.WriteBufferRoom.{encoded_size}
use Rattle.log_buffer.proofs.WriteBufferPieces.{IsCut, begun_starts, begun_cut}
use Rattle.log_buffer.proofs.write_buffer.WriteBuffer.begin.Goals as goal

pub invariant_of-self-2 : goal.invariant_of-self-2
invariant_of-self-2 c =
    let old = c.args.self.now in
    let room = c.in_ok-reserve.ensures.ok in
    let cut : IsCut (length old.bytes.items) old.starts.items = record { within = old.within; apart = old.apart } in
    let starts = begun_starts old.bytes.items old.starts.items c.push.new.self.items c.len-start.result c.reserve.new.self.items _ c.reserve.ensures.items (omega (arith, c.len-start.ensures)) c.push.ensures.items (c.push.ensures.succeeds (omega (arith, room))) in
    let new = begun_cut old.bytes.items old.starts.items c.encode_first.new.onto.items c.push.new.self.items (encoding (FileHeader 1 c.args.file.0) 0 ++ encoding (entry_by c.args.entry.now) 0)
    (let len = encoded_size (encoding (FileHeader 1 c.args.file.0) 0 ++ encoding (entry_by c.args.entry.now) 0) c.args.file.0 (entry_by c.args.entry.now) refl in omega (arith, len)) c.in_ok-encode_first.ensures.ok starts cut in
    record { within = new.within; apart = new.apart }

pub unwrap-requires : goal.unwrap-requires
unwrap-requires c = let room = c.in_ok-reserve.ensures.ok in c.push.ensures.succeeds (omega (arith, room))

pub returns-clause-begun : goal.returns-clause-begun
returns-clause-begun c =
    let old = c.args.self.now in
    let room = c.in_ok-reserve.ensures.ok in
    begun_starts old.bytes.items old.starts.items c.push.new.self.items c.len-start.result c.reserve.new.self.items _ c.reserve.ensures.items (omega (arith, c.len-start.ensures)) c.push.ensures.items (c.push.ensures.succeeds (omega (arith, room)))
