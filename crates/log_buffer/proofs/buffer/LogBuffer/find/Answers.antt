use Rattle.std.proofs.Common.{◌-◌, ap, length, arith}
use Rattle.log_buffer.specs.WriteBuffer.{bytes_for}
use Rattle.log_buffer.proofs.WriteBuffers.{bytes_for_from}
use Rattle.log_buffer.proofs.EntryReads.{encodes_in}
use Rattle.log_buffer.proofs.buffer.LogBuffer.find.Goals as goal

pub returns-then-at-bytes : goal.returns-then-at-bytes
returns-then-at-bytes g c =
    λ entry within encodes.
    let old = c.args.self.now in
    let le = old.files in
    let low = c.requires in
    let first = c.first.ensures in
    let same = bytes_for_from old.unwritten.bytes.items old.unwritten.starts.items old.file.0 c.args.f.0 (c.args.f.0 - c.first.result) le (omega (arith, first)) in
    let len = ap length c.piece-bytes.ensures in
    let size = ap length same in
    let lt = encodes_in (bytes_for old.unwritten.bytes.items old.unwritten.starts.items old.file.0 c.args.f.0) c.args.at entry encodes in
    let past = c.if-at-bytes.true in
    absurd (omega (arith, len, size))
