use Rattle.std.proofs.Common.{length, arith}
use Rattle.log_buffer.proofs.WriteBufferPieces.{IsCut, start_before}
use Rattle.log_buffer.proofs.write_buffer.WriteBuffer.piece.Goals as goal

pub slice_bounds-result-count : goal.slice_bounds-result-count
slice_bounds-result-count c =
    let unwritten = c.args.self.now in
    let cut : IsCut (length unwritten.bytes.items) unwritten.starts.items = record { within = unwritten.within; apart = unwritten.apart } in
    let order = start_before unwritten.bytes.items unwritten.starts.items cut c.args.piece in
    omega (arith, c.start-start.ensures, c.stop-end.ensures, order)
