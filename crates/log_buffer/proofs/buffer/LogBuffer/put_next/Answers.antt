use Rattle.std.proofs.Common.{◌≡◌, ℕ, ◌+◌, ◌-◌, [], ◌∷◌, ◌++◌, length, refl, ap, ◌∙◌, arith, length-append}
use Rattle.log_entry.specs.Parts.{entry_by}
use Rattle.log_entry.specs.Encoding.{size_of, encoding}
use Rattle.log_entry.specs.declared.entry.Entry.TheVariants.{FileHeader}
use Rattle.log_buffer.specs.Flip.{header_size}
use Rattle.log_buffer.proofs.WriteBufferPieces.{IsCut}
use Rattle.log_buffer.proofs.WriteBuffers.{bytes_for_above}
use Rattle.log_buffer.proofs.LogAppend.{log_next}
use Rattle.log_buffer.proofs.WriteBufferRoom.{begun_next, begun_other, encoded_size, on_err, first_before}
use Rattle.log_buffer.proofs.UnchangedBuffer.{unwritten_kept}
use Rattle.log_entry.proofs.BodyLaws.{body_small}
use Rattle.log_buffer.specs.Buffer.{file_of, offset_of, last_of, first_of}
use Rattle.log_buffer.proofs.CrashAppend.{holds_with}
use Rattle.log_buffer.proofs.buffer.LogBuffer.put_next.Goals as goal

pub overflow_add-self : goal.overflow_add-self
overflow_add-self g c =
    let size = body_small (entry_by c.args.entry.now) c.requires.entry in
    let is = c.requires.size in
    omega (arith, size, is)

pub returns-in_err-begin-clause-unchanged : goal.returns-in_err-begin-clause-unchanged
returns-in_err-begin-clause-unchanged g c =
    on_err c.from_residual.result _ (record {
      kept = unwritten_kept c.args.self.now _ refl refl refl refl c.in_err-begin.ensures.err c.in_err-begin.ensures.kept c.begin.ensures.bytes_capacity c.begin.ensures.capacity;
      disk = refl;
      failed = refl;
    })

pub returns-in_err-begin-clause-fits : goal.returns-in_err-begin-clause-fits
returns-in_err-begin-clause-fits g c = λ sizes room. let bytes = room.bytes in let files = room.files in let ok = c.in_err-begin.ensures.fits (omega arith) (omega arith) in absurd cc

pub returns-clause-room : goal.returns-clause-room
returns-clause-room g c =
    let old = c.args.self.now.unwritten in
    let first = encoding (FileHeader 1 (c.args.self.now.file.0 + 1)) 0 ++ encoding (entry_by c.args.entry.now) 0 in
    let len : length c.begin.new.self.bytes.items ≡ length old.bytes.items + (header_size + size_of (entry_by c.args.entry.now)) =
    ap length c.in_ok-begin.ensures.ok ∙ length-append old.bytes.items first
    ∙ ap (λ (n : ℕ). length old.bytes.items + n) (encoded_size first (c.args.self.now.file.0 + 1) (entry_by c.args.entry.now) refl) in
    let capacity = c.begin.ensures.bytes_capacity in
    let places = c.begin.ensures.capacity in
    let more = length-append old.starts.items (length old.bytes.items ∷ []) in
    λ sizes room. record {
      bytes = let bytes = room.bytes in omega (arith, len, capacity);
      files = let files = room.files in let begun = ap length c.in_ok-begin.ensures.begun in omega (arith, more, begun);
    }

pub invariant_of-self-2 : goal.invariant_of-self-2
invariant_of-self-2 g c =
    let more = length-append c.args.self.now.unwritten.starts.items (length c.args.self.now.unwritten.bytes.items ∷ []) in
    let begun = ap length c.in_ok-begin.ensures.begun in
    let files = c.args.self.now.files in
    record {
      last_file = omega (arith, c.requires.file);
      max = c.args.self.now.max;
      files = omega (arith, more, begun);
    }

pub returns-clause-log : goal.returns-clause-log
returns-clause-log g c =
    let old = c.args.self.now in
    let cut : IsCut (length old.unwritten.bytes.items) old.unwritten.starts.items = record { within = old.unwritten.within; apart = old.unwritten.apart } in
    let len = length-append old.unwritten.starts.items (length old.unwritten.bytes.items ∷ []) in
    let small = old.last_file in
    let first = encoding (FileHeader 1 (old.file.0 + 1)) 0 ++ encoding (entry_by c.args.entry.now) 0 in
    let size = body_small (entry_by c.args.entry.now) c.requires.entry in
    λ observable state log has.
    log_next observable state old _ log (entry_by c.args.entry.now) c.requires.entry c.requires.follows (omega arith) (omega arith)
    (record {
      file = refl;
      offset = ap (λ (n : ℕ). 26 + n) c.requires.size;
      last = refl;
      first = let begun = ap length c.in_ok-begin.ensures.begun in omega (arith, len, begun);
      flushed_len = refl;
      written = first_before old.unwritten.starts.items c.begin.new.self.starts.items (length old.unwritten.bytes.items) _ _ c.in_ok-begin.ensures.begun (let begun = ap length c.in_ok-begin.ensures.begun in omega (arith, len, begun));
      none = bytes_for_above old.unwritten.bytes.items old.unwritten.starts.items old.file.0 (old.file.0 + 1) old.files (omega arith);
      unwritten = begun_next old.unwritten.bytes.items old.unwritten.starts.items c.begin.new.self.bytes.items c.begin.new.self.starts.items first old.file.0 old.files c.in_ok-begin.ensures.ok c.in_ok-begin.ensures.begun;
      others = λ f apart. begun_other old.unwritten.bytes.items old.unwritten.starts.items c.begin.new.self.bytes.items c.begin.new.self.starts.items first old.file.0 f old.files cut c.in_ok-begin.ensures.ok c.in_ok-begin.ensures.begun apart;
    })
    has

pub returns-clause-holds : goal.returns-clause-holds
returns-clause-holds g c =
    let old = c.args.self.now in
    let len = length-append old.unwritten.starts.items (length old.unwritten.bytes.items ∷ []) in
    λ observable state log removed least begun has h.
    holds_with log removed least begun (first_of old) (old.file.0 + 1 - length c.begin.new.self.starts.items) (file_of old) (offset_of old) (last_of old) (file_of old + 1) state (entry_by c.args.entry.now) has.is_log has.ends (omega arith)
    (let begun = ap length c.in_ok-begin.ensures.begun in omega (arith, len, begun)) h
