use Rattle.std.proofs.Common.{◌≡◌, ℕ, ◌+◌, ◌-◌, List, length, vec_capacity, refl, sym, ap, ◌∙◌, le_of_eq, arith}
use Rattle.std.proofs.lemmas.List.{length-append}
use Rattle.log_entry.specs.Parts.{entry_by}
use Rattle.log_entry.specs.Encoding.{size_of, encoding}
use Rattle.log_entry.proofs.ReadingLaws.{length-encoding}
use Rattle.log_buffer.proofs.WriteBufferPieces.{IsCut}
use Rattle.log_buffer.proofs.LogAppend.{log_last}
use Rattle.log_buffer.proofs.WriteBufferRoom.{on_err, first_same, pushed_last, pushed_other}
use Rattle.log_buffer.proofs.UnchangedBuffer.{unwritten_kept}
use Rattle.log_buffer.specs.Buffer.{file_of, offset_of, last_of, first_of}
use Rattle.log_buffer.proofs.CrashAppend.{holds_with}
use Rattle.log_buffer.proofs.buffer.LogBuffer.put_last.Goals as goal

pub returns-in_err-push-clause-fits : goal.returns-in_err-push-clause-fits
returns-in_err-push-clause-fits g c = λ sizes room. let bytes = room.bytes in let ok = c.in_err-push.ensures.fits (omega arith) in absurd cc

pub returns-clause-log : goal.returns-clause-log
returns-clause-log g c =
    let old = c.args.self.now in
    let new = c.push.new.self in
    let more = encoding (entry_by c.args.entry.now) old.last in
    let cut : IsCut (length old.unwritten.bytes.items) old.unwritten.starts.items = record { within = old.unwritten.within; apart = old.unwritten.apart } in
    let starts : new.starts.items ≡ old.unwritten.starts.items = ap (λ v. v.items) c.push.ensures.starts in
    λ observable state log has.
    log_last observable state old _ log (entry_by c.args.entry.now) c.requires.entry c.requires.follows c.requires.fits
    (record {
      file = refl;
      offset = ap (λ (n : ℕ). old.offset + n) c.requires.size;
      last = refl;
      first = ap (λ (s : List ℕ). old.file.0 - length s) starts;
      flushed_len = refl;
      written = first_same old.unwritten.starts.items new.starts.items _ _ starts (ap (λ (s : List ℕ). old.file.0 - length s) starts);
      unwritten = pushed_last old.unwritten.bytes.items old.unwritten.starts.items new.bytes.items new.starts.items more old.file.0 old.files cut c.in_ok-push.ensures.ok starts;
      others = λ f apart. pushed_other old.unwritten.bytes.items old.unwritten.starts.items new.bytes.items new.starts.items more old.file.0 f old.files cut c.in_ok-push.ensures.ok starts apart;
    })
    has

pub returns-clause-room : goal.returns-clause-room
returns-clause-room g c =
    let old = c.args.self.now in
    let more = encoding (entry_by c.args.entry.now) old.last in
    let len : length c.push.new.self.bytes.items ≡ length old.unwritten.bytes.items + size_of (entry_by c.args.entry.now) =
    ap length c.in_ok-push.ensures.ok ∙ length-append old.unwritten.bytes.items more ∙ ap (λ (n : ℕ). length old.unwritten.bytes.items + n) (length-encoding (entry_by c.args.entry.now) old.last) in
    let capacity = c.push.ensures.bytes_capacity in
    let starts = ap (λ v. length v.items) c.push.ensures.starts in
    let places = ap (λ v. vec_capacity v) c.push.ensures.starts in
    λ sizes room. record {
      bytes = let bytes = room.bytes in omega (arith, len, capacity);
      files = let files = room.files in omega (arith, starts, places);
    }

pub returns-in_err-push-clause-unchanged : goal.returns-in_err-push-clause-unchanged
returns-in_err-push-clause-unchanged g c =
    let starts = c.push.ensures.starts in
    on_err c.from_residual.result _ (record {
      kept = unwritten_kept c.args.self.now _ refl refl refl refl c.in_err-push.ensures.err (ap (λ v. v.items) starts) c.push.ensures.bytes_capacity (le_of_eq (ap (λ v. vec_capacity v) (sym starts)));
      disk = refl;
      failed = refl;
    })

pub returns-clause-holds : goal.returns-clause-holds
returns-clause-holds g c =
    let old = c.args.self.now in
    let starts : c.push.new.self.starts.items ≡ old.unwritten.starts.items = ap (λ v. v.items) c.push.ensures.starts in
    λ observable state log removed least begun has h.
    holds_with log removed least begun (first_of old) (old.file.0 - length c.push.new.self.starts.items) (file_of old) (offset_of old) (last_of old) (file_of old) state (entry_by c.args.entry.now) has.is_log has.ends (omega arith)
    (ap (λ (s : List ℕ). old.file.0 - length s) starts) h
