use Rattle.std.proofs.Common.{◌≡◌, ℕ, ◌+◌, ◌-◌, ◌<◌, length, sym, ap, subst, ◌∙◌, arith}
use Rattle.log_buffer.specs.WriteBuffer.{bytes_for}
use Rattle.log_buffer.specs.Buffer.{written_of}
use Rattle.log_buffer.proofs.WriteBufferPieces.{IsCut}
use Rattle.log_buffer.proofs.WriteBuffers.{bytes_for_from, begun_some, some_first, first_for_same, none_below, only_last}
use Rattle.log_buffer.proofs.buffer.LogBuffer.written.Goals as goal

pub returns-then-begins_first-clause-only : goal.returns-then-begins_first-clause-only
returns-then-begins_first-clause-only g c =
    let old = c.args.self.now in
    let bytes = old.unwritten.bytes.items in
    let starts = old.unwritten.starts.items in
    let cut : IsCut (length bytes) starts = record { within = old.unwritten.within; apart = old.unwritten.apart } in
    let some : 0 < length starts = some_first starts (sym c.if-begins_first.ensures) in
    let first = c.first-first.ensures in
    let files = old.files in
    λ none. absurd (begun_some bytes starts cut 0 some (sym (bytes_for_from bytes starts old.file.0 (c.first-first.result + 1) 1 files (omega arith)) ∙ none))

pub returns-else-begins_first-clause-value : goal.returns-else-begins_first-clause-value
returns-else-begins_first-clause-value g c = c.first-first.ensures ∙ sym (first_for_same c.args.self.now.unwritten.starts.items (c.args.self.now.file.0 - length c.args.self.now.unwritten.starts.items) (sym c.if-begins_first.ensures))

pub returns-else-begins_first-clause-below : goal.returns-else-begins_first-clause-below
returns-else-begins_first-clause-below g c =
    let old = c.args.self.now in
    let starts = old.unwritten.starts.items in
    let is : c.first-first.result ≡ written_of old = c.first-first.ensures ∙ sym (first_for_same starts (old.file.0 - length starts) (sym c.if-begins_first.ensures)) in
    λ f lt. none_below old.unwritten.bytes.items starts old.file.0 f old.files (subst (λ (n : ℕ). f < n) is lt)

pub returns-else-begins_first-clause-only : goal.returns-else-begins_first-clause-only
returns-else-begins_first-clause-only g c =
    let old = c.args.self.now in
    let bytes = old.unwritten.bytes.items in
    let starts = old.unwritten.starts.items in
    let cut : IsCut (length bytes) starts = record { within = old.unwritten.within; apart = old.unwritten.apart } in
    λ none. c.first-first.ensures
    ∙ only_last bytes starts old.file.0 old.files cut (sym c.if-begins_first.ensures) (sym (ap (λ (n : ℕ). bytes_for bytes starts old.file.0 n) c.first-first.ensures) ∙ none)
