use Rattle.std.proofs.Common.{◌≡◌, ℕ, List, ◌+◌, ◌++◌, length, take, ap, ◌∙◌, arith, append_assoc}
use Rattle.std.proofs.lemmas.List.{take_at, length-append}
use Rattle.log_entry.specs.declared.entry.Entry.TheVariants.{FileHeader}
use Rattle.log_entry.specs.Parts.{entry_by}
use Rattle.log_entry.specs.Encoding.{encoding}
use Rattle.log_entry.proofs.ReadingLaws.{length-encoding}
use Rattle.log_buffer.proofs.encoding.encode_first.Goals as goal

pub returns-in-Ok-clause-ok : goal.returns-in-Ok-clause-ok
returns-in-Ok-clause-ok c =
    c.in-Ok.ensures.ok ∙ ap (λ (l : List ℕ). l ++ encoding (entry_by c.args.entry.now) 0) c.in_ok-encode_header.ensures.ok
    ∙ append_assoc c.args.onto.now.items (encoding (FileHeader 1 c.args.file.0) 0) (encoding (entry_by c.args.entry.now) 0)

pub returns-in-Err-clause-err : goal.returns-in-Err-clause-err
returns-in-Err-clause-err c =
    c.truncate.ensures.items ∙ ap (take c.len-start.result) (c.in-Err.ensures.err ∙ c.in_ok-encode_header.ensures.ok)
    ∙ take_at c.args.onto.now.items (encoding (FileHeader 1 c.args.file.0) 0) c.len-start.result (omega (arith, c.len-start.ensures))

pub returns-in-Err-clause-fits : goal.returns-in-Err-clause-fits
returns-in-Err-clause-fits c =
    let len : length c.encode_header.new.onto.items ≡ length c.args.onto.now.items + 26 =
    ap length c.in_ok-encode_header.ensures.ok ∙ length-append c.args.onto.now.items (encoding (FileHeader 1 c.args.file.0) 0) ∙ ap (λ (n : ℕ). length c.args.onto.now.items + n) (length-encoding (FileHeader 1 c.args.file.0) 0) in
    let capacity = c.encode_header.ensures.capacity in
    λ room. c.in-Err.ensures.fits (omega (arith, len))
