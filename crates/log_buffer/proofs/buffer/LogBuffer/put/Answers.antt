use Rattle.std.proofs.Common.{◌≡◌, ap, sym, ◌∙◌, arith}
use Rattle.log_entry.specs.Encoding.{size_of}
use Rattle.log_entry.specs.Parts.{entry_by}
use Rattle.log_entry.proofs.BodyLaws.{body_small}
use Rattle.log_buffer.specs.declared.log_pos.LogPos.{LogPos}
use Rattle.log_buffer.specs.Buffer.{end_of, offset_of, file_max_of}
use Rattle.log_buffer.specs.Flip.{next_file}
use Rattle.log_buffer.proofs.GrowthLaws.{grew_put}
use Rattle.log_buffer.proofs.LogPositions.{is_placed, fits_in}
use Rattle.log_buffer.proofs.buffer.LogBuffer.put.Goals as goal

pub put_last-requires-clause-fits : goal.put_last-requires-clause-fits
put_last-requires-clause-fits g c =
    let old = c.args.self.now in
    let e = entry_by c.args.entry.now in
    let size = body_small e c.requires.entry in
    fits_in (file_max_of old) (offset_of old) (size_of e) old.max (omega (arith, size))
    ((is_placed (file_max_of old) (end_of old) (size_of e)).same (sym (ap (λ (p : LogPos). p.file) c.requires.pos) ∙ c.if-pos-self.true)).1

pub returns-then-pos-self-clause-grew : goal.returns-then-pos-self-clause-grew
returns-then-pos-self-clause-grew g c =
    let old = c.args.self.now in
    let e = (entry_by c.args.entry.now) in
    let last = c.put_last.ensures in
    let here : c.args.pos ≡ end_of old =
    c.requires.pos ∙ ((is_placed (file_max_of old) (end_of old) (size_of e)).same (sym (ap (λ (p : LogPos). p.file) c.requires.pos) ∙ c.if-pos-self.true)).0 in
    grew_put g.D.Disk.meaning c.put_last.result old c.put_last.new.self e (end_of old) (sym here ∙ c.requires.pos) last.disk last.log last.holds last.end last.file_max last.failed

pub returns-else-pos-self-clause-grew : goal.returns-else-pos-self-clause-grew
returns-else-pos-self-clause-grew g c =
    let old = c.args.self.now in
    let e = (entry_by c.args.entry.now) in
    let next = c.put_next.ensures in
    let there : c.args.pos ≡ next_file (end_of old) =
    c.requires.pos ∙ (is_placed (file_max_of old) (end_of old) (size_of e)).next (λ same. c.if-pos-self.false (ap (λ (p : LogPos). p.file) c.requires.pos ∙ same)) in
    grew_put g.D.Disk.meaning c.put_next.result old c.put_next.new.self e (next_file (end_of old)) (sym there ∙ c.requires.pos) next.disk next.log next.holds next.end next.file_max next.failed
