use Rattle.std.proofs.Common.{◌≡◌, ◌∙◌, ◌++◌, length, arith, ap}
use Rattle.std.specs.Prelude.{vec_capacity}
use Rattle.std.specs.Int.{w32, to_be_bytes}
use Rattle.log_entry.specs.Parts.{entry_by}
use Rattle.log_entry.specs.Encoding.{summed}
use Rattle.std.proofs.lemmas.List.{take_at}
use Rattle.log_entry.proofs.WritingLaws.{signed_from}
use Rattle.log_entry.proofs.VectorAppends.{room_unsigned}
use Rattle.log_entry.proofs.encoder.encode_ref_onto.Goals as goal

pub returns-in-Ok-clause-ok : goal.returns-in-Ok-clause-ok
returns-in-Ok-clause-ok c =
    let same_len : length c.sign.new.bytes ≡ c.put_unsigned.new.out.len = omega (arith, c.as_mut_slice.ensures.len) in
    let mid = c.as_mut_slice.ensures.value ∙ c.in-Ok.ensures.ok ∙ ap (λ items. items ++ (to_be_bytes w32 0 ++ summed (entry_by c.args.entry.now) c.args.prev)) c.in_ok-reserve.ensures.items in
    take_at c.sign.new.bytes _ c.put_unsigned.new.out.len same_len
    ∙ signed_from c.args.onto.now.items c.as_mut_slice.result.now c.sign.new.bytes c.len-start.result (entry_by c.args.entry.now) c.args.prev
    (omega (arith, c.len-start.ensures)) mid c.sign.ensures

pub returns-in-Err-clause-fits : goal.returns-in-Err-clause-fits
returns-in-Err-clause-fits c = λ fits. c.in-Err.ensures.fits
    (room_unsigned (entry_by c.args.entry.now) c.args.prev c.args.onto.now.items c.reserve.new.self.items (vec_capacity c.args.onto.now) (vec_capacity c.reserve.new.self) c.in_ok-reserve.ensures.items c.reserve.ensures.capacity fits)
