use Rattle.std.proofs.Common.{arith}
use Rattle.log_buffer.proofs.FaultCauses.{only_faults, on_fault}
use Rattle.log_buffer.proofs.buffer.LogBuffer.append_reserved.Goals as goal

pub returns-clause-by_fault : goal.returns-clause-by_fault
returns-clause-by_fault g c =
    let put = c.append_ref.ensures in
    let room = c.requires.room in
    only_faults c.append_ref.result (λ full. let past = (put.full c.requires.works).0 full in let fits = c.requires.fits in absurd (omega (arith, past, fits))) (put.has_room room.0 room.1) put.not_damaged

pub returns-clause-tried : goal.returns-clause-tried
returns-clause-tried g c =
    let put = c.append_ref.ensures in
    let room = c.requires.room in
    on_fault c.append_ref.result _
    (only_faults c.append_ref.result (λ full. let past = (put.full c.requires.works).0 full in let fits = c.requires.fits in absurd (omega (arith, past, fits))) (put.has_room room.0 room.1) put.not_damaged) put.tried
