use Rattle.std.proofs.Common.{refl, ◌≤◌, ◌+◌, ℕ, length, vec_capacity, subst}
use Rattle.log_buffer.proofs.WriteBufferRoom.{on_oks}
use Rattle.log_buffer.proofs.UnchangedBuffer.{unwritten_kept}
use Rattle.log_buffer.proofs.buffer.LogBuffer.make_room.Goals as goal

pub returns-clause-room : goal.returns-clause-room
returns-clause-room g c =
    let unwritten = c.reserve.new.self in
    on_oks c.reserve.result _ _ _ c.reserve.ensures.room c.reserve.ensures.capacity
    (λ bytes files. record { bytes = subst (λ (n : ℕ). length unwritten.bytes.items + n ≤ vec_capacity unwritten.bytes) c.in-Some.ensures bytes; files = files })

pub returns-clause-unchanged : goal.returns-clause-unchanged
returns-clause-unchanged g c =
    let made = c.reserve.ensures in
    record { kept = unwritten_kept c.args.self.now _ refl refl refl refl made.bytes made.starts made.bytes_capacity made.capacity_stays; disk = refl; failed = refl }
