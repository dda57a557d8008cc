use Rattle.std.proofs.Common.{ℕ, length, ap, sym, subst}
use Rattle.sessions.proofs.Tells.{less_spare, cycle_short}
use Rattle.sessions.specs.Spares.{HasSpare}
use Rattle.sessions.proofs.telling.answer_of.Goals as goal

pub copied-requires : goal.copied-requires
copied-requires c =
    let r = c.requires in
    subst (λ (n : ℕ). HasSpare n 1 c.args.buffers.now.items) (sym (ap length c.as_slice.ensures))
    (less_spare (length c.in-Some.cycle.now) r.0 1 c.args.buffers.now.items (cycle_short r.0 c.args.txn c.args.victims.now c.in-Some.cycle.now c.in-Some.ensures r.2) r.1)
