use Rattle.std.proofs.Common.{List, ℕ, ◌++◌, ◌∙◌, ap, ap₂, take, drop, replicate}
use Rattle.je_order.proofs.PaddedLaws.{padded_is}
use Rattle.je_order.proofs.padding.padded.Goals as goal

pub returns : goal.returns
returns g c =
    let n = g.row.N in
    ap₂ (λ (l : List ℕ) k. l ++ drop k (replicate n 0)) (c.copy_from_slice.ensures.after ∙ ap (λ k. take k c.args.bytes.now) c.min-count.ensures) c.min-count.ensures
    ∙ padded_is n c.args.bytes.now
