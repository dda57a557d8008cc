use Rattle.std.proofs.Common.{◌∙◌, List, ℕ, ap, take, length}
use Rattle.je_order.proofs.PaddedLaws.{take_padded}
use Rattle.record_map.proofs.data.near.Goals as goal

pub returns : goal.returns
returns c =
    ap (λ (l : List ℕ). take (length c.args.bytes.now) l) c.padded.ensures ∙ take_padded 38 c.args.bytes.now c.requires
