use Rattle.std.proofs.Common.{◌∙◌, List, [], ℕ, ap, length, take}
use Rattle.je_order.specs.declared.name.Name.{Name}
use Rattle.je_order.proofs.PaddedLaws.{take_padded}
use Rattle.record_map.proofs.sort_key.short.Goals as goal

pub returns : goal.returns
returns c =
    ap (λ (key : List ℕ). let name : Name = record { key = key; dup = [] } in name)
    (ap (λ (l : List ℕ). take (length c.args.key.now) l) c.padded.ensures ∙ take_padded 22 c.args.key.now c.requires)
