use Rattle.std.proofs.Common.{◌∙◌, ap, sym, decimal}
use Rattle.soak_plan.proofs.RoundLaws.{soak_length}
use Rattle.text_out.proofs.BufferedText.{adds_same, adds_then}
use Rattle.je_program.proofs.output.put_soak.Goals as goal

pub returns : goal.returns
returns g c =
    let seed = adds_same _ _ (ap decimal c.from.ensures) c.put_number.ensures in
    let lines = adds_same _ _ (ap decimal (c.from-2.ensures ∙ sym (soak_length c.args.seed))) c.put_number-2.ensures in
    adds_then (adds_then (adds_then (adds_then (adds_then c.put.ensures seed) c.put-2.ensures) lines) c.put-3.ensures) c.put_last_line.ensures
