use Rattle.text_out.proofs.BufferedText.{adds_same, adds_then}
use Rattle.dump_text.proofs.writing.put_header.Goals as goal

pub returns : goal.returns
returns g c =
    let format = adds_same _ _ c.format_line.ensures c.put-2.ensures in
    let dupsort = adds_same _ _ c.dupsort_line.ensures c.put-4.ensures in
    adds_then (adds_then (adds_then (adds_then c.put.ensures format) c.put-3.ensures) dupsort) c.put-5.ensures
