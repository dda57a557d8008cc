use Rattle.std.proofs.Common.{false, ap, ℕ}
use Rattle.std.specs.Fmt.{digits}
use Rattle.text_out.proofs.BufferedText.{adds_same, adds_then}
use Rattle.text_out.proofs.digits.put_lsn.Goals as goal

pub returns : goal.returns
returns g c =
    let file = adds_same _ _ (ap (λ (n : ℕ). digits 16 false n) c.file.ensures) c.put_hexadecimal.ensures in
    let offset = adds_same _ _ (ap (λ (n : ℕ). digits 16 false n) c.offset.ensures) c.put_hexadecimal-2.ensures in
    adds_then (adds_then (adds_then c.put.ensures file) c.put-2.ensures) offset
