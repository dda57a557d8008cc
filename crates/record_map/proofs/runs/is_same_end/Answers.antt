use Rattle.std.proofs.Common.{◌∙◌, Some, option_copied, ap, sym}
use Rattle.record_map.proofs.RunLaws.{same_names}
use Rattle.record_map.proofs.runs.is_same_end.Goals as goal

pub returns-in-Some-Some : goal.returns-in-Some-Some
returns-in-Some-Some c same =
    ap (λ o. option_copied o) c.in-Some-Some.is-0
    ∙ ap (λ n. Some n) (same_names c.in-Some-Some.a.now c.in-Some-Some.b.now (sym c.eq.ensures ∙ same))
    ∙ sym (ap (λ o. option_copied o) c.in-Some-Some.is-1)
