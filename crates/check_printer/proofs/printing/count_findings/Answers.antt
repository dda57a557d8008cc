use Rattle.std.proofs.Common.{◌≡◌, ◌≤◌, ◌+◌, ap, ap₂, arith, ◌∙◌}
use Rattle.std.proofs.lemmas.List.{take_all}
use Rattle.check_printer.specs.CheckText.{count_all_lines, count_lines}
use Rattle.check_printer.proofs.CountLines.{counts_next}
use Rattle.check_printer.proofs.printing.count_findings.Goals as goal

pub loop-k-preserved : goal.loop-k-preserved
loop-k-preserved c =
    let findings = c.args.findings.now in
    let x = c.index-findings-k.result in
    let lines : c.from-count.result ≡ count_lines x = c.from-count.ensures ∙ c.count_finding.ensures.lines in
    let next : count_all_lines _ + count_lines x ≡ count_all_lines _ = counts_next findings c.loop-k.k x c.loop-k-test.true c.index-findings-k.is in
    let few : c.count_finding.result ≤ 4294967295 = c.count_finding.ensures.few in
    let same : c.from-count.result ≡ c.count_finding.result = c.from-count.ensures in
    (ap₂ (λ a b. a + b) c.loop-k.invariant.0 lines ∙ next, omega (arith, c.loop-k.invariant.1, few, same))

pub returns : goal.returns
returns c = c.loop-k.invariant.0 ∙ ap count_all_lines (take_all c.loop-k.k c.args.findings.now c.loop-k-test.false)
