use Rattle.std.proofs.Common.{length, ◌≡◌, ◌≤◌}
use Rattle.text_lines.specs.Lines.{text_lines}
use Rattle.script_text.specs.Grammar.{lines_give}
use Rattle.script_text.proofs.ScriptLines.{with_front}
use Rattle.script_text.proofs.parsing.plan_of.Given as goal

abbrev pub invariant-loop-rest : goal.invariant-loop-rest
invariant-loop-rest l =
    (l.line ≤ 1_000_001) × (lines_give 1 (text_lines l.input) ≡ with_front l.lines.items (lines_give l.line (text_lines l.rest)))

abbrev pub decreases-loop-rest : goal.decreases-loop-rest
decreases-loop-rest l = length l.rest
