use Rattle.std.proofs.Common.{◌≡◌, ◌≤◌, length}
use Rattle.dump_text.specs.Grammar.{header_from, first_header}
use Rattle.text_lines.specs.Lines.{text_lines}
use Rattle.dump_text.proofs.parsing.read_header.Given as goal

abbrev pub invariant-loop-rest : goal.invariant-loop-rest
invariant-loop-rest l = (l.line ≤ 1_000_001) × (header_from (text_lines l.texts) 2 first_header ≡ header_from (text_lines l.rest) l.line l.header)

abbrev pub decreases-loop-rest : goal.decreases-loop-rest
decreases-loop-rest l = length l.rest
