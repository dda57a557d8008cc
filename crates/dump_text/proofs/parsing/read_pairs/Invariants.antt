use Rattle.std.proofs.Common.{◌≡◌, ◌≤◌, length, [], None}
use Rattle.dump_text.specs.Grammar.{pairs_from}
use Rattle.text_lines.specs.Lines.{text_lines}
use Rattle.dump_text.proofs.parsing.read_pairs.Given as goal

abbrev pub invariant-loop-rest : goal.invariant-loop-rest
invariant-loop-rest l = (l.line ≤ 1_000_001) × (pairs_from l.header (text_lines l.texts) l.from [] None ≡ pairs_from l.header (text_lines l.rest) l.line l.pairs.items l.pending)

abbrev pub decreases-loop-rest : goal.decreases-loop-rest
decreases-loop-rest l = length l.rest
