use Rattle.std.proofs.Common.{rules}
use Rattle.script_text.proofs.parsing.given_by_line.Goals as goal

pub returns-then-line-gt-MOST_LINES-clause-answer : goal.returns-then-line-gt-MOST_LINES-clause-answer
returns-then-line-gt-MOST_LINES-clause-answer c = search rules
