use Rattle.std.proofs.Common.{rules}
use Rattle.script_text.proofs.session.long_name.Goals as goal

pub returns-then-number-le-MOST_SESSION : goal.returns-then-number-le-MOST_SESSION
returns-then-number-le-MOST_SESSION c = search rules
