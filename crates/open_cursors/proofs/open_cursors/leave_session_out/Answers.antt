use Rattle.std.proofs.Common.{rules, not, ◌==◌}
use Rattle.std.proofs.lemmas.Fn.{filter_same}
use Rattle.open_cursors.specs.declared.open_cursor.OpenCursor.{OpenCursor}
use Rattle.open_cursors.proofs.open_cursors.leave_session_out.Goals as goal

pub returns : goal.returns
returns c = filter_same _ (λ (o : OpenCursor). not (c.args.session == o.session)) _ (λ x b f k. search rules) _ _ c.retain.ensures.filtered
