use Rattle.std.proofs.Common.{◌∙◌, ap, ◌==◌, ◌&&◌}
use Rattle.std.specs.List.{list_any}
use Rattle.je_answers.specs.Locking.{has_cursor_on}
use Rattle.open_cursors.specs.declared.open_cursor.OpenCursor.{OpenCursor}
use Rattle.open_cursors.proofs.PlaceLaws.{used_place}
use Rattle.open_cursors.proofs.open_cursors.OpenCursors.is_used_by.Goals as goal

pub returns-clause-used : goal.returns-clause-used
returns-clause-used c = λ places at.
    c.is_used.ensures ∙ (ap (list_any (λ (x : OpenCursor). (c.args.session == x.session) && (x.place.db == c.args.db))) c.as_slice.ensures.value
    ∙ (used_place c.args.session c.args.db c.args.self.now.cursors.items ∙ ap (has_cursor_on c.args.db) (at.each c.args.session)))

pub returns-clause-exact : goal.returns-clause-exact
returns-clause-exact c = c.is_used.ensures ∙ ap (list_any (λ (x : OpenCursor). (c.args.session == x.session) && (x.place.db == c.args.db))) c.as_slice.ensures.value
