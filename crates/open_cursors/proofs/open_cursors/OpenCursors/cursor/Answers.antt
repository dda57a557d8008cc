use Rattle.std.proofs.Common.{◌∙◌, ap}
use Rattle.std.specs.Option.{option_map}
use Rattle.je_answers.specs.Standing.{place_at}
use Rattle.open_cursors.specs.declared.open_cursor.OpenCursor.{OpenCursor}
use Rattle.open_cursors.specs.Under.{IsUnderIn}
use Rattle.open_cursors.specs.Places.{is_of}
use Rattle.open_cursors.proofs.PlaceLaws.{found_place}
use Rattle.open_cursors.proofs.EachCursor.{if_found, if_its}
use Rattle.open_cursors.proofs.open_cursors.OpenCursors.cursor.Goals as goal

pub returns-clause-place : goal.returns-clause-place
returns-clause-place c = λ places at.
    ap (option_map (λ (x : OpenCursor). x.place)) c.found.ensures ∙ (found_place c.args.session c.args.cursor c.args.self.now.cursors.items ∙ ap (place_at c.args.cursor) (at.each c.args.session))

pub returns-clause-its : goal.returns-clause-its
returns-clause-its c = if_its c.args.session c.args.cursor c.args.self.now.cursors.items c.found.result c.found.ensures

pub returns-clause-under : goal.returns-clause-under
returns-clause-under c = λ store numbers all. if_found (λ (x : OpenCursor). IsUnderIn store numbers x.place.db x.name x.kind) (is_of c.args.session c.args.cursor) c.args.self.now.cursors.items c.found.result c.found.ensures all
