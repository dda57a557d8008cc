use Rattle.std.proofs.Common.{◌∙◌, ap, sym, subst, List}
use Rattle.std.specs.List.{AllByRecursion}
use Rattle.open_cursors.specs.declared.open_cursor.OpenCursor.{OpenCursor}
use Rattle.open_cursors.specs.Under.{IsUnderIn}
use Rattle.open_cursors.specs.Places.{places_of, HaveOwnNumbers}
use Rattle.open_cursors.proofs.PlaceLaws.{moved_places}
use Rattle.open_cursors.proofs.NumberLaws.{moved_own}
use Rattle.open_cursors.proofs.EachCursor.{on_moved}
use Rattle.open_cursors.proofs.open_cursors.OpenCursors.move_to.Goals as goal

pub returns-clause-moved : goal.returns-clause-moved
returns-clause-moved c = λ places at.
    let held = c.args.self.now.cursors.items in
    let is = c.move_one.ensures in
    record {
      each = λ s. ap (λ (l : List OpenCursor). places_of l s) is ∙ moved_places c.args.session c.args.cursor c.args.at held places at.apart at.each s;
      apart = subst HaveOwnNumbers (sym is) (moved_own c.args.session c.args.cursor c.args.at held at.apart);
    }

pub returns-clause-under : goal.returns-clause-under
returns-clause-under c = λ store numbers all.
    subst (AllByRecursion (λ (x : OpenCursor). IsUnderIn store numbers x.place.db x.name x.kind)) (sym c.move_one.ensures) (on_moved (λ (x : OpenCursor). IsUnderIn store numbers x.place.db x.name x.kind) c.args.session c.args.cursor c.args.at (λ o u. u) c.args.self.now.cursors.items all)
