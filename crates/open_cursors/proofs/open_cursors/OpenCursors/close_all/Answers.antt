use Rattle.std.proofs.Common.{◌∙◌, ◌==◌, ap, sym, subst, not, List}
use Rattle.std.specs.List.{AllByRecursion}
use Rattle.open_cursors.specs.declared.open_cursor.OpenCursor.{OpenCursor}
use Rattle.open_cursors.specs.Under.{IsUnderIn}
use Rattle.open_cursors.specs.Places.{places_of, HaveOwnNumbers}
use Rattle.open_cursors.proofs.PlaceLaws.{all_closed_places}
use Rattle.open_cursors.proofs.NumberLaws.{closed_own}
use Rattle.open_cursors.proofs.EachCursor.{on_left}
use Rattle.open_cursors.proofs.open_cursors.OpenCursors.close_all.Goals as goal

pub returns-clause-closed : goal.returns-clause-closed
returns-clause-closed c = λ places at.
    let held = c.args.self.now.cursors.items in
    record {
      each = λ s. ap (λ (l : List OpenCursor). places_of l s) c.leave_session_out.ensures ∙ all_closed_places c.args.session held places at.each s;
      apart = subst HaveOwnNumbers (sym c.leave_session_out.ensures) (closed_own (λ (o : OpenCursor). not (c.args.session == o.session)) held at.apart);
    }

pub returns-clause-under : goal.returns-clause-under
returns-clause-under c = λ store numbers all.
    subst (AllByRecursion (λ (x : OpenCursor). IsUnderIn store numbers x.place.db x.name x.kind)) (sym c.leave_session_out.ensures) (on_left (λ (x : OpenCursor). IsUnderIn store numbers x.place.db x.name x.kind) (λ (o : OpenCursor). not (c.args.session == o.session)) c.args.self.now.cursors.items all)
