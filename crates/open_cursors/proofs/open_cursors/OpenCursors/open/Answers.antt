use Rattle.std.proofs.Common.{◌∙◌, ap, sym, subst, List}
use Rattle.open_cursors.specs.declared.open_cursor.OpenCursor.{OpenCursor}
use Rattle.open_cursors.specs.Under.{IsUnderIn}
use Rattle.open_cursors.specs.Places.{places_of, HaveOwnNumbers}
use Rattle.std.specs.List.{AllByRecursion}
use Rattle.open_cursors.proofs.PlaceLaws.{opened_places}
use Rattle.open_cursors.proofs.NumberLaws.{opened_own}
use Rattle.open_cursors.proofs.EachCursor.{on_opened}
use Rattle.open_cursors.proofs.open_cursors.OpenCursors.open.Goals as goal

pub returns-clause-opened : goal.returns-clause-opened
returns-clause-opened c = λ places at free.
    let held = c.args.self.now.cursors.items in
    record {
      each = λ s. ap (λ (l : List OpenCursor). places_of l s) c.in_ok-push.ensures.items ∙ opened_places c.args.opened held places at.each s;
      apart = subst HaveOwnNumbers (sym c.in_ok-push.ensures.items) (opened_own c.args.opened held places at.each free at.apart);
    }

pub returns-clause-under : goal.returns-clause-under
returns-clause-under c = λ store numbers its all.
    subst (AllByRecursion (λ (x : OpenCursor). IsUnderIn store numbers x.place.db x.name x.kind)) (sym c.in_ok-push.ensures.items) (on_opened (λ (x : OpenCursor). IsUnderIn store numbers x.place.db x.name x.kind) c.args.self.now.cursors.items c.args.opened its all)
