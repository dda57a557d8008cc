use Rattle.std.proofs.Common.{Ok, Err, Result, refl, subst, sym}
use Rattle.jalibsuk.specs.declared.error.Error.{Error}
use Rattle.jalibsuk.specs.Scans.{Placed}
use Rattle.jalibsuk.proofs.CursorLaws.{placed_at}
use Rattle.jalibsuk.proofs.env.Env.place.Goals as goal

pub returns-in-Ok-clause-places : goal.returns-in-Ok-clause-places
returns-in-Ok-clause-places g c =
    placed_at g.D.Disk.meaning _ _ c.in-Some.is _ _ _ c.args.walk _ _ (Ok c.args.walk) c.move_cursor.ensures.gives c.looked_for-looked.ensures
    (subst (λ (l : Result (Unit {0}) Error). Placed g.D.Disk.meaning c.move_cursor.new.self.environment c.move_cursor.new.self.environment c.args.walk l (Ok c.args.walk)) (sym c.in-Ok.is) (refl, refl))

pub returns-in-Err-clause-places : goal.returns-in-Err-clause-places
returns-in-Err-clause-places g c =
    placed_at g.D.Disk.meaning _ _ c.in-Some.is _ _ _ c.args.walk _ _ (Err c.in-Err.error) c.move_cursor.ensures.gives c.looked_for-looked.ensures
    (subst (λ (l : Result (Unit {0}) Error). Placed g.D.Disk.meaning c.move_cursor.new.self.environment c.shut.new.self.environment c.args.walk l (Err c.in-Err.error)) (sym c.in-Err.is) ((c.shut.result, c.shut.ensures.gives), refl))
