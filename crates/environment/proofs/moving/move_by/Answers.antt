use Rattle.std.proofs.Common.{Option, subst}
use Rattle.environment.specs.declared.moving.Move.{Move}
use Rattle.environment.specs.Access.{Moves}
use Rattle.environment.proofs.PlacesLaws.{stands_moved, stands_unmoved}
use Rattle.environment.proofs.moving.move_by.Goals as goal

pub returns-in-None : goal.returns-in-None
returns-in-None c st a call place moves at = stands_unmoved c.args.sessions.now st a call place (subst (λ (o : Option Move). Moves a.session call place o) c.in-None.is moves) at

pub returns-in-Some : goal.returns-in-Some
returns-in-Some c st a call place moves at =
    stands_moved c.move_cursor.new.self st a call place c.in-Some.moved (subst (λ (o : Option Move). Moves a.session call place o) c.in-Some.is moves) (c.move_cursor.ensures.stands st at)
