use Rattle.environment.proofs.PlacesLaws.{moves_none, moves_some}
use Rattle.environment.proofs.moving.move_of.Goals as goal

pub returns-in-None : goal.returns-in-None
returns-in-None c = moves_none c.args.session c.args.call.now c.args.place c.cursor_of.result c.cursor_of.ensures c.in-None.is

pub returns-in-Some : goal.returns-in-Some
returns-in-Some c = moves_some c.args.session c.in-Some.cursor c.args.call.now c.args.place c.cursor_of.result c.cursor_of.ensures c.in-Some.is
