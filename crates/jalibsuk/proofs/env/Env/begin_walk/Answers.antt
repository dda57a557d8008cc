use Rattle.jalibsuk.proofs.CursorLaws.{begun_at}
use Rattle.jalibsuk.proofs.env.Env.begin_walk.Goals as goal

pub returns-in-Ok-clause-walks : goal.returns-in-Ok-clause-walks
returns-in-Ok-clause-walks g c = (
  _,
  c.open_number.result,
  c.open_number.ensures.opens,
  begun_at g.D.Disk.meaning c.args.direction c.args.keys c.args.session c.in-Ok.number _ c.in-Ok.is _ c.place_of.ensures _ c.walk_of.ensures _ _ _ c.place.ensures.places,
)
