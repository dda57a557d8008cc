use Rattle.std.proofs.Common.{refl}
use Rattle.je_answers.specs.Events.{auto_active, begun}
use Rattle.environment.proofs.AutoChanges.{knows_there, may_be_made, on_there, same_txn, so_planned, sound_there, valid_there}
use Rattle.environment.proofs.environment.Environment.plan_alone.Goals as goal

pub plan_outcome-requires : goal.plan_outcome-requires
plan_outcome-requires g c =
    let h = c.requires.here in
    let e = c.args.self.now in
    let st = h.2 in
    let may = h.4 in
    let on = h.5 in
    record {
      here = (
        begun st h.1,
        auto_active st h.1,
        h.3,
        valid_there h.0 g.D.Disk.meaning e st h.1 c.args.call.now c.args.db.now c.args.found h.3 may on,
        knows_there h.0 g.D.Disk.meaning e st h.1 c.args.call.now c.args.db.now c.args.found h.3 may on,
        sound_there h.0 g.D.Disk.meaning e st h.1 c.args.call.now c.args.db.now c.args.found h.3 may on,
        on_there h.0 g.D.Disk.meaning e st h.1 c.args.call.now c.args.db.now c.args.found h.3 may on,
        may.stands,
        same_txn h.0 g.D.Disk.meaning e st h.1 c.args.call.now c.args.db.now c.args.found h.3 may on,
        refl,
      );
    }

pub returns : goal.returns
returns g c = record {
  plans = λ most session st t may on.
      let e = c.args.self.now in
      so_planned _ _ c.plan_outcome.result
      (λ p is.
      is (begun st session) (auto_active st session) t
      (valid_there most g.D.Disk.meaning e st session c.args.call.now c.args.db.now c.args.found t may on)
      (knows_there most g.D.Disk.meaning e st session c.args.call.now c.args.db.now c.args.found t may on)
      (sound_there most g.D.Disk.meaning e st session c.args.call.now c.args.db.now c.args.found t may on)
      (on_there most g.D.Disk.meaning e st session c.args.call.now c.args.db.now c.args.found t may on) may.stands
      (same_txn most g.D.Disk.meaning e st session c.args.call.now c.args.db.now c.args.found t may on) refl) c.plan_outcome.ensures;
  may = λ most session st t may on. may_be_made most g.D.Disk.meaning c.args.self.now st session c.args.call.now c.args.db.now c.args.found t may on c.are_ordered.ensures;
}
