use Rattle.std.proofs.Common.{vec_capacity, refl, ◌∙◌}
use Rattle.sessions.proofs.Tells.{telling_begins, telling_victim, telling_goes_on}
use Rattle.sessions.proofs.telling.tell_each.Goals as goal

pub loop-victim-init : goal.loop-victim-init
loop-victim-init c =
    let s = c.requires.spare in
    ((s.0, telling_begins c.args.waiting.now c.args.victims.items s.0 c.args.txns.now.actives.items c.args.told.items (vec_capacity c.args.told) c.args.buffers.items c.requires.none c.requires.own s.1 s.2 c.requires.room), refl)

pub tell_one-requires-clause-spare : goal.tell_one-requires-clause-spare
tell_one-requires-clause-spare c =
    telling_victim c.args.waiting.now c.args.victims.items c.loop-victim.victims.items c.pop.new.self.items c.in-Some.victim _ c.args.txns.now.actives.items c.loop-victim.txns.actives.items c.loop-victim.told.items _ c.loop-victim.buffers.items
    c.in-Some.ensures.items c.loop-victim.invariant.0.1

pub loop-victim-preserved : goal.loop-victim-preserved
loop-victim-preserved c =
    let t = c.tell_one.ensures in (
      (
        c.loop-victim.invariant.0.0,
        telling_goes_on c.args.waiting.now c.args.victims.items c.loop-victim.victims.items c.pop.new.self.items c.in-Some.victim _ c.args.txns.now.actives.items c.loop-victim.txns.actives.items c.tell_one.new.txns.actives.items
            c.loop-victim.told.items c.tell_one.new.told.items _ _ c.loop-victim.buffers.items c.tell_one.new.buffers.items c.in-Some.ensures.items t.told t.room t.actives t.left c.loop-victim.invariant.0.1,
      ),
      t.own ∙ c.loop-victim.invariant.1,
    )
