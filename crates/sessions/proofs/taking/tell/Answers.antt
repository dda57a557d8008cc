use Rattle.std.proofs.Common.{List, not, length, ◌+◌, ap₂, ◌∙◌}
use Rattle.std.specs.List.{filter}
use Rattle.store_model.specs.declared.victim.Victim.{Victim}
use Rattle.je_answers.specs.declared.wait.Wait.{Wait}
use Rattle.je_answers.specs.After.{is_victim}
use Rattle.sessions.proofs.Tells.{put_in, left_spare}
use Rattle.sessions.proofs.taking.tell.Goals as goal

pub tell_each-victims-requires-clause-spare : goal.tell_each-victims-requires-clause-spare
tell_each-victims-requires-clause-spare c =
    let size = length c.args.sessions.now.waiting.items + 1 in
    (size, left_spare size (length c.args.blocked.victims.items) c.args.room.buffers.items c.answer_of-answer.new.buffers.items c.requires.few c.requires.room.spare c.answer_of-answer.ensures.left, c.requires.short)

pub returns-clause-waiting : goal.returns-clause-waiting
returns-clause-waiting c =
    c.leave_victims_out.ensures
    ∙ ap₂ (λ (vs : List Victim) (ws : List Wait). filter (λ w. not (is_victim w.session vs)) ws) c.as_slice-3.ensures.value (put_in c.push.result _ _ c.push.new.self.items c.push.ensures.items (c.push.ensures.succeeds c.requires.place))
