use Rattle.std.proofs.Common.{ℕ, List, [], Bool, true, false, nat_lt, ◌≡◌, refl, sym, subst}
use Rattle.std.specs.Prelude.{slice_index_or}
use Rattle.std.proofs.lemmas.Bool.{ltb-true, ltb-false}
use Rattle.script_run.specs.Lines.{HasGiven}
use Rattle.store_model.specs.declared.event.Event.{Event}
use Rattle.script_run.specs.Ends.{AreEndsStopped}
use Rattle.script_run.specs.declared.recorded.Recorded.{Recorded}
use Rattle.script_run.proofs.Growing.{until_longer}
use Rattle.script_run.proofs.Resting.{not_ended}
use Rattle.script_run.proofs.RunLaws.{started, starts_calm}
use Rattle.script_run.proofs.running.run_until.Goals as goal

pub execute_all-requires-clause-here : goal.execute_all-requires-clause-here
execute_all-requires-clause-here g c =
    let s = c.requires.start in
    let x : Recorded g.row.D.Denot = record { environment = c.args.environment; journal = c.journal_for.result } in
    let none = sym c.journal_for.ensures in (
      s.0,
      started g.D.Disk.meaning s.0 x none s.1,
      λ halted. starts_calm g.D.Disk.meaning s.0 x none s.1,
    )

pub execute_all-requires-clause-given : goal.execute_all-requires-clause-given
execute_all-requires-clause-given g c =
    subst (λ (journal : List Event). HasGiven journal false c.all_sessions.result false []) (sym c.journal_for.ensures)
    (record {
      all = λ going. refl;
      none_stopped = λ going session. by session (nat_lt session 256) refl;
      each = λ session going. refl;
      front = λ session. ([], refl);
      steps_going = λ going. refl;
      steps = λ going. refl;
      front_steps = ([], refl);
    })
  where
    by : (session : ℕ) → (b : Bool) → nat_lt session 256 ≡ b → slice_index_or c.all_sessions.result session false ≡ false
    by session true is = c.all_sessions.ensures.each session (ltb-true session 256 is)
    by session false is = c.all_sessions.ensures.past session (ltb-false session 256 is)

pub execute_all-requires-clause-none : goal.execute_all-requires-clause-none
execute_all-requires-clause-none g c = c.journal_for.ensures

pub end_sessions-requires-clause-here : goal.end_sessions-requires-clause-here
end_sessions-requires-clause-here g c =
    let s = c.requires.start in
    let x : Recorded g.row.D.Denot = record { environment = c.args.environment; journal = c.journal_for.result } in
    let none = sym c.journal_for.ensures in
    let under = started g.D.Disk.meaning s.0 x none s.1 in
    let calm = starts_calm g.D.Disk.meaning s.0 x none s.1 in
    (s.0, c.execute_all.ensures.goes_on s.0 under (λ halted. calm), c.execute_all.ensures.calm s.0 under (λ halted. calm))

pub returns-clause-goes_on : goal.returns-clause-goes_on
returns-clause-goes_on g c = λ p begins.
    let x : Recorded g.row.D.Denot = record { environment = c.args.environment; journal = c.journal_for.result } in
    let none = sym c.journal_for.ensures in
    let under = started g.D.Disk.meaning p x none begins in
    let calm = starts_calm g.D.Disk.meaning p x none begins in
    c.end_sessions.ensures.goes_on p (c.execute_all.ensures.goes_on p under (λ halted. calm)) (c.execute_all.ensures.calm p under (λ halted. calm))

pub returns-clause-calm : goal.returns-clause-calm
returns-clause-calm g c = λ p begins memory.
    let x : Recorded g.row.D.Denot = record { environment = c.args.environment; journal = c.journal_for.result } in
    let none = sym c.journal_for.ensures in
    let under = started g.D.Disk.meaning p x none begins in
    let calm = starts_calm g.D.Disk.meaning p x none begins in
    c.end_sessions.ensures.calm p (c.execute_all.ensures.goes_on p under (λ halted. calm)) (c.execute_all.ensures.calm p under (λ halted. calm))
    (not_ended c.end_sessions.new.self c.end_sessions.ensures.flags memory)

pub returns-clause-ended : goal.returns-clause-ended
returns-clause-ended g c = λ p begins memory.
    let x : Recorded g.row.D.Denot = record { environment = c.args.environment; journal = c.journal_for.result } in
    let none = sym c.journal_for.ensures in
    let under = started g.D.Disk.meaning p x none begins in
    let calm = starts_calm g.D.Disk.meaning p x none begins in
    c.end_sessions.ensures.ended p (c.execute_all.ensures.goes_on p under (λ halted. calm)) (c.execute_all.ensures.calm p under (λ halted. calm))
    (not_ended c.end_sessions.new.self c.end_sessions.ensures.flags memory)

pub returns-clause-ends : goal.returns-clause-ends
returns-clause-ends g c = λ p begins.
    let x : Recorded g.row.D.Denot = record { environment = c.args.environment; journal = c.journal_for.result } in
    let none = sym c.journal_for.ensures in
    let under = started g.D.Disk.meaning p x none begins in
    let calm = starts_calm g.D.Disk.meaning p x none begins in
    c.end_sessions.ensures.ends p (c.execute_all.ensures.goes_on p under (λ halted. calm)) (c.execute_all.ensures.calm p under (λ halted. calm))
    (c.execute_all.ensures.ends (subst (λ (l : List Event). AreEndsStopped c.all_sessions.result l) none tt))

pub returns-clause-given : goal.returns-clause-given
returns-clause-given g c =
    until_longer c.args.pause c.execute_all.new.self c.end_sessions.new.self c.args.lines.items c.end_sessions.ensures.grew c.end_sessions.ensures.given c.execute_all.ensures.given
