use Rattle.std.proofs.Common.{ap, sym, ◌∙◌}
use Rattle.std.specs.List.{list_any}
use Rattle.script_run.specs.Pauses.{pauses}
use Rattle.script_run.proofs.Growing.{behind_slice, going_on, paused_among, stops_then}
use Rattle.script_run.proofs.running.Running.execute_until.Goals as goal

pub returns-clause-stops : goal.returns-clause-stops
returns-clause-stops g c = λ none. stops_then c.args.pause c.args.self.now.recorded.journal.items c.execute_next.new.self.recorded.journal.items c.execute_next.ensures.grew none

pub returns-clause-paused : goal.returns-clause-paused
returns-clause-paused g c = λ paused.
    let old = c.args.self.now.recorded.journal.items in
    let new = c.execute_next.new.self.recorded.journal.items in
    paused_among c.args.pause 1 old new c.execute_next.ensures.grew
    (sym (ap (list_any (pauses c.args.pause)) (behind_slice old new c.deref.result.now c.len-before.result (c.len-before.ensures ∙ c.args.self.now.recorded.journal.ok.0) c.deref.ensures.value)) ∙ sym c.pauses_in.ensures ∙ paused)

pub returns-clause-going : goal.returns-clause-going
returns-clause-going g c = λ going none.
    let old = c.args.self.now.recorded.journal.items in
    let new = c.execute_next.new.self.recorded.journal.items in
    going_on c.args.pause 1 old new c.execute_next.ensures.grew
    (sym (ap (list_any (pauses c.args.pause)) (behind_slice old new c.deref.result.now c.len-before.result (c.len-before.ensures ∙ c.args.self.now.recorded.journal.ok.0) c.deref.ensures.value)) ∙ sym c.pauses_in.ensures ∙ going) none
