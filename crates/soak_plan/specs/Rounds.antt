-- The script of a seed.
use Rattle.std.specs.Prelude.{ℕ, zero, suc, ◌+◌, ◌-◌, ◌/◌, ◌%◌, ◌==◌, ◌||◌, ◌∷◌, ◌++◌, [], codes, length, slice_index_or, slice_set, List, Bool, true, false, if◌then◌else◌}
use Rattle.store_model.specs.declared.call.Call.{Call}
use Rattle.store_model.specs.declared.call.Call.TheVariants.{Begin, Commit, Create, Put, Get, Delete}
use Rattle.store_model.specs.declared.isolation.Isolation.{Isolation}
use Rattle.store_model.specs.declared.isolation.Isolation.TheVariants.{ReadUncommitted, ReadCommitted, RepeatableRead, Serializable}
use Rattle.store_model.specs.declared.durability.Durability.TheVariants.{NoSync}
use Rattle.store_model.specs.declared.kind.Kind.TheVariants.{Plain, Dup}
use Rattle.store_model.specs.declared.put_mode.PutMode.TheVariants.{Overwrite}
use Rattle.store_model.specs.declared.plan.ScriptLine.{ScriptLine}
use Rattle.store_model.specs.declared.plan.ScriptLine.TheVariants.{Session, Maintenance}
use Rattle.store_model.specs.declared.step.Step.{Step}
use Rattle.store_model.specs.declared.step.Step.TheVariants.{Begin as BeginStep, Flush, Finish, Sync as SyncStep}
use Rattle.soak_plan.specs.declared.soak_state.SoakState.{SoakState}
use Rattle.soak_plan.specs.declared.round.Round.{Round}
use Rattle.soak_plan.specs.declared.drawn_call.DrawnCall.{DrawnCall}
use Rattle.soak_plan.specs.declared.soaking.TheConstants.{ROUNDS}
use Rattle.soak_plan.specs.Drawing.{drawn, next_number}

-- the isolation level of a draw of 4
abbrev pub level_drawn : ℕ → Isolation
level_drawn draw =
    if draw == 0 then ReadUncommitted
    else if draw == 1 then ReadCommitted
    else if draw == 2 then RepeatableRead
    else Serializable

-- with draw 4 a key of `t` is read, else it is deleted
abbrev pub keyed_call : ℕ → ℕ → Call
keyed_call draw key = if draw == 4 then Get (codes "t") (key ∷ []) false else Delete (codes "t") (key ∷ [])

-- with draw 6 a pair is put into `u`, else into `t`
abbrev pub put_drawn : ℕ → ℕ → ℕ → Call
put_drawn draw key value = Put (if draw == 6 then codes "u" else codes "t") (key ∷ []) (value ∷ []) Overwrite

-- a call, and the last number that was drawn for it
abbrev pub drawn_with : Call → ℕ → DrawnCall
drawn_with call number = record { call = call; number = number }

-- the call of a session that has a transaction, by a draw of 8: with 7 it commits; else one of 64 keys is drawn, and then for a put one of
-- 256 bytes of data
abbrev pub call_in_transaction : ℕ → ℕ → DrawnCall
call_in_transaction draw number =
    let second = next_number number in
    let third = next_number second in
    if draw == 7 then drawn_with Commit number
    else if (draw == 4) || (draw == 5) then drawn_with (keyed_call draw (drawn 64 second)) second
    else drawn_with (put_drawn draw (drawn 64 second) (drawn 256 third)) third

-- the call of a session: one that has no transaction begins one that neither syncs nor waits, its level by a draw of 4
abbrev pub call_drawn : Bool → ℕ → DrawnCall
call_drawn true number = call_in_transaction (drawn 8 (next_number number)) (next_number number)
call_drawn false number = drawn_with (Begin (level_drawn (drawn 4 (next_number number))) NoSync false) (next_number number)

-- a session has a transaction after each of these calls but a commit
abbrev pub has_begun_after : Call → Bool
has_begun_after Commit = false
has_begun_after call = true

-- the round of the session at this place in the list, with the call drawn for it
abbrev pub round_with : ℕ → List Bool → DrawnCall → Round
round_with at begun it = record {
  session = at + 1;
  call = it.call;
  after = record { number = it.number; begun = slice_set begun at (has_begun_after it.call) };
}

-- a round: a session is drawn, and then its call
abbrev pub next_round : SoakState → Round
next_round state =
    let first = next_number state.number in
    let at = drawn 4 first in
    round_with at state.begun (call_drawn (slice_index_or state.begun at false) first)

-- the step of maintenance after so many others: each in turn, and then again from the first
abbrev pub step_in_turn : ℕ → Step
step_in_turn before =
    if before % 4 == 0 then BeginStep
    else if before % 4 == 1 then Flush
    else if before % 4 == 2 then Finish
    else SyncStep

-- after each tenth round comes a line of maintenance
abbrev pub step_lines : ℕ → ℕ → List ScriptLine
step_lines round line = if round % 10 == 0 then Maintenance line (step_in_turn (round / 10 - 1)) ∷ [] else []

-- the lines of so many rounds, of which the first has this number and stands in this line
unfoldable pub rounds_from : ℕ → ℕ → ℕ → SoakState → List ScriptLine
rounds_from zero round line state = []
rounds_from (suc left) round line state =
    let it = next_round state in
    let steps = step_lines round (line + 1) in
    Session it.session line it.call ∷ steps ++ rounds_from left (round + 1) (line + 1 + length steps) it.after

-- two databases are made first
abbrev pub first_lines : List ScriptLine
first_lines = Session 1 1 (Create (codes "t") Plain) ∷ Session 1 2 (Create (codes "u") Dup) ∷ []

-- the script of a seed: at first no session has a transaction
abbrev pub soak_of : ℕ → List ScriptLine
soak_of seed = first_lines ++ rounds_from ROUNDS 1 3 (record { number = seed; begun = false ∷ false ∷ false ∷ false ∷ [] })
