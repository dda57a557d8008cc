-- One round of a soak more.
use Rattle.std.proofs.Common.{◌≡◌, ◌==◌, ◌+◌, ◌-◌, ◌<◌, ◌≤◌, ◌++◌, ◌∷◌, [], ℕ, zero, suc, Bool, true, false, List, length, sym, ap, refl, ◌∙◌, append_assoc, length-append, arith}
use Rattle.std.specs.Prelude.{◌/◌, ◌%◌, if◌then◌else◌}
use Rattle.std.proofs.lemmas.Bool.{eqb-false, eqb-true}
use Rattle.std.proofs.lemmas.List.{append-nil}
use Rattle.store_model.specs.declared.plan.ScriptLine.{ScriptLine}
use Rattle.store_model.specs.declared.plan.ScriptLine.TheVariants.{Maintenance, Session}
use Rattle.soak_plan.specs.declared.soak_state.SoakState.{SoakState}
use Rattle.soak_plan.specs.declared.round.Round.{Round}
use Rattle.soak_plan.specs.Rounds.{next_round, rounds_from, soak_of, step_in_turn, step_lines}

one_more : (all lines : List ScriptLine) (left round line : ℕ) (s : SoakState) → all ≡ lines ++ rounds_from (suc left) round line s →
    all ≡ ((lines ++ Session (next_round s).session line (next_round s).call ∷ []) ++ step_lines round (line + 1)) ++ rounds_from left (round + 1) (line + 1 + length (step_lines round (line + 1))) (next_round s).after
unfolding rounds_from
one_more all lines left round line s e =
    let call : List ScriptLine = Session (next_round s).session line (next_round s).call ∷ [] in
    let steps : List ScriptLine = step_lines round (line + 1) in
    let rest : List ScriptLine = rounds_from left (round + 1) (line + 1 + length steps) (next_round s).after in
    e ∙ sym (append_assoc lines call (steps ++ rest)) ∙ sym (append_assoc (lines ++ call) steps rest)

pub few_steps : (round line : ℕ) → length (step_lines round line) ≤ 1
few_steps round line = grind (arith)

-- behind a round
pub round_done : (all lines : List ScriptLine) (done line : ℕ) (s : SoakState) (it : Round) → done < 4000 → it ≡ next_round s → all ≡ lines ++ rounds_from (4000 - done) (done + 1) line s →
    all ≡ ((lines ++ Session it.session line it.call ∷ []) ++ step_lines (done + 1) (line + 1)) ++ rounds_from (4000 - (done + 1)) (done + 1 + 1) (line + 1 + length (step_lines (done + 1) (line + 1))) it.after
round_done all lines done line s it within is e =
    let next : 4000 - done ≡ suc (4000 - (done + 1)) = omega arith in
    rw is (one_more all lines (4000 - (done + 1)) (done + 1) line s (rw next at e))

pub all_done : (all lines : List ScriptLine) (done line : ℕ) (s : SoakState) → 4000 ≤ done → all ≡ lines ++ rounds_from (4000 - done) (done + 1) line s → lines ≡ all
unfolding rounds_from
all_done all lines done line s past e =
    let none : 4000 - done ≡ 0 = omega arith in
    sym (append-nil lines) ∙ sym (rw none at e)

-- ---- how many lines there are

steps_length : (round line : ℕ) → 0 < round → length (step_lines round line) + (round - 1) / 10 ≡ round / 10
steps_length round line some = by_test (round % 10 == 0) refl
  where
    by_test : (b : Bool) → (round % 10 == 0) ≡ b → length (if b then Maintenance line (step_in_turn (round / 10 - 1)) ∷ [] else []) + (round - 1) / 10 ≡ round / 10
    by_test true is = (let even = eqb-true (round % 10) 0 is in omega (arith, even, some))
    by_test false is = (let odd = eqb-false (round % 10) 0 is in omega (arith, odd, some))

rounds_length : (left round line : ℕ) (s : SoakState) → 0 < round → length (rounds_from left round line s) + (round - 1) / 10 ≡ left + (round - 1 + left) / 10
unfolding rounds_from
rounds_length zero round line s some = omega arith
rounds_length (suc left) round line s some =
    let steps = step_lines round (line + 1) in
    let rest = rounds_from left (round + 1) (line + 1 + length steps) (next_round s).after in
    let here = steps_length round (line + 1) some in
    let later = rounds_length left (round + 1) (line + 1 + length steps) (next_round s).after (omega arith) in
    let both = length-append steps rest in
    omega (arith, here, later, both, some)

pub soak_length : (seed : ℕ) → length (soak_of seed) ≡ 4402
soak_length seed =
    let all = rounds_length 4000 1 3 (record { number = seed; begun = false ∷ false ∷ false ∷ false ∷ [] }) (omega arith) in
    omega (arith, all)
