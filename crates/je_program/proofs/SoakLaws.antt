-- The lines of a soak are lines of a script.
use Rattle.std.proofs.Common.{◌≡◌, ◌&&◌, ◌+◌, ◌==◌, ℕ, zero, suc, Bool, true, false, not, List, [], ◌∷◌, ◌++◌, length, refl, ap, arith}
use Rattle.std.specs.Prelude.{◌%◌, ◌/◌, ◌-◌, if◌then◌else◌}
use Rattle.std.specs.List.{list_all}
use Rattle.std.proofs.lemmas.Bool.{eqb-true}
use Rattle.script_text.specs.Grammar.{is_line}
use Rattle.store_model.specs.declared.plan.ScriptLine.{ScriptLine}
use Rattle.store_model.specs.declared.plan.ScriptLine.TheVariants.{Maintenance}
use Rattle.soak_plan.specs.declared.soak_state.SoakState.{SoakState}
use Rattle.soak_plan.specs.declared.soaking.TheConstants.{ROUNDS}
use Rattle.soak_plan.specs.Rounds.{next_round, rounds_from, soak_of, step_in_turn, step_lines}

all_joined : (xs ys : List ScriptLine) → list_all is_line xs ≡ true → list_all is_line ys ≡ true → list_all is_line (xs ++ ys) ≡ true
all_joined [] ys first later = later
all_joined (x ∷ xs) ys first later = by_test (is_line x) first (all_joined xs ys)
  where
    by_test : (b : Bool) → (b && list_all is_line xs) ≡ true → (list_all is_line xs ≡ true → list_all is_line ys ≡ true → list_all is_line (xs ++ ys) ≡ true) → (b && list_all is_line (xs ++ ys)) ≡ true
    by_test true first rest = rest first later
    by_test false first rest = cc

numbered : (line : ℕ) → (line + 1 == 0) ≡ false
numbered line = by_test (line + 1 == 0) refl
  where
    by_test : (b : Bool) → (line + 1 == 0) ≡ b → b ≡ false
    by_test false is = refl
    by_test true is = (let none = eqb-true (line + 1) 0 is in absurd (omega (arith, none)))

steps_are_lines : (round line : ℕ) → list_all is_line (step_lines round (line + 1)) ≡ true
steps_are_lines round line = by_test (round % 10 == 0)
  where
    by_test : (b : Bool) → list_all is_line (if b then Maintenance (line + 1) (step_in_turn (round / 10 - 1)) ∷ [] else []) ≡ true
    by_test true = ap (λ (b : Bool). not b && true) (numbered line)
    by_test false = refl

rounds_are_lines : (left round line : ℕ) (s : SoakState) → list_all is_line (rounds_from left round line s) ≡ true
unfolding rounds_from
rounds_are_lines zero round line s = refl
rounds_are_lines (suc left) round line s =
    let steps = step_lines round (line + 1) in
    all_joined steps (rounds_from left (round + 1) (line + 1 + length steps) (next_round s).after) (steps_are_lines round line)
    (rounds_are_lines left (round + 1) (line + 1 + length steps) (next_round s).after)

pub soak_lines : (seed : ℕ) → list_all is_line (soak_of seed) ≡ true
soak_lines seed = rounds_are_lines ROUNDS 1 3 (record { number = seed; begun = false ∷ false ∷ false ∷ false ∷ [] })
