-- The steps of a script's plan have the numbers of lines.
use Rattle.std.proofs.Common.{◌≡◌, ◌+◌, ◌==◌, ℕ, List, [], ◌∷◌, ◌++◌, Bool, true, false, cond, not, nat_lt, Option, Some, None, Result, Ok, Err, option_to_list, refl, subst, arith}
use Rattle.std.specs.Prelude.{IfOk, codes, ◌||◌}
use Rattle.std.specs.Str.{bytes_eq}
use Rattle.std.specs.List.{list_all}
use Rattle.std.proofs.lemmas.Bool.{and_parts, and_from}
use Rattle.std.proofs.lemmas.Bool.Decides.{nat_tests}
use Rattle.store_model.specs.declared.call.Call.{Call}
use Rattle.store_model.specs.declared.plan.ScriptLine.{ScriptLine}
use Rattle.store_model.specs.declared.plan.ScriptLine.TheVariants.{Session, Maintenance}
use Rattle.store_model.specs.declared.step.Step.{Step}
use Rattle.store_model.specs.declared.plan.RunPlan.{RunPlan}
use Rattle.script_text.specs.declared.parsing.TheConstants.{MOST_LINES}
use Rattle.script_text.specs.declared.parsing.ParseErr.{ParseErr}
use Rattle.script_text.specs.Words.{words_of}
use Rattle.text_lines.specs.Lines.{text_lines}
use Rattle.script_text.specs.Grammar.{session_of, call_of, step_of, maintained_by, maintenance_of, given_by, session_line, given_of, is_skipped, good_or_bad, line_gives, and_then, lines_give, as_plan, plan_of, Gives, is_line}

some_is : {A : Type 0} (x y : A) → (let o : Option A = Some x in o) ≡ Some y → x ≡ y
some_is x y e = cc

-- ---- lines

-- what is given are such calls
abbrev AreLines : List ScriptLine → Type 0
AreLines given = list_all is_line given ≡ true

given_by_scripted : (line : ℕ) (session : Option ℕ) (call : Option Call) (given : ScriptLine) → given_by line session call ≡ Some given → AreLines (given ∷ [])
given_by_scripted line (Some session) (Some call) given e = subst (λ (g : ScriptLine). AreLines (g ∷ [])) (some_is (Session session line call) given e) refl
given_by_scripted line (Some session) None given e = cc
given_by_scripted line None call given e = cc

session_scripted : (line : ℕ) (session : List ℕ) (words : List (List ℕ)) (given : ScriptLine) → session_line line session words ≡ Some given → AreLines (given ∷ [])
session_scripted line session [] given e = cc
session_scripted line session (verb ∷ words) given e = given_by_scripted line (session_of session) (call_of verb words) given e

-- a line's number is not 0
abbrev IsNumber : ℕ → Type 0
IsNumber line = not (line == 0) ≡ true

next_number : (line : ℕ) → IsNumber (line + 1)
next_number line = grind (arith, nat_tests)

maintained_scripted : (line : ℕ) (step : Option Step) (given : ScriptLine) → IsNumber line → maintained_by line step ≡ Some given → AreLines (given ∷ [])
maintained_scripted line (Some step) given n e =
    subst (λ (g : ScriptLine). AreLines (g ∷ [])) (some_is (Maintenance line step) given e) (and_from (not (line == 0)) true n refl)
maintained_scripted line None given n e = cc

maintenance_scripted : (line : ℕ) (words : List (List ℕ)) (given : ScriptLine) → IsNumber line → maintenance_of line words ≡ Some given → AreLines (given ∷ [])
maintenance_scripted line [] given n e = cc
maintenance_scripted line (step ∷ []) given n e = maintained_scripted line (step_of step) given n e
maintenance_scripted line (step ∷ more ∷ words) given n e = cc

one_of : (b : Bool) (first other : Option ScriptLine) (given : ScriptLine) → (first ≡ Some given → AreLines (given ∷ [])) → (other ≡ Some given → AreLines (given ∷ [])) → cond b first other ≡ Some given →
    AreLines (given ∷ [])
one_of true first other given h k e = h e
one_of false first other given h k e = k e

given_scripted : (line : ℕ) (words : List (List ℕ)) (given : ScriptLine) → IsNumber line → given_of line words ≡ Some given → AreLines (given ∷ [])
given_scripted line [] given n e = cc
given_scripted line (giver ∷ words) given n e =
    one_of (bytes_eq giver (codes "m")) (maintenance_of line words) (session_line line giver words) given (λ s. maintenance_scripted line words given n s) (λ s. session_scripted line giver words given s) e

ok_is : {A : Type 0} (x y : A) → (let r : Result A ℕ = Ok x in r) ≡ Ok y → x ≡ y
ok_is x y e = cc

good_scripted : (line : ℕ) (found given : Option ScriptLine) → ((g : ScriptLine) → found ≡ Some g → AreLines (g ∷ [])) → good_or_bad line found ≡ Ok given → AreLines (option_to_list given)
good_scripted line (Some found) given h e = subst (λ (o : Option ScriptLine). AreLines (option_to_list o)) (ok_is (Some found) given e) (h found refl)
good_scripted line None given h e = cc

skipped_or : (skipped : Bool) (rest : Result (Option ScriptLine) ℕ) (given : Option ScriptLine) → (rest ≡ Ok given → AreLines (option_to_list given)) → cond skipped (Ok None) rest ≡ Ok given → AreLines (option_to_list given)
skipped_or true rest given h e = subst (λ (o : Option ScriptLine). AreLines (option_to_list o)) (ok_is None given e) refl
skipped_or false rest given h e = h e

not_bad : (bad : Bool) (line : ℕ) (rest : Result (Option ScriptLine) ℕ) (given : Option ScriptLine) → (rest ≡ Ok given → AreLines (option_to_list given)) → cond bad (Err line) rest ≡ Ok given → AreLines (option_to_list given)
not_bad true line rest given h e = cc
not_bad false line rest given h e = h e

line_scripted : (line : ℕ) (text : List ℕ) (given : Option ScriptLine) → IsNumber line → line_gives line text ≡ Ok given → AreLines (option_to_list given)
line_scripted line text given n e =
    not_bad (nat_lt MOST_LINES line || not (list_all (λ c. nat_lt c 128) text)) line (cond (is_skipped text) (Ok None) (good_or_bad line (given_of line (words_of text)))) given
    (λ s. skipped_or (is_skipped text) (good_or_bad line (given_of line (words_of text))) given
    (λ t. good_scripted line (given_of line (words_of text)) given (λ g u. given_scripted line (words_of text) g n u) t) s) e

lines_append : (first second : List ScriptLine) → AreLines first → AreLines second → AreLines (first ++ second)
lines_append [] second h k = k
lines_append (given ∷ first) second h k =
    let s = and_parts (is_line given) (list_all is_line first) h in
    and_from (is_line given) (list_all is_line (first ++ second)) s.0 (lines_append first second s.1 k)

then_scripted : (first : Result (Option ScriptLine) ℕ) (rest : Result (List ScriptLine) ℕ) (given : List ScriptLine) →
    ((g : Option ScriptLine) → first ≡ Ok g → AreLines (option_to_list g)) → ((others : List ScriptLine) → rest ≡ Ok others → AreLines others) →
    and_then first rest ≡ Ok given → AreLines given
then_scripted (Ok g) (Ok others) given h k e = subst AreLines (ok_is (option_to_list g ++ others) given e) (lines_append (option_to_list g) others (h g refl) (k others refl))
then_scripted (Ok g) (Err line) given h k e = cc
then_scripted (Err line) rest given h k e = cc

lines_scripted : (line : ℕ) (texts : List (List ℕ)) (given : List ScriptLine) → IsNumber line → lines_give line texts ≡ Ok given → AreLines given
lines_scripted line [] given n e = subst AreLines (ok_is [] given e) refl
lines_scripted line (text ∷ texts) given n e =
    then_scripted (line_gives line text) (lines_give (line + 1) texts) given (λ g s. line_scripted line text g n s) (λ others s. lines_scripted (line + 1) texts others (next_number line) s) e

-- ---- scripts

plan_scripted : (given : Result (List ScriptLine) ℕ) (plan : RunPlan) → ((lines : List ScriptLine) → given ≡ Ok lines → AreLines lines) → as_plan given ≡ Ok plan → AreLines plan.lines
plan_scripted (Ok lines) plan h e =
    let whole : RunPlan = record { lines = lines } in
    subst (λ (p : RunPlan). AreLines p.lines) (ok_is whole plan e) (h lines refl)
plan_scripted (Err line) plan h e = cc

pub scripted_if : (input : List ℕ) (result : Result RunPlan ParseErr) → Gives result (plan_of input) → IfOk result (λ plan. list_all is_line plan.lines ≡ true)
scripted_if input (Ok plan) says = plan_scripted (lines_give 1 (text_lines input)) plan (λ lines s. lines_scripted 1 (text_lines input) lines refl s) says
scripted_if input (Err e) says = tt
