-- What the lines of a script give, one line after another.
use Rattle.std.proofs.Common.{◌≡◌, ◌+◌, ℕ, List, ◌∷◌, ◌++◌, Option, Result, Ok, Err, option_to_list, refl, sym, ap, ◌∙◌, append_assoc}
use Rattle.store_model.specs.declared.plan.ScriptLine.{ScriptLine}
use Rattle.text_lines.specs.Lines.{text_lines}
use Rattle.script_text.specs.Grammar.{lines_give, line_gives, and_then}

-- what was given before, and then what others give
abbrev pub with_front : List ScriptLine → Result (List ScriptLine) ℕ → Result (List ScriptLine) ℕ
with_front front (Ok others) = Ok (front ++ others)
with_front front (Err line) = Err line

-- one more line is read
with_front-and_then : (front : List ScriptLine) (given : Option ScriptLine) (others : Result (List ScriptLine) ℕ) →
    with_front front (and_then (Ok given) others) ≡ with_front (front ++ option_to_list given) others
with_front-and_then front given (Ok others) = ap (λ l. Ok l) (sym (append_assoc front (option_to_list given) others))
with_front-and_then front given (Err line) = refl

pub good_line : (all : Result (List ScriptLine) ℕ) (front : List ScriptLine) (line : ℕ) (rest text behind : List ℕ) (given : Option ScriptLine) →
    all ≡ with_front front (lines_give line (text_lines rest)) → text_lines rest ≡ text ∷ text_lines behind → line_gives line text ≡ Ok given →
    all ≡ with_front (front ++ option_to_list given) (lines_give (line + 1) (text_lines behind))
good_line all front line rest text behind given e cut good =
    e ∙ ap (λ l. with_front front (lines_give line l)) cut
    ∙ ap (λ g. with_front front (and_then g (lines_give (line + 1) (text_lines behind)))) good
    ∙ with_front-and_then front given (lines_give (line + 1) (text_lines behind))

pub bad_line : (all : Result (List ScriptLine) ℕ) (front : List ScriptLine) (line : ℕ) (rest text behind : List ℕ) (bad : ℕ) →
    all ≡ with_front front (lines_give line (text_lines rest)) → text_lines rest ≡ text ∷ text_lines behind → line_gives line text ≡ Err bad →
    all ≡ Err bad
bad_line all front line rest text behind bad e cut was =
    e ∙ ap (λ l. with_front front (lines_give line l)) cut
    ∙ ap (λ g. with_front front (and_then g (lines_give (line + 1) (text_lines behind)))) was
