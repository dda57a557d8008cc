-- The lines of a text.
use Rattle.std.specs.Prelude.{ℕ, ◌==◌, ◌∷◌, [], List, if◌then◌else◌}
use Rattle.std.specs.List.{onto_first}

-- each line of a text ends with a line feed, which the last one may lack
abbrev pub text_lines : List ℕ → List (List ℕ)
text_lines [] = []
text_lines (c ∷ rest) = if c == 10 then [] ∷ text_lines rest else onto_first c (text_lines rest)
