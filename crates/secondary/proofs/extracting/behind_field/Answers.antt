use Rattle.std.proofs.Common.{ℕ, List, ◌∙◌, ◌+◌, ◌-◌, sym, length, take, drop}
use Rattle.std.proofs.lemmas.List.{take_rest}
use Rattle.secondary.proofs.FieldLaws.{none_behind, some_behind}
use Rattle.secondary.proofs.extracting.behind_field.Goals as goal

pub returns-in-Some : goal.returns-in-Some
returns-in-Some c n =
    let bytes : List ℕ = c.args.bytes.now in
    let at : ℕ = c.in-Some.end in
    some_behind c.args.separator bytes (take (length bytes - (at + 1)) (drop (at + 1) bytes)) at (sym c.separator_in.ensures.at ∙ c.in-Some.is) (sym (take_rest bytes (at + 1))) n

pub returns-in-None : goal.returns-in-None
returns-in-None c n = none_behind c.args.separator c.args.bytes.now (sym c.separator_in.ensures.at ∙ c.in-None.is) n
