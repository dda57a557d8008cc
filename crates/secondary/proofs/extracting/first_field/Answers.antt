use Rattle.std.proofs.Common.{ℕ, List, sym, ◌∙◌, ap}
use Rattle.std.specs.List.{slice_get}
use Rattle.secondary.proofs.FieldLaws.{one_field, more_fields}
use Rattle.secondary.proofs.extracting.first_field.Goals as goal

pub returns-in-Some : goal.returns-in-Some
returns-in-Some c =
    ap (λ (fields : List (List ℕ)). slice_get fields 0) (sym (more_fields c.args.separator c.args.bytes.now c.in-Some.end (sym c.separator_in.ensures.at ∙ c.in-Some.is)))

pub returns-in-None : goal.returns-in-None
returns-in-None c =
    ap (λ (fields : List (List ℕ)). slice_get fields 0) (sym (one_field c.args.separator c.args.bytes.now (sym c.separator_in.ensures.at ∙ c.in-None.is)))
