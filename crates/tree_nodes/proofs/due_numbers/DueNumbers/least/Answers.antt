use Rattle.std.proofs.Common.{◌≡◌, ◌∙◌, ℕ, List, None, Option, ap, subst, sym}
use Rattle.tree_nodes.specs.Due.{IsLeastNumber, least_found, number_in}
use Rattle.tree_nodes.proofs.LeastNumbers.{least_none, least_there}
use Rattle.tree_nodes.proofs.due_numbers.DueNumbers.least.Goals as goal

pub returns-in-Some : goal.returns-in-Some
returns-in-Some c =
    subst (λ (numbers : List (Option ℕ)). IsLeastNumber numbers c.in-Some.place) c.self.view_is
    (least_there c.self.inside.numbers.items c.self.inside.least.items (c.in-Some.field-0-0, c.in-Some.place) c.self.invariant.found
    (ap (λ (l : List (Option (ℕ × ℕ))). least_found l 0) (sym c.as_slice.ensures.value) ∙ sym c.at.ensures ∙ c.in-Some.is))

pub returns-in-None : goal.returns-in-None
returns-in-None c =
    subst (λ (numbers : List (Option ℕ)). (i : ℕ) → number_in numbers i ≡ None) c.self.view_is
    (least_none c.self.inside.numbers.items c.self.inside.least.items c.self.invariant.found (ap (λ (l : List (Option (ℕ × ℕ))). least_found l 0) (sym c.as_slice.ensures.value) ∙ sym c.at.ensures ∙ c.in-None.is))
