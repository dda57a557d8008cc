use Rattle.std.proofs.Common.{◌≡◌, List, IfSome, subst, sym}
use Rattle.store_model.specs.declared.kind.Kind.{Kind}
use Rattle.store_model.specs.Store.{Pair}
use Rattle.store_model.specs.Reads.{passed_to}
use Rattle.cursor_je.specs.Looks.{seen_by}
use Rattle.cursor_je.specs.Reaches.{range_in, reach_in}
use Rattle.cursor_je.specs.declared.reach.Reach.{Reach}
use Rattle.cursor_je.proofs.PassedLaws.{name_passed}
use Rattle.cursor_je.proofs.passing.pass_name.Goals as goal

pub returns-in-Lowest : goal.returns-in-Lowest
returns-in-Lowest c =
    subst (λ (r : Reach). IfSome c.pass_between.result (λ p. (kind : Kind) (pairs : List Pair) → range_in p ≡ passed_to kind (reach_in r).way (reach_in r).range (seen_by kind (reach_in r) pairs)))
    (sym c.in-Lowest.is) (name_passed c.in-Lowest.from c.in-Lowest.upto c.pass_between.result c.pass_between.ensures)
