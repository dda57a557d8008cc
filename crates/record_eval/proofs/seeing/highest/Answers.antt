use Rattle.std.proofs.Common.{◌≡◌, ◌∙◌, List, IfOk, ap, sym, subst}
use Rattle.store_model.specs.Store.{Pair}
use Rattle.store_model.specs.Reads.{last_of}
use Rattle.record_eval.proofs.Taken.{last_of-push}
use Rattle.record_eval.proofs.seeing.highest.Goals as goal

pub returns : goal.returns
returns c =
    subst (λ (xs : List Pair). IfOk c.one.result (λ list. list ≡ xs))
    (sym (ap last_of (sym c.into_vec-items.ensures ∙ c.in-Some.ensures.items) ∙ last_of-push c.pop.new.self.items c.in-Some.pair)) c.one.ensures
