use Rattle.std.proofs.Common.{◌≡◌, ◌∙◌, ◌∷◌, List, ℕ, Option, IfOk, ap, sym, subst}
use Rattle.store_model.specs.declared.call.Call.{Call}
use Rattle.script_text.specs.Grammar.{get_of}
use Rattle.script_text.proofs.GetCalls.{get_is, get_is_none}
use Rattle.script_text.proofs.calls.get_of.Goals as goal

pub returns-in-Some-rmw_of : goal.returns-in-Some-rmw_of
returns-in-Some-rmw_of c =
    let words : c.args.words ≡ c.in-Some.db.now ∷ c.in-Some-next.key.now ∷ c.next-2.new.self =
    c.in-Some.ensures.next ∙ ap (λ (l : List (List ℕ)). c.in-Some.db.now ∷ l) c.in-Some-next.ensures.next in
    subst (λ (o : Option Call). IfOk c.plain_get.result (λ call. call ≡ o))
    (get_is c.in-Some.db.now c.in-Some-next.key.now c.next-2.new.self c.in-Some-rmw_of.rmw c.in-Some-rmw_of.ensures ∙ ap get_of (sym words)) c.plain_get.ensures

pub returns-in-None : goal.returns-in-None
returns-in-None c =
    let words : c.args.words ≡ c.in-Some.db.now ∷ c.in-Some-next.key.now ∷ c.next-2.new.self =
    c.in-Some.ensures.next ∙ ap (λ (l : List (List ℕ)). c.in-Some.db.now ∷ l) c.in-Some-next.ensures.next in
    get_is_none c.in-Some.db.now c.in-Some-next.key.now c.next-2.new.self c.in-None.ensures ∙ ap get_of (sym words)
