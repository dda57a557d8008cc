use Rattle.std.proofs.Common.{◌≡◌, ◌++◌, ◌∷◌, [], ◌∙◌, List, ap, append_assoc}
use Rattle.record_eval.proofs.filtering.with_item.Goals as goal

-- lists that grow one after another
grown : {X : Type 0} (none low_only with_new all low high : List X) (x : X) → none ≡ [] → low_only ≡ none ++ low → with_new ≡ low_only ++ x ∷ [] → all ≡ with_new ++ high → all ≡ low ++ x ∷ high
grown {X} none low_only with_new all low high x empty first second third =
    third ∙ ap (λ (l : List X). l ++ high) (second ∙ ap (λ (l : List X). l ++ x ∷ []) (first ∙ ap (λ (l : List X). l ++ low) empty)) ∙ append_assoc low (x ∷ []) high

pub returns : goal.returns
returns g c = λ p q below above.
    c.from_vec.ensures
    ∙ grown c.new-copies.result.items c.push_where.new.copies.items c.push.new.self.items c.push_where-2.new.copies.items _ _ c.args.new
    c.new-copies.ensures.items (c.in_ok-push_where.ensures p below) c.in_ok-push.ensures.items (c.in_ok-push_where-2.ensures q above)
