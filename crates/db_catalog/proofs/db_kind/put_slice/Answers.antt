use Rattle.std.proofs.Common.{◌≡◌, ◌∙◌, ◌++◌, ◌∷◌, [], ℕ, List, ap, append_assoc}
use Rattle.std.proofs.lemmas.Result.{on_ok_weaker}
use Rattle.db_catalog.proofs.db_kind.put_slice.Goals as goal

four : (old one two three new a b c d : List ℕ) → one ≡ old ++ a → two ≡ one ++ b → three ≡ two ++ c → new ≡ three ++ d → new ≡ old ++ (a ++ (b ++ (c ++ d)))
four old one two three new a b c d first second third fourth =
    fourth ∙ ap (λ l. l ++ d) (third ∙ ap (λ l. l ++ c) (second ∙ ap (λ l. l ++ b) first))
    ∙ append_assoc ((old ++ a) ++ b) c d ∙ append_assoc (old ++ a) b (c ++ d) ∙ append_assoc old a (b ++ (c ++ d))

pub returns : goal.returns
returns c =
    on_ok_weaker c.put_u32-3.result
    (four c.args.out.now.items c.put_byte.new.out.items c.put_u32.new.out.items c.put_u32-2.new.out.items c.put_u32-3.new.out.items
    (2 ∷ []) _ _ _ c.in_ok-put_byte.ensures c.in_ok-put_u32.ensures.ok c.in_ok-put_u32-2.ensures.ok)
    c.put_u32-3.ensures.ok
