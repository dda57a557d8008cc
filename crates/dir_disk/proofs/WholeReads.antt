-- The bytes of a file that is read from its beginning.
use Rattle.std.proofs.Common.{◌≡◌, ◌++◌, ◌∙◌, ℕ, List, [], Option, Some, None, IfSome, take, sym, ap, subst}

-- the bytes that were put behind none are those that the file had left, so many at most
pub all_read : {F : Type 0} (file : Option F) (there : F) (remaining : F → Option (List ℕ)) (before after cut : List ℕ) (limit : ℕ) → file ≡ Some there → before ≡ [] →
    IfSome (remaining there) (λ xs. after ≡ before ++ xs) → cut ≡ take limit after → IfSome file (λ f. IfSome (remaining f) (λ left. cut ≡ take limit left))
all_read file there remaining before after cut limit is empty read short =
    subst (λ o. IfSome o (λ f. IfSome (remaining f) (λ left. cut ≡ take limit left))) (sym is) (by_case (remaining there) read)
  where
    by_case : (left : Option (List ℕ)) → IfSome left (λ xs. after ≡ before ++ xs) → IfSome left (λ xs. cut ≡ take limit xs)
    by_case None read = tt
    by_case (Some xs) read = short ∙ ap (take limit) (read ∙ ap (λ (ys : List ℕ). ys ++ xs) empty)
