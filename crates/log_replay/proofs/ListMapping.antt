-- A list that a loop makes of another one, item by item.
use Rattle.std.proofs.Common.{◌≡◌, ◌∙◌, List, [], ◌∷◌, ◌++◌, map, ap, sym, append_assoc}
use Rattle.std.proofs.lemmas.List.{append-nil}

pub map_begins : {A B : Type 0} (f : A → B) (out : List B) (left all : List A) → out ≡ [] → left ≡ all → out ++ map f left ≡ map f all
map_begins f out left all none is = ap (λ o. o ++ map f left) none ∙ ap (map f) is

pub map_goes_on : {A B : Type 0} (f : A → B) (out new : List B) (a : A) (b : B) (left rest all : List A) →
    out ++ map f left ≡ map f all → left ≡ a ∷ rest → b ≡ f a → new ≡ out ++ b ∷ [] → new ++ map f rest ≡ map f all
map_goes_on f out new a b left rest all so_far is made more =
    ap (λ n. n ++ map f rest) more
    ∙ append_assoc out (b ∷ []) (map f rest)
    ∙ ap (λ y. out ++ y ∷ map f rest) made
    ∙ ap (λ l. out ++ map f l) (sym is)
    ∙ so_far

pub map_ends : {A B : Type 0} (f : A → B) (out result : List B) (left all : List A) → out ++ map f left ≡ map f all → left ≡ [] → result ≡ out → result ≡ map f all
map_ends f out result left all so_far none is = is ∙ sym (append-nil out) ∙ ap (λ l. out ++ map f l) (sym none) ∙ so_far
