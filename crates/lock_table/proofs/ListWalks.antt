-- Walks along a list: what was found so far, and what the rest gives.
use Rattle.std.proofs.Common.{◌≡◌, ◌<◌, ◌≤◌, ◌+◌, ℕ, Bool, true, false, cond, List, [], ◌∷◌, ◌++◌, length, get_or, drop, map, sym, ap, ◌∙◌, append_assoc}
use Rattle.std.specs.List.{filter, flat_map}
use Rattle.std.proofs.lemmas.List.{append-nil, drop_all, drop_more}

-- all items were seen
pub walked : {X Y : Type 0} (gives : List X → List Y) (xs : List X) (i : ℕ) (found all : List Y) → gives [] ≡ [] → length xs ≤ i → found ++ gives (drop i xs) ≡ all → found ≡ all
walked {X} {Y} gives xs i found all nothing past so =
    sym (append-nil found) ∙ ap (λ (l : List Y). found ++ l) (sym nothing) ∙ ap (λ (l : List X). found ++ gives l) (sym (drop_all i xs past)) ∙ so

-- one item more, which gives something
pub one_more : {X Y : Type 0} (f : X → Y) (xs : List X) (i : ℕ) (d : X) (found more all : List Y) → i < length xs → found ++ map f (drop i xs) ≡ all →
    more ≡ found ++ f (get_or xs i d) ∷ [] → more ++ map f (drop (i + 1) xs) ≡ all
one_more {X} {Y} f xs i d found more all within so is =
    ap (λ (l : List Y). l ++ map f (drop (i + 1) xs)) is
    ∙ append_assoc found (f (get_or xs i d) ∷ []) (map f (drop (i + 1) xs))
    ∙ ap (λ (l : List X). found ++ map f l) (sym (drop_more xs i d within)) ∙ so

-- what passes from a place on
passes_from : {X : Type 0} (p : X → Bool) (xs : List X) (i : ℕ) (d : X) (b : Bool) → i < length xs → p (get_or xs i d) ≡ b →
    cond b (get_or xs i d ∷ filter p (drop (i + 1) xs)) (filter p (drop (i + 1) xs)) ≡ filter p (drop i xs)
passes_from {X} p xs i d b within is =
    sym (ap (λ (x : Bool). cond x (get_or xs i d ∷ filter p (drop (i + 1) xs)) (filter p (drop (i + 1) xs))) is) ∙ ap (filter p) (sym (drop_more xs i d within))

-- one item more, which passes
pub one_passes : {X Y : Type 0} (p : X → Bool) (f : X → Y) (xs : List X) (i : ℕ) (d : X) (found more all : List Y) → i < length xs → found ++ map f (filter p (drop i xs)) ≡ all →
    p (get_or xs i d) ≡ true → more ≡ found ++ f (get_or xs i d) ∷ [] → more ++ map f (filter p (drop (i + 1) xs)) ≡ all
one_passes {X} {Y} p f xs i d found more all within so passes is =
    ap (λ (l : List Y). l ++ map f (filter p (drop (i + 1) xs))) is
    ∙ append_assoc found (f (get_or xs i d) ∷ []) (map f (filter p (drop (i + 1) xs)))
    ∙ ap (λ (l : List X). found ++ map f l) (passes_from p xs i d true within passes) ∙ so

-- one item more, which does not
pub one_fails : {X Y : Type 0} (p : X → Bool) (f : X → Y) (xs : List X) (i : ℕ) (d : X) (found more all : List Y) → i < length xs → found ++ map f (filter p (drop i xs)) ≡ all →
    p (get_or xs i d) ≡ false → more ≡ found → more ++ map f (filter p (drop (i + 1) xs)) ≡ all
one_fails {X} {Y} p f xs i d found more all within so fails is =
    ap (λ (l : List Y). l ++ map f (filter p (drop (i + 1) xs))) is
    ∙ ap (λ (l : List X). found ++ map f l) (passes_from p xs i d false within fails) ∙ so

-- one entry more of a list whose entries give lists
pub gives_more : {X Y : Type 0} (f : X → List Y) (x : X) (before rest : List X) (found more all : List Y) → before ≡ x ∷ rest → found ++ flat_map f before ≡ all → more ≡ found ++ f x → more ++ flat_map f rest ≡ all
gives_more {X} {Y} f x before rest found more all is so put =
    ap (λ (l : List Y). l ++ flat_map f rest) put
    ∙ append_assoc found (f x) (flat_map f rest)
    ∙ ap (λ (l : List X). found ++ flat_map f l) (sym is) ∙ so

-- no entry is left
pub gives_all : {X Y : Type 0} (f : X → List Y) (rest : List X) (found all : List Y) → rest ≡ [] → found ++ flat_map f rest ≡ all → found ≡ all
gives_all {X} {Y} f rest found all none so = sym (append-nil found) ∙ ap (λ (l : List X). found ++ flat_map f l) (sym none) ∙ so
