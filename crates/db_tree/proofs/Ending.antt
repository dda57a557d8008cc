-- How calls end, and what is left of a list.
use Rattle.std.proofs.Common.{◌≡◌, ◌+◌, ◌<◌, ℕ, List, ◌∷◌, Result, Ok, Err, OnOk, IfOk, ap, sym, ◌∙◌, drop, length, get_or}
use Rattle.std.proofs.lemmas.List.{drop_more}

pub ok_then : {X Y P Q : Type 0} (r : Result X Y) → (P → Q) → OnOk r P → OnOk r Q
ok_then (Ok x) f h = f h
ok_then (Err y) f h = tt

-- what is left of a list, with its next one in front
pub next_left : {X : Type 0} (xs : List X) (i : ℕ) (x : X) → i < length xs → x ≡ get_or xs i x → drop i xs ≡ x ∷ drop (i + 1) xs
next_left {X} xs i x within is = drop_more xs i x within ∙ ap (λ (y : X). y ∷ drop (i + 1) xs) (sym is)

pub value_then : {X Y : Type 0} (r : Result X Y) (P Q : X → Type 0) → ((x : X) → P x → Q x) → IfOk r P → IfOk r Q
value_then (Ok x) P Q f h = f x h
value_then (Err y) P Q f h = tt
