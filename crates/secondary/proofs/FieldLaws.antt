-- Where data is cut into fields.
use Rattle.std.proofs.Common.{◌≡◌, ℕ, ◌+◌, ◌-◌, ◌<◌, ◌==◌, List, [], ◌∷◌, suc, Bool, true, false, cond, not, Option, None, Some, nat_lt, length, take, drop, refl, ap, sym, ◌∙◌, position, ⊎_elim, arith}
use Rattle.std.specs.List.{position_or_len, slice_get}
use Rattle.std.proofs.lemmas.Bool.{cases_Bool, ltb-true, ltb-false, lt-ltb, le-ltb}
use Rattle.std.proofs.lemmas.Option.{none-some, same_Some}
use Rattle.store_model.specs.Indexes.{in_front, fields_of}
use Rattle.secondary.specs.Fields.{field_behind}

-- one more on both sides
both_more : (a b : ℕ) → nat_lt a b ≡ nat_lt (suc a) (suc b)
both_more a b =
    ⊎_elim
    (λ (h : nat_lt a b ≡ true). h ∙ sym (lt-ltb (suc a) (suc b) (let low = ltb-true a b h in omega (arith, low))))
    (λ (h : nat_lt a b ≡ false). h ∙ sym (le-ltb (suc a) (suc b) (let high = ltb-false a b h in omega (arith, high))))
    (cases_Bool (nat_lt a b))

-- the first separator, or the end
abbrev first_at : ℕ → List ℕ → ℕ
first_at separator bytes = position_or_len (λ byte. byte == separator) bytes

-- the fields by whether there is a separator, and where
abbrev cut_at : ℕ → List ℕ → ℕ → Bool → List (List ℕ)
cut_at separator bytes at true = take at bytes ∷ fields_of separator (drop (suc at) bytes)
cut_at separator bytes at false = bytes ∷ []

in_front_cut : (separator byte : ℕ) (bytes : List ℕ) (at : ℕ) (b : Bool) → in_front byte (cut_at separator bytes at b) ≡ cut_at separator (byte ∷ bytes) (suc at) b
in_front_cut separator byte bytes at true = refl
in_front_cut separator byte bytes at false = refl

abbrev cut_there : ℕ → List ℕ → ℕ → List (List ℕ)
cut_there separator bytes at = cut_at separator bytes at (nat_lt at (length bytes))

cut : (separator : ℕ) (bytes : List ℕ) → fields_of separator bytes ≡ cut_there separator bytes (first_at separator bytes)
cut separator [] = refl
cut separator (byte ∷ bytes) = by_test (byte == separator) (cut separator bytes)
  where
    by_test : (b : Bool) → fields_of separator bytes ≡ cut_there separator bytes (first_at separator bytes) →
        cond b ([] ∷ fields_of separator bytes) (in_front byte (fields_of separator bytes)) ≡ cut_there separator (byte ∷ bytes) (cond (not b) (1 + first_at separator bytes) 0)
    by_test true rest = sym (ap (cut_at separator (byte ∷ bytes) 0) (lt-ltb 0 (suc (length bytes)) (omega arith)))
    by_test false rest =
        let at : ℕ = first_at separator bytes in
        let more : suc at ≡ 1 + at = omega arith in
        ap (in_front byte) rest ∙ in_front_cut separator byte bytes at (nat_lt at (length bytes))
        ∙ ap (cut_at separator (byte ∷ bytes) (suc at)) (both_more at (length bytes))
        ∙ ap (cut_there separator (byte ∷ bytes)) more

-- where no separator stands, all is one field
pub one_field : (separator : ℕ) (bytes : List ℕ) → position (λ byte. byte == separator) bytes ≡ None → fields_of separator bytes ≡ bytes ∷ []
one_field separator bytes none = cut separator bytes ∙ by_test (nat_lt (first_at separator bytes) (length bytes)) none
  where
    by_test : (b : Bool) → cond b (Some (first_at separator bytes)) None ≡ None → cut_at separator bytes (first_at separator bytes) b ≡ bytes ∷ []
    by_test true h = absurd (none-some (first_at separator bytes) (sym h))
    by_test false h = refl

-- where one does, the first field ends there, and the others come behind it
pub more_fields : (separator : ℕ) (bytes : List ℕ) (at : ℕ) → position (λ byte. byte == separator) bytes ≡ Some at →
    fields_of separator bytes ≡ take at bytes ∷ fields_of separator (drop (suc at) bytes)
more_fields separator bytes at some = cut separator bytes ∙ by_test (nat_lt (first_at separator bytes) (length bytes)) some
  where
    by_test : (b : Bool) → cond b (Some (first_at separator bytes)) None ≡ Some at →
        cut_at separator bytes (first_at separator bytes) b ≡ take at bytes ∷ fields_of separator (drop (suc at) bytes)
    by_test true h = ap (λ (n : ℕ). take n bytes ∷ fields_of separator (drop (suc n) bytes)) (same_Some (first_at separator bytes) at h)
    by_test false h = absurd (none-some at h)

-- the fields behind the first one
pub none_behind : (separator : ℕ) (bytes : List ℕ) → position (λ byte. byte == separator) bytes ≡ None → (n : ℕ) →
    slice_get (fields_of separator bytes) (n + 1) ≡ field_behind separator None n
none_behind separator bytes none n =
    let e : n + 1 ≡ suc n = omega arith in
    ap (slice_get (fields_of separator bytes)) e ∙ ap (λ (l : List (List ℕ)). slice_get l (suc n)) (one_field separator bytes none)

pub some_behind : (separator : ℕ) (bytes rest : List ℕ) (at : ℕ) → position (λ byte. byte == separator) bytes ≡ Some at → drop (at + 1) bytes ≡ rest → (n : ℕ) →
    slice_get (fields_of separator bytes) (n + 1) ≡ field_behind separator (Some rest) n
some_behind separator bytes rest at some is n =
    let e : n + 1 ≡ suc n = omega arith in
    let d : suc at ≡ at + 1 = omega arith in
    ap (slice_get (fields_of separator bytes)) e
    ∙ ap (λ (l : List (List ℕ)). slice_get l (suc n)) (more_fields separator bytes at some)
    ∙ ap (λ (l : List ℕ). slice_get (fields_of separator l) n) (ap (λ (k : ℕ). drop k bytes) d ∙ is)

-- from one field to the next
pub next_field : (separator : ℕ) (bytes : List ℕ) (left : ℕ) (o : Option (List ℕ)) → 0 < left → ((n : ℕ) → slice_get (fields_of separator bytes) (n + 1) ≡ field_behind separator o n) →
    slice_get (fields_of separator bytes) left ≡ field_behind separator o (left - 1)
next_field separator bytes left o some behind = let e : left ≡ left - 1 + 1 = omega (arith, some) in ap (slice_get (fields_of separator bytes)) e ∙ behind (left - 1)
