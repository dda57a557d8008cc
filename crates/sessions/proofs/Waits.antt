-- A waiting call that is taken out.
use Rattle.je_answers.specs.declared.wait.Wait.{Wait}
use Rattle.je_answers.specs.Standing.{wait_of, without_wait}
use Rattle.std.specs.Prelude.{◌==◌}
use Rattle.std.proofs.Common.{◌≡◌, ℕ, ◌<◌, ◌+◌, Bool, true, false, cond, not, List, [], ◌∷◌, length, Some, None, refl, ap, sym, ◌∙◌, subst, ⊎_elim, zero, suc, arith}
use Rattle.std.specs.List.{filter, find, position, position_or_len, remove, slice_get, slice_index_or}
use Rattle.std.proofs.lemmas.Bool.{cases_Bool, cond-true, cond-false}
use Rattle.std.proofs.lemmas.Bool.Decides.{nat_tests}
use Rattle.std.proofs.lemmas.List.Folds.{find_at}
use Rattle.std.proofs.lemmas.Option.{slice_get-get_or}

some_is : {X : Type 0} (x y : X) → Some x ≡ Some y → x ≡ y
some_is x y e = cc

-- where nothing passes, the filter leaves all
pub filter_removed : {X : Type 0} (p : X → Bool) (xs : List X) (i : ℕ) → i ≡ position_or_len p xs → filter (λ w. not (p w)) (remove xs i) ≡ filter (λ w. not (p w)) xs
filter_removed p [] zero e = refl
filter_removed p [] (suc i) e = refl
filter_removed p (x ∷ xs) zero e = ⊎_elim
    (λ t. sym (cond-false (not (p x)) (x ∷ filter (λ w. not (p w)) xs) (filter (λ w. not (p w)) xs) (ap not t)))
    (λ f. let k : 0 ≡ 1 + position_or_len p xs = e ∙ cond-true (not (p x)) (1 + position_or_len p xs) 0 (ap not f) in absurd (omega (arith, k)))
    (cases_Bool (p x))
filter_removed p (x ∷ xs) (suc i) e = ⊎_elim
    (λ t. let k : suc i ≡ 0 = e ∙ cond-false (not (p x)) (1 + position_or_len p xs) 0 (ap not t) in absurd (omega (arith, k)))
    (λ f. let k : suc i ≡ 1 + position_or_len p xs = e ∙ cond-true (not (p x)) (1 + position_or_len p xs) 0 (ap not f) in
    let j : i ≡ position_or_len p xs = omega (arith, k) in
    cond-true (not (p x)) (x ∷ filter (λ w. not (p w)) (remove xs i)) (filter (λ w. not (p w)) (remove xs i)) (ap not f)
    ∙ (ap (λ l. x ∷ l) (filter_removed p xs i j) ∙ sym (cond-true (not (p x)) (x ∷ filter (λ w. not (p w)) xs) (filter (λ w. not (p w)) xs) (ap not f))))
    (cases_Bool (p x))

place_cases : (n m i : ℕ) (b : Bool) → cond b (Some n) None ≡ Some i → (i ≡ n) × (b ≡ true)
place_cases n m i true e = let k : n ≡ i = cc in (sym k, refl)
place_cases n m i false e = absurd (cc (e))

pub taken_first : {X : Type 0} (p : X → Bool) (xs : List X) (i : ℕ) (x : X) → Some i ≡ position p xs → x ≡ slice_index_or xs i x → Some x ≡ find p xs
taken_first p xs i x e is = let r = place_cases (position_or_len p xs) (length xs) i _ (sym e) in
    let within : i < length xs = grind (arith, nat_tests, r.0, r.1) in
    ap (λ (y : _). Some y) is ∙ (sym (slice_get-get_or xs i x within) ∙ (ap (slice_get xs) r.0 ∙ sym (find_at p xs)))

pub taken_rest : {X : Type 0} (p : X → Bool) (xs : List X) (i : ℕ) → Some i ≡ position p xs → filter (λ w. not (p w)) (remove xs i) ≡ filter (λ w. not (p w)) xs
taken_rest p xs i e = filter_removed p xs i (place_cases (position_or_len p xs) (length xs) i _ (sym e)).0

none_here : (n : ℕ) (b : Bool) → None ≡ cond b (Some n) None → b ≡ false
none_here n true e = absurd (cc (e))
none_here n false e = refl

-- where the place is none, nothing passes
place_none : {X : Type 0} (p : X → Bool) (xs : List X) → None ≡ position p xs → (position_or_len p xs < length xs → ⊥)
place_none p xs e = let k = none_here (position_or_len p xs) _ e in λ less. grind (arith, nat_tests, k, less)

pub none_passes : {X : Type 0} (p : X → Bool) (xs : List X) → (position_or_len p xs < length xs → ⊥) → (find p xs ≡ None) × (filter (λ w. not (p w)) xs ≡ xs)
none_passes p [] no_ = (refl, refl)
none_passes p (x ∷ xs) no_ = ⊎_elim
    (λ t. let k : position_or_len p (x ∷ xs) ≡ 0 = cond-false (not (p x)) (1 + position_or_len p xs) 0 (ap not t) in absurd (no_ (omega (arith, k))))
    (λ f. let k : position_or_len p (x ∷ xs) ≡ 1 + position_or_len p xs = cond-true (not (p x)) (1 + position_or_len p xs) 0 (ap not f) in
    let r = none_passes p xs (λ less. no_ (omega (arith, k, less))) in
    (cond-false (p x) (Some x) (find p xs) f ∙ r.0, cond-true (not (p x)) (x ∷ filter (λ w. not (p w)) xs) (filter (λ w. not (p w)) xs) (ap not f) ∙ ap (λ l. x ∷ l) r.1))
    (cases_Bool (p x))

pub none_first : {X : Type 0} (p : X → Bool) (xs : List X) → None ≡ position p xs → None ≡ find p xs
none_first p xs e = sym (none_passes p xs (place_none p xs e)).0

pub none_rest : {X : Type 0} (p : X → Bool) (xs : List X) → None ≡ position p xs → xs ≡ filter (λ w. not (p w)) xs
none_rest p xs e = sym (none_passes p xs (place_none p xs e)).1

pub found_passes : {X : Type 0} (p : X → Bool) (xs : List X) (x : X) → find p xs ≡ Some x → p x ≡ true
found_passes p [] x e = absurd (cc (e))
found_passes p (y ∷ ys) x e = ⊎_elim
    (λ t. let k : Some y ≡ Some x = sym (cond-true (p y) (Some y) (find p ys) t) ∙ e in subst (λ z. p z ≡ true) (some_is y x k) t)
    (λ f. found_passes p ys x (sym (cond-false (p y) (Some y) (find p ys) f) ∙ e))
    (cases_Bool (p y))

-- the same of waiting calls
abbrev pub of_session : ℕ → Wait → Bool
of_session session w = w.session == session

pub no_wait : (session : ℕ) (vs ws : List Wait) → vs ≡ ws → None ≡ position (λ w. w.session == session) vs → None ≡ wait_of session ws
no_wait session vs ws is e = none_first (of_session session) ws (e ∙ ap (position (of_session session)) is)

pub no_wait_rest : (session : ℕ) (vs ws : List Wait) → vs ≡ ws → None ≡ position (λ w. w.session == session) vs → ws ≡ without_wait session ws
no_wait_rest session vs ws is e = none_rest (of_session session) ws (e ∙ ap (position (of_session session)) is)

pub wait_taken : (session : ℕ) (vs ws : List Wait) (i : ℕ) (w : Wait) → vs ≡ ws → Some i ≡ position (λ w. w.session == session) vs → w ≡ slice_index_or ws i w → Some w ≡ wait_of session ws
wait_taken session vs ws i w same e is = taken_first (of_session session) ws i w (e ∙ ap (position (of_session session)) same) is

pub wait_rest : (session : ℕ) (vs ws : List Wait) (i : ℕ) → vs ≡ ws → Some i ≡ position (λ w. w.session == session) vs → without_wait session (remove ws i) ≡ without_wait session ws
wait_rest session vs ws i same e = taken_rest (of_session session) ws i (e ∙ ap (position (of_session session)) same)
