-- Lists of databases with their numbers, in rising order.
use Rattle.std.proofs.Common.{◌≡◌, ◌<◌, ◌⊎◌, inl, inr, ℕ, nat_lt, true, false, List, [], ◌∷◌, ◌++◌, refl, ap, ap₂, sym, ◌∙◌, subst, ⊎_elim, arith}
use Rattle.std.specs.List.{flat_map, AllByRecursion}
use Rattle.std.proofs.lemmas.Bool.{cases_Bool, cond-true, cond-false}
use Rattle.std.proofs.lemmas.Bool.Decides.{nat_tests}
use Rattle.store_model.specs.declared.store.Database.{Database}
use Rattle.store_model.specs.Indexes.{Numbered, with_among, by_number}
use Rattle.standing_laws.proofs.Among.{IsAmong, all_at, all_of}

-- ---- lists that rise by number

abbrev pub AreRising : List Numbered → Type 0
AreRising [] = Unit {0}
AreRising (x ∷ xs) = AllByRecursion (λ y. x.0 < y.0) xs × AreRising xs

below : (m n : ℕ) → nat_lt m n ≡ true → m < n
below m n h = grind (arith, nat_tests, h)

not_below : (m n : ℕ) → nat_lt m n ≡ false → (m ≡ n → ⊥) → n < m
not_below m n h other = grind (arith, nat_tests, h, other)

less_trans : (a b c : ℕ) → a < b → b < c → a < c
less_trans a b c h k = omega (arith, h, k)

never_less : (n m : ℕ) → n < m → n ≡ m → ⊥
never_less n m h e = omega (arith, h, e)

-- ---- one more among them

pub with_is : (d x : Numbered) (es : List Numbered) → IsAmong x (with_among d es) → (d ≡ x) ⊎ IsAmong x es
with_is d x [] (inl e) = inl e
with_is d x [] (inr k) = absurd k
with_is d x (e ∷ es) a = ⊎_elim
    (λ t. first (subst (IsAmong x) (cond-true (nat_lt d.0 e.0) (d ∷ e ∷ es) (e ∷ with_among d es) t) a))
    (λ t. later (subst (IsAmong x) (cond-false (nat_lt d.0 e.0) (d ∷ e ∷ es) (e ∷ with_among d es) t) a) (with_is d x es))
    (cases_Bool (nat_lt d.0 e.0))
  where
    first : IsAmong x (d ∷ e ∷ es) → (d ≡ x) ⊎ IsAmong x (e ∷ es)
    first (inl k) = inl k
    first (inr k) = inr k

    later : IsAmong x (e ∷ with_among d es) → (IsAmong x (with_among d es) → (d ≡ x) ⊎ IsAmong x es) → (d ≡ x) ⊎ IsAmong x (e ∷ es)
    later (inl k) more = inr (inl k)
    later (inr k) more = ⊎_elim (λ m. inl m) (λ m. inr (inr m)) (more k)

pub with_has : (d x : Numbered) (es : List Numbered) → (d ≡ x) ⊎ IsAmong x es → IsAmong x (with_among d es)
with_has d x [] (inl e) = inl e
with_has d x [] (inr k) = absurd k
with_has d x (e ∷ es) h = ⊎_elim
    (λ t. subst (IsAmong x) (sym (cond-true (nat_lt d.0 e.0) (d ∷ e ∷ es) (e ∷ with_among d es) t)) (first h))
    (λ t. subst (IsAmong x) (sym (cond-false (nat_lt d.0 e.0) (d ∷ e ∷ es) (e ∷ with_among d es) t)) (later h (with_has d x es)))
    (cases_Bool (nat_lt d.0 e.0))
  where
    first : (d ≡ x) ⊎ IsAmong x (e ∷ es) → IsAmong x (d ∷ e ∷ es)
    first (inl k) = inl k
    first (inr k) = inr k

    later : (d ≡ x) ⊎ IsAmong x (e ∷ es) → ((d ≡ x) ⊎ IsAmong x es → IsAmong x (with_among d es)) → IsAmong x (e ∷ with_among d es)
    later (inl k) more = inr (more (inl k))
    later (inr (inl k)) more = inl k
    later (inr (inr k)) more = inr (more (inr k))

with_rises : (d : Numbered) (es : List Numbered) → ((e : Numbered) → IsAmong e es → d.0 ≡ e.0 → ⊥) → AreRising es → AreRising (with_among d es)
with_rises d [] apart up = (tt, tt)
with_rises d (e ∷ es) apart up = ⊎_elim
    (λ t. subst AreRising (sym (cond-true (nat_lt d.0 e.0) (d ∷ e ∷ es) (e ∷ with_among d es) t))
    ((below d.0 e.0 t, all_of (λ y. d.0 < y.0) es (λ y a. less_trans d.0 e.0 y.0 (below d.0 e.0 t) (all_at (λ (z : Numbered). e.0 < z.0) es y up.0 a))), up))
    (λ t. subst AreRising (sym (cond-false (nat_lt d.0 e.0) (d ∷ e ∷ es) (e ∷ with_among d es) t))
    (all_of (λ y. e.0 < y.0) (with_among d es) (λ y a. above t y (with_is d y es a)), with_rises d es (λ x a. apart x (inr a)) up.1))
    (cases_Bool (nat_lt d.0 e.0))
  where
    above : nat_lt d.0 e.0 ≡ false → (y : Numbered) → (d ≡ y) ⊎ IsAmong y es → e.0 < y.0
    above t y (inl k) = subst (λ (z : Numbered). e.0 < z.0) k (not_below d.0 e.0 t (apart e (inl refl)))
    above t y (inr a) = all_at (λ (z : Numbered). e.0 < z.0) es y up.0 a

-- ---- databases with their numbers

abbrev pub AreApart : (List ℕ → ℕ) → List Database → Type 0
AreApart numbers [] = Unit {0}
AreApart numbers (d ∷ ds) = AllByRecursion (λ e. numbers d.name ≡ numbers e.name → ⊥) ds × AreApart numbers ds

pub numbered_is : (numbers : List ℕ → ℕ) (ds : List Database) (x : Numbered) → IsAmong x (by_number numbers ds) → IsAmong x.1 ds × (x.0 ≡ numbers x.1.name)
numbered_is numbers [] x a = absurd a
numbered_is numbers (d ∷ ds) x a = by (with_is (numbers d.name, d) x (by_number numbers ds) a) (numbered_is numbers ds x)
  where
    by : ((numbers d.name, d) ≡ x) ⊎ IsAmong x (by_number numbers ds) → (IsAmong x (by_number numbers ds) → IsAmong x.1 ds × (x.0 ≡ numbers x.1.name)) → IsAmong x.1 (d ∷ ds) × (x.0 ≡ numbers x.1.name)
    by (inl e) more = subst (λ (z : Numbered). IsAmong z.1 (d ∷ ds) × (z.0 ≡ numbers z.1.name)) e (inl refl, refl)
    by (inr k) more = let r = more k in (inr r.0, r.1)

pub numbered_has : (numbers : List ℕ → ℕ) (ds : List Database) (d : Database) → IsAmong d ds → IsAmong (numbers d.name, d) (by_number numbers ds)
numbered_has numbers [] d a = absurd a
numbered_has numbers (e ∷ ds) d (inl is) = with_has (numbers e.name, e) (numbers d.name, d) (by_number numbers ds) (inl (ap (λ (x : Database). (numbers x.name, x)) is))
numbered_has numbers (e ∷ ds) d (inr a) = with_has (numbers e.name, e) (numbers d.name, d) (by_number numbers ds) (inr (numbered_has numbers ds d a))

pub numbered_rises : (numbers : List ℕ → ℕ) (ds : List Database) → AreApart numbers ds → AreRising (by_number numbers ds)
numbered_rises numbers [] apart = tt
numbered_rises numbers (d ∷ ds) apart = with_rises (numbers d.name, d) (by_number numbers ds) other (numbered_rises numbers ds apart.1)
  where
    other : (e : Numbered) → IsAmong e (by_number numbers ds) → numbers d.name ≡ e.0 → ⊥
    other e a same = let r = numbered_is numbers ds e a in all_at (λ (x : Database). numbers d.name ≡ numbers x.name → ⊥) ds e.1 apart.0 r.0 (same ∙ r.1)

-- ---- lists made of them

-- each of the first makes nothing or is in the second
abbrev pub AreThere : {Z : Type 0} → (Numbered → List Z) → List Numbered → List Numbered → Type 0
AreThere f xs ys = (x : Numbered) → IsAmong x xs → (f x ≡ []) ⊎ ((y : Numbered) × IsAmong y ys × (y.0 ≡ x.0))

-- each of the second is in the first, and makes the same there
abbrev pub AreBack : {Z : Type 0} → (Numbered → List Z) → (Numbered → List Z) → List Numbered → List Numbered → Type 0
AreBack f g xs ys = (y : Numbered) → IsAmong y ys → (x : Numbered) × IsAmong x xs × (x.0 ≡ y.0) × (f x ≡ g y)

-- then both make the same
pub same_flat : {Z : Type 0} (f g : Numbered → List Z) (xs ys : List Numbered) → AreRising xs → AreRising ys → AreThere f xs ys → AreBack f g xs ys → flat_map f xs ≡ flat_map g ys
same_flat f g [] [] up down there back = refl
same_flat f g [] (y ∷ ys) up down there back = let r = back y (inl refl) in absurd r.1
same_flat {Z} f g (x ∷ xs) [] up down there back =
    ap (λ (l : List Z). l ++ flat_map f xs) (none (there x (inl refl))) ∙ same_flat f g xs [] up.1 tt (λ z a. there z (inr a)) (λ y a. absurd a)
  where
    none : (f x ≡ []) ⊎ ((y : Numbered) × IsAmong y [] × (y.0 ≡ x.0)) → f x ≡ []
    none (inl e) = e
    none (inr r) = absurd r.1
same_flat {Z} f g (x ∷ xs) (y ∷ ys) up down there back =
    by (back y (inl refl)) (λ t b. same_flat f g xs ys up.1 down.1 t b) (λ t b. same_flat f g xs (y ∷ ys) up.1 down t b)
  where
    heads : (z : Numbered) → x ≡ z → z.0 ≡ y.0 → x.0 ≡ y.0
    heads z e h = ap (λ (n : Numbered). n.0) e ∙ h

    -- both begin with the same number
    there_next : x.0 ≡ y.0 → AreThere f xs ys
    there_next e w a = next (there w (inr a))
      where
        next : (f w ≡ []) ⊎ ((v : Numbered) × IsAmong v (y ∷ ys) × (v.0 ≡ w.0)) → (f w ≡ []) ⊎ ((v : Numbered) × IsAmong v ys × (v.0 ≡ w.0))
        next (inl h) = inl h
        next (inr (v, inl i, h)) = absurd (never_less x.0 w.0 (all_at (λ (k : Numbered). x.0 < k.0) xs w up.0 a) (e ∙ (ap (λ (k : Numbered). k.0) i ∙ h)))
        next (inr (v, inr i, h)) = inr (v, i, h)

    back_next : x.0 ≡ y.0 → AreBack f g xs ys
    back_next e v a = next (back v (inr a))
      where
        next : (w : Numbered) × IsAmong w (x ∷ xs) × (w.0 ≡ v.0) × (f w ≡ g v) → (w : Numbered) × IsAmong w xs × (w.0 ≡ v.0) × (f w ≡ g v)
        next (w, inl i, h, k) = absurd (never_less y.0 v.0 (all_at (λ (m : Numbered). y.0 < m.0) ys v down.0 a) (sym e ∙ (ap (λ (m : Numbered). m.0) i ∙ h)))
        next (w, inr i, h, k) = (w, i, h, k)

    -- the first is below all of the second
    apart : x.0 < y.0 → (v : Numbered) → IsAmong v (y ∷ ys) → v.0 ≡ x.0 → ⊥
    apart lower v (inl i) h = never_less x.0 y.0 lower (sym (ap (λ (k : Numbered). k.0) i ∙ h))
    apart lower v (inr i) h = never_less x.0 v.0 (less_trans x.0 y.0 v.0 lower (all_at (λ (k : Numbered). y.0 < k.0) ys v down.0 i)) (sym h)

    none : x.0 < y.0 → (f x ≡ []) ⊎ ((v : Numbered) × IsAmong v (y ∷ ys) × (v.0 ≡ x.0)) → f x ≡ []
    none lower (inl e) = e
    none lower (inr (v, i, h)) = absurd (apart lower v i h)

    back_later : x.0 < y.0 → AreBack f g xs (y ∷ ys)
    back_later lower v i = next (back v i)
      where
        next : (w : Numbered) × IsAmong w (x ∷ xs) × (w.0 ≡ v.0) × (f w ≡ g v) → (w : Numbered) × IsAmong w xs × (w.0 ≡ v.0) × (f w ≡ g v)
        next (w, inl j, h, k) = absurd (apart lower v i (sym h ∙ ap (λ (m : Numbered). m.0) (sym j)))
        next (w, inr j, h, k) = (w, j, h, k)

    by : (z : Numbered) × IsAmong z (x ∷ xs) × (z.0 ≡ y.0) × (f z ≡ g y) → (AreThere f xs ys → AreBack f g xs ys → flat_map f xs ≡ flat_map g ys)
        → (AreThere f xs (y ∷ ys) → AreBack f g xs (y ∷ ys) → flat_map f xs ≡ flat_map g (y ∷ ys)) → flat_map f (x ∷ xs) ≡ flat_map g (y ∷ ys)
    by (z, inl e, n, same) both first = ap₂ (λ (l m : List Z). l ++ m) (ap f e ∙ same) (both (there_next (heads z e n)) (back_next (heads z e n)))
    by (z, inr a, n, same) both first =
        let lower : x.0 < y.0 = subst (λ (m : ℕ). x.0 < m) n (all_at (λ (k : Numbered). x.0 < k.0) xs z up.0 a) in
        ap (λ (l : List Z). l ++ flat_map f xs) (none lower (there x (inl refl))) ∙ first (λ w b. there w (inr b)) (back_later lower)
