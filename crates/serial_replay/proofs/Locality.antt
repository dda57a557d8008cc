-- A read depends on the names that it passes alone.
use Rattle.std.proofs.Common.{◌≡◌, ◌⊎◌, inl, inr, Bool, true, false, not, ◌&&◌, List, [], ◌∷◌, filter, find, Option, None, Some, refl, ap, sym, ◌∙◌, subst, ⊎_elim, Less, is_eq, is_gt, is_ge}
use Rattle.std.proofs.lemmas.Bool.{cases_Bool, cond-true, cond-false}
use Rattle.je_order.specs.Edges.{is_below}
use Rattle.je_order.specs.Edges.Edge.{At, Behind}
use Rattle.je_order.specs.Order.{name_cmp}
use Rattle.je_order.specs.declared.name.Name.{Name}
use Rattle.store_model.specs.declared.kind.Kind.{Kind}
use Rattle.store_model.specs.Store.{Pair, name_of}
use Rattle.store_model.specs.Reads.{Way, Range, is_within, range, seen, passed, passed_to, last_of, taken_by, at_name}
use Rattle.store_model.specs.Reads.Way.{Lowest, Highest, Each}
use Rattle.standing_laws.proofs.Among.{IsAmong, all_at, filter_among, among_filter, found_is}
use Rattle.serial_replay.proofs.Rising.{RisesBy, rises_kept, found_least, none_passes, same_items, same_names, turned_less, never_both}

-- records that are the same at each name of a range
abbrev pub AgreeWithin : Kind → Range → List Pair → List Pair → Type 0
AgreeWithin kind r v w = (x : Name) → is_within r x ≡ true → at_name kind x v ≡ at_name kind x w

turned : (kind : Kind) (r : Range) (v w : List Pair) → AgreeWithin kind r v w → AgreeWithin kind r w v
turned kind r v w agree x h = sym (agree x h)

-- a record is where the records of its name are the same
pub same_there : (kind : Kind) (v w : List Pair) (p : Pair) → at_name kind (name_of kind p) v ≡ at_name kind (name_of kind p) w → IsAmong p v → IsAmong p w
same_there kind v w p e a =
    let is_its : Pair → Bool = λ q. is_eq (name_cmp (name_of kind q) (name_of kind p)) in
    (filter_among is_its w p (subst (IsAmong p) e (among_filter is_its v p a (ap is_eq (same_names (name_of kind p)))))).0

-- ---- all of a range

pub each_is_local : (kind : Kind) (r : Range) (v w : List Pair) → RisesBy (name_of kind) v → RisesBy (name_of kind) w → AgreeWithin kind r v w
    → filter (λ p. is_within r (name_of kind p)) v ≡ filter (λ p. is_within r (name_of kind p)) w
each_is_local kind r v w up down agree =
    same_items (name_of kind) (filter test v) (filter test w) (rises_kept (name_of kind) test v up) (rises_kept (name_of kind) test w down) (there v w agree) (there w v (turned kind r v w agree))
  where
    test : Pair → Bool
    test p = is_within r (name_of kind p)

    there : (a b : List Pair) → AgreeWithin kind r a b → (p : Pair) → IsAmong p (filter test a) → IsAmong p (filter test b)
    there a b same p k = let f = filter_among test a p k in among_filter test b p (same_there kind a b p (same (name_of kind p) f.1) f.0) f.1

-- ---- the first of a range

abbrev first_of : Option Pair → List Pair
first_of None = []
first_of (Some p) = p ∷ []

lowest : (q : Pair → Bool) (v : List Pair) → taken_by Lowest (filter q v) ≡ first_of (find q v)
lowest q [] = refl
lowest q (p ∷ v) = ⊎_elim
    (λ e. ap (taken_by Lowest) (cond-true (q p) (p ∷ filter q v) (filter q v) e) ∙ ap first_of (sym (cond-true (q p) (Some p) (find q v) e)))
    (λ e. ap (taken_by Lowest) (cond-false (q p) (p ∷ filter q v) (filter q v) e) ∙ (lowest q v ∙ ap first_of (sym (cond-false (q p) (Some p) (find q v) e))))
    (cases_Bool (q p))

both_parts : (a b : Bool) → (not a && b) ≡ true → (a ≡ false) × (b ≡ true)
both_parts true b h = absurd (cc (h))
both_parts false b h = (refl, h)

both_from : (a b : Bool) → a ≡ false → b ≡ true → (not a && b) ≡ true
both_from a b h k = cc (h, k)

-- a name up to one that was taken was passed
pub within_behind : (r : Range) (x y : Name) → is_within r x ≡ true → (x ≡ y) ⊎ (name_cmp x y ≡ Less) → is_within (range r.from (Behind y)) x ≡ true
within_behind r x y h k = both_from (is_below r.from x) (is_below (Behind y) x) (both_parts (is_below r.from x) (is_below r.upto x) h).0 (upto k)
  where
    upto : (x ≡ y) ⊎ (name_cmp x y ≡ Less) → is_ge (name_cmp y x) ≡ true
    upto (inl e) = ap is_ge (ap (λ (z : Name). name_cmp z x) (sym e) ∙ same_names x)
    upto (inr e) = ap is_ge (turned_less x y e)

some_is : (p q : Pair) → p ≡ q → Some p ≡ Some q
some_is p q e = cc

pub first_is_local : (kind : Kind) (r : Range) (v w : List Pair) → RisesBy (name_of kind) v → RisesBy (name_of kind) w
    → AgreeWithin kind (passed_to kind Lowest r (first_of (find (λ p. is_within r (name_of kind p)) v))) v w
    → find (λ p. is_within r (name_of kind p)) v ≡ find (λ p. is_within r (name_of kind p)) w
first_is_local kind r v w up down agree = by (find test v) refl agree (find test w) refl
  where
    test : Pair → Bool
    test p = is_within r (name_of kind p)

    by : (o : Option Pair) → find test v ≡ o → AgreeWithin kind (passed_to kind Lowest r (first_of o)) v w → (m : Option Pair) → find test w ≡ m → find test v ≡ find test w
    by None e same None f = e ∙ sym f
    by None e same (Some q) f = let k = found_is test w q f in absurd (none_passes test v q e (same_there kind w v q (sym (same (name_of kind q) k.1)) k.0) k.1)
    by (Some p) e same None f = let k = found_is test v p e in
        absurd (none_passes test w p f (same_there kind v w p (same (name_of kind p) (within_behind r (name_of kind p) (name_of kind p) k.1 (inl refl))) k.0) k.1)
    by (Some p) e same (Some q) f =
        let k = found_is test v p e in
        let m = found_is test w q f in
        let there : IsAmong p w = same_there kind v w p (same (name_of kind p) (within_behind r (name_of kind p) (name_of kind p) k.1 (inl refl))) k.0 in
        e ∙ (some_is p q (next q m.0 m.1 there (found_least (name_of kind) test w q p down f there k.1)) ∙ sym f)
      where
        next : (q : Pair) → IsAmong q w → test q ≡ true → IsAmong p w → (q ≡ p) ⊎ (name_cmp (name_of kind q) (name_of kind p) ≡ Less) → p ≡ q
        next q a t there (inl i) = sym i
        next q a t there (inr less) =
            let back : IsAmong q v = same_there kind w v q (sym (same (name_of kind q) (within_behind r (name_of kind q) (name_of kind p) t (inr less)))) a in
            last q less (found_least (name_of kind) test v p q up e back t)
          where
            last : (z : Pair) → name_cmp (name_of kind z) (name_of kind p) ≡ Less → (p ≡ z) ⊎ (name_cmp (name_of kind p) (name_of kind z) ≡ Less) → p ≡ z
            last z one (inl i) = i
            last z one (inr two) = absurd (never_both (name_of kind z) (name_of kind p) one two)

-- ---- the last of a range

-- the last of records whose names rise is the greatest
record IsLast (kind : Kind) (l : List Pair) (p : Pair) : Type 0 where
  pub last : last_of l ≡ p ∷ []
  pub there : IsAmong p l
  pub greatest : (x : Pair) → IsAmong x l → (x ≡ p) ⊎ (name_cmp (name_of kind x) (name_of kind p) ≡ Less)

last_is : (kind : Kind) (l : List Pair) → RisesBy (name_of kind) l → (l ≡ []) ⊎ ((p : Pair) × IsLast kind l p)
last_is kind [] up = inl refl
last_is kind (p ∷ []) up = inr (p, record { last = refl; there = inl refl; greatest = λ x a. only x a })
  where
    only : (x : Pair) → IsAmong x (p ∷ []) → (x ≡ p) ⊎ (name_cmp (name_of kind x) (name_of kind p) ≡ Less)
    only x (inl e) = inl (sym e)
    only x (inr a) = absurd a
last_is kind (p ∷ q ∷ l) up = by (last_is kind (q ∷ l) up.1)
  where
    by : (q ∷ l ≡ []) ⊎ ((z : Pair) × IsLast kind (q ∷ l) z) → (p ∷ q ∷ l ≡ []) ⊎ ((z : Pair) × IsLast kind (p ∷ q ∷ l) z)
    by (inl e) = absurd (cc (e))
    by (inr (z, k)) = inr (z, record { last = k.last; there = inr k.there; greatest = greatest })
      where
        greatest : (x : Pair) → IsAmong x (p ∷ q ∷ l) → (x ≡ z) ⊎ (name_cmp (name_of kind x) (name_of kind z) ≡ Less)
        greatest x (inl e) = inr (ap (λ (y : Pair). name_cmp (name_of kind y) (name_of kind z)) (sym e) ∙ all_at (λ (y : Pair). name_cmp (name_of kind p) (name_of kind y) ≡ Less) (q ∷ l) z up.0 k.there)
        greatest x (inr a) = k.greatest x a

-- a name from one that was taken on was passed
pub within_from : (r : Range) (x y : Name) → is_within r x ≡ true → (y ≡ x) ⊎ (name_cmp y x ≡ Less) → is_within (range (At y) r.upto) x ≡ true
within_from r x y h k = both_from (is_below (At y) x) (is_below r.upto x) (from k) (both_parts (is_below r.from x) (is_below r.upto x) h).1
  where
    from : (y ≡ x) ⊎ (name_cmp y x ≡ Less) → is_gt (name_cmp y x) ≡ false
    from (inl e) = ap is_gt (ap (λ (z : Name). name_cmp z x) e ∙ same_names x)
    from (inr e) = ap is_gt e

last_is_local : (kind : Kind) (r : Range) (v w : List Pair) → RisesBy (name_of kind) v → RisesBy (name_of kind) w → AgreeWithin kind (passed kind Highest r v) v w → seen kind Highest r v ≡ seen kind Highest r w
last_is_local kind r v w up down agree = by (last_is kind (filter test v) (rises_kept (name_of kind) test v up)) (last_is kind (filter test w) (rises_kept (name_of kind) test w down))
  where
    test : Pair → Bool
    test p = is_within r (name_of kind p)

    by : (filter test v ≡ []) ⊎ ((p : Pair) × IsLast kind (filter test v) p) → (filter test w ≡ []) ⊎ ((q : Pair) × IsLast kind (filter test w) q) → seen kind Highest r v ≡ seen kind Highest r w
    by (inl e) other = ap last_of (each_is_local kind r v w up down (subst (λ (l : List Pair). AgreeWithin kind (passed_to kind Highest r (last_of l)) v w) e agree))
    by (inr (p, k)) other = last other
      where
        same : AgreeWithin kind (range (At (name_of kind p)) r.upto) v w
        same = subst (λ (l : List Pair). AgreeWithin kind (passed_to kind Highest r l) v w) k.last agree

        mine : IsAmong p v × (test p ≡ true)
        mine = filter_among test v p k.there

        there : IsAmong p (filter test w)
        there = among_filter test w p (same_there kind v w p (same (name_of kind p) (within_from r (name_of kind p) (name_of kind p) mine.1 (inl refl))) mine.0) mine.1

        last : (filter test w ≡ []) ⊎ ((q : Pair) × IsLast kind (filter test w) q) → seen kind Highest r v ≡ seen kind Highest r w
        last (inl e) = absurd (subst (IsAmong p) e there)
        last (inr (q, m)) = k.last ∙ (ap (λ (z : Pair). z ∷ []) (one (m.greatest p there)) ∙ sym m.last)
          where
            one : (p ≡ q) ⊎ (name_cmp (name_of kind p) (name_of kind q) ≡ Less) → p ≡ q
            one (inl e) = e
            one (inr less) =
                let f = filter_among test w q m.there in
                let back : IsAmong q (filter test v) = among_filter test v q (same_there kind w v q (sym (same (name_of kind q) (within_from r (name_of kind q) (name_of kind p) f.1 (inr less)))) f.0) f.1 in
                two (k.greatest q back)
              where
                two : (q ≡ p) ⊎ (name_cmp (name_of kind q) (name_of kind p) ≡ Less) → p ≡ q
                two (inl e) = sym e
                two (inr more) = absurd (never_both (name_of kind p) (name_of kind q) less more)

-- ---- a read

pub read_is_local : (kind : Kind) (way : Way) (r : Range) (v w : List Pair) → RisesBy (name_of kind) v → RisesBy (name_of kind) w → AgreeWithin kind (passed kind way r v) v w → seen kind way r v ≡ seen kind way r w
read_is_local kind Lowest r v w up down agree =
    let test : Pair → Bool = λ p. is_within r (name_of kind p) in
    lowest test v
    ∙ (ap first_of (first_is_local kind r v w up down (subst (λ (l : List Pair). AgreeWithin kind (passed_to kind Lowest r l) v w) (lowest test v) agree))
    ∙ sym (lowest test w))
read_is_local kind Highest r v w up down agree = last_is_local kind r v w up down agree
read_is_local kind Each r v w up down agree = each_is_local kind r v w up down agree
