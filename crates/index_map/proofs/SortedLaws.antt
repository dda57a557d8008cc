-- Indexes in a list by rising number.
use Rattle.std.proofs.Common.{◌≡◌, ◌≢◌, ℕ, ◌<◌, ◌≤◌, ◌+◌, ◌∷◌, [], List, suc, Bool, true, false, cond, not, ◌==◌, nat_lt, length, Option, None, Some, find, option_map, refl, sym, ap, ap₂, ◌∙◌, arith}
use Rattle.std.specs.List.{AllByRecursion, insert, position, position_or_len}
use Rattle.std.proofs.lemmas.Bool.{cond-true, cond-false, true≢false, eqb-true, eqb-false, eq-eqb, ne_eqb, ltb-true, ltb-false}
use Rattle.std.proofs.lemmas.Option.{none-some, same_Some}
use Rattle.je_order.proofs.Lists.{all_kept, all_weaker}
use Rattle.store_model.specs.declared.extract.Extract.{Extract}
use Rattle.index_map.specs.declared.found_index.FoundIndex.{FoundIndex}
use Rattle.index_map.specs.Made.{Made, with_made, extract_of, extract_in, AreRising, with_index, without, AreIndexesOf}

-- ---- the key of a number

mapped : (b : Bool) (i : FoundIndex) (o : Option FoundIndex) → option_map (λ (j : FoundIndex). j.extract) (cond b (Some i) o) ≡ cond b (Some i.extract) (option_map (λ (j : FoundIndex). j.extract) o)
mapped true i o = refl
mapped false i o = refl

-- of a list by its first index and the others
pub extract_cons : (n : ℕ) (i : FoundIndex) (indexes : List FoundIndex) → extract_in n (i ∷ indexes) ≡ cond (i.number == n) (Some i.extract) (extract_in n indexes)
extract_cons n i indexes = mapped (i.number == n) i (find (λ (j : FoundIndex). j.number == n) indexes)

-- a number that is lower than all has none
pub none_lower : (n : ℕ) (indexes : List FoundIndex) → AllByRecursion (λ j. n < j.number) indexes → extract_in n indexes ≡ None
none_lower n [] all = refl
none_lower n (j ∷ indexes) all =
    extract_cons n j indexes ∙ cond-false (j.number == n) (Some j.extract) (extract_in n indexes) (ne_eqb j.number n (other j.number all.0)) ∙ none_lower n indexes all.1
  where
    other : (m : ℕ) → n < m → m ≢ n
    other m low = λ e. omega arith

-- two lists by rising number with the same keys are the same
pub same_indexes : (a b : List FoundIndex) → AreRising a → AreRising b → ((n : ℕ) → extract_in n a ≡ extract_in n b) → a ≡ b
same_indexes [] [] up_a up_b same = refl
same_indexes [] (j ∷ b) up_a up_b same = absurd (none-some j.extract (same j.number ∙ extract_cons j.number j b ∙ cond-true (j.number == j.number) (Some j.extract) (extract_in j.number b) (eq-eqb j.number j.number refl)))
same_indexes (i ∷ a) [] up_a up_b same =
    absurd (none-some i.extract (sym (same i.number) ∙ extract_cons i.number i a ∙ cond-true (i.number == i.number) (Some i.extract) (extract_in i.number a) (eq-eqb i.number i.number refl)))
same_indexes (i ∷ a) (j ∷ b) up_a up_b same = by (nat_lt i.number j.number) (nat_lt j.number i.number) refl refl (same_indexes a b up_a.1 up_b.1)
  where
    own : (k : FoundIndex) (l : List FoundIndex) → extract_in k.number (k ∷ l) ≡ Some k.extract
    own k l = extract_cons k.number k l ∙ cond-true (k.number == k.number) (Some k.extract) (extract_in k.number l) (eq-eqb k.number k.number refl)

    above : (n : ℕ) (l : List FoundIndex) (m : ℕ) → n < m → AllByRecursion (λ k. m < k.number) l → AllByRecursion (λ k. n < k.number) l
    above n l m low all = all_weaker (λ (k : FoundIndex). m < k.number) (λ k. n < k.number) (λ k h. omega arith) l all

    equal : i.number ≡ j.number → (((n : ℕ) → extract_in n a ≡ extract_in n b) → a ≡ b) → i ∷ a ≡ j ∷ b
    equal e rest =
        let extract : i.extract ≡ j.extract = same_Some i.extract j.extract (sym (own i a) ∙ same i.number ∙ ap (λ (n : ℕ). extract_in n (j ∷ b)) e ∙ own j b) in
        let first : i ≡ j = ap₂ (λ (n : ℕ) (x : Extract). record { number = n; extract = x }) e extract in
        ap₂ (λ (k : FoundIndex) (l : List FoundIndex). k ∷ l) first (rest tail)
      where
        tail : (n : ℕ) → extract_in n a ≡ extract_in n b
        tail n = by_test (i.number == n) refl
          where
            by_test : (t : Bool) → (i.number == n) ≡ t → extract_in n a ≡ extract_in n b
            by_test true h =
                let is : i.number ≡ n = eqb-true i.number n h in
                let in_a : extract_in i.number a ≡ None = none_lower i.number a up_a.0 in
                let in_b : extract_in j.number b ≡ None = none_lower j.number b up_b.0 in
                ap (λ (m : ℕ). extract_in m a) (sym is) ∙ in_a ∙ sym in_b ∙ ap (λ (m : ℕ). extract_in m b) (sym e ∙ is)
            by_test false h =
                sym (extract_cons n i a ∙ cond-false (i.number == n) (Some i.extract) (extract_in n a) h) ∙ same n ∙ extract_cons n j b
                ∙ cond-false (j.number == n) (Some j.extract) (extract_in n b) (ap (λ (m : ℕ). m == n) (sym e) ∙ h)

    by : (low high : Bool) → nat_lt i.number j.number ≡ low → nat_lt j.number i.number ≡ high → (((n : ℕ) → extract_in n a ≡ extract_in n b) → a ≡ b) → i ∷ a ≡ j ∷ b
    by true high l h rest =
        let lt : i.number < j.number = ltb-true i.number j.number l in
        absurd (none-some i.extract (sym (sym (own i a) ∙ same i.number ∙ none_lower i.number (j ∷ b) (lt, above i.number b j.number lt up_b.0))))
    by false true l h rest =
        let lt : j.number < i.number = ltb-true j.number i.number h in
        absurd (none-some j.extract (sym (sym (own j b) ∙ sym (same j.number) ∙ none_lower j.number (i ∷ a) (lt, above j.number a i.number lt up_a.0))))
    by false false l h rest =
        let le : j.number ≤ i.number = ltb-false i.number j.number l in
        let ge : i.number ≤ j.number = ltb-false j.number i.number h in equal (omega arith) rest

-- ---- an index more

swapped : (a b : Bool) (x y : Extract) (o : Option Extract) → (a ≡ true → b ≡ true → ⊥) → cond b (Some y) (cond a (Some x) o) ≡ cond a (Some x) (cond b (Some y) o)
swapped true true x y o apart = absurd (apart refl refl)
swapped true false x y o apart = refl
swapped false b x y o apart = refl

pub extract_with : (n : ℕ) (i : FoundIndex) (indexes : List FoundIndex) → extract_in i.number indexes ≡ None → extract_in n (with_index i indexes) ≡ cond (i.number == n) (Some i.extract) (extract_in n indexes)
extract_with n i [] new = extract_cons n i []
extract_with n i (j ∷ indexes) new = by (nat_lt i.number j.number) (other (j.number == i.number) refl) (extract_with n i indexes)
  where
    other : (b : Bool) → (j.number == i.number) ≡ b → ((j.number == i.number) ≡ false) × (extract_in i.number indexes ≡ None)
    other true e = absurd (none-some j.extract (sym (sym (extract_cons i.number j indexes ∙ cond-true (j.number == i.number) (Some j.extract) (extract_in i.number indexes) e) ∙ new)))
    other false e = (e, sym (extract_cons i.number j indexes ∙ cond-false (j.number == i.number) (Some j.extract) (extract_in i.number indexes) e) ∙ new)

    by : (b : Bool) → ((j.number == i.number) ≡ false) × (extract_in i.number indexes ≡ None) →
        (extract_in i.number indexes ≡ None → extract_in n (with_index i indexes) ≡ cond (i.number == n) (Some i.extract) (extract_in n indexes)) →
        extract_in n (cond b (i ∷ j ∷ indexes) (j ∷ with_index i indexes)) ≡ cond (i.number == n) (Some i.extract) (extract_in n (j ∷ indexes))
    by true o rest = extract_cons n i (j ∷ indexes)
    by false o rest =
        extract_cons n j (with_index i indexes) ∙ ap (cond (j.number == n) (Some j.extract)) (rest o.1)
        ∙ swapped (i.number == n) (j.number == n) i.extract j.extract (extract_in n indexes)
        (λ a b. true≢false (sym (eq-eqb j.number i.number (eqb-true j.number n b ∙ sym (eqb-true i.number n a))) ∙ o.0))
        ∙ ap (cond (i.number == n) (Some i.extract)) (sym (extract_cons n j indexes))

all_with : (m : ℕ) (i : FoundIndex) (indexes : List FoundIndex) → m < i.number → AllByRecursion (λ k. m < k.number) indexes → AllByRecursion (λ k. m < k.number) (with_index i indexes)
all_with m i [] low all = (low, tt)
all_with m i (j ∷ indexes) low all = by (nat_lt i.number j.number) (all_with m i indexes low all.1)
  where
    by : (b : Bool) → AllByRecursion (λ k. m < k.number) (with_index i indexes) → AllByRecursion (λ (k : FoundIndex). m < k.number) (cond b (i ∷ j ∷ indexes) (j ∷ with_index i indexes))
    by true rest = (low, all)
    by false rest = (all.0, rest)

pub rising_with : (i : FoundIndex) (indexes : List FoundIndex) → extract_in i.number indexes ≡ None → AreRising indexes → AreRising (with_index i indexes)
rising_with i [] new up = (tt, tt)
rising_with i (j ∷ indexes) new up = by (nat_lt i.number j.number) refl (other (j.number == i.number) refl) (rising_with i indexes)
  where
    other : (b : Bool) → (j.number == i.number) ≡ b → (j.number ≢ i.number) × (extract_in i.number indexes ≡ None)
    other true e = absurd (none-some j.extract (sym (sym (extract_cons i.number j indexes ∙ cond-true (j.number == i.number) (Some j.extract) (extract_in i.number indexes) e) ∙ new)))
    other false e = (eqb-false j.number i.number e, sym (extract_cons i.number j indexes ∙ cond-false (j.number == i.number) (Some j.extract) (extract_in i.number indexes) e) ∙ new)

    next : (m n : ℕ) → m ≢ n → m ≤ n → m < n
    next m n apart le = omega arith

    by : (b : Bool) → nat_lt i.number j.number ≡ b → (j.number ≢ i.number) × (extract_in i.number indexes ≡ None) → (extract_in i.number indexes ≡ None → AreRising indexes → AreRising (with_index i indexes)) →
        AreRising (cond b (i ∷ j ∷ indexes) (j ∷ with_index i indexes))
    by true e o rest =
        let lt : i.number < j.number = ltb-true i.number j.number e in
        ((lt, all_weaker (λ (k : FoundIndex). j.number < k.number) (λ k. i.number < k.number) (λ k h. omega arith) indexes up.0), up)
    by false e o rest =
        let lt : j.number < i.number = next j.number i.number o.0 (ltb-false i.number j.number e) in (all_with j.number i indexes lt up.0, rest o.1 up.1)

-- ---- its place

some_place : {X : Type 0} (p : X → Bool) (xs : List X) (at : ℕ) → position p xs ≡ Some at → at ≡ position_or_len p xs
some_place p xs at h = by (nat_lt (position_or_len p xs) (length xs)) h
  where
    by : (b : Bool) → cond b (Some (position_or_len p xs)) None ≡ Some at → at ≡ position_or_len p xs
    by true e = sym (same_Some (position_or_len p xs) at e)
    by false e = absurd (none-some at e)

within : {X : Type 0} (p : X → Bool) (xs : List X) → position_or_len p xs ≤ length xs
within p [] = omega arith
within p (x ∷ xs) = by (p x) (within p xs)
  where
    by : (b : Bool) → position_or_len p xs ≤ length xs → cond (not b) (1 + position_or_len p xs) 0 ≤ suc (length xs)
    by true le = omega arith
    by false le = omega arith

none_place : {X : Type 0} (p : X → Bool) (xs : List X) → position p xs ≡ None → length xs ≡ position_or_len p xs
none_place p xs h = by (nat_lt (position_or_len p xs) (length xs)) refl h
  where
    by : (b : Bool) → nat_lt (position_or_len p xs) (length xs) ≡ b → cond b (Some (position_or_len p xs)) None ≡ None → length xs ≡ position_or_len p xs
    by true k e = absurd (none-some (position_or_len p xs) (sym e))
    by false k e =
        let high : length xs ≤ position_or_len p xs = ltb-false (position_or_len p xs) (length xs) k in
        let low = within p xs in omega arith

pub place_some : (number : ℕ) (indexes : List FoundIndex) (at : ℕ) → position (λ i. nat_lt number i.number) indexes ≡ Some at → at ≡ position_or_len (λ i. nat_lt number i.number) indexes
place_some number indexes at h = some_place (λ (i : FoundIndex). nat_lt number i.number) indexes at h

pub place_none : (number : ℕ) (indexes : List FoundIndex) → position (λ i. nat_lt number i.number) indexes ≡ None → length indexes ≡ position_or_len (λ i. nat_lt number i.number) indexes
place_none number indexes h = none_place (λ (i : FoundIndex). nat_lt number i.number) indexes h

-- put there, it stands behind those of lower numbers
pub put_there : (i : FoundIndex) (indexes : List FoundIndex) → insert indexes (position_or_len (λ j. nat_lt i.number j.number) indexes) i ≡ with_index i indexes
put_there i [] = refl
put_there i (j ∷ indexes) = by (nat_lt i.number j.number) (put_there i indexes)
  where
    behind : (n : ℕ) → insert (j ∷ indexes) (1 + n) i ≡ j ∷ insert indexes n i
    behind n = ap (λ (m : ℕ). insert (j ∷ indexes) m i) one
      where
        one : 1 + n ≡ suc n
        one = omega arith

    by : (b : Bool) → insert indexes (position_or_len (λ k. nat_lt i.number k.number) indexes) i ≡ with_index i indexes →
        insert (j ∷ indexes) (cond (not b) (1 + position_or_len (λ (k : FoundIndex). nat_lt i.number k.number) indexes) 0) i ≡ cond b (i ∷ j ∷ indexes) (j ∷ with_index i indexes)
    by true rest = refl
    by false rest = behind (position_or_len (λ (k : FoundIndex). nat_lt i.number k.number) indexes) ∙ ap (λ (l : List FoundIndex). j ∷ l) rest

-- ---- an index less

pub extract_without : (n m : ℕ) (indexes : List FoundIndex) → extract_in n (without m indexes) ≡ cond (m == n) None (extract_in n indexes)
extract_without n m [] = nothing (m == n)
  where
    nothing : (b : Bool) → (let o : Option Extract = None in o) ≡ cond b None None
    nothing true = refl
    nothing false = refl
extract_without n m (j ∷ indexes) = by (j.number == m) refl (extract_without n m indexes)
  where
    by : (b : Bool) → (j.number == m) ≡ b → extract_in n (without m indexes) ≡ cond (m == n) None (extract_in n indexes) →
        extract_in n (cond (not b) (j ∷ without m indexes) (without m indexes)) ≡ cond (m == n) None (extract_in n (j ∷ indexes))
    by true e rest = rest ∙ by_test (m == n) refl
      where
        by_test : (t : Bool) → (m == n) ≡ t → cond t None (extract_in n indexes) ≡ cond t None (extract_in n (j ∷ indexes))
        by_test true h = refl
        by_test false h = sym (extract_cons n j indexes ∙ cond-false (j.number == n) (Some j.extract) (extract_in n indexes) (ap (λ (k : ℕ). k == n) (eqb-true j.number m e) ∙ h))
    by false e rest = extract_cons n j (without m indexes) ∙ ap (cond (j.number == n) (Some j.extract)) rest ∙ by_test (m == n) refl
      where
        by_test : (t : Bool) → (m == n) ≡ t → cond (j.number == n) (Some j.extract) (cond t None (extract_in n indexes)) ≡ cond t None (extract_in n (j ∷ indexes))
        by_test true h =
            cond-false (j.number == n) (Some j.extract) None (ap (λ (k : ℕ). j.number == k) (sym (eqb-true m n h)) ∙ e)
        by_test false h = sym (extract_cons n j indexes)

pub rising_without : (m : ℕ) (indexes : List FoundIndex) → AreRising indexes → AreRising (without m indexes)
rising_without m [] up = tt
rising_without m (j ∷ indexes) up = by (j.number == m) (rising_without m indexes up.1)
  where
    by : (b : Bool) → AreRising (without m indexes) → AreRising (cond (not b) (j ∷ without m indexes) (without m indexes))
    by true rest = rest
    by false rest = (all_kept (λ (k : FoundIndex). j.number < k.number) (λ k. not (k.number == m)) indexes up.0, rest)

-- ---- the indexes of a primary

-- two lists of the indexes of one primary are the same
pub one_list : (made : Made) (primary : ℕ) (a b : List FoundIndex) → AreIndexesOf made primary a → AreIndexesOf made primary b → a ≡ b
one_list made primary a b in_a in_b = same_indexes a b in_a.rising in_b.rising (λ n. in_a.found n ∙ sym (in_b.found n))

pub same_made : (made other : Made) (primary : ℕ) (indexes : List FoundIndex) → ((n : ℕ) → other n ≡ made n) → AreIndexesOf made primary indexes → AreIndexesOf other primary indexes
same_made made other primary indexes same is = record { found = λ n. is.found n ∙ ap (extract_of primary) (sym (same n)); rising = is.rising }

picked : {A B : Type 0} (f : A → B) (b : Bool) (x y : A) → cond b (f x) (f y) ≡ f (cond b x y)
picked f true x y = refl
picked f false x y = refl

-- a new index of it, or of another primary
pub added : (made : Made) (primary over : ℕ) (i : FoundIndex) (indexes : List FoundIndex) → made i.number ≡ None → AreIndexesOf made primary indexes →
    AreIndexesOf (with_made i.number (Some (over, i.extract)) made) primary (cond (primary == over) (with_index i indexes) indexes)
added made primary over i indexes new is = by (primary == over) refl
  where
    absent : extract_in i.number indexes ≡ None
    absent = is.found i.number ∙ ap (extract_of primary) new

    own : (b : Bool) → (over == primary) ≡ b → extract_of primary (Some (over, i.extract)) ≡ cond b (Some i.extract) None
    own true e = cond-true (over == primary) (Some i.extract) None e
    own false e = cond-false (over == primary) (Some i.extract) None e

    turned : (b : Bool) → (primary == over) ≡ b → (over == primary) ≡ b
    turned true e = eq-eqb over primary (sym (eqb-true primary over e))
    turned false e = ne_eqb over primary (λ h. eqb-false primary over e (sym h))

    here : (primary == over) ≡ true → (n : ℕ) → cond (i.number == n) (Some i.extract) (extract_in n indexes) ≡ extract_of primary (cond (i.number == n) (Some (over, i.extract)) (made n))
    here e n =
        ap₂ (λ (x y : Option Extract). cond (i.number == n) x y) (sym (own true (turned true e))) (is.found n) ∙ picked (extract_of primary) (i.number == n) (Some (over, i.extract)) (made n)

    there : (primary == over) ≡ false → (n : ℕ) → extract_in n indexes ≡ extract_of primary (cond (i.number == n) (Some (over, i.extract)) (made n))
    there e n = by_test (i.number == n) refl
      where
        by_test : (t : Bool) → (i.number == n) ≡ t → extract_in n indexes ≡ extract_of primary (cond t (Some (over, i.extract)) (made n))
        by_test true h = ap (λ (m : ℕ). extract_in m indexes) (sym (eqb-true i.number n h)) ∙ absent ∙ sym (own false (turned false e))
        by_test false h = is.found n

    by : (b : Bool) → (primary == over) ≡ b → AreIndexesOf (with_made i.number (Some (over, i.extract)) made) primary (cond b (with_index i indexes) indexes)
    by true e = record { found = λ n. extract_with n i indexes absent ∙ here e n; rising = rising_with i indexes absent is.rising }
    by false e = record { found = there e; rising = is.rising }

-- one index less, of it or of another primary
pub removed : (made : Made) (primary over number : ℕ) (indexes : List FoundIndex) → option_map (λ (m : ℕ × Extract). m.0) (made number) ≡ Some over → AreIndexesOf made primary indexes →
    AreIndexesOf (with_made number None made) primary (cond (primary == over) (without number indexes) indexes)
removed made primary over number indexes had is = by (primary == over) refl
  where
    foreign : (o : Option (ℕ × Extract)) → option_map (λ (m : ℕ × Extract). m.0) o ≡ Some over → (primary == over) ≡ false → extract_of primary o ≡ None
    foreign None h e = absurd (none-some over h)
    foreign (Some m) h e =
        cond-false (m.0 == primary) (Some m.1) None (ne_eqb m.0 primary (λ k. eqb-false primary over e (sym k ∙ same_Some m.0 over h)))

    here : (n : ℕ) → cond (number == n) None (extract_in n indexes) ≡ extract_of primary (cond (number == n) None (made n))
    here n = ap (cond (number == n) None) (is.found n) ∙ picked (extract_of primary) (number == n) None (made n)

    there : (primary == over) ≡ false → (n : ℕ) → extract_in n indexes ≡ extract_of primary (cond (number == n) None (made n))
    there e n = by_test (number == n) refl
      where
        by_test : (t : Bool) → (number == n) ≡ t → extract_in n indexes ≡ extract_of primary (cond t None (made n))
        by_test true h = is.found n ∙ ap (λ (m : ℕ). extract_of primary (made m)) (sym (eqb-true number n h)) ∙ foreign (made number) had e
        by_test false h = is.found n

    by : (b : Bool) → (primary == over) ≡ b → AreIndexesOf (with_made number None made) primary (cond b (without number indexes) indexes)
    by true e = record { found = λ n. extract_without n number indexes ∙ here n; rising = rising_without number indexes is.rising }
    by false e = record { found = there e; rising = is.rising }

pub place_by : (number : ℕ) {a b : List FoundIndex} → a ≡ b → position_or_len (λ (i : FoundIndex). nat_lt number i.number) a ≡ position_or_len (λ (i : FoundIndex). nat_lt number i.number) b
place_by number e = ap (position_or_len (λ (i : FoundIndex). nat_lt number i.number)) e
