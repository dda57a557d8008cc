-- The trees of the databases that the catalog names.
use Rattle.std.proofs.Common.{◌≡◌, ℕ, ◌==◌, not, Bool, true, false, cond, List, [], ◌∷◌, suc, ◌+◌, ◌<◌, length, drop, get_or, drop-cons, add-one, refl, sym, ap, subst, ◌∙◌}
use Rattle.std.specs.Prelude.{◌&&◌, ◌||◌}
use Rattle.std.specs.List.{list_any}
use Rattle.std.proofs.lemmas.Bool.{eqb-true, eq-eqb, true≢false}
use Rattle.record_tree.specs.Stored.{AllStored}
use Rattle.recovery_je.specs.Finishing.{is_kept, HaveTrees, HasDropped, IsFinished}

-- ---- making

-- whichever trees come to be there: where the databases that are left have trees, all have
abbrev pub IsMaking : List ℕ → List ℕ → (ℕ → Bool) → Type 0
IsMaking all left has = (later : ℕ → Bool) → ((d : ℕ) → has d ≡ true → later d ≡ true) → HaveTrees left later → HaveTrees all later

pub number_at : (xs : List ℕ) (i : ℕ) → i < length xs → drop i xs ≡ get_or xs i 0 ∷ drop (i + 1) xs
number_at xs i below =
    let at : drop i xs ≡ get_or xs i 0 ∷ drop (suc i) xs = drop-cons xs i 0 below in
    at ∙ ap (λ (n : ℕ). get_or xs i 0 ∷ drop n xs) (sym (add-one i))

pub making_goes_on : (all left rest : List ℕ) (n : ℕ) (old new : ℕ → Bool) → left ≡ n ∷ rest → new n ≡ true → ((d : ℕ) → old d ≡ true → new d ≡ true) → IsMaking all left old → IsMaking all rest new
making_goes_on all left rest n old new is here others so_far later more have =
    so_far later (λ d there. more d (others d there)) (subst (λ (l : List ℕ). HaveTrees l later) (sym is) (more n here, have))

pub making_ends : (all left : List ℕ) (has : ℕ → Bool) → left ≡ [] → IsMaking all left has → HaveTrees all has
making_ends all left has none so_far = so_far has (λ d there. there) (subst (λ (l : List ℕ). HaveTrees l has) (sym none) tt)

-- ---- dropping

same_number : (a b : ℕ) → (a == b) ≡ true → a ≡ b
same_number a b is = eqb-true a b is

pub dropped : (numbers : List ℕ) (db : ℕ) (old new : ℕ → Bool) (before after : AllStored) → is_kept numbers db ≡ false →
    ((d : ℕ) → new d ≡ cond (d == db) false (old d)) → ((d : ℕ) → after d ≡ cond (d == db) [] (before d)) → HasDropped numbers db old new before after
dropped numbers db old new before after not_kept trees stored = record {
  trees = λ d. trees d ∙ ap (λ (b : Bool). cond b false (old d)) (test d (d == db) refl);
  stored = λ d. stored d ∙ ap (λ (b : Bool). cond b [] (before d)) (test d (d == db) refl);
}
  where
    test : (d : ℕ) (b : Bool) → (d == db) ≡ b → (d == db) ≡ ((d == db) && not (is_kept numbers d))
    test d true is = is ∙ sym (ap (λ (b : Bool). b && not (is_kept numbers d)) is ∙ ap not (ap (is_kept numbers) (same_number d db is) ∙ not_kept))
    test d false is = is ∙ sym (ap (λ (b : Bool). b && not (is_kept numbers d)) is)

pub not_dropped : (numbers : List ℕ) (db : ℕ) (has : ℕ → Bool) (stored : AllStored) → is_kept numbers db ≡ true → HasDropped numbers db has has stored stored
not_dropped numbers db has stored kept = record {
  trees = λ d. sym (ap (λ (b : Bool). cond b false (has d)) (test d (d == db) refl));
  stored = λ d. sym (ap (λ (b : Bool). cond b [] (stored d)) (test d (d == db) refl));
}
  where
    test : (d : ℕ) (b : Bool) → (d == db) ≡ b → ((d == db) && not (is_kept numbers d)) ≡ false
    test d true is = ap (λ (b : Bool). b && not (is_kept numbers d)) is ∙ ap not (ap (is_kept numbers) (same_number d db is) ∙ kept)
    test d false is = ap (λ (b : Bool). b && not (is_kept numbers d)) is

-- some trees were looked at, and these are left
pub record IsDropping (numbers left : List ℕ) (start has : ℕ → Bool) (before stored : AllStored) : Type 0 where
  pub trees : (d : ℕ) → is_kept numbers d ≡ true → has d ≡ start d
  pub kept : (d : ℕ) → is_kept numbers d ≡ true → stored d ≡ before d
  pub others : (d : ℕ) → has d ≡ true → (is_kept numbers d || list_any (λ n. n == d) left) ≡ true

or_true : (b : Bool) → (b || true) ≡ true
or_true true = refl
or_true false = refl

pub dropping_begins : (numbers left : List ℕ) (has : ℕ → Bool) (stored : AllStored) → ((d : ℕ) → has d ≡ list_any (λ n. n == d) left) → IsDropping numbers left has has stored stored
dropping_begins numbers left has stored all = record {
  trees = λ d k. refl;
  kept = λ d k. refl;
  others = λ d there. ap (λ (b : Bool). is_kept numbers d || b) (sym (all d) ∙ there) ∙ or_true (is_kept numbers d);
}

pub dropping_goes_on : (numbers left rest : List ℕ) (db : ℕ) (start old new : ℕ → Bool) (before stored after : AllStored) → left ≡ db ∷ rest → HasDropped numbers db old new stored after →
    IsDropping numbers left start old before stored → IsDropping numbers rest start new before after
dropping_goes_on numbers left rest db start old new before stored after is step so_far = record {
  trees = λ d k. step.trees d ∙ ap (λ (b : Bool). cond b false (old d)) (kept_test d k) ∙ so_far.trees d k;
  kept = λ d k. step.stored d ∙ ap (λ (b : Bool). cond b [] (stored d)) (kept_test d k) ∙ so_far.kept d k;
  others = λ d there. by_test d (is_kept numbers d) (d == db) refl refl (sym (step.trees d) ∙ there);
}
  where
    and_false : (b : Bool) → (b && false) ≡ false
    and_false true = refl
    and_false false = refl

    kept_test : (d : ℕ) → is_kept numbers d ≡ true → ((d == db) && not (is_kept numbers d)) ≡ false
    kept_test d k = ap (λ (b : Bool). (d == db) && not b) k ∙ and_false (d == db)

    turned : (a b : ℕ) → (a == b) ≡ false → (b == a) ≡ false
    turned a b h = by_case (b == a) refl
      where
        by_case : (e : Bool) → (b == a) ≡ e → (b == a) ≡ false
        by_case true e = absurd (true≢false (sym (eq-eqb a b (sym (eqb-true b a e))) ∙ h))
        by_case false e = e

    by_test : (d : ℕ) (k e : Bool) → is_kept numbers d ≡ k → (d == db) ≡ e → cond ((d == db) && not (is_kept numbers d)) false (old d) ≡ true → (is_kept numbers d || list_any (λ n. n == d) rest) ≡ true
    by_test d true e k at there = ap (λ (b : Bool). b || list_any (λ n. n == d) rest) k
    by_test d false true k at there =
        absurd (true≢false (sym there ∙ ap (λ (b : Bool). cond b false (old d)) (ap (λ (b : Bool). b && not (is_kept numbers d)) at ∙ ap not k)))
    by_test d false false k at there =
        let was : old d ≡ true = sym (ap (λ (b : Bool). cond b false (old d)) (ap (λ (b : Bool). b && not (is_kept numbers d)) at)) ∙ there in
        ap (λ (b : Bool). is_kept numbers d || (b || list_any (λ n. n == d) rest)) (sym (turned d db at))
        ∙ ap (λ (l : List ℕ). is_kept numbers d || list_any (λ n. n == d) l) (sym is)
        ∙ so_far.others d was

any_have : (numbers : List ℕ) (has : ℕ → Bool) (d : ℕ) → HaveTrees numbers has → list_any (λ n. n == d) numbers ≡ true → has d ≡ true
any_have [] has d have any = absurd (true≢false (sym any))
any_have (n ∷ numbers) has d have any = by_test (any_have numbers has d have.1) (n == d) refl any
  where
    by_test : (list_any (λ m. m == d) numbers ≡ true → has d ≡ true) → (b : Bool) → (n == d) ≡ b → (b || list_any (λ m. m == d) numbers) ≡ true → has d ≡ true
    by_test others true at any = ap has (sym (eqb-true n d at)) ∙ have.0
    by_test others false at any = others any

kept_have : (numbers : List ℕ) (has : ℕ → Bool) (d : ℕ) → has 0 ≡ true → HaveTrees numbers has → is_kept numbers d ≡ true → has d ≡ true
kept_have numbers has d catalog have kept = by_test (d == 0) refl kept
  where
    by_test : (b : Bool) → (d == 0) ≡ b → (b || list_any (λ n. n == d) numbers) ≡ true → has d ≡ true
    by_test true at k = ap has (eqb-true d 0 at) ∙ catalog
    by_test false at k = any_have numbers has d have k

or_none : (b : Bool) → (b || false) ≡ b
or_none true = refl
or_none false = refl

pub dropping_ends : (numbers left : List ℕ) (start has : ℕ → Bool) (before stored : AllStored) → left ≡ [] → start 0 ≡ true → HaveTrees numbers start → ((d : ℕ) → has d ≡ false → stored d ≡ []) →
    IsDropping numbers left start has before stored → IsFinished numbers has before stored
dropping_ends numbers left start has before stored none catalog have empty so_far = record {
  trees = λ d. by_test d (is_kept numbers d) (has d) refl refl;
  kept = so_far.kept;
  none = λ d k. empty d (by_test d (is_kept numbers d) (has d) refl refl ∙ k);
}
  where
    by_test : (d : ℕ) (k h : Bool) → is_kept numbers d ≡ k → has d ≡ h → has d ≡ is_kept numbers d
    by_test d true h k at = so_far.trees d k ∙ kept_have numbers start d catalog have k ∙ sym k
    by_test d false true k at =
        let all = ap (λ (l : List ℕ). is_kept numbers d || list_any (λ n. n == d) l) (sym none) ∙ so_far.others d at in
        absurd (true≢false (sym all ∙ or_none (is_kept numbers d) ∙ k))
    by_test d false false k at = at ∙ sym k

-- the order of the numbers is no matter
pub finished_along : (a b : List ℕ) (has : ℕ → Bool) (before after : AllStored) → ((d : ℕ) → list_any (λ n. n == d) a ≡ list_any (λ n. n == d) b) → IsFinished a has before after → IsFinished b has before after
finished_along a b has before after same done = record {
  trees = λ d. done.trees d ∙ kept_same d;
  kept = λ d k. done.kept d (kept_same d ∙ k);
  none = λ d k. done.none d (kept_same d ∙ k);
}
  where
    kept_same : (d : ℕ) → is_kept a d ≡ is_kept b d
    kept_same d = ap (λ (x : Bool). (d == 0) || x) (same d)

-- and only what records were before may be told otherwise
pub finished_from : (numbers : List ℕ) (has : ℕ → Bool) (start before after : AllStored) → ((d : ℕ) → before d ≡ start d) → IsFinished numbers has before after → IsFinished numbers has start after
finished_from numbers has start before after same done = record { trees = done.trees; kept = λ d k. done.kept d k ∙ same d; none = done.none }
