-- Reading trees.
use Rattle.std.proofs.Common.{◌≡◌, ℕ, ◌==◌, max, Bool, true, false, cond, List, [], ◌∷◌, ◌++◌, Option, Some, Result, Ok, Err, refl, sym, ap, subst, ◌∙◌, arith}
use Rattle.std.specs.Prelude.{◌||◌, IsErrAnd}
use Rattle.std.specs.List.{list_any}
use Rattle.std.specs.BTreeSet.{insert_key}
use Rattle.std.specs.Ordering.{nat_cmp, match_ordering}
use Rattle.std.specs.declared.cmp.Ordering.{Ordering}
use Rattle.std.specs.declared.cmp.Ordering.TheVariants.{Less, Equal, Greater}
use Rattle.std.proofs.lemmas.Cmp.{ranked}
use Rattle.je_order.specs.declared.name.Name.{Name}
use Rattle.record_map.specs.Cells.{value_at}
use Rattle.record_tree.specs.Stored.{Stored, AllStored, stored_at, HasStored, AreStoredStill}
use Rattle.node_core.specs.declared.node.Node.{Node}
use Rattle.log_replay.specs.declared.corruption.Corruption.{Corruption}
use Rattle.recovery_je.specs.declared.read_err.ReadErr.{ReadErr}
use Rattle.recovery_je.specs.declared.read_err.ReadErr.TheVariants.{Memory, Found}
use Rattle.log_trees.specs.Changes.{Written, unwritten, LoggedChange, is_of, last_of}
use Rattle.log_trees.proofs.Rooted.{last_of-append}
use Rattle.log_trees.specs.Walk.{Walk, and_then, each, met, with_record, read_image, may_stand, node_standing, read_here}
use Rattle.log_trees.specs.Placed.{Placed}
use Rattle.log_replay.specs.declared.corruption.Corruption.TheVariants.{Tree}
use Rattle.log_meaning.specs.Meaning.{most, db_given}
use Rattle.recovery_je.specs.Redoing.{there, named_by}
use Rattle.recovery_je.specs.Recovering.{IsFoundBy}
use Rattle.recovery_je.specs.Walking.{IsWalking, GoesOn}

-- ---- the numbers of the nodes that were read, as a set

pub any_insert : (m n : ℕ) (xs : List ℕ) → list_any (λ k. k == m) (insert_key nat_cmp xs n) ≡ ((n == m) || list_any (λ k. k == m) xs)
any_insert m n [] = refl
any_insert m n (x ∷ xs) = by_order (any_insert m n xs) (nat_cmp n x) refl
  where
    by_tests : (a b c : Bool) → (a || (b || c)) ≡ (b || (a || c))
    by_tests true true c = refl
    by_tests true false c = refl
    by_tests false b c = refl

    twice : (a b : Bool) → (a || b) ≡ (a || (a || b))
    twice true b = refl
    twice false b = refl

    by_order : list_any (λ k. k == m) (insert_key nat_cmp xs n) ≡ ((n == m) || list_any (λ k. k == m) xs) → (o : Ordering) → o ≡ nat_cmp n x → list_any (λ k. k == m) (match_ordering o (n ∷ x ∷ xs) (x ∷ xs) (x ∷ insert_key nat_cmp xs n)) ≡ ((n == m) || ((x == m) || list_any (λ k. k == m) xs))
    by_order more Less is = refl
    by_order more Equal is = twice (x == m) (list_any (λ k. k == m) xs) ∙ ap (λ (k : ℕ). (k == m) || ((x == m) || list_any (λ k. k == m) xs)) (sym (ranked n x Equal is))
    by_order more Greater is = ap (λ (b : Bool). (x == m) || b) more ∙ by_tests (x == m) (n == m) (list_any (λ k. k == m) xs)

-- ---- nodes and records that are put

most_push : {A : Type 0} (f : A → ℕ) (xs : List A) (x : A) → most f (xs ++ x ∷ []) ≡ max (most f xs) (f x)
most_push f [] x = omega arith
most_push f (y ∷ xs) x = ap (max (f y)) (most_push f xs x) ∙ later (f y) (most f xs) (f x)
  where
    later : (a b c : ℕ) → max a (max b c) ≡ max (max a b) c
    later a b c = omega arith

pub met_one : (before after : AllStored) (seen more : List ℕ) (node db greatest : ℕ) (n : Node) (walk : Walk) → AreStoredStill before after → more ≡ insert_key nat_cmp seen n.number → greatest ≡ max node n.number →
    IsWalking before seen node db walk → IsWalking after more greatest db (met n walk)
met_one before after seen more node db greatest n walk same more_is greatest_is at = record {
  seen_is = λ m. ap (list_any (λ k. k == m)) more_is ∙ any_insert m n.number seen ∙ ap (λ (b : Bool). (n.number == m) || b) (at.seen_is m);
  node_is = greatest_is ∙ ap (λ (k : ℕ). max k n.number) at.node_is ∙ turned (most (λ (k : ℕ). k) walk.seen) n.number;
  db_is = at.db_is;
  records = λ d x. ap (value_at x) (same d) ∙ at.records d x;
}
  where
    turned : (a b : ℕ) → max a b ≡ max b a
    turned a b = omega arith

pub with_one : (before after : AllStored) (seen : List ℕ) (node db greatest d : ℕ) (name : Name) (lsn : ℕ) (value : List ℕ) (walk : Walk) → HasStored before after d name (stored_at lsn (Some value)) →
    greatest ≡ max db (named_by d (Some value)) → IsWalking before seen node db walk → IsWalking after seen node greatest (with_record d (name, lsn) value walk)
with_one before after seen node db greatest d name lsn value walk put greatest_is at = record {
  seen_is = at.seen_is;
  node_is = at.node_is;
  db_is = greatest_is ∙ ap (λ (k : ℕ). max k (named_by d (Some value))) at.db_is ∙ sym (most_push db_given walk.rows change);
  records = λ e x.
      put e x ∙ ap (λ (o : Option Stored). cond (is_of e x change) (stored_at lsn (Some value)) o) (at.records e x)
      ∙ by_test (is_of e x change) (last_of e x walk.rows unwritten)
      ∙ ap there (sym (last_of-append e x walk.rows (change ∷ []) unwritten));
}
  where
    change : LoggedChange
    change = record { db = d; name = name; written = record { at = lsn; value = Some value } }

    by_test : (b : Bool) (w : Written) → cond b (stored_at lsn (Some value)) (there w) ≡ there (cond b (record { at = lsn; value = Some value }) w)
    by_test true w = refl
    by_test false w = refl

-- ---- readings, one after another

-- a reading of one
pub one_goes_on : {A B : Type 0} (f : A → Walk → Result Walk Corruption) (x : A) (walk : Walk) (P : Walk → Type 0) (r : Result B ReadErr) → GoesOn (f x walk) P r → GoesOn (each f (x ∷ []) walk) P r
one_goes_on f x walk P (Ok v) is = (is.0, ap (λ (s : Result Walk Corruption). and_then s (each f [])) is.1, is.2)
one_goes_on f x walk P (Err Memory) is = tt
one_goes_on f x walk P (Err (Found c)) is = ap (λ (s : Result Walk Corruption). and_then s (each f [])) is

-- a reading of one with no corruption
pub one_is : {A : Type 0} (f : A → Walk → Result Walk Corruption) (x : A) (walk : Walk) (P : Walk → Type 0) → (w : Walk) × (f x walk ≡ Ok w) × P w → (w : Walk) × (each f (x ∷ []) walk ≡ Ok w) × P w
one_is f x walk P is = (is.0, ap (λ (s : Result Walk Corruption). and_then s (each f [])) is.1, is.2)

-- some were read, and these are left
pub record IsWalkingOn {A : Type 0} (f : A → Walk → Result Walk Corruption) (all left : List A) (P : Walk → Type 0) (walk : Walk) : Type 0 where
  pub here : Walk
  pub at : P here
  pub rest : each f left here ≡ each f all walk

each_both : {A : Type 0} (f : A → Walk → Result Walk Corruption) (more left : List A) (walk new : Walk) → each f more walk ≡ Ok new → each f (more ++ left) walk ≡ each f left new
each_both f [] left walk new is = ap (λ (r : Result Walk Corruption). and_then r (each f left)) is
each_both f (x ∷ more) left walk new is = by_first (f x walk) is (λ w. each_both f more left w new)
  where
    by_first : (r : Result Walk Corruption) → and_then r (each f more) ≡ Ok new → ((w : Walk) → each f more w ≡ Ok new → each f (more ++ left) w ≡ each f left new) → and_then r (each f (more ++ left)) ≡ each f left new
    by_first (Ok w) h rest = rest w h
    by_first (Err c) h rest = absurd cc

-- some more were read
pub walking_on : {A : Type 0} (f : A → Walk → Result Walk Corruption) (all before more left : List A) (P Q : Walk → Type 0) (walk : Walk) → before ≡ more ++ left → IsWalkingOn f all before P walk →
    ((here : Walk) → P here → (new : Walk) × (each f more here ≡ Ok new) × Q new) → IsWalkingOn f all left Q walk
walking_on f all before more left P Q walk is on step =
    let new = step on.here on.at in
    record { here = new.0; at = new.2; rest = sym (each_both f more left on.here new.0 new.1) ∙ ap (λ (l : List _). each f l on.here) (sym is) ∙ on.rest }

each_fails : {A : Type 0} (f : A → Walk → Result Walk Corruption) (more left : List A) (walk : Walk) (c : Corruption) → each f more walk ≡ Err c → each f (more ++ left) walk ≡ Err c
each_fails f [] left walk c is = absurd cc
each_fails f (x ∷ more) left walk c is = by_first (f x walk) is (λ w. each_fails f more left w c)
  where
    by_first : (r : Result Walk Corruption) → and_then r (each f more) ≡ Err c → ((w : Walk) → each f more w ≡ Err c → each f (more ++ left) w ≡ Err c) → and_then r (each f (more ++ left)) ≡ Err c
    by_first (Ok w) h rest = rest w h
    by_first (Err other) h rest = h

-- one of some more failed
pub walking_fails : {A B : Type 0} (f : A → Walk → Result Walk Corruption) (all before more left : List A) (P Q : Walk → Type 0) (walk : Walk) (r : Result B ReadErr) (e : ReadErr) → IsErrAnd r (λ x. x ≡ e) → before ≡ more ++ left →
    IsWalkingOn f all before P walk → ((here : Walk) → P here → IsFoundBy e (λ c. each f more here ≡ Err c)) → GoesOn (each f all walk) Q r
walking_fails f all before more left P Q walk (Ok v) e fails is on step = absurd fails
walking_fails f all before more left P Q walk (Err x) e fails is on step = by_error x (subst (λ (y : ReadErr). IsFoundBy y (λ c. each f more on.here ≡ Err c)) (sym fails) (step on.here on.at))
  where
    by_error : (y : ReadErr) → IsFoundBy y (λ c. each f more on.here ≡ Err c) → IsFoundBy y (λ c. each f all walk ≡ Err c)
    by_error Memory h = tt
    by_error (Found c) h = sym on.rest ∙ ap (λ (l : List _). each f l on.here) is ∙ each_fails f more left on.here c h

-- ---- one node

pub stands : (files : List ℕ) (es : List Placed) (d level at : ℕ) (seen : List ℕ) (n : Node) (b : Bool) → read_image files es d at ≡ Ok n → may_stand level seen n ≡ b →
    read_here files es d level at seen ≡ cond b (Ok n) (Err (Tree at))
stands files es d level at seen n b read test =
    ap (λ (r : Result Node Corruption). and_then r (node_standing level at seen)) read ∙ ap (λ (t : Bool). cond t (Ok n) (Err (Tree at))) test
