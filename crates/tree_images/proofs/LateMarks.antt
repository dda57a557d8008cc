-- Beginnings of checkpoints in a log, and late LSNs, while the log grows.
use Rattle.std.proofs.Common.{◌≡◌, ◌≤◌, ◌<◌, ◌==◌, ◌&&◌, ◌||◌, ◌++◌, ◌⊎◌, inl, inr, ℕ, nat_le, nat_lt, List, [], ◌∷◌, Bool, true, false, refl, sym, ◌∙◌, arith}
use Rattle.std.specs.List.{AllByRecursion, list_any}
use Rattle.std.proofs.lemmas.Bool.{true≢false, eqb-true, leb-true, le-leb, lt-ltb}
use Rattle.std.proofs.lemmas.List.Folds.{list_any-append}
use Rattle.std.proofs.Math.Nat.{le_refl}
use Rattle.je_order.specs.declared.txn_id.TxnId.{TxnId}
use Rattle.log_entry.specs.declared.entry.Entry.{Entry}
use Rattle.log_entry.specs.declared.entry.Entry.TheVariants.{Commit}
use Rattle.db_tree.specs.Images.{Placed}
use Rattle.tree_images.specs.Notes.{commits_from, has_begun, has_changed, is_change_by, is_late, is_start}

-- ---- tests

either : (a b : Bool) → (a || b) ≡ true → (a ≡ true) ⊎ (b ≡ true)
either true b h = inl refl
either false b h = inr h

pub both : (a b : Bool) → (a && b) ≡ true → (a ≡ true) × (b ≡ true)
both true b h = (refl, h)
both false b h = absurd (true≢false (sym h))

pub and_true : (a b : Bool) → a ≡ true → b ≡ true → (a && b) ≡ true
and_true true b h g = g
and_true false b h g = absurd (true≢false (sym h))

pub or_left : (a b : Bool) → a ≡ true → (a || b) ≡ true
or_left true b h = refl
or_left false b h = absurd (true≢false (sym h))

pub or_right : (a b : Bool) → b ≡ true → (a || b) ≡ true
or_right true b h = refl
or_right false b h = h

pub or_cases : (a b : Bool) → (a || b) ≡ true → (a ≡ true) ⊎ (b ≡ true)
or_cases a b h = either a b h

-- what an element passes that passes another test
any_weaker : {X : Type 0} (p q : X → Bool) → ((x : X) → p x ≡ true → q x ≡ true) → (xs : List X) → list_any p xs ≡ true → list_any q xs ≡ true
any_weaker p q weaker [] h = h
any_weaker p q weaker (x ∷ xs) h = by_side (either (p x) (list_any p xs) h) (any_weaker p q weaker xs)
  where
    by_side : (p x ≡ true) ⊎ (list_any p xs ≡ true) → (list_any p xs ≡ true → list_any q xs ≡ true) → list_any q (x ∷ xs) ≡ true
    by_side (inl here) next = or_left (q x) (list_any q xs) (weaker x here)
    by_side (inr rest) next = or_right (q x) (list_any q xs) (next rest)

any_front : {X : Type 0} (p : X → Bool) (xs ys : List X) → list_any p xs ≡ true → list_any p (xs ++ ys) ≡ true
any_front p xs ys h = list_any-append p xs ys ∙ or_left (list_any p xs) (list_any p ys) h

any_back : {X : Type 0} (p : X → Bool) (xs ys : List X) → list_any p ys ≡ true → list_any p (xs ++ ys) ≡ true
any_back p xs ys h = list_any-append p xs ys ∙ or_right (list_any p xs) (list_any p ys) h

-- one of some elements passes a test, of which something is known
any_of : {X : Type 0} (p : X → Bool) (Q R : X → Type 0) → ((x : X) → p x ≡ true → Q x → R x) → (S : Type 0) → ((x : X) → R x → S) → (xs : List X) → AllByRecursion Q xs → list_any p xs ≡ true → S
any_of p Q R join S out [] all h = absurd (true≢false (sym h))
any_of p Q R join S out (x ∷ xs) all h = by_side (either (p x) (list_any p xs) h) (any_of p Q R join S out xs all.1)
  where
    by_side : (p x ≡ true) ⊎ (list_any p xs ≡ true) → (list_any p xs ≡ true → S) → S
    by_side (inl here) next = out x (join x here all.0)
    by_side (inr rest) next = next rest

-- ---- a longer log

pub changed_grows : (es more : Placed) (base t lsn : ℕ) → has_changed es base t lsn ≡ true → has_changed (es ++ more) base t lsn ≡ true
changed_grows es more base t lsn h = any_front _ es more h

-- the last entry is a change of a transaction
pub changed_last : (es : Placed) (base t at : ℕ) (e : Entry) → base ≤ at → is_change_by t e ≡ true → has_changed (es ++ (at, e) ∷ []) base t at ≡ true
changed_last es base t at e le own =
    any_back (λ (p : ℕ × Entry). nat_le base p.0 && nat_le p.0 at && is_change_by t p.1) es ((at, e) ∷ [])
    (or_left (nat_le base at && nat_le at at && is_change_by t e) false (and_true (nat_le base at && nat_le at at) (is_change_by t e) (and_true (nat_le base at) (nat_le at at) (le-leb base at le) (le-leb at at (le_refl at))) own))

commits_grow : (es more : Placed) (base lsn : ℕ) (e : Entry) → commits_from es base lsn e ≡ true → commits_from (es ++ more) base lsn e ≡ true
commits_grow es more base lsn (Commit txn) h = changed_grows es more base txn.0 lsn h
commits_grow es more base lsn e h = absurd (true≢false (sym h))

pub late_grows : (es more : Placed) (base start lsn : ℕ) → is_late es base start lsn ≡ true → is_late (es ++ more) base start lsn ≡ true
late_grows es more base start lsn h = by_side (either (nat_le start lsn) (list_any (λ p. nat_lt start p.0 && commits_from es base lsn p.1) es) h)
  where
    by_side : (nat_le start lsn ≡ true) ⊎ (list_any (λ (p : ℕ × Entry). nat_lt start p.0 && commits_from es base lsn p.1) es ≡ true) → is_late (es ++ more) base start lsn ≡ true
    by_side (inl upto) = or_left (nat_le start lsn) _ upto
    by_side (inr some) = or_right (nat_le start lsn) _
        (any_front _ es more (any_weaker (λ (p : ℕ × Entry). nat_lt start p.0 && commits_from es base lsn p.1) (λ (p : ℕ × Entry). nat_lt start p.0 && commits_from (es ++ more) base lsn p.1)
        (λ p is. (let parts = both (nat_lt start p.0) (commits_from es base lsn p.1) is in and_true (nat_lt start p.0) (commits_from (es ++ more) base lsn p.1) parts.0 (commits_grow es more base lsn p.1 parts.1))) es some))

-- entries without a checkpoint's beginning
abbrev pub HasNoStart : Placed → Type 0
HasNoStart more = AllByRecursion (λ p. is_start p.1 ≡ false) more

-- a checkpoint began in a longer log only where it had begun
pub begun_back : (es more : Placed) (base start : ℕ) → HasNoStart more → has_begun (es ++ more) base start ≡ true → has_begun es base start ≡ true
begun_back es more base start none h =
    let parts = both (nat_le base start) (list_any (λ p. (p.0 == start) && is_start p.1) (es ++ more)) h in
    and_true (nat_le base start) (list_any (λ p. (p.0 == start) && is_start p.1) es) parts.0
    (by_side (either (list_any (λ p. (p.0 == start) && is_start p.1) es) (list_any (λ p. (p.0 == start) && is_start p.1) more) (sym (list_any-append (λ (p : ℕ × Entry). (p.0 == start) && is_start p.1) es more) ∙ parts.1)))
  where
    by_side : (list_any (λ (p : ℕ × Entry). (p.0 == start) && is_start p.1) es ≡ true) ⊎ (list_any (λ (p : ℕ × Entry). (p.0 == start) && is_start p.1) more ≡ true) → list_any (λ (p : ℕ × Entry). (p.0 == start) && is_start p.1) es ≡ true
    by_side (inl some) = some
    by_side (inr some) = any_of (λ (p : ℕ × Entry). (p.0 == start) && is_start p.1) (λ p. is_start p.1 ≡ false) (λ p. ⊥)
        (λ p is no. absurd (true≢false (sym (both (p.0 == start) (is_start p.1) is).1 ∙ no))) _ (λ p no. absurd no) more none some

-- it began before what is behind all entries
pub begun_before : (es : Placed) (base start at : ℕ) → AllByRecursion (λ p. p.0 < at) es → has_begun es base start ≡ true → start < at
begun_before es base start at below h =
    any_of (λ (p : ℕ × Entry). (p.0 == start) && is_start p.1) (λ p. p.0 < at) (λ p. start < at)
    (λ p is lt. (let same : p.0 ≡ start = eqb-true p.0 start (both (p.0 == start) (is_start p.1) is).0 in omega (arith, same, lt))) (start < at) (λ p lt. lt) es below
    (both (nat_le base start) (list_any (λ p. (p.0 == start) && is_start p.1) es) h).1

pub begun_from : (es : Placed) (base start : ℕ) → has_begun es base start ≡ true → base ≤ start
begun_from es base start h = leb-true base start (both (nat_le base start) (list_any (λ p. (p.0 == start) && is_start p.1) es) h).0

-- none began where all entries are of earlier lives
pub none_begun : (es : Placed) (base start : ℕ) → AllByRecursion (λ p. p.0 < base) es → has_begun es base start ≡ true → ⊥
none_begun es base start below h = let lt = begun_before es base start base below h in let le = begun_from es base start h in absurd (omega (arith, lt, le))

-- ---- late LSNs

pub late_behind : (es : Placed) (base start lsn : ℕ) → start ≤ lsn → is_late es base start lsn ≡ true
late_behind es base start lsn le = or_left (nat_le start lsn) _ (le-leb start lsn le)

-- that of a change whose transaction commits now
pub late_committed : (es : Placed) (base start at lsn : ℕ) (txn : TxnId) → start < at → has_changed (es ++ (at, Commit txn) ∷ []) base txn.0 lsn ≡ true → is_late (es ++ (at, Commit txn) ∷ []) base start lsn ≡ true
late_committed es base start at lsn txn lt h = or_right (nat_le start lsn) _
    (any_back (λ (p : ℕ × Entry). nat_lt start p.0 && commits_from (es ++ (at, Commit txn) ∷ []) base lsn p.1) es ((at, Commit txn) ∷ [])
    (or_left (nat_lt start at && has_changed (es ++ (at, Commit txn) ∷ []) base txn.0 lsn) false (and_true (nat_lt start at) (has_changed (es ++ (at, Commit txn) ∷ []) base txn.0 lsn) (lt-ltb start at lt) h)))
