-- Cycles of a relation, and of one that it grows from.
use Rattle.std.proofs.Common.{◌≡◌, Bool, true, false, not, ◌&&◌, List, [], ◌∷◌, map, ap, sym, ◌∙◌, ◌⊎◌, inl, ⊎_elim}
use Rattle.std.proofs.lemmas.Bool.{and_parts, and_from, both_ways, false_from_ne_true, false≢true, or_parts, or_cases, or_left, true_from_ne_false}
use Rattle.je_order.specs.declared.txn_id.TxnId.{TxnId}
use Rattle.waits_for.specs.Cycles.{is_in, leads_by, closes_by, is_cycle_by, names_each_once, begins_with, IsFirstCycle}
use Rattle.je_order.specs.Transactions.{is_same_txn}
use Rattle.je_order.proofs.TxnIds.{same_is, same_either}
use Rattle.lock_mgr.specs.Deadlock.{HasNoCycle, others, is_greatest, AreVictims}
use Rattle.lock_mgr.specs.Reach.{IsWithin, IsReach, BreaksAll}

abbrev pub Waits : Type 0
Waits = TxnId → TxnId → Bool

-- every edge of S is one of R, or leads to one that waits for nobody in S
abbrev pub GrowsFrom : Waits → Waits → Type 0
GrowsFrom R S = (x y : TxnId) → S x y ≡ true → (R x y ≡ true) ⊎ ((z : TxnId) → S y z ≡ false)

abbrev IsAlive : Waits → TxnId → Type 0
IsAlive S x = (z : TxnId) × (S x z ≡ true)

alive : (S : Waits) (first x : TxnId) (ys : List TxnId) → leads_by S first x ys ≡ true → IsAlive S x
alive S first x [] l = (first, l)
alive S first x (y ∷ ys) l = (y, (and_parts (S x y) (leads_by S first y ys) l).0)

old_edge : (R S : Waits) → GrowsFrom R S → (x y : TxnId) → S x y ≡ true → IsAlive S y → R x y ≡ true
old_edge R S g x y e a = ⊎_elim (λ r. r) (λ d. absurd (both_ways (S y a.0) (d a.0) a.1)) (g x y e)

old_round : (R S : Waits) → GrowsFrom R S → (first x : TxnId) (ys : List TxnId) → IsAlive S first → leads_by S first x ys ≡ true → leads_by R first x ys ≡ true
old_round R S g first x [] a l = old_edge R S g x first l a
old_round R S g first x (y ∷ ys) a l = let p = and_parts (S x y) (leads_by S first y ys) l in and_from (R x y) (leads_by R first y ys) (old_edge R S g x y p.0 (alive S first y ys p.1)) (old_round R S g first y ys a p.1)

pub old_cycle : (R S : Waits) → GrowsFrom R S → (list : List TxnId) → closes_by S list ≡ true → closes_by R list ≡ true
old_cycle R S g [] h = h
old_cycle R S g (x ∷ xs) h = old_round R S g x x xs (alive S x x xs h) h

pub still_none : (R S : Waits) → GrowsFrom R S → HasNoCycle R → HasNoCycle S
still_none R S g n list = false_from_ne_true (closes_by S list) (λ h. both_ways (closes_by R list) (n list) (old_cycle R S g list h))

pub within_none : (R S : Waits) → IsWithin R S → HasNoCycle R → HasNoCycle S
within_none R S w n = still_none R S (λ x y e. inl (w x y e)) n

pub within_cycle : (R S : Waits) → IsWithin R S → (list : List TxnId) → closes_by S list ≡ true → closes_by R list ≡ true
within_cycle R S w list h = old_cycle R S (λ x y e. inl (w x y e)) list h

-- a cycle that one transaction is not on is a cycle of the others' waits
apart_round : (R S : Waits) (t : TxnId) → ((x y : TxnId) → is_same_txn t x ≡ false → S x y ≡ true → R x y ≡ true) → (first x : TxnId) (ys : List TxnId) → is_same_txn t x ≡ false → is_in t ys ≡ false → leads_by S first x ys ≡ true → leads_by R first x ys ≡ true
apart_round R S t w first x [] n m l = w x first n l
apart_round R S t w first x (y ∷ ys) n m l =
    let p = and_parts (S x y) (leads_by S first y ys) l in let k = or_parts (is_same_txn t y) (is_in t ys) m in
    and_from (R x y) (leads_by R first y ys) (w x y n p.0) (apart_round R S t w first y ys k.0 k.1 p.1)

pub apart_cycle : (R S : Waits) (t : TxnId) → ((x y : TxnId) → is_same_txn t x ≡ false → S x y ≡ true → R x y ≡ true) → HasNoCycle R → (list : List TxnId) → closes_by S list ≡ true → is_in t list ≡ true
apart_cycle R S t w n [] h = absurd (false≢true h)
apart_cycle R S t w n (x ∷ xs) h = true_from_ne_false (is_in t (x ∷ xs)) (λ m. let k = or_parts (is_same_txn t x) (is_in t xs) m in both_ways (closes_by R (x ∷ xs)) (n (x ∷ xs)) (apart_round R S t w x x xs k.0 k.1 h))

-- ---- what is reached from one transaction
-- from inside on
inside_round : (R E : Waits) (t : TxnId) (c : IsReach R E t) → (first x : TxnId) (ys : List TxnId) → leads_by R first x ys ≡ true → c.inside x ≡ true → (c.inside first ≡ true) × (leads_by E first x ys ≡ true)
inside_round R E t c first x [] l i = (c.stays x first i l, c.edge x first i l)
inside_round R E t c first x (y ∷ ys) l i =
    let p = and_parts (R x y) (leads_by R first y ys) l in let r = inside_round R E t c first y ys p.1 (c.stays x y i p.0) in
    (r.0, and_from (E x y) (leads_by E first y ys) (c.edge x y i p.0) r.1)

comes_inside : (R E : Waits) (t : TxnId) (c : IsReach R E t) → (first x : TxnId) (ys : List TxnId) → leads_by R first x ys ≡ true → is_in t ys ≡ true → c.inside first ≡ true
comes_inside R E t c first x [] l m = absurd (false≢true m)
comes_inside R E t c first x (y ∷ ys) l m =
    let p = and_parts (R x y) (leads_by R first y ys) l in
    ⊎_elim (λ h. (inside_round R E t c first y ys p.1 (rw (← same_is t y h) c.start)).0) (λ h. comes_inside R E t c first y ys p.1 h) (or_cases (is_same_txn t y) (is_in t ys) m)

-- a cycle through the transaction is one of the edges that were reached
pub reached_cycle : (R E : Waits) (t : TxnId) → IsReach R E t → (list : List TxnId) → closes_by R list ≡ true → is_in t list ≡ true → closes_by E list ≡ true
reached_cycle R E t c [] h m = h
reached_cycle R E t c (x ∷ xs) h m =
    let i : c.inside x ≡ true = ⊎_elim (λ e. rw (← same_is t x e) c.start) (λ e. comes_inside R E t c x x xs h e) (or_cases (is_same_txn t x) (is_in t xs) m) in
    (inside_round R E t c x x xs h i).1

pub reach_others : (R E : Waits) (t u : TxnId) → IsReach R E t → IsReach (others u R) (others u E) t
reach_others R E t u c = record {
  real = λ x y e. let p = and_parts (not (is_same_txn u x)) (E x y) e in and_from (not (is_same_txn u x)) (R x y) p.0 (c.real x y p.1);
  inside = c.inside;
  start = c.start;
  stays = λ x y i e. c.stays x y i (and_parts (not (is_same_txn u x)) (R x y) e).1;
  edge = λ x y i e. let p = and_parts (not (is_same_txn u x)) (R x y) e in and_from (not (is_same_txn u x)) (E x y) p.0 (c.edge x y i p.1);
}

pub within_others : (u : TxnId) (R S : Waits) → IsWithin R S → IsWithin (others u R) (others u S)
within_others u R S w x y e = let p = and_parts (not (is_same_txn u x)) (S x y) e in and_from (not (is_same_txn u x)) (R x y) p.0 (w x y p.1)

-- ---- victims
-- a cycle, which names nobody twice, is one of each relation that has its edges
within_once : (R S : Waits) → IsWithin R S → (list : List TxnId) → is_cycle_by S list ≡ true → is_cycle_by R list ≡ true
within_once R S w list h = let p = and_parts (closes_by S list) (names_each_once list) h in and_from (closes_by R list) (names_each_once list) (within_cycle R S w list p.0) p.1

pub same_cycle : (R S : Waits) → ((x y : TxnId) → S x y ≡ R x y) → (list : List TxnId) → is_cycle_by S list ≡ true → is_cycle_by R list ≡ true
same_cycle R S e list h = within_once R S (λ x y k. sym (e x y) ∙ k) list h

same_others : (u : TxnId) (R S : Waits) → ((x y : TxnId) → S x y ≡ R x y) → (x y : TxnId) → others u S x y ≡ others u R x y
same_others u R S e x y = ap (λ b. not (is_same_txn u x) && b) (e x y)

-- the first cycle of a relation is that of one with the same edges
pub same_first : (R S : Waits) (t : TxnId) → ((x y : TxnId) → S x y ≡ R x y) → (list : List TxnId) → IsFirstCycle S t list → IsFirstCycle R t list
same_first R S t e list f = record { cycle = same_cycle R S e list f.cycle; from = f.from; first = λ other c b. f.first other (same_cycle S R (λ x y. sym (e x y)) other c) b }

pub same_victims : (t : TxnId) (R S : Waits) → ((x y : TxnId) → S x y ≡ R x y) → (vs : List (TxnId × List TxnId)) → AreVictims t S vs → AreVictims t R vs
same_victims t R S e [] h = within_none S R (λ x y k. e x y ∙ k) h
same_victims t R S e (v ∷ vs) h = (same_first R S t e v.1 h.0, h.1, same_victims t (others v.0 R) (others v.0 S) (same_others v.0 R S e) vs h.2)

pub same_breaks : (R S : Waits) (t : TxnId) → ((x y : TxnId) → S x y ≡ R x y) → (vs : List (TxnId × List TxnId)) → BreaksAll S t vs → BreaksAll R t vs
same_breaks R S t e [] h = λ list k. h list (within_cycle S R (λ x y m. e x y ∙ m) list k)
same_breaks R S t e (v ∷ vs) h = (same_first R S t e v.1 h.0, h.1, same_breaks (others v.0 R) (others v.0 S) t (same_others v.0 R S e) vs h.2)

-- the first cycle of the edges that were reached is that of all edges
begins_in : (t : TxnId) (list : List TxnId) → begins_with t list ≡ true → is_in t list ≡ true
begins_in t [] h = absurd (false≢true h)
begins_in t (x ∷ xs) h = or_left (is_same_txn t x) (is_in t xs) h

reached_first : (R E : Waits) (t : TxnId) → IsReach R E t → (list : List TxnId) → IsFirstCycle E t list → IsFirstCycle R t list
reached_first R E t c list f = record {
  cycle = within_once R E c.real list f.cycle;
  from = f.from;
  first = λ other h b. let p = and_parts (closes_by R other) (names_each_once other) h in
      f.first other (and_from (closes_by E other) (names_each_once other) (reached_cycle R E t c other p.0 (begins_in t other b)) p.1) b;
}

-- what breaks the cycles that were reached breaks all, where each cycle goes through the transaction
pub all_broken : (R E : Waits) (t : TxnId) → IsReach R E t → ((list : List TxnId) → closes_by R list ≡ true → is_in t list ≡ true) → (vs : List (TxnId × List TxnId)) → BreaksAll E t vs → AreVictims t R vs
all_broken R E t c th [] b = λ list. false_from_ne_true (closes_by R list) (λ h. let m = th list h in both_ways (is_in t list) (b list (reached_cycle R E t c list h m)) m)
all_broken R E t c th (v ∷ vs) b = (reached_first R E t c v.1 b.0, b.1, all_broken (others v.0 R) (others v.0 E) t (reach_others R E t v.0 c) (λ list h. th list (within_cycle R (others v.0 R) (λ x y e. (and_parts (not (is_same_txn v.0 x)) (R x y) e).1) list h)) vs b.2)

-- once the victims' waits are gone there is no cycle
pub none_after : (t : TxnId) (R S : Waits) (vs : List (TxnId × List TxnId)) → IsWithin R S → ((x y : TxnId) → S x y ≡ true → is_in x (map (λ v. v.0) vs) ≡ false) → AreVictims t R vs → HasNoCycle S
none_after t R S [] w n h = within_none R S w h
none_after t R S (v ∷ vs) w n h = none_after t (others v.0 R) S vs
    (λ x y e. let k = or_parts (is_same_txn x v.0) (is_in x (map (λ u. u.0) vs)) (n x y e) in and_from (not (is_same_txn v.0 x)) (R x y) (ap not (same_either v.0 x ∙ k.0)) (w x y e))
    (λ x y e. (or_parts (is_same_txn x v.0) (is_in x (map (λ u. u.0) vs)) (n x y e)).1) h.2

-- who is on a cycle waits
pub on_cycle : (R : Waits) (u first x : TxnId) (ys : List TxnId) → leads_by R first x ys ≡ true → is_in u (x ∷ ys) ≡ true → (z : TxnId) × (R u z ≡ true)
on_cycle R u first x [] l m = ⊎_elim (λ e. rw (same_is u x e) (first, l)) (λ e. absurd (false≢true e)) (or_cases (is_same_txn u x) false m)
on_cycle R u first x (y ∷ ys) l m = let p = and_parts (R x y) (leads_by R first y ys) l in
    ⊎_elim (λ e. rw (same_is u x e) (y, p.0)) (λ e. on_cycle R u first y ys p.1 e) (or_cases (is_same_txn u x) (is_in u (y ∷ ys)) m)

pub victim_waits : (R : Waits) (u : TxnId) (list : List TxnId) → is_cycle_by R list ≡ true → is_greatest u list ≡ true → (z : TxnId) × (R u z ≡ true)
victim_waits R u [] h g = absurd (false≢true h)
victim_waits R u (x ∷ xs) h g = on_cycle R u x x xs (and_parts (closes_by R (x ∷ xs)) (names_each_once (x ∷ xs)) h).0 (and_parts (is_in u (x ∷ xs)) _ g).0
