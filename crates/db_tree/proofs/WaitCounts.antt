-- How many nodes wait.
use Rattle.std.proofs.Common.{◌≡◌, ◌+◌, ◌<◌, ◌≤◌, ◌++◌, ◌∷◌, [], ℕ, zero, suc, List, Bool, true, false, cond, Option, None, Some, filter, take, length, refl, ap, ap₂, sym, subst, ◌∙◌, arith, is_eq, ◌⊎◌, inl, inr, Ordering, Less, Equal, Greater, IsSome, Result, Ok, Err, OnOk, OnErr}
use Rattle.std.specs.List.{AllByRecursion}
use Rattle.std.specs.List.Sorted.{IsStrictlySortedBy}
use Rattle.std.specs.Map.{keys_of}
use Rattle.std.specs.BTreeSet.{insert_key}
use Rattle.std.specs.Ordering.{match_ordering}
use Rattle.std.proofs.lemmas.Bool.{true≢false}
use Rattle.std.proofs.lemmas.List.{length-map}
use Rattle.std.proofs.lemmas.Option.{none-some}
use Rattle.je_order.specs.Order.{name_cmp}
use Rattle.je_order.specs.declared.name.Name.{Name}
use Rattle.record_map.specs.Cells.{value_at}
use Rattle.record_map.proofs.NameLaws.{same_or_other, other_stays, same_gets}
use Rattle.tree_nodes.specs.declared.node.Node.{Node}
use Rattle.tree_nodes.specs.Nodes.{NodeRow, least}
use Rattle.tree_nodes.specs.Levels.{row_of, AreParts, HasPutAt, HasRaised}
use Rattle.tree_nodes.specs.Lows.{lows_of, lows_at, with_low, with_root}
use Rattle.db_tree.specs.Splits.{one_if}
use Rattle.db_tree.specs.Waiting.{is_forced, waits_in, waiting_in, waiting_of, count_lows}
use Rattle.db_tree.proofs.WaitLaws.{put_lows, keys_at, keys_with, root_waits}

-- ---- counts of lists

pub count_both : (a b : List (List Name)) → count_lows (a ++ b) ≡ count_lows a + count_lows b
count_both [] b = omega arith
count_both (l ∷ a) b = let rest : count_lows (a ++ b) ≡ count_lows a + count_lows b = count_both a b in omega (arith, rest)

all_same : (a b : List (List Name)) → length a ≡ length b → ((k : ℕ) → lows_at a k ≡ lows_at b k) → count_lows a ≡ count_lows b
all_same [] [] same each = refl
all_same [] (y ∷ b) same each = absurd (omega (arith, same))
all_same (x ∷ a) [] same each = absurd (omega (arith, same))
all_same (x ∷ a) (y ∷ b) same each = let rest : length a ≡ length b = omega (arith, same) in ap₂ (λ (l : List Name) (c : ℕ). length l + c) (each 0) (all_same a b rest (λ k. each (suc k)))

-- one list differs
pub count_one : (n : ℕ) (a b : List (List Name)) (level : ℕ) → length a ≡ length b → ((k : ℕ) → (k ≡ level → ⊥) → lows_at a k ≡ lows_at b k) → length (lows_at a level) ≤ length (lows_at b level) + n → count_lows a ≤ count_lows b + n
count_one n [] [] level same others few = omega arith
count_one n [] (y ∷ b) level same others few = omega arith
count_one n (x ∷ a) [] level same others few = absurd (omega (arith, same))
count_one n (x ∷ a) (y ∷ b) zero same others few =
    let heights : length a ≡ length b = omega (arith, same) in
    let rest : count_lows a ≡ count_lows b = all_same a b heights (λ k. others (suc k) (λ (h : suc k ≡ 0). absurd (omega (arith, h)))) in
    omega (arith, few, rest)
count_one n (x ∷ a) (y ∷ b) (suc level) same others few =
    let heights : length a ≡ length b = omega (arith, same) in
    let head : length x ≡ length y = ap length (others 0 (λ (h : 0 ≡ suc level). absurd (omega (arith, h)))) in
    let rest : count_lows a ≤ count_lows b + n = count_one n a b level heights (λ k apart. others (suc k) (λ (h : suc k ≡ suc level). apart (omega (arith, h)))) few in
    omega (arith, head, rest)

-- and the counts by as much as it does
count_apart : (a b : List (List Name)) (level : ℕ) → length a ≡ length b → ((k : ℕ) → (k ≡ level → ⊥) → lows_at a k ≡ lows_at b k) → count_lows a + length (lows_at b level) ≡ count_lows b + length (lows_at a level)
count_apart [] [] level same others = refl
count_apart [] (y ∷ b) level same others = absurd (omega (arith, same))
count_apart (x ∷ a) [] level same others = absurd (omega (arith, same))
count_apart (x ∷ a) (y ∷ b) zero same others =
    let heights : length a ≡ length b = omega (arith, same) in
    let rest : count_lows a ≡ count_lows b = all_same a b heights (λ k. others (suc k) (λ (h : suc k ≡ 0). absurd (omega (arith, h)))) in
    omega (arith, rest)
count_apart (x ∷ a) (y ∷ b) (suc level) same others =
    let heights : length a ≡ length b = omega (arith, same) in
    let head : length x ≡ length y = ap length (others 0 (λ (h : 0 ≡ suc level). absurd (omega (arith, h)))) in
    let rest : count_lows a + length (lows_at b level) ≡ count_lows b + length (lows_at a level) = count_apart a b level heights (λ k apart. others (suc k) (λ (h : suc k ≡ suc level). apart (omega (arith, h)))) in
    omega (arith, head, rest)

cond_is : (t : Bool) (x : Name) (l : List Name) → length (cond t (x ∷ l) l) ≡ length l + one_if t
cond_is true x l = omega arith
cond_is false x l = omega arith

cond_few : (t : Bool) (x : Name) (l : List Name) → length (cond t (x ∷ l) l) ≤ length l + 1
cond_few true x l = omega arith
cond_few false x l = omega arith

cond_more : (t : Bool) (x : Name) (l : List Name) → length l ≤ length (cond t (x ∷ l) l)
cond_more true x l = omega arith
cond_more false x l = omega arith

cond_both : (t : Bool) (x : Name) (n : ℕ) (l m : List Name) → length l ≤ length m + n → length (cond t (x ∷ l) l) ≤ length (cond t (x ∷ m) m) + n
cond_both true x n l m few = omega (arith, few)
cond_both false x n l m few = few

-- tests that say the same of each name in a list
filter_all : (p q : Name → Bool) (xs : List Name) → AllByRecursion (λ y. p y ≡ q y) xs → filter p xs ≡ filter q xs
filter_all p q [] all = refl
filter_all p q (x ∷ xs) all = ap₂ (λ (t : Bool) (l : List Name). cond t (x ∷ l) l) all.0 (filter_all p q xs all.1)

-- tests that differ at one name of a rising list
pub few_more : (p q : Name → Bool) (low : Name) (xs : List Name) → IsStrictlySortedBy name_cmp xs → ((y : Name) → is_eq (name_cmp low y) ≡ false → p y ≡ q y) → length (filter p xs) ≤ length (filter q xs) + 1
unfolding IsStrictlySortedBy
few_more p q low [] up same = omega arith
few_more p q low (x ∷ xs) up same = by_name (same_or_other low x) (few_more p q low xs up.1 same)
  where
    apart_all : (names : List Name) → AllByRecursion (λ y. name_cmp x y ≡ Less) names → low ≡ x → AllByRecursion (λ y. p y ≡ q y) names
    apart_all [] all is = tt
    apart_all (y ∷ names) all is = (same y (ap (λ (n : Name). is_eq (name_cmp n y)) is ∙ ap is_eq all.0), apart_all names all.1 is)

    by_name : (low ≡ x) ⊎ (is_eq (name_cmp low x) ≡ false) → length (filter p xs) ≤ length (filter q xs) + 1 → length (filter p (x ∷ xs)) ≤ length (filter q (x ∷ xs)) + 1
    by_name (inl is) tails =
        let rest : length (filter p xs) ≡ length (filter q xs) = ap length (filter_all p q xs (apart_all xs up.0 is)) in
        let above : length (cond (p x) (x ∷ filter p xs) (filter p xs)) ≤ length (filter p xs) + 1 = cond_few (p x) x (filter p xs) in
        let below : length (filter q xs) ≤ length (cond (q x) (x ∷ filter q xs) (filter q xs)) = cond_more (q x) x (filter q xs) in
        omega (arith, rest, above, below)
    by_name (inr apart) tails =
        subst (λ (t : Bool). length (cond (p x) (x ∷ filter p xs) (filter p xs)) ≤ length (cond t (x ∷ filter q xs) (filter q xs)) + 1) (same x apart)
        (cond_both (p x) x 1 (filter p xs) (filter q xs) tails)

-- each name of a list as two tests say of it
count_like : (t : Bool) (x : Name) (l m : List Name) (a b : ℕ) → length l + a ≡ length m + b → length (cond t (x ∷ l) l) + a ≡ length (cond t (x ∷ m) m) + b
count_like true x l m a b same = omega (arith, same)
count_like false x l m a b same = same

-- tests that differ at one name, which a level has
count_net : (p q : Name → Bool) (low : Name) (row : NodeRow) → IsStrictlySortedBy name_cmp (keys_of row) → IsSome (value_at low row) → ((y : Name) → is_eq (name_cmp low y) ≡ false → p y ≡ q y) →
    length (filter p (keys_of row)) + one_if (q low) ≡ length (filter q (keys_of row)) + one_if (p low)
unfolding IsStrictlySortedBy
count_net p q low [] up some same = absurd (true≢false (sym some))
count_net p q low (e ∷ row) up some same = by_name (same_or_other low e.0) (λ there. count_net p q low row up.1 there same)
  where
    apart_from : (names : List Name) → AllByRecursion (λ y. name_cmp e.0 y ≡ Less) names → low ≡ e.0 → AllByRecursion (λ y. p y ≡ q y) names
    apart_from [] all is = tt
    apart_from (y ∷ names) all is = (same y (ap (λ (n : Name). is_eq (name_cmp n y)) is ∙ ap is_eq all.0), apart_from names all.1 is)

    by_name : (low ≡ e.0) ⊎ (is_eq (name_cmp low e.0) ≡ false) →
        (IsSome (value_at low row) → length (filter p (keys_of row)) + one_if (q low) ≡ length (filter q (keys_of row)) + one_if (p low)) →
        length (filter p (e.0 ∷ keys_of row)) + one_if (q low) ≡ length (filter q (e.0 ∷ keys_of row)) + one_if (p low)
    by_name (inl is) rest =
        let tails : length (filter p (keys_of row)) ≡ length (filter q (keys_of row)) = ap length (filter_all p q (keys_of row) (apart_from (keys_of row) up.0 is)) in
        let first : length (filter p (e.0 ∷ keys_of row)) ≡ length (filter p (keys_of row)) + one_if (p low) = cond_is (p e.0) e.0 (filter p (keys_of row)) ∙ ap (λ (y : Name). length (filter p (keys_of row)) + one_if (p y)) (sym is) in
        let second : length (filter q (e.0 ∷ keys_of row)) ≡ length (filter q (keys_of row)) + one_if (q low) = cond_is (q e.0) e.0 (filter q (keys_of row)) ∙ ap (λ (y : Name). length (filter q (keys_of row)) + one_if (q y)) (sym is) in
        omega (arith, tails, first, second)
    by_name (inr apart) rest =
        subst (λ (t : Bool). length (filter p (e.0 ∷ keys_of row)) + one_if (q low) ≡ length (cond t (e.0 ∷ filter q (keys_of row)) (filter q (keys_of row))) + one_if (p low)) (same e.0 apart)
        (count_like (p e.0) e.0 (filter p (keys_of row)) (filter q (keys_of row)) (one_if (q low)) (one_if (p low)) (rest (subst IsSome (other_stays low e.0 (Some e.1) (value_at low row) apart) some)))

-- a test that is stricter
pub few_less : (p q : Name → Bool) (xs : List Name) → ((y : Name) → p y ≡ true → q y ≡ true) → length (filter p xs) ≤ length (filter q xs) + 0
few_less p q [] less = omega arith
few_less p q (x ∷ xs) less = by_test (p x) refl (few_less p q xs less)
  where
    by_test : (t : Bool) → p x ≡ t → length (filter p xs) ≤ length (filter q xs) + 0 → length (filter p (x ∷ xs)) ≤ length (filter q (x ∷ xs)) + 0
    by_test true is rest =
        subst (λ (t : Bool). length (cond t (x ∷ filter p xs) (filter p xs)) ≤ length (filter q (x ∷ xs)) + 0) (sym is)
        (subst (λ (t : Bool). length (x ∷ filter p xs) ≤ length (cond t (x ∷ filter q xs) (filter q xs)) + 0) (sym (less x is)) (omega (arith, rest)))
    by_test false is rest =
        subst (λ (t : Bool). length (cond t (x ∷ filter p xs) (filter p xs)) ≤ length (filter q (x ∷ xs)) + 0) (sym is)
        (let more : length (filter q xs) ≤ length (cond (q x) (x ∷ filter q xs) (filter q xs)) = cond_more (q x) x (filter q xs) in omega (arith, rest, more))

-- one name more in a list
insert_few : (p : Name → Bool) (k : Name) (keys : List Name) → length (filter p (insert_key name_cmp keys k)) ≤ length (filter p keys) + 1
insert_few p k [] = cond_few (p k) k []
insert_few p k (x ∷ xs) = by_order (name_cmp k x) (insert_few p k xs)
  where
    by_order : (o : Ordering) → length (filter p (insert_key name_cmp xs k)) ≤ length (filter p xs) + 1 →
        length (filter p (match_ordering o (k ∷ x ∷ xs) (x ∷ xs) (x ∷ insert_key name_cmp xs k))) ≤ length (filter p (x ∷ xs)) + 1
    by_order Less rest = cond_few (p k) k (filter p (x ∷ xs))
    by_order Equal rest = omega arith
    by_order Greater rest = cond_both (p x) x 1 (filter p (insert_key name_cmp xs k)) (filter p xs) rest

-- ---- counts of nodes that wait

pub waiting_at_is : (rows : List NodeRow) (level : ℕ) → lows_at (waiting_of rows) level ≡ waiting_in (row_of rows level)
waiting_at_is [] level = refl
waiting_at_is (row ∷ rows) zero = refl
waiting_at_is (row ∷ rows) (suc level) = waiting_at_is rows level

-- the nodes of one level changed
level_few : (n : ℕ) (old new : List NodeRow) (level : ℕ) (low : Name) (m : Node) → HasPutAt old new level low m → length (waiting_in (row_of new level)) ≤ length (waiting_in (row_of old level)) + n →
    count_lows (waiting_of new) ≤ count_lows (waiting_of old) + n
level_few n old new level low m put few =
    count_one n (waiting_of new) (waiting_of old) level (length-map new waiting_in ∙ put.height ∙ sym (length-map old waiting_in))
    (λ k apart. waiting_at_is new k ∙ ap waiting_in (put.others k apart) ∙ sym (waiting_at_is old k))
    (subst (λ (l : List Name). length l ≤ length (lows_at (waiting_of old) level) + n) (sym (waiting_at_is new level))
    (subst (λ (l : List Name). length (waiting_in (row_of new level)) ≤ length l + n) (sym (waiting_at_is old level)) few))

put_elsewhere : (old new : List NodeRow) (level : ℕ) (low : Name) (m : Node) → HasPutAt old new level low m → (y : Name) → is_eq (name_cmp low y) ≡ false → waits_in (row_of new level) y ≡ waits_in (row_of old level) y
put_elsewhere old new level low m put y apart = ap is_forced (put.here y ∙ other_stays low y (Some m) (value_at y (row_of old level)) apart)

-- a node in the place of another one
pub put_few : (old new : List NodeRow) (level : ℕ) (low : Name) (m n : Node) → AreParts old → AreParts new → value_at low (row_of old level) ≡ Some m → HasPutAt old new level low n → count_lows (waiting_of new) ≤ count_lows (waiting_of old) + 1
put_few old new level low m n was are there put =
    level_few 1 old new level low n put
    (subst (λ (keys : List Name). length (filter (waits_in (row_of new level)) keys) ≤ length (waiting_in (row_of old level)) + 1) (sym (keys_at new old level (put_lows old new level low m n was are there put)))
    (few_more (waits_in (row_of new level)) (waits_in (row_of old level)) low (keys_of (row_of old level)) (was.rising level) (put_elsewhere old new level low n put)))

-- it counts in place of that one
pub put_net : (old new : List NodeRow) (level : ℕ) (low : Name) (m n : Node) → AreParts old → AreParts new → value_at low (row_of old level) ≡ Some m → HasPutAt old new level low n →
    count_lows (waiting_of new) + one_if m.forced ≡ count_lows (waiting_of old) + one_if n.forced
put_net old new level low m n was are there put =
    let all : count_lows (waiting_of new) + length (waiting_in (row_of old level)) ≡ count_lows (waiting_of old) + length (waiting_in (row_of new level)) =
    subst (λ (l : List Name). count_lows (waiting_of new) + length l ≡ count_lows (waiting_of old) + length (waiting_in (row_of new level))) (waiting_at_is old level)
    (subst (λ (l : List Name). count_lows (waiting_of new) + length (lows_at (waiting_of old) level) ≡ count_lows (waiting_of old) + length l) (waiting_at_is new level)
    (count_apart (waiting_of new) (waiting_of old) level (length-map new waiting_in ∙ put.height ∙ sym (length-map old waiting_in)) (λ k apart. waiting_at_is new k ∙ ap waiting_in (put.others k apart) ∙ sym (waiting_at_is old k)))) in
    let some : IsSome (value_at low (row_of old level)) = subst IsSome (sym there) refl in
    let here : waits_in (row_of new level) low ≡ n.forced = ap is_forced (put.here low ∙ same_gets low (Some n) (value_at low (row_of old level))) in
    let one : length (filter (waits_in (row_of new level)) (keys_of (row_of old level))) + one_if (waits_in (row_of old level) low) ≡ length (waiting_in (row_of old level)) + one_if (waits_in (row_of new level) low) =
    count_net (waits_in (row_of new level)) (waits_in (row_of old level)) low (row_of old level) (was.rising level) some (put_elsewhere old new level low n put) in
    let keys : length (waiting_in (row_of new level)) ≡ length (filter (waits_in (row_of new level)) (keys_of (row_of old level))) =
    ap (λ (names : List Name). length (filter (waits_in (row_of new level)) names)) (keys_at new old level (put_lows old new level low m n was are there put)) in
    let before : one_if (waits_in (row_of old level) low) ≡ one_if m.forced = ap (λ (o : Option Node). one_if (is_forced o)) there in
    let after : one_if (waits_in (row_of new level) low) ≡ one_if n.forced = ap one_if here in
    omega (arith, all, one, keys, before, after)

-- one that does not wait
pub put_fewer : (old new : List NodeRow) (level : ℕ) (low : Name) (m n : Node) → AreParts old → AreParts new → value_at low (row_of old level) ≡ Some m → HasPutAt old new level low n → n.forced ≡ false →
    count_lows (waiting_of new) ≤ count_lows (waiting_of old)
put_fewer old new level low m n was are there put quiet =
    let few : count_lows (waiting_of new) ≤ count_lows (waiting_of old) + 0 = level_few 0 old new level low n put
    (subst (λ (keys : List Name). length (filter (waits_in (row_of new level)) keys) ≤ length (waiting_in (row_of old level)) + 0) (sym (keys_at new old level (put_lows old new level low m n was are there put)))
    (few_less (waits_in (row_of new level)) (waits_in (row_of old level)) (keys_of (row_of old level)) (λ y. by_name y (same_or_other low y)))) in
    omega (arith, few)
  where
    by_name : (y : Name) → (low ≡ y) ⊎ (is_eq (name_cmp low y) ≡ false) → waits_in (row_of new level) y ≡ true → waits_in (row_of old level) y ≡ true
    by_name y (inl is) waits =
        let here : waits_in (row_of new level) y ≡ false = subst (λ (x : Name). waits_in (row_of new level) x ≡ false) is (ap is_forced (put.here low ∙ same_gets low (Some n) (value_at low (row_of old level))) ∙ quiet) in
        absurd (true≢false (sym waits ∙ here))
    by_name y (inr apart) waits = sym (put_elsewhere old new level low n put y apart) ∙ waits

apart_all : (x : Name) (row : NodeRow) → value_at x row ≡ None → AllByRecursion (λ y. is_eq (name_cmp x y) ≡ false) (keys_of row)
apart_all x [] none = tt
apart_all x (e ∷ row) none = by_test (is_eq (name_cmp x e.0)) refl none (λ h. apart_all x row h)
  where
    by_test : (t : Bool) → is_eq (name_cmp x e.0) ≡ t → cond t (Some e.1) (value_at x row) ≡ None → (value_at x row ≡ None → AllByRecursion (λ y. is_eq (name_cmp x y) ≡ false) (keys_of row)) → AllByRecursion (λ y. is_eq (name_cmp x y) ≡ false) (keys_of (e ∷ row))
    by_test true is h rest = absurd (none-some e.1 (sym h))
    by_test false is h rest = (is, rest h)

-- a new node
pub new_few : (old new : List NodeRow) (level : ℕ) (low : Name) (n : Node) → level < length old → value_at low (row_of old level) ≡ None → HasPutAt old new level low n → lows_of new ≡ with_low level low (lows_of old) →
    count_lows (waiting_of new) ≤ count_lows (waiting_of old) + 1
new_few old new level low n within free put lows =
    level_few 1 old new level low n put
    (subst (λ (keys : List Name). length (filter (waits_in (row_of new level)) keys) ≤ length (waiting_in (row_of old level)) + 1) (sym (keys_with old new level low within lows))
    (subst (λ (l : List Name). length (filter (waits_in (row_of new level)) (insert_key name_cmp (keys_of (row_of old level)) low)) ≤ length l + 1)
    (filter_all (waits_in (row_of new level)) (waits_in (row_of old level)) (keys_of (row_of old level)) (each (keys_of (row_of old level)) (apart_all low (row_of old level) free)))
    (insert_few (waits_in (row_of new level)) low (keys_of (row_of old level)))))
  where
    each : (keys : List Name) → AllByRecursion (λ y. is_eq (name_cmp low y) ≡ false) keys → AllByRecursion (λ y. waits_in (row_of new level) y ≡ waits_in (row_of old level) y) keys
    each [] all = tt
    each (y ∷ keys) all = (put_elsewhere old new level low n put y all.0, each keys all.1)

-- a root
pub root_few : (old new : List NodeRow) (root : Node) → HasRaised old new root → lows_of new ≡ with_root (lows_of old) → take (length old) new ≡ old → count_lows (waiting_of new) ≤ count_lows (waiting_of old) + 1
root_few old new root has lows front = by_test root.forced (root_waits old new root has lows front)
  where
    by_test : (t : Bool) → waiting_of new ≡ waiting_of old ++ cond t (least ∷ []) [] ∷ [] → count_lows (waiting_of new) ≤ count_lows (waiting_of old) + 1
    by_test true is = let whole : count_lows (waiting_of new) ≡ count_lows (waiting_of old) + (1 + 0) = ap count_lows is ∙ count_both (waiting_of old) ((least ∷ []) ∷ []) in omega (arith, whole)
    by_test false is = let whole : count_lows (waiting_of new) ≡ count_lows (waiting_of old) + (0 + 0) = ap count_lows is ∙ count_both (waiting_of old) ([] ∷ []) in omega (arith, whole)

pub raise_few : {X E : Type 0} (r : Result X E) (old new : List NodeRow) (root : Node) → OnOk r (HasRaised old new root) → OnOk r (lows_of new ≡ with_root (lows_of old)) → OnOk r (take (length old) new ≡ old) → OnErr r (new ≡ old) →
    count_lows (waiting_of new) ≤ count_lows (waiting_of old) + 1
raise_few (Ok x) old new root has lows front same = root_few old new root has lows front
raise_few (Err e) old new root has lows front same = let is : count_lows (waiting_of new) ≡ count_lows (waiting_of old) = ap (λ (rows : List NodeRow). count_lows (waiting_of rows)) same in omega (arith, is)

pub raise_height : {X E : Type 0} (r : Result X E) (old new : List NodeRow) (root : Node) → OnOk r (HasRaised old new root) → OnOk r (length new ≡ suc (length old))
raise_height (Ok x) old new root has = has.height
raise_height (Err e) old new root has = tt

-- a node without a wait in the place of one that is there
pub set_fewer : (old new : List NodeRow) (level : ℕ) (low : Name) (n : Node) → AreParts old → AreParts new → IsSome (value_at low (row_of old level)) → HasPutAt old new level low n → n.forced ≡ false →
    count_lows (waiting_of new) ≤ count_lows (waiting_of old)
set_fewer old new level low n was are there put quiet = by_value (value_at low (row_of old level)) refl there
  where
    by_value : (o : Option Node) → value_at low (row_of old level) ≡ o → IsSome o → count_lows (waiting_of new) ≤ count_lows (waiting_of old)
    by_value None is some = absurd (true≢false (sym some))
    by_value (Some m) is some = put_fewer old new level low m n was are is put quiet

pub both_few : (m n a b : ℕ) → m ≤ a → n ≤ b → m + n ≤ a + b
both_few m n a b first next = omega (arith, first, next)
