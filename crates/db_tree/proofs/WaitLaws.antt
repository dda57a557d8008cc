-- Which nodes of changed levels wait.
use Rattle.std.proofs.Common.{◌≡◌, ◌<◌, ◌++◌, ◌∷◌, [], ℕ, zero, suc, List, Bool, true, false, cond, Option, None, Some, is_some, option_map, filter, map, take, set, length, get_or, refl, ap, ap₂, sym, subst, ◌∙◌, arith, is_eq, ◌⊎◌, inl, inr, Ordering, Less, Equal, Greater, Result, Ok, Err, OnOk}
use mathlib.Core.Path.{fun_ext}
use Rattle.std.specs.List.Sorted.{IsStrictlySortedBy}
use Rattle.std.specs.Map.{keys_of}
use Rattle.std.specs.BTreeSet.{insert_key}
use Rattle.std.specs.Ordering.{match_ordering}
use Rattle.std.proofs.lemmas.Bool.{true≢false}
use Rattle.std.proofs.lemmas.List.{length-map, map-append}
use Rattle.je_order.specs.Order.{name_cmp}
use Rattle.je_order.specs.declared.name.Name.{Name}
use Rattle.record_map.specs.Cells.{value_at, IsRising}
use Rattle.record_map.proofs.NameLaws.{same_or_other, other_stays, same_gets}
use Rattle.tree_nodes.specs.declared.node.Node.{Node}
use Rattle.tree_nodes.specs.Nodes.{NodeRow, least, HasPut, marked}
use Rattle.tree_nodes.specs.Levels.{row_of, AreParts, HasPutAt, HasMarkedAt, HasRaised}
use Rattle.tree_nodes.specs.Lows.{lows_of, lows_at, with_low, with_root}
use Rattle.tree_nodes.proofs.LowLaws.{lows_at_is}
use Rattle.db_tree.specs.NodeImages.{number_in, number_of}
use Rattle.db_tree.specs.Shapes.{AreAlike}
use Rattle.db_tree.specs.Waiting.{is_forced, waits_in, waits_at, waiting_in, waiting_of}
use Rattle.tree_nodes.proofs.RisingLists.{same_lists}
use Rattle.db_tree.proofs.SplitLaws.{level_cases}

-- ---- levels with the same lows

-- the lows of a level, each with a mark
abbrev marks_of : NodeRow → List (Name × Bool)
marks_of row = map (λ e. (e.0, true)) row

marks_keys : (row : NodeRow) → keys_of (marks_of row) ≡ keys_of row
marks_keys [] = refl
marks_keys (e ∷ row) = ap (λ (names : List Name). e.0 ∷ names) (marks_keys row)

mark_found : (row : NodeRow) (x : Name) → value_at x (marks_of row) ≡ option_map (λ n. true) (value_at x row)
mark_found [] x = refl
mark_found (e ∷ row) x = by_test (is_eq (name_cmp x e.0)) (mark_found row x)
  where
    by_test : (t : Bool) → value_at x (marks_of row) ≡ option_map (λ n. true) (value_at x row) → cond t (Some true) (value_at x (marks_of row)) ≡ option_map (λ n. true) (cond t (Some e.1) (value_at x row))
    by_test true rest = refl
    by_test false rest = rest

some_same : (a b : Option Node) → is_some a ≡ is_some b → option_map (λ n. true) a ≡ option_map (λ n. true) b
some_same None None same = refl
some_same None (Some n) same = absurd (true≢false (sym same))
some_same (Some m) None same = absurd (true≢false same)
some_same (Some m) (Some n) same = refl

-- levels that have nodes under the same names have the same lows
pub keys_same : (a b : NodeRow) → IsRising a → IsRising b → ((x : Name) → is_some (value_at x a) ≡ is_some (value_at x b)) → keys_of a ≡ keys_of b
keys_same a b up_a up_b same =
    sym (marks_keys a)
    ∙ ap keys_of (same_lists (marks_of a) (marks_of b) (subst (IsStrictlySortedBy name_cmp) (sym (marks_keys a)) up_a) (subst (IsStrictlySortedBy name_cmp) (sym (marks_keys b)) up_b)
    (λ x. mark_found a x ∙ some_same (value_at x a) (value_at x b) (same x) ∙ sym (mark_found b x)))
    ∙ marks_keys b

-- what is made of each level
pub map_same : {B : Type 0} (f : NodeRow → B) (a b : List NodeRow) → length a ≡ length b → ((k : ℕ) → f (get_or a k []) ≡ f (get_or b k [])) → map f a ≡ map f b
map_same f [] [] same each = refl
map_same f [] (y ∷ b) same each = absurd (omega (arith, same))
map_same f (x ∷ a) [] same each = absurd (omega (arith, same))
map_same f (x ∷ a) (y ∷ b) same each =
    let rest : length a ≡ length b = omega (arith, same) in ap₂ (λ h t. h ∷ t) (each 0) (map_same f a b rest (λ k. each (suc k)))

pub lows_same : (old new : List NodeRow) → AreParts old → AreParts new → length new ≡ length old → ((k : ℕ) (x : Name) → is_some (value_at x (row_of new k)) ≡ is_some (value_at x (row_of old k))) → lows_of new ≡ lows_of old
lows_same old new was are height same = map_same keys_of new old height (λ k. keys_same (row_of new k) (row_of old k) (are.rising k) (was.rising k) (same k))

-- ---- what waits

pub filter_ext : {X : Type 0} (p q : X → Bool) (xs : List X) → ((x : X) → p x ≡ q x) → filter p xs ≡ filter q xs
filter_ext {X} p q xs same = ap (λ (f : X → Bool). filter f xs) (fun_ext same)

pub waiting_in_same : (a b : NodeRow) → keys_of a ≡ keys_of b → ((x : Name) → waits_in a x ≡ waits_in b x) → waiting_in a ≡ waiting_in b
waiting_in_same a b keys same = ap (filter (waits_in a)) keys ∙ filter_ext (waits_in a) (waits_in b) (keys_of b) same

-- the lows of a level
pub keys_at : (rows : List NodeRow) (other : List NodeRow) (k : ℕ) → lows_of rows ≡ lows_of other → keys_of (row_of rows k) ≡ keys_of (row_of other k)
keys_at rows other k same = sym (lows_at_is rows k) ∙ ap (λ (lows : List (List Name)). lows_at lows k) same ∙ lows_at_is other k

pub waiting_same : (old new : List NodeRow) → length new ≡ length old → lows_of new ≡ lows_of old → ((k : ℕ) (x : Name) → waits_at new k x ≡ waits_at old k x) → waiting_of new ≡ waiting_of old
waiting_same old new height lows same = map_same waiting_in new old height (λ k. waiting_in_same (row_of new k) (row_of old k) (keys_at new old k lows) (same k))

-- a node in the place of one that waits as it did
pub alike : (old new : List NodeRow) → AreParts old → AreParts new → length new ≡ length old → ((k : ℕ) (x : Name) → is_some (value_at x (row_of new k)) ≡ is_some (value_at x (row_of old k))) →
    ((k : ℕ) (x : Name) → waits_at new k x ≡ waits_at old k x) → AreAlike old new
alike old new was are height some same =
    let lows : lows_of new ≡ lows_of old = lows_same old new was are height some in
    record { lows = lows; waits = waiting_same old new height lows same }

-- ---- one node

-- a node in the place of what a low had
pub put_at : {B : Type 0} (f : Option Node → B) (old new : List NodeRow) (level : ℕ) (low : Name) (n : Node) (m : Option Node) → value_at low (row_of old level) ≡ m → HasPutAt old new level low n → f (Some n) ≡ f m →
    (k : ℕ) (x : Name) → f (value_at x (row_of new k)) ≡ f (value_at x (row_of old k))
put_at f old new level low n m there put same k x = by_level (level_cases k level)
  where
    here : (low ≡ x) ⊎ (is_eq (name_cmp low x) ≡ false) → f (value_at x (row_of new level)) ≡ f (value_at x (row_of old level))
    here (inl is) =
        subst (λ (y : Name). f (value_at y (row_of new level)) ≡ f (value_at y (row_of old level))) is
        (ap f (put.here low ∙ same_gets low (Some n) (value_at low (row_of old level))) ∙ same ∙ ap f (sym there))
    here (inr apart) = ap f (put.here x ∙ other_stays low x (Some n) (value_at x (row_of old level)) apart)

    by_level : (k ≡ level) ⊎ (k ≡ level → ⊥) → f (value_at x (row_of new k)) ≡ f (value_at x (row_of old k))
    by_level (inl is) = subst (λ (l : ℕ). f (value_at x (row_of new l)) ≡ f (value_at x (row_of old l))) (sym is) (here (same_or_other low x))
    by_level (inr apart) = ap (λ (row : NodeRow). f (value_at x row)) (put.others k apart)

-- a node that waits as the one did that it replaces
pub put_alike : (old new : List NodeRow) (level : ℕ) (low : Name) (m n : Node) → AreParts old → AreParts new → value_at low (row_of old level) ≡ Some m → HasPutAt old new level low n → n.forced ≡ m.forced → AreAlike old new
put_alike old new level low m n was are there put same =
    alike old new was are put.height (put_at is_some old new level low n (Some m) there put refl) (put_at is_forced old new level low n (Some m) there put same)

pub mark_alike : (old new : List NodeRow) (level : ℕ) (x : Name) (from : ℕ) → AreParts old → AreParts new → HasMarkedAt old new level x from → AreAlike old new
mark_alike old new level x from was are m = put_alike old new level m.e.0 m.e.1 (marked from m.e.1) was are m.over.there m.put refl

-- the lows are as before where a node is put in the place of another one
pub put_lows : (old new : List NodeRow) (level : ℕ) (low : Name) (m n : Node) → AreParts old → AreParts new → value_at low (row_of old level) ≡ Some m → HasPutAt old new level low n → lows_of new ≡ lows_of old
put_lows old new level low m n was are there put = lows_same old new was are put.height (put_at is_some old new level low n (Some m) there put refl)

-- ---- a low more

pub insert_passed : (p : Name → Bool) (k : Name) (keys : List Name) → p k ≡ false → filter p (insert_key name_cmp keys k) ≡ filter p keys
insert_passed p k [] none = ap (λ (t : Bool). cond t (k ∷ []) []) none
insert_passed p k (x ∷ xs) none = by_order (name_cmp k x) (insert_passed p k xs none)
  where
    by_order : (o : Ordering) → filter p (insert_key name_cmp xs k) ≡ filter p xs → filter p (match_ordering o (k ∷ x ∷ xs) (x ∷ xs) (x ∷ insert_key name_cmp xs k)) ≡ filter p (x ∷ xs)
    by_order Less rest = ap (λ (t : Bool). cond t (k ∷ filter p (x ∷ xs)) (filter p (x ∷ xs))) none
    by_order Equal rest = refl
    by_order Greater rest = ap (λ (l : List Name). cond (p x) (x ∷ l) l) rest

at_set : (lows : List (List Name)) (level : ℕ) (names : List Name) → level < length lows → lows_at (set lows level names) level ≡ names
at_set [] level names within = absurd (omega (arith, within))
at_set (l ∷ lows) zero names within = refl
at_set (l ∷ lows) (suc level) names within = let less : level < length lows = omega (arith, within) in at_set lows level names less

-- the lows of a level that gets one more
pub keys_with : (old new : List NodeRow) (level : ℕ) (low : Name) → level < length old → lows_of new ≡ with_low level low (lows_of old) → keys_of (row_of new level) ≡ insert_key name_cmp (keys_of (row_of old level)) low
keys_with old new level low within are =
    sym (lows_at_is new level)
    ∙ ap (λ (lows : List (List Name)). lows_at lows level) are
    ∙ at_set (lows_of old) level (insert_key name_cmp (lows_at (lows_of old) level) low) (subst (λ (n : ℕ). level < n) (sym (length-map old keys_of)) within)
    ∙ ap (λ (names : List Name). insert_key name_cmp names low) (lows_at_is old level)

-- a new node that does not wait
pub split_waits : (old new : List NodeRow) (level : ℕ) (middle : Name) (n : Node) → level < length old → value_at middle (row_of old level) ≡ None → HasPutAt old new level middle n → n.forced ≡ false →
    lows_of new ≡ with_low level middle (lows_of old) → waiting_of new ≡ waiting_of old
split_waits old new level middle n within free put quiet lows = map_same waiting_in new old put.height (λ k. by_level k (level_cases k level))
  where
    waits : (k : ℕ) (x : Name) → waits_at new k x ≡ waits_at old k x
    waits = put_at is_forced old new level middle n None free put quiet

    by_level : (k : ℕ) → (k ≡ level) ⊎ (k ≡ level → ⊥) → waiting_in (row_of new k) ≡ waiting_in (row_of old k)
    by_level k (inl is) =
        subst (λ (l : ℕ). waiting_in (row_of new l) ≡ waiting_in (row_of old l)) (sym is)
        (ap (filter (waits_in (row_of new level))) (keys_with old new level middle within lows)
        ∙ insert_passed (waits_in (row_of new level)) middle (keys_of (row_of old level)) (waits level middle ∙ ap is_forced free)
        ∙ filter_ext (waits_in (row_of new level)) (waits_in (row_of old level)) (keys_of (row_of old level)) (waits level))
    by_level k (inr apart) = ap waiting_in (put.others k apart)

-- ---- a root

last_of_all : (rows : List NodeRow) (n : ℕ) → length rows ≡ suc n → rows ≡ take n rows ++ get_or rows n [] ∷ []
last_of_all [] n same = absurd (omega (arith, same))
last_of_all (r ∷ []) zero same = refl
last_of_all (r ∷ s ∷ rows) zero same = absurd (omega (arith, same))
last_of_all (r ∷ rows) (suc n) same = let rest : length rows ≡ suc n = omega (arith, same) in ap (λ (l : List NodeRow). r ∷ l) (last_of_all rows n rest)

at_end : (lows : List (List Name)) (names : List Name) → lows_at (lows ++ names ∷ []) (length lows) ≡ names
at_end [] names = refl
at_end (l ∷ lows) names = at_end lows names

pub root_waits : (old new : List NodeRow) (root : Node) → HasRaised old new root → lows_of new ≡ with_root (lows_of old) → take (length old) new ≡ old →
    waiting_of new ≡ waiting_of old ++ cond root.forced (least ∷ []) [] ∷ []
root_waits old new root has lows front =
    ap waiting_of (last_of_all new (length old) has.height ∙ ap (λ (l : List NodeRow). l ++ row_of new (length old) ∷ []) front)
    ∙ map-append waiting_in old (row_of new (length old) ∷ [])
    ∙ ap (λ (names : List Name). waiting_of old ++ names ∷ []) top
  where
    keys : keys_of (row_of new (length old)) ≡ least ∷ []
    keys =
        sym (lows_at_is new (length old))
        ∙ ap (λ (l : List (List Name)). lows_at l (length old)) lows
        ∙ ap (lows_at (with_root (lows_of old))) (sym (length-map old keys_of))
        ∙ at_end (lows_of old) (least ∷ [])

    waits : waits_in (row_of new (length old)) least ≡ root.forced
    waits = ap is_forced (has.top least ∙ same_gets least (Some root) (value_at least []))

    top : waiting_in (row_of new (length old)) ≡ cond root.forced (least ∷ []) []
    top = ap (filter (waits_in (row_of new (length old)))) keys ∙ ap (λ (t : Bool). cond t (least ∷ []) []) waits

-- a root that does not wait
pub quiet_root_waits : (old new : List NodeRow) (root : Node) → root.forced ≡ false → HasRaised old new root → lows_of new ≡ with_root (lows_of old) → take (length old) new ≡ old → waiting_of new ≡ waiting_of old ++ [] ∷ []
quiet_root_waits old new root quiet has lows front = root_waits old new root has lows front ∙ ap (λ (t : Bool). waiting_of old ++ cond t (least ∷ []) [] ∷ []) quiet

-- the one node of a new tree
pub first_waits : (rows : List NodeRow) (root : Node) → root.forced ≡ false → length rows ≡ 1 → HasPut [] (row_of rows 0) least root → lows_of rows ≡ (least ∷ []) ∷ [] → waiting_of rows ≡ [] ∷ []
first_waits rows root quiet height has lows =
    ap waiting_of (last_of_all rows 0 height)
    ∙ ap (λ (l : List NodeRow). map waiting_in (l ++ row_of rows 0 ∷ [])) (none rows)
    ∙ ap (λ (names : List Name). names ∷ []) (ap (filter (waits_in (row_of rows 0))) keys ∙ ap (λ (t : Bool). cond t (least ∷ []) []) waits)
  where
    none : (l : List NodeRow) → take 0 l ≡ []
    none [] = refl
    none (r ∷ l) = refl

    keys : keys_of (row_of rows 0) ≡ least ∷ []
    keys = sym (lows_at_is rows 0) ∙ ap (λ (l : List (List Name)). lows_at l 0) lows

    waits : waits_in (row_of rows 0) least ≡ false
    waits = ap is_forced (has least ∙ same_gets least (Some root) (value_at least [])) ∙ quiet

pub raised_waits : {X E : Type 0} (r : Result X E) (old new : List NodeRow) (root : Node) → root.forced ≡ false → OnOk r (HasRaised old new root) → OnOk r (lows_of new ≡ with_root (lows_of old)) → OnOk r (take (length old) new ≡ old) →
    OnOk r (waiting_of new ≡ waiting_of old ++ [] ∷ [])
raised_waits (Ok x) old new root quiet has lows front = quiet_root_waits old new root quiet has lows front
raised_waits (Err e) old new root quiet has lows front = tt

-- ---- numbers

pub put_number : (old new : List NodeRow) (level : ℕ) (low : Name) (n : Node) → HasPutAt old new level low n → number_of new level low ≡ n.number
put_number old new level low n put = ap number_in (put.here low ∙ same_gets low (Some n) (value_at low (row_of old level)))

pub root_number : {X E : Type 0} (r : Result X E) (old new : List NodeRow) (root : Node) (number : ℕ) → root.number ≡ number → OnOk r (HasRaised old new root) → OnOk r (number_of new (length old) least ≡ number)
root_number (Ok x) old new root number is has = ap number_in (has.top least ∙ same_gets least (Some root) (value_at least [])) ∙ is
root_number (Err e) old new root number is has = tt

pub root_below : {X E : Type 0} (r : Result X E) (old new : List NodeRow) (root : Node) → OnOk r (HasRaised old new root) → OnOk r ((k : ℕ) → k < length old → row_of new k ≡ row_of old k)
root_below (Ok x) old new root has = has.below
root_below (Err e) old new root has = tt
