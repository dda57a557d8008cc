-- Nodes that are put while a log is read again.
use Rattle.std.proofs.Common.{◌≡◌, ◌<◌, ◌≤◌, ◌+◌, ◌-◌, ◌⊎◌, ◌&&◌, ◌||◌, ◌∷◌, ◌++◌, not, ℕ, zero, suc, List, [], Bool, true, false, cond, Option, None, Some, IsSome, length, take, get_or, refl, ap, sym, subst, ◌∙◌, inl, inr, arith, is_eq, Result, Ok, Err, OnOk}
use Rattle.std.proofs.lemmas.Bool.{cases_order, true≢false}
use Rattle.std.proofs.lemmas.List.{get_or_past, take_more}
use Rattle.std.proofs.lemmas.List.Folds.{list_any-append}
use Rattle.std.proofs.lemmas.Option.{none-some}
use Rattle.je_order.specs.Order.{name_cmp}
use Rattle.je_order.specs.declared.name.Name.{Name}
use Rattle.record_map.specs.Cells.{value_at}
use Rattle.record_map.proofs.NameLaws.{same_or_other}
use Rattle.tree_nodes.specs.declared.node.Node.{Node}
use Rattle.tree_nodes.specs.Nodes.{NodeRow, least}
use Rattle.tree_nodes.specs.Levels.{row_of, AreParts, HasPutAt, HasRaised}
use Rattle.db_tree.specs.Loading.{HasMore, HasLoaded, deleted_cell, has_version, GetsDeletions}
use Rattle.db_tree.specs.Splits.{one_if}
use Rattle.db_tree.specs.Waiting.{is_forced, waiting_of, waits_at, count_lows}
use Rattle.node_core.specs.declared.slot.Marked.{Marked}
use Rattle.record_map.specs.declared.cell.Cell.{Cell}
use Rattle.record_tree.specs.LoadedSlots.{is_deletion, is_inside, shows_deletion, shows_deletion_inside}
use Rattle.db_tree.proofs.NodeSteps.{IsElsewhere, place_of, put_elsewhere, put_here}
use Rattle.db_tree.proofs.Over.{there_is}
use Rattle.db_tree.proofs.WaitCounts.{put_few, put_net}

-- ---- levels with more nodes

pub more_none : (rows : List NodeRow) (level : ℕ) (low : Name) → HasMore rows rows level low
more_none rows level low = record { kept = λ k x n there. there; made = λ k x some. inl some }

pub more_then : (a b c : List NodeRow) (level : ℕ) (low : Name) → HasMore a b level low → HasMore b c level low → HasMore a c level low
more_then a b c level low first next = record {
  kept = λ k x n there. next.kept k x n (first.kept k x n there);
  made = λ k x some. by_next k x (next.made k x some);
}
  where
    by_next : (k : ℕ) (x : Name) → IsSome (value_at x (row_of b k)) ⊎ ((k ≤ level) × ((x ≡ low) ⊎ (x ≡ least))) → IsSome (value_at x (row_of a k)) ⊎ ((k ≤ level) × ((x ≡ low) ⊎ (x ≡ least)))
    by_next k x (inl some) = first.made k x some
    by_next k x (inr new) = inr new

-- a root above the top
pub more_raised : {X E : Type 0} (r : Result X E) (old new : List NodeRow) (root : Node) (level : ℕ) (low : Name) → length old ≤ level → OnOk r (HasRaised old new root) → OnOk r (HasMore old new level low)
more_raised (Err e) old new root level low high has = tt
more_raised (Ok v) old new root level low high has = record { kept = λ k x n there. kept k x n (cases_order k (length old)) there; made = λ k x some. made k x (cases_order k (length old)) some }
  where
    kept : (k : ℕ) (x : Name) (n : Node) → (k ≡ length old) ⊎ ((k < length old) ⊎ (length old < k)) → value_at x (row_of old k) ≡ Some n → value_at x (row_of new k) ≡ Some n
    kept k x n (inr (inl less)) there = ap (value_at x) (has.below k less) ∙ there
    kept k x n (inl same) there = let past : length old ≤ k = omega (arith, same) in absurd (none-some n (ap (value_at x) (sym (get_or_past old k [] past)) ∙ there))
    kept k x n (inr (inr more)) there = let past : length old ≤ k = omega (arith, more) in absurd (none-some n (ap (value_at x) (sym (get_or_past old k [] past)) ∙ there))

    by_top : (k : ℕ) (x : Name) → k ≡ length old → (t : Bool) → is_eq (name_cmp least x) ≡ t → value_at x (row_of new (length old)) ≡ cond t (Some root) None → IsSome (value_at x (row_of new k)) →
        (least ≡ x) ⊎ (is_eq (name_cmp least x) ≡ false) → IsSome (value_at x (row_of old k)) ⊎ ((k ≤ level) × ((x ≡ low) ⊎ (x ≡ least)))
    by_top k x same t test is some (inl here) = let at : k ≤ level = omega (arith, same, high) in inr (at, inr (sym here))
    by_top k x same true test is some (inr apart) = absurd (true≢false (sym test ∙ apart))
    by_top k x same false test is some (inr apart) = absurd (true≢false (sym (subst IsSome (ap (λ (i : ℕ). value_at x (row_of new i)) same ∙ is) some)))

    made : (k : ℕ) (x : Name) → (k ≡ length old) ⊎ ((k < length old) ⊎ (length old < k)) → IsSome (value_at x (row_of new k)) → IsSome (value_at x (row_of old k)) ⊎ ((k ≤ level) × ((x ≡ low) ⊎ (x ≡ least)))
    made k x (inr (inl less)) some = inl (subst (λ (row : NodeRow). IsSome (value_at x row)) (has.below k less) some)
    made k x (inl same) some = by_top k x same (is_eq (name_cmp least x)) refl (has.top x) some (same_or_other least x)
    made k x (inr (inr more)) some =
        let height : length new ≡ suc (length old) = has.height in
        let past : length new ≤ k = omega (arith, more, height) in
        absurd (true≢false (sym (subst (λ (row : NodeRow). IsSome (value_at x row)) (get_or_past new k [] past) some)))

-- a node under a low that a level did not have
pub more_put : (old new : List NodeRow) (level top : ℕ) (low copy : Name) (node : Node) → level ≤ top → copy ≡ low → value_at low (row_of old level) ≡ None → HasPutAt old new level copy node → HasMore old new top low
more_put old new level top low copy node le is free put = record { kept = λ k x n there. kept k x n there (place_of level copy k x); made = λ k x some. made k x some (place_of level copy k x) }
  where
    kept : (k : ℕ) (x : Name) (n : Node) → value_at x (row_of old k) ≡ Some n → ((level ≡ k) × (copy ≡ x)) ⊎ IsElsewhere level copy k x → value_at x (row_of new k) ≡ Some n
    kept k x n there (inr other) = put_elsewhere old new level copy node k x put other ∙ there
    kept k x n there (inl here) =
        absurd (none-some n (sym (subst (λ (i : ℕ). value_at x (row_of old i) ≡ None) here.0 (subst (λ (y : Name). value_at y (row_of old level) ≡ None) (sym is ∙ here.1) free)) ∙ there))

    made : (k : ℕ) (x : Name) → IsSome (value_at x (row_of new k)) → ((level ≡ k) × (copy ≡ x)) ⊎ IsElsewhere level copy k x → IsSome (value_at x (row_of old k)) ⊎ ((k ≤ top) × ((x ≡ low) ⊎ (x ≡ least)))
    made k x some (inr other) = inl (subst IsSome (put_elsewhere old new level copy node k x put other) some)
    made k x some (inl here) = let same : level ≡ k = here.0 in let at : k ≤ top = omega (arith, same, le) in inr (at, inl (sym here.1 ∙ is))

-- ---- a node that was put

-- a low of a level is one of each level below
pub low_down : (rows : List NodeRow) (low : Name) (level k : ℕ) → AreParts rows → k ≤ level → IsSome (value_at low (row_of rows level)) → IsSome (value_at low (row_of rows k))
low_down rows low level k parts le some = down (level - k) (subst (λ (i : ℕ). IsSome (value_at low (row_of rows i))) (let e : level ≡ k + (level - k) = omega (arith, le) in e) some)
  where
    down : (more : ℕ) → IsSome (value_at low (row_of rows (k + more))) → IsSome (value_at low (row_of rows k))
    down zero h = subst (λ (i : ℕ). IsSome (value_at low (row_of rows i))) (let e : k + 0 ≡ k = omega arith in e) h
    down (suc more) h = down more (parts.nested (k + more) low (subst (λ (i : ℕ). IsSome (value_at low (row_of rows i))) (let e : k + suc more ≡ suc (k + more) = omega arith in e) h))

pub loaded : (old mid new : List NodeRow) (level : ℕ) (low : Name) (node : Node) → HasMore old mid level low → AreParts new → HasPutAt mid new level low node → HasLoaded old new level low node
loaded old mid new level low node more parts put =
    let here : value_at low (row_of new level) ≡ Some node = put_here mid new level low node put in
    record {
      here = here;
      below = λ k le. low_down new low level k parts le (there_is (row_of new level) low node here);
      kept = λ k x n there away. kept k x n there away (place_of level low k x);
      made = λ k x some. made k x some (place_of level low k x);
    }
  where
    kept : (k : ℕ) (x : Name) (n : Node) → value_at x (row_of old k) ≡ Some n → (k ≡ level → x ≡ low → ⊥) → ((level ≡ k) × (low ≡ x)) ⊎ IsElsewhere level low k x → value_at x (row_of new k) ≡ Some n
    kept k x n there away (inl same) = absurd (away (sym same.0) (sym same.1))
    kept k x n there away (inr other) = put_elsewhere mid new level low node k x put other ∙ more.kept k x n there

    made : (k : ℕ) (x : Name) → IsSome (value_at x (row_of new k)) → ((level ≡ k) × (low ≡ x)) ⊎ IsElsewhere level low k x → IsSome (value_at x (row_of old k)) ⊎ ((k ≤ level) × ((x ≡ low) ⊎ (x ≡ least)))
    made k x some (inl same) = let is : level ≡ k = same.0 in let at : k ≤ level = omega (arith, is) in inr (at, inl (sym same.1))
    made k x some (inr other) = more.made k x (subst IsSome (put_elsewhere mid new level low node k x put other) some)

-- ---- counts

-- a node in the place of one that is there
pub set_few : (old new : List NodeRow) (level : ℕ) (low : Name) (n : Node) → AreParts old → AreParts new → IsSome (value_at low (row_of old level)) → HasPutAt old new level low n → count_lows (waiting_of new) ≤ count_lows (waiting_of old) + 1
set_few old new level low n was are there put = by_value (value_at low (row_of old level)) refl there
  where
    by_value : (o : Option Node) → value_at low (row_of old level) ≡ o → IsSome o → count_lows (waiting_of new) ≤ count_lows (waiting_of old) + 1
    by_value None is some = absurd (true≢false (sym some))
    by_value (Some m) is some = put_few old new level low m n was are is put

-- it counts in place of that one
pub set_net : (old new : List NodeRow) (level : ℕ) (low : Name) (n : Node) (waited : Bool) → AreParts old → AreParts new → IsSome (value_at low (row_of old level)) → HasPutAt old new level low n → waited ≡ waits_at old level low →
    count_lows (waiting_of new) + one_if waited ≡ count_lows (waiting_of old) + one_if n.forced
set_net old new level low n waited was are there put is = by_value (value_at low (row_of old level)) refl there
  where
    by_value : (o : Option Node) → value_at low (row_of old level) ≡ o → IsSome o → count_lows (waiting_of new) + one_if waited ≡ count_lows (waiting_of old) + one_if n.forced
    by_value None found some = absurd (true≢false (sym some))
    by_value (Some m) found some =
        subst (λ (t : Bool). count_lows (waiting_of new) + one_if t ≡ count_lows (waiting_of old) + one_if n.forced) (sym (is ∙ ap is_forced found)) (put_net old new level low m n was are found put)

-- counts that rise step by step
pub few_three : (a b c d m n k : ℕ) → b ≤ a + m → c ≤ b + n → d ≤ c + 1 → m + n + 1 ≤ k → d ≤ a + k
few_three a b c d m n k first next last at_most = omega (arith, first, next, last, at_most)

pub net_three : (a b c d m n waits waited : ℕ) → b ≤ a + m → c ≤ b + n → d + waited ≡ c + waits → d + waited ≤ a + (m + n + waits)
net_three a b c d m n waits waited first next last = omega (arith, first, next, last)

pub both_few : (m n : ℕ) → m ≤ 256 → n ≤ 256 → m + n + 1 ≤ 513
both_few m n first next = omega (arith, first, next)

-- ---- slots of records that were deleted

or_false : (b : Bool) → (b || false) ≡ b
or_false true = refl
or_false false = refl

and_false : (b : Bool) → (b && false) ≡ false
and_false true = refl
and_false false = refl

pub gets_none : (at : ℕ) (cells : List (Name × Cell)) → GetsDeletions (λ x. false) at cells cells
gets_none at cells x = refl

-- some names, and then others
pub gets_then : (s t : Name → Bool) (at : ℕ) (a b c : List (Name × Cell)) → GetsDeletions s at a b → GetsDeletions t at b c → GetsDeletions (λ x. s x || t x) at a c
gets_then s t at a b c first next x =
    next x
    ∙ ap (λ (o : Option Cell). cond (t x && not (has_version o)) (Some (deleted_cell at)) o) (first x)
    ∙ by_tests (s x) (t x) (has_version (value_at x a)) (value_at x a) refl
  where
    by_tests : (p q h : Bool) (o : Option Cell) → has_version o ≡ h →
        cond (q && not (has_version (cond (p && not h) (Some (deleted_cell at)) o))) (Some (deleted_cell at)) (cond (p && not h) (Some (deleted_cell at)) o) ≡ cond ((p || q) && not h) (Some (deleted_cell at)) o
    by_tests false q h o is = ap (λ (v : Bool). cond (q && not v) (Some (deleted_cell at)) o) is
    by_tests true true true o is = ap (λ (v : Bool). cond (not v) (Some (deleted_cell at)) o) is
    by_tests true false true o is = refl
    by_tests true true false o is = refl
    by_tests true false false o is = refl

-- the names that a test finds are those that another one finds
gets_by : (s t : Name → Bool) (at : ℕ) (a b : List (Name × Cell)) → ((x : Name) → t x ≡ s x) → GetsDeletions s at a b → GetsDeletions t at a b
gets_by s t at a b same got x = got x ∙ sym (ap (λ (v : Bool). cond (v && not (has_version (value_at x a))) (Some (deleted_cell at)) (value_at x a)) (same x))

-- a name within bounds, and one outside
pub gets_inside : (low : Name) (high : Option Name) (name : Name) (at : ℕ) (a b : List (Name × Cell)) → is_inside low high name ≡ true → GetsDeletions (λ x. is_eq (name_cmp name x)) at a b →
    GetsDeletions (λ x. is_inside low high x && is_eq (name_cmp name x)) at a b
gets_inside low high name at a b inside got = gets_by (λ x. is_eq (name_cmp name x)) (λ x. is_inside low high x && is_eq (name_cmp name x)) at a b (λ x. by_name x (same_or_other name x)) got
  where
    by_name : (x : Name) → (name ≡ x) ⊎ (is_eq (name_cmp name x) ≡ false) → (is_inside low high x && is_eq (name_cmp name x)) ≡ is_eq (name_cmp name x)
    by_name x (inl same) = ap (λ (t : Bool). t && is_eq (name_cmp name x)) (subst (λ (y : Name). is_inside low high y ≡ true) same inside)
    by_name x (inr apart) = ap (λ (t : Bool). is_inside low high x && t) apart ∙ and_false (is_inside low high x) ∙ sym apart

pub gets_outside : (low : Name) (high : Option Name) (name : Name) (at : ℕ) (a : List (Name × Cell)) → is_inside low high name ≡ false → GetsDeletions (λ x. is_inside low high x && is_eq (name_cmp name x)) at a a
gets_outside low high name at a outside = gets_by (λ x. false) (λ x. is_inside low high x && is_eq (name_cmp name x)) at a a (λ x. by_name x (same_or_other name x)) (gets_none at a)
  where
    by_name : (x : Name) → (name ≡ x) ⊎ (is_eq (name_cmp name x) ≡ false) → (is_inside low high x && is_eq (name_cmp name x)) ≡ false
    by_name x (inl same) = ap (λ (t : Bool). t && is_eq (name_cmp name x)) (subst (λ (y : Name). is_inside low high y ≡ false) same outside)
    by_name x (inr apart) = ap (λ (t : Bool). is_inside low high x && t) apart ∙ and_false (is_inside low high x)

pub gets_no : (low : Name) (high : Option Name) (m : Marked) (at : ℕ) (a : List (Name × Cell)) → is_deletion m.slot.version ≡ false → GetsDeletions (shows_deletion_inside low high (m ∷ [])) at a a
gets_no low high m at a other =
    gets_by (λ x. false) (shows_deletion_inside low high (m ∷ [])) at a a
    (λ x. ap (λ (v : Bool). is_inside low high x && ((v && is_eq (name_cmp m.slot.name x)) || false)) other ∙ and_false (is_inside low high x)) (gets_none at a)

-- a slot more
pub gets_next : (low : Name) (high : Option Name) (slots : List Marked) (i : ℕ) (m : Marked) (at : ℕ) (a b c : List (Name × Cell)) → i < length slots → m ≡ get_or slots i m →
    GetsDeletions (shows_deletion_inside low high (take i slots)) at a b → GetsDeletions (shows_deletion_inside low high (m ∷ [])) at b c → GetsDeletions (shows_deletion_inside low high (take (i + 1) slots)) at a c
gets_next low high slots i m at a b c within is first next =
    gets_by (λ x. shows_deletion_inside low high (take i slots) x || shows_deletion_inside low high (m ∷ []) x) (shows_deletion_inside low high (take (i + 1) slots)) at a c all
    (gets_then (shows_deletion_inside low high (take i slots)) (shows_deletion_inside low high (m ∷ [])) at a b c first next)
  where
    both : (p s t : Bool) → (p && (s || t)) ≡ ((p && s) || (p && t))
    both true s t = refl
    both false s t = refl

    all : (x : Name) → shows_deletion_inside low high (take (i + 1) slots) x ≡ (shows_deletion_inside low high (take i slots) x || shows_deletion_inside low high (m ∷ []) x)
    all x =
        ap (λ (l : List Marked). shows_deletion_inside low high l x) (take_more slots i m within ∙ ap (λ (y : Marked). take i slots ++ y ∷ []) (sym is))
        ∙ ap (λ (t : Bool). is_inside low high x && t) (list_any-append (λ (y : Marked). is_deletion y.slot.version && is_eq (name_cmp y.slot.name x)) (take i slots) (m ∷ []))
        ∙ both (is_inside low high x) (shows_deletion (take i slots) x) (shows_deletion (m ∷ []) x)

-- a name that has a slot, and one that has none
pub gets_had : (name : Name) (at : ℕ) (cells : List (Name × Cell)) → has_version (value_at name cells) ≡ true → GetsDeletions (λ x. is_eq (name_cmp name x)) at cells cells
gets_had name at cells had x = by_name (same_or_other name x)
  where
    by_test : (t : Bool) (o : Option Cell) → has_version o ≡ true → o ≡ cond (t && not (has_version o)) (Some (deleted_cell at)) o
    by_test false o is = refl
    by_test true o is = sym (ap (λ (v : Bool). cond (not v) (Some (deleted_cell at)) o) is)

    by_name : (name ≡ x) ⊎ (is_eq (name_cmp name x) ≡ false) → value_at x cells ≡ cond (is_eq (name_cmp name x) && not (has_version (value_at x cells))) (Some (deleted_cell at)) (value_at x cells)
    by_name (inl same) = by_test (is_eq (name_cmp name x)) (value_at x cells) (subst (λ (y : Name). has_version (value_at y cells) ≡ true) same had)
    by_name (inr apart) = sym (ap (λ (t : Bool). cond (t && not (has_version (value_at x cells))) (Some (deleted_cell at)) (value_at x cells)) apart)

pub gets_put : (name : Name) (at : ℕ) (cell : Cell) (a b : List (Name × Cell)) → cell ≡ deleted_cell at → has_version (value_at name a) ≡ false →
    ((x : Name) → value_at x b ≡ cond (is_eq (name_cmp name x)) (Some cell) (value_at x a)) → GetsDeletions (λ x. is_eq (name_cmp name x)) at a b
gets_put name at cell a b is none put x = put x ∙ ap (λ (c : Cell). cond (is_eq (name_cmp name x)) (Some c) (value_at x a)) is ∙ by_name (same_or_other name x)
  where
    by_test : (t : Bool) (o : Option Cell) → has_version o ≡ false → cond t (Some (deleted_cell at)) o ≡ cond (t && not (has_version o)) (Some (deleted_cell at)) o
    by_test false o away = refl
    by_test true o away = sym (ap (λ (v : Bool). cond (not v) (Some (deleted_cell at)) o) away)

    by_name : (name ≡ x) ⊎ (is_eq (name_cmp name x) ≡ false) →
        cond (is_eq (name_cmp name x)) (Some (deleted_cell at)) (value_at x a) ≡ cond (is_eq (name_cmp name x) && not (has_version (value_at x a))) (Some (deleted_cell at)) (value_at x a)
    by_name (inl same) = by_test (is_eq (name_cmp name x)) (value_at x a) (subst (λ (y : Name). has_version (value_at y a) ≡ false) same none)
    by_name (inr apart) =
        ap (λ (t : Bool). cond t (Some (deleted_cell at)) (value_at x a)) apart
        ∙ sym (ap (λ (t : Bool). cond (t && not (has_version (value_at x a))) (Some (deleted_cell at)) (value_at x a)) apart)
