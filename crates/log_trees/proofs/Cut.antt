-- The children of an IN within bounds, side by side, and the slots that name them.
use Rattle.std.proofs.Common.{◌≡◌, ◌⊎◌, ℕ, Bool, true, false, cond, List, [], ◌∷◌, ◌++◌, Option, None, Some, filter, Ordering, Less, Equal, Greater, is_eq, is_lt, refl, sym, ap, subst, ◌∙◌, inl, inr, arith}
use Rattle.std.specs.Prelude.{if◌then◌else◌}
use Rattle.std.proofs.lemmas.Bool.{true≢false, cond-true, cond_both}
use Rattle.std.proofs.lemmas.Option.{same_Some}
use Rattle.std.specs.List.{AllByRecursion}
use Rattle.je_order.specs.declared.name.Name.{Name}
use Rattle.je_order.specs.Order.{name_cmp}
use Rattle.je_order.proofs.Lists.{all_weaker, all_kept}
use Rattle.je_order.proofs.Orderings.{equal_from_test}
use Rattle.node_core.proofs.NameOrder.{total, same, turned}
use Rattle.log_trees.specs.Images.{NamedLsn}
use Rattle.log_trees.specs.Bounds.{is_below, is_within, slots_inside, Child, children}
use Rattle.log_trees.specs.Trees.{found, child_behind, child_over}
use Rattle.log_trees.specs.Sound.{AreUp}
use Rattle.log_trees.proofs.Bounds.{less_of, less_over, low_turned, above_more, within_parts, within_from, within_next, not_below_itself}

-- ---- lists

-- what two filters keep, where the first one keeps what the second does
pub filter_twice : {X : Type 0} (p q : X → Bool) (xs : List X) → AllByRecursion (λ x. q x ≡ true) (filter p xs) → filter p (filter q xs) ≡ filter p xs
filter_twice p q [] all = refl
filter_twice p q (x ∷ xs) all = by_first (p x) refl all (filter_twice p q xs)
  where
    by_second : (b : Bool) → p x ≡ false → filter p (filter q xs) ≡ filter p xs → filter p (cond b (x ∷ filter q xs) (filter q xs)) ≡ filter p xs
    by_second true fails rest = rw fails rest
    by_second false fails rest = rest

    by_first : (b : Bool) → p x ≡ b → AllByRecursion (λ y. q y ≡ true) (cond b (x ∷ filter p xs) (filter p xs)) → (AllByRecursion (λ y. q y ≡ true) (filter p xs) → filter p (filter q xs) ≡ filter p xs) →
        filter p (cond (q x) (x ∷ filter q xs) (filter q xs)) ≡ cond b (x ∷ filter p xs) (filter p xs)
    by_first true is h rest =
        ap (λ (b : Bool). filter p (cond b (x ∷ filter q xs) (filter q xs))) h.0
        ∙ cond-true (p x) (x ∷ filter p (filter q xs)) (filter p (filter q xs)) is
        ∙ ap (λ l. x ∷ l) (rest h.1)
    by_first false is h rest = by_second (q x) is (rest h)

-- a name is found among those that a filter keeps, if it keeps that name
pub found_kept : (p : NamedLsn → Bool) (x : Name) (slots : List NamedLsn) → AllByRecursion (λ s. is_eq (name_cmp x s.0) ≡ true → p s ≡ true) slots → found x (filter p slots) ≡ found x slots
found_kept p x [] all = refl
found_kept p x (s ∷ slots) all = by_test (p s) (is_eq (name_cmp x s.0)) refl refl (found_kept p x slots all.1)
  where
    by_test : (a b : Bool) → p s ≡ a → is_eq (name_cmp x s.0) ≡ b → found x (filter p slots) ≡ found x slots → found x (cond a (s ∷ filter p slots) (filter p slots)) ≡ cond b (Some s.1) (found x slots)
    by_test true b kept is rest = ap (λ (t : Bool). cond t (Some s.1) (found x (filter p slots))) is ∙ ap (cond b (Some s.1)) rest
    by_test false true kept is rest = absurd (true≢false (sym (all.0 is) ∙ kept))
    by_test false false kept is rest = rest

-- a name within bounds is found within them
pub found_in : (low : Name) (high : Option Name) (x : Name) (slots : List NamedLsn) → is_within low high x ≡ true → found x (slots_inside low high slots) ≡ found x slots
found_in low high x slots inside = found_kept (λ (s : NamedLsn). is_within low high s.0) x slots (each slots)
  where
    each : (l : List NamedLsn) → AllByRecursion (λ s. is_eq (name_cmp x s.0) ≡ true → is_within low high s.0 ≡ true) l
    each [] = tt
    each (s ∷ l) = (λ is. ap (is_within low high) (sym (same x s.0 (equal_from_test _ is))) ∙ inside, each l)

-- what holds of the slots within bounds
pub all_in : (P : NamedLsn → Type 0) (low : Name) (high : Option Name) (slots : List NamedLsn) → AllByRecursion (λ s. is_within low high s.0 ≡ true → P s) slots → AllByRecursion P (slots_inside low high slots)
all_in P low high [] all = tt
all_in P low high (s ∷ slots) all =
    cond_both (is_within low high s.0) (s ∷ slots_inside low high slots) (slots_inside low high slots) (AllByRecursion P) (λ e. (all.0 e, all_in P low high slots all.1)) (λ e. all_in P low high slots all.1)

pub in_all : (P : NamedLsn → Type 0) (low : Name) (high : Option Name) (slots : List NamedLsn) → AllByRecursion P (slots_inside low high slots) → AllByRecursion (λ s. is_within low high s.0 ≡ true → P s) slots
in_all P low high [] all = tt
in_all P low high (s ∷ slots) all = by_test (is_within low high s.0) refl all (in_all P low high slots)
  where
    by_test : (b : Bool) → is_within low high s.0 ≡ b → AllByRecursion P (cond b (s ∷ slots_inside low high slots) (slots_inside low high slots)) →
        (AllByRecursion P (slots_inside low high slots) → AllByRecursion (λ t. is_within low high t.0 ≡ true → P t) slots) → AllByRecursion (λ t. is_within low high t.0 ≡ true → P t) (s ∷ slots)
    by_test true is h rest = (λ e. h.0, rest h.1)
    by_test false is h rest = (λ e. absurd (true≢false (sym e ∙ is)), rest h)

-- slots that rise go on to, where some are left out
pub up_kept : (p : NamedLsn → Bool) (slots : List NamedLsn) → AreUp slots → AreUp (filter p slots)
up_kept p [] up = tt
up_kept p (s ∷ slots) up =
    cond_both (p s) (s ∷ filter p slots) (filter p slots) AreUp (λ e. (all_kept (λ (t : NamedLsn). name_cmp s.0 t.0 ≡ Less) p slots up.0, up_kept p slots up.1)) (λ e. up_kept p slots up.1)

-- ---- children side by side

-- each child has the names from its slot's to the next slot's
abbrev pub side_by_side : Name → Option Name → List NamedLsn → List Child
side_by_side low high [] = []
side_by_side low high (s ∷ []) = record { low = low; high = high; at = s.1 } ∷ []
side_by_side low high (s ∷ next ∷ slots) = record { low = low; high = Some next.0; at = s.1 } ∷ side_by_side next.0 high (next ∷ slots)

-- slots up to the first one whose name is not below a bound
abbrev pub below_bound : Option Name → List NamedLsn → List NamedLsn
below_bound high [] = []
below_bound high (s ∷ slots) = if is_below s.0 high then s ∷ below_bound high slots else []

-- the slots of the children within bounds, the first of which begins at the lower bound
abbrev pub cut_slots : Name → Option Name → List NamedLsn → List NamedLsn
cut_slots low high [] = []
cut_slots low high (s ∷ []) = (low, s.1) ∷ []
cut_slots low high (s ∷ next ∷ slots) = if is_lt (name_cmp low next.0) then (low, s.1) ∷ below_bound high (next ∷ slots) else cut_slots low high (next ∷ slots)

abbrev a_child : Name → Option Name → ℕ → Child
a_child low high at = record { low = low; high = high; at = at }

up_cut : (high : Option Name) (n : NamedLsn) (slots : List NamedLsn) → AreUp (n ∷ slots) → children n.0 high (n ∷ slots) ≡ side_by_side n.0 high (n ∷ below_bound high slots)
up_cut high n [] up = refl
up_cut high n (t ∷ slots) up =
    cond-true (is_lt (name_cmp n.0 t.0)) (cond (is_below t.0 high) (a_child n.0 (Some t.0) n.1 ∷ children t.0 high (t ∷ slots)) (a_child n.0 high n.1 ∷ [])) (children n.0 high (t ∷ slots)) (ap is_lt up.0.0)
    ∙ by_test (is_below t.0 high) (up_cut high t slots up.1)
  where
    by_test : (b : Bool) → children t.0 high (t ∷ slots) ≡ side_by_side t.0 high (t ∷ below_bound high slots) →
        cond b (a_child n.0 (Some t.0) n.1 ∷ children t.0 high (t ∷ slots)) (a_child n.0 high n.1 ∷ []) ≡ side_by_side n.0 high (n ∷ cond b (t ∷ below_bound high slots) [])
    by_test true rest = ap (λ l. a_child n.0 (Some t.0) n.1 ∷ l) rest
    by_test false rest = refl

-- the children within bounds stand side by side
pub children_cut : (low : Name) (high : Option Name) (slots : List NamedLsn) → AreUp slots → children low high slots ≡ side_by_side low high (cut_slots low high slots)
children_cut low high [] up = refl
children_cut low high (s ∷ []) up = refl
children_cut low high (s ∷ n ∷ slots) up = by_test (is_lt (name_cmp low n.0)) (children_cut low high (n ∷ slots) up.1)
  where
    by_below : (b : Bool) → cond b (a_child low (Some n.0) s.1 ∷ children n.0 high (n ∷ slots)) (a_child low high s.1 ∷ []) ≡ side_by_side low high ((low, s.1) ∷ cond b (n ∷ below_bound high slots) [])
    by_below true = ap (λ l. a_child low (Some n.0) s.1 ∷ l) (up_cut high n slots up.1)
    by_below false = refl

    by_test : (b : Bool) → children low high (n ∷ slots) ≡ side_by_side low high (cut_slots low high (n ∷ slots)) →
        cond b (cond (is_below n.0 high) (a_child low (Some n.0) s.1 ∷ children n.0 high (n ∷ slots)) (a_child low high s.1 ∷ [])) (children low high (n ∷ slots))
        ≡ side_by_side low high (cond b ((low, s.1) ∷ cond (is_below n.0 high) (n ∷ below_bound high slots) []) (cut_slots low high (n ∷ slots)))
    by_test true rest = by_below (is_below n.0 high)
    by_test false rest = rest

-- ---- the slots that are left

below_holds : (P : NamedLsn → Type 0) (high : Option Name) (slots : List NamedLsn) → AllByRecursion P slots → AllByRecursion (λ s. P s × (is_below s.0 high ≡ true)) (below_bound high slots)
below_holds P high [] all = tt
below_holds P high (s ∷ slots) all =
    cond_both (is_below s.0 high) (s ∷ below_bound high slots) [] (AllByRecursion (λ t. P t × (is_below t.0 high ≡ true))) (λ e. ((all.0, e), below_holds P high slots all.1)) (λ e. tt)

below_up : (high : Option Name) (slots : List NamedLsn) → AreUp slots → AreUp (below_bound high slots)
below_up high [] up = tt
below_up high (s ∷ slots) up =
    cond_both (is_below s.0 high) (s ∷ below_bound high slots) [] AreUp
    (λ e. (
      all_weaker (λ (t : NamedLsn). (name_cmp s.0 t.0 ≡ Less) × (is_below t.0 high ≡ true)) (λ t. name_cmp s.0 t.0 ≡ Less) (λ t h. h.0) (below_bound high slots) (below_holds (λ t. name_cmp s.0 t.0 ≡ Less) high slots up.0),
      below_up high slots up.1,
    )) (λ e. tt)

all_above : (low : Name) (n : NamedLsn) (slots : List NamedLsn) → is_lt (name_cmp low n.0) ≡ true → AreUp (n ∷ slots) → AllByRecursion (λ t. name_cmp low t.0 ≡ Less) (n ∷ slots)
all_above low n slots less up =
    (less_of _ less, all_weaker (λ (t : NamedLsn). name_cmp n.0 t.0 ≡ Less) (λ t. name_cmp low t.0 ≡ Less) (λ t h. total.trans low n.0 t.0 (less_of _ less) h) slots up.0)

pub cut_within : (low : Name) (high : Option Name) (slots : List NamedLsn) → is_below low high ≡ true → AreUp slots → AllByRecursion (λ s. is_within low high s.0 ≡ true) (cut_slots low high slots)
cut_within low high [] room up = tt
cut_within low high (s ∷ []) room up = (within_from low high low (not_below_itself low) room, tt)
cut_within low high (s ∷ n ∷ slots) room up =
    cond_both (is_lt (name_cmp low n.0)) ((low, s.1) ∷ below_bound high (n ∷ slots)) (cut_slots low high (n ∷ slots)) (AllByRecursion (λ (t : NamedLsn). is_within low high t.0 ≡ true))
    (λ e. (
      within_from low high low (not_below_itself low) room,
      all_weaker (λ (t : NamedLsn). (name_cmp low t.0 ≡ Less) × (is_below t.0 high ≡ true)) (λ t. is_within low high t.0 ≡ true) (λ t h. within_from low high t.0 (low_turned low t.0 h.0) h.1) (below_bound high (n ∷ slots))
          (below_holds (λ t. name_cmp low t.0 ≡ Less) high (n ∷ slots) (all_above low n slots e up.1)),
    )) (λ e. cut_within low high (n ∷ slots) room up.1)

pub cut_up : (low : Name) (high : Option Name) (slots : List NamedLsn) → AreUp slots → AreUp (cut_slots low high slots)
cut_up low high [] up = tt
cut_up low high (s ∷ []) up = (tt, tt)
cut_up low high (s ∷ n ∷ slots) up =
    cond_both (is_lt (name_cmp low n.0)) ((low, s.1) ∷ below_bound high (n ∷ slots)) (cut_slots low high (n ∷ slots)) AreUp
    (λ e. (
      all_weaker (λ (t : NamedLsn). (name_cmp low t.0 ≡ Less) × (is_below t.0 high ≡ true)) (λ t. name_cmp low t.0 ≡ Less) (λ t h. h.0) (below_bound high (n ∷ slots))
          (below_holds (λ t. name_cmp low t.0 ≡ Less) high (n ∷ slots) (all_above low n slots e up.1)),
      below_up high (n ∷ slots) up.1,
    )) (λ e. cut_up low high (n ∷ slots) up.1)

-- an IN with a slot has a child
pub cut_some : (low : Name) (high : Option Name) (s : NamedLsn) (slots : List NamedLsn) → (t : NamedLsn) × (rest : List NamedLsn) × (cut_slots low high (s ∷ slots) ≡ t ∷ rest)
cut_some low high s [] = ((low, s.1), [], refl)
cut_some low high s (n ∷ slots) = by_test (is_lt (name_cmp low n.0)) (cut_some low high n slots)
  where
    by_test : (b : Bool) → (t : NamedLsn) × (rest : List NamedLsn) × (cut_slots low high (n ∷ slots) ≡ t ∷ rest) →
        (t : NamedLsn) × (rest : List NamedLsn) × (cond b ((low, s.1) ∷ below_bound high (n ∷ slots)) (cut_slots low high (n ∷ slots)) ≡ t ∷ rest)
    by_test true h = ((low, s.1), below_bound high (n ∷ slots), refl)
    by_test false h = h

-- what holds of where the children stand holds of the slots'
pub children_lower : (P : ℕ → Type 0) (low : Name) (high : Option Name) (slots : List NamedLsn) → AllByRecursion (λ (c : Child). P c.at) (side_by_side low high slots) →
    AllByRecursion (λ (s : NamedLsn). P s.1) slots
children_lower P low high [] all = tt
children_lower P low high (s ∷ []) all = (all.0, tt)
children_lower P low high (s ∷ n ∷ slots) all = (all.0, children_lower P n.0 high (n ∷ slots) all.1)

-- ---- bounds

-- the bounds of the first child have room, since its slot lies within them
pub below_next : (low : Name) (s n : Name) → is_lt (name_cmp s low) ≡ false → name_cmp s n ≡ Less → is_lt (name_cmp low n) ≡ true
below_next low s n s_in up = by_order (name_cmp low n) refl
  where
    by_order : (o : Ordering) → name_cmp low n ≡ o → is_lt o ≡ true
    by_order Less e = refl
    by_order Equal e = absurd (true≢false (sym (ap is_lt (ap (λ (k : Name). name_cmp s k) (same low n e) ∙ up)) ∙ s_in))
    by_order Greater e = absurd (true≢false (sym (ap is_lt (total.trans s n low up (turned low n Greater e))) ∙ s_in))

pub below_last : (low : Name) (high : Option Name) (s : Name) → is_lt (name_cmp s low) ≡ false → is_below s high ≡ true → is_below low high ≡ true
below_last low None s a b = refl
below_last low (Some h) s a b = below_next low s h a (less_of _ b)

-- and so have those of all children
pub rooms : (low : Name) (high : Option Name) (slots : List NamedLsn) → AllByRecursion (λ s. is_within low high s.0 ≡ true) slots → AreUp slots → AllByRecursion (λ (c : Child). is_below c.low c.high ≡ true) (side_by_side low high slots)
rooms low high [] within up = tt
rooms low high (s ∷ []) within up = let bounds = within_parts low high s.0 within.0 in (below_last low high s.0 bounds.0 bounds.1, tt)
rooms low high (s ∷ n ∷ slots) within up = (below_next low s.0 n.0 (within_parts low high s.0 within.0).0 up.0.0, rooms n.0 high (n ∷ slots) (within_next low high n slots within.1 up.1) up.1)

-- where all slots lie within the bounds each has its child
pub children_whole : (low : Name) (high : Option Name) (slots : List NamedLsn) → AllByRecursion (λ s. is_within low high s.0 ≡ true) slots → AreUp slots → children low high slots ≡ side_by_side low high slots
children_whole low high [] within up = refl
children_whole low high (s ∷ []) within up = refl
children_whole low high (s ∷ n ∷ slots) within up =
    cond-true (is_lt (name_cmp low n.0)) (cond (is_below n.0 high) (a_child low (Some n.0) s.1 ∷ children n.0 high (n ∷ slots)) (a_child low high s.1 ∷ [])) (children low high (n ∷ slots))
    (below_next low s.0 n.0 (within_parts low high s.0 within.0).0 up.0.0)
    ∙ cond-true (is_below n.0 high) (a_child low (Some n.0) s.1 ∷ children n.0 high (n ∷ slots)) (a_child low high s.1 ∷ []) (within_parts low high n.0 within.1.0).1
    ∙ ap (λ l. a_child low (Some n.0) s.1 ∷ l) (children_whole n.0 high (n ∷ slots) (within_next low high n slots within.1 up.1) up.1)

-- ---- the child over a name within the bounds: slots that name no child count for nothing, whether they are there or not

none_over : (x : Name) (child : ℕ) (slots : List NamedLsn) → AllByRecursion (λ s. name_cmp x s.0 ≡ Less) slots → child_behind x child slots ≡ child
none_over x child [] all = refl
none_over x child (s ∷ slots) all = cond-true (is_lt (name_cmp x s.0)) child (child_behind x s.1 slots) (ap is_lt all.0)

-- slots are kept by where their children stand
abbrev kept : (ℕ → Bool) → List NamedLsn → List NamedLsn
kept p slots = filter (λ (s : NamedLsn). p s.1) slots

below_over : (p : ℕ → Bool) (x : Name) (high : Option Name) (child : ℕ) (slots : List NamedLsn) → is_below x high ≡ true → AreUp slots → AllByRecursion (λ (s : NamedLsn). p s.1 ≡ true) (below_bound high slots) →
    child_behind x child (below_bound high slots) ≡ child_behind x child (kept p slots)
below_over p x high child [] x_in up all = refl
below_over p x high child (t ∷ slots) x_in up all = by_test (is_below t.0 high) refl all (λ h. below_over p x high t.1 slots x_in up.1 h)
  where
    first_over : (o : Option Name) → is_below x o ≡ true → is_below t.0 o ≡ false → name_cmp x t.0 ≡ Less
    first_over None a b = absurd (true≢false b)
    first_over (Some h) a b = less_over x t.0 h a b

    by_test : (b : Bool) → is_below t.0 high ≡ b → AllByRecursion (λ (s : NamedLsn). p s.1 ≡ true) (cond b (t ∷ below_bound high slots) []) →
        (AllByRecursion (λ (s : NamedLsn). p s.1 ≡ true) (below_bound high slots) → child_behind x t.1 (below_bound high slots) ≡ child_behind x t.1 (kept p slots)) →
        child_behind x child (cond b (t ∷ below_bound high slots) []) ≡ child_behind x child (kept p (t ∷ slots))
    by_test true is h rest =
        ap (λ (v : ℕ). cond (is_lt (name_cmp x t.0)) child v) (rest h.1)
        ∙ sym (ap (child_behind x child) (cond-true (p t.1) (t ∷ kept p slots) (kept p slots) h.0))
    by_test false is h rest =
        let less = first_over high x_in is in
        sym (none_over x child (kept p (t ∷ slots)) (all_kept (λ (s : NamedLsn). name_cmp x s.0 ≡ Less) (λ s. p s.1) (t ∷ slots)
        (less, all_weaker (λ (s : NamedLsn). name_cmp t.0 s.0 ≡ Less) (λ s. name_cmp x s.0 ≡ Less) (λ s h. total.trans x t.0 s.0 less h) slots up.0)))

-- the name of the first slot does not matter
first_renamed : (low : Name) (high : Option Name) (s : NamedLsn) (slots : List NamedLsn) → cut_slots low high (s ∷ slots) ≡ cut_slots low high ((low, s.1) ∷ slots)
first_renamed low high s [] = refl
first_renamed low high s (t ∷ slots) = refl

waiting_over : (p : ℕ → Bool) (x low : Name) (high : Option Name) (a b : ℕ) (slots : List NamedLsn) → is_within low high x ≡ true → AreUp slots → AllByRecursion (λ (s : NamedLsn). p s.1 ≡ true) (cut_slots low high ((low, a) ∷ slots)) →
    (b ≡ a) ⊎ (p a ≡ false) → child_over x (cut_slots low high ((low, a) ∷ slots)) ≡ Some (child_behind x b (kept p slots))
waiting_over p x low high a b [] x_in up all start = ap (λ (n : ℕ). Some n) (sym (same_start start))
  where
    same_start : (b ≡ a) ⊎ (p a ≡ false) → b ≡ a
    same_start (inl e) = e
    same_start (inr fails) = absurd (true≢false (sym all.0 ∙ fails))
waiting_over p x low high a b (t ∷ slots) x_in up all start = by_test (is_lt (name_cmp low t.0)) refl all (λ c h begun. waiting_over p x low high t.1 c slots x_in up.1 h begun)
  where
    bounds : (is_lt (name_cmp x low) ≡ false) × (is_below x high ≡ true)
    bounds = within_parts low high x x_in

    same_start : p a ≡ true → (b ≡ a) ⊎ (p a ≡ false) → b ≡ a
    same_start passes (inl e) = e
    same_start passes (inr fails) = absurd (true≢false (sym passes ∙ fails))

    by_kept : (k : Bool) → p t.1 ≡ k → is_lt (name_cmp x t.0) ≡ false → AllByRecursion (λ (s : NamedLsn). p s.1 ≡ true) (cut_slots low high (t ∷ slots)) →
        ((c : ℕ) → AllByRecursion (λ (s : NamedLsn). p s.1 ≡ true) (cut_slots low high ((low, t.1) ∷ slots)) → (c ≡ t.1) ⊎ (p t.1 ≡ false) →
        child_over x (cut_slots low high ((low, t.1) ∷ slots)) ≡ Some (child_behind x c (kept p slots))) →
        child_over x (cut_slots low high (t ∷ slots)) ≡ Some (child_behind x b (cond k (t ∷ kept p slots) (kept p slots)))
    by_kept true is over h goes =
        ap (child_over x) (first_renamed low high t slots)
        ∙ goes t.1 (subst (AllByRecursion (λ (s : NamedLsn). p s.1 ≡ true)) (first_renamed low high t slots) h) (inl refl)
        ∙ sym (ap (λ (c : Bool). Some (cond c b (child_behind x t.1 (kept p slots)))) over)
    by_kept false is over h goes =
        ap (child_over x) (first_renamed low high t slots)
        ∙ goes b (subst (AllByRecursion (λ (s : NamedLsn). p s.1 ≡ true)) (first_renamed low high t slots) h) (inr is)

    by_test : (c : Bool) → is_lt (name_cmp low t.0) ≡ c → AllByRecursion (λ (s : NamedLsn). p s.1 ≡ true) (cond c ((low, a) ∷ below_bound high (t ∷ slots)) (cut_slots low high (t ∷ slots))) →
        ((c : ℕ) → AllByRecursion (λ (s : NamedLsn). p s.1 ≡ true) (cut_slots low high ((low, t.1) ∷ slots)) → (c ≡ t.1) ⊎ (p t.1 ≡ false) →
        child_over x (cut_slots low high ((low, t.1) ∷ slots)) ≡ Some (child_behind x c (kept p slots))) →
        child_over x (cond c ((low, a) ∷ below_bound high (t ∷ slots)) (cut_slots low high (t ∷ slots))) ≡ Some (child_behind x b (kept p (t ∷ slots)))
    by_test true is h goes =
        ap (λ (n : ℕ). Some n) (below_over p x high a (t ∷ slots) bounds.1 up h.1)
        ∙ ap (λ (n : ℕ). Some (child_behind x n (kept p (t ∷ slots)))) (sym (same_start h.0 start))
    by_test false is h goes = by_kept (p t.1) refl (above_more t.0 low x is bounds.0) h goes

-- where the slots of the children within the bounds are kept, the child over a name within them is theirs
pub over_kept : (p : ℕ → Bool) (x low : Name) (high : Option Name) (slots : List NamedLsn) → is_within low high x ≡ true → AreUp slots → AllByRecursion (λ (s : NamedLsn). p s.1 ≡ true) (cut_slots low high slots) →
    child_over x (kept p slots) ≡ child_over x (cut_slots low high slots)
over_kept p x low high [] x_in up all = refl
over_kept p x low high (s ∷ slots) x_in up all = by_first (p s.1) refl
  where
    renamed : AllByRecursion (λ (t : NamedLsn). p t.1 ≡ true) (cut_slots low high ((low, s.1) ∷ slots))
    renamed = subst (AllByRecursion (λ (t : NamedLsn). p t.1 ≡ true)) (first_renamed low high s slots) all

    zero_one : {A : Type 0} (o : Option ℕ) → o ≡ Some 0 → o ≡ Some 1 → A
    zero_one o a b = let e : 0 ≡ 1 = same_Some 0 1 (sym a ∙ b) in absurd (omega (arith, e))

    by_name : (c : Bool) (o : Option ℕ) (child : ℕ) → ((b : ℕ) → o ≡ Some (cond c b child)) → Some child ≡ o
    by_name true o child h = zero_one o (h 0) (h 1)
    by_name false o child h = sym (h 0)

    by_rest : (l : List NamedLsn) (o : Option ℕ) → ((b : ℕ) → o ≡ Some (child_behind x b l)) → child_over x l ≡ o
    by_rest [] o h = zero_one o (h 0) (h 1)
    by_rest (t ∷ l) o h = by_name (is_lt (name_cmp x t.0)) o (child_behind x t.1 l) h

    by_first : (k : Bool) → p s.1 ≡ k → child_over x (cond k (s ∷ kept p slots) (kept p slots)) ≡ child_over x (cut_slots low high (s ∷ slots))
    by_first true is = sym (ap (child_over x) (first_renamed low high s slots) ∙ waiting_over p x low high s.1 s.1 slots x_in up.1 renamed (inl refl))
    by_first false is = by_rest (kept p slots) (child_over x (cut_slots low high (s ∷ slots))) (λ b. ap (child_over x) (first_renamed low high s slots) ∙ waiting_over p x low high s.1 b slots x_in up.1 renamed (inr is))
