-- The places of due nodes.
use Rattle.std.proofs.Common.{◌≡◌, ◌≤◌, ◌<◌, ◌+◌, ◌⊎◌, inl, inr, ℕ, List, [], ◌∷◌, ◌++◌, Bool, true, false, cond, Option, None, Some, IfSome, option_map, length, set, get_or, refl, ap, ap₂, sym, subst, ◌∙◌, arith, is_eq, get_or-set_same, get_or-set_other}
use Rattle.std.proofs.lemmas.Bool.{true≢false, cases_eq, cases_lt}
use Rattle.std.proofs.lemmas.List.{get_or_append_left, get_or_default, get_or_past, get_or_push, length-set, length_push}
use Rattle.std.proofs.lemmas.List.Sums.{sum_by-cons}
use Rattle.std.specs.BTreeMap.{is_at}
use Rattle.std.specs.List.Sorted.{IsStrictlySortedBy}
use Rattle.std.specs.Map.{remove_entry}
use Rattle.std.proofs.lemmas.Option.{none-some, same_Some}
use Rattle.je_order.specs.Order.{name_cmp}
use Rattle.je_order.specs.declared.name.Name.{Name}
use Rattle.record_map.specs.Cells.{value_at, IsRising}
use Rattle.record_map.proofs.NameLaws.{same_or_other, name_same, other_stays, same_gets}
use Rattle.tree_nodes.specs.declared.node.Node.{Node}
use Rattle.tree_nodes.specs.Nodes.{ArePlaces, is_dirty, is_due, node_at, no_node, noted_as, placed}
use Rattle.tree_nodes.specs.Noted.{IsNextDue, NoneDue, count_due}
use Rattle.tree_nodes.specs.Due.{AreDueKept, IsLeastNumber, count_numbers, due_number, name_in, number_in, without}
use Rattle.tree_nodes.proofs.Places.{HasNoPlace, HasPlace, read_at, sets_places, takes_places, value_placed}
use Rattle.tree_nodes.proofs.RisingLists.{found_between, none_behind}
use Rattle.tree_nodes.proofs.LeastNumbers.{count_no, count_set, one_if}

-- ---- the next one

-- the number of a node that has a low, where it is due and where it is not
due_is : (x : Name) (n : Node) → is_due n ≡ true → due_number (Some x) n ≡ Some n.number
due_is x n is = ap (λ (b : Bool). cond b (Some n.number) None) is

no_number : (x : Name) (n : Node) → due_number (Some x) n ≡ None → is_due n ≡ false
no_number x n h = by_test (is_due n) refl h
  where
    by_test : (b : Bool) → is_due n ≡ b → cond b (Some n.number) None ≡ None → is_due n ≡ false
    by_test true is h = absurd (none-some n.number (sym h))
    by_test false is h = is

a_number : (x : Name) (n : Node) (m : ℕ) → due_number (Some x) n ≡ Some m → (is_due n ≡ true) × (n.number ≡ m)
a_number x n m h = by_test (is_due n) refl h
  where
    by_test : (b : Bool) → is_due n ≡ b → cond b (Some n.number) None ≡ Some m → (is_due n ≡ true) × (n.number ≡ m)
    by_test true is h = (is, same_Some n.number m h)
    by_test false is h = absurd (none-some m h)

-- the place of a node of the level
pub place_is : (lows : List (Name × ℕ)) (nodes : List Node) (x : Name) (n : Node) → value_at x (placed lows nodes) ≡ Some n → (i : ℕ) × (value_at x lows ≡ Some i) × (node_at nodes i ≡ n)
place_is lows nodes x n there = by_place (value_at x lows) refl
  where
    by_place : (o : Option ℕ) → value_at x lows ≡ o → (i : ℕ) × (value_at x lows ≡ Some i) × (node_at nodes i ≡ n)
    by_place None at = absurd (none-some n (sym (value_placed x lows nodes ∙ ap (option_map (node_at nodes)) at) ∙ there))
    by_place (Some i) at = (i, at, same_Some (node_at nodes i) n (sym (value_placed x lows nodes ∙ ap (option_map (node_at nodes)) at) ∙ there))

-- the number at the place of a low
number_at : (lows : List (Name × ℕ)) (nodes : List Node) (names : List (Option Name)) (due : List (Option ℕ)) → AreDueKept lows nodes names due → (x : Name) (i : ℕ) → value_at x lows ≡ Some i →
    number_in due i ≡ due_number (Some x) (node_at nodes i)
number_at lows nodes names due are x i at = are.numbers i ∙ ap (λ (o : Option Name). due_number o (node_at nodes i)) (are.named x i at)

pub none_due : (lows : List (Name × ℕ)) (nodes : List Node) (names : List (Option Name)) (due : List (Option ℕ)) → AreDueKept lows nodes names due → ((i : ℕ) → number_in due i ≡ None) → NoneDue (placed lows nodes)
none_due lows nodes names due are none x n there =
    let p = place_is lows nodes x n there in
    subst (λ (m : Node). is_due m ≡ false) p.2 (no_number x (node_at nodes p.0) (sym (number_at lows nodes names due are x p.0 p.1) ∙ none p.0))

pub next_is : (lows : List (Name × ℕ)) (nodes : List Node) (names : List (Option Name)) (due : List (Option ℕ)) (place : ℕ) (low : Name) → AreDueKept lows nodes names due → IsLeastNumber due place → name_in names place ≡ Some low →
    IsNextDue (placed lows nodes) (low, node_at nodes place)
next_is lows nodes names due place low are first named = record {
  there = value_placed low lows nodes ∙ ap (option_map (node_at nodes)) (are.here low place named);
  due = own.0;
  least = λ x n there is.
      let p = place_is lows nodes x n there in
      subst (λ (m : ℕ). m ≤ n.number) (sym own.1)
      (first.upto p.0 n.number (number_at lows nodes names due are x p.0 p.1 ∙ ap (due_number (Some x)) p.2 ∙ due_is x n is));
}
  where
    own : (is_due (node_at nodes place) ≡ true) × ((node_at nodes place).number ≡ first.number)
    own = a_number low (node_at nodes place) first.number (sym (number_at lows nodes names due are low place (are.here low place named)) ∙ first.there)

-- the least number stands at the place of a node
pub least_within : (lows : List (Name × ℕ)) (nodes : List Node) (names : List (Option Name)) (due : List (Option ℕ)) (place : ℕ) → AreDueKept lows nodes names due → IsLeastNumber due place → place < length names
least_within lows nodes names due place are first = by_length (cases_lt place (length names))
  where
    by_length : (place < length names) ⊎ (length names ≤ place) → place < length names
    by_length (inl less) = less
    by_length (inr past) =
        absurd (none-some first.number (sym (are.numbers place ∙ ap (λ (o : Option Name). due_number o (node_at nodes place)) (get_or_past names place None past)) ∙ first.there))

pub read_name : (names : List (Option Name)) (i : ℕ) (o : Option Name) → i < length names → o ≡ get_or names i o → o ≡ name_in names i
read_name names i o within is = is ∙ get_or_default names i o None within

-- ---- a node changes

pub due_set : (lows : List (Name × ℕ)) (nodes : List Node) (names : List (Option Name)) (due : List (Option ℕ)) (place : ℕ) (n : Node) (seen : List Node) (seen_names : List (Option Name)) (new : List (Option ℕ)) →
    AreDueKept lows nodes names due → place < length nodes → seen ≡ set nodes place n → seen_names ≡ names → new ≡ set due place (due_number (name_in seen_names place) (node_at seen place)) →
    AreDueKept lows (set nodes place n) names new
due_set lows nodes names due place n seen seen_names new are within same same_names is = subst (λ (d : List (Option ℕ)). AreDueKept lows (set nodes place n) names d) (sym made) (record {
  places = sets_places lows nodes place n are.places;
  count = are.count ∙ sym (length-set nodes place n);
  covers = let a = length-set nodes place n in let b = length-set due place number in let c = are.covers in omega (arith, a, b, c);
  named = are.named;
  here = are.here;
  numbers = λ i. by_place i (cases_eq i place);
})
  where
    number : Option ℕ
    number = due_number (name_in names place) (node_at (set nodes place n) place)

    made : new ≡ set due place number
    made = is ∙ ap₂ (λ (ns : List Node) (xs : List (Option Name)). set due place (due_number (name_in xs place) (node_at ns place))) same same_names

    by_place : (i : ℕ) → (i ≡ place) ⊎ (i ≡ place → ⊥) → number_in (set due place number) i ≡ due_number (name_in names i) (node_at (set nodes place n) i)
    by_place i (inl equal) =
        let covered : place < length due = let c = are.covers in omega (arith, within, c) in
        subst (λ (j : ℕ). number_in (set due place number) j ≡ due_number (name_in names j) (node_at (set nodes place n) j)) (sym equal) (get_or-set_same due place number None covered)
    by_place i (inr other) =
        get_or-set_other due place i number None other ∙ are.numbers i ∙ ap (due_number (name_in names i)) (sym (get_or-set_other nodes place i n no_node other))

-- the lists are known by equations
pub due_by : (lows : List (Name × ℕ)) (nodes new_nodes : List Node) (names new_names : List (Option Name)) (due new_due : List (Option ℕ)) → new_nodes ≡ nodes → new_names ≡ names → new_due ≡ due → AreDueKept lows nodes names due → AreDueKept lows new_nodes new_names new_due
due_by lows nodes new_nodes names new_names due new_due same_nodes same_names same are =
    subst (λ (ns : List Node). AreDueKept lows ns new_names new_due) (sym same_nodes)
    (subst (λ (xs : List (Option Name)). AreDueKept lows nodes xs new_due) (sym same_names) (subst (λ (d : List (Option ℕ)). AreDueKept lows nodes names d) (sym same) are))

-- ---- a node more

-- with room, nothing has changed
pub due_same : (lows new : List (Name × ℕ)) (nodes new_nodes : List Node) (names new_names : List (Option Name)) (due new_due : List (Option ℕ)) → new ≡ lows → new_nodes ≡ nodes → new_names ≡ names →
    ((i : ℕ) → number_in new_due i ≡ number_in due i) → length due ≤ length new_due → AreDueKept lows nodes names due → AreDueKept new new_nodes new_names new_due
due_same lows new nodes new_nodes names new_names due new_due same same_nodes same_names each longer are =
    subst (λ (l : List (Name × ℕ)). AreDueKept l new_nodes new_names new_due) (sym same)
    (subst (λ (ns : List Node). AreDueKept lows ns new_names new_due) (sym same_nodes)
    (subst (λ (xs : List (Option Name)). AreDueKept lows nodes xs new_due) (sym same_names) (record {
      places = are.places;
      count = are.count;
      covers = let c = are.covers in omega (arith, c, longer);
      named = are.named;
      here = are.here;
      numbers = λ i. each i ∙ are.numbers i;
    })))

pub due_put : (lows new : List (Name × ℕ)) (nodes : List Node) (names : List (Option Name)) (due : List (Option ℕ)) (low : Name) (n : Node) → AreDueKept lows nodes names due → length nodes < length due → value_at low lows ≡ None →
    HasPlace lows new low (length nodes) → ArePlaces new (nodes ++ n ∷ []) → AreDueKept new (nodes ++ n ∷ []) (names ++ Some low ∷ []) (set due (length nodes) (due_number (Some low) n))
due_put lows new nodes names due low n are room free has places_ = record {
  places = places_;
  count = length_push names (Some low) ∙ ap (λ (k : ℕ). k + 1) are.count ∙ sym (length_push nodes n);
  covers = let a = length_push nodes n in let b = length-set due (length nodes) (due_number (Some low) n) in omega (arith, a, b, room);
  named = λ x i at. by_name x i at (same_or_other low x);
  here = λ x i named. by_place x i named (cases_lt i (length names));
  numbers = λ i. by_number i (cases_eq i (length nodes)) (cases_lt i (length nodes));
}
  where
    own : name_in (names ++ Some low ∷ []) (length nodes) ≡ Some low
    own = ap (name_in (names ++ Some low ∷ [])) (sym are.count) ∙ get_or_push names (Some low) None (length names) refl

    before : (i : ℕ) → i < length nodes → name_in (names ++ Some low ∷ []) i ≡ name_in names i
    before i less = get_or_append_left names (Some low ∷ []) None i (let c = are.count in omega (arith, c, less))

    low_there : value_at low new ≡ Some (length nodes)
    low_there = has low ∙ same_gets low (Some (length nodes)) (value_at low lows)

    by_name : (x : Name) (i : ℕ) → value_at x new ≡ Some i → (low ≡ x) ⊎ (is_eq (name_cmp low x) ≡ false) → name_in (names ++ Some low ∷ []) i ≡ Some x
    by_name x i at (inl same) =
        let place : length nodes ≡ i = same_Some (length nodes) i (sym low_there ∙ ap (λ (y : Name). value_at y new) same ∙ at) in
        ap (name_in (names ++ Some low ∷ [])) (sym place) ∙ own ∙ ap Some same
    by_name x i at (inr apart) =
        let was : value_at x lows ≡ Some i = sym (other_stays low x (Some (length nodes)) (value_at x lows) apart) ∙ sym (has x) ∙ at in
        before i (are.places.within x i was) ∙ are.named x i was

    still : (x : Name) (i : ℕ) → value_at x lows ≡ Some i → (low ≡ x) ⊎ (is_eq (name_cmp low x) ≡ false) → value_at x new ≡ Some i
    still x i was (inl same) = absurd (none-some i (sym free ∙ ap (λ (y : Name). value_at y lows) same ∙ was))
    still x i was (inr apart) = has x ∙ other_stays low x (Some (length nodes)) (value_at x lows) apart ∙ was

    by_end : (x : Name) (i : ℕ) → name_in (names ++ Some low ∷ []) i ≡ Some x → (i ≡ length nodes) ⊎ (i ≡ length nodes → ⊥) → length names ≤ i → value_at x new ≡ Some i
    by_end x i named (inl last) past =
        let same : low ≡ x = same_Some low x (sym own ∙ ap (name_in (names ++ Some low ∷ [])) (sym last) ∙ named) in
        subst (λ (y : Name). value_at y new ≡ Some i) same (low_there ∙ ap Some (sym last))
    by_end x i named (inr other) past =
        absurd (none-some x (sym (get_or_past (names ++ Some low ∷ []) i None (let a = length_push names (Some low) in let c = are.count in omega (arith, a, c, past, other))) ∙ named))

    by_place : (x : Name) (i : ℕ) → name_in (names ++ Some low ∷ []) i ≡ Some x → (i < length names) ⊎ (length names ≤ i) → value_at x new ≡ Some i
    by_place x i named (inl less) = still x i (are.here x i (sym (before i (let c = are.count in omega (arith, c, less))) ∙ named)) (same_or_other low x)
    by_place x i named (inr past) = by_end x i named (cases_eq i (length nodes)) past

    by_number : (i : ℕ) → (i ≡ length nodes) ⊎ (i ≡ length nodes → ⊥) → (i < length nodes) ⊎ (length nodes ≤ i) →
        number_in (set due (length nodes) (due_number (Some low) n)) i ≡ due_number (name_in (names ++ Some low ∷ []) i) (node_at (nodes ++ n ∷ []) i)
    by_number i (inl last) by_length =
        subst (λ (j : ℕ). number_in (set due (length nodes) (due_number (Some low) n)) j ≡ due_number (name_in (names ++ Some low ∷ []) j) (node_at (nodes ++ n ∷ []) j)) (sym last)
        (get_or-set_same due (length nodes) (due_number (Some low) n) None room
        ∙ sym (ap₂ (λ (o : Option Name) (m : Node). due_number o m) own (get_or_push nodes n no_node (length nodes) refl)))
    by_number i (inr other) (inl less) =
        get_or-set_other due (length nodes) i (due_number (Some low) n) None other
        ∙ are.numbers i
        ∙ sym (ap₂ (λ (o : Option Name) (m : Node). due_number o m) (before i less) (get_or_append_left nodes (n ∷ []) no_node i less))
    by_number i (inr other) (inr past) =
        get_or-set_other due (length nodes) i (due_number (Some low) n) None other
        ∙ are.numbers i
        ∙ ap (λ (o : Option Name). due_number o (node_at nodes i)) (get_or_past names i None (let c = are.count in omega (arith, c, past)))
        ∙ sym (ap (λ (o : Option Name). due_number o (node_at (nodes ++ n ∷ []) i)) (get_or_past (names ++ Some low ∷ []) i None (let a = length_push names (Some low) in let c = are.count in omega (arith, a, c, past, other))))

-- ---- a node less

taken_was : (lows new : List (Name × ℕ)) (low : Name) → HasNoPlace lows new low → (x : Name) (i : ℕ) → value_at x new ≡ Some i → (is_eq (name_cmp low x) ≡ false) × (value_at x lows ≡ Some i)
taken_was lows new low has x i at = by_test (is_eq (name_cmp low x)) refl (sym (has x) ∙ at)
  where
    by_test : (t : Bool) → is_eq (name_cmp low x) ≡ t → cond t None (value_at x lows) ≡ Some i → (is_eq (name_cmp low x) ≡ false) × (value_at x lows ≡ Some i)
    by_test true is h = absurd (none-some i h)
    by_test false is h = (is, h)

due_taken : (lows new : List (Name × ℕ)) (nodes : List Node) (names : List (Option Name)) (due : List (Option ℕ)) (low : Name) (place : ℕ) → AreDueKept lows nodes names due → value_at low lows ≡ Some place → HasNoPlace lows new low →
    ArePlaces new nodes → AreDueKept new nodes (set names place None) (set due place None)
due_taken lows new nodes names due low place are there has places_ = record {
  places = places_;
  count = length-set names place None ∙ are.count;
  covers = let b = length-set due place None in let c = are.covers in omega (arith, b, c);
  named = λ x i at.
      let was = taken_was lows new low has x i at in
      get_or-set_other names place i None None (λ same. true≢false (sym (ap is_eq (name_same low)) ∙ subst (λ (y : Name). is_eq (name_cmp low y) ≡ false) (sym (one x i was.1 same)) was.0)) ∙ are.named x i was.1;
  here = λ x i named. by_place x i named (cases_eq i place);
  numbers = λ i. by_number i (cases_eq i place);
}
  where
    within : place < length nodes
    within = are.places.within low place there

    one : (x : Name) (i : ℕ) → value_at x lows ≡ Some i → i ≡ place → low ≡ x
    one x i was same = are.places.apart low x place there (was ∙ ap Some same)

    gone : name_in (set names place None) place ≡ None
    gone = get_or-set_same names place None None (let c = are.count in omega (arith, c, within))

    still : (x : Name) (i : ℕ) → (i ≡ place → ⊥) → value_at x lows ≡ Some i → (low ≡ x) ⊎ (is_eq (name_cmp low x) ≡ false) → value_at x new ≡ Some i
    still x i other was (inl same) = absurd (other (same_Some i place (sym was ∙ ap (λ (y : Name). value_at y lows) (sym same) ∙ there)))
    still x i other was (inr apart) = has x ∙ other_stays low x None (value_at x lows) apart ∙ was

    by_place : (x : Name) (i : ℕ) → name_in (set names place None) i ≡ Some x → (i ≡ place) ⊎ (i ≡ place → ⊥) → value_at x new ≡ Some i
    by_place x i named (inl same) = absurd (none-some x (sym gone ∙ ap (name_in (set names place None)) (sym same) ∙ named))
    by_place x i named (inr other) = still x i other (are.here x i (sym (get_or-set_other names place i None None other) ∙ named)) (same_or_other low x)

    by_number : (i : ℕ) → (i ≡ place) ⊎ (i ≡ place → ⊥) → number_in (set due place None) i ≡ due_number (name_in (set names place None) i) (node_at nodes i)
    by_number i (inl same) =
        subst (λ (j : ℕ). number_in (set due place None) j ≡ due_number (name_in (set names place None) j) (node_at nodes j)) (sym same)
        (get_or-set_same due place None None (let c = are.covers in omega (arith, c, within)) ∙ sym (ap (λ (o : Option Name). due_number o (node_at nodes place)) gone))
    by_number i (inr other) =
        get_or-set_other due place i None None other ∙ are.numbers i ∙ sym (ap (λ (o : Option Name). due_number o (node_at nodes i)) (get_or-set_other names place i None None other))

due_kept : (lows new : List (Name × ℕ)) (nodes : List Node) (names : List (Option Name)) (due : List (Option ℕ)) (low : Name) → AreDueKept lows nodes names due → value_at low lows ≡ None → HasNoPlace lows new low → ArePlaces new nodes →
    AreDueKept new nodes names due
due_kept lows new nodes names due low are free has places_ = record {
  places = places_;
  count = are.count;
  covers = are.covers;
  named = λ x i at. let was = taken_was lows new low has x i at in are.named x i was.1;
  here = λ x i named. still x i (are.here x i named) (same_or_other low x);
  numbers = are.numbers;
}
  where
    still : (x : Name) (i : ℕ) → value_at x lows ≡ Some i → (low ≡ x) ⊎ (is_eq (name_cmp low x) ≡ false) → value_at x new ≡ Some i
    still x i was (inl same) = absurd (none-some i (sym free ∙ ap (λ (y : Name). value_at y lows) same ∙ was))
    still x i was (inr apart) = has x ∙ other_stays low x None (value_at x lows) apart ∙ was

pub due_without : (lows new : List (Name × ℕ)) (nodes : List Node) (names new_names : List (Option Name)) (due new_due : List (Option ℕ)) (low : Name) (place : Option ℕ) → AreDueKept lows nodes names due → place ≡ value_at low lows → HasNoPlace lows new low →
    ArePlaces new nodes → new_names ≡ without place names → new_due ≡ without place due → AreDueKept new nodes new_names new_due
due_without lows new nodes names new_names due new_due low place are at has places_ same_names same = by_place place (sym at) same_names same
  where
    by_place : (o : Option ℕ) → value_at low lows ≡ o → new_names ≡ without o names → new_due ≡ without o due → AreDueKept new nodes new_names new_due
    by_place None is xs d = due_by new nodes nodes names new_names due new_due refl xs d (due_kept lows new nodes names due low are is has places_)
    by_place (Some i) is xs d = due_by new nodes nodes (set names i None) new_names (set due i None) new_due refl xs d (due_taken lows new nodes names due low i are is has places_)

pub place_within : (lows : List (Name × ℕ)) (nodes : List Node) (names : List (Option Name)) (due : List (Option ℕ)) (low : Name) (place : Option ℕ) → AreDueKept lows nodes names due → place ≡ value_at low lows →
    IfSome place (λ i. i < length names) × IfSome place (λ i. i < length due)
place_within lows nodes names due low place are at = by_place place (sym at)
  where
    by_place : (o : Option ℕ) → value_at low lows ≡ o → IfSome o (λ i. i < length names) × IfSome o (λ i. i < length due)
    by_place None is = (tt, tt)
    by_place (Some i) is =
        let within : i < length nodes = are.places.within low i is in
        let named = are.count in
        let covers = are.covers in (
          omega (arith, within, named),
          omega (arith, within, covers),
        )

-- ---- the dirty nodes

pub note_next : (nodes : List Node) (names : List (Option Name)) (due new : List (Option ℕ)) (k : ℕ) (n : Node) → length names ≡ length nodes → k < length nodes → new ≡ set due k (due_number (name_in names k) (node_at (set nodes k n) k)) →
    (lows : List (Name × ℕ)) → AreDueKept lows nodes names due → AreDueKept lows (set nodes k n) names new
note_next nodes names due new k n same within is lows are = due_set lows nodes names due k n (set nodes k n) names new are within refl refl is

pub noted_is : (nodes : List Node) (k : ℕ) (first second m : Node) (b : Bool) → k < length nodes → first ≡ get_or nodes k first → second ≡ get_or nodes k second → b ≡ is_dirty first → m ≡ noted_as b second →
    m ≡ noted_as (is_dirty (node_at nodes k)) (node_at nodes k)
noted_is nodes k first second m b within at again is made =
    made ∙ ap₂ (λ (t : Bool) (n : Node). noted_as t n) (is ∙ ap is_dirty (read_at nodes k first within at)) (read_at nodes k second within again)

-- ---- how many

abbrev one_due_if : Name × Node → ℕ
one_due_if e = cond (is_due e.1) 1 0

abbrev one_where : Bool → ℕ
one_where b = cond b 1 0

one_due : (x : Name) (n : Node) → one_if (due_number (Some x) n) ≡ one_due_if (x, n)
one_due x n = by_test (is_due n)
  where
    by_test : (b : Bool) → one_if (cond b (Some n.number) None) ≡ one_where b
    by_test true = refl
    by_test false = refl

-- the lows behind the first one are those without it
tail_has : (e : Name × ℕ) (lows : List (Name × ℕ)) → IsRising (e ∷ lows) → HasNoPlace (e ∷ lows) lows e.0
unfolding IsStrictlySortedBy
tail_has e lows up x = by_name (same_or_other x e.0) (same_or_other e.0 x)
  where
    by_name : (x ≡ e.0) ⊎ (is_eq (name_cmp x e.0) ≡ false) → (e.0 ≡ x) ⊎ (is_eq (name_cmp e.0 x) ≡ false) → value_at x lows ≡ cond (is_eq (name_cmp e.0 x)) None (value_at x (e ∷ lows))
    by_name (inl same) other =
        subst (λ (y : Name). value_at y lows ≡ cond (is_eq (name_cmp e.0 y)) None (value_at y (e ∷ lows))) (sym same) (none_behind e.0 lows up.0 ∙ sym (same_gets e.0 None (value_at e.0 (e ∷ lows))))
    by_name (inr apart) (inl same) = absurd (true≢false (sym (ap is_eq (name_same e.0)) ∙ subst (λ (y : Name). is_eq (name_cmp y e.0) ≡ false) (sym same) apart))
    by_name (inr apart) (inr behind) = sym (other_stays x e.0 (Some e.1) (value_at x lows) apart) ∙ sym (other_stays e.0 x None (value_at x (e ∷ lows)) behind)

tail_rises : (e : Name × ℕ) (lows : List (Name × ℕ)) → IsRising (e ∷ lows) → IsRising lows
unfolding IsStrictlySortedBy
tail_rises e lows up = up.1

pub count_is : (lows : List (Name × ℕ)) (nodes : List Node) (names : List (Option Name)) (due : List (Option ℕ)) → AreDueKept lows nodes names due → count_due (placed lows nodes) ≡ count_numbers due
count_is [] nodes names due are = sym (count_no due (λ i. are.numbers i ∙ by_name i (name_in names i) refl))
  where
    by_name : (i : ℕ) (o : Option Name) → name_in names i ≡ o → due_number o (node_at nodes i) ≡ None
    by_name i None named = refl
    by_name i (Some x) named = absurd (none-some i (are.here x i named))
count_is (e ∷ lows) nodes names due are =
    let there : value_at e.0 (e ∷ lows) ≡ Some e.1 = found_between [] e lows are.places.rising in
    let has : HasNoPlace (e ∷ lows) lows e.0 = tail_has e lows are.places.rising in
    let tail : ArePlaces lows nodes = takes_places (e ∷ lows) lows nodes e.0 are.places has (sym (same_gets e.0 lows (e ∷ remove_entry (is_at (name_cmp e.0)) lows))) (tail_rises e lows are.places.rising) in
    let rest : count_due (placed lows nodes) ≡ count_numbers (set due e.1 None) = count_is lows nodes (set names e.1 None) (set due e.1 None) (due_taken (e ∷ lows) lows nodes names due e.0 e.1 are there has tail) in
    let within : e.1 < length nodes = are.places.within e.0 e.1 there in
    let covers = are.covers in
    let one : one_if (number_in due e.1) ≡ one_due_if (e.0, node_at nodes e.1) = ap one_if (number_at (e ∷ lows) nodes names due are e.0 e.1 there) ∙ one_due e.0 (node_at nodes e.1) in
    let all = count_set due e.1 None (omega (arith, within, covers)) in
    let first = sum_by-cons one_due_if (e.0, node_at nodes e.1) (placed lows nodes) in
    omega (arith, rest, one, all, first)
