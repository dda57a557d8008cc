-- The bounds of runs, where cells come and go and runs are noted.
use Rattle.std.proofs.Common.{◌≡◌, ◌≤◌, ◌<◌, ◌⊎◌, inl, inr, ℕ, suc, List, [], ◌∷◌, ◌++◌, Bool, true, false, cond, not, ◌&&◌, Option, None, Some, IsSome, IfSome, filter, length, set, get_or, refl, ap, sym, subst, ◌∙◌, ◌≢◌, arith, Ordering, Less, Equal, Greater, is_eq, is_gt, get_or-set_same, get_or-set_other}
use Rattle.std.specs.Ordering.{match_ordering, eq_by_cmp, ordering_reverse}
use Rattle.std.specs.Map.{remove_entry, set_value}
use Rattle.std.specs.BTreeMap.{is_at, insert_entry}
use Rattle.std.specs.BTreeMap.Range.{IsLeBy}
use Rattle.std.proofs.lemmas.Option.{same_Some}
use Rattle.std.proofs.lemmas.Bool.{true≢false, cases_eq}
use Rattle.std.proofs.lemmas.List.{get_or_append_left, get_or_push, get_or_read, length-set, length_push}
use Rattle.je_order.specs.Order.{name_cmp}
use Rattle.je_order.specs.Edges.{is_between}
use Rattle.je_order.specs.Edges.Edge.{At}
use Rattle.je_order.specs.declared.name.Name.{Name}
use Rattle.record_map.specs.Held.{names_are_ordered}
use Rattle.record_map.specs.Cells.{value_at, between_edges, upper_edge}
use Rattle.record_map.specs.Runs.{LiesIn, IsBound, AreRuns, IsRunOver, FindsRun, IsEnd}
use Rattle.std.specs.Prelude.{Result, Ok, Err, OnOk, OnErr}
use Rattle.record_map.specs.declared.cell.Cell.{Cell}
use Rattle.record_map.specs.declared.committed_change.CommittedChange.{CommittedChange}
use Rattle.record_map.proofs.NameLaws.{name_exact, name_same, same_or_other}

-- ---- how many of a list pass a test on their names, where it changes at one name

counted : (Name → Bool) → List (Name × Cell) → ℕ
counted test cells = length (filter (λ (e : Name × Cell). test e.0) cells)

one_at_most : (t : Bool) (x : Name × Cell) (l : List (Name × Cell)) → length (cond t (x ∷ l) l) ≤ suc (length l)
one_at_most true x l = omega (arith)
one_at_most false x l = omega (arith)

in_place : (t : Bool) (x y : Name × Cell) (l : List (Name × Cell)) → length (cond t (x ∷ l) l) ≡ length (cond t (y ∷ l) l)
in_place true x y l = refl
in_place false x y l = refl

both_same : (t : Bool) (x : Name × Cell) (l m : List (Name × Cell)) → length l ≡ length m → length (cond t (x ∷ l) l) ≡ length (cond t (x ∷ m) m)
both_same true x l m is = ap suc is
both_same false x l m is = is

both_one : (t : Bool) (x : Name × Cell) (l m : List (Name × Cell)) → length l ≤ suc (length m) → length (cond t (x ∷ l) l) ≤ suc (length (cond t (x ∷ m) m))
both_one true x l m few = omega (arith, few)
both_one false x l m few = few

both_few : (t : Bool) (x : Name × Cell) (l m : List (Name × Cell)) → length l ≤ length m → length (cond t (x ∷ l) l) ≤ length (cond t (x ∷ m) m)
both_few true x l m few = omega (arith, few)
both_few false x l m few = few

left_out : (t : Bool) (x : Name × Cell) (l : List (Name × Cell)) → length l ≤ length (cond t (x ∷ l) l)
left_out true x l = omega (arith)
left_out false x l = omega (arith)

-- a name more counts once at most
one_more : (test : Name → Bool) (cells : List (Name × Cell)) (name : Name) (cell : Cell) → length (filter (λ e. test e.0) (insert_entry name_cmp cells name cell)) ≤ suc (length (filter (λ e. test e.0) cells))
one_more test [] name cell = one_at_most (test name) (name, cell) []
one_more test (e ∷ cells) name cell = by_order (name_cmp name e.0) (one_more test cells name cell)
  where
    F : List (Name × Cell) → List (Name × Cell)
    F l = filter (λ (k : Name × Cell). test k.0) l

    by_order : (o : Ordering) → length (F (insert_entry name_cmp cells name cell)) ≤ suc (length (F cells)) →
        length (F (match_ordering o ((name, cell) ∷ e ∷ cells) ((e.0, cell) ∷ cells) (e ∷ insert_entry name_cmp cells name cell))) ≤ suc (length (F (e ∷ cells)))
    by_order Less rest = one_at_most (test name) (name, cell) (F (e ∷ cells))
    by_order Equal rest = omega (arith, in_place (test e.0) (e.0, cell) e (F cells))
    by_order Greater rest = both_one (test e.0) e (F (insert_entry name_cmp cells name cell)) (F cells) rest

-- a name more that does not pass the test counts nothing
none_more : (test : Name → Bool) (cells : List (Name × Cell)) (name : Name) (cell : Cell) → test name ≡ false → length (filter (λ e. test e.0) (insert_entry name_cmp cells name cell)) ≡ length (filter (λ e. test e.0) cells)
none_more test [] name cell out = ap (λ (t : Bool). length {A = Name × Cell} (cond t ((name, cell) ∷ []) [])) out
none_more test (e ∷ cells) name cell out = by_order (name_cmp name e.0) (none_more test cells name cell out)
  where
    F : List (Name × Cell) → List (Name × Cell)
    F l = filter (λ (k : Name × Cell). test k.0) l

    by_order : (o : Ordering) → length (F (insert_entry name_cmp cells name cell)) ≡ length (F cells) →
        length (F (match_ordering o ((name, cell) ∷ e ∷ cells) ((e.0, cell) ∷ cells) (e ∷ insert_entry name_cmp cells name cell))) ≡ length (F (e ∷ cells))
    by_order Less rest = ap (λ (t : Bool). length (cond t ((name, cell) ∷ F (e ∷ cells)) (F (e ∷ cells)))) out
    by_order Equal rest = in_place (test e.0) (e.0, cell) e (F cells)
    by_order Greater rest = both_same (test e.0) e (F (insert_entry name_cmp cells name cell)) (F cells) rest

-- a name less counts no more
few_left : (test : Name → Bool) (at : Name → Bool) (cells : List (Name × Cell)) → length (filter (λ e. test e.0) (remove_entry at cells)) ≤ length (filter (λ e. test e.0) cells)
few_left test at [] = omega (arith)
few_left test at (e ∷ cells) = by_test (at e.0) (few_left test at cells)
  where
    F : List (Name × Cell) → List (Name × Cell)
    F l = filter (λ (k : Name × Cell). test k.0) l

    by_test : (t : Bool) → length (F (remove_entry at cells)) ≤ length (F cells) → length (F (cond t cells (e ∷ remove_entry at cells))) ≤ length (F (e ∷ cells))
    by_test true rest = left_out (test e.0) e (F cells)
    by_test false rest = both_few (test e.0) e (F (remove_entry at cells)) (F cells) rest

-- another cell under a name counts the same
same_count : (test : Name → Bool) (at : Name → Bool) (cells : List (Name × Cell)) (cell : Cell) → length (filter (λ e. test e.0) (set_value at cells cell)) ≡ length (filter (λ e. test e.0) cells)
same_count test at [] cell = refl
same_count test at (e ∷ cells) cell = by_test (at e.0) (same_count test at cells cell)
  where
    F : List (Name × Cell) → List (Name × Cell)
    F l = filter (λ (k : Name × Cell). test k.0) l

    by_test : (t : Bool) → length (F (set_value at cells cell)) ≡ length (F cells) → length (F (cond t ((e.0, cell) ∷ cells) (e ∷ set_value at cells cell))) ≡ length (F (e ∷ cells))
    by_test true rest = in_place (test e.0) (e.0, cell) e (F cells)
    by_test false rest = both_same (test e.0) e (F (set_value at cells cell)) (F cells) rest

-- a test that passes no more names counts no more
implied : (test wide : Name → Bool) (cells : List (Name × Cell)) → ((x : Name) → test x ≡ true → wide x ≡ true) → length (filter (λ e. test e.0) cells) ≤ length (filter (λ e. wide e.0) cells)
implied test wide [] more = omega (arith)
implied test wide (e ∷ cells) more = by_tests (test e.0) (wide e.0) (more e.0) (implied test wide cells more)
  where
    F : List (Name × Cell)
    F = filter (λ (k : Name × Cell). test k.0) cells

    G : List (Name × Cell)
    G = filter (λ (k : Name × Cell). wide k.0) cells

    by_tests : (s t : Bool) → (s ≡ true → t ≡ true) → length F ≤ length G → length (cond s (e ∷ F) F) ≤ length (cond t (e ∷ G) G)
    by_tests true true h rest = omega (arith, rest)
    by_tests true false h rest = absurd (true≢false (sym (h refl)))
    by_tests false true h rest = omega (arith, rest)
    by_tests false false h rest = rest

-- ---- where a name lies

some_there : (lows : List (Name × ℕ)) (q : Name) (place : ℕ) → value_at q lows ≡ Some place → IsSome (value_at q lows)
some_there lows q place is = subst (λ (o : Option ℕ). IsSome o) (sym is) refl

not_up : (o : Ordering) → o ≡ Greater → is_gt o ≡ false → ⊥
not_up Less is up = cc
not_up Equal is up = cc
not_up Greater is up = true≢false up

-- the run that a name lies in is the one over it
same_run : (lows : List (Name × ℕ)) (x : Name) (place : ℕ) (run : IsRunOver lows x place) (low : Name) (i : ℕ) → value_at low lows ≡ Some i → LiesIn lows low x → i ≡ place
same_run lows x place run low i there lies = by_order (name_cmp low run.low) refl
  where
    by_order : (o : Ordering) → name_cmp low run.low ≡ o → i ≡ place
    by_order Less is =
        absurd (not_up (name_cmp run.low x) (names_are_ordered.antisymm run.low x ∙ ap ordering_reverse (lies.1 run.low (some_there lows run.low place run.there) is)) run.below)
    by_order Equal is = same_Some i place (sym there ∙ ap (λ (q : Name). value_at q lows) (name_exact low run.low is) ∙ run.there)
    by_order Greater is = absurd (not_up (name_cmp low run.low) is (run.most low (some_there lows low i there) lies.0))

and_parts : (a b : Bool) → (a && b) ≡ true → (a ≡ true) × (b ≡ true)
and_parts true true h = (refl, refl)
and_parts true false h = absurd (true≢false (sym h))
and_parts false b h = absurd (true≢false (sym h))

not_false : (b : Bool) → not b ≡ true → b ≡ false
not_false true h = absurd (true≢false (sym h))
not_false false h = refl

greater : (o : Ordering) → is_gt o ≡ true → o ≡ Greater
greater Less h = absurd (true≢false (sym h))
greater Equal h = absurd (true≢false (sym h))
greater Greater h = refl

-- the names from a low to the end of its run lie in it
between_lies : (lows : List (Name × ℕ)) (low : Name) (high : Option Name) → IsEnd lows low high → (x : Name) → is_between (At low) (upper_edge high) x ≡ true → LiesIn lows low x
between_lies lows low None end x is = (not_false (is_gt (name_cmp low x)) (and_parts (not (is_gt (name_cmp low x))) true is).0, λ q there less. absurd (end q there less))
between_lies lows low (Some high) end x is = (not_false (is_gt (name_cmp low x)) parts.0, below)
  where
    parts : (not (is_gt (name_cmp low x)) ≡ true) × (is_gt (name_cmp high x) ≡ true)
    parts = and_parts (not (is_gt (name_cmp low x))) (is_gt (name_cmp high x)) is

    less_high : name_cmp x high ≡ Less
    less_high = names_are_ordered.antisymm x high ∙ ap ordering_reverse (greater (name_cmp high x) parts.1)

    below : (q : Name) → IsSome (value_at q lows) → name_cmp low q ≡ Less → name_cmp x q ≡ Less
    below q there less = by_order (name_cmp high q) refl (end.2 q there less)
      where
        by_order : (o : Ordering) → name_cmp high q ≡ o → is_gt (name_cmp high q) ≡ false → name_cmp x q ≡ Less
        by_order Less o up = names_are_ordered.trans x high q less_high o
        by_order Equal o up = subst (λ (y : Name). name_cmp x y ≡ Less) (name_exact high q o) less_high
        by_order Greater o up = absurd (not_up (name_cmp high q) o up)

-- a name that lies in a run is between its low and its end
lies_between : (lows : List (Name × ℕ)) (low : Name) (high : Option Name) → IsEnd lows low high → (x : Name) → LiesIn lows low x → is_between (At low) (upper_edge high) x ≡ true
lies_between lows low None end x lies = ap (λ (b : Bool). not b && true) lies.0
lies_between lows low (Some high) end x lies =
    ap (λ (b : Bool). not b && is_gt (name_cmp high x)) lies.0
    ∙ ap (λ (o : Ordering). is_gt o) (names_are_ordered.antisymm high x ∙ ap ordering_reverse (lies.1 high end.0 end.1))

-- ---- the bounds

-- how many cells there are to the end of a run is a bound
pub end_bound : (lows : List (Name × ℕ)) (low : Name) (high : Option Name) (cells : List (Name × Cell)) → IsEnd lows low high → IsBound lows low (length (between_edges (At low) (upper_edge high) cells)) cells
end_bound lows low high cells end test lies = implied test (is_between (At low) (upper_edge high)) cells (λ x passes. lies_between lows low high end x (lies x passes))

-- a bound that is below a number
pub few_between : (lows : List (Name × ℕ)) (bounds : List ℕ) (low : Name) (place count : ℕ) (high : Option Name) → value_at low lows ≡ Some place → get_or bounds place 0 < count → IsEnd lows low high →
    (cells : List (Name × Cell)) → AreRuns lows bounds cells → length (between_edges (At low) (upper_edge high) cells) < count
few_between lows bounds low place count high there less end cells runs =
    omega (arith, less, runs.few low place there (is_between (At low) (upper_edge high)) (between_lies lows low high end))

-- a bound that was raised is no smaller
raised : (bounds : List ℕ) (place next i : ℕ) → place < length bounds → get_or bounds place 0 ≤ next → get_or bounds i 0 ≤ get_or (set bounds place next) i 0
raised bounds place next i inside up = by_place (cases_eq i place)
  where
    by_place : (i ≡ place) ⊎ (i ≢ place) → get_or bounds i 0 ≤ get_or (set bounds place next) i 0
    by_place (inl is) = subst (λ (j : ℕ). get_or bounds j 0 ≤ get_or (set bounds place next) j 0) (sym is) (omega (arith, up, get_or-set_same bounds place next 0 inside))
    by_place (inr apart) = omega (arith, get_or-set_other bounds place i next 0 apart)

-- greater bounds are bounds
pub raised_runs : (lows : List (Name × ℕ)) (bounds : List ℕ) (place next : ℕ) (cells : List (Name × Cell)) → place < length bounds → get_or bounds place 0 ≤ next → AreRuns lows bounds cells → AreRuns lows (set bounds place next) cells
raised_runs lows bounds place next cells inside up runs = record {
  within = λ low i there. omega (arith, runs.within low i there, length-set bounds place next);
  few = λ low i there test lies. omega (arith, runs.few low i there test lies, raised bounds place next i inside up);
}

-- a name more, where the bound of the run over it was raised
pub run_counts : (lows : List (Name × ℕ)) (bounds : List ℕ) (place next : ℕ) (cells : List (Name × Cell)) (name : Name) (cell : Cell) → place < length bounds → suc (get_or bounds place 0) ≡ next → IsRunOver lows name place →
    AreRuns lows bounds cells → AreRuns lows (set bounds place next) (insert_entry name_cmp cells name cell)
run_counts lows bounds place next cells name cell inside is run runs = record {
  within = λ low i there. omega (arith, runs.within low i there, length-set bounds place next);
  few = λ low i there test lies. by_test low i there test lies (test name) refl;
}
  where
    by_test : (low : Name) (i : ℕ) → value_at low lows ≡ Some i → (test : Name → Bool) → ((x : Name) → test x ≡ true → LiesIn lows low x) → (t : Bool) → test name ≡ t →
        length (filter (λ e. test e.0) (insert_entry name_cmp cells name cell)) ≤ get_or (set bounds place next) i 0
    by_test low i there test lies true passes =
        let same : i ≡ place = same_run lows name place run low i there (lies name passes) in
        subst (λ (j : ℕ). length (filter (λ (e : Name × Cell). test e.0) (insert_entry name_cmp cells name cell)) ≤ get_or (set bounds place next) j 0) (sym same)
        (omega (arith, one_more test cells name cell, is, get_or-set_same bounds place next 0 inside, subst (λ (j : ℕ). length (filter (λ (e : Name × Cell). test e.0) cells) ≤ get_or bounds j 0) same (runs.few low i there test lies)))
    by_test low i there test lies false out =
        omega (arith, none_more test cells name cell out, runs.few low i there test lies, raised bounds place next i inside (omega (arith, is)))

-- a name more, over which there is no run
pub none_counts : (lows : List (Name × ℕ)) (bounds : List ℕ) (cells : List (Name × Cell)) (name : Name) (cell : Cell) → ((q : Name) → IsSome (value_at q lows) → IsLeBy name_cmp q name → ⊥) →
    AreRuns lows bounds cells → AreRuns lows bounds (insert_entry name_cmp cells name cell)
none_counts lows bounds cells name cell none runs = record {
  within = runs.within;
  few = λ low i there test lies. by_test low i there test lies (test name) refl;
}
  where
    by_test : (low : Name) (i : ℕ) → value_at low lows ≡ Some i → (test : Name → Bool) → ((x : Name) → test x ≡ true → LiesIn lows low x) → (t : Bool) → test name ≡ t →
        length (filter (λ e. test e.0) (insert_entry name_cmp cells name cell)) ≤ get_or bounds i 0
    by_test low i there test lies true passes = absurd (none low (some_there lows low i there) (lies name passes).0)
    by_test low i there test lies false out = omega (arith, none_more test cells name cell out, runs.few low i there test lies)

-- a name less, and another cell under a name
pub removed_runs : (lows : List (Name × ℕ)) (bounds : List ℕ) (cells : List (Name × Cell)) (at : Name → Bool) → AreRuns lows bounds cells → AreRuns lows bounds (remove_entry at cells)
removed_runs lows bounds cells at runs = record {
  within = runs.within;
  few = λ low i there test lies. omega (arith, few_left test at cells, runs.few low i there test lies);
}

pub set_runs : (lows : List (Name × ℕ)) (bounds : List ℕ) (cells : List (Name × Cell)) (at : Name → Bool) (cell : Cell) → AreRuns lows bounds cells → AreRuns lows bounds (set_value at cells cell)
set_runs lows bounds cells at cell runs = record {
  within = runs.within;
  few = λ low i there test lies. omega (arith, same_count test at cells cell, runs.few low i there test lies);
}

-- ---- a run that is noted

pushed : (bounds : List ℕ) (bound i : ℕ) → i < length bounds → get_or (bounds ++ bound ∷ []) i 0 ≡ get_or bounds i 0
pushed bounds bound i inside = get_or_append_left bounds (bound ∷ []) 0 i inside

-- a bound more that no low has
pub pushed_runs : (lows : List (Name × ℕ)) (bounds : List ℕ) (bound : ℕ) (cells : List (Name × Cell)) → AreRuns lows bounds cells → AreRuns lows (bounds ++ bound ∷ []) cells
pushed_runs lows bounds bound cells runs = record {
  within = λ low i there. omega (arith, runs.within low i there, length_push bounds bound);
  few = λ low i there test lies. omega (arith, runs.few low i there test lies, pushed bounds bound i (runs.within low i there));
}

-- a low more, or again, with a bound of its own
pub noted_runs : (old new : List (Name × ℕ)) (bounds : List ℕ) (low : Name) (bound : ℕ) (cells : List (Name × Cell)) →
    ((q : Name) → value_at q new ≡ cond (is_eq (name_cmp low q)) (Some (length bounds)) (value_at q old)) → IsBound old low bound cells → AreRuns old bounds cells → AreRuns new (bounds ++ bound ∷ []) cells
noted_runs old new bounds low bound cells puts own runs = record {
  within = λ q i there. inside q i there (same_or_other low q);
  few = λ q i there test lies. bounded q i there test (λ x passes. still q x (lies x passes)) (same_or_other low q);
}
  where
    some_cond : (t : Bool) (o : Option ℕ) → IsSome o → IsSome (cond t (Some (length bounds)) o)
    some_cond true o some = refl
    some_cond false o some = some

    still : (q x : Name) → LiesIn new q x → LiesIn old q x
    still q x lies = (lies.0, λ p there less. lies.1 p (subst (λ (o : Option ℕ). IsSome o) (sym (puts p)) (some_cond (is_eq (name_cmp low p)) (value_at p old) there)) less)

    at_low : (i : ℕ) → value_at low new ≡ Some i → i ≡ length bounds
    at_low i there = same_Some i (length bounds) (sym there ∙ puts low ∙ ap (λ (o : Ordering). cond (is_eq o) (Some (length bounds)) (value_at low old)) (name_same low))

    elsewhere : (q : Name) (i : ℕ) → value_at q new ≡ Some i → is_eq (name_cmp low q) ≡ false → value_at q old ≡ Some i
    elsewhere q i there apart = sym (sym there ∙ puts q ∙ ap (λ (t : Bool). cond t (Some (length bounds)) (value_at q old)) apart)

    inside : (q : Name) (i : ℕ) → value_at q new ≡ Some i → (low ≡ q) ⊎ (is_eq (name_cmp low q) ≡ false) → i < length (bounds ++ bound ∷ [])
    inside q i there (inl same) = omega (arith, length_push bounds bound, at_low i (ap (λ (y : Name). value_at y new) same ∙ there))
    inside q i there (inr apart) = omega (arith, length_push bounds bound, runs.within q i (elsewhere q i there apart))

    bounded : (q : Name) (i : ℕ) → value_at q new ≡ Some i → (test : Name → Bool) → ((x : Name) → test x ≡ true → LiesIn old q x) → (low ≡ q) ⊎ (is_eq (name_cmp low q) ≡ false) →
        length (filter (λ e. test e.0) cells) ≤ get_or (bounds ++ bound ∷ []) i 0
    bounded q i there test lies (inl same) =
        let here : i ≡ length bounds = at_low i (ap (λ (y : Name). value_at y new) same ∙ there) in
        subst (λ (j : ℕ). length (filter (λ (e : Name × Cell). test e.0) cells) ≤ get_or (bounds ++ bound ∷ []) j 0) (sym here)
        (omega (arith, get_or_push bounds bound 0, own test (λ x passes. subst (λ (y : Name). LiesIn old y x) (sym same) (lies x passes))))
    bounded q i there test lies (inr apart) =
        let was : value_at q old ≡ Some i = elsewhere q i there apart in
        omega (arith, runs.few q i was test lies, pushed bounds bound i (runs.within q i was))

-- ---- what searches find

pub same_names : (a b : Name) → eq_by_cmp name_cmp a b ≡ true → a ≡ b
same_names a b h = name_exact a b (equal (name_cmp a b) h)
  where
    equal : (o : Ordering) → is_eq o ≡ true → o ≡ Equal
    equal Less h = absurd (true≢false (sym h))
    equal Equal h = refl
    equal Greater h = absurd (true≢false (sym h))

pub no_run : (lows : List (Name × ℕ)) (x : Name) (o : Option ℕ) → o ≡ None → FindsRun lows x o → (q : Name) → IsSome (value_at q lows) → IsLeBy name_cmp q x → ⊥
no_run lows x o is finds = subst (λ (p : Option ℕ). FindsRun lows x p) is finds

pub run_found : (lows : List (Name × ℕ)) (x : Name) (place : ℕ) (o : Option ℕ) → o ≡ Some place → FindsRun lows x o → IsRunOver lows x place
run_found lows x place o is finds = subst (λ (p : Option ℕ). FindsRun lows x p) is finds

pub bound_read : (bounds : List ℕ) (place n : ℕ) → place < length bounds → n ≡ get_or bounds place n → n ≡ get_or bounds place 0
bound_read bounds place n inside is = get_or_read bounds place n inside is 0

-- another cell under a name that has one
pub kept_runs : (lows : List (Name × ℕ)) (bounds : List ℕ) (old new : List (Name × Cell)) (name : Name) (next : Cell → Cell) → IsSome (value_at name old) →
    ((c : Cell) → value_at name old ≡ Some c → new ≡ set_value (is_at (name_cmp name)) old (next c)) → AreRuns lows bounds old → AreRuns lows bounds new
kept_runs lows bounds old new name next some is runs = by_value (value_at name old) refl some
  where
    by_value : (o : Option Cell) → value_at name old ≡ o → IsSome o → AreRuns lows bounds new
    by_value None there some = absurd (true≢false (sym some))
    by_value (Some c) there some = subst (λ (l : List (Name × Cell)). AreRuns lows bounds l) (sym (is c there)) (set_runs lows bounds old (is_at (name_cmp name)) (next c) runs)

-- another cell under a name, if it has one
pub given_runs : (lows : List (Name × ℕ)) (bounds : List ℕ) (old new : List (Name × Cell)) (name : Name) (next : Cell → Cell) (done : Result Bool (List ℕ)) → OnOk done (IsSome (value_at name old)) →
    OnOk done ((c : Cell) → value_at name old ≡ Some c → new ≡ set_value (is_at (name_cmp name)) old (next c)) → OnErr done (new ≡ old) → AreRuns lows bounds old → AreRuns lows bounds new
given_runs lows bounds old new name next (Ok shown) given is same runs = kept_runs lows bounds old new name next given is runs
given_runs lows bounds old new name next (Err d) given is same runs = subst (λ (l : List (Name × Cell)). AreRuns lows bounds l) (sym same) runs

pub changed_runs : (lows : List (Name × ℕ)) (bounds : List ℕ) (old new : List (Name × Cell)) (name : Name) (next : Cell → Cell) (from : Option CommittedChange) → IfSome from (λ f. IsSome (value_at name old)) →
    IfSome from (λ f. (c : Cell) → value_at name old ≡ Some c → new ≡ set_value (is_at (name_cmp name)) old (next c)) → (from ≡ None → new ≡ old) → AreRuns lows bounds old → AreRuns lows bounds new
changed_runs lows bounds old new name next from given is same runs = by_from from refl given is
  where
    by_from : (o : Option CommittedChange) → from ≡ o → IfSome o (λ f. IsSome (value_at name old)) → IfSome o (λ f. (c : Cell) → value_at name old ≡ Some c → new ≡ set_value (is_at (name_cmp name)) old (next c)) → AreRuns lows bounds new
    by_from None none some set = subst (λ (l : List (Name × Cell)). AreRuns lows bounds l) (sym (same none)) runs
    by_from (Some f) at some set = kept_runs lows bounds old new name next some set runs
