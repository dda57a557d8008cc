-- The changes of a call that is not refused are of different names, and can be logged, wherever its cursor stands.
use Rattle.std.proofs.Common.{◌≡◌, ◌⊎◌, inl, inr, ℕ, ◌≤◌, nat_lt, List, [], ◌∷◌, Bool, true, false, cond, Option, None, Some, map, filter, length, refl, ap, sym, ◌∙◌, subst, arith, Less, is_eq}
use Rattle.std.specs.Ordering.{on}
use Rattle.std.specs.List.{AllByRecursion}
use Rattle.std.specs.List.Sorted.{IsStrictlySortedBy}
use Rattle.std.proofs.lemmas.Bool.{ltb-false}
use Rattle.std.proofs.lemmas.Option.{none-some}
use Rattle.std.proofs.lemmas.List.Kept.{IsStrictlySortedBy-filter}
use Rattle.je_order.specs.declared.name.Name.{Name}
use Rattle.je_order.specs.declared.limits.TheConstants.{KEY_LIMIT}
use Rattle.je_order.specs.Order.{name_cmp}
use Rattle.je_order.proofs.Orderings.{equal_from_test, name_exact}
use Rattle.je_order.proofs.Lists.{all_kept, all_weaker}
use Rattle.log_entry.specs.Fields.{IsName}
use Rattle.record_map.specs.Cells.{IsRising as CellsRise}
use Rattle.record_tree.specs.Occupied.{AllCells}
use Rattle.store_model.specs.declared.kind.Kind.{Kind}
use Rattle.store_model.specs.declared.kind.Kind.TheVariants.{Plain, Dup}
use Rattle.store_model.specs.declared.call.Call.{Call}
use Rattle.store_model.specs.declared.call.Call.TheVariants.{Get, GetBoth, Put, Delete, Count, Cur, CPutCur, CDel, CPut}
use Rattle.store_model.specs.declared.answer.Answer.{Answer}
use Rattle.store_model.specs.declared.answer.Answer.TheVariants.{KeyEmpty, TooLong}
use Rattle.store_model.specs.declared.record_change.RecordChange.{RecordChange}
use Rattle.store_model.specs.declared.record_change.RecordChange.TheVariants.{Set, Unset}
use Rattle.store_model.specs.Needs.{changed_name}
use Rattle.store_model.specs.Store.{Pair, name_of}
use Rattle.store_model.specs.Reads.{Way, Range, is_within, taken_by, seen, at_name}
use Rattle.store_model.specs.Reads.Way.{Lowest, Highest, Each}
use Rattle.store_model.specs.Records.{Evaluated, all_of_key, conclude, deleted, early_of, empty_if, evaluation, exactly, first_of_key, found, look_at_place, look_of, look_of_motion, look_of_put, put_at_place, put_unless, set, tested, tested_for, unless_early, went}
use Rattle.store_model.specs.Refusals.{or_refusal, too_long, data_limit, pair_refusal, kind_refusal, database_refuses}
use Rattle.je_answers.specs.declared.active.Active.{Active}
use Rattle.je_answers.specs.Standing.{Standing}
use Rattle.je_answers.specs.Views.{Target, outcome_of}
use Rattle.log_replay.specs.Rows.{Row, is_right_row, are_right, IsRising, pair_of}
use Rattle.log_replay.proofs.ListLaws.{all_true, all_to_map, map-map, map_same}
use Rattle.log_replay.proofs.RowLaws.{name_of-right, rising_head, rising_tail}
use Rattle.txn_core.proofs.ViewLaws.{searched}
use Rattle.txn_views.specs.Laws.{AreSeenBy}
use Rattle.txn_views.specs.Seen.{seen_rows, seen_rises}
use Rattle.standing_laws.specs.Right.{MayWait}
use Rattle.environment.specs.Changing.{FitsEntry}

-- ---- the records that a delete takes

-- records of names that an entry may have, each once
record IsTaken (kind : Kind) (ts : List Row) : Type 0 where
  rising : IsRising ts
  right : AllByRecursion (λ t. is_right_row kind t ≡ true) ts
  named : AllByRecursion (λ t. IsName t.0) ts

-- those of a range
taken_within : (kind : Kind) (r : Range) (rows : List Row) → are_right kind rows ≡ true → IsRising rows → AllByRecursion (λ t. IsName t.0) rows → IsTaken kind (filter (λ (x : Row). is_within r x.0) rows)
taken_within kind r rows right up named =
    let test : Row → Bool = λ x. is_within r x.0 in
    record {
      rising = IsStrictlySortedBy-filter (on (λ (x : Row). x.0) name_cmp) test rows up;
      right = all_kept (λ (t : Row). is_right_row kind t ≡ true) test rows (all_true (is_right_row kind) rows right);
      named = all_kept (λ (t : Row). IsName t.0) test rows named;
    }

-- and the first of them
abbrev front : List Row → List Row
front [] = []
front (r ∷ rows) = r ∷ []

taken_first : (kind : Kind) (ts : List Row) → IsTaken kind ts → IsTaken kind (front ts)
unfolding IsStrictlySortedBy
taken_first kind [] h = h
taken_first kind (t ∷ ts) h = record { rising = (tt, tt); right = (h.right.0, tt); named = (h.named.0, tt) }

front_listed : (kind : Kind) (rows : List Row) → taken_by Lowest (map (pair_of kind) rows) ≡ map (pair_of kind) (front rows)
front_listed kind [] = refl
front_listed kind (r ∷ rows) = refl

-- what a look takes that takes the lowest or all
abbrev IsUpward : Way → Type 0
IsUpward Lowest = Unit {0}
IsUpward Each = Unit {0}
IsUpward Highest = ⊥

look_takes : (kind : Kind) (way : Way) (r : Range) (rows : List Row) → IsUpward way → are_right kind rows ≡ true → IsRising rows → AllByRecursion (λ t. IsName t.0) rows →
    (ts : List Row) × IsTaken kind ts × (seen kind way r (map (pair_of kind) rows) ≡ map (pair_of kind) ts)
look_takes kind Lowest r rows may right up named =
    let all : List Row = filter (λ (x : Row). is_within r x.0) rows in (
      front all,
      taken_first kind all (taken_within kind r rows right up named),
      ap (taken_by Lowest) (searched kind (λ n. is_within r n) rows right) ∙ front_listed kind all,
    )
look_takes kind Each r rows may right up named = (filter (λ (x : Row). is_within r x.0) rows, taken_within kind r rows right up named, searched kind (λ n. is_within r n) rows right)
look_takes kind Highest r rows may right up named = absurd may

key_upward : (kind : Kind) (key : List ℕ) → IsUpward (all_of_key kind key).way
key_upward Plain key = tt
key_upward Dup key = tt

place_upward : (at : Option Name) → IsUpward (look_at_place at).way
place_upward None = tt
place_upward (Some n) = tt

-- ---- what can be logged

-- what is not refused is within the limits
within_limit : (limit : ℕ) (bytes : List ℕ) → too_long limit bytes ≡ None → length bytes ≤ limit
within_limit limit bytes h = by_test (nat_lt limit (length bytes)) refl h
  where
    by_test : (b : Bool) → nat_lt limit (length bytes) ≡ b → cond b (Some (TooLong (length bytes))) None ≡ None → length bytes ≤ limit
    by_test true e over = absurd (none-some (TooLong (length bytes)) (sym over))
    by_test false e over = let under = ltb-false limit (length bytes) e in omega (arith, under)

neither : (a b : Option Answer) → or_refusal a b ≡ None → (a ≡ None) × (b ≡ None)
neither None b h = (refl, h)
neither (Some x) b h = absurd (none-some x (sym h))

-- no two changes are of one name
abbrev pub AreOneEach : List RecordChange → Type 0
AreOneEach [] = Unit {0}
AreOneEach (c ∷ cs) = AllByRecursion (λ e. is_eq (name_cmp (changed_name c) (changed_name e)) ≡ false) cs × AreOneEach cs

-- changes that can be logged, no two of one name
pub record AreLoggable (cs : List RecordChange) : Type 0 where
  pub apart : AreOneEach cs
  pub fits : AllByRecursion FitsEntry cs

none_loggable : AreLoggable []
none_loggable = record { apart = tt; fits = tt }

-- a put
set_fits : (kind : Kind) (key value : List ℕ) → length key ≤ KEY_LIMIT → length value ≤ data_limit kind → FitsEntry (set kind key value)
set_fits Plain key value low few = ((low, omega arith), few)
set_fits Dup key value low few = ((low, few), omega arith)

puts : (kind : Kind) (at then_at : Option Name) (key value : List ℕ) (taken : List Pair) → pair_refusal kind key value ≡ None → AreLoggable (put_unless kind at then_at key value taken).changes
puts kind at then_at key value [] none =
    let parts = neither (too_long KEY_LIMIT key) (too_long (data_limit kind) value) none in
    record { apart = (tt, tt); fits = (set_fits kind key value (within_limit KEY_LIMIT key parts.0) (within_limit (data_limit kind) value parts.1), tt) }
puts kind at then_at key value (p ∷ ps) none = none_loggable

-- deletes
unsets_fit : (ts : List Row) → AllByRecursion (λ (t : Row). IsName t.0) ts → AllByRecursion FitsEntry (map (λ (t : Row). Unset t.0) ts)
unsets_fit ts named = all_to_map (λ (t : Row). Unset t.0) FitsEntry ts named

unsets_apart : (ts : List Row) → IsRising ts → AreOneEach (map (λ (t : Row). Unset t.0) ts)
unsets_apart [] up = tt
unsets_apart (t ∷ ts) up = (
  all_to_map (λ (y : Row). Unset y.0) (λ e. is_eq (name_cmp t.0 (changed_name e)) ≡ false) ts
      (all_weaker (λ (y : Row). name_cmp t.0 y.0 ≡ Less) (λ y. is_eq (name_cmp t.0 y.0) ≡ false) (λ y less. ap is_eq less) ts (rising_head t ts up)),
  unsets_apart ts (rising_tail t ts up),
)

unsets : (kind : Kind) (ts : List Row) → AllByRecursion (λ (t : Row). is_right_row kind t ≡ true) ts →
    map (λ (q : Pair). Unset (name_of kind q)) (map (pair_of kind) ts) ≡ map (λ (t : Row). Unset t.0) ts
unsets kind ts right =
    map-map (λ (q : Pair). Unset (name_of kind q)) (pair_of kind) ts
    ∙ map_same (λ (t : Row). Unset (name_of kind (pair_of kind t))) (λ (t : Row). Unset t.0) ts
    (all_weaker (λ (t : Row). is_right_row kind t ≡ true) (λ t. Unset (name_of kind (pair_of kind t)) ≡ Unset t.0) (λ t h. ap Unset (name_of-right kind t h)) ts right)

deleted_changes : (kind : Kind) (at : Option Name) (taken : List Pair) → (deleted kind at taken).changes ≡ map (λ (q : Pair). Unset (name_of kind q)) taken
deleted_changes kind at [] = refl
deleted_changes kind at (p ∷ ps) = refl

deletes : (kind : Kind) (at : Option Name) (way : Way) (r : Range) (rows : List Row) → IsUpward way → are_right kind rows ≡ true → IsRising rows → AllByRecursion (λ t. IsName t.0) rows →
    AreLoggable (deleted kind at (seen kind way r (map (pair_of kind) rows))).changes
deletes kind at way r rows may right up named =
    let takes = look_takes kind way r rows may right up named in
    let ts = takes.0 in
    subst AreLoggable
    (sym (deleted_changes kind at (seen kind way r (map (pair_of kind) rows)) ∙ ap (map (λ (q : Pair). Unset (name_of kind q))) takes.2 ∙ unsets kind ts takes.1.right))
    (record { apart = unsets_apart ts takes.1.rising; fits = unsets_fit ts takes.1.named })

-- reads
finds : (at : Option Name) (taken : List Pair) → AreLoggable (found at taken).changes
finds at [] = none_loggable
finds at (p ∷ ps) = none_loggable

goes : (kind : Kind) (at : Option Name) (taken : List Pair) → AreLoggable (went kind at taken).changes
goes kind at [] = none_loggable
goes kind at (p ∷ ps) = none_loggable

-- a record whose data are set where the cursor stands is there
none_there : (kind : Kind) (n : Name) (rows : List Row) → AllByRecursion (λ (t : Row). is_right_row kind t ≡ true) rows → AllByRecursion (λ (t : Row). IsName t.0) rows →
    at_name kind n (map (pair_of kind) rows) ≡ [] ⊎ IsName n
none_there kind n [] right named = inl refl
none_there kind n (r ∷ rows) right named = by (is_eq (name_cmp (name_of kind (pair_of kind r)) n)) refl (none_there kind n rows right.1 named.1)
  where
    rest : List Pair
    rest = at_name kind n (map (pair_of kind) rows)

    by : (b : Bool) → is_eq (name_cmp (name_of kind (pair_of kind r)) n) ≡ b → rest ≡ [] ⊎ IsName n → cond b (pair_of kind r ∷ rest) rest ≡ [] ⊎ IsName n
    by true same later = inr (subst IsName (sym (name_of-right kind r right.0) ∙ name_exact (name_of kind (pair_of kind r)) n (equal_from_test (name_cmp (name_of kind (pair_of kind r)) n) same)) named.0)
    by false other later = later

sets_there : (n : Name) (value : List ℕ) (pairs : List Pair) → pairs ≡ [] ⊎ IsName n → empty_if true pairs ≡ None → length value ≤ 65536 → AreLoggable (Set n value ∷ [])
sets_there n value pairs (inl none) early few = absurd (none-some KeyEmpty (sym early ∙ ap (empty_if true) none))
sets_there n value pairs (inr is) early few = record { apart = (tt, tt); fits = ((is, few), tt) }

few_data : (kind : Kind) (value : List ℕ) → length value ≤ data_limit kind → length value ≤ 65536
few_data Plain value few = few
few_data Dup value few = omega (arith, few)

puts_there : (kind : Kind) (cursor : ℕ) (value : List ℕ) (at : Option Name) (rows : List Row) → database_refuses kind (CPutCur cursor value) ≡ None → are_right kind rows ≡ true → AllByRecursion (λ (t : Row). IsName t.0) rows →
    early_of kind (CPutCur cursor value) at (map (pair_of kind) rows) ≡ None → AreLoggable (put_at_place at value).changes
puts_there kind cursor value None rows none right named early = none_loggable
puts_there kind cursor value (Some n) rows none right named early =
    sets_there n value (at_name kind n (map (pair_of kind) rows)) (none_there kind n rows (all_true (is_right_row kind) rows right) named) early
    (few_data kind value (within_limit (data_limit kind) value (neither (kind_refusal (CPutCur cursor value) kind) (too_long (data_limit kind) value) none).1))

-- what a call comes to that its cursor's place does not answer
concludes : (kind : Kind) (call : Call) (at : Option Name) (rows : List Row) → MayWait call → database_refuses kind call ≡ None → are_right kind rows ≡ true → IsRising rows → AllByRecursion (λ (t : Row). IsName t.0) rows →
    early_of kind call at (map (pair_of kind) rows) ≡ None → AreLoggable (conclude kind call at (seen kind (look_of kind call at).way (look_of kind call at).range (map (pair_of kind) rows))).changes
concludes kind (Get db key rmw) at rows may none right up named early = finds at (seen kind (first_of_key kind key).way (first_of_key kind key).range (map (pair_of kind) rows))
concludes kind (GetBoth db key value rmw) at rows may none right up named early =
    finds at (tested_for kind value (seen kind (exactly kind key value).way (exactly kind key value).range (map (pair_of kind) rows)))
concludes kind (Put db key value mode) at rows may none right up named early =
    puts kind at at key value (seen kind (look_of_put mode kind key value).way (look_of_put mode kind key value).range (map (pair_of kind) rows))
    (neither (kind_refusal (Put db key value mode) kind) (pair_refusal kind key value) none).1
concludes kind (Delete db key) at rows may none right up named early = deletes kind at (all_of_key kind key).way (all_of_key kind key).range rows (key_upward kind key) right up named
concludes kind (Count cursor) at rows may none right up named early = none_loggable
concludes kind (Cur cursor motion rmw) at rows may none right up named early =
    goes kind at (tested kind motion (seen kind (look_of_motion kind motion at).way (look_of_motion kind motion at).range (map (pair_of kind) rows)))
concludes kind (CPutCur cursor value) at rows may none right up named early = puts_there kind cursor value at rows none right named early
concludes kind (CDel cursor) at rows may none right up named early = deletes kind at (look_at_place at).way (look_at_place at).range rows (place_upward at) right up named
concludes kind (CPut cursor key value mode) at rows may none right up named early =
    puts kind at (Some (name_of kind (key, value))) key value (seen kind (look_of_put mode kind key value).way (look_of_put mode kind key value).range (map (pair_of kind) rows))
    (neither (kind_refusal (CPut cursor key value mode) kind) (pair_refusal kind key value) none).1
concludes kind call at rows may none right up named early = absurd may

-- an answer that the place gives changes nothing
unless_so : (early : Option Answer) (at : Option Name) (evaluated : Evaluated) → (early ≡ None → AreLoggable evaluated.changes) → AreLoggable (unless_early early at evaluated).changes
unless_so None at evaluated loggable = loggable refl
unless_so (Some answer) at evaluated loggable = none_loggable

-- those of a call of a transaction, as it sees the records
pub own_loggable : (st : Standing) (a : Active) (call : Call) (g : Target) (cells : AllCells) → AreSeenBy st a g cells → CellsRise (cells g.db) → AllByRecursion (λ (t : Row). IsName t.0) (seen_rows a.level a.txn (cells g.db)) →
    MayWait call → database_refuses g.database.kind call ≡ None → AreLoggable (outcome_of st a call g).changes
own_loggable st a call g cells seen_ rising named may none =
    let kind : Kind = g.database.kind in
    let rows : List Row = seen_rows a.level a.txn (cells g.db) in
    let pairs : List Pair = map (pair_of kind) rows in
    subst (λ (p : List Pair). AreLoggable (evaluation kind call g.at p).changes) seen_.pairs
    (unless_so (early_of kind call g.at pairs) g.at (conclude kind call g.at (seen kind (look_of kind call g.at).way (look_of kind call g.at).range pairs))
    (λ early. concludes kind call g.at rows may none seen_.right (seen_rises a.level a.txn (cells g.db) rising) named early))
