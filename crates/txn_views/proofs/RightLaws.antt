-- The changes of a call are right where the records that it sees are.
use Rattle.std.proofs.Common.{◌≡◌, ◌⊎◌, inl, inr, ℕ, ◌==◌, nat_lt, nat_le, List, [], ◌∷◌, Bool, true, false, cond, Option, None, Some, filter, length, map, refl, ap, sym, ◌∙◌, subst, ⊎_elim, arith}
use Rattle.std.specs.List.{AllByRecursion}
use Rattle.std.specs.Ordering.{is_eq}
use Rattle.std.proofs.lemmas.Bool.{cases_Bool, cond-false, both_ways, and_parts, ltb-false, le-leb}
use Rattle.std.proofs.lemmas.Option.{none-some}
use Rattle.je_order.specs.Order.{name_cmp}
use Rattle.je_order.specs.declared.name.Name.{Name}
use Rattle.record_map.proofs.NameLaws.{same_or_other}
use Rattle.je_order.proofs.Lists.{all_kept}
use Rattle.store_model.specs.declared.kind.Kind.{Kind}
use Rattle.store_model.specs.declared.kind.Kind.TheVariants.{Plain, Dup}
use Rattle.store_model.specs.declared.store.TheConstants.{DUP_LIMIT}
use Rattle.store_model.specs.declared.call.Call.{Call}
use Rattle.store_model.specs.declared.call.Call.TheVariants.{Get, GetBoth, Put, Delete, Cur, CPutCur, CDel, CPut}
use Rattle.store_model.specs.declared.record_change.RecordChange.{RecordChange}
use Rattle.store_model.specs.declared.record_change.RecordChange.TheVariants.{Set, Unset}
use Rattle.store_model.specs.declared.answer.Answer.{Answer}
use Rattle.store_model.specs.declared.answer.Answer.TheVariants.{KeyEmpty, NotOnDuplicates, TooLong}
use Rattle.store_model.specs.Store.{Pair, name_of}
use Rattle.store_model.specs.Reads.{Way, Range, is_within, last_of, taken_by, seen, at_name}
use Rattle.store_model.specs.Reads.Way.{Lowest, Highest, Each}
use Rattle.store_model.specs.Records.{Evaluated, empty_if, early_of, unless_early, conclude, set, found, went, tested, tested_for, put_unless, put_at_place, deleted, first_of_key, exactly, all_of_key, look_of_put, look_of_motion, look_at_place, look_of}
use Rattle.store_model.specs.Refusals.{or_refusal, too_long, pair_refusal, kind_refusal, database_refuses}
use Rattle.log_replay.specs.Rows.{Row, is_right_row, are_right, pair_of}
use Rattle.log_replay.proofs.ListLaws.{all_true}
use Rattle.txn_views.specs.Seen.{is_right_change}
use Rattle.txn_views.specs.Laws.{ChangesAreRight}

abbrev AreRight : Kind → List RecordChange → Type 0
AreRight kind cs = AllByRecursion (λ c. is_right_change kind c ≡ true) cs

-- ---- records that are taken out

-- a pair's name is right
abbrev IsNamed : Kind → Pair → Type 0
IsNamed kind p = is_right_change kind (Unset (name_of kind p)) ≡ true

name_right : (kind : Kind) (r : Row) → is_right_row kind r ≡ true → IsNamed kind (pair_of kind r)
name_right Plain r h = refl
name_right Dup r h = (and_parts (length r.1 == 0) (nat_le (length r.0.dup) DUP_LIMIT) h).1

names_right : (kind : Kind) (rows : List Row) → AllByRecursion (λ r. is_right_row kind r ≡ true) rows → AllByRecursion (IsNamed kind) (map (pair_of kind) rows)
names_right kind [] all = tt
names_right kind (r ∷ rows) all = (name_right kind r all.0, names_right kind rows all.1)

last_all : (P : Pair → Type 0) (xs : List Pair) → AllByRecursion P xs → AllByRecursion P (last_of xs)
last_all P [] all = tt
last_all P (x ∷ []) all = all
last_all P (x ∷ y ∷ xs) all = last_all P (y ∷ xs) all.1

taken_all : (P : Pair → Type 0) (way : Way) (xs : List Pair) → AllByRecursion P xs → AllByRecursion P (taken_by way xs)
taken_all P Lowest [] all = tt
taken_all P Lowest (x ∷ xs) all = (all.0, tt)
taken_all P Highest xs all = last_all P xs all
taken_all P Each xs all = all

seen_all : (kind : Kind) (way : Way) (r : Range) (rows : List Row) → are_right kind rows ≡ true → AllByRecursion (IsNamed kind) (seen kind way r (map (pair_of kind) rows))
seen_all kind way r rows right =
    taken_all (IsNamed kind) way (filter (λ p. is_within r (name_of kind p)) (map (pair_of kind) rows))
    (all_kept (IsNamed kind) (λ p. is_within r (name_of kind p)) (map (pair_of kind) rows) (names_right kind rows (all_true (is_right_row kind) rows right)))

unsets : (kind : Kind) (taken : List Pair) → AllByRecursion (IsNamed kind) taken → AreRight kind (map (λ q. Unset (name_of kind q)) taken)
unsets kind [] all = tt
unsets kind (p ∷ taken) all = (all.0, unsets kind taken all.1)

deletes : (kind : Kind) (at : Option Name) (taken : List Pair) → AllByRecursion (IsNamed kind) taken → AreRight kind (deleted kind at taken).changes
deletes kind at [] all = tt
deletes kind at (p ∷ taken) all = unsets kind (p ∷ taken) all

-- ---- a record that is set

within : (limit : ℕ) (bytes : List ℕ) → too_long limit bytes ≡ None → nat_le (length bytes) limit ≡ true
within limit bytes h = by (nat_lt limit (length bytes)) refl h
  where
    by : (b : Bool) → nat_lt limit (length bytes) ≡ b → cond b (Some (TooLong (length bytes))) None ≡ None → nat_le (length bytes) limit ≡ true
    by true e over = absurd (none-some (TooLong (length bytes)) (sym over))
    by false e over = let under = ltb-false limit (length bytes) e in le-leb (length bytes) limit (omega (arith, under))

neither : (a b : Option Answer) → or_refusal a b ≡ None → (a ≡ None) × (b ≡ None)
neither None b h = (refl, h)
neither (Some x) b h = absurd (none-some x (sym h))

set_right : (kind : Kind) (key value : List ℕ) → pair_refusal kind key value ≡ None → is_right_change kind (set kind key value) ≡ true
set_right Plain key value h = refl
set_right Dup key value h = within DUP_LIMIT value (neither (too_long _ key) (too_long DUP_LIMIT value) h).1

puts : (kind : Kind) (at then_at : Option Name) (key value : List ℕ) (taken : List Pair) → pair_refusal kind key value ≡ None → AreRight kind (put_unless kind at then_at key value taken).changes
puts kind at then_at key value [] h = (set_right kind key value h, tt)
puts kind at then_at key value (p ∷ taken) h = tt

-- ---- each call

finds : (kind : Kind) (at : Option Name) (taken : List Pair) → AreRight kind (found at taken).changes
finds kind at [] = tt
finds kind at (p ∷ taken) = tt

goes : (kind : Kind) (at : Option Name) (taken : List Pair) → AreRight kind (went kind at taken).changes
goes kind at [] = tt
goes kind at (p ∷ taken) = tt

-- a record that is there has a name that is right, and so has each name that is the same
none_there : (kind : Kind) (n : Name) (rows : List Row) → AllByRecursion (IsNamed kind) (map (pair_of kind) rows) → at_name kind n (map (pair_of kind) rows) ≡ [] ⊎ (is_right_change kind (Unset n) ≡ true)
none_there kind n [] all = inl refl
none_there kind n (r ∷ rows) all = ⊎_elim
    (λ e. inr (subst (λ (x : Name). is_right_change kind (Unset x) ≡ true) (same (name_of kind (pair_of kind r)) e) all.0))
    (λ e. ⊎_elim
    (λ k. inl (cond-false (is_eq (name_cmp (name_of kind (pair_of kind r)) n)) (pair_of kind r ∷ at_name kind n (map (pair_of kind) rows)) (at_name kind n (map (pair_of kind) rows)) e ∙ k))
    (λ k. inr k)
    (none_there kind n rows all.1))
    (cases_Bool (is_eq (name_cmp (name_of kind (pair_of kind r)) n)))
  where
    same : (x : Name) → is_eq (name_cmp x n) ≡ true → x ≡ n
    same x e = ⊎_elim (λ k. k) (λ k. absurd (both_ways (is_eq (name_cmp x n)) k e)) (same_or_other x n)

-- a record whose data are set where the cursor stands is there
sets_there : (n : Name) (value : List ℕ) (pairs : List Pair) → pairs ≡ [] ⊎ (is_right_change Plain (Unset n) ≡ true) → empty_if true pairs ≡ None → is_right_change Plain (Set n value) ≡ true
sets_there n value pairs (inl none) early = absurd (none-some KeyEmpty (sym early ∙ ap (empty_if true) none))
sets_there n value pairs (inr right) early = right

puts_there : (kind : Kind) (cursor : ℕ) (value : List ℕ) (at : Option Name) (rows : List Row) → database_refuses kind (CPutCur cursor value) ≡ None → are_right kind rows ≡ true
    → early_of kind (CPutCur cursor value) at (map (pair_of kind) rows) ≡ None → AreRight kind (put_at_place at value).changes
puts_there kind cursor value None rows none right early = tt
puts_there Dup cursor value (Some n) rows none right early = absurd (none-some NotOnDuplicates (sym none))
puts_there Plain cursor value (Some n) rows none right early =
    (sets_there n value (at_name Plain n (map (pair_of Plain) rows)) (none_there Plain n rows (names_right Plain rows (all_true (is_right_row Plain) rows right))) early, tt)

-- what a call comes to that its cursor's place does not answer
concludes : (kind : Kind) (call : Call) (at : Option Name) (rows : List Row) → database_refuses kind call ≡ None → are_right kind rows ≡ true → early_of kind call at (map (pair_of kind) rows) ≡ None
    → AreRight kind (conclude kind call at (seen kind (look_of kind call at).way (look_of kind call at).range (map (pair_of kind) rows))).changes
concludes kind (Get db key rmw) at rows none right early =
    finds kind at (seen kind (first_of_key kind key).way (first_of_key kind key).range (map (pair_of kind) rows))
concludes kind (GetBoth db key value rmw) at rows none right early =
    finds kind at (tested_for kind value (seen kind (exactly kind key value).way (exactly kind key value).range (map (pair_of kind) rows)))
concludes kind (Put db key value mode) at rows none right early =
    puts kind at at key value (seen kind (look_of_put mode kind key value).way (look_of_put mode kind key value).range (map (pair_of kind) rows))
    (neither (kind_refusal (Put db key value mode) kind) (pair_refusal kind key value) none).1
concludes kind (Delete db key) at rows none right early =
    deletes kind at (seen kind (all_of_key kind key).way (all_of_key kind key).range (map (pair_of kind) rows)) (seen_all kind (all_of_key kind key).way (all_of_key kind key).range rows right)
concludes kind (Cur cursor motion rmw) at rows none right early =
    goes kind at (tested kind motion (seen kind (look_of_motion kind motion at).way (look_of_motion kind motion at).range (map (pair_of kind) rows)))
concludes kind (CPutCur cursor value) at rows none right early = puts_there kind cursor value at rows none right early
concludes kind (CDel cursor) at rows none right early =
    deletes kind at (seen kind (look_at_place at).way (look_at_place at).range (map (pair_of kind) rows)) (seen_all kind (look_at_place at).way (look_at_place at).range rows right)
concludes kind (CPut cursor key value mode) at rows none right early =
    puts kind at (Some (name_of kind (key, value))) key value (seen kind (look_of_put mode kind key value).way (look_of_put mode kind key value).range (map (pair_of kind) rows))
    (neither (kind_refusal (CPut cursor key value mode) kind) (pair_refusal kind key value) none).1
concludes kind call at rows none right early = tt

-- an answer that the place gives changes nothing
unless_so : (kind : Kind) (early : Option Answer) (at : Option Name) (evaluated : Evaluated) → (early ≡ None → AreRight kind evaluated.changes) → AreRight kind (unless_early early at evaluated).changes
unless_so kind None at evaluated right = right refl
unless_so kind (Some answer) at evaluated right = tt

pub changes-are_right : ChangesAreRight
changes-are_right kind call at rows none right =
    unless_so kind (early_of kind call at (map (pair_of kind) rows)) at (conclude kind call at (seen kind (look_of kind call at).way (look_of kind call at).range (map (pair_of kind) rows)))
    (λ early. concludes kind call at rows none right early)
