-- What a call changes: it sets one record, or it takes some out; and which of its changes are of which database.
use Rattle.std.proofs.Common.{◌≡◌, ◌<◌, inl, inr, ℕ, ◌==◌, false, List, [], ◌∷◌, ◌++◌, map, Option, None, Some, refl, ap, ap₂, sym, ◌∙◌, subst, ⊎_elim, arith, append-nil}
use Rattle.std.specs.List.{AllByRecursion, flat_map}
use Rattle.std.proofs.lemmas.Bool.{cases_Bool, cond-true, cond-false, eqb-true}
use Rattle.je_order.specs.declared.name.Name.{Name}
use Rattle.store_model.specs.declared.kind.Kind.{Kind}
use Rattle.store_model.specs.declared.call.Call.{Call}
use Rattle.store_model.specs.declared.call.Call.TheVariants.{Get, GetBoth, Put, Delete, Count, Cur, CPutCur, CDel, CPut}
use Rattle.store_model.specs.declared.answer.Answer.{Answer}
use Rattle.store_model.specs.declared.record_change.RecordChange.{RecordChange}
use Rattle.store_model.specs.declared.record_change.RecordChange.TheVariants.{Set, Unset}
use Rattle.store_model.specs.Store.{Pair, name_of}
use Rattle.store_model.specs.Indexes.{Numbered, changes_in}
use Rattle.store_model.specs.Reads.{seen}
use Rattle.store_model.specs.Records.{look_of, early_of, tested, tested_for, found, went, put_unless, deleted, put_at_place, conclude, unless_early, evaluation}
use Rattle.je_answers.specs.Views.{of_db}
use Rattle.standing_laws.specs.Right.{MayWait}
use Rattle.standing_laws.proofs.Among.{IsAmong, all_at}
use Rattle.index_laws.specs.Keeping.{IsUnset, AreOfOneCall}
use Rattle.serial_replay.proofs.Stores.{Over, same_number}
use Rattle.serial_replay.proofs.Occupied.{of_db_append}
use Rattle.serial_replay.proofs.NumberedLists.{AreRising}
use Rattle.serial_replay.proofs.Through.{changed_by, in_index, with_all, reply_changes}

-- ---- of one call

all_unset : (cs : List RecordChange) → AllByRecursion IsUnset cs → AreOfOneCall cs
all_unset [] h = tt
all_unset (Set at value ∷ cs) h = absurd h.0
all_unset (Unset at ∷ cs) h = h

unset_mapped : (kind : Kind) (l : List Pair) → AllByRecursion IsUnset (map (λ q. Unset (name_of kind q)) l)
unset_mapped kind [] = tt
unset_mapped kind (p ∷ l) = (tt, unset_mapped kind l)

found_one : (at : Option Name) (l : List Pair) → AreOfOneCall (found at l).changes
found_one at [] = tt
found_one at (p ∷ l) = tt

went_one : (kind : Kind) (at : Option Name) (l : List Pair) → AreOfOneCall (went kind at l).changes
went_one kind at [] = tt
went_one kind at (p ∷ l) = tt

deleted_one : (kind : Kind) (at : Option Name) (l : List Pair) → AreOfOneCall (deleted kind at l).changes
deleted_one kind at [] = tt
deleted_one kind at (p ∷ l) = all_unset (map (λ q. Unset (name_of kind q)) (p ∷ l)) (unset_mapped kind (p ∷ l))

put_one : (kind : Kind) (at then_at : Option Name) (key value : List ℕ) (l : List Pair) → AreOfOneCall (put_unless kind at then_at key value l).changes
put_one kind at then_at key value [] = tt
put_one kind at then_at key value (p ∷ l) = tt

place_one : (at : Option Name) (value : List ℕ) → AreOfOneCall (put_at_place at value).changes
place_one None value = tt
place_one (Some n) value = tt

concluded_one : (kind : Kind) (call : Call) (at : Option Name) (taken : List Pair) → MayWait call → AreOfOneCall (conclude kind call at taken).changes
concluded_one kind (Get db key rmw) at taken may = found_one at taken
concluded_one kind (GetBoth db key value rmw) at taken may = found_one at (tested_for kind value taken)
concluded_one kind (Put db key value mode) at taken may = put_one kind at at key value taken
concluded_one kind (Delete db key) at taken may = deleted_one kind at taken
concluded_one kind (Count cursor) at taken may = tt
concluded_one kind (Cur cursor motion rmw) at taken may = went_one kind at (tested kind motion taken)
concluded_one kind (CPutCur cursor value) at taken may = place_one at value
concluded_one kind (CDel cursor) at taken may = deleted_one kind at taken
concluded_one kind (CPut cursor key value mode) at taken may = put_one kind at (Some (name_of kind (key, value))) key value taken
concluded_one kind call at taken may = absurd may

pub evaluated_one : (kind : Kind) (call : Call) (at : Option Name) (pairs : List Pair) → MayWait call → AreOfOneCall (evaluation kind call at pairs).changes
evaluated_one kind call at pairs may = by (early_of kind call at pairs)
  where
    by : (o : Option Answer) → AreOfOneCall (unless_early o at (conclude kind call at (seen kind (look_of kind call at).way (look_of kind call at).range pairs))).changes
    by None = concluded_one kind call at (seen kind (look_of kind call at).way (look_of kind call at).range pairs) may
    by (Some answer) = tt

-- and so where they go through an index
changed_same : (cs : List RecordChange) → map (changed_by None) cs ≡ cs
changed_same [] = refl
changed_same (c ∷ cs) = ap (λ (l : List RecordChange). c ∷ l) (changed_same cs)

changed_unset : (o : _) (cs : List RecordChange) → AllByRecursion IsUnset (map (changed_by (Some o)) cs)
changed_unset o [] = tt
changed_unset o (c ∷ cs) = (tt, changed_unset o cs)

pub through_one : (o : Over) (cs : List RecordChange) → AreOfOneCall cs → AreOfOneCall (map (changed_by o) cs)
through_one None cs h = subst AreOfOneCall (sym (changed_same cs)) h
through_one (Some o) cs h = all_unset (map (changed_by (Some o)) cs) (changed_unset o cs)

-- ---- of one database

pub reply_mapped : (o : Over) (q : ℕ) (is : List Numbered) (records : List Pair) (cs : List RecordChange) → reply_changes o q is records cs ≡ flat_map (with_all q is records) (map (changed_by o) cs)
reply_mapped o q is records [] = refl
reply_mapped o q is records (c ∷ cs) = ap (λ (l : List (ℕ × RecordChange)). with_all q is records (changed_by o c) ++ l) (reply_mapped o q is records cs)

not_equal : (m n : ℕ) → (m ≡ n → ⊥) → (m == n) ≡ false
not_equal m n other = ⊎_elim (λ e. absurd (other (eqb-true m n e))) (λ e. e) (cases_Bool (m == n))

of_same : (n : ℕ) (cs : List RecordChange) → of_db n (map (λ y. (n, y)) cs) ≡ cs
of_same n [] = refl
of_same n (c ∷ cs) =
    cond-true (n == n) (c ∷ of_db n (map (λ y. (n, y)) cs)) (of_db n (map (λ y. (n, y)) cs)) (same_number n)
    ∙ ap (λ (l : List RecordChange). c ∷ l) (of_same n cs)

of_other : (m n : ℕ) (cs : List RecordChange) → (n ≡ m → ⊥) → of_db m (map (λ y. (n, y)) cs) ≡ []
of_other m n [] other = refl
of_other m n (c ∷ cs) other =
    cond-false (n == m) (c ∷ of_db m (map (λ y. (n, y)) cs)) (of_db m (map (λ y. (n, y)) cs)) (not_equal n m other)
    ∙ of_other m n cs other

module _ (records : List Pair) (c : RecordChange) where
  none_in : (m : ℕ) (xs : List Numbered) → ((x : Numbered) → IsAmong x xs → x.0 ≡ m → ⊥) → of_db m (flat_map (in_index records c) xs) ≡ []
  none_in m [] other = refl
  none_in m (x ∷ xs) other =
      of_db_append m (in_index records c x) (flat_map (in_index records c) xs)
      ∙ ap₂ (λ (a b : List RecordChange). a ++ b) (of_other m x.0 (changes_in x.1.index records c) (other x (inl refl))) (none_in m xs (λ y k. other y (inr k)))

  one_in : (x : Numbered) (xs : List Numbered) → AreRising xs → IsAmong x xs → of_db x.0 (flat_map (in_index records c) xs) ≡ changes_in x.1.index records c
  one_in x [] up k = absurd k
  one_in x (y ∷ ys) up (inl e) =
      subst (λ (z : Numbered). of_db z.0 (flat_map (in_index records c) (y ∷ ys)) ≡ changes_in z.1.index records c) e
      (of_db_append y.0 (in_index records c y) (flat_map (in_index records c) ys)
      ∙ (ap₂ (λ (a b : List RecordChange). a ++ b) (of_same y.0 (changes_in y.1.index records c))
      (none_in y.0 ys (λ z i same. let h = all_at (λ (w : Numbered). y.0 < w.0) ys z up.0 i in omega (arith, h, same)))
      ∙ append-nil (changes_in y.1.index records c)))
  one_in x (y ∷ ys) up (inr k) =
      of_db_append x.0 (in_index records c y) (flat_map (in_index records c) ys)
      ∙ ap₂ (λ (a b : List RecordChange). a ++ b)
      (of_other x.0 y.0 (changes_in y.1.index records c) (λ same. let h = all_at (λ (w : Numbered). y.0 < w.0) ys x up.0 k in omega (arith, h, same)))
      (one_in x ys up.1 k)

module _ (q : ℕ) (is : List Numbered) (records : List Pair) (up : AreRising is) (other : (x : Numbered) → IsAmong x is → x.0 ≡ q → ⊥) where
  -- of the records
  pub of_records : (cs : List RecordChange) → of_db q (flat_map (with_all q is records) cs) ≡ cs
  of_records [] = refl
  of_records (c ∷ cs) =
      cond-true (q == q) (c ∷ rest) rest (same_number q)
      ∙ ap (λ (l : List RecordChange). c ∷ l) (of_db_append q (flat_map (in_index records c) is) (flat_map (with_all q is records) cs)
      ∙ ap₂ (λ (a b : List RecordChange). a ++ b) (none_in records c q is other) (of_records cs))
    where
      rest : List RecordChange
      rest = of_db q (flat_map (in_index records c) is ++ flat_map (with_all q is records) cs)

  -- of an index
  pub of_index : (x : Numbered) → IsAmong x is → (cs : List RecordChange) → of_db x.0 (flat_map (with_all q is records) cs) ≡ flat_map (changes_in x.1.index records) cs
  of_index x k [] = refl
  of_index x k (c ∷ cs) =
      cond-false (q == x.0) (c ∷ rest) rest (not_equal q x.0 (λ same. other x k (sym same)))
      ∙ (of_db_append x.0 (flat_map (in_index records c) is) (flat_map (with_all q is records) cs)
      ∙ ap₂ (λ (a b : List RecordChange). a ++ b) (one_in records c x is up k) (of_index x k cs))
    where
      rest : List RecordChange
      rest = of_db x.0 (flat_map (in_index records c) is ++ flat_map (with_all q is records) cs)

  -- of no other database
  pub of_none : (m : ℕ) → (q ≡ m → ⊥) → ((x : Numbered) → IsAmong x is → x.0 ≡ m → ⊥) → (cs : List RecordChange) → of_db m (flat_map (with_all q is records) cs) ≡ []
  of_none m apart none [] = refl
  of_none m apart none (c ∷ cs) =
      cond-false (q == m) (c ∷ rest) rest (not_equal q m apart)
      ∙ (of_db_append m (flat_map (in_index records c) is) (flat_map (with_all q is records) cs)
      ∙ ap₂ (λ (a b : List RecordChange). a ++ b) (none_in records c m is none) (of_none m apart none cs))
    where
      rest : List RecordChange
      rest = of_db m (flat_map (in_index records c) is ++ flat_map (with_all q is records) cs)
