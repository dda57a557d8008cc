-- What is seen in cells is what the model says.
use Rattle.std.proofs.Common.{◌≡◌, ◌≢◌, ◌⊎◌, inl, inr, ℕ, ◌==◌, List, [], ◌∷◌, ◌++◌, Bool, true, false, cond, ◌&&◌, ◌||◌, Option, None, Some, IfSome, option_map, is_some, filter, map, refl, ap, ap₂, sym, subst, ◌∙◌, is_eq, is_lt, is_gt}
use Rattle.std.specs.List.{AllByRecursion, flat_map, list_any}
use Rattle.std.specs.List.Sorted.{IsStrictlySortedBy}
use Rattle.std.specs.Map.{keys_of}
use Rattle.std.specs.Option.{option_or}
use Rattle.std.proofs.lemmas.Bool.{eqb-true}
use Rattle.std.proofs.lemmas.Bool.Decides.{eqb_tells}
use Rattle.std.proofs.lemmas.Map.Made.{keys_of-map_values}
use Rattle.std.proofs.lemmas.Option.{none-some}
use Rattle.je_order.specs.Order.{name_cmp}
use Rattle.je_order.specs.declared.name.Name.{Name}
use Rattle.je_order.specs.declared.txn_id.TxnId.{TxnId}
use Rattle.record_map.specs.declared.write.Write.{Write}
use Rattle.record_map.specs.Cells.{value_at, IsRising}
use Rattle.record_tree.specs.Occupied.{Occupied, AllCells, is_occupied, value_in, write_in}
use Rattle.store_model.specs.declared.kind.Kind.{Kind}
use Rattle.store_model.specs.declared.isolation.Isolation.{Isolation}
use Rattle.store_model.specs.declared.isolation.Isolation.TheVariants.{ReadUncommitted, ReadCommitted, RepeatableRead, Serializable}
use Rattle.store_model.specs.declared.record_change.RecordChange.{RecordChange}
use Rattle.store_model.specs.declared.record_change.RecordChange.TheVariants.{Set, Unset}
use Rattle.store_model.specs.Store.{name_of, all_pairs_changed}
use Rattle.store_model.specs.Needs.{changed_name}
use Rattle.je_answers.specs.declared.active.Active.{Active}
use Rattle.je_answers.specs.Standing.{Standing}
use Rattle.je_answers.specs.Views.{Target, all_own, seen_changes, of_db, names_with, names_with_all, occupied}
use Rattle.log_replay.specs.Rows.{Row, rows_with, data_at, are_right, pair_of, IsRising as RowsRise}
use Rattle.log_replay.proofs.ListLaws.{all_append}
use Rattle.log_replay.proofs.LoadedRows.{same_rows}
use Rattle.log_replay.proofs.MapRows.{lookup_is_data, rising_from_keys}
use Rattle.log_replay.proofs.NameLaws.{data-with}
use Rattle.log_replay.proofs.RowLaws.{each_right, pairs_with-rows, pairs_without-rows, right-changed, rising-changed}
use Rattle.txn_core.specs.Known.{committed_rows}
use Rattle.txn_core.proofs.ReadingLaws.{committed_at, committed_rises}
use Rattle.txn_views.specs.Seen.{sees, seen_value, seen_cell, seen_rows, seen_rises, still_rises, last_own, value_of, IsLastOwn, IsWriteOf, HasWrites, IsProperChange, AreRightIn, AreOccupied}
use Rattle.txn_views.specs.Laws.{AreCellsOf, ViewsAreSeen}
use Rattle.txn_views.proofs.OwnLaws.{if_of, last_append, last_cons}

-- ---- records after changes, each of which leaves what a function gives

rows_by : (RecordChange → Option (List ℕ)) → List RecordChange → List Row → List Row
rows_by value [] rows = rows
rows_by value (c ∷ cs) rows = rows_by value cs (rows_with (changed_name c) (value c) rows)

rises_by : (value : RecordChange → Option (List ℕ)) (cs : List RecordChange) (rows : List Row) → RowsRise rows → RowsRise (rows_by value cs rows)
unfolding rows_by
rises_by value [] rows up = up
rises_by value (c ∷ cs) rows up = rises_by value cs (rows_with (changed_name c) (value c) rows) (rising-changed rows (changed_name c) (value c) up)

abbrev left_by : (RecordChange → Option (List ℕ)) → Option RecordChange → Option (List ℕ) → Option (List ℕ)
left_by value None old = old
left_by value (Some c) old = value c

-- the data of a name is what its last change leaves
data_by : (value : RecordChange → Option (List ℕ)) (d : ℕ) (x : Name) (own : List (ℕ × RecordChange)) (rows : List Row) →
    data_at x (rows_by value (of_db d own) rows) ≡ left_by value (last_own d x own) (data_at x rows)
unfolding rows_by
data_by value d x [] rows = refl
data_by value d x (c ∷ cs) rows =
    by (c.0 == d) refl (λ rows. data_by value d x cs rows) ∙ ap (λ (o : Option RecordChange). left_by value o (data_at x rows)) (sym (last_cons d x c cs))
  where
    here : Bool
    here = is_eq (name_cmp x (changed_name c.1))

    front : (o : Option RecordChange) (t : Bool) → left_by value o (cond t (value c.1) (data_at x rows)) ≡ left_by value (option_or o (cond t (Some c.1) None)) (data_at x rows)
    front None true = refl
    front None false = refl
    front (Some y) t = refl

    over : (o : Option RecordChange) → left_by value o (data_at x rows) ≡ left_by value (option_or o None) (data_at x rows)
    over None = refl
    over (Some y) = refl

    by : (b : Bool) → (c.0 == d) ≡ b → ((rows : List Row) → data_at x (rows_by value (of_db d cs) rows) ≡ left_by value (last_own d x cs) (data_at x rows)) →
        data_at x (rows_by value (cond b (c.1 ∷ of_db d cs) (of_db d cs)) rows) ≡ left_by value (option_or (last_own d x cs) (if_of d x c)) (data_at x rows)
    by true e rest =
        rest (rows_with (changed_name c.1) (value c.1) rows)
        ∙ ap (left_by value (last_own d x cs)) (data-with (changed_name c.1) (value c.1) x rows)
        ∙ front (last_own d x cs) here
        ∙ ap (λ (t : Bool). left_by value (option_or (last_own d x cs) (cond (t && here) (Some c.1) None)) (data_at x rows)) (sym e)
    by false e rest =
        rest rows ∙ over (last_own d x cs)
        ∙ ap (λ (t : Bool). left_by value (option_or (last_own d x cs) (cond (t && here) (Some c.1) None)) (data_at x rows)) (sym e)

-- ---- the last one of the changes that are seen

none_of_all : (d : ℕ) (x : Name) (own : ℕ → List (ℕ × RecordChange)) (actives : List Active) → ((t : ℕ) → last_own d x (own t) ≡ None) → last_own d x (flat_map (λ a. own a.txn.0) actives) ≡ None
none_of_all d x own [] none = refl
none_of_all d x own (a ∷ actives) none =
    last_append d x (own a.txn.0) (flat_map (λ a. own a.txn.0) actives) ∙ ap₂ option_or (none_of_all d x own actives none) (none a.txn.0)

one_of_all : (d : ℕ) (x : Name) (own : ℕ → List (ℕ × RecordChange)) (t : ℕ) (c : RecordChange) (actives : List Active) → last_own d x (own t) ≡ Some c →
    ((u : ℕ) → (u ≡ t → ⊥) → last_own d x (own u) ≡ None) → last_own d x (flat_map (λ a. own a.txn.0) actives) ≡ cond (list_any (λ a. t == a.txn.0) actives) (Some c) None
one_of_all d x own t c [] has others = refl
one_of_all d x own t c (a ∷ actives) has others =
    last_append d x (own a.txn.0) (flat_map (λ a. own a.txn.0) actives)
    ∙ ap (λ (o : Option RecordChange). option_or o (last_own d x (own a.txn.0))) (one_of_all d x own t c actives has others)
    ∙ by (eqb_tells t a.txn.0)
  where
    more : Bool
    more = list_any (λ a. t == a.txn.0) actives

    its : (b : Bool) → option_or (cond b (Some c) None) (Some c) ≡ Some c
    its true = refl
    its false = refl

    not_its : (b : Bool) → option_or (cond b (Some c) None) None ≡ cond b (Some c) None
    not_its true = refl
    not_its false = refl

    by : ((t == a.txn.0) ≡ true) × (t ≡ a.txn.0) ⊎ ((t == a.txn.0) ≡ false) × (t ≢ a.txn.0) →
        option_or (cond more (Some c) None) (last_own d x (own a.txn.0)) ≡ cond ((t == a.txn.0) || more) (Some c) None
    by (inl same) =
        ap (option_or (cond more (Some c) None)) (ap (λ (n : ℕ). last_own d x (own n)) (sym same.1) ∙ has) ∙ its more
        ∙ sym (ap (λ (b : Bool). cond (b || more) (Some c) None) same.0)
    by (inr other) =
        ap (option_or (cond more (Some c) None)) (others a.txn.0 (λ e. other.1 (sym e))) ∙ not_its more
        ∙ sym (ap (λ (b : Bool). cond (b || more) (Some c) None) other.0)

-- what a name has over its committed data, from its change
abbrev over : Isolation → TxnId → (Write → Option (List ℕ)) → Option Write → Option (List ℕ) → Option (List ℕ)
over level txn f None old = old
over level txn f (Some w) old = cond (sees level txn w.txn) (f w) old

-- a function of changes gives what one of names' changes does
abbrev Gives : (RecordChange → Option (List ℕ)) → (Write → Option (List ℕ)) → Type 0
Gives value f = (w : Write) (c : RecordChange) → w.value ≡ value_of c → value c ≡ f w

left_own : (value : RecordChange → Option (List ℕ)) (f : Write → Option (List ℕ)) (txn : TxnId) (d : ℕ) (x : Name) (own : ℕ → List (ℕ × RecordChange)) (w : Write) (old : Option (List ℕ)) → Gives value f →
    IsLastOwn d x own w → left_by value (last_own d x (own txn.0)) old ≡ cond (w.txn.0 == txn.0) (f w) old
left_own value f txn d x own w old gives h = by (eqb_tells w.txn.0 txn.0)
  where
    by : ((w.txn.0 == txn.0) ≡ true) × (w.txn.0 ≡ txn.0) ⊎ ((w.txn.0 == txn.0) ≡ false) × (w.txn.0 ≢ txn.0) → left_by value (last_own d x (own txn.0)) old ≡ cond (w.txn.0 == txn.0) (f w) old
    by (inl same) =
        ap (λ (o : Option RecordChange). left_by value o old) (ap (λ (n : ℕ). last_own d x (own n)) (sym same.1) ∙ h.last) ∙ gives w h.change h.value
        ∙ sym (ap (λ (b : Bool). cond b (f w) old) same.0)
    by (inr other) =
        ap (λ (o : Option RecordChange). left_by value o old) (h.others txn.0 (λ e. other.1 (sym e)))
        ∙ sym (ap (λ (b : Bool). cond b (f w) old) other.0)

-- only transactions under way have own changes
abbrev OwnAreActive : Standing → Type 0
OwnAreActive st = (n : ℕ) → list_any (λ a. n == a.txn.0) st.actives ≡ false → st.own n ≡ []

left_all : (value : RecordChange → Option (List ℕ)) (f : Write → Option (List ℕ)) (st : Standing) (d : ℕ) (x : Name) (w : Write) (old : Option (List ℕ)) → Gives value f → OwnAreActive st →
    IsLastOwn d x st.own w → left_by value (last_own d x (all_own st)) old ≡ f w
left_all value f st d x w old gives active h =
    ap (λ (o : Option RecordChange). left_by value o old) (one_of_all d x st.own w.txn.0 h.change st.actives h.last h.others)
    ∙ by (list_any (λ a. w.txn.0 == a.txn.0) st.actives) refl
  where
    by : (b : Bool) → list_any (λ a. w.txn.0 == a.txn.0) st.actives ≡ b → left_by value (cond b (Some h.change) None) old ≡ f w
    by true e = gives w h.change h.value
    by false e = absurd (none-some h.change (sym (ap (last_own d x) (active w.txn.0 e)) ∙ h.last))

left_seen : (value : RecordChange → Option (List ℕ)) (f : Write → Option (List ℕ)) (st : Standing) (level : Isolation) (txn : TxnId) (d : ℕ) (x : Name) (o : Option Write) (old : Option (List ℕ)) →
    Gives value f → OwnAreActive st → IsWriteOf d x st.own o → left_by value (last_own d x (seen_changes level st txn.0)) old ≡ over level txn f o old
left_seen value f st ReadUncommitted txn d x None old gives active h = ap (λ (o : Option RecordChange). left_by value o old) (none_of_all d x st.own st.actives h)
left_seen value f st ReadCommitted txn d x None old gives active h = ap (λ (o : Option RecordChange). left_by value o old) (h txn.0)
left_seen value f st RepeatableRead txn d x None old gives active h = ap (λ (o : Option RecordChange). left_by value o old) (h txn.0)
left_seen value f st Serializable txn d x None old gives active h = ap (λ (o : Option RecordChange). left_by value o old) (h txn.0)
left_seen value f st ReadUncommitted txn d x (Some w) old gives active h = left_all value f st d x w old gives active h
left_seen value f st ReadCommitted txn d x (Some w) old gives active h = left_own value f txn d x st.own w old gives h
left_seen value f st RepeatableRead txn d x (Some w) old gives active h = left_own value f txn d x st.own w old gives h
left_seen value f st Serializable txn d x (Some w) old gives active h = left_own value f txn d x st.own w old gives h

-- ---- what a name has

value_mapped : {V W : Type 0} (g : V → W) (x : Name) (cells : List (Name × V)) → value_at x (map (λ e. (e.0, g e.1)) cells) ≡ option_map g (value_at x cells)
value_mapped g x [] = refl
value_mapped {V} {W} g x (e ∷ cells) = by (is_eq (name_cmp x e.0)) (value_mapped g x cells)
  where
    by : (b : Bool) → value_at x (map (λ f. (f.0, g f.1)) cells) ≡ option_map g (value_at x cells) →
        cond b (Some (g e.1)) (value_at x (map (λ f. (f.0, g f.1)) cells)) ≡ option_map g (cond b (Some e.1) (value_at x cells))
    by true rest = refl
    by false rest = rest

rows_rise : (cells : List (Name × Occupied)) → IsRising cells → RowsRise (committed_rows cells)
rows_rise cells up = rising_from_keys (committed_rows cells) (committed_rises cells up)

committed_value : (x : Name) (cells : List (Name × Occupied)) → IsRising cells → value_at x (committed_rows cells) ≡ value_in (value_at x cells)
committed_value x cells up = lookup_is_data x (committed_rows cells) ∙ committed_at x cells up

-- ---- the records that are seen

value_seen : (level : Isolation) (txn : TxnId) (o : Option Occupied) →
    value_in (option_map (λ (o : Occupied). record { value = seen_value level txn o; write = o.write }) o) ≡ over level txn (λ w. w.value) (write_in o) (value_in o)
value_seen level txn None = refl
value_seen level txn (Some o) = by o.write
  where
    by : (w : Option Write) → seen_value level txn (record { value = o.value; write = w }) ≡ over level txn (λ w. w.value) w o.value
    by None = refl
    by (Some w) = refl

rows_seen : (st : Standing) (level : Isolation) (txn : TxnId) (d : ℕ) (cells : AllCells) → IsRising (cells d) → HasWrites cells st.own → OwnAreActive st →
    seen_rows level txn (cells d) ≡ rows_by value_of (of_db d (seen_changes level st txn.0)) (committed_rows (cells d))
rows_seen st level txn d cells up has active =
    same_rows (seen_rows level txn (cells d)) (rows_by value_of (of_db d (seen_changes level st txn.0)) (committed_rows (cells d)))
    (seen_rises level txn (cells d) up) (rises_by value_of (of_db d (seen_changes level st txn.0)) (committed_rows (cells d)) (rows_rise (cells d) up)) each
  where
    each : (q : Name) → value_at q (seen_rows level txn (cells d)) ≡ value_at q (rows_by value_of (of_db d (seen_changes level st txn.0)) (committed_rows (cells d)))
    each q =
        committed_value q (map (seen_cell level txn) (cells d)) (still_rises level txn (cells d) up)
        ∙ ap value_in (value_mapped (λ (o : Occupied). record { value = seen_value level txn o; write = o.write }) q (cells d))
        ∙ value_seen level txn (value_at q (cells d))
        ∙ sym (lookup_is_data q (rows_by value_of (of_db d (seen_changes level st txn.0)) (committed_rows (cells d)))
        ∙ data_by value_of d q (seen_changes level st txn.0) (committed_rows (cells d))
        ∙ ap (left_by value_of (last_own d q (seen_changes level st txn.0))) (committed_at q (cells d) up)
        ∙ left_seen value_of (λ w. w.value) st level txn d q (write_in (value_at q (cells d))) (value_in (value_at q (cells d))) (λ w c e. sym e) active (has d q))

-- ---- as pairs

record AreChanged (kind : Kind) (cs : List RecordChange) (rows : List Row) : Type 0 where
  pairs : map (pair_of kind) (rows_by value_of cs rows) ≡ all_pairs_changed kind cs (map (pair_of kind) rows)
  right : are_right kind (rows_by value_of cs rows) ≡ true

pairs_by : (kind : Kind) (cs : List RecordChange) (rows : List Row) → are_right kind rows ≡ true → AllByRecursion (IsProperChange kind) cs → AreChanged kind cs rows
unfolding rows_by
pairs_by kind [] rows right all = record { pairs = refl; right = right }
pairs_by kind (Set at value ∷ cs) rows right all =
    let rest = pairs_by kind cs (rows_with at (Some value) rows) (right-changed kind rows at (Some value) right all.0) all.1 in
    record { pairs = rest.pairs ∙ ap (all_pairs_changed kind cs) (pairs_with-rows kind rows at value right all.0); right = rest.right }
pairs_by kind (Unset at ∷ cs) rows right all =
    let rest = pairs_by kind cs (rows_with at None rows) (right-changed kind rows at None right tt) all.1 in
    record { pairs = rest.pairs ∙ ap (all_pairs_changed kind cs) (pairs_without-rows kind rows at right all.0); right = rest.right }

abbrev RightIn : ℕ → Kind → (ℕ × RecordChange) → Type 0
RightIn d kind c = c.0 ≡ d → IsProperChange kind c.1

right_of_db : (d : ℕ) (kind : Kind) (own : List (ℕ × RecordChange)) → AllByRecursion (RightIn d kind) own → AllByRecursion (IsProperChange kind) (of_db d own)
right_of_db d kind [] all = tt
right_of_db d kind (c ∷ own) all = by (c.0 == d) refl (right_of_db d kind own all.1)
  where
    by : (b : Bool) → (c.0 == d) ≡ b → AllByRecursion (IsProperChange kind) (of_db d own) → AllByRecursion (IsProperChange kind) (cond b (c.1 ∷ of_db d own) (of_db d own))
    by true e rest = (all.0 (eqb-true c.0 d e), rest)
    by false e rest = rest

right_all : (d : ℕ) (kind : Kind) (own : ℕ → List (ℕ × RecordChange)) (actives : List Active) → AreRightIn d kind own → AllByRecursion (RightIn d kind) (flat_map (λ a. own a.txn.0) actives)
right_all d kind own [] right = tt
right_all d kind own (a ∷ actives) right =
    all_append (RightIn d kind) (own a.txn.0) (flat_map (λ a. own a.txn.0) actives) (right a.txn.0) (right_all d kind own actives right)

right_seen : (d : ℕ) (kind : Kind) (st : Standing) (level : Isolation) (txn : ℕ) → AreRightIn d kind st.own → AllByRecursion (RightIn d kind) (seen_changes level st txn)
right_seen d kind st ReadUncommitted txn right = right_all d kind st.own st.actives right
right_seen d kind st ReadCommitted txn right = right txn
right_seen d kind st RepeatableRead txn right = right txn
right_seen d kind st Serializable txn right = right txn

-- ---- occupied names

-- records without data
abbrev blank : {V : Type 0} → List (Name × V) → List Row
blank es = map (λ e. (e.0, [])) es

keys_filter : (p : Name → Bool) (rows : List Row) → keys_of (filter (λ r. p r.0) rows) ≡ filter p (keys_of rows)
keys_filter p [] = refl
keys_filter p (r ∷ rows) = by (p r.0) ∙ ap (λ (l : List Name). cond (p r.0) (r.0 ∷ l) l) (keys_filter p rows)
  where
    rest : List Row
    rest = filter (λ r. p r.0) rows

    by : (b : Bool) → keys_of (cond b (r ∷ rest) rest) ≡ cond b (r.0 ∷ keys_of rest) (keys_of rest)
    by true = refl
    by false = refl

keys_append : (a b : List Row) → keys_of (a ++ b) ≡ keys_of a ++ keys_of b
keys_append [] b = refl
keys_append (r ∷ a) b = ap (λ (l : List Name). r.0 ∷ l) (keys_append a b)

keys_with : (n : Name) (value : List ℕ) (rows : List Row) → keys_of (rows_with n (Some value) rows) ≡ names_with n (keys_of rows)
keys_with n value rows =
    keys_append (filter (λ r. is_lt (name_cmp r.0 n)) rows) ((n, value) ∷ filter (λ r. is_gt (name_cmp r.0 n)) rows)
    ∙ ap₂ (λ (a b : List Name). a ++ n ∷ b) (keys_filter (λ m. is_lt (name_cmp m n)) rows) (keys_filter (λ m. is_gt (name_cmp m n)) rows)

abbrev to_blank : RecordChange → Option (List ℕ)
to_blank c = Some []

keys_by : (cs : List RecordChange) (rows : List Row) → keys_of (rows_by to_blank cs rows) ≡ names_with_all cs (keys_of rows)
unfolding rows_by
keys_by [] rows = refl
keys_by (c ∷ cs) rows = keys_by cs (rows_with (changed_name c) (Some []) rows) ∙ ap (names_with_all cs) (keys_with (changed_name c) [] rows)

blank_rises : {V : Type 0} (es : List (Name × V)) → IsRising es → RowsRise (blank es)
blank_rises {V} es up =
    let none : V → List ℕ = λ v. [] in
    rising_from_keys (blank es) (subst (IsStrictlySortedBy name_cmp) (sym (keys_of-map_values none es)) up)

occupied_at : (q : Name) (cells : List (Name × Occupied)) → AreOccupied cells → IfSome (value_at q cells) (λ o. is_occupied o ≡ true)
occupied_at q [] all = tt
occupied_at q (e ∷ cells) all = by (is_eq (name_cmp q e.0)) (occupied_at q cells all.1)
  where
    by : (b : Bool) → IfSome (value_at q cells) (λ o. is_occupied o ≡ true) → IfSome (cond b (Some e.1) (value_at q cells)) (λ o. is_occupied o ≡ true)
    by true rest = all.0
    by false rest = rest

-- a name is occupied by its data or by its change
blank_at : (txn : TxnId) (o : Option Occupied) → IfSome o (λ o. is_occupied o ≡ true) →
    option_map (λ (o : Occupied). let none : List ℕ = [] in none) o ≡ over ReadUncommitted txn (λ w. Some []) (write_in o) (option_map (λ (v : List ℕ). let none : List ℕ = [] in none) (value_in o))
blank_at txn None h = refl
blank_at txn (Some o) h = by o.value o.write h
  where
    nothing : List ℕ
    nothing = []

    by : (v : Option (List ℕ)) (w : Option Write) → (is_some v || is_some w) ≡ true → Some nothing ≡ over ReadUncommitted txn (λ w. Some []) w (option_map (λ (v : List ℕ). nothing) v)
    by (Some v) None e = refl
    by v (Some w) e = refl
    by None None e = absurd cc

blank_seen : (st : Standing) (txn : TxnId) (d : ℕ) (cells : AllCells) → IsRising (cells d) → AreOccupied (cells d) → HasWrites cells st.own → OwnAreActive st →
    blank (cells d) ≡ rows_by to_blank (of_db d (all_own st)) (blank (committed_rows (cells d)))
blank_seen st txn d cells up full has active =
    same_rows (blank (cells d)) (rows_by to_blank (of_db d (all_own st)) (blank (committed_rows (cells d))))
    (blank_rises (cells d) up) (rises_by to_blank (of_db d (all_own st)) (blank (committed_rows (cells d))) (blank_rises (committed_rows (cells d)) (committed_rises (cells d) up))) each
  where
    old : Name → Option Occupied
    old q = value_at q (cells d)

    committed_blank : (q : Name) → data_at q (blank (committed_rows (cells d))) ≡ option_map (λ (v : List ℕ). let none : List ℕ = [] in none) (value_in (old q))
    committed_blank q =
        sym (lookup_is_data q (blank (committed_rows (cells d)))) ∙ value_mapped (λ (v : List ℕ). let none : List ℕ = [] in none) q (committed_rows (cells d))
        ∙ ap (option_map (λ (v : List ℕ). let none : List ℕ = [] in none)) (committed_value q (cells d) up)

    each : (q : Name) → value_at q (blank (cells d)) ≡ value_at q (rows_by to_blank (of_db d (all_own st)) (blank (committed_rows (cells d))))
    each q =
        value_mapped (λ (o : Occupied). let none : List ℕ = [] in none) q (cells d)
        ∙ blank_at txn (old q) (occupied_at q (cells d) full)
        ∙ sym (lookup_is_data q (rows_by to_blank (of_db d (all_own st)) (blank (committed_rows (cells d))))
        ∙ data_by to_blank d q (all_own st) (blank (committed_rows (cells d)))
        ∙ ap (left_by to_blank (last_own d q (all_own st))) (committed_blank q)
        ∙ left_seen to_blank (λ w. Some []) st ReadUncommitted txn d q (write_in (old q)) (option_map (λ (v : List ℕ). let none : List ℕ = [] in none) (value_in (old q))) (λ w c e. refl) active (has d q))

-- the names of pairs are those of their records
names_of_pairs : (kind : Kind) (rows : List Row) → AllByRecursion (λ r. name_of kind (pair_of kind r) ≡ r.0) rows → map (name_of kind) (map (pair_of kind) rows) ≡ keys_of rows
names_of_pairs kind [] all = refl
names_of_pairs kind (r ∷ rows) all = ap₂ (λ (n : Name) (l : List Name). n ∷ l) all.0 (names_of_pairs kind rows all.1)

names_seen : (st : Standing) (txn : TxnId) (g : Target) (cells : AllCells) → AreCellsOf st g cells → keys_of (cells g.db) ≡ occupied st g
names_seen st txn g cells h =
    let none : Occupied → List ℕ = λ o. [] in
    let gone : List ℕ → List ℕ = λ v. [] in
    sym (keys_of-map_values none (cells g.db))
    ∙ ap (λ (l : List Row). keys_of l) (blank_seen st txn g.db cells h.rising h.occupied h.writes h.own_active)
    ∙ keys_by (of_db g.db (all_own st)) (blank (committed_rows (cells g.db)))
    ∙ ap (names_with_all (of_db g.db (all_own st)))
    (keys_of-map_values gone (committed_rows (cells g.db))
    ∙ sym (names_of_pairs g.database.kind (committed_rows (cells g.db)) (each_right g.database.kind (committed_rows (cells g.db)) h.right))
    ∙ ap (map (name_of g.database.kind)) h.pairs)

-- ---- together

pub views-are_seen : ViewsAreSeen
views-are_seen st a g cells h =
    let kind : Kind = g.database.kind in
    let changes : List RecordChange = of_db g.db (seen_changes a.level st a.txn.0) in
    let same = rows_seen st a.level a.txn g.db cells h.rising h.writes h.own_active in
    let changed = pairs_by kind changes (committed_rows (cells g.db)) h.right (right_of_db g.db kind (seen_changes a.level st a.txn.0) (right_seen g.db kind st a.level a.txn.0 h.own_right)) in
    record {
      right = ap (are_right kind) same ∙ changed.right;
      pairs = ap (map (pair_of kind)) same ∙ changed.pairs ∙ ap (all_pairs_changed kind changes) h.pairs;
      names = names_seen st a.txn g cells h;
    }
