-- A map with an index more, or less.
use Rattle.std.proofs.Common.{◌≡◌, ℕ, ◌+◌, ◌<◌, ◌==◌, take, drop, get_or, length, nat_lt, Less, Equal, Greater, arith, Bool, true, false, cond, List, [], ◌∷◌, ◌++◌, Option, None, Some, map, option_map, not, refl, sym, ap, ◌∙◌, subst}
use Rattle.std.specs.Ordering.{nat_cmp, is_eq}
use Rattle.std.specs.BTreeMap.{get, is_at}
use Rattle.std.specs.Map.{lookup}
use Rattle.std.specs.Option.{IfNone}
use Rattle.std.specs.List.{list_any}
use Rattle.std.proofs.lemmas.Bool.{cond-true, cond-false, ltb-true, eqb-true, eq-eqb, ne_eqb, and_parts, both_ways, or_left, or_right}
use Rattle.std.proofs.lemmas.Option.{none-some}
use Rattle.store_model.specs.declared.extract.Extract.{Extract}
use Rattle.log_replay.specs.Rows.{Row, catalog_number, catalog_index, row_numbered, are_distinct}
use Rattle.index_map.specs.declared.found_index.FoundIndex.{FoundIndex}
use Rattle.index_map.specs.declared.index_map.IndexMap.{IndexMap}
use Rattle.index_map.specs.Made.{Made, made_in, index_by, with_made, with_index, without, AreIndexesOf}
use Rattle.index_map.specs.Map.{list_at, HasIndexes}
use Rattle.record_tree.specs.declared.record_ref.RecordRef.{RecordRef}
use Rattle.record_tree.specs.Stored.{lent}
use Rattle.std.proofs.lemmas.List.{drop_more, take_more, take-append-drop, map-append}
use Rattle.index_map.proofs.SortedLaws.{added, removed, same_made}

-- the same map, whose fields are other values
pub same_map : (made : Made) (old new : IndexMap) → HasIndexes made old → ((n : ℕ) → get nat_cmp new.primaries n ≡ get nat_cmp old.primaries n) → ((n : ℕ) → list_at new.indexes n ≡ list_at old.indexes n) → HasIndexes made new
same_map made old new has primaries indexes = record {
  primaries = λ n. primaries n ∙ has.primaries n;
  indexes = λ n. subst (AreIndexesOf made n) (sym (indexes n)) (has.indexes n);
}

-- a number is at the place of itself alone
pub is_number : (n q : ℕ) → is_eq (nat_cmp n q) ≡ (n == q)
is_number n q = by (nat_lt n q) refl (n == q) refl
  where
    by : (low : Bool) → nat_lt n q ≡ low → (b : Bool) → (n == q) ≡ b → is_eq (cond low Less (cond b Equal Greater)) ≡ b
    by true l true e = let lt : n < q = ltb-true n q l in let eq : n ≡ q = eqb-true n q e in absurd (omega arith)
    by true l false e = refl
    by false l true e = refl
    by false l false e = refl

pub updated : {X : Type 0} (n : ℕ) (w : Option X) (old new : ℕ → Option X) → ((q : ℕ) → new q ≡ cond (is_eq (nat_cmp n q)) w (old q)) → (q : ℕ) → new q ≡ cond (n == q) w (old q)
updated n w old new is q = is q ∙ ap (λ (b : Bool). cond b w (old q)) (is_number n q)

-- one put in and taken out again
pub taken_back : (made : Made) (old new : IndexMap) (mid : ℕ → Option ℕ) (number over : ℕ) → HasIndexes made old → made number ≡ None → ((q : ℕ) → mid q ≡ cond (is_eq (nat_cmp number q)) (Some over) (get nat_cmp old.primaries q)) →
    ((q : ℕ) → get nat_cmp new.primaries q ≡ cond (is_eq (nat_cmp number q)) None (mid q)) → ((n : ℕ) → list_at new.indexes n ≡ list_at old.indexes n) → HasIndexes made new
taken_back made old new mid number over has none first second indexes = same_map made old new has same indexes
  where
    same : (q : ℕ) → get nat_cmp new.primaries q ≡ get nat_cmp old.primaries q
    same q = updated number None mid (λ n. get nat_cmp new.primaries n) second q ∙ by (number == q) refl
      where
        by : (b : Bool) → (number == q) ≡ b → cond b None (mid q) ≡ get nat_cmp old.primaries q
        by true e = sym (has.primaries q ∙ ap (λ (n : ℕ). option_map (λ (m : ℕ × Extract). m.0) (made n)) (sym (eqb-true number q e)) ∙ ap (option_map (λ (m : ℕ × Extract). m.0)) none)
        by false e = first q ∙ ap (λ (b : Bool). cond b (Some over) (get nat_cmp old.primaries q)) (is_number number q ∙ e)

-- the map has what is made alike
pub alike : (made other : Made) (map : IndexMap) → ((n : ℕ) → other n ≡ made n) → HasIndexes made map → HasIndexes other map
alike made other map same has = record {
  primaries = λ n. has.primaries n ∙ ap (option_map (λ (m : ℕ × Extract). m.0)) (sym (same n));
  indexes = λ n. same_made made other n (list_at map.indexes n) same (has.indexes n);
}

picked_primary : (b : Bool) (o : Option (ℕ × Extract)) (p : Option (ℕ × Extract)) →
    cond b (option_map (λ (m : ℕ × Extract). m.0) o) (option_map (λ (m : ℕ × Extract). m.0) p) ≡ option_map (λ (m : ℕ × Extract). m.0) (cond b o p)
picked_primary true o p = refl
picked_primary false o p = refl

-- one more
pub map_added : (made : Made) (old new : IndexMap) (over : ℕ) (i : FoundIndex) → HasIndexes made old → made i.number ≡ None →
    ((n : ℕ) → get nat_cmp new.primaries n ≡ cond (i.number == n) (Some over) (get nat_cmp old.primaries n)) →
    ((n : ℕ) → list_at new.indexes n ≡ cond (n == over) (with_index i (list_at old.indexes over)) (list_at old.indexes n)) → HasIndexes (with_made i.number (Some (over, i.extract)) made) new
map_added made old new over i has none primaries indexes = record {
  primaries = λ n. primaries n ∙ ap (cond (i.number == n) (Some over)) (has.primaries n) ∙ picked_primary (i.number == n) (Some (over, i.extract)) (made n);
  indexes = λ n. subst (AreIndexesOf (with_made i.number (Some (over, i.extract)) made) n) (sym (indexes n ∙ at n)) (added made n over i (list_at old.indexes n) none (has.indexes n));
}
  where
    at : (n : ℕ) → cond (n == over) (with_index i (list_at old.indexes over)) (list_at old.indexes n) ≡ cond (n == over) (with_index i (list_at old.indexes n)) (list_at old.indexes n)
    at n = by (n == over) refl
      where
        by : (b : Bool) → (n == over) ≡ b → cond b (with_index i (list_at old.indexes over)) (list_at old.indexes n) ≡ cond b (with_index i (list_at old.indexes n)) (list_at old.indexes n)
        by true e = ap (λ (m : ℕ). with_index i (list_at old.indexes m)) (sym (eqb-true n over e))
        by false e = refl

-- one less
pub map_removed : (made : Made) (old new : IndexMap) (over number : ℕ) → HasIndexes made old → get nat_cmp old.primaries number ≡ Some over →
    ((n : ℕ) → get nat_cmp new.primaries n ≡ cond (number == n) None (get nat_cmp old.primaries n)) →
    ((n : ℕ) → list_at new.indexes n ≡ cond (n == over) (without number (list_at old.indexes over)) (list_at old.indexes n)) → HasIndexes (with_made number None made) new
map_removed made old new over number has there primaries indexes = record {
  primaries = λ n. primaries n ∙ ap (cond (number == n) None) (has.primaries n) ∙ picked_primary (number == n) None (made n);
  indexes = λ n. subst (AreIndexesOf (with_made number None made) n) (sym (indexes n ∙ at n)) (removed made n over number (list_at old.indexes n) (sym (has.primaries number) ∙ there) (has.indexes n));
}
  where
    at : (n : ℕ) → cond (n == over) (without number (list_at old.indexes over)) (list_at old.indexes n) ≡ cond (n == over) (without number (list_at old.indexes n)) (list_at old.indexes n)
    at n = by (n == over) refl
      where
        by : (b : Bool) → (n == over) ≡ b → cond b (without number (list_at old.indexes over)) (list_at old.indexes n) ≡ cond b (without number (list_at old.indexes n)) (list_at old.indexes n)
        by true e = ap (λ (m : ℕ). without number (list_at old.indexes m)) (sym (eqb-true n over e))
        by false e = refl

not_made : (o : Option (ℕ × Extract)) → option_map (λ (m : ℕ × Extract). m.0) o ≡ None → o ≡ None
not_made None h = refl
not_made (Some m) h = absurd cc

-- without one that is none, all is as before
pub none_removed : (made : Made) (map : IndexMap) (number : ℕ) → HasIndexes made map → get nat_cmp map.primaries number ≡ None → HasIndexes (with_made number None made) map
none_removed made map number has none = alike made (with_made number None made) map same has
  where
    same : (n : ℕ) → cond (number == n) None (made n) ≡ made n
    same n = by (number == n) refl
      where
        by : (b : Bool) → (number == n) ≡ b → cond b None (made n) ≡ made n
        by true e = sym (ap made (sym (eqb-true number n e)) ∙ not_made (made number) (sym (has.primaries number) ∙ none))
        by false e = refl

-- the same where the map of primaries was left alone
pub same_entries : (made : Made) (old new : IndexMap) (number : ℕ) (taken : Option ℕ) → HasIndexes made old → taken ≡ None → taken ≡ get nat_cmp old.primaries number → IfNone taken (new.primaries.entries ≡ old.primaries.entries) →
    ((n : ℕ) → list_at new.indexes n ≡ list_at old.indexes n) → HasIndexes (with_made number None made) new
same_entries made old new number taken has none is same indexes =
    same_map (with_made number None made) old new (none_removed made old number has (sym is ∙ none))
    (λ n. ap (λ (es : List (ℕ × ℕ)). lookup (is_at (nat_cmp n)) es) (left taken none same)) indexes
  where
    left : (o : Option ℕ) → o ≡ None → IfNone o (new.primaries.entries ≡ old.primaries.entries) → new.primaries.entries ≡ old.primaries.entries
    left None e h = h
    left (Some x) e h = absurd (none-some x (sym e))

-- where nothing is made
pub unmade : (made : Made) (number : ℕ) (index : Option (ℕ × Extract)) → made number ≡ None → index ≡ None → (n : ℕ) → with_made number index made n ≡ made n
unmade made number index none is n = ap (λ (o : Option (ℕ × Extract)). cond (number == n) o (made n)) is ∙ by (number == n) refl
  where
    by : (b : Bool) → (number == n) ≡ b → cond b None (made n) ≡ made n
    by true e = sym (ap made (sym (eqb-true number n e)) ∙ none)
    by false e = refl

-- ---- catalog records

-- a record with a number of its own behind others
behind_none : (n : ℕ) (rows : List Row) (r : Row) → row_numbered n rows ≡ None → row_numbered n (rows ++ r ∷ []) ≡ row_numbered n (r ∷ [])
behind_none n [] r none = refl
behind_none n (x ∷ rows) r none = by (catalog_number x.1 == n) none (behind_none n rows r)
  where
    by : (b : Bool) → cond b (Some x) (row_numbered n rows) ≡ None → (row_numbered n rows ≡ None → row_numbered n (rows ++ r ∷ []) ≡ row_numbered n (r ∷ [])) →
        cond b (Some x) (row_numbered n (rows ++ r ∷ [])) ≡ row_numbered n (r ∷ [])
    by true h rest = absurd (none-some x (sym h))
    by false h rest = rest h

behind_some : (n : ℕ) (rows : List Row) (r : Row) → (catalog_number r.1 == n) ≡ false → row_numbered n (rows ++ r ∷ []) ≡ row_numbered n rows
behind_some n [] r other = cond-false (catalog_number r.1 == n) (Some r) None other
behind_some n (x ∷ rows) r other = ap (λ (o : Option Row). cond (catalog_number x.1 == n) (Some x) o) (behind_some n rows r other)

pub made_behind : (rows : List Row) (r : Row) → row_numbered (catalog_number r.1) rows ≡ None → (n : ℕ) → made_in (rows ++ r ∷ []) n ≡ with_made (catalog_number r.1) (catalog_index r.1) (made_in rows) n
made_behind rows r none n = by (catalog_number r.1 == n) refl
  where
    by : (b : Bool) → (catalog_number r.1 == n) ≡ b → index_by (row_numbered n (rows ++ r ∷ [])) ≡ cond b (catalog_index r.1) (made_in rows n)
    by true e =
        ap index_by (behind_none n rows r (ap (λ (m : ℕ). row_numbered m rows) (sym (eqb-true (catalog_number r.1) n e)) ∙ none) ∙ cond-true (catalog_number r.1 == n) (Some r) None e)
    by false e = ap index_by (behind_some n rows r e)

-- ---- a walk over catalog records

-- the number of a record that others with numbers of their own follow is new to those before it
pub new_behind : (before : List Row) (r : Row) (behind : List Row) → are_distinct (map (λ (x : Row). catalog_number x.1) (before ++ r ∷ behind)) ≡ true → row_numbered (catalog_number r.1) before ≡ None
new_behind [] r behind distinct = refl
new_behind (x ∷ before) r behind distinct =
    cond-false (catalog_number x.1 == catalog_number r.1) (Some x) (row_numbered (catalog_number r.1) before) (ne_eqb (catalog_number x.1) (catalog_number r.1) (λ e. not_among e))
    ∙ new_behind before r behind parts.1
  where
    numbers : List ℕ
    numbers = map (λ (y : Row). catalog_number y.1) (before ++ r ∷ behind)

    parts : (not (list_any (λ m. m == catalog_number x.1) numbers) ≡ true) × (are_distinct numbers ≡ true)
    parts = and_parts (not (list_any (λ m. m == catalog_number x.1) numbers)) (are_distinct numbers) distinct

    among : (l : List Row) → list_any (λ m. m == catalog_number r.1) (map (λ (y : Row). catalog_number y.1) (l ++ r ∷ behind)) ≡ true
    among [] = or_left (catalog_number r.1 == catalog_number r.1) (list_any (λ m. m == catalog_number r.1) (map (λ (y : Row). catalog_number y.1) behind)) (eq-eqb (catalog_number r.1) (catalog_number r.1) refl)
    among (y ∷ l) = or_right (catalog_number y.1 == catalog_number r.1) (list_any (λ m. m == catalog_number r.1) (map (λ (z : Row). catalog_number z.1) (l ++ r ∷ behind))) (among l)

    not_true : (b : Bool) → not b ≡ true → b ≡ false
    not_true true h = absurd cc
    not_true false h = refl

    not_among : catalog_number x.1 ≡ catalog_number r.1 → ⊥
    not_among e =
        both_ways (list_any (λ m. m == catalog_number r.1) numbers)
        (ap (λ (n : ℕ). list_any (λ m. m == n) numbers) (sym e) ∙ not_true (list_any (λ m. m == catalog_number x.1) numbers) parts.0) (among before)

-- one record more is read
pub read_more : (records : List RecordRef) (i : ℕ) (r : RecordRef) (old new : IndexMap) → i < length records → r ≡ get_or records i r →
    (are_distinct (map (λ (x : Row). catalog_number x.1) (lent records)) ≡ true → HasIndexes (made_in (lent (take i records))) old) →
    ((made : Made) → HasIndexes made old → made (catalog_number r.value.now) ≡ None → HasIndexes (with_made (catalog_number r.value.now) (catalog_index r.value.now) made) new) →
    are_distinct (map (λ (x : Row). catalog_number x.1) (lent records)) ≡ true → HasIndexes (made_in (lent (take (i + 1) records))) new
read_more records i r old new within is has add distinct =
    let row : Row = (r.name.now, r.value.now) in
    let before : List Row = lent (take i records) in
    let one : List RecordRef → List RecordRef → List RecordRef = λ l m. l ++ m in
    let parts : lent records ≡ before ++ row ∷ lent (drop (i + 1) records) =
    ap lent (sym (take-append-drop i records) ∙ ap (one (take i records)) (drop_more records i r within ∙ ap (λ (x : RecordRef). x ∷ drop (i + 1) records) (sym is)))
    ∙ map-append (λ (x : RecordRef). (x.name.now, x.value.now)) (take i records) (r ∷ drop (i + 1) records) in
    let new_number : row_numbered (catalog_number row.1) before ≡ None =
    new_behind before row (lent (drop (i + 1) records)) (subst (λ (l : List Row). are_distinct (map (λ (x : Row). catalog_number x.1) l) ≡ true) parts distinct) in
    let next : lent (take (i + 1) records) ≡ before ++ row ∷ [] =
    ap lent (take_more records i r within ∙ ap (λ (x : RecordRef). take i records ++ x ∷ []) (sym is)) ∙ map-append (λ (x : RecordRef). (x.name.now, x.value.now)) (take i records) (r ∷ []) in
    subst (λ (l : List Row). HasIndexes (made_in l) new) (sym next)
    (alike (with_made (catalog_number row.1) (catalog_index row.1) (made_in before)) (made_in (before ++ row ∷ [])) new (made_behind before row new_number)
    (add (made_in before) (has distinct) (ap index_by new_number)))
