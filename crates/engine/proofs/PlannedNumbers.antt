-- Which databases the catalog names after planned changes, and that calls plan such changes.
use Rattle.std.proofs.Common.{◌≡◌, ◌≢◌, ℕ, ◌+◌, ◌<◌, ◌==◌, ◌||◌, nat_lt, Bool, true, false, cond, List, [], ◌∷◌, Option, None, Some, map, is_eq, refl, sym, ap, subst, ◌∙◌, arith, ⊎_elim, ◌⊎◌, inl, inr}
use Rattle.std.specs.Prelude.{◌&&◌}
use Rattle.std.specs.List.{AllByRecursion, list_any}
use Rattle.std.proofs.lemmas.Bool.{true≢false, eqb-true, eq-eqb, ne_eqb, ltb-true, lt-ltb, cond-true, cond-false, cases_Bool, cases_eq, and_parts, and_from, or_cases, or_left, or_right}
use Rattle.std.proofs.lemmas.Map.Lookups.{exact_bytes}
use Rattle.je_order.specs.Order.{bytes_cmp, is_same_bytes}
use Rattle.je_order.proofs.Orderings.{equal_from_test}
use Rattle.node_core.proofs.NameOrder.{itself}
use Rattle.store_model.specs.declared.change.Change.{Change}
use Rattle.store_model.specs.declared.change.Change.TheVariants.{Set, Unset, Make, MakeIndex, Remove, Rename, Empty}
use Rattle.store_model.specs.Evaluation.{plain_name}
use Rattle.store_model.specs.Refusals.{made_by}
use Rattle.log_replay.specs.Rows.{Row, Rows, catalog_number, numbers_of, IsRising}
use Rattle.log_replay.specs.Logging.{number_named}
use Rattle.log_replay.specs.Kept.{MayBeLogged, IsRecordChange, with_number, numbered, all_numbered}
use Rattle.log_replay.proofs.RowLaws.{name_cmp-plain}
use Rattle.log_replay.proofs.StoreLaws.{IsEnvironment, number_of_row, row_named, named-among}
use Rattle.log_replay.proofs.LoggedLaws.{IsSound, number-within}
use Rattle.record_tree.specs.declared.tree_change.TreeChange.{TreeChange}
use Rattle.record_tree.specs.Logged.{is_made}
use Rattle.txn_core.specs.Known.{has_number}
use Rattle.txn_core.specs.Planning.{gone_by}
use Rattle.engine.specs.Contents.{rows_after}
use Rattle.txn_core.specs.Transactions.{is_gone}
use Rattle.engine.proofs.PlannedRows.{ArePlanned, each_named, apart_named, planned_rows}

-- ---- numbers and names

-- a number of a name is in the catalog
named_is : (rows : Rows) (name : List ℕ) (d : ℕ) → d ≢ 0 → number_named rows name ≡ d → has_number (numbers_of rows) d ≡ true
named_is rows name d above is =
    let row = row_named rows name (λ e. above (sym is ∙ e)) in
    or_right (d == 0) (list_any (λ n. n == d) (numbers_of rows))
    (subst (λ (m : ℕ). list_any (λ n. n == m) (numbers_of rows) ≡ true) (row.2 ∙ is) (named-among rows name row.0 row.1))

any_named : (rows : Rows) (d : ℕ) (l : List Row) → AllByRecursion (λ r. number_named rows r.0.key ≡ catalog_number r.1) l → list_any (λ n. n == d) (map number_of_row l) ≡ true →
    (name : List ℕ) × (number_named rows name ≡ d)
any_named rows d [] all any = absurd (true≢false (sym any))
any_named rows d (r ∷ l) all any =
    ⊎_elim
    (λ (e : (catalog_number r.1 == d) ≡ true). (r.0.key, all.0 ∙ eqb-true (catalog_number r.1) d e))
    (λ (e : list_any (λ n. n == d) (map number_of_row l) ≡ true). any_named rows d l all.1 e)
    (or_cases (catalog_number r.1 == d) (list_any (λ n. n == d) (map number_of_row l)) any)

-- and a number in the catalog is that of a name
named_by : (rows : Rows) (d : ℕ) → IsEnvironment rows → IsRising (rows 0) → d ≢ 0 → has_number (numbers_of rows) d ≡ true → (name : List ℕ) × (number_named rows name ≡ d)
named_by rows d env up above has =
    ⊎_elim
    (λ (e : (d == 0) ≡ true). absurd (above (eqb-true d 0 e)))
    (λ (e : list_any (λ n. n == d) (numbers_of rows) ≡ true). any_named rows d (rows 0) (each_named rows env up) e)
    (or_cases (d == 0) (list_any (λ n. n == d) (numbers_of rows)) has)

same_itself : (name : List ℕ) → is_same_bytes name name ≡ true
same_itself name = ap is_eq (sym (name_cmp-plain (plain_name name) name refl) ∙ itself (plain_name name))

same_is : (a b : List ℕ) → is_same_bytes a b ≡ true → a ≡ b
same_is a b same = exact_bytes a b (equal_from_test (bytes_cmp a b) same)

with_here : (name : List ℕ) (n : ℕ) (numbers : List ℕ → ℕ) (other : List ℕ) → is_same_bytes other name ≡ true → with_number name n numbers other ≡ n
with_here name n numbers other same = cond-true (is_same_bytes other name) n (numbers other) same

with_there : (name : List ℕ) (n : ℕ) (numbers : List ℕ → ℕ) (other : List ℕ) → is_same_bytes other name ≡ false → with_number name n numbers other ≡ numbers other
with_there name n numbers other differ = cond-false (is_same_bytes other name) n (numbers other) differ

-- ---- one change

-- which numbers there are after a change: one that was there before, or the one that is allocated; and one of those that were there goes
record NumbersChange (last_db now : ℕ) (gone : Option ℕ) (old new : List ℕ → ℕ) : Type 0 where
  forth : (name : List ℕ) → new name ≢ 0 → (is_gone (new name) gone ≡ false) × (((last_db < now) × (new name ≡ now)) ⊎ ((other : List ℕ) × (old other ≡ new name)))
  back : (name : List ℕ) → old name ≢ 0 → is_gone (old name) gone ≡ false → (other : List ℕ) × (new other ≡ old name)
  made : last_db < now → (name : List ℕ) × (new name ≡ now)

-- where no number changes
numbers_stay : (last_db now : ℕ) (numbers : List ℕ → ℕ) → now ≡ last_db → NumbersChange last_db now None numbers numbers
numbers_stay last_db now numbers same = record { forth = λ name has. (refl, inr (name, refl)); back = λ name has stays. (name, refl); made = λ lt. absurd (omega (arith, same, lt)) }

-- a name that had no number gets the next one
number_made : (last_db : ℕ) (db : List ℕ) (numbers : List ℕ → ℕ) → numbers db ≡ 0 → NumbersChange last_db (last_db + 1) None numbers (with_number db (last_db + 1) numbers)
number_made last_db db numbers none = record {
  forth = λ name has.
      ⊎_elim
      (λ (same : is_same_bytes name db ≡ true). (refl, inl (omega arith, with_here db (last_db + 1) numbers name same)))
      (λ (differ : is_same_bytes name db ≡ false). (refl, inr (name, sym (with_there db (last_db + 1) numbers name differ))))
      (cases_Bool (is_same_bytes name db));
  back = λ name has stays.
      ⊎_elim
      (λ (same : is_same_bytes name db ≡ true). absurd (has (ap numbers (same_is name db same) ∙ none)))
      (λ (differ : is_same_bytes name db ≡ false). (name, with_there db (last_db + 1) numbers name differ))
      (cases_Bool (is_same_bytes name db));
  made = λ lt. (db, with_here db (last_db + 1) numbers db (same_itself db));
}

-- the number of a name goes, and it has none, or a later one
number_replaced : (rows : Rows) (last_db now next : ℕ) (db : List ℕ) → IsSound rows last_db → number_named rows db ≢ 0 → ((next ≡ 0) × (now ≡ last_db)) ⊎ ((next ≡ now) × (now ≡ last_db + 1)) →
    NumbersChange last_db now (Some (number_named rows db)) (number_named rows) (with_number db next (number_named rows))
number_replaced rows last_db now next db sound there which = record {
  forth = λ name has.
      ⊎_elim
      (λ (same : is_same_bytes name db ≡ true). here name has (with_here db next (number_named rows) name same) which)
      (λ (differ : is_same_bytes name db ≡ false).
      let is : with_number db next (number_named rows) name ≡ number_named rows name = with_there db next (number_named rows) name differ in (
        ap (λ (n : ℕ). n == number_named rows db) is ∙ ne_eqb (number_named rows name) (number_named rows db) (apart name differ),
        inr (name, sym is),
      ))
      (cases_Bool (is_same_bytes name db));
  back = λ name has stays.
      ⊎_elim
      (λ (same : is_same_bytes name db ≡ true). absurd (true≢false (sym (eq-eqb (number_named rows name) (number_named rows db) (ap (number_named rows) (same_is name db same))) ∙ stays)))
      (λ (differ : is_same_bytes name db ≡ false). (name, with_there db next (number_named rows) name differ))
      (cases_Bool (is_same_bytes name db));
  made = λ lt.
      ⊎_elim
      (λ (none : (next ≡ 0) × (now ≡ last_db)). let same : now ≡ last_db = none.1 in absurd (omega (arith, same, lt)))
      (λ (later : (next ≡ now) × (now ≡ last_db + 1)). (db, with_here db next (number_named rows) db (same_itself db) ∙ later.0))
      which;
} where
  apart : (name : List ℕ) → is_same_bytes name db ≡ false → number_named rows name ≢ number_named rows db
  apart name differ same = true≢false (sym (apart_named rows last_db db name sound there same) ∙ differ)

  here : (name : List ℕ) → with_number db next (number_named rows) name ≢ 0 → with_number db next (number_named rows) name ≡ next →
      ((next ≡ 0) × (now ≡ last_db)) ⊎ ((next ≡ now) × (now ≡ last_db + 1)) →
      (is_gone (with_number db next (number_named rows) name) (Some (number_named rows db)) ≡ false)
      × (((last_db < now) × (with_number db next (number_named rows) name ≡ now)) ⊎ ((other : List ℕ) × (number_named rows other ≡ with_number db next (number_named rows) name)))
  here name has is (inl none) = absurd (has (is ∙ none.0))
  here name has is (inr later) =
      let low = number-within rows last_db db sound there in
      let at : now ≡ last_db + 1 = later.1 in (
        ap (λ (n : ℕ). n == number_named rows db) (is ∙ later.0) ∙ ne_eqb now (number_named rows db) (λ e. absurd (omega (arith, e, low, at))),
        inl (omega (arith, at), is ∙ later.0),
      )

-- another name gets the number of a name
number_moved : (last_db now : ℕ) (db to : List ℕ) (numbers : List ℕ → ℕ) → now ≡ last_db → numbers to ≡ 0 → NumbersChange last_db now None numbers (with_number to (numbers db) (with_number db 0 numbers))
number_moved last_db now db to numbers same_now none = record {
  forth = λ name has. (refl, inr (forth name has (cases_Bool (is_same_bytes name to)) (cases_Bool (is_same_bytes name db))));
  back = λ name has stays. back name has (cases_Bool (is_same_bytes name db)) (cases_Bool (is_same_bytes name to));
  made = λ lt. absurd (omega (arith, same_now, lt));
} where
  rest : List ℕ → ℕ
  rest = with_number db 0 numbers

  new : List ℕ → ℕ
  new = with_number to (numbers db) rest

  forth : (name : List ℕ) → with_number to (numbers db) (with_number db 0 numbers) name ≢ 0 → (is_same_bytes name to ≡ true) ⊎ (is_same_bytes name to ≡ false) →
      (is_same_bytes name db ≡ true) ⊎ (is_same_bytes name db ≡ false) → (other : List ℕ) × (numbers other ≡ with_number to (numbers db) (with_number db 0 numbers) name)
  forth name has (inl same) other = (db, sym (with_here to (numbers db) (with_number db 0 numbers) name same))
  forth name has (inr differ) (inl same) =
      absurd (has (with_there to (numbers db) (with_number db 0 numbers) name differ ∙ with_here db 0 numbers name same))
  forth name has (inr differ) (inr apart) =
      (name, sym (with_there to (numbers db) (with_number db 0 numbers) name differ ∙ with_there db 0 numbers name apart))

  back : (name : List ℕ) → numbers name ≢ 0 → (is_same_bytes name db ≡ true) ⊎ (is_same_bytes name db ≡ false) → (is_same_bytes name to ≡ true) ⊎ (is_same_bytes name to ≡ false) →
      (other : List ℕ) × (with_number to (numbers db) (with_number db 0 numbers) other ≡ numbers name)
  back name has (inl same) other = (to, with_here to (numbers db) (with_number db 0 numbers) to (same_itself to) ∙ ap numbers (sym (same_is name db same)))
  back name has (inr apart) (inl same) = absurd (has (ap numbers (same_is name to same) ∙ none))
  back name has (inr apart) (inr differ) =
      (name, with_there to (numbers db) (with_number db 0 numbers) name differ ∙ with_there db 0 numbers name apart)

numbers_change : (change : Change) (rows : Rows) (last_db : ℕ) → IsSound rows last_db → MayBeLogged rows last_db change →
    NumbersChange last_db (last_db + made_by (change ∷ [])) (gone_by rows change) (number_named rows) (numbered change last_db (number_named rows))
numbers_change (Set db at value) rows last_db sound may = numbers_stay last_db (last_db + 0) (number_named rows) (omega arith)
numbers_change (Unset db at) rows last_db sound may = numbers_stay last_db (last_db + 0) (number_named rows) (omega arith)
numbers_change (Make db kind) rows last_db sound may = number_made last_db db (number_named rows) may.0
numbers_change (MakeIndex db index) rows last_db sound may = number_made last_db db (number_named rows) may.0
numbers_change (Remove db) rows last_db sound may = number_replaced rows last_db (last_db + 0) 0 db sound may.0 (inl (refl, omega arith))
numbers_change (Rename db to) rows last_db sound may = number_moved last_db (last_db + 0) db to (number_named rows) (omega arith) may.1
numbers_change (Empty db) rows last_db sound may = number_replaced rows last_db (last_db + 1) (last_db + 1) db sound may.0 (inr (refl, refl))

-- ---- all changes

-- changes of records allocate no number of a database
records_make_none : (changes : List Change) → AllByRecursion IsRecordChange changes → made_by changes ≡ 0
records_make_none [] are = refl
records_make_none (Set db at value ∷ changes) are = records_make_none changes are.1
records_make_none (Unset db at ∷ changes) are = records_make_none changes are.1
records_make_none (Make db kind ∷ changes) are = absurd are.0
records_make_none (MakeIndex db index ∷ changes) are = absurd are.0
records_make_none (Remove db ∷ changes) are = absurd are.0
records_make_none (Rename db to ∷ changes) are = absurd are.0
records_make_none (Empty db ∷ changes) are = absurd are.0

first_makes : (change : Change) (more : List Change) → AllByRecursion IsRecordChange more → made_by (change ∷ more) ≡ made_by (change ∷ [])
first_makes (Set db at value) more are = records_make_none more are
first_makes (Unset db at) more are = records_make_none more are
first_makes (Make db kind) more are = ap (λ (n : ℕ). n + 1) (records_make_none more are)
first_makes (MakeIndex db index) more are = ap (λ (n : ℕ). n + 1) (records_make_none more are)
first_makes (Remove db) more are = records_make_none more are
first_makes (Rename db to) more are = records_make_none more are
first_makes (Empty db) more are = ap (λ (n : ℕ). n + 1) (records_make_none more are)

records_number : (changes : List Change) (last_db : ℕ) (numbers : List ℕ → ℕ) → AllByRecursion IsRecordChange changes → all_numbered changes last_db numbers ≡ numbers
records_number [] last_db numbers are = refl
records_number (Set db at value ∷ changes) last_db numbers are = records_number changes (last_db + 0) numbers are.1
records_number (Unset db at ∷ changes) last_db numbers are = records_number changes (last_db + 0) numbers are.1
records_number (Make db kind ∷ changes) last_db numbers are = absurd are.0
records_number (MakeIndex db index ∷ changes) last_db numbers are = absurd are.0
records_number (Remove db ∷ changes) last_db numbers are = absurd are.0
records_number (Rename db to ∷ changes) last_db numbers are = absurd are.0
records_number (Empty db ∷ changes) last_db numbers are = absurd are.0

both_ways : (a b : Bool) → (a ≡ true → b ≡ true) → (b ≡ true → a ≡ true) → a ≡ b
both_ways true true forth back = refl
both_ways true false forth back = sym (forth refl)
both_ways false true forth back = back refl
both_ways false false forth back = refl

-- the catalog's numbers after a change, by a test
numbers_told : (rows after : Rows) (last_db now : ℕ) (gone : Option ℕ) (d : ℕ) (makes : Bool) → IsEnvironment rows → IsRising (rows 0) → IsEnvironment after → IsRising (after 0) → is_gone 0 gone ≡ false →
    NumbersChange last_db now gone (number_named rows) (number_named after) → makes ≡ (nat_lt last_db now && (d == now)) →
    has_number (numbers_of after) d ≡ cond (is_gone d gone) false (makes || has_number (numbers_of rows) d)
numbers_told rows after last_db now gone d makes env up env_after up_after stays change makes_is = by_zero (cases_eq d 0)
  where
    made_or_there : Bool
    made_or_there = makes || has_number (numbers_of rows) d

    forth : d ≢ 0 → has_number (numbers_of after) d ≡ true → cond (is_gone d gone) false (makes || has_number (numbers_of rows) d) ≡ true
    forth above has =
        let named = named_by after d env_after up_after above has in
        let found = change.forth named.0 (λ e. above (sym named.1 ∙ e)) in
        cond-false (is_gone d gone) false (makes || has_number (numbers_of rows) d) (ap (λ (m : ℕ). is_gone m gone) (sym named.1) ∙ found.0)
        ∙ ⊎_elim
        (λ (next : (last_db < now) × (number_named after named.0 ≡ now)).
        or_left makes (has_number (numbers_of rows) d) (makes_is ∙ and_from (nat_lt last_db now) (d == now) (lt-ltb last_db now next.0) (eq-eqb d now (sym named.1 ∙ next.1))))
        (λ (there : (other : List ℕ) × (number_named rows other ≡ number_named after named.0)).
        or_right makes (has_number (numbers_of rows) d) (named_is rows there.0 d above (there.1 ∙ named.1)))
        found.1

    back : d ≢ 0 → cond (is_gone d gone) false (makes || has_number (numbers_of rows) d) ≡ true → has_number (numbers_of after) d ≡ true
    back above has =
        ⊎_elim
        (λ (goes : is_gone d gone ≡ true). absurd (true≢false (sym has ∙ cond-true (is_gone d gone) false (makes || has_number (numbers_of rows) d) goes)))
        (λ (here : is_gone d gone ≡ false).
        ⊎_elim
        (λ (made : makes ≡ true).
        let parts = and_parts (nat_lt last_db now) (d == now) (sym makes_is ∙ made) in
        let named = change.made (ltb-true last_db now parts.0) in
        named_is after named.0 d above (named.1 ∙ sym (eqb-true d now parts.1)))
        (λ (there : has_number (numbers_of rows) d ≡ true).
        let old = named_by rows d env up above there in
        let named = change.back old.0 (λ e. above (sym old.1 ∙ e)) (ap (λ (m : ℕ). is_gone m gone) old.1 ∙ here) in
        named_is after named.0 d above (named.1 ∙ old.1))
        (or_cases makes (has_number (numbers_of rows) d) (sym (cond-false (is_gone d gone) false (makes || has_number (numbers_of rows) d) here) ∙ has)))
        (cases_Bool (is_gone d gone))

    by_zero : (d ≡ 0) ⊎ (d ≢ 0) → has_number (numbers_of after) d ≡ cond (is_gone d gone) false (makes || has_number (numbers_of rows) d)
    by_zero (inl is) =
        or_left (d == 0) (list_any (λ n. n == d) (numbers_of after)) (eq-eqb d 0 is)
        ∙ sym (cond-false (is_gone d gone) false (makes || has_number (numbers_of rows) d) (ap (λ (m : ℕ). is_gone m gone) is ∙ stays)
        ∙ or_right makes (has_number (numbers_of rows) d) (or_left (d == 0) (list_any (λ n. n == d) (numbers_of rows)) (eq-eqb d 0 is)))
    by_zero (inr above) = both_ways _ _ (forth above) (back above)

-- a database has a tree after planned changes if it is made or had one, but for the one that goes. All changes but the first are of records
pub planned_numbers : (rows : Rows) (last_db now : ℕ) (change : Change) (more : List Change) (planned : List TreeChange) (gone : Option ℕ) → ArePlanned rows last_db change more planned gone →
    AllByRecursion IsRecordChange more → now ≡ last_db + made_by (change ∷ more) → ((d : ℕ) → is_made d planned ≡ (nat_lt last_db now && (d == now))) →
    (d : ℕ) → has_number (numbers_of (rows_after planned gone rows)) d ≡ cond (is_gone d gone) false (is_made d planned || has_number (numbers_of rows) d)
planned_numbers rows last_db now change more planned gone are records now_is made d =
    let leaves = planned_rows rows last_db change more planned gone are in
    let one : NumbersChange last_db now gone (number_named rows) (numbered change last_db (number_named rows)) =
    subst (λ (o : Option ℕ). NumbersChange last_db now o (number_named rows) (numbered change last_db (number_named rows))) (sym are.gone_is)
    (subst (λ (n : ℕ). NumbersChange last_db n (gone_by rows change) (number_named rows) (numbered change last_db (number_named rows)))
    (ap (λ (n : ℕ). last_db + n) (sym (first_makes change more records)) ∙ sym now_is) (numbers_change change rows last_db are.sound are.may.0)) in
    let same : number_named (rows_after planned gone rows) ≡ numbered change last_db (number_named rows) =
    leaves.numbers ∙ records_number more (last_db + made_by (change ∷ [])) (numbered change last_db (number_named rows)) records in
    numbers_told rows (rows_after planned gone rows) last_db now gone d (is_made d planned) are.sound.environment (are.sound.rising 0) leaves.sound.environment (leaves.sound.rising 0) leaves.zero_stays
    (subst (NumbersChange last_db now gone (number_named rows)) (sym same) one) (made d)
