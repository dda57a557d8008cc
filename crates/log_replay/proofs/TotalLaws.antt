-- How many records and databases a logged change leaves.
use Rattle.std.proofs.Common.{◌≡◌, ◌≢◌, ℕ, ◌+◌, List, [], ◌∷◌, ◌++◌, Bool, true, false, cond, not, ◌||◌, ◌==◌, None, Some, Option, map, filter, length, sum_by, refl, ap, ap₂, sym, ◌∙◌, subst, ⊎_elim, arith, length-append, is_lt, is_gt, is_eq}
use Rattle.std.specs.List.{AllByRecursion, list_any}
use Rattle.std.proofs.lemmas.Bool.{and_parts, cases_Bool, cond-true, cond-false, false≢true, eqb-true, eqb-false, not-true}
use Rattle.std.proofs.lemmas.Option.{none-some, same_Some}
use Rattle.std.proofs.lemmas.List.{length-map}
use Rattle.std.proofs.lemmas.List.Sums.{sum_by-cons, sum_by-append}
use Rattle.je_order.specs.Order.{name_cmp}
use Rattle.je_order.specs.declared.name.Name.{Name}
use Rattle.store_model.specs.declared.store.Database.{Database}
use Rattle.store_model.specs.Store.{record_count}
use Rattle.store_model.specs.Evaluation.{plain_name}
use Rattle.log_replay.specs.Rows.{Row, Rows, RowChange, row_changed, rows_with, row_at, data_at, catalog_number, catalog_kind, are_distinct, is_environment, IsRising, database_in, store_of, pair_of}
use Rattle.log_replay.specs.Logging.{number_named}
use Rattle.log_replay.proofs.ListLaws.{all_of_map, filter-all}
use Rattle.je_order.proofs.Lists.{none_each, all_weaker, all_kept}
use Rattle.log_replay.proofs.RowLaws.{split_where_none, length-set_new, length-set_again, length-unset, length-unset_none, row_of_data, no_row_of_data, others_after, rising_tail}
use Rattle.log_replay.proofs.StoreLaws.{number_of_row, IsEnvironment, environment_parts, catalog_numbers, catalog_change, elsewhere, named-among, row_named, row_changed-there, row_changed-here}

-- how many records stand under a catalog record's number
abbrev records_under : Rows → Row → ℕ
records_under rows row = length (rows (catalog_number row.1))

-- the records of a store, counted by the catalog
counted : (rows : Rows) (catalog : List Row) → sum_by (λ (d : Database). length d.pairs) (map (database_in rows) catalog) ≡ sum_by (records_under rows) catalog
counted rows [] = refl
counted rows (r ∷ catalog) =
    sum_by-cons (λ (d : Database). length d.pairs) (database_in rows r) (map (database_in rows) catalog)
    ∙ ap₂ (λ a b. a + b) (length-map (rows (catalog_number r.1)) (pair_of (catalog_kind r.1))) (counted rows catalog)
    ∙ sym (sum_by-cons (records_under rows) r catalog)

-- where no record changes, the sums are the same
sums_same : (a b : Rows) (catalog : List Row) → AllByRecursion (λ r. b (catalog_number r.1) ≡ a (catalog_number r.1)) catalog →
    sum_by (records_under b) catalog ≡ sum_by (records_under a) catalog
sums_same a b [] h = refl
sums_same a b (r ∷ catalog) h =
    sum_by-cons (records_under b) r catalog ∙ ap₂ (λ x y. x + y) (ap length h.0) (sums_same a b catalog h.1) ∙ sym (sum_by-cons (records_under a) r catalog)

-- where one database's records change, the sums differ by theirs
sums_differ : (a b : Rows) (number : ℕ) (catalog : List Row) → are_distinct (map number_of_row catalog) ≡ true →
    list_any (λ m. m == number) (map number_of_row catalog) ≡ true → ((db : ℕ) → db ≢ number → b db ≡ a db) →
    sum_by (records_under b) catalog + length (a number) ≡ sum_by (records_under a) catalog + length (b number)
sums_differ a b number [] apart there same = absurd (false≢true there)
sums_differ a b number (r ∷ catalog) apart there same =
    let here = catalog_number r.1 in
    let later = list_any (λ m. m == number) (map number_of_row catalog) in
    let parts = and_parts (not (list_any (λ m. m == here) (map number_of_row catalog))) (are_distinct (map number_of_row catalog)) apart in
    let one = sum_by-cons (records_under a) r catalog in
    let two = sum_by-cons (records_under b) r catalog in
    ⊎_elim
    (λ (e : (here == number) ≡ true).
    let at : here ≡ number = eqb-true here number e in
    let others : AllByRecursion (λ (y : Row). (catalog_number y.1 == here) ≡ false) catalog =
    all_of_map number_of_row (λ m. (m == here) ≡ false) catalog
    (none_each (λ m. m == here) (map number_of_row catalog) (not-true (list_any (λ m. m == here) (map number_of_row catalog)) parts.0)) in
    let rest : sum_by (records_under b) catalog ≡ sum_by (records_under a) catalog =
    sums_same a b catalog
    (all_weaker (λ (y : Row). (catalog_number y.1 == here) ≡ false) (λ y. b (catalog_number y.1) ≡ a (catalog_number y.1))
    (λ y h. same (catalog_number y.1) (λ f. eqb-false (catalog_number y.1) here h (f ∙ sym at))) catalog others) in
    omega (arith, one, two, rest, ap (λ n. length (a n)) at, ap (λ n. length (b n)) at))
    (λ (e : (here == number) ≡ false).
    let before : length (b here) ≡ length (a here) = ap length (same here (eqb-false here number e)) in
    let rest = sums_differ a b number catalog parts.1 (sym (ap (λ x. x || later) e) ∙ there) same in
    omega (arith, one, two, rest, before))
    (cases_Bool (here == number))

-- a change of a database's records changes the number of all records as it changes that of the database's
pub record_count-change : (rows : Rows) (name : List ℕ) (c : RowChange) → is_environment rows ≡ true → number_named rows name ≢ 0 → c.db ≡ number_named rows name →
    record_count (store_of (row_changed c rows)) + length (rows c.db) ≡ record_count (store_of rows) + length (rows_with c.name c.value (rows c.db))
record_count-change rows name c env has at =
    let after : Rows = row_changed c rows in
    let catalog : after 0 ≡ rows 0 = row_changed-there c rows 0 (λ e. has (sym (e ∙ at))) in
    let row = row_named rows name has in
    let among : list_any (λ m. m == c.db) (map number_of_row (rows 0)) ≡ true =
    subst (λ (n : ℕ). list_any (λ m. m == n) (map number_of_row (rows 0)) ≡ true) (row.2 ∙ sym at) (named-among rows name row.0 row.1) in
    let before_is : record_count (store_of rows) ≡ sum_by (records_under rows) (rows 0) = counted rows (rows 0) in
    let after_is : record_count (store_of after) ≡ sum_by (records_under after) (rows 0) =
    counted after (after 0) ∙ ap (λ l. sum_by (records_under after) l) catalog in
    let differ : sum_by (records_under after) (rows 0) + length (rows c.db) ≡ sum_by (records_under rows) (rows 0) + length (after c.db) =
    sums_differ rows after c.db (rows 0) (environment_parts rows env).distinct among (λ db h. row_changed-there c rows db h) in
    omega (arith, before_is, after_is, differ, ap length (row_changed-here c rows))

-- a name that had no record has one more
pub record_count-set : (rows : Rows) (name : List ℕ) (c : RowChange) (value : List ℕ) → is_environment rows ≡ true → number_named rows name ≢ 0 → c.db ≡ number_named rows name →
    c.value ≡ Some value → data_at c.name (rows c.db) ≡ None → record_count (store_of (row_changed c rows)) ≡ record_count (store_of rows) + 1
record_count-set rows name c value env has at is none =
    let len : length (rows_with c.name c.value (rows c.db)) ≡ length (rows c.db) + 1 =
    ap (λ (v : Option (List ℕ)). length (rows_with c.name v (rows c.db))) is ∙ length-set_new (rows c.db) c.name value (no_row_of_data c.name (rows c.db) none) in
    omega (arith, record_count-change rows name c env has at, len)

-- a name that had a record still has one
pub record_count-set_again : (rows : Rows) (name : List ℕ) (c : RowChange) (value old : List ℕ) → is_environment rows ≡ true → IsRising (rows c.db) →
    number_named rows name ≢ 0 → c.db ≡ number_named rows name → c.value ≡ Some value → data_at c.name (rows c.db) ≡ Some old →
    record_count (store_of (row_changed c rows)) ≡ record_count (store_of rows)
record_count-set_again rows name c value old env up has at is there =
    let row = row_of_data c.name (rows c.db) old there in
    let len : length (rows_with c.name c.value (rows c.db)) ≡ length (rows c.db) =
    ap (λ (v : Option (List ℕ)). length (rows_with c.name v (rows c.db))) is ∙ length-set_again (rows c.db) c.name value row.0 up row.1 in
    omega (arith, record_count-change rows name c env has at, len)

-- a record that is taken out is one less
pub record_count-unset : (rows : Rows) (name : List ℕ) (c : RowChange) (old : List ℕ) → is_environment rows ≡ true → IsRising (rows c.db) →
    number_named rows name ≢ 0 → c.db ≡ number_named rows name → c.value ≡ None → data_at c.name (rows c.db) ≡ Some old →
    record_count (store_of (row_changed c rows)) + 1 ≡ record_count (store_of rows)
record_count-unset rows name c old env up has at is there =
    let row = row_of_data c.name (rows c.db) old there in
    let len : length (rows_with c.name c.value (rows c.db)) + 1 ≡ length (rows c.db) =
    ap (λ (v : Option (List ℕ)). length (rows_with c.name v (rows c.db)) + 1) is ∙ length-unset (rows c.db) c.name row.0 up row.1 in
    omega (arith, record_count-change rows name c env has at, len)

-- a change of records leaves as many databases
pub databases-change : (rows : Rows) (name : List ℕ) (c : RowChange) → number_named rows name ≢ 0 → c.db ≡ number_named rows name →
    length (store_of (row_changed c rows)).databases ≡ length (store_of rows).databases
databases-change rows name c has at =
    let after : Rows = row_changed c rows in
    let catalog : after 0 ≡ rows 0 = row_changed-there c rows 0 (λ e. has (sym (e ∙ at))) in
    length-map (after 0) (database_in after) ∙ ap length catalog ∙ sym (length-map (rows 0) (database_in rows))

-- a record that is not there and is taken out is none less
pub record_count-unset_none : (rows : Rows) (name : List ℕ) (c : RowChange) → is_environment rows ≡ true →
    number_named rows name ≢ 0 → c.db ≡ number_named rows name → c.value ≡ None → data_at c.name (rows c.db) ≡ None →
    record_count (store_of (row_changed c rows)) ≡ record_count (store_of rows)
record_count-unset_none rows name c env has at is none =
    let len : length (rows_with c.name c.value (rows c.db)) ≡ length (rows c.db) =
    ap (λ (v : Option (List ℕ)). length (rows_with c.name v (rows c.db))) is ∙ length-unset_none (rows c.db) c.name (no_row_of_data c.name (rows c.db) none) in
    omega (arith, record_count-change rows name c env has at, len)

-- ---- a catalog record more

-- a database more, with the records under its number
pub totals_put : (rows : Rows) (txn : ℕ) (name bytes : List ℕ) → IsEnvironment rows → IsRising (rows 0) → row_at (plain_name name) (rows 0) ≡ None → catalog_number bytes ≢ 0 →
    (record_count (store_of (row_changed (catalog_change txn name (Some bytes)) rows)) ≡ record_count (store_of rows) + length (rows (catalog_number bytes)))
    × (length (store_of (row_changed (catalog_change txn name (Some bytes)) rows)).databases ≡ length (store_of rows).databases + 1)
totals_put rows txn name bytes env up absent above =
    let at : Name = plain_name name in
    let c : RowChange = catalog_change txn name (Some bytes) in
    let after : Rows = row_changed c rows in
    let new : Row = (at, bytes) in
    let lower : List Row = filter (λ (r : Row). is_lt (name_cmp r.0 at)) (rows 0) in
    let higher : List Row = filter (λ (r : Row). is_gt (name_cmp r.0 at)) (rows 0) in
    let split : lower ++ higher ≡ rows 0 = split_where_none (rows 0) at up absent in
    let new_same : length (after (catalog_number bytes)) ≡ length (rows (catalog_number bytes)) = ap length (row_changed-there c rows (catalog_number bytes) above) in
    let kept : sum_by (records_under after) (rows 0) ≡ sum_by (records_under rows) (rows 0) =
    sums_same rows after (rows 0) (elsewhere txn name (Some bytes) rows (rows 0) (catalog_numbers (rows 0) env.catalog)) in
    let before_is : record_count (store_of rows) ≡ sum_by (records_under rows) (rows 0) = counted rows (rows 0) in
    let after_is : record_count (store_of after) ≡ sum_by (records_under after) (lower ++ new ∷ higher) = counted after (after 0) in
    let with_new : sum_by (records_under after) (lower ++ new ∷ higher) ≡ sum_by (records_under after) lower + sum_by (records_under after) (new ∷ higher) =
    sum_by-append (records_under after) lower (new ∷ higher) in
    let of_new : sum_by (records_under after) (new ∷ higher) ≡ length (after (catalog_number bytes)) + sum_by (records_under after) higher =
    sum_by-cons (records_under after) new higher in
    let without : sum_by (records_under after) (rows 0) ≡ sum_by (records_under after) lower + sum_by (records_under after) higher =
    ap (λ l. sum_by (records_under after) l) (sym split) ∙ sum_by-append (records_under after) lower higher in
    let databases_before : length (store_of rows).databases ≡ length (rows 0) = length-map (rows 0) (database_in rows) in
    let databases_after : length (store_of after).databases ≡ length (lower ++ new ∷ higher) = length-map (after 0) (database_in after) in (
      omega arith,
      omega (arith, databases_before, databases_after, length-append lower (new ∷ higher), length-append lower higher, ap length split),
    )

-- ---- a catalog record less

sum_without : (f : Row → ℕ) (name : Name) (row : Row) (rows : List Row) → IsRising rows → row_at name rows ≡ Some row →
    sum_by f (filter (λ (r : Row). not (is_eq (name_cmp r.0 name))) rows) + f row ≡ sum_by f rows
sum_without f name row [] up there = absurd (none-some row there)
sum_without f name row (r ∷ rows) up there =
    let p : Row → Bool = λ y. is_eq (name_cmp y.0 name) in
    let rest : List Row = filter (λ (y : Row). not (p y)) rows in
    let cons = sum_by-cons f r rows in
    ⊎_elim
    (λ (e : p r ≡ true).
    let same : f r ≡ f row = ap f (same_Some r row (sym (cond-true (p r) (Some r) (row_at name rows) e) ∙ there)) in
    let all : rest ≡ rows =
    filter-all (λ (y : Row). not (p y)) rows (all_weaker (λ (y : Row). p y ≡ false) (λ y. not (p y) ≡ true) (λ y g. ap not g) rows (others_after r rows name up e)) in
    let left : sum_by f (cond (not (p r)) (r ∷ rest) rest) ≡ sum_by f rows = ap (sum_by f) (cond-false (not (p r)) (r ∷ rest) rest (ap not e) ∙ all) in
    omega (arith, cons, same, left))
    (λ (e : p r ≡ false).
    let later = sum_without f name row rows (rising_tail r rows up) (sym (cond-false (p r) (Some r) (row_at name rows) e) ∙ there) in
    let left : sum_by f (cond (not (p r)) (r ∷ rest) rest) ≡ f r + sum_by f rest = ap (sum_by f) (cond-true (not (p r)) (r ∷ rest) rest (ap not e)) ∙ sum_by-cons f r rest in
    omega (arith, cons, later, left))
    (cases_Bool (p r))

-- a database less, and the records under its number
pub totals_deleted : (rows : Rows) (txn : ℕ) (name : List ℕ) (row : Row) → IsEnvironment rows → IsRising (rows 0) → row_at (plain_name name) (rows 0) ≡ Some row →
    (record_count (store_of (row_changed (catalog_change txn name None) rows)) + length (rows (catalog_number row.1)) ≡ record_count (store_of rows))
    × (length (store_of (row_changed (catalog_change txn name None) rows)).databases + 1 ≡ length (store_of rows).databases)
totals_deleted rows txn name row env up there =
    let after : Rows = row_changed (catalog_change txn name None) rows in
    let other : Row → Bool = λ r. not (is_eq (name_cmp r.0 (plain_name name))) in
    let before_is : record_count (store_of rows) ≡ sum_by (records_under rows) (rows 0) = counted rows (rows 0) in
    let after_is : record_count (store_of after) ≡ sum_by (records_under after) (filter other (rows 0)) = counted after (after 0) in
    let kept : sum_by (records_under after) (filter other (rows 0)) ≡ sum_by (records_under rows) (filter other (rows 0)) =
    sums_same rows after (filter other (rows 0)) (elsewhere txn name None rows (filter other (rows 0)) (all_kept (λ (r : Row). catalog_number r.1 ≢ 0) other (rows 0) (catalog_numbers (rows 0) env.catalog))) in
    let parts : sum_by (records_under rows) (filter other (rows 0)) + length (rows (catalog_number row.1)) ≡ sum_by (records_under rows) (rows 0) =
    sum_without (records_under rows) (plain_name name) row (rows 0) up there in
    let databases_before : length (store_of rows).databases ≡ length (rows 0) = length-map (rows 0) (database_in rows) in
    let databases_after : length (store_of after).databases ≡ length (filter other (rows 0)) = length-map (after 0) (database_in after) in
    let shorter : length (filter other (rows 0)) + 1 ≡ length (rows 0) = length-unset (rows 0) (plain_name name) row up there in (
      omega arith,
      omega (arith, databases_before, databases_after, shorter),
    )
