-- Which store the first entries of a log leave.
use Rattle.std.proofs.Common.{◌≡◌, ℕ, ◌+◌, ◌<◌, ◌≤◌, nat_le, Bool, true, false, cond, List, [], ◌∷◌, ◌++◌, map, take, drop, length, refl, sym, ap, ap₂, subst, ◌∙◌, arith, ◌⊎◌, inl, inr}
use Rattle.std.specs.Prelude.{◌&&◌}
use Rattle.std.proofs.lemmas.List.{take_all, drop_all, take-append-le, drop-append-le, take-take, take-append-drop, length-take-le, length-append}
use Rattle.std.proofs.lemmas.List.Sums.{sum_by-append}
use Rattle.std.proofs.lemmas.Bool.{cases_lt}
use Rattle.std.specs.List.{AllByRecursion, list_all, count_by}
use Rattle.store_model.specs.declared.change.Change.{Change}
use Rattle.store_model.specs.declared.store.Store.{Store}
use Rattle.store_model.specs.declared.store.Database.{Database}
use Rattle.store_model.specs.declared.store.TheConstants.{MOST_DATABASES}
use Rattle.store_model.specs.Store.{store_after}
use Rattle.log_replay.specs.Rows.{Row, Rows, catalog_number, catalog_kind, catalog_index, has_primary, numbers_of, is_catalog_row, are_distinct, are_right, rows_of_row, is_environment, database_by, database_in, store_of, no_rows}
use Rattle.log_replay.proofs.MapRows.{lookup_is_data}
use Rattle.log_replay.proofs.LoadedRows.{same_rows}
use Rattle.log_replay.proofs.StoreLaws.{same_database}
use Rattle.log_replay.proofs.ListLaws.{all_of_map, map_same}
use Rattle.je_order.proofs.Lists.{all_weaker}
use Rattle.log_trees.specs.Placed.{Placed}
use Rattle.log_trees.specs.Changes.{unwritten}
use Rattle.log_meaning.specs.Checkpoint.{restarted}
use Rattle.log_meaning.specs.Meaning.{rows_of}
use Rattle.log_meaning.specs.Recovery.{is_commit, Leaves, commits_in, Recovers, StandsLeaves, RecoversFirst, with_commit, RecoversPush}
use Rattle.log_meaning.proofs.Listing.{found-after, listed_in_order}

-- ---- records that are the same in the databases that a catalog names

all_same : (p q : Row → Bool) (ns : List Row) → AllByRecursion (λ n. p n ≡ q n) ns → list_all p ns ≡ list_all q ns
all_same p q [] all = refl
all_same p q (n ∷ ns) all = ap₂ (λ a b. a && b) all.0 (all_same p q ns all.1)

-- what makes records an environment's, told by the catalog's records and the other databases'
abbrev environment_with : List Row → Rows → Bool
environment_with catalog rows =
    list_all is_catalog_row catalog && are_distinct (map (λ r. catalog_number r.1) catalog) && list_all (λ r. are_right (catalog_kind r.1) (rows_of_row rows r)) catalog
    && nat_le (length catalog) MOST_DATABASES && list_all (λ r. has_primary catalog (catalog_index r.1)) catalog

pub same_environment : (a b : Rows) → a 0 ≡ b 0 → AllByRecursion (λ n. a n ≡ b n) (numbers_of b) → is_environment a ≡ is_environment b
same_environment a b zero_same each =
    ap (λ (catalog : List Row). environment_with catalog a) zero_same
    ∙ ap (λ (t : Bool). list_all is_catalog_row (b 0) && are_distinct (numbers_of b) && t && nat_le (length (b 0)) MOST_DATABASES && list_all (λ r. has_primary (b 0) (catalog_index r.1)) (b 0))
    (all_same (λ r. are_right (catalog_kind r.1) (rows_of_row a r)) (λ r. are_right (catalog_kind r.1) (rows_of_row b r)) (b 0)
    (all_weaker (λ (r : Row). a (catalog_number r.1) ≡ b (catalog_number r.1)) (λ r. are_right (catalog_kind r.1) (rows_of_row a r) ≡ are_right (catalog_kind r.1) (rows_of_row b r))
    (λ r h. ap (are_right (catalog_kind r.1)) h) (b 0) (all_of_map (λ (r : Row). catalog_number r.1) (λ n. a n ≡ b n) (b 0) each)))

pub same_store : (a b : Rows) → a 0 ≡ b 0 → AllByRecursion (λ n. a n ≡ b n) (numbers_of b) → store_of a ≡ store_of b
same_store a b zero_same each =
    let make : List Database → Store = λ l. record { databases = l } in
    ap (λ (catalog : List Row). make (map (database_by catalog a) catalog)) zero_same
    ∙ ap make (map_same (database_by (b 0) a) (database_in b) (b 0)
    (all_weaker (λ (r : Row). a (catalog_number r.1) ≡ b (catalog_number r.1)) (λ r. database_by (b 0) a r ≡ database_in b r) (λ r h. same_database (b 0) a b r h) (b 0)
    (all_of_map (λ (r : Row). catalog_number r.1) (λ n. a n ≡ b n) (b 0) each)))

pub stands_leaves : StandsLeaves
stands_leaves first es base next is_open rows is_live logged kept s roots redo up data_is zero_open all_open environment =
    let same : (d : ℕ) → is_open d ≡ true → rows_of (restarted es) d ≡ kept d = λ d open_.
    same_rows (rows_of (restarted es) d) (kept d) (listed_in_order (restarted es).done d) (up d)
    (λ q. found-after (restarted es).done no_rows unwritten d q refl ∙ s.same d q open_ ∙ sym (data_is d q open_) ∙ sym (lookup_is_data q (kept d))) in
    let each : AllByRecursion (λ n. rows_of (restarted es) n ≡ kept n) (numbers_of kept) =
    all_weaker (λ n. is_open n ≡ true) (λ n. rows_of (restarted es) n ≡ kept n) (λ n h. same n h) (numbers_of kept) all_open in
    record {
      roots = roots;
      redo = redo;
      environment = same_environment (rows_of (restarted es)) kept (same 0 zero_open) each ∙ environment;
      store_is = same_store (rows_of (restarted es)) kept (same 0 zero_open) each;
    }

-- ---- commits

commits-append : (xs ys : List Placed) → count_by (λ (p : Placed). is_commit p.1) (xs ++ ys) ≡ count_by (λ (p : Placed). is_commit p.1) xs + count_by (λ (p : Placed). is_commit p.1) ys
commits-append xs ys = sum_by-append (λ (p : Placed). cond (is_commit p.1) 1 0) xs ys

commits-front : (base count : ℕ) (xs ys : List Placed) → count ≤ length xs → commits_in base count (xs ++ ys) ≡ commits_in base count xs
commits-front base count xs ys within = ap (λ (l : List Placed). count_by (λ (p : Placed). is_commit p.1) (drop base l)) (take-append-le count xs ys within)

-- the first entries have no more commits than all
commits-all : (base count : ℕ) (xs : List Placed) → base ≤ count → count ≤ length xs → commits_in base count xs ≤ count_by (λ (p : Placed). is_commit p.1) (drop base xs)
commits-all base count xs from within =
    let len : length (take count xs) ≡ count = length-take-le count xs within in
    let parts : drop base (take count xs) ++ drop count xs ≡ drop base xs =
    sym (drop-append-le base (take count xs) (drop count xs) (omega (arith, len, from))) ∙ ap (drop base) (take-append-drop count xs) in
    omega (arith, ap (count_by (λ (p : Placed). is_commit p.1)) parts, commits-append (drop base (take count xs)) (drop count xs))

pub commits_rise : (base least count : ℕ) (xs : List Placed) → base ≤ least → least ≤ count → count ≤ length xs → commits_in base least xs ≤ commits_in base count xs
commits_rise base least count xs from le within =
    let len : length (take count xs) ≡ count = length-take-le count xs within in
    subst (λ (l : List Placed). count_by (λ (p : Placed). is_commit p.1) (drop base l) ≤ commits_in base count xs) (take-take least count xs le)
    (commits-all base least (take count xs) from (omega (arith, len, le)))

all_commits : (base : ℕ) (xs : List Placed) → commits_in base (length xs) xs ≡ count_by (λ (p : Placed). is_commit p.1) (drop base xs)
all_commits base xs = ap (λ (l : List Placed). count_by (λ (p : Placed). is_commit p.1) (drop base l)) (take_all (length xs) xs (omega arith))

leaves_other : (first : ℕ) (a b : List Placed) (s t : Store) → a ≡ b → s ≡ t → Leaves first a s → Leaves first b t
leaves_other first a b s t entries store leaves = subst (λ (x : Store). Leaves first b x) store (subst (λ (l : List Placed). Leaves first l s) entries leaves)

-- ---- a log that recovers

pub recovers_first : RecoversFirst
recovers_first first opening es leaves = record {
  within = omega arith;
  all = all_commits (length es) es ∙ ap (count_by (λ (p : Placed). is_commit p.1)) (drop_all (length es) es (omega arith));
  each = λ count from within. leaves_other first es (take count es) opening _ (sym (take_all count es from))
      (sym (ap (store_after opening) (take_all (commits_in (length es) count es) [] (omega arith)))) leaves;
}

pub few_commits : (first : ℕ) (opening : Store) (base count : ℕ) (transactions : List (List Change)) (es : List Placed) → Recovers first opening base transactions es → base ≤ count → count ≤ length es →
    commits_in base count es ≤ length transactions
few_commits first opening base count transactions es is from within = omega (arith, commits-all base count es from within, all_commits base es, is.all)

-- a transaction more, or the same ones
take_before : (b : Bool) (transaction : List Change) (transactions : List (List Change)) (n : ℕ) → n ≤ length transactions → take n (with_commit b transaction transactions) ≡ take n transactions
take_before true transaction transactions n le = take-append-le n transactions (transaction ∷ []) le
take_before false transaction transactions n le = refl

length-with : (b : Bool) (transaction : List Change) (transactions : List (List Change)) → length (with_commit b transaction transactions) ≡ length transactions + (0 + cond b 1 0)
length-with true transaction transactions = let len = length-append transactions (transaction ∷ []) in omega (arith, len)
length-with false transaction transactions = omega arith

pub recovers_push : RecoversPush
recovers_push first opening base transactions transaction es p is leaves =
    let len : length (es ++ p ∷ []) ≡ length es + 1 = length-append es (p ∷ []) in
    let low : base ≤ length es = is.within in
    let all : commits_in base (length (es ++ p ∷ [])) (es ++ p ∷ []) ≡ length (with_commit (is_commit p.1) transaction transactions) =
    all_commits base (es ++ p ∷ [])
    ∙ ap (count_by (λ (q : Placed). is_commit q.1)) (drop-append-le base es (p ∷ []) low)
    ∙ commits-append (drop base es) (p ∷ [])
    ∙ ap (λ (n : ℕ). n + (0 + cond (is_commit p.1) 1 0)) (sym (all_commits base es) ∙ is.all)
    ∙ sym (length-with (is_commit p.1) transaction transactions) in
    record {
      within = omega (arith, len, low);
      all = all;
      each = λ count from within. by_place count from within (cases_lt (length es) count) len all;
    }
  where
    by_place : (count : ℕ) → base ≤ count → count ≤ length (es ++ p ∷ []) → (length es < count) ⊎ (count ≤ length es) → length (es ++ p ∷ []) ≡ length es + 1 →
        commits_in base (length (es ++ p ∷ [])) (es ++ p ∷ []) ≡ length (with_commit (is_commit p.1) transaction transactions) →
        Leaves first (take count (es ++ p ∷ [])) (store_after opening (take (commits_in base count (es ++ p ∷ [])) (with_commit (is_commit p.1) transaction transactions)))
    by_place count from within (inl more) len all =
        let at : length (es ++ p ∷ []) ≡ count = omega arith in
        subst (λ (n : ℕ). Leaves first (take n (es ++ p ∷ [])) (store_after opening (take (commits_in base n (es ++ p ∷ [])) (with_commit (is_commit p.1) transaction transactions)))) at
        (leaves_other first (es ++ p ∷ []) _ (store_after opening (with_commit (is_commit p.1) transaction transactions)) _
        (sym (take_all (length (es ++ p ∷ [])) (es ++ p ∷ []) (omega arith)))
        (ap (store_after opening)
        (sym (ap (λ (n : ℕ). take n (with_commit (is_commit p.1) transaction transactions)) all
        ∙ take_all (length (with_commit (is_commit p.1) transaction transactions)) (with_commit (is_commit p.1) transaction transactions) (omega arith))))
        leaves)
    by_place count from within (inr le) len all =
        leaves_other first (take count es) _ _ _ (sym (take-append-le count es (p ∷ []) le))
        (ap (store_after opening)
        (sym (take_before (is_commit p.1) transaction transactions (commits_in base count es) (few_commits first opening base count transactions es is from le))
        ∙ ap (λ (n : ℕ). take n (with_commit (is_commit p.1) transaction transactions)) (sym (commits-front base count es (p ∷ []) le))))
        (is.each count from le)
