-- What a name finds in records after a change.
use Rattle.std.proofs.Common.{◌≡◌, ℕ, Bool, true, false, not, cond, List, [], ◌∷◌, ◌++◌, Option, None, Some, filter, Ordering, Less, Equal, Greater, is_eq, is_lt, is_gt, refl, sym, ap, ap₂, ◌∙◌}
use Rattle.std.proofs.lemmas.Bool.{cond-true, cond-false}
use Rattle.je_order.specs.declared.name.Name.{Name}
use Rattle.je_order.specs.Order.{name_cmp, is_same_bytes}
use Rattle.je_order.proofs.Orderings.{equal_from_test, name_exact}
use Rattle.store_model.specs.Evaluation.{plain_name}
use Rattle.log_replay.specs.Rows.{Row, Rows, RowChange, rows_with, row_changed, data_at, number_or_0}
use Rattle.log_replay.specs.Wrong.{or_else}
use Rattle.log_replay.specs.Logging.{record_in, number_named}
use Rattle.log_replay.specs.Kept.{with_number}
use Rattle.log_replay.proofs.MapRows.{lookup_is_data}
use Rattle.log_replay.proofs.LoadedRows.{found}
use Rattle.log_replay.proofs.RowLaws.{name_cmp-plain}
use Rattle.log_replay.proofs.StoreLaws.{catalog_change}

or_else-none : {A : Type 0} (o : Option A) → or_else o None ≡ o
or_else-none None = refl
or_else-none (Some x) = refl

found-filter : (test : Name → Bool) (q : Name) (rows : List Row) → found (filter (λ r. test r.0) rows) q ≡ cond (test q) (found rows q) None
found-filter test q [] = nothing (test q)
  where
    nothing : (b : Bool) → found [] q ≡ cond b (found [] q) None
    nothing true = refl
    nothing false = refl
found-filter test q (r ∷ rows) = by_tests (test r.0) (is_eq (name_cmp q r.0)) refl refl (found-filter test q rows)
  where
    by_tests : (t e : Bool) → test r.0 ≡ t → is_eq (name_cmp q r.0) ≡ e → found (filter (λ (s : Row). test s.0) rows) q ≡ cond (test q) (found rows q) None →
        found (cond t (r ∷ filter (λ (s : Row). test s.0) rows) (filter (λ (s : Row). test s.0) rows)) q ≡ cond (test q) (cond e (Some r.1) (found rows q)) None
    by_tests true true t e rest =
        let at : q ≡ r.0 = name_exact q r.0 (equal_from_test _ e) in
        cond-true (is_eq (name_cmp q r.0)) (Some r.1) (found (filter (λ (s : Row). test s.0) rows) q) e ∙ sym (cond-true (test q) (Some r.1) None (ap test at ∙ t))
    by_tests true false t e rest = cond-false (is_eq (name_cmp q r.0)) (Some r.1) (found (filter (λ (s : Row). test s.0) rows) q) e ∙ rest
    by_tests false true t e rest =
        let at : q ≡ r.0 = name_exact q r.0 (equal_from_test _ e) in
        let not_in : test q ≡ false = ap test at ∙ t in
        rest ∙ cond-false (test q) (found rows q) None not_in ∙ sym (cond-false (test q) (Some r.1) None not_in)
    by_tests false false t e rest = rest

found-append : (a b : List Row) (q : Name) → found (a ++ b) q ≡ or_else (found a q) (found b q)
found-append [] b q = refl
found-append (r ∷ a) b q = ap (λ (o : Option (List ℕ)). cond (is_eq (name_cmp q r.0)) (Some r.1) o) (found-append a b q) ∙ by_test (is_eq (name_cmp q r.0))
  where
    by_test : (e : Bool) → cond e (Some r.1) (or_else (found a q) (found b q)) ≡ or_else (cond e (Some r.1) (found a q)) (found b q)
    by_test true = refl
    by_test false = refl

-- after a change a name finds the new data where it is the change's, and else what it found before
pub found-with : (x : Name) (value : Option (List ℕ)) (q : Name) (rows : List Row) → found (rows_with x value rows) q ≡ cond (is_eq (name_cmp q x)) value (found rows q)
found-with x None q rows = found-filter (λ y. not (is_eq (name_cmp y x))) q rows ∙ by_test (is_eq (name_cmp q x))
  where
    by_test : (e : Bool) → cond (not e) (found rows q) None ≡ cond e None (found rows q)
    by_test true = refl
    by_test false = refl
found-with x (Some value) q rows =
    found-append (filter (λ r. is_lt (name_cmp r.0 x)) rows) ((x, value) ∷ filter (λ r. is_gt (name_cmp r.0 x)) rows) q
    ∙ ap₂ (λ a b. or_else a (cond (is_eq (name_cmp q x)) (Some value) b)) (found-filter (λ y. is_lt (name_cmp y x)) q rows) (found-filter (λ y. is_gt (name_cmp y x)) q rows)
    ∙ by_order (name_cmp q x)
  where
    by_order : (o : Ordering) → or_else (cond (is_lt o) (found rows q) None) (cond (is_eq o) (Some value) (cond (is_gt o) (found rows q) None)) ≡ cond (is_eq o) (Some value) (found rows q)
    by_order Less = or_else-none (found rows q)
    by_order Equal = refl
    by_order Greater = refl

-- the same of the data of a name
pub data-with : (x : Name) (value : Option (List ℕ)) (q : Name) (rows : List Row) → data_at q (rows_with x value rows) ≡ cond (is_eq (name_cmp q x)) value (data_at q rows)
data-with x value q rows =
    sym (lookup_is_data q (rows_with x value rows)) ∙ found-with x value q rows ∙ ap (λ (o : Option (List ℕ)). cond (is_eq (name_cmp q x)) value o) (lookup_is_data q rows)

-- ---- the numbers that the catalog has

-- a change of the catalog's record of a name gives it the number of the new one
pub number-changed : (txn : ℕ) (name : List ℕ) (value : Option (List ℕ)) (rows : Rows) (other : List ℕ) →
    number_named (row_changed (catalog_change txn name value) rows) other ≡ with_number name (number_or_0 (record_in value)) (number_named rows) other
number-changed txn name value rows other =
    ap (λ (o : Option (List ℕ)). number_or_0 (record_in o))
    (data-with (plain_name name) value (plain_name other) (rows 0)
    ∙ ap (λ (o : Ordering). cond (is_eq o) value (data_at (plain_name other) (rows 0))) (name_cmp-plain (plain_name other) name refl))
    ∙ by_test (is_same_bytes other name)
  where
    by_test : (b : Bool) → number_or_0 (record_in (cond b value (data_at (plain_name other) (rows 0)))) ≡ cond b (number_or_0 (record_in value)) (number_named rows other)
    by_test true = refl
    by_test false = refl

-- a change of the records of another database leaves the numbers
pub number-same : (c : RowChange) (rows : Rows) (other : List ℕ) → row_changed c rows 0 ≡ rows 0 → number_named (row_changed c rows) other ≡ number_named rows other
number-same c rows other h = ap (λ (l : List Row). number_or_0 (record_in (data_at (plain_name other) l))) h
