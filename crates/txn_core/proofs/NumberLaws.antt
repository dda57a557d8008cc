-- Numbers of databases.
use Rattle.std.proofs.Common.{◌≡◌, ◌≢◌, ℕ, ◌+◌, ◌==◌, nat_lt, Bool, true, false, ◌||◌, List, refl, ap, ◌∙◌, ⊎_elim, arith}
use Rattle.std.specs.Ordering.{is_eq}
use Rattle.std.proofs.lemmas.Bool.{cases_Bool, ltb-true}
use Rattle.std.proofs.lemmas.Bool.Decides.{nat_tests}
use Rattle.je_order.specs.Order.{name_cmp}
use Rattle.store_model.specs.Evaluation.{plain_name}
use Rattle.log_replay.specs.Rows.{Row, Rows, catalog_number, numbers_of}
use Rattle.log_replay.specs.Logging.{number_named}
use Rattle.log_replay.proofs.ListLaws.{any_found, list_any-map}
use Rattle.log_replay.proofs.StoreLaws.{row_named}
use Rattle.txn_core.specs.Known.{has_number}

pub or_false : (b : Bool) → (b || false) ≡ b
or_false true = refl
or_false false = refl

or_true : (b : Bool) → (b || true) ≡ true
or_true true = refl
or_true false = refl

same_itself : (n : ℕ) → (n == n) ≡ true
same_itself n = grind (arith, nat_tests)

-- either of two numbers is the other
pub same_either : (a b : ℕ) → (a == b) ≡ (b == a)
same_either a b = grind (arith, nat_tests)

pub not_under : (n : ℕ) → nat_lt n n ≡ false
not_under n = ⊎_elim (λ (e : nat_lt n n ≡ true). let below = ltb-true n n e in absurd (omega (arith, below))) (λ (e : nat_lt n n ≡ false). e) (cases_Bool (nat_lt n n))

pub not_below : (n : ℕ) → nat_lt n (n + 0) ≡ false
not_below n = let same : n + 0 ≡ n = omega arith in ap (nat_lt n) same ∙ not_under n

-- the number of a database that is there is one of the catalog's
pub number_there : (rows : Rows) (db : List ℕ) → number_named rows db ≢ 0 → has_number (numbers_of rows) (number_named rows db) ≡ true
number_there rows db has =
    let number : ℕ = number_named rows db in
    let row = row_named rows db has in
    let itself : (catalog_number row.0.1 == number) ≡ true = ap (λ (n : ℕ). n == number) row.2 ∙ same_itself number in
    ap (λ (b : Bool). (number == 0) || b)
    (list_any-map (λ (r : Row). catalog_number r.1) (λ n. n == number) (rows 0)
    ∙ any_found (λ (r : Row). is_eq (name_cmp r.0 (plain_name db))) (λ r. catalog_number r.1 == number) (rows 0) row.0 row.1 itself)
    ∙ or_true (number == 0)
