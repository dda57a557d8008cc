-- What transactions wrote, where room was made and names were put there.
use Rattle.std.proofs.Common.{◌≡◌, ◌+◌, ◌++◌, ◌∙◌, ℕ, List, cond, ap}
use Rattle.je_order.specs.declared.txn_id.TxnId.{TxnId}
use Rattle.je_order.specs.Transactions.{is_same_txn}
use Rattle.record_tree.specs.declared.tree_name.TreeName.{TreeName}
use Rattle.environment.specs.declared.written.OwnNames.{OwnNames}
use Rattle.environment.specs.Written.{first_at, first_for, first_noted, had_at, names_at}

abbrev Entries : Type 0
Entries = List (TxnId × OwnNames)

pub names_through : (old roomy new : Entries) (txn : TxnId) (more : List TreeName) → ((t : TxnId) → names_at t roomy ≡ names_at t old) →
    ((t : TxnId) → names_at t new ≡ cond (is_same_txn txn t) (names_at txn roomy ++ more) (names_at t roomy)) →
    (t : TxnId) → names_at t new ≡ cond (is_same_txn txn t) (names_at txn old ++ more) (names_at t old)
names_through old roomy new txn more same is t =
    is t ∙ ap (λ (l : List TreeName). cond (is_same_txn txn t) (l ++ more) (names_at t roomy)) (same txn) ∙ ap (λ (l : List TreeName). cond (is_same_txn txn t) (names_at txn old ++ more) l) (same t)

pub had_through : (old roomy new : Entries) (txn : TxnId) (more count : ℕ) → more ≡ count → ((t : TxnId) → had_at t roomy ≡ had_at t old) →
    ((t : TxnId) → had_at t new ≡ cond (is_same_txn txn t) (had_at txn roomy + more) (had_at t roomy)) →
    (t : TxnId) → had_at t new ≡ cond (is_same_txn txn t) (had_at txn old + count) (had_at t old)
had_through old roomy new txn more count counted same is t =
    is t ∙ ap (λ (n : ℕ). cond (is_same_txn txn t) (n + more) (had_at t roomy)) (same txn) ∙ ap (λ (n : ℕ). cond (is_same_txn txn t) (had_at txn old + more) n) (same t)
    ∙ ap (λ (n : ℕ). cond (is_same_txn txn t) (had_at txn old + n) (had_at t old)) counted

pub firsts_through : (old roomy new : Entries) (txn : TxnId) (more : List TreeName) (first : ℕ) → ((t : TxnId) → names_at t roomy ≡ names_at t old) → ((t : TxnId) → first_at t roomy ≡ first_at t old) →
    ((t : TxnId) → first_at t new ≡ cond (is_same_txn txn t) (first_noted (names_at txn roomy ++ more) (first_for (names_at txn roomy) (first_at txn roomy) first)) (first_at t roomy)) →
    (t : TxnId) → first_at t new ≡ cond (is_same_txn txn t) (first_noted (names_at txn old ++ more) (first_for (names_at txn old) (first_at txn old) first)) (first_at t old)
firsts_through old roomy new txn more first names same is t =
    is t
    ∙ ap (λ (l : List TreeName). cond (is_same_txn txn t) (first_noted (l ++ more) (first_for l (first_at txn roomy) first)) (first_at t roomy)) (names txn)
    ∙ ap (λ (n : ℕ). cond (is_same_txn txn t) (first_noted (names_at txn old ++ more) (first_for (names_at txn old) n first)) (first_at t roomy)) (same txn)
    ∙ ap (λ (n : ℕ). cond (is_same_txn txn t) (first_noted (names_at txn old ++ more) (first_for (names_at txn old) (first_at txn old) first)) n) (same t)
