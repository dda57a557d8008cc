-- Two numbers of one transaction.
use Rattle.std.proofs.Common.{◌≡◌, ℕ, true, ap, arith, is_eq}
use Rattle.std.specs.Ordering.{nat_cmp}
use Rattle.std.proofs.lemmas.Bool.{eqb-true}
use Rattle.std.proofs.lemmas.Bool.Decides.{nat_tests}
use Rattle.je_order.specs.Transactions.{is_same_txn}
use Rattle.je_order.specs.declared.txn_id.TxnId.{TxnId}

-- they are equal
pub same_is : (x y : TxnId) → is_same_txn x y ≡ true → x ≡ y
same_is x y h = ap (λ (n : ℕ). record { 0 = n }) (eqb-true x.0 y.0 h)

-- a number is that of its own transaction
pub same_itself : (x : TxnId) → is_same_txn x x ≡ true
same_itself x = grind (arith, nat_tests)

-- in either order
pub same_either : (x y : TxnId) → is_same_txn x y ≡ is_same_txn y x
same_either x y = grind (arith, nat_tests)

-- the order of numbers tells the same
pub at_same : (x y : TxnId) → is_eq (nat_cmp x.0 y.0) ≡ is_same_txn x y
at_same x y = grind (arith, nat_tests)
