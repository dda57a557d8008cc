-- The least of some transactions, in any grouping.
use Rattle.std.proofs.Common.{◌≡◌, ◌<◌, ◌≤◌, nat_le, true, false, Some, None, Option, refl, sym, ap, ◌∙◌, arith}
use Rattle.std.proofs.lemmas.Bool.{cond-true, cond-false}
use Rattle.std.proofs.lemmas.Bool.Decides.{nat_tests}
use Rattle.je_order.specs.declared.txn_id.TxnId.{TxnId}
use Rattle.lock_table.specs.Locks.{lesser}

pub lesser_none : (a : Option TxnId) → lesser a None ≡ a
lesser_none None = refl
lesser_none (Some x) = refl

pub lesser_assoc : (a b c : Option TxnId) → lesser (lesser a b) c ≡ lesser a (lesser b c)
lesser_assoc None b c = refl
lesser_assoc (Some x) None c = refl
lesser_assoc (Some x) (Some y) None = lesser_none (lesser (Some x) (Some y))
lesser_assoc (Some x) (Some y) (Some z) = grind (arith, nat_tests)

-- the first of two, where it is no greater
pub lesser_first : (a : Option TxnId) (x y : TxnId) → a ≡ Some x → x.0 ≤ y.0 → Some x ≡ lesser a (Some y)
lesser_first a x y is within =
    let first : nat_le x.0 y.0 ≡ true = grind (arith, nat_tests) in
    sym (ap (λ (o : Option TxnId). lesser o (Some y)) is ∙ cond-true (nat_le x.0 y.0) (Some x) (Some y) first)

-- the second of two, where it is less
pub lesser_second : (a : Option TxnId) (x y : TxnId) → a ≡ Some x → y.0 < x.0 → Some y ≡ lesser a (Some y)
lesser_second a x y is less =
    let second : nat_le x.0 y.0 ≡ false = grind (arith, nat_tests) in
    sym (ap (λ (o : Option TxnId). lesser o (Some y)) is ∙ cond-false (nat_le x.0 y.0) (Some x) (Some y) second)
