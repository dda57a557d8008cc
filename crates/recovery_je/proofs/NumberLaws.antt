-- The greatest numbers in the entries of a log.
use Rattle.std.proofs.Common.{◌≡◌, ℕ, max, nat_le, Bool, true, false, cond, List, [], ◌∷◌, refl, sym, ap, ◌∙◌, arith}
use Rattle.log_replay.specs.Replay.{txn_in}
use Rattle.log_trees.specs.Placed.{Placed}
use Rattle.log_meaning.specs.Redo.{from}
use Rattle.log_meaning.specs.Meaning.{most, node_number, db_number}
use Rattle.recovery_je.specs.declared.numbers.Numbers.{Numbers}
use Rattle.recovery_je.specs.Numbers.{with_entry, with_placed, none_numbered, numbers_over}

max_later : (a b c : ℕ) → max (max a b) c ≡ max a (max b c)
max_later a b c = omega arith

max_zero : (a : ℕ) → max a 0 ≡ a
max_zero a = omega arith

zero_max : (a : ℕ) → max 0 a ≡ a
zero_max a = omega arith

pub over_txn : (r : ℕ) (es : List Placed) (n : Numbers) → (numbers_over r es n).txn ≡ max n.txn (most (λ p. txn_in p.1) (from r es))
over_txn r [] n = sym (max_zero n.txn)
over_txn r (p ∷ es) n = over_txn r es (with_placed r p n) ∙ by_test (nat_le r p.0)
  where
    by_test : (b : Bool) → max (cond b (with_entry p.1 n) n).txn (most (λ (q : Placed). txn_in q.1) (from r es)) ≡ max n.txn (most (λ (q : Placed). txn_in q.1) (cond b (p ∷ from r es) (from r es)))
    by_test true = max_later n.txn (txn_in p.1) (most (λ (q : Placed). txn_in q.1) (from r es))
    by_test false = refl

pub over_node : (r : ℕ) (es : List Placed) (n : Numbers) → (numbers_over r es n).node ≡ max n.node (most (λ p. node_number p.1) (from r es))
over_node r [] n = sym (max_zero n.node)
over_node r (p ∷ es) n = over_node r es (with_placed r p n) ∙ by_test (nat_le r p.0)
  where
    by_test : (b : Bool) → max (cond b (with_entry p.1 n) n).node (most (λ (q : Placed). node_number q.1) (from r es)) ≡ max n.node (most (λ (q : Placed). node_number q.1) (cond b (p ∷ from r es) (from r es)))
    by_test true = max_later n.node (node_number p.1) (most (λ (q : Placed). node_number q.1) (from r es))
    by_test false = refl

pub over_db : (r : ℕ) (es : List Placed) (n : Numbers) → (numbers_over r es n).db ≡ max n.db (most (λ p. db_number p.1) (from r es))
over_db r [] n = sym (max_zero n.db)
over_db r (p ∷ es) n = over_db r es (with_placed r p n) ∙ by_test (nat_le r p.0)
  where
    by_test : (b : Bool) → max (cond b (with_entry p.1 n) n).db (most (λ (q : Placed). db_number q.1) (from r es)) ≡ max n.db (most (λ (q : Placed). db_number q.1) (cond b (p ∷ from r es) (from r es)))
    by_test true = max_later n.db (db_number p.1) (most (λ (q : Placed). db_number q.1) (from r es))
    by_test false = refl

pub from_none_txn : (r : ℕ) (es left : List Placed) (n : Numbers) → left ≡ [] → numbers_over r left n ≡ numbers_over r es none_numbered → n.txn ≡ most (λ p. txn_in p.1) (from r es)
from_none_txn r es left n none is =
    ap (λ (m : Numbers). m.txn) (ap (λ (l : List Placed). numbers_over r l n) (sym none) ∙ is) ∙ over_txn r es none_numbered ∙ zero_max (most (λ (p : Placed). txn_in p.1) (from r es))

pub from_none_node : (r : ℕ) (es left : List Placed) (n : Numbers) → left ≡ [] → numbers_over r left n ≡ numbers_over r es none_numbered → n.node ≡ most (λ p. node_number p.1) (from r es)
from_none_node r es left n none is =
    ap (λ (m : Numbers). m.node) (ap (λ (l : List Placed). numbers_over r l n) (sym none) ∙ is) ∙ over_node r es none_numbered ∙ zero_max (most (λ (p : Placed). node_number p.1) (from r es))

pub from_none_db : (r : ℕ) (es left : List Placed) (n : Numbers) → left ≡ [] → numbers_over r left n ≡ numbers_over r es none_numbered → n.db ≡ most (λ p. db_number p.1) (from r es)
from_none_db r es left n none is =
    ap (λ (m : Numbers). m.db) (ap (λ (l : List Placed). numbers_over r l n) (sym none) ∙ is) ∙ over_db r es none_numbered ∙ zero_max (most (λ (p : Placed). db_number p.1) (from r es))
