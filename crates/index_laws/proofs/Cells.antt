-- What a key of a primary or a name of an index finds after changes: it depends on what it found before alone, and stays where no change is of it.
use Rattle.std.proofs.Common.{◌≡◌, ℕ, List, [], ◌∷◌, false, cond, refl, ap, sym, ◌∙◌}
use Rattle.std.proofs.lemmas.Bool.{cond-false, and_right}
use Rattle.je_order.specs.Order.{is_same_bytes}
use Rattle.je_order.specs.declared.name.Name.{Name}
use Rattle.store_model.specs.declared.kind.Kind.TheVariants.{Plain, Dup}
use Rattle.store_model.specs.declared.record_change.RecordChange.{RecordChange}
use Rattle.store_model.specs.Store.{Pair, pairs_changed, all_pairs_changed, changed_name, data_after}
use Rattle.store_model.specs.Indexes.{data_under}
use Rattle.store_model.proofs.Rows.{is_name, row, left_by, row_changed}
use Rattle.store_model.proofs.IndexLaws.{both_same, data_changed}
use Rattle.index_laws.specs.Keeping.{HasNoneOf, HasNoPairOf}

pub data_alike : (changes : List RecordChange) (key : List ℕ) (xs ys : List Pair) → data_under key xs ≡ data_under key ys →
    data_under key (all_pairs_changed Plain changes xs) ≡ data_under key (all_pairs_changed Plain changes ys)
data_alike [] key xs ys e = e
data_alike (c ∷ changes) key xs ys e =
    data_alike changes key (pairs_changed Plain c xs) (pairs_changed Plain c ys)
    (data_changed c key xs ∙ ap (cond (is_same_bytes (changed_name c).key key) (data_after c)) e ∙ sym (data_changed c key ys))

pub data_stays : (changes : List RecordChange) (key : List ℕ) (xs : List Pair) → HasNoneOf key changes → data_under key (all_pairs_changed Plain changes xs) ≡ data_under key xs
data_stays [] key xs none = refl
data_stays (c ∷ changes) key xs none =
    data_stays changes key (pairs_changed Plain c xs) none.1 ∙ data_changed c key xs ∙ cond-false (is_same_bytes (changed_name c).key key) (data_after c) (data_under key xs) none.0

pub row_alike : (changes : List RecordChange) (n : Name) (xs ys : List Pair) → row Dup n xs ≡ row Dup n ys →
    row Dup n (all_pairs_changed Dup changes xs) ≡ row Dup n (all_pairs_changed Dup changes ys)
row_alike [] n xs ys e = e
row_alike (c ∷ changes) n xs ys e =
    row_alike changes n (pairs_changed Dup c xs) (pairs_changed Dup c ys)
    (row_changed Dup c n xs ∙ ap (cond (is_name (changed_name c) n) (left_by Dup c)) e ∙ sym (row_changed Dup c n ys))

other_pair : (a n : Name) → is_same_bytes a.dup n.dup ≡ false → is_name a n ≡ false
other_pair a n h = both_same a.key a.dup n ∙ and_right (is_same_bytes a.key n.key) (is_same_bytes a.dup n.dup) h

pub row_stays : (changes : List RecordChange) (n : Name) (xs : List Pair) → HasNoPairOf n.dup changes → row Dup n (all_pairs_changed Dup changes xs) ≡ row Dup n xs
row_stays [] n xs none = refl
row_stays (c ∷ changes) n xs none =
    row_stays changes n (pairs_changed Dup c xs) none.1 ∙ row_changed Dup c n xs ∙ cond-false (is_name (changed_name c) n) (left_by Dup c) (row Dup n xs) (other_pair (changed_name c) n none.0)
