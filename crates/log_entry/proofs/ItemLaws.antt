-- Lists that are read, looked through and written item by item.
use Rattle.std.proofs.Common.{◌≡◌, ℕ, zero, suc, ◌+◌, ◌-◌, ◌<◌, ◌≤◌, List, [], ◌∷◌, ◌++◌, length, get_or, take, drop, Bool, true, drop-cons, add-one, Result, Ok, Err, Option, Some, None, refl, sym, ap, subst, ◌∙◌, append_assoc, arith}
use Rattle.std.specs.List.{AllByRecursion, flat_map}
use Rattle.std.specs.Prelude.{MatchOption, is_err, ◌&&◌}
use Rattle.std.proofs.lemmas.List.{append-nil, take_more, take_all, take-append-drop}
use Rattle.std.proofs.lemmas.Grind.{flat_map-append}
use Rattle.std.proofs.Math.ListN.{drop_of_length-le}
use Rattle.je_order.specs.Options.{◌>>=◌}
use Rattle.log_entry.specs.Items.{items_in, rises_from}
use Rattle.log_entry.specs.Writing.{Puts}
use Rattle.log_entry.proofs.FieldLaws.{bind_is}
use Rattle.log_entry.proofs.VectorAppends.{puts_behind, puts_stops, puts_same}

-- ---- reading

-- what is read behind items that were read
abbrev pub after : {A : Type 0} → List A → Option (List A × List ℕ) → Option (List A × List ℕ)
after xs o = o >>= λ more. Some (xs ++ more.0, more.1)

after_none : {A : Type 0} (o : Option (List A × List ℕ)) → after [] o ≡ o
after_none (Some more) = refl
after_none None = refl

after_one : {A : Type 0} (xs : List A) (x : A) (o : Option (List A × List ℕ)) → after xs (o >>= λ more. Some (x ∷ more.0, more.1)) ≡ after (xs ++ x ∷ []) o
after_one xs x (Some more) = ap (λ (ys : List _). Some (ys, more.1)) (sym (append_assoc xs (x ∷ []) more.0))
after_one xs x None = refl

-- what one item's reading says, by what it found
pub none_found : {A : Type 0} (item_in : List ℕ → Option (A × List ℕ)) (o : Option A) (old new : List ℕ) → o ≡ None → MatchOption o (item_in old ≡ None) (λ item. item_in old ≡ Some (item, new)) → item_in old ≡ None
none_found item_in None old new is says = says
none_found item_in (Some x) old new is says = absurd cc

pub some_found : {A : Type 0} (item_in : List ℕ → Option (A × List ℕ)) (o : Option A) (x : A) (old new : List ℕ) → o ≡ Some x → MatchOption o (item_in old ≡ None) (λ item. item_in old ≡ Some (item, new)) → item_in old ≡ Some (x, new)
some_found item_in None x old new is says = absurd cc
some_found item_in (Some y) x old new is says = says ∙ ap (λ (z : _). let o : Option (_ × List ℕ) = Some (z, new) in o) (let same : y ≡ x = cc in same)

pub reading_begins : {A : Type 0} (item_in : List ℕ → Option (A × List ℕ)) (count : ℕ) (bytes : List ℕ) → after [] (items_in item_in (count - 0) bytes) ≡ items_in item_in count bytes
reading_begins item_in count bytes =
    let same : count - 0 ≡ count = omega arith in
    after_none (items_in item_in (count - 0) bytes) ∙ ap (λ (n : ℕ). items_in item_in n bytes) same

first_read : {A : Type 0} (item_in : List ℕ → Option (A × List ℕ)) (n : ℕ) (xs : List A) (x : A) (bytes rest : List ℕ) → item_in bytes ≡ Some (x, rest)
    → after xs (items_in item_in (suc n) bytes) ≡ after (xs ++ x ∷ []) (items_in item_in n rest)
unfolding items_in
first_read item_in n xs x bytes rest is =
    ap (after xs) (bind_is (item_in bytes) (λ item. items_in item_in n item.1 >>= λ items. Some (item.0 ∷ items.0, items.1)) (x, rest) is)
    ∙ after_one xs x (items_in item_in n rest)

pub reading_goes_on : {A : Type 0} (item_in : List ℕ → Option (A × List ℕ)) (count i : ℕ) (xs ys : List A) (x : A) (bytes rest : List ℕ) (o : Option (List A × List ℕ)) → i < count
    → item_in bytes ≡ Some (x, rest) → ys ≡ xs ++ x ∷ [] → after xs (items_in item_in (count - i) bytes) ≡ o → after ys (items_in item_in (count - (i + 1)) rest) ≡ o
reading_goes_on item_in count i xs ys x bytes rest o lt is pushed so_far =
    let left : count - i ≡ suc (count - (i + 1)) = omega arith in
    ap (λ (zs : List _). after zs (items_in item_in (count - (i + 1)) rest)) pushed
    ∙ sym (first_read item_in (count - (i + 1)) xs x bytes rest is)
    ∙ ap (λ (n : ℕ). after xs (items_in item_in n bytes)) (sym left) ∙ so_far

none_read : {A : Type 0} (item_in : List ℕ → Option (A × List ℕ)) (n : ℕ) (xs : List A) (bytes : List ℕ) → item_in bytes ≡ None → after xs (items_in item_in (suc n) bytes) ≡ None
unfolding items_in
none_read item_in n xs bytes is = ap (λ (first : Option _). after xs (first >>= λ item. items_in item_in n item.1 >>= λ items. Some (item.0 ∷ items.0, items.1))) is

pub reading_fails : {A : Type 0} (item_in : List ℕ → Option (A × List ℕ)) (count i : ℕ) (xs : List A) (bytes : List ℕ) (o : Option (List A × List ℕ)) → i < count
    → item_in bytes ≡ None → after xs (items_in item_in (count - i) bytes) ≡ o → o ≡ None
reading_fails item_in count i xs bytes o lt is so_far =
    let left : count - i ≡ suc (count - (i + 1)) = omega arith in
    sym so_far ∙ ap (λ (n : ℕ). after xs (items_in item_in n bytes)) left ∙ none_read item_in (count - (i + 1)) xs bytes is

pub reading_ends : {A : Type 0} (item_in : List ℕ → Option (A × List ℕ)) (count i : ℕ) (xs : List A) (bytes : List ℕ) (o : Option (List A × List ℕ)) → count ≤ i
    → after xs (items_in item_in (count - i) bytes) ≡ o → o ≡ Some (xs, bytes)
unfolding items_in
reading_ends item_in count i xs bytes o le so_far =
    let none : count - i ≡ 0 = omega arith in
    sym so_far ∙ ap (λ (n : ℕ). after xs (items_in item_in n bytes)) none ∙ ap (λ (ys : List _). Some (ys, bytes)) (append-nil xs)

-- ---- looking through

from_item : {A : Type 0} (xs : List A) (i : ℕ) (x : A) → i < length xs → x ≡ get_or xs i x → drop i xs ≡ x ∷ drop (i + 1) xs
from_item xs i x lt is = drop-cons xs i x lt ∙ ap (λ (y : _). y ∷ drop (suc i) xs) (sym is) ∙ ap (λ (n : ℕ). x ∷ drop n xs) (sym (add-one i))

-- behind an item that comes after the one before it
pub rising_goes_on : {A : Type 0} (before : A → A → Bool) (xs : List A) (i : ℕ) (last x : A) (all : Bool) → i < length xs → x ≡ get_or xs i x → true ≡ before last x
    → rises_from before last (drop i xs) ≡ all → rises_from before x (drop (i + 1) xs) ≡ all
rising_goes_on before xs i last x all lt is holds so_far =
    ap (λ (b : Bool). b && rises_from before x (drop (i + 1) xs)) holds ∙ ap (rises_from before last) (sym (from_item xs i x lt is)) ∙ so_far

pub rising_ends : {A : Type 0} (before : A → A → Bool) (xs : List A) (i : ℕ) (last : A) (all : Bool) → length xs ≤ i → rises_from before last (drop i xs) ≡ all → true ≡ all
rising_ends before xs i last all le so_far = ap (rises_from before last) (sym (drop_of_length-le xs le)) ∙ so_far

-- ---- writing

-- what holds of each item
pub each_holds : {A : Type 0} (P : A → Type 0) (xs : List A) (i : ℕ) (x : A) → AllByRecursion P xs → i < length xs → x ≡ get_or xs i x → P x
each_holds P [] i x all lt is = absurd (omega arith)
each_holds P (y ∷ ys) zero x all lt is = subst P (sym is) all.0
each_holds P (y ∷ ys) (suc i) x all lt is = each_holds P ys i x all.1 (omega arith) is

-- so many items were put behind what was there, and the room did not shrink
pub record HasPut {A : Type 0} (text : A → List ℕ) (old new : List ℕ) (old_room new_room : ℕ) (xs : List A) (i : ℕ) : Type 0 where
  pub put : new ≡ old ++ flat_map text (take i xs)
  pub room : old_room ≤ new_room

pub one_more : {A : Type 0} (text : A → List ℕ) (xs : List A) (i : ℕ) (x : A) → i < length xs → x ≡ get_or xs i x → flat_map text (take (i + 1) xs) ≡ flat_map text (take i xs) ++ text x
one_more text xs i x lt is =
    ap (flat_map text) (take_more xs i x lt) ∙ flat_map-append text (take i xs) (get_or xs i x ∷ [])
    ∙ ap (λ (y : _). flat_map text (take i xs) ++ (text y ++ [])) (sym is) ∙ ap (λ (t : List ℕ). flat_map text (take i xs) ++ t) (append-nil (text x))

pub putting_goes_on : {A : Type 0} (text : A → List ℕ) (old mid new : List ℕ) (old_room mid_room new_room : ℕ) (xs : List A) (i : ℕ) (x : A) → i < length xs → x ≡ get_or xs i x
    → HasPut text old mid old_room mid_room xs i → new ≡ mid ++ text x → mid_room ≤ new_room → HasPut text old new old_room new_room xs (i + 1)
putting_goes_on text old mid new old_room mid_room new_room xs i x lt is so_far more le =
    let room : old_room ≤ mid_room = so_far.room in
    record {
      put = more ∙ ap (λ (t : List ℕ). t ++ text x) so_far.put ∙ append_assoc old (flat_map text (take i xs)) (text x) ∙ ap (λ (t : List ℕ). old ++ t) (sym (one_more text xs i x lt is));
      room = omega (arith, room, le);
    }

-- all items, with one of them apart
apart : {A : Type 0} (text : A → List ℕ) (xs : List A) (i : ℕ) (x : A) → i < length xs → x ≡ get_or xs i x → flat_map text (take i xs) ++ (text x ++ flat_map text (drop (i + 1) xs)) ≡ flat_map text xs
apart text xs i x lt is =
    sym (append_assoc (flat_map text (take i xs)) (text x) (flat_map text (drop (i + 1) xs)))
    ∙ ap (λ (t : List ℕ). t ++ flat_map text (drop (i + 1) xs)) (sym (one_more text xs i x lt is))
    ∙ sym (flat_map-append text (take (i + 1) xs) (drop (i + 1) xs)) ∙ ap (flat_map text) (take-append-drop (i + 1) xs)

-- where memory ran out at an item
pub items_stop : {A B C E F : Type 0} {e : F} {r : Result B E} {old mid new : List ℕ} {room middle larger : ℕ} (text : A → List ℕ) (xs : List A) (i : ℕ) (x : A) → i < length xs → x ≡ get_or xs i x
    → is_err r ≡ true → HasPut text old mid room middle xs i → Puts (text x) (let failed : Result C F = Err e in failed) mid new middle larger → Puts (flat_map text xs) r old new room larger
items_stop text xs i x lt is failed so_far next =
    puts_same (apart text xs i x lt is) (puts_behind (flat_map text (take i xs)) so_far.put so_far.room (puts_stops (flat_map text (drop (i + 1) xs)) failed next))

pub putting_begins : {A : Type 0} (text : A → List ℕ) (old : List ℕ) (room : ℕ) (xs : List A) → HasPut text old old room room xs 0
putting_begins text old room xs = record { put = sym (append-nil old); room = omega arith }

-- where all items were put
pub items_put : {A C E : Type 0} {v : C} {old new : List ℕ} {room larger : ℕ} (text : A → List ℕ) (xs : List A) (i : ℕ) → length xs ≤ i → HasPut text old new room larger xs i
    → Puts {E = E} (flat_map text xs) (let done : Result C E = Ok v in done) old new room larger
items_put {old = old} text xs i le so_far = record {
  ok = so_far.put ∙ ap (λ (ys : List _). old ++ flat_map text ys) (take_all i xs le);
  err = tt;
  fits = λ _. refl;
  capacity = so_far.room;
}
