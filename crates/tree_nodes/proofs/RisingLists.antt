-- Lists whose names rise.
use Rattle.std.proofs.Common.{◌≡◌, ◌⊎◌, List, [], ◌∷◌, ◌++◌, false, None, Some, refl, ap, ap₂, sym, subst, ◌∙◌, inl, inr, Ordering, Less, Equal, Greater, is_eq}
use Rattle.std.specs.List.{AllByRecursion}
use Rattle.std.specs.List.Sorted.{IsStrictlySortedBy}
use Rattle.std.specs.Map.{keys_of}
use Rattle.std.specs.Ordering.{ordering_reverse}
use Rattle.std.proofs.lemmas.Option.{none-some, same_Some}
use Rattle.je_order.specs.Order.{name_cmp}
use Rattle.je_order.specs.declared.name.Name.{Name}
use Rattle.record_map.specs.Held.{names_are_ordered}
use Rattle.record_map.specs.Cells.{value_at, IsRising}
use Rattle.record_map.proofs.NameLaws.{same_or_other, name_exact, other_stays, same_gets}

-- a name before all others has nothing
pub none_behind : {V : Type 0} (x : Name) (row : List (Name × V)) → AllByRecursion (λ y. name_cmp x y ≡ Less) (keys_of row) → value_at x row ≡ None
none_behind x [] all = refl
none_behind x (e ∷ row) all =
    other_stays x e.0 (Some e.1) (value_at x row) (ap is_eq all.0) ∙ none_behind x row all.1

below_all : (q y : Name) (names : List Name) → name_cmp q y ≡ Less → AllByRecursion (λ z. name_cmp y z ≡ Less) names → AllByRecursion (λ z. name_cmp q z ≡ Less) names
below_all q y [] less all = tt
below_all q y (z ∷ names) less all = (names_are_ordered.trans q y z less all.0, below_all q y names less all.1)

head_found : {V : Type 0} (e : Name × V) (row : List (Name × V)) → value_at e.0 (e ∷ row) ≡ Some e.1
head_found e row = same_gets e.0 (Some e.1) (value_at e.0 row)

less_first : {V : Type 0} (q : Name) (e : Name × V) (row : List (Name × V)) → IsRising (e ∷ row) → name_cmp q e.0 ≡ Less → value_at q (e ∷ row) ≡ None
unfolding IsStrictlySortedBy
less_first q e row up less = none_behind q (e ∷ row) (less, below_all q e.0 (keys_of row) less up.0)

tails_same : {V : Type 0} (e f : Name × V) (a b : List (Name × V)) → e.0 ≡ f.0 → IsRising (e ∷ a) → IsRising (f ∷ b) → ((q : Name) → value_at q (e ∷ a) ≡ value_at q (f ∷ b)) → (q : Name) → value_at q a ≡ value_at q b
unfolding IsStrictlySortedBy
tails_same e f a b same up_a up_b h q = by_name (same_or_other q e.0)
  where
    by_name : (q ≡ e.0) ⊎ (is_eq (name_cmp q e.0) ≡ false) → value_at q a ≡ value_at q b
    by_name (inl is) =
        subst (λ (y : Name). value_at y a ≡ None) (sym is) (none_behind e.0 a up_a.0)
        ∙ sym (subst (λ (y : Name). value_at y b ≡ None) (sym same ∙ sym is) (none_behind f.0 b up_b.0))
    by_name (inr apart) =
        sym (other_stays q e.0 (Some e.1) (value_at q a) apart) ∙ h q ∙ other_stays q f.0 (Some f.1) (value_at q b) (subst (λ (y : Name). is_eq (name_cmp q y) ≡ false) same apart)

-- lists that rise, and in which each name finds the same, are the same
pub same_lists : {V : Type 0} (a b : List (Name × V)) → IsRising a → IsRising b → ((q : Name) → value_at q a ≡ value_at q b) → a ≡ b
unfolding IsStrictlySortedBy
same_lists [] [] up_a up_b h = refl
same_lists [] (f ∷ b) up_a up_b h = absurd (none-some f.1 (h f.0 ∙ head_found f b))
same_lists (e ∷ a) [] up_a up_b h = absurd (none-some e.1 (sym (h e.0) ∙ head_found e a))
same_lists {V} (e ∷ a) (f ∷ b) up_a up_b h = by_order (name_cmp e.0 f.0) refl (λ tails. same_lists a b up_a.1 up_b.1 tails)
  where
    by_order : (o : Ordering) → name_cmp e.0 f.0 ≡ o → (((q : Name) → value_at q a ≡ value_at q b) → a ≡ b) → e ∷ a ≡ f ∷ b
    by_order Less is rest = absurd (none-some e.1 (sym (less_first e.0 f b up_b is) ∙ sym (h e.0) ∙ head_found e a))
    by_order Equal is rest =
        let same : e.0 ≡ f.0 = name_exact e.0 f.0 is in
        let there : value_at e.0 (f ∷ b) ≡ Some f.1 = ap (λ (y : Name). value_at y (f ∷ b)) same ∙ head_found f b in
        let values : e.1 ≡ f.1 = same_Some e.1 f.1 (sym (head_found e a) ∙ h e.0 ∙ there) in
        ap₂ (λ (x : Name × V) (l : List (Name × V)). x ∷ l) (ap₂ (λ (n : Name) (v : V). (n, v)) same values) (rest (tails_same e f a b same up_a up_b h))
    by_order Greater is rest =
        let less : name_cmp f.0 e.0 ≡ Less = names_are_ordered.antisymm f.0 e.0 ∙ ap ordering_reverse is in
        absurd (none-some f.1 (sym (less_first f.0 e a up_a less) ∙ h f.0 ∙ head_found f b))

-- what holds of all keys holds of one
one_of : {V : Type 0} (P : Name → Type 0) (front : List (Name × V)) (e : Name × V) (rest : List (Name × V)) → AllByRecursion P (keys_of (front ++ e ∷ rest)) → P e.0
one_of P [] e rest all = all.0
one_of P (f ∷ front) e rest all = one_of P front e rest all.1

-- a name of a list that rises has what stands beside it
pub found_between : {V : Type 0} (front : List (Name × V)) (e : Name × V) (rest : List (Name × V)) → IsRising (front ++ e ∷ rest) → value_at e.0 (front ++ e ∷ rest) ≡ Some e.1
unfolding IsStrictlySortedBy
found_between [] e rest up = head_found e rest
found_between (f ∷ front) e rest up = other_stays e.0 f.0 (Some f.1) (value_at e.0 (front ++ e ∷ rest)) apart ∙ found_between front e rest up.1
  where
    less : name_cmp f.0 e.0 ≡ Less
    less = one_of (λ y. name_cmp f.0 y ≡ Less) front e rest up.0

    apart : is_eq (name_cmp e.0 f.0) ≡ false
    apart = ap is_eq (names_are_ordered.antisymm e.0 f.0 ∙ ap ordering_reverse less)
