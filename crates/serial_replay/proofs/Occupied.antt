-- Occupied names: those that have a record, or that a transaction under way wrote.
use Rattle.std.proofs.Common.{◌≡◌, ◌⊎◌, inl, inr, ℕ, ◌==◌, Bool, true, false, List, [], ◌∷◌, ◌++◌, map, filter, refl, ap, ap₂, sym, ◌∙◌, subst, ⊎_elim, arith, Ordering, Less, Equal, Greater, is_lt, is_gt}
use Rattle.std.specs.List.{flat_map, AllByRecursion}
use Rattle.std.proofs.lemmas.Bool.{cases_Bool, cond-true, cond-false, eqb-true}
use Rattle.std.proofs.lemmas.Bool.Decides.{nat_tests}
use Rattle.je_order.specs.Order.{name_cmp}
use Rattle.je_order.specs.declared.name.Name.{Name}
use Rattle.je_order.proofs.Orderings.{name_exact}
use Rattle.je_order.proofs.TxnIds.{same_is}
use Rattle.je_order.specs.Transactions.{is_same_txn}
use Rattle.store_model.specs.declared.kind.Kind.{Kind}
use Rattle.store_model.specs.declared.record_change.RecordChange.{RecordChange}
use Rattle.store_model.specs.Store.{Pair, name_of}
use Rattle.store_model.specs.Indexes.{Numbered}
use Rattle.store_model.specs.Needs.{changed_name}
use Rattle.je_answers.specs.declared.active.Active.{Active}
use Rattle.je_answers.specs.Standing.{Standing}
use Rattle.je_answers.specs.Views.{of_db, all_own, names_with, names_with_all, occupied_in}
use Rattle.standing_laws.specs.Right.{AreSound, is_active, txn_id}
use Rattle.standing_laws.proofs.Among.{IsAmong, among_append, among_first, among_second, among_filter, filter_among, among_map, mapped_among, any_some}
use Rattle.serial_replay.proofs.Rising.{RisesBy, rises_put}

-- ---- what is occupied

abbrev pub Owns : Type 0
Owns = ℕ → List (ℕ × RecordChange)

pub record HasRecord (kind : Kind) (pairs : List Pair) (x : Name) : Type 0 where
  pub pair : Pair
  pub there : IsAmong pair pairs
  pub named : name_of kind pair ≡ x

pub record IsWritten (own : Owns) (n : ℕ) (x : Name) : Type 0 where
  pub txn : ℕ
  pub change : RecordChange
  pub there : IsAmong (n, change) (own txn)
  pub named : changed_name change ≡ x

abbrev pub IsOccupied : Kind → List Pair → Owns → ℕ → Name → Type 0
IsOccupied kind pairs own n x = HasRecord kind pairs x ⊎ IsWritten own n x

-- ---- lists of names

with_is : (n x : Name) (names : List Name) → IsAmong x (names_with n names) → (n ≡ x) ⊎ IsAmong x names
with_is n x names a = by (among_append (filter (λ m. is_lt (name_cmp m n)) names) (n ∷ filter (λ m. is_gt (name_cmp m n)) names) x a)
  where
    by : IsAmong x (filter (λ m. is_lt (name_cmp m n)) names) ⊎ IsAmong x (n ∷ filter (λ m. is_gt (name_cmp m n)) names) → (n ≡ x) ⊎ IsAmong x names
    by (inl k) = inr (filter_among (λ m. is_lt (name_cmp m n)) names x k).0
    by (inr (inl e)) = inl e
    by (inr (inr k)) = inr (filter_among (λ m. is_gt (name_cmp m n)) names x k).0

with_has : (n x : Name) (names : List Name) → IsAmong x names → IsAmong x (names_with n names)
with_has n x names a = by (name_cmp x n) refl
  where
    low : Name → Bool
    low m = is_lt (name_cmp m n)

    high : Name → Bool
    high m = is_gt (name_cmp m n)

    by : (o : Ordering) → name_cmp x n ≡ o → IsAmong x (names_with n names)
    by Less e = among_first (filter low names) (n ∷ filter high names) x (among_filter low names x a (ap is_lt e))
    by Equal e = among_second (filter low names) (n ∷ filter high names) x (inl (sym (name_exact x n e)))
    by Greater e = among_second (filter low names) (n ∷ filter high names) x (inr (among_filter high names x a (ap is_gt e)))

with_it : (n : Name) (names : List Name) → IsAmong n (names_with n names)
with_it n names = among_second (filter (λ m. is_lt (name_cmp m n)) names) (n ∷ filter (λ m. is_gt (name_cmp m n)) names) n (inl refl)

with_rises : (n : Name) (names : List Name) → RisesBy (λ m. m) names → RisesBy (λ m. m) (names_with n names)
with_rises n names up = rises_put (λ (m : Name). m) n n names refl up

-- a name of a list of changes
abbrev IsOneOf : Name → List RecordChange → Type 0
IsOneOf x cs = (c : RecordChange) × IsAmong c cs × (changed_name c ≡ x)

all_is : (cs : List RecordChange) (x : Name) (names : List Name) → IsAmong x (names_with_all cs names) → IsAmong x names ⊎ IsOneOf x cs
all_is [] x names a = inl a
all_is (c ∷ cs) x names a = by (all_is cs x (names_with (changed_name c) names) a)
  where
    first : (changed_name c ≡ x) ⊎ IsAmong x names → IsAmong x names ⊎ IsOneOf x (c ∷ cs)
    first (inl e) = inr (c, inl refl, e)
    first (inr k) = inl k

    by : IsAmong x (names_with (changed_name c) names) ⊎ IsOneOf x cs → IsAmong x names ⊎ IsOneOf x (c ∷ cs)
    by (inl k) = first (with_is (changed_name c) x names k)
    by (inr k) = inr (k.0, inr k.1, k.2)

all_has : (cs : List RecordChange) (x : Name) (names : List Name) → IsAmong x names → IsAmong x (names_with_all cs names)
all_has [] x names a = a
all_has (c ∷ cs) x names a = all_has cs x (names_with (changed_name c) names) (with_has (changed_name c) x names a)

all_them : (cs : List RecordChange) (c : RecordChange) (names : List Name) → IsAmong c cs → IsAmong (changed_name c) (names_with_all cs names)
all_them [] c names a = absurd a
all_them (d ∷ cs) c names (inl e) = all_has cs (changed_name c) (names_with (changed_name d) names) (subst (λ (k : RecordChange). IsAmong (changed_name k) (names_with (changed_name d) names)) e (with_it (changed_name d) names))
all_them (d ∷ cs) c names (inr a) = all_them cs c (names_with (changed_name d) names) a

all_rises : (cs : List RecordChange) (names : List Name) → RisesBy (λ m. m) names → RisesBy (λ m. m) (names_with_all cs names)
all_rises [] names up = up
all_rises (c ∷ cs) names up = all_rises cs (names_with (changed_name c) names) (with_rises (changed_name c) names up)

-- ---- changes of one database

same_number : (n : ℕ) → (n == n) ≡ true
same_number n = grind (arith, nat_tests)

pub of_db_is : (n : ℕ) (own : List (ℕ × RecordChange)) (c : RecordChange) → IsAmong c (of_db n own) → IsAmong (n, c) own
of_db_is n [] c a = absurd a
of_db_is n (d ∷ own) c a = ⊎_elim
    (λ e. here e (subst (IsAmong c) (cond-true (d.0 == n) (d.1 ∷ of_db n own) (of_db n own) e) a) (λ k. of_db_is n own c k))
    (λ e. inr (of_db_is n own c (subst (IsAmong c) (cond-false (d.0 == n) (d.1 ∷ of_db n own) (of_db n own) e) a)))
    (cases_Bool (d.0 == n))
  where
    make : ℕ → RecordChange → ℕ × RecordChange
    make m k = (m, k)

    here : (d.0 == n) ≡ true → IsAmong c (d.1 ∷ of_db n own) → (IsAmong c (of_db n own) → IsAmong (n, c) own) → IsAmong (n, c) (d ∷ own)
    here e (inl k) more = inl (pair (eqb-true d.0 n e) k)
      where
        pair : d.0 ≡ n → d.1 ≡ c → d ≡ (n, c)
        pair a b = ap₂ (λ (x : ℕ) (y : RecordChange). (x, y)) a b
    here e (inr k) more = inr (more k)

pub of_db_has : (n : ℕ) (own : List (ℕ × RecordChange)) (c : RecordChange) → IsAmong (n, c) own → IsAmong c (of_db n own)
of_db_has n [] c a = absurd a
of_db_has n (d ∷ own) c (inl e) =
    subst (IsAmong c) (sym (cond-true (d.0 == n) (d.1 ∷ of_db n own) (of_db n own) (ap (λ (k : ℕ × RecordChange). k.0 == n) e ∙ same_number n))) (inl (ap (λ (k : ℕ × RecordChange). k.1) e))
of_db_has n (d ∷ own) c (inr a) = ⊎_elim
    (λ e. subst (IsAmong c) (sym (cond-true (d.0 == n) (d.1 ∷ of_db n own) (of_db n own) e)) (inr (of_db_has n own c a)))
    (λ e. subst (IsAmong c) (sym (cond-false (d.0 == n) (d.1 ∷ of_db n own) (of_db n own) e)) (of_db_has n own c a))
    (cases_Bool (d.0 == n))

pub of_db_append : (n : ℕ) (own more : List (ℕ × RecordChange)) → of_db n (own ++ more) ≡ of_db n own ++ of_db n more
of_db_append n [] more = refl
of_db_append n (d ∷ own) more = ⊎_elim
    (λ e. cond-true (d.0 == n) (d.1 ∷ of_db n (own ++ more)) (of_db n (own ++ more)) e ∙ (ap (λ (l : List RecordChange). d.1 ∷ l) (of_db_append n own more) ∙ ap (λ (l : List RecordChange). l ++ of_db n more) (sym (cond-true (d.0 == n) (d.1 ∷ of_db n own) (of_db n own) e))))
    (λ e. cond-false (d.0 == n) (d.1 ∷ of_db n (own ++ more)) (of_db n (own ++ more)) e ∙ (of_db_append n own more ∙ ap (λ (l : List RecordChange). l ++ of_db n more) (sym (cond-false (d.0 == n) (d.1 ∷ of_db n own) (of_db n own) e))))
    (cases_Bool (d.0 == n))

-- ---- lists made of lists

pub flat_is : {X Y : Type 0} (f : X → List Y) (xs : List X) (y : Y) → IsAmong y (flat_map f xs) → (x : X) × IsAmong x xs × IsAmong y (f x)
flat_is f [] y a = absurd a
flat_is {X} {Y} f (x ∷ xs) y a = by (among_append (f x) (flat_map f xs) y a) (λ k. flat_is f xs y k)
  where
    by : IsAmong y (f x) ⊎ IsAmong y (flat_map f xs) → (IsAmong y (flat_map f xs) → (z : X) × IsAmong z xs × IsAmong y (f z)) → (z : X) × IsAmong z (x ∷ xs) × IsAmong y (f z)
    by (inl k) more = (x, inl refl, k)
    by (inr k) more = let r = more k in (r.0, inr r.1, r.2)

pub flat_has : {X Y : Type 0} (f : X → List Y) (xs : List X) (x : X) (y : Y) → IsAmong x xs → IsAmong y (f x) → IsAmong y (flat_map f xs)
flat_has f [] x y a b = absurd a
flat_has f (z ∷ zs) x y (inl e) b = among_first (f z) (flat_map f zs) y (subst (λ w. IsAmong y (f w)) (sym e) b)
flat_has f (z ∷ zs) x y (inr a) b = among_second (f z) (flat_map f zs) y (flat_has f zs x y a b)

-- ---- the occupied names of a database

-- who has changes is under way
pub owner_is_active : (st : Standing) (t : ℕ) (c : ℕ × RecordChange) → AreSound st → IsAmong c (st.own t) → (a : Active) × IsAmong a st.actives × (a.txn ≡ txn_id t)
owner_is_active st t c sound there = by (is_active (txn_id t) st.actives) refl
  where
    by : (b : Bool) → is_active (txn_id t) st.actives ≡ b → (a : Active) × IsAmong a st.actives × (a.txn ≡ txn_id t)
    by true e = let r = any_some (λ (a : Active). is_same_txn (txn_id t) a.txn) st.actives e in (r.0, r.1, sym (same_is (txn_id t) r.0.txn r.2))
    by false e = absurd (subst (IsAmong c) (sound.own_active t e) there)

pub occupied_is : (st : Standing) (d : Numbered) (x : Name) → IsAmong x (occupied_in st d) → IsOccupied d.1.kind d.1.pairs st.own d.0 x
occupied_is st d x a = by (all_is (of_db d.0 (all_own st)) x (map (name_of d.1.kind) d.1.pairs) a)
  where
    by : IsAmong x (map (name_of d.1.kind) d.1.pairs) ⊎ IsOneOf x (of_db d.0 (all_own st)) → IsOccupied d.1.kind d.1.pairs st.own d.0 x
    by (inl k) = let r = mapped_among (name_of d.1.kind) d.1.pairs x k in inl (record { pair = r.0; there = r.1; named = r.2 })
    by (inr k) = let f = flat_is (λ (b : Active). st.own b.txn.0) st.actives (d.0, k.0) (of_db_is d.0 (all_own st) k.0 k.1) in inr (record { txn = f.0.txn.0; change = k.0; there = f.2; named = k.2 })

pub occupied_has : (st : Standing) (d : Numbered) (x : Name) → AreSound st → IsOccupied d.1.kind d.1.pairs st.own d.0 x → IsAmong x (occupied_in st d)
occupied_has st d x sound (inl r) = all_has (of_db d.0 (all_own st)) x (map (name_of d.1.kind) d.1.pairs)
    (subst (λ (n : Name). IsAmong n (map (name_of d.1.kind) d.1.pairs)) r.named (among_map (name_of d.1.kind) d.1.pairs r.pair r.there))
occupied_has st d x sound (inr w) =
    let a = owner_is_active st w.txn (d.0, w.change) sound w.there in
    subst (λ (n : Name). IsAmong n (occupied_in st d)) w.named
    (all_them (of_db d.0 (all_own st)) w.change (map (name_of d.1.kind) d.1.pairs)
    (of_db_has d.0 (all_own st) w.change (flat_has (λ (b : Active). st.own b.txn.0) st.actives a.0 (d.0, w.change) a.1
    (subst (λ (m : ℕ). IsAmong (d.0, w.change) (st.own m)) (sym (ap (λ (t : _). t.0) a.2)) w.there))))

names_rise : (kind : Kind) (pairs : List Pair) → RisesBy (name_of kind) pairs → RisesBy (λ m. m) (map (name_of kind) pairs)
names_rise kind [] up = tt
names_rise kind (p ∷ pairs) up = (all_names pairs up.0, names_rise kind pairs up.1)
  where
    all_names : (ps : List Pair) → AllByRecursion (λ q. name_cmp (name_of kind p) (name_of kind q) ≡ Less) ps → AllByRecursion (λ m. name_cmp (name_of kind p) m ≡ Less) (map (name_of kind) ps)
    all_names [] h = tt
    all_names (q ∷ ps) h = (h.0, all_names ps h.1)

pub occupied_rises : (st : Standing) (d : Numbered) → RisesBy (name_of d.1.kind) d.1.pairs → RisesBy (λ m. m) (occupied_in st d)
occupied_rises st d up = all_rises (of_db d.0 (all_own st)) (map (name_of d.1.kind) d.1.pairs) (names_rise d.1.kind d.1.pairs up)
