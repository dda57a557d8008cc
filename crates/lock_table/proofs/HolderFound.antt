-- The least owner in a database owns a lock on a record that the map finds.
use Rattle.std.proofs.Common.{◌≡◌, ◌<◌, ◌≤◌, ℕ, Bool, cond, true, false, Vec, arith, length, ◌⊎◌, inl, inr, nat_le, List, [], ◌∷◌, map, Some, None, Option, refl, ap, sym, ◌∙◌, subst, ⊎_elim, suc}
use Rattle.std.specs.Prelude.{◌==◌}
use Rattle.std.specs.declared.alloc.Global.{Global}
use Rattle.std.specs.declared.cmp.Ordering.TheVariants.{Less}
use Rattle.std.specs.BTreeMap.{BTreeMap, IsOrdered}
use Rattle.std.specs.List.{filter, list_any, slice_index_or, AllByRecursion}
use Rattle.std.specs.List.Sorted.{IsStrictlySortedBy}
use Rattle.std.specs.Map.{lookup, keys_of}
use Rattle.std.specs.Option.{IfSome, IfNone, is_some, option_map_or, unwrap_or}
use Rattle.std.specs.Ordering.{nat_cmp, is_eq}
use Rattle.std.proofs.lemmas.Bool.Decides.{nat_tests}
use Rattle.std.proofs.lemmas.Bool.{cases_Bool, both_ways, cond-true, cond-false, eqb-true, or_cases, or_left, or_right}
use Rattle.je_order.specs.declared.txn_id.TxnId.{TxnId}
use Rattle.je_order.specs.Transactions.{is_same_txn, txn_cmp}
use Rattle.je_order.proofs.TxnIds.{same_is, same_itself, at_same}
use Rattle.lock_table.specs.declared.lock.Lock.{Lock}
use Rattle.lock_table.specs.declared.record_id.RecordId.{RecordId}
use Rattle.lock_table.specs.contracts.record_id.RecordIdPartialEq.TheImpl.{ghosts as equality}
use Rattle.lock_table.specs.Locks.{has_lock, lesser, least}
use Rattle.lock_table.specs.Records.{is_record, queue_at}
use Rattle.lock_table.specs.Table.{at_db, at_txn, lists_record, is_listed, OwnsIn, IsOut}
use Rattle.lock_table.proofs.LeastTxn.{lesser_none, lesser_first, lesser_second}
use Rattle.lock_table.proofs.DatabaseOwners.{least_owner, least_more}
use Rattle.lock_table.proofs.QueueMaps.{at_equal, record_is}

abbrev Entry : Type 0
Entry = RecordId × (List Lock × List Lock)

one_of : (a b : Option TxnId) (t : TxnId) → lesser a b ≡ Some t → (a ≡ Some t) ⊎ (b ≡ Some t)
one_of None b t e = inr e
one_of (Some x) None t e = inl e
one_of (Some x) (Some y) t e = ⊎_elim
    (λ k. inl (sym (cond-true (nat_le x.0 y.0) (Some x) (Some y) k) ∙ e))
    (λ k. inr (sym (cond-false (nat_le x.0 y.0) (Some x) (Some y) k) ∙ e))
    (cases_Bool (nat_le x.0 y.0))

some_is : (x y : TxnId) → Some x ≡ Some y → x ≡ y
some_is x y e = cc

-- the least is one of them
least_has : (os : List Lock) (t : TxnId) → least (map (λ (o : Lock). o.txn) os) ≡ Some t → has_lock t os ≡ true
least_has [] t e = absurd (cc (e))
least_has (o ∷ os) t e = ⊎_elim
    (λ k. or_left (is_same_txn t o.txn) (has_lock t os) (subst (λ (x : TxnId). is_same_txn t x ≡ true) (sym (some_is o.txn t k)) (same_itself t)))
    (λ k. or_right (is_same_txn t o.txn) (has_lock t os) (least_has os t k))
    (one_of (Some o.txn) (least (map (λ (x : Lock). x.txn) os)) t e)

-- an entry of the least owner
record IsOwnedAt (db : ℕ) (t : TxnId) (P : Entry → Type 0) : Type 0 where
  entry : Entry
  found : P entry
  its : entry.0.db ≡ db
  owns : has_lock t entry.1.0 ≡ true

owned_at : (db : ℕ) (t : TxnId) (P : Entry → Type 0) (es : List Entry) → AllByRecursion P es → least_owner (filter (λ e. e.0.db == db) es) ≡ Some t → IsOwnedAt db t P
owned_at db t P [] all h = absurd (cc (h))
owned_at db t P (e ∷ es) all h = ⊎_elim
    (λ k. ⊎_elim
    (λ a. record { entry = e; found = all.0; its = eqb-true e.0.db db k; owns = least_has e.1.0 t a })
    (λ b. owned_at db t P es all.1 b)
    (one_of (least (map (λ (o : Lock). o.txn) e.1.0)) (least_owner (filter (λ x. x.0.db == db) es)) t
    (least_more None e (filter (λ x. x.0.db == db) es) ∙ (sym (ap least_owner (cond-true (e.0.db == db) (e ∷ filter (λ x. x.0.db == db) es) (filter (λ x. x.0.db == db) es) k)) ∙ h))))
    (λ k. owned_at db t P es all.1 (sym (ap least_owner (cond-false (e.0.db == db) (e ∷ filter (λ x. x.0.db == db) es) (filter (λ x. x.0.db == db) es) k)) ∙ h))
    (cases_Bool (e.0.db == db))

-- each entry is what the map finds at its record
abbrev pub AreFound : List Entry → List Entry → Type 0
AreFound all es = AllByRecursion (λ e. queue_at e.0 all ≡ e.1) es

pub all_found : (all es : List Entry) → ((k : ℕ) (d : Entry) → k < length es → lookup (equality.eq (slice_index_or es k d).0) all ≡ Some (slice_index_or es k d).1) → AreFound all es
all_found all [] h = tt
all_found all (e ∷ es) h = (ap (λ o. unwrap_or o ([], [])) (sym (at_equal e.0 all) ∙ h 0 e (omega arith)), all_found all es (λ k d less. h (suc k) d (omega arith)))

pub least_owns : (db : ℕ) (es : List Entry) → AreFound es es → (o : Option TxnId) → o ≡ least_owner (filter (λ e. e.0.db == db) es) → IfSome o (λ t. OwnsIn db t es)
least_owns db es all None is = tt
least_owns db es all (Some t) is =
    let o = owned_at db t (λ e. queue_at e.0 es ≡ e.1) es all (sym is) in
    record {
      record_ = o.entry.0;
      owns = subst (λ (q : List Lock × List Lock). has_lock t q.0 ≡ true) (sym o.found) o.owns;
      there = o.its;
    }

-- where no record of a database has an owner
pub none_owns : (db : ℕ) (Q : RecordId → List Lock × List Lock) (es : List Entry) → AllByRecursion (λ e. Q e.0 ≡ e.1) es → ((r : RecordId) → r.db ≡ db → Q r ≡ ([], [])) → None ≡ least_owner (filter (λ e. e.0.db == db) es)
none_owns db Q [] all none = refl
none_owns db Q (e ∷ es) all none = ⊎_elim
    (λ k. none_owns db Q es all.1 none ∙ (ap (λ (q : List Lock × List Lock). lesser (lesser None (least (map (λ o. o.txn) q.0))) (least_owner (filter (λ x. x.0.db == db) es))) (sym (none e.0 (eqb-true e.0.db db k)) ∙ all.0)
    ∙ (least_more None e (filter (λ x. x.0.db == db) es) ∙ sym (ap least_owner (cond-true (e.0.db == db) (e ∷ filter (λ x. x.0.db == db) es) (filter (λ x. x.0.db == db) es) k)))))
    (λ k. none_owns db Q es all.1 none ∙ sym (ap least_owner (cond-false (e.0.db == db) (e ∷ filter (λ x. x.0.db == db) es) (filter (λ x. x.0.db == db) es) k)))
    (cases_Bool (e.0.db == db))

same_db : (a b : ℕ) → a ≡ b → (a == b) ≡ true
same_db a b h = grind (arith, nat_tests)

in_order : (a b : ℕ) → (a ≤ b) ⊎ (b < a)
in_order a b = ⊎_elim (λ k. inl (grind (arith, nat_tests, k))) (λ k. inr (grind (arith, nat_tests, k))) (cases_Bool (nat_le a b))

-- the least of the owners in a database is no greater than one of them
record IsNoGreater (o : Option TxnId) (t : TxnId) : Type 0 where
  least_ : TxnId
  is : o ≡ Some least_
  within : least_.0 ≤ t.0

less_left : (a b : Option TxnId) (t : TxnId) → IsNoGreater a t → IsNoGreater (lesser a b) t
less_left a None t n = record { least_ = n.least_; is = lesser_none a ∙ n.is; within = n.within }
less_left a (Some y) t n = ⊎_elim
    (λ k. record { least_ = n.least_; is = sym (lesser_first a n.least_ y n.is k); within = n.within })
    (λ k. record { least_ = y; is = sym (lesser_second a n.least_ y n.is k); within = let w = n.within in omega (arith, k, w) })
    (in_order n.least_.0 y.0)

less_right : (a b : Option TxnId) (t : TxnId) → IsNoGreater b t → IsNoGreater (lesser a b) t
less_right None b t n = n
less_right (Some x) b t n = ⊎_elim
    (λ k. record { least_ = x; is = ap (lesser (Some x)) n.is ∙ sym (lesser_first (Some x) x n.least_ refl k); within = let w = n.within in omega (arith, k, w) })
    (λ k. record { least_ = n.least_; is = ap (lesser (Some x)) n.is ∙ sym (lesser_second (Some x) x n.least_ refl k); within = n.within })
    (in_order x.0 n.least_.0)

less_owner : (t : TxnId) (os : List Lock) → has_lock t os ≡ true → IsNoGreater (least (map (λ (o : Lock). o.txn) os)) t
less_owner t [] h = absurd (both_ways false refl h)
less_owner t (o ∷ os) h = ⊎_elim
    (λ k. less_left (Some o.txn) (least (map (λ (x : Lock). x.txn) os)) t (record { least_ = o.txn; is = refl; within = at_most o.txn t (same_is t o.txn k) }))
    (λ k. less_right (Some o.txn) (least (map (λ (x : Lock). x.txn) os)) t (less_owner t os k))
    (or_cases (is_same_txn t o.txn) (has_lock t os) h)
  where
    at_most : (x y : TxnId) → y ≡ x → x.0 ≤ y.0
    at_most x y e = subst (λ (z : TxnId). x.0 ≤ z.0) (sym e) (omega arith)

less_in : (db : ℕ) (t : TxnId) (r : RecordId) (es : List Entry) → has_lock t (queue_at r es).0 ≡ true → r.db ≡ db → IsNoGreater (least_owner (filter (λ e. e.0.db == db) es)) t
less_in db t r [] h there = absurd (both_ways false refl h)
less_in db t r (e ∷ es) h there = ⊎_elim
    (λ i. let d : e.0.db ≡ db = ap (λ (x : RecordId). x.db) (sym (record_is r e.0 i)) ∙ there in
    let own : has_lock t e.1.0 ≡ true = sym (ap (λ (o : Option (List Lock × List Lock)). has_lock t (unwrap_or o ([], [])).0) (cond-true (is_record r e.0) (Some e.1) (lookup (is_record r) es) i)) ∙ h in
    taken d (less_left (least (map (λ (o : Lock). o.txn) e.1.0)) (least_owner (filter (λ x. x.0.db == db) es)) t (less_owner t e.1.0 own)))
    (λ i. let rest : has_lock t (queue_at r es).0 ≡ true = sym (ap (λ (o : Option (List Lock × List Lock)). has_lock t (unwrap_or o ([], [])).0) (cond-false (is_record r e.0) (Some e.1) (lookup (is_record r) es) i)) ∙ h in
    let n = less_in db t r es rest there in ⊎_elim
    (λ k. taken (eqb-true e.0.db db k) (less_right (least (map (λ (o : Lock). o.txn) e.1.0)) (least_owner (filter (λ x. x.0.db == db) es)) t n))
    (λ k. subst (λ (o : Option TxnId). IsNoGreater o t) (sym (ap least_owner (cond-false (e.0.db == db) (e ∷ filter (λ x. x.0.db == db) es) (filter (λ x. x.0.db == db) es) k))) n)
    (cases_Bool (e.0.db == db)))
    (cases_Bool (is_record r e.0))
  where
    taken : e.0.db ≡ db → IsNoGreater (lesser (least (map (λ (o : Lock). o.txn) e.1.0)) (least_owner (filter (λ x. x.0.db == db) es))) t → IsNoGreater (least_owner (filter (λ x. x.0.db == db) (e ∷ es))) t
    taken d n = subst (λ (o : Option TxnId). IsNoGreater o t) (least_more None e (filter (λ x. x.0.db == db) es) ∙ sym (ap least_owner (cond-true (e.0.db == db) (e ∷ filter (λ x. x.0.db == db) es) (filter (λ x. x.0.db == db) es) (same_db e.0.db db d)))) n

same_txn : (x y : TxnId) → x.0 ≤ y.0 → y.0 ≤ x.0 → x ≡ y
same_txn x y a b = ap (λ (n : ℕ). record { 0 = n }) (omega (arith, a, b))

-- who owns a lock in the database, and no greater than all who do, is the least
pub least_first : (db : ℕ) (es : List Entry) → AreFound es es → (o : Option TxnId) → IfSome o (λ t. OwnsIn db t es) → IfSome o (λ t. (u : TxnId) → OwnsIn db u es → t.0 ≤ u.0) → IfNone o ((u : TxnId) → OwnsIn db u es → ⊥)
    → o ≡ least_owner (filter (λ e. e.0.db == db) es)
least_first db es all None owns first none = nobody (least_owner (filter (λ e. e.0.db == db) es)) refl
  where
    nobody : (m : Option TxnId) → m ≡ least_owner (filter (λ e. e.0.db == db) es) → None ≡ m
    nobody None is = refl
    nobody (Some u) is = absurd (none u (least_owns db es all (Some u) is))
least_first db es all (Some t) owns first none =
    let n = less_in db t owns.record_ es owns.owns owns.there in
    let o = least_owns db es all (Some n.least_) (sym n.is) in
    ap (λ (x : TxnId). Some x) (same_txn t n.least_ (first n.least_ o) n.within) ∙ sym n.is

-- ---- the walk over a transaction's records
-- where it owns a lock in the database, that record is still to come
abbrev pub OwnsLater : ℕ → TxnId → List Entry → List RecordId → List RecordId → Type 0
OwnsLater db t es list rest = (r : RecordId) → r.db ≡ db → list_any (is_record r) list ≡ true → (has_lock t (queue_at r es).0 ≡ false) ⊎ (list_any (is_record r) rest ≡ true)

pub later_begins : (db : ℕ) (t : TxnId) (es : List Entry) (list rest : List RecordId) → rest ≡ list → OwnsLater db t es list rest
later_begins db t es list rest is r there has = inr (ap (list_any (is_record r)) is ∙ has)

pub later_step : (db : ℕ) (t : TxnId) (es : List Entry) (list rest less : List RecordId) (at : RecordId) → rest ≡ at ∷ less → (at.db ≡ db → has_lock t (queue_at at es).0 ≡ false) → OwnsLater db t es list rest → OwnsLater db t es list less
later_step db t es list rest less at is none l r there has = ⊎_elim
    (λ n. inl n)
    (λ k. ⊎_elim
    (λ i. let e = record_is r at i in inl (subst (λ (x : RecordId). x.db ≡ db → has_lock t (queue_at x es).0 ≡ false) (sym e) none there))
    (λ i. inr i)
    (or_cases (is_record r at) (list_any (is_record r) less) (sym (ap (list_any (is_record r)) is) ∙ k)))
    (l r there has)

pub later_ends : (db : ℕ) (t : TxnId) (es : List Entry) (list rest : List RecordId) → rest ≡ [] → OwnsLater db t es list rest → (r : RecordId) → r.db ≡ db → list_any (is_record r) list ≡ true → has_lock t (queue_at r es).0 ≡ false
later_ends db t es list rest is l r there has = ⊎_elim (λ n. n) (λ k. absurd (both_ways (list_any (is_record r) rest) (ap (list_any (is_record r)) is) k)) (l r there has)

-- the list of a record's database
pub read_at : (dbs : List (ℕ × Vec RecordId Global)) (db : ℕ) (r : RecordId) (v : Vec RecordId Global) → r.db ≡ db → Some v ≡ at_db db dbs → (xs : List RecordId) → xs ≡ v.items → lists_record dbs r ≡ true → list_any (is_record r) xs ≡ true
read_at dbs db r v there has xs is listed = ap (list_any (is_record r)) is ∙ (ap (λ (o : Option (Vec RecordId Global)). option_map_or (λ s. list_any (is_record r) s.items) o false) (has ∙ ap (λ d. at_db d dbs) (sym there)) ∙ listed)

pub none_read_at : (dbs : List (ℕ × Vec RecordId Global)) (db : ℕ) (r : RecordId) → r.db ≡ db → None ≡ at_db db dbs → lists_record dbs r ≡ true → ⊥
none_read_at dbs db r there none listed = both_ways false refl (ap (λ (o : Option (Vec RecordId Global)). option_map_or (λ s. list_any (is_record r) s.items) o false) (none ∙ ap (λ d. at_db d dbs) (sym there)) ∙ listed)

-- ---- the walk over the transactions
abbrev Records : Type 0
Records = BTreeMap ℕ (Vec RecordId Global)

-- who owns a lock in the database is still to come, and they come in order
pub record AreToCome (db : ℕ) (es : List Entry) (rest : List (TxnId × Records)) : Type 0 where
  pub owners : (u : TxnId) → OwnsIn db u es → is_some (at_txn u rest) ≡ true
  pub rising : IsStrictlySortedBy txn_cmp (keys_of rest)

pub come_begins : (db : ℕ) (es : List Entry) (lists : BTreeMap TxnId Records) (rest : List (TxnId × Records)) → rest ≡ lists.entries → IsOrdered txn_cmp lists
    → ((t : TxnId) (r : RecordId) → is_listed lists.entries t r ≡ false → IsOut t (queue_at r es)) → AreToCome db es rest
come_begins db es lists rest is ordered listed = record {
  owners = λ u o. ap (λ xs. is_some (at_txn u xs)) is ∙ there (at_txn u lists.entries) o.record_
      (λ n. both_ways (has_lock u (queue_at o.record_ es).0) (listed u o.record_ n).0 o.owns);
  rising = subst (λ (xs : List (TxnId × Records)). IsStrictlySortedBy txn_cmp (keys_of xs)) (sym is) ordered;
}
  where
    there : (o : Option Records) (r : RecordId) → (option_map_or (λ m. lists_record m.entries r) o false ≡ false → ⊥) → is_some o ≡ true
    there None r n = absurd (n refl)
    there (Some m) r n = refl

rising_head : (e : TxnId × Records) (less : List (TxnId × Records)) → IsStrictlySortedBy txn_cmp (keys_of (e ∷ less)) → AllByRecursion (λ y. txn_cmp e.0 y ≡ Less) (keys_of less)
unfolding IsStrictlySortedBy
rising_head e less h = h.0

rising_tail : (e : TxnId × Records) (less : List (TxnId × Records)) → IsStrictlySortedBy txn_cmp (keys_of (e ∷ less)) → IsStrictlySortedBy txn_cmp (keys_of less)
unfolding IsStrictlySortedBy
rising_tail e less h = h.1

pub come_step : (db : ℕ) (es : List Entry) (lists rest less : List (TxnId × Records)) (e : TxnId × Records) → rest ≡ e ∷ less → at_txn e.0 lists ≡ Some e.1
    → ((t : TxnId) (r : RecordId) → is_listed lists t r ≡ false → IsOut t (queue_at r es)) → ((r : RecordId) → r.db ≡ db → lists_record e.1.entries r ≡ true → has_lock e.0 (queue_at r es).0 ≡ false)
    → AreToCome db es rest → AreToCome db es less
come_step db es lists rest less e is found listed none c = record {
  owners = λ u o. later (is_eq (nat_cmp u.0 e.0.0)) u o refl (sym (ap (λ xs. is_some (at_txn u xs)) is) ∙ c.owners u o);
  rising = rising_tail e less (subst (λ (xs : List (TxnId × Records)). IsStrictlySortedBy txn_cmp (keys_of xs)) is c.rising);
}
  where
    other : OwnsIn db e.0 es → ⊥
    other o = ⊎_elim
        (λ k. both_ways (has_lock e.0 (queue_at o.record_ es).0) (none o.record_ o.there (sym (ap (λ (x : Option Records). option_map_or (λ m. lists_record m.entries o.record_) x false) found) ∙ k)) o.owns)
        (λ k. both_ways (has_lock e.0 (queue_at o.record_ es).0) (listed e.0 o.record_ k).0 o.owns)
        (cases_Bool (is_listed lists e.0 o.record_))

    later : (b : Bool) (u : TxnId) → OwnsIn db u es → is_eq (nat_cmp u.0 e.0.0) ≡ b → is_some (cond b (Some e.1) (at_txn u less)) ≡ true → is_some (at_txn u less) ≡ true
    later true u o k h = absurd (other (subst (λ (x : TxnId). OwnsIn db x es) (same_is u e.0 (sym (at_same u e.0) ∙ k)) o))
    later false u o k h = h

above : (k : TxnId) (es : List (TxnId × Records)) → AllByRecursion (λ y. txn_cmp k y ≡ Less) (keys_of es) → (u : TxnId) → is_some (at_txn u es) ≡ true → k.0 ≤ u.0
above k [] all u h = absurd (both_ways false refl h)
above k (e ∷ es) all u h = past (is_eq (nat_cmp u.0 e.0.0)) refl h (above k es all.1 u)
  where
    below : (a b : ℕ) → nat_cmp a b ≡ Less → a ≤ b
    below a b l = grind (arith, nat_tests, l)

    past : (b : Bool) → is_eq (nat_cmp u.0 e.0.0) ≡ b → is_some (cond b (Some e.1) (at_txn u es)) ≡ true → (is_some (at_txn u es) ≡ true → k.0 ≤ u.0) → k.0 ≤ u.0
    past true i n behind = subst (λ (x : TxnId). k.0 ≤ x.0) (sym (same_is u e.0 (sym (at_same u e.0) ∙ i))) (below k.0 e.0.0 all.0)
    past false i n behind = behind n

pub come_first : (db : ℕ) (es : List Entry) (rest less : List (TxnId × Records)) (e : TxnId × Records) → rest ≡ e ∷ less → AreToCome db es rest → (u : TxnId) → OwnsIn db u es → e.0.0 ≤ u.0
come_first db es rest less e is c u o = past (is_eq (nat_cmp u.0 e.0.0)) refl (sym (ap (λ xs. is_some (at_txn u xs)) is) ∙ c.owners u o)
  where
    past : (b : Bool) → is_eq (nat_cmp u.0 e.0.0) ≡ b → is_some (cond b (Some e.1) (at_txn u less)) ≡ true → e.0.0 ≤ u.0
    past true i n = subst (λ (x : TxnId). e.0.0 ≤ x.0) (sym (same_is u e.0 (sym (at_same u e.0) ∙ i))) (omega arith)
    past false i n = above e.0 less (rising_head e less (subst (λ (xs : List (TxnId × Records)). IsStrictlySortedBy txn_cmp (keys_of xs)) is c.rising)) u n

pub come_ends : (db : ℕ) (es : List Entry) (rest : List (TxnId × Records)) → rest ≡ [] → AreToCome db es rest → (u : TxnId) → OwnsIn db u es → ⊥
come_ends db es rest is c u o = both_ways (is_some (at_txn u rest)) (ap (λ xs. is_some (at_txn u xs)) is) (c.owners u o)
