-- A database of the store as a transaction sees it: its records, its occupied names, and what the transaction may write there.
use Rattle.std.proofs.Common.{◌≡◌, ◌⊎◌, inl, inr, ℕ, List, [], ◌∷◌, Some, refl, ap, sym, ◌∙◌, subst, ⊎_elim, is_eq}
use Rattle.std.specs.List.{flat_map, AllByRecursion}
use Rattle.je_order.specs.Edges.Edge.{Behind}
use Rattle.je_order.specs.Order.{name_cmp}
use Rattle.je_order.specs.declared.name.Name.{Name}
use Rattle.je_order.proofs.Orderings.{name_exact, equal_from_test}
use Rattle.lock_mode.specs.declared.lock_type.LockType.TheVariants.{RangeInsert}
use Rattle.store_model.specs.declared.isolation.Isolation.{Isolation}
use Rattle.store_model.specs.declared.isolation.Isolation.TheVariants.{ReadUncommitted, ReadCommitted, RepeatableRead, Serializable}
use Rattle.store_model.specs.declared.extract.Extract.{Extract}
use Rattle.store_model.specs.declared.record_change.RecordChange.{RecordChange}
use Rattle.store_model.specs.Store.{Pair, name_of}
use Rattle.store_model.specs.Indexes.{Numbered}
use Rattle.store_model.specs.Reads.{at_name}
use Rattle.store_model.specs.Needs.{need, write_type, write_needs, insert_needs, first_from, changed_name}
use Rattle.je_answers.specs.declared.active.Active.{Active}
use Rattle.je_answers.specs.Standing.{Standing, database_at}
use Rattle.je_answers.specs.Views.{of_db, seen_changes, view_in, occupied_in}
use Rattle.standing_laws.specs.Right.{AreSound}
use Rattle.standing_laws.proofs.Among.{IsAmong, all_at, filter_among, among_append}
use Rattle.standing_laws.proofs.Writers.{write_is}
use Rattle.serial_replay.specs.Replay.{AnsweredCall}
use Rattle.serial_replay.proofs.Rising.{RisesBy}
use Rattle.serial_replay.proofs.Locality.{same_there}
use Rattle.serial_replay.proofs.Changing.{name_in, unchanged, one_or_none, rises_changed}
use Rattle.serial_replay.proofs.Holding.{IsFreeNeed}
use Rattle.serial_replay.proofs.Occupied.{HasRecord, IsOccupied, of_db_is, occupied_is, occupied_has, occupied_rises}
use Rattle.serial_replay.proofs.Shut.{MayWrite}
use Rattle.serial_replay.proofs.Stores.{Base, over_by, base_of, pairs_of, base_at, pairs_at, IsFit, pairs_rise}
use Rattle.serial_replay.proofs.Keeping.{occupied_at, IsGround}

-- what a transaction sees written, one under way wrote
flat_owned : (st : Standing) (as_ : List Active) (c : ℕ × RecordChange) → IsAmong c (flat_map (λ a. st.own a.txn.0) as_) → (t : ℕ) × IsAmong c (st.own t)
flat_owned st [] c k = absurd k
flat_owned st (a ∷ as_) c k = by (among_append (st.own a.txn.0) (flat_map (λ b. st.own b.txn.0) as_) c k) (λ m. flat_owned st as_ c m)
  where
    by : IsAmong c (st.own a.txn.0) ⊎ IsAmong c (flat_map (λ b. st.own b.txn.0) as_) → (IsAmong c (flat_map (λ b. st.own b.txn.0) as_) → (t : ℕ) × IsAmong c (st.own t)) → (t : ℕ) × IsAmong c (st.own t)
    by (inl m) more = (a.txn.0, m)
    by (inr m) more = more m

seen_owned : (level : Isolation) (st : Standing) (txn : ℕ) (c : ℕ × RecordChange) → IsAmong c (seen_changes level st txn) → (t : ℕ) × IsAmong c (st.own t)
seen_owned ReadUncommitted st txn c k = flat_owned st st.actives c k
seen_owned ReadCommitted st txn c k = (txn, k)
seen_owned RepeatableRead st txn c k = (txn, k)
seen_owned Serializable st txn c k = (txn, k)

-- each pair of an index, as a transaction sees it, has its record in the primary
abbrev pub HasRecords : Standing → Active → Type 0
HasRecords st a = (x p : Numbered) (e : Extract) (key primary_key : List ℕ) → database_at x.0 st ≡ Some x.1 → database_at p.0 st ≡ Some p.1 → over_by st.numbers x.1.index ≡ Some (p.0, e)
    → IsAmong (key, primary_key) (view_in st a x) → (value : List ℕ) × IsAmong (primary_key, value) (view_in st a p)

module _ (st : Standing) (a : Active) (told : List AnsweredCall) (sound : AreSound st) (ground : IsGround st told) (x : Numbered) (it : database_at x.0 st ≡ Some x.1) where
  abbrev pub base_there : Base
  base_there = (x.1.name, x.1.kind, over_by st.numbers x.1.index)

  abbrev occ : Name → Type 0
  occ n = occupied_at st x.0 x.1.kind n

  pub base_is : base_at x.0 st ≡ Some (x.1.name, x.1.kind, over_by st.numbers x.1.index)
  base_is = ap (base_of st.numbers) it

  pub pairs_are : pairs_at x.0 st ≡ x.1.pairs
  pairs_are = ap pairs_of it

  up : RisesBy (name_of x.1.kind) x.1.pairs
  up = subst (RisesBy (name_of x.1.kind)) pairs_are (pairs_rise st.numbers x.0 st.store base_there ground.well.store base_is)

  pub view_up : RisesBy (name_of x.1.kind) (view_in st a x)
  view_up = rises_changed x.1.kind (of_db x.0 (seen_changes a.level st a.txn.0)) x.1.pairs up

  pub listed : (n : Name) → IsAmong n (occupied_in st x) → occ n
  listed n k = subst (λ (l : List Pair). IsOccupied x.1.kind l st.own x.0 n) (sym pairs_are) (occupied_is st x n k)

  pub has : (n : Name) → occ n → IsAmong n (occupied_in st x)
  has n o = occupied_has st x n sound (subst (λ (l : List Pair). IsOccupied x.1.kind l st.own x.0 n) pairs_are o)

  pub names_up : RisesBy (λ m. m) (occupied_in st x)
  names_up = occupied_rises st x up

  -- what is seen is occupied
  pub view_seen : (n : Name) → HasRecord x.1.kind (view_in st a x) n → occ n
  view_seen n r = ⊎_elim
      (λ c. let o = seen_owned a.level st a.txn.0 (x.0, c.0) (of_db_is x.0 (seen_changes a.level st a.txn.0) c.0 c.1) in
      let f = all_at (IsFit st) (st.own o.0) (x.0, c.0) (ground.fits o.0) o.1 in
      inr (record { txn = o.0; change = c.0; there = o.1; named = proper_is c.0 f.base (some_base f.base base_there (sym f.there ∙ base_is)) f.its c.2 }))
      (λ none. inl (record {
        pair = r.pair;
        named = r.named;
        there = subst (IsAmong r.pair) (sym pairs_are)
            (same_there x.1.kind (view_in st a x) x.1.pairs r.pair
            (subst (λ (m : Name). at_name x.1.kind m (view_in st a x) ≡ at_name x.1.kind m x.1.pairs) (sym r.named) (unchanged x.1.kind (of_db x.0 (seen_changes a.level st a.txn.0)) n x.1.pairs none)) r.there);
      }))
      (one_or_none x.1.kind n (of_db x.0 (seen_changes a.level st a.txn.0)))
    where
      some_base : (p q : Base) → Some p ≡ Some q → p ≡ q
      some_base p q e = cc (e)

      proper_is : (c : RecordChange) (q : Base) → q ≡ base_there → name_in q.1 c ≡ changed_name c → name_in x.1.kind c ≡ n → changed_name c ≡ n
      proper_is c q same its is = sym its ∙ (ap (λ (z : Base). name_in z.1 c) same ∙ is)

  -- who gets what a write needs may write
  pub may_write : (c : RecordChange) → AllByRecursion (IsFreeNeed a.txn st.locks.at) (write_needs a.level x.0 x.1.kind (view_in st a x) (occupied_in st x) c)
      → MayWrite st.locks.at (λ (n : Name). occupied_at st x.0 x.1.kind n) (occupied_in st x) a.txn x.0 (changed_name c)
  may_write c h = record { asked = write_type a.level; writes = write_is a.level; free = h.0; comes = by (at_name x.1.kind (changed_name c) (view_in st a x)) refl h.1 }
    where
      by : (l : List Pair) → at_name x.1.kind (changed_name c) (view_in st a x) ≡ l → AllByRecursion (IsFreeNeed a.txn st.locks.at) (insert_needs x.0 l (first_from (Behind (changed_name c)) (occupied_in st x)))
          → occ (changed_name c) ⊎ IsFreeNeed a.txn st.locks.at (need x.0 (first_from (Behind (changed_name c)) (occupied_in st x)) RangeInsert)
      by [] e h = inr h.0
      by (p ∷ ps) e h =
          let f = filter_among (λ (q : Pair). is_eq (name_cmp (name_of x.1.kind q) (changed_name c))) (view_in st a x) p (subst (IsAmong p) (sym e) (inl refl)) in
          inl (view_seen (changed_name c) (record { pair = p; there = f.0; named = name_exact (name_of x.1.kind p) (changed_name c) (equal_from_test (name_cmp (name_of x.1.kind p) (changed_name c)) f.1) }))
