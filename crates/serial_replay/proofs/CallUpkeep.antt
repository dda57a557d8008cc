-- A call that got its locks keeps indexes up: with the change of a record come those in the indexes, and it sees the record as it is for its transaction, since
-- nobody else has changed it.
use Rattle.std.proofs.Common.{◌≡◌, ◌<◌, ◌⊎◌, inl, inr, ℕ, ◌==◌, Bool, true, false, ◌&&◌, List, [], ◌∷◌, ◌++◌, map, Option, None, Some, refl, ap, ap₂, sym, ◌∙◌, subst, arith, append-nil, is_eq}
use Rattle.std.specs.List.{AllByRecursion, flat_map}
use Rattle.std.proofs.lemmas.Bool.{cond-true, cond-false, both_ways}
use Rattle.std.proofs.lemmas.Bool.Decides.{eqb_tells}
use Rattle.je_order.specs.Order.{name_cmp}
use Rattle.je_order.specs.declared.name.Name.{Name}
use Rattle.store_model.specs.declared.store.Store.{Store}
use Rattle.store_model.specs.declared.store.Database.{Database}
use Rattle.store_model.specs.declared.index.Index.{Index}
use Rattle.store_model.specs.declared.extract.Extract.{Extract}
use Rattle.store_model.specs.declared.isolation.Isolation.{Isolation}
use Rattle.store_model.specs.declared.isolation.Isolation.TheVariants.{ReadUncommitted, ReadCommitted, RepeatableRead, Serializable}
use Rattle.store_model.specs.declared.kind.Kind.{Kind}
use Rattle.store_model.specs.declared.kind.Kind.TheVariants.{Plain, Dup}
use Rattle.store_model.specs.declared.call.Call.{Call}
use Rattle.store_model.specs.declared.record_change.RecordChange.{RecordChange}
use Rattle.store_model.specs.Store.{Pair, named, all_pairs_changed, changed_name, data_after, proper}
use Rattle.store_model.specs.Indexes.{Numbered, index_pairs, data_under, index_changes, changes_in}
use Rattle.store_model.specs.Reads.{at_name}
use Rattle.je_answers.specs.declared.active.Active.{Active}
use Rattle.je_answers.specs.Standing.{Standing, database_at, with_at}
use Rattle.je_answers.specs.Views.{Target, of_db, seen_changes, view_in, view_of, with_numbers, needs_in, outcome_of}
use Rattle.je_answers.specs.Locking.{first_blocked}
use Rattle.standing_laws.specs.Right.{AreNumbered, AreSound, MayWait}
use Rattle.standing_laws.specs.Laws.{IsOnlyOf}
use Rattle.standing_laws.proofs.Among.{IsAmong, all_at, all_of, mapped_among}
use Rattle.standing_laws.proofs.Writers.{writers-are_free}
use Rattle.index_laws.specs.Keeping.{KeepUp, AreSeen}
use Rattle.index_laws.proofs.KeepingUp.{calls-keep_up}
use Rattle.serial_replay.specs.Replay.{AnsweredCall}
use Rattle.serial_replay.proofs.Rising.{same_names}
use Rattle.serial_replay.proofs.Changing.{name_in, IsNoneOf, alike, unchanged, changed_append}
use Rattle.serial_replay.proofs.Occupied.{of_db_is, of_db_append, flat_has}
use Rattle.serial_replay.proofs.Stores.{Numbers, Over, over_by, Base, base_of, pairs_of, IsBased, based, base_in, pairs_in, base_at, pairs_at, same_number}
use Rattle.serial_replay.proofs.Keeping.{IsGround}
use Rattle.serial_replay.proofs.Places.{IsTargetOf}
use Rattle.serial_replay.proofs.Through.{records_number, changed_by, with_all, flat_same, same_data, IsFound, changes_are}
use Rattle.serial_replay.proofs.Calling.{made, found, made_there, made_proper}
use Rattle.serial_replay.proofs.Upkeep.{by_extract, IsUp, AreUp, keep_same}
use Rattle.serial_replay.proofs.IndexBases.{IsIndexAt, index_at, rising_in, without_data}
use Rattle.serial_replay.proofs.OneCall.{evaluated_one, through_one, reply_mapped, of_records, of_index, of_none}

-- ---- a record that nobody else has changed

module _ (own : ℕ → List (ℕ × RecordChange)) (q : ℕ) (key : List ℕ) (without : (t : ℕ) → AllByRecursion (λ c. (changed_name c).dup ≡ []) (of_db q (own t))) (a : Active) (only : IsOnlyOf q (named key []) a.txn.0 own) where
  none_of : (t : ℕ) → (t ≡ a.txn.0 → ⊥) → IsNoneOf Plain (named key []) (of_db q (own t))
  none_of t other = all_of (λ c. name_in Plain c ≡ named key [] → ⊥) (of_db q (own t)) (λ c k same.
      let dup : (changed_name c).dup ≡ [] = all_at (λ (x : RecordChange). (changed_name x).dup ≡ []) (of_db q (own t)) c (without t) k in
      let name : named key [] ≡ changed_name c = sym same ∙ ap (λ (d : List ℕ). named (changed_name c).key d) (sym dup) in
      let none = all_at (λ (x : ℕ × RecordChange). ((x.0 == q) && is_eq (name_cmp (named key []) (changed_name x.1))) ≡ false) (own t) (q, c) (only t other) (of_db_is q (own t) c k) in
      both_ways ((q == q) && is_eq (name_cmp (named key []) (changed_name c))) none
      (ap₂ (λ (x y : Bool). x && y) (same_number q) (ap (λ (n : Name). is_eq (name_cmp (named key []) n)) (sym name) ∙ ap is_eq (same_names (named key [])))))

  abbrev at_key : List Pair → List Pair
  at_key v = at_name Plain (named key []) v

  split : (b : Active) (bs : List Active) (v : List Pair) → at_key (all_pairs_changed Plain (of_db q (flat_map (λ x. own x.txn.0) (b ∷ bs))) v)
      ≡ at_key (all_pairs_changed Plain (of_db q (flat_map (λ x. own x.txn.0) bs)) (all_pairs_changed Plain (of_db q (own b.txn.0)) v))
  split b bs v =
      ap (λ (l : List RecordChange). at_key (all_pairs_changed Plain l v)) (of_db_append q (own b.txn.0) (flat_map (λ x. own x.txn.0) bs))
      ∙ ap at_key (changed_append Plain (of_db q (own b.txn.0)) (of_db q (flat_map (λ x. own x.txn.0) bs)) v)

  of_others : (bs : List Active) (v : List Pair) → ((b : Active) → IsAmong b bs → b.txn.0 ≡ a.txn.0 → ⊥) → at_key (all_pairs_changed Plain (of_db q (flat_map (λ x. own x.txn.0) bs)) v) ≡ at_key v
  of_others [] v other = refl
  of_others (b ∷ bs) v other =
      split b bs v
      ∙ (of_others bs (all_pairs_changed Plain (of_db q (own b.txn.0)) v) (λ c k. other c (inr k))
      ∙ unchanged Plain (of_db q (own b.txn.0)) (named key []) v (none_of b.txn.0 (other b (inl refl))))

  -- with the changes of all it is as with those of the one
  pub as_own : (last : ℕ) (bs : List Active) (v : List Pair) → AreNumbered last bs → IsAmong a bs → at_key (all_pairs_changed Plain (of_db q (flat_map (λ x. own x.txn.0) bs)) v) ≡ at_key (all_pairs_changed Plain (of_db q (own a.txn.0)) v)
  as_own last [] v up k = absurd k
  as_own last (b ∷ bs) v up (inl e) =
      split b bs v
      ∙ (of_others bs (all_pairs_changed Plain (of_db q (own b.txn.0)) v) (λ c k same.
      let h = all_at (λ (x : Active). b.txn.0 < x.txn.0) bs c up.1 k in
      let f = ap (λ (x : Active). x.txn.0) e in
      omega (arith, h, f, same))
      ∙ ap (λ (x : Active). at_key (all_pairs_changed Plain (of_db q (own x.txn.0)) v)) e)
  as_own last (b ∷ bs) v up (inr k) =
      split b bs v
      ∙ (as_own last bs (all_pairs_changed Plain (of_db q (own b.txn.0)) v) up.2 k
      ∙ alike Plain (of_db q (own a.txn.0)) (named key []) (all_pairs_changed Plain (of_db q (own b.txn.0)) v) v
      (unchanged Plain (of_db q (own b.txn.0)) (named key []) v (none_of b.txn.0 (λ same. let h = all_at (λ (x : Active). b.txn.0 < x.txn.0) bs a up.1 k in omega (arith, h, same)))))

base_is : (x y : Base) → Some x ≡ Some y → x ≡ y
base_is x y h = cc (h)

database_is : (x y : Database) → Some x ≡ Some y → x ≡ y
database_is x y h = cc (h)

over_is : (x y : ℕ × Extract) → Some x ≡ Some y → x ≡ y
over_is x y h = cc (h)

-- ---- the call

module _ (st : Standing) (a : Active) (call : Call) (g : Target) (told : List AnsweredCall) (may : MayWait call) (sound : AreSound st) (ground : IsGround st told) (on : IsTargetOf st a call g)
    (free : first_blocked a.txn (needs_in st a call g) st.locks.at ≡ None) (active : IsAmong a st.actives) where
  abbrev over : Over
  over = over_by st.numbers g.database.index

  abbrev q : ℕ
  q = records_number g.db (over_by st.numbers g.database.index)

  abbrev there : IsFound st.numbers st.store g.db g.database g (over_by st.numbers g.database.index)
  there = found st a call g told may sound ground on free

  abbrev records : Database
  records = there.records

  here : database_at q st ≡ Some records
  here = there.here

  abbrev seen : List Pair
  seen = view_in st a (q, records)

  abbrev cs : List RecordChange
  cs = map (changed_by over) (outcome_of st a call g).changes

  abbrev more : List (ℕ × RecordChange)
  more = with_numbers (made st a call g)

  reply : more ≡ flat_map (with_all q g.indexes seen) cs
  reply =
      changes_are st.numbers st.store g.db g.database g over (view_in st a) (outcome_of st a call g).changes there
      ∙ reply_mapped over q g.indexes seen (outcome_of st a call g).changes

  records_base : base_at q st ≡ Some (records.name, records.kind, over_by st.numbers records.index)
  records_base = ap (base_of st.numbers) here

  -- they are of no index
  records_alone : over_by st.numbers records.index ≡ None
  records_alone = by over refl
    where
      by : (v : Over) → over ≡ v → over_by st.numbers records.index ≡ None
      by None k =
          ap (λ (d : Database). over_by st.numbers d.index) (database_is records g.database (sym (subst (λ (v : Over). database_at (records_number g.db v) st ≡ Some records) k here) ∙ on.here)) ∙ k
      by (Some (p, e)) k =
          let i = index_at st g.db p e (g.database.name, g.database.kind, over) ground.well (ap (base_of st.numbers) on.here) k in
          ap (λ (b : Base). b.2) (base_is (records.name, records.kind, over_by st.numbers records.index) i.base
          (sym (subst (λ (v : Over). base_at (records_number g.db v) st ≡ Some (records.name, records.kind, over_by st.numbers records.index)) k records_base) ∙ i.primary))
          ∙ i.alone

  alone_at : (b : Base) → base_at q st ≡ Some b → b.2 ≡ None
  alone_at b k = ap (λ (x : Base). x.2) (base_is b (records.name, records.kind, over_by st.numbers records.index) (sym k ∙ records_base)) ∙ records_alone

  index_base : (x : Numbered) → IsAmong x g.indexes → base_at x.0 st ≡ Some (x.1.name, x.1.kind, over_by st.numbers x.1.index)
  index_base x k = ap (base_of st.numbers) (there.indexes.its x k).0

  not_records : (x : Numbered) → IsAmong x g.indexes → x.0 ≡ q → ⊥
  not_records x k same =
      let its = there.indexes.its x k in
      let none = alone_at (x.1.name, x.1.kind, over_by st.numbers x.1.index) (ap (λ (m : ℕ). base_at m st) (sym same) ∙ index_base x k) in
      let h = sym none ∙ its.1.1 in absurd (cc (h))

  abbrev own : List (ℕ × RecordChange)
  own = st.own a.txn.0

  -- ---- the records are seen as they are

  all_plain : (t : ℕ) → records.kind ≡ Plain → AllByRecursion (λ c. (changed_name c).dup ≡ []) (of_db q (st.own t))
  all_plain t plain = without_data st q (records.name, records.kind, over_by st.numbers records.index) (st.own t) (ground.fits t) records_base plain

  made_at : (c : RecordChange) → IsAmong c cs → IsAmong (q, c) more
  made_at c k = subst (IsAmong (q, c)) (sym reply) (flat_has (with_all q g.indexes seen) cs c (q, c) k (inl refl))

  plain_name : (c : RecordChange) → IsAmong c cs → records.kind ≡ Plain → changed_name c ≡ named (changed_name c).key []
  plain_name c k plain =
      let m = mapped_among (λ (x : Numbered × RecordChange). (x.0.0, x.1)) (made st a call g) (q, c) (made_at c k) in
      let number : m.0.0.0 ≡ q = ap (λ (x : ℕ × RecordChange). x.0) m.2 in
      let change : m.0.1 ≡ c = ap (λ (x : ℕ × RecordChange). x.1) m.2 in
      let d : m.0.0.1 ≡ records = database_is m.0.0.1 records (sym (made_there st a call g told may sound ground on free m.0 m.1) ∙ (ap (λ (x : ℕ). database_at x st) number ∙ here)) in
      let kind : m.0.0.1.kind ≡ Plain = ap (λ (x : Database). x.kind) d ∙ plain in
      let its : proper Plain (changed_name m.0.1) ≡ changed_name m.0.1 =
      subst (λ (x : Kind). proper x (changed_name m.0.1) ≡ changed_name m.0.1) kind (made_proper st a call g told may sound ground on free m.0 m.1) in
      subst (λ (x : RecordChange). changed_name x ≡ named (changed_name x).key []) change (sym its)

  seen_at : (level : Isolation) (key : List ℕ) → records.kind ≡ Plain → IsOnlyOf q (named key []) a.txn.0 st.own → (v : List Pair)
      → at_name Plain (named key []) (all_pairs_changed Plain (of_db q (seen_changes level st a.txn.0)) v) ≡ at_name Plain (named key []) (all_pairs_changed Plain (of_db q (st.own a.txn.0)) v)
  seen_at ReadUncommitted key plain only v = as_own st.own q key (λ t. all_plain t plain) a only st.last_txn st.actives v sound.numbers active
  seen_at ReadCommitted key plain only v = refl
  seen_at RepeatableRead key plain only v = refl
  seen_at Serializable key plain only v = refl

  seen_is : records.kind ≡ Plain → seen ≡ all_pairs_changed Plain (of_db q (seen_changes a.level st a.txn.0)) (pairs_at q st)
  seen_is plain = ap₂ (λ (k : Kind) (v : List Pair). all_pairs_changed k (of_db q (seen_changes a.level st a.txn.0)) v) plain (sym (ap pairs_of here))

  are_seen : records.kind ≡ Plain → AreSeen seen (all_pairs_changed Plain (of_db q own) (pairs_at q st)) cs
  are_seen plain = all_of (λ c. data_under (changed_name c).key seen ≡ data_under (changed_name c).key (all_pairs_changed Plain (of_db q own) (pairs_at q st))) cs (λ c k.
      let only : IsOnlyOf q (changed_name c) a.txn.0 st.own = all_at (λ (x : ℕ × RecordChange). IsOnlyOf x.0 (changed_name x.1) a.txn.0 st.own) more (q, c) (writers-are_free st a call g sound free) (made_at c k) in
      same_data (changed_name c).key seen (all_pairs_changed Plain (of_db q own) (pairs_at q st))
      (ap (at_name Plain (named (changed_name c).key [])) (seen_is plain)
      ∙ seen_at a.level (changed_name c).key plain (subst (λ (n : Name). IsOnlyOf q n a.txn.0 st.own) (plain_name c k plain) only) (pairs_at q st)))

  -- ---- the indexes of the records

  in_form : (e : Extract) (j : Option Index) → over_by st.numbers j ≡ Some (q, e) → flat_map (changes_in j seen) cs ≡ flat_map (changes_in (Some (by_extract e)) seen) cs
  in_form e None h = absurd (cc (h))
  in_form e (Some j) h = flat_same (changes_in (Some j) seen) (changes_in (Some (by_extract e)) seen) cs (λ c k.
      ap (λ (x : Extract). index_changes x (changed_name c).key (data_under (changed_name c).key seen) (data_after c)) (ap (λ (z : ℕ × Extract). z.1) (over_is (st.numbers j.primary, j.extract) (q, e) h)))

  at_records : (n : ℕ) (e : Extract) (b : Base) → base_at n st ≡ Some b → b.2 ≡ Some (q, e) → KeepUp (by_extract e) (pairs_at q st) (pairs_at n st) (of_db q (own ++ more)) (of_db n (own ++ more))
  at_records n e b k is =
      keep_same (by_extract e) (pairs_at q st) (pairs_at q st) (pairs_at n st) (pairs_at n st) (of_db q own ++ cs) (of_db q (own ++ more))
      (of_db n own ++ flat_map (changes_in (Some (by_extract e)) seen) cs) (of_db n (own ++ more)) refl refl
      (of_db_append q own more ∙ ap (λ (l : List RecordChange). of_db q own ++ l) (ap (of_db q) reply ∙ of_records q g.indexes seen there.indexes.rising not_records cs))
      (of_db_append n own more
      ∙ ap (λ (l : List RecordChange). of_db n own ++ l)
      (ap (of_db n) reply ∙ (of_index q g.indexes seen there.indexes.rising not_records (n, i.database) there_it cs ∙ in_form e i.database.index (i.over ∙ is))))
      (calls-keep_up (by_extract e) (pairs_at q st) (pairs_at n st) seen (of_db q own) (of_db n own) cs
      (rising_in st q f.base Plain ground.well.store f.primary f.plain) (rising_in st n b Dup ground.well.store k f.dup)
      (through_one over (outcome_of st a call g).changes (evaluated_one g.database.kind call g.at (view_of st a g) may))
      (are_seen (there.plain (n, i.database) there_it)) ((ground.up n q e b k is).keeps a.txn.0))
    where
      i : IsBased st.numbers (database_at n st) b
      i = based st.numbers (database_at n st) b k

      f : IsIndexAt st q b
      f = index_at st n q e b ground.well k is

      there_it : IsAmong (n, i.database) g.indexes
      there_it = there.indexes.all n i.database e i.is (i.over ∙ is)

  -- ---- the other ones

  at_others : (n p : ℕ) (e : Extract) (b : Base) → base_at n st ≡ Some b → b.2 ≡ Some (p, e) → (p ≡ q → ⊥) → KeepUp (by_extract e) (pairs_at p st) (pairs_at n st) (of_db p (own ++ more)) (of_db n (own ++ more))
  at_others n p e b k is other =
      keep_same (by_extract e) (pairs_at p st) (pairs_at p st) (pairs_at n st) (pairs_at n st) (of_db p own) (of_db p (own ++ more)) (of_db n own) (of_db n (own ++ more)) refl refl
      (none p (λ same. other (sym same)) (λ x i same.
      let its = there.indexes.its x i in
      let h = sym (ap (λ (y : Base). y.2) (base_is (x.1.name, x.1.kind, over_by st.numbers x.1.index) f.base (sym (index_base x i) ∙ (ap (λ (m : ℕ). base_at m st) same ∙ f.primary))) ∙ f.alone) ∙ its.1.1 in
      absurd (cc (h))))
      (none n (λ same. let h = sym (alone_at b (ap (λ (m : ℕ). base_at m st) same ∙ k)) ∙ is in absurd (cc (h))) (λ x i same.
      let its = there.indexes.its x i in
      let h : over_by st.numbers x.1.index ≡ b.2 = ap (λ (y : Base). y.2) (base_is (x.1.name, x.1.kind, over_by st.numbers x.1.index) b (sym (index_base x i) ∙ (ap (λ (m : ℕ). base_at m st) same ∙ k))) in
      other (ap (λ (z : ℕ × Extract). z.0) (over_is (p, e) (q, its.1.0) (sym is ∙ (sym h ∙ its.1.1))))))
      ((ground.up n p e b k is).keeps a.txn.0)
    where
      f : IsIndexAt st p b
      f = index_at st n p e b ground.well k is

      none : (m : ℕ) → (q ≡ m → ⊥) → ((x : Numbered) → IsAmong x g.indexes → x.0 ≡ m → ⊥) → of_db m (own ++ more) ≡ of_db m own
      none m apart h =
          of_db_append m own more
          ∙ (ap (λ (l : List RecordChange). of_db m own ++ l) (ap (of_db m) reply ∙ of_none q g.indexes seen there.indexes.rising not_records m apart h cs)
          ∙ append-nil (of_db m own))

  at_all : (n p : ℕ) (e : Extract) (b : Base) → base_at n st ≡ Some b → b.2 ≡ Some (p, e) → KeepUp (by_extract e) (pairs_at p st) (pairs_at n st) (of_db p (own ++ more)) (of_db n (own ++ more))
  at_all n p e b k is = by (eqb_tells p q)
    where
      by : ((p == q) ≡ true) × (p ≡ q) ⊎ ((p == q) ≡ false) × (p ≡ q → ⊥) → KeepUp (by_extract e) (pairs_at p st) (pairs_at n st) (of_db p (own ++ more)) (of_db n (own ++ more))
      by (inl h) = subst (λ (m : ℕ). KeepUp (by_extract e) (pairs_at m st) (pairs_at n st) (of_db m (own ++ more)) (of_db n (own ++ more))) (sym h.1) (at_records n e b k (is ∙ ap (λ (m : ℕ). Some (m, e)) h.1))
      by (inr h) = at_others n p e b k is h.1

  -- its changes are its transaction's own
  pub up_called : (new : Standing) → new.store ≡ st.store → new.numbers ≡ st.numbers → ((t : ℕ) → new.own t ≡ with_at a.txn.0 (st.own a.txn.0 ++ with_numbers (made st a call g)) st.own t) → AreUp new
  up_called new store numbers own_new n p e b there_new is = record { same = at n ∙ (u.same ∙ ap (index_pairs e) (sym (at p))); keeps = λ t. by t (eqb_tells t a.txn.0) }
    where
      at : (m : ℕ) → pairs_at m new ≡ pairs_at m st
      at m = ap₂ (λ (x : Numbers) (s : Store). pairs_in x m s) numbers store

      k : base_at n st ≡ Some b
      k = sym (ap₂ (λ (x : Numbers) (s : Store). base_in x n s) numbers store) ∙ there_new

      u : IsUp st n p e
      u = ground.up n p e b k is

      with_own : (t : ℕ) (l : List (ℕ × RecordChange)) → new.own t ≡ l → KeepUp (by_extract e) (pairs_at p st) (pairs_at n st) (of_db p l) (of_db n l) → KeepUp (by_extract e) (pairs_at p new) (pairs_at n new) (of_db p (new.own t)) (of_db n (new.own t))
      with_own t l same h =
          keep_same (by_extract e) (pairs_at p st) (pairs_at p new) (pairs_at n st) (pairs_at n new) (of_db p l) (of_db p (new.own t)) (of_db n l) (of_db n (new.own t)) (at p) (at n) (ap (of_db p) same) (ap (of_db n) same) h

      by : (t : ℕ) → ((t == a.txn.0) ≡ true) × (t ≡ a.txn.0) ⊎ ((t == a.txn.0) ≡ false) × (t ≡ a.txn.0 → ⊥) → KeepUp (by_extract e) (pairs_at p new) (pairs_at n new) (of_db p (new.own t)) (of_db n (new.own t))
      by t (inl h) = with_own t (own ++ more) (own_new t ∙ cond-true (t == a.txn.0) (own ++ more) (st.own t) h.0) (at_all n p e b k is)
      by t (inr h) = with_own t (st.own t) (own_new t ∙ cond-false (t == a.txn.0) (own ++ more) (st.own t) h.0) (u.keeps t)
