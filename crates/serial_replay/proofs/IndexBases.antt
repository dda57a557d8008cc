-- An index and its primary, where transactions keep indexes up; and a transaction that commits or begins.
use Rattle.std.proofs.Common.{◌≡◌, ◌⊎◌, inl, inr, ℕ, ◌==◌, true, false, List, [], Option, None, Some, refl, ap, sym, ◌∙◌, subst}
use Rattle.std.specs.List.{AllByRecursion}
use Rattle.std.proofs.lemmas.Bool.{cond-true, cond-false}
use Rattle.std.proofs.lemmas.Bool.Decides.{eqb_tells}
use Rattle.je_order.specs.declared.name.Name.{Name}
use Rattle.je_order.specs.Transactions.{is_same_txn}
use Rattle.store_model.specs.declared.store.Database.{Database}
use Rattle.store_model.specs.declared.index.Index.{Index}
use Rattle.store_model.specs.declared.extract.Extract.{Extract}
use Rattle.store_model.specs.declared.kind.Kind.{Kind}
use Rattle.store_model.specs.declared.kind.Kind.TheVariants.{Plain, Dup}
use Rattle.store_model.specs.declared.record_change.RecordChange.{RecordChange}
use Rattle.store_model.specs.Store.{HasRisingNames, IsStore, all_pairs_changed, changed_name, proper}
use Rattle.store_model.specs.Indexes.{index_pairs}
use Rattle.je_answers.specs.declared.active.Active.{Active}
use Rattle.je_answers.specs.Standing.{Standing, database_at, with_at}
use Rattle.je_answers.specs.Views.{of_db}
use Rattle.standing_laws.specs.Right.{AreSound, HoldsWrite, txn_id}
use Rattle.standing_laws.proofs.Among.{IsAmong, all_at, all_of, found_is}
use Rattle.index_laws.specs.Keeping.{KeepUp, AreApart}
use Rattle.index_laws.proofs.KeepingUp.{others-keep_up}
use Rattle.indexed_standings.proofs.Apart.{of_db_all, apart_owns}
use Rattle.serial_replay.specs.Replay.{AnsweredCall}
use Rattle.serial_replay.proofs.Occupied.{of_db_is}
use Rattle.serial_replay.proofs.Stores.{over_by, Base, base_of, pairs_of, based, base_at, pairs_at, IsFit, by_number}
use Rattle.serial_replay.proofs.Upkeep.{by_extract, IsUp, AreUp, keep_same, keep_none}
use Rattle.serial_replay.proofs.Keeping.{IsWell, IsGround}

over_is : (x y : ℕ × Extract) → Some x ≡ Some y → x ≡ y
over_is x y h = cc (h)

base_is : (x y : Base) → Some x ≡ Some y → x ≡ y
base_is x y h = cc (h)

-- ---- an index and its primary

pub record IsIndexAt (st : Standing) (q : ℕ) (b : Base) : Type 0 where
  pub dup : b.1 ≡ Dup
  pub base : Base
  pub primary : base_at q st ≡ Some base
  pub plain : base.1 ≡ Plain
  pub alone : base.2 ≡ None

pub index_at : (st : Standing) (n q : ℕ) (e : Extract) (b : Base) → IsWell st → base_at n st ≡ Some b → b.2 ≡ Some (q, e) → IsIndexAt st q b
index_at st n q e b well there is =
    let i = based st.numbers (database_at n st) b there in
    by i.database i.database.index refl (found_is (λ (d : Database). st.numbers d.name == n) st.store.databases i.database i.is).0 i.kind (i.over ∙ is)
  where
    by : (d : Database) (o : Option Index) → d.index ≡ o → IsAmong d st.store.databases → d.kind ≡ b.1 → over_by st.numbers d.index ≡ Some (q, e) → IsIndexAt st q b
    by d None f a k h = let m = sym (ap (over_by st.numbers) f) ∙ h in absurd (cc (m))
    by d (Some j) f a k h =
        let o = well.over d j a f in
        let p : Database = o.1.0 in
        let number : st.numbers j.primary ≡ q = ap (λ (z : ℕ × Extract). z.0) (over_is (st.numbers j.primary, j.extract) (q, e) (sym (ap (over_by st.numbers) f) ∙ h)) in
        record {
          dup = sym k ∙ o.0;
          base = (p.name, p.kind, over_by st.numbers p.index);
          primary = ap (λ (m : ℕ). base_at m st) (sym number) ∙ ap (base_of st.numbers) (by_number st.numbers st.last_db st.store j.primary p well.numbers o.1.1);
          plain = o.1.2;
          alone = ap (over_by st.numbers) o.1.3;
        }

-- a base is one of a number alone
pub one_base : (st : Standing) (n : ℕ) (b c : Base) → base_at n st ≡ Some b → base_at n st ≡ Some c → b ≡ c
one_base st n b c e f = base_is b c (sym e ∙ f)

-- ---- its records rise

rising_at : (st : Standing) (n : ℕ) (b : Base) → IsStore st.store → base_at n st ≡ Some b → HasRisingNames b.1 (pairs_at n st)
rising_at st n b right e =
    let i = based st.numbers (database_at n st) b e in
    let up = all_at (λ (d : Database). HasRisingNames d.kind d.pairs) st.store.databases i.database right.records (found_is (λ (d : Database). st.numbers d.name == n) st.store.databases i.database i.is).0 in
    subst (λ (o : Option Database). HasRisingNames b.1 (pairs_of o)) (sym i.is) (subst (λ (k : Kind). HasRisingNames k i.database.pairs) i.kind up)

pub rising_in : (st : Standing) (n : ℕ) (b : Base) (kind : Kind) → IsStore st.store → base_at n st ≡ Some b → b.1 ≡ kind → HasRisingNames kind (pairs_at n st)
rising_in st n b kind right there is = subst (λ (k : Kind). HasRisingNames k (pairs_at n st)) is (rising_at st n b right there)

-- own changes in a plain database have names without data
pub without_data : (st : Standing) (q : ℕ) (base : Base) (own : List (ℕ × RecordChange)) → AllByRecursion (IsFit st) own → base_at q st ≡ Some base → base.1 ≡ Plain → AllByRecursion (λ c. (changed_name c).dup ≡ []) (of_db q own)
without_data st q base own fits there plain = all_of (λ c. (changed_name c).dup ≡ []) (of_db q own) (λ c k.
    let f = all_at (IsFit st) own (q, c) fits (of_db_is q own c k) in
    name f.base c (one_base st q f.base base f.there there) f.its)
  where
    name : (x : Base) (c : RecordChange) → x ≡ base → proper x.1 (changed_name c) ≡ changed_name c → (changed_name c).dup ≡ []
    name x c same its = ap (λ (m : Name). m.dup) (sym its ∙ ap (λ (k : Kind). proper k (changed_name c)) (ap (λ (z : Base). z.1) same ∙ plain))

-- ---- a transaction commits and ends

-- the same databases, and the records of each with the transaction's changes in it
pub record IsCommitOf (st : Standing) (a : Active) (new : Standing) : Type 0 where
  pub bases : (n : ℕ) → base_at n new ≡ base_at n st
  pub pairs : (n : ℕ) (b : Base) → base_at n st ≡ Some b → pairs_at n new ≡ all_pairs_changed b.1 (of_db n (st.own a.txn.0)) (pairs_at n st)
  pub own : (t : ℕ) → new.own t ≡ with_at a.txn.0 [] st.own t

module _ (st : Standing) (a : Active) (new : Standing) (told : List AnsweredCall) (sound : AreSound st) (ground : IsGround st told) (end : IsCommitOf st a new) where
  pairs_are : (n : ℕ) (b : Base) (kind : Kind) → base_at n st ≡ Some b → b.1 ≡ kind → pairs_at n new ≡ all_pairs_changed kind (of_db n (st.own a.txn.0)) (pairs_at n st)
  pairs_are n b kind there is = end.pairs n b there ∙ ap (λ (k : Kind). all_pairs_changed k (of_db n (st.own a.txn.0)) (pairs_at n st)) is

  apart_at : (t q : ℕ) (base : Base) → (t ≡ a.txn.0 → ⊥) → base_at q st ≡ Some base → base.1 ≡ Plain → AreApart (of_db q (st.own t)) (of_db q (st.own a.txn.0))
  apart_at t q base other there plain =
      apart_owns st.locks (txn_id t) (txn_id a.txn.0) q (of_db q (st.own t)) (of_db q (st.own a.txn.0)) sound.tables (unlike (eqb_tells a.txn.0 t))
      (of_db_all (HoldsWrite st.locks.at (txn_id t)) q (st.own t) (sound.own_locked t)) (without_data st q base (st.own t) (ground.fits t) there plain)
      (of_db_all (HoldsWrite st.locks.at (txn_id a.txn.0)) q (st.own a.txn.0) (sound.own_locked a.txn.0)) (without_data st q base (st.own a.txn.0) (ground.fits a.txn.0) there plain)
    where
      unlike : ((a.txn.0 == t) ≡ true) × (a.txn.0 ≡ t) ⊎ ((a.txn.0 == t) ≡ false) × (a.txn.0 ≡ t → ⊥) → is_same_txn (txn_id a.txn.0) (txn_id t) ≡ false
      unlike (inl same) = absurd (other (sym same.1))
      unlike (inr k) = k.0

  pub up_committed : AreUp new
  up_committed n q e b there_new is = record { same = same; keeps = λ t. by t (eqb_tells t a.txn.0) }
    where
      there : base_at n st ≡ Some b
      there = sym (end.bases n) ∙ there_new

      f : IsIndexAt st q b
      f = index_at st n q e b ground.well there is

      u : IsUp st n q e
      u = ground.up n q e b there is

      at_n : pairs_at n new ≡ all_pairs_changed Dup (of_db n (st.own a.txn.0)) (pairs_at n st)
      at_n = pairs_are n b Dup there f.dup

      at_q : pairs_at q new ≡ all_pairs_changed Plain (of_db q (st.own a.txn.0)) (pairs_at q st)
      at_q = pairs_are q f.base Plain f.primary f.plain

      same : pairs_at n new ≡ index_pairs e (pairs_at q new)
      same = at_n ∙ ((u.keeps a.txn.0).same ∙ ap (index_pairs e) (sym at_q))

      by : (t : ℕ) → ((t == a.txn.0) ≡ true) × (t ≡ a.txn.0) ⊎ ((t == a.txn.0) ≡ false) × (t ≡ a.txn.0 → ⊥) → KeepUp (by_extract e) (pairs_at q new) (pairs_at n new) (of_db q (new.own t)) (of_db n (new.own t))
      by t (inl k) =
          let own : new.own t ≡ [] = end.own t ∙ cond-true (t == a.txn.0) [] (st.own t) k.0 in
          keep_same (by_extract e) (pairs_at q new) (pairs_at q new) (pairs_at n new) (pairs_at n new) [] (of_db q (new.own t)) [] (of_db n (new.own t))
          refl refl (ap (of_db q) own) (ap (of_db n) own) (keep_none (by_extract e) (pairs_at q new) (pairs_at n new) same)
      by t (inr k) =
          let own : new.own t ≡ st.own t = end.own t ∙ cond-false (t == a.txn.0) [] (st.own t) k.0 in
          keep_same (by_extract e) (all_pairs_changed Plain (of_db q (st.own a.txn.0)) (pairs_at q st)) (pairs_at q new) (all_pairs_changed Dup (of_db n (st.own a.txn.0)) (pairs_at n st)) (pairs_at n new)
          (of_db q (st.own t)) (of_db q (new.own t)) (of_db n (st.own t)) (of_db n (new.own t)) at_q at_n (ap (of_db q) own) (ap (of_db n) own)
          (others-keep_up (by_extract e) (pairs_at q st) (pairs_at n st) (of_db q (st.own t)) (of_db n (st.own t)) (of_db q (st.own a.txn.0)) (of_db n (st.own a.txn.0))
          (rising_in st q f.base Plain ground.well.store f.primary f.plain) (rising_in st n b Dup ground.well.store there f.dup)
          (apart_at t q f.base k.1 f.primary f.plain) (u.keeps t) (u.keeps a.txn.0))
