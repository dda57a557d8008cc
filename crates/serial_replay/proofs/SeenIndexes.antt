-- A pair of an index, as a transaction sees it, has its record in the primary.
use Rattle.std.proofs.Common.{◌≡◌, ◌⊎◌, inl, inr, ℕ, not, List, [], ◌∷◌, filter, Option, None, Some, refl, ap, ap₂, sym, ◌∙◌, subst, ⊎_elim, is_lt, is_gt, is_eq}
use Rattle.je_order.specs.Order.{name_cmp}
use Rattle.je_order.specs.declared.name.Name.{Name}
use Rattle.store_model.specs.declared.extract.Extract.{Extract}
use Rattle.store_model.specs.declared.kind.Kind.{Kind}
use Rattle.store_model.specs.declared.kind.Kind.TheVariants.{Plain, Dup}
use Rattle.store_model.specs.declared.isolation.Isolation.{Isolation}
use Rattle.store_model.specs.declared.isolation.Isolation.TheVariants.{RepeatableRead}
use Rattle.store_model.specs.declared.record_change.RecordChange.{RecordChange}
use Rattle.store_model.specs.declared.record_change.RecordChange.TheVariants.{Set, Unset}
use Rattle.store_model.specs.Store.{Pair, named, name_of, pairs_changed, all_pairs_changed, changed_name}
use Rattle.store_model.specs.Indexes.{Numbered, key_in, put_in, pairs_put, index_pairs}
use Rattle.je_answers.specs.declared.active.Active.{Active}
use Rattle.je_answers.specs.Standing.{Standing, database_at}
use Rattle.je_answers.specs.Views.{of_db, seen_changes, view_in}
use Rattle.standing_laws.proofs.Among.{IsAmong, among_append, filter_among}
use Rattle.serial_replay.specs.Replay.{AnsweredCall}
use Rattle.serial_replay.proofs.Occupied.{flat_is}
use Rattle.serial_replay.proofs.Stores.{Base, over_by, base_of, pairs_of, pairs_at}
use Rattle.serial_replay.proofs.Upkeep.{IsUp}
use Rattle.serial_replay.proofs.Keeping.{IsGround}
use Rattle.serial_replay.proofs.IndexBases.{IsIndexAt, index_at, one_base}
use Rattle.serial_replay.proofs.Here.{HasRecords}

-- a pair that stands after changes stood before, or one of them is of its name
changed_is : (c : RecordChange) (r : Pair) (v : List Pair) → IsAmong r (pairs_changed Dup c v) → (changed_name c ≡ named r.0 r.1) ⊎ IsAmong r v
changed_is (Set at value) r v a = by (among_append (filter (λ p. is_lt (name_cmp (name_of Dup p) at)) v) ((at.key, at.dup) ∷ filter (λ p. is_gt (name_cmp (name_of Dup p) at)) v) r a)
  where
    by : IsAmong r (filter (λ p. is_lt (name_cmp (name_of Dup p) at)) v) ⊎ IsAmong r ((at.key, at.dup) ∷ filter (λ p. is_gt (name_cmp (name_of Dup p) at)) v) → (at ≡ named r.0 r.1) ⊎ IsAmong r v
    by (inl k) = inr (filter_among (λ (p : Pair). is_lt (name_cmp (name_of Dup p) at)) v r k).0
    by (inr (inl e)) = inl (ap (λ (p : Pair). named p.0 p.1) e)
    by (inr (inr k)) = inr (filter_among (λ (p : Pair). is_gt (name_cmp (name_of Dup p) at)) v r k).0
changed_is (Unset at) r v a = inr (filter_among (λ (p : Pair). not (is_eq (name_cmp (name_of Dup p) at))) v r a).0

all_is : (cs : List RecordChange) (r : Pair) (v : List Pair) → IsAmong r (all_pairs_changed Dup cs v) → ((c : RecordChange) × IsAmong c cs × (changed_name c ≡ named r.0 r.1)) ⊎ IsAmong r v
all_is [] r v a = inr a
all_is (c ∷ cs) r v a = by (all_is cs r (pairs_changed Dup c v) a)
  where
    by : ((d : RecordChange) × IsAmong d cs × (changed_name d ≡ named r.0 r.1)) ⊎ IsAmong r (pairs_changed Dup c v) → ((d : RecordChange) × IsAmong d (c ∷ cs) × (changed_name d ≡ named r.0 r.1)) ⊎ IsAmong r v
    by (inl (d, k, e)) = inl (d, inr k, e)
    by (inr k) = ⊎_elim (λ e. inl (c, inl refl, e)) (λ m. inr m) (changed_is c r v k)

put_is : (primary_key : List ℕ) (o : Option (List ℕ)) (c : RecordChange) → IsAmong c (put_in primary_key o) → (changed_name c).dup ≡ primary_key
put_is primary_key None c a = absurd a
put_is primary_key (Some key) c (inl e) = ap (λ (x : RecordChange). (changed_name x).dup) (sym e)
put_is primary_key (Some key) c (inr k) = absurd k

-- a pair of an index is of a record
pub pair_has : (extract : Extract) (records : List Pair) (key primary_key : List ℕ) → IsAmong (key, primary_key) (index_pairs extract records) → (value : List ℕ) × IsAmong (primary_key, value) records
pair_has extract records key primary_key a = by (all_is (pairs_put extract records) (key, primary_key) [] a)
  where
    by : ((c : RecordChange) × IsAmong c (pairs_put extract records) × (changed_name c ≡ named key primary_key)) ⊎ IsAmong {X = Pair} (key, primary_key) [] → (value : List ℕ) × IsAmong (primary_key, value) records
    by (inl (c, k, e)) =
        let f = flat_is (λ (p : Pair). put_in p.0 (key_in extract p.1)) records c k in
        let own : f.0.0 ≡ primary_key = sym (put_is f.0.0 (key_in extract f.0.1) c f.2) ∙ ap (λ (n : Name). n.dup) e in
        (f.0.1, subst (λ (n : List ℕ). IsAmong (n, f.0.1) records) own f.1)
    by (inr k) = absurd k

-- a pair of an index, as a transaction at repeatable read sees it, has its record
pub has_records : (st : Standing) (a : Active) (told : List AnsweredCall) → IsGround st told → a.level ≡ RepeatableRead → HasRecords st a
has_records st a told ground level x p e key primary_key here there is m = pair_has e (view_in st a p) key primary_key (subst (IsAmong (key, primary_key)) seen m)
  where
    base : Base
    base = (x.1.name, x.1.kind, over_by st.numbers x.1.index)

    f : IsIndexAt st p.0 (x.1.name, x.1.kind, over_by st.numbers x.1.index)
    f = index_at st x.0 p.0 e base ground.well (ap (base_of st.numbers) here) is

    u : IsUp st x.0 p.0 e
    u = ground.up x.0 p.0 e base (ap (base_of st.numbers) here) is

    plain : p.1.kind ≡ Plain
    plain = ap (λ (b : Base). b.1) (one_base st p.0 (p.1.name, p.1.kind, over_by st.numbers p.1.index) f.base (ap (base_of st.numbers) there) f.primary) ∙ f.plain

    own : seen_changes a.level st a.txn.0 ≡ st.own a.txn.0
    own = ap (λ (l : Isolation). seen_changes l st a.txn.0) level

    -- it sees its own changes
    view_is : (z : Numbered) (kind : Kind) → database_at z.0 st ≡ Some z.1 → z.1.kind ≡ kind → view_in st a z ≡ all_pairs_changed kind (of_db z.0 (st.own a.txn.0)) (pairs_at z.0 st)
    view_is z kind h k =
        ap₂ (λ (c : Kind) (cs : List (ℕ × RecordChange)). all_pairs_changed c (of_db z.0 cs) z.1.pairs) k own
        ∙ ap (all_pairs_changed kind (of_db z.0 (st.own a.txn.0))) (sym (ap pairs_of h))

    seen : view_in st a x ≡ index_pairs e (view_in st a p)
    seen = view_is x Dup here f.dup ∙ ((u.keeps a.txn.0).same ∙ ap (index_pairs e) (sym (view_is p Plain there plain)))
