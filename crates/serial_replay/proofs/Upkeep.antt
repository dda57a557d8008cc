-- Indexes by the numbers of databases: with the own changes of each transaction they have the pairs of their primaries' records.
use Rattle.std.proofs.Common.{◌≡◌, ◌⊎◌, inl, inr, ℕ, List, [], Some, refl, ap, ap₂, sym, ◌∙◌, subst}
use Rattle.store_model.specs.declared.store.Store.{Store}
use Rattle.store_model.specs.declared.index.Index.{Index}
use Rattle.store_model.specs.declared.extract.Extract.{Extract}
use Rattle.store_model.specs.declared.record_change.RecordChange.{RecordChange}
use Rattle.store_model.specs.Store.{Pair}
use Rattle.store_model.specs.Indexes.{index_pairs}
use Rattle.je_answers.specs.Standing.{Standing}
use Rattle.je_answers.specs.Views.{of_db}
use Rattle.index_laws.specs.Keeping.{KeepUp}
use Rattle.serial_replay.proofs.Stores.{Numbers, Base, base_in, pairs_in, base_at, pairs_at}

-- ---- what holds of an index

abbrev pub by_extract : Extract → Index
by_extract e = record { primary = []; extract = e }

-- the index of number n, of the database of number q
pub record IsUp (st : Standing) (n q : ℕ) (e : Extract) : Type 0 where
  pub same : pairs_at n st ≡ index_pairs e (pairs_at q st)
  pub keeps : (t : ℕ) → KeepUp (by_extract e) (pairs_at q st) (pairs_at n st) (of_db q (st.own t)) (of_db n (st.own t))

abbrev pub AreUp : Standing → Type 0
AreUp st = (n q : ℕ) (e : Extract) (b : Base) → base_at n st ≡ Some b → b.2 ≡ Some (q, e) → IsUp st n q e

pub keep_same : (index : Index) (r s p z : List Pair) (o v i w : List RecordChange) → s ≡ r → z ≡ p → v ≡ o → w ≡ i → KeepUp index r p o i → KeepUp index s z v w
keep_same index r s p z o v i w a b c d k =
    subst (λ (x : List Pair). KeepUp index x z v w) (sym a)
    (subst (λ (x : List Pair). KeepUp index r x v w) (sym b)
    (subst (λ (x : List RecordChange). KeepUp index r p x w) (sym c)
    (subst (λ (x : List RecordChange). KeepUp index r p o x) (sym d) k)))

pub keep_none : (index : Index) (r p : List Pair) → p ≡ index_pairs index.extract r → KeepUp index r p [] []
keep_none index r p e = record { same = e; only = λ key none. tt }

-- ---- where records stay

-- with the same records, and the own changes or none
pub up_from : (st new : Standing) (n q : ℕ) (e : Extract) → pairs_at n new ≡ pairs_at n st → pairs_at q new ≡ pairs_at q st
    → ((t : ℕ) → (new.own t ≡ st.own t) ⊎ (new.own t ≡ [])) → IsUp st n q e → IsUp new n q e
up_from st new n q e at_n at_q own u = record { same = same; keeps = λ t. by t (own t) }
  where
    same : pairs_at n new ≡ index_pairs e (pairs_at q new)
    same = at_n ∙ (u.same ∙ ap (index_pairs e) (sym at_q))

    by : (t : ℕ) → (new.own t ≡ st.own t) ⊎ (new.own t ≡ []) → KeepUp (by_extract e) (pairs_at q new) (pairs_at n new) (of_db q (new.own t)) (of_db n (new.own t))
    by t (inl k) =
        keep_same (by_extract e) (pairs_at q st) (pairs_at q new) (pairs_at n st) (pairs_at n new) (of_db q (st.own t)) (of_db q (new.own t)) (of_db n (st.own t)) (of_db n (new.own t))
        at_q at_n (ap (of_db q) k) (ap (of_db n) k) (u.keeps t)
    by t (inr k) =
        keep_same (by_extract e) (pairs_at q new) (pairs_at q new) (pairs_at n new) (pairs_at n new) [] (of_db q (new.own t)) [] (of_db n (new.own t))
        refl refl (ap (of_db q) k) (ap (of_db n) k) (keep_none (by_extract e) (pairs_at q new) (pairs_at n new) same)

-- the store stays, and transactions have their own changes or none
pub up_own : (st new : Standing) → new.store ≡ st.store → new.numbers ≡ st.numbers → ((t : ℕ) → (new.own t ≡ st.own t) ⊎ (new.own t ≡ [])) → AreUp st → AreUp new
up_own st new store numbers own up n q e b there is =
    up_from st new n q e (pairs n) (pairs q) own (up n q e b (sym (ap₂ (λ (m : Numbers) (s : Store). base_in m n s) numbers store) ∙ there) is)
  where
    pairs : (m : ℕ) → pairs_at m new ≡ pairs_at m st
    pairs m = ap₂ (λ (k : Numbers) (s : Store). pairs_in k m s) numbers store
