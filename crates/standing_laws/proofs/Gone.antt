-- Those whose waits are gone: the victims, by their numbers and by their sessions.
use Rattle.std.proofs.Common.{◌≡◌, ℕ, ◌==◌, Bool, true, false, cond, not, ◌||◌, List, [], ◌∷◌, map, Some, None, Option, refl, ap, ap₂, sym, ◌∙◌, subst, ⊎_elim, arith}
use mathlib.Core.Path.{fun_ext}
use Rattle.std.specs.List.{filter, find, AllByRecursion}
use Rattle.std.proofs.lemmas.Bool.{cases_Bool, cond-true, cond-false, eqb-true}
use Rattle.std.proofs.lemmas.Bool.Decides.{nat_tests}
use Rattle.je_order.specs.declared.txn_id.TxnId.{TxnId}
use Rattle.je_order.specs.Transactions.{is_same_txn}
use Rattle.je_order.proofs.TxnIds.{same_is, same_either}
use Rattle.waits_for.specs.Cycles.{is_in}
use Rattle.lock_table.specs.declared.lock.Lock.{Lock}
use Rattle.lock_table.specs.declared.record_id.RecordId.{RecordId}
use Rattle.lock_table.specs.Locks.{is_of, after_cancel}
use Rattle.lock_mgr.specs.Deadlock.{without_waits}
use Rattle.store_model.specs.declared.need.Need.{Need}
use Rattle.store_model.specs.declared.victim.Victim.{Victim}
use Rattle.je_answers.specs.declared.active.Active.{Active}
use Rattle.je_answers.specs.declared.wait.Wait.{Wait}
use Rattle.je_answers.specs.Standing.{LockState, active_of}
use Rattle.je_answers.specs.Locking.{got, record_of, with_wait}
use Rattle.je_answers.specs.Events.{told_by, told_in}
use Rattle.je_answers.specs.After.{is_victim, txns_of}
use Rattle.active_txns.specs.Marks.{HaveOwnSessions}
use Rattle.standing_laws.specs.Right.{IsWaitIn, has_wait}
use Rattle.standing_laws.proofs.Among.{any_some, any_from, all_at, among_map, mapped_among, among_filter, filter_among, find_some, found_is, its_session, own_found}

-- ---- the waits that go, by membership alone

abbrev keeps : List TxnId → Lock → Bool
keeps us l = not (is_in l.txn us)

filter_twice : (p q r : Lock → Bool) → ((l : Lock) → r l ≡ cond (p l) (q l) false) → (ls : List Lock) → filter q (filter p ls) ≡ filter r ls
filter_twice p q r h [] = refl
filter_twice p q r h (l ∷ ls) = ⊎_elim
    (λ e. ap (filter q) (cond-true (p l) (l ∷ filter p ls) (filter p ls) e) ∙ (ap (λ b. cond b (l ∷ filter q (filter p ls)) (filter q (filter p ls))) (sym (h l ∙ cond-true (p l) (q l) false e)) ∙ ap (λ x. cond (r l) (l ∷ x) x) (filter_twice p q r h ls)))
    (λ e. ap (filter q) (cond-false (p l) (l ∷ filter p ls) (filter p ls) e) ∙ (filter_twice p q r h ls ∙ sym (cond-false (r l) (l ∷ filter r ls) (filter r ls) (h l ∙ cond-false (p l) (q l) false e))))
    (cases_Bool (p l))

filter_none : (ls : List Lock) → filter (λ l. true) ls ≡ ls
filter_none [] = refl
filter_none (l ∷ ls) = ap (λ x. l ∷ x) (filter_none ls)

not_either : (a b : Bool) → not (a || b) ≡ cond (not a) (not b) false
not_either true b = refl
not_either false b = refl

without_is : (us : List TxnId) (q : List Lock × List Lock) → without_waits us q ≡ (q.0, filter (keeps us) q.1)
without_is [] q = ap (λ (l : List Lock). (q.0, l)) (sym (filter_none q.1))
without_is (u ∷ us) q = without_is us (after_cancel u q) ∙ ap (λ (l : List Lock). (q.0, l))
    (filter_twice (λ l. not (is_of u l)) (keeps us) (keeps (u ∷ us)) (λ l. not_either (is_same_txn l.txn u) (is_in l.txn us) ∙ ap (λ b. cond (not b) (keeps us l) false) (same_either l.txn u)) q.1)

filter_alike : {X : Type 0} (p q : X → Bool) → ((x : X) → p x ≡ q x) → (xs : List X) → filter p xs ≡ filter q xs
filter_alike p q h [] = refl
filter_alike p q h (x ∷ xs) = ap₂ (λ b ys. cond b (x ∷ ys) ys) (h x) (filter_alike p q h xs)

without_alike : (us vs : List TxnId) → ((t : TxnId) → is_in t us ≡ is_in t vs) → (q : List Lock × List Lock) → without_waits us q ≡ without_waits vs q
without_alike us vs h q = without_is us q ∙ (ap (λ (l : List Lock). (q.0, l)) (filter_alike (keeps us) (keeps vs) (λ l. ap not (h l.txn)) q.1) ∙ sym (without_is vs q))

abbrev state : (RecordId → List Lock × List Lock) → (TxnId → Option RecordId) → LockState
state at pending = record { at = at; pending = pending }

pub wait_alike : (t : TxnId) (n : Need) (us vs : List TxnId) (locks : LockState) → ((u : TxnId) → is_in u us ≡ is_in u vs) → with_wait t n us locks ≡ with_wait t n vs locks
wait_alike t n us vs locks h = ap₂ state
    (fun_ext (λ r. without_alike us vs h (got t n locks.at r)))
    (fun_ext (λ u. ap (λ b. cond b None (cond (is_same_txn t u) (Some (record_of n)) (locks.pending u))) (h u)))

-- ---- the victims

either_way : (a b : Bool) → (a ≡ true → b ≡ true) → (b ≡ true → a ≡ true) → a ≡ b
either_way true b f g = sym (f refl)
either_way false b f g = ⊎_elim (λ e. absurd (let k : false ≡ true = g e in cc (k))) (λ e. sym e) (cases_Bool b)

told_is : (ws : List Wait) (v : TxnId × List TxnId) (w : Wait) → find (λ x. is_same_txn v.0 x.txn) ws ≡ Some w → (told_in ws v).session ≡ w.session
told_is ws v w e = ap (λ (o : Option Wait). (told_by o v.1).session) e

same_number : (n : ℕ) → (n == n) ≡ true
same_number n = grind (arith, nat_tests)

waits_any : (t : TxnId) (ws : List Wait) → is_in t (map (λ w. w.txn) ws) ≡ has_wait t ws
waits_any t [] = refl
waits_any t (w ∷ ws) = ap (λ b. is_same_txn t w.txn || b) (waits_any t ws)

-- the wait of a victim, and its transaction
pub record IsVictimOf (actives : List Active) (ws : List Wait) (v : TxnId × List TxnId) : Type 0 where
  pub wait : Wait
  pub active : Active
  pub found : find (λ x. is_same_txn v.0 x.txn) ws ≡ Some wait
  pub its : active_of wait.session actives ≡ Some active
  pub same : active.txn ≡ v.0

victim_of : (actives : List Active) (ws : List Wait) (v : TxnId × List TxnId) → AllByRecursion (IsWaitIn actives) ws → is_in v.0 (map (λ w. w.txn) ws) ≡ true → IsVictimOf actives ws v
victim_of actives ws v each there =
    let f = find_some (λ (x : Wait). is_same_txn v.0 x.txn) ws (sym (waits_any v.0 ws) ∙ there) in
    let p = found_is (λ (x : Wait). is_same_txn v.0 x.txn) ws f.0 f.1 in
    let i = all_at (IsWaitIn actives) ws f.0 each p.0 in
    record { wait = f.0; active = i.active; found = f.1; its = i.its; same = i.same ∙ sym (same_is v.0 f.0.txn p.1) }

some_active : (x y : Active) → Some x ≡ Some y → x ≡ y
some_active x y e = cc

pub same_gone : (found : List (TxnId × List TxnId)) (actives : List Active) (ws : List Wait) → HaveOwnSessions actives → AllByRecursion (IsWaitIn actives) ws → AllByRecursion (λ v. is_in v.0 (map (λ w. w.txn) ws) ≡ true) found
    → (u : TxnId) → is_in u (map (λ v. v.0) found) ≡ is_in u (txns_of (map (told_in ws) found) actives)
same_gone found actives ws own each there u = either_way _ _ to from
  where
    victims : List Victim
    victims = map (told_in ws) found

    to : is_in u (map (λ (v : TxnId × List TxnId). v.0) found) ≡ true → is_in u (txns_of victims actives) ≡ true
    to h =
        let s = any_some (is_same_txn u) (map (λ (v : TxnId × List TxnId). v.0) found) h in
        let m = mapped_among (λ (v : TxnId × List TxnId). v.0) found s.0 s.1 in
        let i = victim_of actives ws m.0 each (all_at (λ (v : TxnId × List TxnId). is_in v.0 (map (λ (w : Wait). w.txn) ws) ≡ true) found m.0 there m.1) in
        let a = its_session i.wait.session actives i.active i.its in
        let told : ((told_in ws m.0).session == i.active.session) ≡ true = ap (λ n. n == i.active.session) (told_is ws m.0 i.wait i.found) ∙ (ap (λ n. i.wait.session == n) a.1 ∙ same_number i.wait.session) in
        let is : is_victim i.active.session victims ≡ true = any_from (λ (v : Victim). v.session == i.active.session) victims (told_in ws m.0) (among_map (told_in ws) found m.0 m.1) told in
        any_from (is_same_txn u) (txns_of victims actives) i.active.txn
        (among_map (λ (b : Active). b.txn) (filter (λ (b : Active). is_victim b.session victims) actives) i.active (among_filter (λ (b : Active). is_victim b.session victims) actives i.active a.0 is))
        (subst (λ (x : TxnId). is_same_txn u x ≡ true) (sym (i.same ∙ m.2)) s.2)

    from : is_in u (txns_of victims actives) ≡ true → is_in u (map (λ (v : TxnId × List TxnId). v.0) found) ≡ true
    from h =
        let s = any_some (is_same_txn u) (txns_of victims actives) h in
        let b = mapped_among (λ (x : Active). x.txn) (filter (λ (x : Active). is_victim x.session victims) actives) s.0 s.1 in
        let k = filter_among (λ (x : Active). is_victim x.session victims) actives b.0 b.1 in
        let t = any_some (λ (v : Victim). v.session == b.0.session) victims k.1 in
        let m = mapped_among (told_in ws) found t.0 t.1 in
        let i = victim_of actives ws m.0 each (all_at (λ (v : TxnId × List TxnId). is_in v.0 (map (λ (w : Wait). w.txn) ws) ≡ true) found m.0 there m.1) in
        let session : i.wait.session ≡ b.0.session = sym (told_is ws m.0 i.wait i.found) ∙ (ap (λ (v : Victim). v.session) m.2 ∙ eqb-true t.0.session b.0.session t.2) in
        let one : active_of b.0.session actives ≡ Some b.0 = own_found actives b.0 own k.0 in
        let both : Some i.active ≡ Some b.0 = sym i.its ∙ (ap (λ n. active_of n actives) session ∙ one) in
        let same : i.active ≡ b.0 = some_active i.active b.0 both in
        any_from (is_same_txn u) (map (λ (v : TxnId × List TxnId). v.0) found) m.0.0 (among_map (λ (v : TxnId × List TxnId). v.0) found m.0 m.1)
        (subst (λ (x : TxnId). is_same_txn u x ≡ true) (sym b.2 ∙ (ap (λ (x : Active). x.txn) (sym same) ∙ i.same)) s.2)
