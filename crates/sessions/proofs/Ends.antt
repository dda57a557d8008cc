-- Victims that end.
use Rattle.std.proofs.Common.{◌≡◌, ℕ, ◌<◌, ◌==◌, Bool, true, false, not, List, [], ◌∷◌, length, Some, None, Option, refl, ap, sym, ◌∙◌, subst, ⊎_elim, suc, arith}
use Rattle.std.specs.List.{find, AllByRecursion}
use Rattle.std.specs.Option.{option_map, option_map_or}
use Rattle.std.proofs.lemmas.Bool.{cases_Bool, cond-true, cond-false}
use Rattle.std.proofs.lemmas.Bool.Decides.{nat_tests}
use Rattle.je_order.specs.declared.txn_id.TxnId.{TxnId}
use Rattle.store_model.specs.declared.victim.Victim.{Victim}
use Rattle.je_answers.specs.declared.active.Active.{Active}
use Rattle.je_answers.specs.Standing.{Standing}
use Rattle.je_answers.specs.After.{without_session, ended, all_ended, autos_in}
use Rattle.active_txns.specs.Marks.{HaveOwnSessions}
use Rattle.sessions.specs.declared.all_sessions.Sessions.{Sessions}
use Rattle.sessions.specs.AtStanding.{AreSessionsAt}
use Rattle.sessions.specs.Waiting.{is_auto_victim, first_auto_in}

-- ---- the list without one session

same_number : (n : ℕ) → (n == n) ≡ true
same_number n = grind (arith, nat_tests)

-- where none is of the session
none_of_session : (session : ℕ) (as_ : List Active) → AllByRecursion (λ b. (b.session == session) ≡ false) as_ → without_session session as_ ≡ as_
none_of_session session [] h = refl
none_of_session session (a ∷ as_) h = cond-true (not (a.session == session)) (a ∷ without_session session as_) (without_session session as_) (ap not h.0) ∙ ap (λ l. a ∷ l) (none_of_session session as_ h.1)

keeps_all : (P : Active → Type 0) (session : ℕ) (as_ : List Active) → AllByRecursion P as_ → AllByRecursion P (without_session session as_)
keeps_all P session [] h = tt
keeps_all P session (a ∷ as_) h = ⊎_elim
    (λ e. subst (AllByRecursion P) (sym (cond-true (not (a.session == session)) (a ∷ without_session session as_) (without_session session as_) e)) (h.0, keeps_all P session as_ h.1))
    (λ e. subst (AllByRecursion P) (sym (cond-false (not (a.session == session)) (a ∷ without_session session as_) (without_session session as_) e)) (keeps_all P session as_ h.1))
    (cases_Bool (not (a.session == session)))

pub keeps_own : (session : ℕ) (as_ : List Active) → HaveOwnSessions as_ → HaveOwnSessions (without_session session as_)
keeps_own session [] h = tt
keeps_own session (a ∷ as_) h = ⊎_elim
    (λ e. subst HaveOwnSessions (sym (cond-true (not (a.session == session)) (a ∷ without_session session as_) (without_session session as_) e)) (keeps_all (λ b. (b.session == a.session) ≡ false) session as_ h.0, keeps_own session as_ h.1))
    (λ e. subst HaveOwnSessions (sym (cond-false (not (a.session == session)) (a ∷ without_session session as_) (without_session session as_) e)) (keeps_own session as_ h.1))
    (cases_Bool (not (a.session == session)))

-- those that end, once the first of them is gone
first_here : (victims : List Victim) (a b : Active) (bs : List Active) → b ≡ a → is_auto_victim victims b ≡ true → HaveOwnSessions (b ∷ bs) → autos_in victims (b ∷ bs) ≡ a ∷ autos_in victims (without_session a.session (b ∷ bs))
first_here victims a b bs same t own = subst (λ (x : Active). autos_in victims (b ∷ bs) ≡ x ∷ autos_in victims (without_session x.session (b ∷ bs))) same
    (cond-true (is_auto_victim victims b) (b ∷ autos_in victims bs) (autos_in victims bs) t
    ∙ ap (λ l. b ∷ autos_in victims l) (sym (cond-false (not (b.session == b.session)) (b ∷ without_session b.session bs) (without_session b.session bs) (ap not (same_number b.session)) ∙ none_of_session b.session bs own.0)))

not_first : (victims : List Victim) (a b : Active) (bs : List Active) → is_auto_victim victims b ≡ false → autos_in victims bs ≡ a ∷ autos_in victims (without_session a.session bs) → autos_in victims (b ∷ bs) ≡ a ∷ autos_in victims (without_session a.session (b ∷ bs))
not_first victims a b bs f rest = cond-false (is_auto_victim victims b) (b ∷ autos_in victims bs) (autos_in victims bs) f ∙ (rest ∙ ap (λ l. a ∷ l) (⊎_elim
    (λ e. sym (ap (autos_in victims) (cond-true (not (b.session == a.session)) (b ∷ without_session a.session bs) (without_session a.session bs) e) ∙ cond-false (is_auto_victim victims b) (b ∷ autos_in victims (without_session a.session bs)) (autos_in victims (without_session a.session bs)) f))
    (λ e. sym (ap (autos_in victims) (cond-false (not (b.session == a.session)) (b ∷ without_session a.session bs) (without_session a.session bs) e)))
    (cases_Bool (not (b.session == a.session)))))

some_active : (a b : Active) → Some a ≡ Some b → a ≡ b
some_active a b e = cc

rest_ends : (victims : List Victim) (a : Active) (as_ : List Active) → find (is_auto_victim victims) as_ ≡ Some a → HaveOwnSessions as_
    → autos_in victims as_ ≡ a ∷ autos_in victims (without_session a.session as_)
rest_ends victims a [] is own = absurd (cc (is))
rest_ends victims a (b ∷ bs) is own = ⊎_elim
    (λ t. first_here victims a b bs (some_active b a (sym (cond-true (is_auto_victim victims b) (Some b) (find (is_auto_victim victims) bs) t) ∙ is)) t own)
    (λ f. not_first victims a b bs f (rest_ends victims a bs (sym (cond-false (is_auto_victim victims b) (Some b) (find (is_auto_victim victims) bs) f) ∙ is) own.1))
    (cases_Bool (is_auto_victim victims b))

-- ---- the walk

-- some have ended, and the others are to end from there
abbrev pub IsEnding : List Victim → Sessions → Sessions → Type 0
IsEnding victims old now = (st : Standing) → HaveOwnSessions st.actives → AreSessionsAt old st
    → (mid : Standing) × AreSessionsAt now mid × HaveOwnSessions mid.actives × (all_ended (autos_in victims mid.actives) mid ≡ all_ended (autos_in victims st.actives) st)

pub ending_begins : (victims : List Victim) (s : Sessions) → IsEnding victims s s
ending_begins victims s st own at = (st, at, own, refl)

pub record IsFirst (o : Option Active) (session : ℕ) (txn : TxnId) : Type 0 where
  pub active : Active
  pub found : o ≡ Some active
  pub its : active.session ≡ session
  pub same : active.txn ≡ txn

found_some : (o : Option Active) (session : ℕ) (txn : TxnId) → ◌≡◌ {A = Option (ℕ × TxnId)} (Some (session, txn)) (option_map (λ (a : Active). (a.session, a.txn)) o) → IsFirst o session txn
found_some None session txn e = absurd (cc (e))
found_some (Some a) session txn e = record { active = a; found = refl; its = sym (pair_is e).0; same = sym (pair_is e).1 }
  where
    pair_is : ◌≡◌ {A = Option (ℕ × TxnId)} (Some (session, txn)) (Some (a.session, a.txn)) → (session ≡ a.session) × (txn ≡ a.txn)
    pair_is k = (ap (λ (o : Option (ℕ × TxnId)). option_map_or (λ p. p.0) o 0) k, ap (λ (o : Option (ℕ × TxnId)). option_map_or (λ p. p.1) o txn) k)

pub ending_goes_on : (victims : List Victim) (old now next : Sessions) (as_ : List Active) (session : ℕ) (txn : TxnId) → as_ ≡ now.txns.actives.items → ◌≡◌ {A = Option (ℕ × TxnId)} (Some (session, txn)) (first_auto_in victims as_)
    → ((st : Standing) (a : Active) → a.session ≡ session → a.txn ≡ txn → AreSessionsAt now st → AreSessionsAt next (ended a st)) → IsEnding victims old now → IsEnding victims old next
ending_goes_on victims old now next as_ session txn its is ends k st own at =
    let m = k st own at in
    let list : as_ ≡ m.0.actives = its ∙ m.1.actives in
    let f = found_some (find (is_auto_victim victims) m.0.actives) session txn (is ∙ ap (first_auto_in victims) list) in (
      ended f.active m.0,
      ends m.0 f.active f.its f.same m.1,
      keeps_own f.active.session m.0.actives m.2,
      ap (λ l. all_ended l m.0) (sym (rest_ends victims f.active m.0.actives f.found m.2)) ∙ m.3,
    )

none_found : (o : Option Active) → ◌≡◌ {A = Option (ℕ × TxnId)} None (option_map (λ (a : Active). (a.session, a.txn)) o) → o ≡ None
none_found None e = refl
none_found (Some a) e = absurd (cc (e))

none_end : (victims : List Victim) (as_ : List Active) → find (is_auto_victim victims) as_ ≡ None → autos_in victims as_ ≡ []
none_end victims [] e = refl
none_end victims (a ∷ as_) e = ⊎_elim
    (λ t. let k : Some a ≡ None = sym (cond-true (is_auto_victim victims a) (Some a) (find (is_auto_victim victims) as_) t) ∙ e in absurd (cc (k)))
    (λ f. cond-false (is_auto_victim victims a) (a ∷ autos_in victims as_) (autos_in victims as_) f ∙ none_end victims as_ (sym (cond-false (is_auto_victim victims a) (Some a) (find (is_auto_victim victims) as_) f) ∙ e))
    (cases_Bool (is_auto_victim victims a))

pub ending_ends : (victims : List Victim) (old now : Sessions) (as_ : List Active) → as_ ≡ now.txns.actives.items → ◌≡◌ {A = Option (ℕ × TxnId)} None (first_auto_in victims as_) → IsEnding victims old now
    → (st : Standing) → HaveOwnSessions st.actives → AreSessionsAt old st → AreSessionsAt now (all_ended (autos_in victims st.actives) st)
ending_ends victims old now as_ its is k st own at =
    let m = k st own at in
    let none = none_end victims m.0.actives (none_found (find (is_auto_victim victims) m.0.actives) (is ∙ ap (first_auto_in victims) (its ∙ m.1.actives))) in
    subst (AreSessionsAt now) (sym (ap (λ l. all_ended l m.0) none) ∙ m.3) m.1

-- each turn leaves one less
few : (session : ℕ) (cs : List Active) → length (without_session session cs) < suc (length cs)
few session [] = omega arith
few session (c ∷ cs) = ⊎_elim
    (λ e. let k = ap (λ (l : List Active). length l) (cond-true (not (c.session == session)) (c ∷ without_session session cs) (without_session session cs) e) in omega (arith, k, few session cs))
    (λ e. let k = ap (λ (l : List Active). length l) (cond-false (not (c.session == session)) (c ∷ without_session session cs) (without_session session cs) e) in omega (arith, k, few session cs))
    (cases_Bool (not (c.session == session)))

one_less : (a : Active) (p : Active → Bool) (as_ : List Active) → find p as_ ≡ Some a → length (without_session a.session as_) < length as_
one_less a p [] is = absurd (cc (is))
one_less a p (b ∷ bs) is = ⊎_elim
    (λ t. let same = some_active b a (sym (cond-true (p b) (Some b) (find p bs) t) ∙ is) in
    let gone : not (b.session == a.session) ≡ false = subst (λ (x : Active). not (b.session == x.session) ≡ false) same (ap not (same_number b.session)) in
    let k = ap (λ (l : List Active). length l) (cond-false (not (b.session == a.session)) (b ∷ without_session a.session bs) (without_session a.session bs) gone) in omega (arith, k, few a.session bs))
    (λ f. let less = one_less a p bs (sym (cond-false (p b) (Some b) (find p bs) f) ∙ is) in ⊎_elim
    (λ e. let k = ap (λ (l : List Active). length l) (cond-true (not (b.session == a.session)) (b ∷ without_session a.session bs) (without_session a.session bs) e) in omega (arith, k, less))
    (λ e. let k = ap (λ (l : List Active). length l) (cond-false (not (b.session == a.session)) (b ∷ without_session a.session bs) (without_session a.session bs) e) in omega (arith, k, less))
    (cases_Bool (not (b.session == a.session))))
    (cases_Bool (p b))

pub ending_less : (victims : List Victim) (now next : Sessions) (as_ : List Active) (session : ℕ) (txn : TxnId) → as_ ≡ now.txns.actives.items → ◌≡◌ {A = Option (ℕ × TxnId)} (Some (session, txn)) (first_auto_in victims as_)
    → next.txns.actives.items ≡ without_session session now.txns.actives.items → length next.txns.actives.items < length now.txns.actives.items
ending_less victims now next as_ session txn its is left =
    let f = found_some (find (is_auto_victim victims) now.txns.actives.items) session txn (is ∙ ap (first_auto_in victims) its) in
    let k = one_less f.active (is_auto_victim victims) now.txns.actives.items f.found in
    let e = ap (λ (l : List Active). length l) left in
    let s = ap (λ (n : ℕ). length (without_session n now.txns.actives.items)) f.its in
    omega (arith, k, e, s)
