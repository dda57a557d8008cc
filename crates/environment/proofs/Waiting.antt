-- The calls that wait.
use Rattle.std.proofs.Common.{◌≡◌, ◌==◌, ◌||◌, ◌∙◌, ℕ, Bool, true, false, true≢false, cond, List, [], ◌∷◌, Option, None, Some, is_some, find, refl, ap, sym, subst, rules}
use Rattle.std.specs.Prelude.{IfSome, option_map}
use Rattle.std.specs.List.{AllByRecursion}
use Rattle.std.proofs.lemmas.Bool.{eq-eqb, eqb-true}
use Rattle.store_model.specs.declared.answer.Fault.{Fault}
use Rattle.je_answers.specs.declared.wait.Wait.{Wait}
use Rattle.je_answers.specs.Standing.{Standing, wait_of}
use Rattle.je_answers.specs.Locking.{was_granted_in}
use Rattle.je_answers.specs.Events.{IsReady}
use Rattle.je_answers.specs.Journal.{first_ready, is_ready}
use Rattle.standing_laws.specs.Right.{HaveOwnWaits}
use Rattle.environment.specs.Calls.{MayResume}

-- a call that a search finds is one of those, and passes
record IsFound (test : Wait → Bool) (ws : List Wait) (w : Wait) : Type 0 where
  passes : test w ≡ true
  its : wait_of w.session ws ≡ Some w
  among : (n : ℕ) → AllByRecursion (λ u. (u.session == n) ≡ false) ws → (w.session == n) ≡ false

-- of calls of different sessions it is the session's
found : (test : Wait → Bool) (ws : List Wait) (w : Wait) → HaveOwnWaits ws → find test ws ≡ Some w → IsFound test ws w
found test [] w apart is = absurd cc
found test (v ∷ ws) w apart is = by_test (test v) refl (found test ws w apart.1)
  where
    some_is : (x y : Wait) → Some x ≡ Some y → x ≡ y
    some_is x y e = search (rules, e)

    here : test v ≡ true → v ≡ w → IsFound test (v ∷ ws) w
    here passes same = subst (IsFound test (v ∷ ws)) same (record {
      passes = passes;
      its = ap (λ (b : Bool). cond b (Some v) (find (λ u. u.session == v.session) ws)) (eq-eqb v.session v.session refl);
      among = λ n all. all.0;
    })

    later : IsFound test ws w → IsFound test (v ∷ ws) w
    later f = record {
      passes = f.passes;
      its = ap (λ (b : Bool). cond b (Some v) (find (λ u. u.session == w.session) ws)) (apart_from (v.session == w.session) refl f) ∙ f.its;
      among = λ n all. f.among n all.1;
    }
      where
        apart_from : (b : Bool) → (v.session == w.session) ≡ b → IsFound test ws w → (v.session == w.session) ≡ false
        apart_from true e f =
            let differ = f.among v.session apart.0 in
            absurd (true≢false (sym (eq-eqb w.session v.session (sym (eqb-true v.session w.session e))) ∙ differ))
        apart_from false e f = e

    by_test : (b : Bool) → test v ≡ b → (find test ws ≡ Some w → IsFound test ws w) → IsFound test (v ∷ ws) w
    by_test true e rest = here e (some_is v w (sym (ap (λ (b : Bool). cond b (Some v) (find test ws)) e) ∙ is))
    by_test false e rest = later (rest (sym (ap (λ (b : Bool). cond b (Some v) (find test ws)) e) ∙ is))

ready_by : (fault : Option Fault) (st : Standing) (w : Wait) → (is_some fault || was_granted_in w.txn st.locks) ≡ true → IsReady fault st w.txn
ready_by None st w is = is
ready_by (Some first) st w is = tt

-- its session and line
abbrev said : Wait → ℕ × ℕ
said w = (w.session, w.line)

-- the first call that may go on may do so
pub first_may : (st : Standing) → HaveOwnWaits st.waiting → IfSome (option_map said (first_ready st)) (λ p. MayResume st p.0 p.1)
first_may st apart = by_first (first_ready st) refl
  where
    by_first : (o : Option Wait) → first_ready st ≡ o → IfSome (option_map said o) (λ p. MayResume st p.0 p.1)
    by_first None is = tt
    by_first (Some w) is =
        let f = found (is_ready st) st.waiting w apart is in
        record { wait = w; its = f.its; line_is = refl; ready = ready_by st.fault st w f.passes }
