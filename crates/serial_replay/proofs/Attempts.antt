-- Standings that journals lead to: their indexes are right, and stay so with each attempted commit, also with one that met a disk fault.
use Rattle.std.proofs.Common.{◌≡◌, ℕ, zero, suc, List, [], ◌∷◌, ◌++◌, take, Option, None, Some, refl, ap, ap₂, sym, ◌∙◌, subst}
use Rattle.std.specs.List.{AllByRecursion}
use Rattle.store_model.specs.declared.store.Store.{Store}
use Rattle.store_model.specs.declared.change.Change.{Change}
use Rattle.store_model.specs.declared.answer.Fault.{Fault}
use Rattle.store_model.specs.declared.answer.Fault.TheVariants.{Disk}
use Rattle.store_model.specs.declared.answer.Answer.{Answer}
use Rattle.store_model.specs.declared.event.Event.{Event}
use Rattle.store_model.specs.declared.event.Event.TheVariants.{Call as Called, Resume}
use Rattle.je_answers.specs.declared.wait.Wait.{Wait}
use Rattle.store_model.specs.Store.{all_changed, store_after}
use Rattle.store_model.specs.Indexes.{AreIndexed}
use Rattle.je_answers.specs.Standing.{Standing, wait_of}
use Rattle.je_answers.specs.Alone.{alone}
use Rattle.je_answers.specs.Events.{resumed, IsAnswered}
use Rattle.je_answers.specs.After.{Fate, after_event, AnswersAsModel}
use Rattle.je_answers.specs.After.Fate.{Succeeds, IsRefused, Faults}
use Rattle.je_answers.specs.Journal.{logged, tried, changes_of, changes_resumed, changes_by, answer_by, attempts_of}
use Rattle.je_answers.proofs.Journals.{after_events-append, answers-push}
use Rattle.je_answers.proofs.Commits.{by_event}
use Rattle.serial_replay.specs.Laws.{IsIndexedAt}
use Rattle.serial_replay.specs.Reached.{IsReached, BeginningsAreReached, ReachedGoesOn, ReachedIsIndexed, AttemptsAreIndexed, FrontsAreIndexed}
use Rattle.serial_replay.proofs.Replaying.{AnyStore, HasFault, faulted_refusal, fault_stays, indexed_after}
use Rattle.serial_replay.proofs.Succeeding.{redone}

-- ---- reached

pub beginnings_are-reached : BeginningsAreReached
beginnings_are-reached p begins = record { start = p; begins = begins; limits = []; journal = []; answers = tt; is = refl }

pub reached_goes-on : ReachedGoesOn
reached_goes-on limit st event r is = record {
  start = r.start;
  begins = r.begins;
  limits = r.limits ++ limit ∷ [];
  journal = r.journal ++ event ∷ [];
  answers = answers-push (alone r.start) r.limits r.journal limit event r.answers (subst (λ (s : Standing). IsAnswered limit s event) r.is is);
  is = ap (λ (s : Standing). after_event s event) r.is ∙ sym (after_events-append (alone r.start) r.journal (event ∷ []));
}

pub reached_is-indexed : ReachedIsIndexed
reached_is-indexed st r = subst IsIndexedAt (sym r.is) (indexed_after r.start r.limits r.journal r.begins.store r.begins.numbers r.begins.indexed r.answers)

-- ---- what is attempted

-- the store after an event that commits these
committed_is : (limit : Option Answer) (st : Standing) (event : Event) (changes : List Change) → IsReached st → IsAnswered limit st event → logged (changes_by st event) (answer_by event) ≡ changes ∷ [] → AreIndexed (all_changed changes st.store)
committed_is limit st event changes r is e =
    subst AreIndexed ((by_event st event).store ∙ ap (store_after st.store) e) (reached_is-indexed (after_event st event) (reached_goes-on limit st event r is)).store

pub attempts_are-indexed : AttemptsAreIndexed
attempts_are-indexed limit st event r is = by (changes_by st event) refl (answer_by event) refl
  where
    by : (changes : List Change) → changes_by st event ≡ changes → (fate : Fate) → answer_by event ≡ fate → AllByRecursion (λ cs. AreIndexed (all_changed cs st.store)) (tried changes fate)
    by [] e fate f = tt
    by (change ∷ rest) e Succeeds f = (committed_is limit st event (change ∷ rest) r is (ap₂ logged e f), tt)
    by (change ∷ rest) e IsRefused f = tt
    by (change ∷ rest) e Faults f =
        let o = redone limit st event change rest is e f in
        (committed_is limit st o.other (change ∷ rest) r o.is (ap₂ logged (o.changes ∙ e) o.fate), tt)

-- ---- the first attempts of a journal

-- after a fault nothing is attempted
none_by : (st : Standing) (event : Event) (first : Fault) → st.fault ≡ Some first → changes_by st event ≡ []
none_by st (Called session line call answer vs) first e = ap (λ (o : Option Answer). changes_of o st session call) (faulted_refusal st session call first e)
none_by st (Resume session line answer vs) first e = by (wait_of session st.waiting)
  where
    by : (o : Option Wait) → changes_resumed o st session ≡ []
    by None = refl
    by (Some w) = ap (λ (o : Option Answer). changes_of o (resumed st w) session w.call) (faulted_refusal (resumed st w) session w.call first e)
none_by st event first e = refl

none_attempted : (journal : List Event) (st : Standing) → HasFault AnyStore st → attempts_of st journal ≡ []
none_attempted [] st f = refl
none_attempted (event ∷ journal) st f =
    ap₂ (λ (xs ys : List (List Change)). xs ++ ys) (ap (λ (cs : List Change). tried cs (answer_by event)) (none_by st event f.0 f.1)) (none_attempted journal (after_event st event) (fault_stays AnyStore st event f))

-- the first of none
take_none : (k : ℕ) → take {A = List Change} k [] ≡ []
take_none zero = refl
take_none (suc k) = refl

abbrev AreFronts : Store → List (List Change) → Type 0
AreFronts store attempts = (k : ℕ) → AreIndexed (store_after store (take k attempts))

-- no attempt, and one more
none_front : (store : Store) → AreIndexed store → AreFronts store []
none_front store is k = subst (λ (l : List (List Change)). AreIndexed (store_after store l)) (sym (take_none k)) is

one_front : (store : Store) (changes : List Change) (rest : List (List Change)) → AreIndexed store → AreFronts (all_changed changes store) rest → AreFronts store (changes ∷ rest)
one_front store changes rest is more zero = is
one_front store changes rest is more (suc k) = more k

fronts : (limits : List (Option Answer)) (journal : List Event) (st : Standing) → IsReached st → AnswersAsModel st limits journal → AreFronts st.store (attempts_of st journal)
fronts limits [] st r is = none_front st.store (reached_is-indexed st r).store
fronts [] (event ∷ journal) st r is = absurd is
fronts (limit ∷ limits) (event ∷ journal) st r is =
    by (fronts limits journal (after_event st event) (reached_goes-on limit st event r is.0) is.1) (changes_by st event) refl (answer_by event) refl
  where
    after : AreFronts (after_event st event).store (attempts_of (after_event st event) journal) → (changes : List Change) (fate : Fate) → changes_by st event ≡ changes → answer_by event ≡ fate → AreFronts (store_after st.store (logged changes fate)) (attempts_of (after_event st event) journal)
    after then_ changes fate e f = subst (λ (s : Store). AreFronts s (attempts_of (after_event st event) journal)) ((by_event st event).store ∙ ap (store_after st.store) (ap₂ logged e f)) then_

    by : AreFronts (after_event st event).store (attempts_of (after_event st event) journal) → (changes : List Change) → changes_by st event ≡ changes → (fate : Fate) → answer_by event ≡ fate → AreFronts st.store (tried (changes_by st event) (answer_by event) ++ (attempts_of (after_event st event) journal))
    by then_ [] e fate f = subst (λ (l : List (List Change)). AreFronts st.store (l ++ (attempts_of (after_event st event) journal))) (sym (ap (λ (cs : List Change). tried cs (answer_by event)) e)) (after then_ [] fate e f)
    by then_ (change ∷ others) e Succeeds f =
        subst (λ (l : List (List Change)). AreFronts st.store (l ++ (attempts_of (after_event st event) journal))) (sym (ap₂ tried e f))
        (one_front st.store (change ∷ others) (attempts_of (after_event st event) journal) (reached_is-indexed st r).store (after then_ (change ∷ others) Succeeds e f))
    by then_ (change ∷ others) e IsRefused f = subst (λ (l : List (List Change)). AreFronts st.store (l ++ (attempts_of (after_event st event) journal))) (sym (ap₂ tried e f)) (after then_ (change ∷ others) IsRefused e f)
    by then_ (change ∷ others) e Faults f =
        let o = redone limit st event change others is.0 e f in
        let its = committed_is limit st o.other (change ∷ others) r o.is (ap₂ logged (o.changes ∙ e) o.fate) in
        subst (λ (l : List (List Change)). AreFronts st.store (l ++ (attempts_of (after_event st event) journal))) (sym (ap₂ tried e f))
        (one_front st.store (change ∷ others) (attempts_of (after_event st event) journal) (reached_is-indexed st r).store
        (subst (AreFronts (all_changed (change ∷ others) st.store)) (sym (none_attempted journal (after_event st event) (Disk, o.faulted, tt))) (none_front (all_changed (change ∷ others) st.store) its)))

pub fronts_are-indexed : FrontsAreIndexed
fronts_are-indexed p limits journal begins is = fronts limits journal (alone p) (beginnings_are-reached p begins) is
