-- What a load attempts to commit, event after event.
use Rattle.std.proofs.Common.{◌≡◌, ◌==◌, ◌⊎◌, ◌≤◌, inl, inr, ⊎_elim, arith, ℕ, zero, suc, length, Bool, true, false, cond, List, [], ◌∷◌, ◌++◌, Option, None, refl, ap, sym, ◌∙◌, subst, map}
use Rattle.std.specs.Prelude.{take}
use Rattle.std.proofs.lemmas.Bool.{true≢false}
use Rattle.std.proofs.lemmas.List.{append-nil}
use Rattle.dump_text.specs.declared.dump_pair.DumpPair.{DumpPair}
use Rattle.store_model.specs.declared.kind.Kind.{Kind}
use Rattle.store_model.specs.declared.put_mode.PutMode.{PutMode}
use Rattle.store_model.specs.declared.isolation.Isolation.TheVariants.{RepeatableRead}
use Rattle.store_model.specs.declared.durability.Durability.TheVariants.{Sync}
use Rattle.store_model.specs.declared.call.Call.{Call}
use Rattle.store_model.specs.declared.call.Call.TheVariants.{Begin, Commit, Create, Put}
use Rattle.store_model.specs.declared.change.Change.{Change}
use Rattle.store_model.specs.declared.change.Change.TheVariants.{Make}
use Rattle.store_model.specs.declared.step.Step.{Step}
use Rattle.store_model.specs.declared.victim.Victim.{Victim}
use Rattle.store_model.specs.declared.answer.Answer.{Answer}
use Rattle.store_model.specs.declared.event.Event.{Event}
use Rattle.store_model.specs.declared.event.Event.TheVariants.{Call as Called, Resume, End, WriteOut, SyncBegin, SyncEnd, Turn}
use Rattle.store_model.specs.declared.plan.ScriptLine.{ScriptLine}
use Rattle.store_model.specs.declared.plan.ScriptLine.TheVariants.{Session, Maintenance}
use Rattle.store_model.specs.declared.store.Store.{Store}
use Rattle.store_model.specs.Store.{changed, store_after}
use Rattle.je_answers.specs.Standing.{Standing}
use Rattle.je_answers.specs.Refusals.{early_refusal}
use Rattle.je_answers.specs.Events.{IsAnswered}
use Rattle.je_answers.specs.After.{AnswersAsModel, Fate, fate_of, after_event}
use Rattle.je_answers.specs.After.Fate.{Succeeds, IsRefused, Faults}
use Rattle.je_answers.specs.Alone.{alone}
use Rattle.je_answers.specs.Journal.{attempt_of, attempts_of, changes_of, lines_of, tried}
use Rattle.load_run.specs.Lines.{begin_line, commit_line, kind_of_dump, load_lines, load_mode, put_line}
use Rattle.load_laws.specs.Given.{AreEndsLast, StopsAtRefusal, is_refusal}
use Rattle.load_laws.specs.Images.{LoadsComeWhole}
use Rattle.load_laws.proofs.LoadLaws.{of_none, run_none}
use Rattle.load_laws.proofs.Phases.{HasBegun, IsAlone, IsCreated, IsInLoad, alone_create, alone_quiet, commit_waits_none, end_waits_none, its_active, load_begun, load_created, load_ended, load_put, load_synced, load_turned, load_written, begin_waits, none_resumes, turn_waits, written_waits}

-- ---- lines

abbrev is_session : ScriptLine → Bool
is_session (Session session line call) = true
is_session (Maintenance line step) = false

step_none : (b : Bool) (l m : ScriptLine) (more ls rest : List ScriptLine) → is_session l ≡ true → is_session m ≡ false → l ∷ more ≡ ((cond b [] (m ∷ [])) ++ ls) ++ rest → l ∷ more ≡ ls ++ rest
step_none true l m more ls rest one other e = e
step_none false l m more ls rest one other e =
    let same : l ≡ m = cc in absurd (true≢false (sym one ∙ ap is_session same ∙ other))

-- a step is no line of a load
pub not_step : (line : ℕ) (step : Step) (l : ScriptLine) (more ls rest : List ScriptLine) → is_session l ≡ true → l ∷ more ≡ ((cond (line == 0) [] (Maintenance line step ∷ [])) ++ ls) ++ rest → l ∷ more ≡ ls ++ rest
not_step line step l more ls rest one e = step_none (line == 0) l (Maintenance line step) more ls rest one refl e

pub pairs_step : (line : ℕ) (step : Step) (db : List ℕ) (mode : PutMode) (pairs : List DumpPair) (ls rest : List ScriptLine) →
    map (put_line db mode) pairs ++ commit_line ∷ [] ≡ ((cond (line == 0) [] (Maintenance line step ∷ [])) ++ ls) ++ rest → map (put_line db mode) pairs ++ commit_line ∷ [] ≡ ls ++ rest
pairs_step line step db mode [] ls rest e = not_step line step commit_line [] ls rest refl e
pairs_step line step db mode (p ∷ pairs) ls rest e = not_step line step (put_line db mode p) (map (put_line db mode) pairs ++ commit_line ∷ []) ls rest refl e

pub no_step : (b : Bool) (m : ScriptLine) (ls : List ScriptLine) → (cond b [] (m ∷ [])) ++ ls ≡ [] → ls ≡ []
no_step true m ls e = e
no_step false m ls e = cc

pub front_empty : (ls rest : List ScriptLine) → [] ≡ ls ++ rest → (ls ≡ []) × (rest ≡ [])
front_empty [] rest e = (refl, sym e)
front_empty (l ∷ ls) rest e = cc

-- ---- behind the last line

pub stopped_none : (st : Standing) (limits : List (Option Answer)) (journal : List Event) → AnswersAsModel st limits journal → st.waiting ≡ [] → lines_of journal ≡ [] → attempts_of st journal ≡ []
stopped_none st limits [] answers waits none = refl
stopped_none st [] (event ∷ events) answers waits none = absurd answers
stopped_none st (limit ∷ limits) (Called session line call answer victims ∷ events) answers waits none = cc
stopped_none st (limit ∷ limits) (Resume session line answer victims ∷ events) answers waits none = absurd (none_resumes limit st session line answer victims waits answers.0)
stopped_none st (limit ∷ limits) (End session ∷ events) answers waits none = stopped_none (after_event st (End session)) limits events answers.1 (end_waits_none st session waits) none
stopped_none st (limit ∷ limits) (WriteOut answer ∷ events) answers waits none = stopped_none (after_event st (WriteOut answer)) limits events answers.1 (written_waits answer st ∙ waits) none
stopped_none st (limit ∷ limits) (SyncBegin answer ∷ events) answers waits none = stopped_none (after_event st (SyncBegin answer)) limits events answers.1 (begin_waits answer st ∙ waits) none
stopped_none st (limit ∷ limits) (SyncEnd answer ∷ events) answers waits none = stopped_none (after_event st (SyncEnd answer)) limits events answers.1 (written_waits answer (record st { begun = None }) ∙ waits) none
stopped_none st (limit ∷ limits) (Turn line step answer ∷ events) answers waits none =
    stopped_none (after_event st (Turn line step answer)) limits events answers.1 (turn_waits step answer st ∙ waits) (no_step (line == 0) (Maintenance line step) (lines_of events) none)

-- ---- in the transaction

-- one commit was attempted behind all lines, or none
abbrev pub HasOneAttempt : List ScriptLine → List (List Change) → Type 0
HasOneAttempt rest attempts = (attempts ≡ []) ⊎ ((own : List Change) × (attempts ≡ own ∷ []) × (rest ≡ []))

none_then : (rest : List ScriptLine) (first later : List (List Change)) → first ≡ [] → HasOneAttempt rest later → HasOneAttempt rest (first ++ later)
none_then rest first later none h = subst (λ (l : List (List Change)). HasOneAttempt rest (l ++ later)) (sym none) h

tried_by : (fate : Fate) (change : Change) (changes : List Change) (rest : List ScriptLine) (later : List (List Change)) → rest ≡ [] → later ≡ [] → HasOneAttempt rest (tried (change ∷ changes) fate ++ later)
tried_by Succeeds change changes rest later last none = inr (change ∷ changes, ap (λ (l : List (List Change)). (change ∷ changes) ∷ l) none, last)
tried_by IsRefused change changes rest later last none = inl none
tried_by Faults change changes rest later last none = inr (change ∷ changes, ap (λ (l : List (List Change)). (change ∷ changes) ∷ l) none, last)

tried_one : (changes : List Change) (fate : Fate) (rest : List ScriptLine) (later : List (List Change)) → rest ≡ [] → later ≡ [] → HasOneAttempt rest (tried changes fate ++ later)
tried_one [] fate rest later last none = inl none
tried_one (change ∷ changes) fate rest later last none = tried_by fate change changes rest later last none

tried_none : (changes : List Change) (fate : Fate) → changes ≡ [] → tried changes fate ≡ []
tried_none changes fate none = ap (λ (l : List Change). tried l fate) none

-- a put commits nothing
pub put_none : (st : Standing) (x : IsInLoad st) (line : ℕ) (db key value : List ℕ) (mode : PutMode) (answer : Answer) (victims : List Victim) → attempt_of st (Called 1 line (Put db key value mode) answer victims) ≡ []
put_none st x line db key value mode answer victims =
    tried_none _ (fate_of answer) (of_none (early_refusal st 1 (Put db key value mode)) st 1 (Put db key value mode)
    (run_none 1 st (Put db key value mode) (record { active = x.active; is = its_active st x; own = x.own })))

-- nor does a beginning
pub begin_none : (st : Standing) (line : ℕ) (answer : Answer) (victims : List Victim) → attempt_of st (Called 1 line (Begin RepeatableRead Sync true) answer victims) ≡ []
begin_none st line answer victims = tried_none _ (fate_of answer) (of_none (early_refusal st 1 (Begin RepeatableRead Sync true)) st 1 (Begin RepeatableRead Sync true) refl)

pub called_same : (session line : ℕ) (call : Call) (answer : Answer) (victims : List Victim) (given : Call) (at : ℕ) (more : List ScriptLine) (ls rest : List ScriptLine) →
    Session 1 at given ∷ more ≡ Session session line call ∷ (ls ++ rest) → (Called session line call answer victims ≡ Called 1 at given answer victims) × (more ≡ ls ++ rest)
called_same session line call answer victims given at more ls rest e = (cc, cc)

put_then : (st : Standing) (x : IsInLoad st) (event : Event) (line : ℕ) (db key value : List ℕ) (mode : PutMode) (answer : Answer) (victims : List Victim) → event ≡ Called 1 line (Put db key value mode) answer victims →
    (attempt_of st event ≡ []) × IsInLoad (after_event st event)
put_then st x event line db key value mode answer victims e =
    (ap (attempt_of st) e ∙ put_none st x line db key value mode answer victims, subst (λ (v : Event). IsInLoad (after_event st v)) (sym e) (load_put st x line db key value mode answer victims))

commit_then : (st : Standing) (event : Event) (line : ℕ) (answer : Answer) (victims : List Victim) (later : List (List Change)) (rest : List ScriptLine) → event ≡ Called 1 line Commit answer victims → rest ≡ [] →
    later ≡ [] → HasOneAttempt rest (attempt_of st event ++ later)
commit_then st event line answer victims later rest e last none =
    subst (λ (v : Event). HasOneAttempt rest (attempt_of st v ++ later)) (sym e) (tried_one (changes_of (early_refusal st 1 Commit) st 1 Commit) (fate_of answer) rest later last none)

commit_waits : (st : Standing) (event : Event) (line : ℕ) (answer : Answer) (victims : List Victim) → event ≡ Called 1 line Commit answer victims → st.waiting ≡ [] → (after_event st event).waiting ≡ []
commit_waits st event line answer victims e waits = subst (λ (v : Event). (after_event st v).waiting ≡ []) (sym e) (commit_waits_none st line answer victims waits)

-- from its transaction on
pub in_load : (db : List ℕ) (mode : PutMode) (rest : List ScriptLine) (pairs : List DumpPair) (st : Standing) (limits : List (Option Answer)) (journal : List Event) → AnswersAsModel st limits journal → IsInLoad st → AreEndsLast journal →
    map (put_line db mode) pairs ++ commit_line ∷ [] ≡ lines_of journal ++ rest → HasOneAttempt rest (attempts_of st journal)
in_load db mode rest pairs st limits [] answers x ends e = inl refl
in_load db mode rest pairs st [] (event ∷ events) answers x ends e = absurd answers
in_load db mode rest [] st (limit ∷ limits) (Called session line call answer victims ∷ events) answers x ends e =
    let is = called_same session line call answer victims Commit 0 [] (lines_of events) rest e in
    let none = front_empty (lines_of events) rest is.1 in
    let event : Event = Called session line call answer victims in
    commit_then st event 0 answer victims (attempts_of (after_event st event) events) rest is.0 none.1 (stopped_none (after_event st event) limits events answers.1 (commit_waits st event 0 answer victims is.0 x.waits) none.0)
in_load db mode rest (p ∷ pairs) st (limit ∷ limits) (Called session line call answer victims ∷ events) answers x ends e =
    let event : Event = Called session line call answer victims in
    let is = called_same session line call answer victims (Put db p.key p.value mode) p.line (map (put_line db mode) pairs ++ commit_line ∷ []) (lines_of events) rest e in
    let h = put_then st x event p.line db p.key p.value mode answer victims is.0 in
    none_then rest (attempt_of st event) (attempts_of (after_event st event) events) h.0 (in_load db mode rest pairs (after_event st event) limits events answers.1 h.1 ends.1 is.1)
in_load db mode rest pairs st (limit ∷ limits) (Resume session line answer victims ∷ events) answers x ends e = absurd (none_resumes limit st session line answer victims x.waits answers.0)
in_load db mode rest pairs st (limit ∷ limits) (End session ∷ events) answers x ends e =
    ⊎_elim
    (λ (one : session ≡ 1). inl (stopped_none (after_event st (End session)) limits events answers.1 (end_waits_none st session x.waits) (ends.0 one)))
    (λ (y : IsInLoad (after_event st (End session))). in_load db mode rest pairs (after_event st (End session)) limits events answers.1 y ends.1 e)
    (load_ended st x session)
in_load db mode rest pairs st (limit ∷ limits) (WriteOut answer ∷ events) answers x ends e = in_load db mode rest pairs (after_event st (WriteOut answer)) limits events answers.1 (load_written st answer x) ends.1 e
in_load db mode rest pairs st (limit ∷ limits) (SyncBegin answer ∷ events) answers x ends e = in_load db mode rest pairs (after_event st (SyncBegin answer)) limits events answers.1 (load_synced st answer x).0 ends.1 e
in_load db mode rest pairs st (limit ∷ limits) (SyncEnd answer ∷ events) answers x ends e = in_load db mode rest pairs (after_event st (SyncEnd answer)) limits events answers.1 (load_synced st answer x).1 ends.1 e
in_load db mode rest pairs st (limit ∷ limits) (Turn line step answer ∷ events) answers x ends e =
    in_load db mode rest pairs (after_event st (Turn line step answer)) limits events answers.1 (load_turned st line step answer x) ends.1 (pairs_step line step db mode pairs (lines_of events) rest e)

-- ---- before it

alone_waits : (st : Standing) → IsAlone st → st.waiting ≡ []
alone_waits st h = ap (λ (s : Standing). s.waiting) h.1

-- an event that is no call leaves nothing under way
quiet_alone : (st : Standing) (event : Event) → IsAlone st → ((session line : ℕ) (call : Call) (answer : Answer) (victims : List Victim) → event ≡ Called session line call answer victims → ⊥) → IsAlone (after_event st event)
quiet_alone st event h none = subst (λ (s : Standing). IsAlone (after_event s event)) (sym h.1) (alone_quiet h.0 event none)

begun_then : (kept : Bool) (limit : Option Answer) (st : Standing) (event : Event) (line : ℕ) (answer : Answer) (victims : List Victim) → IsAlone st → event ≡ Called 1 line (Begin RepeatableRead Sync true) answer victims →
    IsAnswered limit st event → (attempt_of st event ≡ []) × HasBegun kept answer (after_event st event)
begun_then kept limit st event line answer victims h e is = (
  ap (attempt_of st) e ∙ begin_none st line answer victims,
  subst (λ (s : Standing). HasBegun kept answer (after_event s event)) (sym h.1)
      (subst (λ (v : Event). HasBegun kept answer (after_event (alone h.0) v)) (sym e)
      (load_begun kept limit h.0 line answer victims (subst (λ (v : Event). IsAnswered limit (alone h.0) v) e (subst (λ (s : Standing). IsAnswered limit s event) h.1 is)))),
)

-- from the beginning of its transaction on
pub begun_load : (kept : Bool) (db : List ℕ) (mode : PutMode) (rest : List ScriptLine) (pairs : List DumpPair) (st : Standing) (limits : List (Option Answer)) (journal : List Event) → AnswersAsModel st limits journal → IsAlone st →
    StopsAtRefusal kept journal → AreEndsLast journal → begin_line ∷ map (put_line db mode) pairs ++ commit_line ∷ [] ≡ lines_of journal ++ rest → HasOneAttempt rest (attempts_of st journal)
begun_load kept db mode rest pairs st limits [] answers h stops ends e = inl refl
begun_load kept db mode rest pairs st [] (event ∷ events) answers h stops ends e = absurd answers
begun_load kept db mode rest pairs st (limit ∷ limits) (Called session line call answer victims ∷ events) answers h stops ends e =
    let event : Event = Called session line call answer victims in
    let is = called_same session line call answer victims (Begin RepeatableRead Sync true) 0 (map (put_line db mode) pairs ++ commit_line ∷ []) (lines_of events) rest e in
    let b = begun_then kept limit st event 0 answer victims h is.0 answers.0 in
    none_then rest (attempt_of st event) (attempts_of (after_event st event) events) b.0
    (⊎_elim
    (λ (no : (is_refusal kept answer ≡ true) × IsAlone (after_event st event)). inl (stopped_none (after_event st event) limits events answers.1 (alone_waits (after_event st event) no.1) (stops.0 no.0)))
    (λ (x : IsInLoad (after_event st event)). in_load db mode rest pairs (after_event st event) limits events answers.1 x ends.1 is.1)
    b.1)
begun_load kept db mode rest pairs st (limit ∷ limits) (Resume session line answer victims ∷ events) answers h stops ends e = absurd (none_resumes limit st session line answer victims (alone_waits st h) answers.0)
begun_load kept db mode rest pairs st (limit ∷ limits) (End session ∷ events) answers h stops ends e = begun_load kept db mode rest pairs (after_event st (End session)) limits events answers.1 (quiet_alone st (End session) h (λ s l c a v w. cc)) stops.1 ends.1 e
begun_load kept db mode rest pairs st (limit ∷ limits) (WriteOut answer ∷ events) answers h stops ends e = begun_load kept db mode rest pairs (after_event st (WriteOut answer)) limits events answers.1 (quiet_alone st (WriteOut answer) h (λ s l c a v w. cc)) stops.1 ends.1 e
begun_load kept db mode rest pairs st (limit ∷ limits) (SyncBegin answer ∷ events) answers h stops ends e = begun_load kept db mode rest pairs (after_event st (SyncBegin answer)) limits events answers.1 (quiet_alone st (SyncBegin answer) h (λ s l c a v w. cc)) stops.1 ends.1 e
begun_load kept db mode rest pairs st (limit ∷ limits) (SyncEnd answer ∷ events) answers h stops ends e = begun_load kept db mode rest pairs (after_event st (SyncEnd answer)) limits events answers.1 (quiet_alone st (SyncEnd answer) h (λ s l c a v w. cc)) stops.1 ends.1 e
begun_load kept db mode rest pairs st (limit ∷ limits) (Turn line step answer ∷ events) answers h stops ends e =
    begun_load kept db mode rest pairs (after_event st (Turn line step answer)) limits events answers.1 (quiet_alone st (Turn line step answer) h (λ s l c a v w. cc)) stops.1 ends.1
    (not_step line step begin_line (map (put_line db mode) pairs ++ commit_line ∷ []) (lines_of events) rest refl e)

-- ---- where it makes the database

-- the database is made first, or nothing is attempted at all
abbrev pub HasTwoAttempts : List ScriptLine → List ℕ → Kind → List (List Change) → Type 0
HasTwoAttempts rest db kind attempts = (attempts ≡ []) ⊎ ((later : List (List Change)) × (attempts ≡ (Make db kind ∷ []) ∷ later) × HasOneAttempt rest later)

pub created_then : (kept : Bool) (limit : Option Answer) (st : Standing) (event : Event) (line : ℕ) (db : List ℕ) (kind : Kind) (answer : Answer) (victims : List Victim) → IsAlone st → event ≡ Called 1 line (Create db kind) answer victims →
    IsAnswered limit st event → IsCreated kept answer (attempt_of st event) db kind × IsAlone (after_event st event)
created_then kept limit st event line db kind answer victims h e is =
    let here = subst (λ (v : Event). IsAnswered limit (alone h.0) v) e (subst (λ (s : Standing). IsAnswered limit s event) h.1 is) in (
      subst (λ (s : Standing). IsCreated kept answer (attempt_of s event) db kind) (sym h.1)
          (subst (λ (v : Event). IsCreated kept answer (attempt_of (alone h.0) v) db kind) (sym e) (load_created kept limit h.0 line db kind answer victims here)),
      subst (λ (s : Standing). IsAlone (after_event s event)) (sym h.1) (subst (λ (v : Event). IsAlone (after_event (alone h.0) v)) (sym e) (alone_create h.0 line db kind answer victims)),
    )

made_then : (rest : List ScriptLine) (db : List ℕ) (kind : Kind) (first later : List (List Change)) → HasOneAttempt rest later → ((first ≡ []) × (later ≡ [])) ⊎ (first ≡ (Make db kind ∷ []) ∷ []) → HasTwoAttempts rest db kind (first ++ later)
made_then rest db kind first later h (inl none) = inl (ap (λ (l : List (List Change)). l ++ later) none.0 ∙ none.1)
made_then rest db kind first later h (inr made) = inr (later, ap (λ (l : List (List Change)). l ++ later) made, h)

pub made_load : (kept : Bool) (db : List ℕ) (kind : Kind) (mode : PutMode) (rest : List ScriptLine) (pairs : List DumpPair) (st : Standing) (limits : List (Option Answer)) (journal : List Event) → AnswersAsModel st limits journal → IsAlone st →
    StopsAtRefusal kept journal → AreEndsLast journal → Session 1 0 (Create db kind) ∷ begin_line ∷ map (put_line db mode) pairs ++ commit_line ∷ [] ≡ lines_of journal ++ rest → HasTwoAttempts rest db kind (attempts_of st journal)
made_load kept db kind mode rest pairs st limits [] answers h stops ends e = inl refl
made_load kept db kind mode rest pairs st [] (event ∷ events) answers h stops ends e = absurd answers
made_load kept db kind mode rest pairs st (limit ∷ limits) (Called session line call answer victims ∷ events) answers h stops ends e =
    let event : Event = Called session line call answer victims in
    let is = called_same session line call answer victims (Create db kind) 0 (begin_line ∷ map (put_line db mode) pairs ++ commit_line ∷ []) (lines_of events) rest e in
    let c = created_then kept limit st event 0 db kind answer victims h is.0 answers.0 in
    let later = attempts_of (after_event st event) events in
    made_then rest db kind (attempt_of st event) later (begun_load kept db mode rest pairs (after_event st event) limits events answers.1 c.1 stops.1 ends.1 is.1)
    (⊎_elim
    (λ (no : (attempt_of st event ≡ []) × (is_refusal kept answer ≡ true)). inl (no.0, stopped_none (after_event st event) limits events answers.1 (alone_waits (after_event st event) c.1) (stops.0 no.1)))
    (λ (made : attempt_of st event ≡ (Make db kind ∷ []) ∷ []). inr made)
    c.0.is)
made_load kept db kind mode rest pairs st (limit ∷ limits) (Resume session line answer victims ∷ events) answers h stops ends e = absurd (none_resumes limit st session line answer victims (alone_waits st h) answers.0)
made_load kept db kind mode rest pairs st (limit ∷ limits) (End session ∷ events) answers h stops ends e = made_load kept db kind mode rest pairs (after_event st (End session)) limits events answers.1 (quiet_alone st (End session) h (λ s l c a v w. cc)) stops.1 ends.1 e
made_load kept db kind mode rest pairs st (limit ∷ limits) (WriteOut answer ∷ events) answers h stops ends e = made_load kept db kind mode rest pairs (after_event st (WriteOut answer)) limits events answers.1 (quiet_alone st (WriteOut answer) h (λ s l c a v w. cc)) stops.1 ends.1 e
made_load kept db kind mode rest pairs st (limit ∷ limits) (SyncBegin answer ∷ events) answers h stops ends e = made_load kept db kind mode rest pairs (after_event st (SyncBegin answer)) limits events answers.1 (quiet_alone st (SyncBegin answer) h (λ s l c a v w. cc)) stops.1 ends.1 e
made_load kept db kind mode rest pairs st (limit ∷ limits) (SyncEnd answer ∷ events) answers h stops ends e = made_load kept db kind mode rest pairs (after_event st (SyncEnd answer)) limits events answers.1 (quiet_alone st (SyncEnd answer) h (λ s l c a v w. cc)) stops.1 ends.1 e
made_load kept db kind mode rest pairs st (limit ∷ limits) (Turn line step answer ∷ events) answers h stops ends e =
    made_load kept db kind mode rest pairs (after_event st (Turn line step answer)) limits events answers.1 (quiet_alone st (Turn line step answer) h (λ s l c a v w. cc)) stops.1 ends.1
    (not_step line step (Session 1 0 (Create db kind)) (begin_line ∷ map (put_line db mode) pairs ++ commit_line ∷ []) (lines_of events) rest refl e)

-- ---- what a crash leaves of it

take_none : (k : ℕ) (own : List Change) → take (suc k) (own ∷ []) ≡ own ∷ []
take_none zero own = refl
take_none (suc k) own = refl

-- the first of at most one attempt
one_image : (rest : List ScriptLine) (store : Store) (attempts : List (List Change)) (k : ℕ) → HasOneAttempt rest attempts →
    (store_after store (take k attempts) ≡ store) ⊎ ((rest ≡ []) × (store_after store (take k attempts) ≡ store_after store attempts))
one_image rest store attempts zero h = inl refl
one_image rest store attempts (suc k) (inl none) = inl (ap (λ (l : List (List Change)). store_after store (take (suc k) l)) none)
one_image rest store attempts (suc k) (inr own) =
    inr (own.2, ap (λ (l : List (List Change)). store_after store (take (suc k) l)) own.1 ∙ ap (store_after store) (take_none k own.0) ∙ sym (ap (store_after store) own.1))

one_few : (rest : List ScriptLine) (attempts : List (List Change)) → HasOneAttempt rest attempts → length attempts ≤ 1
one_few rest attempts (inl none) = rw none (omega arith)
one_few rest attempts (inr own) = rw own.1 (omega arith)

two_few : (rest : List ScriptLine) (db : List ℕ) (kind : Kind) (attempts : List (List Change)) → HasTwoAttempts rest db kind attempts → length attempts ≤ 2
two_few rest db kind attempts (inl none) = rw none (omega arith)
two_few rest db kind attempts (inr made) =
    let few = one_few rest made.0 made.2 in
    let is : length attempts ≡ suc (length made.0) = ap length made.1 in omega (arith, few, is)

-- nothing, the database alone, or all
two_images : (rest : List ScriptLine) (db : List ℕ) (kind : Kind) (store : Store) (attempts : List (List Change)) (k : ℕ) → HasTwoAttempts rest db kind attempts →
    (store_after store (take k attempts) ≡ store) ⊎ (store_after store (take k attempts) ≡ changed (Make db kind) store) ⊎ ((rest ≡ []) × (store_after store (take k attempts) ≡ store_after store attempts))
two_images rest db kind store attempts zero h = inl refl
two_images rest db kind store attempts (suc k) (inl none) = inl (ap (λ (l : List (List Change)). store_after store (take (suc k) l)) none)
two_images rest db kind store attempts (suc k) (inr made) =
    let first : store_after store (take (suc k) attempts) ≡ store_after (changed (Make db kind) store) (take k made.0) = ap (λ (l : List (List Change)). store_after store (take (suc k) l)) made.1 in
    let all : store_after store attempts ≡ store_after (changed (Make db kind) store) made.0 = ap (store_after store) made.1 in
    ⊎_elim
    (λ (h : store_after (changed (Make db kind) store) (take k made.0) ≡ changed (Make db kind) store). inr (inl (first ∙ h)))
    (λ (h : (rest ≡ []) × (store_after (changed (Make db kind) store) (take k made.0) ≡ store_after (changed (Make db kind) store) made.0)). inr (inr (h.0, first ∙ h.1 ∙ sym all)))
    (one_image rest (changed (Make db kind) store) made.0 k made.2)

all_given : (lines given rest : List ScriptLine) → lines ≡ given ++ rest → rest ≡ [] → given ≡ lines
all_given lines given rest e none = sym (e ∙ ap (λ (l : List ScriptLine). given ++ l) none ∙ append-nil given)

pub loads_whole : LoadsComeWhole
loads_whole true db kept dump st journal load =
    let two = made_load kept db (kind_of_dump dump.dup) (load_mode kept dump.dup) load.rest dump.pairs st load.limits journal load.answers (load.alone_at, load.is) load.stops load.ends load.lines in
    record {
      few = two_few load.rest db (kind_of_dump dump.dup) (attempts_of st journal) two;
      images = λ k.
          ⊎_elim
          (λ (h : store_after st.store (take k (attempts_of st journal)) ≡ st.store). inl h)
          (λ (h : (store_after st.store (take k (attempts_of st journal)) ≡ changed (Make db (kind_of_dump dump.dup)) st.store) ⊎ ((load.rest ≡ []) × (store_after st.store (take k (attempts_of st journal)) ≡ store_after st.store (attempts_of st journal)))).
          ⊎_elim
          (λ (made : store_after st.store (take k (attempts_of st journal)) ≡ changed (Make db (kind_of_dump dump.dup)) st.store). inr (inl made))
          (λ (all : (load.rest ≡ []) × (store_after st.store (take k (attempts_of st journal)) ≡ store_after st.store (attempts_of st journal))).
          inr (inr (all_given (load_lines true db kept dump) (lines_of journal) load.rest load.lines all.0, all.1)))
          h)
          (two_images load.rest db (kind_of_dump dump.dup) st.store (attempts_of st journal) k two);
    }
loads_whole false db kept dump st journal load =
    let one = begun_load kept db (load_mode kept dump.dup) load.rest dump.pairs st load.limits journal load.answers (load.alone_at, load.is) load.stops load.ends load.lines in
    record {
      few = one_few load.rest (attempts_of st journal) one;
      images = λ k.
          ⊎_elim
          (λ (h : store_after st.store (take k (attempts_of st journal)) ≡ st.store). inl h)
          (λ (all : (load.rest ≡ []) × (store_after st.store (take k (attempts_of st journal)) ≡ store_after st.store (attempts_of st journal))).
          inr (inr (all_given (load_lines false db kept dump) (lines_of journal) load.rest load.lines all.0, all.1)))
          (one_image load.rest st.store (attempts_of st journal) k one);
    }
