-- What a load stores, event after event.
use Rattle.std.proofs.Common.{◌≡◌, inl, inr, ⊎_elim, ℕ, Bool, true, false, List, [], ◌∷◌, ◌++◌, Option, None, Some, map, refl, ap, sym, ◌∙◌, subst}
use Rattle.std.specs.List.{list_any}
use Rattle.std.proofs.lemmas.Bool.{or_parts, true≢false}
use Rattle.std.proofs.lemmas.List.{append-nil}
use Rattle.dump_text.specs.declared.dump_pair.DumpPair.{DumpPair}
use Rattle.store_model.specs.declared.store.Store.{Store}
use Rattle.store_model.specs.declared.store.Database.{Database}
use Rattle.store_model.specs.declared.kind.Kind.{Kind}
use Rattle.store_model.specs.declared.put_mode.PutMode.{PutMode}
use Rattle.store_model.specs.declared.isolation.Isolation.TheVariants.{RepeatableRead}
use Rattle.store_model.specs.declared.durability.Durability.TheVariants.{Sync}
use Rattle.store_model.specs.declared.call.Call.{Call}
use Rattle.store_model.specs.declared.call.Call.TheVariants.{Begin, Create}
use Rattle.store_model.specs.declared.change.Change.{Change}
use Rattle.store_model.specs.declared.change.Change.TheVariants.{Make}
use Rattle.store_model.specs.declared.step.Step.{Step}
use Rattle.store_model.specs.declared.step.Step.TheVariants.{Begin as BeginStep, Flush, Finish, Sync as SyncStep}
use Rattle.store_model.specs.declared.victim.Victim.{Victim}
use Rattle.store_model.specs.declared.answer.Answer.{Answer}
use Rattle.store_model.specs.declared.answer.Answer.TheVariants.{Done, DiskFault}
use Rattle.store_model.specs.declared.event.Event.{Event}
use Rattle.store_model.specs.declared.event.Event.TheVariants.{Call as Called, Resume, End, WriteOut, SyncBegin, SyncEnd, Turn}
use Rattle.store_model.specs.declared.plan.ScriptLine.{ScriptLine}
use Rattle.store_model.specs.declared.plan.ScriptLine.TheVariants.{Session}
use Rattle.store_model.specs.Store.{IsStore, changed, database_of, store_after, with_pairs}
use Rattle.store_model.proofs.StoreLaws.{changed_is_right}
use Rattle.je_answers.specs.Standing.{Standing}
use Rattle.je_answers.specs.Refusals.{early_refusal, late_refusal}
use Rattle.je_answers.specs.Events.{IsAnswered, IsCallAnswered, IsEvaluated}
use Rattle.je_answers.specs.After.{AnswersAsModel, Fate, after_begin, after_call, after_catalog, after_evaluated, after_event, after_events, after_turn, fate_of, faulted_if}
use Rattle.je_answers.specs.After.Fate.{Succeeds}
use Rattle.je_answers.specs.Alone.{Alone, alone, committed_alone, drawn_alone, faulted_alone}
use Rattle.je_answers.specs.Journal.{attempt_of, attempts_of, lines_of}
use Rattle.load_run.specs.Lines.{begin_line, commit_line, kind_of_dump, load_mode, put_line}
use Rattle.load_laws.specs.Given.{AreEndsLast, StopsAtRefusal, is_refusal, is_refused}
use Rattle.load_laws.specs.Stored.{LoadsStoreTheirPairs, pairs_loaded}
use Rattle.je_answers.specs.Numbers.{HaveNumbers}
use Rattle.load_laws.proofs.Phases.{IsCreated, none_resumes}
use Rattle.load_laws.proofs.LoadImages.{begin_none, called_same, created_then, not_step}
use Rattle.load_laws.proofs.LoadRefusals.{IsRefusing, begin_early_refusing, begin_late_refusing, create_early_refusing, create_late_refusing, succeeds}
use Rattle.load_laws.proofs.MadeStores.{made_numbers, only_one}
use Rattle.load_laws.proofs.PutSteps.{Holds}
use Rattle.load_laws.proofs.CommitStores.{Attempts}
use Rattle.load_laws.proofs.InLoadStores.{Stores, in_stores, not_refused, some_line, stores_then}

-- ---- before it

-- an event that is no call leaves nothing under way, and the databases and their numbers
pub record GoesOn (p : Alone) (st : Standing) : Type 0 where
  pub now : Alone
  pub is : st ≡ alone now
  pub store : now.store ≡ p.store
  pub numbers : now.numbers ≡ p.numbers
  pub last_db : now.last_db ≡ p.last_db

goes_as : (p now : Alone) (st : Standing) → st ≡ alone now → now.store ≡ p.store → now.numbers ≡ p.numbers → now.last_db ≡ p.last_db → GoesOn p st
goes_as p now st is store numbers last_db = record { now = now; is = is; store = store; numbers = numbers; last_db = last_db }

on_faulted : (answer : Answer) (p : Alone) → GoesOn p (faulted_if answer (alone p))
on_faulted DiskFault p = goes_as p (faulted_alone p) (faulted_if DiskFault (alone p)) refl refl refl refl
on_faulted answer p = goes_as p p (alone p) refl refl refl refl

on_end : (answer : Answer) (p : Alone) → GoesOn p (faulted_if answer (alone (record p { begun = None })))
on_end DiskFault p = goes_as p (faulted_alone (record p { begun = None })) (alone (faulted_alone (record p { begun = None }))) refl refl refl refl
on_end answer p = goes_as p (record p { begun = None }) (alone (record p { begun = None })) refl refl refl refl

on_begin : (answer : Answer) (p : Alone) → GoesOn p (after_begin (alone p) answer)
on_begin Done p = goes_as p (record p { begun = Some p.commits }) (after_begin (alone p) Done) refl refl refl refl
on_begin DiskFault p = goes_as p (faulted_alone p) (after_begin (alone p) DiskFault) refl refl refl refl
on_begin answer p = goes_as p p (alone p) refl refl refl refl

on_turn : (step : Step) (answer : Answer) (p : Alone) → GoesOn p (after_turn step (alone p) answer)
on_turn BeginStep Done p = goes_as p (record p { in_checkpoint = true }) (after_turn BeginStep (alone p) Done) refl refl refl refl
on_turn Finish Done p = goes_as p (record p { in_checkpoint = false }) (after_turn Finish (alone p) Done) refl refl refl refl
on_turn BeginStep answer p = on_faulted answer p
on_turn Finish answer p = on_faulted answer p
on_turn Flush answer p = on_faulted answer p
on_turn SyncStep answer p = on_faulted answer p

abbrev is_call : Event → Bool
is_call (Called session line call answer victims) = true
is_call event = false

goes_on : (p : Alone) (event : Event) → is_call event ≡ false → GoesOn p (after_event (alone p) event)
goes_on p (Called session line call answer victims) other = absurd (true≢false other)
goes_on p (Resume session line answer victims) other = goes_as p p (alone p) refl refl refl refl
goes_on p (End session) other = goes_as p p (alone p) refl refl refl refl
goes_on p (WriteOut answer) other = on_faulted answer p
goes_on p (SyncBegin answer) other = on_begin answer p
goes_on p (SyncEnd answer) other = on_end answer p
goes_on p (Turn line step answer) other = on_turn step answer p

-- nothing is under way, and each database has a number of its own
pub record IsSound (store : Store) (numbers : List ℕ → ℕ) (last_db : ℕ) : Type 0 where
  pub right : IsStore store
  pub have : HaveNumbers store last_db numbers

-- the load is about to begin its transaction
pub record IsReady (db : List ℕ) (d : Database) (st : Standing) : Type 0 where
  pub p : Alone
  pub is : st ≡ alone p
  pub sound : IsSound p.store p.numbers p.last_db
  pub there : database_of db p.store ≡ Some d

sound_as : (p now : Alone) → now.store ≡ p.store → now.numbers ≡ p.numbers → now.last_db ≡ p.last_db → IsSound p.store p.numbers p.last_db → IsSound now.store now.numbers now.last_db
sound_as p now store numbers last_db sound =
    subst (λ (s : Store). IsSound s now.numbers now.last_db) (sym store)
    (subst (λ (f : List ℕ → ℕ). IsSound p.store f now.last_db) (sym numbers) (subst (λ n. IsSound p.store p.numbers n) (sym last_db) sound))

-- an event that is no call leaves it so
still_ready : (db : List ℕ) (d : Database) (st : Standing) (event : Event) → is_call event ≡ false → IsReady db d st → IsReady db d (after_event st event)
still_ready db d st event other ready =
    let on = goes_on ready.p event other in
    record {
      p = on.now;
      is = ap (λ (s : Standing). after_event s event) ready.is ∙ on.is;
      sound = sound_as ready.p on.now on.store on.numbers on.last_db ready.sound;
      there = ap (database_of db) on.store ∙ ready.there;
    }

module _ (kept : Bool) (db : List ℕ) (d : Database) (p : Alone) (sound : IsSound p.store p.numbers p.last_db) (there : database_of db p.store ≡ Some d) where
  abbrev begin : Call
  begin = Begin RepeatableRead Sync true

  begin_late : (late limit : Option Answer) (line : ℕ) (answer : Answer) (victims : List Victim) → IsRefusing kept late → IsEvaluated late limit (alone p) 1 line begin answer victims → is_refusal kept answer ≡ false →
      Holds db d d.pairs (after_evaluated late (alone p) 1 line begin answer victims)
  begin_late (Some refusal) limit line answer victims refusing is ok = absurd (true≢false (sym refusing ∙ ap (is_refusal kept) (sym is.0) ∙ ok))
  begin_late None limit line answer victims refusing is ok = record {
    load = record { active = _; is = refl; session = refl; own = refl; level = refl; waits = refl; locks = λ r. tt };
    there = there;
    only = only_one db p.store.databases d sound.right.names there;
    last = p.last_db;
    have = sound.have;
    sees = refl;
  }

  begin_early : (early limit : Option Answer) (line : ℕ) (answer : Answer) (victims : List Victim) → IsRefusing kept early → IsCallAnswered early limit (alone p) 1 line begin answer victims → is_refusal kept answer ≡ false →
      Holds db d d.pairs (after_call early (alone p) 1 line begin answer victims)
  begin_early (Some refusal) limit line answer victims refusing is ok = absurd (true≢false (sym refusing ∙ ap (is_refusal kept) (sym is.0) ∙ ok))
  begin_early None limit line answer victims refusing is ok = begin_late (late_refusal (alone p) 1 begin) limit line answer victims (begin_late_refusing kept p) is ok

  -- the transaction begins with the records that are there
  begin_holds : (limit : Option Answer) (line : ℕ) (answer : Answer) (victims : List Victim) → IsAnswered limit (alone p) (Called 1 line (Begin RepeatableRead Sync true) answer victims) → is_refusal kept answer ≡ false →
      Holds db d d.pairs (after_event (alone p) (Called 1 line (Begin RepeatableRead Sync true) answer victims))
  begin_holds limit line answer victims is ok = begin_early (early_refusal (alone p) 1 begin) limit line answer victims (begin_early_refusing kept p) is ok

begun_then : (kept : Bool) (db : List ℕ) (d : Database) (limit : Option Answer) (st : Standing) (event : Event) (answer : Answer) (victims : List Victim) → IsReady db d st → event ≡ Called 1 0 (Begin RepeatableRead Sync true) answer victims →
    IsAnswered limit st event → is_refusal kept answer ≡ false → Holds db d d.pairs (after_event st event)
begun_then kept db d limit st event answer victims ready e is ok =
    subst (λ (s : Standing). Holds db d d.pairs (after_event s event)) (sym ready.is)
    (subst (λ (v : Event). Holds db d d.pairs (after_event (alone ready.p) v)) (sym e)
    (begin_holds kept db d ready.p ready.sound ready.there limit 0 answer victims (subst (λ (v : Event). IsAnswered limit (alone ready.p) v) e (subst (λ (s : Standing). IsAnswered limit s event) ready.is is)) ok))

begun_stores : (kept : Bool) (db : List ℕ) (d : Database) (mode : PutMode) (pairs : List DumpPair) (st : Standing) (limits : List (Option Answer)) (journal : List Event) → AnswersAsModel st limits journal → IsReady db d st →
    StopsAtRefusal kept journal → AreEndsLast journal → begin_line ∷ map (put_line db mode) pairs ++ commit_line ∷ [] ≡ lines_of journal ++ [] → Stores kept db d mode pairs d.pairs st journal
begun_stores kept db d mode pairs st limits [] answers ready stops ends e = cc
begun_stores kept db d mode pairs st [] (event ∷ events) answers ready stops ends e = absurd answers
begun_stores kept db d mode pairs st (limit ∷ limits) (Called session line call answer victims ∷ events) answers ready stops ends e =
    let event : Event = Called session line call answer victims in
    let is = called_same session line call answer victims (Begin RepeatableRead Sync true) 0 (map (put_line db mode) pairs ++ commit_line ∷ []) (lines_of events) [] e in
    let ok = not_refused kept answer (map (put_line db mode) pairs ++ commit_line ∷ []) (lines_of events) (some_line db mode pairs) is.1 stops.0 in
    stores_then kept db d mode pairs pairs d.pairs d.pairs st event events refl (ap (attempt_of st) is.0 ∙ begin_none st 0 answer victims)
    (in_stores kept db d mode pairs d.pairs (after_event st event) limits events answers.1 (begun_then kept db d limit st event answer victims ready is.0 answers.0 ok) stops.1 ends.1 is.1)
begun_stores kept db d mode pairs st (limit ∷ limits) (Resume session line answer victims ∷ events) answers ready stops ends e = absurd (none_resumes limit st session line answer victims (ap (λ (s : Standing). s.waiting) ready.is) answers.0)
begun_stores kept db d mode pairs st (limit ∷ limits) (End session ∷ events) answers ready stops ends e =
    stores_then kept db d mode pairs pairs d.pairs d.pairs st (End session) events refl refl (begun_stores kept db d mode pairs (after_event st (End session)) limits events answers.1 (still_ready db d st (End session) refl ready) stops.1 ends.1 e)
begun_stores kept db d mode pairs st (limit ∷ limits) (WriteOut answer ∷ events) answers ready stops ends e =
    stores_then kept db d mode pairs pairs d.pairs d.pairs st (WriteOut answer) events refl refl (begun_stores kept db d mode pairs (after_event st (WriteOut answer)) limits events answers.1 (still_ready db d st (WriteOut answer) refl ready) stops.1 ends.1 e)
begun_stores kept db d mode pairs st (limit ∷ limits) (SyncBegin answer ∷ events) answers ready stops ends e =
    stores_then kept db d mode pairs pairs d.pairs d.pairs st (SyncBegin answer) events refl refl (begun_stores kept db d mode pairs (after_event st (SyncBegin answer)) limits events answers.1 (still_ready db d st (SyncBegin answer) refl ready) stops.1 ends.1 e)
begun_stores kept db d mode pairs st (limit ∷ limits) (SyncEnd answer ∷ events) answers ready stops ends e =
    stores_then kept db d mode pairs pairs d.pairs d.pairs st (SyncEnd answer) events refl refl (begun_stores kept db d mode pairs (after_event st (SyncEnd answer)) limits events answers.1 (still_ready db d st (SyncEnd answer) refl ready) stops.1 ends.1 e)
begun_stores kept db d mode pairs st (limit ∷ limits) (Turn line step answer ∷ events) answers ready stops ends e =
    stores_then kept db d mode pairs pairs d.pairs d.pairs st (Turn line step answer) events refl refl
    (begun_stores kept db d mode pairs (after_event st (Turn line step answer)) limits events answers.1 (still_ready db d st (Turn line step answer) refl ready) stops.1 ends.1
    (not_step line step begin_line (map (put_line db mode) pairs ++ commit_line ∷ []) (lines_of events) [] refl e))

-- ---- where it makes the database

-- the load is about to make its database
pub record IsUnmade (db : List ℕ) (kind : Kind) (d : Database) (st : Standing) : Type 0 where
  pub p : Alone
  pub is : st ≡ alone p
  pub sound : IsSound p.store p.numbers p.last_db
  pub there : database_of db (changed (Make db kind) p.store) ≡ Some d

still_unmade : (db : List ℕ) (kind : Kind) (d : Database) (st : Standing) (event : Event) → is_call event ≡ false → IsUnmade db kind d st → IsUnmade db kind d (after_event st event)
still_unmade db kind d st event other unmade =
    let on = goes_on unmade.p event other in
    record {
      p = on.now;
      is = ap (λ (s : Standing). after_event s event) unmade.is ∙ on.is;
      sound = sound_as unmade.p on.now on.store on.numbers on.last_db unmade.sound;
      there = ap (λ (s : Store). database_of db (changed (Make db kind) s)) on.store ∙ unmade.there;
    }

module _ (kept : Bool) (db : List ℕ) (kind : Kind) (d : Database) (p : Alone) (sound : IsSound p.store p.numbers p.last_db) (there : database_of db (changed (Make db kind) p.store) ≡ Some d) where
  abbrev create : Call
  create = Create db kind

  create_fate : (fate : Fate) → fate ≡ Succeeds → IsReady db d (after_catalog fate (Make db kind ∷ []) None (alone p))
  create_fate fate ok = subst (λ (f : Fate). IsReady db d (after_catalog f (Make db kind ∷ []) None (alone p))) (sym ok) (record {
    p = committed_alone (Make db kind ∷ []) (drawn_alone p);
    is = refl;
    sound = record { right = changed_is_right (Make db kind) p.store sound.right; have = made_numbers db kind p.store p.last_db p.numbers sound.have };
    there = there;
  })

  create_late : (late limit : Option Answer) (line : ℕ) (answer : Answer) (victims : List Victim) → IsRefusing kept late → IsEvaluated late limit (alone p) 1 line create answer victims → is_refusal kept answer ≡ false →
      IsReady db d (after_evaluated late (alone p) 1 line create answer victims)
  create_late (Some refusal) limit line answer victims refusing is ok = absurd (true≢false (sym refusing ∙ ap (is_refusal kept) (sym is.0) ∙ ok))
  create_late None limit line answer victims refusing is ok = create_fate (fate_of answer) (succeeds kept answer ok)

  create_early : (early limit : Option Answer) (line : ℕ) (answer : Answer) (victims : List Victim) → IsRefusing kept early → IsCallAnswered early limit (alone p) 1 line create answer victims → is_refusal kept answer ≡ false →
      IsReady db d (after_call early (alone p) 1 line create answer victims)
  create_early (Some refusal) limit line answer victims refusing is ok = absurd (true≢false (sym refusing ∙ ap (is_refusal kept) (sym is.0) ∙ ok))
  create_early None limit line answer victims refusing is ok = create_late (late_refusal (alone p) 1 create) limit line answer victims (create_late_refusing kept p db kind) is ok

  create_readies : (limit : Option Answer) (line : ℕ) (answer : Answer) (victims : List Victim) → IsAnswered limit (alone p) (Called 1 line (Create db kind) answer victims) → is_refusal kept answer ≡ false →
      IsReady db d (after_event (alone p) (Called 1 line (Create db kind) answer victims))
  create_readies limit line answer victims is ok = create_early (early_refusal (alone p) 1 create) limit line answer victims (create_early_refusing kept p db kind) is ok

created_ready : (kept : Bool) (db : List ℕ) (kind : Kind) (d : Database) (limit : Option Answer) (st : Standing) (event : Event) (answer : Answer) (victims : List Victim) → IsUnmade db kind d st → event ≡ Called 1 0 (Create db kind) answer victims →
    IsAnswered limit st event → is_refusal kept answer ≡ false → IsReady db d (after_event st event)
created_ready kept db kind d limit st event answer victims unmade e is ok =
    subst (λ (s : Standing). IsReady db d (after_event s event)) (sym unmade.is)
    (subst (λ (v : Event). IsReady db d (after_event (alone unmade.p) v)) (sym e)
    (create_readies kept db kind d unmade.p unmade.sound unmade.there limit 0 answer victims (subst (λ (v : Event). IsAnswered limit (alone unmade.p) v) e (subst (λ (s : Standing). IsAnswered limit s event) unmade.is is)) ok))

-- The database is made first, and what is attempted behind that leaves it as a load does, if anything is. Where no call was refused it is so in the end.
pub record StoresMade (kept : Bool) (db : List ℕ) (kind : Kind) (d : Database) (mode : PutMode) (pairs : List DumpPair) (st : Standing) (journal : List Event) : Type 0 where
  pub final : list_any (is_refused kept) journal ≡ false → database_of db (after_events st journal).store ≡ Some (with_pairs d (pairs_loaded db d.kind mode pairs d.pairs))
  pub later : List (List Change)
  pub made : attempts_of st journal ≡ (Make db kind ∷ []) ∷ later
  pub attempts : Attempts db d (pairs_loaded db d.kind mode pairs d.pairs) later

made_later : (kept : Bool) (db : List ℕ) (kind : Kind) (d : Database) (mode : PutMode) (pairs : List DumpPair) (st : Standing) (event : Event) (events : List Event) → attempt_of st event ≡ [] →
    StoresMade kept db kind d mode pairs (after_event st event) events → StoresMade kept db kind d mode pairs st (event ∷ events)
made_later kept db kind d mode pairs st event events none later = record {
  final = λ ok. later.final (or_parts (is_refused kept event) (list_any (is_refused kept) events) ok).1;
  later = later.later;
  made = ap (λ (l : List (List Change)). l ++ attempts_of (after_event st event) events) none ∙ later.made;
  attempts = later.attempts;
}

made_first : (kept : Bool) (db : List ℕ) (kind : Kind) (d : Database) (mode : PutMode) (pairs : List DumpPair) (st : Standing) (event : Event) (events : List Event) (answer : Answer) → IsCreated kept answer (attempt_of st event) db kind →
    is_refusal kept answer ≡ false → Stores kept db d mode pairs d.pairs (after_event st event) events → StoresMade kept db kind d mode pairs st (event ∷ events)
made_first kept db kind d mode pairs st event events answer created ok later = record {
  final = λ none. later.final (or_parts (is_refused kept event) (list_any (is_refused kept) events) none).1;
  later = attempts_of (after_event st event) events;
  made = ap (λ (l : List (List Change)). l ++ attempts_of (after_event st event) events) (⊎_elim
      (λ (no : (attempt_of st event ≡ []) × (is_refusal kept answer ≡ true)). absurd (true≢false (sym no.1 ∙ ok)))
      (λ (made : attempt_of st event ≡ (Make db kind ∷ []) ∷ []). made)
      created.is);
  attempts = later.attempts;
}

made_stores : (kept : Bool) (db : List ℕ) (kind : Kind) (d : Database) (mode : PutMode) (pairs : List DumpPair) (st : Standing) (limits : List (Option Answer)) (journal : List Event) → AnswersAsModel st limits journal → IsUnmade db kind d st →
    StopsAtRefusal kept journal → AreEndsLast journal → Session 1 0 (Create db kind) ∷ begin_line ∷ map (put_line db mode) pairs ++ commit_line ∷ [] ≡ lines_of journal ++ [] → StoresMade kept db kind d mode pairs st journal
made_stores kept db kind d mode pairs st limits [] answers unmade stops ends e = cc
made_stores kept db kind d mode pairs st [] (event ∷ events) answers unmade stops ends e = absurd answers
made_stores kept db kind d mode pairs st (limit ∷ limits) (Called session line call answer victims ∷ events) answers unmade stops ends e =
    let event : Event = Called session line call answer victims in
    let rest : List ScriptLine = begin_line ∷ map (put_line db mode) pairs ++ commit_line ∷ [] in
    let is = called_same session line call answer victims (Create db kind) 0 rest (lines_of events) [] e in
    let ok = not_refused kept answer rest (lines_of events) (λ none. cc) is.1 stops.0 in
    made_first kept db kind d mode pairs st event events answer (created_then kept limit st event 0 db kind answer victims (unmade.p, unmade.is) is.0 answers.0).0 ok
    (begun_stores kept db d mode pairs (after_event st event) limits events answers.1 (created_ready kept db kind d limit st event answer victims unmade is.0 answers.0 ok) stops.1 ends.1 is.1)
made_stores kept db kind d mode pairs st (limit ∷ limits) (Resume session line answer victims ∷ events) answers unmade stops ends e = absurd (none_resumes limit st session line answer victims (ap (λ (s : Standing). s.waiting) unmade.is) answers.0)
made_stores kept db kind d mode pairs st (limit ∷ limits) (End session ∷ events) answers unmade stops ends e =
    made_later kept db kind d mode pairs st (End session) events refl (made_stores kept db kind d mode pairs (after_event st (End session)) limits events answers.1 (still_unmade db kind d st (End session) refl unmade) stops.1 ends.1 e)
made_stores kept db kind d mode pairs st (limit ∷ limits) (WriteOut answer ∷ events) answers unmade stops ends e =
    made_later kept db kind d mode pairs st (WriteOut answer) events refl (made_stores kept db kind d mode pairs (after_event st (WriteOut answer)) limits events answers.1 (still_unmade db kind d st (WriteOut answer) refl unmade) stops.1 ends.1 e)
made_stores kept db kind d mode pairs st (limit ∷ limits) (SyncBegin answer ∷ events) answers unmade stops ends e =
    made_later kept db kind d mode pairs st (SyncBegin answer) events refl (made_stores kept db kind d mode pairs (after_event st (SyncBegin answer)) limits events answers.1 (still_unmade db kind d st (SyncBegin answer) refl unmade) stops.1 ends.1 e)
made_stores kept db kind d mode pairs st (limit ∷ limits) (SyncEnd answer ∷ events) answers unmade stops ends e =
    made_later kept db kind d mode pairs st (SyncEnd answer) events refl (made_stores kept db kind d mode pairs (after_event st (SyncEnd answer)) limits events answers.1 (still_unmade db kind d st (SyncEnd answer) refl unmade) stops.1 ends.1 e)
made_stores kept db kind d mode pairs st (limit ∷ limits) (Turn line step answer ∷ events) answers unmade stops ends e =
    made_later kept db kind d mode pairs st (Turn line step answer) events refl
    (made_stores kept db kind d mode pairs (after_event st (Turn line step answer)) limits events answers.1 (still_unmade db kind d st (Turn line step answer) refl unmade) stops.1 ends.1
    (not_step line step (Session 1 0 (Create db kind)) (begin_line ∷ map (put_line db mode) pairs ++ commit_line ∷ []) (lines_of events) [] refl e))

-- ---- a whole load

sound_at : (p : Alone) (st : Standing) → st ≡ alone p → IsStore st.store → HaveNumbers st.store st.last_db st.numbers → IsSound p.store p.numbers p.last_db
sound_at p st is right have = subst (λ (s : Standing). IsSound s.store s.numbers s.last_db) is (record { right = right; have = have })

pub pairs_stored : LoadsStoreTheirPairs
pairs_stored true db kept dump st journal d whole there =
    let load = whole.load in
    let kind = kind_of_dump dump.dup in
    let made = made_stores kept db kind d (load_mode kept dump.dup) dump.pairs st load.limits journal load.answers
    (record {
      p = load.alone_at;
      is = load.is;
      sound = sound_at load.alone_at st load.is whole.right whole.have;
      there = subst (λ (s : Standing). database_of db (changed (Make db kind) s.store) ≡ Some d) load.is there;
    })
    load.stops load.ends (sym whole.lines ∙ sym (append-nil (lines_of journal))) in
    record {
      final = made.final;
      attempted = ⊎_elim
          (λ (none : made.later ≡ []). inl (ap (store_after st.store) (made.made ∙ ap (λ (l : List (List Change)). (Make db kind ∷ []) ∷ l) none)))
          (λ (all : (store : Store) → database_of db store ≡ Some d → database_of db (store_after store made.later) ≡ Some (with_pairs d (pairs_loaded db d.kind (load_mode kept dump.dup) dump.pairs d.pairs))).
          inr (ap (λ (l : List (List Change)). database_of db (store_after st.store l)) made.made ∙ all (changed (Make db kind) st.store) there))
          made.attempts;
    }
pairs_stored false db kept dump st journal d whole there =
    let load = whole.load in
    let begun = begun_stores kept db d (load_mode kept dump.dup) dump.pairs st load.limits journal load.answers
    (record {
      p = load.alone_at;
      is = load.is;
      sound = sound_at load.alone_at st load.is whole.right whole.have;
      there = subst (λ (s : Standing). database_of db s.store ≡ Some d) load.is there;
    })
    load.stops load.ends (sym whole.lines ∙ sym (append-nil (lines_of journal))) in
    record {
      final = begun.final;
      attempted = ⊎_elim
          (λ (none : attempts_of st journal ≡ []). inl (ap (store_after st.store) none))
          (λ (all : (store : Store) → database_of db store ≡ Some d → database_of db (store_after store (attempts_of st journal)) ≡ Some (with_pairs d (pairs_loaded db d.kind (load_mode kept dump.dup) dump.pairs d.pairs))). inr (all st.store there))
          begun.attempts;
    }
