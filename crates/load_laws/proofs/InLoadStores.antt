-- What a load stores from its transaction on.
use Rattle.std.proofs.Common.{◌≡◌, ⊎_elim, ℕ, Bool, true, false, List, [], ◌∷◌, ◌++◌, Option, Some, map, refl, ap, sym, ◌∙◌, subst}
use Rattle.std.specs.List.{list_any}
use Rattle.std.proofs.lemmas.Bool.{or_parts}
use Rattle.dump_text.specs.declared.dump_pair.DumpPair.{DumpPair}
use Rattle.store_model.specs.declared.store.Database.{Database}
use Rattle.store_model.specs.declared.put_mode.PutMode.{PutMode}
use Rattle.store_model.specs.declared.call.Call.TheVariants.{Commit, Put}
use Rattle.store_model.specs.declared.victim.Victim.{Victim}
use Rattle.store_model.specs.declared.answer.Answer.{Answer}
use Rattle.store_model.specs.declared.event.Event.{Event}
use Rattle.store_model.specs.declared.event.Event.TheVariants.{Call as Called, Resume, End, WriteOut, SyncBegin, SyncEnd, Turn}
use Rattle.store_model.specs.declared.plan.ScriptLine.{ScriptLine}
use Rattle.store_model.specs.Store.{Pair, database_of, with_pairs}
use Rattle.je_answers.specs.Standing.{Standing}
use Rattle.je_answers.specs.Events.{IsAnswered}
use Rattle.je_answers.specs.After.{AnswersAsModel, after_event, after_events}
use Rattle.je_answers.specs.Journal.{attempt_of, attempts_of, lines_of}
use Rattle.load_run.specs.Lines.{commit_line, put_line}
use Rattle.load_laws.specs.Given.{AreEndsLast, StopsAtRefusal, is_refusal, is_refused}
use Rattle.load_laws.specs.Stored.{pairs_loaded, put_among}
use Rattle.load_laws.proofs.Phases.{commit_waits_none, none_resumes}
use Rattle.load_laws.proofs.LoadImages.{called_same, front_empty, pairs_step, put_none, stopped_none}
use Rattle.load_laws.proofs.PutSteps.{Holds, put_holds}
use Rattle.load_laws.proofs.CommitStores.{Attempts, attempts_last, attempts_then, commit_attempts, commit_stores, holds_begin, holds_end, holds_ended, holds_faulted, holds_turn, stopped_store}

-- ---- in the transaction

-- Where no call was refused the database has the pairs put among the records that it had; and what is attempted leaves it so, if anything is.
pub record Stores (kept : Bool) (db : List ℕ) (d : Database) (mode : PutMode) (pairs : List DumpPair) (held : List Pair) (st : Standing) (journal : List Event) : Type 0 where
  pub final : list_any (is_refused kept) journal ≡ false → database_of db (after_events st journal).store ≡ Some (with_pairs d (pairs_loaded db d.kind mode pairs held))
  pub attempts : Attempts db d (pairs_loaded db d.kind mode pairs held) (attempts_of st journal)

pub some_line : (db : List ℕ) (mode : PutMode) (pairs : List DumpPair) → map (put_line db mode) pairs ++ commit_line ∷ [] ≡ [] → ⊥
some_line db mode [] none = cc
some_line db mode (p ∷ pairs) none = cc

put_then : (db : List ℕ) (d : Database) (mode : PutMode) (pair : DumpPair) (held : List Pair) (st : Standing) (kept : Bool) (limit : Option Answer) (event : Event) (answer : Answer) (victims : List Victim) → Holds db d held st →
    event ≡ Called 1 pair.line (Put db pair.key pair.value mode) answer victims → IsAnswered limit st event → is_refusal kept answer ≡ false → Holds db d (put_among db d.kind mode pair held) (after_event st event)
put_then db d mode pair held st kept limit event answer victims h e is ok =
    subst (λ (v : Event). Holds db d (put_among db d.kind mode pair held) (after_event st v)) (sym e)
    (put_holds db d mode pair held st h kept limit pair.line answer victims (subst (λ (v : Event). IsAnswered limit st v) e is) ok)

commit_then : (db : List ℕ) (d : Database) (held : List Pair) (st : Standing) (kept : Bool) (limit : Option Answer) (event : Event) (answer : Answer) (victims : List Victim) → Holds db d held st →
    event ≡ Called 1 0 Commit answer victims → IsAnswered limit st event → is_refusal kept answer ≡ false → database_of db (after_event st event).store ≡ Some (with_pairs d held)
commit_then db d held st kept limit event answer victims h e is ok =
    subst (λ (v : Event). database_of db (after_event st v).store ≡ Some (with_pairs d held)) (sym e)
    (commit_stores db d held st h kept limit 0 answer victims (subst (λ (v : Event). IsAnswered limit st v) e is) ok)

-- a call behind which a line was given was not refused
pub not_refused : (kept : Bool) (answer : Answer) (lines given : List ScriptLine) → (lines ≡ [] → ⊥) → lines ≡ given ++ [] → (is_refusal kept answer ≡ true → given ≡ []) → is_refusal kept answer ≡ false
not_refused kept answer lines given some e stops = by (is_refusal kept answer) refl where
  by : (b : Bool) → is_refusal kept answer ≡ b → b ≡ false
  by true is = absurd (some (e ∙ ap (λ (l : List ScriptLine). l ++ []) (stops is)))
  by false is = refl

-- an event that is not refused, and then the others
pub stores_then : (kept : Bool) (db : List ℕ) (d : Database) (mode : PutMode) (pairs more : List DumpPair) (held now : List Pair) (st : Standing) (event : Event) (events : List Event) → pairs_loaded db d.kind mode pairs held ≡ pairs_loaded db d.kind mode more now →
    attempt_of st event ≡ [] → Stores kept db d mode more now (after_event st event) events → Stores kept db d mode pairs held st (event ∷ events)
stores_then kept db d mode pairs more held now st event events same none later = record {
  final = λ ok. later.final (or_parts (is_refused kept event) (list_any (is_refused kept) events) ok).1 ∙ ap (λ (ps : List Pair). Some (with_pairs d ps)) (sym same);
  attempts = attempts_then db d (pairs_loaded db d.kind mode pairs held) (attempt_of st event) (attempts_of (after_event st event) events) none
      (subst (λ (ps : List Pair). Attempts db d ps (attempts_of (after_event st event) events)) (sym same) later.attempts);
}

-- the commit
stores_last : (kept : Bool) (db : List ℕ) (d : Database) (mode : PutMode) (held : List Pair) (st : Standing) (limit : Option Answer) (limits : List (Option Answer)) (event : Event) (events : List Event) (answer : Answer) (victims : List Victim) →
    Holds db d held st → event ≡ Called 1 0 Commit answer victims → IsAnswered limit st event → AnswersAsModel (after_event st event) limits events → lines_of events ≡ [] → Stores kept db d mode [] held st (event ∷ events)
stores_last kept db d mode held st limit limits event events answer victims h e is later none = record {
  final = λ ok.
      let not_it : is_refusal kept answer ≡ false = ap (is_refused kept) (sym e) ∙ (or_parts (is_refused kept event) (list_any (is_refused kept) events) ok).0 in
      let done = commit_then db d held st kept limit event answer victims h e is not_it in
      ap (database_of db) (stopped_store (after_event st event) limits events later waits none) ∙ done;
  attempts = attempts_last db d held (attempt_of st event) (attempts_of (after_event st event) events) (stopped_none (after_event st event) limits events later waits none)
      (subst (λ (v : Event). Attempts db d held (attempt_of st v)) (sym e) (commit_attempts db d held st h 0 answer victims));
} where
  waits : (after_event st event).waiting ≡ []
  waits = subst (λ (v : Event). (after_event st v).waiting ≡ []) (sym e) (commit_waits_none st 0 answer victims h.load.waits)

pub in_stores : (kept : Bool) (db : List ℕ) (d : Database) (mode : PutMode) (pairs : List DumpPair) (held : List Pair) (st : Standing) (limits : List (Option Answer)) (journal : List Event) → AnswersAsModel st limits journal →
    Holds db d held st → StopsAtRefusal kept journal → AreEndsLast journal → map (put_line db mode) pairs ++ commit_line ∷ [] ≡ lines_of journal ++ [] → Stores kept db d mode pairs held st journal
in_stores kept db d mode pairs held st limits [] answers h stops ends e = absurd (some_line db mode pairs e)
in_stores kept db d mode pairs held st [] (event ∷ events) answers h stops ends e = absurd answers
in_stores kept db d mode [] held st (limit ∷ limits) (Called session line call answer victims ∷ events) answers h stops ends e =
    let is = called_same session line call answer victims Commit 0 [] (lines_of events) [] e in
    stores_last kept db d mode held st limit limits (Called session line call answer victims) events answer victims h is.0 answers.0 answers.1 (front_empty (lines_of events) [] is.1).0
in_stores kept db d mode (p ∷ pairs) held st (limit ∷ limits) (Called session line call answer victims ∷ events) answers h stops ends e =
    let event : Event = Called session line call answer victims in
    let is = called_same session line call answer victims (Put db p.key p.value mode) p.line (map (put_line db mode) pairs ++ commit_line ∷ []) (lines_of events) [] e in
    let ok = not_refused kept answer (map (put_line db mode) pairs ++ commit_line ∷ []) (lines_of events) (some_line db mode pairs) is.1 stops.0 in
    stores_then kept db d mode (p ∷ pairs) pairs held (put_among db d.kind mode p held) st event events refl
    (ap (attempt_of st) is.0 ∙ put_none st h.load p.line db p.key p.value mode answer victims)
    (in_stores kept db d mode pairs (put_among db d.kind mode p held) (after_event st event) limits events answers.1 (put_then db d mode p held st kept limit event answer victims h is.0 answers.0 ok) stops.1 ends.1 is.1)
in_stores kept db d mode pairs held st (limit ∷ limits) (Resume session line answer victims ∷ events) answers h stops ends e = absurd (none_resumes limit st session line answer victims h.load.waits answers.0)
in_stores kept db d mode pairs held st (limit ∷ limits) (End session ∷ events) answers h stops ends e =
    ⊎_elim
    (λ (one : session ≡ 1). absurd (some_line db mode pairs (e ∙ ap (λ (l : List ScriptLine). l ++ []) (ends.0 one))))
    (λ (y : Holds db d held (after_event st (End session))). stores_then kept db d mode pairs pairs held held st (End session) events refl refl (in_stores kept db d mode pairs held (after_event st (End session)) limits events answers.1 y stops.1 ends.1 e))
    (holds_ended db d held st h session)
in_stores kept db d mode pairs held st (limit ∷ limits) (WriteOut answer ∷ events) answers h stops ends e =
    stores_then kept db d mode pairs pairs held held st (WriteOut answer) events refl refl (in_stores kept db d mode pairs held (after_event st (WriteOut answer)) limits events answers.1 (holds_faulted db d held st h answer) stops.1 ends.1 e)
in_stores kept db d mode pairs held st (limit ∷ limits) (SyncBegin answer ∷ events) answers h stops ends e =
    stores_then kept db d mode pairs pairs held held st (SyncBegin answer) events refl refl (in_stores kept db d mode pairs held (after_event st (SyncBegin answer)) limits events answers.1 (holds_begin db d held st h answer) stops.1 ends.1 e)
in_stores kept db d mode pairs held st (limit ∷ limits) (SyncEnd answer ∷ events) answers h stops ends e =
    stores_then kept db d mode pairs pairs held held st (SyncEnd answer) events refl refl (in_stores kept db d mode pairs held (after_event st (SyncEnd answer)) limits events answers.1 (holds_end db d held st h answer) stops.1 ends.1 e)
in_stores kept db d mode pairs held st (limit ∷ limits) (Turn line step answer ∷ events) answers h stops ends e =
    stores_then kept db d mode pairs pairs held held st (Turn line step answer) events refl refl
    (in_stores kept db d mode pairs held (after_event st (Turn line step answer)) limits events answers.1 (holds_turn db d held st h step answer) stops.1 ends.1 (pairs_step line step db mode pairs (lines_of events) [] e))
