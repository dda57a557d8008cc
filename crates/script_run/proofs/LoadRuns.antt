-- A load is a run of its lines that pauses at a refusal.
use Rattle.std.proofs.Common.{◌≡◌, ℕ, ◌==◌, ◌&&◌, Bool, true, false, cond, List, [], ◌∷◌, ◌++◌, map, Option, refl, ap, sym, ◌∙◌, subst, append_assoc}
use Rattle.std.specs.List.{list_all}
use Rattle.std.proofs.lemmas.Bool.{and_from, and_parts, eq-eqb, eqb-true, true≢false}
use Rattle.dump_text.specs.declared.dump.Dump.{Dump}
use Rattle.dump_text.specs.declared.dump_pair.DumpPair.{DumpPair}
use Rattle.store_model.specs.declared.answer.Answer.{Answer}
use Rattle.store_model.specs.declared.event.Event.{Event}
use Rattle.store_model.specs.declared.event.Event.TheVariants.{End}
use Rattle.store_model.specs.declared.kind.Kind.{Kind}
use Rattle.store_model.specs.declared.put_mode.PutMode.{PutMode}
use Rattle.store_model.specs.declared.plan.ScriptLine.{ScriptLine}
use Rattle.store_model.specs.declared.plan.ScriptLine.TheVariants.{Session, Maintenance}
use Rattle.je_answers.specs.Standing.{Standing}
use Rattle.je_answers.specs.After.{AnswersAsModel, after_event}
use Rattle.je_answers.specs.Alone.{Alone, alone}
use Rattle.je_answers.specs.Journal.{line_of, lines_of}
use Rattle.load_run.specs.Lines.{commit_line, kind_of_dump, load_lines, load_mode, pair_lines, put_line}
use Rattle.load_laws.specs.Given.{AreEndsLast, IsEndLast}
use Rattle.load_laws.specs.Images.{IsLoadOf}
use Rattle.load_laws.specs.Stored.{IsWholeLoad}
use Rattle.je_answers.specs.Numbers.{HaveNumbers}
use Rattle.je_disk.specs.States.{Files}
use Rattle.store_model.specs.declared.store.Store.{Store}
use Rattle.store_model.specs.Store.{IsStore}
use Rattle.engine.specs.Opening.{StartsAt}
use Rattle.environment.proofs.RightStores.{meaning_right}
use Rattle.script_run.specs.declared.running.Running.{Running}
use Rattle.script_run.specs.declared.pause.Pause.TheVariants.{AtRefusal}
use Rattle.script_run.specs.Ends.{AreEndsInPlace, IsEndInPlace}
use Rattle.script_run.specs.Lines.{AreFirstLines, HasGiven, is_of_session, of_maintenance, of_session}
use Rattle.script_run.specs.Pauses.{HasLinesUntil}
use Rattle.script_run.proofs.GivenLaws.{eqb_sym}

-- ---- lines of one session

-- all lines are of session 1
abbrev AreOfOne : List ScriptLine → Type 0
AreOfOne lines = list_all (is_of_session 1) lines ≡ true

own_lines : (lines : List ScriptLine) → AreOfOne lines → of_session 1 lines ≡ lines
own_lines [] own = refl
own_lines (line ∷ lines) own =
    let parts = and_parts (is_of_session 1 line) (list_all (is_of_session 1) lines) own in
    rw parts.0 (ap (λ (l : List ScriptLine). line ∷ l) (own_lines lines parts.1))

later_own : (before after : List ScriptLine) → AreOfOne (before ++ after) → AreOfOne after
later_own [] after own = own
later_own (line ∷ before) after own = later_own before after (and_parts (is_of_session 1 line) (list_all (is_of_session 1) (before ++ after)) own).1

first_own : (before after : List ScriptLine) → AreOfOne (before ++ after) → AreOfOne before
first_own [] after own = refl
first_own (line ∷ before) after own =
    let parts = and_parts (is_of_session 1 line) (list_all (is_of_session 1) (before ++ after)) own in
    and_from (is_of_session 1 line) (list_all (is_of_session 1) before) parts.0 (first_own before after parts.1)

puts_own : (db : List ℕ) (mode : PutMode) (pairs : List DumpPair) → AreOfOne (map (put_line db mode) pairs ++ commit_line ∷ [])
puts_own db mode [] = refl
puts_own db mode (pair ∷ pairs) = puts_own db mode pairs

pairs_own : (make : Bool) (db : List ℕ) (kind : Kind) (mode : PutMode) (pairs : List DumpPair) → AreOfOne (pair_lines make db kind mode pairs)
pairs_own true db kind mode pairs = puts_own db mode pairs
pairs_own false db kind mode pairs = puts_own db mode pairs

-- the lines of a load are
loads_own : (make : Bool) (db : List ℕ) (kept : Bool) (dump : Dump) → AreOfOne (load_lines make db kept dump)
loads_own make db kept dump = pairs_own make db (kind_of_dump dump.dup) (load_mode kept dump.dup) dump.pairs

-- ---- the lines of a journal, where those that a run was given are of session 1

none_of : (front lines : List ScriptLine) → AreFirstLines front lines → lines ≡ [] → front ≡ []
none_of [] lines first none = refl
none_of (line ∷ front) lines first none = (let wrong : line ∷ front ++ first.0 ≡ [] = sym first.1 ∙ none in cc)

own_steps : (lines : List ScriptLine) → AreOfOne lines → of_maintenance lines ≡ []
own_steps [] own = refl
own_steps (Session session line call ∷ lines) own = own_steps lines (and_parts (session == 1) (list_all (is_of_session 1) lines) own).1
own_steps (Maintenance line step ∷ lines) own = absurd (true≢false (sym own))

others_none : (session : ℕ) (lines : List ScriptLine) → (1 == session) ≡ false → AreOfOne lines → of_session session lines ≡ []
others_none session [] other own = refl
others_none session (Session s line call ∷ lines) other own =
    let parts = and_parts (s == 1) (list_all (is_of_session 1) lines) own in
    let is : (s == session) ≡ false = ap (λ n. n == session) (eqb-true s 1 parts.0) ∙ other in
    rw is (others_none session lines other parts.1)
others_none session (Maintenance line step ∷ lines) other own = absurd (true≢false (sym own))

-- lines of no other session, and no steps, are all of session 1
only_own : (lines : List ScriptLine) → ((session : ℕ) → (1 == session) ≡ false → of_session session lines ≡ []) → of_maintenance lines ≡ [] → AreOfOne lines
only_own [] others steps = refl
only_own (Maintenance line step ∷ lines) others steps = cc
only_own (Session session line call ∷ lines) others steps =
    by_session (session == 1) refl (only_own lines (λ s other. later (session == s) (Session session line call) (of_session s lines) (others s other)) steps)
  where
    later : (b : Bool) (given : ScriptLine) (ls : List ScriptLine) → cond b (given ∷ ls) ls ≡ [] → ls ≡ []
    later true given ls none = cc
    later false given ls none = none

    same : (b : Bool) → b ≡ true → cond b (Session session line call ∷ of_session session lines) (of_session session lines) ≡ [] → ⊥
    same true is none = cc
    same false is none = cc

    by_session : (b : Bool) → (session == 1) ≡ b → AreOfOne lines → ((session == 1) && list_all (is_of_session 1) lines) ≡ true
    by_session true is own = ap (λ b. b && list_all (is_of_session 1) lines) is ∙ own
    by_session false is own = absurd (same (session == session) (eq-eqb session session refl) (others session (eqb_sym 1 session is)))

-- the lines of a journal are the first of those that the run was given, if these are all of session 1
front_own : (journal : List Event) (memory_ended : Bool) (stopped : List Bool) (steps_stopped : Bool) (lines : List ScriptLine) → AreOfOne lines → HasGiven journal memory_ended stopped steps_stopped lines →
    AreOfOne (lines_of journal) × AreFirstLines (lines_of journal) lines
front_own journal memory_ended stopped steps_stopped lines own given =
    let journal_own = only_own (lines_of journal)
    (λ s other. none_of (of_session s (lines_of journal)) (of_session s lines) (given.front s) (others_none s lines other own))
    (none_of (of_maintenance (lines_of journal)) (of_maintenance lines) given.front_steps (own_steps lines own)) in
    let front = given.front 1 in
    (journal_own, (front.0, sym (own_lines lines own) ∙ front.1 ∙ ap (λ (l : List ScriptLine). l ++ front.0) (own_lines (lines_of journal) journal_own)))

-- behind the end of session 1 comes no line
ends_own : (stopped : List Bool) (st : Standing) (journal : List Event) → AreOfOne (lines_of journal) → AreEndsInPlace stopped st journal → AreEndsLast journal
ends_own stopped st [] own ends = tt
ends_own stopped st (event ∷ events) own ends =
    let later = later_own (line_of event) (lines_of events) own in
    (at_event event later ends.0, ends_own stopped (after_event st event) events later ends.1)
  where
    at_event : (e : Event) → AreOfOne (lines_of events) → IsEndInPlace stopped st e events → IsEndLast e events
    at_event (End session) own end = λ is. sym (own_lines (lines_of events) own) ∙ ap (λ s. of_session s (lines_of events)) (sym is) ∙ end.0
    at_event e own end = tt

-- ---- a load

-- a run of the lines of a load, which pauses at a refusal and began with nothing under way, is a load
pub load_of : {D : Type 0} (make : Bool) (db : List ℕ) (kept : Bool) (dump : Dump) (p : Alone) (st : Standing) (limits : List (Option Answer)) (x : Running D) → st ≡ alone p →
    AnswersAsModel st limits x.recorded.journal.items → AreEndsInPlace x.stopped st x.recorded.journal.items → HasLinesUntil (AtRefusal kept) x (load_lines make db kept dump) →
    IsLoadOf make db kept dump st x.recorded.journal.items
load_of make db kept dump p st limits x is answers ends until =
    let journal = x.recorded.journal.items in
    let own = first_own until.front until.rest (subst (λ (l : List ScriptLine). AreOfOne l) until.parts (loads_own make db kept dump)) in
    let front = front_own journal x.memory_ended x.stopped x.steps_stopped until.front own until.given in
    record {
      alone_at = p;
      is = is;
      limits = limits;
      answers = answers;
      rest = front.1.0 ++ until.rest;
      lines = until.parts ∙ ap (λ (l : List ScriptLine). l ++ until.rest) front.1.1 ∙ append_assoc (lines_of journal) front.1.0 until.rest;
      stops = until.stops;
      ends = ends_own x.stopped st journal front.0 ends;
    }

-- where an environment was opened its store is right, and each of its databases has a number of its own: so a load that was given all its lines there is whole
pub whole_of : (observable : Bool) (files : Files) (opening : Store) (st : Standing) (starts : StartsAt observable files opening st) (make : Bool) (db : List ℕ) (kept : Bool) (dump : Dump) (journal : List Event) →
    IsLoadOf make db kept dump st journal → lines_of journal ≡ load_lines make db kept dump → IsWholeLoad make db kept dump st journal
whole_of observable files opening st starts make db kept dump journal load lines =
    let numbers = starts.numbers in
    record {
      load = load;
      lines = lines;
      right = subst (λ (s : Store). IsStore s) (starts.means_store ∙ sym starts.store ∙ sym (ap (λ (s : Standing). s.store) starts.st_is)) (meaning_right starts.held starts.meaning starts.means);
      have = subst (λ (s : Standing). HaveNumbers s.store s.last_db s.numbers) (sym starts.st_is)
          (subst (λ (s : Store). HaveNumbers s starts.alone_at.last_db starts.alone_at.numbers) (sym starts.store)
          (record { none = numbers.none; allocated = numbers.allocated; apart = numbers.apart }));
    }
