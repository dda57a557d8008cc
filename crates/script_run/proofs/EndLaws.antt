-- Where a journal ends sessions, event after event.
use Rattle.std.proofs.Common.{◌≡◌, ◌≢◌, ℕ, ◌<◌, ◌≤◌, ◌+◌, ◌==◌, Bool, true, false, cond, List, [], ◌∷◌, ◌++◌, None, refl, ap, sym, ◌∙◌, subst, inl, inr, ⊎_elim, append_assoc, arith, get_or}
use Rattle.std.specs.Option.{is_some}
use Rattle.std.specs.List.{AllByRecursion}
use Rattle.std.proofs.lemmas.List.{append-nil}
use Rattle.std.proofs.lemmas.Bool.{cond-false, ne_eqb}
use Rattle.std.proofs.lemmas.List.Elements.{filter-append}
use Rattle.je_order.proofs.Lists.{all_append, all_weaker}
use Rattle.store_model.specs.declared.call.Call.{Call}
use Rattle.store_model.specs.declared.event.Event.{Event}
use Rattle.store_model.specs.declared.event.Event.TheVariants.{End, Turn}
use Rattle.store_model.specs.declared.answer.Answer.{Answer}
use Rattle.store_model.specs.declared.step.Step.{Step}
use Rattle.store_model.specs.declared.plan.ScriptLine.{ScriptLine}
use Rattle.store_model.specs.declared.plan.ScriptLine.TheVariants.{Session, Maintenance}
use Rattle.je_answers.specs.Standing.{Standing, active_of}
use Rattle.je_answers.specs.After.{after_event, after_events}
use Rattle.je_answers.specs.Journal.{first_ready, line_of, lines_of}
use Rattle.script_run.specs.Lines.{is_of_session, of_session}
use Rattle.script_run.specs.Ends.{IsStopped, IsEndPast, IsLastEnd, IsEndInPlace, AreEndsInPlace, IsEndStopped, AreEndsStopped, IsOfStopped, HasGained, IsEndBelow, AreEndsBelow}
use Rattle.script_run.proofs.GivenLaws.{eqb_sym, lines_of-append, of_other, two_sessions}

-- ---- lists of lines

no_lines_of : (session : ℕ) (lines : List ScriptLine) → lines ≡ [] → of_session session lines ≡ []
no_lines_of session lines none = ap (of_session session) none

no_lines_more : (later more : List Event) → lines_of more ≡ [] → lines_of (later ++ more) ≡ lines_of later
no_lines_more later more none = lines_of-append later more ∙ ap (λ (l : List ScriptLine). lines_of later ++ l) none ∙ append-nil (lines_of later)

-- ---- what a journal gained

pub gained_none : (stopped : List Bool) (journal : List Event) → HasGained stopped journal journal
gained_none stopped journal = record { more = []; is = sym (append-nil journal); lines = refl; ends = tt }

pub gained_same : (stopped : List Bool) (old new : List Event) → new ≡ old → HasGained stopped old new
gained_same stopped old new is = record { more = []; is = is ∙ sym (append-nil old); lines = refl; ends = tt }

-- one event that no line gave
pub gained_one : (stopped : List Bool) (old new : List Event) (event : Event) → new ≡ old ++ event ∷ [] → lines_of (event ∷ []) ≡ [] → IsOfStopped stopped event → HasGained stopped old new
gained_one stopped old new event is lines of_stopped = record { more = event ∷ []; is = is; lines = lines; ends = (of_stopped, tt) }

pub gained_then : (stopped : List Bool) (old mid new : List Event) → HasGained stopped old mid → HasGained stopped mid new → HasGained stopped old new
gained_then stopped old mid new first next = record {
  more = first.more ++ next.more;
  is = next.is ∙ ap (λ (l : List Event). l ++ next.more) first.is ∙ append_assoc old first.more next.more;
  lines = lines_of-append first.more next.more ∙ ap (λ (l : List ScriptLine). l ++ lines_of next.more) first.lines ∙ next.lines;
  ends = all_append (IsOfStopped stopped) first.more next.more first.ends next.ends;
}

pub gained_lines : (stopped : List Bool) (old new : List Event) → HasGained stopped old new → lines_of new ≡ lines_of old
gained_lines stopped old new gained = ap lines_of gained.is ∙ no_lines_more old gained.more gained.lines

-- the end of a session is of no line
pub ended_lines : (before after : List Event) (session : ℕ) → after ≡ before ++ End session ∷ [] → lines_of after ≡ lines_of before
ended_lines before after session is = ap lines_of is ∙ no_lines_more before (End session ∷ []) refl

-- more sessions may have been stopped since
of_stopped_later : (old new : List Bool) → ((s : ℕ) → IsStopped old s → IsStopped new s) → (event : Event) → IsOfStopped old event → IsOfStopped new event
of_stopped_later old new more (End session) h = more session h
of_stopped_later old new more event h = tt

pub gained_later : (old new : List Bool) (before after : List Event) → ((s : ℕ) → IsStopped old s → IsStopped new s) → HasGained old before after → HasGained new before after
gained_later old new before after more gained = record {
  more = gained.more;
  is = gained.is;
  lines = gained.lines;
  ends = all_weaker (IsOfStopped old) (IsOfStopped new) (of_stopped_later old new more) gained.more gained.ends;
}

-- ---- while lines are given

stopped_event_more : (old new : List Bool) (more : List Event) → ((s : ℕ) → IsStopped old s → IsStopped new s) → lines_of more ≡ [] → (event : Event) (later : List Event) → IsEndStopped old event later →
    IsEndStopped new event (later ++ more)
stopped_event_more old new more grew none (End session) later h = (ap (of_session session) (no_lines_more later more none) ∙ h.0, grew session h.1)
stopped_event_more old new more grew none event later h = tt

no_lines_behind : (lines behind : List ScriptLine) → lines ++ behind ≡ [] → behind ≡ []
no_lines_behind [] behind none = none
no_lines_behind (line ∷ lines) behind none = cc

-- events that no line gave, of which each end is of a session that was stopped
ends_of : (stopped : List Bool) (events : List Event) → lines_of events ≡ [] → AllByRecursion (IsOfStopped stopped) events → AreEndsStopped stopped events
ends_of stopped [] none h = tt
ends_of stopped (event ∷ events) none h =
    let rest : lines_of events ≡ [] = no_lines_behind (line_of event) (lines_of events) none in
    (at_event event events rest h.0, ends_of stopped events rest h.1)
  where
    at_event : (event : Event) (later : List Event) → lines_of later ≡ [] → IsOfStopped stopped event → IsEndStopped stopped event later
    at_event (End session) later rest h = (no_lines_of session (lines_of later) rest, h)
    at_event event later rest h = tt

stopped_append : (old new : List Bool) (journal more : List Event) → ((s : ℕ) → IsStopped old s → IsStopped new s) → lines_of more ≡ [] → AreEndsStopped new more → AreEndsStopped old journal →
    AreEndsStopped new (journal ++ more)
stopped_append old new [] more grew none ends h = ends
stopped_append old new (event ∷ events) more grew none ends h = (stopped_event_more old new more grew none event events h.0, stopped_append old new events more grew none ends h.1)

-- what a journal gained leaves its ends so
pub stopped_gained : (old new : List Bool) (before after : List Event) → ((s : ℕ) → IsStopped old s → IsStopped new s) → HasGained new before after → AreEndsStopped old before → AreEndsStopped new after
stopped_gained old new before after grew gained h =
    subst (λ (l : List Event). AreEndsStopped new l) (sym gained.is) (stopped_append old new before gained.more grew gained.lines (ends_of new gained.more gained.lines gained.ends) h)

-- and so does an event whose line is of no session that was stopped
given_event_more : (stopped : List Bool) (given : Event) → ((other : ℕ) → IsStopped stopped other → of_session other (lines_of (given ∷ [])) ≡ []) → (event : Event) (later : List Event) →
    IsEndStopped stopped event later → IsEndStopped stopped event (later ++ given ∷ [])
given_event_more stopped given none (End other) later h = (
  ap (of_session other) (lines_of-append later (given ∷ [])) ∙ filter-append (is_of_session other) (lines_of later) (lines_of (given ∷ []))
      ∙ ap (λ (l : List ScriptLine). of_session other (lines_of later) ++ l) (none other h.1) ∙ append-nil (of_session other (lines_of later)) ∙ h.0,
  h.1,
)
given_event_more stopped given none event later h = tt

pub stopped_given : (stopped : List Bool) (journal : List Event) (given : Event) → ((other : ℕ) → IsStopped stopped other → of_session other (lines_of (given ∷ [])) ≡ []) →
    ((later : List Event) → IsEndStopped stopped given later) → AreEndsStopped stopped journal → AreEndsStopped stopped (journal ++ given ∷ [])
stopped_given stopped [] given none no_end h = (no_end [], tt)
stopped_given stopped (event ∷ events) given none no_end h = (given_event_more stopped given none event events h.0, stopped_given stopped events given none no_end h.1)

-- as a line of a session that was not
pub stopped_line : (stopped : List Bool) (journal : List Event) (given : Event) (session line : ℕ) (call : Call) → lines_of (given ∷ []) ≡ Session session line call ∷ [] →
    ((later : List Event) → IsEndStopped stopped given later) → get_or stopped session false ≡ false → AreEndsStopped stopped journal → AreEndsStopped stopped (journal ++ given ∷ [])
stopped_line stopped journal given session line call is no_end running h = stopped_given stopped journal given
    (λ other was. ap (of_session other) is ∙ of_other other session line call (eqb_sym session other (two_sessions stopped other session was running))) no_end h

-- a step of maintenance is a line, and none of a session
step_line : (line : ℕ) (step : Step) (answer : Answer) → line ≢ 0 → lines_of (Turn line step answer ∷ []) ≡ Maintenance line step ∷ []
step_line line step answer some = ap (λ (l : List ScriptLine). l ++ []) (cond-false (line == 0) [] (Maintenance line step ∷ []) (ne_eqb line 0 some))

pub turned_lines : (before after : List Event) (line : ℕ) (step : Step) (answer : Answer) → line ≢ 0 → after ≡ before ++ Turn line step answer ∷ [] → lines_of after ≡ lines_of before ++ Maintenance line step ∷ []
turned_lines before after line step answer some is =
    ap lines_of is ∙ lines_of-append before (Turn line step answer ∷ []) ∙ ap (λ (l : List ScriptLine). lines_of before ++ l) (step_line line step answer some)

step_of_none : (session line : ℕ) (step : Step) (answer : Answer) → of_session session (lines_of (Turn line step answer ∷ [])) ≡ []
step_of_none session line step answer = by_number (line == 0) where
  by_number : (none : Bool) → of_session session (cond none [] (Maintenance line step ∷ []) ++ []) ≡ []
  by_number true = refl
  by_number false = refl

pub stopped_step : (stopped : List Bool) (before after : List Event) (line : ℕ) (step : Step) (answer : Answer) → after ≡ before ++ Turn line step answer ∷ [] → AreEndsStopped stopped before → AreEndsStopped stopped after
stopped_step stopped before after line step answer is h =
    subst (λ (l : List Event). AreEndsStopped stopped l) (sym is) (stopped_given stopped before (Turn line step answer) (λ other was. step_of_none other line step answer) (λ later. tt) h)

-- ---- while sessions are ended

past_later : (old new : List Bool) (session : ℕ) → ((s : ℕ) → IsStopped old s → IsStopped new s) → (event : Event) → IsEndPast old session event → IsEndPast new session event
past_later old new session grew (End other) h = ⊎_elim (λ (s : IsStopped old other). inl (grew other s)) (λ (l : session < other). inr l) h
past_later old new session grew event h = tt

below_later : (old new : List Bool) (bound : ℕ) → ((s : ℕ) → IsStopped old s → IsStopped new s) → (event : Event) → IsEndBelow old bound event → IsEndBelow new bound event
below_later old new bound grew (End other) h = ⊎_elim (λ (s : IsStopped old other). inl (grew other s)) (λ (l : other < bound). inr l) h
below_later old new bound grew event h = tt

past_of : (stopped : List Bool) (session : ℕ) (event : Event) → IsOfStopped stopped event → IsEndPast stopped session event
past_of stopped session (End other) h = inl h
past_of stopped session event h = tt

below_of : (stopped : List Bool) (bound : ℕ) (event : Event) → IsOfStopped stopped event → IsEndBelow stopped bound event
below_of stopped bound (End other) h = inl h
below_of stopped bound event h = tt

-- events come behind an end, of which each end is past it
in_place_more : (old new : List Bool) (more : List Event) → ((s : ℕ) → IsStopped old s → IsStopped new s) → lines_of more ≡ [] → (bound : ℕ) →
    ((session : ℕ) → session < bound → AllByRecursion (IsEndPast new session) more) → (st : Standing) (event : Event) (later : List Event) →
    IsEndBelow old bound event → IsEndInPlace old st event later → IsEndInPlace new st event (later ++ more)
in_place_more old new more grew none bound past st (End session) later below h = (
  ap (of_session session) (no_lines_more later more none) ∙ h.0,
  ⊎_elim
      (λ (s : IsStopped old session). inl (grew session s))
      (λ (last : IsLastEnd old st session later). ⊎_elim
      (λ (s : IsStopped old session). inl (grew session s))
      (λ (less : session < bound). inr (record {
        under_way = last.under_way;
        calm = last.calm;
        lines = no_lines_more later more none ∙ last.lines;
        rising = all_append (IsEndPast new session) later more (all_weaker (IsEndPast old session) (IsEndPast new session) (past_later old new session grew) later last.rising) (past session less);
      }))
      below)
      h.1,
)
in_place_more old new more grew none bound past st event later below h = tt

in_place_append : (old new : List Bool) (more : List Event) → ((s : ℕ) → IsStopped old s → IsStopped new s) → lines_of more ≡ [] → (bound : ℕ) →
    ((session : ℕ) → session < bound → AllByRecursion (IsEndPast new session) more) → (st : Standing) (journal : List Event) →
    AllByRecursion (IsEndBelow old bound) journal → AreEndsInPlace new (after_events st journal) more → AreEndsInPlace old st journal → AreEndsInPlace new st (journal ++ more)
in_place_append old new more grew none bound past st [] below ends h = ends
in_place_append old new more grew none bound past st (event ∷ events) below ends h = (
  in_place_more old new more grew none bound past st event events below.0 h.0,
  in_place_append old new more grew none bound past (after_event st event) events below.1 ends h.1,
)

-- ends of sessions that were stopped are in place
stopped_in_place : (stopped : List Bool) (st : Standing) (journal : List Event) → AreEndsStopped stopped journal → AreEndsInPlace stopped st journal
stopped_in_place stopped st [] h = tt
stopped_in_place stopped st (event ∷ events) h = (at_event event h.0, stopped_in_place stopped (after_event st event) events h.1) where
  at_event : (event : Event) → IsEndStopped stopped event events → IsEndInPlace stopped st event events
  at_event (End session) h = (h.0, inl h.1)
  at_event event h = tt

stopped_below : (stopped : List Bool) (bound : ℕ) (journal : List Event) → AreEndsStopped stopped journal → AllByRecursion (IsEndBelow stopped bound) journal
stopped_below stopped bound [] h = tt
stopped_below stopped bound (event ∷ events) h = (at_event event h.0, stopped_below stopped bound events h.1) where
  at_event : (event : Event) → IsEndStopped stopped event events → IsEndBelow stopped bound event
  at_event (End session) h = inl h.1
  at_event event h = tt

-- so it is when the first session is to be ended
pub below_first : (stopped : List Bool) (st : Standing) (journal : List Event) (bound : ℕ) → AreEndsStopped stopped journal → AreEndsBelow bound stopped st journal
below_first stopped st journal bound h = record { in_place = stopped_in_place stopped st journal h; below = stopped_below stopped bound journal h }

-- what a journal gained leaves its ends so
pub below_gained : (old new : List Bool) (st : Standing) (before after : List Event) (bound : ℕ) → ((s : ℕ) → IsStopped old s → IsStopped new s) → HasGained new before after →
    AreEndsBelow bound old st before → AreEndsBelow bound new st after
below_gained old new st before after bound grew gained h = subst (λ (l : List Event). AreEndsBelow bound new st l) (sym gained.is) (record {
  in_place = in_place_append old new gained.more grew gained.lines bound
      (λ session less. all_weaker (IsOfStopped new) (IsEndPast new session) (past_of new session) gained.more gained.ends)
      st before h.below (stopped_in_place new (after_events st before) gained.more (ends_of new gained.more gained.lines gained.ends)) h.in_place;
  below = all_append (IsEndBelow new bound) before gained.more (all_weaker (IsEndBelow old bound) (IsEndBelow new bound) (below_later old new bound grew) before h.below)
      (all_weaker (IsOfStopped new) (IsEndBelow new bound) (below_of new bound) gained.more gained.ends);
})

-- and a greater number is as good
pub below_more : (stopped : List Bool) (st : Standing) (journal : List Event) (bound more : ℕ) → bound ≤ more → AreEndsBelow bound stopped st journal → AreEndsBelow more stopped st journal
below_more stopped st journal bound more within h = record { in_place = h.in_place; below = all_weaker (IsEndBelow stopped bound) (IsEndBelow stopped more) at_event journal h.below } where
  at_event : (event : Event) → IsEndBelow stopped bound event → IsEndBelow stopped more event
  at_event (End other) h = ⊎_elim (λ (s : IsStopped stopped other). inl s) (λ (l : other < bound). inr (omega (arith, l, within))) h
  at_event event h = tt

-- the next session is ended, while no call may go on
pub below_ended : (stopped : List Bool) (st : Standing) (before after : List Event) (session : ℕ) → after ≡ before ++ End session ∷ [] → first_ready (after_events st before) ≡ None →
    is_some (active_of session (after_events st before).actives) ≡ true → AreEndsBelow session stopped st before → AreEndsBelow (session + 1) stopped st after
below_ended stopped st before after session is calm under_way h = subst (λ (l : List Event). AreEndsBelow (session + 1) stopped st l) (sym is) (record {
  in_place = in_place_append stopped stopped (End session ∷ []) (λ s was. was) refl session (λ other less. (inr less, tt)) st before h.below
      ((refl, inr (record { under_way = under_way; calm = calm; lines = refl; rising = tt })), tt) h.in_place;
  below = all_append (IsEndBelow stopped (session + 1)) before (End session ∷ []) (below_more stopped st before session (session + 1) (omega arith) h).below (inr (omega arith), tt);
})
