-- How a journal grows, and that behind a refused call it grows by no line.
use Rattle.std.proofs.Common.{◌≡◌, ℕ, ◌+◌, ◌≤◌, ◌==◌, ◌||◌, ◌⊎◌, inl, inr, ⊎_elim, Bool, true, false, cond, List, [], ◌∷◌, ◌++◌, length, take, drop, ◌-◌, refl, ap, sym, ◌∙◌, subst, append_assoc, arith}
use Rattle.std.specs.List.{list_any}
use Rattle.std.proofs.lemmas.Bool.{or_left, or_parts, or_right, true≢false}
use Rattle.std.proofs.lemmas.List.{append-nil, length-drop, take_all}
use Rattle.std.proofs.lemmas.List.Folds.{list_any-append}
use Rattle.store_model.specs.declared.event.Event.{Event}
use Rattle.store_model.specs.declared.event.Event.TheVariants.{Call as Called, Resume, End, WriteOut, SyncBegin, SyncEnd, Turn}
use Rattle.store_model.specs.declared.plan.ScriptLine.{ScriptLine}
use Rattle.store_model.specs.declared.plan.ScriptLine.TheVariants.{Maintenance}
use Rattle.je_answers.specs.Journal.{line_of, lines_of}
use Rattle.load_laws.specs.Given.{IsLastIfRefused, StopsAtRefusal, is_refused}
use Rattle.script_run.specs.declared.pause.Pause.{Pause}
use Rattle.script_run.specs.declared.pause.Pause.TheVariants.{Never, AtRefusal}
use Rattle.script_run.specs.declared.running.Running.{Running}
use Rattle.script_run.specs.Ends.{HasGained, HasGrown}
use Rattle.script_run.specs.Pauses.{HasLinesUntil, StopsAt, pauses}
use Rattle.script_run.specs.Running.{HasEnded, HasHalted, HasLines}
use Rattle.script_run.proofs.GivenLaws.{lines_of-append}

-- ---- lists

appended : {A : Type 0} (xs ys : List A) → length (xs ++ ys) ≡ length xs + length ys
appended [] ys = omega arith
appended (x ∷ xs) ys = (let rest = appended xs ys in omega (arith, rest))

none_left : {A : Type 0} (xs : List A) → length xs ≤ 0 → xs ≡ []
none_left [] few = refl
none_left (x ∷ xs) few = absurd (omega (arith, few))

fewer : (before after : List ScriptLine) (most : ℕ) → length (before ++ after) ≤ most → length after ≤ most
fewer before after most few = (let both = appended before after in omega (arith, both, few))

behind : {A : Type 0} (before after : List A) → drop (length before) (before ++ after) ≡ after
behind [] after = refl
behind (x ∷ before) after = behind before after

-- ---- how a journal grows

-- an event has one line at most
one_line : (event : Event) → length (line_of event ++ []) ≤ 1
one_line (Called session line call answer victims) = omega arith
one_line (Resume session line answer victims) = omega arith
one_line (End session) = omega arith
one_line (WriteOut answer) = omega arith
one_line (SyncBegin answer) = omega arith
one_line (SyncEnd answer) = omega arith
one_line (Turn line step answer) = by_number (line == 0) where
  by_number : (none : Bool) → length (cond none [] (Maintenance line step ∷ []) ++ []) ≤ 1
  by_number true = omega arith
  by_number false = omega arith

pub grown_same : (most : ℕ) (old new : List Event) → new ≡ old → HasGrown most old new
grown_same most old new is = record { more = []; is = is ∙ sym (append-nil old); lines = omega arith }

pub grown_one : (old new : List Event) (event : Event) → new ≡ old ++ event ∷ [] → HasGrown 1 old new
grown_one old new event is = record { more = event ∷ []; is = is; lines = one_line event }

pub grown_more : (most : ℕ) (old new more : List Event) → new ≡ old ++ more → lines_of more ≡ [] → HasGrown most old new
grown_more most old new more is none = record { more = more; is = is; lines = (let nothing : length (lines_of more) ≡ 0 = ap (λ (l : List ScriptLine). length l) none in omega (arith, nothing)) }

pub grown_gained : (stopped : List Bool) (old new : List Event) → HasGained stopped old new → HasGrown 0 old new
grown_gained stopped old new gained = grown_more 0 old new gained.more gained.is gained.lines

pub grown_then : (first next both : ℕ) (old mid new : List Event) → first + next ≡ both → HasGrown first old mid → HasGrown next mid new → HasGrown both old new
grown_then first next both old mid new sum before after = record {
  more = before.more ++ after.more;
  is = after.is ∙ ap (λ (l : List Event). l ++ after.more) before.is ∙ append_assoc old before.more after.more;
  lines = (
      let lines : length (lines_of (before.more ++ after.more)) ≡ length (lines_of before.more) + length (lines_of after.more) =
      ap (λ (l : List ScriptLine). length l) (lines_of-append before.more after.more) ∙ appended (lines_of before.more) (lines_of after.more) in
      let few = before.lines in
      let more = after.lines in
      omega (arith, lines, few, more, sum)
      );
}

-- from a journal with the same events
pub grown_from : (most : ℕ) (old mid new : List Event) → mid ≡ old → HasGrown most mid new → HasGrown most old new
grown_from most old mid new is grown = subst (λ (l : List Event). HasGrown most l new) is grown

-- ---- where a run pauses

-- of events that one line gave at most only the last call may be refused
stops_few : (kept : Bool) (events : List Event) → length (lines_of events) ≤ 1 → StopsAtRefusal kept events
stops_few kept [] few = tt
stops_few kept (event ∷ events) few = (at_event event few, stops_few kept events (fewer (line_of event) (lines_of events) 1 few)) where
  at_event : (e : Event) → length (line_of e ++ lines_of events) ≤ 1 → IsLastIfRefused kept e events
  at_event (Called session line call answer victims) one = λ refused. none_left (lines_of events) (omega (arith, one))
  at_event event one = tt

-- behind events of which none is a refused call
stops_behind : (kept : Bool) (old more : List Event) → list_any (pauses (AtRefusal kept)) old ≡ false → StopsAtRefusal kept more → StopsAtRefusal kept (old ++ more)
stops_behind kept [] more none stops = stops
stops_behind kept (event ∷ events) more none stops =
    let parts = or_parts (is_refused kept event) (list_any (pauses (AtRefusal kept)) events) none in
    (at_event event parts.0, stops_behind kept events more parts.1 stops)
  where
    at_event : (e : Event) → is_refused kept e ≡ false → IsLastIfRefused kept e (events ++ more)
    at_event (Called session line call answer victims) not_refused = λ refused. absurd (true≢false (sym refused ∙ not_refused))
    at_event e not_refused = tt

-- before events that no line gave
stops_before : (kept : Bool) (old more : List Event) → lines_of more ≡ [] → StopsAtRefusal kept old → StopsAtRefusal kept (old ++ more)
stops_before kept [] more none stops = stops_few kept more (let nothing : length (lines_of more) ≡ 0 = ap (λ (l : List ScriptLine). length l) none in omega (arith, nothing))
stops_before kept (event ∷ events) more none stops = (at_event event stops.0, stops_before kept events more none stops.1) where
  at_event : (e : Event) → IsLastIfRefused kept e events → IsLastIfRefused kept e (events ++ more)
  at_event (Called session line call answer victims) last = λ refused. lines_of-append events more ∙ ap (λ (l : List ScriptLine). lines_of events ++ l) none ∙ append-nil (lines_of events) ∙ last refused
  at_event e last = tt

-- a run that has not paused and is given a line more
pub stops_then : (pause : Pause) (old new : List Event) → HasGrown 1 old new → list_any (pauses pause) old ≡ false → StopsAt pause new
stops_then Never old new grown none = tt
stops_then (AtRefusal kept) old new grown none =
    subst (λ (l : List Event). StopsAtRefusal kept l) (sym grown.is) (stops_behind kept old grown.more none (stops_few kept grown.more grown.lines))

stops_longer : (pause : Pause) (old new : List Event) → HasGrown 0 old new → StopsAt pause old → StopsAt pause new
stops_longer Never old new grown stops = tt
stops_longer (AtRefusal kept) old new grown stops =
    subst (λ (l : List Event). StopsAtRefusal kept l) (sym grown.is) (stops_before kept old grown.more (none_left (lines_of grown.more) grown.lines) stops)

-- what a journal gained is behind what it had
pub gained_is : (most : ℕ) (old new : List Event) (grown : HasGrown most old new) → drop (length old) new ≡ grown.more
gained_is most old new grown = ap (drop (length old)) grown.is ∙ behind old grown.more

pub at_most : (most : ℕ) (old new : List Event) → HasGrown most old new → length old ≤ length new
at_most most old new grown = (let is : length new ≡ length old + length grown.more = ap (λ (l : List Event). length l) grown.is ∙ appended old grown.more in omega (arith, is))

-- the events behind so many, as a slice has them
pub behind_slice : (old new events : List Event) (before : ℕ) → before ≡ length old → events ≡ new → take (length events - before) (drop before events) ≡ drop (length old) new
behind_slice old new events before at is =
    take_all (length events - before) (drop before events) (let few = length-drop before events in omega (arith, few)) ∙ ap (λ n. drop n events) at ∙ ap (drop (length old)) is

any_parts : (pause : Pause) (most : ℕ) (old new : List Event) → HasGrown most old new → list_any (pauses pause) new ≡ (list_any (pauses pause) old || list_any (pauses pause) (drop (length old) new))
any_parts pause most old new grown =
    ap (list_any (pauses pause)) grown.is ∙ list_any-append (pauses pause) old grown.more ∙ ap (λ (l : List Event). list_any (pauses pause) old || list_any (pauses pause) l) (sym (gained_is most old new grown))

-- it paused among the events that it gained
pub paused_among : (pause : Pause) (most : ℕ) (old new : List Event) → HasGrown most old new → list_any (pauses pause) (drop (length old) new) ≡ true → list_any (pauses pause) new ≡ true
paused_among pause most old new grown paused =
    any_parts pause most old new grown ∙ or_right (list_any (pauses pause) old) (list_any (pauses pause) (drop (length old) new)) paused

-- or it has not paused
pub going_on : (pause : Pause) (most : ℕ) (old new : List Event) → HasGrown most old new → list_any (pauses pause) (drop (length old) new) ≡ false → list_any (pauses pause) old ≡ false →
    list_any (pauses pause) new ≡ false
going_on pause most old new grown gained before =
    any_parts pause most old new grown ∙ ap (λ (b : Bool). b || list_any (pauses pause) (drop (length old) new)) before ∙ gained

paused_longer : (pause : Pause) (most : ℕ) (old new : List Event) → HasGrown most old new → list_any (pauses pause) old ≡ true → list_any (pauses pause) new ≡ true
paused_longer pause most old new grown paused =
    any_parts pause most old new grown ∙ or_left (list_any (pauses pause) old) (list_any (pauses pause) (drop (length old) new)) paused

-- ---- the lines of a run that pauses

module _ {D : Type 0} where
  -- a session was ended, or the run was halted
  pub ended_grown : (session : ℕ) (x y : Running D) → HasEnded session x y ⊎ HasHalted x y → HasGrown 0 x.recorded.journal.items y.recorded.journal.items
  ended_grown session x y either = ⊎_elim
      (λ (end : HasEnded session x y). grown_more 0 x.recorded.journal.items y.recorded.journal.items (End session ∷ []) end.ended refl)
      (λ (halt : HasHalted x y). grown_same 0 x.recorded.journal.items y.recorded.journal.items halt.same)
      either

  -- it was given all its lines
  pub given_all : (pause : Pause) (x : Running D) (lines : List ScriptLine) → HasLines x lines → list_any (pauses pause) x.recorded.journal.items ≡ false → HasLinesUntil pause x lines
  given_all pause x lines given none = record {
    front = lines;
    rest = [];
    parts = sym (append-nil lines);
    given = given;
    stops = stops_then pause x.recorded.journal.items x.recorded.journal.items (grown_same 1 x.recorded.journal.items x.recorded.journal.items refl) none;
    paused = inl refl;
  }

  -- or it paused
  pub given_front : (pause : Pause) (x : Running D) (lines front : List ScriptLine) (given : ScriptLine) (rest : List ScriptLine) → lines ≡ front ++ given ∷ rest → HasLines x (front ++ given ∷ []) →
      StopsAt pause x.recorded.journal.items → list_any (pauses pause) x.recorded.journal.items ≡ true → HasLinesUntil pause x lines
  given_front pause x lines front given rest parts has stops paused = record {
    front = front ++ given ∷ [];
    rest = rest;
    parts = parts ∙ sym (append_assoc front (given ∷ []) rest);
    given = has;
    stops = stops;
    paused = inr paused;
  }

  -- events follow that no line gave
  pub until_longer : (pause : Pause) (x y : Running D) (lines : List ScriptLine) → HasGrown 0 x.recorded.journal.items y.recorded.journal.items → ((given : List ScriptLine) → HasLines x given → HasLines y given) →
      HasLinesUntil pause x lines → HasLinesUntil pause y lines
  until_longer pause x y lines grown given until = record {
    front = until.front;
    rest = until.rest;
    parts = until.parts;
    given = given until.front until.given;
    stops = stops_longer pause x.recorded.journal.items y.recorded.journal.items grown until.stops;
    paused = ⊎_elim (λ (none : until.rest ≡ []). inl none) (λ (paused : list_any (pauses pause) x.recorded.journal.items ≡ true). inr (paused_longer pause 0 x.recorded.journal.items y.recorded.journal.items grown paused)) until.paused;
  }

  -- a run that never pauses was given all its lines
  pub never_paused : (x : Running D) (lines : List ScriptLine) → HasLinesUntil Never x lines → HasLines x lines
  never_paused x lines until =
      let none : until.rest ≡ [] = ⊎_elim (λ (none : until.rest ≡ []). none) (λ (paused : list_any (pauses Never) x.recorded.journal.items ≡ true). absurd (true≢false (sym paused ∙ never x.recorded.journal.items))) until.paused in
      subst (λ (l : List ScriptLine). HasLines x l) (sym (until.parts ∙ ap (λ (l : List ScriptLine). until.front ++ l) none ∙ append-nil until.front)) until.given
    where
      never : (journal : List Event) → list_any (pauses Never) journal ≡ false
      never [] = refl
      never (event ∷ events) = never events
