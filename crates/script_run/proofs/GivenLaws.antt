-- Which lines a journal has, line after line.
use Rattle.std.proofs.Common.{◌≡◌, ℕ, zero, suc, replicate, ◌<◌, ◌≤◌, ◌==◌, Bool, true, false, List, [], ◌∷◌, ◌++◌, length, set, get_or, refl, ap, sym, ◌∙◌, subst, ⊎_elim, append_assoc, get_or-set_same, get_or-set_other, arith}
use Rattle.std.proofs.lemmas.List.{append-nil}
use Rattle.std.proofs.lemmas.List.Elements.{filter-append}
use Rattle.std.proofs.lemmas.Grind.{flat_map-append}
use Rattle.std.specs.List.{list_all}
use Rattle.std.specs.Prelude.{filter}
use Rattle.std.proofs.lemmas.Bool.{and_parts, cases_Bool, cases_lt, cond-false, eqb-true, eqb-false, ne_eqb, true≢false}
use Rattle.store_model.specs.declared.call.Call.{Call}
use Rattle.store_model.specs.declared.event.Event.{Event}
use Rattle.store_model.specs.declared.plan.ScriptLine.{ScriptLine}
use Rattle.store_model.specs.declared.plan.ScriptLine.TheVariants.{Session, Maintenance}
use Rattle.store_model.specs.declared.step.Step.{Step}
use Rattle.je_answers.specs.Journal.{line_of, lines_of}
use Rattle.script_text.specs.Grammar.{is_line}
use Rattle.script_run.specs.Lines.{HasGiven, AreFirstLines, of_session, is_of_session, of_maintenance, is_of_maintenance}

pub lines_of-append : (before after : List Event) → lines_of (before ++ after) ≡ lines_of before ++ lines_of after
lines_of-append before after = flat_map-append line_of before after

-- the first of lines that the grammar has, and those behind it
pub first_line : (given : ScriptLine) (rest all : List ScriptLine) → all ≡ given ∷ rest → list_all is_line all ≡ true → (is_line given ≡ true) × (list_all is_line rest ≡ true)
first_line given rest all is h = and_parts (is_line given) (list_all is_line rest) (sym (ap (list_all is_line) is) ∙ h)

-- one line more of those that pass, and one that does not
passed-push : (q : ScriptLine → Bool) (lines : List ScriptLine) (given : ScriptLine) → filter q (lines ++ given ∷ []) ≡ filter q lines ++ filter q (given ∷ [])
passed-push q lines given = filter-append q lines (given ∷ [])

passed_same : (q : ScriptLine → Bool) (lines : List ScriptLine) (given : ScriptLine) → filter q (given ∷ []) ≡ [] → filter q (lines ++ given ∷ []) ≡ filter q lines
passed_same q lines given none = passed-push q lines given ∙ ap (λ (l : List ScriptLine). filter q lines ++ l) none ∙ append-nil (filter q lines)

-- a line of another session is none of this one's
pub of_other : (session other line : ℕ) (call : Call) → (other == session) ≡ false → of_session session (Session other line call ∷ []) ≡ []
of_other session other line call h = cond-false (other == session) (Session other line call ∷ []) [] h

-- the lines that were given are those of a script, as far as they pass; and so they are once both have a line more
same_more : (q : ScriptLine → Bool) (old new lines : List ScriptLine) (given : ScriptLine) → new ≡ old ++ given ∷ [] → filter q old ≡ filter q lines → filter q new ≡ filter q (lines ++ given ∷ [])
same_more q old new lines given is h = ap (filter q) is ∙ passed-push q old given ∙ ap (λ (l : List ScriptLine). l ++ filter q (given ∷ [])) h ∙ sym (passed-push q lines given)

-- a front stays one when a line more is given
front_more : (q : ScriptLine → Bool) (given : ScriptLine) (front lines : List ScriptLine) → AreFirstLines front (filter q lines) → AreFirstLines front (filter q (lines ++ given ∷ []))
front_more q given front lines h = (
  h.0 ++ filter q (given ∷ []),
  passed-push q lines given ∙ ap (λ (l : List ScriptLine). l ++ filter q (given ∷ [])) h.1 ∙ append_assoc front h.0 (filter q (given ∷ [])),
)

-- also where the front gets a line that does not pass
front_with : (q : ScriptLine → Bool) (old new lines : List ScriptLine) (given : ScriptLine) → new ≡ old ++ given ∷ [] → filter q (given ∷ []) ≡ [] → AreFirstLines (filter q old) (filter q lines) →
    AreFirstLines (filter q new) (filter q (lines ++ given ∷ []))
front_with q old new lines given is none h =
    subst (λ (l : List ScriptLine). AreFirstLines l (filter q (lines ++ given ∷ []))) (sym (ap (filter q) is ∙ passed_same q old given none)) (front_more q given (filter q old) lines h)

-- or where all were given
front_all : (q : ScriptLine → Bool) (front lines : List ScriptLine) → filter q front ≡ filter q lines → AreFirstLines (filter q front) (filter q lines)
front_all q front lines h = ([], sym h ∙ sym (append-nil (filter q front)))

pub eqb_sym : (a b : ℕ) → (b == a) ≡ false → (a == b) ≡ false
eqb_sym a b h = ne_eqb a b (λ e. eqb-false b a h (sym e))

-- sessions of which one was ended and the other was not are two
pub two_sessions : (stopped : List Bool) (a b : ℕ) → get_or stopped a false ≡ true → get_or stopped b false ≡ false → (a == b) ≡ false
two_sessions stopped a b was not_was =
    ⊎_elim
    (λ (e : (a == b) ≡ true). absurd (true≢false (sym was ∙ ap (λ n. get_or stopped n false) (eqb-true a b e) ∙ not_was)))
    (λ (e : (a == b) ≡ false). e)
    (cases_Bool (a == b))

-- a line of a session that was ended is not given
pub given_skipped : (journal : List Event) (memory : Bool) (stopped : List Bool) (steps_stopped : Bool) (lines : List ScriptLine) (session line : ℕ) (call : Call) → HasGiven journal memory stopped steps_stopped lines →
    get_or stopped session false ≡ true → HasGiven journal memory stopped steps_stopped (lines ++ Session session line call ∷ [])
given_skipped journal memory stopped steps_stopped lines session line call has was =
    let given : ScriptLine = Session session line call in
    record {
      all = λ m. absurd (true≢false (sym was ∙ has.none_stopped m session));
      none_stopped = has.none_stopped;
      each = λ s running. has.each s running ∙ sym (passed_same (is_of_session s) lines given (of_other s session line call (two_sessions stopped session s was running)));
      front = λ s. front_more (is_of_session s) given (of_session s (lines_of journal)) lines (has.front s);
      steps_going = has.steps_going;
      steps = λ going. has.steps going ∙ sym (passed_same is_of_maintenance lines given refl);
      front_steps = front_more is_of_maintenance given (of_maintenance (lines_of journal)) lines has.front_steps;
    }

-- a line that was given
pub given_line : (old new : List Event) (memory : Bool) (stopped : List Bool) (steps_stopped : Bool) (lines : List ScriptLine) (session line : ℕ) (call : Call) → HasGiven old memory stopped steps_stopped lines →
    get_or stopped session false ≡ false → lines_of new ≡ lines_of old ++ Session session line call ∷ [] → HasGiven new memory stopped steps_stopped (lines ++ Session session line call ∷ [])
given_line old new memory stopped steps_stopped lines session line call has running is =
    let given : ScriptLine = Session session line call in
    let each : (s : ℕ) → get_or stopped s false ≡ false → of_session s (lines_of new) ≡ of_session s (lines ++ given ∷ []) =
    λ s r. same_more (is_of_session s) (lines_of old) (lines_of new) lines given is (has.each s r) in
    record {
      all = λ m. is ∙ ap (λ (l : List ScriptLine). l ++ given ∷ []) (has.all m);
      none_stopped = has.none_stopped;
      each = each;
      front = λ s. ⊎_elim
          (λ (e : get_or stopped s false ≡ true).
          front_with (is_of_session s) (lines_of old) (lines_of new) lines given is (of_other s session line call (eqb_sym session s (two_sessions stopped s session e running))) (has.front s))
          (λ (e : get_or stopped s false ≡ false). front_all (is_of_session s) (lines_of new) (lines ++ given ∷ []) (each s e))
          (cases_Bool (get_or stopped s false));
      steps_going = has.steps_going;
      steps = λ going. same_more is_of_maintenance (lines_of old) (lines_of new) lines given is (has.steps going);
      front_steps = front_with is_of_maintenance (lines_of old) (lines_of new) lines given is refl has.front_steps;
    }

-- a step is not given once steps were stopped
pub step_skipped : (journal : List Event) (memory : Bool) (stopped : List Bool) (steps_stopped : Bool) (lines : List ScriptLine) (line : ℕ) (step : Step) → HasGiven journal memory stopped steps_stopped lines →
    steps_stopped ≡ true → HasGiven journal memory stopped steps_stopped (lines ++ Maintenance line step ∷ [])
step_skipped journal memory stopped steps_stopped lines line step has was =
    let given : ScriptLine = Maintenance line step in
    record {
      all = λ m. absurd (true≢false (sym was ∙ has.steps_going m));
      none_stopped = has.none_stopped;
      each = λ s running. has.each s running ∙ sym (passed_same (is_of_session s) lines given refl);
      front = λ s. front_more (is_of_session s) given (of_session s (lines_of journal)) lines (has.front s);
      steps_going = has.steps_going;
      steps = λ going. absurd (true≢false (sym was ∙ going));
      front_steps = front_more is_of_maintenance given (of_maintenance (lines_of journal)) lines has.front_steps;
    }

-- a step that was given
pub given_step : (old new : List Event) (memory : Bool) (stopped : List Bool) (steps_stopped : Bool) (lines : List ScriptLine) (line : ℕ) (step : Step) → HasGiven old memory stopped steps_stopped lines →
    steps_stopped ≡ false → lines_of new ≡ lines_of old ++ Maintenance line step ∷ [] → HasGiven new memory stopped steps_stopped (lines ++ Maintenance line step ∷ [])
given_step old new memory stopped steps_stopped lines line step has going is =
    let given : ScriptLine = Maintenance line step in
    let steps = same_more is_of_maintenance (lines_of old) (lines_of new) lines given is (has.steps going) in
    record {
      all = λ m. is ∙ ap (λ (l : List ScriptLine). l ++ given ∷ []) (has.all m);
      none_stopped = has.none_stopped;
      each = λ s running. same_more (is_of_session s) (lines_of old) (lines_of new) lines given is (has.each s running);
      front = λ s. front_with (is_of_session s) (lines_of old) (lines_of new) lines given is refl (has.front s);
      steps_going = has.steps_going;
      steps = λ g. steps;
      front_steps = front_all is_of_maintenance (lines_of new) (lines ++ given ∷ []) steps;
    }

-- events that no line gave
pub given_same : (old new : List Event) (memory : Bool) (stopped : List Bool) (steps_stopped : Bool) (lines : List ScriptLine) → lines_of new ≡ lines_of old → HasGiven old memory stopped steps_stopped lines →
    HasGiven new memory stopped steps_stopped lines
given_same old new memory stopped steps_stopped lines is has = record {
  all = λ m. is ∙ has.all m;
  none_stopped = has.none_stopped;
  each = λ s running. ap (of_session s) is ∙ has.each s running;
  front = λ s. subst (λ (l : List ScriptLine). AreFirstLines (of_session s l) (of_session s lines)) (sym is) (has.front s);
  steps_going = has.steps_going;
  steps = λ going. ap of_maintenance is ∙ has.steps going;
  front_steps = subst (λ (l : List ScriptLine). AreFirstLines (of_maintenance l) (of_maintenance lines)) (sym is) has.front_steps;
}

-- sessions are ended for want of memory, or steps stopped: what goes on was going on
pub given_fewer : (journal : List Event) (memory : Bool) (old new : List Bool) (steps_stopped steps_now : Bool) (lines : List ScriptLine) →
    ((session : ℕ) → get_or new session false ≡ false → get_or old session false ≡ false) → (steps_now ≡ false → steps_stopped ≡ false) →
    HasGiven journal memory old steps_stopped lines → HasGiven journal true new steps_now lines
given_fewer journal memory old new steps_stopped steps_now lines fewer steps_fewer has = record {
  all = λ m. absurd (true≢false m);
  none_stopped = λ m. absurd (true≢false m);
  each = λ s running. has.each s (fewer s running);
  front = has.front;
  steps_going = λ m. absurd (true≢false m);
  steps = λ going. has.steps (steps_fewer going);
  front_steps = has.front_steps;
}

-- one session is ended
pub set_fewer : (stopped : List Bool) (session s : ℕ) → session < length stopped → get_or (set stopped session true) s false ≡ false → get_or stopped s false ≡ false
set_fewer stopped session s within running =
    let now_stopped : get_or (set stopped session true) session false ≡ true = get_or-set_same stopped session true false within in
    let apart = two_sessions (set stopped session true) session s now_stopped running in
    sym (get_or-set_other stopped session s true false (λ e. eqb-false session s apart (sym e))) ∙ running

-- there is no flag past the last one
get_or_past : (stopped : List Bool) (s : ℕ) (other : Bool) → length stopped ≤ s → get_or stopped s other ≡ other
get_or_past [] s other past = refl
get_or_past (b ∷ stopped) zero other past = absurd (omega (arith, past))
get_or_past (b ∷ stopped) (suc s) other past = get_or_past stopped s other (omega (arith, past))

-- all are ended
pub all_fewer : (old new : List Bool) (s : ℕ) → length old ≡ 256 → ((t : ℕ) → t < 256 → get_or new t false ≡ true) → get_or new s false ≡ false → get_or old s false ≡ false
all_fewer old new s len ended running =
    ⊎_elim
    (λ (e : s < 256). absurd (true≢false (sym (ended s e) ∙ running)))
    (λ (e : 256 ≤ s). get_or_past old s false (omega (arith, len, e)))
    (cases_lt s 256)

-- no line was given yet
pub given_none : (stopped : List Bool) → ((session : ℕ) → get_or stopped session false ≡ false) → HasGiven [] false stopped false []
given_none stopped none = record { all = λ m. refl; none_stopped = λ m session. none session; each = λ s running. refl; front = λ s. ([], refl); steps_going = λ m. refl; steps = λ going. refl; front_steps = ([], refl) }

-- each of so many has one flag, and none is past them
pub all_in : (n i : ℕ) (b : Bool) → i < n → get_or (replicate n b) i false ≡ b
all_in zero i b within = absurd (omega (arith, within))
all_in (suc n) zero b within = refl
all_in (suc n) (suc i) b within = all_in n i b (omega (arith, within))

pub all_past : (n i : ℕ) (b : Bool) → n ≤ i → get_or (replicate n b) i false ≡ false
all_past zero i b past = refl
all_past (suc n) zero b past = absurd (omega (arith, past))
all_past (suc n) (suc i) b past = all_past n i b (omega (arith, past))

-- no session is stopped where no flag is set
pub none_in : (stopped : List Bool) (s : ℕ) → ((t : ℕ) → t < 256 → get_or stopped t false ≡ false) → ((t : ℕ) → 256 ≤ t → get_or stopped t false ≡ false) → get_or stopped s false ≡ false
none_in stopped s each past = ⊎_elim (λ (e : s < 256). each s e) (λ (e : 256 ≤ s). past s e) (cases_lt s 256)
