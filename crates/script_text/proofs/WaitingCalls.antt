-- Which calls wait, along a journal.
use Rattle.std.proofs.Common.{◌≡◌, ◌<◌, ◌≤◌, ◌+◌, ◌-◌, ℕ, List, [], ◌∷◌, ◌++◌, ◌||◌, length, take, drop, get_or, Bool, true, false, cond, Option, Some, None, unwrap_or, refl, sym, ap, ◌∙◌, subst, append_assoc, length-take, arith}
use Rattle.std.specs.List.{list_any, flat_map}
use Rattle.std.proofs.lemmas.List.{take-append-drop, take-take, drop-append-le, take_rest, take_more, drop_more}
use Rattle.std.proofs.lemmas.List.Folds.{list_any-append}
use Rattle.std.proofs.lemmas.List.Concat.{flat_map-append}
use Rattle.store_model.specs.declared.durability.Durability.{Durability}
use Rattle.store_model.specs.declared.event.Event.{Event}
use Rattle.script_text.specs.declared.logged_call.LoggedCall.{LoggedCall}
use Rattle.script_text.specs.Report.{settles, begins, begun_then, begun_after, none_begun, logged_call, waiting_if, if_waiting, waiting_after, NoneWaits, settled_line, event_text, events_text}

true_from_nil : {X : Type 0} (b : Bool) (x : X) → cond b [] (x ∷ []) ≡ [] → b ≡ true
true_from_nil true x h = refl
true_from_nil false x h = cc

-- ---- how transactions were begun

begun_snoc : (begun : ℕ → Durability) (events : List Event) (x : Event) → begun_after begun (events ++ x ∷ []) ≡ begun_then x (begun_after begun events)
begun_snoc begun [] x = refl
begun_snoc begun (e ∷ events) x = begun_snoc (begun_then e begun) events x

begun_more : (begun : ℕ → Durability) (events : List Event) (k : ℕ) (x : Event) → k < length events → x ≡ get_or events k x →
    begun_after begun (take (k + 1) events) ≡ begun_then x (begun_after begun (take k events))
begun_more begun events k x within is =
    ap (begun_after begun) (take_more events k x within ∙ ap (λ (e : Event). take k events ++ e ∷ []) (sym is)) ∙ begun_snoc begun (take k events) x

-- an event that begins the session's transaction, and one that does not
pub begun_here : (events : List Event) (left k : ℕ) (x : Event) (session : ℕ) (durability : Durability) → left ≡ k + 1 → k < length events → x ≡ get_or events k x →
    begun_after none_begun (take left events) session ≡ begun_after none_begun events session → Some durability ≡ begins session x →
    durability ≡ begun_after none_begun events session
begun_here events left k x session durability one within is so_far found =
    ap (λ o. unwrap_or o (begun_after none_begun (take k events) session)) found
    ∙ sym (ap (λ (f : ℕ → Durability). f session) (begun_more none_begun events k x within is))
    ∙ ap (λ n. begun_after none_begun (take n events) session) (sym one) ∙ so_far

pub begun_before : (events : List Event) (left k : ℕ) (x : Event) (session : ℕ) → left ≡ k + 1 → k < length events → x ≡ get_or events k x →
    begun_after none_begun (take left events) session ≡ begun_after none_begun events session → None ≡ begins session x →
    begun_after none_begun (take k events) session ≡ begun_after none_begun events session
begun_before events left k x session one within is so_far found =
    ap (λ o. unwrap_or o (begun_after none_begun (take k events) session)) found
    ∙ sym (ap (λ (f : ℕ → Durability). f session) (begun_more none_begun events k x within is))
    ∙ ap (λ n. begun_after none_begun (take n events) session) (sym one) ∙ so_far

-- ---- calls that wait

-- a call that is settled stays so
stays_settled_if : (call : Option LoggedCall) (later more : List Event) → waiting_if call later ≡ [] → waiting_if call (later ++ more) ≡ []
stays_settled_if None later more h = refl
stays_settled_if (Some call) later more h =
    let settled = true_from_nil (list_any (settles call) later) call h in
    let longer : list_any (settles call) (later ++ more) ≡ true = list_any-append (settles call) later more ∙ ap (λ b. b || list_any (settles call) more) settled in
    ap (λ b. cond b [] (call ∷ [])) longer

-- one more event at the front's end, which does not wait
none_more : (begun : ℕ → Durability) (events : List Event) (event : Event) (later : List Event) → NoneWaits begun events (event ∷ later) → if_waiting (begun_after begun events) event later ≡ [] →
    NoneWaits begun (events ++ event ∷ []) later
none_more begun [] event later n h = (h, tt)
none_more begun (e ∷ events) event later n h =
    (subst (λ (l : List Event). if_waiting begun e l ≡ []) (sym (append_assoc events (event ∷ []) later)) n.0, none_more (begun_then e begun) events event later n.1 h)

-- more events at the end
none_longer : (begun : ℕ → Durability) (events later more : List Event) → NoneWaits begun events later → NoneWaits begun events (later ++ more)
none_longer begun [] later more n = tt
none_longer begun (e ∷ events) later more n =
    (subst (λ (l : List Event). if_waiting begun e l ≡ []) (append_assoc events later more) (stays_settled_if (logged_call begun e) (events ++ later) more n.0), none_longer (begun_then e begun) events later more n.1)

-- events of which none waits may be left out
none_front : (begun : ℕ → Durability) (events later : List Event) → NoneWaits begun events later → waiting_after begun (events ++ later) ≡ waiting_after (begun_after begun events) later
none_front begun [] later n = refl
none_front begun (e ∷ events) later n = ap (λ w. w ++ waiting_after (begun_then e begun) (events ++ later)) n.0 ∙ none_front (begun_then e begun) events later n.1

pub first_step : (seen : List Event) (i : ℕ) (x : Event) (later : List Event) → i < length seen → x ≡ get_or seen i x → later ≡ take (length seen - (i + 1)) (drop (i + 1) seen) →
    NoneWaits none_begun (take i seen) (drop i seen) → if_waiting (begun_after none_begun (take i seen)) x later ≡ [] → NoneWaits none_begun (take (i + 1) seen) (drop (i + 1) seen)
first_step seen i x later within is behind n settled =
    let start = begun_after none_begun (take i seen) in
    let front : take (i + 1) seen ≡ take i seen ++ x ∷ [] = take_more seen i x within ∙ ap (λ (e : Event). take i seen ++ e ∷ []) (sym is) in
    let rest : drop i seen ≡ x ∷ drop (i + 1) seen = drop_more seen i x within ∙ ap (λ (e : Event). e ∷ drop (i + 1) seen) (sym is) in
    let last : if_waiting start x (drop (i + 1) seen) ≡ [] = subst (λ (l : List Event). if_waiting start x l ≡ []) (behind ∙ take_rest seen (i + 1)) settled in
    let before : NoneWaits none_begun (take i seen) (x ∷ drop (i + 1) seen) = subst (λ (l : List Event). NoneWaits none_begun (take i seen) l) rest n in
    subst (λ (l : List Event). NoneWaits none_begun l (drop (i + 1) seen)) (sym front) (none_more none_begun (take i seen) x (drop (i + 1) seen) before last)

-- more events have come
pub seen_more : (events : List Event) (first at n : ℕ) → first ≤ at → at ≤ n → at ≤ length events →
    NoneWaits none_begun (take first events) (drop first (take at events)) → NoneWaits none_begun (take first events) (drop first (take n events))
seen_more events first at n order more within h =
    let split : take n events ≡ take at events ++ drop at (take n events) = sym (take-append-drop at (take n events)) ∙ ap (λ (l : List Event). l ++ drop at (take n events)) (take-take at n events more) in
    let cut : drop first (take n events) ≡ drop first (take at events) ++ drop at (take n events) =
    ap (drop first) split ∙ drop-append-le first (take at events) (drop at (take n events)) (omega (arith, length-take at events)) in
    subst (λ (l : List Event). NoneWaits none_begun (take first events) l) (sym cut) (none_longer none_begun (take first events) (drop first (take at events)) (drop at (take n events)) h)

-- the calls that wait are those of the events from `first` on
pub waiting_from : (seen : List Event) (first : ℕ) → NoneWaits none_begun (take first seen) (drop first seen) →
    waiting_after (begun_after none_begun (take first seen)) (drop first seen) ≡ waiting_after none_begun seen
waiting_from seen first h =
    sym (none_front none_begun (take first seen) (drop first seen) h) ∙ ap (waiting_after none_begun) (take-append-drop first seen)

-- ---- lines

settled_line-none : (event : Event) (call : LoggedCall) → ((c : LoggedCall) → settles c event ≡ false) → settled_line event call ≡ []
settled_line-none event call h = rw (h call) refl

-- an event that settles nothing prints no other line
pub nothing_settled : (event : Event) → ((c : LoggedCall) → settles c event ≡ false) → (calls : List LoggedCall) → flat_map (settled_line event) calls ≡ []
nothing_settled event h [] = refl
nothing_settled event h (call ∷ calls) = ap (λ l. l ++ flat_map (settled_line event) calls) (settled_line-none event call h) ∙ nothing_settled event h calls

-- the lines of one waiting call more
pub settled_step : (f : LoggedCall → List ℕ) (seen : List Event) (k : ℕ) (x : Event) (call : Option LoggedCall) (done all : List ℕ) → k < length seen → x ≡ get_or seen k x →
    call ≡ logged_call (begun_after none_begun (take k seen)) x →
    done ++ flat_map f (waiting_after (begun_after none_begun (take k seen)) (drop k seen)) ≡ all →
    (done ++ flat_map f (waiting_if call (take (length seen - (k + 1)) (drop (k + 1) seen)))) ++ flat_map f (waiting_after (begun_after none_begun (take (k + 1) seen)) (drop (k + 1) seen)) ≡ all
settled_step f seen k x call done all within is of h =
    let start = begun_after none_begun (take k seen) in
    let next = begun_after none_begun (take (k + 1) seen) in
    let after = drop (k + 1) seen in
    let rest : drop k seen ≡ x ∷ after = drop_more seen k x within ∙ ap (λ (e : Event). e ∷ after) (sym is) in
    let later = take_rest seen (k + 1) in
    ap (λ (l : List Event). (done ++ flat_map f (waiting_if call l)) ++ flat_map f (waiting_after next after)) later
    ∙ ap (λ (c : Option LoggedCall). (done ++ flat_map f (waiting_if c after)) ++ flat_map f (waiting_after next after)) of
    ∙ ap (λ (b : ℕ → Durability). (done ++ flat_map f (if_waiting start x after)) ++ flat_map f (waiting_after b after)) (begun_more none_begun seen k x within is)
    ∙ append_assoc done (flat_map f (if_waiting start x after)) (flat_map f (waiting_after (begun_then x start) after))
    ∙ ap (λ l. done ++ l) (sym (flat_map-append f (if_waiting start x after) (waiting_after (begun_then x start) after)))
    ∙ ap (λ (l : List Event). done ++ flat_map f (waiting_after start l)) (sym rest)
    ∙ h

-- the lines of one event more
pub events_step : (events : List Event) (at : ℕ) (x : Event) (done all : List ℕ) → at < length events → x ≡ get_or events at x →
    done ++ events_text (take at events) (drop at events) ≡ all →
    (done ++ event_text (take at events) x) ++ events_text (take (at + 1) events) (drop (at + 1) events) ≡ all
events_step events at x done all within is h =
    let front : take (at + 1) events ≡ take at events ++ x ∷ [] = take_more events at x within ∙ ap (λ (e : Event). take at events ++ e ∷ []) (sym is) in
    let rest : drop at events ≡ x ∷ drop (at + 1) events = drop_more events at x within ∙ ap (λ (e : Event). e ∷ drop (at + 1) events) (sym is) in
    ap (λ (l : List Event). (done ++ event_text (take at events) x) ++ events_text l (drop (at + 1) events)) front
    ∙ append_assoc done (event_text (take at events) x) (events_text (take at events ++ x ∷ []) (drop (at + 1) events))
    ∙ ap (λ (l : List Event). done ++ events_text (take at events) l) (sym rest)
    ∙ h
