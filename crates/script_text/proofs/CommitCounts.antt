-- Which transactions have changed something, and how many commits there are, along a journal.
use Rattle.std.proofs.Common.{◌≡◌, ◌<◌, ◌≤◌, ◌+◌, ◌||◌, ℕ, List, [], ◌∷◌, ◌++◌, length, take, drop, get_or, Bool, true, false, cond, refl, sym, ap, ◌∙◌, arith}
use Rattle.std.specs.Option.{is_some}
use Rattle.std.proofs.lemmas.List.{take_more, drop_more, drop_all}
use Rattle.store_model.specs.declared.event.Event.{Event}
use Rattle.script_text.specs.Report.{begins, changed_after, changed_then, commits_in, has_changed, is_commit, none_changed}

-- ---- changes

changed_snoc : (changed : ℕ → Bool) (events : List Event) (x : Event) → changed_after changed (events ++ x ∷ []) ≡ changed_then x (changed_after changed events)
changed_snoc changed [] x = refl
changed_snoc changed (e ∷ events) x = changed_snoc (changed_then e changed) events x

-- the events up to one, and that one
changed_more : (events : List Event) (left k : ℕ) (x : Event) (session : ℕ) → left ≡ k + 1 → k < length events → x ≡ get_or events k x →
    changed_after none_changed (take left events) session ≡ changed_then x (changed_after none_changed (take k events)) session
changed_more events left k x session one within is =
    ap (λ n. changed_after none_changed (take n events) session) one
    ∙ ap (λ (l : List Event). changed_after none_changed l session) (take_more events k x within ∙ ap (λ (e : Event). take k events ++ e ∷ []) (sym is))
    ∙ ap (λ (f : ℕ → Bool). f session) (changed_snoc none_changed (take k events) x)

-- an event that begins the session's transaction; one in which it changed something; and one that is neither
pub changed_begun : (events : List Event) (left k : ℕ) (x : Event) (session : ℕ) → left ≡ k + 1 → k < length events → x ≡ get_or events k x →
    changed_after none_changed (take left events) session ≡ changed_after none_changed events session → is_some (begins session x) ≡ true →
    false ≡ changed_after none_changed events session
changed_begun events left k x session one within is so_far begun =
    sym (ap (λ b. cond b false (has_changed session x || changed_after none_changed (take k events) session)) begun)
    ∙ sym (changed_more events left k x session one within is) ∙ so_far

pub changed_here : (events : List Event) (left k : ℕ) (x : Event) (session : ℕ) → left ≡ k + 1 → k < length events → x ≡ get_or events k x →
    changed_after none_changed (take left events) session ≡ changed_after none_changed events session → is_some (begins session x) ≡ false → has_changed session x ≡ true →
    true ≡ changed_after none_changed events session
changed_here events left k x session one within is so_far begun changed =
    sym (ap (λ b. cond b false (has_changed session x || changed_after none_changed (take k events) session)) begun
    ∙ ap (λ b. b || changed_after none_changed (take k events) session) changed)
    ∙ sym (changed_more events left k x session one within is) ∙ so_far

pub changed_before : (events : List Event) (left k : ℕ) (x : Event) (session : ℕ) → left ≡ k + 1 → k < length events → x ≡ get_or events k x →
    changed_after none_changed (take left events) session ≡ changed_after none_changed events session → is_some (begins session x) ≡ false → has_changed session x ≡ false →
    changed_after none_changed (take k events) session ≡ changed_after none_changed events session
changed_before events left k x session one within is so_far begun changed =
    sym (ap (λ b. cond b false (has_changed session x || changed_after none_changed (take k events) session)) begun
    ∙ ap (λ b. b || changed_after none_changed (take k events) session) changed)
    ∙ sym (changed_more events left k x session one within is) ∙ so_far

-- ---- commits

-- one more event is counted
pub commits_step : (events : List Event) (at : ℕ) (x : Event) (before now all : ℕ) → at < length events → x ≡ get_or events at x →
    before + commits_in (take at events) (drop at events) ≡ all → now ≡ before + cond (is_commit (take at events) x) 1 0 →
    now + commits_in (take (at + 1) events) (drop (at + 1) events) ≡ all
commits_step events at x before now all within is so_far counted =
    let front : take (at + 1) events ≡ take at events ++ x ∷ [] = take_more events at x within ∙ ap (λ (e : Event). take at events ++ e ∷ []) (sym is) in
    let rest : drop at events ≡ x ∷ drop (at + 1) events = drop_more events at x within ∙ ap (λ (e : Event). e ∷ drop (at + 1) events) (sym is) in
    let whole : commits_in (take at events) (drop at events) ≡ cond (is_commit (take at events) x) 1 0 + commits_in (take at events ++ x ∷ []) (drop (at + 1) events) =
    ap (commits_in (take at events)) rest in
    let later : commits_in (take (at + 1) events) (drop (at + 1) events) ≡ commits_in (take at events ++ x ∷ []) (drop (at + 1) events) =
    ap (λ (l : List Event). commits_in l (drop (at + 1) events)) front in
    sum before now (cond (is_commit (take at events) x) 1 0) _ _ _ all counted whole later so_far
  where
    sum : (before now one old new last all : ℕ) → now ≡ before + one → old ≡ one + last → new ≡ last → before + old ≡ all → now + new ≡ all
    sum before now one old new last all a b c d = omega (arith, a, b, c, d)

-- one event is one commit at most
pub counted_most : (before at now : ℕ) (is : Bool) → before ≤ at → now ≡ before + cond is 1 0 → now ≤ at + 1
counted_most before at now true within counted = omega (arith, within, counted)
counted_most before at now false within counted = omega (arith, within, counted)

-- all are counted
pub commits_all : (events : List Event) (at counted all : ℕ) → length events ≤ at → counted + commits_in (take at events) (drop at events) ≡ all → counted ≡ all
commits_all events at counted all past h = sum counted (commits_in (take at events) (drop at events)) all (ap (commits_in (take at events)) (drop_all at events past)) h
  where
    sum : (a b all : ℕ) → b ≡ 0 → a + b ≡ all → a ≡ all
    sum a b all is h = omega (arith, is, h)
