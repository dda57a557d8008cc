-- One event more at a journal's end.
use Rattle.std.proofs.Common.{◌≡◌, ℕ, ◌≤◌, ◌<◌, ◌||◌, Bool, true, false, List, [], ◌∷◌, ◌++◌, Option, Some, None, refl, ap, sym, ◌∙◌, subst, ⊎_elim, inl, inr, append_assoc, arith}
use Rattle.std.proofs.lemmas.List.{append-nil}
use Rattle.std.proofs.lemmas.List.Folds.{list_any-append}
use Rattle.je_lsn.specs.Naming.{last_file}
use Rattle.je_order.specs.Counts.{HasRisen}
use Rattle.store_model.specs.declared.change.Change.{Change}
use Rattle.store_model.specs.declared.event.Event.{Event}
use Rattle.store_model.specs.declared.event.Event.TheVariants.{Call as Called, Resume, End, WriteOut, SyncBegin, SyncEnd, Turn}
use Rattle.store_model.specs.declared.answer.Answer.{Answer}
use Rattle.store_model.specs.declared.answer.Answer.TheVariants.{LogFull, IdsEnded}
use Rattle.store_model.specs.Journal.{answers_some, is_disk_fault}
use Rattle.je_answers.specs.Standing.{Standing}
use Rattle.je_answers.specs.After.{AnswersAsModel, after_event, after_events}
use Rattle.je_answers.specs.Journal.{AreResumedInOrder, AreSyncedAtOnce, IsInOrder, IsSyncedAtOnce, has_answer}
use Rattle.engine.specs.Limits.{IsBoundedBy, IsWithin, Reach, last_number, reach_after}
use Rattle.engine.proofs.Counts.{rose_earlier, rose_later}
use Rattle.environment.specs.Limits.{AreBounded, IsBoundedAt, IsBoundedUnless, is_idle_step, reach_behind, written_by}
use Rattle.script_run.specs.Events.{AreSyncedBefore, reach_by}
use Rattle.script_run.specs.Maintenance.{AreStepsInPlace, IsStepInPlace, last_after}
use Rattle.script_run.specs.UnderWay.{IsCaused}

-- ---- reach

-- what reaches less far may reach less far after changes
after_within : (reach other : Reach) (changes : List Change) → IsWithin reach other → IsWithin (reach_after reach changes) (reach_after other changes)
after_within reach other changes within = record {
  file = (let h : reach.file ≤ other.file = within.file in omega (arith, h));
  node = (let h : reach.node ≤ other.node = within.node in omega (arith, h));
}

-- and behind an event
behind_within : (reach other : Reach) (st : Standing) (event : Event) → IsWithin reach other → IsWithin (reach_behind reach st event) (reach_behind other st event)
behind_within reach other st (Turn line step answer) within = record {
  file = (let h : reach.file ≤ other.file = within.file in omega (arith, h));
  node = within.node;
}
behind_within reach other st (Called session line call answer victims) within = after_within reach other (written_by st (Called session line call answer victims)) within
behind_within reach other st (Resume session line answer victims) within = after_within reach other (written_by st (Resume session line answer victims)) within
behind_within reach other st (End session) within = after_within reach other [] within
behind_within reach other st (WriteOut answer) within = after_within reach other [] within
behind_within reach other st (SyncBegin answer) within = after_within reach other [] within
behind_within reach other st (SyncEnd answer) within = after_within reach other [] within

pub within_then : (a b c : Reach) → IsWithin a b → IsWithin b c → IsWithin a c
within_then a b c first next = record {
  file = (let h : a.file ≤ b.file = first.file in let k : b.file ≤ c.file = next.file in omega (arith, h, k));
  node = (let h : a.node ≤ b.node = first.node in let k : b.node ≤ c.node = next.node in omega (arith, h, k));
}

pub within_itself : (a : Reach) → IsWithin a a
within_itself a = record { file = omega arith; node = omega arith }

-- nothing is reached without a change
pub within_none : (old new : Reach) → IsWithin new old → IsWithin new (reach_after old [])
within_none old new within = within_then new old (reach_after old []) within (record { file = omega arith; node = omega arith })

pub reach_push : (reach : Reach) (st : Standing) (journal : List Event) (event : Event) →
    reach_by reach st (journal ++ event ∷ []) ≡ reach_behind (reach_by reach st journal) (after_events st journal) event
reach_push reach st [] event = refl
reach_push reach st (e ∷ events) event = reach_push (reach_behind reach st e) (after_event st e) events event

-- what was near stays near
pub near_push : (first old new : Reach) (st : Standing) (journal : List Event) (event : Event) → IsWithin old (reach_by first st journal) →
    IsWithin new (reach_behind old (after_events st journal) event) → IsWithin new (reach_by first st (journal ++ event ∷ []))
near_push first old new st journal event near grows =
    let now = after_events st journal in
    subst (λ (r : Reach). IsWithin new r) (sym (reach_push first st journal event))
    (within_then new (reach_behind old now event) (reach_behind (reach_by first st journal) now event) grows (behind_within old (reach_by first st journal) now event near))

-- ---- limits

-- a limit that comes where a log reaches so far comes also where it reaches farther
bounded_later : (early late : Reach) (limit : Option Answer) → IsWithin early late → IsBoundedBy early limit → IsBoundedBy late limit
bounded_later early late limit within bounded =
    ⊎_elim
    (λ (none : limit ≡ None). inl none)
    (λ more. inr (⊎_elim
    (λ (full : (limit ≡ Some LogFull) × (last_file < early.file)). inl (full.0, below last_file early.file late.file full.1 within.file))
    (λ (ended : (limit ≡ Some IdsEnded) × (last_number < early.node)). inr (ended.0, below last_number early.node late.node ended.1 within.node))
    more))
    bounded
  where
    below : (last near far : ℕ) → last < near → near ≤ far → last < far
    below last near far past later = omega (arith, past, later)

-- the same of an event's
at_later : (idle : Bool) (early late : Reach) (limit : Option Answer) → IsWithin early late → IsBoundedUnless idle early limit → IsBoundedUnless idle late limit
at_later true early late limit within none = none
at_later false early late limit within bounded = bounded_later early late limit within bounded

-- the limits of a journal come also where a log reaches farther
pub bounded_far : (early late : Reach) (st : Standing) (events : List Event) (limits : List (Option Answer)) → IsWithin early late → AreBounded early st events limits → AreBounded late st events limits
bounded_far early late st [] [] within b = tt
bounded_far early late st [] (limit ∷ limits) within b = tt
bounded_far early late st (event ∷ events) [] within b = tt
bounded_far early late st (event ∷ events) (limit ∷ limits) within b =
    let behind = behind_within early late st event within in (
      at_later (is_idle_step st event) (reach_behind early st event) (reach_behind late st event) limit behind b.0,
      bounded_far (reach_behind early st event) (reach_behind late st event) (after_event st event) events limits behind b.1,
    )

-- the limits of a journal, and that of one event more
bounded_more : (first : Reach) (st : Standing) (limits : List (Option Answer)) (journal : List Event) (limit : Option Answer) (event : Event) → AnswersAsModel st limits journal → AreBounded first st journal limits →
    IsBoundedAt (reach_by first st journal) (after_events st journal) event limit → AreBounded first st (journal ++ event ∷ []) (limits ++ limit ∷ [])
bounded_more first st [] [] limit event answers b o = (o, tt)
bounded_more first st (l ∷ limits) (e ∷ events) limit event answers b o =
    (b.0, bounded_more (reach_behind first st e) (after_event st e) limits events limit event answers.1 b.1 o)
bounded_more first st [] (e ∷ events) limit event answers b o = absurd answers
bounded_more first st (l ∷ limits) [] limit event answers b o = absurd answers

pub bounded_push : (first near : Reach) (st : Standing) (limits : List (Option Answer)) (journal : List Event) (limit : Option Answer) (event : Event) → AnswersAsModel st limits journal → AreBounded first st journal limits →
    IsWithin near (reach_by first st journal) → IsBoundedAt near (after_events st journal) event limit → AreBounded first st (journal ++ event ∷ []) (limits ++ limit ∷ [])
bounded_push first near st limits journal limit event answers b within o =
    let now = after_events st journal in
    let behind = behind_within near (reach_by first st journal) now event within in
    bounded_more first st limits journal limit event answers b (at_later (is_idle_step now event) (reach_behind near now event) (reach_behind (reach_by first st journal) now event) limit behind o)

-- ---- order

pub ordered_push : (st : Standing) (journal : List Event) (event : Event) → AreResumedInOrder st journal → IsInOrder (after_events st journal) event → AreResumedInOrder st (journal ++ event ∷ [])
ordered_push st [] event ordered o = (o, tt)
ordered_push st (e ∷ events) event ordered o = (ordered.0, ordered_push (after_event st e) events event ordered.1 o)

-- ---- steps of maintenance

pub steps_push : (last : Option Event) (st : Standing) (journal : List Event) (event : Event) → AreStepsInPlace last st journal → IsStepInPlace (last_after last journal) (after_events st journal) event →
    AreStepsInPlace last st (journal ++ event ∷ [])
steps_push last st [] event steps s = (s, tt)
steps_push last st (e ∷ events) event steps s = (steps.0, steps_push (Some e) (after_event st e) events event steps.1 s)

pub last_push : (last : Option Event) (journal : List Event) (event : Event) → last_after last (journal ++ event ∷ []) ≡ Some event
last_push last [] event = refl
last_push last (e ∷ events) event = last_push (Some e) events event

-- ---- what follows commits

pub synced_push : (st : Standing) (journal : List Event) (event : Event) (later : List Event) → AreSyncedBefore st journal (event ∷ later) → IsSyncedAtOnce (after_events st journal) event later →
    AreSyncedBefore st (journal ++ event ∷ []) later
synced_push st [] event later synced s = (s, tt)
synced_push st (e ∷ events) event later synced s = (
  subst (λ (l : List Event). IsSyncedAtOnce st e l) (sym (append_assoc events (event ∷ []) later)) synced.0,
  synced_push (after_event st e) events event later synced.1 s,
)

pub synced_all : (st : Standing) (journal : List Event) → AreSyncedBefore st journal [] → AreSyncedAtOnce st journal
synced_all st [] synced = tt
synced_all st (e ∷ events) synced = (subst (λ (l : List Event). IsSyncedAtOnce st e l) (append-nil events) synced.0, synced_all (after_event st e) events synced.1)

-- ---- faults

has_answer-push : (test : Answer → Bool) (journal : List Event) (event : Event) → has_answer test (journal ++ event ∷ []) ≡ (has_answer test journal || answers_some test event)
has_answer-push test journal event = list_any-append (answers_some test) journal (event ∷ []) ∙ ap (λ b. has_answer test journal || b) (or_none (answers_some test event))
  where
    or_none : (b : Bool) → (b || false) ≡ b
    or_none true = refl
    or_none false = refl

-- a count rose early or late
rose_by_either : (before start after : ℕ) → before ≤ start → start ≤ after → (a b : Bool) → (a ≡ true → HasRisen before start) → (b ≡ true → HasRisen start after) → (a || b) ≡ true → HasRisen before after
rose_by_either before start after first steps true b old last h = rose_later before start after (old refl) steps
rose_by_either before start after first steps false true old last h = rose_earlier before start after first (last refl) steps
rose_by_either before start after first steps false false old last h = cc

pub caused_push : (before start after : ℕ) (journal : List Event) (event : Event) → IsCaused before start journal → start ≤ after → (answers_some is_disk_fault event ≡ true → HasRisen start after) →
    IsCaused before after (journal ++ event ∷ [])
caused_push before start after journal event caused steps rose = record {
  never_falls = (let first : before ≤ start = caused.never_falls in omega (arith, first, steps));
  fault = λ h. rose_by_either before start after caused.never_falls steps (has_answer is_disk_fault journal) (answers_some is_disk_fault event) caused.fault rose
      (sym (has_answer-push is_disk_fault journal event) ∙ h);
}

pub caused_later : (before start after : ℕ) (journal : List Event) → IsCaused before start journal → start ≤ after → IsCaused before after journal
caused_later before start after journal caused steps = record {
  never_falls = (let first : before ≤ start = caused.never_falls in omega (arith, first, steps));
  fault = λ h. rose_later before start after (caused.fault h) steps;
}

pub caused_none : (faults : ℕ) → IsCaused faults faults []
caused_none faults = record { never_falls = omega arith; fault = λ h. cc }

-- what is known of faults since a moment is known since an earlier one
pub caused_earlier : (before mid after : ℕ) (journal : List Event) → before ≤ mid → IsCaused mid after journal → IsCaused before after journal
caused_earlier before mid after journal earlier caused = record {
  never_falls = (let later : mid ≤ after = caused.never_falls in omega arith);
  fault = λ h. rose_earlier before mid after earlier (caused.fault h) caused.never_falls;
}
