-- The end of a run.
use Rattle.std.proofs.Common.{◌≡◌, ◌≢◌, ◌⊎◌, ℕ, ◌≤◌, nat_le, Bool, true, false, List, [], ◌∷◌, Option, Some, refl, ap, sym, ◌∙◌, subst, inl, inr, ⊎_elim, arith}
use Rattle.std.proofs.lemmas.Bool.{cases_Bool, cond-true, cond-false, le-leb, or_left, true≢false}
use Rattle.std.specs.List.{list_any}
use Rattle.je_order.specs.Counts.{HasRisen}
use Rattle.store_model.specs.declared.durability.Durability.{Durability}
use Rattle.store_model.specs.declared.durability.Durability.TheVariants.{Sync, WriteNoSync, NoSync}
use Rattle.store_model.specs.declared.event.Event.{Event}
use Rattle.store_model.specs.declared.event.Event.TheVariants.{Call as Called, Resume, WriteOut, SyncBegin, SyncEnd}
use Rattle.store_model.specs.declared.answer.Answer.{Answer}
use Rattle.store_model.specs.declared.answer.Answer.TheVariants.{Done as Synced, Logged, Durable, LogFull as LogFullAnswer, IdsEnded as IdsEndedAnswer, DiskFault}
use Rattle.store_model.specs.Journal.{acknowledges, answer_of, answers_some, is_disk_fault}
use Rattle.je_answers.specs.Standing.{Standing, active_of}
use Rattle.je_answers.specs.After.{after_event}
use Rattle.je_answers.specs.Journal.{has_answer, durability_of, AllAcknowledged, AreSyncedAtOnce, ComesLater, IsFollowed, IsSyncedAtOnce, IsSyncedBy, IsWrittenOutBy}
use Rattle.log_replay.specs.declared.corruption.Corruption.{Corruption}
use Rattle.je_program.specs.declared.cause.Cause.{Cause}
use Rattle.je_program.specs.declared.cause.Cause.TheVariants.{Done, Disk, Unreadable, WrongIndex, Memory, LogFull, IdsEnded}
use Rattle.engine.proofs.Counts.{rose_earlier, rose_later}
use Rattle.je_program.specs.Commands.{ends_soak}
use Rattle.je_program.specs.Program.{cause_closed, ClosesBy, ClosesRun, EndsBy, RunsIf}
use Rattle.script_run.specs.UnderWay.{IsCaused}
use Rattle.script_run.proofs.FaultLaws.{or_false}
use Rattle.je_program.specs.Run.{cause_of_journal, cause_of_room, cause_of_answer, is_run_through}

-- the cause that room gives is no disk fault
room_is_none : (events : List Event) → cause_of_room events ≢ Disk
room_is_none [] = λ e. cc
room_is_none (event ∷ events) = room_step (answer_of event) (cause_of_room events) (room_is_none events) where
  room_step : (answer : Option Answer) (later : Cause) → later ≢ Disk → cause_of_answer answer later ≢ Disk
  room_step (Some LogFullAnswer) later h = λ e. cc
  room_step (Some IdsEndedAnswer) later h = λ e. cc
  room_step answer later h = h

-- a journal ends in a disk fault exactly where it has one
pub fault_of_cause : (journal : List Event) → cause_of_journal journal ≡ Disk → has_answer is_disk_fault journal ≡ true
fault_of_cause journal h =
    ⊎_elim
    (λ (e : has_answer is_disk_fault journal ≡ true). e)
    (λ (e : has_answer is_disk_fault journal ≡ false).
    absurd (room_is_none journal (sym (cond-false (has_answer is_disk_fault journal) Disk (cause_of_room journal) e) ∙ h)))
    (cases_Bool (has_answer is_disk_fault journal))

pub no_fault_of_cause : (journal : List Event) → is_run_through (cause_of_journal journal) ≡ true → has_answer is_disk_fault journal ≡ false
no_fault_of_cause journal h =
    ⊎_elim
    (λ (e : has_answer is_disk_fault journal ≡ true).
    absurd (true≢false (sym h ∙ ap is_run_through (cond-true (has_answer is_disk_fault journal) Disk (cause_of_room journal) e))))
    (λ (e : has_answer is_disk_fault journal ≡ false). e)
    (cases_Bool (has_answer is_disk_fault journal))

-- without a disk fault, what follows a commit at once acknowledges it: a sync each, and a write-out one that asks for no sync
synced_by : (durability : Durability) (commit : ℕ) (later : List Event) → has_answer is_disk_fault later ≡ false → IsSyncedBy commit later →
    list_any (acknowledges durability commit) later ≡ true
synced_by durability commit later none h =
    ⊎_elim
    (λ (e : later ≡ SyncBegin Synced ∷ SyncEnd (Durable commit) ∷ h.0). ap (list_any (acknowledges durability commit)) e ∙ or_left (nat_le commit commit) (list_any (acknowledges durability commit) h.0) (le-leb commit commit (omega arith)))
    (λ f. ⊎_elim
    (λ (e : later ≡ SyncBegin Synced ∷ SyncEnd DiskFault ∷ h.0). absurd (true≢false (sym (ap (has_answer is_disk_fault) e) ∙ none)))
    (λ (e : later ≡ SyncBegin DiskFault ∷ h.0). absurd (true≢false (sym (ap (has_answer is_disk_fault) e) ∙ none)))
    f)
    h.1

written_by : (commit : ℕ) (later : List Event) → has_answer is_disk_fault later ≡ false → IsWrittenOutBy commit later → list_any (acknowledges WriteNoSync commit) later ≡ true
written_by commit later none h =
    ⊎_elim
    (λ (e : later ≡ WriteOut (Durable commit) ∷ h.0). ap (list_any (acknowledges WriteNoSync commit)) e ∙ or_left (nat_le commit commit) (list_any (acknowledges WriteNoSync commit) h.0) (le-leb commit commit (omega arith)))
    (λ (e : later ≡ WriteOut DiskFault ∷ h.0). absurd (true≢false (sym (ap (has_answer is_disk_fault) e) ∙ none)))
    h.1

acknowledged_by : (durability : Durability) (commit : ℕ) (later : List Event) → has_answer is_disk_fault later ≡ false → IsFollowed durability commit later →
    list_any (acknowledges durability commit) later ≡ true
acknowledged_by Sync commit later none h = synced_by Sync commit later none h
acknowledged_by WriteNoSync commit later none h = written_by commit later none h
acknowledged_by NoSync commit later none h = synced_by NoSync commit later none h

later_acknowledged : (st : Standing) (event : Event) (later : List Event) → has_answer is_disk_fault later ≡ false → IsSyncedAtOnce st event later → ComesLater st event later
later_acknowledged st (Called session line call (Logged commit) victims) later none h = acknowledged_by (durability_of (active_of session st.actives)) commit later none h
later_acknowledged st (Resume session line (Logged commit) victims) later none h = acknowledged_by (durability_of (active_of session st.actives)) commit later none h
later_acknowledged st event later none h = tt

pub all_acknowledged : (st : Standing) (journal : List Event) → has_answer is_disk_fault journal ≡ false → AreSyncedAtOnce st journal → AllAcknowledged st journal
all_acknowledged st [] none synced = tt
all_acknowledged st (event ∷ events) none synced =
    let parts = or_false (answers_some is_disk_fault event) (has_answer is_disk_fault events) none in
    (later_acknowledged st event events parts.1 synced.0, all_acknowledged (after_event st event) events parts.1 synced.1)

-- closing keeps what is known of faults
pub closes_run : (before mid after : ℕ) (journal : List Event) (memory_ended : Bool) (old new : Cause) → IsCaused before mid journal → ClosesBy mid after old new → mid ≤ after →
    (memory_ended ≡ true → old ≡ Memory) → (memory_ended ≡ false → old ≡ cause_of_journal journal) → ClosesRun before after journal new
closes_run before mid after journal memory_ended old new caused closes later memory ends = record {
  never_falls = (let first : before ≤ mid = caused.never_falls in omega arith);
  fault = λ h. rose_later before mid after (caused.fault h) later;
  failed = λ e. ⊎_elim
      (λ (same : new ≡ old). rose_later before mid after (caused.fault (fault_of_cause journal (sym (ends (not_memory memory_ended old (sym same ∙ e) memory)) ∙ sym same ∙ e))) later)
      (λ (c : (new ≡ Disk) × HasRisen mid after × (old ≢ Memory)). rose_earlier before mid after caused.never_falls c.1 later)
      closes;
} where
  not_memory : (memory_ended : Bool) (old : Cause) → old ≡ Disk → (memory_ended ≡ true → old ≡ Memory) → memory_ended ≡ false
  not_memory true old is memory = (let e : Disk ≡ Memory = sym is ∙ memory refl in cc)
  not_memory false old is memory = refl

-- where a script was run through, its journal has no disk fault
pub done_without_fault : (mid after : ℕ) (journal : List Event) (memory_ended : Bool) (old new : Cause) → ClosesBy mid after old new →
    (memory_ended ≡ true → old ≡ Memory) → (memory_ended ≡ false → old ≡ cause_of_journal journal) → is_run_through new ≡ true → has_answer is_disk_fault journal ≡ false
done_without_fault mid after journal memory_ended old new closes memory ends done =
    ⊎_elim
    (λ (same : new ≡ old).
    no_fault_of_cause journal (ap is_run_through (sym (ends (not_memory memory_ended old (ap is_run_through (sym same) ∙ done) memory))) ∙ ap is_run_through (sym same) ∙ done))
    (λ (c : (new ≡ Disk) × HasRisen mid after × (old ≢ Memory)). absurd (true≢false (sym done ∙ ap is_run_through c.0)))
    closes where
      not_memory : (memory_ended : Bool) (old : Cause) → is_run_through old ≡ true → (memory_ended ≡ true → old ≡ Memory) → memory_ended ≡ false
      not_memory true old is memory = absurd (true≢false (sym is ∙ ap is_run_through (memory refl)))
      not_memory false old is memory = refl

-- a run ends so, and not otherwise
abbrev pub IsRanCause : Cause → Type 0
IsRanCause Done = Unit {0}
IsRanCause Disk = Unit {0}
IsRanCause Memory = Unit {0}
IsRanCause LogFull = Unit {0}
IsRanCause IdsEnded = Unit {0}
IsRanCause cause = ⊥

room_ran : (events : List Event) → IsRanCause (cause_of_room events)
room_ran [] = tt
room_ran (event ∷ events) = room_step (answer_of event) (cause_of_room events) (room_ran events) where
  room_step : (answer : Option Answer) (later : Cause) → IsRanCause later → IsRanCause (cause_of_answer answer later)
  room_step (Some LogFullAnswer) later h = tt
  room_step (Some IdsEndedAnswer) later h = tt
  room_step answer later h = h

journal_ran : (journal : List Event) → IsRanCause (cause_of_journal journal)
journal_ran journal =
    ⊎_elim
    (λ (e : has_answer is_disk_fault journal ≡ true).
    subst (λ (c : Cause). IsRanCause c) (sym (cond-true (has_answer is_disk_fault journal) Disk (cause_of_room journal) e)) tt)
    (λ (e : has_answer is_disk_fault journal ≡ false).
    subst (λ (c : Cause). IsRanCause c) (sym (cond-false (has_answer is_disk_fault journal) Disk (cause_of_room journal) e)) (room_ran journal))
    (cases_Bool (has_answer is_disk_fault journal))

pub ran_cause : (journal : List Event) (memory_ended : Bool) (cause : Cause) → (memory_ended ≡ true → cause ≡ Memory) → (memory_ended ≡ false → EndsBy journal cause) → IsRanCause cause
ran_cause journal true cause memory ends = subst (λ (c : Cause). IsRanCause c) (sym (memory refl)) tt
ran_cause journal false cause memory ends =
    ⊎_elim
    (λ (e : cause ≡ cause_of_journal journal). subst (λ (c : Cause). IsRanCause c) (sym e) (journal_ran journal))
    (λ (e : cause ≡ Disk). subst (λ (c : Cause). IsRanCause c) (sym e) tt)
    (ends refl)

pub runs_if : (cause : Cause) (opened : Bool) → IsRanCause cause → opened ≡ true → RunsIf cause opened
runs_if Done opened ran is = is
runs_if Disk opened ran is = tt
runs_if Memory opened ran is = tt
runs_if LogFull opened ran is = is
runs_if IdsEnded opened ran is = tt
runs_if cause opened ran is = absurd ran

-- such a cause is none of arguments or input, and files were there
pub ran_ends : (cause : Cause) → IsRanCause cause → ends_soak cause ≡ true
ran_ends Done ran = refl
ran_ends Disk ran = refl
ran_ends Memory ran = refl
ran_ends LogFull ran = refl
ran_ends IdsEnded ran = refl
ran_ends cause ran = absurd ran

pub ran_not_unreadable : (cause : Cause) (corruption : Corruption) → IsRanCause cause → cause ≡ Unreadable corruption → ⊥
ran_not_unreadable cause corruption ran is = subst (λ (c : Cause). IsRanCause c) is ran

pub ran_not_wrong : (cause : Cause) (name : List ℕ) → IsRanCause cause → cause ≡ WrongIndex name → ⊥
ran_not_wrong cause name ran is = subst (λ (c : Cause). IsRanCause c) is ran

-- with memory for all lines a run ends by its journal
pub ends_by : (journal : List Event) (memory_ended : Bool) (cause : Cause) → (memory_ended ≡ true → cause ≡ Memory) → (memory_ended ≡ false → EndsBy journal cause) →
    cause ≢ Memory → EndsBy journal cause
ends_by journal true cause memory ends other = absurd (other (memory refl))
ends_by journal false cause memory ends other = ends refl

-- where a script was run through, each commit is acknowledged
pub done_acknowledged : (st : Standing) (journal : List Event) (cause : Cause) → is_run_through cause ≡ true → EndsBy journal cause → AreSyncedAtOnce st journal → AllAcknowledged st journal
done_acknowledged st journal cause done ends settled =
    ⊎_elim
    (λ (e : cause ≡ cause_of_journal journal). all_acknowledged st journal (no_fault_of_cause journal (ap is_run_through (sym e) ∙ done)) settled)
    (λ (e : cause ≡ Disk). absurd (true≢false (sym done ∙ ap is_run_through e)))
    ends

pub done_is_no_memory : (cause : Cause) → is_run_through cause ≡ true → cause ≢ Memory
done_is_no_memory cause done = λ e. absurd (true≢false (sym done ∙ ap is_run_through e))

-- where memory did not run out, no call found none
pub memory_left : (memory_ended : Bool) (cause : Cause) → (memory_ended ≡ true → cause ≡ Memory) → cause ≢ Memory → memory_ended ≡ false
memory_left true cause memory other = absurd (other (memory refl))
memory_left false cause memory other = refl

-- ---- closing

-- the cause once a run is closed: the disk failed now, and its count rose, or the cause is as it was
pub closes_by : (before after : ℕ) (failed : Bool) (cause : Cause) → (failed ≡ true → HasRisen before after) → ClosesBy before after cause (cause_closed failed cause)
closes_by before after false cause rose = inl refl
closes_by before after true Memory rose = inl refl
closes_by before after true cause rose = inr (refl, rose refl, λ e. cc)

-- a run that ends for want of memory does so whatever closing met
pub closed_memory : (failed : Bool) (old new : Cause) → new ≡ cause_closed failed old → old ≡ Memory → new ≡ Memory
closed_memory false old new closed memory = closed ∙ memory
closed_memory true old new closed memory = closed ∙ ap (λ (c : Cause). cause_closed true c) memory

-- a run that its journal ends does so, or closing met a fault of the disk
pub closed_ends : (journal : List Event) (failed : Bool) (old new : Cause) → new ≡ cause_closed failed old → old ≡ cause_of_journal journal → EndsBy journal new
closed_ends journal false old new closed by = inl (closed ∙ by)
closed_ends journal true Memory new closed by = inl (closed ∙ by)
closed_ends journal true old new closed by = inr closed

-- where a script was run through, the disk did not fail
pub closed_well : (failed : Bool) (cause : Cause) → is_run_through (cause_closed failed cause) ≡ true → failed ≡ false
closed_well false cause done = refl
closed_well true Memory done = absurd (true≢false (sym done))
closed_well true cause done = absurd (true≢false (sym done))

-- where a script was run through, or no fault was counted, the journal has no disk fault, and closing met none
pub ended_well : (before mid after : ℕ) (journal : List Event) (memory_ended : Bool) (old new : Cause) (failed : Bool) → IsCaused before mid journal → mid ≤ after → (failed ≡ true → HasRisen mid after) →
    (memory_ended ≡ true → old ≡ Memory) → (memory_ended ≡ false → old ≡ cause_of_journal journal) → new ≡ cause_closed failed old → (is_run_through new ≡ true) ⊎ (HasRisen before after → ⊥) →
    (has_answer is_disk_fault journal ≡ false) × (failed ≡ false)
ended_well before mid after journal memory_ended old new failed caused later rose memory ends closed (inl done) = (
  done_without_fault mid after journal memory_ended old new (subst (λ (why : Cause). ClosesBy mid after old why) (sym closed) (closes_by mid after failed old rose)) memory ends done,
  closed_well failed old (ap is_run_through (sym closed) ∙ done),
)
ended_well before mid after journal memory_ended old new failed caused later rose memory ends closed (inr quiet) = (
  by_answer (cases_Bool (has_answer is_disk_fault journal)),
  by_failed (cases_Bool failed),
)
  where
    by_answer : (has_answer is_disk_fault journal ≡ true) ⊎ (has_answer is_disk_fault journal ≡ false) → has_answer is_disk_fault journal ≡ false
    by_answer (inl fault) = absurd (quiet (rose_later before mid after (caused.fault fault) later))
    by_answer (inr none) = none

    by_failed : (failed ≡ true) ⊎ (failed ≡ false) → failed ≡ false
    by_failed (inl failing) = absurd (quiet (rose_earlier before mid after caused.never_falls (rose failing) later))
    by_failed (inr none) = none

-- the same since an earlier count
pub well_since : (before mid after : ℕ) (cause : Cause) → before ≤ mid → mid ≤ after → (is_run_through cause ≡ true) ⊎ (HasRisen before after → ⊥) → (is_run_through cause ≡ true) ⊎ (HasRisen mid after → ⊥)
well_since before mid after cause earlier later (inl done) = inl done
well_since before mid after cause earlier later (inr quiet) = inr (λ rose. quiet (rose_earlier before mid after earlier rose later))
