-- How a program ends that has its input.
use Rattle.std.specs.Map.{lookup}
use Rattle.std.proofs.Common.{◌≡◌, ◌≢◌, ◌==◌, ℕ, ◌<◌, ◌≤◌, ◌⊎◌, Bool, true, false, cond, List, [], ◌∷◌, Option, None, Some, IfSome, Result, Ok, Err, length, refl, ap, sym, ◌∙◌, subst, inl, inr, ⊎_elim, arith}
use Rattle.std.proofs.lemmas.Bool.{cases_Bool, cond-true, cond-false, eq-eqb}
use Rattle.je_order.specs.Counts.{HasRisen, HasRisen as Failing}
use Rattle.je_disk.specs.States.{Files}
use Rattle.store_model.specs.declared.event.Event.{Event}
use Rattle.store_model.specs.declared.plan.RunPlan.{RunPlan}
use Rattle.store_model.specs.Journal.{is_disk_fault}
use Rattle.je_answers.specs.Journal.{has_answer}
use Rattle.log_file.proofs.FilesLaws.{are_one_list}
use Rattle.log_replay.specs.declared.corruption.Corruption.{Corruption}
use Rattle.store_model.specs.declared.store.Database.{Database}
use Rattle.log_meaning.specs.Checkpoint.{no_checkpoint}
use Rattle.log_meaning.specs.Meaning.{Meaning, meaning_of}
use Rattle.log_meaning.specs.Reading.{reading_of}
use Rattle.script_text.specs.Grammar.{plan_of}
use Rattle.dump_text.specs.declared.dump.Dump.{Dump as DumpRead}
use Rattle.dump_text.specs.Grammar.{dump_of}
use Rattle.store_model.specs.declared.store.Store.{Store}
use Rattle.store_model.specs.Store.{database_of}
use Rattle.je_program.specs.declared.cause.Cause.{Cause}
use Rattle.je_program.specs.declared.cause.Cause.TheVariants.{Done, Usage, BadScript, BadDump, Disk, Unreadable, WrongIndex, Memory, Findings, NoEnvironment, NoDatabase, OtherKind, RefusedPair, Input, InputTooLong, LogFull, IdsEnded}
use Rattle.je_program.specs.declared.reading.TheConstants.{MOST_INPUT}
use Rattle.engine.specs.Files.{HasCorruption, HasWrongIndex, Means}
use Rattle.engine.specs.Opening.{HasNoNumbers}
use Rattle.log_replay.specs.Indexed.{wrong_index}
use Rattle.environment.proofs.RightStores.{none_wrong}
use Rattle.command_line.specs.declared.command.Command.{Command}
use Rattle.command_line.specs.declared.command.Command.TheVariants.{Run, Soak, Dump, Load, PrintLog, Verify, Stat}
use Rattle.log_file.specs.Log.{AreFiles}
use Rattle.log_replay.specs.Reading.{corruption_in}
use Rattle.check_laws.specs.Check.{check_of}
use Rattle.log_printer.specs.Reading.{HasNoFile}
use Rattle.je_program.specs.Commands.{AreFaultless, AreSound, CanBeOpened, EndsAsFound, EndsByPlace, EndsDump, EndsLoad, EndsRun, EndsStat, HasDamage, HasDump, HasInput, HaveFindings, cause_of_found, ends_check, ends_dump, ends_load, ends_reading, ends_script, ends_soak, ends_stat, is_place, keeps_otherwise, load_end, may_end, needs_environment, opens}
use Rattle.je_program.specs.Program.{EndsBy, EndsWith, IsStopped, RunsIf}
use Rattle.je_program.specs.Run.{cause_of_journal, cause_of_load, cause_of_refusal, cause_of_room, first_refused}
use Rattle.je_program.specs.Unprinted.{needs_file}

-- ---- one reading of the files

abbrev corruption_or : Corruption → Result Meaning Corruption → Corruption
corruption_or other (Ok meaning) = other
corruption_or other (Err corruption) = corruption

-- files have one corruption
pub one_corruption : (files : Files) (a b : Corruption) → HasCorruption files a → HasCorruption files b → a ≡ b
one_corruption files a b is other =
    ap (corruption_or a) (sym is.reads ∙ ap reading_of (are_one_list files is.held other.held is.are other.are) ∙ other.reads)

-- and none where they mean something
pub no_corruption_beside : (files : Files) (corruption : Corruption) (meaning : Meaning) → HasCorruption files corruption → Means files meaning → ⊥
no_corruption_beside files corruption meaning is means =
    let e : Err corruption ≡ Ok meaning = sym is.reads ∙ ap reading_of (are_one_list files is.held means.held is.are means.are) ∙ means.reads in cc

-- files with a wrong index have a meaning, and no corruption
pub meant_where_wrong : (files : Files) (name : List ℕ) (has : HasWrongIndex files name) → Means files has.meaning
meant_where_wrong files name has = record { held = has.held; are = has.are; reads = has.reads }

-- they have one meaning
abbrev meaning_of_result : Meaning → Result Meaning Corruption → Meaning
meaning_of_result other (Ok meaning) = meaning
meaning_of_result other (Err corruption) = other

pub one_meaning : (files : Files) (a b : Meaning) → Means files a → Means files b → a ≡ b
one_meaning files a b is other =
    ap (meaning_of_result a) (sym is.reads ∙ ap reading_of (are_one_list files is.held other.held is.are other.are) ∙ other.reads)

-- so that one index is the first that is wrong, if one is
abbrev name_or : List ℕ → Option (List ℕ) → List ℕ
name_or other None = other
name_or other (Some name) = name

pub one_wrong : (files : Files) (a b : List ℕ) → HasWrongIndex files a → HasWrongIndex files b → a ≡ b
one_wrong files a b is other =
    ap (name_or a)
    (sym is.wrong ∙ ap (λ (m : Meaning). wrong_index m.store) (one_meaning files is.meaning other.meaning (meant_where_wrong files a is) (meant_where_wrong files b other)) ∙ other.wrong)

-- and none is where there is none in what they mean
pub no_wrong_beside : (files : Files) (name : List ℕ) (meaning : Meaning) → HasWrongIndex files name → Means files meaning → wrong_index meaning.store ≡ None → ⊥
no_wrong_beside files name meaning has means none =
    let e : Some name ≡ None = sym has.wrong ∙ ap (λ (m : Meaning). wrong_index m.store) (one_meaning files has.meaning meaning (meant_where_wrong files name has) means) ∙ none in cc

-- ---- the input

-- the input is a script of this plan
record IsScript (left : Option (List ℕ)) (plan : RunPlan) : Type 0 where
  bytes : List ℕ
  is : left ≡ Some bytes
  short : length bytes ≤ MOST_INPUT
  plans : plan_of bytes ≡ Ok plan

not_bad : (left : Option (List ℕ)) (plan : RunPlan) (line : ℕ) → IsScript left plan → IfSome left (λ bytes. (length bytes ≤ MOST_INPUT) × (plan_of bytes ≡ Err line)) → ⊥
not_bad left plan line script bad =
    let here = subst (λ (o : Option (List ℕ)). IfSome o (λ bytes. (length bytes ≤ MOST_INPUT) × (plan_of bytes ≡ Err line))) script.is bad in
    let e : Ok plan ≡ Err line = sym script.plans ∙ here.1 in cc

not_long : (left : Option (List ℕ)) (plan : RunPlan) → IsScript left plan → IfSome left (λ bytes. MOST_INPUT < length bytes) → ⊥
not_long left plan script long =
    let here = subst (λ (o : Option (List ℕ)). IfSome o (λ bytes. MOST_INPUT < length bytes)) script.is long in
    let short = script.short in omega (arith, here, short)

-- what is left of a cause where the arguments are valid and the input is what the command needs
abbrev pub IsPast : ℕ → ℕ → Cause → Type 0
IsPast s0 s1 Usage = ⊥
IsPast s0 s1 (BadScript line) = ⊥
IsPast s0 s1 (BadDump line) = ⊥
IsPast s0 s1 InputTooLong = ⊥
IsPast s0 s1 NoEnvironment = ⊥
IsPast s0 s1 Findings = ⊥
IsPast s0 s1 Input = HasRisen s0 s1
IsPast s0 s1 cause = Unit {0}

script_past : (left : Option (List ℕ)) (plan : RunPlan) (s0 s1 : ℕ) (cause : Cause) → IsScript left plan → ends_script cause ≡ true → IsStopped left s0 s1 cause → IsPast s0 s1 cause
script_past left plan s0 s1 Usage script may stopped = cc
script_past left plan s0 s1 NoEnvironment script may stopped = cc
script_past left plan s0 s1 Findings script may stopped = cc
script_past left plan s0 s1 NoDatabase script may stopped = cc
script_past left plan s0 s1 (OtherKind line) script may stopped = cc
script_past left plan s0 s1 (RefusedPair line) script may stopped = cc
script_past left plan s0 s1 (BadDump line) script may stopped = cc
script_past left plan s0 s1 (BadScript line) script may stopped = absurd (not_bad left plan line script stopped)
script_past left plan s0 s1 InputTooLong script may stopped = absurd (not_long left plan script stopped)
script_past left plan s0 s1 Input script may stopped = stopped
script_past left plan s0 s1 Done script may stopped = tt
script_past left plan s0 s1 Disk script may stopped = tt
script_past left plan s0 s1 Memory script may stopped = tt
script_past left plan s0 s1 (Unreadable corruption) script may stopped = tt
script_past left plan s0 s1 (WrongIndex name) script may stopped = tt
script_past left plan s0 s1 LogFull script may stopped = tt
script_past left plan s0 s1 IdsEnded script may stopped = tt

soak_past : (s0 s1 : ℕ) (cause : Cause) → ends_soak cause ≡ true → IsPast s0 s1 cause
soak_past s0 s1 Usage may = cc
soak_past s0 s1 (BadScript line) may = cc
soak_past s0 s1 (BadDump line) may = cc
soak_past s0 s1 (OtherKind line) may = cc
soak_past s0 s1 (RefusedPair line) may = cc
soak_past s0 s1 Input may = cc
soak_past s0 s1 InputTooLong may = cc
soak_past s0 s1 NoEnvironment may = cc
soak_past s0 s1 Findings may = cc
soak_past s0 s1 NoDatabase may = cc
soak_past s0 s1 Done may = tt
soak_past s0 s1 Disk may = tt
soak_past s0 s1 Memory may = tt
soak_past s0 s1 (Unreadable corruption) may = tt
soak_past s0 s1 (WrongIndex name) may = tt
soak_past s0 s1 LogFull may = tt
soak_past s0 s1 IdsEnded may = tt

dump_past : (s0 s1 : ℕ) (cause : Cause) → ends_dump cause ≡ true → cause ≢ NoEnvironment → IsPast s0 s1 cause
dump_past s0 s1 Usage may there = cc
dump_past s0 s1 (BadScript line) may there = cc
dump_past s0 s1 (BadDump line) may there = cc
dump_past s0 s1 Input may there = cc
dump_past s0 s1 InputTooLong may there = cc
dump_past s0 s1 NoEnvironment may there = absurd (there refl)
dump_past s0 s1 Findings may there = cc
dump_past s0 s1 cause may there = tt

not_bad_dump : (left : Option (List ℕ)) (dump : DumpRead) (line : ℕ) → HasDump left dump → IfSome left (λ bytes. (length bytes ≤ MOST_INPUT) × (dump_of bytes ≡ Err line)) → ⊥
not_bad_dump left dump line has bad =
    let here = subst (λ (o : Option (List ℕ)). IfSome o (λ bytes. (length bytes ≤ MOST_INPUT) × (dump_of bytes ≡ Err line))) has.1 bad in
    let e : Ok dump ≡ Err line = sym has.3 ∙ here.1 in cc

not_long_dump : (left : Option (List ℕ)) (dump : DumpRead) → HasDump left dump → IfSome left (λ bytes. MOST_INPUT < length bytes) → ⊥
not_long_dump left dump has long =
    let here = subst (λ (o : Option (List ℕ)). IfSome o (λ bytes. MOST_INPUT < length bytes)) has.1 long in
    let short = has.2 in omega (arith, here, short)

load_past : (left : Option (List ℕ)) (dump : DumpRead) (s0 s1 : ℕ) (cause : Cause) → HasDump left dump → ends_load cause ≡ true → IsStopped left s0 s1 cause → IsPast s0 s1 cause
load_past left dump s0 s1 Usage has may stopped = cc
load_past left dump s0 s1 (BadScript line) has may stopped = cc
load_past left dump s0 s1 NoEnvironment has may stopped = cc
load_past left dump s0 s1 Findings has may stopped = cc
load_past left dump s0 s1 (BadDump line) has may stopped = absurd (not_bad_dump left dump line has stopped)
load_past left dump s0 s1 InputTooLong has may stopped = absurd (not_long_dump left dump has stopped)
load_past left dump s0 s1 Input has may stopped = stopped
load_past left dump s0 s1 cause has may stopped = tt

-- what a count of the log's use may end with, a dump may
pub stat_dump : (cause : Cause) → ends_stat cause ≡ true → ends_dump cause ≡ true
stat_dump NoDatabase may = cc
stat_dump cause may = may

pub past_input : (command : Option Command) (left : Option (List ℕ)) (s0 s1 : ℕ) (cause : Cause) → opens command ≡ true → HasInput command left → may_end command cause ≡ true →
    IsStopped left s0 s1 cause → (needs_environment command ≡ true → cause ≢ NoEnvironment) → IsPast s0 s1 cause
past_input None left s0 s1 cause opened input may stopped there = cc
past_input (Some (Run settings)) left s0 s1 cause opened input may stopped there =
    script_past left input.1 s0 s1 cause (record { bytes = input.0; is = input.2; short = input.3; plans = input.4 }) may stopped
past_input (Some (Soak seed settings)) left s0 s1 cause opened input may stopped there = soak_past s0 s1 cause may
past_input (Some (Dump db printed)) left s0 s1 cause opened input may stopped there = dump_past s0 s1 cause may (there refl)
past_input (Some (Load db no_overwrite)) left s0 s1 cause opened input may stopped there = load_past left input.0 s0 s1 cause input.1 may stopped
past_input (Some PrintLog) left s0 s1 cause opened input may stopped there = cc
past_input (Some Verify) left s0 s1 cause opened input may stopped there = cc
past_input (Some Stat) left s0 s1 cause opened input may stopped there = dump_past s0 s1 cause (stat_dump cause may) (there refl)

-- ---- the end

-- a run that ends by its journal, and not by a fault of the disk, ends as its room says
in_room : (journal : List Event) (cause : Cause) → cause ≢ Disk → EndsBy journal cause → cause ≡ cause_of_room journal
in_room journal cause other ends =
    ⊎_elim
    (λ (is : cause ≡ cause_of_journal journal). ⊎_elim
    (λ (fault : has_answer is_disk_fault journal ≡ true). absurd (other (is ∙ cond-true (has_answer is_disk_fault journal) Disk (cause_of_room journal) fault)))
    (λ (none : has_answer is_disk_fault journal ≡ false). is ∙ cond-false (has_answer is_disk_fault journal) Disk (cause_of_room journal) none)
    (cases_Bool (has_answer is_disk_fault journal)))
    (λ (is : cause ≡ Disk). absurd (other is))
    ends

-- files with a meaning end so: a run as its journal's room says; one that has not begun may lack node numbers; or memory ran out or a count rose
pub completes : (files : Files) (s0 s1 d0 d1 : ℕ) (cause : Cause) (opened : Bool) (journal : List Event) → CanBeOpened files → IsPast s0 s1 cause → RunsIf cause opened →
    ((corruption : Corruption) → cause ≡ Unreadable corruption → HasCorruption files corruption) → ((name : List ℕ) → cause ≡ WrongIndex name → HasWrongIndex files name) →
    (opened ≡ true → cause ≢ Memory → EndsWith journal cause) → (cause ≡ Disk → HasRisen d0 d1) → ends_script cause ≡ true →
    EndsRun cause opened journal ⊎ (cause ≡ Memory) ⊎ Failing s0 s1 ⊎ HasRisen d0 d1
completes files s0 s1 d0 d1 Done opened journal can past runs unreadable wrong ends failed may = inl (inl (runs, in_room journal Done (λ e. cc) (ends runs (λ e. cc))))
completes files s0 s1 d0 d1 LogFull opened journal can past runs unreadable wrong ends failed may = inl (inl (runs, in_room journal LogFull (λ e. cc) (ends runs (λ e. cc))))
completes files s0 s1 d0 d1 IdsEnded opened journal can past runs unreadable wrong ends failed may =
    ⊎_elim
    (λ (is_opened : opened ≡ true). inl (inl (is_opened, in_room journal IdsEnded (λ e. cc) (ends is_opened (λ e. cc)))))
    (λ (none : opened ≡ false). inl (inr (none, refl)))
    (cases_Bool opened)
completes files s0 s1 d0 d1 Disk opened journal can past runs unreadable wrong ends failed may = inr (inr (inr (failed refl)))
completes files s0 s1 d0 d1 Memory opened journal can past runs unreadable wrong ends failed may = inr (inl refl)
completes files s0 s1 d0 d1 Input opened journal can past runs unreadable wrong ends failed may = inr (inr (inl past))
completes files s0 s1 d0 d1 Usage opened journal can past runs unreadable wrong ends failed may = absurd past
completes files s0 s1 d0 d1 (BadScript line) opened journal can past runs unreadable wrong ends failed may = absurd past
completes files s0 s1 d0 d1 InputTooLong opened journal can past runs unreadable wrong ends failed may = absurd past
completes files s0 s1 d0 d1 NoEnvironment opened journal can past runs unreadable wrong ends failed may = absurd past
completes files s0 s1 d0 d1 Findings opened journal can past runs unreadable wrong ends failed may = absurd past
completes files s0 s1 d0 d1 (BadDump line) opened journal can past runs unreadable wrong ends failed may = cc
completes files s0 s1 d0 d1 NoDatabase opened journal can past runs unreadable wrong ends failed may = cc
completes files s0 s1 d0 d1 (OtherKind line) opened journal can past runs unreadable wrong ends failed may = cc
completes files s0 s1 d0 d1 (RefusedPair line) opened journal can past runs unreadable wrong ends failed may = cc
completes files s0 s1 d0 d1 (Unreadable corruption) opened journal can past runs unreadable wrong ends failed may =
    absurd (no_corruption_beside files corruption can.meaning (unreadable corruption refl) can.means)
completes files s0 s1 d0 d1 (WrongIndex name) opened journal can past runs unreadable wrong ends failed may =
    absurd (no_wrong_beside files name can.meaning (wrong name refl) can.means (none_wrong can.means.held can.meaning can.means.reads can.indexed))

-- where the files have a corruption, the program ends by it, unless memory ran out or a count rose
pub finds : (files : Files) (s0 s1 d0 d1 : ℕ) (cause : Cause) (opened : Bool) (corruption : Corruption) → HasCorruption files corruption → IsPast s0 s1 cause → RunsIf cause opened →
    ((f : Corruption) → cause ≡ Unreadable f → HasCorruption files f) → ((name : List ℕ) → cause ≡ WrongIndex name → HasWrongIndex files name) → (opened ≡ true → (meaning : Meaning) × Means files meaning) →
    (cause ≡ IdsEnded → opened ≡ false → HasNoNumbers files) → (cause ≡ Disk → HasRisen d0 d1) →
    (cause ≡ Unreadable corruption) ⊎ (cause ≡ Memory) ⊎ Failing s0 s1 ⊎ HasRisen d0 d1
finds files s0 s1 d0 d1 cause opened corruption has past runs unreadable wrong means numbers failed = by_cause cause past runs unreadable wrong numbers failed
  where
    closed : opened ≡ true → ⊥
    closed e = let m = means e in no_corruption_beside files corruption m.0 has m.1

    none_left : HasNoNumbers files → ⊥
    none_left has_none = no_corruption_beside files corruption has_none.meaning has (record { held = has_none.held; are = has_none.are; reads = has_none.reads })

    by_cause : (cause : Cause) → IsPast s0 s1 cause → RunsIf cause opened → ((f : Corruption) → cause ≡ Unreadable f → HasCorruption files f) → ((name : List ℕ) → cause ≡ WrongIndex name → HasWrongIndex files name) →
        (cause ≡ IdsEnded → opened ≡ false → HasNoNumbers files) → (cause ≡ Disk → HasRisen d0 d1) →
        (cause ≡ Unreadable corruption) ⊎ (cause ≡ Memory) ⊎ Failing s0 s1 ⊎ HasRisen d0 d1
    by_cause Done past runs unreadable wrong numbers failed = absurd (closed runs)
    by_cause LogFull past runs unreadable wrong numbers failed = absurd (closed runs)
    by_cause IdsEnded past runs unreadable wrong numbers failed =
        absurd (⊎_elim (λ (is_opened : opened ≡ true). closed is_opened) (λ (none : opened ≡ false). none_left (numbers refl none)) (cases_Bool opened))
    by_cause Disk past runs unreadable wrong numbers failed = inr (inr (inr (failed refl)))
    by_cause Memory past runs unreadable wrong numbers failed = inr (inl refl)
    by_cause Input past runs unreadable wrong numbers failed = inr (inr (inl past))
    by_cause Usage past runs unreadable wrong numbers failed = absurd past
    by_cause (BadScript line) past runs unreadable wrong numbers failed = absurd past
    by_cause (BadDump line) past runs unreadable wrong numbers failed = absurd past
    by_cause InputTooLong past runs unreadable wrong numbers failed = absurd past
    by_cause NoEnvironment past runs unreadable wrong numbers failed = absurd past
    by_cause Findings past runs unreadable wrong numbers failed = absurd past
    by_cause NoDatabase past runs unreadable wrong numbers failed = absurd (closed runs)
    by_cause (OtherKind line) past runs unreadable wrong numbers failed = absurd (closed runs)
    by_cause (RefusedPair line) past runs unreadable wrong numbers failed = absurd (closed runs)
    by_cause (Unreadable f) past runs unreadable wrong numbers failed = inl (ap Unreadable (one_corruption files f corruption (unreadable f refl) has))
    by_cause (WrongIndex name) past runs unreadable wrong numbers failed =
        let has_wrong = wrong name refl in absurd (no_corruption_beside files corruption has_wrong.meaning has (meant_where_wrong files name has_wrong))

-- where an index is wrong, the program ends by it, unless memory ran out or a count rose
pub finds_wrong : (files : Files) (s0 s1 d0 d1 : ℕ) (cause : Cause) (opened : Bool) (name : List ℕ) → HasWrongIndex files name → IsPast s0 s1 cause → RunsIf cause opened →
    ((f : Corruption) → cause ≡ Unreadable f → HasCorruption files f) → ((other : List ℕ) → cause ≡ WrongIndex other → HasWrongIndex files other) →
    (opened ≡ true → (meaning : Meaning) × Means files meaning × (wrong_index meaning.store ≡ None)) → (cause ≡ IdsEnded → opened ≡ false → HasNoNumbers files) → (cause ≡ Disk → HasRisen d0 d1) →
    (cause ≡ WrongIndex name) ⊎ (cause ≡ Memory) ⊎ Failing s0 s1 ⊎ HasRisen d0 d1
finds_wrong files s0 s1 d0 d1 cause opened name has past runs unreadable wrong means numbers failed = by_cause cause past runs unreadable wrong numbers failed
  where
    closed : opened ≡ true → ⊥
    closed e = let m = means e in no_wrong_beside files name m.0 has m.1 m.2

    none_left : HasNoNumbers files → ⊥
    none_left none = no_wrong_beside files name none.meaning has (record { held = none.held; are = none.are; reads = none.reads }) (sym none.indexed.first)

    by_cause : (cause : Cause) → IsPast s0 s1 cause → RunsIf cause opened → ((f : Corruption) → cause ≡ Unreadable f → HasCorruption files f) →
        ((other : List ℕ) → cause ≡ WrongIndex other → HasWrongIndex files other) → (cause ≡ IdsEnded → opened ≡ false → HasNoNumbers files) → (cause ≡ Disk → HasRisen d0 d1) →
        (cause ≡ WrongIndex name) ⊎ (cause ≡ Memory) ⊎ Failing s0 s1 ⊎ HasRisen d0 d1
    by_cause Done past runs unreadable wrong numbers failed = absurd (closed runs)
    by_cause LogFull past runs unreadable wrong numbers failed = absurd (closed runs)
    by_cause IdsEnded past runs unreadable wrong numbers failed =
        absurd (⊎_elim (λ (is_opened : opened ≡ true). closed is_opened) (λ (none : opened ≡ false). none_left (numbers refl none)) (cases_Bool opened))
    by_cause Disk past runs unreadable wrong numbers failed = inr (inr (inr (failed refl)))
    by_cause Memory past runs unreadable wrong numbers failed = inr (inl refl)
    by_cause Input past runs unreadable wrong numbers failed = inr (inr (inl past))
    by_cause Usage past runs unreadable wrong numbers failed = absurd past
    by_cause (BadScript line) past runs unreadable wrong numbers failed = absurd past
    by_cause (BadDump line) past runs unreadable wrong numbers failed = absurd past
    by_cause InputTooLong past runs unreadable wrong numbers failed = absurd past
    by_cause NoEnvironment past runs unreadable wrong numbers failed = absurd past
    by_cause Findings past runs unreadable wrong numbers failed = absurd past
    by_cause NoDatabase past runs unreadable wrong numbers failed = absurd (closed runs)
    by_cause (OtherKind line) past runs unreadable wrong numbers failed = absurd (closed runs)
    by_cause (RefusedPair line) past runs unreadable wrong numbers failed = absurd (closed runs)
    by_cause (Unreadable f) past runs unreadable wrong numbers failed = absurd (no_corruption_beside files f has.meaning (unreadable f refl) (meant_where_wrong files name has))
    by_cause (WrongIndex other) past runs unreadable wrong numbers failed = inl (ap WrongIndex (one_wrong files other name (wrong other refl) has))

-- ---- files that are only read

-- a disk without a file has none
no_files : (files : Files) (held : List (ℕ × List ℕ)) → AreFiles files held → HasNoFile files → held ≡ []
no_files files [] are none = refl
no_files files (x ∷ held) are none =
    let found : cond (x.0 == x.0) (Some x.1) (lookup (λ n. n == x.0) held) ≡ None = are.each x.0 ∙ none x.0 in
    let there : Some x.1 ≡ None = subst (λ (b : Bool). cond b (Some x.1) (lookup (λ n. n == x.0) held) ≡ None) (eq-eqb x.0 x.0 refl) found in cc

-- no files mean no databases
abbrev nothing_meant : Meaning
nothing_meant = meaning_of [] no_checkpoint (record { seen = []; rows = [] })

pub corrupt_has_files : (files : Files) (corruption : Corruption) → HasCorruption files corruption → HasNoFile files → ⊥
corrupt_has_files files corruption has none =
    let e : Ok nothing_meant ≡ Err corruption = sym (ap reading_of (no_files files has.held has.are none)) ∙ has.reads in cc

pub wrong_has_files : (files : Files) (name : List ℕ) → HasWrongIndex files name → HasNoFile files → ⊥
wrong_has_files files name has none =
    let read : Ok nothing_meant ≡ Ok has.meaning = sym (ap reading_of (no_files files has.held has.are none)) ∙ has.reads in
    let e : None ≡ Some name = ap (λ (m : Meaning). wrong_index m.store) (ap (meaning_of_result nothing_meant) read) ∙ has.wrong in cc

pub sound_has_files : (files : Files) → AreSound files → HasNoFile files → ⊥
sound_has_files files sound none = sound.some (no_files files sound.held sound.are none)

pub damage_has_files : (files : Files) (corruption : Corruption) → HasDamage files corruption → HasNoFile files → ⊥
damage_has_files files corruption damage none =
    let e : None ≡ Some corruption = sym (ap corruption_in (no_files files damage.held damage.are none)) ∙ damage.found in cc

sound_no_damage : (files : Files) (corruption : Corruption) → AreSound files → HasDamage files corruption → ⊥
sound_no_damage files corruption sound damage =
    let e : None ≡ Some corruption = sym sound.none ∙ ap corruption_in (are_one_list files sound.held damage.held sound.are damage.are) ∙ damage.found in cc

abbrev corruption_found : Corruption → Option Corruption → Corruption
corruption_found other None = other
corruption_found other (Some corruption) = corruption

one_damage : (files : Files) (a b : Corruption) → HasDamage files a → HasDamage files b → a ≡ b
one_damage files a b is other = ap (corruption_found a) (sym is.found ∙ ap corruption_in (are_one_list files is.held other.held is.are other.are) ∙ other.found)

-- a command that only reads files prints them, or tells what is wrong with them
module _ (files : Files) (s0 s1 d0 d1 : ℕ) where
  pub reads_well : (cause : Cause) → AreSound files → ends_reading cause ≡ true → ((corruption : Corruption) → cause ≡ Unreadable corruption → HasDamage files corruption) →
      (cause ≡ NoEnvironment → HasNoFile files) → (cause ≡ Disk → HasRisen d0 d1) → (cause ≡ Done) ⊎ (cause ≡ Memory) ⊎ Failing s0 s1 ⊎ HasRisen d0 d1
  reads_well Done sound may unreadable none failed = inl refl
  reads_well Disk sound may unreadable none failed = inr (inr (inr (failed refl)))
  reads_well Memory sound may unreadable none failed = inr (inl refl)
  reads_well (Unreadable corruption) sound may unreadable none failed = absurd (sound_no_damage files corruption sound (unreadable corruption refl))
  reads_well NoEnvironment sound may unreadable none failed = absurd (sound_has_files files sound (none refl))
  reads_well cause sound may unreadable none failed = cc

  pub reads_damage : (cause : Cause) (corruption : Corruption) → HasDamage files corruption → ends_reading cause ≡ true → (cause ≡ Done → AreSound files) →
      ((f : Corruption) → cause ≡ Unreadable f → HasDamage files f) → (cause ≡ NoEnvironment → HasNoFile files) → (cause ≡ Disk → HasRisen d0 d1) →
      (cause ≡ Unreadable corruption) ⊎ (cause ≡ Memory) ⊎ Failing s0 s1 ⊎ HasRisen d0 d1
  reads_damage Done corruption damage may sound unreadable none failed = absurd (sound_no_damage files corruption (sound refl) damage)
  reads_damage Disk corruption damage may sound unreadable none failed = inr (inr (inr (failed refl)))
  reads_damage Memory corruption damage may sound unreadable none failed = inr (inl refl)
  reads_damage (Unreadable f) corruption damage may sound unreadable none failed = inl (ap Unreadable (one_damage files f corruption (unreadable f refl) damage))
  reads_damage NoEnvironment corruption damage may sound unreadable none failed = absurd (damage_has_files files corruption damage (none refl))
  reads_damage cause corruption damage may sound unreadable none failed = cc

  pub reads_nothing : (cause : Cause) → HasNoFile files → ends_reading cause ≡ true → (cause ≡ Done → AreSound files) → ((f : Corruption) → cause ≡ Unreadable f → HasDamage files f) →
      (cause ≡ Disk → HasRisen d0 d1) → (cause ≡ NoEnvironment) ⊎ (cause ≡ Memory) ⊎ HasRisen d0 d1
  reads_nothing Done no_file may sound unreadable failed = absurd (sound_has_files files (sound refl) no_file)
  reads_nothing Disk no_file may sound unreadable failed = inr (inr (failed refl))
  reads_nothing Memory no_file may sound unreadable failed = inr (inl refl)
  reads_nothing (Unreadable f) no_file may sound unreadable failed = absurd (damage_has_files files f (unreadable f refl) no_file)
  reads_nothing NoEnvironment no_file may sound unreadable failed = inl refl
  reads_nothing cause no_file may sound unreadable failed = cc

-- ---- files that are checked

-- what a check of files finds does not hang on how they are listed
one_check : (files : Files) → AreFaultless files → HaveFindings files → ⊥
one_check files faultless has =
    has.some (ap (λ (held : List (ℕ × List ℕ)). (check_of held).findings) (are_one_list files has.sound.held faultless.sound.held has.sound.are faultless.sound.are) ∙ faultless.none)

module _ (files : Files) (s0 s1 d0 d1 : ℕ) where
  pub checks_well : (cause : Cause) → AreFaultless files → ends_check cause ≡ true → EndsAsFound cause files → ((f : Corruption) → cause ≡ Unreadable f → HasDamage files f) →
      (cause ≡ NoEnvironment → HasNoFile files) → (cause ≡ Disk → HasRisen d0 d1) → (cause ≡ Done) ⊎ (cause ≡ Memory) ⊎ Failing s0 s1 ⊎ HasRisen d0 d1
  checks_well Done faultless may found unreadable none failed = inl refl
  checks_well Findings faultless may found unreadable none failed = absurd (one_check files faultless found)
  checks_well Disk faultless may found unreadable none failed = inr (inr (inr (failed refl)))
  checks_well Memory faultless may found unreadable none failed = inr (inl refl)
  checks_well (Unreadable f) faultless may found unreadable none failed = absurd (sound_no_damage files f faultless.sound (unreadable f refl))
  checks_well NoEnvironment faultless may found unreadable none failed = absurd (sound_has_files files faultless.sound (none refl))
  checks_well cause faultless may found unreadable none failed = cc

  pub checks_damage : (cause : Cause) (corruption : Corruption) → HasDamage files corruption → ends_check cause ≡ true → EndsAsFound cause files → ((f : Corruption) → cause ≡ Unreadable f → HasDamage files f) →
      (cause ≡ NoEnvironment → HasNoFile files) → (cause ≡ Disk → HasRisen d0 d1) → (cause ≡ Unreadable corruption) ⊎ (cause ≡ Memory) ⊎ Failing s0 s1 ⊎ HasRisen d0 d1
  checks_damage Done corruption damage may found unreadable none failed = absurd (sound_no_damage files corruption found.sound damage)
  checks_damage Findings corruption damage may found unreadable none failed = absurd (sound_no_damage files corruption found.sound damage)
  checks_damage Disk corruption damage may found unreadable none failed = inr (inr (inr (failed refl)))
  checks_damage Memory corruption damage may found unreadable none failed = inr (inl refl)
  checks_damage (Unreadable f) corruption damage may found unreadable none failed = inl (ap Unreadable (one_damage files f corruption (unreadable f refl) damage))
  checks_damage NoEnvironment corruption damage may found unreadable none failed = absurd (damage_has_files files corruption damage (none refl))
  checks_damage cause corruption damage may found unreadable none failed = cc

  pub checks_nothing : (cause : Cause) → HasNoFile files → ends_check cause ≡ true → EndsAsFound cause files → ((f : Corruption) → cause ≡ Unreadable f → HasDamage files f) →
      (cause ≡ Disk → HasRisen d0 d1) → (cause ≡ NoEnvironment) ⊎ (cause ≡ Memory) ⊎ HasRisen d0 d1
  checks_nothing Done no_file may found unreadable failed = absurd (sound_has_files files found.sound no_file)
  checks_nothing Findings no_file may found unreadable failed = absurd (sound_has_files files found.sound no_file)
  checks_nothing Disk no_file may found unreadable failed = inr (inr (failed refl))
  checks_nothing Memory no_file may found unreadable failed = inr (inl refl)
  checks_nothing (Unreadable f) no_file may found unreadable failed = absurd (damage_has_files files f (unreadable f refl) no_file)
  checks_nothing NoEnvironment no_file may found unreadable failed = inl refl
  checks_nothing cause no_file may found unreadable failed = cc

  pub checks_findings : (cause : Cause) → HaveFindings files → ends_check cause ≡ true → EndsAsFound cause files → ((f : Corruption) → cause ≡ Unreadable f → HasDamage files f) →
      (cause ≡ NoEnvironment → HasNoFile files) → (cause ≡ Disk → HasRisen d0 d1) → (cause ≡ Findings) ⊎ (cause ≡ Memory) ⊎ HasRisen d0 d1
  checks_findings Done has may found unreadable none failed = absurd (one_check files found has)
  checks_findings Findings has may found unreadable none failed = inl refl
  checks_findings Disk has may found unreadable none failed = inr (inr (failed refl))
  checks_findings Memory has may found unreadable none failed = inr (inl refl)
  checks_findings (Unreadable f) has may found unreadable none failed = absurd (sound_no_damage files f has.sound (unreadable f refl))
  checks_findings NoEnvironment has may found unreadable none failed = absurd (sound_has_files files has.sound (none refl))
  checks_findings cause has may found unreadable none failed = cc

-- ---- a dump

there_is : (found : Option Database) → found ≢ None → Done ≡ cause_of_found found
there_is None some = absurd (some refl)
there_is (Some database) some = refl

-- a run without an event does not end without numbers
never_ended : (journal : List Event) → journal ≡ [] → EndsBy journal IdsEnded → ⊥
never_ended journal none (inl is) = (let e : IdsEnded ≡ Done = is ∙ ap cause_of_journal none in cc)
never_ended journal none (inr is) = cc

-- a dump of files with a meaning ends as its database is there or not; it may lack node numbers before; or memory ran out or the disk's count rose
pub dump_completes : (files : Files) (s0 s1 d0 d1 : ℕ) (cause : Cause) (opened : Bool) (journal : List Event) (found : Option Database) → (HasNoFile files → ⊥) → CanBeOpened files → ends_dump cause ≡ true →
    RunsIf cause opened → ((corruption : Corruption) → cause ≡ Unreadable corruption → HasCorruption files corruption) → ((name : List ℕ) → cause ≡ WrongIndex name → HasWrongIndex files name) →
    (cause ≡ NoEnvironment → HasNoFile files) → (opened ≡ true → journal ≡ []) → (opened ≡ true → cause ≢ Memory → EndsWith journal cause) → (cause ≡ Disk → HasRisen d0 d1) → (cause ≡ Done → found ≢ None) →
    (cause ≡ NoDatabase → found ≡ None) → EndsDump cause opened found ⊎ (cause ≡ Memory) ⊎ Failing s0 s1 ⊎ HasRisen d0 d1
dump_completes files s0 s1 d0 d1 Done opened journal found there can may runs unreadable wrong none empty ends failed has lacks = inl (inl (runs, there_is found (has refl)))
dump_completes files s0 s1 d0 d1 NoDatabase opened journal found there can may runs unreadable wrong none empty ends failed has lacks = inl (inl (runs, ap cause_of_found (sym (lacks refl))))
dump_completes files s0 s1 d0 d1 IdsEnded opened journal found there can may runs unreadable wrong none empty ends failed has lacks =
    ⊎_elim
    (λ (is_opened : opened ≡ true). absurd (never_ended journal (empty is_opened) (ends is_opened (λ e. cc))))
    (λ (shut : opened ≡ false). inl (inr (shut, refl)))
    (cases_Bool opened)
dump_completes files s0 s1 d0 d1 Disk opened journal found there can may runs unreadable wrong none empty ends failed has lacks = inr (inr (inr (failed refl)))
dump_completes files s0 s1 d0 d1 Memory opened journal found there can may runs unreadable wrong none empty ends failed has lacks = inr (inl refl)
dump_completes files s0 s1 d0 d1 NoEnvironment opened journal found there can may runs unreadable wrong none empty ends failed has lacks = absurd (there (none refl))
dump_completes files s0 s1 d0 d1 (Unreadable corruption) opened journal found there can may runs unreadable wrong none empty ends failed has lacks =
    absurd (no_corruption_beside files corruption can.meaning (unreadable corruption refl) can.means)
dump_completes files s0 s1 d0 d1 (WrongIndex name) opened journal found there can may runs unreadable wrong none empty ends failed has lacks =
    absurd (no_wrong_beside files name can.meaning (wrong name refl) can.means (none_wrong can.means.held can.meaning can.means.reads can.indexed))
dump_completes files s0 s1 d0 d1 cause opened journal found there can may runs unreadable wrong none empty ends failed has lacks = cc

-- a count of the log's use of files with a meaning ends well; it may lack node numbers before; or memory ran out or the disk's count rose
pub stat_completes : (files : Files) (s0 s1 d0 d1 : ℕ) (cause : Cause) (opened : Bool) (journal : List Event) → (HasNoFile files → ⊥) → CanBeOpened files → ends_stat cause ≡ true →
    RunsIf cause opened → ((corruption : Corruption) → cause ≡ Unreadable corruption → HasCorruption files corruption) → ((name : List ℕ) → cause ≡ WrongIndex name → HasWrongIndex files name) →
    (cause ≡ NoEnvironment → HasNoFile files) → (opened ≡ true → journal ≡ []) → (opened ≡ true → cause ≢ Memory → EndsWith journal cause) → (cause ≡ Disk → HasRisen d0 d1) →
    EndsStat cause opened ⊎ (cause ≡ Memory) ⊎ Failing s0 s1 ⊎ HasRisen d0 d1
stat_completes files s0 s1 d0 d1 Done opened journal there can may runs unreadable wrong none empty ends failed = inl (inl (runs, refl))
stat_completes files s0 s1 d0 d1 IdsEnded opened journal there can may runs unreadable wrong none empty ends failed =
    ⊎_elim
    (λ (is_opened : opened ≡ true). absurd (never_ended journal (empty is_opened) (ends is_opened (λ e. cc))))
    (λ (shut : opened ≡ false). inl (inr (shut, refl)))
    (cases_Bool opened)
stat_completes files s0 s1 d0 d1 Disk opened journal there can may runs unreadable wrong none empty ends failed = inr (inr (inr (failed refl)))
stat_completes files s0 s1 d0 d1 Memory opened journal there can may runs unreadable wrong none empty ends failed = inr (inl refl)
stat_completes files s0 s1 d0 d1 NoEnvironment opened journal there can may runs unreadable wrong none empty ends failed = absurd (there (none refl))
stat_completes files s0 s1 d0 d1 (Unreadable corruption) opened journal there can may runs unreadable wrong none empty ends failed =
    absurd (no_corruption_beside files corruption can.meaning (unreadable corruption refl) can.means)
stat_completes files s0 s1 d0 d1 (WrongIndex name) opened journal there can may runs unreadable wrong none empty ends failed =
    absurd (no_wrong_beside files name can.meaning (wrong name refl) can.means (none_wrong can.means.held can.meaning can.means.reads can.indexed))
stat_completes files s0 s1 d0 d1 cause opened journal there can may runs unreadable wrong none empty ends failed = cc

-- where no file is there, a dump ends by that
pub dump_nothing : (files : Files) (d0 d1 : ℕ) (cause : Cause) → HasNoFile files → ends_dump cause ≡ true → (needs_file cause ≡ true → HasNoFile files → ⊥) → (cause ≡ Disk → HasRisen d0 d1) →
    (cause ≡ NoEnvironment) ⊎ (cause ≡ Memory) ⊎ HasRisen d0 d1
dump_nothing files d0 d1 NoEnvironment none may some failed = inl refl
dump_nothing files d0 d1 Memory none may some failed = inr (inl refl)
dump_nothing files d0 d1 Disk none may some failed = inr (inr (failed refl))
dump_nothing files d0 d1 Done none may some failed = absurd (some refl none)
dump_nothing files d0 d1 (Unreadable corruption) none may some failed = absurd (some refl none)
dump_nothing files d0 d1 (WrongIndex name) none may some failed = absurd (some refl none)
dump_nothing files d0 d1 NoDatabase none may some failed = absurd (some refl none)
dump_nothing files d0 d1 IdsEnded none may some failed = absurd (some refl none)
dump_nothing files d0 d1 cause none may some failed = cc

-- ---- a load

lacks_place : (kept : Bool) (line : ℕ) (place otherwise : Bool) (journal : List Event) → place ≡ false → NoDatabase ≡ load_end kept line place otherwise journal
lacks_place kept line true otherwise journal none = cc
lacks_place kept line false otherwise journal none = refl

is_otherwise : (kept : Bool) (at line : ℕ) (place otherwise : Bool) (journal : List Event) → place ≡ true → otherwise ≡ true → at ≡ line → OtherKind at ≡ load_end kept line place otherwise journal
is_otherwise kept at line true true journal there other same = ap OtherKind same
is_otherwise kept at line true false journal there other same = cc
is_otherwise kept at line false otherwise journal there other same = cc

takes_lines : (kept : Bool) (line : ℕ) (place otherwise : Bool) (journal : List Event) (cause : Cause) → place ≡ true → otherwise ≡ false → cause ≡ cause_of_load kept (cause_of_room journal) journal →
    cause ≡ load_end kept line place otherwise journal
takes_lines kept line true false journal cause there same is = is
takes_lines kept line true true journal cause there same is = cc
takes_lines kept line false otherwise journal cause there same is = cc

-- a load of files with a meaning ends for want of a place, by the kind of its database, or as its journal says; it may lack node numbers before; or memory ran out or a count rose
pub load_completes : (files : Files) (db : List ℕ) (kept : Bool) (left : Option (List ℕ)) (s0 s1 d0 d1 : ℕ) (cause : Cause) (opened : Bool) (opening : Store) (journal : List Event) → CanBeOpened files → IsPast s0 s1 cause → RunsIf cause opened →
    ((corruption : Corruption) → cause ≡ Unreadable corruption → HasCorruption files corruption) → ((name : List ℕ) → cause ≡ WrongIndex name → HasWrongIndex files name) →
    (opened ≡ true → (dump : DumpRead) × HasDump left dump × EndsByPlace cause (is_place db opening) (keeps_otherwise dump.dup (database_of db opening)) dump.dup_line) →
    (opened ≡ true → (cause ≡ Done → first_refused kept journal ≡ None) × ((line : ℕ) → cause ≡ RefusedPair line → first_refused kept journal ≡ Some line)) →
    (opened ≡ true → cause ≢ Memory → EndsWith journal cause) → (cause ≡ Disk → HasRisen d0 d1) →
    EndsLoad db kept left cause opened opening journal ⊎ (cause ≡ Memory) ⊎ Failing s0 s1 ⊎ HasRisen d0 d1
load_completes files db kept left s0 s1 d0 d1 cause opened opening journal can past runs unreadable wrong placed refused ends failed = by_cause cause past runs unreadable wrong placed refused ends failed
  where
    place : Bool
    place = is_place db opening

    otherwise : DumpRead → Bool
    otherwise dump = keeps_otherwise dump.dup (database_of db opening)

    given : (cause : Cause) → opened ≡ true → (dump : DumpRead) × HasDump left dump × EndsByPlace Done place (otherwise dump) dump.dup_line → cause ≡ cause_of_load kept (cause_of_room journal) journal → EndsLoad db kept left cause opened opening journal
    given cause is p by = inl (p.0, p.1, is, takes_lines kept p.0.dup_line place (otherwise p.0) journal cause p.2.0 p.2.1 by)

    by_cause : (cause : Cause) → IsPast s0 s1 cause → RunsIf cause opened → ((corruption : Corruption) → cause ≡ Unreadable corruption → HasCorruption files corruption) → ((name : List ℕ) → cause ≡ WrongIndex name → HasWrongIndex files name) →
        (opened ≡ true → (dump : DumpRead) × HasDump left dump × EndsByPlace cause place (otherwise dump) dump.dup_line) →
        (opened ≡ true → (cause ≡ Done → first_refused kept journal ≡ None) × ((line : ℕ) → cause ≡ RefusedPair line → first_refused kept journal ≡ Some line)) →
        (opened ≡ true → cause ≢ Memory → EndsWith journal cause) → (cause ≡ Disk → HasRisen d0 d1) → EndsLoad db kept left cause opened opening journal ⊎ (cause ≡ Memory) ⊎ Failing s0 s1 ⊎ HasRisen d0 d1
    by_cause Done past runs unreadable wrong placed refused ends failed =
        let room : Done ≡ cause_of_room journal = in_room journal Done (λ e. cc) (ends runs (λ e. cc)) in
        inl (given Done runs (placed runs) (sym (ap cause_of_refusal ((refused runs).0 refl)) ∙ ap (λ (c : Cause). cause_of_load kept c journal) room))
    by_cause LogFull past runs unreadable wrong placed refused ends failed =
        let room : LogFull ≡ cause_of_room journal = in_room journal LogFull (λ e. cc) (ends runs (λ e. cc)) in
        inl (given LogFull runs (placed runs) (ap (λ (c : Cause). cause_of_load kept c journal) room))
    by_cause IdsEnded past runs unreadable wrong placed refused ends failed =
        ⊎_elim
        (λ (is : opened ≡ true).
        inl (given IdsEnded is (placed is) (ap (λ (c : Cause). cause_of_load kept c journal) (in_room journal IdsEnded (λ e. cc) (ends is (λ e. cc))))))
        (λ (none : opened ≡ false). inl (inr (none, refl)))
        (cases_Bool opened)
    by_cause (RefusedPair line) past runs unreadable wrong placed refused ends failed =
        let well : cause_of_journal journal ≡ Done = ends runs (λ e. cc) in
        let room : Done ≡ cause_of_room journal = in_room journal Done (λ e. cc) (inl (sym well)) in
        inl (given (RefusedPair line) runs (placed runs) (sym (ap cause_of_refusal ((refused runs).1 line refl)) ∙ ap (λ (c : Cause). cause_of_load kept c journal) room))
    by_cause NoDatabase past runs unreadable wrong placed refused ends failed =
        let p = placed runs in inl (inl (p.0, p.1, runs, lacks_place kept p.0.dup_line place (otherwise p.0) journal p.2))
    by_cause (OtherKind at) past runs unreadable wrong placed refused ends failed =
        let p = placed runs in inl (inl (p.0, p.1, runs, is_otherwise kept at p.0.dup_line place (otherwise p.0) journal p.2.0 p.2.1 p.2.2))
    by_cause Disk past runs unreadable wrong placed refused ends failed = inr (inr (inr (failed refl)))
    by_cause Memory past runs unreadable wrong placed refused ends failed = inr (inl refl)
    by_cause Input past runs unreadable wrong placed refused ends failed = inr (inr (inl past))
    by_cause (Unreadable corruption) past runs unreadable wrong placed refused ends failed = absurd (no_corruption_beside files corruption can.meaning (unreadable corruption refl) can.means)
    by_cause (WrongIndex name) past runs unreadable wrong placed refused ends failed =
        absurd (no_wrong_beside files name can.meaning (wrong name refl) can.means (none_wrong can.means.held can.meaning can.means.reads can.indexed))
    by_cause cause past runs unreadable wrong placed refused ends failed = absurd past
