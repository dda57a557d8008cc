-- How a program ends whose environment was not opened.
use Rattle.std.proofs.Common.{◌≡◌, ◌≤◌, ℕ, Bool, true, false, List, [], refl, sym, ap, ◌∙◌, subst, arith}
use Rattle.je_order.specs.Counts.{HasRisen}
use Rattle.je_disk.specs.States.{Files}
use Rattle.store_model.specs.declared.event.Event.{Event}
use Rattle.store_model.specs.Journal.{is_disk_fault}
use Rattle.je_answers.specs.Journal.{has_answer}
use Rattle.log_replay.specs.declared.corruption.Corruption.{Corruption}
use Rattle.engine.specs.declared.open_err.OpenErr.{OpenErr}
use Rattle.engine.specs.declared.open_err.OpenErr.TheVariants.{Disk as NoDisk, Memory as NoMemory, IdsEnded as NoNumbers, Unreadable as CannotRead, WrongIndex as FoundWrong}
use Rattle.engine.specs.Files.{HasCorruption, HasWrongIndex}
use Rattle.engine.specs.Opening.{HasNoNumbers, StopsBy}
use Rattle.je_program.specs.declared.cause.Cause.{Cause}
use Rattle.je_program.specs.declared.cause.Cause.TheVariants.{Disk, IdsEnded, Unreadable, WrongIndex}
use Rattle.je_program.specs.Commands.{ends_soak}
use Rattle.je_program.specs.Program.{ClosesRun, RunsIf, cause_of_opening}

pub stopped_runs : (error : OpenErr) (opened : Bool) → opened ≡ false → RunsIf (cause_of_opening error) opened
stopped_runs NoDisk opened is = tt
stopped_runs NoMemory opened is = tt
stopped_runs NoNumbers opened is = tt
stopped_runs (CannotRead corruption) opened is = is
stopped_runs (FoundWrong name) opened is = is

pub stopped_ends : (error : OpenErr) → ends_soak (cause_of_opening error) ≡ true
stopped_ends NoDisk = refl
stopped_ends NoMemory = refl
stopped_ends NoNumbers = refl
stopped_ends (CannotRead corruption) = refl
stopped_ends (FoundWrong name) = refl

pub stopped_unreadable : (observable : Bool) (files : Files) (before after : ℕ) (error : OpenErr) (corruption : Corruption) → StopsBy observable files before after error →
    cause_of_opening error ≡ Unreadable corruption → observable ≡ true → HasCorruption files corruption
stopped_unreadable observable files before after NoDisk corruption stops is observed = cc
stopped_unreadable observable files before after NoMemory corruption stops is observed = cc
stopped_unreadable observable files before after NoNumbers corruption stops is observed = cc
stopped_unreadable observable files before after (FoundWrong name) corruption stops is observed = cc
stopped_unreadable observable files before after (CannotRead found) corruption stops is observed =
    subst (λ (c : Corruption). HasCorruption files c) (same found corruption is) (stops observed)
  where
    same : (a b : Corruption) → Unreadable a ≡ Unreadable b → a ≡ b
    same a b e = cc

pub stopped_wrong : (observable : Bool) (files : Files) (before after : ℕ) (error : OpenErr) (name : List ℕ) → StopsBy observable files before after error →
    cause_of_opening error ≡ WrongIndex name → observable ≡ true → HasWrongIndex files name
stopped_wrong observable files before after NoDisk name stops is observed = cc
stopped_wrong observable files before after NoMemory name stops is observed = cc
stopped_wrong observable files before after NoNumbers name stops is observed = cc
stopped_wrong observable files before after (CannotRead found) name stops is observed = cc
stopped_wrong observable files before after (FoundWrong found) name stops is observed =
    subst (λ (n : List ℕ). HasWrongIndex files n) (same found name is) (stops observed)
  where
    same : (a b : List ℕ) → WrongIndex a ≡ WrongIndex b → a ≡ b
    same a b e = cc

pub stopped_failed : (observable : Bool) (files : Files) (before after : ℕ) (error : OpenErr) → StopsBy observable files before after error → cause_of_opening error ≡ Disk → HasRisen before after
stopped_failed observable files before after NoDisk stops is = stops
stopped_failed observable files before after NoMemory stops is = cc
stopped_failed observable files before after NoNumbers stops is = cc
stopped_failed observable files before after (CannotRead corruption) stops is = cc
stopped_failed observable files before after (FoundWrong name) stops is = cc

-- a program without a journal, whose disk failed only where its count rose
pub stopped_caused : (before mid after : ℕ) (journal : List Event) (cause : Cause) → after ≡ mid → journal ≡ [] → before ≤ mid → (cause ≡ Disk → HasRisen before mid) → ClosesRun before after journal cause
stopped_caused before mid after journal cause same none later failed = record {
  never_falls = omega (arith, same, later);
  fault = λ h. (let e : has_answer is_disk_fault [] ≡ true = sym (ap (has_answer is_disk_fault) none) ∙ h in cc);
  failed = λ is. subst (λ (n : ℕ). HasRisen before n) (sym same) (failed is);
}

-- no number of a node was left
pub stopped_numbers : (observable : Bool) (files : Files) (before after : ℕ) (error : OpenErr) → StopsBy observable files before after error → cause_of_opening error ≡ IdsEnded → observable ≡ true → HasNoNumbers files
stopped_numbers observable files before after NoDisk stops is = cc
stopped_numbers observable files before after NoMemory stops is = cc
stopped_numbers observable files before after NoNumbers stops is = stops
stopped_numbers observable files before after (CannotRead corruption) stops is = cc
stopped_numbers observable files before after (FoundWrong name) stops is = cc
