-- Reading the input.
use Rattle.std.proofs.Common.{◌≡◌, ℕ, ◌+◌, ◌<◌, ◌≤◌, true, List, [], length, take, Option, Some, None, Result, Ok, Err, ap, refl, ◌∙◌, subst, arith, length-take}
use Rattle.std.specs.Prelude.{IfErr, IfSome, IsErrAnd}
use Rattle.std.proofs.lemmas.List.{take_all}
use Rattle.je_io.specs.Source.{TakesAll}
use Rattle.je_io.specs.declared.reading.ReadErr.{ReadErr}
use Rattle.je_io.specs.declared.reading.ReadErr.TheVariants.{Failed, Memory as NoMemory}
use Rattle.dump_text.specs.declared.dump.Dump.{Dump}
use Rattle.dump_text.specs.Grammar.{dump_of}
use Rattle.store_model.specs.declared.plan.RunPlan.{RunPlan}
use Rattle.script_text.specs.Grammar.{plan_of}
use Rattle.je_program.specs.declared.reading.TheConstants.{MOST_INPUT}
use Rattle.je_program.specs.declared.cause.Cause.{Cause}
use Rattle.je_program.specs.Commands.{ReadsDump, ReadsPlan, ends_load, ends_script}
use Rattle.je_program.specs.Reading.{cause_of_reading}

-- an input of which more than the limit was read is longer than the limit
pub long_input : (left rest : Option (List ℕ)) (bytes : List ℕ) → TakesAll left rest MOST_INPUT bytes → MOST_INPUT < length bytes → IfSome left (λ l. MOST_INPUT < length l)
long_input (Some left) (Some rest) bytes takes long =
    let front : length bytes ≡ length (take (MOST_INPUT + 1) left) = ap length takes.front in
    let most = length-take (MOST_INPUT + 1) left in
    omega arith
long_input (Some left) None bytes takes long = absurd takes
long_input None rest bytes takes long = tt

-- an input of which no more than the limit was read was read whole
whole : (left rest bytes : List ℕ) → TakesAll (Some left) (Some rest) MOST_INPUT bytes → length bytes ≤ MOST_INPUT → (bytes ≡ left) × (rest ≡ []) × (length left ≤ MOST_INPUT)
whole left rest bytes takes short =
    let front : length bytes ≡ length (take (MOST_INPUT + 1) left) = ap length takes.front in
    let most = length-take (MOST_INPUT + 1) left in
    let within : length left ≤ MOST_INPUT = omega arith in
    (takes.front ∙ take_all (MOST_INPUT + 1) left (omega arith), takes.at_end short, within)

pub reads_plan : (left rest : Option (List ℕ)) (bytes : List ℕ) (plan : RunPlan) → TakesAll left rest MOST_INPUT bytes → length bytes ≤ MOST_INPUT →
    plan_of bytes ≡ Ok plan → ReadsPlan left rest plan
reads_plan (Some left) (Some rest) bytes plan takes short is =
    let w = whole left rest bytes takes short in
    (w.2, subst (λ (b : List ℕ). plan_of b ≡ Ok plan) w.0 is, w.1)
reads_plan (Some left) None bytes plan takes short is = absurd takes
reads_plan None (Some rest) bytes plan takes short is = absurd takes
reads_plan None None bytes plan takes short is = tt

pub bad_line : (left rest : Option (List ℕ)) (bytes : List ℕ) (line : ℕ) → TakesAll left rest MOST_INPUT bytes → length bytes ≤ MOST_INPUT →
    plan_of bytes ≡ Err line → IfSome left (λ l. (length l ≤ MOST_INPUT) × (plan_of l ≡ Err line))
bad_line (Some left) (Some rest) bytes line takes short is =
    let w = whole left rest bytes takes short in
    (w.2, subst (λ (b : List ℕ). plan_of b ≡ Err line) w.0 is)
bad_line (Some left) None bytes line takes short is = absurd takes
bad_line None rest bytes line takes short is = tt

pub reads_dump : (left rest : Option (List ℕ)) (bytes : List ℕ) (dump : Dump) → TakesAll left rest MOST_INPUT bytes → length bytes ≤ MOST_INPUT →
    dump_of bytes ≡ Ok dump → ReadsDump left rest dump
reads_dump (Some left) (Some rest) bytes dump takes short is =
    let w = whole left rest bytes takes short in
    (w.2, subst (λ (b : List ℕ). dump_of b ≡ Ok dump) w.0 is, w.1)
reads_dump (Some left) None bytes dump takes short is = absurd takes
reads_dump None (Some rest) bytes dump takes short is = absurd takes
reads_dump None None bytes dump takes short is = tt

pub bad_dump_line : (left rest : Option (List ℕ)) (bytes : List ℕ) (line : ℕ) → TakesAll left rest MOST_INPUT bytes → length bytes ≤ MOST_INPUT →
    dump_of bytes ≡ Err line → IfSome left (λ l. (length l ≤ MOST_INPUT) × (dump_of l ≡ Err line))
bad_dump_line (Some left) (Some rest) bytes line takes short is =
    let w = whole left rest bytes takes short in
    (w.2, subst (λ (b : List ℕ). dump_of b ≡ Err line) w.0 is)
bad_dump_line (Some left) None bytes line takes short is = absurd takes
bad_dump_line None rest bytes line takes short is = tt

-- a failure to read ends a script so, and a dump that is loaded
failure_ends : (failure : ReadErr) → (ends_script (cause_of_reading failure) ≡ true) × (ends_load (cause_of_reading failure) ≡ true)
failure_ends Failed = (refl, refl)
failure_ends NoMemory = (refl, refl)

pub unread_script : {T : Type 0} (failure : ReadErr) (r : Result T Cause) → IsErrAnd r (λ cause. cause ≡ cause_of_reading failure) → IfErr r (λ cause. ends_script cause ≡ true)
unread_script failure (Ok v) is = tt
unread_script failure (Err cause) is = ap ends_script is ∙ (failure_ends failure).0

pub unread_dump : {T : Type 0} (failure : ReadErr) (r : Result T Cause) → IsErrAnd r (λ cause. cause ≡ cause_of_reading failure) → IfErr r (λ cause. ends_load cause ≡ true)
unread_dump failure (Ok v) is = tt
unread_dump failure (Err cause) is = ap ends_load is ∙ (failure_ends failure).1
