use Rattle.std.proofs.Common.{◌≡◌, ◌∙◌, ◌∷◌, ap, sym, subst, refl, true, false, inl, inr, List, [], ℕ, arith}
use Rattle.std.proofs.lemmas.Result.{IfOk-from_err}
use Rattle.clap.specs.Walk.{is_empty}
use Rattle.clap.specs.Simple.{App, HasMatchesOf, subcommand_of, subcommand_rows_of}
use Rattle.clap.specs.Values.{kind_of}
use Rattle.clap.specs.Kinds.{HasKind, Kinds}
use Rattle.clap.specs.Faults.{fault_of, is_simple_and_free}
use Rattle.clap.specs.declared.parser.matches.ArgMatches.{ArgMatches}
use Rattle.clap.specs.declared.error.Error.{Error}
use Rattle.clap.specs.declared.error.kind.ErrorKind.TheVariants.{OutOfMemory}
use Rattle.command_line.specs.Arguments.{is_parsed, jedb}
use Rattle.command_line.proofs.arguments.found_in.Goals as goal

is_free : is_simple_and_free jedb ≡ true
is_free = refl

parsed : (app : App) (args : List (List ℕ)) → app ≡ jedb → (is_simple_and_free app ≡ true → fault_of app args ≡ []) → true ≡ is_parsed args
unfolding is_parsed
parsed app args is no_fault = sym (ap is_empty (subst (λ (a : App). is_simple_and_free a ≡ true → fault_of a args ≡ []) is no_fault is_free))

some_kind : (kinds : Kinds) (error : Error) → (kind_of error ≡ OutOfMemory → ⊥) → HasKind kinds error → false ≡ is_empty kinds
some_kind [] error other (inl memory) = absurd (other memory)
some_kind [] error other (inr among) = absurd among
some_kind (k ∷ kinds) error other has = grind arith

refused : (app : App) (args : List (List ℕ)) (error : Error) → app ≡ jedb → (kind_of error ≡ OutOfMemory → ⊥)
    → (is_simple_and_free app ≡ true → HasKind (fault_of app args) error) → false ≡ is_parsed args
unfolding is_parsed
refused app args error is other fault =
    some_kind (fault_of jedb args) error other (subst (λ (a : App). is_simple_and_free a ≡ true → HasKind (fault_of a args) error) is fault is_free)

found : (app : App) (args : List (List ℕ)) (m : ArgMatches) → app ≡ jedb → HasMatchesOf app args m → subcommand_rows_of m ≡ subcommand_of jedb args
found app args m is has = (subst (λ (a : App). HasMatchesOf a args m) is has refl).1

pub returns-in-Ok-clause-parsed : goal.returns-in-Ok-clause-parsed
returns-in-Ok-clause-parsed c = parsed _ _ c.in_ok-jedb_command.ensures c.in-Ok.ensures.kinds

pub returns-in-Ok-clause-found : goal.returns-in-Ok-clause-found
returns-in-Ok-clause-found c = found _ _ c.in-Ok.found c.in_ok-jedb_command.ensures c.in-Ok.ensures.matches

pub returns-in_err-jedb_command : goal.returns-in_err-jedb_command
returns-in_err-jedb_command c = record {
  parsed = IfOk-from_err c.from_residual.result _ c.from_residual.ensures.0;
  found = IfOk-from_err c.from_residual.result _ c.from_residual.ensures.0;
}

pub returns-in-OutOfMemory : goal.returns-in-OutOfMemory
returns-in-OutOfMemory c = record { parsed = tt; found = tt }

pub returns-in_default : goal.returns-in_default
returns-in_default c = record {
  parsed = refused _ _ c.in-Err.error c.in_ok-jedb_command.ensures (λ memory. c.in_default.not-OutOfMemory (c.kind-kind.ensures ∙ memory)) c.in-Err.ensures.kinds;
  found = tt;
}
