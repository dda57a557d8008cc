-- What a program is to do.
use Rattle.std.proofs.Common.{◌≡◌, ℕ, true, List, Option, Some, Result, Ok, Err, sym, subst}
use Rattle.std.specs.Prelude.{IfErr, IsErrAnd}
use Rattle.command_line.specs.declared.command.RunSettings.{RunSettings}
use Rattle.command_line.specs.declared.command.Command.{Command}
use Rattle.command_line.specs.declared.command.Command.TheVariants.{Soak}
use Rattle.je_program.specs.declared.cause.Cause.{Cause}
use Rattle.je_program.specs.declared.cause.Cause.TheVariants.{Usage, BadScript, BadDump, Memory, Input, InputTooLong}
use Rattle.je_program.specs.Commands.{may_end, reads_input}
use Rattle.je_program.specs.Program.{IsNoRequest, StopsReading}
use Rattle.je_program.specs.Request.{IsNoCommand}

-- why the input was not what a command reads is why the command has nothing to do
unread : (command : Option Command) (left : Option (List ℕ)) (before after : ℕ) (cause : Cause) → reads_input command ≡ true → may_end command cause ≡ true → StopsReading left before after cause →
    IsNoRequest command left before after cause
unread command left before after Usage reads may stops = absurd stops
unread command left before after Memory reads may stops = tt
unread command left before after Input reads may stops = (reads, may, stops)
unread command left before after InputTooLong reads may stops = (reads, may, stops)
unread command left before after (BadScript line) reads may stops = (reads, may, stops)
unread command left before after (BadDump line) reads may stops = (reads, may, stops)
unread command left before after cause reads may stops = absurd stops

pub no_reading : {T : Type 0} (command : Option Command) (left : Option (List ℕ)) (before after : ℕ) (r : Result T Cause) → reads_input command ≡ true → IfErr r (λ cause. may_end command cause ≡ true) →
    IfErr r (StopsReading left before after) → IfErr r (IsNoRequest command left before after)
no_reading command left before after (Ok v) reads may stops = tt
no_reading command left before after (Err cause) reads may stops = unread command left before after cause reads may stops

pub no_soak : {T : Type 0} (seed : ℕ) (settings : RunSettings) (left : Option (List ℕ)) (before after : ℕ) (r : Result T Cause) → IfErr r (λ cause. cause ≡ Memory) → IfErr r (IsNoRequest (Some (Soak seed settings)) left before after)
no_soak seed settings left before after (Ok v) is = tt
no_soak seed settings left before after (Err cause) is = subst (IsNoRequest (Some (Soak seed settings)) left before after) (sym is) tt

-- arguments without a command
no_command : (command : Option Command) (left : Option (List ℕ)) (before after : ℕ) (cause : Cause) → IsNoCommand command cause → IsNoRequest command left before after cause
no_command command left before after Usage none = none
no_command command left before after Memory none = tt
no_command command left before after cause none = absurd none

pub none_given : {T : Type 0} (command : Option Command) (left : Option (List ℕ)) (before after : ℕ) (r : Result T Cause) (cause : Cause) → IsErrAnd r (λ x. x ≡ cause) → IsNoCommand command cause →
    IfErr r (IsNoRequest command left before after)
none_given command left before after (Ok v) cause is none = tt
none_given command left before after (Err x) cause is none = subst (IsNoRequest command left before after) (sym is) (no_command command left before after cause none)
