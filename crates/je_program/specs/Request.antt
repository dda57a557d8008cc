-- What a program is to do.
use Rattle.std.specs.Prelude.{ℕ, ◌≡◌, ◌≤◌, ◌^◌, List, Option, Some, None, true}
use Rattle.std.specs.List.{list_all}
use Rattle.store_model.specs.declared.plan.ScriptLine.{ScriptLine}
use Rattle.store_model.specs.declared.store.Store.{Store}
use Rattle.command_line.specs.declared.command.Command.{Command}
use Rattle.command_line.specs.declared.command.Command.TheVariants.{Dump as DumpCommand, Load as LoadCommand, PrintLog as PrintLogCommand, Verify as VerifyCommand, Stat as StatCommand}
use Rattle.engine.specs.declared.config.Config.{Config}
use Rattle.script_text.specs.Grammar.{is_line}
use Rattle.je_program.specs.declared.cause.Cause.{Cause}
use Rattle.je_program.specs.declared.cause.Cause.TheVariants.{Usage, Memory}
use Rattle.je_program.specs.declared.text.Text.{Text}
use Rattle.je_program.specs.declared.request.Request.{Request}
use Rattle.je_program.specs.declared.request.Request.TheVariants.{Life, Dump, Load, PrintLog, Verify, Stat}
use Rattle.je_program.specs.Commands.{AreLines, IsTextOf, ReadsDump, ReadsInput, Work, file_max_of, is_script, text_of}

-- why the arguments give no command
abbrev pub IsNoCommand : Option Command → Cause → Type 0
IsNoCommand command Usage = command ≡ None
IsNoCommand command Memory = Unit {0}
IsNoCommand command cause = ⊥

-- the settings with which an environment is opened are in their bounds
pub record IsConfig (config : Config) : Type 0 where
  pub file_max : config.file_max ≤ 2 ^ 30
  pub least : 4 ≤ config.fanout
  pub most : config.fanout ≤ 128

-- the lines that a command gives an environment, the settings with which that is opened, and what it writes
pub record IsLife (command : Option Command) (left rest : Option (List ℕ)) (config : Config) (lines : List ScriptLine) (text : Text) : Type 0 where
  pub runs : is_script command ≡ true
  pub file_max : file_max_of command ≡ Some config.file_max
  pub config_is : IsConfig config
  pub read : ReadsInput command left rest
  pub are : (opening : Store) → AreLines command left rest opening lines
  pub each : list_all is_line lines ≡ true
  pub text_is : (w : Work) → IsTextOf command w (text_of text w.opened w.journal w.totals)

-- what a command is to do, once its input was read
abbrev pub IsRequestOf : Option Command → Option (List ℕ) → Option (List ℕ) → Request → Type 0
IsRequestOf command left rest (Life config plan text) = IsLife command left rest config plan.lines text
IsRequestOf command left rest (Dump db printed) = (command ≡ Some (DumpCommand db printed)) × (rest ≡ left)
IsRequestOf command left rest (Load db no_overwrite dump) = (command ≡ Some (LoadCommand db no_overwrite)) × ReadsDump left rest dump
IsRequestOf command left rest PrintLog = (command ≡ Some PrintLogCommand) × (rest ≡ left)
IsRequestOf command left rest Verify = (command ≡ Some VerifyCommand) × (rest ≡ left)
IsRequestOf command left rest Stat = (command ≡ Some StatCommand) × (rest ≡ left)
