-- The command line of `jedb`, as the command parser takes it.
use Rattle.std.specs.Prelude.{ℕ, ◌≤◌, ◌&&◌, ◌||◌, List, [], ◌∷◌, Bool, true, false, codes, pos, Option, Some, None, option_and_then, option_map, IfSome, if◌then◌else◌}
use Rattle.std.specs.Option.{option_map_or}
use Rattle.std.specs.Str.{bytes_eq}
use Rattle.std.specs.Str.Parse.{digits_value, without_leading_plus}
use Rattle.clap.specs.ValueTests.{is_unsigned_in}
use Rattle.clap.specs.Walk.{Row, Rule, Text, first_of, is_empty, one_of}
use Rattle.clap.specs.Simple.{App, new_app, new_rule, on_top, subcommand_of, with_rule, with_subcommand}
use Rattle.clap.specs.Faults.{fault_of}
use Rattle.clap.specs.declared.builder.action.ArgAction.TheVariants.{SetTrue}
use Rattle.clap.specs.declared.builder.value_parser.ValueParser.TheVariants as parser
use Rattle.je_order.specs.Words.{is_word}
use Rattle.command_line.specs.declared.command.RunSettings.{RunSettings}
use Rattle.command_line.specs.declared.command.Command.{Command}
use Rattle.command_line.specs.declared.command.Command.TheVariants.{Run, Soak, Dump, Load, PrintLog, Verify, Stat}

-- ---- the rules

-- an option of this name that is required, and takes one value
abbrev pub text_option : Text → Rule
text_option name = record (new_rule name) { long = Some name; required = true }

-- the option that names the environment's folder
abbrev pub home_option : Rule
home_option = text_option (codes "home")

-- the option that names a database
abbrev pub db_option : Rule
db_option = text_option (codes "db")

-- an option of this name that takes no value
abbrev pub flag_option : Text → Rule
flag_option name = record (new_rule name) { long = Some name; action = Some SetTrue }

-- the option that asks for bytes as themselves where they can be printed
abbrev pub print_option : Rule
print_option = flag_option (codes "print")

-- the option that asks that records which are there stay
abbrev pub no_overwrite_option : Rule
no_overwrite_option = flag_option (codes "no-overwrite")

-- an option of this name that is one number in these bounds; it has these defaults, at most one, or is required
abbrev pub number_option : Text → ℕ → ℕ → List Text → Bool → Rule
number_option name least most defaults required = record (new_rule name) {
  long = Some name;
  parser = Some (parser.Signed (pos least) (pos most));
  defaults = defaults;
  required = required;
}

-- the option that says how many bytes a log file holds at most: ten million where it is not given
abbrev pub file_max_option : Rule
file_max_option = number_option (codes "file-max") 4096 1073741824 (codes "10000000" ∷ []) false

-- the option that says how many slots a node has at most: 128 where it is not given
abbrev pub fanout_option : Rule
fanout_option = number_option (codes "fanout") 4 128 (codes "128" ∷ []) false

-- the option from whose number a soak's script is drawn: it is required
abbrev pub seed_option : Rule
seed_option = number_option (codes "seed") 0 4294967295 [] true

-- a command with the two options that say how an environment is opened
abbrev pub with_settings : App → App
with_settings command = with_rule (with_rule command file_max_option) fanout_option

-- `run`, which takes the folder and the settings
abbrev pub run_command : App
run_command = with_settings (with_rule (new_app (codes "run")) home_option)

-- `soak`, which takes a seed too
abbrev pub soak_command : App
soak_command = with_settings (with_rule (with_rule (new_app (codes "soak")) home_option) seed_option)

-- a command of this name that takes the folder alone
abbrev pub folder_command : Text → App
folder_command name = with_rule (new_app name) home_option

-- `printlog`, which takes the folder alone
abbrev pub printlog_command : App
printlog_command = folder_command (codes "printlog")

-- `verify`, which does too
abbrev pub verify_command : App
verify_command = folder_command (codes "verify")

-- and `stat`
abbrev pub stat_command : App
stat_command = folder_command (codes "stat")

-- `dump`, which takes the folder, a database and how its bytes are shown
abbrev pub dump_command : App
dump_command = with_rule (with_rule (with_rule (new_app (codes "dump")) home_option) db_option) print_option

-- `load`, which takes the folder, a database and whether its records stay
abbrev pub load_command : App
load_command = with_rule (with_rule (with_rule (new_app (codes "load")) home_option) db_option) no_overwrite_option

-- `jedb`, which takes one of its commands; no program's name is before the arguments
abbrev pub jedb : App
jedb = with_subcommand (with_subcommand (with_subcommand (with_subcommand (with_subcommand (with_subcommand (with_subcommand
    (on_top (λ s. record s { no_binary_name = true; subcommand_required = true }) (new_app (codes "jedb")))
    run_command.top) soak_command.top) printlog_command.top) dump_command.top) load_command.top) verify_command.top) stat_command.top

-- ---- what is read

-- whether a parse meets no fault at the arguments
unfoldable pub is_parsed : List Text → Bool
is_parsed args = is_empty (fault_of jedb args)

-- whether the command of this name takes a database
abbrev pub takes_database : Text → Bool
takes_database name = bytes_eq name (codes "dump") || bytes_eq name (codes "load")

-- whether the value of `--db` is a database's name, in what a parse finds for a command that has this option
abbrev pub has_name : Text × List Row → Bool
has_name given = if takes_database given.0 then option_map_or is_word (first_of (codes "db") given.1) false else true

-- the same, in what a parse finds
abbrev pub is_named : Option (Text × List Row) → Bool
is_named found = option_map_or has_name found true

-- whether the arguments are valid: a parse meets no fault at them, and a database that they name has such a name
unfoldable pub is_taken : List Text → Bool
is_taken args = is_parsed args && is_named (subcommand_of jedb args)

-- the value of `--home`, in what a parse finds for a command
abbrev pub home_of : Option (Text × List Row) → Option Text
home_of = option_and_then (λ command. first_of (codes "home") command.1)

-- the number that decimal digits spell, with or without a `+` before them
abbrev pub decimal_value : Text → ℕ
decimal_value text = digits_value 10 (without_leading_plus text)

-- the number that a text is read as, if it spells one below 2^32
abbrev pub number_read : Text → Option ℕ
number_read text = if is_unsigned_in 0 4294967295 text then Some (decimal_value text) else None

-- the number of an option, given or by default, in what a parse finds of a command's arguments
abbrev pub number_of : Text → List Row → Option ℕ
number_of name rows = option_and_then number_read (one_of name rows)

-- settings of these two numbers
abbrev pub settings_with : ℕ → ℕ → RunSettings
settings_with file_max fanout = record { file_max = file_max; fanout = fanout }

-- the two settings
abbrev pub settings_of : List Row → Option RunSettings
settings_of rows = option_and_then (λ file_max. option_map (settings_with file_max) (number_of (codes "fanout") rows)) (number_of (codes "file-max") rows)

-- `run` with the two settings
abbrev pub run_of : List Row → Option Command
run_of rows = option_map Run (settings_of rows)

-- `soak` with its seed and the two settings
abbrev pub soak_from : List Row → Option Command
soak_from rows = option_and_then (λ seed. option_map (Soak seed) (settings_of rows)) (number_of (codes "seed") rows)

-- whether an option without a value is given
abbrev pub is_given : Text → List Row → Bool
is_given name rows = option_map_or (λ value. bytes_eq value (codes "true")) (first_of name rows) false

-- a text, if it is the name of a database
abbrev pub name_if : Text → Option Text
name_if db = if is_word db then Some db else None

-- the database that `--db` names, if its value is the name of one
abbrev pub db_of : List Row → Option Text
db_of rows = option_and_then name_if (first_of (codes "db") rows)

-- `dump` of a database
abbrev pub dump_asked : Bool → Text → Command
dump_asked printed db = Dump db printed

-- `dump` with its options
abbrev pub dump_named : List Row → Option Command
dump_named rows = option_map (dump_asked (is_given (codes "print") rows)) (db_of rows)

-- `load` into a database
abbrev pub load_with : Bool → Text → Command
load_with no_overwrite db = Load db no_overwrite

-- `load` with its options
abbrev pub load_named : List Row → Option Command
load_named rows = option_map (load_with (is_given (codes "no-overwrite") rows)) (db_of rows)

-- the command of this name with its options
abbrev pub command_of : Text × List Row → Option Command
command_of given =
    if bytes_eq given.0 (codes "run") then run_of given.1
    else if bytes_eq given.0 (codes "soak") then soak_from given.1
    else if bytes_eq given.0 (codes "dump") then dump_named given.1
    else if bytes_eq given.0 (codes "load") then load_named given.1
    else if bytes_eq given.0 (codes "verify") then Some Verify
    else if bytes_eq given.0 (codes "stat") then Some Stat
    else Some PrintLog

-- what is found when the folder and the command are there
abbrev pub parsed_line : Option (Text × List Row) → Option (Text × Command)
parsed_line found = option_and_then (λ home. option_map (λ command. (home, command)) (option_and_then command_of found)) (home_of found)

-- the folder that valid arguments name
unfoldable pub home_in : List Text → Option Text
home_in args = if is_taken args then home_of (subcommand_of jedb args) else None

-- the command that valid arguments give
unfoldable pub command_in : List Text → Option Command
command_in args = if is_taken args then option_and_then command_of (subcommand_of jedb args) else None

-- ---- settings

-- how many bytes a log file holds at most, and how many slots a node has, are in their bounds
pub record AreSettings (settings : RunSettings) : Type 0 where
  pub least : 4096 ≤ settings.file_max
  pub most : settings.file_max ≤ 1073741824
  pub fewest : 4 ≤ settings.fanout
  pub slots : settings.fanout ≤ 128

-- the settings with which a command opens an environment, if it opens one
abbrev pub settings_in : Command → Option RunSettings
settings_in (Run settings) = Some settings
settings_in (Soak seed settings) = Some settings
settings_in (Dump db printed) = None
settings_in (Load db no_overwrite) = None
settings_in PrintLog = None
settings_in Verify = None
settings_in Stat = None

-- the settings of a command are in their bounds, if it has some
abbrev pub HasSettings : Command → Type 0
HasSettings command = IfSome (settings_in command) AreSettings
