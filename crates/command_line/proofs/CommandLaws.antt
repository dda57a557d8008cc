-- Valid arguments name a folder, and give a command with its options.
use Rattle.std.proofs.Common.{◌≡◌, ◌∙◌, ◌≤◌, ◌||◌, ℕ, arith, Bool, true, false, ap, refl, sym, subst, inl, inr, codes, List, [], ◌∷◌, ◌++◌, Option, Some, None, is_some, cond, true≢false}
use Rattle.std.specs.Prelude.{IfSome, find, option_map, option_and_then, if◌then◌else◌}
use Rattle.std.specs.Option.{option_map_or}
use Rattle.std.specs.Str.{bytes_eq}
use Rattle.std.proofs.lemmas.Slice.Eq.{bytes_eq-Decides}
use Rattle.clap.specs.Facts.{explicit_source}
use Rattle.je_order.specs.Words.{is_word}
use Rattle.clap.specs.Walk.{Row, Text, answers_to, finished, first_of, has_row, is_empty, nothing_held, settled, walk, walk_from}
use Rattle.clap.specs.Simple.{App, Shape, built, built_leaf, entered, filled_from, help_rule, help_shape, names_of, rows_at, subcommand_of}
use Rattle.clap.specs.Takes.{is_given}
use Rattle.clap.specs.Kinds.{Kinds, or_else}
use Rattle.clap.specs.Faults.{built_fault, check_fault, defaults_fault, entered_fault, fault_of, level_fault, settle_fault, walk_fault}
use Rattle.clap.specs.declared.builder.value_parser.Reading.{Reading}
use Rattle.command_line.specs.declared.command.RunSettings.{RunSettings}
use Rattle.command_line.specs.declared.command.Command.{Command}
use Rattle.command_line.specs.declared.command.Command.TheVariants.{Run, Soak, PrintLog, Verify, Stat}
use Rattle.command_line.specs.Arguments.{AreSettings, HasSettings, command_of, db_of, dump_command, dump_asked, folder_command, has_name, home_of, is_given as is_given_flag, is_named, is_parsed, jedb, load_command, load_with, name_if, number_of, number_read, printlog_command, run_command, settings_of, soak_command, stat_command, verify_command}
use Rattle.command_line.proofs.WalkLaws.{neither}
use Rattle.command_line.proofs.StopLaws.{StopsOther, walk_other}
use Rattle.command_line.proofs.RowLaws.{AreFilled, IsNumberIf, IsValue, Number, first_there, number_there, row_there}
use Rattle.command_line.proofs.NumberLaws.{number_spelled}
use Rattle.command_line.proofs.LevelLaws.{AreRead, flag_kept, help_kept, level_read, number_kept, text_kept, uses_kept}

-- ---- options in rows that were read

-- what arguments give at which a parse meets no fault: a folder, and a command with settings in their bounds, if a database that they name has such a name
pub record HasLine (found : Option (Text × List Row)) : Type 0 where
  pub home : Text
  pub home_is : home_of found ≡ Some home
  pub command_there : is_some (option_and_then command_of found) ≡ is_named found
  pub bounded : IfSome (option_and_then command_of found) HasSettings

-- the same of a command that is given in any case
with_command : (found : Option (Text × List Row)) (home : Text) (command : Command) → home_of found ≡ Some home → option_and_then command_of found ≡ Some command → is_named found ≡ true → HasSettings command → HasLine found
with_command found home command home_is command_is named bounded = record {
  home = home;
  home_is = home_is;
  command_there = ap is_some command_is ∙ sym named;
  bounded = subst (λ (o : Option Command). IfSome o HasSettings) (sym command_is) bounded;
}

-- an option has a number in its bounds
pub record HasNumber (number : Number) (rows : List Row) : Type 0 where
  pub value : ℕ
  pub is : number_of number.name rows ≡ Some value
  pub least : number.low ≤ value
  pub most : value ≤ number.high

given_there : (o : Option Row) → option_map_or (λ r. explicit_source r.source) o false ≡ true → is_some o ≡ true
given_there None given = given
given_there (Some r) given = refl

module _ (table : List Number) (rows : List Row) (are : AreFilled table rows) where
  has_number : (number : Number) → number.high ≤ 4294967295 → ((id : Text) (how : Reading) (v : Text) → IsValue table id how v → IsNumberIf id how v number) →
      is_some (find (λ r. bytes_eq r.id number.name) rows) ≡ true → HasNumber number rows
  has_number number small part there =
      let one = number_there table number rows part are there in
      let read = number_spelled number.low number.high small one.0 one.2 in
      record { value = read.number; is = ap (option_and_then number_read) one.1 ∙ read.read; least = read.least; most = read.most }

  number_defaulted : (number : Number) → number.high ≤ 4294967295 → ((id : Text) (how : Reading) (v : Text) → IsValue table id how v → IsNumberIf id how v number) →
      has_row number.name rows ≡ true → HasNumber number rows
  number_defaulted number small part there = has_number number small part (row_there number.name rows there)

  number_given : (number : Number) → number.high ≤ 4294967295 → ((id : Text) (how : Reading) (v : Text) → IsValue table id how v → IsNumberIf id how v number) →
      is_given number.name rows ≡ true → HasNumber number rows
  number_given number small part given = has_number number small part (given_there (find (λ r. bytes_eq r.id number.name) rows) given)

  has_home : is_given (codes "home") rows ≡ true → (home : Text) × (home_of (Some ([], rows)) ≡ Some home)
  has_home given = first_there table (codes "home") rows are (given_there (find (λ r. bytes_eq r.id (codes "home")) rows) given)

-- ---- the numbers

abbrev file_max_number : Number
file_max_number = record { name = codes "file-max"; low = 4096; high = 1073741824 }

abbrev fanout_number : Number
fanout_number = record { name = codes "fanout"; low = 4; high = 128 }

abbrev seed_number : Number
seed_number = record { name = codes "seed"; low = 0; high = 4294967295 }

-- ---- each command

-- a command as it is built below `jedb`
abbrev leaf_of : App → Shape
leaf_of command = record command.top { rules = filled_from 1 (command.top.rules ++ help_rule ∷ []); no_binary_name = true; disable_help_subcommand = true; is_built = true }

abbrev settings_numbers : List Number
settings_numbers = file_max_number ∷ fanout_number ∷ []

abbrev soak_numbers : List Number
soak_numbers = seed_number ∷ file_max_number ∷ fanout_number ∷ []

-- the test fails, since the names differ
abbrev apart : {A : Type 0} → false ≡ true → A
apart other = absurd (true≢false (sym other))

settings_there : (rows : List Row) → HasNumber file_max_number rows → HasNumber fanout_number rows → (settings : RunSettings) × (settings_of rows ≡ Some settings) × AreSettings settings
settings_there rows file_max fanout = (
  record { file_max = file_max.value; fanout = fanout.value },
  rw (file_max.is, fanout.is) refl,
  record { least = file_max.least; most = file_max.most; fewest = fanout.least; slots = fanout.most },
)

run_has_line : (args : List Text) → level_fault (leaf_of run_command) [] nothing_held args false [] ≡ [] → HasLine (Some (rows_at (leaf_of run_command) args))
run_has_line args none =
    let s = leaf_of run_command in
    let rows = (rows_at s args).1 in
    let read : AreRead settings_numbers s rows = level_read settings_numbers s args
    (uses_kept settings_numbers s.rules (
      text_kept settings_numbers (codes "home") (λ v. (apart, (apart, tt))),
      (
        number_kept settings_numbers (codes "file-max") 4096 1073741824 (codes "10000000" ∷ []) false (λ v is. ((λ same. (refl, is)), (apart, tt))),
        (
          number_kept settings_numbers (codes "fanout") 4 128 (codes "128" ∷ []) false (λ v is. (apart, ((λ same. (refl, is)), tt))),
          (help_kept settings_numbers, tt),
        ),
      ),
    ))
    (inl refl, (inr ((λ same. (refl, refl)), (apart, tt)), (inr (apart, ((λ same. (refl, refl)), tt)), (inl refl, tt)))) none in
    let home = has_home settings_numbers rows read.filled (read.given.0 refl) in
    let settings = settings_there rows
    (number_defaulted settings_numbers rows read.filled file_max_number (omega arith) (λ id how v is. is.0) (read.defaulted.1.0 refl))
    (number_defaulted settings_numbers rows read.filled fanout_number (omega arith) (λ id how v is. is.1.0) (read.defaulted.1.1.0 refl)) in
    with_command (Some (rows_at s args)) home.0 (Run settings.0) home.1 (ap (option_map Run) settings.1) refl settings.2

soak_has_line : (args : List Text) → level_fault (leaf_of soak_command) [] nothing_held args false [] ≡ [] → HasLine (Some (rows_at (leaf_of soak_command) args))
soak_has_line args none =
    let s = leaf_of soak_command in
    let rows = (rows_at s args).1 in
    let read : AreRead soak_numbers s rows = level_read soak_numbers s args
    (uses_kept soak_numbers s.rules (
      text_kept soak_numbers (codes "home") (λ v. (apart, (apart, (apart, tt)))),
      (
        number_kept soak_numbers (codes "seed") 0 4294967295 [] true (λ v is. ((λ same. (refl, is)), (apart, (apart, tt)))),
        (
          number_kept soak_numbers (codes "file-max") 4096 1073741824 (codes "10000000" ∷ []) false (λ v is. (apart, ((λ same. (refl, is)), (apart, tt)))),
          (
            number_kept soak_numbers (codes "fanout") 4 128 (codes "128" ∷ []) false (λ v is. (apart, (apart, ((λ same. (refl, is)), tt)))),
            (help_kept soak_numbers, tt),
          ),
        ),
      ),
    ))
    (inl refl, (inl refl, (inr (apart, ((λ same. (refl, refl)), (apart, tt))), (inr (apart, (apart, ((λ same. (refl, refl)), tt))), (inl refl, tt))))) none in
    let home = has_home soak_numbers rows read.filled (read.given.0 refl) in
    let seed = number_given soak_numbers rows read.filled seed_number (omega arith) (λ id how v is. is.0) (read.given.1.0 refl) in
    let settings = settings_there rows
    (number_defaulted soak_numbers rows read.filled file_max_number (omega arith) (λ id how v is. is.1.0) (read.defaulted.1.1.0 refl))
    (number_defaulted soak_numbers rows read.filled fanout_number (omega arith) (λ id how v is. is.1.1.0) (read.defaulted.1.1.1.0 refl)) in
    with_command (Some (rows_at s args)) home.0 (Soak seed.value settings.0) home.1 (rw seed.is (ap (option_map (Soak seed.value)) settings.1)) refl settings.2

folder_has_line : (name : Text) (command : Command) → ((rows : List Row) → command_of (name, rows) ≡ Some command) → ((rows : List Row) → has_name (name, rows) ≡ true) → HasSettings command →
    (args : List Text) → level_fault (leaf_of (folder_command name)) [] nothing_held args false [] ≡ [] → HasLine (Some (rows_at (leaf_of (folder_command name)) args))
folder_has_line name command is named bounded args none =
    let s = leaf_of (folder_command name) in
    let rows = (rows_at s args).1 in
    let read : AreRead [] s rows = level_read [] s args (uses_kept [] s.rules (text_kept [] (codes "home") (λ v. tt), (help_kept [], tt))) (inl refl, (inl refl, tt)) none in
    let home = has_home [] rows read.filled (read.given.0 refl) in
    with_command (Some (rows_at s args)) home.0 command home.1 (is rows) (named rows) bounded

-- a command that takes a database is there exactly where the name is one of a database
named_there : (command : Text → Command) (db : Option Text) → is_some (option_map command (option_and_then name_if db)) ≡ option_map_or is_word db false
named_there command None = refl
named_there command (Some db) = by (is_word db)
  where
    by : (b : Bool) → is_some (option_map command (if b then Some db else None)) ≡ b
    by true = refl
    by false = refl

named_bounded : (command : Text → Command) (db : Option Text) → ((name : Text) → HasSettings (command name)) → IfSome (option_map command db) HasSettings
named_bounded command None each = tt
named_bounded command (Some db) each = each db

dump_has_line : (args : List Text) → level_fault (leaf_of dump_command) [] nothing_held args false [] ≡ [] → HasLine (Some (rows_at (leaf_of dump_command) args))
dump_has_line args none =
    let s = leaf_of dump_command in
    let rows = (rows_at s args).1 in
    let read : AreRead [] s rows = level_read [] s args
    (uses_kept [] s.rules (text_kept [] (codes "home") (λ v. tt), (text_kept [] (codes "db") (λ v. tt), (flag_kept [] (codes "print") tt, (help_kept [], tt)))))
    (inl refl, (inl refl, (inr tt, (inl refl, tt)))) none in
    let home = has_home [] rows read.filled (read.given.0 refl) in
    let command = dump_asked (is_given_flag (codes "print") rows) in
    record { home = home.0; home_is = home.1; command_there = named_there command (first_of (codes "db") rows); bounded = named_bounded command (db_of rows) (λ name. tt) }

load_has_line : (args : List Text) → level_fault (leaf_of load_command) [] nothing_held args false [] ≡ [] → HasLine (Some (rows_at (leaf_of load_command) args))
load_has_line args none =
    let s = leaf_of load_command in
    let rows = (rows_at s args).1 in
    let read : AreRead [] s rows = level_read [] s args
    (uses_kept [] s.rules (text_kept [] (codes "home") (λ v. tt), (text_kept [] (codes "db") (λ v. tt), (flag_kept [] (codes "no-overwrite") tt, (help_kept [], tt)))))
    (inl refl, (inl refl, (inr tt, (inl refl, tt)))) none in
    let home = has_home [] rows read.filled (read.given.0 refl) in
    let command = load_with (is_given_flag (codes "no-overwrite") rows) in
    record { home = home.0; home_is = home.1; command_there = named_there command (first_of (codes "db") rows); bounded = named_bounded command (db_of rows) (λ name. tt) }

-- ---- the whole command line

abbrev jedb_built : App
jedb_built = built jedb

abbrev help_built : Shape
help_built = built_leaf help_shape

help_apart : (name : Text) → bytes_eq name (codes "help") ≡ false → answers_to name (codes "help", []) ≡ false
help_apart name other = go (bytes_eq (codes "help") name) refl
  where
    go : (b : Bool) → bytes_eq (codes "help") name ≡ b → (b || false) ≡ false
    go false is = refl
    go true is =
        let same : codes "help" ≡ name = (bytes_eq-Decides (codes "help") name).0 is in
        let back : bytes_eq name (codes "help") ≡ true = (bytes_eq-Decides name (codes "help")).1 (sym same) in
        absurd (true≢false (sym back ∙ other))

wanted : (rows : List Row) (has_subcommand : Bool) → check_fault jedb_built.top rows has_subcommand ≡ [] → has_subcommand ≡ true
wanted rows true none = refl
wanted rows false none = cc

entered_has_line : (stop : Option (Text × List Text)) → StopsOther stop → entered_fault jedb_built stop ≡ [] → is_some (entered jedb_built stop) ≡ true → HasLine (entered jedb_built stop)
entered_has_line None other none in_one = cc
entered_has_line (Some p) other none in_one =
    go (answers_to p.0 (codes "run", [])) (answers_to p.0 (codes "soak", [])) (answers_to p.0 (codes "printlog", [])) (answers_to p.0 (codes "dump", [])) (answers_to p.0 (codes "load", []))
    (answers_to p.0 (codes "verify", [])) (answers_to p.0 (codes "stat", [])) (answers_to p.0 (codes "help", [])) (help_apart p.0 other) none in_one
  where
    chosen : Bool → Bool → Bool → Bool → Bool → Bool → Bool → Bool → Option Shape
    chosen b₁ b₂ b₃ b₄ b₅ b₆ b₇ b₈ =
        cond b₁ (Some (leaf_of run_command)) (cond b₂ (Some (leaf_of soak_command)) (cond b₃ (Some (leaf_of printlog_command)) (cond b₄ (Some (leaf_of dump_command))
        (cond b₅ (Some (leaf_of load_command)) (cond b₆ (Some (leaf_of verify_command)) (cond b₇ (Some (leaf_of stat_command)) (cond b₈ (Some help_built) None)))))))

    go : (b₁ b₂ b₃ b₄ b₅ b₆ b₇ b₈ : Bool) → b₈ ≡ false → option_map_or (λ s. level_fault s [] nothing_held p.1 false []) (chosen b₁ b₂ b₃ b₄ b₅ b₆ b₇ b₈) [] ≡ [] →
        is_some (option_map (λ s. rows_at s p.1) (chosen b₁ b₂ b₃ b₄ b₅ b₆ b₇ b₈)) ≡ true → HasLine (option_map (λ s. rows_at s p.1) (chosen b₁ b₂ b₃ b₄ b₅ b₆ b₇ b₈))
    go true b₂ b₃ b₄ b₅ b₆ b₇ b₈ apart none in_one = run_has_line p.1 none
    go false true b₃ b₄ b₅ b₆ b₇ b₈ apart none in_one = soak_has_line p.1 none
    go false false true b₄ b₅ b₆ b₇ b₈ apart none in_one = folder_has_line (codes "printlog") PrintLog (λ rows. refl) (λ rows. refl) tt p.1 none
    go false false false true b₅ b₆ b₇ b₈ apart none in_one = dump_has_line p.1 none
    go false false false false true b₆ b₇ b₈ apart none in_one = load_has_line p.1 none
    go false false false false false true b₇ b₈ apart none in_one = folder_has_line (codes "verify") Verify (λ rows. refl) (λ rows. refl) tt p.1 none
    go false false false false false false true b₈ apart none in_one = folder_has_line (codes "stat") Stat (λ rows. refl) (λ rows. refl) tt p.1 none
    go false false false false false false false true apart none in_one = absurd (true≢false apart)
    go false false false false false false false false apart none in_one = cc

faultless_has_line : (args : List Text) → built_fault jedb_built nothing_held args ≡ [] → HasLine (entered jedb_built (walk jedb_built.top.rules (names_of jedb_built) nothing_held args).stopped)
faultless_has_line args none =
    let top = jedb_built.top in
    let end = (walk top.rules (names_of jedb_built) nothing_held args).held in
    let stop = (walk top.rules (names_of jedb_built) nothing_held args).stopped in
    let has = is_some (entered jedb_built stop) in
    let checks = check_fault top (finished top.rules end) has in
    let defaults = or_else (defaults_fault (settled top.rules end).rows top.rules) checks in
    let settles = or_else (settle_fault top.rules top.args_override_self end) defaults in
    let walked = neither (walk_fault top (names_of jedb_built) (walk_from nothing_held) args) (or_else (entered_fault jedb_built stop) settles) none in
    let below = neither (entered_fault jedb_built stop) settles walked.1 in
    let ended = neither (settle_fault top.rules top.args_override_self end) defaults below.1 in
    let checked = neither (defaults_fault (settled top.rules end).rows top.rules) checks ended.1 in
    let other : StopsOther stop = walk_other top refl (names_of jedb_built) args (walk_from nothing_held) walked.0 tt in
    let in_one : has ≡ true = wanted (finished top.rules end) has checked.1 in
    entered_has_line stop other below.0 in_one

nothing : (kinds : Kinds) → is_empty kinds ≡ true → kinds ≡ []
nothing [] empty = refl
nothing (k ∷ ks) empty = grind arith

-- arguments at which a parse meets no fault name a folder and give a command
pub right_has_line : (args : List Text) → is_parsed args ≡ true → HasLine (subcommand_of jedb args)
unfolding is_parsed
right_has_line args right = faultless_has_line args (nothing (fault_of jedb args) right)
