use Rattle.std.proofs.Common.{◌≡◌, ◌∙◌, ap, refl, codes, Option, None, Some, option_map, List}
use Rattle.std.specs.Prelude.{option_and_then}
use Rattle.clap.specs.Walk.{Row, Text, first_of}
use Rattle.clap.specs.Matches.{found_of}
use Rattle.clap.specs.Simple.{subcommand_rows_of}
use Rattle.clap.proofs.WalkLemmas.{first_value-rows}
use Rattle.command_line.specs.Arguments.{home_of}
use Rattle.command_line.proofs.arguments.home_given.Goals as goal

through : (found : Option (Text × List Row)) → option_and_then (first_of (codes "home")) (option_map (λ command. command.1) found) ≡ home_of found
through None = refl
through (Some command) = refl

pub returns : goal.returns
returns c =
    c.get_str.ensures ∙ first_value-rows (found_of c.in_ok-given.given.now) (codes "home") ∙ ap (option_and_then (first_of (codes "home"))) c.in_ok-given.ensures.rows
    ∙ through (subcommand_rows_of c.args.found.now)
