use Rattle.std.proofs.Common.{◌≡◌, ◌∙◌, ap, refl, List, Option, Some, None, option_map}
use Rattle.std.specs.Prelude.{Box, option_and_then}
use Rattle.std.proofs.lemmas.Result.{IfOk-weaker}
use Rattle.std.specs.Box.{box_value}
use Rattle.clap.specs.Walk.{Row, Text, rows_of}
use Rattle.clap.specs.Matches.{found_of}
use Rattle.clap.specs.Simple.{subcommand_rows, subcommand_rows_of}
use Rattle.clap.specs.declared.parser.matches.SubCommand.{SubCommand}
use Rattle.clap.specs.declared.parser.matches.ArgMatches.TheViews.{out-SubCommand}
use Rattle.command_line.specs.Arguments.{command_of}
use Rattle.command_line.proofs.arguments.command_given.Goals as goal

names : {Z : Type 0} (sub : Option (Box SubCommand Z)) → option_map (λ b. (out-SubCommand (box_value b)).name.now) sub ≡ option_map (λ (p : Text × List Row). p.0) (subcommand_rows sub)
names None = refl
names (Some b) = refl

pair_of : (found : Option (Text × List Row)) (name : Text) (rows : List Row) → Some name ≡ option_map (λ (p : Text × List Row). p.0) found → Some rows ≡ option_map (λ (p : Text × List Row). p.1) found →
    Some (name, rows) ≡ found
pair_of None name rows first second = cc
pair_of (Some (n, r)) name rows first second = cc

none_of : (found : Option (Text × List Row)) → None ≡ option_map (λ (p : Text × List Row). p.0) found → None ≡ found
none_of None first = refl
none_of (Some p) first = cc

pub returns-in-Some : goal.returns-in-Some
returns-in-Some c =
    let g = c.in-Some in
    let found_is = pair_of (subcommand_rows_of c.args.found.now) g.name.now (rows_of (found_of g.given.now)) (g.ensures.name ∙ names _) g.ensures.rows in
    IfOk-weaker c.command_named.result _ _ (λ command is. is ∙ ap (option_and_then command_of) found_is) c.command_named.ensures
