use Rattle.std.proofs.Common.{rules, ◌≡◌, ◌∙◌, ap, sym, subst, true, false, List, Option, None, Some, IfOk, IfSome, Result, is_some, map, option_map, string_bytes}
use Rattle.std.specs.Prelude.{option_and_then, unwrap_or}
use Rattle.std.proofs.lemmas.Result.{IfOk-weaker}
use Rattle.clap.specs.Walk.{Row, Text}
use Rattle.clap.specs.Simple.{subcommand_of, subcommand_rows_of}
use Rattle.command_line.specs.declared.command.CommandLine.{CommandLine}
use Rattle.command_line.specs.declared.command.Command.{Command}
use Rattle.command_line.specs.Arguments.{HasSettings, command_in, command_of, home_in, home_of, is_parsed, is_taken, jedb, parsed_line}
use Rattle.command_line.proofs.CommandLaws.{right_has_line}
use Rattle.command_line.proofs.ValueLaws.{command_right, command_wrong, home_right, home_wrong, not_parsed, taken_if_named}
use Rattle.command_line.proofs.arguments.parse.Goals as goal

-- this is what the arguments say
record Says (args : List Text) (line : Option CommandLine) : Type 0 where
  right : is_some line ≡ is_taken args
  home : option_map (λ l. string_bytes l.home) line ≡ home_in args
  command : option_map (λ l. l.command) line ≡ command_in args
  bounded : IfSome line (λ l. HasSettings l.command)

-- what a line that was found says
says_line : (args : List Text) (found : Option (Text × List Row)) (home : Text) (command : Option Command) (line : Option CommandLine) → is_some command ≡ is_taken args → IfSome command HasSettings →
    (is_taken args ≡ true → home_in args ≡ Some home) → (is_taken args ≡ true → command_in args ≡ command) →
    option_map {U = Text × Command} (λ l. (string_bytes l.home, l.command)) line ≡ option_map (λ (c : Command). (home, c)) command → Says args line
says_line args found home None None there bounded home_is command_is is = record {
  right = there;
  home = sym (home_wrong args (sym there));
  command = sym (command_wrong args (sym there));
  bounded = tt;
}
says_line args found home None (Some l) there bounded home_is command_is is = cc
says_line args found home (Some command) None there bounded home_is command_is is = cc
says_line args found home (Some command) (Some l) there bounded home_is command_is is =
    let same_home : string_bytes l.home ≡ home = ap (λ (o : Option (Text × Command)). (unwrap_or o (home, command)).0) is in
    let same_command : l.command ≡ command = ap (λ (o : Option (Text × Command)). (unwrap_or o (home, command)).1) is in
    record {
      right = there;
      home = ap (λ x. Some x) same_home ∙ sym (home_is (sym there));
      command = ap (λ x. Some x) same_command ∙ sym (command_is (sym there));
      bounded = subst HasSettings (sym same_command) bounded;
    }

line_with : (found : Option (Text × List Row)) (home : Text) → home_of found ≡ Some home → parsed_line found ≡ option_map (λ (c : Command). (home, c)) (option_and_then command_of found)
line_with found home is = ap (option_and_then (λ (h : Text). option_map (λ (c : Command). (h, c)) (option_and_then command_of found))) is

says : {E : Type 0} (args : List Text) (found : Option (Text × List Row)) (answer : Result (Option CommandLine) E) → is_parsed args ≡ true → found ≡ subcommand_of jedb args →
    IfOk answer (λ line. option_map {U = Text × Command} (λ l. (string_bytes l.home, l.command)) line ≡ parsed_line found) → IfOk answer (Says args)
says args found answer parsed same gives = IfOk-weaker answer _ _ each gives
  where
    each : (line : Option CommandLine) → option_map {U = Text × Command} (λ l. (string_bytes l.home, l.command)) line ≡ parsed_line found → Says args line
    each line is =
        let there = subcommand_of jedb args in
        let has = right_has_line args parsed in
        says_line args there has.home (option_and_then command_of there) line (has.command_there ∙ sym (taken_if_named args parsed)) has.bounded
        (λ right. home_right args right ∙ has.home_is) (λ right. command_right args right) (is ∙ ap parsed_line same ∙ line_with there has.home has.home_is)

all : (c : goal.Joined-found) → IfOk c.line_given.result (Says (map string_bytes c.args.args.now))
all c =
    let parsed : true ≡ is_parsed (map string_bytes c.args.args.now) = search rules in
    let rows : subcommand_rows_of c.in-Some.found ≡ subcommand_of jedb (map string_bytes c.args.args.now) = search rules in
    says (map string_bytes c.args.args.now) (subcommand_rows_of c.in-Some.found) c.line_given.result (sym parsed) rows c.line_given.ensures

pub returns-in-Some-clause-right : goal.returns-in-Some-clause-right
returns-in-Some-clause-right c = IfOk-weaker c.line_given.result _ _ (λ line says. says.right) (all c)

pub returns-in-Some-clause-home : goal.returns-in-Some-clause-home
returns-in-Some-clause-home c = IfOk-weaker c.line_given.result _ _ (λ line says. says.home) (all c)

pub returns-in-Some-clause-command : goal.returns-in-Some-clause-command
returns-in-Some-clause-command c = IfOk-weaker c.line_given.result _ _ (λ line says. says.command) (all c)

pub returns-in-Some-clause-bounded : goal.returns-in-Some-clause-bounded
returns-in-Some-clause-bounded c = IfOk-weaker c.line_given.result _ _ (λ line says. says.bounded) (all c)

pub returns-in-None-clause-home : goal.returns-in-None-clause-home
returns-in-None-clause-home c =
    let refused : false ≡ is_parsed (map string_bytes c.args.args.now) = search rules in
    sym (home_wrong (map string_bytes c.args.args.now) (not_parsed (map string_bytes c.args.args.now) (sym refused)))

pub returns-in-None-clause-command : goal.returns-in-None-clause-command
returns-in-None-clause-command c =
    let refused : false ≡ is_parsed (map string_bytes c.args.args.now) = search rules in
    sym (command_wrong (map string_bytes c.args.args.now) (not_parsed (map string_bytes c.args.args.now) (sym refused)))

pub returns-in-None-clause-right : goal.returns-in-None-clause-right
returns-in-None-clause-right c =
    let refused : false ≡ is_parsed (map string_bytes c.args.args.now) = search rules in
    sym (not_parsed (map string_bytes c.args.args.now) (sym refused))
