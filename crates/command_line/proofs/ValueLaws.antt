-- What valid arguments give, and that other arguments give nothing.
use Rattle.std.proofs.Common.{◌≡◌, ◌∙◌, ◌&&◌, Bool, true, false, ap, refl, subst, sym, List, Option, None, IfSome, is_some, true≢false}
use Rattle.std.specs.Prelude.{option_and_then, if◌then◌else◌}
use Rattle.clap.specs.Walk.{Text}
use Rattle.clap.specs.Simple.{subcommand_of}
use Rattle.command_line.specs.declared.command.Command.{Command}
use Rattle.command_line.specs.Arguments.{HasSettings, command_in, command_of, home_in, home_of, is_named, is_parsed, is_taken, jedb}
use Rattle.command_line.proofs.CommandLaws.{HasLine, right_has_line}

if_true : {X : Type 0} (x : Option X) (b : Bool) → b ≡ true → (if b then x else None) ≡ x
if_true x true is = refl
if_true x false is = absurd (true≢false (sym is))

if_false : {X : Type 0} (x : Option X) (b : Bool) → b ≡ false → (if b then x else None) ≡ None
if_false x false is = refl
if_false x true is = absurd (true≢false is)

pub home_right : (args : List Text) → is_taken args ≡ true → home_in args ≡ home_of (subcommand_of jedb args)
unfolding home_in
home_right args right = if_true (home_of (subcommand_of jedb args)) (is_taken args) right

pub home_wrong : (args : List Text) → is_taken args ≡ false → home_in args ≡ None
unfolding home_in
home_wrong args wrong = if_false (home_of (subcommand_of jedb args)) (is_taken args) wrong

pub command_right : (args : List Text) → is_taken args ≡ true → command_in args ≡ option_and_then command_of (subcommand_of jedb args)
unfolding command_in
command_right args right = if_true (option_and_then command_of (subcommand_of jedb args)) (is_taken args) right

pub command_wrong : (args : List Text) → is_taken args ≡ false → command_in args ≡ None
unfolding command_in
command_wrong args wrong = if_false (option_and_then command_of (subcommand_of jedb args)) (is_taken args) wrong

both : (a b : Bool) → (a && b) ≡ true → (a ≡ true) × (b ≡ true)
both true b is = (refl, is)
both false b is = absurd (true≢false (sym is))

-- valid arguments are such that a parse meets no fault, and that a database which they name has such a name
taken_parts : (args : List Text) → is_taken args ≡ true → (is_parsed args ≡ true) × (is_named (subcommand_of jedb args) ≡ true)
unfolding is_taken
taken_parts args right = both (is_parsed args) (is_named (subcommand_of jedb args)) right

taken_line : (args : List Text) → is_taken args ≡ true → HasLine (subcommand_of jedb args)
taken_line args right = right_has_line args (taken_parts args right).0

-- where a parse meets no fault, the database's name decides
pub taken_if_named : (args : List Text) → is_parsed args ≡ true → is_taken args ≡ is_named (subcommand_of jedb args)
unfolding is_taken
taken_if_named args parsed = ap (λ (b : Bool). b && is_named (subcommand_of jedb args)) parsed

pub not_parsed : (args : List Text) → is_parsed args ≡ false → is_taken args ≡ false
unfolding is_taken
not_parsed args refused = ap (λ (b : Bool). b && is_named (subcommand_of jedb args)) refused

-- valid arguments, and no others, name a folder
pub home_named : (args : List Text) → is_some (home_in args) ≡ is_taken args
home_named args = go (is_taken args) refl
  where
    go : (b : Bool) → is_taken args ≡ b → is_some (home_in args) ≡ is_taken args
    go true right = ap is_some (home_right args right ∙ (taken_line args right).home_is) ∙ sym right
    go false wrong = ap is_some (home_wrong args wrong) ∙ sym wrong

-- they, and no others, give a command
pub command_named : (args : List Text) → is_some (command_in args) ≡ is_taken args
command_named args = go (is_taken args) refl
  where
    go : (b : Bool) → is_taken args ≡ b → is_some (command_in args) ≡ is_taken args
    go true right = ap is_some (command_right args right) ∙ (taken_line args right).command_there ∙ (taken_parts args right).1 ∙ sym right
    go false wrong = ap is_some (command_wrong args wrong) ∙ sym wrong

-- its settings are in their bounds
pub command_bounded : (args : List Text) → IfSome (command_in args) HasSettings
command_bounded args = go (is_taken args) refl
  where
    go : (b : Bool) → is_taken args ≡ b → IfSome (command_in args) HasSettings
    go true right = subst (λ (o : Option Command). IfSome o HasSettings) (sym (command_right args right)) (taken_line args right).bounded
    go false wrong = subst (λ (o : Option Command). IfSome o HasSettings) (sym (command_wrong args wrong)) tt
