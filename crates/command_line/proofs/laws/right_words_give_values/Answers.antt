use Rattle.command_line.proofs.ValueLaws.{command_bounded, command_named, home_named}
use Rattle.command_line.proofs.laws.right_words_give_values.Goals as goal

pub returns : goal.returns
returns c = record { home = home_named; command = command_named; bounded = command_bounded }
