-- A walk that meets no fault keeps what each use without fault keeps.
pub mod WalkLaws
-- A walk that meets no fault never enters the subcommand `help`.
pub mod StopLaws
-- Each row that a walk over a command's arguments makes has a value, and that of a number one in its bounds.
pub mod RowLaws
-- Of any rules: arguments at which a parse meets no fault give the options their values.
pub mod LevelLaws
-- A value that the parser of a number takes is read as a number in its bounds.
pub mod NumberLaws
-- Valid arguments name a folder, and give a command with its options.
pub mod CommandLaws
-- What valid arguments give, and that other arguments give nothing.
pub mod ValueLaws
