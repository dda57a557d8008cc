-- A text cut at its first blank.
mod TextCuts
-- What the lines of a script give, one line after another.
mod ScriptLines
-- The steps of a script's plan have the numbers of lines.
mod PlanCalls
-- The lines of a report, as they are sent.
mod ReportLines
-- Which calls wait, along a journal.
mod WaitingCalls
-- Which transactions have changed something, and how many commits there are, along a journal.
mod CommitCounts
-- What the words of a get spell.
mod GetCalls
-- The values of hexadecimal digits, by a table, and the bytes that pairs of them spell.
mod HexValues
