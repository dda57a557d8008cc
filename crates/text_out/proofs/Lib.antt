-- Texts sent through a buffer.
pub mod BufferedText
-- Hexadecimal digits, some bytes after others.
mod HexDigits
-- The digits of a number, the last one first.
mod DigitSteps
