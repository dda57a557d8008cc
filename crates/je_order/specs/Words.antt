-- The names of databases (this project's own).
use Rattle.std.specs.Prelude.{ℕ, ◌||◌, ◌&&◌, ◌==◌, not, nat_le, List, length, Bool}
use Rattle.std.specs.List.{list_all}

-- a character of a database's name: a lower-case letter, a digit or the underscore
abbrev pub is_word_character : ℕ → Bool
is_word_character c = (nat_le 97 c && nat_le c 122) || (nat_le 48 c && nat_le c 57) || (c == 95)

-- a database's name: 1 to 64 of these characters
abbrev pub is_word : List ℕ → Bool
is_word characters = not (length characters == 0) && nat_le (length characters) 64 && list_all is_word_character characters
