-- Numbers drawn one after another.
use Rattle.std.specs.Prelude.{ℕ, ◌+◌, ◌*◌, ◌/◌, ◌%◌, ◌^◌}

-- the number after this one
abbrev pub next_number : ℕ → ℕ
next_number number = (number * 1664525 + 1013904223) % 2 ^ 32

-- what is drawn from a number, below a bound
abbrev pub drawn : ℕ → ℕ → ℕ
drawn bound number = number / 65536 % bound
