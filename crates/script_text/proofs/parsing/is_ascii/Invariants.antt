use Rattle.std.proofs.Common.{◌≡◌, nat_lt, take}
use Rattle.std.specs.List.{list_all}
use Rattle.script_text.proofs.parsing.is_ascii.Given as goal

-- the bytes so far are those of ASCII where the greatest of them is
abbrev pub invariant-loop-c : goal.invariant-loop-c
invariant-loop-c l = nat_lt l.greatest 128 ≡ list_all (λ c. nat_lt c 128) (take l.c-index l.text)
