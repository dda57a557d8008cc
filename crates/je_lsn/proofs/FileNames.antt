-- A file's name is read back as its number.
use Rattle.std.proofs.Common.{◌≡◌, ◌≢◌, Bool, true, false, not, nat_eq, ℕ, ◌+◌, ◌-◌, ◌*◌, ◌/◌, ◌%◌, ◌<◌, ◌≤◌, List, refl, ap, sym, ◌∙◌, arith}
use Rattle.std.specs.Cmp.Lexicographic.{bytes_decides}
use lib.Pointwise.{pointwise}
use Rattle.std.proofs.lemmas.Bool.Decides.{nat_tests}
use Rattle.je_lsn.specs.Naming.{digit, digit_value, name_of, number_in_name, last_file}

-- a digit's character shows the digit
pub digit_value-digit : (d : ℕ) → d < 16 → digit_value (digit d) ≡ d
unfolding digit digit_value
digit_value-digit d small = grind (arith, nat_tests)

-- a digit above nine is spelled by a letter
pub digit-letter : (d : ℕ) → 9 < d → 97 + (d - 10) ≡ digit d
unfolding digit
digit-letter d above = grind (arith, nat_tests)

-- a number is made of its hexadecimal digits
digits_sum : (f : ℕ) → f < 0x100000000 →
    (f / 0x10000000 % 16 * 0x1000 + f / 0x1000000 % 16 * 0x100 + f / 0x100000 % 16 * 0x10 + f / 0x10000 % 16) * 0x10000
    + (f / 0x1000 % 16 * 0x1000 + f / 0x100 % 16 * 0x100 + f / 0x10 % 16 * 0x10 + f % 16) ≡ f
digits_sum f small =
    let a : f / 0x1000000 ≡ 16 * (f / 0x10000000) + f / 0x1000000 % 16 = omega arith in
    let b : f / 0x100000 ≡ 16 * (f / 0x1000000) + f / 0x100000 % 16 = omega arith in
    let c : f / 0x10000 ≡ 16 * (f / 0x100000) + f / 0x10000 % 16 = omega arith in
    let d : f / 0x1000 ≡ 16 * (f / 0x10000) + f / 0x1000 % 16 = omega arith in
    let e : f / 0x100 ≡ 16 * (f / 0x1000) + f / 0x100 % 16 = omega arith in
    let g : f / 0x10 ≡ 16 * (f / 0x100) + f / 0x10 % 16 = omega arith in
    let h : f ≡ 16 * (f / 0x10) + f % 16 = omega arith in
    let top : f / 0x10000000 % 16 ≡ f / 0x10000000 = omega arith in
    omega arith

-- the number of a file's name is the file's
pub number_in_name-name_of : (f : ℕ) → f ≤ last_file → number_in_name (name_of f) ≡ f
number_in_name-name_of f small =
    rw (
      digit_value-digit (f / 0x10000000 % 16) (omega arith),
      digit_value-digit (f / 0x1000000 % 16) (omega arith),
      digit_value-digit (f / 0x100000 % 16) (omega arith),
      digit_value-digit (f / 0x10000 % 16) (omega arith),
      digit_value-digit (f / 0x1000 % 16) (omega arith),
      digit_value-digit (f / 0x100 % 16) (omega arith),
      digit_value-digit (f / 0x10 % 16) (omega arith),
      digit_value-digit (f % 16) (omega arith),
    ) (digits_sum f (omega arith))

-- what a file's name reads as
pub named_once : (name : List ℕ) (f : ℕ) → f ≤ last_file → name ≡ name_of f → number_in_name name ≡ f
named_once name f small named = ap number_in_name named ∙ number_in_name-name_of f small

-- two texts that a test did not tell apart are the same
pub spelled_so : (own name : List ℕ) (differ : Bool) → differ ≡ not (pointwise nat_eq own name) → differ ≡ false → own ≡ name
spelled_so own name differ is same = (bytes_decides own name).0 (not_false (pointwise nat_eq own name) (sym is ∙ same))
  where
    not_false : (b : Bool) → not b ≡ false → b ≡ true
    not_false true e = refl
    not_false false e = absurd cc

-- a text that differs from the name of its own number is no file's name
pub unnamed : (name own : List ℕ) → own ≡ name_of (number_in_name name) → pointwise nat_eq own name ≡ false →
    (f : ℕ) → f ≤ last_file → name ≢ name_of f
unnamed name own spelled differs f small named =
    let is : own ≡ name = spelled ∙ ap name_of (named_once name f small named) ∙ sym named in
    let same : pointwise nat_eq own name ≡ true = (bytes_decides own name).1 is in cc
