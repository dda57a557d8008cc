-- A value that the parser of a number takes is read as a number in its bounds.
use Rattle.std.proofs.Common.{◌≡◌, ◌∙◌, ◌==◌, ◌≤◌, ◌<◌, ◌^◌, ℕ, arith, Bool, true, false, ap, cond, refl, sym, subst, [], ◌∷◌, Option, Some, None, drop, true≢false}
use Rattle.std.proofs.lemmas.Bool.{eqb-true}
use Rattle.std.specs.Prelude.{pos, unwrap_or, if◌then◌else◌}
use Rattle.std.specs.Char.{digit_value}
use Rattle.std.specs.Str.Parse.{IsNumeral, digits_value, starts_with_minus, without_leading_plus}
use Rattle.std.proofs.lemmas.Int.{ints}
use Rattle.clap.specs.Lexer.{without_minus}
use Rattle.clap.specs.Values.{IsSignedIn}
use Rattle.clap.specs.ValueTests.{is_unsigned_in}
use Rattle.clap.specs.Walk.{Text}
use Rattle.clap.specs.declared.builder.value_parser.ValueParser.TheVariants as parser
use Rattle.clap.proofs.ValueTestLemmas.{Accepts-accepts, accepts-Accepts}
use Rattle.command_line.specs.Arguments.{decimal_value, number_read}
use Rattle.command_line.proofs.RowLaws.{IsNumber}

-- the text is read as a number in these bounds
pub record IsReadIn (low high : ℕ) (text : Text) : Type 0 where
  pub number : ℕ
  pub read : number_read text ≡ Some number
  pub least : low ≤ number
  pub most : number ≤ high

if_true : {X : Type 0} (x : Option X) (b : Bool) → b ≡ true → (if b then x else None) ≡ x
if_true x true is = refl
if_true x false is = absurd (true≢false (sym is))

if_false : {X : Type 0} (x : Option X) (b : Bool) → b ≡ false → (if b then x else None) ≡ None
if_false x false is = refl
if_false x true is = absurd (true≢false is)

-- a numeral below 2^32 is read as its number, and any other text as none
abbrev pub IsSpelled : Text → Type 0
IsSpelled text = IsNumeral 10 (without_leading_plus text) × (decimal_value text < 2 ^ 32)

pub spelled_read : (text : Text) → IsSpelled text → number_read text ≡ Some (decimal_value text)
spelled_read text is =
    let low = is.1 in
    if_true (Some (decimal_value text)) (is_unsigned_in 0 4294967295 text)
    (Accepts-accepts false (parser.Unsigned 0 4294967295) text (is.0, omega (arith, low), omega arith, omega (arith, low)))

pub others_read : (text : Text) → (IsSpelled text → ⊥) → number_read text ≡ None
others_read text other = if_false (Some (decimal_value text)) (is_unsigned_in 0 4294967295 text) (go (is_unsigned_in 0 4294967295 text) refl)
  where
    go : (b : Bool) → is_unsigned_in 0 4294967295 text ≡ b → b ≡ false
    go false is = refl
    go true is =
        let accepted = accepts-Accepts false (parser.Unsigned 0 4294967295) text is in
        let most = accepted.3 in
        absurd (other (accepted.0, omega (arith, most)))

-- a numeral in these bounds is read so
numeral_read : (low high : ℕ) (text : Text) → high ≤ 4294967295 → IsNumeral 10 (without_leading_plus text) → low ≤ decimal_value text → decimal_value text ≤ high → IsReadIn low high text
numeral_read low high text small numeral least most = record {
  number = decimal_value text;
  read = spelled_read text (numeral, omega (arith, small, most));
  least = least;
  most = most;
}

no_minus : (text : Text) → starts_with_minus text ≡ false → without_minus text ≡ text
no_minus [] other = refl
no_minus (x ∷ xs) other = go (x == 45) other
  where
    go : (b : Bool) → b ≡ false → unwrap_or (cond b (Some xs) None) (x ∷ xs) ≡ x ∷ xs
    go true is = absurd (true≢false is)
    go false is = refl

minus_off : (text : Text) → starts_with_minus text ≡ true → without_minus text ≡ drop 1 text
minus_off [] is = cc
minus_off (x ∷ xs) is = go (x == 45) is
  where
    go : (b : Bool) → b ≡ true → unwrap_or (cond b (Some xs) None) (x ∷ xs) ≡ xs
    go true is = refl
    go false is = absurd (true≢false (sym is))

-- a numeral has no plus
no_plus : (text : Text) → IsNumeral 10 text → without_leading_plus text ≡ text
no_plus [] numeral = refl
no_plus (x ∷ xs) numeral = go (x == 43) refl
  where
    go : (b : Bool) → (x == 43) ≡ b → drop (cond b 1 0) (x ∷ xs) ≡ x ∷ xs
    go false is = refl
    go true is =
        let digit : digit_value 43 < 10 = subst (λ c. digit_value c < 10) (eqb-true x 43 is) numeral.1.0 in
        absurd (omega arith)

in_bounds : (low high : ℕ) → high ≤ 4294967295 → (text : Text) (b : Bool) → starts_with_minus text ≡ b → IsSignedIn (pos low) (pos high) text → IsReadIn low high (without_minus text)
in_bounds low high small text true minus within =
    let numeral : IsNumeral 10 (drop 1 text) = rw minus at within.0 in
    let least = rw minus at within.2 in
    let plain : without_leading_plus (drop 1 text) ≡ drop 1 text = no_plus (drop 1 text) numeral in
    let none : digits_value 10 (drop 1 text) ≡ 0 = omega (arith, ints) in
    let low_none : low ≡ 0 = omega (arith, ints) in
    let value : decimal_value (drop 1 text) ≡ 0 = ap (digits_value 10) plain ∙ none in
    subst (IsReadIn low high) (sym (minus_off text minus))
    (numeral_read low high (drop 1 text) small (subst (IsNumeral 10) (sym plain) numeral) (omega (arith, value, low_none)) (omega (arith, value)))
in_bounds low high small text false minus within =
    let numeral : IsNumeral 10 (without_leading_plus text) = rw minus at within.0 in
    let least = rw minus at within.2 in
    let most = rw minus at within.3 in
    subst (IsReadIn low high) (sym (no_minus text minus)) (numeral_read low high text small numeral (omega (arith, ints)) (omega (arith, ints)))

pub number_spelled : (low high : ℕ) → high ≤ 4294967295 → (text : Text) → IsNumber low high text → IsReadIn low high (without_minus text)
number_spelled low high small text is =
    in_bounds low high small text (starts_with_minus text) refl (accepts-Accepts false (parser.Signed (pos low) (pos high)) text is)
