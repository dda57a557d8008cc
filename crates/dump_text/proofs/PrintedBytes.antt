-- Printed bytes are read back.
use Rattle.std.proofs.Common.{arith, ◌≡◌, ◌<◌, ◌+◌, ◌*◌, ◌/◌, ◌%◌, ◌==◌, ◌++◌, ℕ, suc, List, [], ◌∷◌, Bool, true, false, None, Some, refl, sym, ap, ◌∙◌, slice_index, append_assoc}
use Rattle.std.proofs.lemmas.Bool.{eqb-true}
use Rattle.std.proofs.lemmas.List.{append-nil}
use Rattle.std.specs.List.{flat_map}
use Rattle.hex.specs.Hex.{encode_with, hex_digit_value, lower_digits, IsBytes}
use Rattle.hex.proofs.HexLemmas.{IsDigits-lower_digits}
use Rattle.dump_text.specs.declared.escape.Escape.{Escape}
use Rattle.dump_text.specs.declared.escape.Escape.TheVariants.{Text, Slash, Digit}
use Rattle.dump_text.specs.Values.{escape_gives, escape_step, unprinted_behind, is_printable, printed_byte, unprinted, unprinted_from}

-- a digit is no backslash
slash_by : (c d : ℕ) (s : Bool) → (c == 92) ≡ s → hex_digit_value c ≡ Some d → s ≡ false
slash_by c d true h e =
    let at : c ≡ 92 = eqb-true c 92 h in
    let wrong : hex_digit_value 92 ≡ Some d = rw at at e in
    absurd (cc wrong)
slash_by c d false h e = refl

no_slash : (c d : ℕ) → hex_digit_value c ≡ Some d → (c == 92) ≡ false
no_slash c d e = slash_by c d (c == 92) refl e

digits_step : (hi lo h l : ℕ) (rest done : List ℕ) → hex_digit_value hi ≡ Some h → hex_digit_value lo ≡ Some l →
    unprinted_from (92 ∷ hi ∷ lo ∷ rest) Text done ≡ unprinted_from rest Text (done ++ (h * 16 + l) ∷ [])
digits_step hi lo h l rest done eh el =
    let n = no_slash hi h eh in
    let first : escape_step Slash hi ≡ escape_gives (Digit hi) None = rw (n, eh) refl in
    let second : escape_step (Digit hi) lo ≡ escape_gives Text (Some (h * 16 + l)) = rw (eh, el) refl in
    ap (λ u. unprinted_behind u done (unprinted_from (lo ∷ rest))) first ∙ ap (λ u. unprinted_behind u done (unprinted_from rest)) second

byte_step : (b : ℕ) (rest done : List ℕ) (slash plain : Bool) → (b == 92) ≡ slash → is_printable b ≡ plain → b < 256 →
    unprinted_from (printed_byte b ++ rest) Text done ≡ unprinted_from rest Text (done ++ b ∷ [])
unfolding encode_with
byte_step b rest done true plain e p fits = let at : b ≡ 92 = eqb-true b 92 e in rw at refl
byte_step b rest done false true e p fits =
    let same : printed_byte b ≡ b ∷ [] = rw (e, p) refl in
    let plain : escape_step Text b ≡ escape_gives Text (Some b) = rw (e, p) refl in
    ap (λ l. unprinted_from (l ++ rest) Text done) same ∙ ap (λ u. unprinted_behind u done (unprinted_from rest)) plain
byte_step b rest done false false e p fits =
    let high : b / 16 < 16 = omega arith in
    let low : b % 16 < 16 = omega arith in
    let h = IsDigits-lower_digits (b / 16) high in
    let l = IsDigits-lower_digits (b % 16) low in
    let whole : b / 16 * 16 + b % 16 ≡ b = omega arith in
    rw (e, p) (digits_step (slice_index lower_digits (b / 16)) (slice_index lower_digits (b % 16)) (b / 16) (b % 16) rest done h l ∙ ap (λ (v : ℕ). unprinted_from rest Text (done ++ v ∷ [])) whole)

bytes_steps : (bytes done : List ℕ) → IsBytes bytes → unprinted_from (flat_map printed_byte bytes) Text done ≡ Some (done ++ bytes)
bytes_steps [] done are = ap Some (sym (append-nil done))
bytes_steps (b ∷ bytes) done are =
    byte_step b (flat_map printed_byte bytes) done (b == 92) (is_printable b) refl refl (are 0)
    ∙ bytes_steps bytes (done ++ b ∷ []) (λ k. are (suc k))
    ∙ ap Some (append_assoc done (b ∷ []) bytes)

pub unprinted_back : (bytes : List ℕ) → IsBytes bytes → unprinted (flat_map printed_byte bytes) ≡ Some bytes
unprinted_back bytes are = bytes_steps bytes [] are
