-- The values of hexadecimal digits, by a table, and the bytes that pairs of them spell.
use Rattle.std.proofs.Common.{◌≡◌, ◌<◌, ◌≤◌, ◌+◌, ◌*◌, ℕ, zero, suc, List, [], ◌∷◌, get_or, length, take, drop, slice_index, Option, Some, None, unwrap_or, Ok, Err, refl, sym, ap, ◌∙◌, arith}
use Rattle.hex.specs.Hex.{decode_of, decode_pairs, digit_or_error, hex_digit_value, pair_value, value_at}
use Rattle.hex.specs.declared.error.FromHexError.{FromHexError}
use Rattle.hex.specs.declared.error.FromHexError.TheVariants.{InvalidHexCharacter}
use Rattle.hex.proofs.HexLemmas.{decode_of-even}
use Rattle.hex.proofs.Pairs.{decode_done, decode_err, prepend}
use Rattle.script_text.specs.Bytes.{decoded_bytes}
use Rattle.script_text.specs.declared.bytes.TheConstants.{VALUES}

-- the value of a digit, or 255
abbrev value_or : ℕ → ℕ
value_or c = unwrap_or (hex_digit_value c) 255

-- those of so many bytes, from one on
values_from : ℕ → ℕ → List ℕ
values_from zero c = []
values_from (suc count) c = value_or c ∷ values_from count (suc c)

values_at : (count c k : ℕ) → k < count → get_or (values_from count c) k 0 ≡ value_or (k + c)
unfolding values_from
values_at zero c k within = absurd (omega arith)
values_at (suc count) c zero within =
    let same : c ≡ 0 + c = omega arith in
    ap value_or same
values_at (suc count) c (suc k) within =
    let next : k + suc c ≡ suc k + c = omega arith in
    values_at count (suc c) k (omega arith) ∙ ap value_or next

table_is : VALUES ≡ values_from 256 0
unfolding values_from
table_is = refl

table_at : (c : ℕ) → c < 256 → get_or VALUES c 0 ≡ value_or c
table_at c within =
    let same : c + 0 ≡ c = omega arith in
    ap (λ (l : List ℕ). get_or l c 0) table_is ∙ values_at 256 0 c within ∙ ap value_or same

some_by : (o : Option ℕ) (v : ℕ) → v ≡ unwrap_or o 255 → v < 16 → Some v ≡ o
some_by (Some w) v is small = ap (λ n. Some n) is
some_by None v is small = absurd (omega (arith, is))

none_by : (o : Option ℕ) (v : ℕ) → ((w : ℕ) → o ≡ Some w → w < 16) → v ≡ unwrap_or o 255 → 16 ≤ v → None ≡ o
none_by (Some w) v small is big = absurd (omega (arith, is, small w refl))
none_by None v small is big = refl

value_small : (c w : ℕ) → hex_digit_value c ≡ Some w → w < 16
value_small c w is = grind (arith)

-- a small value of the table is the digit's, and a great one says that there is none
pub digit_is : (c : ℕ) → c < 256 → get_or VALUES c 0 < 16 → Some (get_or VALUES c 0) ≡ hex_digit_value c
digit_is c within small = some_by (hex_digit_value c) (get_or VALUES c 0) (table_at c within) small

pub no_digit_is : (c : ℕ) → c < 256 → 16 ≤ get_or VALUES c 0 → None ≡ hex_digit_value c
no_digit_is c within big = none_by (hex_digit_value c) (get_or VALUES c 0) (value_small c) (table_at c within) big

-- two digits, and two bytes of which one is none
pub pair_is : (a b i high low : ℕ) → Some high ≡ hex_digit_value a → Some low ≡ hex_digit_value b → pair_value a b i ≡ Ok (high * 16 + low)
pair_is a b i high low first second =
    let front : value_at a i ≡ Ok high = ap (digit_or_error a i) (sym first) in
    let back : value_at b (i + 1) ≡ Ok low = ap (digit_or_error b (i + 1)) (sym second) in
    rw (front, back) refl

pub no_first : (a b i : ℕ) → None ≡ hex_digit_value a → pair_value a b i ≡ Err (InvalidHexCharacter a i)
no_first a b i none =
    let front : value_at a i ≡ Err (InvalidHexCharacter a i) = ap (digit_or_error a i) (sym none) in
    rw front refl

pub no_second : (a b i high : ℕ) → Some high ≡ hex_digit_value a → None ≡ hex_digit_value b → pair_value a b i ≡ Err (InvalidHexCharacter b (i + 1))
no_second a b i high first none =
    let front : value_at a i ≡ Ok high = ap (digit_or_error a i) (sym first) in
    let back : value_at b (i + 1) ≡ Err (InvalidHexCharacter b (i + 1)) = ap (digit_or_error b (i + 1)) (sym none) in
    rw (front, back) refl

-- a pair that is none, and all pairs
pub stops_at : (digits into : List ℕ) (i : ℕ) (e : FromHexError) → length digits ≡ 2 * length into → i < length into →
    pair_value (slice_index digits (2 * i)) (slice_index digits (2 * i + 1)) (2 * i) ≡ Err e →
    decode_pairs 0 digits ≡ prepend (take i into) (decode_pairs (2 * i) (drop (2 * i) digits)) → decoded_bytes (decode_of digits) ≡ None
stops_at digits into i e twice within bad so_far =
    ap decoded_bytes (decode_of-even digits (omega arith) ∙ decode_err digits into i e (omega arith) bad so_far)

pub all_decoded : (digits into : List ℕ) (i : ℕ) → length digits ≡ 2 * length into → length into ≤ i →
    decode_pairs 0 digits ≡ prepend (take i into) (decode_pairs (2 * i) (drop (2 * i) digits)) → decoded_bytes (decode_of digits) ≡ Some into
all_decoded digits into i twice past so_far =
    ap decoded_bytes (decode_of-even digits (omega arith) ∙ decode_done digits into i past (omega arith) so_far)
