-- The lines of a dump's text.
use Rattle.std.proofs.Common.{arith, ◌≡◌, ◌<◌, ◌/◌, ◌%◌, ◌==◌, ◌++◌, not, ℕ, suc, List, [], ◌∷◌, Bool, true, false, Some, refl, ap, ◌∙◌, codes, slice_index, append_assoc, if◌then◌else◌}
use Rattle.std.proofs.lemmas.Bool.{and_parts, eqb-true}
use Rattle.std.specs.List.{AllByRecursion, flat_map, onto_first, list_all}
use Rattle.hex.specs.Hex.{encode_lower, encode_with, hex_digit_value, lower_digits, IsBytes}
use Rattle.hex.proofs.HexLemmas.{IsDigits-lower_digits}
use Rattle.text_lines.specs.Lines.{text_lines}
use Rattle.dump_text.specs.Values.{is_printable, printed_byte}
use Rattle.dump_text.specs.Text.{IsDumpPair, KeyAndData, dump_text, end_text, header_text, pair_text, shown_bytes, shown_line}

-- a line with its line feed
abbrev pub with_feed : List ℕ → List ℕ
with_feed line = line ++ 10 ∷ []

abbrev pub lines_of_pairs : Bool → List KeyAndData → List (List ℕ)
lines_of_pairs printed [] = codes "DATA=END" ∷ []
lines_of_pairs printed (pair ∷ pairs) = (32 ∷ shown_bytes printed pair.0) ∷ (32 ∷ shown_bytes printed pair.1) ∷ lines_of_pairs printed pairs

abbrev pub lines_of_header : Bool → Bool → List (List ℕ)
lines_of_header printed dup =
    codes "VERSION=3" ∷ (if printed then codes "format=print" else codes "format=bytevalue") ∷ codes "type=btree" ∷ (if dup then codes "dupsort=1" else codes "dupsort=0") ∷ codes "HEADER=END" ∷ []

abbrev pub dump_lines : Bool → Bool → List KeyAndData → List (List ℕ)
dump_lines printed dup pairs = lines_of_header printed dup ++ lines_of_pairs printed pairs

-- the text is these lines
pairs_are_lines : (printed : Bool) (pairs : List KeyAndData) → flat_map (pair_text printed) pairs ++ end_text ≡ flat_map with_feed (lines_of_pairs printed pairs)
pairs_are_lines printed [] = refl
pairs_are_lines printed (pair ∷ pairs) =
    let key : List ℕ = shown_line printed pair.0 in
    let value : List ℕ = shown_line printed pair.1 in
    let rest : List ℕ = flat_map (pair_text printed) pairs in
    append_assoc (key ++ value) rest end_text
    ∙ append_assoc key value (rest ++ end_text)
    ∙ ap (λ (l : List ℕ). key ++ (value ++ l)) (pairs_are_lines printed pairs)

pub text_is_lines : (printed dup : Bool) (pairs : List KeyAndData) → dump_text printed dup pairs ≡ flat_map with_feed (dump_lines printed dup pairs)
text_is_lines true true pairs = ap (λ (l : List ℕ). header_text true true ++ l) (pairs_are_lines true pairs)
text_is_lines true false pairs = ap (λ (l : List ℕ). header_text true false ++ l) (pairs_are_lines true pairs)
text_is_lines false true pairs = ap (λ (l : List ℕ). header_text false true ++ l) (pairs_are_lines false pairs)
text_is_lines false false pairs = ap (λ (l : List ℕ). header_text false false ++ l) (pairs_are_lines false pairs)

-- no line has a line feed of its own
abbrev is_feedless : List ℕ → Bool
is_feedless line = list_all (λ c. not (c == 10)) line

line_step : (c : ℕ) (line rest : List ℕ) (feed : Bool) → (c == 10) ≡ feed → is_feedless (c ∷ line) ≡ true → (is_feedless line ≡ true → text_lines (line ++ 10 ∷ rest) ≡ line ∷ text_lines rest) →
    text_lines (c ∷ line ++ 10 ∷ rest) ≡ (c ∷ line) ∷ text_lines rest
line_step c line rest true e all others = let wrong = rw e at all in absurd (cc wrong)
line_step c line rest false e all others = let left = rw e at all in rw e (ap (onto_first c) (others left))

line_back : (line rest : List ℕ) → is_feedless line ≡ true → text_lines (line ++ 10 ∷ rest) ≡ line ∷ text_lines rest
line_back [] rest all = refl
line_back (c ∷ line) rest all = line_step c line rest (c == 10) refl all (line_back line rest)

pub lines_back : (lines : List (List ℕ)) → list_all is_feedless lines ≡ true → text_lines (flat_map with_feed lines) ≡ lines
lines_back [] all = refl
lines_back (line ∷ lines) all =
    let parts = and_parts (is_feedless line) (list_all is_feedless lines) all in
    ap text_lines (append_assoc line (10 ∷ []) (flat_map with_feed lines))
    ∙ line_back line (flat_map with_feed lines) parts.0
    ∙ ap (λ (l : List (List ℕ)). line ∷ l) (lines_back lines parts.1)

value_by : (c d : ℕ) (s : Bool) → (c == 10) ≡ s → hex_digit_value c ≡ Some d → not (c == 10) ≡ true
value_by c d true h e =
    let at : c ≡ 10 = eqb-true c 10 h in
    let wrong : hex_digit_value 10 ≡ Some d = rw at at e in
    absurd (cc wrong)
value_by c d false h e = rw h refl

no_feed : (c d : ℕ) → hex_digit_value c ≡ Some d → not (c == 10) ≡ true
no_feed c d e = value_by c d (c == 10) refl e

digits_feedless : (b : ℕ) → b < 256 → is_feedless (encode_lower (b ∷ [])) ≡ true
unfolding encode_with
digits_feedless b fits =
    let high : b / 16 < 16 = omega arith in
    let low : b % 16 < 16 = omega arith in
    let h = no_feed (slice_index lower_digits (b / 16)) (b / 16) (IsDigits-lower_digits (b / 16) high) in
    let l = no_feed (slice_index lower_digits (b % 16)) (b % 16) (IsDigits-lower_digits (b % 16) low) in
    rw (h, l) refl

all_append : (xs ys : List ℕ) → is_feedless xs ≡ true → is_feedless ys ≡ true → is_feedless (xs ++ ys) ≡ true
all_append [] ys left right = right
all_append (x ∷ xs) ys left right =
    let parts = and_parts (not (x == 10)) (is_feedless xs) left in
    rw parts.0 (all_append xs ys parts.1 right)

encoded_feedless : (bytes : List ℕ) → IsBytes bytes → is_feedless (encode_lower bytes) ≡ true
unfolding encode_with
encoded_feedless [] are = refl
encoded_feedless (b ∷ bytes) are = all_append (encode_lower (b ∷ [])) (encode_lower bytes) (digits_feedless b (are 0)) (encoded_feedless bytes (λ k. are (suc k)))

plain_by : (b : ℕ) (s : Bool) → (b == 10) ≡ s → is_printable b ≡ true → is_feedless (b ∷ []) ≡ true
plain_by b true h p =
    let at : b ≡ 10 = eqb-true b 10 h in
    let wrong : is_printable 10 ≡ true = rw at at p in
    absurd (cc wrong)
plain_by b false h p = rw h refl

printed_by : (b : ℕ) (slash plain : Bool) → (b == 92) ≡ slash → is_printable b ≡ plain → b < 256 → is_feedless (printed_byte b) ≡ true
printed_by b true plain e p fits = rw e refl
printed_by b false true e p fits = rw (e, p) (plain_by b (b == 10) refl p)
printed_by b false false e p fits = rw (e, p) (digits_feedless b fits)

printed_feedless : (bytes : List ℕ) → IsBytes bytes → is_feedless (flat_map printed_byte bytes) ≡ true
printed_feedless [] are = refl
printed_feedless (b ∷ bytes) are =
    all_append (printed_byte b) (flat_map printed_byte bytes) (printed_by b (b == 92) (is_printable b) refl refl (are 0)) (printed_feedless bytes (λ k. are (suc k)))

shown_feedless : (printed : Bool) (bytes : List ℕ) → IsBytes bytes → is_feedless (32 ∷ shown_bytes printed bytes) ≡ true
shown_feedless true bytes are = printed_feedless bytes are
shown_feedless false bytes are = encoded_feedless bytes are

pairs_feedless : (printed dup : Bool) (pairs : List KeyAndData) → AllByRecursion (IsDumpPair dup) pairs → list_all is_feedless (lines_of_pairs printed pairs) ≡ true
pairs_feedless printed dup [] are = refl
pairs_feedless printed dup (pair ∷ pairs) are =
    let key = shown_feedless printed pair.0 are.0.key in
    let value = shown_feedless printed pair.1 are.0.value in
    rw (key, value) (pairs_feedless printed dup pairs are.1)

pub dump_feedless : (printed dup : Bool) (pairs : List KeyAndData) → AllByRecursion (IsDumpPair dup) pairs → list_all is_feedless (dump_lines printed dup pairs) ≡ true
dump_feedless true true pairs are = pairs_feedless true true pairs are
dump_feedless true false pairs are = pairs_feedless true false pairs are
dump_feedless false true pairs are = pairs_feedless false true pairs are
dump_feedless false false pairs are = pairs_feedless false false pairs are
