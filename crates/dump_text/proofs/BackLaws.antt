-- The text of a dump is read as its pairs.
use Rattle.std.proofs.Common.{arith, ◌≡◌, ◌≤◌, ◌+◌, ◌*◌, ◌++◌, nat_lt, ℕ, List, [], ◌∷◌, Bool, true, false, None, Some, Ok, refl, sym, ap, ◌∙◌, length, append_assoc}
use Rattle.std.proofs.lemmas.Bool.Decides.{nat_tests}
use Rattle.std.proofs.lemmas.List.{append-nil}
use Rattle.std.specs.List.{AllByRecursion}
use Rattle.hex.specs.Hex.{IsBytes}
use Rattle.hex.proofs.HexLemmas.{decode_of-encode_lower}
use Rattle.dump_text.specs.declared.dump.Dump.{Dump}
use Rattle.dump_text.specs.declared.pending_key.PendingKey.{PendingKey}
use Rattle.dump_text.specs.declared.dump_pair.DumpPair.{DumpPair}
use Rattle.dump_text.specs.declared.dump_header.DumpHeader.{DumpHeader}
use Rattle.dump_text.specs.declared.parsing.TheConstants.{MOST_DUMP_LINES}
use Rattle.dump_text.specs.Grammar.{dump_of, dump_from, pairs_from, most_bytes}
use Rattle.dump_text.specs.Values.{line_bytes, bytes_shown}
use Rattle.dump_text.specs.Text.{DumpsAreReadBack, IsDumpPair, KeyAndData, with_key_lines, shown_bytes}
use Rattle.dump_text.proofs.PrintedBytes.{unprinted_back}
use Rattle.dump_text.proofs.DumpLines.{dump_lines, lines_of_pairs, text_is_lines, lines_back, dump_feedless}

shown_back : (printed : Bool) (bytes : List ℕ) → IsBytes bytes → bytes_shown printed (shown_bytes printed bytes) ≡ Some bytes
shown_back true bytes are = unprinted_back bytes are
shown_back false bytes are = rw (decode_of-encode_lower bytes are) refl

bytes_back : (printed : Bool) (most : ℕ) (bytes : List ℕ) → IsBytes bytes → length bytes ≤ most → line_bytes printed most (32 ∷ shown_bytes printed bytes) ≡ Some bytes
bytes_back printed most bytes are few = rw (shown_back printed bytes are) (grind (arith, nat_tests))

most_key : (dup : Bool) → most_bytes dup None ≡ 4096
most_key true = refl
most_key false = refl

most_value : (dup : Bool) (key : PendingKey) → most_bytes dup (Some key) ≡ most_bytes dup (Some (record { line = 0; key = [] }))
most_value true key = refl
most_value false key = refl

-- the pairs behind a header of this kind
abbrev header_of : Bool → Bool → DumpHeader
header_of printed dup = record { printed = printed; dup = dup; dup_line = 4 }

pair_step : (printed dup : Bool) (pair : KeyAndData) (rest : List (List ℕ)) (line : ℕ) (done : List DumpPair) → IsDumpPair dup pair → line + 2 ≤ 1_000_000 →
    pairs_from (header_of printed dup) ((32 ∷ shown_bytes printed pair.0) ∷ (32 ∷ shown_bytes printed pair.1) ∷ rest) line done None
    ≡ pairs_from (header_of printed dup) rest (line + 1 + 1) (done ++ record { line = line; key = pair.0; value = pair.1 } ∷ []) None
pair_step printed dup pair rest line done is few =
    let key : line_bytes printed (most_bytes dup None) (32 ∷ shown_bytes printed pair.0) ≡ Some pair.0 = rw (most_key dup) (bytes_back printed 4096 pair.0 is.key is.short_key) in
    let pending : PendingKey = record { line = line; key = pair.0 } in
    let value : line_bytes printed (most_bytes dup (Some pending)) (32 ∷ shown_bytes printed pair.1) ≡ Some pair.1 =
    rw (most_value dup pending) (bytes_back printed (most_bytes dup (Some (record { line = 0; key = [] }))) pair.1 is.value is.short_value) in
    let first : nat_lt MOST_DUMP_LINES line ≡ false = grind (arith, nat_tests) in
    let second : nat_lt MOST_DUMP_LINES (line + 1) ≡ false = grind (arith, nat_tests) in
    rw (first, key, second, value) refl

pairs_back : (printed dup : Bool) (pairs : List KeyAndData) (line : ℕ) (done : List DumpPair) → AllByRecursion (IsDumpPair dup) pairs → 2 * length pairs + line ≤ 1_000_000 →
    pairs_from (header_of printed dup) (lines_of_pairs printed pairs) line done None ≡ Ok (record { dup = dup; dup_line = 4; pairs = done ++ with_key_lines line pairs })
pairs_back printed dup [] line done are few =
    let within : nat_lt MOST_DUMP_LINES line ≡ false = grind (arith, nat_tests) in
    rw within (ap (λ (l : List DumpPair). Ok (record { dup = dup; dup_line = 4; pairs = l })) (sym (append-nil done)))
pairs_back printed dup (pair ∷ pairs) line done are few =
    let two : line + 1 + 1 ≡ line + 2 = omega arith in
    let it : DumpPair = record { line = line; key = pair.0; value = pair.1 } in
    pair_step printed dup pair (lines_of_pairs printed pairs) line done are.0 (omega arith)
    ∙ ap (λ (n : ℕ). pairs_from (header_of printed dup) (lines_of_pairs printed pairs) n (done ++ it ∷ []) None) two
    ∙ pairs_back printed dup pairs (line + 2) (done ++ it ∷ []) are.1 (omega arith)
    ∙ ap (λ (l : List DumpPair). Ok (record { dup = dup; dup_line = 4; pairs = l })) (append_assoc done (it ∷ []) (with_key_lines (line + 2) pairs))

header_back : (printed dup : Bool) (pairs : List KeyAndData) → dump_from (dump_lines printed dup pairs) ≡ pairs_from (header_of printed dup) (lines_of_pairs printed pairs) 6 [] None
header_back true true pairs = refl
header_back true false pairs = refl
header_back false true pairs = refl
header_back false false pairs = refl

pub dumps_back : DumpsAreReadBack
dumps_back printed dup pairs are few =
    ap dump_of (text_is_lines printed dup pairs)
    ∙ ap dump_from (lines_back (dump_lines printed dup pairs) (dump_feedless printed dup pairs are))
    ∙ header_back printed dup pairs
    ∙ pairs_back printed dup pairs 6 [] are few
