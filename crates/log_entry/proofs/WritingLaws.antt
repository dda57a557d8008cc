-- An entry put at the end of a vector, a piece at a time.
use Rattle.std.proofs.Common.{◌≡◌, ℕ, ◌+◌, ◌-◌, ◌≤◌, List, [], ◌++◌, length, take, drop, refl, sym, ap, subst, ◌∙◌, arith}
use Rattle.std.specs.Int.{w32, to_be_bytes}
use Rattle.std.proofs.lemmas.List.{take_at, take-take, drop-drop, length-append, length-drop, append-nil}
use Rattle.std.proofs.lemmas.Slice.{between_to_end}
use Rattle.std.proofs.Math.ListN.{drop_of_length-le}
use borrow.Rule.Slice.PartMut.{put_mid, post_of}
use Rattle.std.proofs.Math.Seq.{drop-append-add}
use Rattle.je_bytes.specs.Adler.{adler32_of}
use Rattle.log_entry.specs.declared.entry.Entry.{Entry}
use Rattle.log_entry.specs.Encoding.{summed, encoding}
use Rattle.log_entry.specs.Writing.{KeepsOldBytes}

pub keeps_front : (old x new : List ℕ) → new ≡ old ++ x → KeepsOldBytes old new
keeps_front old x new is = ap (take (length old)) is ∙ take_at old x (length old) refl

take_less : (m n : ℕ) (xs : List ℕ) → take m (take (m + n) xs) ≡ take m xs
take_less m n xs = take-take m (m + n) xs (omega arith)

pub keeps_then : (old x mid new : List ℕ) → mid ≡ old ++ x → KeepsOldBytes mid new → KeepsOldBytes old new
keeps_then old x mid new is keeps =
    let len : length mid ≡ length old + length x = ap length is ∙ length-append old x in
    sym (take_less (length old) (length x) new) ∙ ap (λ (n : ℕ). take (length old) (take n new)) (sym len) ∙ ap (take (length old)) keeps ∙ keeps_front old x mid is

-- an entry that is signed is encoded
pub signed : (old mid new : List ℕ) (e : Entry) (prev : ℕ) → mid ≡ old ++ (to_be_bytes w32 0 ++ summed e prev)
    → new ≡ take (length old) mid ++ (to_be_bytes w32 (adler32_of (drop (length old + 4) mid)) ++ drop (length old + 4) mid)
    → new ≡ old ++ encoding e prev
unfolding encoding
signed old mid new e prev is written =
    let front : take (length old) mid ≡ old = ap (take (length old)) is ∙ take_at old (to_be_bytes w32 0 ++ summed e prev) (length old) refl in
    let after : drop (length old + 4) mid ≡ summed e prev = ap (drop (length old + 4)) is ∙ drop-append-add old (to_be_bytes w32 0 ++ summed e prev) 4 in
    written ∙ ap (λ (x : List ℕ). x ++ (to_be_bytes w32 (adler32_of (drop (length old + 4) mid)) ++ drop (length old + 4) mid)) front
    ∙ ap (λ (x : List ℕ). old ++ (to_be_bytes w32 (adler32_of x) ++ x)) after

pub signed_from : (old mid new : List ℕ) (start : ℕ) (e : Entry) (prev : ℕ) → start ≡ length old → mid ≡ old ++ (to_be_bytes w32 0 ++ summed e prev)
    → new ≡ take start mid ++ (to_be_bytes w32 (adler32_of (drop (start + 4) mid)) ++ drop (start + 4) mid) → new ≡ old ++ encoding e prev
signed_from old mid new start e prev start_is is written =
    signed old mid new e prev is (subst (λ (k : ℕ). new ≡ take k mid ++ (to_be_bytes w32 (adler32_of (drop (k + 4) mid)) ++ drop (k + 4) mid)) start_is written)

-- a part of the bytes up to their end
whole_part : (bytes : List ℕ) (start : ℕ) → take (length bytes - start) (drop start bytes) ≡ drop start bytes
whole_part bytes start = between_to_end bytes start (length bytes) (omega arith)

-- a number written at a place of the bytes
pub written_at : (bytes part : List ℕ) (start n : ℕ) → start + 4 ≤ length bytes → part ≡ to_be_bytes w32 n ++ drop 4 (take (length bytes - start) (drop start bytes))
    → n ≡ adler32_of (take (length bytes - (start + 4)) (drop (start + 4) bytes))
    → put_mid start (length bytes - start) bytes part ≡ take start bytes ++ (to_be_bytes w32 (adler32_of (drop (start + 4) bytes)) ++ drop (start + 4) bytes)
written_at bytes part start n le part_is n_is =
    let after : drop 4 (take (length bytes - start) (drop start bytes)) ≡ drop (start + 4) bytes = ap (drop 4) (whole_part bytes start) ∙ drop-drop 4 start bytes in
    let past : post_of start (length bytes - start) bytes ≡ [] = drop_of_length-le (drop start bytes) (omega (arith, length-drop start bytes)) in
    let sum : n ≡ adler32_of (drop (start + 4) bytes) = n_is ∙ ap adler32_of (whole_part bytes (start + 4)) in
    let text : part ≡ to_be_bytes w32 (adler32_of (drop (start + 4) bytes)) ++ drop (start + 4) bytes =
    part_is ∙ ap (λ (x : List ℕ). to_be_bytes w32 n ++ x) after ∙ ap (λ (k : ℕ). to_be_bytes w32 k ++ drop (start + 4) bytes) sum in
    ap (λ (x : List ℕ). take start bytes ++ (part ++ x)) past ∙ ap (λ (x : List ℕ). take start bytes ++ x) (append-nil part ∙ text)
