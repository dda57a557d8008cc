-- How bytes are decoded, a step at a time.
use Rattle.std.proofs.Common.{◌≡◌, ℕ, ◌+◌, ◌-◌, ◌<◌, ◌≤◌, Bool, true, false, cond, eqb, List, length, get_or, take, drop, Option, Some, None, refl, sym, ap, ◌∙◌, length-drop, arith}
use Rattle.std.specs.Int.{w32}
use Rattle.std.proofs.lemmas.Bool.{lt-ltb, le-ltb, eq-eqb, ne_eqb}
use Rattle.std.proofs.Math.Seq.{take-length}
use Rattle.je_bytes.specs.Adler.{adler32_of}
use Rattle.log_entry.specs.declared.entry.Entry.{Entry}
use Rattle.log_entry.specs.declared.decoder.Decoded.TheVariants.{Whole, Torn as NotWhole}
use Rattle.log_entry.specs.declared.decoder.Torn.TheVariants.{Short, BadSum, BadKind}
use Rattle.log_entry.specs.Body.{entry_in}
use Rattle.log_entry.specs.Reading.{number_at, known, whole_in, summed_in, decoded}

-- ---- whether the checksum is right

-- the bytes behind the checksum, as a part with an end
rest_part : (bytes : List ℕ) → take (length bytes - 4) (drop 4 bytes) ≡ drop 4 bytes
rest_part bytes = ap (λ (n : ℕ). take n (drop 4 bytes)) (sym (length-drop 4 bytes)) ∙ take-length (drop 4 bytes)

pub sum_tested : (bytes : List ℕ) (len stands sum : ℕ) → stands ≡ number_at w32 0 bytes → sum ≡ adler32_of (take (10 + len) (take (length bytes - 4) (drop 4 bytes)))
    → eqb stands sum ≡ eqb (number_at w32 0 bytes) (adler32_of (take (10 + len) (drop 4 bytes)))
sum_tested bytes len stands sum is sum_is =
    ap (λ (n : ℕ). eqb n sum) is ∙ ap (eqb (number_at w32 0 bytes)) (sum_is ∙ ap (λ (l : List ℕ). adler32_of (take (10 + len) l)) (rest_part bytes))

-- ---- how long a body is

pub short_is : (bytes : List ℕ) → length bytes < 14 → decoded bytes ≡ NotWhole Short
unfolding decoded
short_is bytes lt = ap (λ (b : Bool). cond b (NotWhole Short) (summed_in (number_at w32 10 bytes) bytes)) (lt-ltb (length bytes) 14 lt)

long_is : (bytes : List ℕ) (len : ℕ) → 14 ≤ length bytes → len ≡ number_at w32 10 bytes → decoded bytes ≡ summed_in len bytes
unfolding decoded
long_is bytes len le is =
    ap (λ (b : Bool). cond b (NotWhole Short) (summed_in (number_at w32 10 bytes) bytes)) (le-ltb (length bytes) 14 le) ∙ ap (λ (n : ℕ). summed_in n bytes) (sym is)

pub cut_is : (bytes : List ℕ) (len : ℕ) → 14 ≤ length bytes → len ≡ number_at w32 10 bytes → length bytes < 14 + len → decoded bytes ≡ NotWhole Short
cut_is bytes len le is lt =
    long_is bytes len le is
    ∙ ap (λ (b : Bool). cond b (NotWhole Short) (cond (eqb (number_at w32 0 bytes) (adler32_of (take (10 + len) (drop 4 bytes)))) (whole_in len bytes) (NotWhole BadSum))) (lt-ltb (length bytes) (14 + len) lt)

-- what the bytes begin with, by a test of the checksum
by_sum : (bytes : List ℕ) (len : ℕ) (right : Bool) → 14 ≤ length bytes → len ≡ number_at w32 10 bytes → 14 + len ≤ length bytes
    → right ≡ eqb (number_at w32 0 bytes) (adler32_of (take (10 + len) (drop 4 bytes))) → decoded bytes ≡ cond right (whole_in len bytes) (NotWhole BadSum)
by_sum bytes len right le is whole is_right =
    long_is bytes len le is
    ∙ ap (λ (b : Bool). cond b (NotWhole Short) (cond (eqb (number_at w32 0 bytes) (adler32_of (take (10 + len) (drop 4 bytes)))) (whole_in len bytes) (NotWhole BadSum))) (le-ltb (length bytes) (14 + len) whole)
    ∙ ap (λ (b : Bool). cond b (whole_in len bytes) (NotWhole BadSum)) (sym is_right)

pub bad_sum_is : (bytes : List ℕ) (len : ℕ) (right : Bool) → 14 ≤ length bytes → len ≡ number_at w32 10 bytes → 14 + len ≤ length bytes
    → right ≡ eqb (number_at w32 0 bytes) (adler32_of (take (10 + len) (drop 4 bytes))) → right ≡ false → decoded bytes ≡ NotWhole BadSum
bad_sum_is bytes len right le is whole is_right wrong = by_sum bytes len right le is whole is_right ∙ ap (λ (b : Bool). cond b (whole_in len bytes) (NotWhole BadSum)) wrong

pub sum_is : (bytes : List ℕ) (len : ℕ) (right : Bool) → 14 ≤ length bytes → len ≡ number_at w32 10 bytes → 14 + len ≤ length bytes
    → right ≡ eqb (number_at w32 0 bytes) (adler32_of (take (10 + len) (drop 4 bytes))) → right ≡ true → decoded bytes ≡ whole_in len bytes
sum_is bytes len right le is whole is_right holds = by_sum bytes len right le is whole is_right ∙ ap (λ (b : Bool). cond b (whole_in len bytes) (NotWhole BadSum)) holds

-- ---- whose body it is

pub flags_are_unknown : (flags prev len : ℕ) (read : Option Entry) → (flags ≡ 0 → ⊥) → NotWhole BadKind ≡ known flags prev len read
flags_are_unknown flags prev len None other = refl
flags_are_unknown flags prev len (Some entry) other = ap (λ (b : Bool). cond b (Whole entry prev len) (NotWhole BadKind)) (sym (ne_eqb flags 0 other))

-- the bytes of the body, as a part with an end
body_part : (bytes : List ℕ) (len : ℕ) → take (14 + len - 14) (drop 14 bytes) ≡ take len (drop 14 bytes)
body_part bytes len = let same : 14 + len - 14 ≡ len = omega arith in ap (λ (n : ℕ). take n (drop 14 bytes)) same

pub body_is_unknown : (bytes : List ℕ) (len : ℕ) (read : Option Entry) → read ≡ entry_in (get_or bytes 4 0) (take (14 + len - 14) (drop 14 bytes)) → read ≡ None → NotWhole BadKind ≡ whole_in len bytes
body_is_unknown bytes len read is none =
    ap (known (get_or bytes 5 0) (number_at w32 6 bytes) (14 + len)) (sym none ∙ is ∙ ap (entry_in (get_or bytes 4 0)) (body_part bytes len))

pub entry_is_whole : (bytes : List ℕ) (len prev : ℕ) (read : Option Entry) (entry : Entry) → get_or bytes 5 0 ≡ 0 → prev ≡ number_at w32 6 bytes
    → read ≡ entry_in (get_or bytes 4 0) (take (14 + len - 14) (drop 14 bytes)) → read ≡ Some entry → Whole entry prev (14 + len) ≡ whole_in len bytes
entry_is_whole bytes len prev read entry no_flags is_prev is some =
    ap (λ (b : Bool). cond b (Whole entry prev (14 + len)) (NotWhole BadKind)) (sym (eq-eqb (get_or bytes 5 0) 0 no_flags))
    ∙ ap (λ (p : ℕ). known (get_or bytes 5 0) p (14 + len) (Some entry)) is_prev
    ∙ ap (known (get_or bytes 5 0) (number_at w32 6 bytes) (14 + len)) (sym some ∙ is ∙ ap (entry_in (get_or bytes 4 0)) (body_part bytes len))
