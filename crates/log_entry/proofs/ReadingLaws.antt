-- What is read at the front of bytes is what was written there, whatever follows it.
use Rattle.std.proofs.Common.{◌≡◌, ℕ, ◌+◌, ◌^◌, ◌<◌, ◌≤◌, Bool, true, false, cond, eqb, ltb, List, [], ◌∷◌, ◌++◌, length, get_or, take, drop, Option, Some, None, Result, Ok, Err, refl, sym, ap, subst, ◌∙◌, append_assoc, arith, drop-cons}
use Rattle.std.specs.Prelude.{IfOk}
use Rattle.std.specs.declared.alloc.AllocError.{AllocError}
use Rattle.std.specs.Int.{w32, from_be_bytes, to_be_bytes}
use Rattle.std.proofs.lemmas.Bool.{eqb-true, eq-eqb, ltb-false, le-ltb}
use Rattle.std.proofs.lemmas.List.{append-nil, length-append, length-take, length-drop, take-append-drop, take-append-le, drop-append-le, take_at, get_or_append_left, drop-drop}
use Rattle.std.proofs.Math.Seq.{take-length}
use Rattle.je_bytes.specs.Adler.{adler32_of}
use Rattle.je_bytes.specs.Reading.{AreBytes}
use Rattle.je_bytes.proofs.AdlerSums.{adler32_of-lt}
use Rattle.je_bytes.proofs.Fields.{AreBytes-take, AreBytes-drop, four_bytes}
use Rattle.log_entry.specs.declared.entry.Entry.{Entry}
use Rattle.log_entry.specs.declared.decoder.Decoded.{Decoded}
use Rattle.log_entry.specs.declared.decoder.Decoded.TheVariants.{Whole, Torn as NotWhole}
use Rattle.log_entry.specs.declared.decoder.Torn.{Torn}
use Rattle.log_entry.specs.declared.decoder.Torn.TheVariants.{Short, BadSum, BadKind}
use Rattle.log_entry.specs.Body.{IsEntry, kind_of, body_of, body_size_of, entry_in}
use Rattle.log_entry.specs.Encoding.{head, summed, encoding, size_of}
use Rattle.log_entry.specs.Reading.{number_at, known, whole_in, summed_in, decoded, IsFound, IsOneEncoding}
use Rattle.log_entry.proofs.BodyLaws.{entry_in-takes, entry_in-again, length-body_of, body_small}

-- the fields of a whole entry at the front of the bytes
pub record HasFields (bytes : List ℕ) (e : Entry) (prev len : ℕ) : Type 0 where
  pub long : 14 + len ≤ length bytes
  pub len_is : number_at w32 10 bytes ≡ len
  pub sum : number_at w32 0 bytes ≡ adler32_of (take (10 + len) (drop 4 bytes))
  pub flags : get_or bytes 5 0 ≡ 0
  pub prev_is : number_at w32 6 bytes ≡ prev
  pub body : entry_in (get_or bytes 4 0) (take len (drop 14 bytes)) ≡ Some e

-- ---- fields and decoding

pub decoded-fields : (bytes : List ℕ) (e : Entry) (prev len : ℕ) → HasFields bytes e prev len → decoded bytes ≡ Whole e prev (14 + len)
unfolding decoded
decoded-fields bytes e prev len has =
    let not_short : ltb (length bytes) 14 ≡ false = le-ltb (length bytes) 14 (omega (arith, has.long)) in
    let not_cut : ltb (length bytes) (14 + len) ≡ false = le-ltb (length bytes) (14 + len) has.long in
    let same_sum : eqb (number_at w32 0 bytes) (adler32_of (take (10 + len) (drop 4 bytes))) ≡ true = eq-eqb _ _ has.sum in
    let no_flags : eqb (get_or bytes 5 0) 0 ≡ true = eq-eqb _ _ has.flags in
    ap (λ (b : Bool). cond b (NotWhole Short) (summed_in (number_at w32 10 bytes) bytes)) not_short
    ∙ ap (λ (l : ℕ). summed_in l bytes) has.len_is
    ∙ ap (λ (b : Bool). cond b (NotWhole Short) (cond (eqb (number_at w32 0 bytes) (adler32_of (take (10 + len) (drop 4 bytes)))) (whole_in len bytes) (NotWhole BadSum))) not_cut
    ∙ ap (λ (b : Bool). cond b (whole_in len bytes) (NotWhole BadSum)) same_sum
    ∙ ap (known (get_or bytes 5 0) (number_at w32 6 bytes) (14 + len)) has.body
    ∙ ap (λ (b : Bool). cond b (Whole e (number_at w32 6 bytes) (14 + len)) (NotWhole BadKind)) no_flags
    ∙ ap (λ (p : ℕ). Whole e p (14 + len)) has.prev_is

unless_torn : (b : Bool) (t : Torn) (d : Decoded) (e : Entry) (prev n : ℕ) → cond b (NotWhole t) d ≡ Whole e prev n → (b ≡ false) × (d ≡ Whole e prev n)
unless_torn true t d e prev n h = absurd cc
unless_torn false t d e prev n h = (refl, h)

if_whole : (b : Bool) (t : Torn) (d : Decoded) (e : Entry) (prev n : ℕ) → cond b d (NotWhole t) ≡ Whole e prev n → (b ≡ true) × (d ≡ Whole e prev n)
if_whole true t d e prev n h = (refl, h)
if_whole false t d e prev n h = absurd cc

known_whole : (flags p m : ℕ) (o : Option Entry) (e : Entry) (prev n : ℕ) → known flags p m o ≡ Whole e prev n → (flags ≡ 0) × (p ≡ prev) × (m ≡ n) × (o ≡ Some e)
known_whole flags p m None e prev n h = absurd cc
known_whole flags p m (Some f) e prev n h =
    let w = if_whole (eqb flags 0) BadKind (Whole f p m) e prev n h in
    (eqb-true _ _ w.0, cc, cc, cc)

-- a whole entry has these fields
pub fields-decoded : (bytes : List ℕ) (e : Entry) (prev n : ℕ) → decoded bytes ≡ Whole e prev n → HasFields bytes e prev (number_at w32 10 bytes) × (n ≡ 14 + number_at w32 10 bytes)
unfolding decoded
fields-decoded bytes e prev n is =
    let len = number_at w32 10 bytes in
    let a = unless_torn (ltb (length bytes) 14) Short (summed_in len bytes) e prev n is in
    let sums = eqb (number_at w32 0 bytes) (adler32_of (take (10 + len) (drop 4 bytes))) in
    let b = unless_torn (ltb (length bytes) (14 + len)) Short (cond sums (whole_in len bytes) (NotWhole BadSum)) e prev n a.1 in
    let c = if_whole sums BadSum (whole_in len bytes) e prev n b.1 in
    let d = known_whole (get_or bytes 5 0) (number_at w32 6 bytes) (14 + len) (entry_in (get_or bytes 4 0) (take len (drop 14 bytes))) e prev n c.1 in
    (record { long = ltb-false _ _ b.0; len_is = refl; sum = eqb-true _ _ c.0; flags = d.0; prev_is = d.1; body = d.3 }, sym d.2)

-- ---- bytes that follow change nothing

piece-append : (k i : ℕ) (bytes more : List ℕ) → i + k ≤ length bytes → take k (drop i (bytes ++ more)) ≡ take k (drop i bytes)
piece-append k i bytes more le =
    ap (take k) (drop-append-le i bytes more (omega arith)) ∙ take-append-le k (drop i bytes) more (omega (arith, length-drop i bytes))

pub fields-append : (bytes more : List ℕ) (e : Entry) (prev len : ℕ) → HasFields bytes e prev len → HasFields (bytes ++ more) e prev len
fields-append bytes more e prev len has =
    let long : 14 + len ≤ length bytes = has.long in
    record {
      long = omega (arith, length-append bytes more, long);
      len_is = ap (from_be_bytes w32) (piece-append 4 10 bytes more (omega arith)) ∙ has.len_is;
      sum = ap (from_be_bytes w32) (piece-append 4 0 bytes more (omega arith)) ∙ has.sum ∙ ap adler32_of (sym (piece-append (10 + len) 4 bytes more (omega arith)));
      flags = get_or_append_left bytes more 0 5 (omega arith) ∙ has.flags;
      prev_is = ap (from_be_bytes w32) (piece-append 4 6 bytes more (omega arith)) ∙ has.prev_is;
      body = subst (λ (k : ℕ). entry_in k (take len (drop 14 (bytes ++ more))) ≡ Some e) (sym (get_or_append_left bytes more 0 4 (omega arith)))
          (ap (entry_in (get_or bytes 4 0)) (piece-append len 14 bytes more (omega arith)) ∙ has.body);
    }

-- a whole entry stays one, whatever follows
pub decoded-append : (bytes more : List ℕ) (e : Entry) (prev n : ℕ) → decoded bytes ≡ Whole e prev n → decoded (bytes ++ more) ≡ Whole e prev n
decoded-append bytes more e prev n is =
    let has = fields-decoded bytes e prev n is in
    decoded-fields (bytes ++ more) e prev (number_at w32 10 bytes) (fields-append bytes more e prev (number_at w32 10 bytes) has.0) ∙ ap (Whole e prev) (sym has.1)

pub decoded-long : (bytes : List ℕ) (e : Entry) (prev n : ℕ) → decoded bytes ≡ Whole e prev n → (14 ≤ n) × (n ≤ length bytes)
decoded-long bytes e prev n is =
    let has = fields-decoded bytes e prev n is in
    (omega (arith, has.1), omega (arith, has.1, has.0.long))

-- ---- what is encoded is read

pub length-encoding : (e : Entry) (prev : ℕ) → length (encoding e prev) ≡ size_of e
unfolding encoding summed
length-encoding e prev = omega (arith, length-body_of e)

whole_front : (n : ℕ) (xs : List ℕ) → length xs ≡ n → take n xs ≡ xs
whole_front n xs is = subst (λ (k : ℕ). take k xs ≡ xs) is (take-length xs)

pub fields-encoding : (e : Entry) (prev : ℕ) → IsEntry e → prev < 2 ^ 32 → HasFields (encoding e prev) e prev (body_size_of e)
unfolding encoding summed
fields-encoding e prev is lt =
    let len : length (body_of e) ≡ body_size_of e = length-body_of e in
    let small : length (body_of e) < 2 ^ 32 = omega (arith, body_small e is, len) in
    let sum = adler32_of (head (kind_of e) prev (length (body_of e)) ++ body_of e) in
    record {
      long = omega (arith, len);
      len_is = four_bytes.number (length (body_of e)) small ∙ len;
      sum = four_bytes.number sum (adler32_of-lt (head (kind_of e) prev (length (body_of e)) ++ body_of e))
          ∙ ap adler32_of (sym (whole_front (10 + body_size_of e) (head (kind_of e) prev (length (body_of e)) ++ body_of e) (omega (arith, len))));
      flags = refl;
      prev_is = four_bytes.number prev lt;
      body = ap (entry_in (kind_of e)) (whole_front (body_size_of e) (body_of e) len) ∙ entry_in-again e is;
    }

pub decoded-again : (e : Entry) (prev : ℕ) (rest : List ℕ) → IsEntry e → prev < 2 ^ 32 → decoded (encoding e prev ++ rest) ≡ Whole e prev (size_of e)
decoded-again e prev rest is lt = decoded-fields (encoding e prev ++ rest) e prev (body_size_of e) (fields-append (encoding e prev) rest e prev (body_size_of e) (fields-encoding e prev is lt))

pub only : (r : Result Decoded AllocError) (bytes : List ℕ) (e : Entry) (p : ℕ) (rest : List ℕ) → IfOk r (λ found. found ≡ decoded bytes) → IsEntry e → p < 2 ^ 32 → bytes ≡ encoding e p ++ rest
    → IfOk r (λ found. found ≡ Whole e p (size_of e))
only (Ok found) bytes e p rest is entry lt same = is ∙ ap decoded same ∙ decoded-again e p rest entry lt
only (Err e) bytes f p rest is entry lt same = tt

-- ---- what is read was encoded

piece : (k i : ℕ) (bytes : List ℕ) → drop i bytes ≡ take k (drop i bytes) ++ drop (i + k) bytes
piece k i bytes = sym (take-append-drop k (drop i bytes)) ∙ ap (λ (r : List ℕ). take k (drop i bytes) ++ r) (drop-drop k i bytes)

number_piece : (i : ℕ) (bytes : List ℕ) → AreBytes bytes → i + 4 ≤ length bytes → drop i bytes ≡ to_be_bytes w32 (number_at w32 i bytes) ++ drop (i + 4) bytes
number_piece i bytes are le =
    piece 4 i bytes ∙ ap (λ (r : List ℕ). r ++ drop (i + 4) bytes)
    (sym (four_bytes.bytes (take 4 (drop i bytes)) (omega (arith, length-take 4 (drop i bytes), length-drop i bytes)) (AreBytes-take 4 (drop i bytes) (AreBytes-drop i bytes are))))

regroup : (k f : ℕ) (a b c rest : List ℕ) → k ∷ f ∷ (a ++ (b ++ (c ++ rest))) ≡ ((k ∷ f ∷ (a ++ b)) ++ c) ++ rest
regroup k f a b c rest = simp append_assoc

-- the bytes from the kind on
from_kind : (bytes : List ℕ) (e : Entry) (prev len : ℕ) → AreBytes bytes → HasFields bytes e prev len
    → drop 4 bytes ≡ (head (get_or bytes 4 0) prev len ++ take len (drop 14 bytes)) ++ drop (14 + len) bytes
from_kind bytes e prev len are has =
    let long : 14 + len ≤ length bytes = has.long in
    let k = get_or bytes 4 0 in
    let e14 : drop 14 bytes ≡ take len (drop 14 bytes) ++ drop (14 + len) bytes = piece len 14 bytes in
    let e10 : drop 10 bytes ≡ to_be_bytes w32 len ++ drop 14 bytes = number_piece 10 bytes are (omega arith) ∙ ap (λ (n : ℕ). to_be_bytes w32 n ++ drop 14 bytes) has.len_is in
    let e6 : drop 6 bytes ≡ to_be_bytes w32 prev ++ drop 10 bytes = number_piece 6 bytes are (omega arith) ∙ ap (λ (n : ℕ). to_be_bytes w32 n ++ drop 10 bytes) has.prev_is in
    let e5 : drop 5 bytes ≡ 0 ∷ drop 6 bytes = drop-cons bytes 5 0 (omega arith) ∙ ap (λ (n : ℕ). n ∷ drop 6 bytes) has.flags in
    let e4 : drop 4 bytes ≡ k ∷ drop 5 bytes = drop-cons bytes 4 0 (omega arith) in
    e4 ∙ ap (λ (r : List ℕ). k ∷ r) (e5 ∙ ap (λ (r : List ℕ). 0 ∷ r) (e6 ∙ ap (λ (r : List ℕ). to_be_bytes w32 prev ++ r) (e10 ∙ ap (λ (r : List ℕ). to_be_bytes w32 len ++ r) e14)))
    ∙ regroup k 0 (to_be_bytes w32 prev) (to_be_bytes w32 len) (take len (drop 14 bytes)) (drop (14 + len) bytes)

pub encoding-fields : (bytes : List ℕ) (e : Entry) (prev len : ℕ) → AreBytes bytes → HasFields bytes e prev len
    → IsEntry e × (prev < 2 ^ 32) × (len ≡ body_size_of e) × (bytes ≡ encoding e prev ++ drop (14 + len) bytes)
unfolding encoding summed
encoding-fields bytes e prev len are has =
    let long : 14 + len ≤ length bytes = has.long in
    let body = take len (drop 14 bytes) in
    let read = entry_in-takes (get_or bytes 4 0) body e (AreBytes-take len (drop 14 bytes) (AreBytes-drop 14 bytes are)) has.body in
    let body_len : length body ≡ len = omega (arith, length-take len (drop 14 bytes), length-drop 14 bytes) in
    let len_is : length (body_of e) ≡ len = sym (ap length read.is) ∙ body_len in
    let text : head (get_or bytes 4 0) prev len ++ body ≡ summed e prev =
    ap (λ (k : ℕ). head k prev len ++ body) read.kind_is ∙ ap (λ (b : List ℕ). head (kind_of e) prev len ++ b) read.is ∙ ap (λ (n : ℕ). head (kind_of e) prev n ++ body_of e) (sym len_is) in
    let after : drop 4 bytes ≡ summed e prev ++ drop (14 + len) bytes = from_kind bytes e prev len are has ∙ ap (λ (t : List ℕ). t ++ drop (14 + len) bytes) text in
    let summed_len : length (summed e prev) ≡ 10 + len = omega (arith, len_is) in
    let front : take (10 + len) (drop 4 bytes) ≡ summed e prev = ap (take (10 + len)) after ∙ take_at (summed e prev) (drop (14 + len) bytes) (10 + len) summed_len in
    let sum : number_at w32 0 bytes ≡ adler32_of (summed e prev) = has.sum ∙ ap adler32_of front in
    let whole : bytes ≡ to_be_bytes w32 (adler32_of (summed e prev)) ++ (summed e prev ++ drop (14 + len) bytes) =
    number_piece 0 bytes are (omega arith) ∙ ap (λ (n : ℕ). to_be_bytes w32 n ++ drop 4 bytes) sum ∙ ap (λ (r : List ℕ). to_be_bytes w32 (adler32_of (summed e prev)) ++ r) after in
    let prev_lt : number_at w32 6 bytes < 2 ^ 32 = four_bytes.fits (take 4 (drop 6 bytes)) (AreBytes-take 4 (drop 6 bytes) (AreBytes-drop 6 bytes are)) in (
      read.entry,
      subst (λ (p : ℕ). p < 2 ^ 32) has.prev_is prev_lt,
      sym len_is ∙ length-body_of e,
      whole ∙ sym (append_assoc (to_be_bytes w32 (adler32_of (summed e prev))) (summed e prev) (drop (14 + len) bytes)),
    )

-- a whole entry that was found is encoded at the front
pub found : (bytes : List ℕ) (d : Decoded) → AreBytes bytes → decoded bytes ≡ d → IsFound bytes d
found bytes (NotWhole torn) are is = tt
found bytes (Whole e prev n) are is =
    let has = fields-decoded bytes e prev n is in
    let len = number_at w32 10 bytes in
    let s = encoding-fields bytes e prev len are has.0 in
    (s.0, s.1, has.1 ∙ ap (λ (k : ℕ). 14 + k) s.2, subst (λ (k : ℕ). bytes ≡ encoding e prev ++ drop k bytes) (sym has.1) s.3)

pub found_if : (r : Result Decoded AllocError) (bytes : List ℕ) → AreBytes bytes → IfOk r (λ d. d ≡ decoded bytes) → IfOk r (IsFound bytes)
found_if (Ok d) bytes are is = found bytes d are (sym is)
found_if (Err e) bytes are is = tt

-- ---- no encoding begins another

pub one : IsOneEncoding
one e f p q rest is_e is_f lt_p lt_q same =
    let whole_f : decoded (encoding f q) ≡ Whole f q (size_of f) = ap decoded (sym (append-nil (encoding f q))) ∙ decoded-again f q [] is_f lt_q in
    let whole_e = decoded-again e p rest is_e lt_p in
    let both : Whole f q (size_of f) ≡ Whole e p (size_of e) = sym whole_f ∙ ap decoded same ∙ whole_e in
    (cc, cc)
