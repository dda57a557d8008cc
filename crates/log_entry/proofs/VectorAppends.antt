-- Texts put at the end of a vector, one behind another.
use Rattle.std.proofs.Common.{◌≡◌, ℕ, ◌+◌, ◌<◌, ◌≤◌, true, false, cond, List, [], ◌∷◌, ◌++◌, length, take, Result, Ok, Err, refl, sym, ap, subst, ◌∙◌, append_assoc, arith}
use Rattle.std.specs.Prelude.{is_ok, is_err, IsOk, OnOk, OnErr}
use Rattle.std.proofs.lemmas.List.{length-append}
use Rattle.std.proofs.Math.Seq.{take-length}
use Rattle.std.specs.Int.{w32, to_be_bytes}
use Rattle.log_entry.specs.declared.entry.Entry.{Entry}
use Rattle.log_entry.specs.Body.{kind_of, body_of, body_size_of}
use Rattle.log_entry.specs.Encoding.{head, summed, size_of}
use Rattle.log_entry.specs.Writing.{KeepsOldBytes, Puts}
use Rattle.log_entry.proofs.BodyLaws.{length-body_of}
use Rattle.log_entry.proofs.WritingLaws.{keeps_then}

-- behind a text there is room for the rest
room_behind : (old a b mid : List ℕ) (room middle : ℕ) → mid ≡ old ++ a → room ≤ middle → length old + length (a ++ b) ≤ room → length mid + length b ≤ middle
room_behind old a b mid room middle is grows fits = omega (arith, ap length is, length-append old a, length-append a b, grows, fits)

-- where a text was put, and then another call was made
pub puts_behind : {A E : Type 0} {r : Result A E} {b old mid new : List ℕ} {room middle larger : ℕ} (a : List ℕ) → mid ≡ old ++ a → room ≤ middle → Puts b r mid new middle larger → Puts (a ++ b) r old new room larger
puts_behind {r = Ok v} {b} {old} {mid} {new} {room} {middle} {larger} a is grows next = record {
  ok = next.ok ∙ ap (λ (l : List ℕ). l ++ b) is ∙ append_assoc old a b;
  err = tt;
  fits = λ _. refl;
  capacity = omega (arith, grows, next.capacity);
}
puts_behind {r = Err e} {b} {old} {mid} {new} {room} {middle} {larger} a is grows next = record {
  ok = tt;
  err = keeps_then old a mid new is next.err;
  fits = λ fits. next.fits (room_behind old a b mid room middle is grows fits);
  capacity = omega (arith, grows, next.capacity);
}

pub puts_then : {A B E F : Type 0} {v : B} {r : Result A E} {a b old mid new : List ℕ} {room middle larger : ℕ} → Puts a (let done : Result B F = Ok v in done) old mid room middle → Puts b r mid new middle larger → Puts (a ++ b) r old new room larger
puts_then {a = a} first next = puts_behind a first.ok first.capacity next

-- where memory ran out, and no other call was made
stops : {A E : Type 0} (r : Result A E) (a b old new : List ℕ) (room larger : ℕ) → is_err r ≡ true → KeepsOldBytes old new → (length old + length a ≤ room → false ≡ true) → room ≤ larger → Puts (a ++ b) r old new room larger
stops (Ok v) a b old new room larger is keeps full grows = absurd cc
stops (Err e) a b old new room larger is keeps full grows = record {
  ok = tt;
  err = keeps;
  fits = λ fits. full (omega (arith, length-append a b, fits));
  capacity = grows;
}

pub puts_stops : {A B E F : Type 0} {e : F} {r : Result A E} {a old new : List ℕ} {room larger : ℕ} (b : List ℕ) → is_err r ≡ true → Puts a (let failed : Result B F = Err e in failed) old new room larger → Puts (a ++ b) r old new room larger
puts_stops {r = r} {a} {old} {new} {room} {larger} b is first = stops r a b old new room larger is first.err first.fits first.capacity

-- the same where the failed call changed nothing
pub stops_unchanged : {A E : Type 0} {r : Result A E} {old new : List ℕ} {room larger : ℕ} (a b : List ℕ) → is_err r ≡ true → new ≡ old → (length old + length a ≤ room → false ≡ true) → room ≤ larger → Puts (a ++ b) r old new room larger
stops_unchanged {r = r} {old} {new} {room} {larger} a b is same full grows = stops r a b old new room larger is (ap (take (length old)) same ∙ take-length old) full grows

-- a call that puts all of a text or changes nothing
pub puts_all : {A E : Type 0} {r : Result A E} {old new : List ℕ} {room larger : ℕ} (text : List ℕ) → OnOk r (new ≡ old ++ text) → OnErr r (new ≡ old) → (length old + length text ≤ room → IsOk r) → room ≤ larger → Puts text r old new room larger
puts_all {r = Ok v} text ok err fits grows = record { ok = ok; err = tt; fits = fits; capacity = grows }
puts_all {r = Err e} {old} text ok err fits grows = record { ok = tt; err = ap (take (length old)) err ∙ take-length old; fits = fits; capacity = grows }

pub puts_slice : {A E : Type 0} {r : Result A E} {old new : List ℕ} {room larger : ℕ} (text : List ℕ) (len : ℕ) → new ≡ cond (is_ok r) (old ++ text) old → len ≡ length old → (len + length text ≤ room → IsOk r) → room ≤ larger → Puts text r old new room larger
puts_slice {r = Ok v} text len is is_len fits grows = record { ok = is; err = tt; fits = λ _. refl; capacity = grows }
puts_slice {r = Err e} {old} text len is is_len fits grows = record {
  ok = tt;
  err = ap (take (length old)) is ∙ take-length old;
  fits = λ more. fits (omega (arith, is_len, more));
  capacity = grows;
}

-- the same text by another name
pub puts_same : {A E : Type 0} {r : Result A E} {a b old new : List ℕ} {room larger : ℕ} → a ≡ b → Puts a r old new room larger → Puts b r old new room larger
puts_same {r = r} {a} {b} {old} {new} {room} {larger} is puts = subst (λ (text : List ℕ). Puts text r old new room larger) is puts

-- a push for which memory ran out
pub push_stops : {A E : Type 0} {r : Result A E} {old new : List ℕ} {room larger : ℕ} (x : ℕ) (b : List ℕ) (len : ℕ) → is_err r ≡ true → new ≡ old → len ≡ length old → (len < room → false ≡ true) → room ≤ larger → Puts (x ∷ b) r old new room larger
push_stops x b len is same is_len full grows = stops_unchanged (x ∷ []) b is same (λ fits. full (omega (arith, is_len, fits))) grows

-- ---- an entry before it is signed

pub summed_is : (e : Entry) (prev k n : ℕ) → k ≡ kind_of e → n ≡ body_size_of e → to_be_bytes w32 0 ++ (head k prev n ++ body_of e) ≡ to_be_bytes w32 0 ++ summed e prev
unfolding summed
summed_is e prev k n is_k is_n =
    ap (λ (x : ℕ). to_be_bytes w32 0 ++ (head x prev n ++ body_of e)) is_k
    ∙ ap (λ (x : ℕ). to_be_bytes w32 0 ++ (head (kind_of e) prev x ++ body_of e)) (is_n ∙ sym (length-body_of e))

length_unsigned : (e : Entry) (prev : ℕ) → length (to_be_bytes w32 0 ++ summed e prev) ≡ size_of e
unfolding summed
length_unsigned e prev = omega (arith, length-body_of e)

-- it has room where its encoding has
pub room_unsigned : (e : Entry) (prev : ℕ) (old mid : List ℕ) (room larger : ℕ) → mid ≡ old → room ≤ larger → length old + size_of e ≤ room → length mid + length (to_be_bytes w32 0 ++ summed e prev) ≤ larger
room_unsigned e prev old mid room larger is grows fits = omega (arith, length_unsigned e prev, ap length is, grows, fits)
