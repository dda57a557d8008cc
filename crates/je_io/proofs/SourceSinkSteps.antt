-- Steps of reading and writing, joined.
use Rattle.std.proofs.Common.{◌≡◌, ◌<◌, ◌≤◌, ◌+◌, ℕ, List, [], ◌++◌, length, take, drop, Option, Some, None, Result, Ok, Err, OnErr, refl, sym, ap, ◌∙◌, subst, append_assoc, arith}
use Rattle.std.proofs.lemmas.List.{append-nil, take-append-drop, take_all, take-take, take_at, drop_at, drop_all, drop-take}
use Rattle.std.proofs.Common.{◌-◌, ◌^◌, min, cond, false, ◌∷◌, length-take}
use Rattle.std.specs.Result.{is_ok, is_err}
use Rattle.je_order.specs.Counts.{HasRisen}
use Rattle.je_io.specs.Source.{IsRead, Takes, TakesAll, Loses}
use Rattle.je_io.specs.Sink.{Gains}

-- what holds in any case holds after an error
pub after_err : {A B : Type 0} {P : Type 0} (r : Result A B) → P → OnErr r P
after_err (Ok x) p = tt
after_err (Err e) p = p

-- one fault more was counted
pub rose : (before after : ℕ) → before < 2 ^ 64 → after ≡ min (before + 1) (2 ^ 64 - 1) → HasRisen before after
rose before after fits is = grind arith

-- what was put at the end of a vector
pub put : {E : Type 0} (r : Result (Unit {0}) E) (new old bytes : List ℕ) → new ≡ cond (is_ok r) (old ++ bytes) old → is_err r ≡ false → new ≡ old ++ bytes
put (Ok x) new old bytes e good = e
put (Err x) new old bytes e good = absurd cc

-- the front of a list was copied to the front of a piece
pub front_read : (left back into front piece : List ℕ) (count : ℕ) → front ≡ take count left → back ≡ drop count left → piece ≡ front
    → count ≤ length left → (count ≡ 0 → 0 < length into → length left ≡ 0) → IsRead left back into (piece ++ drop count into) count
front_read left back into front piece count front-is back-is is long ended =
    let piece-is : piece ≡ take count left = is ∙ front-is in
    let len : length piece ≡ count = rw piece-is (omega (arith, length-take count left)) in
    record {
      taken = rw (take_at piece (drop count into) count len, piece-is, back-is) (sym (take-append-drop count left));
      others = drop_at piece (drop count into) count len;
      none_left = λ z room. empty left (ended z room);
    }
  where
    empty : (xs : List ℕ) → length xs ≡ 0 → xs ≡ []
    empty [] e = refl
    empty (x ∷ xs) e = absurd (omega arith)

-- nothing gained
pub gains_none : (w : Option (List ℕ)) → Gains w w []
gains_none None = tt
gains_none (Some w) = sym (append-nil w)

-- two gains are one
pub gains_then : (a b c : Option (List ℕ)) (xs ys : List ℕ) → Gains a b xs → Gains b c ys → Gains a c (xs ++ ys)
gains_then None None None xs ys h k = tt
gains_then None None (Some c) xs ys h k = absurd k
gains_then None (Some b) c xs ys h k = absurd h
gains_then (Some a) None c xs ys h k = absurd h
gains_then (Some a) (Some b) None xs ys h k = absurd k
gains_then (Some a) (Some b) (Some c) xs ys h k = k ∙ ap (λ w. w ++ ys) h ∙ append_assoc a xs ys

-- the first bytes of a list and some of those behind them are the first bytes of it
pub take_further : (bytes : List ℕ) (i n : ℕ) → take i bytes ++ take n (drop i bytes) ≡ take (i + n) bytes
take_further bytes i n =
    let whole = take-append-drop i (take (i + n) bytes) in
    let front = take-take i (i + n) bytes (omega arith) in
    let back = drop-take i n bytes in
    cc

-- a gain of the first bytes of a list goes on
pub gains_further : (a b c : Option (List ℕ)) (bytes : List ℕ) (i n : ℕ) → Gains a b (take i bytes) → Gains b c (take n (drop i bytes)) → Gains a c (take (i + n) bytes)
gains_further a b c bytes i n h k =
    subst (λ (taken : List ℕ). Gains a c taken) (take_further bytes i n) (gains_then a b c (take i bytes) (take n (drop i bytes)) h k)

-- a read loses what it gives
pub loses_further : (a b c : Option (List ℕ)) (bytes before after : List ℕ) (count : ℕ) → Loses a b bytes → Takes b c before after count → Loses a c (bytes ++ take count after)
loses_further None None None bytes before after count h k = tt
loses_further None None (Some c) bytes before after count h k = absurd k
loses_further None (Some b) c bytes before after count h k = absurd h
loses_further (Some a) None c bytes before after count h k = absurd h
loses_further (Some a) (Some b) None bytes before after count h k = absurd k
loses_further (Some a) (Some b) (Some c) bytes before after count h k =
    h ∙ ap (λ w. bytes ++ w) k.taken ∙ sym (append_assoc bytes (take count after) c)

-- one byte more than `most` was read
pub takes_full : (a b : Option (List ℕ)) (most : ℕ) (bytes : List ℕ) → Loses a b bytes → length bytes ≡ most + 1 → TakesAll a b most bytes
takes_full None None most bytes h e = tt
takes_full None (Some b) most bytes h e = absurd h
takes_full (Some a) None most bytes h e = absurd h
takes_full (Some a) (Some b) most bytes h e = record {
  front = sym (ap (λ w. take (most + 1) w) h ∙ take_at bytes b (most + 1) e);
  behind = sym (ap (λ w. drop (most + 1) w) h ∙ drop_at bytes b (most + 1) e);
  at_end = λ short. absurd (omega arith);
}

-- the input ended
pub takes_ended : (a b c : Option (List ℕ)) (most : ℕ) (bytes before after : List ℕ) (count : ℕ) → Loses a b bytes → Takes b c before after count → count ≡ 0 → 0 < length before → length bytes ≤ most → TakesAll a c most bytes
takes_ended None None None most bytes before after count h k z room short = tt
takes_ended None None (Some c) most bytes before after count h k z room short = absurd k
takes_ended None (Some b) c most bytes before after count h k z room short = absurd h
takes_ended (Some a) None c most bytes before after count h k z room short = absurd h
takes_ended (Some a) (Some b) None most bytes before after count h k z room short = absurd k
takes_ended (Some a) (Some b) (Some c) most bytes before after count h k z room short =
    let none : b ≡ [] = k.none_left z room in
    let zero : take count after ≡ [] = ap (λ n. take n after) z in
    let rest : c ≡ [] = sym (sym none ∙ k.taken ∙ ap (λ w. w ++ c) zero) in
    let all : a ≡ bytes = h ∙ ap (λ w. bytes ++ w) none ∙ append-nil bytes in
    let long : length a ≤ most + 1 = omega (arith, ap length all) in
    record {
      front = sym (take_all (most + 1) a long ∙ all);
      behind = rest ∙ sym (drop_all (most + 1) a long);
      at_end = λ _. rest;
    }
