-- Writing one text after another.
use Rattle.std.proofs.Common.{◌≡◌, ℕ, suc, false, Result, Ok, Err, OnOk, OnErr, ◌+◌, ◌≤◌, ◌<◌, List, [], ◌∷◌, ◌++◌, length, take, Option, Some, None, refl, ap, sym, ◌∙◌, subst, append_assoc, arith, ⊎_elim}
use Rattle.std.proofs.lemmas.Bool.{cases_lt}
use Rattle.std.proofs.lemmas.List.{append-nil, take-append-le, take_all}
use Rattle.text_out.specs.OutBuffer.{Adds, Held, Point, Sends, point}
use Rattle.text_out.proofs.BufferedText.{adds_none, all_sent}
use Rattle.je_io.specs.Sink.{Gains, GainsPart}

-- two texts that were gained, one after the other
pub gains_both : (a b c : Option (List ℕ)) (x y : List ℕ) → Gains a b x → Gains b c y → Gains a c (x ++ y)
gains_both (Some a) (Some b) (Some c) x y p q = q ∙ ap (λ l. l ++ y) p ∙ append_assoc a x y
gains_both None None None x y p q = tt
gains_both (Some a) (Some b) None x y p q = absurd q
gains_both (Some a) None c x y p q = absurd p
gains_both None (Some b) c x y p q = absurd p
gains_both None None (Some c) x y p q = absurd q

take_behind : (k : ℕ) (x y : List ℕ) → take (length x + k) (x ++ y) ≡ x ++ take k y
take_behind k [] y = (let e : 0 + k ≡ k = omega arith in ap (λ n. take n y) e)
take_behind k (a ∷ x) y =
    let e : suc (length x) + k ≡ suc (length x + k) = omega arith in
    ap (λ n. take n (a ∷ (x ++ y))) e ∙ ap (λ l. a ∷ l) (take_behind k x y)

gains_same : (a b : Option (List ℕ)) (x y : List ℕ) → x ≡ y → Gains a b x → Gains a b y
gains_same a b x y e p = subst (λ (l : List ℕ). Gains a b l) e p

-- a whole text, and then a part of the next
pub gains_then_part : (a b c : Option (List ℕ)) (x y : List ℕ) → Gains a b x → GainsPart b c y → GainsPart a c (x ++ y)
gains_then_part a b c x y p q = (length x + q.0, gains_same a c (x ++ take q.0 y) (take (length x + q.0) (x ++ y)) (sym (take_behind q.0 x y)) (gains_both a b c x (take q.0 y) p q.1))

-- a part of the first text is a part of both
pub part_of_first : (a b : Option (List ℕ)) (x y : List ℕ) → GainsPart a b x → GainsPart a b (x ++ y)
part_of_first a b x y p =
    ⊎_elim
    (λ (e : length x < p.0). (length x, gains_same a b (take p.0 x) (take (length x) (x ++ y)) (take_all p.0 x (omega arith) ∙ whole x y) p.1))
    (λ (e : p.0 ≤ length x). (p.0, gains_same a b (take p.0 x) (take p.0 (x ++ y)) (sym (take-append-le p.0 x y e)) p.1))
    (cases_lt (length x) p.0) where
      whole : (x y : List ℕ) → x ≡ take (length x) (x ++ y)
      whole [] y = refl
      whole (a ∷ x) y = ap (λ l. a ∷ l) (whole x y)

-- the same of a second write's result
pub both_observed : {T E : Type 0} → (a b c : Option (List ℕ)) (x y : List ℕ) (r : Result T E) → Gains a b x → OnOk r (Gains b c y) → OnOk r (Gains a c (x ++ y))
both_observed a b c x y (Ok t) p q = gains_both a b c x y p q
both_observed a b c x y (Err e) p q = tt

pub both_part : {T E : Type 0} → (a b c : Option (List ℕ)) (x y : List ℕ) (r : Result T E) → Gains a b x → OnErr r (GainsPart b c y) → OnErr r (GainsPart a c (x ++ y))
both_part a b c x y (Ok t) p q = tt
both_part a b c x y (Err e) p q = gains_then_part a b c x y p q

-- ---- a text that is sent through a buffer

-- what was sent stays so while nothing is
pub sent_on : {b c : Point} {start : Option (List ℕ)} {started : ℕ} {text : List ℕ} → Adds b c [] → Sends start started b text → Sends start started c text
sent_on {b} {c} {start} {started} {text} h s = subst (λ (t : List ℕ). Sends start started c t) (append-nil text) (h.goes_on start started text s)

-- a text that was sent first
pub one_sent : {w : Option (List ℕ)} {f : ℕ} {held : Held} {b : Point} {x : List ℕ} → held.bytes ≡ [] → held.failed ≡ false → Adds (point w f held) b x → Sends w f b x
one_sent {w} {f} {held} {b} {x} empty good first = subst (λ (t : List ℕ). Sends w f b t) (append-nil x) (all_sent empty good first (adds_none b) (adds_none b))
