-- Texts sent through a buffer.
use Rattle.std.proofs.Common.{◌≡◌, ◌<◌, ◌≤◌, ◌+◌, ℕ, List, [], ◌∷◌, ◌++◌, get_or, length, take, drop, min, Bool, true, false, Option, refl, sym, ap, ◌∙◌, subst, inl, inr, append_assoc, length-append, length-drop, arith}
use Rattle.std.proofs.Math.Nat.{eq-or-lt_of_le}
use Rattle.std.specs.List.{flat_map}
use Rattle.std.proofs.lemmas.List.{append-nil, take-append-drop, take-append-le, drop-append-le, take_all, drop_all, take_min, take_more}
use Rattle.std.proofs.lemmas.List.Concat.{flat_map-append}
use Rattle.je_order.specs.Counts.{HasRisen}
use Rattle.je_io.specs.Sink.{Gains, GainsPart}
use Rattle.je_io.proofs.SourceSinkSteps.{gains_then, gains_further, gains_none}
use Rattle.text_out.specs.OutBuffer.{Held, Point, point, held_of, Sends, Adds}

-- a count that rose later rose
rose_later : {a f g : ℕ} → a ≤ f → f ≤ g → HasRisen f g → HasRisen a g
rose_later {a} {f} {g} first second (inl more) = inl (omega arith)
rose_later {a} {f} {g} first second (inr last) =
    elim (eq-or-lt_of_le first) as (λ _. HasRisen a g) [ inl same ↦ inr (omega arith) | inr less ↦ inl (omega arith) ]

-- nothing sent
pub adds_none : (p : Point) → Adds p p []
adds_none p = record { goes_on = λ start started sent h. subst (λ (text : List ℕ). Sends start started p text) (sym (append-nil sent)) h }

-- one text sent after another
pub adds_then : {a b c : Point} {first second : List ℕ} → Adds a b first → Adds b c second → Adds a c (first ++ second)
adds_then {a} {b} {c} {first} {second} h k =
    record { goes_on = λ start started sent s. subst (λ (text : List ℕ). Sends start started c text) (append_assoc sent first second) (k.goes_on start started (sent ++ first) (h.goes_on start started sent s)) }

-- a text that is the same
pub adds_same : {a b : Point} (x y : List ℕ) → x ≡ y → Adds a b x → Adds a b y
adds_same {a} {b} x y e h = subst (λ (text : List ℕ). Adds a b text) e h

-- bytes put into the buffer
pub adds_held : (w : Option (List ℕ)) (f : ℕ) (held : List ℕ) (failed : Bool) (bytes : List ℕ) →
    Adds (point w f (held_of held failed)) (point w f (held_of (held ++ bytes) failed)) bytes
adds_held w f held failed bytes = record {
  goes_on = λ start started sent s. record {
    count = s.count;
    within = omega (arith, s.within, length-append sent bytes);
    gained = subst (λ (text : List ℕ). Gains start w text) (sym (take-append-le s.count sent bytes s.within)) s.gained;
    behind = λ good. ap (λ h. h ++ bytes) (s.behind good) ∙ sym (drop-append-le s.count sent bytes s.within);
    never_falls = s.never_falls;
    cause = s.cause;
  };
}

-- after a failed write the buffer's bytes do not matter
pub adds_failed : (w : Option (List ℕ)) (f : ℕ) (held others bytes : List ℕ) →
    Adds (point w f (held_of held true)) (point w f (held_of others true)) bytes
adds_failed w f held others bytes = record {
  goes_on = λ start started sent s. record {
    count = s.count;
    within = omega (arith, s.within, length-append sent bytes);
    gained = subst (λ (text : List ℕ). Gains start w text) (sym (take-append-le s.count sent bytes s.within)) s.gained;
    behind = λ good. cc;
    never_falls = s.never_falls;
    cause = s.cause;
  };
}

-- the buffer was written
pub adds_written : (w v : Option (List ℕ)) (f g : ℕ) (held : List ℕ) → Gains w v held → f ≤ g →
    Adds (point w f (held_of held false)) (point v g (held_of [] false)) []
adds_written w v f g held gains falls = record {
  goes_on = λ start started sent s.
      let whole : take s.count sent ++ held ≡ sent = ap (λ h. take s.count sent ++ h) (s.behind refl) ∙ take-append-drop s.count sent in
      let all : sent ≡ sent ++ [] = sym (append-nil sent) in
      record {
        count = length sent;
        within = omega (arith, ap length all);
        gained = subst (λ (text : List ℕ). Gains start v text) (whole ∙ all ∙ sym (take_all (length sent) (sent ++ []) (omega (arith, ap length all)))) (gains_then start w v (take s.count sent) held s.gained gains);
        behind = λ _. sym (drop_all (length sent) (sent ++ []) (omega (arith, ap length all)));
        never_falls = omega (arith, s.never_falls);
        cause = λ bad. cc;
      };
}

-- writing the buffer failed
pub adds_broken : (w v : Option (List ℕ)) (f g : ℕ) (held : List ℕ) → GainsPart w v held → f ≤ g → HasRisen f g →
    Adds (point w f (held_of held false)) (point v g (held_of [] true)) []
adds_broken w v f g held part falls rose = record {
  goes_on = λ start started sent s.
      let n : ℕ = min part.0 (length held) in
      let rest : held ≡ drop s.count sent = s.behind refl in
      let some : Gains w v (take n (drop s.count sent)) = subst (λ (text : List ℕ). Gains w v text) (sym (take_min part.0 held) ∙ ap (λ h. take n h) rest) part.1 in
      let both : Gains start v (take (s.count + n) sent) = gains_further start w v sent s.count n s.gained some in
      let all : sent ≡ sent ++ [] = sym (append-nil sent) in
      record {
        count = s.count + n;
        within = omega (arith, s.within, ap length all, ap length rest, length-drop s.count sent);
        gained = subst (λ (text : List ℕ). Gains start v (take (s.count + n) text)) all both;
        behind = λ good. cc;
        never_falls = omega (arith, s.never_falls);
        cause = λ _. rose_later s.never_falls falls rose;
      };
}

-- nothing has been sent yet
begun : (w : Option (List ℕ)) (f : ℕ) (held : Held) → held.bytes ≡ [] → held.failed ≡ false → Sends w f (point w f held) []
begun w f held empty good = record {
  count = 0;
  within = omega arith;
  gained = gains_none w;
  behind = λ _. empty;
  never_falls = omega arith;
  cause = λ bad. cc;
}

-- two texts and then what the buffer holds
pub all_sent : {w : Option (List ℕ)} {f : ℕ} {held : Held} {b c d : Point} {x y : List ℕ} → held.bytes ≡ [] → held.failed ≡ false →
    Adds (point w f held) b x → Adds b c y → Adds c d [] → Sends w f d (x ++ y)
all_sent {w} {f} {held} {b} {c} {d} {x} {y} empty good first second last =
    subst (λ (text : List ℕ). Sends w f d text) (append-nil (x ++ y)) ((adds_then (adds_then first second) last).goes_on w f [] (begun w f held empty good))

-- all of it has reached the sink
pub sent_whole : {w : Option (List ℕ)} {f : ℕ} {now : Point} {text : List ℕ} → Sends w f now text → now.held.bytes ≡ [] → now.held.failed ≡ false → Gains w now.written text
sent_whole {w} {f} {now} {text} s empty good =
    let none : drop s.count text ≡ [] = sym (s.behind good) ∙ empty in
    subst (λ (t : List ℕ). Gains w now.written t) (take_all s.count text (omega (arith, s.within, ap length none, length-drop s.count text))) s.gained

-- some of it has
pub sent_part : {w : Option (List ℕ)} {f : ℕ} {now : Point} {text : List ℕ} → Sends w f now text → GainsPart w now.written text
sent_part s = (s.count, s.gained)

-- the text of one item more
pub next_text_or : {X : Type 0} (f : X → List ℕ) (xs : List X) (k : ℕ) (d : X) → k < length xs →
    flat_map f (take k xs) ++ f (get_or xs k d) ≡ flat_map f (take (k + 1) xs)
next_text_or {X} f xs k d within =
    ap (λ (t : List ℕ). flat_map f (take k xs) ++ t) (sym (append-nil (f (get_or xs k d))))
    ∙ sym (flat_map-append f (take k xs) (get_or xs k d ∷ []))
    ∙ ap (flat_map f) (sym (take_more xs k d within))

pub next_text : {X : Type 0} (f : X → List ℕ) (xs : List X) (k : ℕ) (x : X) → k < length xs → x ≡ get_or xs k x →
    flat_map f (take k xs) ++ f x ≡ flat_map f (take (k + 1) xs)
next_text {X} f xs k x within is = ap (λ (y : X). flat_map f (take k xs) ++ f y) is ∙ next_text_or f xs k x within
