-- The disk's files as the write buffer is written, one file after another.
use Rattle.std.proofs.Common.{◌≡◌, ◌≢◌, ℕ, ◌+◌, ◌<◌, ◌≤◌, ◌==◌, Bool, true, false, cond, List, [], ◌∷◌, Option, Some, None, length, refl, sym, ap, subst, ◌∙◌, arith, ◌⊎◌, inl, inr}
use Rattle.std.proofs.lemmas.Bool.Decides.{nat_tests}
use Rattle.std.proofs.lemmas.Bool.{cases_order, eqb-true}
use Rattle.je_disk.specs.States.{State, Files, put_at, created, created_by, appended, partly_appended_by, synced}
use Rattle.log_buffer.specs.WriteBuffer.{piece_of, bytes_for}
use Rattle.log_buffer.specs.Buffer.{joined}
use Rattle.log_buffer.specs.Writing.{put_behind}
use Rattle.log_buffer.proofs.WriteBuffers.{bytes_for_from, bytes_for_below, bytes_for_above}

-- ---- one file

pub put_same : (files : Files) (f g : ℕ) (there : Option (List ℕ)) → g ≡ f → put_at files f there g ≡ there
put_same files f g there is = ap (λ (b : Bool). cond b there (files g)) (let t : (g == f) ≡ true = grind (arith, nat_tests) in t)

pub put_other : (files : Files) (f g : ℕ) (there : Option (List ℕ)) → g ≢ f → put_at files f there g ≡ files g
put_other files f g there apart = ap (λ (b : Bool). cond b there (files g)) (let t : (g == f) ≡ false = grind (arith, nat_tests) in t)

-- to put there what is there changes nothing
pub put_self : (files : Files) (f g : ℕ) → files g ≡ put_at files f (files f) g
put_self files f g = by_case (g == f) refl where
  by_case : (b : Bool) → (g == f) ≡ b → files g ≡ cond b (files f) (files g)
  by_case true is = ap files (eqb-true _ _ is)
  by_case false is = refl

put_twice : (files : Files) (f g : ℕ) (a b : Option (List ℕ)) → put_at (put_at files f a) f b g ≡ put_at files f b g
put_twice files f g a b = by_case (g == f) where
  by_case : (t : Bool) → cond t b (cond t a (files g)) ≡ cond t b (files g)
  by_case true = refl
  by_case false = refl

appended_by_reads : (there : Option (List ℕ)) (f : ℕ) (bytes : List ℕ) (s : State) (g : ℕ) → 0 < length bytes → (partly_appended_by there f bytes bytes s).reads g ≡ put_at s.reads f (joined there bytes) g
appended_by_reads there f [] s g some = absurd (omega arith)
appended_by_reads None f (b ∷ bytes) s g some = refl
appended_by_reads (Some there) f (b ∷ bytes) s g some = refl

pub appended_reads : (f : ℕ) (bytes : List ℕ) (s : State) (g : ℕ) → 0 < length bytes → (appended f bytes s).reads g ≡ put_at s.reads f (joined (s.reads f) bytes) g
appended_reads f bytes s g some = appended_by_reads (s.reads f) f bytes s g some

joined_empty : (bytes : List ℕ) → joined (Some []) bytes ≡ joined None bytes ⊎ (length bytes ≡ 0)
joined_empty [] = inr refl
joined_empty (b ∷ bytes) = inl refl

created_by_reads : (there : Option (List ℕ)) (f : ℕ) (bytes : List ℕ) (s : State) (g : ℕ) → s.reads f ≡ there → 0 < length bytes
    → put_at (created_by there f s).reads f (joined ((created_by there f s).reads f) bytes) g ≡ put_at s.reads f (joined there bytes) g
created_by_reads None f [] s g is some = absurd (omega arith)
created_by_reads None f (b ∷ bytes) s g is some =
    put_twice s.reads f g (Some []) (joined (put_at s.reads f (Some []) f) (b ∷ bytes))
    ∙ ap (λ (o : Option (List ℕ)). put_at s.reads f (joined o (b ∷ bytes)) g) (put_same s.reads f f (Some []) refl)
created_by_reads (Some there) f bytes s g is some = ap (λ (o : Option (List ℕ)). put_at s.reads f (joined o bytes) g) is

-- a file that is made and then written
pub begun_reads : (f : ℕ) (bytes : List ℕ) (s : State) (g : ℕ) → 0 < length bytes → (appended f bytes (created f s)).reads g ≡ put_at s.reads f (joined (s.reads f) bytes) g
begun_reads f bytes s g some = appended_reads f bytes (created f s) g some ∙ created_by_reads (s.reads f) f bytes s g refl some

pub behind_reads : (f : ℕ) (bytes : List ℕ) (s t : State) → 0 < length bytes → t ≡ appended f bytes s → (g : ℕ) → t.reads g ≡ put_at s.reads f (joined (s.reads f) bytes) g
behind_reads f bytes s t some is g = ap (λ (u : State). u.reads g) is ∙ appended_reads f bytes s g some

pub put_reads : (f : ℕ) (bytes : List ℕ) (s t : State) → t ≡ put_behind f bytes s → (g : ℕ) → t.reads g ≡ put_at s.reads f (joined (s.reads f) bytes) g
put_reads f [] s t is g = ap (λ (u : State). u.reads g) is ∙ put_self s.reads f g
put_reads f (b ∷ bytes) s t is g = behind_reads f (b ∷ bytes) s t (omega arith) is g

pub file_reads : (f : ℕ) (bytes : List ℕ) (s t : State) → 0 < length bytes → t ≡ appended f bytes (created f (synced s)) → (g : ℕ) → t.reads g ≡ put_at s.reads f (joined (s.reads f) bytes) g
file_reads f bytes s t some is g = ap (λ (u : State). u.reads g) is ∙ begun_reads f bytes (synced s) g some

-- ---- file after file

-- the files up to this one have their bytes of the write buffer, the others are as before
pub record WrittenUpTo (bytes starts : List ℕ) (last : ℕ) (before after : Files) (f0 : ℕ) : Type 0 where
  pub upto : (f : ℕ) → f ≤ f0 → after f ≡ joined (before f) (bytes_for bytes starts last f)
  pub beyond : (f : ℕ) → f0 < f → after f ≡ before f

pub written_first : (bytes starts : List ℕ) (last f0 : ℕ) (before after : Files) → length starts ≤ last → f0 + length starts ≡ last
    → ((g : ℕ) → after g ≡ put_at before f0 (joined (before f0) (piece_of bytes starts 0)) g) → WrittenUpTo bytes starts last before after f0
written_first bytes starts last f0 before after le is put = record {
  upto = λ f within. upto f within (cases_order f f0);
  beyond = λ f past. put f ∙ put_other before f0 f _ (λ same. absurd (omega (arith, same)));
} where
  at_first : after f0 ≡ joined (before f0) (bytes_for bytes starts last f0)
  at_first = put f0 ∙ put_same before f0 f0 _ refl ∙ ap (joined (before f0)) (sym (bytes_for_from bytes starts last f0 0 le (omega arith)))

  upto : (f : ℕ) → f ≤ f0 → (f ≡ f0) ⊎ ((f < f0) ⊎ (f0 < f)) → after f ≡ joined (before f) (bytes_for bytes starts last f)
  upto f within (inl same) = subst (λ (k : ℕ). after k ≡ joined (before k) (bytes_for bytes starts last k)) (sym same) at_first
  upto f within (inr (inl lt)) = put f ∙ put_other before f0 f _ (λ same. absurd (omega (arith, same))) ∙ ap (joined (before f)) (sym (bytes_for_below bytes starts last f le (omega arith)))
  upto f within (inr (inr gt)) = absurd (omega arith)

pub written_next : (bytes starts : List ℕ) (last f0 f1 i : ℕ) (before after next : Files) → length starts ≤ last → f1 ≡ f0 + 1 → f1 + length starts ≡ last + i
    → WrittenUpTo bytes starts last before after f0 → ((g : ℕ) → next g ≡ put_at after f1 (joined (after f1) (piece_of bytes starts i)) g) → WrittenUpTo bytes starts last before next f1
written_next bytes starts last f0 f1 i before after next le step is written put = record {
  upto = λ f within. upto f within (cases_order f f1);
  beyond = λ f past. put f ∙ put_other after f1 f _ (λ same. absurd (omega (arith, same))) ∙ written.beyond f (omega arith);
} where
  at_next : next f1 ≡ joined (before f1) (bytes_for bytes starts last f1)
  at_next =
      put f1 ∙ put_same after f1 f1 _ refl ∙ ap (λ (o : Option (List ℕ)). joined o (piece_of bytes starts i)) (written.beyond f1 (omega arith))
      ∙ ap (joined (before f1)) (sym (bytes_for_from bytes starts last f1 i le is))

  upto : (f : ℕ) → f ≤ f1 → (f ≡ f1) ⊎ ((f < f1) ⊎ (f1 < f)) → next f ≡ joined (before f) (bytes_for bytes starts last f)
  upto f within (inl same) = subst (λ (k : ℕ). next k ≡ joined (before k) (bytes_for bytes starts last k)) (sym same) at_next
  upto f within (inr (inl lt)) = put f ∙ put_other after f1 f _ (λ same. absurd (omega (arith, same))) ∙ written.upto f (omega arith)
  upto f within (inr (inr gt)) = absurd (omega arith)

pub written_all : (bytes starts : List ℕ) (last f0 : ℕ) (before after : Files) → length starts ≤ last → f0 ≡ last → WrittenUpTo bytes starts last before after f0
    → (f : ℕ) → after f ≡ joined (before f) (bytes_for bytes starts last f)
written_all bytes starts last f0 before after le is written f = by_order (cases_order f last) where
  by_order : (f ≡ last) ⊎ ((f < last) ⊎ (last < f)) → after f ≡ joined (before f) (bytes_for bytes starts last f)
  by_order (inl same) = written.upto f (omega arith)
  by_order (inr (inl lt)) = written.upto f (omega arith)
  by_order (inr (inr gt)) = written.beyond f (omega arith) ∙ ap (joined (before f)) (sym (bytes_for_above bytes starts last f le gt))

-- the bytes that were written are a piece's
pub pieced : (after next : Files) (f : ℕ) (bytes piece : List ℕ) → bytes ≡ piece → ((g : ℕ) → next g ≡ put_at after f (joined (after f) bytes) g) → (g : ℕ) → next g ≡ put_at after f (joined (after f) piece) g
pieced after next f bytes piece is put g = put g ∙ ap (λ (x : List ℕ). put_at after f (joined (after f) x) g) is
