-- What a disk passes while bytes are put behind a file's, and while a next file is begun.
use Rattle.std.proofs.Common.{◌≡◌, ℕ, ◌<◌, ◌==◌, Bool, false, List, [], ◌∷◌, length, refl, subst, arith, inl, inr}
use Rattle.je_disk.specs.States.{State, created, appended, synced, IsEither, IsPartOfAppend}
use Rattle.je_disk.specs.Moments.{History, Passes, now}
use Rattle.je_disk.proofs.MomentLaws.{passes_weaken, passes_then}
use Rattle.log_buffer.specs.Writing.{IsPutBehind, IsMadeNext, IsPutNext, put_behind}

pub put_none : (f : ℕ) (bytes : List ℕ) (s : State) → length bytes ≡ 0 → put_behind f bytes s ≡ s
put_none f [] s none = refl
put_none f (b ∷ bytes) s none = absurd (omega arith)

pub put_some : (f : ℕ) (bytes : List ℕ) (s : State) → 0 < length bytes → put_behind f bytes s ≡ appended f bytes s
put_some f [] s some = absurd (omega arith)
put_some f (b ∷ bytes) s some = refl

pub some_bytes : (bytes : List ℕ) (b : Bool) → b ≡ (length bytes == 0) → b ≡ false → 0 < length bytes
some_bytes [] b none not_none = absurd cc
some_bytes (x ∷ bytes) b none not_none = omega arith

pub put_passes : (f : ℕ) (bytes : List ℕ) (old new : History) → 0 < length bytes → Passes old new (IsPartOfAppend f bytes (now old)) → Passes old new (IsPutBehind f bytes (now old))
put_passes f bytes old new some passes =
    passes_weaken old new (IsPartOfAppend f bytes (now old)) (IsPutBehind f bytes (now old)) (λ s part. record { some = some; part = part }) passes

-- ---- a next file

pub made_synced : (f : ℕ) (a b : History) → Passes a b (IsEither (now a) (synced (now a))) → Passes a b (IsMadeNext f (now a))
made_synced f a b passes = passes_weaken a b (IsEither (now a) (synced (now a))) (IsMadeNext f (now a)) (λ s either. inl either) passes

made_part : (f : ℕ) (s t u : State) → t ≡ synced s → IsEither t (created f t) u → IsMadeNext f s u
made_part f s t u is either = inr (subst (λ (x : State). IsEither x (created f x) u) is either)

pub made_next : (f : ℕ) (a b c : History) → Passes a b (IsEither (now a) (synced (now a))) → now b ≡ synced (now a) → Passes b c (IsEither (now b) (created f (now b))) → Passes a c (IsMadeNext f (now a))
made_next f a b c first is passes =
    passes_then a b c (IsMadeNext f (now a)) (made_synced f a b first)
    (passes_weaken b c (IsEither (now b) (created f (now b))) (IsMadeNext f (now a)) (λ s either. made_part f (now a) (now b) s is either) passes)

put_made : (f : ℕ) (bytes : List ℕ) (before s : State) → IsMadeNext f before s → IsPutNext f bytes before s
put_made f bytes before s (inl either) = inl either
put_made f bytes before s (inr either) = inr (inl either)

pub next_made : (f : ℕ) (bytes : List ℕ) (a b : History) → Passes a b (IsMadeNext f (now a)) → Passes a b (IsPutNext f bytes (now a))
next_made f bytes a b passes = passes_weaken a b (IsMadeNext f (now a)) (IsPutNext f bytes (now a)) (λ s made. put_made f bytes (now a) s made) passes

put_part : (f : ℕ) (bytes : List ℕ) (s t u : State) → t ≡ created f (synced s) → IsPartOfAppend f bytes t u → IsPutNext f bytes s u
put_part f bytes s t u is part = inr (inr (subst (λ (x : State). IsPartOfAppend f bytes x u) is part))

pub next_put : (f : ℕ) (bytes : List ℕ) (a b c : History) → Passes a b (IsMadeNext f (now a)) → now b ≡ created f (synced (now a)) → Passes b c (IsPartOfAppend f bytes (now b)) → Passes a c (IsPutNext f bytes (now a))
next_put f bytes a b c first is passes =
    passes_then a b c (IsPutNext f bytes (now a)) (next_made f bytes a b first)
    (passes_weaken b c (IsPartOfAppend f bytes (now b)) (IsPutNext f bytes (now a)) (λ s part. put_part f bytes (now a) (now b) s is part) passes)
