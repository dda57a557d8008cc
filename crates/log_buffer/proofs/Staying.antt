-- Files stay while the disk is written, none shorter, and what is kept through two calls is kept through both.
use Rattle.std.proofs.Common.{◌≡◌, ℕ, ◌<◌, ◌==◌, Bool, true, false, cond, List, [], ◌++◌, Option, Some, None, refl, sym, ap, subst, ◌∙◌, arith, append_assoc, ◌⊎◌, inl, inr}
use Rattle.std.specs.Prelude.{unwrap_or}
use Rattle.std.proofs.lemmas.Bool.{cases_order, eqb-true}
use Rattle.std.proofs.lemmas.List.{append-nil}
use Rattle.je_disk.specs.States.{State, Files, partly_appended, partly_appended_by, created, created_by, synced, IsPartOfAppend}
use Rattle.je_disk.specs.Moments.{History, Passes, now}
use Rattle.je_disk.proofs.MomentLaws.{passes_then, passes_weaken}
use Rattle.log_file.specs.Log.{Log}
use Rattle.log_buffer.specs.Crash.{FilesStay, IsKeptSince, KeepsRead, KeptThrough}
use Rattle.log_buffer.specs.Writing.{IsPutNext}

pub stay_same : (before after : Files) → after ≡ before → FilesStay before after
stay_same before after same f bytes there =
    ([], ap (λ (files : Files). files f) same ∙ there ∙ ap (λ (x : List ℕ). Some x) (sym (append-nil bytes)))

pub stay_then : (a b c : Files) → FilesStay a b → FilesStay b c → FilesStay a c
stay_then a b c first second f bytes there =
    let one = first f bytes there in
    let two = second f (bytes ++ one.0) one.1 in
    (one.0 ++ two.0, two.1 ∙ ap (λ (x : List ℕ). Some x) (append_assoc bytes one.0 two.0))

stay_created : (f : ℕ) (s : State) → FilesStay s.reads (created f s).reads
stay_created f s g bytes there = by_there (s.reads f) refl where
  same : (o : Option (List ℕ)) → o ≡ Some bytes → (more : List ℕ) × (o ≡ Some (bytes ++ more))
  same o is = ([], is ∙ ap (λ (x : List ℕ). Some x) (sym (append-nil bytes)))

  by_file : (b : Bool) → (g == f) ≡ b → s.reads f ≡ None → (more : List ℕ) × (cond b (Some []) (s.reads g) ≡ Some (bytes ++ more))
  by_file true is none = let here = ap s.reads (eqb-true g f is) in absurd (let no : None ≡ Some bytes = sym none ∙ sym here ∙ there in cc)
  by_file false is none = same (s.reads g) there

  by_there : (o : Option (List ℕ)) → s.reads f ≡ o → (more : List ℕ) × ((created_by o f s).reads g ≡ Some (bytes ++ more))
  by_there None none = by_file (g == f) refl none
  by_there (Some before) some = same (s.reads g) there

stay_appended : (f : ℕ) (part all : List ℕ) (s : State) → FilesStay s.reads (partly_appended f part all s).reads
stay_appended f part all s g bytes there = by_there (s.reads f) refl where
  same : (o : Option (List ℕ)) → o ≡ Some bytes → (more : List ℕ) × (o ≡ Some (bytes ++ more))
  same o is = ([], is ∙ ap (λ (x : List ℕ). Some x) (sym (append-nil bytes)))

  by_none : (b : Bool) → (g == f) ≡ b → s.reads f ≡ None → (more : List ℕ) × (cond b (Some part) (s.reads g) ≡ Some (bytes ++ more))
  by_none true is none = let here = ap s.reads (eqb-true g f is) in absurd (let no : None ≡ Some bytes = sym none ∙ sym here ∙ there in cc)
  by_none false is none = same (s.reads g) there

  by_some : (b : Bool) (before : List ℕ) → (g == f) ≡ b → s.reads f ≡ Some before → (more : List ℕ) × (cond b (Some (before ++ part)) (s.reads g) ≡ Some (bytes ++ more))
  by_some true before is some =
      let both : Some before ≡ Some bytes = sym some ∙ ap s.reads (sym (eqb-true g f is)) ∙ there in
      (part, ap (λ (o : Option (List ℕ)). Some (unwrap_or o [] ++ part)) both)
  by_some false before is some = same (s.reads g) there

  by_there : (o : Option (List ℕ)) → s.reads f ≡ o → (more : List ℕ) × ((partly_appended_by o f part all s).reads g ≡ Some (bytes ++ more))
  by_there None none = by_none (g == f) refl none
  by_there (Some before) some = by_some (g == f) before refl some

pub stay_part : (f : ℕ) (bytes : List ℕ) (s t : State) → IsPartOfAppend f bytes s t → FilesStay s.reads t.reads
stay_part f bytes s t (inl same) = stay_same s.reads t.reads (ap (λ (x : State). x.reads) same)
stay_part f bytes s t (inr part) = subst (λ (x : State). FilesStay s.reads x.reads) (sym part.3) (stay_appended f part.0 bytes s)

-- a next file is begun and written
pub stay_next : (f : ℕ) (bytes : List ℕ) (s t : State) → IsPutNext f bytes s t → FilesStay s.reads t.reads
stay_next f bytes s t (inl (inl same)) = stay_same s.reads t.reads (ap (λ (x : State). x.reads) same)
stay_next f bytes s t (inl (inr same)) = stay_same s.reads t.reads (ap (λ (x : State). x.reads) same)
stay_next f bytes s t (inr (inl (inl same))) = stay_same s.reads t.reads (ap (λ (x : State). x.reads) same)
stay_next f bytes s t (inr (inl (inr same))) = subst (λ (x : State). FilesStay s.reads x.reads) (sym same) (stay_created f (synced s))
stay_next f bytes s t (inr (inr part)) = stay_then s.reads (created f (synced s)).reads t.reads (stay_created f (synced s)) (stay_part f bytes (created f (synced s)) t part)

-- ---- through calls

-- the files at the last moment
pub stay_now : (log removed : Log) (least : ℕ) (old new : History) → KeptThrough old new log removed least → FilesStay (now old).reads (now new).reads
stay_now log removed least old new through = by_order (cases_order old.moment new.moment) where
  by_order : (old.moment ≡ new.moment) ⊎ ((old.moment < new.moment) ⊎ (new.moment < old.moment)) → FilesStay (now old).reads (now new).reads
  by_order (inl same) = subst (λ (k : ℕ). FilesStay (now old).reads (new.state_at k).reads) same (stay_same (now old).reads (new.state_at old.moment).reads (ap (λ (x : State). x.reads) (through.keeps old.moment (omega arith))))
  by_order (inr (inl later)) = (through.each new.moment later (omega arith)).stay
  by_order (inr (inr earlier)) = let on = through.later in absurd (omega (arith, on, earlier))

pub kept_then : (log removed : Log) (least : ℕ) (a b c : History) → KeptThrough a b log removed least → KeptThrough b c log removed least → KeptThrough a c log removed least
kept_then log removed least a b c first second =
    passes_then a b c (IsKeptSince log removed least (now a).reads) first
    (passes_weaken b c (IsKeptSince log removed least (now b).reads) (IsKeptSince log removed least (now a).reads)
    (λ s k. record { kept = k.kept; stay = stay_then (now a).reads (now b).reads s.reads (stay_now log removed least a b first) k.stay }) second)

-- what a crash keeps at each moment
pub read_through : (log removed : Log) (least : ℕ) (old new : History) → KeptThrough old new log removed least → Passes old new (KeepsRead log removed least)
read_through log removed least old new through = passes_weaken old new (IsKeptSince log removed least (now old).reads) (KeepsRead log removed least) (λ s k. k.kept) through
