-- Readings that end at what is wrong, and checks that note it and go on.
use Rattle.std.specs.Prelude.{◌≡◌, List, [], ◌∷◌, ◌++◌, Result, Ok, Err}

-- what was read, and what was found wrong so far
pub record Noted (W C : Type 0) : Type 0 where
  pub walk : W
  pub found : List C

-- this was read, and that was found wrong
abbrev pub as_noted : {W C : Type 0} → W → List C → Noted W C
as_noted walk found = record { walk = walk; found = found }

-- one thing more is found wrong
abbrev pub noted : {W C : Type 0} → C → Noted W C → Noted W C
noted c s = as_noted s.walk (s.found ++ c ∷ [])

-- what is read goes on, and what is wrong is noted
abbrev pub or_noted : {A W C : Type 0} → Result A C → Noted W C → (A → Noted W C → Noted W C) → Noted W C
or_noted (Ok x) s f = f x s
or_noted (Err c) s f = noted c s

-- each of a list is checked, in order
abbrev pub each_on : {A W C : Type 0} → (A → Noted W C → Noted W C) → List A → Noted W C → Noted W C
each_on check [] s = s
each_on check (x ∷ xs) s = each_on check xs (check x s)

-- what was read where nothing was found wrong, else the first that was
abbrev pub unless_found : {W C : Type 0} → W → List C → Result W C
unless_found walk [] = Ok walk
unless_found walk (c ∷ found) = Err c

abbrev pub walk_unless_found : {W C : Type 0} → Noted W C → Result W C
walk_unless_found s = unless_found s.walk s.found

-- a check begins as a reading: from a walk without findings its first finding is the reading's, and its walk without one; and findings stay
pub record BeginsAs {W C : Type 0} (read : W → Result W C) (check : Noted W C → Noted W C) : Type 0 where
  pub first : (w : W) → walk_unless_found (check (as_noted w [])) ≡ read w
  pub stays : (w : W) (c : C) (found : List C) → walk_unless_found (check (as_noted w (c ∷ found))) ≡ Err c
