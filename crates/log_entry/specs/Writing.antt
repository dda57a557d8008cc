-- What a vector keeps and gets while an entry is put at its end.
use Rattle.std.specs.Prelude.{◌≡◌, ℕ, ◌+◌, ◌≤◌, List, ◌++◌, length, take, Result, IsOk, OnOk, OnErr}

-- what was there is still at the front
abbrev pub KeepsOldBytes : List ℕ → List ℕ → Type 0
KeepsOldBytes old new = take (length old) new ≡ old

-- a text was put at the end, or memory ran out, perhaps behind a part of it; it does not where there is room for the text, and the room does not shrink
pub record Puts {A E : Type 0} (text : List ℕ) (result : Result A E) (old new : List ℕ) (room larger : ℕ) : Type 0 where
  pub ok : OnOk result (new ≡ old ++ text)
  pub err : OnErr result (KeepsOldBytes old new)
  pub fits : length old + length text ≤ room → IsOk result
  pub capacity : room ≤ larger
