-- Calls that open and close cursors.
use Rattle.std.specs.Prelude.{ℕ, ◌≡◌, ◌++◌, ◌∷◌, [], None, Some}
use Rattle.store_model.specs.declared.answer.Answer.TheVariants.{Done}
use Rattle.store_model.specs.declared.call.Call.{Call}
use Rattle.store_model.specs.declared.call.Call.TheVariants.{Open, Close, Dup}
use Rattle.je_answers.specs.Standing.{Standing, place_at}
use Rattle.je_answers.specs.Refusals.{late_refusal}
use Rattle.je_answers.specs.After.{after_performed}
use Rattle.open_cursors.specs.declared.open_cursor.OpenCursor.{OpenCursor}
use Rattle.open_cursors.specs.Under.{IsUnderIn}
use Rattle.sessions.specs.AtStanding.{with_places}
use Rattle.engine.proofs.CalmAnswers.{IsCalm}
use Rattle.environment.specs.declared.to_open.ToOpen.{ToOpen}
use Rattle.environment.specs.declared.to_open.ToOpen.TheVariants.{Refused, Opens}

-- a call that opens or closes a cursor
abbrev pub OpensOrCloses : Call → Type 0
OpensOrCloses (Open cursor db) = Unit {0}
OpensOrCloses (Close cursor) = Unit {0}
OpensOrCloses (Dup cursor to) = Unit {0}
OpensOrCloses call = ⊥

-- a session's call opens this cursor, and nothing refuses it
pub record IsOpening (st : Standing) (session : ℕ) (call : Call) (opened : OpenCursor) : Type 0 where
  pub is : OpensOrCloses call
  pub late : late_refusal st session call ≡ None
  pub its : opened.session ≡ session
  pub free : place_at opened.place.cursor (st.places session) ≡ None
  pub under : IsUnderIn st.store st.numbers opened.place.db opened.name opened.kind
  pub leaves : (line : ℕ) → after_performed call st session line Done [] ≡ with_places session (st.places session ++ opened.place ∷ []) st

-- what refuses it late, or the cursor that it opens
abbrev pub IsToOpen : Standing → ℕ → Call → ToOpen → Type 0
IsToOpen st session call (Refused answer) = (late_refusal st session call ≡ Some answer) × IsCalm answer
IsToOpen st session call (Opens opened) = IsOpening st session call opened
