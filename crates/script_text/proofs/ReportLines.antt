-- The lines of a report, as they are sent.
use Rattle.std.proofs.Common.{◌≡◌, ℕ, List, [], ◌++◌, true, Option, Some, None, is_some, unwrap_or, codes, decimal, refl, subst}
use Rattle.je_order.specs.declared.txn_id.TxnId.{TxnId}
use Rattle.store_model.specs.declared.lock_target.LockTarget.{LockTarget}
use Rattle.store_model.specs.declared.answer.Answer.{Answer}
use Rattle.store_model.specs.declared.answer.Answer.TheVariants.{Rec, IndexRec, Names, Waiting, Deadlock, MustAbort}
use Rattle.store_model.specs.declared.totals.Totals.{Totals}
use Rattle.text_out.specs.OutBuffer.{Point, Adds}
use Rattle.text_out.proofs.BufferedText.{adds_then}
use Rattle.script_text.specs.Report.{answer_text, end_line, line_if_any, short_text, step_line}

-- a line of a call whose answer has a text
pub adds_line : {a b c d : Point} (session line : ℕ) (text : Option (List ℕ)) → true ≡ is_some text →
    Adds a b (decimal line ++ codes " s" ++ decimal session ++ codes " ") → Adds b c (unwrap_or text []) → Adds c d (codes "\n") → Adds a d (line_if_any session line text)
adds_line session line (Some text) there front middle last = adds_then (adds_then front middle) last
adds_line session line None there front middle last = cc

-- a line of a step whose answer has a text
pub adds_step : {a b c d : Point} (line : ℕ) (text : Option (List ℕ)) → true ≡ is_some text →
    Adds a b (decimal line ++ codes " m ") → Adds b c (unwrap_or text []) → Adds c d (codes "\n") → Adds a d (step_line line text)
adds_step line (Some text) there front middle last = adds_then (adds_then front middle) last
adds_step line None there front middle last = cc

-- the text of an answer that is words and at most a number, or has none
pub short_is : (a : Answer) → ((key value : List ℕ) → a ≡ Rec key value → ⊥) → ((key primary_key value : List ℕ) → a ≡ IndexRec key primary_key value → ⊥) → ((names : List (List ℕ)) → a ≡ Names names → ⊥) →
    ((at : LockTarget) (owner : TxnId) → a ≡ Waiting at owner → ⊥) → ((cycle : List TxnId) → a ≡ Deadlock cycle → ⊥) →
    ((cycle : List TxnId) → a ≡ MustAbort cycle → ⊥) → short_text a ≡ unwrap_or (answer_text a) []
short_is (Rec key value) rec index_rec names waiting deadlock abort = absurd (rec key value refl)
short_is (IndexRec key primary_key value) rec index_rec names waiting deadlock abort = absurd (index_rec key primary_key value refl)
short_is (Names ns) rec index_rec names waiting deadlock abort = absurd (names ns refl)
short_is (Waiting at owner) rec index_rec names waiting deadlock abort = absurd (waiting at owner refl)
short_is (Deadlock cycle) rec index_rec names waiting deadlock abort = absurd (deadlock cycle refl)
short_is (MustAbort cycle) rec index_rec names waiting deadlock abort = absurd (abort cycle refl)
short_is a rec index_rec names waiting deadlock abort = refl

-- the last line, with the number of commits that were counted
pub last_line : {a b : Point} {counted commits : ℕ} (totals : Totals) → counted ≡ commits → Adds a b (end_line counted totals) → Adds a b (end_line commits totals)
last_line {a} {b} {counted} {commits} totals is adds = subst (λ (n : ℕ). Adds a b (end_line n totals)) is adds
