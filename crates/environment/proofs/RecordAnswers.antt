-- What a call on records answers, wherever its cursor stands: no limit and no fault.
use Rattle.std.proofs.Common.{◌≡◌, ℕ, Bool, true, false, cond, List, [], ◌∷◌, Option, None, Some, refl}
use Rattle.je_order.specs.declared.name.Name.{Name}
use Rattle.store_model.specs.declared.answer.Answer.{Answer}
use Rattle.store_model.specs.declared.answer.Answer.TheVariants.{Done, Rec, Count as Counted, NotFound, KeyExist, KeyEmpty, NoPosition}
use Rattle.store_model.specs.declared.call.Call.{Call}
use Rattle.store_model.specs.declared.call.Call.TheVariants.{Get, GetBoth, Put, Delete, Count, Cur, CPutCur, CDel, CPut}
use Rattle.store_model.specs.declared.kind.Kind.{Kind}
use Rattle.store_model.specs.Reads.{at_name, seen}
use Rattle.store_model.specs.Records.{Evaluated, conclude, deleted, empty_if, evaluation, found, look_of, place_needs, place_refusal, put_at_place, put_unless, tested, tested_for, unless_early, went}
use Rattle.store_model.specs.Store.{Pair, name_of}
use Rattle.je_answers.specs.declared.active.Active.{Active}
use Rattle.je_answers.specs.Standing.{Standing}
use Rattle.je_answers.specs.Views.{Target, outcome_of, view_in, view_of}
use Rattle.store_model.specs.Indexes.{Numbered, answer_through}
use Rattle.je_answers.specs.After.{fate_of}
use Rattle.je_answers.specs.After.Fate.{Succeeds}
use Rattle.engine.proofs.CalmAnswers.{IsCalm, calm_through}
use Rattle.standing_laws.specs.Right.{MayWait}

-- what holds of each of these answers
record HoldsOf (P : Answer → Type 0) : Type 0 where
  done : P Done
  rec_ : (key value : List ℕ) → P (Rec key value)
  count : (n : ℕ) → P (Counted n)
  absent : P NotFound
  exists_ : P KeyExist
  empty : P KeyEmpty
  nowhere : P NoPosition

module _ (P : Answer → Type 0) (h : HoldsOf P) where
  of_found : (at : Option Name) (taken : List Pair) → P (found at taken).answer
  of_found at [] = h.absent
  of_found at (p ∷ ps) = h.rec_ p.0 p.1

  of_went : (kind : Kind) (at : Option Name) (taken : List Pair) → P (went kind at taken).answer
  of_went kind at [] = h.absent
  of_went kind at (p ∷ ps) = h.rec_ p.0 p.1

  of_put : (kind : Kind) (at then_at : Option Name) (key value : List ℕ) (taken : List Pair) → P (put_unless kind at then_at key value taken).answer
  of_put kind at then_at key value [] = h.done
  of_put kind at then_at key value (p ∷ ps) = h.exists_

  of_deleted : (kind : Kind) (at : Option Name) (taken : List Pair) → P (deleted kind at taken).answer
  of_deleted kind at [] = h.absent
  of_deleted kind at (p ∷ ps) = h.done

  of_put_here : (at : Option Name) (value : List ℕ) → P (put_at_place at value).answer
  of_put_here None value = h.nowhere
  of_put_here (Some n) value = h.done

  of_concluded : (kind : Kind) (call : Call) (at : Option Name) (taken : List Pair) → MayWait call → P (conclude kind call at taken).answer
  of_concluded kind (Get db key rmw) at taken may = of_found at taken
  of_concluded kind (GetBoth db key value rmw) at taken may = of_found at (tested_for kind value taken)
  of_concluded kind (Put db key value mode) at taken may = of_put kind at at key value taken
  of_concluded kind (Delete db key) at taken may = of_deleted kind at taken
  of_concluded kind (Count cursor) at taken may = h.count _
  of_concluded kind (Cur cursor motion rmw) at taken may = of_went kind at (tested kind motion taken)
  of_concluded kind (CPutCur cursor value) at taken may = of_put_here at value
  of_concluded kind (CDel cursor) at taken may = of_deleted kind at taken
  of_concluded kind (CPut cursor key value mode) at taken may = of_put kind at (Some (name_of kind (key, value))) key value taken
  of_concluded kind call at taken may = absurd may

  -- where the cursor's place alone answers it
  of_empty : (b : Bool) (pairs : List Pair) (at : Option Name) (ev : Evaluated) → P ev.answer → P (unless_early (empty_if b pairs) at ev).answer
  of_empty true [] at ev is = h.empty
  of_empty true (p ∷ ps) at ev is = is
  of_empty false pairs at ev is = is

  of_none : (b : Bool) (at : Option Name) (ev : Evaluated) → P ev.answer → P (unless_early (cond b (Some NoPosition) None) at ev).answer
  of_none true at ev is = h.nowhere
  of_none false at ev is = is

  of_place : (kind : Kind) (needs : Bool × Bool) (place at : Option Name) (pairs : List Pair) (ev : Evaluated) → P ev.answer → P (unless_early (place_refusal kind needs place pairs) at ev).answer
  of_place kind needs None at pairs ev is = of_none needs.0 at ev is
  of_place kind needs (Some n) at pairs ev is = of_empty needs.1 (at_name kind n pairs) at ev is

  of_evaluated : (kind : Kind) (call : Call) (at : Option Name) (pairs : List Pair) → MayWait call → P (evaluation kind call at pairs).answer
  of_evaluated kind call at pairs may =
      let l = look_of kind call at in
      let taken : List Pair = seen kind l.way l.range pairs in
      of_place kind (place_needs call) at at pairs (conclude kind call at taken) (of_concluded kind call at taken may)

-- it is calm
pub calm_outcome : (st : Standing) (a : Active) (call : Call) (g : Target) → MayWait call → IsCalm (outcome_of st a call g).answer
calm_outcome st a call g may =
    calm_through g.over (view_in st a) (evaluation g.database.kind call g.at (view_of st a g)).answer
    (of_evaluated IsCalm (record { done = refl; rec_ = λ key value. refl; count = λ n. refl; absent = refl; exists_ = refl; empty = refl; nowhere = refl }) g.database.kind call g.at (view_of st a g) may)

-- what an index answers in its place succeeds as that does
well_through : (over : Option Numbered) (see : Numbered → List Pair) (answer : Answer) → fate_of answer ≡ Succeeds → fate_of (answer_through over see answer) ≡ Succeeds
well_through None see answer is = is
well_through (Some primary) see (Rec key primary_key) is = refl
well_through (Some primary) see answer is = is

-- and it succeeds, unless the log refuses its changes
pub well_outcome : (st : Standing) (a : Active) (call : Call) (g : Target) → MayWait call → fate_of (outcome_of st a call g).answer ≡ Succeeds
well_outcome st a call g may =
    well_through g.over (view_in st a) (evaluation g.database.kind call g.at (view_of st a g)).answer
    (of_evaluated (λ (x : Answer). fate_of x ≡ Succeeds) (record { done = refl; rec_ = λ key value. refl; count = λ n. refl; absent = refl; exists_ = refl; empty = refl; nowhere = refl }) g.database.kind call g.at (view_of st a g) may)
