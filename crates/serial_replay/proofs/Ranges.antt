-- What a call comes to depends on the names of its ranges alone: where its cursor stands, and what it passes.
use Rattle.std.proofs.Common.{◌≡◌, inl, Bool, true, not, ◌&&◌, List, [], ◌∷◌, ◌++◌, Option, None, Some, refl, ap, sym, ◌∙◌, subst, is_gt, is_ge}
use Rattle.je_order.specs.Edges.{is_below}
use Rattle.je_order.specs.Edges.Edge.{At, Behind}
use Rattle.je_order.specs.declared.name.Name.{Name}
use Rattle.store_model.specs.declared.kind.Kind.{Kind}
use Rattle.store_model.specs.declared.call.Call.{Call}
use Rattle.store_model.specs.declared.answer.Answer.{Answer}
use Rattle.store_model.specs.Store.{Pair, name_of}
use Rattle.store_model.specs.Reads.{Look, Range, is_within, just, seen, passed, passed_to}
use Rattle.store_model.specs.Records.{look_of, place_needs, empty_if, early_of, conclude, unless_early, evaluation}
use Rattle.store_model.specs.Needs.{place_range, look_range, ranges_of}
use Rattle.standing_laws.proofs.Among.{IsAmong, among_second}
use Rattle.serial_replay.proofs.Rising.{RisesBy, same_names}
use Rattle.serial_replay.proofs.Locality.{AgreeWithin, read_is_local}

both_from : (a b : Bool) → a ≡ true → b ≡ true → (a && b) ≡ true
both_from a b h k = cc (h, k)

-- a name is within its own range
pub within_just : (n : Name) → is_within (just n) n ≡ true
within_just n = both_from (not (is_below (At n) n)) (is_below (Behind n) n) (ap (λ o. not (is_gt o)) (same_names n)) (ap is_ge (same_names n))

abbrev AgreeOn : Kind → Call → Option Name → List Pair → List Pair → Type 0
AgreeOn kind call at v w = (r : Range) → IsAmong r (ranges_of kind call at v) → AgreeWithin kind r v w

-- the cursor's place alone says what is answered early
early_is_local : (kind : Kind) (call : Call) (at : Option Name) (v w : List Pair) → AgreeOn kind call at v w → early_of kind call at v ≡ early_of kind call at w
early_is_local kind call None v w agree = refl
early_is_local kind call (Some n) v w agree = ap (empty_if (place_needs call).1) (agree (just n) (inl refl) n (within_just n))

module _ (kind : Kind) (call : Call) (at : Option Name) (v w : List Pair) (up : RisesBy (name_of kind) v) (down : RisesBy (name_of kind) w) (agree : AgreeOn kind call at v w) where
  abbrev look : Look
  look = look_of kind call at

  abbrev IsSame : Option Answer → Type 0
  IsSame o = (unless_early o at (conclude kind call at (seen kind look.way look.range v)) ≡ unless_early o at (conclude kind call at (seen kind look.way look.range w)))
      × (look_range o (passed kind look.way look.range v) ≡ look_range o (passed kind look.way look.range w))

  same_by : (o : Option Answer) → early_of kind call at v ≡ o → IsSame o
  same_by (Some answer) e = (refl, refl)
  same_by None e = (ap (conclude kind call at) same, ap (λ (l : List Pair). passed_to kind look.way look.range l ∷ []) same)
    where
      there : IsAmong (passed kind look.way look.range v) (ranges_of kind call at v)
      there = among_second (place_range at) (look_range (early_of kind call at v) (passed kind look.way look.range v)) (passed kind look.way look.range v)
          (subst (λ (o : Option Answer). IsAmong (passed kind look.way look.range v) (look_range o (passed kind look.way look.range v))) (sym e) (inl refl))

      same : seen kind look.way look.range v ≡ seen kind look.way look.range w
      same = read_is_local kind look.way look.range v w up down (agree (passed kind look.way look.range v) there)

  early_same : early_of kind call at v ≡ early_of kind call at w
  early_same = early_is_local kind call at v w agree

  pub evaluation_is_local : (evaluation kind call at v ≡ evaluation kind call at w) × (ranges_of kind call at v ≡ ranges_of kind call at w)
  evaluation_is_local =
      let s = same_by (early_of kind call at v) refl in (
        s.0 ∙ ap (λ (o : Option Answer). unless_early o at (conclude kind call at (seen kind look.way look.range w))) early_same,
        ap (λ (l : List Range). place_range at ++ l) (s.1 ∙ ap (λ (o : Option Answer). look_range o (passed kind look.way look.range w)) early_same),
      )
