-- The calls on records, one by one: what each answers early, needs, changes and answers, and where it leaves its cursor.
use Rattle.std.proofs.Common.{◌≡◌, ◌⊎◌, inl, inr, ℕ, Bool, true, false, cond, List, [], ◌∷◌, map, Option, None, Some, refl, ap, ap₂, sym, ◌∙◌, subst, ⊎_elim, is_eq}
use Rattle.std.specs.List.{AllByRecursion}
use Rattle.std.proofs.lemmas.Bool.{cases_Bool, cond-true, cond-false, both_ways}
use Rattle.je_order.specs.Order.{name_cmp, is_same_bytes}
use Rattle.je_order.specs.declared.name.Name.{Name}
use Rattle.je_order.proofs.Orderings.{name_exact, equal_from_test}
use Rattle.lock_mode.specs.declared.lock_type.LockType.{LockType}
use Rattle.lock_mode.specs.declared.lock_type.LockType.TheVariants.{Read, Write, RangeRead, RangeWrite}
use Rattle.lock_mode.specs.Modes.{can_be_held}
use Rattle.lock_table.specs.Locks.{is_range}
use Rattle.store_model.specs.declared.kind.Kind.{Kind}
use Rattle.store_model.specs.declared.kind.Kind.TheVariants.{Plain, Dup}
use Rattle.store_model.specs.declared.isolation.Isolation.TheVariants.{RepeatableRead, Serializable}
use Rattle.store_model.specs.declared.put_mode.PutMode.TheVariants.{Overwrite, NoOverwrite, NoDupData}
use Rattle.store_model.specs.declared.motion.Motion.{Motion}
use Rattle.store_model.specs.declared.motion.Motion.TheVariants.{Both, BothRange}
use Rattle.store_model.specs.declared.call.Call.{Call}
use Rattle.store_model.specs.declared.call.Call.TheVariants.{Get, GetBoth, Put, Delete, Count, Cur, CPutCur, CDel, CPut}
use Rattle.store_model.specs.declared.index.Index.{Index}
use Rattle.store_model.specs.Refusals.{index_refusal}
use Rattle.store_model.specs.declared.record_change.RecordChange.{RecordChange}
use Rattle.store_model.specs.declared.record_change.RecordChange.TheVariants.{Unset}
use Rattle.store_model.specs.declared.answer.Answer.{Answer}
use Rattle.store_model.specs.declared.answer.Answer.TheVariants.{Done, Rec, IndexRec, Count as Counted, NotFound, KeyExist, KeyEmpty, NoPosition, ReadOnlyIndex}
use Rattle.store_model.specs.Store.{Pair, name_of, proper}
use Rattle.store_model.specs.Reads.{empty_range, seen, at_name}
use Rattle.store_model.specs.Reads.Way.{Each}
use Rattle.store_model.specs.Records.{Evaluated, look_of, place_needs, empty_if, early_of, conclude, evaluation, says, found, went, deleted, put_unless, put_at_place, with_data, tested, tested_for, unless_early, set}
use Rattle.store_model.specs.Needs.{Part, part_of, changed_name}
use Rattle.standing_laws.specs.Right.{MayWait}
use Rattle.standing_laws.proofs.Among.{IsAmong, filter_among}
use Rattle.serial_replay.specs.Replay.{is_evaluated}

-- ---- what is answered early

-- nothing; or that the record is gone at which the cursor stands; or that it stands at none
abbrev pub IsEarly : Option Answer → Option Name → Type 0
IsEarly o at = (o ≡ None) ⊎ (((n : Name) × (at ≡ Some n) × (o ≡ Some KeyEmpty)) ⊎ ((o ≡ Some NoPosition) × (at ≡ None)))

from_none : (needs : Bool) → IsEarly (cond needs (Some NoPosition) None) None
from_none true = inr (inr (refl, refl))
from_none false = inl refl

from_some : (needs : Bool) (n : Name) (l : List Pair) → IsEarly (empty_if needs l) (Some n)
from_some true n [] = inr (inl (n, refl, refl))
from_some true n (p ∷ l) = inl refl
from_some false n l = inl refl

pub early_is : (kind : Kind) (call : Call) (at : Option Name) (pairs : List Pair) → IsEarly (early_of kind call at pairs) at
early_is kind call None pairs = from_none (place_needs call).0
early_is kind call (Some n) pairs = from_some (place_needs call).1 n (at_name kind n pairs)

-- where something is, nothing changes and nothing is needed
pub evaluation_early : (kind : Kind) (call : Call) (at : Option Name) (pairs : List Pair) (o : Option Answer) → early_of kind call at pairs ≡ o
    → evaluation kind call at pairs ≡ unless_early o at (conclude kind call at (seen kind (look_of kind call at).way (look_of kind call at).range pairs))
evaluation_early kind call at pairs o e = ap (λ (x : Option Answer). unless_early x at (conclude kind call at (seen kind (look_of kind call at).way (look_of kind call at).range pairs))) e

-- ---- what a serializable call locks of what it reads

-- a call that an index refuses
abbrev pub IsPut : Call → Type 0
IsPut call = (index : Index) → index_refusal call (Some index) ≡ Some ReadOnlyIndex

-- range locks, on what it passes and behind it; or it reads nothing, and writes where it is at no place
abbrev pub IsSerPart : Kind → Call → Option Name → Option Part → Type 0
IsSerPart kind call at o = ((inside behind : LockType) × (o ≡ Some (record { inside = inside; behind = Some behind })) × (is_range inside ≡ true) × (is_range behind ≡ true))
    ⊎ ((o ≡ None) × (look_of kind call at ≡ record { way = Each; range = empty_range })
    × ((taken pairs : List Pair) → taken ≡ [] → at ≡ None → early_of kind call at pairs ≡ None → (c : RecordChange) × ((conclude kind call at taken).changes ≡ c ∷ []))
    × IsPut call)

put_part : (kind : Kind) (at then_at : Option Name) (key value : List ℕ) (taken : List Pair) → taken ≡ [] → (c : RecordChange) × ((put_unless kind at then_at key value taken).changes ≡ c ∷ [])
put_part kind at then_at key value taken e = (set kind key value, ap (λ (l : List Pair). (put_unless kind at then_at key value l).changes) e)

no_place : (kind : Kind) (cursor : ℕ) (value : List ℕ) (at : Option Name) (pairs : List Pair) → at ≡ None → early_of kind (CPutCur cursor value) at pairs ≡ None → ⊥
no_place kind cursor value at pairs e h = let k : Some NoPosition ≡ None = ap (λ (x : Option Name). early_of kind (CPutCur cursor value) x pairs) (sym e) ∙ h in absurd (cc (k))

pub ser_part : (kind : Kind) (call : Call) (at : Option Name) → MayWait call → IsSerPart kind call at (part_of Serializable call)
ser_part kind (Get db key true) at may = inl (RangeWrite, RangeWrite, refl, refl, refl)
ser_part kind (Get db key false) at may = inl (RangeRead, RangeRead, refl, refl, refl)
ser_part kind (GetBoth db key value true) at may = inl (RangeWrite, RangeWrite, refl, refl, refl)
ser_part kind (GetBoth db key value false) at may = inl (RangeRead, RangeRead, refl, refl, refl)
ser_part kind (Put db key value Overwrite) at may = inr (refl, refl, λ taken pairs e none h. put_part kind at at key value taken e, λ index. refl)
ser_part kind (Put db key value NoOverwrite) at may = inl (RangeWrite, RangeRead, refl, refl, refl)
ser_part kind (Put db key value NoDupData) at may = inl (RangeWrite, RangeRead, refl, refl, refl)
ser_part kind (Delete db key) at may = inl (RangeWrite, RangeRead, refl, refl, refl)
ser_part kind (Count cursor) at may = inl (RangeRead, RangeRead, refl, refl, refl)
ser_part kind (Cur cursor motion true) at may = inl (RangeWrite, RangeWrite, refl, refl, refl)
ser_part kind (Cur cursor motion false) at may = inl (RangeRead, RangeRead, refl, refl, refl)
ser_part kind (CPutCur cursor value) at may = inr (refl, refl, λ taken pairs e none h. absurd (no_place kind cursor value at pairs none h), λ index. refl)
ser_part kind (CDel cursor) at may = inl (RangeWrite, RangeRead, refl, refl, refl)
ser_part kind (CPut cursor key value Overwrite) at may = inr (refl, refl, λ taken pairs e none h. put_part kind at (Some (name_of kind (key, value))) key value taken e, λ index. refl)
ser_part kind (CPut cursor key value NoOverwrite) at may = inl (RangeWrite, RangeRead, refl, refl, refl)
ser_part kind (CPut cursor key value NoDupData) at may = inl (RangeWrite, RangeRead, refl, refl, refl)
ser_part kind call at may = absurd may

-- nothing stands in no range
pub nothing_seen : (kind : Kind) (pairs : List Pair) → seen kind Each empty_range pairs ≡ []
nothing_seen kind [] = refl
nothing_seen kind (p ∷ pairs) = nothing_seen kind pairs

-- ---- names of changes

name_proper : (kind : Kind) (p : Pair) → proper kind (name_of kind p) ≡ name_of kind p
name_proper Plain p = refl
name_proper Dup p = refl

abbrev pub IsProper : Kind → RecordChange → Type 0
IsProper kind c = proper kind (changed_name c) ≡ changed_name c

found_proper : (kind : Kind) (at : Option Name) (l : List Pair) → AllByRecursion (IsProper kind) (found at l).changes
found_proper kind at [] = tt
found_proper kind at (p ∷ l) = tt

went_proper : (kind : Kind) (at : Option Name) (l : List Pair) → AllByRecursion (IsProper kind) (went kind at l).changes
went_proper kind at [] = tt
went_proper kind at (p ∷ l) = tt

unset_proper : (kind : Kind) (l : List Pair) → AllByRecursion (IsProper kind) (map (λ q. Unset (name_of kind q)) l)
unset_proper kind [] = tt
unset_proper kind (p ∷ l) = (name_proper kind p, unset_proper kind l)

deleted_proper : (kind : Kind) (at : Option Name) (l : List Pair) → AllByRecursion (IsProper kind) (deleted kind at l).changes
deleted_proper kind at [] = tt
deleted_proper kind at (p ∷ l) = unset_proper kind (p ∷ l)

put_proper : (kind : Kind) (at then_at : Option Name) (key value : List ℕ) (l : List Pair) → AllByRecursion (IsProper kind) (put_unless kind at then_at key value l).changes
put_proper kind at then_at key value [] = (name_proper kind (key, value), tt)
put_proper kind at then_at key value (p ∷ l) = tt

-- a record stands where the cursor does
stood_proper : (kind : Kind) (n : Name) (pairs l : List Pair) → at_name kind n pairs ≡ l → empty_if true l ≡ None → proper kind n ≡ n
stood_proper kind n pairs [] e h = absurd (cc (h))
stood_proper kind n pairs (p ∷ l) e h =
    let test : Pair → Bool = λ q. is_eq (name_cmp (name_of kind q) n) in
    let f = filter_among test pairs p (subst (IsAmong p) (sym e) (inl refl)) in
    subst (λ (m : Name). proper kind m ≡ m) (name_exact (name_of kind p) n (equal_from_test (name_cmp (name_of kind p) n) f.1)) (name_proper kind p)

place_proper : (kind : Kind) (cursor : ℕ) (value : List ℕ) (at : Option Name) (pairs : List Pair) → early_of kind (CPutCur cursor value) at pairs ≡ None → AllByRecursion (IsProper kind) (put_at_place at value).changes
place_proper kind cursor value None pairs h = tt
place_proper kind cursor value (Some n) pairs h = (stood_proper kind n pairs (at_name kind n pairs) refl h, tt)

concluded_proper : (kind : Kind) (call : Call) (at : Option Name) (pairs taken : List Pair) → MayWait call → early_of kind call at pairs ≡ None → AllByRecursion (IsProper kind) (conclude kind call at taken).changes
concluded_proper kind (Get db key rmw) at pairs taken may h = found_proper kind at taken
concluded_proper kind (GetBoth db key value rmw) at pairs taken may h = found_proper kind at (tested_for kind value taken)
concluded_proper kind (Put db key value mode) at pairs taken may h = put_proper kind at at key value taken
concluded_proper kind (Delete db key) at pairs taken may h = deleted_proper kind at taken
concluded_proper kind (Count cursor) at pairs taken may h = tt
concluded_proper kind (Cur cursor motion rmw) at pairs taken may h = went_proper kind at (tested kind motion taken)
concluded_proper kind (CPutCur cursor value) at pairs taken may h = place_proper kind cursor value at pairs h
concluded_proper kind (CDel cursor) at pairs taken may h = deleted_proper kind at taken
concluded_proper kind (CPut cursor key value mode) at pairs taken may h = put_proper kind at (Some (name_of kind (key, value))) key value taken
concluded_proper kind call at pairs taken may h = absurd may

pub changes_proper : (kind : Kind) (call : Call) (at : Option Name) (pairs : List Pair) → MayWait call → AllByRecursion (IsProper kind) (evaluation kind call at pairs).changes
changes_proper kind call at pairs may = by (early_of kind call at pairs) refl
  where
    taken : List Pair
    taken = seen kind (look_of kind call at).way (look_of kind call at).range pairs

    by : (o : Option Answer) → early_of kind call at pairs ≡ o → AllByRecursion (IsProper kind) (evaluation kind call at pairs).changes
    by None e = subst (λ (v : Evaluated). AllByRecursion (IsProper kind) v.changes) (sym (evaluation_early kind call at pairs None e)) (concluded_proper kind call at pairs taken may e)
    by (Some answer) e = subst (λ (v : Evaluated). AllByRecursion (IsProper kind) v.changes) (sym (evaluation_early kind call at pairs (Some answer) e)) tt

-- ---- the record that is answered

-- it is the first that was taken
abbrev pub IsFirst : Pair → List Pair → Type 0
IsFirst p taken = (ps : List Pair) × (taken ≡ p ∷ ps)

rec_is : (k v key value : List ℕ) → Rec k v ≡ Rec key value → (k ≡ key) × (v ≡ value)
rec_is k v key value e = (cc (e), cc (e))

pair_is : (p : Pair) (key value : List ℕ) → p.0 ≡ key → p.1 ≡ value → p ≡ (key, value)
pair_is p key value e f = ap₂ (λ (a b : List ℕ). (a, b)) e f

first_is : (p : Pair) (l : List Pair) (key value : List ℕ) → Rec p.0 p.1 ≡ Rec key value → IsFirst (key, value) (p ∷ l)
first_is p l key value e = let r = rec_is p.0 p.1 key value e in (l, ap (λ (q : Pair). q ∷ l) (pair_is p key value r.0 r.1))

found_first : (at : Option Name) (l : List Pair) (key value : List ℕ) → (found at l).answer ≡ Rec key value → IsFirst (key, value) l
found_first at [] key value e = absurd (cc (e))
found_first at (p ∷ l) key value e = first_is p l key value e

went_first : (kind : Kind) (at : Option Name) (l : List Pair) (key value : List ℕ) → (went kind at l).answer ≡ Rec key value → IsFirst (key, value) l
went_first kind at [] key value e = absurd (cc (e))
went_first kind at (p ∷ l) key value e = first_is p l key value e

with_first : (wanted : List ℕ) (l : List Pair) (p : Pair) → IsFirst p (with_data wanted l) → IsFirst p l
with_first wanted [] p f = let e = f.1 in absurd (cc (e))
with_first wanted (q ∷ l) p f = ⊎_elim
    (λ e. let k = sym (cond-true (is_same_bytes q.1 wanted) (q ∷ []) [] e) ∙ f.1 in (l, ap (λ (x : Pair). x ∷ l) (head k)))
    (λ e. let k = sym (cond-false (is_same_bytes q.1 wanted) (q ∷ []) [] e) ∙ f.1 in absurd (cc (k)))
    (cases_Bool (is_same_bytes q.1 wanted))
  where
    head : q ∷ [] ≡ p ∷ f.0 → q ≡ p
    head k = cc (k)

tested_for_first : (kind : Kind) (wanted : List ℕ) (l : List Pair) (p : Pair) → IsFirst p (tested_for kind wanted l) → IsFirst p l
tested_for_first Plain wanted l p f = with_first wanted l p f
tested_for_first Dup wanted l p f = f

tested_first : (kind : Kind) (motion : Motion) (l : List Pair) (p : Pair) → IsFirst p (tested kind motion l) → IsFirst p l
tested_first Plain (Both key value) l p f = with_first value l p f
tested_first Plain (BothRange key value) l p f = with_first value l p f
tested_first kind motion l p f = f

put_answers : (kind : Kind) (at then_at : Option Name) (k v : List ℕ) (l : List Pair) (key value : List ℕ) → (put_unless kind at then_at k v l).answer ≡ Rec key value → ⊥
put_answers kind at then_at k v [] key value e = absurd (cc (e))
put_answers kind at then_at k v (p ∷ l) key value e = absurd (cc (e))

deleted_answers : (kind : Kind) (at : Option Name) (l : List Pair) (key value : List ℕ) → (deleted kind at l).answer ≡ Rec key value → ⊥
deleted_answers kind at [] key value e = absurd (cc (e))
deleted_answers kind at (p ∷ l) key value e = absurd (cc (e))

place_answers : (at : Option Name) (v key value : List ℕ) → (put_at_place at v).answer ≡ Rec key value → ⊥
place_answers None v key value e = absurd (cc (e))
place_answers (Some n) v key value e = absurd (cc (e))

-- a call that answers a record locks what it passes
pub record AnswersRecord (call : Call) (taken : List Pair) (p : Pair) : Type 0 where
  pub first : IsFirst p taken
  pub inside : LockType
  pub part : part_of RepeatableRead call ≡ Some (record { inside = inside; behind = None })
  pub can : can_be_held inside ≡ true
  pub ser : (locked : LockType) × (behind : Option LockType) × (part_of Serializable call ≡ Some (record { inside = locked; behind = behind })) × (can_be_held locked ≡ true)

get_record : (db key : List ℕ) (rmw : Bool) (taken : List Pair) (p : Pair) → IsFirst p taken → AnswersRecord (Get db key rmw) taken p
get_record db key true taken p f = record { first = f; inside = Write; part = refl; can = refl; ser = (RangeWrite, Some RangeWrite, refl, refl) }
get_record db key false taken p f = record { first = f; inside = Read; part = refl; can = refl; ser = (RangeRead, Some RangeRead, refl, refl) }

both_record : (db key value : List ℕ) (rmw : Bool) (taken : List Pair) (p : Pair) → IsFirst p taken → AnswersRecord (GetBoth db key value rmw) taken p
both_record db key value true taken p f = record { first = f; inside = Write; part = refl; can = refl; ser = (RangeWrite, Some RangeWrite, refl, refl) }
both_record db key value false taken p f = record { first = f; inside = Read; part = refl; can = refl; ser = (RangeRead, Some RangeRead, refl, refl) }

cur_record : (cursor : ℕ) (motion : Motion) (rmw : Bool) (taken : List Pair) (p : Pair) → IsFirst p taken → AnswersRecord (Cur cursor motion rmw) taken p
cur_record cursor motion true taken p f = record { first = f; inside = Write; part = refl; can = refl; ser = (RangeWrite, Some RangeWrite, refl, refl) }
cur_record cursor motion false taken p f = record { first = f; inside = Read; part = refl; can = refl; ser = (RangeRead, Some RangeRead, refl, refl) }

pub answers_record : (kind : Kind) (call : Call) (at : Option Name) (taken : List Pair) (key value : List ℕ) → MayWait call → (conclude kind call at taken).answer ≡ Rec key value → AnswersRecord call taken (key, value)
answers_record kind (Get db k rmw) at taken key value may e = get_record db k rmw taken (key, value) (found_first at taken key value e)
answers_record kind (GetBoth db k v rmw) at taken key value may e =
    both_record db k v rmw taken (key, value) (tested_for_first kind v taken (key, value) (found_first at (tested_for kind v taken) key value e))
answers_record kind (Put db k v mode) at taken key value may e = absurd (put_answers kind at at k v taken key value e)
answers_record kind (Delete db k) at taken key value may e = absurd (deleted_answers kind at taken key value e)
answers_record kind (Count cursor) at taken key value may e = absurd (cc (e))
answers_record kind (Cur cursor motion rmw) at taken key value may e =
    cur_record cursor motion rmw taken (key, value) (tested_first kind motion taken (key, value) (went_first kind at (tested kind motion taken) key value e))
answers_record kind (CPutCur cursor v) at taken key value may e = absurd (place_answers at v key value e)
answers_record kind (CDel cursor) at taken key value may e = absurd (deleted_answers kind at taken key value e)
answers_record kind (CPut cursor k v mode) at taken key value may e = absurd (put_answers kind at (Some (name_of kind (k, v))) k v taken key value e)
answers_record kind call at taken key value may e = absurd may

-- and it looked
pub answers_late : (kind : Kind) (call : Call) (at : Option Name) (pairs : List Pair) (key value : List ℕ) → (evaluation kind call at pairs).answer ≡ Rec key value → early_of kind call at pairs ≡ None
answers_late kind call at pairs key value h = by (early_is kind call at pairs)
  where
    other : (answer : Answer) → early_of kind call at pairs ≡ Some answer → answer ≡ Rec key value
    other answer e = sym (ap (λ (v : Evaluated). v.answer) (evaluation_early kind call at pairs (Some answer) e)) ∙ h

    by : IsEarly (early_of kind call at pairs) at → early_of kind call at pairs ≡ None
    by (inl e) = e
    by (inr (inl p)) = let k = other KeyEmpty p.2 in absurd (cc (k))
    by (inr (inr p)) = let k = other NoPosition p.0 in absurd (cc (k))

-- ---- which answers are evaluation's

-- those of a call in its own database, where its cursor stands at a record
abbrev pub is_own : Answer → Bool
is_own Done = true
is_own (Rec key value) = true
is_own (Counted count) = true
is_own NotFound = true
is_own KeyExist = true
is_own KeyEmpty = true
is_own answer = false

pub own_evaluated : (answer : Answer) → is_own answer ≡ true → is_evaluated answer ≡ true
own_evaluated Done h = refl
own_evaluated (Rec key value) h = refl
own_evaluated (Counted count) h = refl
own_evaluated NotFound h = refl
own_evaluated KeyExist h = refl
own_evaluated KeyEmpty h = refl
own_evaluated answer h = absurd (both_ways false refl h)

found_evaluated : (at : Option Name) (l : List Pair) → is_own (found at l).answer ≡ true
found_evaluated at [] = refl
found_evaluated at (p ∷ l) = refl

went_evaluated : (kind : Kind) (at : Option Name) (l : List Pair) → is_own (went kind at l).answer ≡ true
went_evaluated kind at [] = refl
went_evaluated kind at (p ∷ l) = refl

put_evaluated : (kind : Kind) (at then_at : Option Name) (key value : List ℕ) (l : List Pair) → is_own (put_unless kind at then_at key value l).answer ≡ true
put_evaluated kind at then_at key value [] = refl
put_evaluated kind at then_at key value (p ∷ l) = refl

deleted_evaluated : (kind : Kind) (at : Option Name) (l : List Pair) → is_own (deleted kind at l).answer ≡ true
deleted_evaluated kind at [] = refl
deleted_evaluated kind at (p ∷ l) = refl

place_evaluated : (kind : Kind) (cursor : ℕ) (value : List ℕ) (at : Option Name) (pairs : List Pair) → early_of kind (CPutCur cursor value) at pairs ≡ None → is_own (put_at_place at value).answer ≡ true
place_evaluated kind cursor value None pairs h = absurd (cc (h))
place_evaluated kind cursor value (Some n) pairs h = refl

concluded_evaluated : (kind : Kind) (call : Call) (at : Option Name) (pairs taken : List Pair) → MayWait call → early_of kind call at pairs ≡ None → is_own (conclude kind call at taken).answer ≡ true
concluded_evaluated kind (Get db key rmw) at pairs taken may h = found_evaluated at taken
concluded_evaluated kind (GetBoth db key value rmw) at pairs taken may h = found_evaluated at (tested_for kind value taken)
concluded_evaluated kind (Put db key value mode) at pairs taken may h = put_evaluated kind at at key value taken
concluded_evaluated kind (Delete db key) at pairs taken may h = deleted_evaluated kind at taken
concluded_evaluated kind (Count cursor) at pairs taken may h = refl
concluded_evaluated kind (Cur cursor motion rmw) at pairs taken may h = went_evaluated kind at (tested kind motion taken)
concluded_evaluated kind (CPutCur cursor value) at pairs taken may h = place_evaluated kind cursor value at pairs h
concluded_evaluated kind (CDel cursor) at pairs taken may h = deleted_evaluated kind at taken
concluded_evaluated kind (CPut cursor key value mode) at pairs taken may h = put_evaluated kind at (Some (name_of kind (key, value))) key value taken
concluded_evaluated kind call at pairs taken may h = absurd may

-- a cursor that stands at no record is told so, and nothing else comes of it
pub record IsLost (kind : Kind) (call : Call) (at : Option Name) (pairs : List Pair) : Type 0 where
  pub none : at ≡ None
  pub early : early_of kind call at pairs ≡ Some NoPosition
  pub is : evaluation kind call at pairs ≡ says NoPosition at

pub comes_evaluated : (kind : Kind) (call : Call) (at : Option Name) (pairs : List Pair) → MayWait call → (is_own (evaluation kind call at pairs).answer ≡ true) ⊎ IsLost kind call at pairs
comes_evaluated kind call at pairs may = by (early_is kind call at pairs)
  where
    taken : List Pair
    taken = seen kind (look_of kind call at).way (look_of kind call at).range pairs

    by : IsEarly (early_of kind call at pairs) at → (is_own (evaluation kind call at pairs).answer ≡ true) ⊎ IsLost kind call at pairs
    by (inl e) = inl (ap (λ (v : Evaluated). is_own v.answer) (evaluation_early kind call at pairs None e) ∙ concluded_evaluated kind call at pairs taken may e)
    by (inr (inl p)) = inl (ap (λ (v : Evaluated). is_own v.answer) (evaluation_early kind call at pairs (Some KeyEmpty) p.2))
    by (inr (inr p)) = inr (record { none = p.1; early = p.0; is = evaluation_early kind call at pairs (Some NoPosition) p.0 })

-- in its own database no call answers with another one's record
pub own_is_none : (kind : Kind) (call : Call) (at : Option Name) (pairs : List Pair) (key primary_key value : List ℕ) → MayWait call → (evaluation kind call at pairs).answer ≡ IndexRec key primary_key value → ⊥
own_is_none kind call at pairs key primary_key value may e = by (comes_evaluated kind call at pairs may)
  where
    by : (is_own (evaluation kind call at pairs).answer ≡ true) ⊎ IsLost kind call at pairs → ⊥
    by (inl own) = both_ways (is_own (evaluation kind call at pairs).answer) (ap is_own e) own
    by (inr lost) = let k = sym (ap (λ (v : Evaluated). v.answer) lost.is) ∙ e in absurd (cc (k))

-- ---- where a call leaves its cursor

-- where it stood; or at the first record that was taken; or at the name of a change
abbrev pub IsPlaceOf : Type 0 → Kind → Option Name → List Pair → List RecordChange → Name → Type 0
IsPlaceOf P kind at taken changes n = (at ≡ Some n) ⊎ (((p : Pair) × IsFirst p taken × (name_of kind p ≡ n)) ⊎ ((c : RecordChange) × IsAmong c changes × (changed_name c ≡ n) × P))

found_place : (P : Type 0) (kind : Kind) (at : Option Name) (l taken : List Pair) (n : Name) → (found at l).place ≡ Some n → IsPlaceOf P kind at taken (found at l).changes n
found_place P kind at [] taken n e = inl e
found_place P kind at (p ∷ l) taken n e = inl e

deleted_place : (P : Type 0) (kind : Kind) (at : Option Name) (l : List Pair) (n : Name) → (deleted kind at l).place ≡ Some n → IsPlaceOf P kind at l (deleted kind at l).changes n
deleted_place P kind at [] n e = inl e
deleted_place P kind at (p ∷ l) n e = inl e

some_name : (m n : Name) → Some m ≡ Some n → m ≡ n
some_name m n e = cc (e)

put_place : (P : Type 0) (kind : Kind) (at : Option Name) (key value : List ℕ) (l : List Pair) (n : Name) → (put_unless kind at at key value l).place ≡ Some n → IsPlaceOf P kind at l (put_unless kind at at key value l).changes n
put_place P kind at key value [] n e = inl e
put_place P kind at key value (p ∷ l) n e = inl e

cput_place : (P : Type 0) → P → (kind : Kind) (at : Option Name) (key value : List ℕ) (l : List Pair) (n : Name) → (put_unless kind at (Some (name_of kind (key, value))) key value l).place ≡ Some n
    → IsPlaceOf P kind at l (put_unless kind at (Some (name_of kind (key, value))) key value l).changes n
cput_place P its kind at key value [] n e = inr (inr (set kind key value, inl refl, some_name (name_of kind (key, value)) n e, its))
cput_place P its kind at key value (p ∷ l) n e = inl e

went_place : (P : Type 0) (kind : Kind) (motion : Motion) (at : Option Name) (l taken : List Pair) (n : Name) → tested kind motion taken ≡ l → (went kind at l).place ≡ Some n → IsPlaceOf P kind at taken (went kind at l).changes n
went_place P kind motion at [] taken n e h = inl h
went_place P kind motion at (p ∷ l) taken n e h = inr (inl (p, tested_first kind motion taken p (l, e), some_name (name_of kind p) n h))

stays_place : (P : Type 0) (kind : Kind) (at : Option Name) (value : List ℕ) (taken : List Pair) (n : Name) → (put_at_place at value).place ≡ Some n → IsPlaceOf P kind at taken (put_at_place at value).changes n
stays_place P kind None value taken n e = inl e
stays_place P kind (Some m) value taken n e = inl e

pub place_is : (kind : Kind) (call : Call) (at : Option Name) (taken : List Pair) (n : Name) → MayWait call → (conclude kind call at taken).place ≡ Some n → IsPlaceOf (IsPut call) kind at taken (conclude kind call at taken).changes n
place_is kind (Get db key rmw) at taken n may e = found_place (IsPut (Get db key rmw)) kind at taken taken n e
place_is kind (GetBoth db key value rmw) at taken n may e = found_place (IsPut (GetBoth db key value rmw)) kind at (tested_for kind value taken) taken n e
place_is kind (Put db key value mode) at taken n may e = put_place (IsPut (Put db key value mode)) kind at key value taken n e
place_is kind (Delete db key) at taken n may e = deleted_place (IsPut (Delete db key)) kind at taken n e
place_is kind (Count cursor) at taken n may e = inl e
place_is kind (Cur cursor motion rmw) at taken n may e = went_place (IsPut (Cur cursor motion rmw)) kind motion at (tested kind motion taken) taken n refl e
place_is kind (CPutCur cursor value) at taken n may e = stays_place (IsPut (CPutCur cursor value)) kind at value taken n e
place_is kind (CDel cursor) at taken n may e = deleted_place (IsPut (CDel cursor)) kind at taken n e
place_is kind (CPut cursor key value mode) at taken n may e = cput_place (IsPut (CPut cursor key value mode)) (λ index. refl) kind at key value taken n e
place_is kind call at taken n may e = absurd may
