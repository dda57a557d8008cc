-- The changes of a call through an index are of one key.
use Rattle.std.proofs.Common.{◌≡◌, ◌∙◌, ℕ, true, true≢false, List, [], ◌∷◌, Option, None, Some, map, filter, not, is_gt, Ordering, Less, Equal, Greater, refl, sym, subst}
use Rattle.std.specs.List.{AllByRecursion}
use Rattle.std.specs.Ordering.{is_ge, ordering_then}
use Rattle.std.proofs.lemmas.Bool.{and_parts}
use Rattle.std.proofs.lemmas.Map.Lookups.{exact_bytes}
use Rattle.je_order.specs.Order.{bytes_cmp, name_cmp}
use Rattle.je_order.specs.Edges.{is_below}
use Rattle.je_order.specs.declared.name.Name.{Name}
use Rattle.je_order.proofs.Lists.{all_weaker, filter_all_pass}
use Rattle.cursor_je.proofs.EdgeLaws.{below_behind_key}
use Rattle.log_replay.proofs.ListLaws.{all_to_map}
use Rattle.store_model.specs.declared.kind.Kind.{Kind}
use Rattle.store_model.specs.declared.kind.Kind.TheVariants.{Dup}
use Rattle.store_model.specs.declared.answer.Answer.{Answer}
use Rattle.store_model.specs.declared.index.Index.{Index}
use Rattle.store_model.specs.declared.call.Call.{Call}
use Rattle.store_model.specs.declared.call.Call.TheVariants.{Get, GetBoth, Put, Delete, Count, Cur, CPutCur, CDel, CPut}
use Rattle.store_model.specs.declared.record_change.RecordChange.{RecordChange}
use Rattle.store_model.specs.declared.record_change.RecordChange.TheVariants.{Unset}
use Rattle.store_model.specs.Store.{Pair, name_of, named}
use Rattle.store_model.specs.Reads.{Range, behind_key, empty_range, is_within, of_key, seen, taken_by}
use Rattle.store_model.specs.Reads.Way.{Lowest, Each}
use Rattle.store_model.specs.Records.{Evaluated, conclude, deleted, early_of, evaluation, exactly, first_of_key, found, look_at_place, look_of, look_of_motion, tested, tested_for, unless_early, went}
use Rattle.store_model.specs.Refusals.{index_refusal}
use Rattle.store_model.specs.Needs.{changed_name}
use Rattle.standing_laws.specs.Right.{MayWait}

-- changes of names of one key
pub record AreOfOneKey (cs : List RecordChange) : Type 0 where
  pub key : List ℕ
  pub each : AllByRecursion (λ c. (changed_name c).key ≡ key) cs

none_of : AreOfOneKey []
none_of = record { key = []; each = tt }

-- names within a key's names have that key
not_less : (o p : Ordering) → not (is_gt (ordering_then o p)) ≡ true → is_ge o ≡ true → o ≡ Equal
not_less Less p a b = cc
not_less Equal p a b = refl
not_less Greater p a b = cc

key_within : (key : List ℕ) (n : Name) → is_within (of_key key) n ≡ true → n.key ≡ key
key_within key n h =
    let parts = and_parts (not (is_gt (name_cmp (named key []) n))) (is_below (behind_key key) n) h in
    sym (exact_bytes key n.key (not_less (bytes_cmp key n.key) (bytes_cmp [] n.dup) parts.0 (below_behind_key key n ∙ parts.1)))

-- deletes
deleted_are : (at : Option Name) (taken : List Pair) → (deleted Dup at taken).changes ≡ map (λ (q : Pair). Unset (name_of Dup q)) taken
deleted_are at [] = refl
deleted_are at (p ∷ ps) = refl

of_key_deleted : (at : Option Name) (key : List ℕ) (pairs : List Pair) → AreOfOneKey (deleted Dup at (seen Dup Each (of_key key) pairs)).changes
of_key_deleted at key pairs =
    let taken : List Pair = filter (λ (p : Pair). is_within (of_key key) (name_of Dup p)) pairs in
    subst AreOfOneKey (sym (deleted_are at taken)) (record {
      key = key;
      each = all_to_map (λ (q : Pair). Unset (name_of Dup q)) (λ c. (changed_name c).key ≡ key) taken
          (all_weaker (λ (p : Pair). is_within (of_key key) (name_of Dup p) ≡ true) (λ p. (name_of Dup p).key ≡ key) (λ p h. key_within key (name_of Dup p) h) taken
          (filter_all_pass (λ (p : Pair). is_within (of_key key) (name_of Dup p)) pairs));
    })

one_deleted : (at : Option Name) (ps : List Pair) → AreOfOneKey (deleted Dup at (taken_by Lowest ps)).changes
one_deleted at [] = none_of
one_deleted at (p ∷ ps) = record { key = (name_of Dup p).key; each = (refl, tt) }

lowest_deleted : (at : Option Name) (r : Range) (pairs : List Pair) → AreOfOneKey (deleted Dup at (seen Dup Lowest r pairs)).changes
lowest_deleted at r pairs = one_deleted at (filter (λ (p : Pair). is_within r (name_of Dup p)) pairs)

-- nothing is in front of the first name
nothing_deleted : (at : Option Name) (pairs : List Pair) → AreOfOneKey (deleted Dup at (seen Dup Each empty_range pairs)).changes
nothing_deleted at pairs =
    let taken : List Pair = filter (λ (p : Pair). is_within empty_range (name_of Dup p)) pairs in
    subst AreOfOneKey (sym (deleted_are at taken)) (record {
      key = [];
      each = all_to_map (λ (q : Pair). Unset (name_of Dup q)) (λ c. (changed_name c).key ≡ []) taken
          (all_weaker (λ (p : Pair). is_within empty_range (name_of Dup p) ≡ true) (λ p. (name_of Dup p).key ≡ []) (λ p h. absurd (true≢false (sym h))) taken
          (filter_all_pass (λ (p : Pair). is_within empty_range (name_of Dup p)) pairs));
    })

at_place : (at : Option Name) (pairs : List Pair) → AreOfOneKey (deleted Dup at (seen Dup (look_at_place at).way (look_at_place at).range pairs)).changes
at_place None pairs = nothing_deleted None pairs
at_place (Some n) pairs = lowest_deleted (Some n) (look_at_place (Some n)).range pairs

-- reads
finds : (at : Option Name) (taken : List Pair) → AreOfOneKey (found at taken).changes
finds at [] = none_of
finds at (p ∷ ps) = none_of

goes : (at : Option Name) (taken : List Pair) → AreOfOneKey (went Dup at taken).changes
goes at [] = none_of
goes at (p ∷ ps) = none_of

-- what a call comes to that its cursor's place does not answer
concludes : (call : Call) (at : Option Name) (pairs : List Pair) (i : Index) → MayWait call → index_refusal call (Some i) ≡ None →
    AreOfOneKey (conclude Dup call at (seen Dup (look_of Dup call at).way (look_of Dup call at).range pairs)).changes
concludes (Get db key rmw) at pairs i may none = finds at (seen Dup (first_of_key Dup key).way (first_of_key Dup key).range pairs)
concludes (GetBoth db key value rmw) at pairs i may none = finds at (tested_for Dup value (seen Dup (exactly Dup key value).way (exactly Dup key value).range pairs))
concludes (Put db key value mode) at pairs i may none = absurd cc
concludes (Delete db key) at pairs i may none = of_key_deleted at key pairs
concludes (Count cursor) at pairs i may none = none_of
concludes (Cur cursor motion rmw) at pairs i may none = goes at (tested Dup motion (seen Dup (look_of_motion Dup motion at).way (look_of_motion Dup motion at).range pairs))
concludes (CPutCur cursor value) at pairs i may none = absurd cc
concludes (CDel cursor) at pairs i may none = at_place at pairs
concludes (CPut cursor key value mode) at pairs i may none = absurd cc
concludes call at pairs i may none = absurd may

unless_so : (early : Option Answer) (at : Option Name) (evaluated : Evaluated) → AreOfOneKey evaluated.changes → AreOfOneKey (unless_early early at evaluated).changes
unless_so None at evaluated h = h
unless_so (Some answer) at evaluated h = none_of

-- those of a call on an index that the index does not refuse
pub index_key : (kind : Kind) (call : Call) (at : Option Name) (pairs : List Pair) (i : Index) → kind ≡ Dup → MayWait call → index_refusal call (Some i) ≡ None → AreOfOneKey (evaluation kind call at pairs).changes
index_key kind call at pairs i dup may none =
    subst (λ (k : Kind). AreOfOneKey (evaluation k call at pairs).changes) (sym dup)
    (unless_so (early_of Dup call at pairs) at (conclude Dup call at (seen Dup (look_of Dup call at).way (look_of Dup call at).range pairs)) (concludes call at pairs i may none))
