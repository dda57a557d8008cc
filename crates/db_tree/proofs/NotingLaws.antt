-- Nodes that are noted.
use Rattle.std.proofs.Common.{◌≡◌, ◌<◌, ◌-◌, ◌⊎◌, inl, inr, ℕ, suc, List, [], ◌∷◌, Bool, true, cond, Option, None, Some, IsSome, Result, Ok, Err, OnOk, option_map, map, filter, length, take, refl, ap, ap₂, sym, subst, ◌∙◌, arith}
use Rattle.std.specs.declared.alloc.AllocError.{AllocError}
use Rattle.std.specs.Map.{keys_of}
use Rattle.std.proofs.lemmas.Option.{same_Some}
use Rattle.je_order.specs.declared.name.Name.{Name}
use Rattle.record_map.specs.Cells.{value_at}
use Rattle.record_map.proofs.NameLaws.{same_gets}
use Rattle.tree_nodes.specs.declared.node.Node.{Node}
use Rattle.tree_nodes.specs.Nodes.{NodeRow, IsOver, least, marked, noted_as}
use Rattle.tree_nodes.specs.Levels.{row_of, HasMarkedAt, HasPutAt, HasRaised}
use Rattle.tree_nodes.specs.Lows.{lows_of}
use Rattle.tree_nodes.specs.Noted.{AreNoted, is_to_note, noted_row}
use Rattle.tree_nodes.proofs.NoteLaws.{noted_keys, noted_there, noted_value, noted_was}
use Rattle.db_tree.specs.Images.{Placed}
use Rattle.db_tree.specs.NodeSteps.{AreSameNodes, WasThere}
use Rattle.db_tree.specs.Notes.{AreNotesKept, is_noted_at, is_noted_one, note_of}
use Rattle.db_tree.specs.Shapes.{AreAlike}
use Rattle.db_tree.specs.Splitting.{IsRaisedFrom}
use Rattle.db_tree.specs.Content.{NameState}
use Rattle.db_tree.specs.Trees.{IsTreeOf}
use Rattle.db_tree.specs.Waiting.{is_forced, waiting_in, waits_in}
use Rattle.db_tree.proofs.Marking.{Comes, come}
use Rattle.db_tree.proofs.NodeSteps.{IsElsewhere, place_of, put_elsewhere, put_here}
use Rattle.db_tree.proofs.Over.{over_once}

-- ---- notes that are kept

abbrev some_note : ℕ → Bool → Option (ℕ × Bool)
some_note number noted = Some (number, noted)

-- a node was put in the place of one with its number and its note
pub notes_put : (old new : List NodeRow) (level : ℕ) (low : Name) (m n : Node) → value_at low (row_of old level) ≡ Some m → HasPutAt old new level low n → n.number ≡ m.number → n.noted ≡ m.noted → AreNotesKept old new
notes_put old new level low m n there put number noted k x = by_place (place_of level low k x)
  where
    by_place : ((level ≡ k) × (low ≡ x)) ⊎ IsElsewhere level low k x → option_map note_of (value_at x (row_of new k)) ≡ option_map note_of (value_at x (row_of old k))
    by_place (inl h) =
        subst (λ (i : ℕ). option_map note_of (value_at x (row_of new i)) ≡ option_map note_of (value_at x (row_of old i))) h.0
        (subst (λ (y : Name). option_map note_of (value_at y (row_of new level)) ≡ option_map note_of (value_at y (row_of old level))) h.1
        (ap (option_map note_of) (put_here old new level low n put) ∙ ap₂ (λ (i : ℕ) (b : Bool). some_note i b) number noted ∙ sym (ap (option_map note_of) there)))
    by_place (inr h) = ap (option_map note_of) (put_elsewhere old new level low n k x put h)

pub notes_marked : (old new : List NodeRow) (level : ℕ) (x : Name) (from : ℕ) → HasMarkedAt old new level x from → AreNotesKept old new
notes_marked old new level x from m = notes_put old new level m.e.0 m.e.1 (marked from m.e.1) m.over.there m.put refl refl

pub notes_then : (a b c : List NodeRow) → AreNotesKept a b → AreNotesKept b c → AreNotesKept a c
notes_then a b c first second level x = second level x ∙ first level x

-- ---- new nodes

-- the node over a name is one
pub over_noted : (row : NodeRow) (x : Name) (e f : Name × Node) → IsOver row x e → IsOver row x f → e.1.noted ≡ f.1.noted
over_noted row x e f first second = ap (λ (n : Node). n.noted) (same_Some e.1 f.1 (sym first.there ∙ ap (λ (y : Name). value_at y row) (over_once row x e f first second) ∙ second.there))

-- and it has one mark
pub over_from : (row : NodeRow) (x : Name) (e f : Name × Node) → IsOver row x e → IsOver row x f → e.1.from ≡ f.1.from
over_from row x e f first second = ap (λ (n : Node). n.from) (same_Some e.1 f.1 (sym first.there ∙ ap (λ (y : Name). value_at y row) (over_once row x e f first second) ∙ second.there))

-- a root was put above the top
pub root_raised : (result : Result (Unit {0}) AllocError) (old new : List NodeRow) (root : Node) (noted : Bool) → 0 < length old → root.noted ≡ noted → noted ≡ is_noted_at old (length old - 1) least →
    OnOk result (HasRaised old new root) → OnOk result (take (length old) new ≡ old) → OnOk result (IsRaisedFrom true old new)
root_raised (Ok _) old new root noted some own same has front =
    (some, has.height, front, ap is_noted_one (has.top least ∙ same_gets least (Some root) (value_at {V = Node} least [])) ∙ own ∙ same)
root_raised (Err _) old new root noted some own same has front = tt

-- ---- all dirty nodes and those above them are noted

-- what is the same of each level is the same of the levels
rows_by : {A : Type 0} (f : NodeRow → A) (old new : List NodeRow) → length new ≡ length old → ((k : ℕ) → f (row_of new k) ≡ f (row_of old k)) → map f new ≡ map f old
rows_by f [] [] height each = refl
rows_by f [] (y ∷ ys) height each = absurd (omega (arith, height))
rows_by f (x ∷ xs) [] height each = absurd (omega (arith, height))
rows_by {A} f (x ∷ xs) (y ∷ ys) height each =
    let rest : length ys ≡ length xs = omega (arith, height) in
    ap₂ (λ (a : A) (l : List A). a ∷ l) (each 0) (rows_by f xs ys rest (λ k. each (suc k)))

filter_same : (p q : Name → Bool) (names : List Name) → ((x : Name) → p x ≡ q x) → filter p names ≡ filter q names
filter_same p q [] same = refl
filter_same p q (x ∷ names) same = ap₂ (λ (b : Bool) (l : List Name). cond b (x ∷ l) l) (same x) (filter_same p q names same)

noted_waits : (test : Name × Node → Bool) (row : NodeRow) → waiting_in (noted_row test row) ≡ waiting_in row
noted_waits test row =
    filter_same (waits_in (noted_row test row)) (waits_in row) (keys_of (noted_row test row)) (λ x. ap is_forced (noted_value test row x) ∙ by_node x (value_at x row))
    ∙ ap (filter (waits_in row)) (noted_keys test row)
  where
    by_node : (x : Name) (o : Option Node) → is_forced (option_map (λ n. noted_as (test (x, n)) n) o) ≡ is_forced o
    by_node x None = refl
    by_node x (Some n) = refl

module _ (old new : List NodeRow) (are : AreNoted old new) where
  pub noted_lows : lows_of new ≡ lows_of old
  noted_lows = rows_by (λ (row : NodeRow). keys_of row) old new are.height (λ k. ap (λ (row : NodeRow). keys_of row) (are.each k) ∙ noted_keys (is_to_note old k) (row_of old k))

  pub noted_alike : AreAlike old new
  noted_alike = record {
    lows = noted_lows;
    waits = rows_by waiting_in old new are.height (λ k. ap waiting_in (are.each k) ∙ noted_waits (is_to_note old k) (row_of old k));
  }

  pub noted_nodes : AreSameNodes old new
  noted_nodes = record { lows = noted_lows; each = λ level x n there. was level x n there }
    where
      was : (level : ℕ) (x : Name) (n : Node) → value_at x (row_of new level) ≡ Some n → WasThere old level x n
      was level x n there =
          let w = noted_was (is_to_note old level) (row_of old level) x n (sym (ap (value_at x) (are.each level)) ∙ there) in
          (w.0, w.1, record { number = ap (λ (m : Node). m.number) w.2; last = ap (λ (m : Node). m.last) w.2; forced = ap (λ (m : Node). m.forced) w.2 })

  pub noted_tree : (es : Placed) (base : ℕ) (newest : Name → ℕ) (held : Name → NameState) → IsTreeOf es base newest old held → IsTreeOf es base newest new held
  noted_tree es base newest held tree = come es base newest old new held comes tree
    where
      comes : (level : ℕ) (x : Name) (e : Name × Node) → IsOver (row_of new level) x e → Comes base newest (row_of old level) x e
      comes level x e over =
          let w = noted_was (is_to_note old level) (row_of old level) e.0 e.1 (sym (ap (value_at e.0) (are.each level)) ∙ over.there) in
          record {
            was = (e.0, w.0);
            over = record {
              there = w.1;
              below = over.below;
              most = λ q there up. over.most q (subst (λ (row : NodeRow). IsSome (value_at q row)) (sym (are.each level)) (noted_there (is_to_note old level) (row_of old level) q there)) up;
            };
            last = ap (λ (m : Node). m.last) w.2;
            behind = λ h. (h.0, ap (λ (m : Node). m.from) w.2 ∙ h.1, h.2);
            marked = λ h. (h.0, ap (λ (m : Node). m.from) w.2 ∙ h.1);
          }
