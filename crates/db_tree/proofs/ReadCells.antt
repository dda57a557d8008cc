-- What reads find among the cells.
use Rattle.std.proofs.Common.{◌≡◌, ◌≤◌, ◌+◌, ℕ, List, [], ◌∷◌, ◌++◌, Bool, true, false, cond, None, Some, filter, length, refl, ap, sym, ◌∙◌, arith}
use Rattle.std.proofs.lemmas.List.{length-append}
use Rattle.je_order.specs.declared.name.Name.{Name}
use Rattle.record_map.specs.declared.cell.Cell.{Cell}
use Rattle.record_map.specs.Cells.{value_at, IsRising, last_of}
use Rattle.record_map.proofs.EdgeLaws.{last_is}
use Rattle.record_tree.specs.Occupied.{Occupied, occupied_by, is_occupied}
use Rattle.db_tree.specs.Seen.{occupied, seen}
use Rattle.db_tree.proofs.Seen.{seen_at}

-- the occupied ones of those that pass a test are those that pass it of the occupied ones
pub occupied_passed : (p : Name → Bool) (cells : List (Name × Cell)) → occupied (filter (λ e. p e.0) cells) ≡ filter (λ e. p e.0) (occupied cells)
occupied_passed p [] = refl
occupied_passed p (e ∷ cells) = by_tests (p e.0) refl (is_occupied (occupied_by e.1)) refl (occupied_passed p cells)
  where
    rest : List (Name × Cell)
    rest = filter (λ f. p f.0) cells

    by_tests : (t : Bool) → p e.0 ≡ t → (u : Bool) → is_occupied (occupied_by e.1) ≡ u → occupied (filter (λ f. p f.0) cells) ≡ filter (λ f. p f.0) (occupied cells) →
        occupied (cond t (e ∷ filter (λ f. p f.0) cells) (filter (λ f. p f.0) cells)) ≡ filter (λ f. p f.0) (cond u ((e.0, occupied_by e.1) ∷ occupied cells) (occupied cells))
    by_tests true is_p true is_u more =
        ap (λ (u : Bool). cond u ((e.0, occupied_by e.1) ∷ occupied (filter (λ f. p f.0) cells)) (occupied (filter (λ f. p f.0) cells))) is_u
        ∙ ap (λ (l : List (Name × Occupied)). (e.0, occupied_by e.1) ∷ l) more
        ∙ sym (ap (λ (t : Bool). cond t ((e.0, occupied_by e.1) ∷ filter (λ f. p f.0) (occupied cells)) (filter (λ f. p f.0) (occupied cells))) is_p)
    by_tests true is_p false is_u more =
        ap (λ (u : Bool). cond u ((e.0, occupied_by e.1) ∷ occupied (filter (λ f. p f.0) cells)) (occupied (filter (λ f. p f.0) cells))) is_u ∙ more
    by_tests false is_p true is_u more =
        more ∙ sym (ap (λ (t : Bool). cond t ((e.0, occupied_by e.1) ∷ filter (λ f. p f.0) (occupied cells)) (filter (λ f. p f.0) (occupied cells))) is_p)
    by_tests false is_p false is_u more = more

-- an occupied one is the first, and one that is not is passed over
pub occupied_first : (name : Name) (cell : Cell) (cells : List (Name × Cell)) → is_occupied (occupied_by cell) ≡ true → occupied ((name, cell) ∷ cells) ≡ (name, occupied_by cell) ∷ occupied cells
occupied_first name cell cells is = ap (λ (t : Bool). cond t ((name, occupied_by cell) ∷ occupied cells) (occupied cells)) is

pub occupied_over : (name : Name) (cell : Cell) (cells : List (Name × Cell)) → is_occupied (occupied_by cell) ≡ false → occupied ((name, cell) ∷ cells) ≡ occupied cells
occupied_over name cell cells is = ap (λ (t : Bool). cond t ((name, occupied_by cell) ∷ occupied cells) (occupied cells)) is

occupied_append : (a b : List (Name × Cell)) → occupied (a ++ b) ≡ occupied a ++ occupied b
occupied_append [] b = refl
occupied_append (e ∷ a) b = by_test (is_occupied (occupied_by e.1)) (occupied_append a b)
  where
    by_test : (t : Bool) → occupied (a ++ b) ≡ occupied a ++ occupied b → cond t ((e.0, occupied_by e.1) ∷ occupied (a ++ b)) (occupied (a ++ b)) ≡ cond t ((e.0, occupied_by e.1) ∷ occupied a) (occupied a) ++ occupied b
    by_test true more = ap (λ (l : List (Name × Occupied)). (e.0, occupied_by e.1) ∷ l) more
    by_test false more = more

append_none : {X : Type 0} (a : List X) → a ++ [] ≡ a
append_none [] = refl
append_none {X} (x ∷ a) = ap (λ (l : List X). x ∷ l) (append_none a)

pub occupied_last : (all front : List (Name × Cell)) (name : Name) (cell : Cell) → all ≡ front ++ (name, cell) ∷ [] → is_occupied (occupied_by cell) ≡ true → last_of (occupied all) ≡ Some (name, occupied_by cell)
occupied_last all front name cell is busy =
    ap (λ (l : List (Name × Cell)). last_of (occupied l)) is
    ∙ ap last_of (occupied_append front ((name, cell) ∷ []) ∙ ap (λ (l : List (Name × Occupied)). occupied front ++ l) (occupied_first name cell [] busy))
    ∙ last_is (occupied front) (name, occupied_by cell)

pub occupied_before : (all front : List (Name × Cell)) (name : Name) (cell : Cell) → all ≡ front ++ (name, cell) ∷ [] → is_occupied (occupied_by cell) ≡ false → occupied all ≡ occupied front
occupied_before all front name cell is free =
    ap occupied is
    ∙ occupied_append front ((name, cell) ∷ [])
    ∙ ap (λ (l : List (Name × Occupied)). occupied front ++ l) (occupied_over name cell [] free)
    ∙ append_none (occupied front)

pub shorter : (all front : List (Name × Cell)) (e : Name × Cell) (n i : ℕ) → all ≡ front ++ e ∷ [] → length all + i ≤ n → length front + (i + 1) ≤ n
shorter all front e n i is le = omega (arith, le, ap length is, length-append front (e ∷ []))

pub passed_few : (p : Name → Bool) (cells : List (Name × Cell)) → length (filter (λ e. p e.0) cells) ≤ length cells
passed_few p [] = omega arith
passed_few p (e ∷ cells) = by_test (p e.0) (passed_few p cells)
  where
    by_test : (t : Bool) → length (filter (λ f. p f.0) cells) ≤ length cells → length (cond t (e ∷ filter (λ f. p f.0) cells) (filter (λ f. p f.0) cells)) ≤ length (e ∷ cells)
    by_test true le = omega (arith, le)
    by_test false le = omega (arith, le)

pub none_left : (cells : List (Name × Cell)) (n i : ℕ) → length cells + i ≤ n → n ≤ i → cells ≡ []
none_left [] n i le end = refl
none_left (e ∷ cells) n i le end = absurd (omega (arith, le, end))

-- ---- what is seen of a cell that was found

pub seen_some : (cells : List (Name × Cell)) (name : Name) (cell : Cell) → IsRising cells → Some cell ≡ value_at name cells → is_occupied (occupied_by cell) ≡ true → Some (occupied_by cell) ≡ value_at name (occupied cells)
seen_some cells name cell up there busy = sym (seen_at cells name up ∙ ap seen (sym there) ∙ ap (λ (t : Bool). cond t (Some (occupied_by cell)) None) busy)

pub seen_free : (cells : List (Name × Cell)) (name : Name) (cell : Cell) → IsRising cells → Some cell ≡ value_at name cells → is_occupied (occupied_by cell) ≡ false → None ≡ value_at name (occupied cells)
seen_free cells name cell up there free = sym (seen_at cells name up ∙ ap seen (sym there) ∙ ap (λ (t : Bool). cond t (Some (occupied_by cell)) None) free)

pub seen_none : (cells : List (Name × Cell)) (name : Name) → IsRising cells → None ≡ value_at name cells → None ≡ value_at name (occupied cells)
seen_none cells name up none = sym (seen_at cells name up ∙ ap seen (sym none))
