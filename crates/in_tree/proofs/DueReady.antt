-- Changes that are ready to be logged: the trees fit their log but for the images of their names' slots.
use Rattle.std.proofs.Common.{◌≡◌, ◌≤◌, ◌+◌, ◌==◌, ◌⊎◌, ◌++◌, ℕ, min, Bool, true, false, cond, List, [], ◌∷◌, Option, None, Some, IsSome, is_some, map, refl, ap, ap₂, sym, subst, ◌∙◌, inl, inr, arith}
use Rattle.std.specs.Prelude.{IfSome}
use Rattle.std.specs.List.{AllByRecursion}
use Rattle.std.specs.Ordering.{nat_cmp}
use Rattle.std.specs.BTreeMap.{get}
use Rattle.std.proofs.lemmas.Bool.{true≢false}
use Rattle.std.proofs.lemmas.Option.{none-some}
use Rattle.je_order.specs.declared.name.Name.{Name}
use Rattle.je_order.proofs.Lists.{all_weaker}
use Rattle.log_trees.specs.Placed.{Placed}
use Rattle.log_trees.specs.Sound.{Home}
use Rattle.record_map.specs.Cells.{value_at}
use Rattle.record_tree.specs.declared.tree_change.TreeChange.{TreeChange}
use Rattle.record_tree.specs.Occupied.{Occupied, AllCells, AreFewNew, AreSame}
use Rattle.tree_nodes.specs.Nodes.{least}
use Rattle.db_tree.specs.declared.node_image.NodeImage.{NodeImage}
use Rattle.db_tree.specs.declared.slot_room.SlotRoom.{SlotRoom}
use Rattle.db_tree.specs.declared.tree.DbTree.{DbTree}
use Rattle.db_tree.specs.NodeImages.{node_of}
use Rattle.db_tree.specs.Seen.{occupied, seen}
use Rattle.db_tree.specs.Shapes.{IsCellMade, made_by}
use Rattle.db_tree.proofs.Seen.{seen_at}
use Rattle.db_tree.proofs.SplitLaws.{level_cases}
use Rattle.tree_images.specs.Forest.{FitsDue, ForestDue, ForestFits, AreLogged}
use Rattle.tree_images.specs.Notes.{HasNotes, may_stay}
use Rattle.tree_images.specs.Sound.{IsNumber}
use Rattle.tree_images.specs.TreeSteps.{IsNewTree}
use Rattle.tree_images.proofs.ForestWrites.{new_fits, new_logged}
use Rattle.tree_images.proofs.NotedRoots.{notes_one_node}
use Rattle.in_tree.specs.Forest.{Forest, cells_of, cells_seen, is_there}
use Rattle.in_tree.specs.Growing.{trees_at, none_due}
use Rattle.in_tree.specs.Limits.{one_made}
use Rattle.in_tree.specs.Placing.{IsFittedIn, AreFitted, IsMadeBy, AreMadeBy, due_one, due_of, numbers_of}
use Rattle.in_tree.proofs.DueLogging.{due_there}
use Rattle.in_tree.proofs.DuePlaces.{AreFewRooms, AreGrownTo, HaveRootHomes, HasRootHome, due_with, idle_takes, all_grow}
use Rattle.in_tree.proofs.Forests.{forest_same, others_away}

-- ---- at most one new slot a database

-- a name that gets a cell is not occupied
new_is_free : (fanout first : ℕ) (c : TreeChange) (room : SlotRoom) (old mid : Forest) (cells : AllCells) → AreSame cells (cells_seen old) → IsFittedIn fanout first c.db c.name room old mid → room.is_new ≡ true →
    IsSome (value_at c.name (cells c.db)) → ⊥
new_is_free fanout first c room old mid cells same p new some =
    none_there (made room.is_new new p.slot.placed.back.cells)
  where
    made : (is_new : Bool) → is_new ≡ true → IsCellMade is_new c.name p.tree.cells p.next.cells → value_at c.name (occupied p.tree.cells) ≡ None
    made true is h = seen_at p.tree.cells c.name h.0 ∙ ap seen h.1
    made false is h = absurd (true≢false (sym is))

    none_there : value_at c.name (occupied p.tree.cells) ≡ None → ⊥
    none_there none =
        absurd (true≢false (sym some ∙ ap (λ (o : Option Occupied). is_some o)
        (ap (λ (l : List (Name × Occupied)). value_at c.name l) (sym (same c.db) ∙ ap (λ (t : Option DbTree). occupied (cells_of t)) p.was) ∙ none)))

-- names of a database are occupied
abbrev AreOccupied : AllCells → ℕ → List TreeChange → Type 0
AreOccupied cells d changes = AllByRecursion (λ e. d ≡ e.db → IsSome (value_at e.name (cells e.db))) changes

pub few_rooms : (fanout last : ℕ) (changes : List TreeChange) (rooms : List SlotRoom) (old new : Forest) (cells : AllCells) (due : ℕ → List NodeImage) → AreSame cells (cells_seen old) →
    AreFitted fanout last changes rooms old new → AreFewNew cells changes → ((d : ℕ) → (due d ≡ []) ⊎ AreOccupied cells d changes) → AreFewRooms due changes rooms
few_rooms fanout last [] rooms old new cells due same fitted few none = tt
few_rooms fanout last (c ∷ changes) [] old new cells due same fitted few none = tt
few_rooms fanout last (c ∷ changes) (room ∷ rooms) old new cells due same fitted few none =
    (by_due (none c.db) room.is_new refl, few_rooms fanout (last + (made_by room + one_made c.makes)) changes rooms fitted.0 new cells (due_with c.db room.images.items due) seen_same fitted.2 few.1 left)
  where
    free : room.is_new ≡ true → IsSome (value_at c.name (cells c.db)) → ⊥
    free = new_is_free fanout _ c room old fitted.0 cells same fitted.1

    by_due : (due c.db ≡ []) ⊎ AreOccupied cells c.db (c ∷ changes) → (t : Bool) → room.is_new ≡ t → (due c.db ≡ []) ⊎ (room.is_new ≡ false)
    by_due (inl empty) t is = inl empty
    by_due (inr all) true is = absurd (free is (all.0 refl))
    by_due (inr all) false is = inr is

    seen_same : AreSame cells (cells_seen fitted.0)
    seen_same d =
        forest_same old fitted.0 c.db (Some fitted.1.next) fitted.1.has (fitted.1.slot.placed.same ∙ sym (ap (λ (t : Option DbTree). occupied (cells_of t)) fitted.1.was)) d ∙ same d

    still : (d : ℕ) → due_one c.db room.images.items d ≡ [] → (due d ≡ []) ⊎ AreOccupied cells d (c ∷ changes) → (due_with c.db room.images.items due d ≡ []) ⊎ AreOccupied cells d changes
    still d empty (inl h) = inl (ap₂ (λ (a b : List NodeImage). a ++ b) h empty)
    still d empty (inr all) = inr all.1

    here : (d : ℕ) → d ≡ c.db → (t : Bool) → room.is_new ≡ t → (due_with c.db room.images.items due d ≡ []) ⊎ AreOccupied cells d changes
    here d is true new = inr (all_weaker _ _ (λ e h at. other e (h (sym is ∙ at))) changes few.0)
      where
        other : (e : TreeChange) → IsSome (value_at c.name (cells c.db)) ⊎ IsSome (value_at e.name (cells e.db)) → IsSome (value_at e.name (cells e.db))
        other e (inl some) = absurd (free new some)
        other e (inr some) = some
    here d is false idle = still d (none_of (idle_takes fanout _ c.db c.name room fitted.1.tree fitted.1.next fitted.1.slot idle).0) (none d)
      where
        by_test : (t : Bool) (l : List NodeImage) → l ≡ [] → cond t l [] ≡ []
        by_test true l h = h
        by_test false l h = refl

        none_of : room.images.items ≡ [] → due_one c.db room.images.items d ≡ []
        none_of h = by_test (c.db == d) room.images.items h

    left : (d : ℕ) → (due_with c.db room.images.items due d ≡ []) ⊎ AreOccupied cells d changes
    left d = by_number (level_cases d c.db)
      where
        by_number : (d ≡ c.db) ⊎ (d ≡ c.db → ⊥) → (due_with c.db room.images.items due d ≡ []) ⊎ AreOccupied cells d changes
        by_number (inl is) = here d is room.is_new refl
        by_number (inr away) = still d (due_there c.db room.images.items d away) (none d)

-- ---- new databases

-- nothing is due of a database without a tree
none_of_new : (fanout last : ℕ) (changes : List TreeChange) (rooms : List SlotRoom) (old new : Forest) (d : ℕ) → AreFitted fanout last changes rooms old new → get nat_cmp old d ≡ None → due_of changes rooms d ≡ []
none_of_new fanout last [] rooms old new d fitted none = refl
none_of_new fanout last (c ∷ changes) [] old new d fitted none = refl
none_of_new fanout last (c ∷ changes) (room ∷ rooms) old new d fitted none =
    ap₂ (λ (a b : List NodeImage). a ++ b) (due_there c.db room.images.items d away)
    (none_of_new fanout (last + (made_by room + one_made c.makes)) changes rooms fitted.0 new d fitted.2 (others_away old fitted.0 c.db (Some fitted.1.next) fitted.1.has d away ∙ none))
  where
    away : d ≡ c.db → ⊥
    away is = absurd (none-some fitted.1.tree (sym none ∙ ap (λ (e : ℕ). get nat_cmp old e) is ∙ fitted.1.was))

-- the root of a database that changes make has a number of its place
record IsMadeAt (home : ℕ → Home) (later d : ℕ) (tree : DbTree) : Type 0 where
  number : ℕ
  is_new : IsNewTree number tree
  own : IsNumber home later d number 0 least

made_at : (home : ℕ → Home) (last later : ℕ) (changes : List TreeChange) (rooms : List SlotRoom) (d : ℕ) (tree : DbTree) → HaveRootHomes home last changes rooms → later ≡ last + numbers_of changes rooms → later ≤ 0x7fffffffffffffff →
    IsMadeBy last changes rooms d tree → IsMadeAt home later d tree
made_at home last later [] rooms d tree homes is bound made = absurd made
made_at home last later (c ∷ changes) [] d tree homes is bound made = absurd made
made_at home last later (c ∷ changes) (room ∷ rooms) d tree homes is bound (inl h) =
    let makes : one_made c.makes ≡ 1 = ap one_made h.0 in
    let root : HasRootHome home (last + made_by room + 1) (Some d) = subst (λ (o : Option ℕ). HasRootHome home (last + made_by room + 1) o) h.0 homes.0 in
    record {
      number = last + made_by room + 1;
      is_new = subst (λ (n : ℕ). IsNewTree n tree) (omega (arith, is, bound, makes)) h.1;
      own = (omega (arith, is, makes), root);
    }
made_at home last later (c ∷ changes) (room ∷ rooms) d tree homes is bound (inr h) =
    made_at home (last + (made_by room + one_made c.makes)) later changes rooms d tree homes.1 (omega (arith, is)) bound h

made_none : (last : ℕ) (changes : List TreeChange) (rooms : List SlotRoom) (old : Forest) (d : ℕ) (tree : DbTree) → AllByRecursion (λ c. IfSome c.makes (λ b. is_there old b ≡ false)) changes → IsMadeBy last changes rooms d tree →
    get nat_cmp old d ≡ None
made_none last [] rooms old d tree all made = absurd made
made_none last (c ∷ changes) [] old d tree all made = absurd made
made_none last (c ∷ changes) (room ∷ rooms) old d tree all (inl h) = none_of (get nat_cmp old d) (subst (λ (o : Option ℕ). IfSome o (λ b. is_there old b ≡ false)) h.0 all.0)
  where
    none_of : (o : Option DbTree) → is_some o ≡ false → o ≡ None
    none_of None is = refl
    none_of (Some t) is = absurd (true≢false is)
made_none last (c ∷ changes) (room ∷ rooms) old d tree all (inr h) = made_none (last + (made_by room + one_made c.makes)) changes rooms old d tree all.1 h

-- ---- all changes

pub ready_fits : (es : List Placed) (base fanout last later : ℕ) (changes : List TreeChange) (rooms : List SlotRoom) (old mid new : Forest) → AreFitted fanout last changes rooms old mid → AreMadeBy last changes rooms mid new →
    AllByRecursion (λ c. IfSome c.makes (λ b. is_there old b ≡ false)) changes → later ≡ min (last + numbers_of changes rooms) 0xffffffffffffffff → later ≤ 0x7fffffffffffffff → AreFewNew (cells_seen old) changes →
    ForestFits es base last (trees_at old) → ForestDue es base later (trees_at new) (due_of changes rooms)
ready_fits es base fanout last later changes rooms old mid new fitted made makes later_is bound few f = record {
  home = grown.grown.forest.home;
  fits = λ d tree there. fits_by d tree (made d tree there);
  writes = λ d tree there. writes_by d tree (made d tree there);
  notes = λ d tree there. notes_by d tree (made d tree there);
}
  where
    sum : later ≡ last + numbers_of changes rooms
    sum = omega (arith, later_is, bound)

    grown : AreGrownTo es base last later f.home changes rooms (trees_at mid) (due_of changes rooms)
    grown = all_grow es base fanout last later changes rooms old mid none_due f fitted (few_rooms fanout last changes rooms old mid (cells_seen old) none_due (λ d. refl) fitted few (λ d. inl refl)) sum bound

    fits_by : (d : ℕ) (tree : DbTree) → (get nat_cmp mid d ≡ Some tree) ⊎ IsMadeBy last changes rooms d tree → FitsDue es base grown.grown.forest.home later d tree (due_of changes rooms d)
    fits_by d tree (inl there) = grown.grown.forest.fits d tree there
    fits_by d tree (inr new_tree) =
        let at = made_at grown.grown.forest.home last later changes rooms d tree grown.roots sum bound new_tree in
        subst (λ (l : List NodeImage). FitsDue es base grown.grown.forest.home later d tree l) (sym (none_of_new fanout last changes rooms old mid d fitted (made_none last changes rooms old d tree makes new_tree)))
        (new_fits es base grown.grown.forest.home later d at.number tree at.is_new at.own)

    writes_by : (d : ℕ) (tree : DbTree) → (get nat_cmp mid d ≡ Some tree) ⊎ IsMadeBy last changes rooms d tree → AreLogged es base d tree.cells
    writes_by d tree (inl there) = grown.grown.forest.writes d tree there
    writes_by d tree (inr new_tree) =
        let at = made_at grown.grown.forest.home last later changes rooms d tree grown.roots sum bound new_tree in new_logged es base d at.number tree at.is_new

    notes_by : (d : ℕ) (tree : DbTree) → (get nat_cmp mid d ≡ Some tree) ⊎ IsMadeBy last changes rooms d tree → HasNotes es base (due_of changes rooms d) tree.levels
    notes_by d tree (inl there) = grown.grown.forest.notes d tree there
    notes_by d tree (inr new_tree) = λ start begun.
        let at = made_at grown.grown.forest.home last later changes rooms d tree grown.roots sum bound new_tree in
        notes_one_node (may_stay es base start (map node_of (due_of changes rooms d)) tree.levels) tree.levels at.number at.is_new.root
