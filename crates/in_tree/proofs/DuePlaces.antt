-- Names of changes got their slots, change by change: the trees fit their log but for the images of these slots.
use Rattle.std.proofs.Common.{◌≡◌, ◌≤◌, ◌+◌, ◌==◌, ◌⊎◌, ◌++◌, ℕ, Bool, true, false, cond, List, [], ◌∷◌, Option, None, Some, IsSome, is_some, map, length, refl, ap, ap₂, sym, subst, ◌∙◌, inl, inr, arith}
use mathlib.Core.Path.{fun_ext}
use Rattle.std.specs.Prelude.{IfSome}
use Rattle.std.proofs.lemmas.Bool.{true≢false}
use Rattle.std.proofs.lemmas.List.{append_assoc, append-nil}
use Rattle.std.proofs.Math.Nat.{le_refl}
use Rattle.je_order.specs.declared.name.Name.{Name}
use Rattle.log_trees.specs.Placed.{Placed}
use Rattle.log_trees.specs.Sound.{Home, at_home}
use Rattle.record_map.specs.Cells.{value_at}
use Rattle.record_tree.specs.declared.tree_change.TreeChange.{TreeChange}
use Rattle.tree_nodes.specs.Nodes.{least}
use Rattle.tree_nodes.specs.Lows.{lows_of}
use Rattle.db_tree.specs.declared.node_image.NodeImage.{NodeImage}
use Rattle.db_tree.specs.declared.slot_room.SlotRoom.{SlotRoom}
use Rattle.db_tree.specs.declared.tree.DbTree.{DbTree}
use Rattle.db_tree.specs.NodeImages.{node_of}
use Rattle.db_tree.specs.Shapes.{made_by, shape_in}
use Rattle.db_tree.specs.Splits.{has_slot, logged_by, made_for, splits_of}
use Rattle.db_tree.proofs.SplitLaws.{level_cases}
use Rattle.tree_images.specs.Forest.{AreLogged, FitsDue, ForestDue}
use Rattle.tree_images.specs.Laws.{AgreesUpTo}
use Rattle.tree_images.specs.Notes.{HasNotes}
use Rattle.tree_images.specs.PlaceLaws.{home_with}
use Rattle.tree_images.specs.TreeSteps.{HasSlot}
use Rattle.tree_images.proofs.ForestPlaces.{placed_fits, placed_logged, placed_notes}
use Rattle.tree_images.proofs.ForestSteps.{FitsWith, fits_here, forest_here}
use Rattle.tree_images.proofs.Grown.{homes_agree, root_home}
use Rattle.in_tree.specs.Forest.{Forest}
use Rattle.in_tree.specs.Growing.{trees_at}
use Rattle.in_tree.specs.Limits.{one_made}
use Rattle.in_tree.specs.Placing.{IsFittedIn, first_behind, AreFitted, due_one, due_of, numbers_of}
use Rattle.in_tree.proofs.DueLogging.{is_next, due_here, due_there}
use Rattle.in_tree.proofs.Forests.{others_away, replaced}

-- ---- one change

-- a name that had a cell takes nothing
pub idle_takes : (fanout first d : ℕ) (x : Name) (room : SlotRoom) (old new : DbTree) → HasSlot fanout first d x room old new → room.is_new ≡ false → (room.images.items ≡ []) × (made_by room ≡ 0)
idle_takes fanout first d x room old new h idle = (
  none_of room.images.items (h.images.nodes ∙ ap (λ (t : Bool). cond t [] (logged_by (splits_of fanout x (shape_in old)) (shape_in old))) had),
  h.placed.made ∙ ap (λ (t : Bool). cond t 0 (made_for (splits_of fanout x (shape_in old)) (lows_of old.levels))) had,
)
  where
    had : has_slot x (shape_in old) ≡ true
    had = subst (λ (t : DbTree). is_some (value_at x t.cells) ≡ true) (h.idle idle) h.placed.there

    none_of : (images : List NodeImage) → map node_of images ≡ [] → images ≡ []
    none_of [] none = refl
    none_of (image ∷ images) none = absurd (omega (arith, ap length none))

-- the trees as one grows, with homes that agree with those before
pub record IsGrownTo (es : List Placed) (base last later : ℕ) (home : ℕ → Home) (trees : ℕ → Option DbTree) (due : ℕ → List NodeImage) : Type 0 where
  pub forest : ForestDue es base later trees due
  pub agrees : AgreesUpTo last home forest.home

-- all trees are as they were
same_grows : (es : List Placed) (base last later : ℕ) (old new : ℕ → Option DbTree) (due : ℕ → List NodeImage) (f : ForestDue es base last old due) (home : ℕ → Home) → AgreesUpTo last f.home home → last ≤ later →
    ((d : ℕ) → new d ≡ old d) → IsGrownTo es base last later f.home new due
same_grows es base last later old new due f home agrees le same = record {
  forest = record {
    home = home;
    fits = λ d tree there. fits_here es base f.home home last later d tree (due d) agrees le (f.fits d tree (sym (same d) ∙ there));
    writes = λ d tree there. f.writes d tree (sym (same d) ∙ there);
    notes = λ d tree there. f.notes d tree (sym (same d) ∙ there);
  };
  agrees = agrees;
}

-- what is due once a name has its slot
abbrev pub due_with : ℕ → List NodeImage → (ℕ → List NodeImage) → ℕ → List NodeImage
due_with db images due d = due d ++ due_one db images d

with_none : (db : ℕ) (images : List NodeImage) (due : ℕ → List NodeImage) (d : ℕ) → images ≡ [] → due_with db images due d ≡ due d
with_none db images due d none = ap (λ (l : List NodeImage). due d ++ l) (by_test (db == d) ∙ refl) ∙ append-nil (due d)
  where
    by_test : (t : Bool) → cond t images [] ≡ []
    by_test true = none
    by_test false = refl

pub one_grows : (es : List Placed) (base fanout last : ℕ) (db : ℕ) (x : Name) (room : SlotRoom) (old mid : Forest) (due : ℕ → List NodeImage) (f : ForestDue es base last (trees_at old) due) →
    IsFittedIn fanout (first_behind last) db x room old mid → (due db ≡ []) ⊎ (room.is_new ≡ false) → last + made_by room ≤ 0x7fffffffffffffff →
    IsGrownTo es base last (last + made_by room) f.home (trees_at mid) (due_with db room.images.items due)
one_grows es base fanout last db x room old mid due f p few bound = by_new room.is_new refl few
  where
    slot : HasSlot fanout (first_behind last) db x room p.tree p.next
    slot = p.slot

    first_is : first_behind last ≡ last + 1
    first_is = omega (arith, bound)

    idle : room.is_new ≡ false → IsGrownTo es base last (last + made_by room) f.home (trees_at mid) (due_with db room.images.items due)
    idle is_idle =
        subst (λ (n : ℕ). IsGrownTo es base last n f.home (trees_at mid) (due_with db room.images.items due)) (let none = takes.1 in omega (arith, none))
        (subst (λ (l : ℕ → List NodeImage). IsGrownTo es base last last f.home (trees_at mid) l) (fun_ext (λ (d : ℕ). sym (with_none db room.images.items due d takes.0))) grown)
      where
        takes : (room.images.items ≡ []) × (made_by room ≡ 0)
        takes = idle_takes fanout (first_behind last) db x room p.tree p.next slot is_idle

        same : (d : ℕ) → trees_at mid d ≡ trees_at old d
        same d = by_number (level_cases d db)
          where
            by_number : (d ≡ db) ⊎ (d ≡ db → ⊥) → trees_at mid d ≡ trees_at old d
            by_number (inl is) =
                subst (λ (e : ℕ). trees_at mid e ≡ trees_at old e) (sym is)
                (replaced old mid db (Some p.next) p.has ∙ ap (λ (t : DbTree). Some t) (slot.idle is_idle) ∙ sym p.was)
            by_number (inr away) = others_away old mid db (Some p.next) p.has d away

        grown : IsGrownTo es base last last f.home (trees_at mid) due
        grown = same_grows es base last last (trees_at old) (trees_at mid) due f f.home (λ number within. refl) (le_refl last) same

    by_new : (is_new : Bool) → room.is_new ≡ is_new → (due db ≡ []) ⊎ (room.is_new ≡ false) → IsGrownTo es base last (last + made_by room) f.home (trees_at mid) (due_with db room.images.items due)
    by_new false is_idle few = idle is_idle
    by_new true is_new (inr is_idle) = idle is_idle
    by_new true is_new (inl none) = record { forest = grown.0; agrees = λ number within. ap (λ (h : ℕ → Home). h number) grown.1 ∙ agrees number within }
      where
        home : ℕ → Home
        home = home_with f.home (first_behind last) db room.splits.items

        agrees : AgreesUpTo last f.home home
        agrees = homes_agree f.home last (first_behind last) db room.splits.items (omega (arith, first_is))

        due_is : room.images.items ≡ due_with db room.images.items due db
        due_is = ap₂ (λ (a b : List NodeImage). a ++ b) (sym none) (sym (due_here db room.images.items))

        grown : FitsWith es base home (last + made_by room) (trees_at mid) (due_with db room.images.items due)
        grown = forest_here es base last (last + made_by room) db (trees_at old) (trees_at mid) due (due_with db room.images.items due) home f agrees (omega arith)
            (λ d away. others_away old mid db (Some p.next) p.has d away)
            (λ d away. ap (λ (l : List NodeImage). due d ++ l) (due_there db room.images.items d away) ∙ append-nil (due d))
            (λ t there. subst (λ (u : DbTree). FitsDue es base home (last + made_by room) db u (due_with db room.images.items due db)) (is_next old mid db p.next t p.has there)
            (subst (λ (l : List NodeImage). FitsDue es base home (last + made_by room) db p.next l) due_is
            (placed_fits es base f.home last db fanout x room (first_behind last) (last + made_by room) p.tree p.next slot (omega (arith, first_is)) (omega (arith, first_is)) (omega (arith, bound))
            (subst (λ (l : List NodeImage). FitsDue es base f.home last db p.tree l) none (f.fits db p.tree p.was)))))
            (λ t there. subst (λ (u : DbTree). AreLogged es base db u.cells) (is_next old mid db p.next t p.has there)
            (placed_logged es base fanout (first_behind last) db x room p.tree p.next slot (f.writes db p.tree p.was)))
            (λ t there. subst (λ (u : DbTree). HasNotes es base (due_with db room.images.items due db) u.levels) (is_next old mid db p.next t p.has there)
            (subst (λ (l : List NodeImage). HasNotes es base l p.next.levels) due_is
            (placed_notes es base f.home last db fanout x room (first_behind last) (last + made_by room) p.tree p.next slot (omega (arith, first_is)) (omega (arith, first_is)) (omega (arith, bound))
            (subst (λ (l : List NodeImage). FitsDue es base f.home last db p.tree l) none (f.fits db p.tree p.was))
            (subst (λ (l : List NodeImage). HasNotes es base l p.tree.levels) none (f.notes db p.tree p.was)))))

-- ---- the root of a new database

-- the root of the database that a change makes has its place
abbrev pub HasRootHome : (ℕ → Home) → ℕ → Option ℕ → Type 0
HasRootHome home number makes = IfSome makes (λ d. at_home home d number 0 least)

pub record IsRooted (es : List Placed) (base last : ℕ) (home : ℕ → Home) (makes : Option ℕ) (trees : ℕ → Option DbTree) (due : ℕ → List NodeImage) : Type 0 where
  pub grown : IsGrownTo es base last (last + one_made makes) home trees due
  pub root : HasRootHome grown.forest.home (last + 1) makes

pub rooted : (es : List Placed) (base last : ℕ) (makes : Option ℕ) (trees : ℕ → Option DbTree) (due : ℕ → List NodeImage) (f : ForestDue es base last trees due) → IsRooted es base last f.home makes trees due
rooted es base last None trees due f = record { grown = same_grows es base last (last + 0) trees trees due f f.home (λ number within. refl) (omega arith) (λ d. refl); root = tt }
rooted es base last (Some d) trees due f = record {
  grown = record {
    forest = record {
      home = home_with f.home (last + 1) d [];
      fits = λ b tree there. fits_here es base f.home (home_with f.home (last + 1) d []) last (last + 1) b tree (due b) (homes_agree f.home last (last + 1) d [] (omega arith)) (omega arith) (f.fits b tree there);
      writes = f.writes;
      notes = f.notes;
    };
    agrees = homes_agree f.home last (last + 1) d [] (omega arith);
  };
  root = (root_home f.home (last + 1) d).1;
}

-- ---- several changes

-- so have the roots of the databases that changes make
abbrev pub HaveRootHomes : (ℕ → Home) → ℕ → List TreeChange → List SlotRoom → Type 0
HaveRootHomes home last [] rooms = Unit {0}
HaveRootHomes home last (c ∷ changes) [] = Unit {0}
HaveRootHomes home last (c ∷ changes) (room ∷ rooms) =
    HasRootHome home (last + made_by room + 1) c.makes × HaveRootHomes home (last + (made_by room + one_made c.makes)) changes rooms

-- where images are due of a database no name of it gets a new slot
abbrev pub AreFewRooms : (ℕ → List NodeImage) → List TreeChange → List SlotRoom → Type 0
AreFewRooms due [] rooms = Unit {0}
AreFewRooms due (c ∷ changes) [] = Unit {0}
AreFewRooms due (c ∷ changes) (room ∷ rooms) = ((due c.db ≡ []) ⊎ (room.is_new ≡ false)) × AreFewRooms (due_with c.db room.images.items due) changes rooms

pub record AreGrownTo (es : List Placed) (base last later : ℕ) (home : ℕ → Home) (changes : List TreeChange) (rooms : List SlotRoom) (trees : ℕ → Option DbTree) (due : ℕ → List NodeImage) : Type 0 where
  pub grown : IsGrownTo es base last later home trees due
  pub roots : HaveRootHomes grown.forest.home last changes rooms

root_stays : (home other : ℕ → Home) (last number : ℕ) (makes : Option ℕ) → AgreesUpTo last home other → (IsSome makes → number ≤ last) → HasRootHome home number makes → HasRootHome other number makes
root_stays home other last number None agrees within h = tt
root_stays home other last number (Some d) agrees within h = agrees number (within refl) ∙ h

-- a change, and then the others
join_grown : (es : List Placed) (base last later : ℕ) (home : ℕ → Home) (c : TreeChange) (changes : List TreeChange) (room : SlotRoom) (rooms : List SlotRoom) (mid new : ℕ → Option DbTree) (due : ℕ → List NodeImage) →
    (first : IsGrownTo es base last (last + made_by room) home mid (due_with c.db room.images.items due)) →
    (second : IsRooted es base (last + made_by room) first.forest.home c.makes mid (due_with c.db room.images.items due)) →
    AreGrownTo es base (last + (made_by room + one_made c.makes)) later second.grown.forest.home changes rooms new (λ d. due_with c.db room.images.items due d ++ due_of changes rooms d) →
    AreGrownTo es base last later home (c ∷ changes) (room ∷ rooms) new (λ d. due d ++ due_of (c ∷ changes) (room ∷ rooms) d)
join_grown es base last later home c changes room rooms mid new due first second rest =
    subst (λ (l : ℕ → List NodeImage). AreGrownTo es base last later home (c ∷ changes) (room ∷ rooms) new l)
    (fun_ext (λ (d : ℕ). append_assoc (due d) (due_one c.db room.images.items d) (due_of changes rooms d)))
    (record {
      grown = record {
        forest = rest.grown.forest;
        agrees = λ number within.
            rest.grown.agrees number (omega (arith, within)) ∙ second.grown.agrees number (omega (arith, within)) ∙ first.agrees number within;
      };
      roots = (root_stays second.grown.forest.home rest.grown.forest.home (last + (made_by room + one_made c.makes)) (last + made_by room + 1) c.makes rest.grown.agrees (in_range c.makes) second.root, rest.roots);
    })
  where
    in_range : (makes : Option ℕ) → IsSome makes → last + made_by room + 1 ≤ last + (made_by room + one_made makes)
    in_range None some = absurd (true≢false (sym some))
    in_range (Some d) some = omega arith

pub all_grow : (es : List Placed) (base fanout last later : ℕ) (changes : List TreeChange) (rooms : List SlotRoom) (old new : Forest) (due : ℕ → List NodeImage) (f : ForestDue es base last (trees_at old) due) →
    AreFitted fanout last changes rooms old new → AreFewRooms due changes rooms → later ≡ last + numbers_of changes rooms → later ≤ 0x7fffffffffffffff →
    AreGrownTo es base last later f.home changes rooms (trees_at new) (λ d. due d ++ due_of changes rooms d)
all_grow es base fanout last later [] [] old new due f same few is bound = record {
  grown = subst (λ (l : ℕ → List NodeImage). IsGrownTo es base last later f.home (trees_at new) l) (fun_ext (λ (d : ℕ). sym (append-nil (due d))))
      (same_grows es base last later (trees_at old) (trees_at new) due f f.home (λ number within. refl) (omega (arith, is)) same);
  roots = tt;
}
all_grow es base fanout last later [] (room ∷ rooms) old new due f fitted few is bound = absurd fitted
all_grow es base fanout last later (c ∷ changes) [] old new due f fitted few is bound = absurd fitted
all_grow es base fanout last later (c ∷ changes) (room ∷ rooms) old new due f fitted few is bound =
    let first = one_grows es base fanout last c.db c.name room old fitted.0 due f fitted.1 few.0 (omega (arith, is, bound)) in
    let second = rooted es base (last + made_by room) c.makes (trees_at fitted.0) (due_with c.db room.images.items due) first.forest in
    join_grown es base last later f.home c changes room rooms (trees_at fitted.0) (trees_at new) due first second
    (subst (λ (n : ℕ). AreGrownTo es base n later second.grown.forest.home changes rooms (trees_at new) (λ d. due_with c.db room.images.items due d ++ due_of changes rooms d)) (omega arith)
    (all_grow es base fanout (last + made_by room + one_made c.makes) later changes rooms fitted.0 new (due_with c.db room.images.items due) second.grown.forest
    (subst (λ (n : ℕ). AreFitted fanout n changes rooms fitted.0 new) (omega arith) fitted.2) few.1 (omega (arith, is)) bound))
