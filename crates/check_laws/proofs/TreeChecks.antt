-- Checks that follow readings, put together.
use Rattle.std.proofs.Common.{◌≡◌, ℕ, zero, suc, List, [], ◌∷◌, Bool, true, false, Option, None, Result, Ok, Err, nat_lt, refl, ap, ◌∙◌}
use Rattle.je_order.specs.declared.name.Name.{Name}
use Rattle.log_entry.specs.declared.root.Root.{Root}
use Rattle.log_replay.specs.declared.corruption.Corruption.{Corruption}
use Rattle.log_trees.specs.Placed.{Placed}
use Rattle.log_trees.specs.Images.{NamedLsn, slots_shown}
use Rattle.log_trees.specs.Bounds.{Child, children, least_name, slots_inside}
use Rattle.log_trees.specs.Walk.{Walk, and_then, each, met, read_child, read_here, read_image, read_level, read_node, read_record, read_root}
use Rattle.check_laws.specs.Noting.{as_noted, BeginsAs, or_noted, each_on, walk_unless_found, unless_found}
use Rattle.check_laws.specs.Trees.{NotedTrees, RootsAreChecked, check_child, check_level, check_node, check_record, check_root, with_walk}

-- a check behind another one: by what the first found
behind_by : (read : Walk → Result Walk Corruption) (check : NotedTrees → NotedTrees) → BeginsAs read check → (w : Walk) (found : List Corruption) →
    walk_unless_found (check (as_noted w found)) ≡ and_then (unless_found w found) read
behind_by read check f w [] = f.first w
behind_by read check f w (c ∷ found) = f.stays w c found

then_first : (read : Walk → Result Walk Corruption) (check : NotedTrees → NotedTrees) → BeginsAs read check → (s : NotedTrees) (r : Result Walk Corruption) → walk_unless_found s ≡ r →
    walk_unless_found (check s) ≡ and_then r read
then_first read check f s r e = behind_by read check f s.walk s.found ∙ ap (λ x. and_then x read) e

pub begins_each : {A : Type 0} (read : A → Walk → Result Walk Corruption) (check : A → NotedTrees → NotedTrees) → ((x : A) → BeginsAs (read x) (check x)) → (xs : List A) → BeginsAs (each read xs) (each_on check xs)
begins_each read check f [] = record { first = λ w. refl; stays = λ w c found. refl }
begins_each read check f (x ∷ xs) =
    let rest = begins_each read check f xs in
    record {
      first = λ w. then_first (each read xs) (each_on check xs) rest (check x (as_noted w [])) (read x w) ((f x).first w);
      stays = λ w c found. then_first (each read xs) (each_on check xs) rest (check x (as_noted w (c ∷ found))) (Err c) ((f x).stays w c found);
    }

-- a step that is read or noted, and what follows
or_first : {A : Type 0} (r : Result A Corruption) (w : Walk) (read : A → Walk → Result Walk Corruption) (check : A → NotedTrees → NotedTrees) → ((x : A) → BeginsAs (read x) (check x)) →
    walk_unless_found (or_noted r (as_noted w []) check) ≡ and_then r (λ x. read x w)
or_first (Ok x) w read check f = (f x).first w
or_first (Err c) w read check f = refl

or_stays : {A : Type 0} (r : Result A Corruption) (w : Walk) (c : Corruption) (found : List Corruption) (read : A → Walk → Result Walk Corruption) (check : A → NotedTrees → NotedTrees) → ((x : A) → BeginsAs (read x) (check x)) →
    walk_unless_found (or_noted r (as_noted w (c ∷ found)) check) ≡ Err c
or_stays (Ok x) w c found read check f = (f x).stays w c found
or_stays (Err d) w c found read check f = refl

pub begins_or : {A : Type 0} (r : Walk → Result A Corruption) (read : A → Walk → Result Walk Corruption) (check : A → NotedTrees → NotedTrees) → ((x : A) → BeginsAs (read x) (check x)) →
    BeginsAs (λ w. and_then (r w) (λ x. read x w)) (λ s. or_noted (r s.walk) s check)
begins_or r read check f = record { first = λ w. or_first (r w) w read check f; stays = λ w c found. or_stays (r w) w c found read check f }

-- a change of the walk, and what follows
pub begins_with : (g : Walk → Walk) (read : Walk → Result Walk Corruption) (check : NotedTrees → NotedTrees) → BeginsAs read check → BeginsAs (λ w. read (g w)) (λ s. check (with_walk g s))
begins_with g read check f = record { first = λ w. f.first (g w); stays = λ w c found. f.stays (g w) c found }

record_first : (r : Result Walk Corruption) (w : Walk) → walk_unless_found (or_noted r (as_noted w []) (λ walk s. as_noted walk s.found)) ≡ r
record_first (Ok x) w = refl
record_first (Err c) w = refl

record_stays : (r : Result Walk Corruption) (w : Walk) (c : Corruption) (found : List Corruption) → walk_unless_found (or_noted r (as_noted w (c ∷ found)) (λ walk s. as_noted walk s.found)) ≡ Err c
record_stays (Ok x) w c found = refl
record_stays (Err d) w c found = refl

begins_record : (files : List ℕ) (es : List Placed) (d at : ℕ) (slot : NamedLsn) → BeginsAs (read_record files es d at slot) (check_record files es d at slot)
begins_record files es d at slot =
    record { first = λ w. record_first (read_record files es d at slot w) w; stays = λ w c found. record_stays (read_record files es d at slot w) w c found }

child_by : (files : List ℕ) (read : Name → Option Name → ℕ → Walk → Result Walk Corruption) (check : Name → Option Name → ℕ → NotedTrees → NotedTrees) →
    ((low : Name) (high : Option Name) (x : ℕ) → BeginsAs (read low high x) (check low high x)) → (at : ℕ) (child : Child) (b : Bool) → nat_lt child.at at ≡ b →
    BeginsAs (read_child files read at child) (check_child files check at child)
child_by files read check f at child true e =
    record { first = λ w. rw e ((f child.low child.high child.at).first w); stays = λ w c found. rw e ((f child.low child.high child.at).stays w c found) }
child_by files read check f at child false e = record { first = λ w. rw e refl; stays = λ w c found. rw e refl }

begins_node : (files : List ℕ) (es : List Placed) (d above : ℕ) (low : Name) (high : Option Name) (at : ℕ) → BeginsAs (read_node files es d above low high at) (check_node files es d above low high at)
begins_node files es d zero low high at =
    begins_or (λ w. read_here files es d 1 at w.seen) (λ n w. each (read_record files es d at) (slots_inside low high (slots_shown n)) (met n w)) (λ n s. each_on (check_record files es d at) (slots_inside low high (slots_shown n)) (with_walk (met n) s))
    (λ n. begins_with (met n) (each (read_record files es d at) (slots_inside low high (slots_shown n))) (each_on (check_record files es d at) (slots_inside low high (slots_shown n)))
    (begins_each (read_record files es d at) (check_record files es d at) (begins_record files es d at) (slots_inside low high (slots_shown n))))
begins_node files es d (suc above) low high at =
    begins_or (λ w. read_here files es d (suc (suc above)) at w.seen) (λ n w. each (read_child files (read_node files es d above) at) (children low high (slots_shown n)) (met n w))
    (λ n s. each_on (check_child files (check_node files es d above) at) (children low high (slots_shown n)) (with_walk (met n) s))
    (λ n. begins_with (met n) (each (read_child files (read_node files es d above) at) (children low high (slots_shown n))) (each_on (check_child files (check_node files es d above) at) (children low high (slots_shown n)))
    (begins_each (read_child files (read_node files es d above) at) (check_child files (check_node files es d above) at)
    (λ child. child_by files (read_node files es d above) (check_node files es d above) (begins_node files es d above) at child (nat_lt child.at at) refl) (children low high (slots_shown n))))

begins_level : (files : List ℕ) (es : List Placed) (d level at : ℕ) → BeginsAs (read_level files es d level at) (check_level files es d level at)
begins_level files es d zero at = record { first = λ w. refl; stays = λ w c found. refl }
begins_level files es d (suc above) at = begins_node files es d above least_name None at

root_by : (files : List ℕ) (es : List Placed) (end : ℕ) (root : Root) (b : Bool) → nat_lt root.image end ≡ b → BeginsAs (read_root files es end root) (check_root files es end root)
root_by files es end root true e =
    let f = begins_or (λ w. read_image files es root.db root.image) (λ n w. read_level files es root.db n.level root.image w) (λ n s. check_level files es root.db n.level root.image s)
    (λ n. begins_level files es root.db n.level root.image) in
    record { first = λ w. rw e (f.first w); stays = λ w c found. rw e (f.stays w c found) }
root_by files es end root false e = record { first = λ w. rw e refl; stays = λ w c found. rw e refl }

pub roots_are_checked : RootsAreChecked
roots_are_checked files es end roots =
    (begins_each (read_root files es end) (check_root files es end) (λ root. root_by files es end root (nat_lt root.image end) refl) roots).first (record { seen = []; rows = [] })
