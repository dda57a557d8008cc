-- Trees are read alike in a longer log, since what is read stands at lower LSNs alone.
use Rattle.std.proofs.Common.{◌≡◌, ℕ, zero, suc, ◌<◌, ◌≤◌, ◌==◌, nat_lt, Bool, true, false, cond, List, [], ◌∷◌, ◌++◌, Option, None, Some, Result, Ok, Err, refl, ap, ◌∙◌, arith}
use Rattle.std.proofs.lemmas.Bool.{ltb-true}
use Rattle.std.specs.List.{AllByRecursion}
use Rattle.je_order.specs.declared.name.Name.{Name}
use Rattle.log_entry.specs.declared.entry.Entry.{Entry}
use Rattle.log_entry.specs.declared.entry.Entry.TheVariants.{BinDelta}
use Rattle.log_entry.specs.declared.root.Root.{Root}
use Rattle.node_core.specs.declared.node.Node.{Node}
use Rattle.log_replay.specs.declared.corruption.Corruption.{Corruption}
use Rattle.log_replay.specs.declared.corruption.Corruption.TheVariants.{Tree}
use Rattle.je_order.proofs.Lists.{all_weaker}
use Rattle.log_trees.specs.Placed.{Placed, entry_at}
use Rattle.log_trees.specs.Images.{NamedLsn, slots_shown}
use Rattle.log_trees.specs.Bounds.{least_name, slots_inside, Child, children}
use Rattle.log_trees.specs.Walk.{and_then, each, Walk, nowhere, delta_on, image_in, image_by, read_image, node_standing, read_here, met, record_by, read_record, read_child, read_node, read_level, read_root}
use Rattle.log_trees.specs.Laws.{AreBehind, ReadingsStay}
use Rattle.log_trees.proofs.Staying.{entry-stays, lower_behind}

-- ---- readings, one after another

-- readings that go on alike
then_same : {A B : Type 0} (r : Result A Corruption) (f g : A → Result B Corruption) → ((x : A) → f x ≡ g x) → and_then r f ≡ and_then r g
then_same (Ok x) f g same = same x
then_same (Err corruption) f g same = refl

each_same : {A B : Type 0} (f g : A → B → Result B Corruption) (xs : List A) (b : B) → ((x : A) (y : B) → f x y ≡ g x y) → each f xs b ≡ each g xs b
each_same f g [] b same = refl
each_same {A} {B} f g (x ∷ xs) b same =
    ap (λ (r : Result B Corruption). and_then r (each f xs)) (same x b) ∙ then_same (g x b) (each f xs) (each g xs) (λ y. each_same f g xs y same)

-- ---- one image

image_in-stays : (files : List ℕ) (es more : List Placed) (d at : ℕ) (entry : Entry) → AreBehind at more → image_in files (es ++ more) d at entry ≡ image_in files es d at entry
image_in-stays files es more d at (BinDelta db number full slots) behind = by_test (nat_lt full at) refl
  where
    by_test : (b : Bool) → nat_lt full at ≡ b →
        cond (db == d) (cond b (delta_on files at db number full (BinDelta db number full slots) (entry_at (es ++ more) full)) (Err (nowhere files full))) (Err (Tree at))
        ≡ cond (db == d) (cond b (delta_on files at db number full (BinDelta db number full slots) (entry_at es full)) (Err (nowhere files full))) (Err (Tree at))
    by_test true is =
        ap (λ (o : Option Entry). cond (db == d) (delta_on files at db number full (BinDelta db number full slots) o) (Err (Tree at)))
        (entry-stays es more full (lower_behind more full at behind (ltb-true full at is)))
    by_test false is = refl
image_in-stays files es more d at entry behind = refl

read_image-stays : (files : List ℕ) (es more : List Placed) (d at : ℕ) → AreBehind at more → read_image files (es ++ more) d at ≡ read_image files es d at
read_image-stays files es more d at behind = ap (image_by files (es ++ more) d at) (entry-stays es more at behind) ∙ by_entry (entry_at es at)
  where
    by_entry : (o : Option Entry) → image_by files (es ++ more) d at o ≡ image_by files es d at o
    by_entry None = refl
    by_entry (Some entry) = image_in-stays files es more d at entry behind

-- ---- one tree

read_here-stays : (files : List ℕ) (es more : List Placed) (d level at : ℕ) (seen : List ℕ) → AreBehind at more →
    read_here files (es ++ more) d level at seen ≡ read_here files es d level at seen
read_here-stays files es more d level at seen behind =
    ap (λ (r : Result Node Corruption). and_then r (node_standing level at seen)) (read_image-stays files es more d at behind)

record-stays : (files : List ℕ) (es more : List Placed) (d at : ℕ) (s : NamedLsn) (walk : Walk) → AreBehind at more → read_record files (es ++ more) d at s walk ≡ read_record files es d at s walk
record-stays files es more d at s walk behind = by_test (nat_lt s.1 at) refl
  where
    by_test : (b : Bool) → nat_lt s.1 at ≡ b →
        cond b (record_by files d s walk (entry_at (es ++ more) s.1)) (Err (nowhere files s.1)) ≡ cond b (record_by files d s walk (entry_at es s.1)) (Err (nowhere files s.1))
    by_test true is = ap (record_by files d s walk) (entry-stays es more s.1 (lower_behind more s.1 at behind (ltb-true s.1 at is)))
    by_test false is = refl

child-stays : (files : List ℕ) (more : List Placed) (f g : Name → Option Name → ℕ → Walk → Result Walk Corruption) (at : ℕ) (child : Child) (walk : Walk) → AreBehind at more →
    ((low : Name) (high : Option Name) (lower : ℕ) (w : Walk) → AreBehind lower more → f low high lower w ≡ g low high lower w) → read_child files f at child walk ≡ read_child files g at child walk
child-stays files more f g at child walk behind same = by_test (nat_lt child.at at) refl
  where
    by_test : (b : Bool) → nat_lt child.at at ≡ b →
        cond b (f child.low child.high child.at walk) (Err (nowhere files child.at)) ≡ cond b (g child.low child.high child.at walk) (Err (nowhere files child.at))
    by_test true is = same child.low child.high child.at walk (lower_behind more child.at at behind (ltb-true child.at at is))
    by_test false is = refl

node-stays : (files : List ℕ) (es more : List Placed) (d above : ℕ) (low : Name) (high : Option Name) (at : ℕ) (walk : Walk) → AreBehind at more →
    read_node files (es ++ more) d above low high at walk ≡ read_node files es d above low high at walk
node-stays files es more d zero low high at walk behind =
    ap (λ (r : Result Node Corruption). and_then r (λ n. each (read_record files (es ++ more) d at) (slots_inside low high (slots_shown n)) (met n walk))) (read_here-stays files es more d 1 at walk.seen behind)
    ∙ then_same (read_here files es d 1 at walk.seen) (λ n. each (read_record files (es ++ more) d at) (slots_inside low high (slots_shown n)) (met n walk)) (λ n. each (read_record files es d at) (slots_inside low high (slots_shown n)) (met n walk))
    (λ n. each_same (read_record files (es ++ more) d at) (read_record files es d at) (slots_inside low high (slots_shown n)) (met n walk) (λ s w. record-stays files es more d at s w behind))
node-stays files es more d (suc above) low high at walk behind =
    ap (λ (r : Result Node Corruption). and_then r (λ n. each (read_child files (read_node files (es ++ more) d above) at) (children low high (slots_shown n)) (met n walk)))
    (read_here-stays files es more d (suc (suc above)) at walk.seen behind)
    ∙ then_same (read_here files es d (suc (suc above)) at walk.seen)
    (λ n. each (read_child files (read_node files (es ++ more) d above) at) (children low high (slots_shown n)) (met n walk))
    (λ n. each (read_child files (read_node files es d above) at) (children low high (slots_shown n)) (met n walk))
    (λ n. each_same (read_child files (read_node files (es ++ more) d above) at) (read_child files (read_node files es d above) at) (children low high (slots_shown n)) (met n walk)
    (λ c w. child-stays files more (read_node files (es ++ more) d above) (read_node files es d above) at c w behind
    (λ lower_name upper lower v rest. node-stays files es more d above lower_name upper lower v rest)))

-- ---- roots

level-stays : (files : List ℕ) (es more : List Placed) (d level at : ℕ) (walk : Walk) → AreBehind at more → read_level files (es ++ more) d level at walk ≡ read_level files es d level at walk
level-stays files es more d zero at walk behind = refl
level-stays files es more d (suc above) at walk behind = node-stays files es more d above least_name None at walk behind

root-stays : (files : List ℕ) (es more : List Placed) (end : ℕ) (root : Root) (walk : Walk) → AllByRecursion (λ p. end ≤ p.0) more → read_root files (es ++ more) end root walk ≡ read_root files es end root walk
root-stays files es more end root walk behind = by_test (nat_lt root.image end) refl
  where
    by_test : (b : Bool) → nat_lt root.image end ≡ b →
        cond b (and_then (read_image files (es ++ more) root.db root.image) (λ n. read_level files (es ++ more) root.db n.level root.image walk)) (Err (nowhere files root.image))
        ≡ cond b (and_then (read_image files es root.db root.image) (λ n. read_level files es root.db n.level root.image walk)) (Err (nowhere files root.image))
    by_test true is =
        let lt : root.image < end = ltb-true root.image end is in
        let above : AreBehind root.image more = all_weaker (λ (p : Placed). end ≤ p.0) (λ p. root.image < p.0) (λ p h. omega (arith, lt, h)) more behind in
        ap (λ (r : Result Node Corruption). and_then r (λ n. read_level files (es ++ more) root.db n.level root.image walk)) (read_image-stays files es more root.db root.image above)
        ∙ then_same (read_image files es root.db root.image) (λ n. read_level files (es ++ more) root.db n.level root.image walk) (λ n. read_level files es root.db n.level root.image walk)
        (λ n. level-stays files es more root.db n.level root.image walk above)
    by_test false is = refl

pub readings_stay : ReadingsStay
readings_stay files es more end roots behind =
    each_same (read_root files (es ++ more) end) (read_root files es end) roots (record { seen = []; rows = [] }) (λ root walk. root-stays files es more end root walk behind)
