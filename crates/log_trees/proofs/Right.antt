-- Trees that are read with no corruption are right.
use Rattle.std.proofs.Common.{◌≡◌, ℕ, zero, suc, ◌<◌, ◌==◌, nat_lt, Bool, true, false, not, cond, List, [], ◌∷◌, ◌++◌, Option, None, Some, unwrap_or, Result, Ok, Err, map, refl, sym, ap, subst, ◌∙◌, append_assoc}
use Rattle.std.specs.Prelude.{◌&&◌, ◌||◌, if◌then◌else◌}
use Rattle.std.specs.Option.{option_and_then}
use Rattle.std.proofs.lemmas.Bool.{true≢false, cond-true, and_parts, not-true, ltb-true, eqb-true, eq-eqb}
use Rattle.std.proofs.lemmas.Option.{none-some}
use Rattle.std.proofs.lemmas.List.{append-nil, map-append}
use Rattle.std.specs.List.{AllByRecursion, flat_map, list_any}
use Rattle.std.specs.Map.{lookup}
use Rattle.je_order.specs.declared.name.Name.{Name}
use Rattle.log_entry.specs.declared.entry.Entry.{Entry}
use Rattle.log_entry.specs.declared.entry.Entry.TheVariants.{BinDelta}
use Rattle.log_entry.specs.declared.root.Root.{Root}
use Rattle.log_entry.specs.Body.{IsEntry}
use Rattle.node_core.specs.declared.node.Node.{Node}
use Rattle.node_log.specs.Images.{node_of, node_with}
use Rattle.log_replay.specs.declared.corruption.Corruption.{Corruption}
use Rattle.log_replay.specs.declared.corruption.Corruption.TheVariants.{Tree}
use Rattle.je_order.proofs.Lists.{all_weaker}
use Rattle.log_trees.specs.Placed.{Placed, entry_at}
use Rattle.log_trees.specs.Changes.{LoggedChange}
use Rattle.log_trees.specs.Images.{NamedLsn, slots_shown, node_in, node_at}
use Rattle.log_trees.specs.Trees.{slots_at, data_in, loaded, rows_of_root, rows_of_roots}
use Rattle.log_trees.specs.Bounds.{least_name, slots_inside, Child, children}
use Rattle.log_trees.specs.Sound.{IsRecordAt, IsTreeAt, Home, at_home, IsRootAt}
use Rattle.log_trees.specs.Walk.{and_then, each, Walk, is_bin_of, nowhere, node_read, delta_by, delta_on, image_in, image_by, read_image, may_stand, node_standing, read_here, met, with_record, record_in, record_by, read_record, read_child, read_node, read_level, read_root}
use Rattle.log_trees.specs.Laws.{ReadTreesAreRight}
use Rattle.log_trees.proofs.Shown.{leaf_image, inner_image}
use Rattle.log_trees.proofs.Rooted.{root_rows_of}
use Rattle.log_trees.proofs.Reading.{delta_db}
use Rattle.log_trees.proofs.Names.{image_up}

-- ---- results

not_ok : {A C : Type 0} (corruption : Corruption) (x : A) → ◌≡◌ {A = Result A Corruption} (Err corruption) (Ok x) → C
not_ok corruption x h = absurd cc

same_ok : {A : Type 0} (x y : A) → ◌≡◌ {A = Result A Corruption} (Ok x) (Ok y) → x ≡ y
same_ok x y h = cc

-- where a reading that goes on has no corruption, the one before it had none
then_parts : {A B : Type 0} (r : Result A Corruption) (f : A → Result B Corruption) (y : B) → and_then r f ≡ Ok y → (x : A) × (r ≡ Ok x) × (f x ≡ Ok y)
then_parts (Ok x) f y h = (x, refl, h)
then_parts (Err corruption) f y h = not_ok corruption y h

-- a test that a reading passed
passed : {A : Type 0} (b : Bool) (r : Result A Corruption) (corruption : Corruption) (y : A) → cond b r (Err corruption) ≡ Ok y → (b ≡ true) × (r ≡ Ok y)
passed true r corruption y h = (refl, h)
passed false r corruption y h = not_ok corruption y h

-- ---- one image

node_read-is : (d at : ℕ) (o : Option Node) (n : Node) → node_read d at o ≡ Ok n → (o ≡ Some n) × (n.db ≡ d)
node_read-is d at None n h = not_ok (Tree at) n h
node_read-is d at (Some m) n h =
    let parts = passed (m.db == d) (Ok m) (Tree at) n h in
    let is : m ≡ n = same_ok m n parts.1 in
    (ap (λ (k : Node). Some k) is, sym (ap (λ (k : Node). k.db) is) ∙ eqb-true m.db d parts.0)

image_in-is : (files : List ℕ) (es : List Placed) (d at : ℕ) (entry : Entry) (n : Node) → image_in files es d at entry ≡ Ok n → (node_in es at entry ≡ Some n) × (n.db ≡ d)
image_in-is files es d at (BinDelta db number full slots) n h = by_lower (nat_lt full at) outer.1
  where
    outer : ((db == d) ≡ true) × (cond (nat_lt full at) (delta_on files at db number full (BinDelta db number full slots) (entry_at es full)) (Err (nowhere files full)) ≡ Ok n)
    outer = passed (db == d) (cond (nat_lt full at) (delta_on files at db number full (BinDelta db number full slots) (entry_at es full)) (Err (nowhere files full))) (Tree at) n h

    joined : (base : Entry) (corruption : Corruption) (o : Option Node) → node_with base (BinDelta db number full slots) ≡ o → delta_by o corruption ≡ Ok n → node_with base (BinDelta db number full slots) ≡ Some n
    joined base corruption None made k = not_ok corruption n k
    joined base corruption (Some m) made k = made ∙ ap (λ (x : Node). Some x) (same_ok m n k)

    by_base : (o : Option Entry) → delta_on files at db number full (BinDelta db number full slots) o ≡ Ok n →
        (option_and_then (λ base. node_with base (BinDelta db number full slots)) o ≡ Some n) × (n.db ≡ d)
    by_base None k = not_ok (nowhere files full) n k
    by_base (Some base) k =
        let is = joined base (Tree (if is_bin_of db number base then at else full)) (node_with base (BinDelta db number full slots)) refl k in
        (is, delta_db base db number full slots n is ∙ eqb-true db d outer.0)

    by_lower : (b : Bool) → cond b (delta_on files at db number full (BinDelta db number full slots) (entry_at es full)) (Err (nowhere files full)) ≡ Ok n →
        (cond b (option_and_then (λ base. node_with base (BinDelta db number full slots)) (entry_at es full)) None ≡ Some n) × (n.db ≡ d)
    by_lower true k = by_base (entry_at es full) k
    by_lower false k = not_ok (nowhere files full) n k
image_in-is files es d at entry n h = node_read-is d at (node_of entry) n h

pub read_image-is : (files : List ℕ) (es : List Placed) (d at : ℕ) (n : Node) → read_image files es d at ≡ Ok n → (node_at es at ≡ Some n) × (n.db ≡ d)
read_image-is files es d at n h = by_entry (entry_at es at) h
  where
    by_entry : (o : Option Entry) → image_by files es d at o ≡ Ok n → (option_and_then (node_in es at) o ≡ Some n) × (n.db ≡ d)
    by_entry None k = not_ok (nowhere files at) n k
    by_entry (Some entry) k = image_in-is files es d at entry n k

-- a node that was read where it stands
pub record IsHere (es : List Placed) (d level at : ℕ) (seen : List ℕ) (n : Node) : Type 0 where
  pub is : node_at es at ≡ Some n
  pub db : n.db ≡ d
  pub level_is : n.level ≡ level
  pub new : list_any (λ m. m == n.number) seen ≡ false

pub here-is : (files : List ℕ) (es : List Placed) (d level at : ℕ) (seen : List ℕ) (n : Node) → read_here files es d level at seen ≡ Ok n → IsHere es d level at seen n
here-is files es d level at seen n h =
    let first = then_parts (read_image files es d at) (node_standing level at seen) n h in
    let m : Node = first.0 in
    let stands = passed (may_stand level seen m) (Ok m) (Tree at) n first.2 in
    let same : m ≡ n = same_ok m n stands.1 in
    let made = read_image-is files es d at m first.1 in
    let tests = and_parts (m.level == level) (not (list_any (λ k. k == m.number) seen)) stands.0 in
    let found : IsHere es d level at seen m = record { is = made.0; db = made.1; level_is = eqb-true m.level level tests.0; new = not-true (list_any (λ k. k == m.number) seen) tests.1 } in
    subst (IsHere es d level at seen) same found

-- ---- records

record-is : (files : List ℕ) (es : List Placed) (d at : ℕ) (s : NamedLsn) (walk new : Walk) → read_record files es d at s walk ≡ Ok new →
    IsRecordAt es d at s × (new ≡ record { seen = walk.seen; rows = walk.rows ++ loaded es d s ∷ [] })
record-is files es d at s walk new h =
    let parts = passed (nat_lt s.1 at) (record_by files d s walk (entry_at es s.1)) (nowhere files s.1) new h in
    let is = by_entry (entry_at es s.1) parts.1 in
    ((ltb-true s.1 at parts.0, is.0, is.1), sym is.2 ∙ ap made (sym is.1))
  where
    made : Option (List ℕ) → Walk
    made v = let change : LoggedChange = record { db = d; name = s.0; written = record { at = s.1; value = v } } in record { seen = walk.seen; rows = walk.rows ++ change ∷ [] }

    by_data : (o : Option (List ℕ)) → record_in d s walk o ≡ Ok new → (v : List ℕ) × (o ≡ Some v) × (with_record d s v walk ≡ new)
    by_data None k = not_ok (Tree s.1) new k
    by_data (Some v) k = (v, refl, same_ok (with_record d s v walk) new k)

    by_entry : (o : Option Entry) → record_by files d s walk o ≡ Ok new → (v : List ℕ) × (option_and_then (data_in d s.0) o ≡ Some v) × (with_record d s v walk ≡ new)
    by_entry None k = not_ok (nowhere files s.1) new k
    by_entry (Some entry) k = by_data (data_in d s.0 entry) k

records-are : (files : List ℕ) (es : List Placed) (d at : ℕ) (slots : List NamedLsn) (walk new : Walk) → each (read_record files es d at) slots walk ≡ Ok new →
    AllByRecursion (IsRecordAt es d at) slots × (new ≡ record { seen = walk.seen; rows = walk.rows ++ map (loaded es d) slots })
records-are files es d at [] walk new h =
    let make : List LoggedChange → Walk = λ l. record { seen = walk.seen; rows = l } in
    (tt, sym (same_ok walk new h) ∙ ap make (sym (append-nil walk.rows)))
records-are files es d at (s ∷ slots) walk new h =
    let first = then_parts (read_record files es d at s walk) (each (read_record files es d at) slots) new h in
    let one = record-is files es d at s walk first.0 first.1 in
    let next : Walk = record { seen = walk.seen; rows = walk.rows ++ loaded es d s ∷ [] } in
    let rest = records-are files es d at slots next new (ap (each (read_record files es d at) slots) (sym one.1) ∙ first.2) in
    let make : List LoggedChange → Walk = λ l. record { seen = walk.seen; rows = l } in
    ((one.0, rest.0), rest.1 ∙ ap make (append_assoc walk.rows (loaded es d s ∷ []) (map (loaded es d) slots)))

-- ---- the homes of the nodes that were met

abbrev Homes : Type 0
Homes = List (ℕ × Home)

abbrev in_homes : Homes → ℕ → ℕ → ℕ → Name → Type 0
in_homes homes d number above low = lookup (λ m. m == number) homes ≡ Some (record { db = d; above = above; low = low })

-- a home that is known stays the same
abbrev Keeps : Homes → Homes → Type 0
Keeps old new = (n : ℕ) (h : Home) → lookup (λ m. m == n) old ≡ Some h → lookup (λ m. m == n) new ≡ Some h

tree_kept : (es : List Placed) (P Q : ℕ → ℕ → Name → Type 0) → ((n a : ℕ) (x : Name) → P n a x → Q n a x) → (d above : ℕ) (low : Name) (high : Option Name) (at : ℕ) →
    IsTreeAt es P d above low high at → IsTreeAt es Q d above low high at
tree_kept es P Q weaker d zero low high at tree = record {
  node = tree.node;
  image = tree.image;
  db = tree.db;
  level_is = tree.level_is;
  up = tree.up;
  home = weaker tree.node.number 0 low tree.home;
  right = tree.right;
}
tree_kept es P Q weaker d (suc above) low high at tree = record {
  node = tree.node;
  image = tree.image;
  db = tree.db;
  level_is = tree.level_is;
  up = tree.up;
  home = weaker tree.node.number (suc above) low tree.home;
  right = all_weaker (λ (c : Child). (c.at < at) × IsTreeAt es P d above c.low c.high c.at) (λ c. (c.at < at) × IsTreeAt es Q d above c.low c.high c.at)
      (λ c h. (h.0, tree_kept es P Q weaker d above c.low c.high c.at h.1)) (children low high (slots_shown tree.node)) tree.right;
}

-- a number with a home is among those that were seen
home_seen : (homes : Homes) (n : ℕ) (h : Home) → lookup (λ m. m == n) homes ≡ Some h → list_any (λ m. m == n) (map (λ e. e.0) homes) ≡ true
home_seen [] n h is = absurd (none-some h is)
home_seen (e ∷ homes) n h is = by_test (e.0 == n) is (home_seen homes n h)
  where
    by_test : (b : Bool) → cond b (Some e.1) (lookup (λ m. m == n) homes) ≡ Some h → (lookup (λ m. m == n) homes ≡ Some h → list_any (λ m. m == n) (map (λ (e : ℕ × Home). e.0) homes) ≡ true) →
        (b || list_any (λ m. m == n) (map (λ (e : ℕ × Home). e.0) homes)) ≡ true
    by_test true k rest = refl
    by_test false k rest = rest k

-- a new number's home changes no other
new_home : (homes : Homes) (seen : List ℕ) (number : ℕ) (own : Home) → map (λ e. e.0) homes ≡ seen → list_any (λ m. m == number) seen ≡ false → Keeps homes ((number, own) ∷ homes)
new_home homes seen number own are new n h is = by_test (number == n) refl
  where
    by_test : (b : Bool) → (number == n) ≡ b → cond b (Some own) (lookup (λ m. m == n) homes) ≡ Some h
    by_test true at =
        let there : list_any (λ m. m == n) seen ≡ true = ap (list_any (λ m. m == n)) (sym are) ∙ home_seen homes n h is in
        absurd (true≢false (sym there ∙ ap (λ (k : ℕ). list_any (λ m. m == k) seen) (sym (eqb-true number n at)) ∙ new))
    by_test false at = is

-- ---- one tree

-- a part of a tree was read: its nodes have homes, it is right, and these records were found
record IsRead (es : List Placed) (d : ℕ) (homes : Homes) (right : Homes → Type 0) (rows : List LoggedChange) (walk new : Walk) : Type 0 where
  later : Homes
  numbers : map (λ e. e.0) later ≡ new.seen
  keeps : Keeps homes later
  tree : right later
  rows_are : new.rows ≡ walk.rows ++ rows

children-are : (files : List ℕ) (es : List Placed) (d above at : ℕ)
    (goes : (low : Name) (high : Option Name) (c : ℕ) (homes : Homes) (walk new : Walk) → map (λ e. e.0) homes ≡ walk.seen → read_node files es d above low high c walk ≡ Ok new →
    IsRead es d homes (λ later. IsTreeAt es (in_homes later d) d above low high c) (map (loaded es d) (slots_at es above low high c)) walk new)
    (cs : List Child) (homes : Homes) (walk new : Walk) → map (λ e. e.0) homes ≡ walk.seen → each (read_child files (read_node files es d above) at) cs walk ≡ Ok new →
    IsRead es d homes (λ later. AllByRecursion (λ (c : Child). (c.at < at) × IsTreeAt es (in_homes later d) d above c.low c.high c.at) cs)
    (map (loaded es d) (flat_map (λ (c : Child). slots_at es above c.low c.high c.at) cs)) walk new
children-are files es d above at goes [] homes walk new numbers h =
    let same : walk ≡ new = same_ok walk new h in
    record { later = homes; numbers = numbers ∙ ap (λ (w : Walk). w.seen) same; keeps = λ n k is. is; tree = tt; rows_are = sym (append-nil new.rows) ∙ ap (λ (w : Walk). w.rows ++ []) (sym same) }
children-are files es d above at goes (c ∷ cs) homes walk new numbers h =
    let parts = then_parts (read_child files (read_node files es d above) at c walk) (each (read_child files (read_node files es d above) at) cs) new h in
    let mid : Walk = parts.0 in
    let tested = passed (nat_lt c.at at) (read_node files es d above c.low c.high c.at walk) (nowhere files c.at) mid parts.1 in
    let first = goes c.low c.high c.at homes walk mid numbers tested.1 in
    let rest = children-are files es d above at goes cs first.later mid new first.numbers parts.2 in
    let own : List NamedLsn = slots_at es above c.low c.high c.at in
    let others : List NamedLsn = flat_map (λ (o : Child). slots_at es above o.low o.high o.at) cs in
    record {
      later = rest.later;
      numbers = rest.numbers;
      keeps = λ k o is. rest.keeps k o (first.keeps k o is);
      tree = (
        (
          ltb-true c.at at tested.0,
          tree_kept es (in_homes first.later d) (in_homes rest.later d) (λ k a x is. rest.keeps k (record { db = d; above = a; low = x }) is) d above c.low c.high c.at first.tree,
        ),
        rest.tree,
      );
      rows_are =
          rest.rows_are
          ∙ ap (λ (l : List LoggedChange). l ++ map (loaded es d) others) first.rows_are
          ∙ append_assoc walk.rows (map (loaded es d) own) (map (loaded es d) others)
          ∙ ap (λ (l : List LoggedChange). walk.rows ++ l) (sym (map-append (loaded es d) own others));
    }

node-is : (files : List ℕ) (es : List Placed) → AllByRecursion (λ p. IsEntry p.1) es → (d above : ℕ) (low : Name) (high : Option Name) (at : ℕ) (homes : Homes) (walk new : Walk) →
    map (λ e. e.0) homes ≡ walk.seen → read_node files es d above low high at walk ≡ Ok new →
    IsRead es d homes (λ later. IsTreeAt es (in_homes later d) d above low high at) (map (loaded es d) (slots_at es above low high at)) walk new
node-is files es entries d zero low high at homes walk new numbers h =
    let parts = then_parts (read_here files es d 1 at walk.seen) (λ n. each (read_record files es d at) (slots_inside low high (slots_shown n)) (met n walk)) new h in
    let n : Node = parts.0 in
    let here = here-is files es d 1 at walk.seen n parts.1 in
    let own : Home = record { db = d; above = 0; low = low } in
    let later : Homes = (n.number, own) ∷ homes in
    let records = records-are files es d at (slots_inside low high (slots_shown n)) (met n walk) new parts.2 in
    let tree : IsTreeAt es (in_homes later d) d zero low high at = record {
      node = n;
      image = here.is;
      db = here.db;
      level_is = here.level_is;
      up = image_up es at n entries here.is;
      home = cond-true (n.number == n.number) (Some own) (lookup (λ m. m == n.number) homes) (eq-eqb n.number n.number refl);
      right = records.0;
    } in
    record {
      later = later;
      numbers = ap (λ (l : List ℕ). n.number ∷ l) numbers ∙ sym (ap (λ (w : Walk). w.seen) records.1);
      keeps = new_home homes walk.seen n.number own numbers here.new;
      tree = tree;
      rows_are = ap (λ (w : Walk). w.rows) records.1 ∙ ap (λ (l : List NamedLsn). walk.rows ++ map (loaded es d) l) (sym (leaf_image es (in_homes later d) d low high at tree));
    }
node-is files es entries d (suc above) low high at homes walk new numbers h =
    let parts = then_parts (read_here files es d (suc (suc above)) at walk.seen)
    (λ n. each (read_child files (read_node files es d above) at) (children low high (slots_shown n)) (met n walk)) new h in
    let n : Node = parts.0 in
    let here = here-is files es d (suc (suc above)) at walk.seen n parts.1 in
    let own : Home = record { db = d; above = suc above; low = low } in
    let with_own : Homes = (n.number, own) ∷ homes in
    let rest = children-are files es d above at (node-is files es entries d above) (children low high (slots_shown n)) with_own (met n walk) new (ap (λ (l : List ℕ). n.number ∷ l) numbers) parts.2 in
    let tree : IsTreeAt es (in_homes rest.later d) d (suc above) low high at = record {
      node = n;
      image = here.is;
      db = here.db;
      level_is = here.level_is;
      up = image_up es at n entries here.is;
      home = rest.keeps n.number own (cond-true (n.number == n.number) (Some own) (lookup (λ m. m == n.number) homes) (eq-eqb n.number n.number refl));
      right = rest.tree;
    } in
    record {
      later = rest.later;
      numbers = rest.numbers;
      keeps = λ k o is. rest.keeps k o (new_home homes walk.seen n.number own numbers here.new k o is);
      tree = tree;
      rows_are = rest.rows_are
          ∙ ap (λ (l : List Child). walk.rows ++ map (loaded es d) (flat_map (λ (c : Child). slots_at es above c.low c.high c.at) l)) (sym (inner_image es (in_homes rest.later d) d above low high at tree));
    }

-- ---- all roots

-- a root's tree, with the homes of its nodes
record IsRootIn (es : List Placed) (homes : Homes) (end : ℕ) (root : Root) : Type 0 where
  lower : root.image < end
  above : ℕ
  tree : IsTreeAt es (in_homes homes root.db) root.db above least_name None root.image

root_kept : (es : List Placed) (old new : Homes) (end : ℕ) (root : Root) → Keeps old new → IsRootIn es old end root → IsRootIn es new end root
root_kept es old new end root keeps is = record {
  lower = is.lower;
  above = is.above;
  tree = tree_kept es (in_homes old root.db) (in_homes new root.db) (λ k a x h. keeps k (record { db = root.db; above = a; low = x }) h) root.db is.above least_name None root.image is.tree;
}

root-is : (files : List ℕ) (es : List Placed) → AllByRecursion (λ p. IsEntry p.1) es → (end : ℕ) (root : Root) (homes : Homes) (walk new : Walk) → map (λ e. e.0) homes ≡ walk.seen →
    read_root files es end root walk ≡ Ok new → IsRead es root.db homes (λ later. IsRootIn es later end root) (rows_of_root es end root) walk new
root-is files es entries end root homes walk new numbers h =
    let tested = passed (nat_lt root.image end) (and_then (read_image files es root.db root.image) (λ n. read_level files es root.db n.level root.image walk)) (nowhere files root.image) new h in
    let parts = then_parts (read_image files es root.db root.image) (λ n. read_level files es root.db n.level root.image walk) new tested.1 in
    by_level parts.0.level (ltb-true root.image end tested.0) parts.2
  where
    by_level : (level : ℕ) → root.image < end → read_level files es root.db level root.image walk ≡ Ok new → IsRead es root.db homes (λ later. IsRootIn es later end root) (rows_of_root es end root) walk new
    by_level zero lower k = not_ok (Tree root.image) new k
    by_level (suc above) lower k =
        let is = node-is files es entries root.db above least_name None root.image homes walk new numbers k in
        record {
          later = is.later;
          numbers = is.numbers;
          keeps = is.keeps;
          tree = record { lower = lower; above = above; tree = is.tree };
          rows_are = is.rows_are ∙ ap (λ (l : List LoggedChange). walk.rows ++ l) (sym (root_rows_of es (in_homes is.later root.db) end above root lower is.tree));
        }

roots-are : (files : List ℕ) (es : List Placed) → AllByRecursion (λ p. IsEntry p.1) es → (end : ℕ) (roots : List Root) (homes : Homes) (walk new : Walk) → map (λ e. e.0) homes ≡ walk.seen →
    each (read_root files es end) roots walk ≡ Ok new → IsRead es 0 homes (λ later. AllByRecursion (IsRootIn es later end) roots) (rows_of_roots es end roots) walk new
roots-are files es entries end [] homes walk new numbers h =
    let same : walk ≡ new = same_ok walk new h in
    record { later = homes; numbers = numbers ∙ ap (λ (w : Walk). w.seen) same; keeps = λ n k is. is; tree = tt; rows_are = sym (append-nil new.rows) ∙ ap (λ (w : Walk). w.rows ++ []) (sym same) }
roots-are files es entries end (root ∷ roots) homes walk new numbers h =
    let parts = then_parts (read_root files es end root walk) (each (read_root files es end) roots) new h in
    let first = root-is files es entries end root homes walk parts.0 numbers parts.1 in
    let rest = roots-are files es entries end roots first.later parts.0 new first.numbers parts.2 in
    record {
      later = rest.later;
      numbers = rest.numbers;
      keeps = λ k o is. rest.keeps k o (first.keeps k o is);
      tree = (root_kept es first.later rest.later end root rest.keeps first.tree, rest.tree);
      rows_are = rest.rows_are ∙ ap (λ (l : List LoggedChange). l ++ rows_of_roots es end roots) first.rows_are ∙ append_assoc walk.rows (rows_of_root es end root) (rows_of_roots es end roots);
    }

pub read_trees_are_right : ReadTreesAreRight
read_trees_are_right files es end roots walk entries h =
    let is = roots-are files es entries end roots [] (record { seen = []; rows = [] }) walk refl h in
    let nobody : Home = record { db = 0; above = 0; low = least_name } in
    let home : ℕ → Home = λ n. unwrap_or (lookup (λ m. m == n) is.later) nobody in
    record {
      home = home;
      right = all_weaker (IsRootIn es is.later end) (IsRootAt es home end)
          (λ root r. record {
            lower = r.lower;
            above = r.above;
            tree = tree_kept es (in_homes is.later root.db) (at_home home root.db) (λ k a x there. ap (λ (o : Option Home). unwrap_or o nobody) there) root.db r.above least_name None root.image r.tree;
          }) roots is.tree;
      rows = is.rows_are;
    }
