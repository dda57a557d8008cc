-- Right trees are read with no corruption.
use Rattle.std.proofs.Common.{◌≡◌, ℕ, zero, suc, ◌+◌, ◌<◌, ◌≤◌, ◌==◌, nat_lt, nat_le, Bool, true, false, not, cond, List, [], ◌∷◌, ◌++◌, Option, None, Some, Result, Ok, Err, map, length, Ordering, Less, Equal, Greater, is_lt, refl, sym, ap, subst, ◌∙◌, arith, append_assoc}
use Rattle.std.specs.Prelude.{◌&&◌, if◌then◌else◌}
use Rattle.std.specs.Option.{option_and_then}
use Rattle.std.proofs.lemmas.Bool.{true≢false, cond-true, and_from, and_parts, not_from_false, lt-ltb, eqb-true, eq-eqb, ne_eqb}
use Rattle.std.proofs.lemmas.Option.{none-some, cond_some}
use Rattle.std.proofs.lemmas.List.{append-nil, map-append}
use Rattle.std.specs.List.{AllByRecursion, flat_map, list_any}
use Rattle.je_order.specs.declared.name.Name.{Name}
use Rattle.je_order.specs.Order.{name_cmp}
use Rattle.log_entry.specs.declared.entry.Entry.{Entry}
use Rattle.log_entry.specs.declared.entry.Entry.TheVariants.{Bin, BinDelta}
use Rattle.log_entry.specs.declared.record_slot.RecordSlot.{RecordSlot}
use Rattle.log_entry.specs.declared.root.Root.{Root}
use Rattle.node_core.specs.declared.slot.Marked.{Marked}
use Rattle.node_core.specs.declared.node.Node.{Node}
use Rattle.node_core.specs.Sorted.{put_all}
use Rattle.node_core.specs.Changes.{set_now}
use Rattle.node_core.proofs.NameOrder.{total, same, turned}
use Rattle.node_log.specs.Slots.{slot_of_record}
use Rattle.node_log.specs.Images.{node_of, node_with, with_delta, bin_of}
use Rattle.log_replay.specs.declared.corruption.Corruption.{Corruption}
use Rattle.log_replay.specs.declared.corruption.Corruption.TheVariants.{Tree}
use Rattle.je_order.proofs.Lists.{all_weaker, all_append, each_none}
use Rattle.log_trees.specs.Placed.{Placed, entry_at}
use Rattle.log_trees.specs.Changes.{LoggedChange}
use Rattle.log_trees.specs.Images.{NamedLsn, slots_shown, node_in, node_at}
use Rattle.log_trees.specs.Trees.{slots_at, data_in, loaded, rows_of_root, rows_of_roots}
use Rattle.log_trees.specs.Bounds.{least_name, is_below, is_within, slots_inside, Child, children}
use Rattle.log_trees.specs.Sound.{AreUp, IsRecordAt, IsTreeAt, Home, at_home, IsRootAt}
use Rattle.log_trees.specs.Walk.{and_then, each, Walk, nowhere, is_bin_of, node_read, delta_by, delta_on, image_in, image_by, read_image, may_stand, node_standing, read_here, met, with_record, record_in, record_by, read_record, read_child, read_node, read_level, read_root}
use Rattle.log_trees.specs.Laws.{RootsAreRead}
use Rattle.log_trees.proofs.Bounds.{below_more, above_more, within_parts, within_next, not_below_itself}
use Rattle.log_trees.proofs.Cut.{side_by_side, children_cut, cut_within, cut_up, below_next, below_last}
use Rattle.log_trees.proofs.Shown.{leaf_image, inner_image, child_slots_of, right_beside}
use Rattle.log_trees.proofs.Rooted.{RiseFrom, rise_of, root_rows}

-- ---- one image

-- a delta's node is of the delta's database
delta_kept : (n m : Node) (full : ℕ) (slots : List RecordSlot) → with_delta n full slots ≡ Some m → m.db ≡ n.db
delta_kept n m full slots is =
    let all : List Marked = put_all (map (λ r. set_now (slot_of_record r)) slots) n.slots in
    let made : Node = record { db = n.db; number = n.number; level = n.level; full = Some full; slots = all } in
    let same : made ≡ m = (cond_some (nat_le (length all) 128) made m is).1 in
    sym (ap (λ (k : Node). k.db) same)

pub delta_db : (base : Entry) (db number full : ℕ) (slots : List RecordSlot) (n : Node) → node_with base (BinDelta db number full slots) ≡ Some n → n.db ≡ db
delta_db (Bin d m records) db number full slots n is = by_test ((db == d) && (number == m)) refl is
  where
    by_test : (b : Bool) → ((db == d) && (number == m)) ≡ b → cond b (with_delta (bin_of d m records) full slots) None ≡ Some n → n.db ≡ db
    by_test true t h = delta_kept (bin_of d m records) n full slots h ∙ sym (eqb-true db d (and_parts (db == d) (number == m) t).0)
    by_test false t h = absurd (none-some n h)
delta_db base db number full slots n is = absurd (none-some n is)

read_of : (d at : ℕ) (o : Option Node) (n : Node) → o ≡ Some n → n.db ≡ d → node_read d at o ≡ Ok n
read_of d at o n is db = ap (node_read d at) is ∙ cond-true (n.db == d) (Ok n) (Err (Tree at)) (eq-eqb n.db d db)

image_in-ok : (files : List ℕ) (es : List Placed) (d at : ℕ) (entry : Entry) (n : Node) → node_in es at entry ≡ Some n → n.db ≡ d → image_in files es d at entry ≡ Ok n
image_in-ok files es d at (BinDelta db number full slots) n is n_db = by_lower (nat_lt full at) is
  where
    by_base : (o : Option Entry) → option_and_then (λ base. node_with base (BinDelta db number full slots)) o ≡ Some n →
        cond (db == d) (delta_on files at db number full (BinDelta db number full slots) o) (Err (Tree at)) ≡ Ok n
    by_base None h = absurd (none-some n h)
    by_base (Some base) h =
        let db_is : db ≡ d = sym (delta_db base db number full slots n h) ∙ n_db in
        cond-true (db == d) (delta_on files at db number full (BinDelta db number full slots) (Some base)) (Err (Tree at)) (eq-eqb db d db_is)
        ∙ ap (λ (o : Option Node). delta_by o (Tree (if is_bin_of db number base then at else full))) h

    by_lower : (b : Bool) → cond b (option_and_then (λ base. node_with base (BinDelta db number full slots)) (entry_at es full)) None ≡ Some n →
        cond (db == d) (cond b (delta_on files at db number full (BinDelta db number full slots) (entry_at es full)) (Err (nowhere files full))) (Err (Tree at)) ≡ Ok n
    by_lower true h = by_base (entry_at es full) h
    by_lower false h = absurd (none-some n h)
image_in-ok files es d at entry n is n_db = read_of d at (node_of entry) n is n_db

-- an image that shows a node of this database is read
read_image-ok : (files : List ℕ) (es : List Placed) (d at : ℕ) (n : Node) → node_at es at ≡ Some n → n.db ≡ d → read_image files es d at ≡ Ok n
read_image-ok files es d at n is n_db = by_entry (entry_at es at) is
  where
    by_entry : (o : Option Entry) → option_and_then (node_in es at) o ≡ Some n → image_by files es d at o ≡ Ok n
    by_entry None h = absurd (none-some n h)
    by_entry (Some entry) h = image_in-ok files es d at entry n h n_db

-- ---- records

record-ok : (files : List ℕ) (es : List Placed) (d at : ℕ) (s : NamedLsn) (walk : Walk) → IsRecordAt es d at s →
    read_record files es d at s walk ≡ Ok (record { seen = walk.seen; rows = walk.rows ++ loaded es d s ∷ [] })
record-ok files es d at s walk is =
    cond-true (nat_lt s.1 at) (record_by files d s walk (entry_at es s.1)) (Err (nowhere files s.1)) (lt-ltb s.1 at is.0)
    ∙ by_entry (entry_at es s.1) is.2
    ∙ ap made (sym is.2)
  where
    made : Option (List ℕ) → Result Walk Corruption
    made v = let change : LoggedChange = record { db = d; name = s.0; written = record { at = s.1; value = v } } in
        let w : Walk = record { seen = walk.seen; rows = walk.rows ++ change ∷ [] } in Ok w

    by_entry : (o : Option Entry) → option_and_then (data_in d s.0) o ≡ Some is.1 → record_by files d s walk o ≡ Ok (with_record d s is.1 walk)
    by_entry None h = absurd (none-some is.1 h)
    by_entry (Some entry) h = ap (record_in d s walk) h

records-ok : (files : List ℕ) (es : List Placed) (d at : ℕ) (slots : List NamedLsn) (walk : Walk) → AllByRecursion (IsRecordAt es d at) slots →
    each (read_record files es d at) slots walk ≡ Ok (record { seen = walk.seen; rows = walk.rows ++ map (loaded es d) slots })
records-ok files es d at [] walk all =
    let make : List LoggedChange → Result Walk Corruption = λ l. let w : Walk = record { seen = walk.seen; rows = l } in Ok w in
    ap make (sym (append-nil walk.rows))
records-ok files es d at (s ∷ slots) walk all =
    let next : Walk = record { seen = walk.seen; rows = walk.rows ++ loaded es d s ∷ [] } in
    let make : List LoggedChange → Result Walk Corruption = λ l. let w : Walk = record { seen = walk.seen; rows = l } in Ok w in
    ap (λ (r : Result Walk Corruption). and_then r (each (read_record files es d at) slots)) (record-ok files es d at s walk all.0)
    ∙ records-ok files es d at slots next all.1
    ∙ ap make (append_assoc walk.rows (loaded es d s ∷ []) (map (loaded es d) slots))

-- ---- where the numbers of nodes have their places

-- a part of a tree: a database, a greatest level and bounds
record IsIn (d most : ℕ) (low : Name) (high : Option Name) (h : Home) : Type 0 where
  db : h.db ≡ d
  level : h.above ≤ most
  from : is_lt (name_cmp h.low low) ≡ false
  below : is_below h.low high ≡ true

abbrev NoneIn : (ℕ → Home) → ℕ → ℕ → Name → Option Name → List ℕ → Type 0
NoneIn home d most low high seen = AllByRecursion (λ n. IsIn d most low high (home n) → ⊥) seen

abbrev AllIn : (ℕ → Home) → ℕ → ℕ → Name → Option Name → List ℕ → Type 0
AllIn home d most low high met = AllByRecursion (λ n. IsIn d most low high (home n)) met

-- reading a part of a tree met the nodes of that part alone, and found these records
record IsMet (home : ℕ → Home) (d most : ℕ) (low : Name) (high : Option Name) (rows : List LoggedChange) (walk : Walk) (result : Result Walk Corruption) : Type 0 where
  met_ : List ℕ
  is : result ≡ Ok (record { seen = met_ ++ walk.seen; rows = walk.rows ++ rows })
  homes : AllIn home d most low high met_

at_own : (home : ℕ → Home) (d above : ℕ) (low : Name) (high : Option Name) (n : ℕ) → at_home home d n above low → is_below low high ≡ true → IsIn d above low high (home n)
at_own home d above low high n is below =
    let own : Home = record { db = d; above = above; low = low } in
    let here : IsIn d above low high own = record { db = refl; level = omega arith; from = not_below_itself low; below = below } in
    subst (IsIn d above low high) (sym is) here

-- the part of a child lies within its parent's
wider_part : (d most : ℕ) (low : Name) (high : Option Name) (n : Name) (h : Home) → is_below n high ≡ true → IsIn d most low (Some n) h → IsIn d most low high h
wider_part d most low high n h n_in is = record { db = is.db; level = is.level; from = is.from; below = below_more h.low n high is.below n_in }

later_part : (d most : ℕ) (low : Name) (high : Option Name) (n : Name) (h : Home) → is_lt (name_cmp n low) ≡ false → IsIn d most n high h → IsIn d most low high h
later_part d most low high n h n_in is = record { db = is.db; level = is.level; from = above_more low n h.low n_in is.from; below = is.below }

-- what lies below a name does not lie from it on
not_later : (d most : ℕ) (low : Name) (high : Option Name) (n : Name) (h : Home) → IsIn d most low (Some n) h → IsIn d most n high h → ⊥
not_later d most low high n h first later = true≢false (sym first.below ∙ later.from)

higher_level : (d most : ℕ) (low : Name) (high : Option Name) (h : Home) → IsIn d most low high h → IsIn d (suc most) low high h
higher_level d most low high h is = let le = is.level in record { db = is.db; level = omega (arith, le); from = is.from; below = is.below }

-- ---- one node

here-ok : (files : List ℕ) (es : List Placed) (home : ℕ → Home) (d above level : ℕ) (low : Name) (high : Option Name) (at : ℕ) (seen : List ℕ) (n : Node) →
    node_at es at ≡ Some n → n.db ≡ d → n.level ≡ level → at_home home d n.number above low → is_below low high ≡ true →
    NoneIn home d above low high seen → read_here files es d level at seen ≡ Ok n
here-ok files es home d above level low high at seen n is db level_is own below none =
    ap (λ (r : Result Node Corruption). and_then r (node_standing level at seen)) (read_image-ok files es d at n is db)
    ∙ cond-true (may_stand level seen n) (Ok n) (Err (Tree at))
    (and_from (n.level == level) (not (list_any (λ m. m == n.number) seen)) (eq-eqb n.level level level_is)
    (not_from_false (list_any (λ m. m == n.number) seen) (each_none (λ m. m == n.number) seen new)))
  where
    new : AllByRecursion (λ m. (m == n.number) ≡ false) seen
    new = all_weaker (λ m. IsIn d above low high (home m) → ⊥) (λ m. (m == n.number) ≡ false)
        (λ m h. ne_eqb m n.number (λ e. h (subst (λ (k : ℕ). IsIn d above low high (home k)) (sym e) (at_own home d above low high n.number own below)))) seen none

-- ---- the children of an IN, one after another

children-ok : (files : List ℕ) (es : List Placed) (home : ℕ → Home) (d above at : ℕ)
    (goes : (low : Name) (high : Option Name) (c : ℕ) (walk : Walk) → IsTreeAt es (at_home home d) d above low high c → is_below low high ≡ true → NoneIn home d above low high walk.seen →
    IsMet home d above low high (map (loaded es d) (slots_at es above low high c)) walk (read_node files es d above low high c walk))
    (low : Name) (high : Option Name) (slots : List NamedLsn) (walk : Walk) →
    AllByRecursion (λ (c : Child). (c.at < at) × IsTreeAt es (at_home home d) d above c.low c.high c.at) (side_by_side low high slots) →
    AllByRecursion (λ s. is_within low high s.0 ≡ true) slots → AreUp slots → NoneIn home d above low high walk.seen →
    IsMet home d above low high (map (loaded es d) (flat_map (λ (c : Child). slots_at es above c.low c.high c.at) (side_by_side low high slots))) walk (each (read_child files (read_node files es d above) at) (side_by_side low high slots) walk)
children-ok files es home d above at goes low high [] walk trees within up none = record { met_ = []; is = ap (done walk.seen) (sym (append-nil walk.rows)); homes = tt }
  where
    done : List ℕ → List LoggedChange → Result Walk Corruption
    done seen rows = let w : Walk = record { seen = seen; rows = rows } in Ok w
children-ok files es home d above at goes low high (s ∷ []) walk trees within up none =
    let bounds = within_parts low high s.0 within.0 in
    let first = goes low high s.1 walk trees.0.1 (below_last low high s.0 bounds.0 bounds.1) none in
    record {
      met_ = first.met_;
      is =
          ap (λ (r : Result Walk Corruption). and_then r (λ w. Ok w))
          (cond-true (nat_lt s.1 at) (read_node files es d above low high s.1 walk) (Err (nowhere files s.1)) (lt-ltb s.1 at trees.0.0) ∙ first.is)
          ∙ ap (λ (l : List NamedLsn). done (first.met_ ++ walk.seen) (walk.rows ++ map (loaded es d) l)) (sym (append-nil (slots_at es above low high s.1)));
      homes = first.homes;
    }
  where
    done : List ℕ → List LoggedChange → Result Walk Corruption
    done seen rows = let w : Walk = record { seen = seen; rows = rows } in Ok w
children-ok files es home d above at goes low high (s ∷ n ∷ slots) walk trees within up none =
    let s_in = within_parts low high s.0 within.0 in
    let n_in = within_parts low high n.0 within.1.0 in
    let first = goes low (Some n.0) s.1 walk trees.0.1 (below_next low s.0 n.0 s_in.0 up.0.0)
    (all_weaker (λ m. IsIn d above low high (home m) → ⊥) (λ m. IsIn d above low (Some n.0) (home m) → ⊥) (λ m h k. h (wider_part d above low high n.0 (home m) n_in.1 k)) walk.seen none) in
    let next : Walk = record { seen = first.met_ ++ walk.seen; rows = walk.rows ++ map (loaded es d) (slots_at es above low (Some n.0) s.1) } in
    let none_next : NoneIn home d above n.0 high (first.met_ ++ walk.seen) =
    all_append (λ m. IsIn d above n.0 high (home m) → ⊥) first.met_ walk.seen
    (all_weaker (λ m. IsIn d above low (Some n.0) (home m)) (λ m. IsIn d above n.0 high (home m) → ⊥) (λ m h k. not_later d above low high n.0 (home m) h k) first.met_ first.homes)
    (all_weaker (λ m. IsIn d above low high (home m) → ⊥) (λ m. IsIn d above n.0 high (home m) → ⊥) (λ m h k. h (later_part d above low high n.0 (home m) n_in.0 k)) walk.seen none) in
    let rest = children-ok files es home d above at goes n.0 high (n ∷ slots) next trees.1 (within_next low high n slots within.1 up.1) up.1 none_next in
    let others : List NamedLsn = flat_map (λ (c : Child). slots_at es above c.low c.high c.at) (side_by_side n.0 high (n ∷ slots)) in
    record {
      met_ = rest.met_ ++ first.met_;
      is =
          ap (λ (r : Result Walk Corruption). and_then r (each (read_child files (read_node files es d above) at) (side_by_side n.0 high (n ∷ slots))))
          (cond-true (nat_lt s.1 at) (read_node files es d above low (Some n.0) s.1 walk) (Err (nowhere files s.1)) (lt-ltb s.1 at trees.0.0) ∙ first.is)
          ∙ rest.is
          ∙ ap (λ (l : List ℕ). done l ((walk.rows ++ map (loaded es d) (slots_at es above low (Some n.0) s.1)) ++ map (loaded es d) others)) (sym (append_assoc rest.met_ first.met_ walk.seen))
          ∙ ap (done ((rest.met_ ++ first.met_) ++ walk.seen))
          (append_assoc walk.rows (map (loaded es d) (slots_at es above low (Some n.0) s.1)) (map (loaded es d) others)
          ∙ ap (λ (l : List LoggedChange). walk.rows ++ l) (sym (map-append (loaded es d) (slots_at es above low (Some n.0) s.1) others)));
      homes = all_append (λ m. IsIn d above low high (home m)) rest.met_ first.met_
          (all_weaker (λ m. IsIn d above n.0 high (home m)) (λ m. IsIn d above low high (home m)) (λ m h. later_part d above low high n.0 (home m) n_in.0 h) rest.met_ rest.homes)
          (all_weaker (λ m. IsIn d above low (Some n.0) (home m)) (λ m. IsIn d above low high (home m)) (λ m h. wider_part d above low high n.0 (home m) n_in.1 h) first.met_ first.homes);
    }
  where
    done : List ℕ → List LoggedChange → Result Walk Corruption
    done seen rows = let w : Walk = record { seen = seen; rows = rows } in Ok w

-- ---- one tree

node-ok : (files : List ℕ) (es : List Placed) (home : ℕ → Home) (d above : ℕ) (low : Name) (high : Option Name) (at : ℕ) (walk : Walk) → IsTreeAt es (at_home home d) d above low high at →
    is_below low high ≡ true → NoneIn home d above low high walk.seen →
    IsMet home d above low high (map (loaded es d) (slots_at es above low high at)) walk (read_node files es d above low high at walk)
node-ok files es home d zero low high at walk tree below none =
    let n : Node = tree.node in
    let next : Walk = met n walk in
    record {
      met_ = n.number ∷ [];
      is =
          ap (λ (r : Result Node Corruption). and_then r (λ m. each (read_record files es d at) (slots_inside low high (slots_shown m)) (met m walk)))
          (here-ok files es home d 0 1 low high at walk.seen n tree.image tree.db tree.level_is tree.home below none)
          ∙ records-ok files es d at (slots_inside low high (slots_shown n)) next tree.right
          ∙ ap (λ (l : List NamedLsn). done (n.number ∷ walk.seen) (walk.rows ++ map (loaded es d) l)) (sym (leaf_image es (at_home home d) d low high at tree));
      homes = (at_own home d 0 low high n.number tree.home below, tt);
    }
  where
    done : List ℕ → List LoggedChange → Result Walk Corruption
    done seen rows = let w : Walk = record { seen = seen; rows = rows } in Ok w
node-ok files es home d (suc above) low high at walk tree below none =
    let n : Node = tree.node in
    let next : Walk = met n walk in
    let none_next : NoneIn home d above low high (n.number ∷ walk.seen) = (
      λ h. let le = h.level in let up : (home n.number).above ≡ suc above = ap (λ (k : Home). k.above) tree.home in omega (arith, le, up),
      all_weaker (λ m. IsIn d (suc above) low high (home m) → ⊥) (λ m. IsIn d above low high (home m) → ⊥) (λ m h k. h (higher_level d above low high (home m) k)) walk.seen none,
    ) in
    let rest = children-ok files es home d above at (node-ok files es home d above) low high (child_slots_of low high n) next (right_beside es (at_home home d) d above low high at tree)
    (cut_within low high (slots_shown n) below tree.up) (cut_up low high (slots_shown n) tree.up) none_next in
    record {
      met_ = rest.met_ ++ n.number ∷ [];
      is =
          ap (λ (r : Result Node Corruption). and_then r (λ m. each (read_child files (read_node files es d above) at) (children low high (slots_shown m)) (met m walk)))
          (here-ok files es home d (suc above) (suc (suc above)) low high at walk.seen n tree.image tree.db tree.level_is tree.home below none)
          ∙ ap (λ (l : List Child). each (read_child files (read_node files es d above) at) l next) (children_cut low high (slots_shown n) tree.up)
          ∙ rest.is
          ∙ ap (λ (l : List ℕ). done l (walk.rows ++ map (loaded es d) (flat_map (λ (c : Child). slots_at es above c.low c.high c.at) (side_by_side low high (child_slots_of low high n)))))
          (sym (append_assoc rest.met_ (n.number ∷ []) walk.seen))
          ∙ ap (λ (l : List Child). done ((rest.met_ ++ n.number ∷ []) ++ walk.seen) (walk.rows ++ map (loaded es d) (flat_map (λ (c : Child). slots_at es above c.low c.high c.at) l)))
          (sym (inner_image es (at_home home d) d above low high at tree ∙ children_cut low high (slots_shown n) tree.up));
      homes = all_append (λ m. IsIn d (suc above) low high (home m)) rest.met_ (n.number ∷ [])
          (all_weaker (λ m. IsIn d above low high (home m)) (λ m. IsIn d (suc above) low high (home m)) (λ m h. higher_level d above low high (home m) h) rest.met_ rest.homes)
          (at_own home d (suc above) low high n.number tree.home below, tt);
    }
  where
    done : List ℕ → List LoggedChange → Result Walk Corruption
    done seen rows = let w : Walk = record { seen = seen; rows = rows } in Ok w

-- ---- all roots

-- a root's tree
root_image : (es : List Placed) (home : ℕ → ℕ → Name → Type 0) (d above : ℕ) (low : Name) (high : Option Name) (at : ℕ) → IsTreeAt es home d above low high at →
    (n : Node) × (node_at es at ≡ Some n) × (n.db ≡ d) × (n.level ≡ suc above)
root_image es home d zero low high at tree = (tree.node, tree.image, tree.db, tree.level_is)
root_image es home d (suc above) low high at tree = (tree.node, tree.image, tree.db, tree.level_is)

-- the roots' nodes have places in databases below a number
abbrev AreBefore : (ℕ → Home) → ℕ → List ℕ → Type 0
AreBefore home b seen = AllByRecursion (λ n. (home n).db < b) seen

root-ok : (files : List ℕ) (es : List Placed) (home : ℕ → Home) (end : ℕ) (root : Root) (walk : Walk) → IsRootAt es home end root → AreBefore home root.db walk.seen →
    (numbers : List ℕ) × (read_root files es end root walk ≡ Ok (record { seen = numbers; rows = walk.rows ++ rows_of_root es end root })) × AreBefore home (root.db + 1) numbers
root-ok files es home end root walk is before =
    let top = root_image es (at_home home root.db) root.db is.above least_name None root.image is.tree in
    let none : NoneIn home root.db is.above least_name None walk.seen =
    all_weaker (λ m. (home m).db < root.db) (λ m. IsIn root.db is.above least_name None (home m) → ⊥) (λ m h k. let e = k.db in omega (arith, h, e)) walk.seen before in
    let tree = node-ok files es home root.db is.above least_name None root.image walk is.tree refl none in (
      tree.met_ ++ walk.seen,
      cond-true (nat_lt root.image end) (and_then (read_image files es root.db root.image) (λ n. read_level files es root.db n.level root.image walk)) (Err (nowhere files root.image)) (lt-ltb root.image end is.lower)
          ∙ ap (λ (r : Result Node Corruption). and_then r (λ n. read_level files es root.db n.level root.image walk)) (read_image-ok files es root.db root.image top.0 top.1 top.2)
          ∙ ap (λ (l : ℕ). read_level files es root.db l root.image walk) top.3
          ∙ tree.is
          ∙ ap (λ (l : List LoggedChange). done (tree.met_ ++ walk.seen) (walk.rows ++ l)) (sym (root_rows es home end root is)),
      all_append (λ m. (home m).db < root.db + 1) tree.met_ walk.seen
          (all_weaker (λ m. IsIn root.db is.above least_name None (home m)) (λ m. (home m).db < root.db + 1) (λ m h. let e = h.db in omega (arith, e)) tree.met_ tree.homes)
          (all_weaker (λ m. (home m).db < root.db) (λ m. (home m).db < root.db + 1) (λ m h. omega (arith, h)) walk.seen before),
    )
  where
    done : List ℕ → List LoggedChange → Result Walk Corruption
    done seen rows = let w : Walk = record { seen = seen; rows = rows } in Ok w

roots-ok : (files : List ℕ) (es : List Placed) (home : ℕ → Home) (end b : ℕ) (roots : List Root) (walk : Walk) → RiseFrom b roots → AllByRecursion (IsRootAt es home end) roots → AreBefore home b walk.seen →
    (numbers : List ℕ) × (each (read_root files es end) roots walk ≡ Ok (record { seen = numbers; rows = walk.rows ++ rows_of_roots es end roots }))
roots-ok files es home end b [] walk up all before = (walk.seen, ap (done walk.seen) (sym (append-nil walk.rows)))
  where
    done : List ℕ → List LoggedChange → Result Walk Corruption
    done seen rows = let w : Walk = record { seen = seen; rows = rows } in Ok w
roots-ok files es home end b (root ∷ roots) walk up all before =
    let low = up.0 in
    let first = root-ok files es home end root walk all.0 (all_weaker (λ m. (home m).db < b) (λ m. (home m).db < root.db) (λ m h. omega (arith, h, low)) walk.seen before) in
    let next : Walk = record { seen = first.0; rows = walk.rows ++ rows_of_root es end root } in
    let rest = roots-ok files es home end (root.db + 1) roots next up.1 all.1 first.2 in (
      rest.0,
      ap (λ (r : Result Walk Corruption). and_then r (each (read_root files es end) roots)) first.1
          ∙ rest.1
          ∙ ap (done rest.0) (append_assoc walk.rows (rows_of_root es end root) (rows_of_roots es end roots)),
    )
  where
    done : List ℕ → List LoggedChange → Result Walk Corruption
    done seen rows = let w : Walk = record { seen = seen; rows = rows } in Ok w

pub roots_are_read : RootsAreRead
roots_are_read files es home end roots up all = roots-ok files es home end 0 roots (record { seen = []; rows = [] }) (rise_of roots up) all tt
