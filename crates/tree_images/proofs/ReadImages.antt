-- The images that trees were read from, in a log without deltas: entries of BINs and of INs, which are sound.
use Rattle.std.proofs.Common.{◌≡◌, ◌≤◌, ◌<◌, ◌==◌, ℕ, zero, suc, Bool, true, false, cond, List, [], ◌∷◌, Option, None, Some, map, length, refl, ap, sym, subst, ◌∙◌, arith}
use Rattle.std.specs.Prelude.{◌&&◌, nat_le, nat_lt}
use Rattle.std.specs.Option.{option_and_then}
use Rattle.std.proofs.lemmas.Bool.{true≢false}
use Rattle.std.proofs.lemmas.Option.{none-some, same_Some, cond_some}
use Rattle.std.specs.List.{AllByRecursion, flat_map}
use Rattle.je_order.specs.declared.name.Name.{Name}
use Rattle.je_order.proofs.Lists.{all_weaker}
use Rattle.node_core.specs.declared.node.Node.{Node}
use Rattle.node_core.specs.declared.slot.Marked.{Marked}
use Rattle.node_core.specs.Sorted.{put_all}
use Rattle.node_core.specs.Changes.{set_now}
use Rattle.node_log.specs.Images.{node_with, with_delta, bin_of}
use Rattle.node_log.specs.Slots.{fresh, slot_of_child, slot_of_record}
use Rattle.log_entry.specs.Body.{IsEntry}
use Rattle.log_entry.specs.declared.child_slot.ChildSlot.{ChildSlot}
use Rattle.log_entry.specs.declared.record_slot.RecordSlot.{RecordSlot}
use Rattle.log_entry.specs.declared.entry.Entry.{Entry}
use Rattle.log_entry.specs.declared.entry.Entry.TheVariants.{In, Bin, BinDelta}
use Rattle.record_tree.specs.LoadedNodes.{LoadedNode}
use Rattle.log_trees.specs.Images.{NamedLsn, slot_shown, slots_shown, node_in, node_at}
use Rattle.log_trees.specs.Building.{child_shown, NamesRecord}
use Rattle.log_trees.specs.Bounds.{is_within, Child, children}
use Rattle.log_trees.specs.Sound.{Home, at_home, IsRecordAt, IsTreeAt}
use Rattle.log_trees.proofs.Cut.{in_all}
use Rattle.log_meaning.specs.ReadNodes.{is_delta}
use Rattle.db_tree.specs.Images.{Placed, entry_at}
use Rattle.tree_images.specs.Sound.{IsSoundImage}
use Rattle.tree_images.proofs.Neighbours.{both_all}
use Rattle.tree_images.proofs.ReadNodes.{ShowsNodes}

-- ---- entries

-- what holds of each entry of a log holds of the one at an LSN
pub entry_holds : (P : ℕ → Entry → Type 0) (es : Placed) (at : ℕ) (entry : Entry) → AllByRecursion (λ p. P p.0 p.1) es → entry_at es at ≡ Some entry → (n : ℕ) × ((n == at) ≡ true) × P n entry
entry_holds P [] at entry all is = absurd (none-some entry is)
entry_holds P (p ∷ es) at entry all is = by_test (p.0 == at) refl is (λ h. entry_holds P es at entry all.1 h)
  where
    by_test : (b : Bool) → (p.0 == at) ≡ b → cond b (Some p.1) (entry_at es at) ≡ Some entry → (entry_at es at ≡ Some entry → (n : ℕ) × ((n == at) ≡ true) × P n entry) → (n : ℕ) × ((n == at) ≡ true) × P n entry
    by_test true same h rest = (p.0, same, subst (P p.0) (same_Some p.1 entry h) all.0)
    by_test false same h rest = rest h

-- an image that is there has an entry
pub image_entry : (es : Placed) (at : ℕ) (node : Node) → node_at es at ≡ Some node → (entry : Entry) × (entry_at es at ≡ Some entry) × (node_in es at entry ≡ Some node)
image_entry es at node is = by_entry (entry_at es at) refl is
  where
    by_entry : (o : Option Entry) → entry_at es at ≡ o → option_and_then (node_in es at) o ≡ Some node → (entry : Entry) × (entry_at es at ≡ Some entry) × (node_in es at entry ≡ Some node)
    by_entry None there h = absurd (none-some node h)
    by_entry (Some entry) there h = (entry, there, h)

-- a delta shows a BIN
delta_level : (base : Entry) (db number full : ℕ) (slots : List RecordSlot) (n : Node) → node_with base (BinDelta db number full slots) ≡ Some n → n.level ≡ 1
delta_level (Bin b m records) db number full slots n is = by_test ((db == b) && (number == m)) is
  where
    by_test : (t : Bool) → cond t (with_delta (bin_of b m records) full slots) None ≡ Some n → n.level ≡ 1
    by_test false h = absurd (none-some n h)
    by_test true h =
        let all : List Marked = put_all (map (λ r. set_now (slot_of_record r)) slots) (bin_of b m records).slots in
        let joined : Node = record { db = b; number = m; level = 1; full = Some full; slots = all } in
        sym (ap (λ (k : Node). k.level) (cond_some (nat_le (length all) 128) joined n h).1)
delta_level base db number full slots n is = absurd (none-some n is)

-- ---- an IN

-- the entry of an IN's image
pub record IsInEntry (es : Placed) (at level : ℕ) (node : Node) : Type 0 where
  pub slots : List ChildSlot
  pub image : entry_at es at ≡ Some (In node.db node.number level slots)
  pub entry : IsEntry (In node.db node.number level slots)
  pub slots_are : node.slots ≡ map (λ c. fresh (slot_of_child c)) slots

pub in_entry : (es : Placed) (at above : ℕ) (node : Node) → AllByRecursion (λ p. IsEntry p.1) es → node_at es at ≡ Some node → node.level ≡ suc (suc above) → IsInEntry es at (suc (suc above)) node
in_entry es at above node entries is level =
    let found = image_entry es at node is in
    by_kind found.0 found.1 (entry_holds (λ n e. IsEntry e) es at found.0 entries found.1).2 found.2
  where
    by_delta : (db number full : ℕ) (slots : List RecordSlot) (b : Bool) (o : Option Entry) → cond b (option_and_then (λ base. node_with base (BinDelta db number full slots)) o) None ≡ Some node → node.level ≡ 1
    by_delta db number full slots true (Some base) h = delta_level base db number full slots node h
    by_delta db number full slots true None h = absurd (none-some node h)
    by_delta db number full slots false o h = absurd (none-some node h)

    by_kind : (e : Entry) → entry_at es at ≡ Some e → IsEntry e → node_in es at e ≡ Some node → IsInEntry es at (suc (suc above)) node
    by_kind (In db number lvl slots) there entry h =
        let made : Node = record { db = db; number = number; level = lvl; full = None; slots = map (λ c. fresh (slot_of_child c)) slots } in
        let same : made ≡ node = same_Some made node h in
        let lvl_is : lvl ≡ suc (suc above) = ap (λ (n : Node). n.level) same ∙ level in
        let e_is : In db number lvl slots ≡ In node.db node.number (suc (suc above)) slots =
        ap (λ (n : Node). In n.db n.number lvl slots) same ∙ ap (λ (k : ℕ). In node.db node.number k slots) lvl_is in
        record {
          slots = slots;
          image = there ∙ ap (λ (e : Entry). Some e) e_is;
          entry = subst IsEntry e_is entry;
          slots_are = sym (ap (λ (n : Node). n.slots) same);
        }
    by_kind (Bin db number slots) there entry h = let one : 1 ≡ suc (suc above) = ap (λ (n : Node). n.level) (same_Some (bin_of db number slots) node h) ∙ level in absurd (omega (arith, one))
    by_kind (BinDelta db number full slots) there entry h = let one : node.level ≡ 1 = by_delta db number full slots (nat_lt full at) (entry_at es full) h in absurd (omega (arith, one, level))
    by_kind e there entry h = absurd (none-some node h)

children_shown : (slots : List ChildSlot) → flat_map slot_shown (map (λ c. fresh (slot_of_child c)) slots) ≡ map child_shown slots
children_shown [] = refl
children_shown (s ∷ slots) = ap (λ (l : List NamedLsn). (s.name, s.child) ∷ l) (children_shown slots)

pub in_shown : (es : Placed) (at level : ℕ) (node : Node) (e : IsInEntry es at level node) → slots_shown node ≡ map child_shown e.slots
in_shown es at level node e = ap (flat_map slot_shown) e.slots_are ∙ children_shown e.slots

-- ---- a BIN

pub record IsBinEntry (es : Placed) (at : ℕ) (node : Node) : Type 0 where
  pub slots : List RecordSlot
  pub image : entry_at es at ≡ Some (Bin node.db node.number slots)
  pub entry : IsEntry (Bin node.db node.number slots)
  pub slots_are : node.slots ≡ map (λ r. fresh (slot_of_record r)) slots

pub bin_entry : (es : Placed) (at : ℕ) (node : Node) → AllByRecursion (λ p. IsEntry p.1) es → AllByRecursion (λ p. is_delta p.1 ≡ false) es → node_at es at ≡ Some node → node.level ≡ 1 → IsBinEntry es at node
bin_entry es at node entries whole is level =
    let found = image_entry es at node is in
    by_kind found.0 found.1 (entry_holds (λ n e. IsEntry e) es at found.0 entries found.1).2 (entry_holds (λ n e. is_delta e ≡ false) es at found.0 whole found.1).2 found.2
  where
    by_kind : (e : Entry) → entry_at es at ≡ Some e → IsEntry e → is_delta e ≡ false → node_in es at e ≡ Some node → IsBinEntry es at node
    by_kind (Bin db number slots) there entry no_delta h =
        let same : bin_of db number slots ≡ node = same_Some (bin_of db number slots) node h in
        let e_is : Bin db number slots ≡ Bin node.db node.number slots = ap (λ (n : Node). Bin n.db n.number slots) same in
        record {
          slots = slots;
          image = there ∙ ap (λ (e : Entry). Some e) e_is;
          entry = subst IsEntry e_is entry;
          slots_are = sym (ap (λ (n : Node). n.slots) same);
        }
    by_kind (In db number lvl slots) there entry no_delta h =
        let made : Node = record { db = db; number = number; level = lvl; full = None; slots = map (λ c. fresh (slot_of_child c)) slots } in
        let one : lvl ≡ 1 = ap (λ (n : Node). n.level) (same_Some made node h) ∙ level in
        let two : 2 ≤ lvl = entry.2 in
        absurd (omega (arith, one, two))
    by_kind (BinDelta db number full slots) there entry no_delta h = absurd (true≢false no_delta)
    by_kind e there entry no_delta h = absurd (none-some node h)

-- the slots whose names pass a test name records
name_records : (p : Name → Bool) (es : Placed) (d at : ℕ) (slots : List RecordSlot) →
    AllByRecursion (λ s. p s.0 ≡ true → IsRecordAt es d at s) (flat_map slot_shown (map (λ r. fresh (slot_of_record r)) slots)) → AllByRecursion (λ s. p s.name ≡ true → NamesRecord es d at s) slots
name_records p es d at [] all = tt
name_records p es d at (s ∷ slots) all = by_lsn s.name s.lsn (name_records p es d at slots) all
  where
    by_lsn : (name : Name) (o : Option ℕ) →
        (AllByRecursion (λ s. p s.0 ≡ true → IsRecordAt es d at s) (flat_map slot_shown (map (λ r. fresh (slot_of_record r)) slots)) → AllByRecursion (λ s. p s.name ≡ true → NamesRecord es d at s) slots) →
        AllByRecursion (λ s. p s.0 ≡ true → IsRecordAt es d at s) (flat_map slot_shown (map (λ r. fresh (slot_of_record r)) (record { name = name; lsn = o } ∷ slots))) →
        AllByRecursion (λ s. p s.name ≡ true → NamesRecord es d at s) (record { name = name; lsn = o } ∷ slots)
    by_lsn name None rest h = (λ e. tt, rest h)
    by_lsn name (Some lsn) rest h = (h.0, rest h.1)

-- ---- sound images

module _ (es : Placed) (keeps : Bool) (most : ℕ) (home : ℕ → Home) (last d : ℕ) (entries : AllByRecursion (λ p. IsEntry p.1) es) (whole : AllByRecursion (λ p. is_delta p.1 ≡ false) es) (le : most ≤ last) where
  pub sound : (k : ℕ) (low : Name) (high : Option Name) (at : ℕ) (nodes : ℕ → Name → Option LoadedNode) → ShowsNodes es keeps most nodes k low high at → IsTreeAt es (at_home home d) d k low high at → IsSoundImage es home last d k low high at
  sound zero low high at nodes shown tree =
      let e : IsBinEntry es at tree.node = bin_entry es at tree.node entries whole tree.image tree.level_is in
      let is : shown.0 ≡ tree.node = same_Some shown.0 tree.node (sym shown.1.image ∙ tree.image) in
      let few : tree.node.number ≤ most = subst (λ (n : Node). n.number ≤ most) is shown.1.allocated in
      record {
        number = tree.node.number;
        slots = e.slots;
        image = e.image ∙ ap (λ (b : ℕ). Some (Bin b tree.node.number e.slots)) tree.db;
        entry = subst (λ (b : ℕ). IsEntry (Bin b tree.node.number e.slots)) tree.db e.entry;
        own = (omega (arith, few, le), tree.home);
        records = name_records (is_within low high) es d at e.slots
            (subst (λ (l : List Marked). AllByRecursion (λ s. is_within low high s.0 ≡ true → IsRecordAt es d at s) (flat_map slot_shown l)) e.slots_are (in_all (IsRecordAt es d at) low high (slots_shown tree.node) tree.right));
      }
  sound (suc k) low high at nodes shown tree =
      let e : IsInEntry es at (suc (suc k)) tree.node = in_entry es at k tree.node entries tree.image tree.level_is in
      let is : shown.0 ≡ tree.node = same_Some shown.0 tree.node (sym shown.1.image ∙ tree.image) in
      let few : tree.node.number ≤ most = subst (λ (n : Node). n.number ≤ most) is shown.1.allocated in
      record {
        number = tree.node.number;
        slots = e.slots;
        image = e.image ∙ ap (λ (b : ℕ). Some (In b tree.node.number (suc (suc k)) e.slots)) tree.db;
        entry = subst (λ (b : ℕ). IsEntry (In b tree.node.number (suc (suc k)) e.slots)) tree.db e.entry;
        own = (omega (arith, few, le), tree.home);
        below = subst (λ (l : List NamedLsn). AllByRecursion (λ (c : Child). (c.at < at) × IsSoundImage es home last d k c.low c.high c.at) (children low high l)) (in_shown es at (suc (suc k)) tree.node e)
            (all_weaker (λ (c : Child). ((c.at < at) × IsTreeAt es (at_home home d) d k c.low c.high c.at) × ShowsNodes es keeps most nodes k c.low c.high c.at) (λ c. (c.at < at) × IsSoundImage es home last d k c.low c.high c.at)
            (λ c h. (h.0.0, sound k c.low c.high c.at nodes h.1 h.0.1)) (children low high (slots_shown tree.node))
            (both_all (λ (c : Child). (c.at < at) × IsTreeAt es (at_home home d) d k c.low c.high c.at) (λ c. ShowsNodes es keeps most nodes k c.low c.high c.at) (children low high (slots_shown tree.node)) tree.right
            (subst (λ (n : Node). AllByRecursion (λ (c : Child). ShowsNodes es keeps most nodes k c.low c.high c.at) (children low high (slots_shown n))) is shown.2)));
      }

  -- the slots of an IN's sound image are those that the node shows
  pub slots_of_sound : (k : ℕ) (low : Name) (high : Option Name) (at : ℕ) (nodes : ℕ → Name → Option LoadedNode) (shown : ShowsNodes es keeps most nodes (suc k) low high at) (tree : IsTreeAt es (at_home home d) d (suc k) low high at) →
      slots_shown tree.node ≡ map child_shown (sound (suc k) low high at nodes shown tree).slots
  unfolding sound
  slots_of_sound k low high at nodes shown tree = in_shown es at (suc (suc k)) tree.node (in_entry es at k tree.node entries tree.image tree.level_is)
