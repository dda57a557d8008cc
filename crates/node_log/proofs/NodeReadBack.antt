-- What is read of a node's entries is the node.
use Rattle.std.proofs.Common.{◌≡◌, ◌≢◌, ℕ, suc, ◌≤◌, Bool, true, false, cond, eqb, List, [], ◌∷◌, length, map, filter, Option, Some, None, refl, sym, ap, subst, ◌∙◌, arith, inl, inr}
use Rattle.std.specs.Prelude.{◌&&◌, option_map, IsSome}
use Rattle.std.specs.List.{AllByRecursion, flat_map}
use Rattle.std.proofs.lemmas.Bool.{eqb-true, eq-eqb, le-leb}
use Rattle.je_order.specs.declared.name.Name.{Name}
use Rattle.log_entry.specs.declared.record_slot.RecordSlot.{RecordSlot}
use Rattle.log_entry.specs.declared.entry.Entry.{Entry}
use Rattle.log_entry.specs.declared.entry.Entry.TheVariants.{In, Bin, BinDelta}
use Rattle.node_core.specs.declared.slot.Version.{Version}
use Rattle.node_core.specs.declared.slot.Version.TheVariants.{There, Deleted, Unset}
use Rattle.node_core.specs.declared.slot.Marked.{Marked}
use Rattle.node_core.specs.declared.node.Node.{Node}
use Rattle.node_core.specs.Sorted.{put_all}
use Rattle.node_core.specs.Changes.{is_committed, committed, changed, set_now, unmarked, slots_in}
use Rattle.node_log.specs.Slots.{record_of, child_of, slot_of_record, slot_of_child, fresh}
use Rattle.node_log.specs.Images.{entry_of, delta_of, bin_of, node_of, with_delta, node_with}
use Rattle.node_log.specs.Laws.{ImagesAreReadBack, DeltasAreReadBack}

-- ---- slots that are written and read

abbrev record_back : RecordSlot → Marked
record_back r = fresh (slot_of_record r)

next_record : (name : Name) (v : Version) (mark : Bool) (rest : List Marked) → map record_back (map record_of (slots_in rest)) ≡ map unmarked rest
    → (let m : Marked = record { slot = record { name = name; version = v }; changed = mark } in
    map record_back (map record_of (slots_in (cond (is_committed v) (m ∷ rest) rest))) ≡ map unmarked (cond (is_committed v) (m ∷ rest) rest))
next_record name (There lsn) mark rest more = ap (λ (l : List Marked). (let m : Marked = record { slot = record { name = name; version = There lsn }; changed = false } in m) ∷ l) more
next_record name Deleted mark rest more = ap (λ (l : List Marked). (let m : Marked = record { slot = record { name = name; version = Deleted }; changed = false } in m) ∷ l) more
next_record name Unset mark rest more = more

pub records_back : (ms : List Marked) → map record_back (map record_of (slots_in (committed ms))) ≡ map unmarked (committed ms)
records_back [] = refl
records_back (m ∷ ms) = next_record m.slot.name m.slot.version m.changed (committed ms) (records_back ms)

abbrev change_back : RecordSlot → Marked
change_back r = set_now (slot_of_record r)

next_change : (name : Name) (v : Version) (mark : Bool) (rest : List Marked) → map change_back (map record_of (slots_in rest)) ≡ rest
    → (let m : Marked = record { slot = record { name = name; version = v }; changed = mark } in
    map change_back (map record_of (slots_in (cond (mark && is_committed v) (m ∷ rest) rest))) ≡ cond (mark && is_committed v) (m ∷ rest) rest)
next_change name v false rest more = more
next_change name (There lsn) true rest more = ap (λ (l : List Marked). (let m : Marked = record { slot = record { name = name; version = There lsn }; changed = true } in m) ∷ l) more
next_change name Deleted true rest more = ap (λ (l : List Marked). (let m : Marked = record { slot = record { name = name; version = Deleted }; changed = true } in m) ∷ l) more
next_change name Unset true rest more = more

pub changes_back : (ms : List Marked) → map change_back (map record_of (slots_in (changed ms))) ≡ changed ms
changes_back [] = refl
changes_back (m ∷ ms) = next_change m.slot.name m.slot.version m.changed (changed ms) (changes_back ms)

next_child : (name : Name) (v : Version) (mark : Bool) (rest : List Marked) → v ≢ Deleted → map (λ c. fresh (slot_of_child c)) (flat_map child_of (slots_in rest)) ≡ map unmarked rest
    → (let m : Marked = record { slot = record { name = name; version = v }; changed = mark } in
    map (λ c. fresh (slot_of_child c)) (flat_map child_of (slots_in (cond (is_committed v) (m ∷ rest) rest))) ≡ map unmarked (cond (is_committed v) (m ∷ rest) rest))
next_child name (There lsn) mark rest not_deleted more = ap (λ (l : List Marked). (let m : Marked = record { slot = record { name = name; version = There lsn }; changed = false } in m) ∷ l) more
next_child name Deleted mark rest not_deleted more = absurd (not_deleted refl)
next_child name Unset mark rest not_deleted more = more

pub children_back : (ms : List Marked) → AllByRecursion (λ m. m.slot.version ≢ Deleted) ms → map (λ c. fresh (slot_of_child c)) (flat_map child_of (slots_in (committed ms))) ≡ map unmarked (committed ms)
children_back [] all = refl
children_back (m ∷ ms) all = next_child m.slot.name m.slot.version m.changed (committed ms) all.0 (children_back ms all.1)

-- ---- whole images

pub not_one : (k : ℕ) → 2 ≤ k → eqb k 1 ≡ false
not_one k le =
    elim (eqb k 1) as (λ b. eqb k 1 ≡ b → b ≡ false) [ true ↦ λ e. (let one : k ≡ 1 = eqb-true k 1 e in absurd (omega arith)) | false ↦ λ e. refl ] refl

-- a BIN's entry, and an IN's
pub bin_entry : (n : Node) → n.level ≡ 1 → entry_of n ≡ Bin n.db n.number (map record_of (slots_in (committed n.slots)))
bin_entry n is = ap (λ (b : Bool). cond b (Bin n.db n.number (map record_of (slots_in (committed n.slots)))) (In n.db n.number n.level (flat_map child_of (slots_in (committed n.slots))))) (eq-eqb n.level 1 is)

pub in_entry : (n : Node) → 2 ≤ n.level → entry_of n ≡ In n.db n.number n.level (flat_map child_of (slots_in (committed n.slots)))
in_entry n le = ap (λ (b : Bool). cond b (Bin n.db n.number (map record_of (slots_in (committed n.slots)))) (In n.db n.number n.level (flat_map child_of (slots_in (committed n.slots))))) (not_one n.level le)

abbrev with_level : Node → ℕ → List Marked → Node
with_level n level slots = record { db = n.db; number = n.number; level = level; full = None; slots = slots }

pub images_are_read_back : ImagesAreReadBack
images_are_read_back n (inl is) =
    ap node_of (bin_entry n is) ∙ ap (λ (l : List Marked). let o : Option Node = Some (with_level n 1 l) in o) (records_back n.slots)
    ∙ ap (λ (k : ℕ). let o : Option Node = Some (with_level n k (map unmarked (committed n.slots))) in o) (sym is)
images_are_read_back n (inr is) =
    ap node_of (in_entry n is.0) ∙ ap (λ (l : List Marked). let o : Option Node = Some (with_level n n.level l) in o) (children_back n.slots is.3)

-- ---- deltas

-- a delta is one of a BIN with a full image
pub record IsDelta (n : Node) (delta : Entry) : Type 0 where
  pub full : ℕ
  pub level : n.level ≡ 1
  pub full_is : n.full ≡ Some full
  pub is : BinDelta n.db n.number full (map record_of (slots_in (changed n.slots))) ≡ delta

delta_by : (n : Node) (delta : Entry) (one : Bool) (full : Option ℕ) → eqb n.level 1 ≡ one → n.full ≡ full
    → cond one (option_map (λ at. BinDelta n.db n.number at (map record_of (slots_in (changed n.slots)))) full) None ≡ Some delta → IsDelta n delta
delta_by n delta false full is_one is_full made = absurd cc
delta_by n delta true None is_one is_full made = absurd cc
delta_by n delta true (Some at) is_one is_full made = record { full = at; level = eqb-true _ _ is_one; full_is = is_full; is = cc }

pub is_delta : (n : Node) (delta : Entry) → delta_of n ≡ Some delta → IsDelta n delta
is_delta n delta made = delta_by n delta (eqb n.level 1) n.full refl refl made

filter_le : (p : Marked → Bool) (ms : List Marked) → length (filter p ms) ≤ length ms
filter_le p [] = omega arith
filter_le p (m ∷ ms) = let more = filter_le p ms in elim (p m) as (λ b. length (cond b (m ∷ filter p ms) (filter p ms)) ≤ suc (length ms)) [ true ↦ omega arith | false ↦ omega arith ]

pub length_committed : (ms : List Marked) → length (committed ms) ≤ length ms
length_committed ms = filter_le (λ m. is_committed m.slot.version) ms

pub length_changed : (ms : List Marked) → length (changed ms) ≤ length ms
length_changed ms = filter_le (λ m. m.changed && is_committed m.slot.version) ms

pub deltas_are_read_back : DeltasAreReadBack
deltas_are_read_back old new delta same_db same_number bin are image made =
    let d = is_delta new delta made in
    let recs = map record_of (slots_in (committed old.slots)) in
    let changes = map record_of (slots_in (changed new.slots)) in
    let old_node = bin_of old.db old.number recs in
    let all = put_all (map change_back changes) old_node.slots in
    let some : IsSome new.full = subst (λ (o : Option ℕ). IsSome o) (sym d.full_is) refl in
    let all_is : all ≡ committed new.slots =
    ap (λ (l : List Marked). put_all l old_node.slots) (changes_back new.slots) ∙ ap (λ (l : List Marked). put_all (changed new.slots) l) (records_back old.slots) ∙ (image some).1 in
    let few : length all ≤ 128 = let most = are.few in omega (arith, ap length all_is, length_committed new.slots) in
    ap (λ (e : Entry). node_with e delta) (bin_entry old bin) ∙ ap (λ (e : Entry). node_with (Bin old.db old.number recs) e) (sym d.is)
    ∙ ap (λ (b : Bool). cond (b && eqb new.number old.number) (with_delta old_node d.full changes) None) (eq-eqb _ _ (sym same_db))
    ∙ ap (λ (b : Bool). cond b (with_delta old_node d.full changes) None) (eq-eqb _ _ (sym same_number))
    ∙ ap (λ (b : Bool). cond b (let o : Option Node = Some (record { db = old.db; number = old.number; level = 1; full = Some d.full; slots = all }) in o) None) (le-leb _ _ few)
    ∙ ap (λ (l : List Marked). let o : Option Node = Some (record { db = old.db; number = old.number; level = 1; full = Some d.full; slots = l }) in o) all_is
    ∙ ap (λ (k : ℕ). let o : Option Node = Some (record { db = k; number = old.number; level = 1; full = Some d.full; slots = committed new.slots }) in o) same_db
    ∙ ap (λ (k : ℕ). let o : Option Node = Some (record { db = new.db; number = k; level = 1; full = Some d.full; slots = committed new.slots }) in o) same_number
    ∙ ap (λ (k : ℕ). let o : Option Node = Some (record { db = new.db; number = new.number; level = k; full = Some d.full; slots = committed new.slots }) in o) (sym d.level)
    ∙ ap (λ (f : Option ℕ). let o : Option Node = Some (record { db = new.db; number = new.number; level = new.level; full = f; slots = committed new.slots }) in o) (sym d.full_is)
