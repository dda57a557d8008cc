-- A node's entries keep the limits of their kinds.
use Rattle.std.proofs.Common.{◌≡◌, ℕ, ◌^◌, ◌<◌, ◌≤◌, Bool, true, false, cond, List, [], ◌∷◌, ◌++◌, length, map, filter, Option, is_lt, refl, sym, ap, subst, ◌∙◌, arith, inl, inr}
use Rattle.std.specs.Prelude.{◌&&◌, IfSome}
use Rattle.std.specs.List.{AllByRecursion, flat_map}
use Rattle.std.proofs.lemmas.List.{length-map}
use Rattle.je_order.specs.declared.name.Name.{Name}
use Rattle.log_entry.specs.Items.{rises, rises_from, AreRising, IsChildSlot, child_before, IsRecordSlot, record_before}
use Rattle.log_entry.specs.Body.{IsEntry}
use Rattle.node_core.specs.declared.slot.Version.{Version}
use Rattle.node_core.specs.declared.slot.Version.TheVariants.{There, Deleted, Unset}
use Rattle.node_core.specs.declared.slot.Marked.{Marked}
use Rattle.node_core.specs.Sorted.{AllAbove, Rises, AreSlots}
use Rattle.node_core.specs.Changes.{is_committed, committed, unmarked, slots_in}
use Rattle.node_core.proofs.SlotLookup.{rises_filter}
use Rattle.node_log.specs.Slots.{lsn_in, record_of, child_at, child_of, slot_of_child, fresh}
use Rattle.node_log.specs.Laws.{FitsSlot, ImagesAreEntries, DeltasAreEntries}
use Rattle.node_log.proofs.NodeReadBack.{bin_entry, in_entry, is_delta, length_committed, length_changed, children_back}

-- ---- records

records_from : (x : Name) (lsn : Option ℕ) (ms : List Marked) → AllAbove x ms → Rises ms → rises_from record_before (record { name = x; lsn = lsn }) (map record_of (slots_in ms)) ≡ true
records_from x lsn [] above rise = refl
records_from x lsn (m ∷ ms) above rise =
    ap (λ (b : Bool). b && rises_from record_before (record_of m.slot) (map record_of (slots_in ms))) (ap is_lt above.0)
    ∙ records_from m.slot.name (lsn_in m.slot.version) ms rise.0 rise.1

records_rise : (ms : List Marked) → Rises ms → rises record_before (map record_of (slots_in ms)) ≡ true
records_rise [] rise = refl
records_rise (m ∷ ms) rise = records_from m.slot.name (lsn_in m.slot.version) ms rise.0 rise.1

records_fit : (ms : List Marked) → AllByRecursion FitsSlot ms → AllByRecursion IsRecordSlot (map record_of (slots_in ms))
records_fit [] all = tt
records_fit (m ∷ ms) all = (all.0, records_fit ms all.1)

kept_fit : (P : Marked → Type 0) (p : Marked → Bool) (ms : List Marked) → AllByRecursion P ms → AllByRecursion P (filter p ms)
kept_fit P p [] all = tt
kept_fit P p (m ∷ ms) all =
    let more = kept_fit P p ms all.1 in
    elim (p m) as (λ b. AllByRecursion P (cond b (m ∷ filter p ms) (filter p ms))) [ true ↦ (all.0, more) | false ↦ more ]

length_records : (ms : List Marked) → length (map record_of (slots_in ms)) ≡ length ms
length_records ms = length-map (slots_in ms) record_of ∙ length-map ms (λ m. m.slot)

records_are : (p : Marked → Bool) (ms : List Marked) → AreSlots ms → AllByRecursion FitsSlot ms → length (filter p ms) ≤ length ms
    → AreRising IsRecordSlot record_before 128 (map record_of (slots_in (filter p ms)))
records_are p ms are fit le =
    let few = are.few in
    record {
      each = records_fit (filter p ms) (kept_fit FitsSlot p ms fit);
      few = omega (arith, few, le, length_records (filter p ms));
      rise = records_rise (filter p ms) (rises_filter p ms are.rises);
    }

-- ---- children

children_from : (x : Name) (child : ℕ) (ms : List Marked) → AllAbove x ms → Rises ms → rises_from child_before (record { name = x; child = child }) (flat_map child_of (slots_in ms)) ≡ true
children_from x child [] above rise = refl
children_from x child (m ∷ ms) above rise = by_version m.slot.version (children_from x child ms above.1 rise.1) (λ lsn. children_from m.slot.name lsn ms rise.0 rise.1)
  where
    by_version : (v : Version) → rises_from child_before (record { name = x; child = child }) (flat_map child_of (slots_in ms)) ≡ true
        → ((lsn : ℕ) → rises_from child_before (record { name = m.slot.name; child = lsn }) (flat_map child_of (slots_in ms)) ≡ true)
        → rises_from child_before (record { name = x; child = child }) (child_at m.slot.name (lsn_in v) ++ flat_map child_of (slots_in ms)) ≡ true
    by_version (There lsn) skipped more =
        ap (λ (b : Bool). b && rises_from child_before (record { name = m.slot.name; child = lsn }) (flat_map child_of (slots_in ms))) (ap is_lt above.0) ∙ more lsn
    by_version Deleted skipped more = skipped
    by_version Unset skipped more = skipped

children_rise : (ms : List Marked) → Rises ms → rises child_before (flat_map child_of (slots_in ms)) ≡ true
children_rise [] rise = refl
children_rise (m ∷ ms) rise = by_version m.slot.version (children_rise ms rise.1)
  where
    by_version : (v : Version) → rises child_before (flat_map child_of (slots_in ms)) ≡ true → rises child_before (child_at m.slot.name (lsn_in v) ++ flat_map child_of (slots_in ms)) ≡ true
    by_version (There lsn) skipped = children_from m.slot.name lsn ms rise.0 rise.1
    by_version Deleted skipped = skipped
    by_version Unset skipped = skipped

children_fit : (ms : List Marked) → AllByRecursion FitsSlot ms → AllByRecursion IsChildSlot (flat_map child_of (slots_in ms))
children_fit [] all = tt
children_fit (m ∷ ms) all = by_version m.slot.version all.0.1 (children_fit ms all.1)
  where
    by_version : (v : Version) → IfSome (lsn_in v) (λ lsn. lsn < 2 ^ 64) → AllByRecursion IsChildSlot (flat_map child_of (slots_in ms)) → AllByRecursion IsChildSlot (child_at m.slot.name (lsn_in v) ++ flat_map child_of (slots_in ms))
    by_version (There lsn) fits more = ((all.0.0, fits), more)
    by_version Deleted fits more = more
    by_version Unset fits more = more

-- ---- entries

pub images_are_entries : ImagesAreEntries
images_are_entries n fits (inl is) =
    subst IsEntry (sym (bin_entry n is)) (fits.db, fits.number, records_are (λ m. is_committed m.slot.version) n.slots fits.slots fits.each (length_committed n.slots))
images_are_entries n fits (inr is) =
    let ms = committed n.slots in
    let held = flat_map child_of (slots_in ms) in
    let back = ap length (children_back n.slots is.3) in
    let len : length held ≡ length ms = omega (arith, back, length-map held (λ c. fresh (slot_of_child c)), length-map ms unmarked) in
    let few = fits.slots.few in
    let rising : AreRising IsChildSlot child_before 128 held = record {
      each = children_fit ms (kept_fit FitsSlot (λ m. is_committed m.slot.version) n.slots fits.each);
      few = omega (arith, few, len, length_committed n.slots);
      rise = children_rise ms (rises_filter (λ m. is_committed m.slot.version) n.slots fits.slots.rises);
    } in
    let some : 0 < length held = omega (arith, len, is.2) in
    subst IsEntry (sym (in_entry n is.0)) (fits.db, fits.number, is.0, is.1, some, rising)

pub deltas_are_entries : DeltasAreEntries
deltas_are_entries n delta fits made =
    let d = is_delta n delta made in
    let full : d.full < 2 ^ 64 = subst (λ (o : Option ℕ). IfSome o (λ lsn. lsn < 2 ^ 64)) d.full_is fits.full in
    subst IsEntry d.is (fits.db, fits.number, full, records_are (λ m. m.changed && is_committed m.slot.version) n.slots fits.slots fits.each (length_changed n.slots))
