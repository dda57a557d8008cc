-- A node's last full image, with what was changed since put in, is the image that it has now.
use Rattle.std.proofs.Common.{◌≡◌, ℕ, Bool, true, false, cond, not, ◌&&◌, List, [], ◌∷◌, map, Option, Some, None, is_eq, refl, sym, ap, ap₂, subst, ◌∙◌, inl, inr, ◌⊎◌}
use Rattle.std.specs.Prelude.{IsSome}
use Rattle.je_order.specs.declared.name.Name.{Name}
use Rattle.je_order.specs.Order.{name_cmp}
use Rattle.node_core.specs.declared.slot.Slot.{Slot}
use Rattle.node_core.specs.declared.slot.Marked.{Marked}
use Rattle.node_core.specs.declared.node.Node.{Node}
use Rattle.node_core.specs.Sorted.{Rises, at, put, put_all}
use Rattle.node_core.specs.Changes.{is_committed, committed, changed, unmarked, shows, has_committed}
use Rattle.node_core.specs.Nodes.{with_slot, IsFullImage}
use Rattle.node_core.proofs.NameOrder.{same}
use Rattle.je_order.proofs.Orderings.{equal_from_test}
use Rattle.node_core.proofs.SlotLookup.{keep, or_else, at_put, at_filter, at_put_all, same_lists, rises_put, rises_filter, rises_put_all}
use Rattle.node_core.proofs.SlotPositions.{rises_unmarked}

abbrev shown : Marked → Bool
shown m = is_committed m.slot.version

abbrev in_delta : Marked → Bool
in_delta m = m.changed && is_committed m.slot.version

-- the slots that were changed, put into the image, are the slots that an image shows now
abbrev pub GoesOn : List Marked → List Marked → Type 0
GoesOn image ms = Rises image × (put_all (changed ms) image ≡ committed ms)

-- the same of one name: what a delta has, else the image
abbrev Agree : Name → List Marked → Option Marked → Type 0
Agree x image o = or_else (keep in_delta o) (at x image) ≡ keep shown o

delta_at : (x : Name) (image ms : List Marked) → Rises ms → at x (put_all (changed ms) image) ≡ or_else (keep in_delta (at x ms)) (at x image)
delta_at x image ms h = at_put_all x (changed ms) image (rises_filter in_delta ms h) ∙ ap (λ (o : Option Marked). or_else o (at x image)) (at_filter x in_delta ms h)

agreed : (image ms : List Marked) → Rises ms → GoesOn image ms → (x : Name) → Agree x image (at x ms)
agreed image ms h goes x = sym (delta_at x image ms h) ∙ ap (at x) goes.1 ∙ at_filter x shown ms h

goes_on : (image ms : List Marked) → Rises image → Rises ms → ((x : Name) → Agree x image (at x ms)) → GoesOn image ms
goes_on image ms g h agree = (
  g,
  same_lists (put_all (changed ms) image) (committed ms) (rises_put_all (changed ms) image g) (rises_filter shown ms h)
      (λ x. delta_at x image ms h ∙ agree x ∙ sym (at_filter x shown ms h)),
)

not_in_delta : (m : Marked) → shown m ≡ false → in_delta m ≡ false
not_in_delta m e = none m.changed e
  where
    none : (b : Bool) → shown m ≡ false → (b && shown m) ≡ false
    none true e = e
    none false e = refl

-- where no slot of the name is shown, the image has none
image_none : (x : Name) (image : List Marked) (o : Option Marked) → shows o ≡ false → Agree x image o → at x image ≡ None
image_none x image None e agree = agree
image_none x image (Some m) e agree =
    let delta : keep in_delta (Some m) ≡ None = ap (λ b. cond b (Some m) None) (not_in_delta m e) in
    let now : keep shown (Some m) ≡ None = ap (λ b. cond b (Some m) None) e in
    ap (λ (o : Option Marked). or_else o (at x image)) (sym delta) ∙ agree ∙ now

agree_shown : (x : Name) (image : List Marked) (m : Marked) → m.changed ≡ shown m → shown m ≡ true → Agree x image (Some m)
agree_shown x image m mark sure =
    let delta : in_delta m ≡ true = ap (λ b. b && shown m) (mark ∙ sure) ∙ sure in
    ap (λ b. or_else (cond b (Some m) None) (at x image)) delta ∙ ap (λ b. cond b (Some m) None) (sym sure)

agree_put : (x : Name) (image : List Marked) (m : Marked) (o : Option Marked) → m.changed ≡ shown m → (shown m ≡ true) ⊎ (shows o ≡ false) → Agree x image o → Agree x image (Some m)
agree_put x image m o mark (inl sure) agree = agree_shown x image m mark sure
agree_put x image m o mark (inr none) agree =
    elim (shown m) as (λ b. shown m ≡ b → Agree x image (Some m)) [
      | true ↦ λ sure. agree_shown x image m mark sure
      | false ↦ λ no.
          ap (λ b. or_else (cond b (Some m) None) (at x image)) (not_in_delta m no) ∙ image_none x image o none agree ∙ ap (λ b. cond b (Some m) None) (sym no)
    ] refl

pub put_goes_on : (image ms : List Marked) (m : Marked) → Rises ms → m.changed ≡ shown m → (shown m ≡ true) ⊎ (has_committed m.slot.name ms ≡ false) → GoesOn image ms → GoesOn image (put m ms)
put_goes_on image ms m h mark may goes =
    goes_on image (put m ms) goes.0 (rises_put m ms h) (λ x. subst (Agree x image) (sym (at_put x m ms)) (elim (is_eq (name_cmp x m.slot.name)) as (λ b. is_eq (name_cmp x m.slot.name) ≡ b → Agree x image (cond b (Some m) (at x ms))) [
      | true ↦ λ t.
          let is : x ≡ m.slot.name = same x m.slot.name (equal_from_test _ t) in
          let may_here : (shown m ≡ true) ⊎ (shows (at x ms) ≡ false) = subst (λ (y : Name). (shown m ≡ true) ⊎ (shows (at y ms) ≡ false)) (sym is) may in
          agree_put x image m (at x ms) mark may_here (agreed image ms h goes x)
      | false ↦ λ t. agreed image ms h goes x
    ] refl))

pub changed_unmarked : (ms : List Marked) → changed (map unmarked ms) ≡ []
changed_unmarked [] = refl
changed_unmarked (m ∷ ms) = changed_unmarked ms

pub cleared_goes_on : (ms : List Marked) → Rises ms → GoesOn (committed (map unmarked ms)) (map unmarked ms)
cleared_goes_on ms h =
    let up = rises_filter shown (map unmarked ms) (rises_unmarked ms h) in
    (up, ap (λ (ks : List Marked). put_all ks (committed (map unmarked ms))) (changed_unmarked ms))

-- ---- nodes

pub kept : {A : Type 0} (b : Bool) (o : Option A) → IsSome (cond b None o) → (b ≡ false) × IsSome o
kept true o e = absurd cc
kept false o e = (refl, e)

pub may_put : (a b : Bool) → (not a && b) ≡ false → (a ≡ true) ⊎ (b ≡ false)
may_put true b e = inl refl
may_put false b e = inr e

-- a node into which a slot was put
pub with_slot_is : (n : Node) (s : Slot) (is_changed hides : Bool) (full : Option ℕ) (ms : List Marked) → is_changed ≡ is_committed s.version → ms ≡ put (record { slot = s; changed = is_changed }) n.slots
    → hides ≡ (not (is_committed s.version) && has_committed s.name n.slots) → full ≡ cond hides None n.full
    → (let m : Node = record { db = n.db; number = n.number; level = n.level; full = full; slots = ms } in m) ≡ with_slot s n
with_slot_is n s is_changed hides full ms changed_is ms_are hides_is full_is =
    let made : Option ℕ → List Marked → Node = λ f ks. record { db = n.db; number = n.number; level = n.level; full = f; slots = ks } in
    let set : Bool → List Marked = λ b. put (record { slot = s; changed = b }) n.slots in
    ap₂ made (full_is ∙ ap (λ (b : Bool). cond b None n.full) hides_is) (ms_are ∙ ap set changed_is)
